use Rattle.std.proofs.Common.{◌≡◌, ◌∙◌, None, Option, refl, subst, sym}
use Rattle.std.specs.Prelude.{IfSome, IsSome, slice_index_or}
use Rattle.goroutine_vm.specs.Advance.{IsQuiet}
use Rattle.turn_rule.specs.declared.Row.{Row}
use Rattle.awake_rows.specs.Slots.{IsUnlent, State}
use Rattle.awake_rows.specs.Living.{living_in, row_in}
use Rattle.awake_rows.proofs.Kept.{row_none}
use Rattle.awake_rows.proofs.Changed.{down_set, kept_set, row_given, some_down, some_not_none}
use Rattle.awake_rows.proofs.goroutines.Goroutines.doze.Goals as goal

pub unreachable-requires : goal.unreachable-requires
unreachable-requires c =
    let g = c.self.inside in
    let none : slice_index_or c.args.self.now.rows c.args.number None ≡ None = rw (← c.self.view_is) (row_none g.count g.slots g.items.items g.orders c.self.invariant c.args.number (sym c.slot.ensures ∙ c.in_default.is)) in
    some_not_none (slice_index_or c.args.self.now.rows c.args.number None) c.requires.awake none

pub doze_at-room-requires-clause-awake : goal.doze_at-room-requires-clause-awake
doze_at-room-requires-clause-awake c =
    let g = c.self.inside in
    let is : slice_index_or (living_in g.count g.slots g.items.items).rows c.args.number None ≡ row_in c.as_mut_slice.result.now c.in-Some.slot = row_given g.count g.slots g.items.items g.orders c.self.invariant c.args.number c.in-Some.slot (sym c.slot.ensures ∙ c.in-Some.is) c.as_mut_slice.result.now c.as_mut_slice.ensures.value in
    subst (λ (o : Option (Row State)). IsSome o) is (rw (← c.self.view_is) at c.requires.awake)

pub doze_at-room-requires-clause-unlent : goal.doze_at-room-requires-clause-unlent
doze_at-room-requires-clause-unlent c =
    let g = c.self.inside in
    let is : slice_index_or (living_in g.count g.slots g.items.items).rows c.args.number None ≡ row_in c.as_mut_slice.result.now c.in-Some.slot = row_given g.count g.slots g.items.items g.orders c.self.invariant c.args.number c.in-Some.slot (sym c.slot.ensures ∙ c.in-Some.is) c.as_mut_slice.result.now c.as_mut_slice.ensures.value in
    subst (λ (o : Option (Row State)). IsUnlent o) is (rw (← c.self.view_is) at c.requires.unlent)

pub doze_at-room-requires-clause-quiet : goal.doze_at-room-requires-clause-quiet
doze_at-room-requires-clause-quiet c =
    let g = c.self.inside in
    let is : slice_index_or (living_in g.count g.slots g.items.items).rows c.args.number None ≡ row_in c.as_mut_slice.result.now c.in-Some.slot = row_given g.count g.slots g.items.items g.orders c.self.invariant c.args.number c.in-Some.slot (sym c.slot.ensures ∙ c.in-Some.is) c.as_mut_slice.result.now c.as_mut_slice.ensures.value in
    subst (λ (o : Option (Row State)). IfSome o (λ row. IsQuiet row.state.state)) is (rw (← c.self.view_is) at c.requires.quiet)

pub invariant_of-self : goal.invariant_of-self
invariant_of-self c =
    let g = c.self.inside in
    kept_set g.count g.slots g.items.items g.orders c.self.invariant c.args.number c.in-Some.slot (sym c.slot.ensures ∙ c.in-Some.is) c.as_mut_slice.result.now c.as_mut_slice.ensures.value
    g.items.len g.items.ok.0 _ c.doze_at-room.new.items c.doze_at-room.ensures c.deref.result.now c.note.new.orders c.deref.ensures.value c.note.ensures.same c.note.ensures.other c.note.ensures.floor (some_down _)

pub returns : goal.returns
returns c =
    let g = c.self.inside in
    let is : slice_index_or (living_in g.count g.slots g.items.items).rows c.args.number None ≡ row_in c.as_mut_slice.result.now c.in-Some.slot = row_given g.count g.slots g.items.items g.orders c.self.invariant c.args.number c.in-Some.slot (sym c.slot.ensures ∙ c.in-Some.is) c.as_mut_slice.result.now c.as_mut_slice.ensures.value in
    let awake : IsSome (row_in c.as_mut_slice.result.now c.in-Some.slot) = subst (λ (o : Option (Row State)). IsSome o) is (rw (← c.self.view_is) at c.requires.awake) in
    rw (← c.self.view_is) (down_set g.count g.slots g.items.items g.orders c.self.invariant c.args.number c.in-Some.slot (sym c.slot.ensures ∙ c.in-Some.is) c.as_mut_slice.result.now c.as_mut_slice.ensures.value
    g.items.len g.items.ok.0 _ c.doze_at-room.new.items c.doze_at-room.ensures awake refl)
