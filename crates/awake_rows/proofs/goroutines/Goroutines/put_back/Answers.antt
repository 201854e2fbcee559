use Rattle.std.proofs.Common.{◌≡◌, ◌∙◌, None, Some, ap, refl, sym}
use Rattle.std.specs.Prelude.{IsSome, slice_index_or}
use Rattle.turn_rule.specs.declared.Row.{Row}
use Rattle.awake_rows.specs.declared.goroutine.Goroutine.TheVariants.{Awake}
use Rattle.awake_rows.specs.Slots.{State, back_row}
use Rattle.awake_rows.specs.Living.{living_in}
use Rattle.awake_rows.proofs.Kept.{row_none}
use Rattle.awake_rows.proofs.Changed.{bed_of_awake, kept_set, row_put, some_not_none}
use Rattle.awake_rows.proofs.goroutines.Goroutines.put_back.Goals as goal

pub unreachable-requires : goal.unreachable-requires
unreachable-requires c =
    let g = c.self.inside in
    let none : slice_index_or c.args.self.now.rows c.args.number None ≡ None = rw (← c.self.view_is) (row_none g.count g.slots g.items.items g.orders c.self.invariant c.args.number (sym c.slot.ensures ∙ c.in_default.is)) in
    some_not_none (slice_index_or c.args.self.now.rows c.args.number None) c.requires none

pub invariant_of-self : goal.invariant_of-self
invariant_of-self c =
    let g = c.self.inside in
    kept_set g.count g.slots g.items.items g.orders c.self.invariant c.args.number c.in-Some.slot (sym c.slot.ensures ∙ c.in-Some.is) c.as_mut_slice.result.now c.as_mut_slice.ensures.value
    g.items.len g.items.ok.0 _ c.put_at.new.items c.put_at.ensures c.deref.result.now c.note.new.orders c.deref.ensures.value c.note.ensures.same c.note.ensures.other c.note.ensures.floor (λ h. refl)

pub returns : goal.returns
returns c =
    let g = c.self.inside in
    let awake : IsSome (slice_index_or (living_in g.count g.slots g.items.items).rows c.args.number None) = rw (← c.self.view_is) at c.requires in
    rw (← c.self.view_is) (row_put g.count g.slots g.items.items g.orders c.self.invariant c.args.number c.in-Some.slot (sym c.slot.ensures ∙ c.in-Some.is) c.as_mut_slice.result.now c.as_mut_slice.ensures.value
    g.items.len g.items.ok.0 _ c.put_at.new.items c.put_at.ensures (back_row c.args.state c.args.parked) (ap (λ (row : Row State). Some (Awake row)) c.back.ensures) (bed_of_awake g.count g.slots g.items.items g.orders c.self.invariant c.args.number c.in-Some.slot (sym c.slot.ensures ∙ c.in-Some.is) c.as_mut_slice.result.now c.as_mut_slice.ensures.value awake))
