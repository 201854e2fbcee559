use Rattle.std.proofs.Common.{ℕ, ◌<◌, length, ◌∙◌, Some, ap, refl, subst, sym}
use Rattle.turn_rule.specs.declared.Row.{Row}
use Rattle.awake_rows.specs.declared.goroutine.Goroutine.TheVariants.{Awake}
use Rattle.awake_rows.specs.Slots.{State, free_row}
use Rattle.awake_rows.proofs.Changed.{kept_start, start_set}
use Rattle.awake_rows.proofs.goroutines.Goroutines.start.Goals as goal

pub invariant_of-self-2 : goal.invariant_of-self-2
invariant_of-self-2 c =
    let g = c.self.inside in
    let within : c.in_ok-slot.slot < length c.make_room.new.items.items = subst (λ (s : ℕ). s < length c.make_room.new.items.items) (c.next.ensures ∙ sym c.in_ok-slot.ensures.next) c.in_ok-make_room.ensures.slot in
    kept_start g.count g.slots g.items.items g.orders c.self.invariant c.make_room.new.orders c.make_room.new.items.items c.make_room.ensures.orders c.make_room.ensures.items c.make_room.ensures.room c.give.new.self c.is_inverse.ensures c.in_ok-slot.slot c.in_ok-slot.ensures.gives within c.as_mut_slice.result.now c.put_at.new.items c.as_mut_slice.ensures.value c.make_room.new.items.len c.make_room.new.items.ok.0 _ c.put_at.ensures
    c.deref.result.now c.note.new.orders c.deref.ensures.value c.note.ensures.same c.note.ensures.other c.note.ensures.floor refl

pub returns-clause-ok : goal.returns-clause-ok
returns-clause-ok c =
    let g = c.self.inside in
    let within : c.in_ok-slot.slot < length c.make_room.new.items.items = subst (λ (s : ℕ). s < length c.make_room.new.items.items) (c.next.ensures ∙ sym c.in_ok-slot.ensures.next) c.in_ok-make_room.ensures.slot in
    rw (← c.self.view_is) (start_set g.count g.slots g.items.items g.orders c.self.invariant c.make_room.new.orders c.make_room.new.items.items c.make_room.ensures.orders c.make_room.ensures.items c.make_room.ensures.room c.give.new.self c.is_inverse.ensures c.in_ok-slot.slot c.in_ok-slot.ensures.gives within c.as_mut_slice.result.now c.put_at.new.items c.as_mut_slice.ensures.value c.make_room.new.items.len c.make_room.new.items.ok.0 _ c.put_at.ensures (free_row c.args.state) (ap (λ (row : Row State). Some (Awake row)) c.free.ensures))
