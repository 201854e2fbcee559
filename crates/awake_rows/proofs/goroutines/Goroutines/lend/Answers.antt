use Rattle.std.proofs.Common.{◌∙◌, ap, refl, sym}
use Rattle.awake_rows.specs.Slots.{free_clock}
use Rattle.awake_rows.proofs.Kept.{row_none}
use Rattle.awake_rows.proofs.Changed.{kept_set, lent_at, lent_none, lent_some}
use Rattle.awake_rows.proofs.goroutines.Goroutines.lend.Goals as goal

pub returns-in_default-clause-none : goal.returns-in_default-clause-none
returns-in_default-clause-none c =
    let g = c.self.inside in
    (rw (← c.self.view_is) (ap free_clock (row_none g.count g.slots g.items.items g.orders c.self.invariant c.args.number (sym c.slot.ensures ∙ c.in_default.is))), refl)

pub invariant_of-self : goal.invariant_of-self
invariant_of-self c =
    let g = c.self.inside in
    let item = lent_at c.lend_row-state.result c.as_mut_slice.result.now c.lend_row-state.new.items c.in-Some.slot _ c.lend_row-state.ensures.none c.lend_row-state.ensures.some in
    kept_set g.count g.slots g.items.items g.orders c.self.invariant c.args.number c.in-Some.slot (sym c.slot.ensures ∙ c.in-Some.is) c.as_mut_slice.result.now c.as_mut_slice.ensures.value
    g.items.len g.items.ok.0 item.0 c.lend_row-state.new.items item.1 c.deref.result.now c.note.new.orders c.deref.ensures.value c.note.ensures.same c.note.ensures.other c.note.ensures.floor item.2

pub returns-clause-none : goal.returns-clause-none
returns-clause-none c =
    let g = c.self.inside in
    rw (← c.self.view_is) (lent_none g.count g.slots g.items.items g.orders c.self.invariant c.args.number c.in-Some.slot (sym c.slot.ensures ∙ c.in-Some.is) c.as_mut_slice.result.now c.as_mut_slice.ensures.value g.items.len g.items.ok.0 c.lend_row-state.new.items c.lend_row-state.result c.lend_row-state.ensures.none)

pub returns-clause-some : goal.returns-clause-some
returns-clause-some c =
    let g = c.self.inside in
    rw (← c.self.view_is) (lent_some g.count g.slots g.items.items g.orders c.self.invariant c.args.number c.in-Some.slot (sym c.slot.ensures ∙ c.in-Some.is) c.as_mut_slice.result.now c.as_mut_slice.ensures.value g.items.len g.items.ok.0 c.lend_row-state.new.items c.lend_row-state.result c.lend_row-state.ensures.some)
