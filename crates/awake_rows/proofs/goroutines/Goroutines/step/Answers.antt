use Rattle.std.proofs.Common.{◌≡◌, ◌∙◌, None, Option, refl, subst, sym}
use Rattle.std.specs.Prelude.{slice_index_or}
use Rattle.turn_rule.specs.declared.Row.{Row}
use Rattle.awake_rows.specs.Slots.{FitsRow, State, stepped_row}
use Rattle.awake_rows.specs.Living.{living_in, row_in}
use Rattle.awake_rows.proofs.Changed.{kept_set, none_changes, none_fits, row_given, row_set, some_with, step_fits}
use Rattle.awake_rows.proofs.goroutines.Goroutines.step.Goals as goal

pub returns-in_default-clause-ok : goal.returns-in_default-clause-ok
returns-in_default-clause-ok c =
    let g = c.self.inside in
    rw (← c.self.view_is) (none_changes g.count g.slots g.items.items g.orders c.self.invariant c.args.number (stepped_row c.args.code.now c.args.limit c.args.step) (sym c.slot.ensures ∙ c.in_default.is))

pub returns-in_default-clause-fits : goal.returns-in_default-clause-fits
returns-in_default-clause-fits c =
    let g = c.self.inside in
    rw (← c.self.view_is) (none_fits g.count g.slots g.items.items g.orders c.self.invariant c.args.number c.args.code.now c.args.limit (stepped_row c.args.code.now c.args.limit c.args.step) (sym c.slot.ensures ∙ c.in_default.is))

pub step_row-requires : goal.step_row-requires
step_row-requires c =
    let g = c.self.inside in
    let is : slice_index_or (living_in g.count g.slots g.items.items).rows c.args.number None ≡ row_in c.as_mut_slice.result.now c.in-Some.slot = row_given g.count g.slots g.items.items g.orders c.self.invariant c.args.number c.in-Some.slot (sym c.slot.ensures ∙ c.in-Some.is) c.as_mut_slice.result.now c.as_mut_slice.ensures.value in
    subst (λ (o : Option (Row State)). FitsRow c.args.code.now c.args.limit o) is (rw (← c.self.view_is) at c.requires c.args.number)

pub invariant_of-self-2 : goal.invariant_of-self-2
invariant_of-self-2 c =
    let g = c.self.inside in
    kept_set g.count g.slots g.items.items g.orders c.self.invariant c.args.number c.in-Some.slot (sym c.slot.ensures ∙ c.in-Some.is) c.as_mut_slice.result.now c.as_mut_slice.ensures.value
    g.items.len g.items.ok.0 _ c.step_row.new.items c.in_ok-step_row.ensures.ok c.deref.result.now c.note.new.orders c.deref.ensures.value c.note.ensures.same c.note.ensures.other c.note.ensures.floor (some_with _ _)

pub returns-clause-ok : goal.returns-clause-ok
returns-clause-ok c =
    let g = c.self.inside in
    rw (← c.self.view_is) (row_set g.count g.slots g.items.items g.orders c.self.invariant c.args.number c.in-Some.slot (sym c.slot.ensures ∙ c.in-Some.is) c.as_mut_slice.result.now c.as_mut_slice.ensures.value
    g.items.len g.items.ok.0 _ c.step_row.new.items c.in_ok-step_row.ensures.ok (stepped_row c.args.code.now c.args.limit c.args.step) refl)

pub returns-clause-fits : goal.returns-clause-fits
returns-clause-fits c =
    let g = c.self.inside in
    rw (← c.self.view_is) (step_fits g.count g.slots g.items.items g.orders c.self.invariant c.args.number c.in-Some.slot (sym c.slot.ensures ∙ c.in-Some.is) c.as_mut_slice.result.now c.as_mut_slice.ensures.value c.args.code.now c.args.limit (stepped_row c.args.code.now c.args.limit c.args.step) c.in_ok-step_row.ensures.fits)
