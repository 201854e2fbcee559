use Rattle.std.proofs.Common.{◌≡◌, ◌∙◌, None, Option, Some, true, false, ap, refl, subst, sym}
use Rattle.std.specs.Prelude.{slice_index_or}
use Rattle.std.specs.Option.{is_some}
use Rattle.turn_rule.specs.declared.Row.{Row}
use Rattle.awake_rows.specs.declared.goroutine.Goroutine.TheVariants.{Awake}
use Rattle.awake_rows.specs.Slots.{FitsRow, State, free_clock}
use Rattle.awake_rows.specs.Living.{living_in, row_in}
use Rattle.awake_rows.proofs.Kept.{row_none}
use Rattle.awake_rows.proofs.Changed.{kept_set, row_given, worked_at, works_err, works_ok, works_rest}
use Rattle.awake_rows.proofs.goroutines.Goroutines.work.Goals as goal

pub unreachable-requires : goal.unreachable-requires
unreachable-requires c =
    let g = c.self.inside in
    let none : slice_index_or c.args.self.now.rows c.args.number None ≡ None = rw (← c.self.view_is) (row_none g.count g.slots g.items.items g.orders c.self.invariant c.args.number (sym c.slot.ensures ∙ c.in_default.is)) in
    let no : false ≡ true = ap (λ (o : Option (Row State)). is_some (free_clock o)) (sym none) ∙ c.requires.free in
    absurd (cc)

pub work_row-worked-requires-clause-fits : goal.work_row-worked-requires-clause-fits
work_row-worked-requires-clause-fits c =
    let g = c.self.inside in
    let is : slice_index_or (living_in g.count g.slots g.items.items).rows c.args.number None ≡ row_in c.as_mut_slice.result.now c.in-Some.slot = row_given g.count g.slots g.items.items g.orders c.self.invariant c.args.number c.in-Some.slot (sym c.slot.ensures ∙ c.in-Some.is) c.as_mut_slice.result.now c.as_mut_slice.ensures.value in
    subst (λ (o : Option (Row State)). FitsRow c.args.code.now c.args.limit o) is (rw (← c.self.view_is) at (c.requires.fits c.args.number))

pub work_row-worked-requires-clause-free : goal.work_row-worked-requires-clause-free
work_row-worked-requires-clause-free c =
    let g = c.self.inside in
    let is : slice_index_or (living_in g.count g.slots g.items.items).rows c.args.number None ≡ row_in c.as_mut_slice.result.now c.in-Some.slot = row_given g.count g.slots g.items.items g.orders c.self.invariant c.args.number c.in-Some.slot (sym c.slot.ensures ∙ c.in-Some.is) c.as_mut_slice.result.now c.as_mut_slice.ensures.value in
    subst (λ (o : Option (Row State)). is_some (free_clock o) ≡ true) is (rw (← c.self.view_is) at c.requires.free)

pub invariant_of-self : goal.invariant_of-self
invariant_of-self c =
    let g = c.self.inside in
    let row = worked_at (λ asking. asking) c.args.code.now c.args.limit c.args.quantum c.as_mut_slice.result.now c.work_row-worked.new.items c.in-Some.slot c.work_row-worked.result c.work_row-worked.ensures.ok c.work_row-worked.ensures.memory in
    kept_set g.count g.slots g.items.items g.orders c.self.invariant c.args.number c.in-Some.slot (sym c.slot.ensures ∙ c.in-Some.is) c.as_mut_slice.result.now c.as_mut_slice.ensures.value
    g.items.len g.items.ok.0 (Some (Awake row.0)) c.work_row-worked.new.items row.1 c.deref.result.now c.note.new.orders c.deref.ensures.value c.note.ensures.same c.note.ensures.other c.note.ensures.floor (λ h. refl)

pub returns-clause-ok : goal.returns-clause-ok
returns-clause-ok c =
    let g = c.self.inside in
    rw (← c.self.view_is) (works_ok g.count g.slots g.items.items g.orders c.self.invariant c.args.number c.in-Some.slot (sym c.slot.ensures ∙ c.in-Some.is) c.as_mut_slice.result.now c.as_mut_slice.ensures.value g.items.len g.items.ok.0 c.work_row-worked.new.items (λ asking. asking) c.args.code.now c.args.limit c.args.quantum c.work_row-worked.result c.work_row-worked.ensures.ok)

pub returns-clause-memory : goal.returns-clause-memory
returns-clause-memory c =
    let g = c.self.inside in
    rw (← c.self.view_is) (works_err g.count g.slots g.items.items g.orders c.self.invariant c.args.number c.in-Some.slot (sym c.slot.ensures ∙ c.in-Some.is) c.as_mut_slice.result.now c.as_mut_slice.ensures.value g.items.len g.items.ok.0 c.work_row-worked.new.items c.args.code.now c.args.limit c.args.quantum c.work_row-worked.result c.work_row-worked.ensures.memory)

pub returns-clause-rest : goal.returns-clause-rest
returns-clause-rest c =
    let g = c.self.inside in
    rw (← c.self.view_is) (works_rest g.count g.slots g.items.items g.orders c.self.invariant c.args.number c.in-Some.slot (sym c.slot.ensures ∙ c.in-Some.is) c.as_mut_slice.result.now c.as_mut_slice.ensures.value g.items.len g.items.ok.0 c.work_row-worked.new.items (λ asking. asking) c.args.code.now c.args.limit c.args.quantum c.work_row-worked.result c.work_row-worked.ensures.ok c.work_row-worked.ensures.memory)
