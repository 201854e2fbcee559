use Rattle.std.proofs.Common.{◌≡◌, ◌∙◌, None, Option, Some, true, false, ap, refl, subst, sym}
use Rattle.std.specs.Prelude.{slice_index_or}
use Rattle.std.specs.Option.{is_some}
use Rattle.turn_rule.specs.declared.Row.{Row}
use Rattle.awake_rows.specs.declared.goroutine.Goroutine.TheVariants.{Awake}
use Rattle.awake_rows.specs.Slots.{FitsRow, State, free_clock, is_asking}
use Rattle.awake_rows.specs.Living.{living_in, row_in}
use Rattle.awake_rows.proofs.Kept.{row_none}
use Rattle.awake_rows.proofs.Changed.{kept_set, row_given, talks_ok, worked_at, works_err, works_ok, works_rest}
use Rattle.awake_rows.proofs.goroutines.Goroutines.talk.Goals as goal

pub unreachable-requires : goal.unreachable-requires
unreachable-requires c =
    let g = c.self.inside in
    let none : slice_index_or c.args.self.now.rows c.args.number None ≡ None = rw (← c.self.view_is) (row_none g.count g.slots g.items.items g.orders c.self.invariant c.args.number (sym c.slot.ensures ∙ c.in_default.is)) in
    let no : false ≡ true = ap (λ (o : Option (Row State)). is_some (free_clock o)) (sym none) ∙ c.requires.free in
    absurd (cc)

pub talk_row-talked-requires-clause-fits : goal.talk_row-talked-requires-clause-fits
talk_row-talked-requires-clause-fits c =
    let g = c.self.inside in
    let is : slice_index_or (living_in g.count g.slots g.items.items).rows c.args.number None ≡ row_in c.as_mut_slice.result.now c.in-Some.slot = row_given g.count g.slots g.items.items g.orders c.self.invariant c.args.number c.in-Some.slot (sym c.slot.ensures ∙ c.in-Some.is) c.as_mut_slice.result.now c.as_mut_slice.ensures.value in
    subst (λ (o : Option (Row State)). FitsRow c.args.code.now c.args.limit o) is (rw (← c.self.view_is) at (c.requires.fits c.args.number))

pub talk_row-talked-requires-clause-free : goal.talk_row-talked-requires-clause-free
talk_row-talked-requires-clause-free c =
    let g = c.self.inside in
    let is : slice_index_or (living_in g.count g.slots g.items.items).rows c.args.number None ≡ row_in c.as_mut_slice.result.now c.in-Some.slot = row_given g.count g.slots g.items.items g.orders c.self.invariant c.args.number c.in-Some.slot (sym c.slot.ensures ∙ c.in-Some.is) c.as_mut_slice.result.now c.as_mut_slice.ensures.value in
    subst (λ (o : Option (Row State)). is_some (free_clock o) ≡ true) is (rw (← c.self.view_is) at c.requires.free)

pub invariant_of-self : goal.invariant_of-self
invariant_of-self c =
    let g = c.self.inside in
    let row = worked_at is_asking c.args.code.now c.args.limit c.args.quantum c.as_mut_slice.result.now c.talk_row-talked.new.items c.in-Some.slot c.talk_row-talked.result c.talk_row-talked.ensures.ok c.talk_row-talked.ensures.memory in
    kept_set g.count g.slots g.items.items g.orders c.self.invariant c.args.number c.in-Some.slot (sym c.slot.ensures ∙ c.in-Some.is) c.as_mut_slice.result.now c.as_mut_slice.ensures.value
    g.items.len g.items.ok.0 (Some (Awake row.0)) c.talk_row-talked.new.items row.1 c.deref.result.now c.note.new.orders c.deref.ensures.value c.note.ensures.same c.note.ensures.other c.note.ensures.floor (λ h. refl)

pub returns-clause-ok : goal.returns-clause-ok
returns-clause-ok c =
    let g = c.self.inside in
    rw (← c.self.view_is) (works_ok g.count g.slots g.items.items g.orders c.self.invariant c.args.number c.in-Some.slot (sym c.slot.ensures ∙ c.in-Some.is) c.as_mut_slice.result.now c.as_mut_slice.ensures.value g.items.len g.items.ok.0 c.talk_row-talked.new.items is_asking c.args.code.now c.args.limit c.args.quantum c.talk_row-talked.result c.talk_row-talked.ensures.ok)

pub returns-clause-talk : goal.returns-clause-talk
returns-clause-talk c =
    let g = c.self.inside in
    talks_ok g.count g.slots g.items.items g.orders c.self.invariant c.args.number c.in-Some.slot (sym c.slot.ensures ∙ c.in-Some.is) c.as_mut_slice.result.now c.as_mut_slice.ensures.value g.items.len g.items.ok.0 c.talk_row-talked.new.items c.args.code.now c.args.limit c.args.quantum c.talk_row-talked.result c.talk_row-talked.ensures.ok c.talk_row-talked.ensures.talk

pub returns-clause-memory : goal.returns-clause-memory
returns-clause-memory c =
    let g = c.self.inside in
    rw (← c.self.view_is) (works_err g.count g.slots g.items.items g.orders c.self.invariant c.args.number c.in-Some.slot (sym c.slot.ensures ∙ c.in-Some.is) c.as_mut_slice.result.now c.as_mut_slice.ensures.value g.items.len g.items.ok.0 c.talk_row-talked.new.items c.args.code.now c.args.limit c.args.quantum c.talk_row-talked.result c.talk_row-talked.ensures.memory)

pub returns-clause-rest : goal.returns-clause-rest
returns-clause-rest c =
    let g = c.self.inside in
    rw (← c.self.view_is) (works_rest g.count g.slots g.items.items g.orders c.self.invariant c.args.number c.in-Some.slot (sym c.slot.ensures ∙ c.in-Some.is) c.as_mut_slice.result.now c.as_mut_slice.ensures.value g.items.len g.items.ok.0 c.talk_row-talked.new.items is_asking c.args.code.now c.args.limit c.args.quantum c.talk_row-talked.result c.talk_row-talked.ensures.ok c.talk_row-talked.ensures.memory)
