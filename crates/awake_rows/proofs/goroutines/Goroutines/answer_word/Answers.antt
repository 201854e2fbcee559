use Rattle.std.proofs.Common.{◌≡◌, ◌∙◌, None, Option, refl, subst, sym}
use Rattle.std.specs.Prelude.{IfSome, slice_index_or}
use Rattle.bytecode.specs.Machine.{code_kind}
use Rattle.bytecode.specs.Rules.{IsFrameOf}
use Rattle.turn_rule.specs.declared.Row.{Row}
use Rattle.word.specs.Kinds.{told}
use Rattle.awake_rows.specs.Slots.{IsUnlent, State, free_row, word_reply}
use Rattle.awake_rows.specs.Living.{living_in, row_in}
use Rattle.awake_rows.proofs.Changed.{kept_set, none_changes, row_given, row_set, some_with}
use Rattle.awake_rows.proofs.goroutines.Goroutines.answer_word.Goals as goal

pub returns-in_default : goal.returns-in_default
returns-in_default c =
    let g = c.self.inside in
    rw (← c.self.view_is) (none_changes g.count g.slots g.items.items g.orders c.self.invariant c.args.number (λ (row : Row State). free_row (told (code_kind c.args.code.now) row.state c.args.clock (word_reply c.args.reply))) (sym c.slot.ensures ∙ c.in_default.is))

pub answer_word_row-requires-clause-frame : goal.answer_word_row-requires-clause-frame
answer_word_row-requires-clause-frame c =
    let g = c.self.inside in
    let is : slice_index_or (living_in g.count g.slots g.items.items).rows c.args.number None ≡ row_in c.as_mut_slice.result.now c.in-Some.slot =
    row_given g.count g.slots g.items.items g.orders c.self.invariant c.args.number c.in-Some.slot (sym c.slot.ensures ∙ c.in-Some.is) c.as_mut_slice.result.now c.as_mut_slice.ensures.value in
    subst (λ (o : Option (Row State)). IfSome o (λ row. IsFrameOf c.args.code.now row.state.state)) is (rw (← c.self.view_is) at c.requires.frame)

pub answer_word_row-requires-clause-unlent : goal.answer_word_row-requires-clause-unlent
answer_word_row-requires-clause-unlent c =
    let g = c.self.inside in
    let is : slice_index_or (living_in g.count g.slots g.items.items).rows c.args.number None ≡ row_in c.as_mut_slice.result.now c.in-Some.slot =
    row_given g.count g.slots g.items.items g.orders c.self.invariant c.args.number c.in-Some.slot (sym c.slot.ensures ∙ c.in-Some.is) c.as_mut_slice.result.now c.as_mut_slice.ensures.value in
    subst (λ (o : Option (Row State)). IsUnlent o) is (rw (← c.self.view_is) at c.requires.unlent)

pub invariant_of-self : goal.invariant_of-self
invariant_of-self c =
    let g = c.self.inside in
    kept_set g.count g.slots g.items.items g.orders c.self.invariant c.args.number c.in-Some.slot (sym c.slot.ensures ∙ c.in-Some.is) c.as_mut_slice.result.now c.as_mut_slice.ensures.value
    g.items.len g.items.ok.0 _ c.answer_word_row.new.items c.answer_word_row.ensures c.deref.result.now c.note.new.orders c.deref.ensures.value c.note.ensures.same c.note.ensures.other c.note.ensures.floor (some_with _ _)

pub returns : goal.returns
returns c =
    let g = c.self.inside in
    rw (← c.self.view_is) (row_set g.count g.slots g.items.items g.orders c.self.invariant c.args.number c.in-Some.slot (sym c.slot.ensures ∙ c.in-Some.is) c.as_mut_slice.result.now c.as_mut_slice.ensures.value
    g.items.len g.items.ok.0 _ c.answer_word_row.new.items c.answer_word_row.ensures (λ (row : Row State). free_row (told (code_kind c.args.code.now) row.state c.args.clock (word_reply c.args.reply))) refl)
