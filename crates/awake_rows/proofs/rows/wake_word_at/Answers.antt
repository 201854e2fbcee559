use Rattle.std.proofs.Common.{◌∙◌, Some, ap, sym}
use Rattle.bytecode.specs.Machine.{code_kind}
use Rattle.word.specs.Kinds.{told}
use Rattle.awake_rows.specs.Slots.{State, free_row, word_reply}
use Rattle.awake_rows.proofs.Changed.{gets_up}
use Rattle.awake_rows.proofs.rows.wake_word_at.Goals as goal

pub returns : goal.returns
returns c =
    let tells : State → State = λ s. told (code_kind c.args.code.now) s c.args.clock (word_reply c.args.reply) in
    gets_up tells c.args.items.now c.take_at.new.items c.put_at.new.items c.args.slot c.in-Some-Asleep.sleeping c.free-awake.result c.take_at.ensures.items c.put_at.ensures
    (ap Some (sym c.in-Some-Asleep.field-0-is) ∙ sym c.in-Some-Asleep.is ∙ c.take_at.ensures.item) (c.free-awake.ensures ∙ ap free_row (c.tell.ensures ∙ ap tells c.get_up-state.ensures))
