use Rattle.std.proofs.Common.{◌∙◌, Some, ap, sym}
use Rattle.bytecode.specs.Machine.{code_kind}
use Rattle.word.specs.Kinds.{told}
use Rattle.word.specs.Views.{reply_of}
use Rattle.awake_rows.specs.Slots.{State, free_row}
use Rattle.awake_rows.proofs.Changed.{gets_up}
use Rattle.awake_rows.proofs.rows.wake_at.Goals as goal

pub returns : goal.returns
returns c =
    let tells : State → State = λ s. told (code_kind c.args.code.now) s c.args.clock (reply_of c.args.reply.now) in
    gets_up tells c.args.items.now c.take_at.new.items c.put_at.new.items c.args.slot c.in-Some-Asleep.sleeping c.free.result c.take_at.ensures.items c.put_at.ensures
    (ap Some (sym c.in-Some-Asleep.field-0-is) ∙ sym c.in-Some-Asleep.is ∙ c.take_at.ensures.item) (c.free.ensures ∙ ap free_row (c.tell.ensures.told ∙ ap tells c.get_up-state.ensures))
