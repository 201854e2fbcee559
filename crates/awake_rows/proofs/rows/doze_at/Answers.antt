use Rattle.std.proofs.Common.{◌∙◌, Some, ap, sym}
use Rattle.awake_rows.proofs.Changed.{lies_down}
use Rattle.awake_rows.proofs.rows.doze_at.Goals as goal

pub returns : goal.returns
returns c =
    lies_down c.args.items.now c.take_at.new.items c.put_at.new.items c.args.slot c.in-Some-Awake.row c.fall_asleep-sleeping.result.0 c.take_at.ensures.items c.put_at.ensures
    (ap Some (sym c.in-Some-Awake.field-0-is) ∙ sym c.in-Some-Awake.is ∙ c.take_at.ensures.item) (c.fall_asleep-sleeping.ensures ∙ c.into_state.ensures)
