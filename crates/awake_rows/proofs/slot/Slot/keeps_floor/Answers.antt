use Rattle.awake_rows.proofs.Kept.{slot_keeps}
use Rattle.awake_rows.proofs.slot.Slot.keeps_floor.Goals as goal

pub returns : goal.returns
returns c = rw (← c.self.view_is) (slot_keeps c.self.inside.held c.self.inside.floor c.self.inside.parked c.self.invariant)
