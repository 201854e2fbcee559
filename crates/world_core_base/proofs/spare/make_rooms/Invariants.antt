use Rattle.std.proofs.Common.{◌-◌, vec_len}
use Rattle.world_core_base.proofs.spare.make_rooms.Given as goal

abbrev pub decreases-loop-alloc : goal.decreases-loop-alloc
decreases-loop-alloc l = l.count - vec_len l.rooms
