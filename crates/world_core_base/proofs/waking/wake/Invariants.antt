use Rattle.std.proofs.Common.{◌≤◌, drop, length, vec_capacity, vec_len}
use Rattle.world_core_base.proofs.Roused.{Waking}
use Rattle.world_core_base.proofs.waking.wake.Given as goal

abbrev pub invariant-loop-one : goal.invariant-loop-one
invariant-loop-one l = Waking l.code l.clock l.goroutines.rows l.fn.goroutines.rows l.goroutines.beds l.fn.goroutines.beds (drop l.one-index l.woken) l.woken l.partners.items l.fn.partners.items (vec_len l.partners) (vec_capacity l.partners) × (length (drop l.one-index l.woken) ≤ length l.rooms.items)
