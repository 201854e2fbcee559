use Rattle.key_index.proofs.Ranks.{rank_order}
use Rattle.key_index.proofs.heap.is_before.Goals as goal

pub returns : goal.returns
returns c = rw (c.rank.ensures.rank, c.rank-2.ensures.rank) (rank_order c.args.a.now c.args.b.now c.rank.ensures.number c.rank-2.ensures.number)
