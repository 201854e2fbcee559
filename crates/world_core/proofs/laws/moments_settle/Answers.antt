use Rattle.std.proofs.Common.{length, ap, arith}
use Rattle.word.specs.Related.{kind_of}
use Rattle.word.specs.Worlds.{opening, rules}
use Rattle.word.proofs.Laws.{laws}
use Rattle.word.proofs.Records.{one_moment, records}
use Rattle.world_core.proofs.Moments.{after_counts, after_settles}
use Rattle.world_core.proofs.laws.moments_settle.Goals as goal

pub returns-clause-after : goal.returns-clause-after
returns-clause-after g c = λ K limit k v after.
    let r = rules (kind_of K) limit in
    let settled = after_settles r (laws (kind_of K) limit) k (opening (kind_of K)) v after in
    let count = after_counts r (laws (kind_of K) limit) (λ w. w.shared.events) (records (kind_of K) limit) k (opening (kind_of K)) v after in
    let same = ap (λ w. length w.shared.events) settled.1.shared in
    (settled.0, omega (arith, same, count), settled.1)

pub returns-clause-same : goal.returns-clause-same
returns-clause-same g c = λ K limit n m same. one_moment (kind_of K) limit n m same
