use Rattle.std.specs.Prelude.{IsTrue}
use Rattle.word.specs.Related.{kind_of}
use Rattle.allowed.proofs.Made.{names_made}
use Rattle.allowed.proofs.Ordinary.{ordinary_is_allowed}
use Rattle.allowed.proofs.ordinary_run_is_allowed.Goals as goal

pub returns : goal.returns
returns g c = λ K holds honest limit. ordinary_is_allowed (kind_of K) limit (names_made (kind_of K) (λ s k. IsTrue (holds s k)) honest limit)
