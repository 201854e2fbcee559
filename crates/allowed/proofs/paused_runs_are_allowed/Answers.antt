use Rattle.std.specs.Prelude.{IsTrue}
use Rattle.allowed.proofs.Paused.{paused_is_allowed}
use Rattle.allowed.proofs.Unpaused.{unpaused}
use Rattle.allowed.proofs.paused_runs_are_allowed.Goals as goal

pub returns-clause-ends : goal.returns-clause-ends
returns-clause-ends g c = λ K ps output ending h. unpaused K ps output ending h

pub returns-clause-runs : goal.returns-clause-runs
returns-clause-runs g c = λ K holds honest ps limit. paused_is_allowed K (λ s k. IsTrue (holds s k)) honest ps limit
