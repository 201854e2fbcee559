use Rattle.std.proofs.Common.{rules}
use Rattle.std.proofs.lemmas.Result.{on_ok_weaker}
use Rattle.reference_step.proofs.loops.clauses.Goals as goal

pub returns-in-Some : goal.returns-in-Some
returns-in-Some c = λ types. on_ok_weaker c.simply.result (λ put. search (rules, put)) (c.simply.ensures types)
