use Rattle.std.proofs.Common.{rules}
use Rattle.std.proofs.lemmas.Result.{on_ok_weaker}
use Rattle.reference_task.proofs.task.Position.push_one.Goals as goal

pub returns : goal.returns
returns c = λ types. on_ok_weaker c.push.result (λ put. search (rules, put)) (c.push.ensures types)
