use Rattle.std.proofs.Common.{rules}
use Rattle.std.proofs.lemmas.Result.{on_ok_weaker}
use Rattle.reference_step.proofs.block.block.Goals as goal

pub returns : goal.returns
returns c = λ types. on_ok_weaker c.push_all.result (λ put. search (rules, put)) (c.push_all.ensures types)
