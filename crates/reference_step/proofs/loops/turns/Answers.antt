use Rattle.std.proofs.Common.{rules}
use Rattle.std.proofs.lemmas.Result.{on_ok_weaker}
use Rattle.reference_step.proofs.loops.turns.Goals as goal

pub returns : goal.returns
returns c = λ types.
    let copied = c.in_ok-copy.ensures types in
    on_ok_weaker c.push.result (λ put. search (rules, put, copied)) (c.push.ensures types)
