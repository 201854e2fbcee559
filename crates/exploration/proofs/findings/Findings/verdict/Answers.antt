use Rattle.std.proofs.Common.{rules}
use Rattle.exploration.proofs.findings.Findings.verdict.Goals as goal

pub returns-in-Some-clause-same : goal.returns-in-Some-clause-same
returns-in-Some-clause-same c = λ is. (search rules, c.is_bare.ensures (search rules), (c.in-Some.ran, c.in-Some.is, c.same_verdict.ensures.same is))
