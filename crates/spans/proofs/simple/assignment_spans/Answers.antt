use Rattle.std.proofs.Common.{append_assoc}
use Rattle.spans.proofs.simple.assignment_spans.Goals as goal

pub returns-clause-spans : goal.returns-clause-spans
returns-clause-spans c =
    let second = rw c.in_ok-count.ensures.count at c.in_ok-right_spans.ensures.spans in
    rw (second, c.in_ok-count.ensures.spans) (simp append_assoc)
