use Rattle.std.proofs.Common.{append_assoc}
use Rattle.spans.proofs.header.assign_spans.Goals as goal

pub returns-clause-spans : goal.returns-clause-spans
returns-clause-spans c =
    let second = rw c.in_ok-first.ensures.count at c.in_ok-second.ensures.spans in
    let third = rw (c.in_ok-first.ensures.count, c.in_ok-second.ensures.count) at c.in_ok-receive_spans.ensures.spans in
    rw (third, second, c.in_ok-first.ensures.spans) (simp append_assoc)
