use Rattle.std.proofs.Common.{rules}
use Rattle.expected_output.proofs.Commenting.{whole_text}
use Rattle.expected_output.proofs.comments.append.Goals as goal

pub returns : goal.returns
returns c =
    whole_text c.args.comment.now _ _ c.in_ok-lines.lines.items c.deref-line-items.result.now c.loop-line.line-index c.in_ok-lines.ensures c.deref-line-items.ensures.value (search rules)
    c.loop-line.invariant
