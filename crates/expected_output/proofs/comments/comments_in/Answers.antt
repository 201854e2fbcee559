use Rattle.std.proofs.Common.{rules}
use Rattle.expected_output.proofs.Commenting.{no_more, one_more, shorter}
use Rattle.expected_output.proofs.comments.comments_in.Goals as goal

pub loop-comment-smaller : goal.loop-comment-smaller
loop-comment-smaller c = shorter c.loop-comment.rest.now c.in-Some.comment.before.now c.in-Some.comment.body.now c.in-Some.comment.rest.now c.in-Some.ensures

pub loop-comment-preserved : goal.loop-comment-preserved
loop-comment-preserved c =
    (search rules, λ more has. one_more c.args.gap.now c.loop-comment.rest.now c.in-Some.comment.rest.now _ _ c.in-Some.comment more c.in_ok-push.ensures.items c.in-Some.ensures c.loop-comment.invariant.1 has)

pub returns : goal.returns
returns c = no_more c.args.gap.now c.loop-comment.rest.now _ c.loop-comment.invariant.1 c.in_default.ensures
