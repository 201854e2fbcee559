use Rattle.std.proofs.Common.{rules}
use Rattle.expected_output.proofs.Grouping.{all_of, group_more}
use Rattle.expected_output.proofs.comments.append_all.Goals as goal

pub loop-comment-preserved : goal.loop-comment-preserved
loop-comment-preserved c = group_more c.args.comments.now c.loop-comment.comment-index _ _ _ _ c.loop-comment-test.true c.loop-comment.invariant c.in_ok-append.ensures

pub returns : goal.returns
returns c = all_of c.args.comments.now c.loop-comment.comment-index _ _ (search rules) c.loop-comment.invariant
