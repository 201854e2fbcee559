use Rattle.std.proofs.Common.{rules}
use Rattle.expected_output.proofs.Grouping.{any, size_is, stops}
use Rattle.expected_output.proofs.comments.group_size.Goals as goal

pub returns-after-loop-comment-clause-value : goal.returns-after-loop-comment-clause-value
returns-after-loop-comment-clause-value c = size_is c.args.comments.now c.args.most c.loop-comment.size any (search rules) (search rules) (search rules)

pub returns-then-lines_before-most-clause-value : goal.returns-then-lines_before-most-clause-value
returns-then-lines_before-most-clause-value c =
    size_is c.args.comments.now c.args.most c.loop-comment.size any (search rules) (search rules)
    (λ lt. stops c.args.comments.now c.args.most c.loop-comment.size c.loop-comment.comment-index c.lines_before.result any _ (search rules) c.lines_before.ensures c.loop-comment-test.true (search rules))
