use Rattle.std.proofs.Common.{rules}
use Rattle.expected_output.proofs.Commenting.{general_comment, line_comment, no_comment}
use Rattle.expected_output.proofs.comments.comment_after_slash.Goals as goal

pub returns-in-Some : goal.returns-in-Some
returns-in-Some c = line_comment c.args.text.now c.in-Some.line.now _ _ c.in-Some.ensures.cases c.line_comment.ensures.body c.line_comment.ensures.rest

pub returns-in-Some-strip_prefix : goal.returns-in-Some-strip_prefix
returns-in-Some-strip_prefix c =
    general_comment c.args.text.now c.in-Some-strip_prefix.inner.now c.split_once.result c.in_default.ensures.cases (search rules) c.split_once.ensures.cases

pub returns-in-None : goal.returns-in-None
returns-in-None c = λ body rest comment. no_comment c.args.text.now body rest c.in_default.ensures.cases c.in-None.ensures.cases comment
