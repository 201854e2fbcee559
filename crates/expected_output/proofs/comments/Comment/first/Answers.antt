use Rattle.expected_output.proofs.Commenting.{is_first, no_slash, other_comment}
use Rattle.expected_output.proofs.comments.Comment.first.Goals as goal

pub returns-in_default : goal.returns-in_default
returns-in_default c = no_slash c.args.gap.now c.in_default.ensures.cases

pub returns-in-Some-comment_after_slash : goal.returns-in-Some-comment_after_slash
returns-in-Some-comment_after_slash c = is_first c.args.gap.now _ c.in-Some.text.now _ _ c.in-Some.ensures.cases c.in-Some-comment_after_slash.ensures

pub returns-in-None : goal.returns-in-None
returns-in-None c = other_comment c.args.gap.now _ c.in-Some.text.now c.in-Some.ensures.cases c.in-None.ensures
