use Rattle.std.proofs.Common.{rules, ◌∙◌, ap, string_bytes}
use Rattle.expected_output.specs.Expecting.{NothingSaid}
use Rattle.expected_output.specs.Saying.{said_end, said_output}
use Rattle.expected_output.proofs.Expecting.{or_mapped, said_all, said_next}
use Rattle.expected_output.proofs.expectation.all_said.Goals as goal

pub loop-comment-init : goal.loop-comment-init
loop-comment-init c = NothingSaid

pub loop-comment-preserved : goal.loop-comment-preserved
loop-comment-preserved c =
    said_next string_bytes c.args.comments.now c.loop-comment.comment-index _ _ _ _ _ _ _ _ c.loop-comment-test.true c.loop-comment.invariant
    (c.as_str.ensures.value ∙ ap string_bytes c.comment-item.is) c.by-said.ensures
    (ap said_output c.or-output.ensures ∙ or_mapped _ _ _) (ap said_end c.or-end.ensures ∙ or_mapped _ _ _)

pub returns : goal.returns
returns c = said_all string_bytes c.args.comments.now c.loop-comment.comment-index _ _ (search rules) c.loop-comment.invariant
