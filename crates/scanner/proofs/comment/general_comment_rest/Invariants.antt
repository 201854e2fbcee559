use Rattle.std.proofs.Common.{◌≡◌, drop}
use Rattle.scanner.specs.Elements.{longer, general_comment_rest}
use Rattle.scanner.proofs.comment.general_comment_rest.Given as goal

abbrev pub invariant-loop-at : goal.invariant-loop-at
invariant-loop-at l = longer l.at (general_comment_rest l.opened (drop l.at l.text)) ≡ general_comment_rest l.fn.opened l.fn.text
