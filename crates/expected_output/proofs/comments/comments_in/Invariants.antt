use Rattle.std.proofs.Common.{◌++◌, ℕ, List, length}
use denote.Text.{Utf8}
use denote.Shadow.{shadow}
use Rattle.expected_output.specs.Comments.{HasComments, said_in}
use Rattle.expected_output.proofs.comments.comments_in.Given as goal

abbrev pub invariant-loop-comment : goal.invariant-loop-comment
invariant-loop-comment l =
    shadow (Utf8 l.rest) × ((more : List (List ℕ × List ℕ)) → HasComments l.rest more → HasComments l.gap (said_in l.found.items ++ more))

abbrev pub decreases-loop-comment : goal.decreases-loop-comment
decreases-loop-comment l = length l.rest
