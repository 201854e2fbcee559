use Rattle.std.proofs.Common.{◌≡◌, ℕ, ◌<◌, not, nat_lt, get_or, true}
use Rattle.expected_output.specs.Comments.{lines_before}
use Rattle.expected_output.specs.declared.comments.Comment.{Comment}
use Rattle.expected_output.proofs.comments.group_size.Given as goal

abbrev pub invariant-loop-comment : goal.invariant-loop-comment
invariant-loop-comment l =
    (l.size ≡ l.comment-index) × ((k : ℕ) (d : Comment) → k < l.size → not (nat_lt l.most (lines_before ((get_or l.comments k d).before.now, (get_or l.comments k d).body.now))) ≡ true)
