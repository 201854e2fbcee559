use Rattle.std.proofs.Common.{◌≡◌, ◌++◌, take, string_bytes}
use Rattle.expected_output.specs.Comments.{group_text, said_in}
use Rattle.expected_output.proofs.comments.append_all.Given as goal

abbrev pub invariant-loop-comment : goal.invariant-loop-comment
invariant-loop-comment l = string_bytes l.group ≡ string_bytes l.initial.group ++ group_text (take l.comment-index (said_in l.comments))
