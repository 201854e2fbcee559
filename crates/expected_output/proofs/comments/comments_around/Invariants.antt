use Rattle.std.proofs.Common.{◌++◌, List, ℕ, drop, map, string_bytes}
use Rattle.expected_output.specs.Comments.{AreComments}
use Rattle.expected_output.proofs.comments.comments_around.Given as goal

abbrev pub invariant-loop-token : goal.invariant-loop-token
invariant-loop-token l =
    (later : List (List ℕ)) → AreComments l.text l.end (drop l.token-index l.tokens) later → AreComments l.text 0 l.tokens (map string_bytes l.found.items ++ later)
