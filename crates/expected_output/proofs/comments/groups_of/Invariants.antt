use Rattle.std.proofs.Common.{◌++◌, ◌-◌, ◌≤◌, List, ℕ, drop, length, map, string_bytes}
use Rattle.expected_output.specs.Comments.{AreGroups, said_in}
use Rattle.expected_output.proofs.comments.groups_of.Given as goal

abbrev pub invariant-loop-at : goal.invariant-loop-at
invariant-loop-at l =
    (l.at ≤ length l.comments)
    × ((later : List (List ℕ)) → AreGroups l.follows (drop l.at (said_in l.comments)) later
    → AreGroups l.follows_token (said_in l.comments) (map string_bytes l.groups.items ++ later))

abbrev pub decreases-loop-at : goal.decreases-loop-at
decreases-loop-at l = length l.comments - l.at
