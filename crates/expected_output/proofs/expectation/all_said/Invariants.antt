use Rattle.std.proofs.Common.{map, string_bytes, take}
use Rattle.expected_output.specs.Expecting.{AreSaid}
use Rattle.expected_output.specs.Saying.{said_end, said_output}
use Rattle.expected_output.proofs.expectation.all_said.Given as goal

abbrev pub invariant-loop-comment : goal.invariant-loop-comment
invariant-loop-comment l = AreSaid (take l.comment-index (map string_bytes l.comments)) (said_output l.output) (said_end l.end)
