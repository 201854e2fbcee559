use Rattle.expected_output.proofs.SameLines.{moved_lines}
use Rattle.expected_output.proofs.lines.sorted_lines.Goals as goal

pub returns-clause-lines : goal.returns-clause-lines
returns-clause-lines c = moved_lines _ _ _ c.in_ok-lines.ensures c.sort.ensures.permutation
