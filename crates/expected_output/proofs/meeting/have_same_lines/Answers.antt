use Rattle.expected_output.proofs.SameLines.{sorted_alike}
use Rattle.expected_output.proofs.SortedLines.{sorted_once}
use Rattle.expected_output.proofs.meeting.have_same_lines.Goals as goal

pub returns-clause-yes : goal.returns-clause-yes
returns-clause-yes c =
    λ yes. sorted_alike _ _ _ _ _ _ c.in_ok-one.ensures.lines c.in_ok-other.ensures.lines c.as_slice.ensures.value c.as_slice-2.ensures.value (c.are_same_lines.ensures.yes yes)

pub returns-clause-no : goal.returns-clause-no
returns-clause-no c =
    λ same. c.are_same_lines.ensures.no (sorted_once _ _ _ _ _ _ c.in_ok-one.ensures.lines c.in_ok-other.ensures.lines c.in_ok-one.ensures.sorted c.in_ok-other.ensures.sorted
    c.as_slice.ensures.value c.as_slice-2.ensures.value same)
