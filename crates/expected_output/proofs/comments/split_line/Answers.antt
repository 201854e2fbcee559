use Rattle.expected_output.proofs.Commenting.{line_at, no_rest, one_line, rest_at}
use Rattle.expected_output.proofs.comments.split_line.Goals as goal

pub returns-in-Some-clause-line : goal.returns-in-Some-clause-line
returns-in-Some-clause-line c = line_at c.args.text.now _ c.in-Some.at c.in-Some.ensures.cases c.split_at.ensures.front

pub returns-in-Some-clause-rest : goal.returns-in-Some-clause-rest
returns-in-Some-clause-rest c = rest_at c.args.text.now _ c.in-Some.at c.in-Some.ensures.cases c.split_at.ensures.back

pub returns-in-None-clause-line : goal.returns-in-None-clause-line
returns-in-None-clause-line c = one_line c.args.text.now c.in-None.ensures.cases

pub returns-in-None-clause-rest : goal.returns-in-None-clause-rest
returns-in-None-clause-rest c = no_rest c.args.text.now c.in-None.ensures.cases
