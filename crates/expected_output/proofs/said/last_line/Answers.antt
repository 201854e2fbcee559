use Rattle.expected_output.proofs.Saying.{last_line}
use Rattle.expected_output.proofs.said.last_line.Goals as goal

pub returns : goal.returns
returns c = last_line c.args.text.now c.rsplit_once.result c.rsplit_once.ensures.cases
