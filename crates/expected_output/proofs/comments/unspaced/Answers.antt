use Rattle.expected_output.proofs.Commenting.{no_space}
use Rattle.expected_output.proofs.comments.unspaced.Goals as goal

pub returns-in-None : goal.returns-in-None
returns-in-None c = no_space c.args.text.now c.in-None.ensures.cases
