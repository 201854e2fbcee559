use Rattle.command_line.proofs.CommandLine.{all_there, one_there}
use Rattle.command_line.proofs.arguments.command.Goals as goal

pub loop-listed-preserved : goal.loop-listed-preserved
loop-listed-preserved c = one_there _ _ _ _ c.loop-listed.listed-index _ c.loop-listed-test.true c.in_ok-command.ensures c.loop-listed.invariant

pub returns : goal.returns
returns c = all_there _ _ _ c.loop-listed.listed-index c.loop-listed-test.false c.loop-listed.invariant
