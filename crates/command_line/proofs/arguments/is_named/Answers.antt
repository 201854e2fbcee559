use Rattle.std.proofs.Common.{◌∙◌}
use Rattle.clap.specs.Words.{found_of}
use Rattle.clap.proofs.WalkLemmas.{first_value-rows}
use Rattle.command_line.proofs.CommandLine.{there}
use Rattle.command_line.proofs.arguments.is_named.Goals as goal

pub returns : goal.returns
returns c = c.is_some.ensures ∙ there _ _ _ (c.get_str.ensures ∙ first_value-rows (found_of c.args.matches.now) c.args.name.now)
