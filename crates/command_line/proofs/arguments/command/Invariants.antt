use Rattle.std.proofs.Common.{◌≡◌, drop}
use Rattle.clap.specs.Words.{app_of}
use Rattle.command_line.specs.CommandLine.{kendo, with_commands}
use Rattle.command_line.proofs.arguments.command.Given as goal

-- with what is left it has all
abbrev pub invariant-loop-listed : goal.invariant-loop-listed
invariant-loop-listed l = with_commands (app_of l.command) (drop l.listed-index l.listed-items) ≡ kendo
