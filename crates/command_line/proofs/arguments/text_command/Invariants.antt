use Rattle.std.proofs.Common.{◌≡◌, drop}
use Rattle.clap.specs.Words.{app_of}
use Rattle.command_line.specs.CommandLine.{IsLocal, app_for, with_rules}
use Rattle.command_line.proofs.arguments.text_command.Given as goal

-- with what is left it takes all
abbrev pub invariant-loop-argument : goal.invariant-loop-argument
invariant-loop-argument l = record {
  app : with_rules (app_of l.command) (drop l.argument-index l.listed.arguments.now) ≡ app_for l.listed;
  local : IsLocal l.command;
}
