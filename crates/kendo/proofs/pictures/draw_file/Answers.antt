use Rattle.std.proofs.Common.{subst, IfSome, Option, Result}
use Rattle.command_line.specs.declared.arguments.Subcommand.TheVariants as subcommands
use Rattle.go_text.specs.declared.fault.Fault.{Fault}
use Rattle.kendo.proofs.Judging.{drawn}
use Rattle.kendo_shell.specs.Answers.{Finds}
use Rattle.word.specs.declared.end.End.{End}
use Rattle.kendo.proofs.pictures.draw_file.Goals as goal

pub returns : goal.returns
returns c =
    let text = c.in-Some.source.bytes.items in
    let finds = subst (λ (o : Option (Result End Fault)). IfSome o (Finds (subcommands.Timeline c.args.limit) text)) c.in-Some-3.is c.in_ok-outcome.ensures.found in
    drawn c.args.invocation.now c.args.limit text c.in-Some-3.outcome c.in_ok-status.status c.requires.against c.requires.draws finds c.in_ok-status.ensures
