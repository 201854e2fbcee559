use Rattle.std.proofs.Common.{sym, subst}
use Rattle.kendo.specs.Verdicts.{Tests}
use Rattle.command_line.specs.declared.arguments.Subcommand.{Subcommand}
use Rattle.kendo.proofs.testing.find.Goals as goal

pub returns-in-Test : goal.returns-in-Test
returns-in-Test g c = subst (λ (s : Subcommand). Tests s c.args.invocation.now.leaks c.args.bytes.items c.test.result) (sym c.in-Test.is) c.test.ensures
