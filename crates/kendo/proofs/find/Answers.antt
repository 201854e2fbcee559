use Rattle.std.proofs.Common.{sym, subst}
use Rattle.kendo.specs.Verdicts.{FindsPlainly}
use Rattle.command_line.specs.declared.arguments.Subcommand.{Subcommand}
use Rattle.pauses.specs.Plans.{pauses_of}
use Rattle.kendo.proofs.find.Goals as goal

pub returns-in-Check : goal.returns-in-Check
returns-in-Check g c = subst (λ (s : Subcommand). FindsPlainly s (pauses_of c.args.given.now.plan.pauses.items) c.args.bytes.items c.check.result) (sym c.in-Check.is) c.check.ensures

pub returns-in-List : goal.returns-in-List
returns-in-List g c = subst (λ (s : Subcommand). FindsPlainly s (pauses_of c.args.given.now.plan.pauses.items) c.args.bytes.items c.list.result) (sym c.in-List.is) c.list.ensures.found

pub returns-in-Reference : goal.returns-in-Reference
returns-in-Reference g c = subst (λ (s : Subcommand). FindsPlainly s (pauses_of c.args.given.now.plan.pauses.items) c.args.bytes.items c.interpret.result) (sym c.in-Reference.is) c.interpret.ensures.found

pub returns-in-Inspect : goal.returns-in-Inspect
returns-in-Inspect g c = subst (λ (s : Subcommand). FindsPlainly s (pauses_of c.args.given.now.plan.pauses.items) c.args.bytes.items c.inspect.result) (sym c.in-Inspect.is) c.inspect.ensures.found

pub returns-in-Paused : goal.returns-in-Paused
returns-in-Paused g c = subst (λ (s : Subcommand). FindsPlainly s (pauses_of c.args.given.now.plan.pauses.items) c.args.bytes.items c.pause.result) (sym c.in-Paused.is) c.pause.ensures.found

pub returns-in-Run : goal.returns-in-Run
returns-in-Run g c = subst (λ (s : Subcommand). FindsPlainly s (pauses_of c.args.given.now.plan.pauses.items) c.args.bytes.items c.run_valued.result) (sym c.in-Run.is) c.run_valued.ensures.found
