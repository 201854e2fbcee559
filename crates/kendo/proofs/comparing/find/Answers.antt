use Rattle.std.proofs.Common.{IfOk, sym, subst}
use Rattle.kendo.specs.Verdicts.{FindsBy, IsTracedAs}
use Rattle.pauses.specs.Plans.{pauses_of}
use Rattle.command_line.specs.declared.arguments.Subcommand.{Subcommand}
use Rattle.kendo.proofs.comparing.find.Goals as goal

pub returns-in-Run-clause-found : goal.returns-in-Run-clause-found
returns-in-Run-clause-found g c = subst (λ (s : Subcommand). FindsBy s (pauses_of c.args.plan.now.pauses.items) c.args.bytes.items c.run_with_trace.result) (sym c.in-Run.is) c.run_with_trace.ensures.found

pub returns-in-Run-clause-traced : goal.returns-in-Run-clause-traced
returns-in-Run-clause-traced g c =
    subst (λ (s : Subcommand). IfOk c.run_with_trace.result (IsTracedAs s (pauses_of c.args.plan.now.pauses.items) c.args.bytes.items c.run_with_trace.new.trace.items)) (sym c.in-Run.is) c.run_with_trace.ensures.traced

pub returns-in-Paused-clause-found : goal.returns-in-Paused-clause-found
returns-in-Paused-clause-found g c =
    subst (λ (s : Subcommand). FindsBy s (pauses_of c.args.plan.now.pauses.items) c.args.bytes.items c.pause.result) (sym c.in-Paused.is) c.pause.ensures.found

pub returns-in-Paused-clause-traced : goal.returns-in-Paused-clause-traced
returns-in-Paused-clause-traced g c =
    subst (λ (s : Subcommand). IfOk c.pause.result (IsTracedAs s (pauses_of c.args.plan.now.pauses.items) c.args.bytes.items c.pause.new.trace.items))
    (sym c.in-Paused.is) c.pause.ensures.traced
