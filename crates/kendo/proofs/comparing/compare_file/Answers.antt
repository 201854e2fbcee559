use Rattle.std.proofs.Common.{inr}
use Rattle.std.proofs.lemmas.Result.{IfOk-weaker}
use Rattle.kendo.proofs.Judging.{against_trace}
use Rattle.kendo.specs.Verdicts.{scope_of}
use Rattle.pauses.specs.Plans.{pauses_of}
use Rattle.kendo.proofs.comparing.compare_file.Goals as goal

pub returns : goal.returns
returns g c =
    let invocation = c.args.invocation.now in
    let text = c.in-Some-2.source.bytes.items in
    let pauses = pauses_of c.in-Some-3.plan.plan.pauses.items in
    IfOk-weaker c.compare_run.result _ _ (λ status compares.
    inr (text, pauses, against_trace invocation.subcommand (scope_of invocation) invocation.against c.in-Some.path invocation.strict invocation.whole pauses _ text status c.in-Some.is compares)) c.compare_run.ensures
