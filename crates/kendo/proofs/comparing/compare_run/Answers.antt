use Rattle.std.proofs.Common.{subst}
use Rattle.kendo_compare.specs.Comparing.{IsCompared}
use Rattle.kendo.proofs.Judging.{compared, uncompared}
use Rattle.kendo.proofs.comparing.compare_run.Goals as goal

pub returns-in-Ok : goal.returns-in-Ok
returns-in-Ok g c =
    let recorded = c.args.recorded.now in
    let is_same = c.in_ok-is_same-in-Ok.is_same in
    let same_or_not = subst (λ lines. IsCompared recorded.is_strict recorded.bytes.now lines is_same) c.as_slice-in-Ok.ensures.value c.in_ok-is_same-in-Ok.ensures in
    compared c.args.invocation.now _ c.args.bytes.items c.find-outcome.new.trace.items recorded.bytes.now c.find-outcome.result c.in-Ok.field-0 recorded.is_strict is_same
    c.in_ok-status.status c.status_of.result c.in-Ok.is c.requires c.find-outcome.ensures.found c.find-outcome.ensures.traced same_or_not c.in_ok-status.ensures c.status_of.ensures

pub returns : goal.returns
returns g c =
    uncompared c.args.invocation.now _ c.args.bytes.items _ c.find-outcome.result c.in-Err.field-0 c.in_ok-status.status c.in-Err.is c.find-outcome.ensures.found c.in_ok-status.ensures
