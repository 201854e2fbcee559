use Rattle.std.proofs.Common.{◌-◌, ◌<◌, arith, subst}
use Rattle.std.specs.Option.{IfSome}
use Rattle.trace_comparison.proofs.Matching.{request_is, no_request}
use Rattle.trace_comparison.proofs.unmatched.has_request.Goals as goal

pub returns-in-Some-get : goal.returns-in-Some-get
returns-in-Some-get c =
    let found = c.in-Some-get.ensures.lookup in
    let positive = subst (λ o. IfSome o (λ e. 0 < e)) c.in-Some.is c.requires in
    request_is c.args.lines.now c.args.event c.in-Some.event (c.in-Some.event - 1) c.in-Some-get.line.now c.args.request.now _ c.in-Some.is (omega arith) found.3.0 found.1 c.eq.ensures

pub returns-in-None : goal.returns-in-None
returns-in-None c =
    let positive = subst (λ o. IfSome o (λ e. 0 < e)) c.in-Some.is c.requires in
    no_request c.args.lines.now c.args.event c.in-Some.event (c.in-Some.event - 1) c.args.request.now c.in-Some.is (omega arith) c.in-None.ensures.lookup.3
