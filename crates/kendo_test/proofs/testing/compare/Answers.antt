use Rattle.std.proofs.Common.{Err, List, ℕ, ap, subst}
use Rattle.go_text.specs.declared.fault.Fault.{Fault}
use Rattle.kendo_reading.specs.Reading.{HasNoReading}
use Rattle.kendo_test.specs.Passing.{PrintsTooMuch}
use Rattle.kendo_test.proofs.Verdicts.{refused_is_right}
use Rattle.kendo_test.proofs.testing.compare.Goals as goal

pub returns : goal.returns
returns g c =
    let e = c.in-Err.ensures in
    let text = c.in_ok-text.ensures.items in
    refused_is_right c.refused.result c.args.expectation c.args.options.leaks c.args.bytes.now c.args.options.limit c.in-Err.fault c.refused.ensures.untested c.refused.ensures.memory e.only
    (λ is. subst HasNoReading text (e.refused is))
    (λ is. subst (λ (t : List ℕ). PrintsTooMuch t c.args.options.limit) text (e.much (ap (λ (f : Fault). Err f) is)))
