use Rattle.std.proofs.Common.{subst}
use Rattle.kendo.proofs.Judging.{updated_judged}
use Rattle.kendo_shell.proofs.Findings.{limit_ended}
use Rattle.kendo_test.specs.Passing.{IsUpdated}
use Rattle.kendo.proofs.updating.update_program.Goals as goal

pub returns : goal.returns
returns g c =
    let made = c.in-Ok.ensures in
    let right = subst (λ text. IsUpdated text c.args.invocation.now.leaks c.in-Test.limit c.in-Ok.updated) c.as_slice.ensures.value made.right in
    updated_judged c.args.invocation.now _ _ _ c.args.bytes.items c.in-Ok.updated.tested.verdict c.in-Ok.updated.text c.written-passed.result c.report.result c.in-Test.is (limit_ended c.in-Test.limit _ made.limit) right
    c.written-passed.ensures.passed c.written-passed.ensures.only c.report.ensures
