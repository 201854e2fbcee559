use Rattle.std.proofs.Common.{refl}
use Rattle.kendo_test.proofs.running.run_silently.Goals as goal

pub returns-in-Ok-clause-ran : goal.returns-in-Ok-clause-ran
returns-in-Ok-clause-ran g c =
    let whole = c.in-Ok.ensures.whole in
    (_, (whole.0, whole.2.0, whole.1, refl, whole.2.2))
