use Rattle.kendo_test.proofs.Printing.{all_printed}
use Rattle.kendo_test.proofs.running.run_printing.Goals as goal

pub returns-in-Ok-clause-ran : goal.returns-in-Ok-clause-ran
returns-in-Ok-clause-ran g c =
    let whole = c.in-Ok.ensures.whole in
    (whole.0, whole.2.0, whole.1, all_printed _ _ _ _ c.new-output.ensures whole.2.1 c.into_bytes.ensures, whole.2.2)
