use Rattle.kendo_run.proofs.Reporting.{started}
use Rattle.kendo_run.proofs.start.Goals as goal

pub returns-in-Some : goal.returns-in-Some
returns-in-Some g c = started _ c.obey.result c.obey.ensures
