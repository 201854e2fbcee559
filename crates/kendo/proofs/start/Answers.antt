use Rattle.kendo.proofs.Judging.{started}
use Rattle.kendo.proofs.start.Goals as goal

pub returns-in-Some : goal.returns-in-Some
returns-in-Some g c = started _ c.obey.result c.obey.ensures
