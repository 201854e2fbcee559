use Rattle.kendo_reading.proofs.Refusals.{one_reading}
use Rattle.kendo_reading.proofs.laws.one_reading.Goals as goal

pub returns : goal.returns
returns c = one_reading
