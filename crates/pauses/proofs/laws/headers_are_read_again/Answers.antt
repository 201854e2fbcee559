use Rattle.pauses.proofs.Headed.{header_again}
use Rattle.pauses.proofs.laws.headers_are_read_again.Goals as goal

pub returns : goal.returns
returns c = λ h ps ok. header_again h ps ok
