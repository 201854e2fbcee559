use Rattle.pauses.proofs.Retelling.{retold}
use Rattle.pauses.proofs.laws.paused_goroutines_keep_requests.Goals as goal

pub returns : goal.returns
returns g c = λ K ps s t story h. retold K ps s t story h
