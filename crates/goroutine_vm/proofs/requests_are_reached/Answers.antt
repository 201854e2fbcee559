use Rattle.goroutine_vm.proofs.Quanta.{reached}
use Rattle.goroutine_vm.proofs.requests_are_reached.Goals as goal

pub returns : goal.returns
returns c = λ code limit s v is. reached code limit v s is
