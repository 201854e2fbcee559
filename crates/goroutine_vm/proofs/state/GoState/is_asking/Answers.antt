use Rattle.std.proofs.Common.{ap, sym}
use Rattle.bytecode.specs.Machine.{Frames}
use Rattle.word.specs.Kinds.{Clocked}
use Rattle.goroutine_vm.proofs.Turns.{sound_at}
use Rattle.goroutine_vm.proofs.state.GoState.is_asking.Goals as goal

pub is_asking-requires-clause-sound : goal.is_asking-requires-clause-sound
is_asking-requires-clause-sound c = sound_at c.args.code.now c.code.result.now c.args.limit c.args.self.now c.self.inside.frames c.code.ensures.code c.code.ensures.verified c.requires (ap (λ (s : Clocked Frames). s.state) (sym c.self.view_is))
