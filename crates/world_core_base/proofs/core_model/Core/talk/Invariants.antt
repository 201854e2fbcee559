use Rattle.world_core_base.specs.Cores.{FitsCore}
use Rattle.world_core_base.proofs.Moving.{Makes}
use Rattle.world_core_base.proofs.core_model.Core.talk.Given as goal

abbrev pub invariant-loop-made : goal.invariant-loop-made
invariant-loop-made l = Makes l.code l.limit l.quantum l.made l.fn.self l.self × FitsCore l.code l.limit l.self
