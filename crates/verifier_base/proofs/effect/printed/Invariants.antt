use Rattle.std.proofs.Common.{◌≡◌, ◌++◌, drop}
use Rattle.bytecode.specs.Effects.{part_kinds}
use Rattle.verifier_base.proofs.effect.printed.Given as goal

abbrev pub invariant-loop-part : goal.invariant-loop-part
invariant-loop-part l = l.kinds.items ++ part_kinds (drop l.part-index l.parts) ≡ part_kinds l.parts
