use Rattle.std.specs.Prelude.{◌≡◌, ◌≤◌}
use Rattle.std.proofs.Common.{take}
use Rattle.word.proofs.value.fill.Given as goal

abbrev pub invariant-loop-word : goal.invariant-loop-word
invariant-loop-word l = (l.kept.items ≡ take l.word-index l.words) × (16 ≤ l.kept.capacity)
