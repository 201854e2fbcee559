use Rattle.std.proofs.Common.{◌≡◌, ℕ, map, take}
use Rattle.word.specs.Values.{Reply}
use Rattle.reference_world.proofs.seen.numbers_of.Given as goal

-- the numbers of those so far
abbrev pub invariant-loop-one : goal.invariant-loop-one
invariant-loop-one l = l.numbers.items ≡ map (λ (x : ℕ × Reply). x.0) (take l.one-index l.woken)
