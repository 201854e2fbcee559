use Rattle.std.proofs.Common.{◌≡◌, [], drop, map}
use Rattle.pauses.specs.Files.{numbers_after}
use Rattle.pauses.proofs.line.numbers.Given as goal

abbrev pub invariant-loop-word : goal.invariant-loop-word
invariant-loop-word l = numbers_after [] (map (λ w. w.now) l.words) ≡ numbers_after l.found.items (map (λ w. w.now) (drop l.word-index l.words))
