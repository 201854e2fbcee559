-- Clocks that are not beyond the limit.
use Rattle.std.proofs.Common.{◌≤◌, ℕ, List, [], ◌∷◌, ◌++◌, Option, Some, arith}
use Rattle.std.proofs.lemmas.Grind.{common_steps}
use Rattle.std.proofs.lemmas.List.Elements.{All-append}
use Rattle.one_thread.specs.declared.goroutine.Goroutine.{Goroutine}
use Rattle.one_thread.specs.Places.{AreWithin}

module _ {S : Type 0} (limit : ℕ) where
  -- one more goroutine
  pub within_also : (old : List (Option (Goroutine S))) (g : Goroutine S) → AreWithin limit old → g.clock ≤ limit → AreWithin limit (old ++ Some g ∷ [])
  within_also old g all one = grind (arith, common_steps, All-append)
