-- Selects of which only some clauses can be done.
use Rattle.std.proofs.Common.{◌≡◌, ℕ, ◌+◌, cond, List, [], ◌∷◌, ◌++◌, length, arith}
use Rattle.word.specs.declared.request.Case.{Case}
use Rattle.pauses.specs.declared.select.Mask.{Mask}
use Rattle.pauses.specs.Selects.{keeps, masked_from, off}

pub masked_more : (m : Mask) (number : ℕ) (xs : List Case) (x : Case) (next : ℕ) → next ≡ number + length xs → masked_from m number (xs ++ x ∷ []) ≡ masked_from m number xs ++ cond (keeps m next x) x (off x) ∷ []
masked_more m number [] x next e = grind arith
masked_more m number (y ∷ ys) x next e = grind (arith, masked_more m (number + 1) ys x next (omega arith))
