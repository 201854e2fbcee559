-- Words made for kinds.
use Rattle.std.proofs.Common.{◌≡◌, List, [], ◌∷◌, length, suc, refl, ap}
use Rattle.bytecode.specs.declared.instr.WordKind.{WordKind}
use Rattle.bytecode.specs.Machine.{fitted}
use Rattle.word.specs.declared.value.Word.{Word}

-- there are as many as kinds
pub fitted_length : (ks : List WordKind) (ws : List Word) → length (fitted ks ws) ≡ length ks
fitted_length [] ws = refl
fitted_length (k ∷ ks) [] = ap suc (fitted_length ks [])
fitted_length (k ∷ ks) (w ∷ ws) = ap suc (fitted_length ks ws)
