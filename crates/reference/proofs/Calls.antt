-- Parameters of functions, and functions by their numbers.
use Rattle.std.proofs.Common.{◌≡◌, ℕ, zero, suc, ◌-◌, ◌≤◌, List, [], ◌∷◌, ◌++◌, map, Option, Some, slice_get, refl, ap, arith}
use Rattle.syntax.specs.Tree.{Function}
use Rattle.type_table.specs.Types.{ValueType}
use Rattle.type_table.specs.Containment.{Field}
use Rattle.type_table.specs.Scopes.{Globals}
use Rattle.typing_rules.specs.Kinds.{all_fields}
use Rattle.meaning.specs.Source.{bound}
use Rattle.meaning.specs.Values.{Value, known}
use Rattle.meaning.specs.Variables.{Blocks, declare, holding}
use Rattle.reference.specs.Calls.{settled}

-- names that are declared together have the same type
pub settled_fields : (kind : Option ValueType) (names : List (List ℕ)) (rest : List Field) → map settled (all_fields kind names ++ rest) ≡ all_fields (Some (known kind)) names ++ map settled rest
settled_fields kind [] rest = refl
settled_fields kind (name ∷ names) rest = ap (λ more. record { name = name; kind = Some (known kind) } ∷ more) (settled_fields kind names rest)

-- a parameter's variable is of the type that is known
pub bound_settled : (globals : Globals) (fields : List Field) (arguments : List Value) (blocks : Blocks) → bound globals (map settled fields) arguments blocks ≡ bound globals fields arguments blocks
bound_settled globals [] arguments blocks = refl
bound_settled globals (field ∷ rest) [] blocks = bound_settled globals rest [] (declare (holding globals.structs field.name (known field.kind) []) blocks)
bound_settled globals (field ∷ rest) (argument ∷ arguments) blocks = bound_settled globals rest arguments (declare (holding globals.structs field.name (known field.kind) argument) blocks)

-- a function after the first one
pub later_function : (first : Function) (rest : List Function) (number : ℕ) → 1 ≤ number → slice_get (first ∷ rest) number ≡ slice_get rest (number - 1)
later_function first rest zero some = absurd (omega (arith, some))
later_function first rest (suc n) some = ap (slice_get rest) (let same : n ≡ suc n - 1 = omega arith in same)
