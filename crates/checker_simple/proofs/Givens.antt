-- What values give, one after the other.
use Rattle.std.proofs.Common.{◌≡◌, ℕ, ◌+◌, ◌++◌, ◌∷◌, [], refl, subst, map, List, Some, append_assoc}
use Rattle.std.proofs.lemmas.List.{map-append}
use Rattle.syntax.specs.Tree.{Expression}
use Rattle.syntax.specs.Measures.{expression_size}
use Rattle.type_table.specs.Scopes.{Globals, Scope}
use Rattle.typing_rules.specs.Expressions.{nodes_of}
use Rattle.typing_rules.specs.Worths.{worth}
use Rattle.typing_rules.specs.Operations.{Given, given_values}
use Rattle.checker_base.specs.declared.operand.Operand.{Operand}
use Rattle.checker_base.specs.Views.{worth_of}
use Rattle.checker_simple.specs.Givens.{given_of}

-- one more value gives what its operand says
pub given_next : (globals : Globals) (scope : Scope) (types : List (List ℕ)) (before : List Operand) (operand : Operand) (first : ℕ) (value : Expression) (rest : List Expression) (all : List Given)
    → worth globals scope value ≡ Some (worth_of types operand.worth) → first ≡ operand.first → first + expression_size value ≡ operand.node + 1
    → map (given_of types) before ++ given_values globals scope first (value ∷ rest) ≡ all
    → map (given_of types) (before ++ operand ∷ []) ++ given_values globals scope (first + expression_size value) rest ≡ all
given_next globals scope types before operand first value rest all is begins ends whole =
    let one : Given = record { worth = worth globals scope value; nodes = nodes_of first value } in
    let same : one ≡ given_of types operand = rw (is, ends, begins) refl in
    rw (map-append (given_of types) before (operand ∷ []), append_assoc (map (given_of types) before) (given_of types operand ∷ []) (given_values globals scope (first + expression_size value) rest))
    (subst (λ (g : Given). map (given_of types) before ++ (g ∷ given_values globals scope (first + expression_size value) rest) ≡ all) same whole)
