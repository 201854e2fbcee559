-- Types that are written, and types of what is given.
use Rattle.std.proofs.Common.{◌≡◌, ℕ, ◌+◌, ◌==◌, Bool, true, false, cond, ◌&&◌, if◌then◌else◌, List, [], ◌∷◌, ◌++◌, map, None, Some, refl, ap, ◌∙◌, arith}
use Rattle.std.proofs.lemmas.List.{map-append}
use Rattle.std.proofs.lemmas.Grind.{common_steps}
use Rattle.syntax.specs.Tree.{Expression}
use Rattle.syntax.specs.Measures.{expression_size}
use Rattle.type_table.specs.Scopes.{Globals, Scope, nothing_declared, type_named, variable_named}
use Rattle.typing_rules.specs.Expressions.{default_type}
use Rattle.typing_rules.specs.Expressions.{nodes_of}
use Rattle.typing_rules.specs.Violations.{Nodes}
use Rattle.typing_rules.specs.Operations.{Given, also_given, given_values, is_receive}
use Rattle.typing_rules.specs.Worths.{Typed}
use Rattle.type_table.specs.Types.{ValueType, BoolType}
use Rattle.meaning.specs.Destinations.{given_kinds}
use Rattle.meaning.specs.Expressions.{type_of}
use Rattle.reference_value.specs.Rights.{is_lone_receive}
use Rattle.meaning.specs.Values.{known}
use Rattle.meaning.specs.Variables.{Blocks, scope_in}

-- a name that no variable hides is what it is in the file
pub named_type : (types : List (List ℕ)) (scope : Scope) (name : List ℕ) → variable_named scope name ≡ None → type_named types scope name ≡ type_named types nothing_declared name
named_type types scope name none = grind (arith, common_steps)

pub values_kinds : (globals : Globals) (blocks : Blocks) (first : ℕ) (values : List Expression)
    → map (λ (g : Given). known (default_type g.worth)) (given_values globals (scope_in blocks) first values) ≡ map (type_of globals blocks) values
values_kinds globals blocks first [] = refl
values_kinds globals blocks first (value ∷ rest) =
    ap (λ kinds. type_of globals blocks value ∷ kinds) (values_kinds globals blocks (first + expression_size value) rest)

abbrev kind_given : Given → ValueType
kind_given g = known (default_type g.worth)

not_sent : (two : Bool) → [] ≡ cond (two && false) (BoolType ∷ []) []
not_sent true = refl
not_sent false = refl

sent : (both : Bool) (nodes : Nodes) → map kind_given (if both then record { worth = Some (Typed BoolType); nodes = nodes } ∷ [] else []) ≡ cond both (BoolType ∷ []) []
sent true nodes = refl
sent false nodes = refl

also_kinds : (count first : ℕ) (right : List Expression) → map kind_given (also_given count first right) ≡ cond ((count == 2) && is_lone_receive right) (BoolType ∷ []) []
also_kinds count first [] = not_sent (count == 2)
also_kinds count first (only ∷ []) = sent ((count == 2) && is_receive only) (nodes_of first only)
also_kinds count first (one ∷ (other ∷ rest)) = not_sent (count == 2)

-- the values of a right side, and whether an item was sent, if one receive stands for two lvalues
pub kinds_given : (globals : Globals) (blocks : Blocks) (count : ℕ) (right : List Expression)
    → given_kinds globals blocks count right ≡ map (type_of globals blocks) right ++ cond ((count == 2) && is_lone_receive right) (BoolType ∷ []) []
kinds_given globals blocks count right =
    map-append kind_given (given_values globals (scope_in blocks) 0 right) (also_given count 0 right)
    ∙ ap (λ kinds. kinds ++ map kind_given (also_given count 0 right)) (values_kinds globals blocks 0 right)
    ∙ ap (λ more. map (type_of globals blocks) right ++ more) (also_kinds count 0 right)
