-- The types of what is given don't depend on where it stands.
use Rattle.std.proofs.Common.{◌≡◌, ℕ, ◌+◌, ◌==◌, Bool, true, false, ◌&&◌, refl, List, [], ◌∷◌, ◌++◌, Some}
use Rattle.std.specs.Prelude.{if◌then◌else◌}
use Rattle.syntax.specs.Tree.{Expression}
use Rattle.syntax.specs.Measures.{expression_size}
use Rattle.type_table.specs.Types.{BoolType}
use Rattle.type_table.specs.Scopes.{Globals, Scope}
use Rattle.typing_rules.specs.Worths.{Typed}
use Rattle.typing_rules.specs.Expressions.{nodes_of}
use Rattle.typing_rules.specs.Operations.{Given, is_receive, given_values, also_given, given}
use Rattle.typing_rules.specs.Simples.{first_type, after_name, with_defined}

-- the same is given, maybe elsewhere
abbrev AreAlike : List Given → List Given → Type 0
AreAlike [] [] = Unit {0}
AreAlike [] (y ∷ ys) = ⊥
AreAlike (x ∷ xs) [] = ⊥
AreAlike (x ∷ xs) (y ∷ ys) = (x.worth ≡ y.worth) × AreAlike xs ys

both-alike : (xs ys vs ws : List Given) → AreAlike xs ys → AreAlike vs ws → AreAlike (xs ++ vs) (ys ++ ws)
both-alike [] [] vs ws a b = b
both-alike [] (y ∷ ys) vs ws a b = absurd a
both-alike (x ∷ xs) [] vs ws a b = absurd a
both-alike (x ∷ xs) (y ∷ ys) vs ws a b = (a.0, both-alike xs ys vs ws a.1 b)

values-alike : (g : Globals) (s : Scope) (m n : ℕ) (values : List Expression) → AreAlike (given_values g s m values) (given_values g s n values)
values-alike g s m n [] = tt
values-alike g s m n (v ∷ values) = (refl, values-alike g s (m + expression_size v) (n + expression_size v) values)

also-alike : (places m n : ℕ) (values : List Expression) → AreAlike (also_given places m values) (also_given places n values)
also-alike places m n [] = tt
also-alike places m n (v ∷ []) = second ((places == 2) && is_receive v) where
  second : (two : Bool)
      → AreAlike (if two then record { worth = Some (Typed BoolType); nodes = nodes_of m v } ∷ [] else []) (if two then record { worth = Some (Typed BoolType); nodes = nodes_of n v } ∷ [] else [])
  second true = (refl, tt)
  second false = tt
also-alike places m n (v ∷ (w ∷ values)) = tt

defined-alike : (g : Globals) (t : Scope) (names : List (List ℕ)) (xs ys : List Given) → AreAlike xs ys → with_defined g t names xs ≡ with_defined g t names ys
defined-alike g t [] xs ys a = refl
defined-alike g t (name ∷ names) [] [] a = refl
defined-alike g t (name ∷ names) [] (y ∷ ys) a = absurd a
defined-alike g t (name ∷ names) (x ∷ xs) [] a = absurd a
defined-alike g t (name ∷ names) (x ∷ xs) (y ∷ ys) a =
    rw a.0 (defined-alike g (after_name g t name (first_type (y ∷ ys))) names xs ys a.1)

pub defined-anywhere : (g : Globals) (s : Scope) (names : List (List ℕ)) (places m n : ℕ) (right : List Expression)
    → with_defined g s names (given g s places m right) ≡ with_defined g s names (given g s places n right)
defined-anywhere g s names places m n right =
    defined-alike g s names (given g s places m right) (given g s places n right)
    (both-alike (given_values g s m right) (given_values g s n right) (also_given places m right) (also_given places n right) (values-alike g s m n right) (also-alike places m n right))

pub ruleset given_anywhere = (defined-anywhere)
