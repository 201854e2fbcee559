-- What is wrong with a statement is what is wrong with its parts.
use Rattle.std.proofs.Common.{rules, ◌≡◌, ℕ, ◌+◌, false, inl, inr, refl, sym, List, length, ◌==◌, Option, Some, arith, sum_by}
use Rattle.std.proofs.lemmas.List.{length-map}
use denote.Ref.{Bor}
use Rattle.syntax.specs.declared.node.Name.{Name}
use Rattle.syntax.specs.declared.node.PlaceNode.{PlaceNode}
use Rattle.syntax.specs.Tree.{TypeExpression, Expression, Place, Assign, Define}
use Rattle.syntax.specs.Measures.{if_any, type_size, expression_size, simple_size}
use Rattle.type_table.specs.Types.{ValueType}
use Rattle.type_table.specs.Scopes.{Globals, Scope, type_in}
use Rattle.typing_rules.specs.declared.violation.Violation.{Violation}
use Rattle.checker_base.specs.declared.refusal.Refusal.{Refusal}
use Rattle.checker_base.specs.declared.refusal.Refusal.TheVariants.{Memory, Violated}
use Rattle.checker_base.specs.Views.{Refuses}
use Rattle.typing_rules.specs.Operations.{Given, given, RightHas, PlacesHave}
use Rattle.typing_rules.specs.Simples.{AssignedHave, NamesHave, NamesFail, UntypedHave, AllFail, TypedHave, VariablesHave, IfRightHas, with_defined, SimpleHas, TypedVariablesHave, UntypedVariablesHave}
use Rattle.typing_rules.proofs.Defaults.{defaults_fail, names_fail, none_own}
use Rattle.checker_simple.specs.Givens.{places_at}
use Rattle.checker_simple.specs.Names.{names_at}
use Rattle.checker_simple.proofs.Anywhere.{defined-anywhere}

-- ---- assignments

pub assign-none : (g : Globals) (s : Scope) (first middle count end : ℕ) (places these : List Place) (right : List Expression) (f : Violation)
    → these ≡ places → middle ≡ first + length places → count ≡ length places → end ≡ first + simple_size (Assign places right)
    → (PlacesHave g s first these f → ⊥) → (RightHas g s middle right f → ⊥) → (AssignedHave g s places (given g s count middle right) end f → ⊥)
    → SimpleHas g s first (Assign places right) f → ⊥
assign-none g s first middle count end places these right f e m n d a b c (inl x) = a (rw e x)
assign-none g s first middle count end places these right f e m n d a b c (inr (inl x)) = b (rw m x)
assign-none g s first middle count end places these right f e m n d a b c (inr (inr x)) = c (rw (n, m, d) x)

-- ---- declarations of names

pub define-none : (g : Globals) (s : Scope) (first count end : ℕ) (names : List (List ℕ)) (right : List Expression) (f : Violation)
    → count ≡ length names → end ≡ first + sum_by expression_size right + 1
    → (RightHas g s first right f → ⊥) → (NamesHave s names (given g s count first right) end f → ⊥)
    → SimpleHas g s first (Define names right) f → ⊥
define-none g s first count end names right f n d a b (inl x) = a x
define-none g s first count end names right f n d a b (inr x) = b (rw (n, d) x)

pub define-one : (g : Globals) (s : Scope) (first count end : ℕ) (names : List (List ℕ)) (right : List Expression) (r : Refusal)
    → count ≡ length names → end ≡ first + sum_by expression_size right + 1
    → Refuses (NamesHave s names (given g s count first right) end) r → Refuses (SimpleHas g s first (Define names right)) r
define-one g s first count end names right Memory n d h = tt
define-one g s first count end names right (Violated f) n d h = inr (rw (n, d) at h)

pub defined-after : (g : Globals) (s new : Scope) (first count : ℕ) (names these : List (List ℕ)) (right : List Expression) (values : List Given)
    → these ≡ names → count ≡ length names → values ≡ given g s count first right → new ≡ with_defined g s these values
    → new ≡ with_defined g s names (given g s (length names) 0 right)
defined-after g s new first count names these right values e n v h = rw (h, e, v, n) (defined-anywhere g s names (length names) first 0 right)

-- ---- variables

unequal : (a b : ℕ) → a ≡ b → (a == b) ≡ false → ⊥
unequal a b e d = search rules

-- n values for n variables of one type
pub typed-given-none : (k : Option ValueType) (names n : ℕ) (values every : List Given) (end : ℕ) (f : Violation)
    → every ≡ values → length values ≡ names → n ≡ names → (AllFail k n values f → ⊥) → TypedHave k names every end f → ⊥
typed-given-none k names n values every end f v l d goes (inl x) = unequal (length values) names l (rw v at x.0)
typed-given-none k names n values every end f v l d goes (inr x) = goes (rw d (rw v at x))

pub typed-given-one : (k : Option ValueType) (names n : ℕ) (values every : List Given) (end : ℕ) (f : Violation)
    → every ≡ values → n ≡ names → AllFail k n values f → TypedHave k names every end f
typed-given-one k names n values every end f v d h = inr (rw v (rw d at h))

-- values that might go to the names of a `:=` may be given to new variables, and what is wrong with the ones is wrong with the others
pub given-none : (s : Scope) (names all : List (List ℕ)) (values every : List Given) (node end : ℕ) (f : Violation)
    → all ≡ names → every ≡ values → end ≡ node + 1
    → length names ≡ length values → ((last : ℕ) → last ≡ node + 1 → (other : Violation) → VariablesHave s names last other → ⊥) → (NamesFail s names values f → ⊥)
    → UntypedHave s all every end f → ⊥
given-none s names all values every node end f a v e n new goes (inl x) = unequal (length values) (length names) (sym n) (rw (a, v) at x.0)
given-none s names all values every node end f a v e n new goes (inr (inl x)) = new end e f (rw a at x)
given-none s names all values every node end f a v e n new goes (inr (inr x)) = goes (names_fail s names values f (none_own s names (node + 1) (omega arith) (new (node + 1) refl)) (rw (a, v) at x))

pub given-one : (s : Scope) (names all : List (List ℕ)) (values every : List Given) (node end : ℕ) (r : Refusal)
    → all ≡ names → every ≡ values → ((last : ℕ) → last ≡ node + 1 → (other : Violation) → VariablesHave s names last other → ⊥)
    → Refuses (NamesFail s names values) r → Refuses (UntypedHave s all every end) r
given-one s names all values every node end Memory a v new h = tt
given-one s names all values every node end (Violated f) a v new h = inr (inr (rw (a, v) (defaults_fail s names values f (none_own s names (node + 1) (omega arith) (new (node + 1) refl)) h)))

pub untyped-none : (g : Globals) (s : Scope) (first count end : ℕ) (names : List (List ℕ)) (right : List Expression) (f : Violation)
    → count ≡ length names → end ≡ first + sum_by expression_size right + 1
    → (RightHas g s first right f → ⊥) → (UntypedHave s names (given g s count first right) end f → ⊥)
    → UntypedVariablesHave g s first names right f → ⊥
untyped-none g s first count end names right f n d a b (inl x) = a x
untyped-none g s first count end names right f n d a b (inr x) = b (rw (n, d) x)

pub untyped-one : (g : Globals) (s : Scope) (first count end : ℕ) (names : List (List ℕ)) (right : List Expression) (r : Refusal)
    → count ≡ length names → end ≡ first + sum_by expression_size right + 1
    → Refuses (UntypedHave s names (given g s count first right) end) r → Refuses (UntypedVariablesHave g s first names right) r
untyped-one g s first count end names right Memory n d h = tt
untyped-one g s first count end names right (Violated f) n d h = inr (rw (n, d) at h)

pub right-none : (g : Globals) (s : Scope) (names first end : ℕ) (kind : Option ValueType) (o : Option (List Expression)) (r : List Expression) (f : Violation)
    → o ≡ Some r → end ≡ first + sum_by expression_size r + 1
    → (RightHas g s first r f → ⊥) → (TypedHave kind names (given g s names first r) end f → ⊥)
    → IfRightHas g s names kind first o f → ⊥
right-none g s names first end kind o r f e d a b h = elim (rw e at h) [ inl x ↦ a x | inr x ↦ b (rw d x) ]

pub typed-none : (g : Globals) (s : Scope) (first middle count end : ℕ) (names these : List (List ℕ)) (kind : TypeExpression) (right : Option (List Expression)) (k : ValueType) (f : Violation)
    → type_in g.types s kind ≡ Some k → these ≡ names → count ≡ length names → middle ≡ first + type_size kind
    → end ≡ first + type_size kind + if_any (sum_by expression_size) right + 1
    → (IfRightHas g s count (Some k) middle right f → ⊥) → (VariablesHave s these end f → ⊥)
    → TypedVariablesHave g s first names kind right f → ⊥
typed-none g s first middle count end names these kind right k f t e n m d a b (inl x) = rw t at x
typed-none g s first middle count end names these kind right k f t e n m d a b (inr (inl x)) = a (rw (n, m, ← t) x)
typed-none g s first middle count end names these kind right k f t e n m d a b (inr (inr x)) = b (rw (e, d) x)

-- ---- names and lvalues that lie apart are as many as they are

pub names-count : (refs : List (Bor Name)) (names : List (List ℕ)) (n : ℕ) → names_at refs ≡ names → n ≡ length refs → n ≡ length names
names-count refs names n e d = rw (← e, length-map) d

pub places-count : (refs : List (Bor PlaceNode)) (places : List Place) (n : ℕ) → places_at refs ≡ places → n ≡ length refs → n ≡ length places
places-count refs places n e d = rw (← e, length-map) d
