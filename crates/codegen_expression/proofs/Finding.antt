-- The indexes at which elements are found in a list.
use Rattle.std.proofs.Common.{rules, ◌≡◌, ◌≤◌, arith, ℕ, suc, Bool, true, false, List, [], ◌∷◌, ◌++◌, length, Option, Some, None, option_map, refl, sym, ap, ◌∙◌, subst, slice_get}
use Rattle.std.specs.Map.{update}
use Rattle.std.specs.Prelude.{unwrap_or, if◌then◌else◌, cond}
use Rattle.std.specs.Option.{is_some}
use Rattle.std.proofs.lemmas.Option.{same_Some}
use Rattle.type_table.specs.Types.{ValueType}
use Rattle.codegen_base.specs.contracts.element.ElementPartialEq.TheImpl.{ghosts}
use Rattle.codegen_base.specs.declared.element.Element.{Element}
use Rattle.codegen_base.specs.declared.element.Element.TheVariants as elements
use Rattle.codegen_base.specs.Elements.{same_element, found_at, element_of, with_element, with_type}
use Rattle.codegen_base.proofs.Noted.{element_same, element_itself, element_stays, type_noted}

-- equality of elements is symmetric
same_turned : (a b : Element) → same_element a b ≡ same_element b a
same_turned a b = go (same_element a b) (same_element b a) refl refl where
  go : (s t : Bool) → same_element a b ≡ s → same_element b a ≡ t → s ≡ t
  go true true one other = refl
  go false false one other = refl
  go true false one other = sym (element_itself a) ∙ ap (λ c. same_element c a) (element_same a b one) ∙ other
  go false true one other = sym one ∙ ap (λ c. same_element c b) (sym (element_same b a other)) ∙ element_itself b

none_inside : (o : Option ℕ) → option_map suc o ≡ None → o ≡ None
none_inside None e = refl
none_inside (Some n) e = absurd cc

-- an element at the end is found there, and each other one where it was
pub found_last : (all : List Element) (e x : Element) → found_at all e ≡ None → found_at (all ++ e ∷ []) x ≡ (if same_element e x then Some (length all) else found_at all x)
found_last [] e x none = ap (λ t. if t then Some 0 else None) (same_turned x e)
found_last (y ∷ all) e x none = apart (same_element e y) refl none (λ inside. found_last all e x inside) where
  go : (s t : Bool) → same_element x y ≡ s → same_element e x ≡ t → same_element e y ≡ false → found_at (all ++ e ∷ []) x ≡ (if t then Some (length all) else found_at all x)
      → (if s then Some 0 else option_map suc (found_at (all ++ e ∷ []) x)) ≡ (if t then Some (suc (length all)) else (if s then Some 0 else option_map suc (found_at all x)))
  go true true one other apart more = absurd (true-false (sym (ap (λ c. same_element c y) (element_same e x other) ∙ one) ∙ apart)) where
    true-false : true ≡ false → ⊥
    true-false e = absurd cc
  go true false one other apart more = refl
  go false true one other apart more = ap (option_map suc) more
  go false false one other apart more = ap (option_map suc) more

  apart : (t : Bool) → same_element e y ≡ t → (if t then Some 0 else option_map suc (found_at all e)) ≡ None → (found_at all e ≡ None → found_at (all ++ e ∷ []) x ≡ (if same_element e x then Some (length all) else found_at all x))
      → found_at ((y ∷ all) ++ e ∷ []) x ≡ (if same_element e x then Some (length (y ∷ all)) else found_at (y ∷ all) x)
  apart true is h more = absurd cc
  apart false is h more = go (same_element x y) (same_element e x) refl refl is (more (none_inside (found_at all e) h))

-- elements are compared as they are distinguished
compared : (a b : Element) → ghosts.eq a b ≡ same_element a b
compared elements.Int elements.Int = refl
compared elements.Int elements.Bool = refl
compared elements.Int (elements.Struct n) = refl
compared elements.Int (elements.Channel n) = refl
compared elements.Bool elements.Int = refl
compared elements.Bool elements.Bool = refl
compared elements.Bool (elements.Struct n) = refl
compared elements.Bool (elements.Channel n) = refl
compared (elements.Struct m) elements.Int = refl
compared (elements.Struct m) elements.Bool = refl
compared (elements.Struct m) (elements.Struct n) = search rules
compared (elements.Struct m) (elements.Channel n) = refl
compared (elements.Channel m) elements.Int = refl
compared (elements.Channel m) elements.Bool = refl
compared (elements.Channel m) (elements.Struct n) = refl
compared (elements.Channel m) (elements.Channel n) = search rules

-- an element that was not there is noted at the end
pub list_noted : (all now : List Element) (e : Element) (place : ℕ) (before after : Element → Option ℕ) → now ≡ all ++ e ∷ [] → place ≡ length all → is_some (found_at all e) ≡ false → ((x : Element) → before x ≡ found_at all x)
    → ((x : Element) → after x ≡ update ghosts.eq before e (Some place) x) → (x : Element) → after x ≡ found_at now x
list_noted all now e place before after is at new there added x =
    added x ∙ ap (λ t. cond t (Some place) (before x)) (compared e x) ∙ ap (λ n. cond (same_element e x) (Some n) (before x)) at ∙ ap (λ o. cond (same_element e x) (Some (length all)) o) (there x)
    ∙ turned (same_element e x) ∙ sym (found_last all e x (absent (found_at all e) new)) ∙ ap (λ l. found_at l x) (sym is) where
      absent : (o : Option ℕ) → is_some o ≡ false → o ≡ None
      absent None h = refl
      absent (Some n) h = absurd cc

      turned : (t : Bool) → cond t (Some (length all)) (found_at all x) ≡ (if t then Some (length all) else found_at all x)
      turned true = refl
      turned false = refl

suc_of : (o : Option ℕ) (n : ℕ) → option_map suc o ≡ Some n → (m : ℕ) × (o ≡ Some m) × (suc m ≡ n)
suc_of None n e = absurd cc
suc_of (Some m) n e = (m, refl, same_Some (suc m) n e)

-- the element at the index that is found is the element
pub stands_there : (all : List Element) (e : Element) (n : ℕ) → found_at all e ≡ Some n → slice_get all n ≡ Some e
stands_there [] e n is = absurd cc
stands_there (x ∷ all) e n is = go (same_element e x) refl is (λ m h. stands_there all e m h) where
  go : (t : Bool) → same_element e x ≡ t → (if t then Some 0 else option_map suc (found_at all e)) ≡ Some n → ((m : ℕ) → found_at all e ≡ Some m → slice_get all m ≡ Some e) → slice_get (x ∷ all) n ≡ Some e
  go true same is more = subst (λ k. slice_get (x ∷ all) k ≡ Some e) (same_Some 0 n is) (ap Some (sym (element_same e x same)))
  go false same is more = let s = suc_of (found_at all e) n is in subst (λ k. slice_get (x ∷ all) k ≡ Some e) s.2 (more s.0 s.1)

-- what is noted last changes nothing within a type
pub element_kept : (all : List Element) (kind : ValueType) (e : Element) → element_of (with_element (with_type all kind) e) kind ≡ element_of (with_type all kind) kind
element_kept all kind e = go (is_some (found_at (with_type all kind) e)) where
  go : (t : Bool) → element_of (if t then with_type all kind else with_type all kind ++ e ∷ []) kind ≡ element_of (with_type all kind) kind
  go true = refl
  go false = element_stays (with_type all kind) (e ∷ []) kind (type_noted all kind)

-- an index that is found is at most the list's length
pub place_below : (all : List Element) (e : Element) → unwrap_or (found_at all e) 0 ≤ length all
place_below [] e = omega arith
place_below (x ∷ all) e = go (same_element e x) (found_at all e) (place_below all e) where
  go : (t : Bool) (o : Option ℕ) → unwrap_or o 0 ≤ length all → unwrap_or (if t then Some 0 else option_map suc o) 0 ≤ suc (length all)
  go true o le = omega arith
  go false None le = omega arith
  go false (Some n) le = omega (arith, le)
