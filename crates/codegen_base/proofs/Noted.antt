-- The shapes of what the channels of a program carry.
use Rattle.std.proofs.Common.{◌≡◌, ℕ, zero, suc, Bool, true, false, List, [], ◌∷◌, ◌++◌, map, Option, Some, None, option_map, refl, sym, ap, ◌∙◌, subst, arith, append_assoc, slice_get}
use Rattle.std.specs.Prelude.{unwrap_or, if◌then◌else◌}
use Rattle.std.specs.Option.{is_some}
use Rattle.std.proofs.lemmas.Bool.Decides.{nat_tests}
use Rattle.std.proofs.lemmas.List.{append-nil}
use Rattle.std.proofs.lemmas.Option.{same_Some}
use Rattle.type_table.specs.Types.{ValueType, IntType, BoolType, StructType, ChannelType}
use Rattle.type_table.specs.Containment.{Structs}
use Rattle.codegen_base.specs.declared.element.Element.{Element}
use Rattle.codegen_base.specs.declared.element.Element.TheVariants as elements
use Rattle.codegen_base.specs.Elements.{same_element, found_at, place_of, element_of, shape_of, with_element, with_type, kinds_of, element_kinds, shapes_of}

pub element_same : (a b : Element) → same_element a b ≡ true → a ≡ b
element_same elements.Int elements.Int e = refl
element_same elements.Int elements.Bool e = absurd cc
element_same elements.Int (elements.Struct n) e = absurd cc
element_same elements.Int (elements.Channel n) e = absurd cc
element_same elements.Bool elements.Int e = absurd cc
element_same elements.Bool elements.Bool e = refl
element_same elements.Bool (elements.Struct n) e = absurd cc
element_same elements.Bool (elements.Channel n) e = absurd cc
element_same (elements.Struct m) elements.Int e = absurd cc
element_same (elements.Struct m) elements.Bool e = absurd cc
element_same (elements.Struct m) (elements.Struct n) e = let s : m ≡ n = grind (arith, nat_tests, e) in ap elements.Struct s
element_same (elements.Struct m) (elements.Channel n) e = absurd cc
element_same (elements.Channel m) elements.Int e = absurd cc
element_same (elements.Channel m) elements.Bool e = absurd cc
element_same (elements.Channel m) (elements.Struct n) e = absurd cc
element_same (elements.Channel m) (elements.Channel n) e = let s : m ≡ n = grind (arith, nat_tests, e) in ap elements.Channel s

pub element_itself : (a : Element) → same_element a a ≡ true
element_itself elements.Int = refl
element_itself elements.Bool = refl
element_itself (elements.Struct n) = grind (arith, nat_tests)
element_itself (elements.Channel n) = grind (arith, nat_tests)

-- ---- indexes

-- an element is there
abbrev pub Has : List Element → Element → Type 0
Has all e = (n : ℕ) × (found_at all e ≡ Some n)

suc_of : (o : Option ℕ) (n : ℕ) → option_map suc o ≡ Some n → (m : ℕ) × (o ≡ Some m) × (suc m ≡ n)
suc_of None n e = absurd cc
suc_of (Some m) n e = (m, refl, same_Some (suc m) n e)

-- the element at the index that is found is the element
there_is : (all : List Element) (e : Element) (n : ℕ) → found_at all e ≡ Some n → slice_get all n ≡ Some e
there_is [] e n is = absurd cc
there_is (x ∷ all) e n is = go (same_element e x) refl is (λ m h. there_is all e m h) where
  go : (t : Bool) → same_element e x ≡ t → (if t then Some 0 else option_map suc (found_at all e)) ≡ Some n → ((m : ℕ) → found_at all e ≡ Some m → slice_get all m ≡ Some e) → slice_get (x ∷ all) n ≡ Some e
  go true same is more = subst (λ k. slice_get (x ∷ all) k ≡ Some e) (same_Some 0 n is) (ap Some (sym (element_same e x same)))
  go false same is more = let s = suc_of (found_at all e) n is in subst (λ k. slice_get (x ∷ all) k ≡ Some e) s.2 (more s.0 s.1)

-- elements added at the end change no index
place_stays : (all more : List Element) (e : Element) (n : ℕ) → found_at all e ≡ Some n → found_at (all ++ more) e ≡ Some n
place_stays [] more e n is = absurd cc
place_stays (x ∷ all) more e n is = go (same_element e x) is (λ m h. place_stays all more e m h) where
  go : (t : Bool) → (if t then Some 0 else option_map suc (found_at all e)) ≡ Some n → ((m : ℕ) → found_at all e ≡ Some m → found_at (all ++ more) e ≡ Some m)
      → (if t then Some 0 else option_map suc (found_at (all ++ more) e)) ≡ Some n
  go true is up = is
  go false is up = let s = suc_of (found_at all e) n is in ap (option_map suc) (up s.0 s.1) ∙ ap Some s.2

place_last : (all : List Element) (e : Element) → (n : ℕ) × (found_at (all ++ e ∷ []) e ≡ Some n)
place_last [] e = (0, ap (λ t. if t then Some 0 else None) (element_itself e))
place_last (x ∷ all) e = let r = place_last all e in go (same_element e x) r.0 r.1 where
  go : (t : Bool) (n : ℕ) → found_at (all ++ e ∷ []) e ≡ Some n → (m : ℕ) × ((if t then Some 0 else option_map suc (found_at (all ++ e ∷ []) e)) ≡ Some m)
  go true n is = (0, refl)
  go false n is = (suc n, ap (option_map suc) is)

-- ---- types whose channels' elements are there

abbrev pub Noted : List Element → ValueType → Type 0
Noted all IntType = Unit {0}
Noted all BoolType = Unit {0}
Noted all (StructType number) = Unit {0}
Noted all (ChannelType direction carried) = Noted all carried × Has all (element_of all carried)

same_place : (all more : List Element) (e : Element) → Has all e → place_of (all ++ more) e ≡ place_of all e
same_place all more e h = ap (λ o. unwrap_or o 0) (place_stays all more e h.0 h.1) ∙ sym (ap (λ o. unwrap_or o 0) h.1)

pub element_stays : (all more : List Element) (kind : ValueType) → Noted all kind → element_of (all ++ more) kind ≡ element_of all kind
element_stays all more IntType n = refl
element_stays all more BoolType n = refl
element_stays all more (StructType number) n = refl
element_stays all more (ChannelType direction carried) n =
    ap elements.Channel (ap (place_of (all ++ more)) (element_stays all more carried n.0) ∙ same_place all more (element_of all carried) n.1)

pub noted_more : (all more : List Element) (kind : ValueType) → Noted all kind → Noted (all ++ more) kind
noted_more all more IntType n = tt
noted_more all more BoolType n = tt
noted_more all more (StructType number) n = tt
noted_more all more (ChannelType direction carried) n =
    (noted_more all more carried n.0, subst (Has (all ++ more)) (sym (element_stays all more carried n.0)) (n.1.0, place_stays all more (element_of all carried) n.1.0 n.1.1))

-- more elements
abbrev pub Grows : List Element → List Element → Type 0
Grows all new = (more : List Element) × (new ≡ all ++ more)

pub grows_no : (all : List Element) → Grows all all
grows_no all = ([], sym (append-nil all))

pub grows_on : (a b c : List Element) → Grows a b → Grows b c → Grows a c
grows_on a b c g h = (g.0 ++ h.0, h.1 ∙ ap (λ (l : List Element). l ++ h.0) g.1 ∙ append_assoc a g.0 h.0)

pub noted_grows : (a b : List Element) (kind : ValueType) → Grows a b → Noted a kind → Noted b kind
noted_grows a b kind g n = subst (λ l. Noted l kind) (sym g.1) (noted_more a g.0 kind n)

element_grows : (all : List Element) (e : Element) → Grows all (with_element all e)
element_grows all e = go (is_some (found_at all e)) where
  go : (t : Bool) → Grows all (if t then all else all ++ e ∷ [])
  go true = grows_no all
  go false = (e ∷ [], refl)

element_had : (all : List Element) (e : Element) → Has (with_element all e) e
element_had all e = go (found_at all e) refl where
  go : (o : Option ℕ) → found_at all e ≡ o → Has (if is_some (found_at all e) then all else all ++ e ∷ []) e
  go None is = rw is (place_last all e)
  go (Some n) is = rw is (n, is)

pub type_grows : (all : List Element) (kind : ValueType) → Grows all (with_type all kind)
type_grows all IntType = grows_no all
type_grows all BoolType = grows_no all
type_grows all (StructType number) = grows_no all
type_grows all (ChannelType direction carried) =
    let inner = with_type all carried in grows_on all inner (with_element inner (element_of inner carried)) (type_grows all carried) (element_grows inner (element_of inner carried))

pub type_noted : (all : List Element) (kind : ValueType) → Noted (with_type all kind) kind
type_noted all IntType = tt
type_noted all BoolType = tt
type_noted all (StructType number) = tt
type_noted all (ChannelType direction carried) =
    let inner = with_type all carried in
    let g = element_grows inner (element_of inner carried) in
    let n = type_noted all carried in
    let stays : element_of (with_element inner (element_of inner carried)) carried ≡ element_of inner carried = ap (λ l. element_of l carried) g.1 ∙ element_stays inner g.0 carried n in
    (noted_grows inner (with_element inner (element_of inner carried)) carried g n, subst (Has (with_element inner (element_of inner carried))) (sym stays) (element_had inner (element_of inner carried)))

-- ---- shapes

element_is : (structs : Structs) (all : List Element) (kind : ValueType) → element_kinds structs all (element_of all kind) ≡ kinds_of structs all kind
element_is structs all IntType = refl
element_is structs all BoolType = refl
element_is structs all (StructType number) = refl
element_is structs all (ChannelType direction carried) = refl

mapped : {A B : Type 0} (f : A → B) (xs : List A) (n : ℕ) (x : A) → slice_get xs n ≡ Some x → slice_get (map f xs) n ≡ Some (f x)
mapped f [] n x e = absurd cc
mapped f (y ∷ xs) zero x e = ap Some (ap f (same_Some y x e))
mapped f (y ∷ xs) (suc n) x e = mapped f xs n x e

-- the shape of what a channel carries has the kinds of its words
pub shape_there : (structs : Structs) (all : List Element) (kind : ValueType) → Has all (element_of all kind) → slice_get (shapes_of structs all) (shape_of all kind) ≡ Some (kinds_of structs all kind)
shape_there structs all kind h =
    let at : shape_of all kind ≡ h.0 = ap (λ o. unwrap_or o 0) h.1 in
    ap (slice_get (shapes_of structs all)) at ∙ mapped (element_kinds structs all) all h.0 (element_of all kind) (there_is all (element_of all kind) h.0 h.1) ∙ ap Some (element_is structs all kind)
