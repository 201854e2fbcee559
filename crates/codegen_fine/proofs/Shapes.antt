-- The shapes that a file's shapes name are there.
use Rattle.std.proofs.Common.{◌≡◌, ℕ, zero, suc, ◌+◌, ◌<◌, Bool, true, false, List, [], ◌∷◌, ◌++◌, length, map, Option, Some, None, refl, sym, ap, ◌∙◌, subst, arith, length-append, slice_get, inl, inr, ◌≤◌}
use Rattle.std.specs.Prelude.{if◌then◌else◌, nat_le}
use Rattle.std.proofs.lemmas.Bool.Decides.{nat_tests}
use Rattle.std.specs.Option.{is_some}
use Rattle.std.proofs.lemmas.Option.{slice_get_within, same_Some}
use Rattle.std.proofs.lemmas.List.{length-map}
use Rattle.go_text.specs.declared.rule.LimitKind.TheVariants as limits
use Rattle.syntax.specs.Tree.{Top, StructTop, FunctionTop, File}
use Rattle.syntax.specs.Measures.{top_size}
use Rattle.bytecode.specs.declared.instr.WordKind.{WordKind}
use Rattle.bytecode.specs.declared.instr.WordKind.TheVariants as kinds
use Rattle.bytecode.specs.Rules.{IsThere, AreThere}
use Rattle.type_table.specs.Types.{ValueType, IntType, BoolType, StructType, ChannelType}
use Rattle.type_table.specs.Containment.{Structs, fields_in, fields_width, width_within, width, parts}
use Rattle.type_table.proofs.Fields.{parts-count}
use Rattle.type_table.specs.Scopes.{nothing_declared, type_in}
use Rattle.meaning.specs.Values.{known}
use Rattle.typing_rules.specs.Files.{FileHas}
use Rattle.typing_rules.specs.Declarations.{WidthHas, struct_node}
use Rattle.typing_rules.specs.Kinds.{structs_with, globals_of}
use Rattle.codegen_base.proofs.Fields.{AllWide}
use Rattle.codegen_base.proofs.Typing.{Free, exceeded}
use Rattle.codegen_base.specs.declared.element.Element.{Element}
use Rattle.codegen_base.specs.declared.element.Element.TheVariants as elements
use Rattle.codegen_base.specs.Elements.{word_kind, found_at, element_of, shape_of, with_type, kinds_of, element_kinds, shapes_of}
use Rattle.codegen_base.specs.Program.{elements_of, code_of}
use Rattle.codegen_base.proofs.Noted.{Noted, type_noted, shape_there}
use Rattle.codegen_fine.proofs.Operands.{Grounds}
use Rattle.codegen_fine.proofs.Keeping.{tops_keep}

-- the shape that an element of a channel type names is one of `many`
abbrev Within : ℕ → Element → Type 0
Within many (elements.Channel shape) = shape < many
Within many element = Unit {0}

within_more : (m n : ℕ) (e : Element) → Within m e → Within (m + n) e
within_more m n elements.Int w = tt
within_more m n elements.Bool w = tt
within_more m n (elements.Struct k) w = tt
within_more m n (elements.Channel k) w = omega (arith, w)

abbrev Closed : List Element → Type 0
Closed all = (n : ℕ) (e : Element) → slice_get all n ≡ Some e → Within (length all) e

pub last_or_old : (all : List Element) (new : Element) (P : Element → Type 0) → ((n : ℕ) (e : Element) → slice_get all n ≡ Some e → P e) → P new → (n : ℕ) (e : Element) → slice_get (all ++ new ∷ []) n ≡ Some e → P e
last_or_old [] new P old is zero e h = subst P (same_Some new e h) is
last_or_old [] new P old is (suc n) e h = absurd cc
last_or_old (x ∷ all) new P old is zero e h = old zero e h
last_or_old (x ∷ all) new P old is (suc n) e h = last_or_old all new P (λ m y g. old (suc m) y g) is n e h

closed_more : (all : List Element) (new : Element) → Closed all → Within (length all) new → Closed (all ++ new ∷ [])
closed_more all new closed within =
    let long : length (all ++ new ∷ []) ≡ length all + 1 = length-append all (new ∷ []) in
    last_or_old all new (Within (length (all ++ new ∷ []))) (λ n e h. subst (λ m. Within m e) (sym long) (within_more (length all) 1 e (closed n e h))) (subst (λ m. Within m new) (sym long) (within_more (length all) 1 new within))

module _ (structs : Structs) where
  -- the element of a type that is noted
  element_within : (all : List Element) (kind : ValueType) → Noted all kind → Within (length all) (element_of all kind)
  element_within all IntType noted = tt
  element_within all BoolType noted = tt
  element_within all (StructType n) noted = tt
  element_within all (ChannelType d c) noted = subst (λ m. shape_of all c < m) (length-map all (element_kinds structs all)) (slice_get_within (shapes_of structs all) (shape_of all c) (kinds_of structs all c) (shape_there structs all c noted.1))

  closed_type : (all : List Element) (kind : ValueType) → Closed all → Closed (with_type all kind)
  closed_type all IntType closed = closed
  closed_type all BoolType closed = closed
  closed_type all (StructType n) closed = closed
  closed_type all (ChannelType d c) closed = go (is_some (found_at (with_type all c) (element_of (with_type all c) c))) (closed_type all c closed) where
    go : (t : Bool) → Closed (with_type all c) → Closed (if t then with_type all c else with_type all c ++ element_of (with_type all c) c ∷ [])
    go true inner = inner
    go false inner = closed_more (with_type all c) (element_of (with_type all c) c) inner (element_within (with_type all c) c (type_noted all c))

pub mapped_from : {A B : Type 0} (f : A → B) (xs : List A) (n : ℕ) (y : B) → slice_get (map f xs) n ≡ Some y → (x : A) × (slice_get xs n ≡ Some x) × (f x ≡ y)
mapped_from f [] n y e = absurd cc
mapped_from f (x ∷ xs) zero y e = (x, refl, same_Some (f x) y e)
mapped_from f (x ∷ xs) (suc n) y e = mapped_from f xs n y e

-- the shapes that a file's shapes name are there
pub shapes_there : (file : File) → Grounds (globals_of file.tops) (elements_of file) (code_of file) → (n : ℕ) (ks : List WordKind) → slice_get (code_of file).shapes n ≡ Some ks → AreThere (code_of file) ks
shapes_there file grounds n ks e =
    let structs = (globals_of file.tops).structs in
    let all = elements_of file in
    let closed : Closed all = tops_keep (globals_of file.tops).types Closed (λ found kind. closed_type structs found (known (type_in (globals_of file.tops).types nothing_declared kind))) file.tops [] (λ m x h. absurd cc) in
    let (x, is, same) = mapped_from (element_kinds structs all) all n ks e in
    subst (AreThere (code_of file)) same (go x (closed n x is)) where
      single : (k : WordKind) → IsThere (code_of file) k → AreThere (code_of file) (k ∷ [])
      single k is zero j e = subst (IsThere (code_of file)) (same_Some k j e) is
      single k is (suc m) j e = absurd cc

      go : (x : Element) → Within (length (elements_of file)) x → AreThere (code_of file) (element_kinds (globals_of file.tops).structs (elements_of file) x)
      go elements.Int w = single kinds.Int tt
      go elements.Bool w = single kinds.Bool tt
      go (elements.Struct m) w = grounds.structs_there m
      go (elements.Channel m) w = single (kinds.Chan m) (subst (λ k. m < k) (sym (length-map (elements_of file) (element_kinds (globals_of file.tops).structs (elements_of file)))) w)

-- ---- no shape has more than 16 words

none_node : (types : List (List ℕ)) (tops : List Top) (first m : ℕ) → struct_node first tops m ≡ None → fields_in (slice_get (structs_with types tops) m) ≡ []
none_node types [] first m e = refl
none_node types (FunctionTop function ∷ rest) first m e = none_node types rest (first + top_size (FunctionTop function)) m e
none_node types (StructTop struct ∷ rest) first zero e = absurd cc
none_node types (StructTop struct ∷ rest) first (suc m) e = none_node types rest (first + top_size (StructTop struct)) m e

narrow : (v end : ℕ) → 1 ≤ end → Free (WidthHas (Some v) end) → v ≤ 16
narrow v end le free = go (nat_le v 16) refl where
  go : (t : Bool) → nat_le v 16 ≡ t → v ≤ 16
  go true e = grind (arith, nat_tests, e)
  go false e = let x = exceeded limits.StructWidth end le in let lt : 16 < v = grind (arith, nat_tests, e) in absurd (free x.0 (lt, x.1))

pub struct_narrow : (file : File) → AllWide (globals_of file.tops).structs → Free (FileHas file) → (m : ℕ) → length (kinds_of (globals_of file.tops).structs (elements_of file) (StructType m)) ≤ 16
struct_narrow file wide free m =
    let structs = (globals_of file.tops).structs in
    let (v, is) = wide m in
    let many : length (kinds_of structs (elements_of file) (StructType m)) ≡ v = length-map (parts structs (StructType m)) (word_kind (elements_of file)) ∙ parts-count structs (StructType m) v is in
    let least = go v is (struct_node 0 file.tops m) refl in
    omega (arith, many, least) where
      go : (v : ℕ) → width (globals_of file.tops).structs (StructType m) ≡ Some v → (o : Option ℕ) → struct_node 0 file.tops m ≡ o → v ≤ 16
      go v is None none =
          let structs = (globals_of file.tops).structs in
          let empty : Some 0 ≡ Some v = sym (ap (fields_width (width_within structs (length structs))) (none_node (globals_of file.tops).types file.tops 0 m none)) ∙ is in
          let z = same_Some 0 v empty in
          omega (arith, z)
      go v is (Some node) some = narrow v (node + 1) (omega arith) (λ violation h. free violation (inl (inl (inr (m, node, some, inr (subst (λ o. WidthHas o (node + 1) violation) (sym is) h))))))

pub shapes_short : (file : File) → AllWide (globals_of file.tops).structs → Free (FileHas file) → (n : ℕ) (ks : List WordKind) → slice_get (code_of file).shapes n ≡ Some ks → length ks ≤ 16
shapes_short file wide free n ks e =
    let structs = (globals_of file.tops).structs in
    let all = elements_of file in
    let (x, is, same) = mapped_from (element_kinds structs all) all n ks e in
    subst (λ (l : List WordKind). length l ≤ 16) same (go x) where
      go : (x : Element) → length (element_kinds (globals_of file.tops).structs (elements_of file) x) ≤ 16
      go elements.Int = omega arith
      go elements.Bool = omega arith
      go (elements.Struct m) = struct_narrow file wide free m
      go (elements.Channel m) = omega arith
