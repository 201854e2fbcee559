-- The kinds of the words of types that go together, of structs, and of their fields.
use Rattle.std.proofs.Common.{◌≡◌, ℕ, ◌+◌, ◌-◌, ◌==◌, ◌≤◌, true, List, [], ◌∷◌, ◌++◌, length, map, take, drop, Option, Some, refl, sym, ap, ◌∙◌, subst, arith, length-append, slice_range}
use Rattle.std.proofs.lemmas.Bool.Decides.{nat_tests}
use Rattle.std.proofs.lemmas.Bool.{and_parts}
use Rattle.std.proofs.lemmas.List.{length-map}
use Rattle.syntax.specs.declared.node.Direction.{Direction}
use Rattle.syntax.specs.declared.node.Direction.TheVariants as directions
use Rattle.bytecode.specs.declared.instr.WordKind.{WordKind}
use Rattle.bytecode.specs.declared.instr.WordKind.TheVariants as kinds
use Rattle.type_table.specs.Types.{ValueType, IntType, BoolType, StructType, ChannelType, same_direction, identical, assignable}
use Rattle.type_table.specs.Containment.{Field, Structs, Selected, fields_of, kind_width, fields_width, width_within, kind_parts, fields_parts, parts_within, parts, field_of}
use Rattle.type_table.proofs.Widths.{together-parts}
use Rattle.meaning.specs.Values.{known}
use Rattle.codegen_base.specs.declared.element.Element.{Element}
use Rattle.codegen_base.specs.Elements.{word_kind, kinds_of, shape_of}
use Rattle.codegen_base.proofs.Fields.{AllWide, AllTyped, whole_kind, stands_among}

-- ---- types that go together

direction_same : (d e : Direction) → same_direction d e ≡ true → d ≡ e
direction_same directions.Both directions.Both e = refl
direction_same directions.Both directions.Send e = absurd cc
direction_same directions.Both directions.Receive e = absurd cc
direction_same directions.Send directions.Both e = absurd cc
direction_same directions.Send directions.Send e = refl
direction_same directions.Send directions.Receive e = absurd cc
direction_same directions.Receive directions.Both e = absurd cc
direction_same directions.Receive directions.Send e = absurd cc
direction_same directions.Receive directions.Receive e = refl

same_number : (m n : ℕ) → (m == n) ≡ true → m ≡ n
same_number m n e = grind (arith, nat_tests, e)

-- identical types are equal
pub identical_same : (s t : ValueType) → identical s t ≡ true → s ≡ t
identical_same IntType IntType e = refl
identical_same IntType BoolType e = absurd cc
identical_same IntType (StructType n) e = absurd cc
identical_same IntType (ChannelType d t) e = absurd cc
identical_same BoolType IntType e = absurd cc
identical_same BoolType BoolType e = refl
identical_same BoolType (StructType n) e = absurd cc
identical_same BoolType (ChannelType d t) e = absurd cc
identical_same (StructType m) IntType e = absurd cc
identical_same (StructType m) BoolType e = absurd cc
identical_same (StructType m) (StructType n) e = ap StructType (same_number m n e)
identical_same (StructType m) (ChannelType d t) e = absurd cc
identical_same (ChannelType d s) IntType e = absurd cc
identical_same (ChannelType d s) BoolType e = absurd cc
identical_same (ChannelType d s) (StructType n) e = absurd cc
identical_same (ChannelType d s) (ChannelType f t) e =
    let w = and_parts (same_direction d f) (identical s t) e in ap (λ x. ChannelType x s) (direction_same d f w.0) ∙ ap (ChannelType f) (identical_same s t w.1)

-- what channels carry that go together
pub carried_same : (d f : Direction) (s t : ValueType) → assignable (ChannelType d s) (ChannelType f t) ≡ true → s ≡ t
carried_same directions.Both f s t e = identical_same s t e
carried_same directions.Send f s t e = let w = and_parts (same_direction directions.Send f) (identical s t) e in identical_same s t w.1
carried_same directions.Receive f s t e = let w = and_parts (same_direction directions.Receive f) (identical s t) e in identical_same s t w.1

kinds_append : (f : ValueType → WordKind) (xs ys : List ValueType) → map f (xs ++ ys) ≡ map f xs ++ map f ys
kinds_append f [] ys = refl
kinds_append f (x ∷ xs) ys = ap (λ (l : List WordKind). f x ∷ l) (kinds_append f xs ys)

module _ (structs : Structs) (elements : List Element) where
  abbrev kinds_in : ValueType → List WordKind
  kinds_in = kinds_of structs elements

  -- a value of the one type has the words of the other one
  pub assignable_kinds : (s t : ValueType) → assignable s t ≡ true → kinds_in s ≡ kinds_in t
  assignable_kinds IntType t e = ap kinds_in (identical_same IntType t e)
  assignable_kinds BoolType t e = ap kinds_in (identical_same BoolType t e)
  assignable_kinds (StructType m) t e = ap kinds_in (identical_same (StructType m) t e)
  assignable_kinds (ChannelType d s) (ChannelType f t) e = ap (λ x. kinds.Chan (shape_of elements x) ∷ []) (carried_same d f s t e)
  assignable_kinds (ChannelType directions.Both s) IntType e = absurd cc
  assignable_kinds (ChannelType directions.Both s) BoolType e = absurd cc
  assignable_kinds (ChannelType directions.Both s) (StructType n) e = absurd cc
  assignable_kinds (ChannelType directions.Send s) IntType e = absurd cc
  assignable_kinds (ChannelType directions.Send s) BoolType e = absurd cc
  assignable_kinds (ChannelType directions.Send s) (StructType n) e = absurd cc
  assignable_kinds (ChannelType directions.Receive s) IntType e = absurd cc
  assignable_kinds (ChannelType directions.Receive s) BoolType e = absurd cc
  assignable_kinds (ChannelType directions.Receive s) (StructType n) e = absurd cc

  -- ---- structs

  -- the kinds of the words of fields, one after the other
  abbrev pub fields_kinds : List Field → List WordKind
  fields_kinds [] = []
  fields_kinds (field ∷ rest) = kinds_in (known field.kind) ++ fields_kinds rest

  fields_are : (deep : ℕ) → deep ≡ length structs → (fields : List Field) (v : ℕ) → AllTyped structs fields → fields_width (width_within structs deep) fields ≡ Some v → map (word_kind elements) (fields_parts (parts_within structs deep) fields) ≡ fields_kinds fields
  fields_are deep is [] v typed h = refl
  fields_are deep is (field ∷ rest) v typed h =
      let (m, n, a, b, sum) = together-parts (kind_width (width_within structs deep) field.kind) (fields_width (width_within structs deep) rest) v h in
      let w = whole_kind structs deep is (known field.kind) m (subst (λ (o : Option ValueType). kind_width (width_within structs deep) o ≡ Some m) typed.0 a) in
      kinds_append (word_kind elements) (kind_parts (parts_within structs deep) field.kind) (fields_parts (parts_within structs deep) rest)
      ∙ ap (λ (l : List WordKind). l ++ map (word_kind elements) (fields_parts (parts_within structs deep) rest)) (ap (map (word_kind elements)) (ap (kind_parts (parts_within structs deep)) typed.0 ∙ w.0))
      ∙ ap (λ (l : List WordKind). kinds_in (known field.kind) ++ l) (fields_are deep is rest n typed.1 b)

  pub struct_kinds : AllWide structs → (s : ℕ) → AllTyped structs (fields_of structs s) → kinds_in (StructType s) ≡ fields_kinds (fields_of structs s)
  struct_kinds all s typed = let w = all s in fields_are (length structs) refl (fields_of structs s) w.0 typed w.1

  -- ---- fields

  -- the kinds of the words of a value before a part of it, and those after it
  pub record Parted (whole : ValueType) (from : ℕ) (kind : ValueType) : Type 0 where
    pub before : List WordKind
    pub after : List WordKind
    pub kinds_are : kinds_in whole ≡ before ++ (kinds_in kind ++ after)
    pub place : length before ≡ from

  pub field_parted : AllWide structs → (whole : ValueType) (name : List ℕ) (at : Selected) (kind : ValueType) → field_of structs whole name ≡ Some at → at.kind ≡ Some kind → Parted whole at.place kind
  field_parted all IntType name at kind e k = absurd cc
  field_parted all BoolType name at kind e k = absurd cc
  field_parted all (ChannelType d t) name at kind e k = absurd cc
  field_parted all (StructType s) name at kind e k =
      let w = all s in
      let f = stands_among structs (length structs) refl (fields_of structs s) name at kind w.0 w.1 e k in
      record {
        before = map (word_kind elements) f.before;
        after = map (word_kind elements) f.after;
        kinds_are = ap (map (word_kind elements)) f.words ∙ kinds_append (word_kind elements) f.before (parts structs kind ++ f.after) ∙ ap (λ (l : List WordKind). map (word_kind elements) f.before ++ l) (kinds_append (word_kind elements) (parts structs kind) f.after);
        place = length-map f.before (word_kind elements) ∙ f.place_is;
      }

-- ---- parts of lists

take_all : (xs ys : List WordKind) → take (length xs) (xs ++ ys) ≡ xs
take_all [] ys = refl
take_all (x ∷ xs) ys = ap (λ (l : List WordKind). x ∷ l) (take_all xs ys)

drop_all : (xs ys : List WordKind) → drop (length xs) (xs ++ ys) ≡ ys
drop_all [] ys = refl
drop_all (x ∷ xs) ys = drop_all xs ys

-- the `n` elements of a list from index `from` on, if they are its middle part
pub range_is : (before mid after whole : List WordKind) (from n : ℕ) → whole ≡ before ++ (mid ++ after) → length before ≡ from → length mid ≡ n → slice_range whole from (from + n) ≡ mid
range_is before mid after whole from n is at many =
    let e : from + n - from ≡ n = omega arith in
    ap (λ m. take m (drop from whole)) e ∙ ap (λ (l : List WordKind). take n (drop from l)) is ∙ ap (λ m. take n (drop m (before ++ (mid ++ after)))) (sym at) ∙ ap (take n) (drop_all before (mid ++ after)) ∙ ap (λ m. take m (mid ++ after)) (sym many) ∙ take_all mid after

-- and it ends within it
pub range_within : (before mid after whole : List WordKind) (from n : ℕ) → whole ≡ before ++ (mid ++ after) → length before ≡ from → length mid ≡ n → from + n ≤ length whole
range_within before mid after whole from n is at many = omega (arith, ap length is, length-append before (mid ++ after), length-append mid after, at, many)
