-- No shape is empty, if each group of fields declares a name.
use Rattle.std.proofs.Common.{◌≡◌, ℕ, zero, suc, ◌+◌, ◌<◌, ◌≤◌, Bool, true, false, List, [], ◌∷◌, ◌++◌, length, Option, Some, None, option_map, refl, sym, ap, ◌∙◌, subst, arith, slice_get, inl, inr, bytes_eq}
use Rattle.std.specs.Prelude.{if◌then◌else◌, codes}
use Rattle.std.specs.Option.{is_some}
use Rattle.std.proofs.lemmas.Option.{same_Some}
use Rattle.std.proofs.lemmas.List.{length-map}
use Rattle.go_text.specs.declared.rule.Rule.TheVariants as rules
use Rattle.syntax.specs.Tree.{TypeExpression, NamedType, ParenthesizedType, Channel, Declared, Top, StructTop, FunctionTop, File}
use Rattle.syntax.specs.Measures.{top_size}
use Rattle.bytecode.specs.declared.instr.WordKind.{WordKind}
use Rattle.type_table.specs.Types.{ValueType, IntType, BoolType, StructType, ChannelType}
use Rattle.type_table.specs.Containment.{Field, Structs, fields_in, fields_of, kind_width, fields_width, width_within, parts}
use Rattle.type_table.specs.Scopes.{number_of, nothing_declared, variable_named, type_in}
use Rattle.type_table.proofs.Widths.{together-parts}
use Rattle.type_table.proofs.Fields.{parts-count}
use Rattle.typing_rules.specs.Violations.{IsBroken}
use Rattle.typing_rules.specs.Files.{FileHas}
use Rattle.typing_rules.specs.Declarations.{is_nothing, StructsHave, counting_struct}
use Rattle.typing_rules.specs.Kinds.{type_names, all_fields, fields_declared, structs_with, globals_of}
use Rattle.meaning.specs.Values.{known}
use Rattle.codegen_base.specs.declared.element.Element.{Element}
use Rattle.codegen_base.specs.declared.element.Element.TheVariants as elements
use Rattle.codegen_base.specs.Elements.{word_kind, found_at, element_of, with_type, kinds_of, element_kinds}
use Rattle.codegen_base.specs.Program.{elements_of, code_of}
use Rattle.syntax.specs.Grammar.{AllNamed, NamedTops}
use Rattle.codegen_base.proofs.Fields.{AllWide}
use Rattle.codegen_base.proofs.Typing.{Free, broken}
use Rattle.codegen_fine.proofs.Keeping.{tops_keep}
use Rattle.codegen_fine.proofs.Shapes.{last_or_old, mapped_from}

-- ---- structs that are named have numbers that are there

-- the structs of a type are among `many`
abbrev Inside : ℕ → ValueType → Type 0
Inside many IntType = Unit {0}
Inside many BoolType = Unit {0}
Inside many (StructType n) = n < many
Inside many (ChannelType d c) = Inside many c

name_within : (names : List (List ℕ)) (name : List ℕ) (n : ℕ) → number_of names name ≡ Some n → n < length names
name_within [] name n e = absurd cc
name_within (first ∷ rest) name n e = go (bytes_eq first name) (number_of rest name) e (λ m h. name_within rest name m h) where
  go : (t : Bool) (o : Option ℕ) → (if t then Some 0 else option_map suc o) ≡ Some n → ((m : ℕ) → o ≡ Some m → m < length rest) → n < length (first ∷ rest)
  go true o h more = let z = same_Some 0 n h in omega (arith, z)
  go false None h more = absurd cc
  go false (Some m) h more = let z = same_Some (suc m) n h in let lt = more m refl in omega (arith, z, lt)

module _ (types : List (List ℕ)) where
  abbrev written : TypeExpression → ValueType
  written kind = known (type_in types nothing_declared kind)

  inside_written : (kind : TypeExpression) → Inside (length types) (written kind)
  inside_written (NamedType name) = go (is_some (variable_named nothing_declared name)) (bytes_eq name (codes "int")) (bytes_eq name (codes "bool")) (number_of types name) refl where
    go : (v a b : Bool) (o : Option ℕ) → number_of types name ≡ o → Inside (length types) (known (if v then None else (if a then Some IntType else (if b then Some BoolType else option_map StructType o))))
    go true a b o e = tt
    go false true b o e = tt
    go false false true o e = tt
    go false false false None e = tt
    go false false false (Some n) e = name_within types name n e
  inside_written (ParenthesizedType inner) = inside_written inner
  inside_written (Channel direction element) = go (type_in types nothing_declared element) (inside_written element) where
    go : (o : Option ValueType) → Inside (length types) (known o) → Inside (length types) (known (option_map (ChannelType direction) o))
    go None h = tt
    go (Some t) h = h

-- ---- and so have those that channels carry

abbrev Carries : ℕ → Element → Type 0
Carries many (elements.Struct n) = n < many
Carries many element = Unit {0}

abbrev Bounded : ℕ → List Element → Type 0
Bounded many all = (n : ℕ) (e : Element) → slice_get all n ≡ Some e → Carries many e

carries_type : (many : ℕ) (all : List Element) (kind : ValueType) → Inside many kind → Carries many (element_of all kind)
carries_type many all IntType h = tt
carries_type many all BoolType h = tt
carries_type many all (StructType n) h = h
carries_type many all (ChannelType d c) h = tt

bounded_type : (many : ℕ) (all : List Element) (kind : ValueType) → Inside many kind → Bounded many all → Bounded many (with_type all kind)
bounded_type many all IntType h bounded = bounded
bounded_type many all BoolType h bounded = bounded
bounded_type many all (StructType n) h bounded = bounded
bounded_type many all (ChannelType d c) h bounded = go (is_some (found_at (with_type all c) (element_of (with_type all c) c))) (bounded_type many all c h bounded) where
  go : (t : Bool) → Bounded many (with_type all c) → Bounded many (if t then with_type all c else with_type all c ++ element_of (with_type all c) c ∷ [])
  go true inner = inner
  go false inner = last_or_old (with_type all c) (element_of (with_type all c) c) (Carries many) inner (carries_type many (with_type all c) c h)

-- ---- structs have fields

many_structs : (types : List (List ℕ)) (tops : List Top) → length (structs_with types tops) ≡ length (type_names tops)
many_structs types [] = refl
many_structs types (StructTop struct ∷ rest) = ap suc (many_structs types rest)
many_structs types (FunctionTop function ∷ rest) = many_structs types rest

-- there is a first field, the structs of whose type are among `many`
abbrev Filled : ℕ → List Field → Type 0
Filled many [] = ⊥
Filled many (field ∷ rest) = Inside many (known field.kind)

module _ (types : List (List ℕ)) where
  fields_filled : (groups : List Declared) (end : ℕ) → 1 ≤ end → AllNamed groups → Free (λ violation. (is_nothing groups ≡ true) × IsBroken rules.Struct end violation) → Filled (length types) (fields_declared types groups)
  fields_filled [] end le named free = let b = broken rules.Struct end le in absurd (free b.0 (refl, b.1))
  fields_filled (group ∷ rest) end le named free = go group.names named.0 where
    go : (names : List (List ℕ)) → 0 < length names → Filled (length types) (all_fields (type_in types nothing_declared group.type_expression) names ++ fields_declared types rest)
    go [] lt = absurd (omega (arith, lt))
    go (name ∷ names) lt = inside_written types group.type_expression

  structs_filled : (tops : List Top) (number first : ℕ) → NamedTops tops → Free (StructsHave types number first tops) → (n : ℕ) → n < length (structs_with types tops) → Filled (length types) (fields_in (slice_get (structs_with types tops) n))
  structs_filled [] number first named free n lt = absurd (omega (arith, lt))
  structs_filled (FunctionTop function ∷ rest) number first named free n lt = structs_filled rest number (first + top_size (FunctionTop function)) named (λ violation h. free violation (inr h)) n lt
  structs_filled (StructTop struct ∷ rest) number first named free zero lt = fields_filled struct.fields (first + top_size (StructTop struct)) (omega arith) named.0 (λ violation h. free violation (inl (inr (inr (inr h)))))
  structs_filled (StructTop struct ∷ rest) number first named free (suc n) lt =
      structs_filled rest (counting_struct number (StructTop struct)) (first + top_size (StructTop struct)) named.1 (λ violation h. free violation (inr h)) n (omega (arith, lt))

module _ (structs : Structs) (filled : (n : ℕ) → n < length structs → Filled (length structs) (fields_of structs n)) where
  kind_some : (f : ℕ → Option ℕ) → ((n v : ℕ) → n < length structs → f n ≡ Some v → 0 < v) → (kind : Option ValueType) (v : ℕ) → Inside (length structs) (known kind) → kind_width f kind ≡ Some v → 0 < v
  kind_some f some None v h e = absurd cc
  kind_some f some (Some IntType) v h e = let z = same_Some 1 v e in omega (arith, z)
  kind_some f some (Some BoolType) v h e = let z = same_Some 1 v e in omega (arith, z)
  kind_some f some (Some (StructType n)) v h e = some n v h e
  kind_some f some (Some (ChannelType d c)) v h e = let z = same_Some 1 v e in omega (arith, z)

  fields_some : (f : ℕ → Option ℕ) → ((n v : ℕ) → n < length structs → f n ≡ Some v → 0 < v) → (fields : List Field) (v : ℕ) → Filled (length structs) fields → fields_width f fields ≡ Some v → 0 < v
  fields_some f some [] v h e = absurd h
  fields_some f some (field ∷ rest) v h e =
      let (m, n, a, b, sum) = together-parts (kind_width f field.kind) (fields_width f rest) v e in
      let lt = kind_some f some field.kind m h a in
      omega (arith, lt, sum)

  -- the values of a struct take a word at least
  struct_some : (deep n v : ℕ) → n < length structs → width_within structs deep n ≡ Some v → 0 < v
  struct_some zero n v lt e = absurd cc
  struct_some (suc deep) n v lt e = fields_some (width_within structs deep) (struct_some deep) (fields_of structs n) v (filled n lt) e

-- no shape of the code of a file that the checker takes is empty
pub shapes_filled : (file : File) → AllWide (globals_of file.tops).structs → NamedTops file.tops → Free (FileHas file) → (n : ℕ) (ks : List WordKind) → slice_get (code_of file).shapes n ≡ Some ks → 0 < length ks
shapes_filled file wide named free n ks e =
    let globals = globals_of file.tops in
    let all = elements_of file in
    let many = length globals.types in
    let bounded : Bounded many all = tops_keep globals.types (Bounded many) (λ found kind. bounded_type many found (written globals.types kind) (inside_written globals.types kind)) file.tops [] (λ m x h. absurd cc) in
    let (x, is, same) = mapped_from (element_kinds globals.structs all) all n ks e in
    subst (λ (l : List WordKind). 0 < length l) same (go x (bounded n x is)) where
      go : (x : Element) → Carries (length (globals_of file.tops).types) x → 0 < length (element_kinds (globals_of file.tops).structs (elements_of file) x)
      go elements.Int h = omega arith
      go elements.Bool h = omega arith
      go (elements.Channel m) h = omega arith
      go (elements.Struct m) h =
          let globals = globals_of file.tops in
          let structs = globals.structs in
          let as-many = many_structs globals.types file.tops in
          let filled : (n : ℕ) → n < length structs → Filled (length structs) (fields_of structs n) = λ n lt. subst (λ k. Filled k (fields_of structs n)) (sym as-many) (structs_filled globals.types file.tops 0 0 named (λ violation h. free violation (inl (inl (inl h)))) n lt) in
          let (v, is) = wide m in
          let long : length (kinds_of structs (elements_of file) (StructType m)) ≡ v = length-map (parts structs (StructType m)) (word_kind (elements_of file)) ∙ parts-count structs (StructType m) v is in
          let some = struct_some structs filled (suc (length structs)) m v (subst (λ k. m < k) (sym as-many) h) is in
          omega (arith, long, some)
