-- Names, fields and composite literals.
use Rattle.std.proofs.Common.{◌≡◌, ℕ, ◌+◌, ◌<◌, ◌≤◌, false, List, [], ◌∷◌, ◌++◌, length, map, Option, Some, None, sym, ap, ◌∙◌, arith}
use Rattle.std.specs.Prelude.{if◌then◌else◌, bytes_eq, codes}
use Rattle.syntax.specs.Tree.{Expression, Selection, expressions}
use Rattle.bytecode.specs.declared.instr.Instr.{Instr}
use Rattle.bytecode.specs.declared.instr.Instr.TheVariants as instrs
use Rattle.type_table.specs.Types.{ValueType, IntType}
use Rattle.type_table.specs.Containment.{field_of}
use Rattle.type_table.specs.Scopes.{Globals, Scope, Variable, is_truth, nothing_declared, variable_named}
use Rattle.typing_rules.specs.Worths.{Worth, worth}
use Rattle.meaning.specs.Values.{Slot, known, slot, slot_after}
use Rattle.codegen_base.specs.declared.element.Element.{Element}
use Rattle.codegen_base.specs.Elements.{kinds_of}
use Rattle.codegen_base.specs.Pushes.{emits, emits_all, literal_types, loads, named, words_of, zero_instr}
use Rattle.codegen_expression.specs.Emission.{Puts, kind_in, literal_part, picking}
use Rattle.codegen_expression.proofs.Operating.{puts_then, puts_zeros}

-- ---- composite literals

-- one without values is zeros
pub literal_none : {A : Type 0} (view : A → Expression) (values : List A) (globals : Globals) (elements : List Element) (scope : Scope) (kind : ValueType) (old new : List Instr) → length values < 1
    → new ≡ old ++ map zero_instr (kinds_of globals.structs elements kind) → Puts old new (literal_part globals elements scope kind (expressions (map view values)))
literal_none view [] globals elements scope kind old new none is = puts_zeros (kinds_of globals.structs elements kind) old new is
literal_none view (v ∷ vs) globals elements scope kind old new none is = absurd (omega (arith, none))

pub literal_some : {A : Type 0} (view : A → Expression) (values : List A) (globals : Globals) (elements : List Element) (scope : Scope) (kind : ValueType) (old new : List Instr) → 1 ≤ length values
    → Puts old new (emits_all globals elements scope (literal_types globals elements scope kind) (expressions (map view values))) → Puts old new (literal_part globals elements scope kind (expressions (map view values)))
literal_some view [] globals elements scope kind old new some p = absurd (omega (arith, some))
literal_some view (v ∷ vs) globals elements scope kind old new some p = p

-- ---- names and fields

pub loaded : (globals : Globals) (elements : List Element) (scope : Scope) (name : List ℕ) (v : Variable) (place words : ℕ) → is_truth name ≡ false → variable_named scope name ≡ Some v → place ≡ v.place → words ≡ words_of globals elements scope (known v.kind)
    → instrs.Load place words ≡ named globals elements scope name
loaded globals elements scope name v place words plainly is p w =
    let last : loads globals elements scope (Some v) ≡ instrs.Load place words = cc (p, w) in
    sym (ap (λ t. if t then instrs.Bool (bytes_eq name (codes "true")) else loads globals elements scope (variable_named scope name)) plainly ∙ ap (loads globals elements scope) is ∙ last)

pub not_loaded : (globals : Globals) (elements : List Element) (scope : Scope) (name : List ℕ) → is_truth name ≡ false → variable_named scope name ≡ None → instrs.Load 0 0 ≡ named globals elements scope name
not_loaded globals elements scope name plainly is =
    sym (ap (λ t. if t then instrs.Bool (bytes_eq name (codes "true")) else loads globals elements scope (variable_named scope name)) plainly ∙ ap (loads globals elements scope) is)

module _ (globals : Globals) (elements : List Element) (kind : ValueType) (field : List ℕ) where
  abbrev pick : Slot → Instr
  pick part = instrs.Pick (words_of globals elements nothing_declared kind) part.from (words_of globals elements nothing_declared part.kind)

  pub picked : (place : ℕ) (part : ValueType) (words kept : ℕ) → field_of globals.structs kind field ≡ Some (record { place = place; kind = Some part })
      → words ≡ words_of globals elements nothing_declared kind → kept ≡ words_of globals elements nothing_declared part → instrs.Pick words place kept ≡ picking globals elements kind field
  picked place part words kept is w k =
      let from : 0 + place ≡ place = omega arith in
      let last : pick (slot (0 + place) part) ≡ instrs.Pick words place kept = cc (from, w, k) in
      sym (ap (λ o. pick (slot_after 0 o)) is ∙ last)

  pub not_picked : (words : ℕ) → field_of globals.structs kind field ≡ None → words ≡ words_of globals elements nothing_declared kind → instrs.Pick words 0 1 ≡ picking globals elements kind field
  not_picked words is w =
      let last : pick (slot 0 IntType) ≡ instrs.Pick words 0 1 = ap (λ n. instrs.Pick n 0 1) (sym w) in
      sym (ap (λ o. pick (slot_after 0 o)) is ∙ last)

-- a field of an operand
pub puts_selection : (globals : Globals) (elements : List Element) (scope : Scope) (whole : Expression) (field : List ℕ) (w : Option Worth) (i0 i1 i2 : List Instr) → w ≡ worth globals scope whole
    → Puts i0 i1 (emits globals elements scope whole) → i2 ≡ i1 ++ picking globals elements (kind_in w) field ∷ [] → Puts i0 i2 (emits globals elements scope (Selection whole field))
puts_selection globals elements scope whole field w i0 i1 i2 is p e =
    puts_then (emits globals elements scope whole) (picking globals elements (kind_in (worth globals scope whole)) field) i0 i1 i2 p (e ∙ ap (λ o. i1 ++ picking globals elements (kind_in o) field ∷ []) is)
