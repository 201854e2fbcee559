-- Parts that make whole plans.
use Rattle.std.proofs.Common.{◌≡◌, ℕ, List, [], ◌∷◌, ◌++◌, length, subst}
use Rattle.syntax.specs.Tree.{Expression, Place}
use Rattle.bytecode.specs.declared.instr.Instr.{Instr}
use Rattle.type_table.specs.Types.{ValueType}
use Rattle.type_table.specs.Scopes.{Globals, Scope}
use Rattle.codegen_base.specs.declared.element.Element.{Element}
use Rattle.codegen_base.specs.Layouts.{Layout}
use Rattle.codegen_base.specs.Statements.{Spot, assigns, defines, name_spots, name_types, place_spots, pushes_right, right_types, sets, taken_types}
use Rattle.plan.specs.Plan.{Plan, Do, Skip}
use Rattle.codegen_expression.specs.Emission.{Puts}
use Rattle.codegen_expression.proofs.Emitting.{puts_both, puts_do, puts_alone}
use Rattle.codegen_simple.specs.Simples.{Appends}

-- a part and an instruction
pub ends : (i0 i1 i2 : List Instr) (part : Plan → Plan) (i : Instr) → Puts i0 i1 part → i2 ≡ i1 ++ i ∷ [] → Appends i0 i2 (part (Do i Skip))
ends i0 i1 i2 part i p is = puts_alone i0 i2 (λ rest. part (Do i rest)) (puts_both i0 i1 i2 part (Do i) p (puts_do i1 i2 i is))

-- two parts
pub ends_two : (i0 i1 i2 : List Instr) (part more : Plan → Plan) → Puts i0 i1 part → Puts i1 i2 more → Appends i0 i2 (part (more Skip))
ends_two i0 i1 i2 part more p q = puts_alone i0 i2 (λ rest. part (more rest)) (puts_both i0 i1 i2 part more p q)

-- two parts and an instruction
pub ends_send : (i0 i1 i2 i3 : List Instr) (part more : Plan → Plan) (i : Instr) → Puts i0 i1 part → Puts i1 i2 more → i3 ≡ i2 ++ i ∷ [] → Appends i0 i3 (part (more (Do i Skip)))
ends_send i0 i1 i2 i3 part more i p q is = ends i0 i2 i3 (λ rest. part (more rest)) i (puts_both i0 i1 i2 part more p q) is

-- an instruction between two parts
pub ends_call : (i0 i1 i2 i3 : List Instr) (part more : Plan → Plan) (i : Instr) → Puts i0 i1 part → i2 ≡ i1 ++ i ∷ [] → Puts i2 i3 more → Appends i0 i3 (part (Do i (more Skip)))
ends_call i0 i1 i2 i3 part more i p is q = ends_two i0 i2 i3 (λ rest. part (Do i rest)) more (puts_both i0 i1 i2 part (Do i) p (puts_do i1 i2 i is)) q

-- two parts, an instruction, a part and an instruction
pub ends_update : (i0 i1 i2 i3 i4 i5 : List Instr) (left right more : Plan → Plan) (i j : Instr) → Puts i0 i1 left → Puts i1 i2 right → i3 ≡ i2 ++ i ∷ [] → Puts i3 i4 more → i5 ≡ i4 ++ j ∷ [] → Appends i0 i5 (left (right (Do i (more (Do j Skip)))))
ends_update i0 i1 i2 i3 i4 i5 left right more i j p q is m last =
    let two = puts_both i0 i1 i2 left right p q in
    let three = puts_both i0 i2 i3 (λ rest. left (right rest)) (Do i) two (puts_do i2 i3 i is) in
    ends_send i0 i3 i4 i5 (λ rest. left (right (Do i rest))) more j three m last

-- ---- the values of a right side are assigned to lvalues or names

module _ (globals : Globals) (elements : List Element) (right : List Expression) (count : ℕ) (given taken : List ValueType) (spots : List Spot) (i0 i1 i2 : List Instr) where
  pub appends_set : (scope : Scope) (places : List Place) → count ≡ length places → given ≡ right_types globals elements scope count right → taken ≡ taken_types globals elements scope places given → spots ≡ place_spots globals elements scope places given
      → Puts i0 i1 (pushes_right globals elements scope count taken right) → Puts i1 i2 (assigns spots) → Appends i0 i2 (sets globals elements scope places (right_types globals elements scope (length places) right) right)
  appends_set scope places n g t s p q =
      let types = right_types globals elements scope (length places) right in
      let e : pushes_right globals elements scope count taken right (assigns spots Skip) ≡ pushes_right globals elements scope (length places) (taken_types globals elements scope places types) right (assigns (place_spots globals elements scope places types) Skip) = cc in
      subst (Appends i0 i2) e (ends_two i0 i1 i2 (pushes_right globals elements scope count taken right) (assigns spots) p q)

pub appends_define : (globals : Globals) (elements : List Element) (layout : Layout) (names : List (List ℕ)) (kinds : List ValueType) (right : List Expression) (count : ℕ) (taken : List ValueType) (spots : List Spot) (i0 i1 i2 : List Instr) → count ≡ length names
    → taken ≡ name_types globals elements layout names kinds → spots ≡ name_spots globals elements layout names kinds
    → Puts i0 i1 (pushes_right globals elements layout.scope count taken right) → Puts i1 i2 (assigns spots) → Appends i0 i2 (defines globals elements layout names kinds right)
appends_define globals elements layout names kinds right count taken spots i0 i1 i2 n t s p q =
    let e : pushes_right globals elements layout.scope count taken right (assigns spots Skip) ≡ pushes_right globals elements layout.scope (length names) (name_types globals elements layout names kinds) right (assigns (name_spots globals elements layout names kinds) Skip) = cc in
    subst (Appends i0 i2) e (ends_two i0 i1 i2 (pushes_right globals elements layout.scope count taken right) (assigns spots) p q)
