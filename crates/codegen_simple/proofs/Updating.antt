-- Assignments with an operator.
use Rattle.std.proofs.Common.{◌≡◌, List, [], ◌∷◌, ◌++◌, Some, pos, subst}
use Rattle.syntax.specs.declared.node.BinaryOperator.{BinaryOperator}
use Rattle.syntax.specs.Tree.{Expression, Place}
use Rattle.word.specs.declared.apply.Op.{Op}
use Rattle.bytecode.specs.declared.instr.Instr.{Instr}
use Rattle.bytecode.specs.declared.instr.Instr.TheVariants as instrs
use Rattle.type_table.specs.Types.{ValueType, IntType}
use Rattle.type_table.specs.Scopes.{Globals, Scope}
use Rattle.typing_rules.specs.Worths.{Typed, worth}
use Rattle.typing_rules.specs.Operations.{place_type, selected}
use Rattle.meaning.specs.Values.{known}
use Rattle.codegen_base.specs.declared.element.Element.{Element}
use Rattle.codegen_base.specs.Layouts.{type_of}
use Rattle.codegen_base.specs.Pushes.{emits, operates, operator_of}
use Rattle.codegen_base.specs.Statements.{Spot, loads_spot, spot_of, steps, stores, updates}
use Rattle.plan.specs.Plan.{Plan, Do, Skip}
use Rattle.codegen_expression.specs.Emission.{Puts}
use Rattle.codegen_expression.proofs.Emitting.{puts_do}
use Rattle.codegen_simple.specs.Simples.{Appends}
use Rattle.codegen_simple.proofs.Appending.{ends_send, ends_update}

module _ (globals : Globals) (elements : List Element) (scope : Scope) (operator : BinaryOperator) (place : Place) (spot : Spot) (at : spot ≡ spot_of globals elements scope (selected globals scope place)) where
  pub appends_step : (op : Op) (i0 i1 i2 i3 i4 i5 : List Instr) → op ≡ operator_of operator IntType → Puts i0 i1 (loads_spot globals elements scope spot) → i2 ≡ i1 ++ instrs.Int (pos 1) ∷ [] → i3 ≡ i2 ++ instrs.Apply op ∷ [] → Puts i3 i4 (stores spot)
      → i5 ≡ i4 ++ instrs.Tick ∷ [] → Appends i0 i5 (steps globals elements scope operator place)
  appends_step op i0 i1 i2 i3 i4 i5 is load one apply stored last =
      let middle = ends_update i0 i1 i2 i3 i4 i5 (loads_spot globals elements scope spot) (Do (instrs.Int (pos 1))) (stores spot) (instrs.Apply op) instrs.Tick load (puts_do i1 i2 (instrs.Int (pos 1)) one) apply stored last in
      let said = subst (λ o. Appends i0 i5 (loads_spot globals elements scope spot (Do (instrs.Int (pos 1)) (Do (instrs.Apply o) (stores spot (Do instrs.Tick Skip)))))) is middle in
      subst (λ s. Appends i0 i5 (loads_spot globals elements scope s (Do (instrs.Int (pos 1)) (Do (instrs.Apply (operator_of operator IntType)) (stores s (Do instrs.Tick Skip)))))) at said

  abbrev made : Expression → Spot → ValueType → Plan → Plan
  made value s k = operates elements operator (Some (Typed k)) (worth globals scope value) k (type_of globals elements scope value) (loads_spot globals elements scope s) (emits globals elements scope value)

  pub appends_update : (kind : ValueType) (value : Expression) (i0 i1 i2 i3 : List Instr) → kind ≡ known (place_type globals scope place)
      → Puts i0 i1 (operates elements operator (Some (Typed kind)) (worth globals scope value) kind (type_of globals elements scope value) (loads_spot globals elements scope spot) (emits globals elements scope value))
      → Puts i1 i2 (stores spot) → i3 ≡ i2 ++ instrs.Tick ∷ [] → Appends i0 i3 (updates globals elements scope place operator (worth globals scope value) (type_of globals elements scope value) (emits globals elements scope value))
  appends_update kind value i0 i1 i2 i3 own put stored last =
      let said = ends_send i0 i1 i2 i3 (made value spot kind) (stores spot) instrs.Tick put stored last in
      subst (λ s. Appends i0 i3 (made value s (known (place_type globals scope place)) (stores s (Do instrs.Tick Skip)))) at (subst (λ k. Appends i0 i3 (made value spot k (stores spot (Do instrs.Tick Skip)))) own said)
