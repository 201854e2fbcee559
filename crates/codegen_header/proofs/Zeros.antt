-- Variables of one type.
use Rattle.std.proofs.Common.{◌≡◌, ℕ, List, [], ◌∷◌, ◌++◌, None, Some, map, refl, ap, ◌∙◌, subst}
use Rattle.syntax.specs.declared.node.Name.{Name}
use Rattle.syntax.specs.Tree.{Expression}
use Rattle.syntax.specs.View.{name_of}
use Rattle.bytecode.specs.declared.instr.Instr.{Instr}
use Rattle.type_table.specs.Types.{ValueType}
use Rattle.type_table.specs.declared.value_type.ValueType.{ValueType as Kind}
use Rattle.type_table.specs.Scopes.{Globals}
use Rattle.type_table.specs.Views.{kind_of}
use Rattle.codegen_base.specs.declared.element.Element.{Element}
use Rattle.codegen_base.specs.Elements.{kinds_of}
use Rattle.codegen_base.specs.Generated.{same_types, variables_plan, zero_values}
use Rattle.codegen_base.specs.Layouts.{Layout, declaring_all, declaring_each, declaring_new}
use Rattle.codegen_base.specs.Pushes.{pushes_zeros, zero_instr}
use Rattle.codegen_base.specs.Statements.{Spot, assigns, defines, name_spots}
use Rattle.codegen_expression.specs.Emission.{Puts}
use Rattle.codegen_expression.proofs.Emitting.{puts_both}
use Rattle.codegen_expression.proofs.Operating.{puts_zeros}
use Rattle.codegen_simple.specs.Simples.{Appends}
use Rattle.codegen_simple.proofs.Appending.{ends_two}
use Rattle.plan.specs.Plan.{Skip}

module _ (globals : Globals) (elements : List Element) where
  -- the zero value for one name more
  pub puts_next_zero : (name : List ℕ) (names : List (List ℕ)) (kind : ValueType) (i0 i1 i2 : List Instr) → i1 ≡ i0 ++ map zero_instr (kinds_of globals.structs elements kind)
      → Puts i1 i2 (zero_values globals elements 0 names kind) → Puts i0 i2 (zero_values globals elements 0 (name ∷ names) kind)
  puts_next_zero name names kind i0 i1 i2 zeros more =
      puts_both i0 i1 i2 (pushes_zeros (kinds_of globals.structs elements kind)) (zero_values globals elements 0 names kind) (puts_zeros (kinds_of globals.structs elements kind) i0 i1 zeros) more

  -- a type, once for each name
  pub same_kinds : (types : List (List ℕ)) (kind : Kind) (names : List Name) → map (kind_of types) (map (λ name. kind) names) ≡ same_types globals elements (map name_of names) (kind_of types kind)
  same_kinds types kind [] = refl
  same_kinds types kind (name ∷ names) = ap (λ l. kind_of types kind ∷ l) (same_kinds types kind names)

  declares_each : (names : List (List ℕ)) (kind : ValueType) (layout : Layout) → declaring_all globals elements names (same_types globals elements names kind) layout ≡ declaring_each globals elements kind names layout
  declares_each [] kind layout = refl
  declares_each (name ∷ names) kind layout = declares_each names kind (declaring_new globals elements kind name layout)

  module _ (names : List (List ℕ)) (kind : ValueType) (kinds : List ValueType) (same : kinds ≡ same_types globals elements names kind) where
    -- they are declared one by one
    pub declared_each : (l0 l1 : Layout) → l1 ≡ declaring_all globals elements names kinds l0 → l1 ≡ declaring_each globals elements kind names l0
    declared_each l0 l1 is = is ∙ ap (λ k. declaring_all globals elements names k l0) same ∙ declares_each names kind l0

    -- without values they are zero
    pub appends_zeros : (layout : Layout) (spots : List Spot) (i0 i1 i2 : List Instr) → spots ≡ name_spots globals elements layout names kinds → Puts i0 i1 (zero_values globals elements 0 names kind) → Puts i1 i2 (assigns spots)
        → Appends i0 i2 (variables_plan globals elements layout names kind None)
    appends_zeros layout spots i0 i1 i2 at zeros stored =
        subst (λ s. Appends i0 i2 (zero_values globals elements 0 names kind (assigns s Skip))) (at ∙ ap (name_spots globals elements layout names) same) (ends_two i0 i1 i2 (zero_values globals elements 0 names kind) (assigns spots) zeros stored)

    pub appends_valued : (layout : Layout) (right : List Expression) (i0 i1 : List Instr) → Appends i0 i1 (defines globals elements layout names kinds right) → Appends i0 i1 (variables_plan globals elements layout names kind (Some right))
    appends_valued layout right i0 i1 p = subst (λ k. Appends i0 i1 (defines globals elements layout names k right)) same p
