-- Loops over what is received from a channel.
use Rattle.std.proofs.Common.{◌≡◌, ℕ, List, [], ◌∷◌, ◌++◌, ◌∙◌, ap, subst}
use Rattle.syntax.specs.Tree.{Expression}
use Rattle.bytecode.specs.declared.instr.Instr.{Instr}
use Rattle.bytecode.specs.declared.instr.Instr.TheVariants as instrs
use Rattle.type_table.specs.Types.{ValueType}
use Rattle.type_table.specs.Scopes.{Globals, Scope, Yield}
use Rattle.codegen_base.specs.declared.element.Element.{Element}
use Rattle.codegen_base.specs.Elements.{shape_of}
use Rattle.codegen_base.specs.Generated.{keeps, receives}
use Rattle.codegen_base.specs.Layouts.{Layout, carried}
use Rattle.codegen_base.specs.Pushes.{drops, pushes_own}
use Rattle.codegen_base.specs.Statements.{Spot, stores, width}
use Rattle.codegen_expression.specs.Emission.{Puts}
use Rattle.codegen_expression.proofs.Emitting.{puts_alone, puts_do}
use Rattle.codegen_simple.specs.Simples.{Appends}
use Rattle.codegen_simple.proofs.Appending.{ends}
use Rattle.plan.specs.Plan.{Do, Skip}

module _ (globals : Globals) (elements : List Element) where
  module _ (yields : Yield) (layout : Layout) (channel : Expression) (place : ℕ) (i0 i1 i2 : List Instr) where
    -- a channel is pushed and kept
    pub appends_keeps : place ≡ layout.scope.words → Puts i0 i1 (pushes_own globals elements layout.scope channel) → i2 ≡ i1 ++ instrs.Store place 1 ∷ [] → Appends i0 i2 (keeps globals elements yields layout channel)
    appends_keeps at p is = ends i0 i1 i2 (pushes_own globals elements layout.scope channel) (instrs.Store layout.scope.words 1) p (is ∙ ap (λ n. i1 ++ instrs.Store n 1 ∷ []) at)

    -- the next item is received
    pub appends_receives : (kind : ValueType) → place ≡ layout.scope.words → carried globals elements layout.scope channel ≡ kind → i1 ≡ i0 ++ instrs.Load place 1 ∷ [] → i2 ≡ i1 ++ instrs.Receive (shape_of elements kind) ∷ []
        → Appends i0 i2 (receives globals elements yields layout channel)
    appends_receives kind at of loads is =
        let load = instrs.Load layout.scope.words 1 in
        let shown : Appends i0 i2 (Do load (Do (instrs.Receive (shape_of elements kind)) Skip)) = ends i0 i1 i2 (Do load) (instrs.Receive (shape_of elements kind)) (puts_do i0 i1 load (loads ∙ ap (λ n. i0 ++ instrs.Load n 1 ∷ []) at)) is in
        rw of shown

  -- words that are not used are dropped
  pub appends_drops : (scope : Scope) (kind : ValueType) (words : ℕ) (i0 i1 : List Instr) → words ≡ width globals elements scope kind → Puts i0 i1 (drops words) → Appends i0 i1 (drops (width globals elements scope kind) Skip)
  appends_drops scope kind words i0 i1 is p = subst (λ n. Appends i0 i1 (drops n Skip)) is (puts_alone i0 i1 (drops words) p)

-- a value goes to its spot
pub appends_stored : (spot : Spot) (i0 i1 i2 : List Instr) → Puts i0 i1 (stores spot) → i2 ≡ i1 ++ instrs.Tick ∷ [] → Appends i0 i2 (stores spot (Do instrs.Tick Skip))
appends_stored spot i0 i1 i2 p is = ends i0 i1 i2 (stores spot) instrs.Tick p is

pub appends_at : (spot other : Spot) (i0 i1 : List Instr) → Appends i0 i1 (stores spot (Do instrs.Tick Skip)) → spot ≡ other → Appends i0 i1 (stores other (Do instrs.Tick Skip))
appends_at spot other i0 i1 p is = subst (λ s. Appends i0 i1 (stores s (Do instrs.Tick Skip))) is p
