-- The parts of selects.
use Rattle.std.proofs.Common.{◌≡◌, ℕ, ◌+◌, Bool, true, false, List, [], ◌∷◌, ◌++◌, Option, Some, None, option_map, refl, ◌∙◌, ap, sym, subst}
use Rattle.std.specs.Option.{is_some}
use Rattle.std.proofs.lemmas.List.{append-nil}
use Rattle.syntax.specs.Tree.{Expression, Place, Comm, CommReceive, CommDefine, CommAssign, Statements, Clauses, NoClause, Clause}
use Rattle.bytecode.specs.declared.instr.Instr.{Instr}
use Rattle.bytecode.specs.declared.instr.Instr.TheVariants as instrs
use Rattle.type_table.specs.Types.{ValueType, BoolType}
use Rattle.type_table.specs.Scopes.{Globals, Yield}
use Rattle.codegen_base.specs.declared.element.Element.{Element}
use Rattle.codegen_base.specs.Generated.{comm_plan, one_or_two, pushes_clauses, pushes_comm, unless_two}
use Rattle.codegen_base.specs.Layouts.{Layout, carried}
use Rattle.codegen_base.specs.Statements.{Spot, assigns, name_spots, place_spots, width}
use Rattle.codegen_expression.specs.Emission.{Puts}
use Rattle.codegen_expression.proofs.Emitting.{puts_alone, puts_both, puts_do}
use Rattle.codegen_simple.specs.Simples.{Appends}
use Rattle.codegen_header.specs.Received.{unwanted}
use Rattle.plan.specs.Plan.{Do, Skip}

pub some_mapped : {A B : Type 0} (f : A → B) (o : Option A) → is_some o ≡ is_some (option_map f o)
some_mapped f None = refl
some_mapped f (Some x) = refl

module _ (globals : Globals) (elements : List Element) (yields : Yield) where
  -- one clause after the other
  pub puts_clause : (layout : Layout) (comm : Option Comm) (body : Statements) (more : Clauses) (i0 i1 i2 : List Instr) → Puts i0 i1 (pushes_clauses globals elements yields layout (Clause comm body NoClause))
      → Puts i1 i2 (pushes_clauses globals elements yields layout more) → Puts i0 i2 (pushes_clauses globals elements yields layout (Clause comm body more))
  puts_clause layout None body more i0 i1 i2 p q = puts_both i0 i1 i2 (λ rest. rest) (pushes_clauses globals elements yields layout more) p q
  puts_clause layout (Some comm) body more i0 i1 i2 p q = puts_both i0 i1 i2 (pushes_comm globals elements yields layout comm) (pushes_clauses globals elements yields layout more) p q

  -- whether an item was sent is dropped first, unless it is wanted
  appends_received : {A : Type 0} (sent : Option A) (wanted : Bool) (spots : List Spot) (i0 i1 i2 : List Instr) → wanted ≡ is_some sent → i1 ≡ i0 ++ unwanted wanted → Puts i1 i2 (assigns spots)
      → Appends i0 i2 (unless_two globals elements yields sent (assigns spots Skip))
  appends_received None true spots i0 i1 i2 w is p = absurd cc
  appends_received None false spots i0 i1 i2 w is p = puts_alone i0 i2 (λ rest. Do (instrs.Discard 1) (assigns spots rest)) (puts_both i0 i1 i2 (Do (instrs.Discard 1)) (assigns spots) (puts_do i0 i1 (instrs.Discard 1) is) p)
  appends_received (Some other) true spots i0 i1 i2 w is p = puts_alone i0 i2 (assigns spots) (subst (λ i. Puts i i2 (assigns spots)) (is ∙ append-nil i0) p)
  appends_received (Some other) false spots i0 i1 i2 w is p = absurd cc

  module _ (layout : Layout) (channel : Expression) (kind : ValueType) (i0 i1 i2 : List Instr) (of : carried globals elements layout.scope channel ≡ kind) where
    -- what was received goes to names
    pub appends_defined : (item : List ℕ) (sent : Option (List ℕ)) (wanted : Bool) (spots : List Spot) → wanted ≡ is_some sent → i1 ≡ i0 ++ unwanted wanted → spots ≡ name_spots globals elements layout (one_or_two globals elements yields item sent) (kind ∷ (BoolType ∷ [])) → Puts i1 i2 (assigns spots)
        → Appends i0 i2 (comm_plan globals elements yields layout (CommDefine item sent channel))
    appends_defined item sent wanted spots w is at p =
        subst (λ s. Appends i0 i2 (unless_two globals elements yields sent (assigns s Skip))) (at ∙ ap (λ k. name_spots globals elements layout (one_or_two globals elements yields item sent) (k ∷ (BoolType ∷ []))) (sym of)) (appends_received sent wanted spots i0 i1 i2 w is p)

    -- to lvalues
    pub appends_assigned : (item : Place) (sent : Option Place) (wanted : Bool) (spots : List Spot) → wanted ≡ is_some sent → i1 ≡ i0 ++ unwanted wanted → spots ≡ place_spots globals elements layout.scope (one_or_two globals elements yields item sent) (kind ∷ (BoolType ∷ [])) → Puts i1 i2 (assigns spots)
        → Appends i0 i2 (comm_plan globals elements yields layout (CommAssign item sent channel))
    appends_assigned item sent wanted spots w is at p =
        subst (λ s. Appends i0 i2 (unless_two globals elements yields sent (assigns s Skip))) (at ∙ ap (λ k. place_spots globals elements layout.scope (one_or_two globals elements yields item sent) (k ∷ (BoolType ∷ []))) (sym of)) (appends_received sent wanted spots i0 i1 i2 w is p)

  -- or nowhere
  pub appends_dropped : (layout : Layout) (channel : Expression) (words : ℕ) (i0 i1 : List Instr) → words ≡ width globals elements layout.scope (carried globals elements layout.scope channel) + 1 → i1 ≡ i0 ++ instrs.Discard words ∷ []
      → Appends i0 i1 (comm_plan globals elements yields layout (CommReceive channel))
  appends_dropped layout channel words i0 i1 w is =
      puts_alone i0 i1 (Do (instrs.Discard (width globals elements layout.scope (carried globals elements layout.scope channel) + 1))) (puts_do i0 i1 (instrs.Discard (width globals elements layout.scope (carried globals elements layout.scope channel) + 1)) (is ∙ ap (λ n. i0 ++ instrs.Discard n ∷ []) w))
