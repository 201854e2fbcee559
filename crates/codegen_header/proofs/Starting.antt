-- Starts of goroutines.
use Rattle.std.proofs.Common.{◌≡◌, ℕ, List, [], ◌∷◌, ◌++◌, ◌∙◌, ap}
use Rattle.syntax.specs.Tree.{Expression}
use Rattle.bytecode.specs.declared.instr.Instr.{Instr}
use Rattle.bytecode.specs.declared.instr.Instr.TheVariants as instrs
use Rattle.type_table.specs.Scopes.{Globals, Scope}
use Rattle.codegen_base.specs.declared.element.Element.{Element}
use Rattle.codegen_base.specs.Statements.{pushes_arguments}
use Rattle.codegen_expression.specs.Emission.{Puts}
use Rattle.codegen_simple.specs.Simples.{Appends}
use Rattle.codegen_simple.proofs.Appending.{ends}
use Rattle.plan.specs.Plan.{Do, Skip}

-- the arguments are pushed, and the function starts
pub appends_go : (globals : Globals) (elements : List Element) (scope : Scope) (function number : ℕ) (values : List Expression) (i0 i1 i2 : List Instr) → number ≡ function → Puts i0 i1 (pushes_arguments globals elements scope function values) → i2 ≡ i1 ++ instrs.Go number ∷ []
    → Appends i0 i2 (pushes_arguments globals elements scope function values (Do (instrs.Go function) Skip))
appends_go globals elements scope function number values i0 i1 i2 n p is = ends i0 i1 i2 (pushes_arguments globals elements scope function values) (instrs.Go function) p (is ∙ ap (λ m. i1 ++ instrs.Go m ∷ []) n)
