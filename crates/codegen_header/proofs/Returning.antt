-- Returns.
use Rattle.std.proofs.Common.{◌≡◌, List, [], ◌∷◌, ◌++◌, ◌∙◌}
use Rattle.syntax.specs.Tree.{Returned, NoValue, ReturnedValue}
use Rattle.bytecode.specs.declared.instr.Instr.{Instr}
use Rattle.bytecode.specs.declared.instr.Instr.TheVariants as instrs
use Rattle.type_table.specs.Scopes.{Globals, Yield}
use Rattle.codegen_base.specs.declared.element.Element.{Element}
use Rattle.codegen_base.specs.Generated.{return_plan}
use Rattle.codegen_base.specs.Layouts.{Layout}
use Rattle.codegen_expression.specs.Emission.{Puts}
use Rattle.codegen_simple.specs.Simples.{Appends}
use Rattle.codegen_header.specs.Returned.{pushes_returned}
use Rattle.plan.specs.Plan.{Stop}

-- what is returned is pushed, and the function returns
pub appends_return : (globals : Globals) (elements : List Element) (yields : Yield) (layout : Layout) (returned : Returned) (i0 i1 i2 : List Instr) → Puts i0 i1 (pushes_returned globals elements yields layout.scope returned) → i2 ≡ i1 ++ instrs.Return ∷ []
    → Appends i0 i2 (return_plan globals elements yields layout returned)
appends_return globals elements yields layout NoValue i0 i1 i2 p is leave again = is ∙ p leave again Stop
appends_return globals elements yields layout (ReturnedValue value) i0 i1 i2 p is leave again = is ∙ p leave again Stop
