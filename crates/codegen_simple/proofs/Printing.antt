-- What is printed, part by part.
use Rattle.std.proofs.Common.{List, [], ◌∷◌}
use Rattle.syntax.specs.Tree.{Part, Text, Value as ValuePart}
use Rattle.bytecode.specs.declared.instr.Instr.{Instr}
use Rattle.type_table.specs.Scopes.{Globals, Scope}
use Rattle.codegen_base.specs.declared.element.Element.{Element}
use Rattle.codegen_base.specs.Pushes.{pushes_own}
use Rattle.codegen_base.specs.Statements.{pushes_parts}
use Rattle.codegen_expression.specs.Emission.{Puts}
use Rattle.codegen_expression.proofs.Emitting.{puts_both}

pub puts_part : (globals : Globals) (elements : List Element) (scope : Scope) (part : Part) (parts : List Part) (i0 i1 i2 : List Instr) → Puts i0 i1 (pushes_parts globals elements scope (part ∷ [])) → Puts i1 i2 (pushes_parts globals elements scope parts)
    → Puts i0 i2 (pushes_parts globals elements scope (part ∷ parts))
puts_part globals elements scope (ValuePart value) parts i0 i1 i2 p q = puts_both i0 i1 i2 (pushes_own globals elements scope value) (pushes_parts globals elements scope parts) p q
puts_part globals elements scope (Text bytes) parts i0 i1 i2 p q = puts_both i0 i1 i2 (λ rest. rest) (pushes_parts globals elements scope parts) p q
