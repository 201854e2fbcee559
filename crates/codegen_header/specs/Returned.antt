-- What is pushed before a return.
use Rattle.std.specs.Prelude.{List}
use Rattle.syntax.specs.Tree.{Returned, NoValue, ReturnedValue}
use Rattle.type_table.specs.Scopes.{Globals, Scope, Yield}
use Rattle.codegen_base.specs.declared.element.Element.{Element}
use Rattle.codegen_base.specs.Generated.{result_type}
use Rattle.codegen_base.specs.Pushes.{pushes}
use Rattle.plan.specs.Plan.{Plan}

-- what a function with this result returns
abbrev pub pushes_returned : Globals → List Element → Yield → Scope → Returned → Plan → Plan
pushes_returned globals elements yields scope NoValue rest = rest
pushes_returned globals elements yields scope (ReturnedValue value) rest = pushes globals elements scope (result_type globals elements yields) value rest
