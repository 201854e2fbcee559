-- What a function's code is emitted with.
use Rattle.std.specs.Prelude.{List}
use Rattle.type_table.specs.declared.table.TypeTable.{TypeTable}
use Rattle.type_table.specs.Scopes.{Globals, Yield}
use Rattle.type_table.specs.Views.{yield_of}
use Rattle.type_table.specs.Visible.{types_of}
use Rattle.codegen_base.specs.declared.element.Element.{Element}
use Rattle.codegen_expression.specs.Contexts.{elements_of, globals_of}
use Rattle.codegen_emission.specs.declared.context.FunctionContext.{FunctionContext}

abbrev pub table_of : FunctionContext → TypeTable
table_of context = context.program.now.table.now

-- the function's result
abbrev pub result_of : FunctionContext → Yield
result_of context = yield_of (types_of (table_of context)) context.result_type

-- a statement about each program, applied to this one
abbrev pub of_program : {A : Type 0} → FunctionContext → (Globals → List Element → A) → A
of_program context made = made (globals_of context.program.now) (elements_of context.program.now)

-- a statement about each function, applied to this one
abbrev pub of_function : {A : Type 0} → FunctionContext → (Globals → List Element → Yield → A) → A
of_function context made = made (globals_of context.program.now) (elements_of context.program.now) (result_of context)
