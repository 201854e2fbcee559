-- What a program's code is emitted with.
use Rattle.std.specs.Prelude.{ℕ, List, Option, option_map}
use Rattle.type_table.specs.declared.visible.Visible.{Visible}
use Rattle.type_table.specs.Scopes.{Globals, Scope}
use Rattle.type_table.specs.Visible.{globals_in, scope_of, types_of}
use Rattle.typing_rules.specs.Worths.{Worth}
use Rattle.checker_base.specs.declared.worth.Worth.{Worth as InMemory}
use Rattle.checker_base.specs.Views.{worth_of}
use Rattle.codegen_base.specs.declared.element.Element.{Element}
use Rattle.codegen_expression.specs.declared.context.Context.{Context}

-- the names of its struct types
abbrev pub types_in : Context → List (List ℕ)
types_in context = types_of context.table.now

-- what it declares
abbrev pub globals_of : Context → Globals
globals_of context = globals_in context.table.now

-- what its channels carry
abbrev pub elements_of : Context → List Element
elements_of context = context.elements.now

-- the variables that are visible somewhere in it
abbrev pub scope_in : Context → Visible → Scope
scope_in context visible = scope_of context.table.now visible

-- the type or constant value of an operand
abbrev pub worth_in : Context → Option InMemory → Option Worth
worth_in context operand = option_map (worth_of (types_in context)) operand
