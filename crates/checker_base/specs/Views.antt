-- The types and constant values of expressions, and what is refused, as the definitions see them.
use Rattle.std.specs.Prelude.{◌≤◌, ◌^◌, ℕ, zero, suc, ◌+◌, false, List, [], ◌∷◌, map, nat_abs, Option, Some, None, Result, Ok, Err}
use Rattle.syntax.specs.Tree.{Expression}
use Rattle.typing_rules.specs.declared.violation.Violation.{Violation}
use Rattle.typing_rules.specs.declared.violation.Misuse.{Misuse}
use Rattle.checker_base.specs.declared.callee.Callee.{Callee as OneCallee}
use Rattle.checker_base.specs.declared.callee.Callee.TheVariants as callees
use Rattle.checker_base.specs.declared.refusal.Refusal.{Refusal}
use Rattle.checker_base.specs.declared.refusal.Refusal.TheVariants.{Memory, Violated}
use Rattle.checker_base.specs.declared.worth.Worth.{Worth as InMemory}
use Rattle.checker_base.specs.declared.worth.Worth.TheVariants as worths
use Rattle.checker_base.specs.declared.operand.Operand.{Operand}
use Rattle.type_table.specs.declared.value_type.ValueType.{ValueType as Kind}
use Rattle.checker_base.specs.declared.wanted.Wanted.{Wanted}
use Rattle.checker_base.specs.declared.wanted.Wanted.TheVariants as wanteds
use Rattle.type_table.specs.Types.{ValueType}
use Rattle.type_table.specs.Scopes.{Globals, Scope}
use Rattle.type_table.specs.Views.{kind_of, field_in}
use Rattle.typing_rules.specs.Violations.{Nodes}
use Rattle.typing_rules.specs.Calls.{Callee, NotDeclared, NoFunction, IsFunction}
use Rattle.typing_rules.specs.Worths.{Worth, Typed, Constant, Nil}
use Rattle.typing_rules.specs.Expressions.{field_kinds}
use Rattle.typing_rules.specs.Operations.{CallHas}

abbrev pub worth_of : List (List ℕ) → InMemory → Worth
worth_of types (worths.Typed kind) = Typed (kind_of types kind)
worth_of types (worths.Constant value) = Constant value
worth_of types worths.Nil = Nil

-- what an operator makes, or what is wrong
abbrev pub made_of : List (List ℕ) → Result InMemory Misuse → Result Worth Misuse
made_of types (Ok made) = Ok (worth_of types made)
made_of types (Err misuse) = Err misuse

-- a constant's size is at most 2 ^ 100
abbrev pub IsSmall : InMemory → Type 0
IsSmall (worths.Constant value) = nat_abs value ≤ 2 ^ 100
IsSmall worth = Unit {0}

-- the nodes of an operand
abbrev pub nodes_in : Operand → Nodes
nodes_in operand = record { first = operand.first; end = operand.node + 1 }

-- P of the violation, if there is one; holds if out of memory
abbrev pub Refuses : (Violation → Type 0) → Refusal → Type 0
Refuses P Memory = Unit {0}
Refuses P (Violated violation) = P violation

-- the type of a parameter or a field, which is known
abbrev pub known_kind : List (List ℕ) → Kind → Option ValueType
known_kind types kind = Some (kind_of types kind)

-- the types that are wanted, in order
abbrev pub kinds_in : List (List ℕ) → Wanted → List (Option ValueType)
kinds_in types (wanteds.Fields fields) = field_kinds (map (field_in types) fields.now)
kinds_in types (wanteds.Parameters kinds) = map (known_kind types) kinds.now

-- the one with this number, if there is one
abbrev pub kind_at : List (Option ValueType) → ℕ → Option ValueType
kind_at [] number = None
kind_at (kind ∷ rest) zero = kind
kind_at (kind ∷ rest) (suc number) = kind_at rest number

-- what is wrong with a call of these values, with or without a comma after the last one
abbrev pub CallWith : Globals → Scope → ℕ → List ℕ → List Expression → Violation → Type 0
CallWith globals scope first function values violation = CallHas globals scope first function (record { values = values; trailing = false }) violation

-- P of the violation that is reported; if none is, P of no violation
abbrev pub Tells : (Violation → Type 0) → Option Violation → Type 0
Tells P None = (violation : Violation) → ¬ (P violation)
Tells P (Some violation) = P violation

-- what the name in a call stands for
abbrev pub callee_of : OneCallee → Callee
callee_of callees.NotDeclared = NotDeclared
callee_of callees.NoFunction = NoFunction
callee_of (callees.Function number) = IsFunction number
