-- What is wrong with an expression, whose nodes have numbers from a first one on.
use Rattle.std.specs.Prelude.{◌≡◌, ℕ, ◌+◌, ◌==◌, ◌⊎◌, true, false, not, ◌&&◌, List, [], ◌∷◌, map, Option, Some, None, Result, Ok, Err, length}
use Rattle.go_text.specs.declared.rule.Rule.TheVariants as rules
use Rattle.go_text.specs.declared.rule.LimitKind.TheVariants as limits
use Rattle.syntax.specs.declared.node.UnaryOperator.{UnaryOperator}
use Rattle.syntax.specs.declared.node.BinaryOperator.{BinaryOperator}
use Rattle.syntax.specs.Tree.{Expression, Integer, Named, Parenthesized, Selection, Composite, Unary, Binary, Call, Receive, Make, MakeSized, Length, Capacity, Expressions, NoMore, Following, expressions_in}
use Rattle.syntax.specs.Measures.{type_size, expression_size}
use Rattle.typing_rules.specs.declared.violation.Violation.{Violation}
use Rattle.typing_rules.specs.declared.violation.Misuse.{Misuse}
use Rattle.typing_rules.specs.Violations.{Nodes, IsBroken, IsExceeded, IsNilAt, IsMisuse}
use Rattle.type_table.specs.Types.{ValueType, IntType, BoolType, StructType, ChannelType, is_int_type, is_bool_type, is_channel_type, assignable, only_receives, only_sends}
use Rattle.type_table.specs.Containment.{Field, fields_of, field_of}
use Rattle.type_table.specs.Scopes.{Globals, Scope, Yield, NoResult, Yields, type_in}
use Rattle.typing_rules.specs.Calls.{Callee, NotDeclared, NoFunction, IsFunction, callee, parameters_of, result_of}
pub use Rattle.typing_rules.specs.Worths.{element_of}
use Rattle.typing_rules.specs.Worths.{Worth, Typed, Constant, Nil, is_int, is_negative, literal, unary_worth, binary_worth, is_operand, literal_struct, worth}

-- the nodes of an expression, by how many there are before it
abbrev pub nodes_of : ℕ → Expression → Nodes
nodes_of first expression = record { first = first; end = first + expression_size expression }

-- ---- values of a type that is expected (Go: Assignability). If one of the two has no type, no rule about them is violated.

abbrev pub FitHas : Worth → ValueType → Nodes → Violation → Type 0
FitHas (Typed s) t nodes violation = (assignable s t ≡ false) × IsBroken rules.Assignable nodes.end violation
FitHas (Constant value) t nodes violation =
    ((is_int_type t ≡ false) × IsBroken rules.Assignable nodes.end violation)
    ⊎ (((is_int_type t && not (is_int value)) ≡ true) × IsBroken rules.Constant nodes.end violation)
FitHas Nil t nodes violation = (is_channel_type t ≡ false) × IsNilAt nodes violation

abbrev pub ValueHas : Option Worth → Option ValueType → Nodes → Violation → Type 0
ValueHas None t nodes violation = ⊥
ValueHas (Some w) None nodes violation = ⊥
ValueHas (Some w) (Some t) nodes violation = FitHas w t nodes violation

-- a value goes to a variable that has no type yet, or to `_`: a constant is used as an int, and `nil` has no type
abbrev pub DefaultHas : Option Worth → Nodes → Violation → Type 0
DefaultHas None nodes violation = ⊥
DefaultHas (Some (Typed s)) nodes violation = ⊥
DefaultHas (Some (Constant value)) nodes violation = (is_int value ≡ false) × IsBroken rules.Constant nodes.end violation
DefaultHas (Some Nil) nodes violation = IsNilAt nodes violation

-- ---- operators, which are at fault only if their operands have types or constant values

abbrev pub Fails : Result Worth Misuse → Nodes → Nodes → ℕ → Violation → Type 0
Fails (Ok made) left right end violation = ⊥
Fails (Err misuse) left right end violation = IsMisuse misuse left right end violation

abbrev pub UnaryHas : UnaryOperator → Option Worth → Nodes → ℕ → Violation → Type 0
UnaryHas operator None nodes end violation = ⊥
UnaryHas operator (Some a) nodes end violation = Fails (unary_worth operator a) nodes nodes end violation

abbrev pub BinaryHas : BinaryOperator → Option Worth → Option Worth → Nodes → Nodes → ℕ → Violation → Type 0
BinaryHas operator None b left right end violation = ⊥
BinaryHas operator (Some a) None left right end violation = ⊥
BinaryHas operator (Some a) (Some b) left right end violation = Fails (binary_worth operator a b) left right end violation

-- ---- fields

abbrev pub SelectionHas : Globals → Option Worth → List ℕ → Nodes → ℕ → Violation → Type 0
SelectionHas globals None field nodes end violation = ⊥
SelectionHas globals (Some (Typed kind)) field nodes end violation = (field_of globals.structs kind field ≡ None) × IsBroken rules.Visible end violation
SelectionHas globals (Some (Constant value)) field nodes end violation = IsBroken rules.Visible end violation
SelectionHas globals (Some Nil) field nodes end violation = IsNilAt nodes violation

-- ---- several values for as many types

-- there are more or fewer values than types
abbrev pub NumbersHave : ℕ → ℕ → ℕ → Violation → Type 0
NumbersHave values places end violation = ((values == places) ≡ false) × IsBroken rules.Numbers end violation

-- one of these values does not fit its type
abbrev pub ValuesFail : Globals → Scope → ℕ → List Expression → List (Option ValueType) → Violation → Type 0
ValuesFail globals scope first [] kinds violation = ⊥
ValuesFail globals scope first (value ∷ rest) [] violation = ⊥
ValuesFail globals scope first (value ∷ rest) (kind ∷ kinds) violation =
    ValueHas (worth globals scope value) kind (nodes_of first value) violation
    ⊎ ValuesFail globals scope (first + expression_size value) rest kinds violation

-- the values do not agree with the types in number or type
abbrev pub PassedHave : Globals → Scope → ℕ → List Expression → List (Option ValueType) → ℕ → Violation → Type 0
PassedHave globals scope first values kinds end violation =
    NumbersHave (length values) (length kinds) end violation ⊎ ValuesFail globals scope first values kinds violation

abbrev pub field_kinds : List Field → List (Option ValueType)
field_kinds fields = map (λ (field : Field). field.kind) fields

-- T{} is the zero value; else all fields are given in order
abbrev pub FieldsHave : Globals → Scope → ℕ → List Expression → List (Option ValueType) → ℕ → Violation → Type 0
FieldsHave globals scope first [] kinds end violation = ⊥
FieldsHave globals scope first (value ∷ rest) kinds end violation = PassedHave globals scope first (value ∷ rest) kinds end violation

abbrev pub LiteralHas : Globals → Scope → Option ℕ → ℕ → List Expression → ℕ → Violation → Type 0
LiteralHas globals scope None first values end violation = IsBroken rules.Visible end violation
LiteralHas globals scope (Some number) first values end violation =
    FieldsHave globals scope first values (field_kinds (fields_of globals.structs number)) end violation

-- ---- operations

-- a name in a type, which is its first node, is no type's
abbrev pub TypeHas : Option ValueType → ℕ → Violation → Type 0
TypeHas None first violation = IsBroken rules.Visible (first + 1) violation
TypeHas (Some t) first violation = ⊥

-- the call is the last node before a number
abbrev pub CalleeHas : Globals → Scope → Callee → ℕ → List Expression → ℕ → Violation → Type 0
CalleeHas globals scope NotDeclared first values end violation = IsBroken rules.Visible end violation
CalleeHas globals scope NoFunction first values end violation = IsBroken rules.Called end violation
CalleeHas globals scope (IsFunction number) first values end violation = PassedHave globals scope first values (parameters_of globals number) end violation

-- a call that is used as a value, and the last node before a number, has no result
abbrev pub YieldHas : Yield → ℕ → Violation → Type 0
YieldHas NoResult end violation = IsBroken rules.Called end violation
YieldHas (Yields kind) end violation = ⊥

abbrev pub ResultHas : Globals → Callee → ℕ → Violation → Type 0
ResultHas globals (IsFunction number) end violation = YieldHas (result_of globals number) end violation
ResultHas globals callee end violation = ⊥

abbrev pub MadeHas : Option ValueType → ℕ → Violation → Type 0
MadeHas None end violation = ⊥
MadeHas (Some t) end violation = (is_channel_type t ≡ false) × IsBroken rules.Made end violation

-- the size of a channel's buffer
abbrev pub SizeHas : Option Worth → Nodes → Violation → Type 0
SizeHas None nodes violation = ⊥
SizeHas (Some (Typed kind)) nodes violation = (is_int_type kind ≡ false) × IsBroken rules.Made nodes.end violation
SizeHas (Some (Constant value)) nodes violation =
    ((is_int value ≡ false) × IsBroken rules.Constant nodes.end violation)
    ⊎ (((is_int value && is_negative value) ≡ true) × IsBroken rules.Made nodes.end violation)
SizeHas (Some Nil) nodes violation = IsNilAt nodes violation

-- the operand of an operation on channels is no channel
abbrev pub ChannelHas : Option Worth → Nodes → Violation → Type 0
ChannelHas None nodes violation = ⊥
ChannelHas (Some w) nodes violation = (element_of (Some w) ≡ None) × IsBroken rules.Channel nodes.end violation

-- one may not receive from the channel, or neither send on it nor close it
abbrev pub ReceivedHas : Option Worth → ℕ → Violation → Type 0
ReceivedHas (Some (Typed kind)) end violation = (only_sends kind ≡ true) × IsBroken rules.Direction end violation
ReceivedHas worth end violation = ⊥

-- ---- expressions

abbrev mutual
  pub ExpressionHas : Globals → Scope → ℕ → Expression → Violation → Type 0
  ExpressionHas globals scope first (Integer value) violation = (literal value ≡ None) × IsExceeded limits.ConstantSize (first + 1) violation
  ExpressionHas globals scope first (Named name) violation = (is_operand scope name ≡ false) × IsBroken rules.Visible (first + 1) violation
  ExpressionHas globals scope first (Parenthesized inner) violation = ExpressionHas globals scope first inner violation
  ExpressionHas globals scope first (Selection whole field) violation =
      ExpressionHas globals scope first whole violation
      ⊎ SelectionHas globals (worth globals scope whole) field (nodes_of first whole) (first + expression_size (Selection whole field)) violation
  ExpressionHas globals scope first (Composite name values trailing) violation =
      ExpressionsHave globals scope first values violation
      ⊎ LiteralHas globals scope (literal_struct globals scope name) first (expressions_in values) (first + expression_size (Composite name values trailing)) violation
  ExpressionHas globals scope first (Unary operator operand) violation =
      ExpressionHas globals scope first operand violation
      ⊎ UnaryHas operator (worth globals scope operand) (nodes_of first operand) (first + expression_size (Unary operator operand)) violation
  ExpressionHas globals scope first (Binary operator left right) violation =
      ExpressionHas globals scope first left violation
      ⊎ (ExpressionHas globals scope (first + expression_size left) right violation
      ⊎ BinaryHas operator (worth globals scope left) (worth globals scope right) (nodes_of first left) (nodes_of (first + expression_size left) right) (first + expression_size (Binary operator left right)) violation)
  ExpressionHas globals scope first (Call function values trailing) violation =
      (ExpressionsHave globals scope first values violation
      ⊎ CalleeHas globals scope (callee globals scope function) first (expressions_in values) (first + expression_size (Call function values trailing)) violation)
      ⊎ ResultHas globals (callee globals scope function) (first + expression_size (Call function values trailing)) violation
  ExpressionHas globals scope first (Receive channel) violation =
      ExpressionHas globals scope first channel violation
      ⊎ (ChannelHas (worth globals scope channel) (nodes_of first channel) violation
      ⊎ ReceivedHas (worth globals scope channel) (first + expression_size channel + 1) violation)
  ExpressionHas globals scope first (Make kind) violation =
      TypeHas (type_in globals.types scope kind) first violation ⊎ MadeHas (type_in globals.types scope kind) (first + expression_size (Make kind)) violation
  ExpressionHas globals scope first (MakeSized kind size) violation =
      TypeHas (type_in globals.types scope kind) first violation
      ⊎ (ExpressionHas globals scope (first + type_size kind) size violation
      ⊎ (SizeHas (worth globals scope size) (nodes_of (first + type_size kind) size) violation
      ⊎ MadeHas (type_in globals.types scope kind) (first + expression_size (MakeSized kind size)) violation))
  ExpressionHas globals scope first (Length channel) violation =
      ExpressionHas globals scope first channel violation ⊎ ChannelHas (worth globals scope channel) (nodes_of first channel) violation
  ExpressionHas globals scope first (Capacity channel) violation =
      ExpressionHas globals scope first channel violation ⊎ ChannelHas (worth globals scope channel) (nodes_of first channel) violation

  -- something is wrong with one of them
  pub ExpressionsHave : Globals → Scope → ℕ → Expressions → Violation → Type 0
  ExpressionsHave globals scope first NoMore violation = ⊥
  ExpressionsHave globals scope first (Following value rest) violation =
      ExpressionHas globals scope first value violation ⊎ ExpressionsHave globals scope (first + expression_size value) rest violation

-- ---- operands

-- a condition is no bool
abbrev pub ConditionHas : Option Worth → Nodes → Violation → Type 0
ConditionHas None nodes violation = ⊥
ConditionHas (Some (Typed kind)) nodes violation = (is_bool_type kind ≡ false) × IsBroken rules.Condition nodes.end violation
ConditionHas (Some (Constant value)) nodes violation = IsBroken rules.Condition nodes.end violation
ConditionHas (Some Nil) nodes violation = IsNilAt nodes violation

abbrev pub TestHas : Globals → Scope → ℕ → Expression → Violation → Type 0
TestHas globals scope first condition violation =
    ExpressionHas globals scope first condition violation ⊎ ConditionHas (worth globals scope condition) (nodes_of first condition) violation

abbrev pub SentHas : Option Worth → ℕ → Violation → Type 0
SentHas (Some (Typed kind)) end violation = (only_receives kind ≡ true) × IsBroken rules.Direction end violation
SentHas worth end violation = ⊥

-- the type that a variable takes from its value
abbrev pub default_type : Option Worth → Option ValueType
default_type (Some (Typed kind)) = Some kind
default_type (Some (Constant value)) = Some IntType
default_type worth = None

-- what is printed is an int or a bool
abbrev pub PrintedHas : Option Worth → Nodes → Violation → Type 0
PrintedHas None nodes violation = ⊥
PrintedHas (Some (Typed IntType)) nodes violation = ⊥
PrintedHas (Some (Typed BoolType)) nodes violation = ⊥
PrintedHas (Some (Typed (StructType number))) nodes violation = IsBroken rules.Called nodes.end violation
PrintedHas (Some (Typed (ChannelType direction element))) nodes violation = IsBroken rules.Called nodes.end violation
PrintedHas (Some (Constant value)) nodes violation = (is_int value ≡ false) × IsBroken rules.Constant nodes.end violation
PrintedHas (Some Nil) nodes violation = IsNilAt nodes violation
