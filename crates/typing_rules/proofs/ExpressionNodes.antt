-- A violation's node is one of the expression's.
use Rattle.std.proofs.Common.{◌≡◌, ℕ, ◌+◌, ◌<◌, ◌≤◌, inl, inr, List, [], ◌∷◌, Option, Some, None, Result, Ok, Err, length, sum_by, refl, arith}
use Rattle.std.proofs.lemmas.List.Sums.{sum_by-cons}
use Rattle.go_text.specs.declared.rule.Rule.{Rule}
use Rattle.go_text.specs.declared.rule.LimitKind.{LimitKind}
use Rattle.syntax.specs.declared.node.UnaryOperator.{UnaryOperator}
use Rattle.syntax.specs.declared.node.BinaryOperator.{BinaryOperator}
use Rattle.syntax.specs.Tree.{Expression, Integer, Named, Parenthesized, Selection, Composite, Unary, Binary, Call, Receive, Make, MakeSized, Length, Capacity, Expressions, NoMore, Following, expressions_in, TypeExpression, NamedType, ParenthesizedType, Channel}
use Rattle.syntax.specs.Measures.{type_size, expression_size, expressions_size}
use Rattle.type_table.specs.Types.{ValueType}
use Rattle.type_table.specs.Containment.{fields_of}
use Rattle.type_table.specs.Scopes.{Globals, Scope, Yield, NoResult, Yields, type_in}
use Rattle.typing_rules.specs.Calls.{Callee, NotDeclared, NoFunction, IsFunction, callee, parameters_of, result_of}
use Rattle.typing_rules.specs.declared.violation.Violation.{Violation}
use Rattle.typing_rules.specs.declared.violation.Violation.TheVariants.{Broken, Exceeded}
use Rattle.typing_rules.specs.declared.violation.Misuse.{Misuse}
use Rattle.typing_rules.specs.declared.violation.Misuse.TheVariants as misuses
use Rattle.typing_rules.specs.Violations.{Nodes, IsBroken, IsExceeded, IsMisuse}
use Rattle.typing_rules.specs.Worths.{Worth, Typed, Constant, Nil, unary_worth, binary_worth, literal_struct, worth}
use Rattle.typing_rules.specs.Expressions.{nodes_of, FitHas, ValueHas, DefaultHas, Fails, UnaryHas, BinaryHas, SelectionHas, NumbersHave, ValuesFail, PassedHave, field_kinds, FieldsHave, LiteralHas, ExpressionHas, ExpressionsHave, ConditionHas, TestHas, TypeHas, CalleeHas, YieldHas, ResultHas, MadeHas, SizeHas, ChannelHas, ReceivedHas, SentHas}
use Rattle.typing_rules.specs.Nodes.{node_of}

pub broken : (rule : Rule) (end : ℕ) (violation : Violation) → IsBroken rule end violation → node_of violation + 1 ≡ end
broken rule end (Broken r n) has = has.1
broken rule end (Exceeded k n) has = absurd has

pub exceeded : (kind : LimitKind) (end : ℕ) (violation : Violation) → IsExceeded kind end violation → node_of violation + 1 ≡ end
exceeded kind end (Broken r n) has = absurd has
exceeded kind end (Exceeded k n) has = has.1

pub expression_positive : (e : Expression) → 1 ≤ expression_size e
expression_positive (Integer value) = omega arith
expression_positive (Named name) = omega arith
expression_positive (Parenthesized inner) = omega arith
expression_positive (Selection whole field) = omega arith
expression_positive (Composite name vs trailing) = omega arith
expression_positive (Unary operator operand) = omega arith
expression_positive (Binary operator left right) = omega arith
expression_positive (Call function vs trailing) = omega arith
expression_positive (Receive channel) = omega arith
expression_positive (Make kind) = omega arith
expression_positive (MakeSized kind size) = omega arith
expression_positive (Length channel) = omega arith
expression_positive (Capacity channel) = omega arith

pub type_positive : (t : TypeExpression) → 1 ≤ type_size t
type_positive (NamedType name) = omega arith
type_positive (ParenthesizedType inner) = omega arith
type_positive (Channel direction element) = omega arith

-- ---- values that must fit a type

pub fit_within : (w : Worth) (t : ValueType) (nodes : Nodes) (violation : Violation) → nodes.first < nodes.end → FitHas w t nodes violation → node_of violation < nodes.end
fit_within (Typed s) t nodes violation le has = omega (arith, broken _ nodes.end violation has.1)
fit_within (Constant value) t nodes violation le (inl has) = omega (arith, broken _ nodes.end violation has.1)
fit_within (Constant value) t nodes violation le (inr has) = omega (arith, broken _ nodes.end violation has.1)
fit_within Nil t nodes violation le has = omega (arith, broken _ (nodes.first + 1) violation has.1, le)

pub value_within : (w : Option Worth) (t : Option ValueType) (nodes : Nodes) (violation : Violation) → nodes.first < nodes.end → ValueHas w t nodes violation → node_of violation < nodes.end
value_within None t nodes violation le has = absurd has
value_within (Some w) None nodes violation le has = absurd has
value_within (Some w) (Some t) nodes violation le has = fit_within w t nodes violation le has

pub default_within : (w : Option Worth) (nodes : Nodes) (violation : Violation) → nodes.first < nodes.end → DefaultHas w nodes violation → node_of violation < nodes.end
default_within None nodes violation le has = absurd has
default_within (Some (Typed s)) nodes violation le has = absurd has
default_within (Some (Constant value)) nodes violation le has = omega (arith, broken _ nodes.end violation has.1)
default_within (Some Nil) nodes violation le has = omega (arith, broken _ (nodes.first + 1) violation has, le)

-- ---- operators

misuse_within : (m : Misuse) (left right : Nodes) (end : ℕ) (violation : Violation) → left.first < end → left.end ≤ end → right.first < end → right.end ≤ end → IsMisuse m left right end violation → node_of violation < end
misuse_within misuses.Operands left right end violation a b c d has = omega (arith, broken _ end violation has)
misuse_within misuses.Size left right end violation a b c d has = omega (arith, exceeded _ end violation has)
misuse_within misuses.Right left right end violation a b c d has = omega (arith, broken _ end violation has)
misuse_within misuses.LeftConstant left right end violation a b c d has = omega (arith, broken _ left.end violation has, b)
misuse_within misuses.RightConstant left right end violation a b c d has = omega (arith, broken _ right.end violation has, d)
misuse_within misuses.LeftNil left right end violation a b c d has = omega (arith, broken _ (left.first + 1) violation has, a)
misuse_within misuses.RightNil left right end violation a b c d has = omega (arith, broken _ (right.first + 1) violation has, c)

pub fails_within : (result : Result Worth Misuse) (left right : Nodes) (end : ℕ) (violation : Violation) → left.first < end → left.end ≤ end → right.first < end → right.end ≤ end → Fails result left right end violation → node_of violation < end
fails_within (Ok made) left right end violation a b c d has = absurd has
fails_within (Err m) left right end violation a b c d has = misuse_within m left right end violation a b c d has

unary_within : (operator : UnaryOperator) (w : Option Worth) (nodes : Nodes) (end : ℕ) (violation : Violation) → nodes.first < end → nodes.end ≤ end → UnaryHas operator w nodes end violation → node_of violation < end
unary_within operator None nodes end violation a b has = absurd has
unary_within operator (Some w) nodes end violation a b has = fails_within (unary_worth operator w) nodes nodes end violation a b a b has

binary_within : (operator : BinaryOperator) (w v : Option Worth) (left right : Nodes) (end : ℕ) (violation : Violation) → left.first < end → left.end ≤ end → right.first < end → right.end ≤ end → BinaryHas operator w v left right end violation → node_of violation < end
binary_within operator None v left right end violation a b c d has = absurd has
binary_within operator (Some w) None left right end violation a b c d has = absurd has
binary_within operator (Some w) (Some v) left right end violation a b c d has = fails_within (binary_worth operator w v) left right end violation a b c d has

-- ---- fields

selection_within : (globals : Globals) (w : Option Worth) (field : List ℕ) (nodes : Nodes) (end : ℕ) (violation : Violation) → nodes.first < end → SelectionHas globals w field nodes end violation → node_of violation < end
selection_within globals None field nodes end violation le has = absurd has
selection_within globals (Some (Typed kind)) field nodes end violation le has = omega (arith, broken _ end violation has.1)
selection_within globals (Some (Constant value)) field nodes end violation le has = omega (arith, broken _ end violation has)
selection_within globals (Some Nil) field nodes end violation le has = omega (arith, broken _ (nodes.first + 1) violation has, le)

-- ---- several values

pub numbers_within : (values places end : ℕ) (violation : Violation) → NumbersHave values places end violation → node_of violation < end
numbers_within values places end violation has = omega (arith, broken _ end violation has.1)

values_within : (globals : Globals) (scope : Scope) (vs : List Expression) (kinds : List (Option ValueType)) (first : ℕ) (violation : Violation) → ValuesFail globals scope first vs kinds violation → node_of violation < first + sum_by expression_size vs
values_within globals scope [] kinds first violation has = absurd has
values_within globals scope (v ∷ rest) [] first violation has = absurd has
values_within globals scope (v ∷ rest) (kind ∷ kinds) first violation (inl has) =
    let small = value_within (worth globals scope v) kind (nodes_of first v) violation (omega (arith, expression_positive v)) has in
    omega (arith, small, sum_by-cons expression_size v rest)
values_within globals scope (v ∷ rest) (kind ∷ kinds) first violation (inr has) = omega (arith, values_within globals scope rest kinds (first + expression_size v) violation has, sum_by-cons expression_size v rest)

pub passed_within : (globals : Globals) (scope : Scope) (vs : List Expression) (kinds : List (Option ValueType)) (first end : ℕ) (violation : Violation) → first + sum_by expression_size vs ≤ end → PassedHave globals scope first vs kinds end violation → node_of violation < end
passed_within globals scope vs kinds first end violation le (inl has) = numbers_within (length vs) (length kinds) end violation has
passed_within globals scope vs kinds first end violation le (inr has) = omega (arith, values_within globals scope vs kinds first violation has, le)

fields_within : (globals : Globals) (scope : Scope) (vs : List Expression) (kinds : List (Option ValueType)) (first end : ℕ) (violation : Violation) → first + sum_by expression_size vs ≤ end → FieldsHave globals scope first vs kinds end violation → node_of violation < end
fields_within globals scope [] kinds first end violation le has = absurd has
fields_within globals scope (v ∷ rest) kinds first end violation le has = passed_within globals scope (v ∷ rest) kinds first end violation le has

literal_within : (globals : Globals) (scope : Scope) (o : Option ℕ) (vs : List Expression) (first end : ℕ) (violation : Violation) → first + sum_by expression_size vs ≤ end → LiteralHas globals scope o first vs end violation → node_of violation < end
literal_within globals scope None vs first end violation le has = omega (arith, broken _ end violation has)
literal_within globals scope (Some number) vs first end violation le has = fields_within globals scope vs (field_kinds (fields_of globals.structs number)) first end violation le has

size_in : (vs : Expressions) → sum_by expression_size (expressions_in vs) ≡ expressions_size vs
size_in NoMore = refl
size_in (Following v rest) = omega (arith, size_in rest, sum_by-cons expression_size v (expressions_in rest))

-- ---- operations

pub type_within : (t : Option ValueType) (first : ℕ) (violation : Violation) → TypeHas t first violation → node_of violation < first + 1
type_within None first violation has = omega (arith, broken _ (first + 1) violation has)
type_within (Some t) first violation has = absurd has

pub callee_within : (globals : Globals) (scope : Scope) (c : Callee) (vs : List Expression) (first end : ℕ) (violation : Violation) → first + sum_by expression_size vs ≤ end → CalleeHas globals scope c first vs end violation → node_of violation < end
callee_within globals scope NotDeclared vs first end violation le has = omega (arith, broken _ end violation has)
callee_within globals scope NoFunction vs first end violation le has = omega (arith, broken _ end violation has)
callee_within globals scope (IsFunction number) vs first end violation le has = passed_within globals scope vs (parameters_of globals number) first end violation le has

yield_within : (y : Yield) (end : ℕ) (violation : Violation) → YieldHas y end violation → node_of violation < end
yield_within NoResult end violation has = omega (arith, broken _ end violation has)
yield_within (Yields kind) end violation has = absurd has

result_within : (globals : Globals) (c : Callee) (end : ℕ) (violation : Violation) → ResultHas globals c end violation → node_of violation < end
result_within globals NotDeclared end violation has = absurd has
result_within globals NoFunction end violation has = absurd has
result_within globals (IsFunction number) end violation has = yield_within (result_of globals number) end violation has

made_within : (t : Option ValueType) (end : ℕ) (violation : Violation) → MadeHas t end violation → node_of violation < end
made_within None end violation has = absurd has
made_within (Some t) end violation has = omega (arith, broken _ end violation has.1)

size_within : (w : Option Worth) (nodes : Nodes) (violation : Violation) → nodes.first < nodes.end → SizeHas w nodes violation → node_of violation < nodes.end
size_within None nodes violation le has = absurd has
size_within (Some (Typed kind)) nodes violation le has = omega (arith, broken _ nodes.end violation has.1)
size_within (Some (Constant value)) nodes violation le (inl has) = omega (arith, broken _ nodes.end violation has.1)
size_within (Some (Constant value)) nodes violation le (inr has) = omega (arith, broken _ nodes.end violation has.1)
size_within (Some Nil) nodes violation le has = omega (arith, broken _ (nodes.first + 1) violation has, le)

pub channel_within : (w : Option Worth) (nodes : Nodes) (violation : Violation) → ChannelHas w nodes violation → node_of violation < nodes.end
channel_within None nodes violation has = absurd has
channel_within (Some w) nodes violation has = omega (arith, broken _ nodes.end violation has.1)

pub received_within : (w : Option Worth) (end : ℕ) (violation : Violation) → ReceivedHas w end violation → node_of violation < end
received_within None end violation has = absurd has
received_within (Some (Typed kind)) end violation has = omega (arith, broken _ end violation has.1)
received_within (Some (Constant value)) end violation has = absurd has
received_within (Some Nil) end violation has = absurd has

-- ---- expressions

mutual
  pub expression_within : (globals : Globals) (scope : Scope) (e : Expression) (first : ℕ) (violation : Violation) → ExpressionHas globals scope first e violation → node_of violation < first + expression_size e
  expression_within globals scope (Integer value) first violation has = omega (arith, exceeded _ (first + 1) violation has.1)
  expression_within globals scope (Named name) first violation has = omega (arith, broken _ (first + 1) violation has.1)
  expression_within globals scope (Parenthesized inner) first violation has = omega (arith, expression_within globals scope inner first violation has)
  expression_within globals scope (Selection whole field) first violation (inl has) = omega (arith, expression_within globals scope whole first violation has)
  expression_within globals scope (Selection whole field) first violation (inr has) =
      selection_within globals (worth globals scope whole) field (nodes_of first whole) (first + expression_size (Selection whole field)) violation (omega arith) has
  expression_within globals scope (Composite name vs trailing) first violation (inl has) = omega (arith, expressions_within globals scope vs first violation has)
  expression_within globals scope (Composite name vs trailing) first violation (inr has) =
      literal_within globals scope (literal_struct globals scope name) (expressions_in vs) first (first + expression_size (Composite name vs trailing)) violation (omega (arith, size_in vs)) has
  expression_within globals scope (Unary operator operand) first violation (inl has) = omega (arith, expression_within globals scope operand first violation has)
  expression_within globals scope (Unary operator operand) first violation (inr has) = unary_within operator (worth globals scope operand) (nodes_of first operand) (first + expression_size (Unary operator operand)) violation (omega arith) (omega arith) has
  expression_within globals scope (Binary operator left right) first violation (inl has) = omega (arith, expression_within globals scope left first violation has)
  expression_within globals scope (Binary operator left right) first violation (inr (inl has)) = omega (arith, expression_within globals scope right (first + expression_size left) violation has)
  expression_within globals scope (Binary operator left right) first violation (inr (inr has)) =
      binary_within operator (worth globals scope left) (worth globals scope right) (nodes_of first left) (nodes_of (first + expression_size left) right) (first + expression_size (Binary operator left right)) violation
      (omega arith) (omega arith) (omega arith) (omega arith) has
  expression_within globals scope (Call function vs trailing) first violation (inl (inl has)) = omega (arith, expressions_within globals scope vs first violation has)
  expression_within globals scope (Call function vs trailing) first violation (inl (inr has)) =
      callee_within globals scope (callee globals scope function) (expressions_in vs) first (first + expression_size (Call function vs trailing)) violation (omega (arith, size_in vs)) has
  expression_within globals scope (Call function vs trailing) first violation (inr has) = result_within globals (callee globals scope function) (first + expression_size (Call function vs trailing)) violation has
  expression_within globals scope (Receive channel) first violation (inl has) = omega (arith, expression_within globals scope channel first violation has)
  expression_within globals scope (Receive channel) first violation (inr (inl has)) = let small = channel_within (worth globals scope channel) (nodes_of first channel) violation has in omega (arith, small)
  expression_within globals scope (Receive channel) first violation (inr (inr has)) = omega (arith, received_within (worth globals scope channel) (first + expression_size channel + 1) violation has)
  expression_within globals scope (Make kind) first violation (inl has) = omega (arith, type_within (type_in globals.types scope kind) first violation has, type_positive kind)
  expression_within globals scope (Make kind) first violation (inr has) = made_within (type_in globals.types scope kind) (first + expression_size (Make kind)) violation has
  expression_within globals scope (MakeSized kind size) first violation (inl has) = omega (arith, type_within (type_in globals.types scope kind) first violation has, type_positive kind)
  expression_within globals scope (MakeSized kind size) first violation (inr (inl has)) = omega (arith, expression_within globals scope size (first + type_size kind) violation has)
  expression_within globals scope (MakeSized kind size) first violation (inr (inr (inl has))) =
      let small = size_within (worth globals scope size) (nodes_of (first + type_size kind) size) violation (omega (arith, expression_positive size)) has in omega (arith, small)
  expression_within globals scope (MakeSized kind size) first violation (inr (inr (inr has))) = made_within (type_in globals.types scope kind) (first + expression_size (MakeSized kind size)) violation has
  expression_within globals scope (Length channel) first violation (inl has) = omega (arith, expression_within globals scope channel first violation has)
  expression_within globals scope (Length channel) first violation (inr has) = let small = channel_within (worth globals scope channel) (nodes_of first channel) violation has in omega (arith, small)
  expression_within globals scope (Capacity channel) first violation (inl has) = omega (arith, expression_within globals scope channel first violation has)
  expression_within globals scope (Capacity channel) first violation (inr has) = let small = channel_within (worth globals scope channel) (nodes_of first channel) violation has in omega (arith, small)

  pub expressions_within : (globals : Globals) (scope : Scope) (vs : Expressions) (first : ℕ) (violation : Violation) → ExpressionsHave globals scope first vs violation → node_of violation < first + expressions_size vs
  expressions_within globals scope NoMore first violation has = absurd has
  expressions_within globals scope (Following v rest) first violation (inl has) = omega (arith, expression_within globals scope v first violation has)
  expressions_within globals scope (Following v rest) first violation (inr has) = omega (arith, expressions_within globals scope rest (first + expression_size v) violation has)

-- ---- operands

pub condition_within : (w : Option Worth) (nodes : Nodes) (violation : Violation) → nodes.first < nodes.end → ConditionHas w nodes violation → node_of violation < nodes.end
condition_within None nodes violation le has = absurd has
condition_within (Some (Typed kind)) nodes violation le has = omega (arith, broken _ nodes.end violation has.1)
condition_within (Some (Constant value)) nodes violation le has = omega (arith, broken _ nodes.end violation has)
condition_within (Some Nil) nodes violation le has = omega (arith, broken _ (nodes.first + 1) violation has, le)

pub test_within : (globals : Globals) (scope : Scope) (e : Expression) (first : ℕ) (violation : Violation) → TestHas globals scope first e violation → node_of violation < first + expression_size e
test_within globals scope e first violation (inl has) = expression_within globals scope e first violation has
test_within globals scope e first violation (inr has) = condition_within (worth globals scope e) (nodes_of first e) violation (omega (arith, expression_positive e)) has

pub sent_within : (w : Option Worth) (end : ℕ) (violation : Violation) → SentHas w end violation → node_of violation < end
sent_within None end violation has = absurd has
sent_within (Some (Typed kind)) end violation has = omega (arith, broken _ end violation has.1)
sent_within (Some (Constant value)) end violation has = absurd has
sent_within (Some Nil) end violation has = absurd has
