-- A violation's node is one of the simple statement's.
use Rattle.std.proofs.Common.{ℕ, zero, suc, ◌+◌, ◌<◌, ◌≤◌, inl, inr, List, [], ◌∷◌, Option, Some, None, length, sum_by, arith, pos, true}
use Rattle.std.specs.Option.{is_none}
use Rattle.std.specs.Result.{result_ok}
use Rattle.std.proofs.lemmas.List.Sums.{sum_by-cons}
use Rattle.syntax.specs.declared.node.BinaryOperator.{BinaryOperator}
use Rattle.syntax.specs.declared.node.BinaryOperator.TheVariants as ops
use Rattle.syntax.specs.Tree.{TypeExpression, Expression, Receive, Part, Value, Text, Place, Simple, CallAlone, Close, Print, ReceiveAlone, Send, Increment, Decrement, Assign, Define, Update, Comm, CommSend, CommReceive, CommDefine, CommAssign}
use Rattle.syntax.specs.Measures.{if_any, type_size, expression_size, part_size, simple_size, comm_size}
use Rattle.type_table.specs.Types.{ValueType}
use Rattle.type_table.specs.Scopes.{Scope, Globals, own_variable, type_in}
use Rattle.typing_rules.specs.declared.violation.Violation.{Violation}
use Rattle.typing_rules.specs.Violations.{Nodes}
use Rattle.typing_rules.specs.Worths.{Worth, Typed, Constant, Nil, kind_of, binary_worth, worth}
use Rattle.type_table.specs.Types.{IntType, BoolType, StructType, ChannelType}
use Rattle.typing_rules.specs.Expressions.{PrintedHas, nodes_of, element_of}
use Rattle.typing_rules.specs.Operations.{Given, given, place_type}
use Rattle.typing_rules.specs.Simples.{PartHas, PartsHave, UpdatedHas, StepHas, NamesFail, DefaultsFail, DefinedHave, VariablesHave, AllFail, IfRightHas, SimpleHas, comm_simple, TypedVariablesHave, UntypedVariablesHave}
use Rattle.typing_rules.specs.Nodes.{node_of}
use Rattle.typing_rules.proofs.ExpressionNodes.{broken, expression_positive, type_positive, value_within, fails_within, numbers_within, expression_within, channel_within, sent_within, type_within}
use Rattle.typing_rules.proofs.OperationNodes.{call_within, receive_within, measured_within, AreWithin, given_are, right_within, read_place_within, goes_within, places_fail_within, places_within}

printed_within : (w : Option Worth) (nodes : Nodes) (violation : Violation) → nodes.first < nodes.end → PrintedHas w nodes violation → node_of violation < nodes.end
printed_within None nodes violation le has = absurd has
printed_within (Some (Typed IntType)) nodes violation le has = absurd has
printed_within (Some (Typed BoolType)) nodes violation le has = absurd has
printed_within (Some (Typed (StructType number))) nodes violation le has = omega (arith, broken _ nodes.end violation has)
printed_within (Some (Typed (ChannelType direction element))) nodes violation le has = omega (arith, broken _ nodes.end violation has)
printed_within (Some (Constant value)) nodes violation le has = omega (arith, broken _ nodes.end violation has.1)
printed_within (Some Nil) nodes violation le has = omega (arith, broken _ (nodes.first + 1) violation has, le)

part_within : (globals : Globals) (scope : Scope) (p : Part) (first : ℕ) (violation : Violation) → PartHas globals scope first p violation → node_of violation < first + part_size p
part_within globals scope (Value value) first violation (inl has) = expression_within globals scope value first violation has
part_within globals scope (Value value) first violation (inr has) = printed_within (worth globals scope value) (nodes_of first value) violation (omega (arith, expression_positive value)) has
part_within globals scope (Text bytes) first violation has = absurd has

parts_within : (globals : Globals) (scope : Scope) (ps : List Part) (first : ℕ) (violation : Violation) → PartsHave globals scope first ps violation → node_of violation < first + sum_by part_size ps
parts_within globals scope [] first violation has = absurd has
parts_within globals scope (p ∷ ps) first violation (inl has) = omega (arith, part_within globals scope p first violation has, sum_by-cons part_size p ps)
parts_within globals scope (p ∷ ps) first violation (inr has) = omega (arith, parts_within globals scope ps (first + part_size p) violation has, sum_by-cons part_size p ps)

updated_within : (operator : BinaryOperator) (kind : Option ValueType) (w : Option Worth) (nodes : Nodes) (end : ℕ) (violation : Violation) → nodes.first < nodes.end → nodes.end ≤ end → UpdatedHas operator kind w nodes end violation → node_of violation < end
updated_within operator None w nodes end violation a b has = absurd has
updated_within operator (Some kind) None nodes end violation a b has = absurd has
updated_within operator (Some kind) (Some w) nodes end violation a b (inl has) =
    let before : nodes.first < end = omega (arith, a, b) in fails_within (binary_worth operator (Typed kind) w) nodes nodes end violation before b before b has
updated_within operator (Some kind) (Some w) nodes end violation a b (inr has) =
    omega (arith, value_within (result_ok (binary_worth operator (Typed kind) w)) (Some kind) nodes violation a has, b)

step_within : (globals : Globals) (scope : Scope) (p : Place) (first : ℕ) (violation : Violation) → StepHas globals scope first p violation → node_of violation < first + 2
step_within globals scope p first violation (inl has) = omega (arith, read_place_within globals scope p first violation has)
step_within globals scope p first violation (inr has) =
    updated_within ops.Add (place_type globals scope p) (Some (Constant (pos 1))) (record { first = first; end = first + 1 }) (first + 2) violation (omega arith) (omega arith) has

-- ---- declarations

names_fail_within : (scope : Scope) (names : List (List ℕ)) (gs : List Given) (end : ℕ) (violation : Violation) → AreWithin end gs → NamesFail scope names gs violation → node_of violation < end
names_fail_within scope [] gs end violation all has = absurd has
names_fail_within scope (name ∷ names) [] end violation all has = absurd has
names_fail_within scope (name ∷ names) (g ∷ gs) end violation all (inl has) =
    let small = goes_within (is_none (own_variable scope name)) g (kind_of (own_variable scope name)) violation all.0.0 has in omega (arith, small, all.0.1)
names_fail_within scope (name ∷ names) (g ∷ gs) end violation all (inr has) = names_fail_within scope names gs end violation all.1 has

defaults_within : (names : List (List ℕ)) (gs : List Given) (end : ℕ) (violation : Violation) → AreWithin end gs → DefaultsFail names gs violation → node_of violation < end
defaults_within [] gs end violation all has = absurd has
defaults_within (name ∷ names) [] end violation all has = absurd has
defaults_within (name ∷ names) (g ∷ gs) end violation all (inl has) = let small = goes_within true g None violation all.0.0 has in omega (arith, small, all.0.1)
defaults_within (name ∷ names) (g ∷ gs) end violation all (inr has) = defaults_within names gs end violation all.1 has

pub defined_within : (scope : Scope) (names : List (List ℕ)) (end : ℕ) (violation : Violation) → DefinedHave scope names end violation → node_of violation < end
defined_within scope names end violation (inl has) = omega (arith, broken _ end violation has.1)
defined_within scope names end violation (inr has) = omega (arith, broken _ end violation has.1)

variables_within : (scope : Scope) (names : List (List ℕ)) (end : ℕ) (violation : Violation) → VariablesHave scope names end violation → node_of violation < end
variables_within scope names end violation has = omega (arith, broken _ end violation has.1)

all_fail_within : (kind : Option ValueType) (n : ℕ) (gs : List Given) (end : ℕ) (violation : Violation) → AreWithin end gs → AllFail kind n gs violation → node_of violation < end
all_fail_within kind n [] end violation all has = absurd has
all_fail_within kind zero (g ∷ gs) end violation all has = absurd has
all_fail_within kind (suc n) (g ∷ gs) end violation all (inl has) =
    let small = value_within g.worth kind g.nodes violation all.0.0 has in omega (arith, small, all.0.1)
all_fail_within kind (suc n) (g ∷ gs) end violation all (inr has) = all_fail_within kind n gs end violation all.1 has

if_right_within : (globals : Globals) (scope : Scope) (names : ℕ) (kind : Option ValueType) (r : Option (List Expression)) (first : ℕ) (violation : Violation) → IfRightHas globals scope names kind first r violation → node_of violation < first + if_any (sum_by expression_size) r + 1
if_right_within globals scope names kind None first violation has = absurd has
if_right_within globals scope names kind (Some r) first violation (inl has) = omega (arith, right_within globals scope r first violation has)
if_right_within globals scope names kind (Some r) first violation (inr (inl has)) = omega (arith, numbers_within (length (given globals scope names first r)) names (first + sum_by expression_size r + 1) violation has)
if_right_within globals scope names kind (Some r) first violation (inr (inr has)) = omega (arith, all_fail_within kind names (given globals scope names first r) (first + sum_by expression_size r) violation (given_are globals scope names r first) has)

pub typed_within : (globals : Globals) (scope : Scope) (names : List (List ℕ)) (kind : TypeExpression) (r : Option (List Expression)) (first : ℕ) (violation : Violation) → TypedVariablesHave globals scope first names kind r violation → node_of violation < first + (type_size kind + if_any (sum_by expression_size) r + 1)
typed_within globals scope names kind r first violation (inl has) = omega (arith, type_within (type_in globals.types scope kind) first violation has, type_positive kind)
typed_within globals scope names kind r first violation (inr (inl has)) = omega (arith, if_right_within globals scope (length names) (type_in globals.types scope kind) r (first + type_size kind) violation has)
typed_within globals scope names kind r first violation (inr (inr has)) = omega (arith, variables_within scope names (first + type_size kind + if_any (sum_by expression_size) r + 1) violation has)

pub untyped_within : (globals : Globals) (scope : Scope) (names : List (List ℕ)) (r : List Expression) (first : ℕ) (violation : Violation) → UntypedVariablesHave globals scope first names r violation → node_of violation < first + (sum_by expression_size r + 1)
untyped_within globals scope names r first violation (inl has) = omega (arith, right_within globals scope r first violation has)
untyped_within globals scope names r first violation (inr (inl has)) = omega (arith, numbers_within (length (given globals scope (length names) first r)) (length names) (first + sum_by expression_size r + 1) violation has)
untyped_within globals scope names r first violation (inr (inr (inl has))) = omega (arith, variables_within scope names (first + sum_by expression_size r + 1) violation has)
untyped_within globals scope names r first violation (inr (inr (inr has))) = omega (arith, defaults_within names (given globals scope (length names) first r) (first + sum_by expression_size r) violation (given_are globals scope (length names) r first) has)

-- ---- simple statements

pub simple_within : (globals : Globals) (scope : Scope) (s : Simple) (first : ℕ) (violation : Violation) → SimpleHas globals scope first s violation → node_of violation < first + simple_size s
simple_within globals scope (CallAlone function arguments) first violation has = omega (arith, call_within globals scope function arguments first violation has)
simple_within globals scope (Close channel) first violation (inl has) = omega (arith, measured_within globals scope channel first violation has)
simple_within globals scope (Close channel) first violation (inr has) = omega (arith, sent_within (worth globals scope channel) (first + expression_size channel + 1) violation has)
simple_within globals scope (Print line parts trailing) first violation has = omega (arith, parts_within globals scope parts first violation has)
simple_within globals scope (ReceiveAlone channel) first violation has = omega (arith, receive_within globals scope channel first violation has)
simple_within globals scope (Send channel value) first violation (inl has) = omega (arith, expression_within globals scope channel first violation has)
simple_within globals scope (Send channel value) first violation (inr (inl has)) = omega (arith, expression_within globals scope value (first + expression_size channel) violation has)
simple_within globals scope (Send channel value) first violation (inr (inr (inl has))) =
    let small = channel_within (worth globals scope channel) (nodes_of first channel) violation has in omega (arith, small)
simple_within globals scope (Send channel value) first violation (inr (inr (inr (inl has)))) = sent_within (worth globals scope channel) (first + simple_size (Send channel value)) violation has
simple_within globals scope (Send channel value) first violation (inr (inr (inr (inr has)))) =
    let small = value_within (worth globals scope value) (element_of (worth globals scope channel)) (nodes_of (first + expression_size channel) value) violation (omega (arith, expression_positive value)) has in omega (arith, small)
simple_within globals scope (Increment place) first violation has = step_within globals scope place first violation has
simple_within globals scope (Decrement place) first violation has = step_within globals scope place first violation has
simple_within globals scope (Assign places r) first violation (inl has) = omega (arith, places_within globals scope places first violation has)
simple_within globals scope (Assign places r) first violation (inr (inl has)) = omega (arith, right_within globals scope r (first + length places) violation has)
simple_within globals scope (Assign places r) first violation (inr (inr (inl has))) = numbers_within (length (given globals scope (length places) (first + length places) r)) (length places) (first + simple_size (Assign places r)) violation has
simple_within globals scope (Assign places r) first violation (inr (inr (inr has))) = omega (arith, places_fail_within globals scope places (given globals scope (length places) (first + length places) r) (first + length places + sum_by expression_size r) violation (given_are globals scope (length places) r (first + length places)) has)
simple_within globals scope (Define names r) first violation (inl has) = omega (arith, right_within globals scope r first violation has)
simple_within globals scope (Define names r) first violation (inr (inl has)) = omega (arith, numbers_within (length (given globals scope (length names) first r)) (length names) (first + sum_by expression_size r + 1) violation has)
simple_within globals scope (Define names r) first violation (inr (inr (inl has))) = omega (arith, defined_within scope names (first + sum_by expression_size r + 1) violation has)
simple_within globals scope (Define names r) first violation (inr (inr (inr has))) = omega (arith, names_fail_within scope names (given globals scope (length names) first r) (first + sum_by expression_size r) violation (given_are globals scope (length names) r first) has)
simple_within globals scope (Update place operator value) first violation (inl has) = omega (arith, read_place_within globals scope place first violation has)
simple_within globals scope (Update place operator value) first violation (inr (inl has)) = omega (arith, expression_within globals scope value (first + 1) violation has)
simple_within globals scope (Update place operator value) first violation (inr (inr has)) =
    let small = updated_within operator (place_type globals scope place) (worth globals scope value) (nodes_of (first + 1) value) (first + 1 + expression_size value + 1) violation (omega (arith, expression_positive value)) (omega arith) has in omega (arith, small)

-- what a clause of a select waits for has at least the nodes of the simple statement that it is
pub comm_sized : (c : Comm) → simple_size (comm_simple c) ≤ comm_size c
comm_sized (CommSend channel value) = omega arith
comm_sized (CommReceive channel) = omega arith
comm_sized (CommDefine item None channel) = omega (arith, sum_by-cons expression_size (Receive channel) [])
comm_sized (CommDefine item (Some ok) channel) = omega (arith, sum_by-cons expression_size (Receive channel) [])
comm_sized (CommAssign item None channel) = omega (arith, sum_by-cons expression_size (Receive channel) [])
comm_sized (CommAssign item (Some ok) channel) = omega (arith, sum_by-cons expression_size (Receive channel) [])
