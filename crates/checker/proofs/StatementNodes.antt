-- A violation's node is one of the statement's.
use Rattle.std.proofs.Common.{◌≡◌, ℕ, ◌+◌, ◌<◌, ◌≤◌, inl, inr, ◌∷◌, [], Option, Some, None, option_map, refl, arith}
use Rattle.syntax.specs.Tree.{Expression, Simple, IfHead, Bare, Semicolon, First, Target, NoTarget, DefineTarget, AssignTarget, ForHead, Forever, While, ForClauses, Range, Comm, Returned, NoValue, ReturnedValue, Statement, Empty, Alone, VarTyped, VarUntyped, Block, If, For, Select, Go, Return, Break, Continue, Statements, NoStatement, Then, Branch, Conditional, Otherwise, NoElse, ElseBlock, ElseIf, Clauses, NoClause, Clause}
use Rattle.syntax.specs.Measures.{if_any, expression_size, simple_size, if_head_size, target_size, for_head_size, comm_size, returned_size, statement_size, statements_size, branch_size, otherwise_size, clauses_size}
use Rattle.type_table.specs.Scopes.{Scope, Globals, Yield, NoResult, Yields, is_blank, entered, left}
use Rattle.typing_rules.specs.declared.violation.Violation.{Violation}
use Rattle.typing_rules.specs.Worths.{worth}
use Rattle.typing_rules.specs.Expressions.{nodes_of}
use Rattle.typing_rules.specs.Operations.{Given, place_type}
use Rattle.typing_rules.specs.Simples.{comm_simple}
use Rattle.typing_rules.specs.Statements.{Setting, in_for, in_select, IfSimpleHas, after_any, head_simple, IfTestHas, GuardHas, item_given, TargetHas, TakenHas, RangedHas, ForHeadHas, after_for_head, after, after_all, ReturnHas, returned_given, ReturnedHas, StatementHas, StatementsHave, BranchHas, OtherwiseHas, ClausesHave}
use Rattle.typing_rules.specs.Nodes.{node_of}
use Rattle.typing_rules.proofs.ExpressionNodes.{broken, expression_positive, value_within, expression_within, test_within, channel_within, received_within}
use Rattle.typing_rules.proofs.OperationNodes.{call_within, place_within, goes_within}
use Rattle.checker.proofs.SimpleNodes.{defined_within, typed_within, untyped_within, simple_within, comm_sized}

-- ---- headers

if_simple_within : (globals : Globals) (scope : Scope) (s : Option Simple) (first : ℕ) (violation : Violation) → IfSimpleHas globals scope first s violation → node_of violation < first + if_any simple_size s
if_simple_within globals scope None first violation has = absurd has
if_simple_within globals scope (Some s) first violation has = simple_within globals scope s first violation has

head_sized : (head : IfHead) → if_any simple_size (head_simple head) ≡ if_head_size head
head_sized Bare = refl
head_sized Semicolon = refl
head_sized (First simple) = refl

comm_within : (globals : Globals) (scope : Scope) (c : Option Comm) (first : ℕ) (violation : Violation) → IfSimpleHas globals scope first (option_map comm_simple c) violation → node_of violation < first + if_any comm_size c
comm_within globals scope None first violation has = absurd has
comm_within globals scope (Some c) first violation has = omega (arith, simple_within globals scope (comm_simple c) first violation has, comm_sized c)

if_test_within : (globals : Globals) (scope : Scope) (c : Option Expression) (first : ℕ) (violation : Violation) → IfTestHas globals scope first c violation → node_of violation < first + if_any expression_size c
if_test_within globals scope None first violation has = absurd has
if_test_within globals scope (Some c) first violation has = test_within globals scope c first violation has

guard_within : (globals : Globals) (scope : Scope) (head : IfHead) (c : Expression) (first : ℕ) (violation : Violation) → GuardHas globals scope first head c violation → node_of violation < first + if_head_size head + expression_size c
guard_within globals scope head c first violation (inl has) = omega (arith, if_simple_within globals scope (head_simple head) first violation has, head_sized head)
guard_within globals scope head c first violation (inr has) = test_within globals (after_any globals scope (head_simple head)) c (first + if_head_size head) violation has

target_within : (globals : Globals) (scope : Scope) (t : Target) (first : ℕ) (violation : Violation) → TargetHas globals scope first t violation → node_of violation < first + target_size t
target_within globals scope NoTarget first violation has = absurd has
target_within globals scope (DefineTarget name) first violation has = absurd has
target_within globals scope (AssignTarget place) first violation has = place_within globals scope place first violation has

taken_within : (globals : Globals) (scope : Scope) (t : Target) (item : Given) (end : ℕ) (violation : Violation) → item.nodes.first < item.nodes.end → item.nodes.end ≤ end → TakenHas globals scope t item end violation → node_of violation < end
taken_within globals scope NoTarget item end violation a b has = absurd has
taken_within globals scope (DefineTarget name) item end violation a b has = defined_within scope (name ∷ []) end violation has
taken_within globals scope (AssignTarget place) item end violation a b has =
    let small = goes_within (is_blank place.name) item (place_type globals scope place) violation a has in omega (arith, small, b)

ranged_within : (globals : Globals) (scope : Scope) (channel : Expression) (first end : ℕ) (violation : Violation) → first + expression_size channel ≤ end → RangedHas globals scope first channel end violation → node_of violation < end
ranged_within globals scope channel first end violation le (inl has) = omega (arith, expression_within globals scope channel first violation has, le)
ranged_within globals scope channel first end violation le (inr (inl has)) =
    let small = channel_within (worth globals scope channel) (nodes_of first channel) violation has in omega (arith, small, le)
ranged_within globals scope channel first end violation le (inr (inr has)) = received_within (worth globals scope channel) end violation has

for_head_within : (globals : Globals) (scope : Scope) (head : ForHead) (first end : ℕ) (violation : Violation) → first + for_head_size head ≤ end → ForHeadHas globals scope first head end violation → node_of violation < end
for_head_within globals scope Forever first end violation le has = absurd has
for_head_within globals scope (While c) first end violation le has = omega (arith, test_within globals scope c first violation has, le)
for_head_within globals scope (ForClauses s c p) first end violation le (inl has) = omega (arith, if_simple_within globals scope s first violation has, le)
for_head_within globals scope (ForClauses s c p) first end violation le (inr (inl has)) = omega (arith, if_test_within globals (after_any globals scope s) c (first + if_any simple_size s) violation has, le)
for_head_within globals scope (ForClauses s c p) first end violation le (inr (inr has)) = omega (arith, if_simple_within globals (after_any globals scope s) p (first + if_any simple_size s + if_any expression_size c) violation has, le)
for_head_within globals scope (Range t channel) first end violation le (inl has) = omega (arith, target_within globals scope t first violation has, le)
for_head_within globals scope (Range t channel) first end violation le (inr (inl has)) = ranged_within globals scope channel (first + target_size t) end violation (omega (arith, le)) has
for_head_within globals scope (Range t channel) first end violation le (inr (inr has)) =
    taken_within globals scope t (item_given globals scope (first + target_size t) channel) end violation (omega (arith, expression_positive channel)) (omega (arith, le)) has

-- ---- returns

returned_there : (y : Yield) (globals : Globals) (scope : Scope) (r : Returned) (first : ℕ) (violation : Violation) → ReturnHas y (returned_given globals scope first r) (first + statement_size (Return r)) violation → node_of violation < first + statement_size (Return r)
returned_there NoResult globals scope NoValue first violation has = absurd has
returned_there NoResult globals scope (ReturnedValue v) first violation has = omega (arith, broken _ (first + statement_size (Return (ReturnedValue v))) violation has)
returned_there (Yields kind) globals scope NoValue first violation has = omega (arith, broken _ (first + statement_size (Return NoValue)) violation has)
returned_there (Yields kind) globals scope (ReturnedValue v) first violation has =
    let small = value_within (worth globals scope v) kind (nodes_of first v) violation (omega (arith, expression_positive v)) has in omega (arith, small)

returned_within : (globals : Globals) (scope : Scope) (r : Returned) (first : ℕ) (violation : Violation) → ReturnedHas globals scope first r violation → node_of violation < first + returned_size r
returned_within globals scope NoValue first violation has = absurd has
returned_within globals scope (ReturnedValue v) first violation has = expression_within globals scope v first violation has

-- ---- statements

mutual
  pub statement_within : (setting : Setting) (scope : Scope) (s : Statement) (first : ℕ) (violation : Violation) → StatementHas setting scope first s violation → node_of violation < first + statement_size s
  statement_within setting scope Empty first violation has = absurd has
  statement_within setting scope (Alone simple) first violation has = simple_within setting.globals scope simple first violation has
  statement_within setting scope (VarTyped names kind right) first violation has = typed_within setting.globals scope names kind right first violation has
  statement_within setting scope (VarUntyped names right) first violation has = untyped_within setting.globals scope names right first violation has
  statement_within setting scope (Block body) first violation has = omega (arith, statements_within setting (entered scope) body first violation has)
  statement_within setting scope (If branch) first violation has = branch_within setting scope branch first violation has
  statement_within setting scope (For head body) first violation (inl has) =
      for_head_within setting.globals (entered scope) head first (first + statement_size (For head body)) violation (omega arith) has
  statement_within setting scope (For head body) first violation (inr has) =
      omega (arith, statements_within (in_for setting) (entered (after_for_head setting.globals (entered scope) head)) body (first + for_head_size head) violation has)
  statement_within setting scope (Select clauses) first violation (inl has) = omega (arith, clauses_within setting scope clauses first violation has)
  statement_within setting scope (Select clauses) first violation (inr has) = omega (arith, broken _ (first + statement_size (Select clauses)) violation has.1)
  statement_within setting scope (Go function arguments) first violation has = omega (arith, call_within setting.globals scope function arguments first violation has)
  statement_within setting scope (Return returned) first violation (inl has) = omega (arith, returned_within setting.globals scope returned first violation has)
  statement_within setting scope (Return returned) first violation (inr has) = returned_there setting.result setting.globals scope returned first violation has
  statement_within setting scope Break first violation has = omega (arith, broken _ (first + 1) violation has.1)
  statement_within setting scope Continue first violation has = omega (arith, broken _ (first + 1) violation has.1)

  pub statements_within : (setting : Setting) (scope : Scope) (ss : Statements) (first : ℕ) (violation : Violation) → StatementsHave setting scope first ss violation → node_of violation < first + statements_size ss
  statements_within setting scope NoStatement first violation has = absurd has
  statements_within setting scope (Then s rest) first violation (inl has) = omega (arith, statement_within setting scope s first violation has)
  statements_within setting scope (Then s rest) first violation (inr has) = omega (arith, statements_within setting (after setting.globals scope s) rest (first + statement_size s) violation has)

  branch_within : (setting : Setting) (scope : Scope) (b : Branch) (first : ℕ) (violation : Violation) → BranchHas setting scope first b violation → node_of violation < first + branch_size b
  branch_within setting scope (Conditional head c body otherwise) first violation (inl has) = omega (arith, guard_within setting.globals (entered scope) head c first violation has)
  branch_within setting scope (Conditional head c body otherwise) first violation (inr (inl has)) =
      omega (arith, statements_within setting (entered (after_any setting.globals (entered scope) (head_simple head))) body (first + if_head_size head + expression_size c) violation has)
  branch_within setting scope (Conditional head c body otherwise) first violation (inr (inr has)) =
      let header = after_any setting.globals (entered scope) (head_simple head) in
      omega (arith, otherwise_within setting (left header (after_all setting.globals (entered header) body)) otherwise (first + if_head_size head + expression_size c + statements_size body + 1) violation has)

  otherwise_within : (setting : Setting) (scope : Scope) (o : Otherwise) (first : ℕ) (violation : Violation) → OtherwiseHas setting scope first o violation → node_of violation < first + otherwise_size o
  otherwise_within setting scope NoElse first violation has = absurd has
  otherwise_within setting scope (ElseBlock body) first violation has = omega (arith, statements_within setting (entered scope) body first violation has)
  otherwise_within setting scope (ElseIf branch) first violation has = branch_within setting scope branch first violation has

  clauses_within : (setting : Setting) (scope : Scope) (cs : Clauses) (first : ℕ) (violation : Violation) → ClausesHave setting scope first cs violation → node_of violation < first + clauses_size cs
  clauses_within setting scope NoClause first violation has = absurd has
  clauses_within setting scope (Clause c body rest) first violation (inl has) = omega (arith, comm_within setting.globals (entered scope) c first violation has)
  clauses_within setting scope (Clause c body rest) first violation (inr (inl has)) =
      omega (arith, statements_within (in_select setting) (after_any setting.globals (entered scope) (option_map comm_simple c)) body (first + if_any comm_size c) violation has)
  clauses_within setting scope (Clause c body rest) first violation (inr (inr has)) =
      let inner = after_any setting.globals (entered scope) (option_map comm_simple c) in
      omega (arith, clauses_within setting (left scope (after_all setting.globals inner body)) rest (first + if_any comm_size c + statements_size body + 1) violation has)
