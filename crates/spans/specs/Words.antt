-- By how many tokens a part of a tree is spelt.
use Rattle.std.specs.Prelude.{ℕ, ◌+◌, ◌-◌, ◌*◌, ◌^◌, ◌<◌, Bool, true, false, Option, Some, None, List, length, sum_by}
use Rattle.syntax.specs.declared.node.Direction.{Direction}
use Rattle.syntax.specs.declared.node.Direction.TheVariants as directions
use Rattle.syntax.specs.Tree.{TypeExpression, NamedType, ParenthesizedType, Channel, Expression, Integer, Named, Parenthesized, Selection, Composite, Unary, Binary, Call, Receive, Make, MakeSized, Length, Capacity, Expressions, NoMore, Following, expressions, Arguments, Place, Part, Value, Text, Simple, CallAlone, Close, Print, ReceiveAlone, Send, Increment, Decrement, Assign, Define, Update, IfHead, Bare, Semicolon, First, Target, NoTarget, DefineTarget, AssignTarget, ForHead, Forever, While, ForClauses, Range, Comm, CommSend, CommReceive, CommDefine, CommAssign, Returned, NoValue, ReturnedValue, Statement, Empty, Alone, VarTyped, VarUntyped, Block, If, For, Select, Go, Return, Break, Continue, Statements, NoStatement, Then, Otherwise, Branch, Conditional, NoElse, ElseBlock, ElseIf, Clauses, NoClause, Clause, Declared, Top, StructTop, FunctionTop, File}
use Rattle.syntax.specs.Measures.{if_any}

-- `count` tokens from the one with the number `at` on end before number 2^40: their numbers can be added.
abbrev pub EndsInReach : (at count : ℕ) → Type 0
EndsInReach at count = at + count < 2 ^ 40

-- the tokens of entries with a mark between each two, which are `marked` tokens with a mark after each
abbrev pub joined : (marked : ℕ) → ℕ
joined marked = marked - 1

-- like `joined`, in braces
abbrev pub braced : (marked : ℕ) → ℕ
braced marked = joined marked + 2

-- ---- types

-- what a channel type begins with
abbrev pub direction_count : Direction → ℕ
direction_count directions.Both = 1
direction_count directions.Send = 2
direction_count directions.Receive = 2

abbrev pub type_count : TypeExpression → ℕ
type_count (NamedType name) = 1
type_count (ParenthesizedType inner) = type_count inner + 2
type_count (Channel direction element) = direction_count direction + type_count element

-- a mark after the last entry
abbrev pub trailing_count : Bool → ℕ
trailing_count true = 1
trailing_count false = 0

-- ---- expressions

abbrev mutual
  pub expression_count : Expression → ℕ
  expression_count (Integer value) = 1
  expression_count (Named name) = 1
  expression_count (Parenthesized inner) = expression_count inner + 2
  expression_count (Selection whole field) = expression_count whole + 2
  expression_count (Composite name values trailing) = joined (values_count values) + trailing_count trailing + 3
  expression_count (Unary operator operand) = expression_count operand + 1
  expression_count (Binary operator left right) = expression_count left + expression_count right + 1
  expression_count (Call function values trailing) = joined (values_count values) + trailing_count trailing + 3
  expression_count (Receive channel) = expression_count channel + 1
  expression_count (Make channel) = type_count channel + 3
  expression_count (MakeSized channel size) = type_count channel + expression_count size + 4
  expression_count (Length channel) = expression_count channel + 3
  expression_count (Capacity channel) = expression_count channel + 3

  -- each of these, and the mark after it
  pub values_count : Expressions → ℕ
  values_count NoMore = 0
  values_count (Following first rest) = expression_count first + 1 + values_count rest

-- ---- simple statements

-- arguments in parentheses
abbrev pub arguments_count : Arguments → ℕ
arguments_count arguments = joined (values_count (expressions arguments.values)) + trailing_count arguments.trailing + 2

-- the values of a right side, with commas between them
abbrev pub right_count : List Expression → ℕ
right_count values = joined (values_count (expressions values))

-- a name, and fields each after a period
abbrev pub place_count : Place → ℕ
place_count place = length place.fields * 2 + 1

abbrev pub part_count : Part → ℕ
part_count (Value value) = expression_count value
part_count (Text bytes) = 1

-- a part, and the mark after it
abbrev pub part_step : Part → ℕ
part_step part = part_count part + 1

-- an lvalue, and the mark after it
abbrev pub place_step : Place → ℕ
place_step place = place_count place + 1

abbrev pub simple_count : Simple → ℕ
simple_count (CallAlone function arguments) = arguments_count arguments + 1
simple_count (Close channel) = expression_count channel + 3
simple_count (Print line parts trailing) = joined (sum_by part_step parts) + trailing_count trailing + 3
simple_count (ReceiveAlone channel) = expression_count channel + 1
simple_count (Send channel value) = expression_count channel + expression_count value + 1
simple_count (Increment place) = place_count place + 1
simple_count (Decrement place) = place_count place + 1
simple_count (Assign places values) = sum_by place_step places + right_count values
simple_count (Define names values) = length names * 2 + right_count values
simple_count (Update place operator value) = place_count place + expression_count value + 1

-- ---- headers

-- what is between an `if` and its condition
abbrev pub if_head_count : IfHead → ℕ
if_head_count Bare = 0
if_head_count Semicolon = 1
if_head_count (First simple) = simple_count simple + 1

-- what a range assigns to, with its mark
abbrev pub target_count : Target → ℕ
target_count NoTarget = 0
target_count (DefineTarget name) = 2
target_count (AssignTarget place) = place_count place + 1

-- what is between a `for` and its block
abbrev pub for_head_count : ForHead → ℕ
for_head_count Forever = 0
for_head_count (While condition) = expression_count condition
for_head_count (ForClauses first condition post) =
    if_any simple_count first + if_any expression_count condition + if_any simple_count post + 2
for_head_count (Range target channel) = target_count target + expression_count channel + 1

-- a second lvalue, and the comma before it
abbrev pub second_count : Option Place → ℕ
second_count None = 0
second_count (Some place) = place_step place

-- a second name, and the comma before it
abbrev pub second_name_count : Option (List ℕ) → ℕ
second_name_count None = 0
second_name_count (Some name) = 2

-- what a clause of a select waits for
abbrev pub comm_count : Comm → ℕ
comm_count (CommSend channel value) = expression_count channel + expression_count value + 1
comm_count (CommReceive channel) = expression_count channel + 1
comm_count (CommDefine item ok channel) = second_name_count ok + expression_count channel + 3
comm_count (CommAssign item ok channel) = place_count item + second_count ok + expression_count channel + 2

-- what follows a `return`
abbrev pub returned_count : Returned → ℕ
returned_count NoValue = 0
returned_count (ReturnedValue value) = expression_count value

-- ---- statements

-- the values of a `var` with a type, and the `=` before them
abbrev pub initial_count : Option (List Expression) → ℕ
initial_count None = 0
initial_count (Some values) = right_count values + 1

-- a clause of a select up to its colon
abbrev pub start_count : Option Comm → ℕ
start_count None = 2
start_count (Some comm) = comm_count comm + 2

abbrev mutual
  pub statement_count : Statement → ℕ
  statement_count Empty = 0
  statement_count (Alone simple) = simple_count simple
  statement_count (VarTyped names kind values) = joined (length names * 2) + type_count kind + initial_count values + 1
  statement_count (VarUntyped names values) = length names * 2 + right_count values + 1
  statement_count (Block body) = braced (body_count body)
  statement_count (If branch) = branch_count branch
  statement_count (For head body) = for_head_count head + braced (body_count body) + 1
  statement_count (Select clauses) = clauses_count clauses + 3
  statement_count (Go function arguments) = arguments_count arguments + 2
  statement_count (Return returned) = returned_count returned + 1
  statement_count Break = 1
  statement_count Continue = 1

  -- each of these, and the mark after it
  pub body_count : Statements → ℕ
  body_count NoStatement = 0
  body_count (Then first rest) = statement_count first + 1 + body_count rest

  -- from its `if` on
  pub branch_count : Branch → ℕ
  branch_count (Conditional head condition body otherwise) =
      if_head_count head + expression_count condition + braced (body_count body) + otherwise_count otherwise + 1

  -- from its `else` on
  pub otherwise_count : Otherwise → ℕ
  otherwise_count NoElse = 0
  otherwise_count (ElseBlock body) = braced (body_count body) + 1
  otherwise_count (ElseIf branch) = branch_count branch + 1

  pub clauses_count : Clauses → ℕ
  clauses_count NoClause = 0
  clauses_count (Clause comm body rest) = start_count comm + joined (body_count body) + clauses_count rest

-- one clause of a select
abbrev pub clause_count : Option Comm → Statements → ℕ
clause_count comm body = start_count comm + joined (body_count body)

-- ---- declarations

-- names with commas between them, and their type
abbrev pub group_count : Declared → ℕ
group_count declared = joined (length declared.names * 2) + type_count declared.type_expression

-- like `group_count`, with the mark after it
abbrev pub group_step : Declared → ℕ
group_step declared = group_count declared + 1

-- fields or parameters with a mark between each two, and maybe one after the last
abbrev pub groups_count : List Declared → Bool → ℕ
groups_count groups trailing = joined (sum_by group_step groups) + trailing_count trailing

-- statements in braces
abbrev pub block_count : Statements → ℕ
block_count body = braced (body_count body)

abbrev pub top_count : Top → ℕ
top_count (StructTop struct) = groups_count struct.fields struct.trailing + 5
top_count (FunctionTop function) =
    groups_count function.parameters function.trailing + if_any type_count function.result + block_count function.body + 4

-- a declaration, and the semicolon after it
abbrev pub top_step : Top → ℕ
top_step top = top_count top + 1

-- `package main ;` and the declarations
abbrev pub file_count : File → ℕ
file_count file = sum_by top_step file.tops + 3
