-- The spans of the nodes of a tree: each from the first byte of its first token to the end of its last one. They
-- are listed in the order of their numbers: first those below a node, from left to right, and then the node.
--
-- `type_spans tokens at kind` are the nodes of a type whose first token has the number `at`; so with the others. A
-- comment before a case says how it is spelt. Names have no nodes, but expressions and lvalues of one name do.
use Rattle.std.specs.Prelude.{ℕ, zero, suc, ◌+◌, ◌*◌, length, sum_by, Option, Some, None, List, [], ◌∷◌, ◌++◌, slice_get}
use Rattle.go_text.specs.declared.place.Span.{Span}
use Rattle.scanner.specs.declared.token.Token.{Token}
use Rattle.syntax.specs.Tree.{TypeExpression, NamedType, ParenthesizedType, Channel, Expression, Integer, Named, Parenthesized, Selection, Composite, Unary, Binary, Call, Receive, Make, MakeSized, Length, Capacity, Expressions, NoMore, Following, expressions, Arguments, Place, Part, Value, Text, Simple, CallAlone, Close, Print, ReceiveAlone, Send, Increment, Decrement, Assign, Define, Update, IfHead, Bare, Semicolon, First, Target, NoTarget, DefineTarget, AssignTarget, ForHead, Forever, While, ForClauses, Range, Comm, CommSend, CommReceive, CommDefine, CommAssign, Returned, NoValue, ReturnedValue, Statement, Empty, Alone, VarTyped, VarUntyped, Block, If, For, Select, Go, Return, Break, Continue, Statements, NoStatement, Then, Otherwise, Branch, Conditional, NoElse, ElseBlock, ElseIf, Clauses, NoClause, Clause, Declared, Function, Top, StructTop, FunctionTop, File}
use Rattle.spans.specs.Words.{joined, braced, direction_count, type_count, expression_count, place_count, place_step, part_step, simple_count, if_head_count, target_count, for_head_count, second_count, second_name_count, comm_count, start_count, statement_count, body_count, branch_count, clause_count, group_count, group_step, groups_count, top_count, top_step, file_count}
use Rattle.syntax.specs.Measures.{if_any}

abbrev pub from_of : Option Token → ℕ
from_of None = 0
from_of (Some token) = token.span.from

abbrev pub to_of : Option Token → ℕ
to_of None = 0
to_of (Some token) = token.span.to

-- the end of the last of `count` tokens from token `at` on; if `count` is 0, the first byte of that token
abbrev pub end_of : List Token → (at count : ℕ) → ℕ
end_of tokens at zero = from_of (slice_get tokens at)
end_of tokens at (suc others) = to_of (slice_get tokens (at + others))

-- the bytes of `count` tokens from token `at` on
abbrev pub over : List Token → (at count : ℕ) → Span
over tokens at count = record { from = from_of (slice_get tokens at); to = end_of tokens at count }

-- the nodes below one, and then that one
abbrev pub under : (below : List Span) → (above : Span) → List Span
under below above = below ++ (above ∷ [])

-- ---- types

abbrev pub type_spans : List Token → ℕ → TypeExpression → List Span
type_spans tokens at (NamedType name) = over tokens at 1 ∷ []
-- ( inner )
type_spans tokens at (ParenthesizedType inner) =
    under (type_spans tokens (at + 1) inner) (over tokens at (type_count (ParenthesizedType inner)))
-- chan element
type_spans tokens at (Channel direction element) =
    under (type_spans tokens (at + direction_count direction) element)
    (over tokens at (type_count (Channel direction element)))

-- ---- expressions

abbrev mutual
  pub expression_spans : List Token → ℕ → Expression → List Span
  expression_spans tokens at (Integer value) = over tokens at 1 ∷ []
  expression_spans tokens at (Named name) = over tokens at 1 ∷ []
  -- ( inner )
  expression_spans tokens at (Parenthesized inner) =
      under (expression_spans tokens (at + 1) inner) (over tokens at (expression_count (Parenthesized inner)))
  -- whole . field
  expression_spans tokens at (Selection whole field) =
      under (expression_spans tokens at whole) (over tokens at (expression_count (Selection whole field)))
  -- name { values }
  expression_spans tokens at (Composite name values trailing) =
      under (values_spans tokens (at + 2) values) (over tokens at (expression_count (Composite name values trailing)))
  -- operator operand
  expression_spans tokens at (Unary operator operand) =
      under (expression_spans tokens (at + 1) operand) (over tokens at (expression_count (Unary operator operand)))
  -- left operator right
  expression_spans tokens at (Binary operator left right) =
      under (expression_spans tokens at left ++ expression_spans tokens (at + expression_count left + 1) right)
      (over tokens at (expression_count (Binary operator left right)))
  -- function ( values )
  expression_spans tokens at (Call function values trailing) =
      under (values_spans tokens (at + 2) values) (over tokens at (expression_count (Call function values trailing)))
  -- <- channel
  expression_spans tokens at (Receive channel) = under (expression_spans tokens (at + 1) channel) (over tokens at (expression_count (Receive channel)))
  -- make ( channel )
  expression_spans tokens at (Make channel) = under (type_spans tokens (at + 2) channel) (over tokens at (expression_count (Make channel)))
  -- make ( channel , size )
  expression_spans tokens at (MakeSized channel size) =
      under (type_spans tokens (at + 2) channel ++ expression_spans tokens (at + 2 + type_count channel + 1) size)
      (over tokens at (expression_count (MakeSized channel size)))
  -- len ( channel )
  expression_spans tokens at (Length channel) = under (expression_spans tokens (at + 2) channel) (over tokens at (expression_count (Length channel)))
  -- cap ( channel )
  expression_spans tokens at (Capacity channel) = under (expression_spans tokens (at + 2) channel) (over tokens at (expression_count (Capacity channel)))

  -- expressions with a mark after each
  pub values_spans : List Token → ℕ → Expressions → List Span
  values_spans tokens at NoMore = []
  values_spans tokens at (Following first rest) =
      expression_spans tokens at first ++ values_spans tokens (at + (expression_count first + 1)) rest

-- ---- right sides

-- ( values )
abbrev pub arguments_spans : List Token → ℕ → Arguments → List Span
arguments_spans tokens at arguments = values_spans tokens (at + 1) (expressions arguments.values)

-- values with commas between them
abbrev pub right_spans : List Token → ℕ → List Expression → List Span
right_spans tokens at values = values_spans tokens at (expressions values)

-- ---- simple statements

-- a string is a node too
abbrev pub part_spans : List Token → ℕ → Part → List Span
part_spans tokens at (Value value) = expression_spans tokens at value
part_spans tokens at (Text bytes) = over tokens at 1 ∷ []

-- parts with a mark after each
abbrev pub parts_spans : List Token → ℕ → List Part → List Span
parts_spans tokens at [] = []
parts_spans tokens at (first ∷ rest) = part_spans tokens at first ++ parts_spans tokens (at + part_step first) rest

abbrev pub place_span : List Token → ℕ → Place → Span
place_span tokens at place = over tokens at (place_count place)

-- lvalues with a mark after each
abbrev pub places_spans : List Token → ℕ → List Place → List Span
places_spans tokens at [] = []
places_spans tokens at (first ∷ rest) = place_span tokens at first ∷ places_spans tokens (at + place_step first) rest

abbrev pub below_simple : List Token → ℕ → Simple → List Span
-- function ( values )
below_simple tokens at (CallAlone function arguments) = arguments_spans tokens (at + 1) arguments
-- close ( channel )
below_simple tokens at (Close channel) = expression_spans tokens (at + 2) channel
-- println ( parts )
below_simple tokens at (Print line parts trailing) = parts_spans tokens (at + 2) parts
-- <- channel
below_simple tokens at (ReceiveAlone channel) = expression_spans tokens (at + 1) channel
-- channel <- value
below_simple tokens at (Send channel value) =
    expression_spans tokens at channel
    ++ expression_spans tokens (at + expression_count channel + 1) value
-- lvalue ++
below_simple tokens at (Increment place) = place_span tokens at place ∷ []
-- lvalue --
below_simple tokens at (Decrement place) = place_span tokens at place ∷ []
-- lvalues = values
below_simple tokens at (Assign places values) =
    places_spans tokens at places
    ++ right_spans tokens (at + sum_by place_step places) values
-- names := values
below_simple tokens at (Define names values) = right_spans tokens (at + length names * 2) values
-- lvalue += value
below_simple tokens at (Update place operator value) =
    place_span tokens at place
    ∷ expression_spans tokens (at + place_count place + 1) value

abbrev pub simple_spans : List Token → ℕ → Simple → List Span
simple_spans tokens at simple = under (below_simple tokens at simple) (over tokens at (simple_count simple))

-- ---- headers

-- the nodes of what may be left out
abbrev pub optional_spans : {A : Type 0} → (List Token → ℕ → A → List Span) → List Token → ℕ → Option A → List Span
optional_spans spans tokens at None = []
optional_spans spans tokens at (Some x) = spans tokens at x

-- what is between an `if` and its condition
abbrev pub if_head_spans : List Token → ℕ → IfHead → List Span
if_head_spans tokens at Bare = []
if_head_spans tokens at Semicolon = []
-- simple ;
if_head_spans tokens at (First simple) = simple_spans tokens at simple

-- what a range assigns to
abbrev pub target_spans : List Token → ℕ → Target → List Span
target_spans tokens at NoTarget = []
-- name :=
target_spans tokens at (DefineTarget name) = []
-- lvalue =
target_spans tokens at (AssignTarget place) = place_span tokens at place ∷ []

-- what is between a `for` and its block
abbrev pub for_head_spans : List Token → ℕ → ForHead → List Span
for_head_spans tokens at Forever = []
for_head_spans tokens at (While condition) = expression_spans tokens at condition
-- first ; condition ; post
for_head_spans tokens at (ForClauses first condition post) =
    let second = at + if_any simple_count first + 1 in
    let third = second + if_any expression_count condition + 1 in
    optional_spans simple_spans tokens at first
    ++ optional_spans expression_spans tokens second condition
    ++ optional_spans simple_spans tokens third post
-- target range channel
for_head_spans tokens at (Range target channel) =
    target_spans tokens at target
    ++ expression_spans tokens (at + target_count target + 1) channel

-- ---- clauses of a select

-- <- channel
abbrev pub receive_spans : List Token → ℕ → Expression → List Span
receive_spans tokens at channel =
    under (expression_spans tokens (at + 1) channel)
    (over tokens at (expression_count channel + 1))

-- , lvalue
abbrev pub second_spans : List Token → ℕ → Option Place → List Span
second_spans tokens at None = []
second_spans tokens at (Some place) = place_span tokens (at + 1) place ∷ []

abbrev pub below_comm : List Token → ℕ → Comm → List Span
-- channel <- value
below_comm tokens at (CommSend channel value) =
    expression_spans tokens at channel
    ++ expression_spans tokens (at + expression_count channel + 1) value
-- <- channel
below_comm tokens at (CommReceive channel) = expression_spans tokens (at + 1) channel
-- item , ok := <- channel
below_comm tokens at (CommDefine item ok channel) = receive_spans tokens (at + second_name_count ok + 2) channel
-- item , ok = <- channel
below_comm tokens at (CommAssign item ok channel) =
    place_span tokens at item ∷ (second_spans tokens (at + place_count item) ok
    ++ receive_spans tokens (at + place_count item + second_count ok + 1) channel)

abbrev pub comm_spans : List Token → ℕ → Comm → List Span
comm_spans tokens at comm = under (below_comm tokens at comm) (over tokens at (comm_count comm))

-- case comm :
abbrev pub start_spans : List Token → ℕ → Option Comm → List Span
start_spans tokens at None = []
start_spans tokens at (Some comm) = comm_spans tokens (at + 1) comm

-- a clause whose statements have these nodes: what it waits for, these, and the clause
abbrev pub with_clause : List Token → ℕ → Option Comm → Statements → List Span → List Span
with_clause tokens at comm body below =
    under (start_spans tokens at comm ++ below)
    (over tokens at (clause_count comm body))

-- ---- statements

-- = values
abbrev pub initial_spans : List Token → ℕ → Option (List Expression) → List Span
initial_spans tokens at None = []
initial_spans tokens at (Some values) = right_spans tokens (at + 1) values

-- what follows a `return`
abbrev pub returned_spans : List Token → ℕ → Returned → List Span
returned_spans tokens at NoValue = []
returned_spans tokens at (ReturnedValue value) = expression_spans tokens at value

-- a block whose statements have these nodes: these, and the block; its `{` has the number `at`
abbrev pub with_block : List Token → ℕ → Statements → List Span → List Span
with_block tokens at body below = under below (over tokens at (braced (body_count body)))

abbrev mutual
  pub statement_spans : List Token → ℕ → Statement → List Span
  -- the empty statement has no token: it is where the next one begins
  statement_spans tokens at Empty = over tokens at 0 ∷ []
  statement_spans tokens at (Alone simple) = simple_spans tokens at simple
  -- var names kind = values
  statement_spans tokens at (VarTyped names kind values) =
      let after_names = at + 1 + joined (length names * 2) in
      under (type_spans tokens after_names kind ++ initial_spans tokens (after_names + type_count kind) values)
      (over tokens at (statement_count (VarTyped names kind values)))
  -- var names = values
  statement_spans tokens at (VarUntyped names values) =
      under (right_spans tokens (at + 1 + length names * 2) values)
      (over tokens at (statement_count (VarUntyped names values)))
  -- { body }
  statement_spans tokens at (Block body) =
      under (with_block tokens at body (body_spans tokens (at + 1) body))
      (over tokens at (statement_count (Block body)))
  statement_spans tokens at (If branch) = branch_spans tokens at branch
  -- for head { body }
  statement_spans tokens at (For head body) =
      let opening = at + 1 + for_head_count head in
      under (for_head_spans tokens (at + 1) head ++ with_block tokens opening body (body_spans tokens (opening + 1) body))
      (over tokens at (statement_count (For head body)))
  -- select { clauses }
  statement_spans tokens at (Select clauses) =
      under (clauses_spans tokens (at + 2) clauses) (over tokens at (statement_count (Select clauses)))
  -- go function ( values )
  statement_spans tokens at (Go function arguments) =
      under (arguments_spans tokens (at + 2) arguments) (over tokens at (statement_count (Go function arguments)))
  -- return values
  statement_spans tokens at (Return returned) =
      under (returned_spans tokens (at + 1) returned) (over tokens at (statement_count (Return returned)))
  statement_spans tokens at Break = over tokens at 1 ∷ []
  statement_spans tokens at Continue = over tokens at 1 ∷ []

  -- statements with a mark after each
  pub body_spans : List Token → ℕ → Statements → List Span
  body_spans tokens at NoStatement = []
  body_spans tokens at (Then first rest) =
      statement_spans tokens at first ++ body_spans tokens (at + (statement_count first + 1)) rest

  -- if head condition { body } otherwise
  pub branch_spans : List Token → ℕ → Branch → List Span
  branch_spans tokens at (Conditional head condition body otherwise) =
      let after_head = at + 1 + if_head_count head in
      let opening = after_head + expression_count condition in
      let after_body = opening + braced (body_count body) in
      under (if_head_spans tokens (at + 1) head
      ++ expression_spans tokens after_head condition
      ++ with_block tokens opening body (body_spans tokens (opening + 1) body)
      ++ otherwise_spans tokens after_body otherwise)
      (over tokens at (branch_count (Conditional head condition body otherwise)))

  -- what is after the block of an `if`
  pub otherwise_spans : List Token → ℕ → Otherwise → List Span
  otherwise_spans tokens at NoElse = []
  -- else { body }
  otherwise_spans tokens at (ElseBlock body) = with_block tokens (at + 1) body (body_spans tokens (at + 1 + 1) body)
  -- else branch
  otherwise_spans tokens at (ElseIf branch) = branch_spans tokens (at + 1) branch

  pub clauses_spans : List Token → ℕ → Clauses → List Span
  clauses_spans tokens at NoClause = []
  -- case comm : body
  clauses_spans tokens at (Clause comm body rest) =
      with_clause tokens at comm body (body_spans tokens (at + start_count comm) body)
      ++ clauses_spans tokens (at + clause_count comm body) rest

-- { body }
abbrev pub block_spans : List Token → ℕ → Statements → List Span
block_spans tokens at body = with_block tokens at body (body_spans tokens (at + 1) body)

-- case comm : body
abbrev pub clause_spans : List Token → ℕ → Option Comm → Statements → List Span
clause_spans tokens at comm body = with_clause tokens at comm body (body_spans tokens (at + start_count comm) body)

-- ---- declarations

-- names kind
abbrev pub group_spans : List Token → ℕ → Declared → List Span
group_spans tokens at declared =
    under (type_spans tokens (at + joined (length declared.names * 2)) declared.type_expression)
    (over tokens at (group_count declared))

-- fields or parameters with a mark after each
abbrev pub groups_spans : List Token → ℕ → List Declared → List Span
groups_spans tokens at [] = []
groups_spans tokens at (first ∷ rest) = group_spans tokens at first ++ groups_spans tokens (at + group_step first) rest

-- func name ( parameters ) result { body }
abbrev pub below_function : List Token → ℕ → Function → List Span
below_function tokens at function =
    let after_parameters = at + (groups_count function.parameters function.trailing + 4) in
    let opening = after_parameters + if_any type_count function.result in
    groups_spans tokens (at + 3) function.parameters
    ++ optional_spans type_spans tokens after_parameters function.result
    ++ block_spans tokens opening function.body

abbrev pub below_top : List Token → ℕ → Top → List Span
-- type name struct { fields }
below_top tokens at (StructTop struct) = groups_spans tokens (at + 4) struct.fields
below_top tokens at (FunctionTop function) = below_function tokens at function

abbrev pub top_spans : List Token → ℕ → Top → List Span
top_spans tokens at top = under (below_top tokens at top) (over tokens at (top_count top))

-- declarations with a semicolon after each
abbrev pub tops_spans : List Token → ℕ → List Top → List Span
tops_spans tokens at [] = []
tops_spans tokens at (first ∷ rest) = top_spans tokens at first ++ tops_spans tokens (at + top_step first) rest

-- package main ; tops
abbrev pub file_spans : List Token → File → List Span
file_spans tokens file = under (tops_spans tokens 3 file.tops) (over tokens 0 (file_count file))
