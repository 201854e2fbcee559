-- A part of a tree has as many spans as nodes.
use Rattle.std.proofs.Common.{◌≡◌, ℕ, ◌+◌, ◌*◌, Option, Some, None, List, [], ◌∷◌, length, sum_by, refl, ap, arith, length-append}
use Rattle.std.proofs.lemmas.List.Sums.{sum_by-cons}
use Rattle.go_text.specs.declared.place.Span.{Span}
use Rattle.scanner.specs.declared.token.Token.{Token}
use Rattle.syntax.specs.Tree.{TypeExpression, NamedType, ParenthesizedType, Channel, Expression, Integer, Named, Parenthesized, Selection, Composite, Unary, Binary, Call, Receive, Make, MakeSized, Length, Capacity, Expressions, NoMore, Following, expressions, Arguments, Place, Part, Value, Text, Simple, CallAlone, Close, Print, ReceiveAlone, Send, Increment, Decrement, Assign, Define, Update, IfHead, Bare, Semicolon, First, Target, NoTarget, DefineTarget, AssignTarget, ForHead, Forever, While, ForClauses, Range, Comm, CommSend, CommReceive, CommDefine, CommAssign, Returned, NoValue, ReturnedValue, Statement, Empty, Alone, VarTyped, VarUntyped, Block, If, For, Select, Go, Return, Break, Continue, Statements, NoStatement, Then, Otherwise, Branch, Conditional, NoElse, ElseBlock, ElseIf, Clauses, NoClause, Clause, Declared, Top, StructTop, FunctionTop, File}
use Rattle.syntax.specs.Measures.{type_size, expression_size, expressions_size, arguments_size, part_size, simple_size, if_head_size, target_size, for_head_size, comm_size, if_any, returned_size, statement_size, statements_size, branch_size, otherwise_size, clauses_size, declared_size, top_size, size}
use Rattle.syntax.proofs.Lists.{expressions_size-of}
use Rattle.spans.specs.Words.{joined, braced, direction_count, type_count, expression_count, place_count, place_step, part_step, simple_count, if_head_count, target_count, for_head_count, second_name_count, start_count, statement_count, body_count, clause_count, group_step, groups_count, top_step}
use Rattle.spans.specs.Places.{type_spans, expression_spans, values_spans, arguments_spans, right_spans, part_spans, parts_spans, places_spans, below_simple, simple_spans, optional_spans, if_head_spans, target_spans, for_head_spans, receive_spans, below_comm, start_spans, initial_spans, returned_spans, statement_spans, body_spans, branch_spans, otherwise_spans, clauses_spans, group_spans, groups_spans, top_spans, tops_spans, file_spans}

-- ---- types and expressions

length-type_spans : (tokens : List Token) (at : ℕ) (kind : TypeExpression) → length (type_spans tokens at kind) ≡ type_size kind
length-type_spans tokens at (NamedType name) = refl
length-type_spans tokens at (ParenthesizedType inner) =
    omega (arith, length-append {A = Span}, length-type_spans tokens (at + 1) inner)
length-type_spans tokens at (Channel direction element) =
    omega (arith, length-append {A = Span}, length-type_spans tokens (at + direction_count direction) element)

mutual
  length-expression_spans : (tokens : List Token) (at : ℕ) (e : Expression) → length (expression_spans tokens at e) ≡ expression_size e
  length-expression_spans tokens at (Integer value) = refl
  length-expression_spans tokens at (Named name) = refl
  length-expression_spans tokens at (Parenthesized inner) =
      omega (arith, length-append {A = Span}, length-expression_spans tokens (at + 1) inner)
  length-expression_spans tokens at (Selection whole field) =
      omega (arith, length-append {A = Span}, length-expression_spans tokens at whole)
  length-expression_spans tokens at (Composite name values trailing) =
      omega (arith, length-append {A = Span}, length-values_spans tokens (at + 2) values)
  length-expression_spans tokens at (Unary operator operand) =
      omega (arith, length-append {A = Span}, length-expression_spans tokens (at + 1) operand)
  length-expression_spans tokens at (Binary operator left right) =
      omega (arith, length-append {A = Span}, length-expression_spans tokens at left, length-expression_spans tokens (at + expression_count left + 1) right)
  length-expression_spans tokens at (Call function values trailing) =
      omega (arith, length-append {A = Span}, length-values_spans tokens (at + 2) values)
  length-expression_spans tokens at (Receive channel) =
      omega (arith, length-append {A = Span}, length-expression_spans tokens (at + 1) channel)
  length-expression_spans tokens at (Make channel) =
      omega (arith, length-append {A = Span}, length-type_spans tokens (at + 2) channel)
  length-expression_spans tokens at (MakeSized channel size) =
      omega (arith, length-append {A = Span}, length-type_spans tokens (at + 2) channel, length-expression_spans tokens (at + 2 + type_count channel + 1) size)
  length-expression_spans tokens at (Length channel) =
      omega (arith, length-append {A = Span}, length-expression_spans tokens (at + 2) channel)
  length-expression_spans tokens at (Capacity channel) =
      omega (arith, length-append {A = Span}, length-expression_spans tokens (at + 2) channel)

  length-values_spans : (tokens : List Token) (at : ℕ) (es : Expressions) → length (values_spans tokens at es) ≡ expressions_size es
  length-values_spans tokens at NoMore = refl
  length-values_spans tokens at (Following first rest) =
      omega (arith, length-append {A = Span}, length-expression_spans tokens at first, length-values_spans tokens (at + (expression_count first + 1)) rest)

-- ---- right sides

length-arguments_spans : (tokens : List Token) (at : ℕ) (arguments : Arguments) → length (arguments_spans tokens at arguments) ≡ arguments_size arguments
length-arguments_spans tokens at arguments =
    omega (arith, length-values_spans tokens (at + 1) (expressions arguments.values), expressions_size-of arguments.values)

length-right_spans : (tokens : List Token) (at : ℕ) (values : List Expression) → length (right_spans tokens at values) ≡ sum_by expression_size values
length-right_spans tokens at values =
    omega (arith, length-values_spans tokens at (expressions values), expressions_size-of values)

-- ---- simple statements

length-part_spans : (tokens : List Token) (at : ℕ) (p : Part) → length (part_spans tokens at p) ≡ part_size p
length-part_spans tokens at (Value value) = length-expression_spans tokens at value
length-part_spans tokens at (Text bytes) = refl

length-parts_spans : (tokens : List Token) (at : ℕ) (ps : List Part) → length (parts_spans tokens at ps) ≡ sum_by part_size ps
length-parts_spans tokens at [] = refl
length-parts_spans tokens at (p ∷ ps) =
    omega (arith, length-append {A = Span}, length-part_spans tokens at p, length-parts_spans tokens (at + part_step p) ps, sum_by-cons part_size p ps)

length-places_spans : (tokens : List Token) (at : ℕ) (ps : List Place) → length (places_spans tokens at ps) ≡ length ps
length-places_spans tokens at [] = refl
length-places_spans tokens at (p ∷ ps) = omega (arith, length-places_spans tokens (at + place_step p) ps)

length-below_simple : (tokens : List Token) (at : ℕ) (s : Simple) → length (below_simple tokens at s) + 1 ≡ simple_size s
length-below_simple tokens at (CallAlone function arguments) = omega (arith, length-arguments_spans tokens (at + 1) arguments)
length-below_simple tokens at (Close channel) = omega (arith, length-expression_spans tokens (at + 2) channel)
length-below_simple tokens at (Print line parts trailing) = omega (arith, length-parts_spans tokens (at + 2) parts)
length-below_simple tokens at (ReceiveAlone channel) = omega (arith, length-expression_spans tokens (at + 1) channel)
length-below_simple tokens at (Send channel value) =
    omega (arith, length-append {A = Span}, length-expression_spans tokens at channel, length-expression_spans tokens (at + expression_count channel + 1) value)
length-below_simple tokens at (Increment place) = refl
length-below_simple tokens at (Decrement place) = refl
length-below_simple tokens at (Assign places right) =
    omega (arith, length-append {A = Span}, length-places_spans tokens at places, length-right_spans tokens (at + sum_by place_step places) right)
length-below_simple tokens at (Define names right) = omega (arith, length-right_spans tokens (at + length names * 2) right)
length-below_simple tokens at (Update place operator value) = omega (arith, length-expression_spans tokens (at + place_count place + 1) value)

length-simple_spans : (tokens : List Token) (at : ℕ) (s : Simple) → length (simple_spans tokens at s) ≡ simple_size s
length-simple_spans tokens at s = omega (arith, length-append {A = Span}, length-below_simple tokens at s)

-- ---- headers

length-optional_spans : {A : Type 0} (spans : List Token → ℕ → A → List Span) (nodes : A → ℕ) (tokens : List Token) (at : ℕ) (x : Option A)
    → ((y : A) → length (spans tokens at y) ≡ nodes y) → length (optional_spans spans tokens at x) ≡ if_any nodes x
length-optional_spans spans nodes tokens at None each = refl
length-optional_spans spans nodes tokens at (Some x) each = each x

length-if_head_spans : (tokens : List Token) (at : ℕ) (head : IfHead) → length (if_head_spans tokens at head) ≡ if_head_size head
length-if_head_spans tokens at Bare = refl
length-if_head_spans tokens at Semicolon = refl
length-if_head_spans tokens at (First simple) = length-simple_spans tokens at simple

length-target_spans : (tokens : List Token) (at : ℕ) (target : Target) → length (target_spans tokens at target) ≡ target_size target
length-target_spans tokens at NoTarget = refl
length-target_spans tokens at (DefineTarget name) = refl
length-target_spans tokens at (AssignTarget place) = refl

length-for_head_spans : (tokens : List Token) (at : ℕ) (head : ForHead) → length (for_head_spans tokens at head) ≡ for_head_size head
length-for_head_spans tokens at Forever = refl
length-for_head_spans tokens at (While condition) = length-expression_spans tokens at condition
length-for_head_spans tokens at (ForClauses first condition post) =
    let second = at + if_any simple_count first + 1 in
    let third = second + if_any expression_count condition + 1 in
    omega (
      arith,
      length-append {A = Span},
      length-optional_spans simple_spans simple_size tokens at first (length-simple_spans tokens at),
      length-optional_spans expression_spans expression_size tokens second condition (length-expression_spans tokens second),
      length-optional_spans simple_spans simple_size tokens third post (length-simple_spans tokens third),
    )
length-for_head_spans tokens at (Range target channel) =
    omega (arith, length-append {A = Span}, length-target_spans tokens at target, length-expression_spans tokens (at + target_count target + 1) channel)

-- ---- clauses of a select

length-receive_spans : (tokens : List Token) (at : ℕ) (channel : Expression) → length (receive_spans tokens at channel) ≡ expression_size channel + 1
length-receive_spans tokens at channel = omega (arith, length-append {A = Span}, length-expression_spans tokens (at + 1) channel)

length-below_comm : (tokens : List Token) (at : ℕ) (comm : Comm) → length (below_comm tokens at comm) + 1 ≡ comm_size comm
length-below_comm tokens at (CommSend channel value) =
    omega (arith, length-append {A = Span}, length-expression_spans tokens at channel, length-expression_spans tokens (at + expression_count channel + 1) value)
length-below_comm tokens at (CommReceive channel) = omega (arith, length-expression_spans tokens (at + 1) channel)
length-below_comm tokens at (CommDefine item ok channel) = omega (arith, length-receive_spans tokens (at + second_name_count ok + 2) channel)
length-below_comm tokens at (CommAssign item None channel) =
    omega (arith, length-append {A = Span}, length-receive_spans tokens (at + place_count item + 0 + 1) channel)
length-below_comm tokens at (CommAssign item (Some ok) channel) =
    omega (arith, length-append {A = Span}, length-receive_spans tokens (at + place_count item + place_step ok + 1) channel)

length-start_spans : (tokens : List Token) (at : ℕ) (comm : Option Comm) → length (start_spans tokens at comm) ≡ if_any comm_size comm
length-start_spans tokens at None = refl
length-start_spans tokens at (Some comm) = omega (arith, length-append {A = Span}, length-below_comm tokens (at + 1) comm)

-- ---- statements

length-initial_spans : (tokens : List Token) (at : ℕ) (right : Option (List Expression)) → length (initial_spans tokens at right) ≡ if_any (sum_by expression_size) right
length-initial_spans tokens at None = refl
length-initial_spans tokens at (Some right) = length-right_spans tokens (at + 1) right

length-returned_spans : (tokens : List Token) (at : ℕ) (returned : Returned) → length (returned_spans tokens at returned) ≡ returned_size returned
length-returned_spans tokens at NoValue = refl
length-returned_spans tokens at (ReturnedValue value) = length-expression_spans tokens at value

mutual
  length-statement_spans : (tokens : List Token) (at : ℕ) (s : Statement) → length (statement_spans tokens at s) ≡ statement_size s
  length-statement_spans tokens at Empty = refl
  length-statement_spans tokens at (Alone simple) = length-simple_spans tokens at simple
  length-statement_spans tokens at (VarTyped names kind right) =
      let after_names = at + 1 + joined (length names * 2) in
      omega (arith, length-append {A = Span}, length-type_spans tokens after_names kind, length-initial_spans tokens (after_names + type_count kind) right)
  length-statement_spans tokens at (VarUntyped names right) =
      omega (arith, length-append {A = Span}, length-right_spans tokens (at + 1 + length names * 2) right)
  length-statement_spans tokens at (Block body) =
      omega (arith, length-append {A = Span}, length-body_spans tokens (at + 1) body)
  length-statement_spans tokens at (If branch) = length-branch_spans tokens at branch
  length-statement_spans tokens at (For head body) =
      omega (arith, length-append {A = Span}, length-for_head_spans tokens (at + 1) head, length-body_spans tokens (at + 1 + for_head_count head + 1) body)
  length-statement_spans tokens at (Select clauses) =
      omega (arith, length-append {A = Span}, length-clauses_spans tokens (at + 2) clauses)
  length-statement_spans tokens at (Go function arguments) =
      omega (arith, length-append {A = Span}, length-arguments_spans tokens (at + 2) arguments)
  length-statement_spans tokens at (Return returned) =
      omega (arith, length-append {A = Span}, length-returned_spans tokens (at + 1) returned)
  length-statement_spans tokens at Break = refl
  length-statement_spans tokens at Continue = refl

  length-body_spans : (tokens : List Token) (at : ℕ) (body : Statements) → length (body_spans tokens at body) ≡ statements_size body
  length-body_spans tokens at NoStatement = refl
  length-body_spans tokens at (Then first rest) =
      omega (arith, length-append {A = Span}, length-statement_spans tokens at first, length-body_spans tokens (at + (statement_count first + 1)) rest)

  length-branch_spans : (tokens : List Token) (at : ℕ) (branch : Branch) → length (branch_spans tokens at branch) ≡ branch_size branch
  length-branch_spans tokens at (Conditional head condition body otherwise) =
      let after_head = at + 1 + if_head_count head in
      let opening = after_head + expression_count condition in
      omega (
        arith,
        length-append {A = Span},
        length-if_head_spans tokens (at + 1) head,
        length-expression_spans tokens after_head condition,
        length-body_spans tokens (opening + 1) body,
        length-otherwise_spans tokens (opening + braced (body_count body)) otherwise,
      )

  length-otherwise_spans : (tokens : List Token) (at : ℕ) (otherwise : Otherwise) → length (otherwise_spans tokens at otherwise) ≡ otherwise_size otherwise
  length-otherwise_spans tokens at NoElse = refl
  length-otherwise_spans tokens at (ElseBlock body) = omega (arith, length-append {A = Span}, length-body_spans tokens (at + 1 + 1) body)
  length-otherwise_spans tokens at (ElseIf branch) = length-branch_spans tokens (at + 1) branch

  length-clauses_spans : (tokens : List Token) (at : ℕ) (all : Clauses) → length (clauses_spans tokens at all) ≡ clauses_size all
  length-clauses_spans tokens at NoClause = refl
  length-clauses_spans tokens at (Clause comm body rest) =
      omega (
        arith,
        length-append {A = Span},
        length-start_spans tokens at comm,
        length-body_spans tokens (at + start_count comm) body,
        length-clauses_spans tokens (at + clause_count comm body) rest,
      )

-- ---- declarations

length-group_spans : (tokens : List Token) (at : ℕ) (group : Declared) → length (group_spans tokens at group) ≡ declared_size group
length-group_spans tokens at group =
    omega (arith, length-append {A = Span}, length-type_spans tokens (at + joined (length group.names * 2)) group.type_expression)

length-groups_spans : (tokens : List Token) (at : ℕ) (groups : List Declared) → length (groups_spans tokens at groups) ≡ sum_by declared_size groups
length-groups_spans tokens at [] = refl
length-groups_spans tokens at (first ∷ rest) =
    omega (arith, length-append {A = Span}, length-group_spans tokens at first, length-groups_spans tokens (at + group_step first) rest, sum_by-cons declared_size first rest)

length-top_spans : (tokens : List Token) (at : ℕ) (top : Top) → length (top_spans tokens at top) ≡ top_size top
length-top_spans tokens at (StructTop struct) =
    omega (arith, length-append {A = Span}, length-groups_spans tokens (at + 4) struct.fields)
length-top_spans tokens at (FunctionTop function) =
    let after_parameters = at + (groups_count function.parameters function.trailing + 4) in
    let opening = after_parameters + if_any type_count function.result in
    omega (
      arith,
      length-append {A = Span},
      length-groups_spans tokens (at + 3) function.parameters,
      length-optional_spans type_spans type_size tokens after_parameters function.result (length-type_spans tokens after_parameters),
      length-body_spans tokens (opening + 1) function.body,
    )

length-tops_spans : (tokens : List Token) (at : ℕ) (tops : List Top) → length (tops_spans tokens at tops) ≡ sum_by top_size tops
length-tops_spans tokens at [] = refl
length-tops_spans tokens at (first ∷ rest) =
    omega (arith, length-append {A = Span}, length-top_spans tokens at first, length-tops_spans tokens (at + top_step first) rest, sum_by-cons top_size first rest)

-- A file has as many spans as nodes.
pub spans_of_all_nodes : (spans : List Span) (tokens : List Token) (file : File) → spans ≡ file_spans tokens file → length spans ≡ size file
spans_of_all_nodes spans tokens file all =
    omega (arith, ap length all, length-append {A = Span}, length-tops_spans tokens 3 file.tops)
