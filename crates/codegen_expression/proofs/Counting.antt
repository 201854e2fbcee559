-- How many elements are noted at most: one for each node.
use Rattle.std.proofs.Common.{◌≡◌, ℕ, ◌+◌, ◌≤◌, Bool, true, false, List, [], ◌∷◌, ◌++◌, length, Option, Some, None, option_map, refl, sym, ap, ◌∙◌, arith, length-append}
use Rattle.std.specs.Prelude.{if◌then◌else◌, sum_by, bytes_eq, codes}
use Rattle.std.specs.Option.{is_some}
use Rattle.std.proofs.lemmas.List.Sums.{sum_by-cons}
use Rattle.syntax.specs.Tree.{TypeExpression, NamedType, ParenthesizedType, Channel, Expression, Integer, Named, Parenthesized, Selection, Composite, Unary, Binary, Call, Receive, Make, MakeSized, Length, Capacity, Expressions, NoMore, Following, expressions, Part, Value, Text, Simple, CallAlone, Close, Print, ReceiveAlone, Send, Increment, Decrement, Assign, Define, Update, IfHead, Bare, Semicolon, First, ForHead, Forever, While, ForClauses, Range, Comm, CommSend, CommReceive, CommDefine, CommAssign, Returned, NoValue, ReturnedValue, Statement, Empty, Alone, VarTyped, VarUntyped, Block, If, For, Select, Go, Return, Break, Continue, Statements, NoStatement, Then, Branch, Conditional, Otherwise, NoElse, ElseBlock, ElseIf, Clauses, NoClause, Clause, Declared, Top, StructTop, FunctionTop}
use Rattle.syntax.specs.Measures.{if_any, type_size, expression_size, expressions_size, part_size, simple_size, if_head_size, for_head_size, comm_size, returned_size, statement_size, statements_size, branch_size, otherwise_size, clauses_size, declared_size, top_size}
use Rattle.type_table.specs.declared.value_type.ValueType.{ValueType as Kind}
use Rattle.type_table.specs.Views.{kind_of}
use Rattle.type_table.specs.Types.{ValueType, IntType, BoolType, StructType, ChannelType}
use Rattle.type_table.specs.Scopes.{nothing_declared, number_of, type_in, variable_named}
use Rattle.typing_rules.specs.Statements.{head_simple}
use Rattle.meaning.specs.Values.{known}
use Rattle.codegen_base.specs.declared.element.Element.{Element}
use Rattle.codegen_base.specs.Elements.{element_of, found_at, with_element, with_type}
use Rattle.codegen_base.specs.Program.{noting, noting_any, noting_comm, noting_expression, noting_expressions, noting_given, noting_parts, noting_simple, noting_first, noting_head, noting_returned, noting_statement, noting_statements, noting_branch, noting_otherwise, noting_clauses, noting_declared, noting_top, noting_tops, noting_value, noting_values}
use Rattle.codegen_expression.specs.Depths.{depth}

with_one : (all : List Element) (e : Element) → length (with_element all e) ≤ length all + 1
with_one all e = go (is_some (found_at all e)) where
  go : (t : Bool) → length (if t then all else all ++ e ∷ []) ≤ length all + 1
  go true = omega arith
  go false = omega (arith, length-append all (e ∷ []))

pub with_length : (kind : ValueType) (all : List Element) → length (with_type all kind) ≤ length all + depth kind
with_length IntType all = omega arith
with_length BoolType all = omega arith
with_length (StructType number) all = omega arith
with_length (ChannelType direction carried) all =
    let inner = with_length carried all in
    let one = with_one (with_type all carried) (element_of (with_type all carried) carried) in omega (arith, inner, one)

-- values have as many nodes counted one by one as in a row
pub all_sizes : (values : List Expression) → expressions_size (expressions values) ≡ sum_by expression_size values
all_sizes [] = refl
all_sizes (first ∷ rest) = ap (λ n. expression_size first + n) (all_sizes rest) ∙ sym (sum_by-cons expression_size first rest)

-- ---- in the order of the tree

module _ (types : List (List ℕ)) where
  pub written_depth : (kind : TypeExpression) → depth (known (type_in types nothing_declared kind)) + 1 ≤ type_size kind
  written_depth (NamedType name) = go (is_some (variable_named nothing_declared name)) (bytes_eq name (codes "int")) (bytes_eq name (codes "bool")) (number_of types name) where
    go : (hidden a b : Bool) (o : Option ℕ) → depth (known (if hidden then None else (if a then Some IntType else (if b then Some BoolType else option_map StructType o)))) + 1 ≤ 1
    go true a b o = omega arith
    go false true b o = omega arith
    go false false true o = omega arith
    go false false false None = omega arith
    go false false false (Some n) = omega arith
  written_depth (ParenthesizedType inner) = let i = written_depth inner in omega (arith, i)
  written_depth (Channel direction element) = go (type_in types nothing_declared element) (written_depth element) where
    go : (o : Option ValueType) → depth (known o) + 1 ≤ type_size element → depth (known (option_map (ChannelType direction) o)) + 1 ≤ type_size element + 1
    go None le = omega (arith, le)
    go (Some kind) le = omega (arith, le)

  -- a type in memory lies no deeper than it is written
  pub kind_depth : (node : TypeExpression) (found : Option Kind) (kind : Kind) → found ≡ Some kind → option_map (kind_of types) found ≡ type_in types nothing_declared node → depth (kind_of types kind) + 1 ≤ type_size node
  kind_depth node found kind is means =
      let d = written_depth node in
      let same : kind_of types kind ≡ known (type_in types nothing_declared node) = ap (λ o. known (option_map (kind_of types) o)) (sym is) ∙ ap known means in omega (arith, d, ap depth same)

  pub noting_length : (kind : TypeExpression) (all : List Element) → length (noting types kind all) ≤ length all + type_size kind
  noting_length kind all =
      let n = with_length (known (type_in types nothing_declared kind)) all in
      let d = written_depth kind in omega (arith, n, d)

  pub any_length : (kind : Option TypeExpression) (all : List Element) → length (noting_any types kind all) ≤ length all + if_any type_size kind
  any_length None all = omega arith
  any_length (Some kind) all = noting_length kind all

  mutual
    pub expression_length : (e : Expression) (all : List Element) → length (noting_expression types e all) ≤ length all + expression_size e
    expression_length (Integer value) all = omega arith
    expression_length (Named name) all = omega arith
    expression_length (Parenthesized inner) all = let a = expression_length inner all in omega (arith, a)
    expression_length (Selection whole field) all = let a = expression_length whole all in omega (arith, a)
    expression_length (Composite name values trailing) all = let a = expressions_length values all in omega (arith, a)
    expression_length (Unary operator operand) all = let a = expression_length operand all in omega (arith, a)
    expression_length (Binary operator left right) all =
        let a = expression_length left all in
        let b = expression_length right (noting_expression types left all) in omega (arith, a, b)
    expression_length (Call function values trailing) all = let a = expressions_length values all in omega (arith, a)
    expression_length (Receive channel) all = let a = expression_length channel all in omega (arith, a)
    expression_length (Make kind) all = let a = noting_length kind all in omega (arith, a)
    expression_length (MakeSized kind size) all =
        let a = noting_length kind all in
        let b = expression_length size (noting types kind all) in omega (arith, a, b)
    expression_length (Length channel) all = let a = expression_length channel all in omega (arith, a)
    expression_length (Capacity channel) all = let a = expression_length channel all in omega (arith, a)

    pub expressions_length : (values : Expressions) (all : List Element) → length (noting_expressions types values all) ≤ length all + expressions_size values
    expressions_length NoMore all = omega arith
    expressions_length (Following first rest) all =
        let a = expression_length first all in
        let b = expressions_length rest (noting_expression types first all) in omega (arith, a, b)

  pub values_length : (values : List Expression) (all : List Element) → length (noting_values types values all) ≤ length all + sum_by expression_size values
  values_length values all = let a = expressions_length (expressions values) all in omega (arith, a, all_sizes values)

  pub given_length : (right : Option (List Expression)) (all : List Element) → length (noting_given types right all) ≤ length all + if_any (sum_by expression_size) right
  given_length None all = omega arith
  given_length (Some right) all = values_length right all

  pub value_length : (value : Option Expression) (all : List Element) → length (noting_value types value all) ≤ length all + if_any expression_size value
  value_length None all = omega arith
  value_length (Some value) all = expression_length value all

  pub parts_length : (parts : List Part) (all : List Element) → length (noting_parts types parts all) ≤ length all + sum_by part_size parts
  parts_length [] all = omega arith
  parts_length (Value value ∷ rest) all =
      let a = expression_length value all in
      let b = parts_length rest (noting_expression types value all) in
      let s = sum_by-cons part_size (Value value) rest in omega (arith, a, b, s)
  parts_length (Text bytes ∷ rest) all =
      let b = parts_length rest all in
      let s = sum_by-cons part_size (Text bytes) rest in omega (arith, b, s)

  pub simple_length : (simple : Simple) (all : List Element) → length (noting_simple types simple all) ≤ length all + simple_size simple
  simple_length (CallAlone function arguments) all = let n = values_length arguments.values all in omega (arith, n)
  simple_length (Close channel) all = let n = expression_length channel all in omega (arith, n)
  simple_length (Print line parts trailing) all = let n = parts_length parts all in omega (arith, n)
  simple_length (ReceiveAlone channel) all = let n = expression_length channel all in omega (arith, n)
  simple_length (Send channel value) all =
      let a = expression_length channel all in
      let b = expression_length value (noting_expression types channel all) in omega (arith, a, b)
  simple_length (Increment place) all = omega arith
  simple_length (Decrement place) all = omega arith
  simple_length (Assign places right) all = let n = values_length right all in omega (arith, n)
  simple_length (Define names right) all = let n = values_length right all in omega (arith, n)
  simple_length (Update place operator value) all = let n = expression_length value all in omega (arith, n)

  pub first_length : (simple : Option Simple) (all : List Element) → length (noting_first types simple all) ≤ length all + if_any simple_size simple
  first_length None all = omega arith
  first_length (Some simple) all = simple_length simple all

  pub if_length : (head : IfHead) (all : List Element) → length (noting_first types (head_simple head) all) ≤ length all + if_head_size head
  if_length Bare all = omega arith
  if_length Semicolon all = omega arith
  if_length (First simple) all = simple_length simple all

  pub head_length : (head : ForHead) (all : List Element) → length (noting_head types head all) ≤ length all + for_head_size head
  head_length Forever all = omega arith
  head_length (While condition) all = let n = expression_length condition all in omega (arith, n)
  head_length (ForClauses first condition post) all =
      let a = first_length first all in
      let b = value_length condition (noting_first types first all) in
      let c = first_length post (noting_value types condition (noting_first types first all)) in omega (arith, a, b, c)
  head_length (Range to channel) all = let n = expression_length channel all in omega (arith, n)

  pub comm_length : (comm : Option Comm) (all : List Element) → length (noting_comm types comm all) ≤ length all + if_any comm_size comm
  comm_length None all = omega arith
  comm_length (Some (CommSend channel value)) all =
      let a = expression_length channel all in
      let b = expression_length value (noting_expression types channel all) in omega (arith, a, b)
  comm_length (Some (CommReceive channel)) all = let n = expression_length channel all in omega (arith, n)
  comm_length (Some (CommDefine item ok channel)) all = let n = expression_length channel all in omega (arith, n)
  comm_length (Some (CommAssign item ok channel)) all = let n = expression_length channel all in omega (arith, n)

  pub returned_length : (returned : Returned) (all : List Element) → length (noting_returned types returned all) ≤ length all + returned_size returned
  returned_length NoValue all = omega arith
  returned_length (ReturnedValue value) all = expression_length value all

  mutual
    pub statement_length : (statement : Statement) (all : List Element) → length (noting_statement types statement all) ≤ length all + statement_size statement
    statement_length Empty all = omega arith
    statement_length (Alone simple) all = simple_length simple all
    statement_length (VarTyped names kind right) all =
        let a = noting_length kind all in
        let b = given_length right (noting types kind all) in omega (arith, a, b)
    statement_length (VarUntyped names right) all = let a = values_length right all in omega (arith, a)
    statement_length (Block body) all = let a = statements_length body all in omega (arith, a)
    statement_length (If branch) all = branch_length branch all
    statement_length (For head body) all =
        let a = head_length head all in
        let b = statements_length body (noting_head types head all) in omega (arith, a, b)
    statement_length (Select clauses) all = let a = clauses_length clauses all in omega (arith, a)
    statement_length (Go function arguments) all = let a = values_length arguments.values all in omega (arith, a)
    statement_length (Return returned) all = let a = returned_length returned all in omega (arith, a)
    statement_length Break all = omega arith
    statement_length Continue all = omega arith

    pub statements_length : (body : Statements) (all : List Element) → length (noting_statements types body all) ≤ length all + statements_size body
    statements_length NoStatement all = omega arith
    statements_length (Then first rest) all =
        let a = statement_length first all in
        let b = statements_length rest (noting_statement types first all) in omega (arith, a, b)

    pub branch_length : (branch : Branch) (all : List Element) → length (noting_branch types branch all) ≤ length all + branch_size branch
    branch_length (Conditional head condition body otherwise) all =
        let first = noting_first types (head_simple head) all in
        let tested = noting_expression types condition first in
        let a = if_length head all in
        let b = expression_length condition first in
        let c = statements_length body tested in
        let d = otherwise_length otherwise (noting_statements types body tested) in omega (arith, a, b, c, d)

    pub otherwise_length : (otherwise : Otherwise) (all : List Element) → length (noting_otherwise types otherwise all) ≤ length all + otherwise_size otherwise
    otherwise_length NoElse all = omega arith
    otherwise_length (ElseBlock body) all = let a = statements_length body all in omega (arith, a)
    otherwise_length (ElseIf branch) all = branch_length branch all

    pub clauses_length : (clauses : Clauses) (all : List Element) → length (noting_clauses types clauses all) ≤ length all + clauses_size clauses
    clauses_length NoClause all = omega arith
    clauses_length (Clause comm body rest) all =
        let noted = noting_comm types comm all in
        let a = comm_length comm all in
        let b = statements_length body noted in
        let c = clauses_length rest (noting_statements types body noted) in omega (arith, a, b, c)

  pub declared_length : (groups : List Declared) (all : List Element) → length (noting_declared types groups all) ≤ length all + sum_by declared_size groups
  declared_length [] all = omega arith
  declared_length (group ∷ rest) all =
      let a = noting_length group.type_expression all in
      let b = declared_length rest (noting types group.type_expression all) in
      let s = sum_by-cons declared_size group rest in omega (arith, a, b, s)

  pub top_length : (top : Top) (all : List Element) → length (noting_top types top all) ≤ length all + top_size top
  top_length (StructTop struct) all = let a = declared_length struct.fields all in omega (arith, a)
  top_length (FunctionTop function) all =
      let a = declared_length function.parameters all in
      let b = any_length function.result (noting_declared types function.parameters all) in
      let c = statements_length function.body (noting_any types function.result (noting_declared types function.parameters all)) in omega (arith, a, b, c)

  pub tops_length : (tops : List Top) (all : List Element) → length (noting_tops types tops all) ≤ length all + sum_by top_size tops
  tops_length [] all = omega arith
  tops_length (top ∷ rest) all =
      let a = top_length top all in
      let b = tops_length rest (noting_top types top all) in
      let s = sum_by-cons top_size top rest in omega (arith, a, b, s)
