-- What is so of the elements of channels, and stays so with each type that is written, is so of those of a file.
use Rattle.std.proofs.Common.{ℕ, List, [], ◌∷◌, Option, Some, None}
use Rattle.syntax.specs.Tree.{TypeExpression, Expression, Integer, Named, Parenthesized, Selection, Composite, Unary, Binary, Call, Receive, Make, MakeSized, Length, Capacity, Expressions, NoMore, Following, expressions, Part, Value, Text, Simple, CallAlone, Close, Print, ReceiveAlone, Send, Increment, Decrement, Assign, Define, Update, ForHead, Forever, While, ForClauses, Range, Comm, Returned, NoValue, ReturnedValue, Statement, Empty, Alone, VarTyped, VarUntyped, Block, If, For, Select, Go, Return, Break, Continue, Statements, NoStatement, Then, Branch, Conditional, Otherwise, NoElse, ElseBlock, ElseIf, Clauses, NoClause, Clause, Declared, Top, StructTop, FunctionTop}
use Rattle.typing_rules.specs.Simples.{comm_simple}
use Rattle.typing_rules.specs.Statements.{head_simple}
use Rattle.codegen_base.specs.declared.element.Element.{Element}
use Rattle.codegen_base.specs.Program.{noting, noting_any, noting_expression, noting_expressions, noting_values, noting_given, noting_value, noting_parts, noting_simple, noting_first, noting_head, noting_comm, noting_returned, noting_statement, noting_statements, noting_branch, noting_otherwise, noting_clauses, noting_declared, noting_top, noting_tops}

module _ (types : List (List ℕ)) (P : List Element → Type 0) (step : (all : List Element) (kind : TypeExpression) → P all → P (noting types kind all)) where
  abbrev Keeps : List Element → List Element → Type 0
  Keeps a b = P a → P b

  keeps_no : (a : List Element) → Keeps a a
  keeps_no a p = p

  keeps_on : (a b c : List Element) → Keeps a b → Keeps b c → Keeps a c
  keeps_on a b c x y p = y (x p)

  kind_keeps : (kind : TypeExpression) (all : List Element) → Keeps all (noting types kind all)
  kind_keeps kind all = step all kind

  mutual
    expression_keeps : (e : Expression) (all : List Element) → Keeps all (noting_expression types e all)
    expression_keeps (Integer value) all = keeps_no all
    expression_keeps (Named name) all = keeps_no all
    expression_keeps (Parenthesized inner) all = expression_keeps inner all
    expression_keeps (Selection whole field) all = expression_keeps whole all
    expression_keeps (Composite name values trailing) all = expressions_keep values all
    expression_keeps (Unary operator operand) all = expression_keeps operand all
    expression_keeps (Binary operator left right) all =
        let one = noting_expression types left all in keeps_on all one (noting_expression types right one) (expression_keeps left all) (expression_keeps right one)
    expression_keeps (Call function values trailing) all = expressions_keep values all
    expression_keeps (Receive channel) all = expression_keeps channel all
    expression_keeps (Make kind) all = kind_keeps kind all
    expression_keeps (MakeSized kind size) all =
        let one = noting types kind all in keeps_on all one (noting_expression types size one) (kind_keeps kind all) (expression_keeps size one)
    expression_keeps (Length channel) all = expression_keeps channel all
    expression_keeps (Capacity channel) all = expression_keeps channel all

    expressions_keep : (es : Expressions) (all : List Element) → Keeps all (noting_expressions types es all)
    expressions_keep NoMore all = keeps_no all
    expressions_keep (Following first rest) all =
        let one = noting_expression types first all in keeps_on all one (noting_expressions types rest one) (expression_keeps first all) (expressions_keep rest one)

  values_keep : (values : List Expression) (all : List Element) → Keeps all (noting_values types values all)
  values_keep values all = expressions_keep (expressions values) all

  given_keeps : (right : Option (List Expression)) (all : List Element) → Keeps all (noting_given types right all)
  given_keeps None all = keeps_no all
  given_keeps (Some right) all = values_keep right all

  value_keeps : (value : Option Expression) (all : List Element) → Keeps all (noting_value types value all)
  value_keeps None all = keeps_no all
  value_keeps (Some value) all = expression_keeps value all

  parts_keep : (parts : List Part) (all : List Element) → Keeps all (noting_parts types parts all)
  parts_keep [] all = keeps_no all
  parts_keep (Value value ∷ rest) all = let one = noting_expression types value all in keeps_on all one (noting_parts types rest one) (expression_keeps value all) (parts_keep rest one)
  parts_keep (Text bytes ∷ rest) all = parts_keep rest all

  simple_keeps : (simple : Simple) (all : List Element) → Keeps all (noting_simple types simple all)
  simple_keeps (CallAlone function arguments) all = values_keep arguments.values all
  simple_keeps (Close channel) all = expression_keeps channel all
  simple_keeps (Print line parts trailing) all = parts_keep parts all
  simple_keeps (ReceiveAlone channel) all = expression_keeps channel all
  simple_keeps (Send channel value) all = let one = noting_expression types channel all in keeps_on all one (noting_expression types value one) (expression_keeps channel all) (expression_keeps value one)
  simple_keeps (Increment place) all = keeps_no all
  simple_keeps (Decrement place) all = keeps_no all
  simple_keeps (Assign places right) all = values_keep right all
  simple_keeps (Define names right) all = values_keep right all
  simple_keeps (Update place operator value) all = expression_keeps value all

  first_keeps : (simple : Option Simple) (all : List Element) → Keeps all (noting_first types simple all)
  first_keeps None all = keeps_no all
  first_keeps (Some simple) all = simple_keeps simple all

  head_keeps : (head : ForHead) (all : List Element) → Keeps all (noting_head types head all)
  head_keeps Forever all = keeps_no all
  head_keeps (While condition) all = expression_keeps condition all
  head_keeps (ForClauses first condition post) all =
      let one = noting_first types first all in
      let two = noting_value types condition one in
      let three = noting_first types post two in
      keeps_on all one three (first_keeps first all) (keeps_on one two three (value_keeps condition one) (first_keeps post two))
  head_keeps (Range target channel) all = expression_keeps channel all

  comm_keeps : (comm : Option Comm) (all : List Element) → Keeps all (noting_comm types comm all)
  comm_keeps None all = keeps_no all
  comm_keeps (Some comm) all = simple_keeps (comm_simple comm) all

  returned_keeps : (returned : Returned) (all : List Element) → Keeps all (noting_returned types returned all)
  returned_keeps NoValue all = keeps_no all
  returned_keeps (ReturnedValue value) all = expression_keeps value all

  mutual
    statement_keeps : (s : Statement) (all : List Element) → Keeps all (noting_statement types s all)
    statement_keeps Empty all = keeps_no all
    statement_keeps (Alone simple) all = simple_keeps simple all
    statement_keeps (VarTyped names kind right) all = let one = noting types kind all in keeps_on all one (noting_given types right one) (kind_keeps kind all) (given_keeps right one)
    statement_keeps (VarUntyped names right) all = values_keep right all
    statement_keeps (Block body) all = statements_keep body all
    statement_keeps (If branch) all = branch_keeps branch all
    statement_keeps (For head body) all = let one = noting_head types head all in keeps_on all one (noting_statements types body one) (head_keeps head all) (statements_keep body one)
    statement_keeps (Select clauses) all = clauses_keep clauses all
    statement_keeps (Go function arguments) all = values_keep arguments.values all
    statement_keeps (Return returned) all = returned_keeps returned all
    statement_keeps Break all = keeps_no all
    statement_keeps Continue all = keeps_no all

    statements_keep : (body : Statements) (all : List Element) → Keeps all (noting_statements types body all)
    statements_keep NoStatement all = keeps_no all
    statements_keep (Then first rest) all = let one = noting_statement types first all in keeps_on all one (noting_statements types rest one) (statement_keeps first all) (statements_keep rest one)

    branch_keeps : (branch : Branch) (all : List Element) → Keeps all (noting_branch types branch all)
    branch_keeps (Conditional head condition body otherwise) all =
        let one = noting_first types (head_simple head) all in
        let two = noting_expression types condition one in
        let three = noting_statements types body two in
        let four = noting_otherwise types otherwise three in
        keeps_on all one four (first_keeps (head_simple head) all) (keeps_on one two four (expression_keeps condition one) (keeps_on two three four (statements_keep body two) (otherwise_keeps otherwise three)))

    otherwise_keeps : (otherwise : Otherwise) (all : List Element) → Keeps all (noting_otherwise types otherwise all)
    otherwise_keeps NoElse all = keeps_no all
    otherwise_keeps (ElseBlock body) all = statements_keep body all
    otherwise_keeps (ElseIf branch) all = branch_keeps branch all

    clauses_keep : (clauses : Clauses) (all : List Element) → Keeps all (noting_clauses types clauses all)
    clauses_keep NoClause all = keeps_no all
    clauses_keep (Clause comm body rest) all =
        let one = noting_comm types comm all in
        let two = noting_statements types body one in
        let three = noting_clauses types rest two in
        keeps_on all one three (comm_keeps comm all) (keeps_on one two three (statements_keep body one) (clauses_keep rest two))

  declared_keep : (groups : List Declared) (all : List Element) → Keeps all (noting_declared types groups all)
  declared_keep [] all = keeps_no all
  declared_keep (group ∷ rest) all = let one = noting types group.type_expression all in keeps_on all one (noting_declared types rest one) (kind_keeps group.type_expression all) (declared_keep rest one)

  any_keeps : (kind : Option TypeExpression) (all : List Element) → Keeps all (noting_any types kind all)
  any_keeps None all = keeps_no all
  any_keeps (Some kind) all = kind_keeps kind all

  top_keeps : (top : Top) (all : List Element) → Keeps all (noting_top types top all)
  top_keeps (StructTop struct) all = declared_keep struct.fields all
  top_keeps (FunctionTop function) all =
      let one = noting_declared types function.parameters all in
      let two = noting_any types function.result one in
      keeps_on all one (noting_statements types function.body two) (declared_keep function.parameters all) (keeps_on one two (noting_statements types function.body two) (any_keeps function.result one) (statements_keep function.body two))

  pub tops_keep : (tops : List Top) (all : List Element) → Keeps all (noting_tops types tops all)
  tops_keep [] all = keeps_no all
  tops_keep (top ∷ rest) all = let one = noting_top types top all in keeps_on all one (noting_tops types rest one) (top_keeps top all) (tops_keep rest one)
