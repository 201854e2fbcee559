-- What the channels of a file carry grows with each part of it.
use Rattle.std.proofs.Common.{ℕ, List, [], ◌∷◌, Option, Some, None}
use Rattle.syntax.specs.Tree.{TypeExpression, Expression, expressions, Part, Value, Text, Simple, CallAlone, Close, Print, ReceiveAlone, Send, Increment, Decrement, Assign, Define, Update, ForHead, Forever, While, ForClauses, Range, Comm, Returned, NoValue, ReturnedValue, Statement, Empty, Alone, VarTyped, VarUntyped, Block, If, For, Select, Go, Return, Break, Continue, Statements, NoStatement, Then, Branch, Conditional, Otherwise, NoElse, ElseBlock, ElseIf, Clauses, NoClause, Clause, Declared, Top, StructTop, FunctionTop}
use Rattle.typing_rules.specs.Simples.{comm_simple}
use Rattle.typing_rules.specs.Statements.{head_simple}
use Rattle.type_table.specs.Scopes.{nothing_declared, type_in}
use Rattle.meaning.specs.Values.{known}
use Rattle.codegen_base.specs.declared.element.Element.{Element}
use Rattle.codegen_base.specs.Program.{noting, noting_any, noting_expression, noting_values, noting_given, noting_value, noting_parts, noting_simple, noting_first, noting_head, noting_comm, noting_returned, noting_statement, noting_statements, noting_branch, noting_otherwise, noting_clauses, noting_declared, noting_top, noting_tops}
use Rattle.codegen_base.proofs.Noted.{Grows, grows_no, grows_on, type_grows}
use Rattle.codegen_base.proofs.Makes.{expression_grows, expressions_grow}

module _ (types : List (List ℕ)) where
  pub kind_grows : (kind : TypeExpression) (all : List Element) → Grows all (noting types kind all)
  kind_grows kind all = type_grows all (known (type_in types nothing_declared kind))

  pub values_grow : (values : List Expression) (all : List Element) → Grows all (noting_values types values all)
  values_grow values all = expressions_grow types (expressions values) all

  pub given_grows : (right : Option (List Expression)) (all : List Element) → Grows all (noting_given types right all)
  given_grows None all = grows_no all
  given_grows (Some right) all = values_grow right all

  pub value_grows : (value : Option Expression) (all : List Element) → Grows all (noting_value types value all)
  value_grows None all = grows_no all
  value_grows (Some value) all = expression_grows types value all

  pub parts_grow : (parts : List Part) (all : List Element) → Grows all (noting_parts types parts all)
  parts_grow [] all = grows_no all
  parts_grow (Value value ∷ rest) all = let one = noting_expression types value all in grows_on all one (noting_parts types rest one) (expression_grows types value all) (parts_grow rest one)
  parts_grow (Text bytes ∷ rest) all = parts_grow rest all

  pub simple_grows : (simple : Simple) (all : List Element) → Grows all (noting_simple types simple all)
  simple_grows (CallAlone function arguments) all = values_grow arguments.values all
  simple_grows (Close channel) all = expression_grows types channel all
  simple_grows (Print line parts trailing) all = parts_grow parts all
  simple_grows (ReceiveAlone channel) all = expression_grows types channel all
  simple_grows (Send channel value) all = let one = noting_expression types channel all in grows_on all one (noting_expression types value one) (expression_grows types channel all) (expression_grows types value one)
  simple_grows (Increment place) all = grows_no all
  simple_grows (Decrement place) all = grows_no all
  simple_grows (Assign places right) all = values_grow right all
  simple_grows (Define names right) all = values_grow right all
  simple_grows (Update place operator value) all = expression_grows types value all

  pub first_grows : (simple : Option Simple) (all : List Element) → Grows all (noting_first types simple all)
  first_grows None all = grows_no all
  first_grows (Some simple) all = simple_grows simple all

  pub head_grows : (head : ForHead) (all : List Element) → Grows all (noting_head types head all)
  head_grows Forever all = grows_no all
  head_grows (While condition) all = expression_grows types condition all
  head_grows (ForClauses first condition post) all =
      let one = noting_first types first all in
      let two = noting_value types condition one in
      let three = noting_first types post two in
      grows_on all one three (first_grows first all) (grows_on one two three (value_grows condition one) (first_grows post two))
  head_grows (Range _ channel) all = expression_grows types channel all

  pub comm_grows : (comm : Option Comm) (all : List Element) → Grows all (noting_comm types comm all)
  comm_grows None all = grows_no all
  comm_grows (Some comm) all = simple_grows (comm_simple comm) all

  pub returned_grows : (returned : Returned) (all : List Element) → Grows all (noting_returned types returned all)
  returned_grows NoValue all = grows_no all
  returned_grows (ReturnedValue value) all = expression_grows types value all

  mutual
    pub statement_grows : (s : Statement) (all : List Element) → Grows all (noting_statement types s all)
    statement_grows Empty all = grows_no all
    statement_grows (Alone simple) all = simple_grows simple all
    statement_grows (VarTyped names kind right) all = let one = noting types kind all in grows_on all one (noting_given types right one) (kind_grows kind all) (given_grows right one)
    statement_grows (VarUntyped names right) all = values_grow right all
    statement_grows (Block body) all = statements_grow body all
    statement_grows (If branch) all = branch_grows branch all
    statement_grows (For head body) all = let one = noting_head types head all in grows_on all one (noting_statements types body one) (head_grows head all) (statements_grow body one)
    statement_grows (Select clauses) all = clauses_grow clauses all
    statement_grows (Go function arguments) all = values_grow arguments.values all
    statement_grows (Return returned) all = returned_grows returned all
    statement_grows Break all = grows_no all
    statement_grows Continue all = grows_no all

    pub statements_grow : (body : Statements) (all : List Element) → Grows all (noting_statements types body all)
    statements_grow NoStatement all = grows_no all
    statements_grow (Then first rest) all = let one = noting_statement types first all in grows_on all one (noting_statements types rest one) (statement_grows first all) (statements_grow rest one)

    pub branch_grows : (branch : Branch) (all : List Element) → Grows all (noting_branch types branch all)
    branch_grows (Conditional head condition body otherwise) all =
        let one = noting_first types (head_simple head) all in
        let two = noting_expression types condition one in
        let three = noting_statements types body two in
        let four = noting_otherwise types otherwise three in
        grows_on all one four (first_grows (head_simple head) all) (grows_on one two four (expression_grows types condition one) (grows_on two three four (statements_grow body two) (otherwise_grows otherwise three)))

    pub otherwise_grows : (otherwise : Otherwise) (all : List Element) → Grows all (noting_otherwise types otherwise all)
    otherwise_grows NoElse all = grows_no all
    otherwise_grows (ElseBlock body) all = statements_grow body all
    otherwise_grows (ElseIf branch) all = branch_grows branch all

    pub clauses_grow : (clauses : Clauses) (all : List Element) → Grows all (noting_clauses types clauses all)
    clauses_grow NoClause all = grows_no all
    clauses_grow (Clause comm body rest) all =
        let one = noting_comm types comm all in
        let two = noting_statements types body one in
        let three = noting_clauses types rest two in
        grows_on all one three (comm_grows comm all) (grows_on one two three (statements_grow body one) (clauses_grow rest two))

  pub declared_grow : (groups : List Declared) (all : List Element) → Grows all (noting_declared types groups all)
  declared_grow [] all = grows_no all
  declared_grow (group ∷ rest) all = let one = noting types group.type_expression all in grows_on all one (noting_declared types rest one) (kind_grows group.type_expression all) (declared_grow rest one)

  pub any_grows : (kind : Option TypeExpression) (all : List Element) → Grows all (noting_any types kind all)
  any_grows None all = grows_no all
  any_grows (Some kind) all = kind_grows kind all

  pub top_grows : (top : Top) (all : List Element) → Grows all (noting_top types top all)
  top_grows (StructTop struct) all = declared_grow struct.fields all
  top_grows (FunctionTop function) all =
      let one = noting_declared types function.parameters all in
      let two = noting_any types function.result one in
      grows_on all one (noting_statements types function.body two) (declared_grow function.parameters all) (grows_on one two (noting_statements types function.body two) (any_grows function.result one) (statements_grow function.body two))

  pub tops_grow : (tops : List Top) (all : List Element) → Grows all (noting_tops types tops all)
  tops_grow [] all = grows_no all
  tops_grow (top ∷ rest) all = let one = noting_top types top all in grows_on all one (noting_tops types rest one) (top_grows top all) (tops_grow rest one)
