-- The elements of all channel types that the statements of a file make are noted, and no post statement declares anything.
use Rattle.std.proofs.Common.{ℕ, List, [], ◌∷◌, Option, Some, None, IfSome}
use Rattle.syntax.specs.Tree.{TypeExpression, Expression, expressions, Part, Value, Text, Simple, CallAlone, Close, Print, ReceiveAlone, Send, Increment, Decrement, Assign, Define, Update, IfHead, First, Bare, Semicolon, Forever, While, ForClauses, Range, Comm, Returned, NoValue, ReturnedValue, Statement, Empty, Alone, VarTyped, VarUntyped, Block, If, For, Select, Go, Return, Break, Continue, Statements, NoStatement, Then, Branch, Conditional, Otherwise, NoElse, ElseBlock, ElseIf, Clauses, NoClause, Clause}
use Rattle.type_table.specs.Scopes.{Globals, nothing_declared, type_in}
use Rattle.typing_rules.specs.Simples.{comm_simple}
use Rattle.typing_rules.specs.Statements.{head_simple}
use Rattle.meaning.specs.Values.{known}
use Rattle.codegen_base.specs.declared.element.Element.{Element}
use Rattle.codegen_base.specs.Program.{noting, noting_expression, noting_values, noting_given, noting_value, noting_parts, noting_simple, noting_first, noting_head, noting_comm, noting_returned, noting_statement, noting_statements, noting_branch, noting_otherwise, noting_clauses}
use Rattle.syntax.specs.Grammar.{StillAny, FormedStatement, FormedAll, FormedBranch, FormedOtherwise, FormedClauses}
use Rattle.codegen_base.proofs.Noted.{Noted, Grows, grows_on, noted_grows, type_noted}
use Rattle.codegen_base.proofs.Makes.{makes_grows, make_grow, expression_grows, expression_makes, expressions_make}
use Rattle.codegen_base.proofs.Noting.{given_grows, value_grows, parts_grow, first_grows, statements_grow, otherwise_grows, clauses_grow}
use Rattle.codegen_base.proofs.StatementMakes.{DeclaresNone, OneMakes, ValuesMake, PartsMake, SimpleMakes, ReturnedMakes, IfHeadMakes, ForHeadMakes, CommMakes, Makes, AllMake, BranchMakes, OtherwiseMakes, ClausesMake}

none_declared : (post : Option Simple) → StillAny post → IfSome post DeclaresNone
none_declared None still = tt
none_declared (Some (CallAlone a b)) still = tt
none_declared (Some (Close a)) still = tt
none_declared (Some (Print a b c)) still = tt
none_declared (Some (ReceiveAlone a)) still = tt
none_declared (Some (Send a b)) still = tt
none_declared (Some (Increment a)) still = tt
none_declared (Some (Decrement a)) still = tt
none_declared (Some (Assign a b)) still = tt
none_declared (Some (Define a b)) still = absurd still
none_declared (Some (Update a b c)) still = tt

module _ (globals : Globals) (elements : List Element) where
  abbrev types : List (List ℕ)
  types = globals.types

  abbrev Grown : List Element → Type 0
  Grown some = Grows some elements

  pub kind_noted : (kind : TypeExpression) (some : List Element) → Grown (noting types kind some) → Noted elements (known (type_in types nothing_declared kind))
  kind_noted kind some g = noted_grows (noting types kind some) elements (known (type_in types nothing_declared kind)) g (type_noted some (known (type_in types nothing_declared kind)))

  one_makes : (e : Expression) (some : List Element) → Grown (noting_expression types e some) → OneMakes globals elements e
  one_makes e some g = makes_grows types (noting_expression types e some) elements g e (expression_makes types e some)

  values_make : (values : List Expression) (some : List Element) → Grown (noting_values types values some) → ValuesMake globals elements values
  values_make values some g = make_grow types (noting_values types values some) elements g (expressions values) (expressions_make types (expressions values) some)

  given_makes : (right : Option (List Expression)) (some : List Element) → Grown (noting_given types right some) → IfSome right (ValuesMake globals elements)
  given_makes None some g = tt
  given_makes (Some right) some g = values_make right some g

  value_makes : (value : Option Expression) (some : List Element) → Grown (noting_value types value some) → IfSome value (OneMakes globals elements)
  value_makes None some g = tt
  value_makes (Some value) some g = one_makes value some g

  parts_make : (parts : List Part) (some : List Element) → Grown (noting_parts types parts some) → PartsMake globals elements parts
  parts_make [] some g = tt
  parts_make (Value value ∷ rest) some g =
      let one = noting_expression types value some in (one_makes value some (grows_on one (noting_parts types rest one) elements (parts_grow types rest one) g), parts_make rest one g)
  parts_make (Text bytes ∷ rest) some g = parts_make rest some g

  simple_makes : (simple : Simple) (some : List Element) → Grown (noting_simple types simple some) → SimpleMakes globals elements simple
  simple_makes (CallAlone function arguments) some g = values_make arguments.values some g
  simple_makes (Close channel) some g = one_makes channel some g
  simple_makes (Print line parts trailing) some g = parts_make parts some g
  simple_makes (ReceiveAlone channel) some g = one_makes channel some g
  simple_makes (Send channel value) some g =
      let one = noting_expression types channel some in (one_makes channel some (grows_on one (noting_expression types value one) elements (expression_grows types value one) g), one_makes value one g)
  simple_makes (Increment place) some g = tt
  simple_makes (Decrement place) some g = tt
  simple_makes (Assign places right) some g = values_make right some g
  simple_makes (Define names right) some g = values_make right some g
  simple_makes (Update place operator value) some g = one_makes value some g

  first_makes : (simple : Option Simple) (some : List Element) → Grown (noting_first types simple some) → IfSome simple (SimpleMakes globals elements)
  first_makes None some g = tt
  first_makes (Some simple) some g = simple_makes simple some g

  if_makes : (head : IfHead) (some : List Element) → Grown (noting_first types (head_simple head) some) → IfHeadMakes globals elements head
  if_makes (First simple) some g = simple_makes simple some g
  if_makes Bare some g = tt
  if_makes Semicolon some g = tt

  clauses_head_makes : (first : Option Simple) (condition : Option Expression) (post : Option Simple) (some : List Element) → StillAny post → Grown (noting_head types (ForClauses first condition post) some) → ForHeadMakes globals elements (ForClauses first condition post)
  clauses_head_makes first condition post some still g =
      let one = noting_first types first some in
      let two = noting_value types condition one in
      let following = grows_on two (noting_first types post two) elements (first_grows types post two) g in
      (first_makes first some (grows_on one two elements (value_grows types condition one) following), value_makes condition one following, first_makes post two g, none_declared post still)

  comm_makes : (comm : Option Comm) (some : List Element) → Grown (noting_comm types comm some) → CommMakes globals elements comm
  comm_makes None some g = tt
  comm_makes (Some comm) some g = simple_makes (comm_simple comm) some g

  returned_makes : (returned : Returned) (some : List Element) → Grown (noting_returned types returned some) → ReturnedMakes globals elements returned
  returned_makes NoValue some g = tt
  returned_makes (ReturnedValue value) some g = one_makes value some g

  mutual
    statement_makes : (s : Statement) (some : List Element) → FormedStatement s → Grown (noting_statement types s some) → Makes globals elements s
    statement_makes Empty some still g = tt
    statement_makes (Alone simple) some still g = simple_makes simple some g
    statement_makes (VarTyped names kind right) some still g =
        let one = noting types kind some in (kind_noted kind some (grows_on one (noting_given types right one) elements (given_grows types right one) g), given_makes right one g)
    statement_makes (VarUntyped names right) some still g = values_make right some g
    statement_makes (Block body) some still g = all_make body some still g
    statement_makes (If branch) some still g = branch_makes branch some still g
    statement_makes (For Forever body) some still g = (tt, all_make body some still g)
    statement_makes (For (While condition) body) some still g =
        let one = noting_expression types condition some in (one_makes condition some (grows_on one (noting_statements types body one) elements (statements_grow types body one) g), all_make body one still g)
    statement_makes (For (ForClauses first condition post) body) some still g =
        let one = noting_head types (ForClauses first condition post) some in (clauses_head_makes first condition post some still.0 (grows_on one (noting_statements types body one) elements (statements_grow types body one) g), all_make body one still.1 g)
    statement_makes (For (Range to channel) body) some still g =
        let one = noting_expression types channel some in (one_makes channel some (grows_on one (noting_statements types body one) elements (statements_grow types body one) g), all_make body one still g)
    statement_makes (Select clauses) some still g = clauses_make clauses some still g
    statement_makes (Go function arguments) some still g = values_make arguments.values some g
    statement_makes (Return returned) some still g = returned_makes returned some g
    statement_makes Break some still g = tt
    statement_makes Continue some still g = tt

    pub all_make : (body : Statements) (some : List Element) → FormedAll body → Grown (noting_statements types body some) → AllMake globals elements body
    all_make NoStatement some still g = tt
    all_make (Then first rest) some still g =
        let one = noting_statement types first some in (statement_makes first some still.0 (grows_on one (noting_statements types rest one) elements (statements_grow types rest one) g), all_make rest one still.1 g)

    branch_makes : (branch : Branch) (some : List Element) → FormedBranch branch → Grown (noting_branch types branch some) → BranchMakes globals elements branch
    branch_makes (Conditional head condition body otherwise) some still g =
        let one = noting_first types (head_simple head) some in
        let two = noting_expression types condition one in
        let three = noting_statements types body two in
        let g3 = grows_on three (noting_otherwise types otherwise three) elements (otherwise_grows types otherwise three) g in
        let g2 = grows_on two three elements (statements_grow types body two) g3 in
        (if_makes head some (grows_on one two elements (expression_grows types condition one) g2), one_makes condition one g2, all_make body two still.0 g3, otherwise_makes otherwise three still.1 g)

    otherwise_makes : (otherwise : Otherwise) (some : List Element) → FormedOtherwise otherwise → Grown (noting_otherwise types otherwise some) → OtherwiseMakes globals elements otherwise
    otherwise_makes NoElse some still g = tt
    otherwise_makes (ElseBlock body) some still g = all_make body some still g
    otherwise_makes (ElseIf branch) some still g = branch_makes branch some still g

    clauses_make : (clauses : Clauses) (some : List Element) → FormedClauses clauses → Grown (noting_clauses types clauses some) → ClausesMake globals elements clauses
    clauses_make NoClause some still g = tt
    clauses_make (Clause comm body rest) some still g =
        let one = noting_comm types comm some in
        let two = noting_statements types body one in
        let g2 = grows_on two (noting_clauses types rest two) elements (clauses_grow types rest two) g in
        (comm_makes comm some (grows_on one two elements (statements_grow types body one) g2), all_make body one still.0 g2, clauses_make rest two still.1 g)
