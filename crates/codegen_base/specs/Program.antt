-- The code of a file.
use Rattle.std.specs.Str.{is_utf8}
use Rattle.std.specs.Prelude.{ℕ, ◌+◌, List, [], ◌∷◌, ◌++◌, length, Option, Some, None, if◌then◌else◌}
use Rattle.syntax.specs.Tree.{TypeExpression, Expression, Integer, Named, Parenthesized, Selection, Composite, Unary, Binary, Call, Receive, Make, MakeSized, Length, Capacity, Expressions, NoMore, Following, expressions, Part, Value, Text, Simple, CallAlone, Close, Print, ReceiveAlone, Send, Increment, Decrement, Assign, Define, Update, ForHead, Forever, While, ForClauses, Range, Comm, Returned, NoValue, ReturnedValue, Go, Statement, Alone, VarTyped, VarUntyped, Block, If, For, Select, Return, Statements, NoStatement, Then, Branch, Conditional, Otherwise, NoElse, ElseBlock, ElseIf, Clauses, NoClause, Clause, Declared, Function, Top, StructTop, FunctionTop, File}
use Rattle.bytecode.specs.Code.{Function as CodeFunction, PrintTable, SelectTable, Code}
use Rattle.type_table.specs.Scopes.{Globals, Yield, nothing_declared, type_in}
use Rattle.typing_rules.specs.Statements.{head_simple}
use Rattle.typing_rules.specs.Simples.{comm_simple}
use Rattle.typing_rules.specs.Kinds.{fields_declared, yield_of, globals_of}
use Rattle.meaning.specs.Values.{known}
use Rattle.codegen_base.specs.declared.element.Element.{Element}
use Rattle.codegen_base.specs.Elements.{with_type, shapes_of}
use Rattle.codegen_base.specs.Layouts.{Layout, empty, with_parameters}
use Rattle.codegen_base.specs.Generated.{Made, result_kinds, made_body}
use Rattle.plan.specs.Plan.{table_count, flat, tables}

-- ---- what the file's channels carry: each type that is written in it, in order

module _ (types : List (List ℕ)) where
  abbrev pub noting : TypeExpression → List Element → List Element
  noting kind all = with_type all (known (type_in types nothing_declared kind))

  abbrev pub noting_any : Option TypeExpression → List Element → List Element
  noting_any None all = all
  noting_any (Some kind) all = noting kind all

  abbrev mutual
    pub noting_expression : Expression → List Element → List Element
    noting_expression (Integer value) all = all
    noting_expression (Named name) all = all
    noting_expression (Parenthesized inner) all = noting_expression inner all
    noting_expression (Selection whole field) all = noting_expression whole all
    noting_expression (Composite name values trailing) all = noting_expressions values all
    noting_expression (Unary operator operand) all = noting_expression operand all
    noting_expression (Binary operator left right) all = noting_expression right (noting_expression left all)
    noting_expression (Call function values trailing) all = noting_expressions values all
    noting_expression (Receive channel) all = noting_expression channel all
    noting_expression (Make kind) all = noting kind all
    noting_expression (MakeSized kind size) all = noting_expression size (noting kind all)
    noting_expression (Length channel) all = noting_expression channel all
    noting_expression (Capacity channel) all = noting_expression channel all

    pub noting_expressions : Expressions → List Element → List Element
    noting_expressions NoMore all = all
    noting_expressions (Following first rest) all = noting_expressions rest (noting_expression first all)

  abbrev pub noting_values : List Expression → List Element → List Element
  noting_values values all = noting_expressions (expressions values) all

  abbrev pub noting_given : Option (List Expression) → List Element → List Element
  noting_given None all = all
  noting_given (Some right) all = noting_values right all

  abbrev pub noting_value : Option Expression → List Element → List Element
  noting_value None all = all
  noting_value (Some value) all = noting_expression value all

  abbrev pub noting_parts : List Part → List Element → List Element
  noting_parts [] all = all
  noting_parts (Value value ∷ rest) all = noting_parts rest (noting_expression value all)
  noting_parts (Text bytes ∷ rest) all = noting_parts rest all

  abbrev pub noting_simple : Simple → List Element → List Element
  noting_simple (CallAlone function arguments) all = noting_values arguments.values all
  noting_simple (Close channel) all = noting_expression channel all
  noting_simple (Print line parts trailing) all = noting_parts parts all
  noting_simple (ReceiveAlone channel) all = noting_expression channel all
  noting_simple (Send channel value) all = noting_expression value (noting_expression channel all)
  noting_simple (Increment place) all = all
  noting_simple (Decrement place) all = all
  noting_simple (Assign places right) all = noting_values right all
  noting_simple (Define names right) all = noting_values right all
  noting_simple (Update place operator value) all = noting_expression value all

  abbrev pub noting_first : Option Simple → List Element → List Element
  noting_first None all = all
  noting_first (Some simple) all = noting_simple simple all

  abbrev pub noting_head : ForHead → List Element → List Element
  noting_head Forever all = all
  noting_head (While condition) all = noting_expression condition all
  noting_head (ForClauses first condition post) all = noting_first post (noting_value condition (noting_first first all))
  noting_head (Range _ channel) all = noting_expression channel all

  abbrev pub noting_comm : Option Comm → List Element → List Element
  noting_comm None all = all
  noting_comm (Some comm) all = noting_simple (comm_simple comm) all

  abbrev pub noting_returned : Returned → List Element → List Element
  noting_returned NoValue all = all
  noting_returned (ReturnedValue value) all = noting_expression value all

  abbrev mutual
    pub noting_statement : Statement → List Element → List Element
    noting_statement (Alone simple) all = noting_simple simple all
    noting_statement (VarTyped names kind right) all = noting_given right (noting kind all)
    noting_statement (VarUntyped names right) all = noting_values right all
    noting_statement (Block body) all = noting_statements body all
    noting_statement (If branch) all = noting_branch branch all
    noting_statement (For head body) all = noting_statements body (noting_head head all)
    noting_statement (Select clauses) all = noting_clauses clauses all
    noting_statement (Go function arguments) all = noting_values arguments.values all
    noting_statement (Return returned) all = noting_returned returned all
    noting_statement statement all = all

    pub noting_statements : Statements → List Element → List Element
    noting_statements NoStatement all = all
    noting_statements (Then first rest) all = noting_statements rest (noting_statement first all)

    pub noting_branch : Branch → List Element → List Element
    noting_branch (Conditional head condition body otherwise) all =
        noting_otherwise otherwise (noting_statements body (noting_expression condition (noting_first (head_simple head) all)))

    pub noting_otherwise : Otherwise → List Element → List Element
    noting_otherwise NoElse all = all
    noting_otherwise (ElseBlock body) all = noting_statements body all
    noting_otherwise (ElseIf branch) all = noting_branch branch all

    pub noting_clauses : Clauses → List Element → List Element
    noting_clauses NoClause all = all
    noting_clauses (Clause comm body rest) all = noting_clauses rest (noting_statements body (noting_comm comm all))

  abbrev pub noting_declared : List Declared → List Element → List Element
  noting_declared [] all = all
  noting_declared (group ∷ rest) all = noting_declared rest (noting group.type_expression all)

  abbrev pub noting_top : Top → List Element → List Element
  noting_top (StructTop struct) all = noting_declared struct.fields all
  noting_top (FunctionTop function) all = noting_statements function.body (noting_any function.result (noting_declared function.parameters all))

  abbrev pub noting_tops : List Top → List Element → List Element
  noting_tops [] all = all
  noting_tops (top ∷ rest) all = noting_tops rest (noting_top top all)

-- ---- functions

-- a function's name as text, which it always is
abbrev pub label : List ℕ → List ℕ
label name = if is_utf8 name then name else []

module _ (globals : Globals) (elements : List Element) where
  abbrev pub result_of : Function → Yield
  result_of function = yield_of globals.types function.result

  -- the parameters are the first locals
  abbrev pub first_layout : Function → Layout
  first_layout function = with_parameters globals elements (fields_declared globals.types function.parameters) empty

  -- what is made of a function, whose first tables have these numbers
  abbrev pub made_function : ℕ → ℕ → Function → Made
  made_function prints selects function =
      made_body globals elements (result_of function) (record { layout = first_layout function; prints = prints; selects = selects }) function.body

  abbrev pub function_code : Function → Made → CodeFunction
  function_code function made = record {
    name = label function.name;
    params = length (first_layout function).locals;
    locals = made.layout.locals;
    results = result_kinds globals elements (result_of function);
    instrs = flat 0 0 0 made.plan;
  }

  -- functions, with their tables
  abbrev pub functions_code : ℕ → ℕ → List Top → List CodeFunction
  functions_code prints selects [] = []
  functions_code prints selects (StructTop struct ∷ rest) = functions_code prints selects rest
  functions_code prints selects (FunctionTop function ∷ rest) =
      let made = made_function prints selects function in
      function_code function made ∷ functions_code (prints + length made.prints) (selects + table_count made.plan) rest

  abbrev pub all_prints : ℕ → ℕ → List Top → List PrintTable
  all_prints prints selects [] = []
  all_prints prints selects (StructTop struct ∷ rest) = all_prints prints selects rest
  all_prints prints selects (FunctionTop function ∷ rest) =
      let made = made_function prints selects function in
      made.prints ++ all_prints (prints + length made.prints) (selects + table_count made.plan) rest

  abbrev pub all_selects : ℕ → ℕ → List Top → List SelectTable
  all_selects prints selects [] = []
  all_selects prints selects (StructTop struct ∷ rest) = all_selects prints selects rest
  all_selects prints selects (FunctionTop function ∷ rest) =
      let made = made_function prints selects function in
      tables 0 made.plan ++ all_selects (prints + length made.prints) (selects + table_count made.plan) rest

abbrev pub elements_of : File → List Element
elements_of file = noting_tops (globals_of file.tops).types file.tops []

abbrev pub code_of : File → Code
code_of file =
    let globals = globals_of file.tops in
    let elements = elements_of file in
    record {
      functions = functions_code globals elements 0 0 file.tops;
      shapes = shapes_of globals.structs elements;
      prints = all_prints globals elements 0 0 file.tops;
      selects = all_selects globals elements 0 0 file.tops;
    }
