-- A part of a tree is spelt by as many lexemes as it is counted for.
use Rattle.std.proofs.Common.{◌≡◌, ℕ, ◌+◌, ◌-◌, ◌*◌, ◌≤◌, Bool, true, false, List, [], ◌∷◌, ◌++◌, length, sum_by, arith, length-append, Option, Some, None}
use Rattle.std.proofs.lemmas.List.Sums.{sum_by-cons}
use Rattle.scanner.specs.declared.kind.TokenKind.{TokenKind}
use Rattle.scanner.specs.declared.kind.TokenKind.TheVariants as kinds
use Rattle.syntax.specs.declared.node.Direction.TheVariants as directions
use Rattle.syntax.specs.Tree.{TypeExpression, NamedType, ParenthesizedType, Channel, Expression, Integer, Named, Parenthesized, Selection, Composite, Unary, Binary, Call, Receive, Make, MakeSized, Length, Capacity, Expressions, NoMore, Following, expressions, Arguments, Place, Part, Value, Text, Simple, CallAlone, Close, Print, ReceiveAlone, Send, Increment, Decrement, Assign, Define, Update, IfHead, Bare, Semicolon, First, Target, NoTarget, DefineTarget, AssignTarget, ForHead, Forever, While, ForClauses, Range, Comm, CommSend, CommReceive, CommDefine, CommAssign, Returned, NoValue, ReturnedValue, Statement, Empty, Alone, VarTyped, VarUntyped, Block, If, For, Select, Go, Return, Break, Continue, Statements, NoStatement, Then, Otherwise, Branch, Conditional, NoElse, ElseBlock, ElseIf, Clauses, NoClause, Clause, statements_in, Declared, Top, StructTop, FunctionTop, File}
use Rattle.syntax.specs.Measures.{if_any}
use Rattle.spans.specs.Words.{type_count, trailing_count, expression_count, values_count, arguments_count, right_count, place_count, part_count, part_step, place_step, simple_count, if_head_count, target_count, for_head_count, second_count, second_name_count, comm_count, returned_count, initial_count, start_count, statement_count, body_count, branch_count, otherwise_count, clauses_count, group_count, group_step, groups_count, block_count, top_count, top_step, file_count}
use Rattle.parser_base.specs.Lexemes.{Lexeme, Name, Mark}
use Rattle.parser_base.specs.Spelling.{following, separated, joined, closing, before, AreAll, AreSome, binary_kind, expression_words, expressions_words, more_words as more_values, type_words}
use Rattle.parser_simple.specs.Spelling.{name_words, IsName, place_words, IsPlace, arguments_words, right_words, part_words, simple_words, update_kind, IsSimple}
use Rattle.parser_header.specs.Spelling.{if_head_words, IsIfHead, optional, IsAny, target_words, for_head_words, IsForHead, second_name_words, second_place_words, comm_words}
use Rattle.parser_statement.specs.Spelling.{returned_words, initial_words, clause_start, statement_words, body_words, more_words, branch_words, otherwise_words, clauses_words, IsStatement, IsBody, AreStatements, IsBranch, IsOtherwise, AreClauses}
use Rattle.parser.specs.Spelling.{declared_words, result_words, block_words, top_words, IsTop, tops_words, words}

-- ---- lists

closing_counts : (separator close : TokenKind) (trailing : Bool) (rest : List Lexeme) → length (closing separator close trailing rest) ≡ trailing_count trailing + 1 + length rest
closing_counts separator close true rest = omega arith
closing_counts separator close false rest = omega arith

-- each of these and the mark before it
separated_counts : {A : Type 0} (step : A → ℕ) (each : A → List Lexeme → List Lexeme) (separator : TokenKind) (xs : List A) (rest : List Lexeme) → ((x : A) (ws : List Lexeme) → length (each x ws) + 1 ≡ step x + length ws)
    → length (separated each (following separator) xs rest) ≡ sum_by step xs + length rest
separated_counts step each separator [] rest one = omega arith
separated_counts step each separator (x ∷ xs) rest one =
    omega (arith, one x (separated each (following separator) xs rest), separated_counts step each separator xs rest one, sum_by-cons step x xs)

joined_counts : {A : Type 0} (step : A → ℕ) (each : A → List Lexeme → List Lexeme) (separator : TokenKind) (xs : List A) (rest : List Lexeme) → ((x : A) → 1 ≤ step x) → ((x : A) (ws : List Lexeme) → length (each x ws) + 1 ≡ step x + length ws)
    → length (joined each (following separator) xs rest) ≡ (sum_by step xs - 1) + length rest
joined_counts step each separator [] rest some one = omega arith
joined_counts step each separator (x ∷ xs) rest some one =
    omega (arith, some x, one x (separated each (following separator) xs rest), separated_counts step each separator xs rest one, sum_by-cons step x xs)

separated_names : (separator : TokenKind) (ns : List (List ℕ)) (rest : List Lexeme) → length (separated name_words (following separator) ns rest) ≡ length ns * 2 + length rest
separated_names separator [] rest = omega arith
separated_names separator (n ∷ ns) rest = omega (arith, separated_names separator ns rest)

joined_names : (separator : TokenKind) (ns : List (List ℕ)) (rest : List Lexeme) → length (joined name_words (following separator) ns rest) ≡ (length ns * 2 - 1) + length rest
joined_names separator [] rest = omega arith
joined_names separator (n ∷ ns) rest = omega (arith, separated_names separator ns rest)

some_names : (ns : List (List ℕ)) → AreSome IsName ns → 1 ≤ length ns
some_names [] some = absurd some
some_names (n ∷ ns) some = omega arith

-- ---- types and expressions

type_counts : (t : TypeExpression) → length (type_words t) ≡ type_count t
type_counts (NamedType name) = omega arith
type_counts (ParenthesizedType inner) = omega (arith, type_counts inner, length-append (type_words inner) (Mark kinds.RightParenthesis ∷ []))
type_counts (Channel directions.Both element) = omega (arith, type_counts element)
type_counts (Channel directions.Send element) = omega (arith, type_counts element)
type_counts (Channel directions.Receive element) = omega (arith, type_counts element)

type_before : (t : TypeExpression) (rest : List Lexeme) → length (type_words t ++ rest) ≡ type_count t + length rest
type_before t rest = omega (arith, type_counts t, length-append (type_words t) rest)

mutual
  expression_counts : (e : Expression) → length (expression_words e) ≡ expression_count e
  expression_counts (Integer value) = omega arith
  expression_counts (Named name) = omega arith
  expression_counts (Parenthesized inner) = omega (arith, expression_counts inner, length-append (expression_words inner) (Mark kinds.RightParenthesis ∷ []))
  expression_counts (Selection whole field) = omega (arith, expression_counts whole, length-append (expression_words whole) (Mark kinds.Period ∷ Name field ∷ []))
  expression_counts (Composite name values trailing) =
      omega (arith, values_counts values, closing_counts kinds.Comma kinds.RightBrace trailing [], length-append (expressions_words values) (closing kinds.Comma kinds.RightBrace trailing []))
  expression_counts (Unary operator operand) = omega (arith, expression_counts operand)
  expression_counts (Binary operator left right) =
      omega (arith, expression_counts left, expression_counts right, length-append (expression_words left) (Mark (binary_kind operator) ∷ expression_words right))
  expression_counts (Call function values trailing) =
      omega (arith, values_counts values, closing_counts kinds.Comma kinds.RightParenthesis trailing [], length-append (expressions_words values) (closing kinds.Comma kinds.RightParenthesis trailing []))
  expression_counts (Receive channel) = omega (arith, expression_counts channel)
  expression_counts (Make channel) = omega (arith, type_before channel (Mark kinds.RightParenthesis ∷ []))
  expression_counts (MakeSized channel size) =
      omega (
        arith,
        expression_counts size,
        type_before channel (Mark kinds.Comma ∷ expression_words size),
        length-append (type_words channel ++ (Mark kinds.Comma ∷ expression_words size)) (Mark kinds.RightParenthesis ∷ []),
      )
  expression_counts (Length channel) = omega (arith, expression_counts channel, length-append (expression_words channel) (Mark kinds.RightParenthesis ∷ []))
  expression_counts (Capacity channel) = omega (arith, expression_counts channel, length-append (expression_words channel) (Mark kinds.RightParenthesis ∷ []))

  values_counts : (es : Expressions) → length (expressions_words es) ≡ values_count es - 1
  values_counts NoMore = omega arith
  values_counts (Following first rest) = omega (arith, expression_counts first, more_values_counts rest, length-append (expression_words first) (more_values rest))

  more_values_counts : (es : Expressions) → length (more_values es) ≡ values_count es
  more_values_counts NoMore = omega arith
  more_values_counts (Following first rest) = omega (arith, expression_counts first, more_values_counts rest, length-append (expression_words first) (more_values rest))

value_counts : (e : Expression) (rest : List Lexeme) → length (before e rest) ≡ expression_count e + length rest
value_counts e rest = omega (arith, expression_counts e, length-append (expression_words e) rest)

-- an expression, and the mark after it
abbrev value_step : Expression → ℕ
value_step e = expression_count e + 1

value_steps : (es : List Expression) → values_count (expressions es) ≡ sum_by value_step es
value_steps [] = omega arith
value_steps (e ∷ es) = omega (arith, value_steps es, sum_by-cons value_step e es)

list_counts : (separator : TokenKind) (es : List Expression) (rest : List Lexeme) → length (joined before (following separator) es rest) ≡ (values_count (expressions es) - 1) + length rest
list_counts separator es rest = omega (arith, value_steps es, joined_counts value_step before separator es rest (λ x. omega arith) (λ e ws. omega (arith, value_counts e ws)))

-- ---- simple statements

arguments_counts : (all : Arguments) (rest : List Lexeme) → length (arguments_words all rest) ≡ arguments_count all + length rest
arguments_counts all rest =
    let close = closing kinds.Comma kinds.RightParenthesis all.trailing rest in
    omega (arith, list_counts kinds.Comma all.values close, closing_counts kinds.Comma kinds.RightParenthesis all.trailing rest)

right_counts : (es : List Expression) (rest : List Lexeme) → length (right_words es rest) ≡ right_count es + length rest
right_counts es rest = list_counts kinds.Comma es rest

place_counts : (p : Place) (rest : List Lexeme) → length (place_words p rest) ≡ place_count p + length rest
place_counts p rest = omega (arith, separated_names kinds.Period p.fields rest)

places_counts : (ps : List Place) (rest : List Lexeme) → length (joined place_words (following kinds.Comma) ps rest) ≡ (sum_by place_step ps - 1) + length rest
places_counts ps rest = joined_counts place_step place_words kinds.Comma ps rest (λ x. omega arith) (λ p ws. omega (arith, place_counts p ws))

some_places : (P : Place → Type 0) (ps : List Place) → AreSome P ps → 1 ≤ sum_by place_step ps
some_places P [] some = absurd some
some_places P (p ∷ ps) some = omega (arith, sum_by-cons place_step p ps)

part_counts : (p : Part) (rest : List Lexeme) → length (part_words p rest) ≡ part_count p + length rest
part_counts (Value e) rest = value_counts e rest
part_counts (Text bytes) rest = omega arith

simple_counts : (literals defining : Bool) (s : Simple) (rest : List Lexeme) → IsSimple literals defining s → length (simple_words s rest) ≡ simple_count s + length rest
simple_counts literals defining (CallAlone f all) rest is = omega (arith, arguments_counts all rest)
simple_counts literals defining (Close c) rest is = omega (arith, value_counts c (Mark kinds.RightParenthesis ∷ rest))
simple_counts literals defining (Print line ps trailing) rest is =
    let close = closing kinds.Comma kinds.RightParenthesis trailing rest in
    omega (arith, joined_counts part_step part_words kinds.Comma ps close (λ x. omega arith) (λ p ws. omega (arith, part_counts p ws)), closing_counts kinds.Comma kinds.RightParenthesis trailing rest)
simple_counts literals defining (ReceiveAlone c) rest is = omega (arith, value_counts c rest)
simple_counts literals defining (Send c e) rest is = omega (arith, value_counts c (Mark kinds.Arrow ∷ before e rest), value_counts e rest)
simple_counts literals defining (Increment p) rest is = omega (arith, place_counts p (Mark kinds.Increment ∷ rest))
simple_counts literals defining (Decrement p) rest is = omega (arith, place_counts p (Mark kinds.Decrement ∷ rest))
simple_counts literals defining (Assign ps r) rest is =
    omega (arith, places_counts ps (Mark kinds.Assign ∷ right_words r rest), right_counts r rest, some_places IsPlace ps is.0)
simple_counts literals defining (Define ns r) rest is =
    omega (arith, joined_names kinds.Comma ns (Mark kinds.Define ∷ right_words r rest), right_counts r rest, some_names ns is.1)
simple_counts literals defining (Update p o e) rest is = omega (arith, place_counts p (Mark (update_kind o) ∷ before e rest), value_counts e rest)

-- ---- headers

if_head_counts : (h : IfHead) (rest : List Lexeme) → IsIfHead h → length (if_head_words h rest) ≡ if_head_count h + length rest
if_head_counts Bare rest is = omega arith
if_head_counts Semicolon rest is = omega arith
if_head_counts (First s) rest is = omega (arith, simple_counts false true s (Mark kinds.Semicolon ∷ rest) is)

target_counts : (t : Target) (rest : List Lexeme) → length (target_words t rest) ≡ target_count t + length rest
target_counts NoTarget rest = omega arith
target_counts (DefineTarget name) rest = omega arith
target_counts (AssignTarget p) rest = omega (arith, place_counts p (Mark kinds.Assign ∷ rest))

optional_counts : {A : Type 0} (P : A → Type 0) (count : A → ℕ) (each : A → List Lexeme → List Lexeme) (x : Option A) (rest : List Lexeme) → IsAny P x → ((y : A) (ws : List Lexeme) → P y → length (each y ws) ≡ count y + length ws)
    → length (optional each x rest) ≡ if_any count x + length rest
optional_counts P count each None rest is one = omega arith
optional_counts P count each (Some y) rest is one = one y rest is

for_head_counts : (h : ForHead) (rest : List Lexeme) → IsForHead h → length (for_head_words h rest) ≡ for_head_count h + length rest
for_head_counts Forever rest is = omega arith
for_head_counts (While e) rest is = value_counts e rest
for_head_counts (ForClauses first condition post) rest is =
    let after_condition = Mark kinds.Semicolon ∷ optional simple_words post rest in
    omega (
      arith,
      optional_counts _ simple_count simple_words first (Mark kinds.Semicolon ∷ optional before condition after_condition) is.0 (simple_counts false true),
      optional_counts _ expression_count before condition after_condition is.1 (λ e ws _. value_counts e ws),
      optional_counts _ simple_count simple_words post rest is.2 (simple_counts false false),
    )
for_head_counts (Range t c) rest is = omega (arith, target_counts t (Mark kinds.Range ∷ before c rest), value_counts c rest)

second_name_counts : (ok : Option (List ℕ)) (rest : List Lexeme) → length (second_name_words ok rest) ≡ second_name_count ok + length rest
second_name_counts None rest = omega arith
second_name_counts (Some name) rest = omega arith

second_counts : (ok : Option Place) (rest : List Lexeme) → length (second_place_words ok rest) ≡ second_count ok + length rest
second_counts None rest = omega arith
second_counts (Some p) rest = omega (arith, place_counts p rest)

comm_counts : (c : Comm) (rest : List Lexeme) → length (comm_words c rest) ≡ comm_count c + length rest
comm_counts (CommSend c e) rest = omega (arith, value_counts c (Mark kinds.Arrow ∷ before e rest), value_counts e rest)
comm_counts (CommReceive c) rest = omega (arith, value_counts c rest)
comm_counts (CommDefine item ok c) rest = omega (arith, second_name_counts ok (Mark kinds.Define ∷ Mark kinds.Arrow ∷ before c rest), value_counts c rest)
comm_counts (CommAssign item ok c) rest =
    let assigned = Mark kinds.Assign ∷ Mark kinds.Arrow ∷ before c rest in
    omega (arith, place_counts item (second_place_words ok assigned), second_counts ok assigned, value_counts c rest)

-- ---- statements

returned_counts : (r : Returned) (rest : List Lexeme) → length (returned_words r rest) ≡ returned_count r + length rest
returned_counts NoValue rest = omega arith
returned_counts (ReturnedValue e) rest = value_counts e rest

initial_counts : (r : Option (List Expression)) (rest : List Lexeme) → length (initial_words r rest) ≡ initial_count r + length rest
initial_counts None rest = omega arith
initial_counts (Some r) rest = omega (arith, right_counts r rest)

start_counts : (c : Option Comm) (rest : List Lexeme) → length (clause_start c rest) ≡ start_count c + length rest
start_counts None rest = omega arith
start_counts (Some c) rest = omega (arith, comm_counts c (Mark kinds.Colon ∷ rest))

mutual
  statement_counts : (s : Statement) (rest : List Lexeme) → IsStatement s → length (statement_words s rest) ≡ statement_count s + length rest
  statement_counts Empty rest is = omega arith
  statement_counts (Alone s) rest is = simple_counts true true s rest is
  statement_counts (VarTyped ns t r) rest is =
      omega (arith, joined_names kinds.Comma ns (type_words t ++ initial_words r rest), type_before t (initial_words r rest), initial_counts r rest, some_names ns is.0)
  statement_counts (VarUntyped ns r) rest is =
      omega (arith, joined_names kinds.Comma ns (Mark kinds.Assign ∷ right_words r rest), right_counts r rest, some_names ns is.0)
  statement_counts (Block body) rest is = omega (arith, body_counts body (Mark kinds.RightBrace ∷ rest) is)
  statement_counts (If b) rest is = omega (arith, branch_counts b rest is)
  statement_counts (For h body) rest is =
      let close = Mark kinds.RightBrace ∷ rest in
      omega (arith, for_head_counts h (Mark kinds.LeftBrace ∷ body_words body close) is.0, body_counts body close is.1)
  statement_counts (Select all) rest is = omega (arith, clauses_counts all (Mark kinds.RightBrace ∷ rest) is)
  statement_counts (Go f all) rest is = omega (arith, arguments_counts all rest)
  statement_counts (Return r) rest is = omega (arith, returned_counts r rest)
  statement_counts Break rest is = omega arith
  statement_counts Continue rest is = omega arith

  body_counts : (body : Statements) (rest : List Lexeme) → IsBody body → length (body_words body rest) ≡ (body_count body - 1) + length rest
  body_counts NoStatement rest is = absurd is
  body_counts (Then s ss) rest is = omega (arith, statement_counts s (more_words ss rest) is.0, more_counts ss rest is.1)

  more_counts : (body : Statements) (rest : List Lexeme) → AreStatements body → length (more_words body rest) ≡ body_count body + length rest
  more_counts NoStatement rest is = omega arith
  more_counts (Then s ss) rest is = omega (arith, statement_counts s (more_words ss rest) is.0, more_counts ss rest is.1)

  branch_counts : (b : Branch) (rest : List Lexeme) → IsBranch b → length (branch_words b rest) + 1 ≡ branch_count b + length rest
  branch_counts (Conditional h c body o) rest is =
      let last = otherwise_words o rest in
      let block = Mark kinds.LeftBrace ∷ body_words body (Mark kinds.RightBrace ∷ last) in
      omega (arith, if_head_counts h (before c block) is.0, value_counts c block, body_counts body (Mark kinds.RightBrace ∷ last) is.2, otherwise_counts o rest is.3)

  otherwise_counts : (o : Otherwise) (rest : List Lexeme) → IsOtherwise o → length (otherwise_words o rest) ≡ otherwise_count o + length rest
  otherwise_counts NoElse rest is = omega arith
  otherwise_counts (ElseBlock body) rest is = omega (arith, body_counts body (Mark kinds.RightBrace ∷ rest) is)
  otherwise_counts (ElseIf b) rest is = omega (arith, branch_counts b rest is)

  clauses_counts : (all : Clauses) (rest : List Lexeme) → AreClauses all → length (clauses_words all rest) ≡ clauses_count all + length rest
  clauses_counts NoClause rest is = omega arith
  clauses_counts (Clause c body others) rest is =
      let following_clause = clauses_words others rest in
      omega (arith, start_counts c (body_words body following_clause), body_counts body following_clause is.1, clauses_counts others rest is.2)

-- ---- declarations

group_counts : (d : Declared) (rest : List Lexeme) → length (declared_words d rest) ≡ group_count d + length rest
group_counts d rest = omega (arith, joined_names kinds.Comma d.names (type_words d.type_expression ++ rest), type_before d.type_expression rest)

groups_counts : (separator close : TokenKind) (ds : List Declared) (trailing : Bool) (rest : List Lexeme)
    → length (joined declared_words (following separator) ds (closing separator close trailing rest)) ≡ groups_count ds trailing + 1 + length rest
groups_counts separator close ds trailing rest =
    omega (arith, joined_counts group_step declared_words separator ds (closing separator close trailing rest) (λ x. omega arith) (λ d ws. omega (arith, group_counts d ws)), closing_counts separator close trailing rest)

result_counts : (t : Option TypeExpression) (rest : List Lexeme) → length (result_words t rest) ≡ if_any type_count t + length rest
result_counts None rest = omega arith
result_counts (Some t) rest = type_before t rest

more_statements : (ss : Statements) (rest : List Lexeme) → AreAll IsStatement (statements_in ss) → length (separated statement_words (following kinds.Semicolon) (statements_in ss) rest) ≡ body_count ss + length rest
more_statements NoStatement rest are = omega arith
more_statements (Then s ss) rest are =
    omega (arith, statement_counts s (separated statement_words (following kinds.Semicolon) (statements_in ss) rest) are.0, more_statements ss rest are.1)

block_counts : (body : Statements) (rest : List Lexeme) → AreSome IsStatement (statements_in body) → length (block_words (statements_in body) rest) ≡ block_count body + length rest
block_counts NoStatement rest are = absurd are
block_counts (Then s ss) rest are =
    let close = Mark kinds.RightBrace ∷ rest in
    omega (arith, statement_counts s (separated statement_words (following kinds.Semicolon) (statements_in ss) close) are.0, more_statements ss close are.1)

top_counts : (t : Top) (rest : List Lexeme) → IsTop t → length (top_words t rest) ≡ top_count t + length rest
top_counts (StructTop s) rest is = omega (arith, groups_counts kinds.Semicolon kinds.RightBrace s.fields s.trailing rest)
top_counts (FunctionTop f) rest is =
    let block = block_words (statements_in f.body) rest in
    omega (
      arith,
      groups_counts kinds.Comma kinds.RightParenthesis f.parameters f.trailing (result_words f.result block),
      result_counts f.result block,
      block_counts f.body rest is.body,
    )

tops_counts : (ts : List Top) → AreAll IsTop ts → length (tops_words ts) ≡ sum_by top_step ts
tops_counts [] are = omega arith
tops_counts (t ∷ ts) are = omega (arith, top_counts t (Mark kinds.Semicolon ∷ tops_words ts) are.0, tops_counts ts are.1, sum_by-cons top_step t ts)

-- a file is spelt by as many lexemes as it is counted for
pub file_counts : (f : File) → AreAll IsTop f.tops → length (words f) ≡ file_count f
file_counts f are = omega (arith, tops_counts f.tops are)
