-- Reading types and expressions from left to right, as the code does: these words are proved against the grammar
-- (`Spelling`), and claim nothing themselves.
use Rattle.std.specs.Prelude.{◌≡◌, ℕ, zero, suc, ◌+◌, Bool, true, false, ◌||◌, ◌&&◌, List, [], ◌∷◌, Option, Some, None, Result, Ok, Err, nat_le, if◌then◌else◌, bytes_eq, codes}
use denote.Enum.Bare.{sameb}
use Rattle.go_text.specs.declared.fault.Fault.{Fault}
use Rattle.go_text.specs.declared.fault.Fault.TheVariants as faults
use Rattle.go_text.specs.declared.rule.LimitKind.{LimitKind}
use Rattle.go_text.specs.declared.rule.LimitKind.TheVariants as limits
use Rattle.scanner.specs.contracts.kind.TokenKind.{the_type}
use Rattle.scanner.specs.declared.kind.TokenKind.{TokenKind}
use Rattle.scanner.specs.declared.kind.TokenKind.TheVariants as kinds
use Rattle.syntax.specs.declared.node.BinaryOperator.{BinaryOperator}
use Rattle.syntax.specs.declared.node.BinaryOperator.TheVariants as binaries
use Rattle.syntax.specs.declared.node.UnaryOperator.{UnaryOperator}
use Rattle.syntax.specs.declared.node.UnaryOperator.TheVariants as unaries
use Rattle.syntax.specs.declared.node.Direction.{Direction}
use Rattle.syntax.specs.declared.node.Direction.TheVariants as directions
use Rattle.syntax.specs.Tree.{TypeExpression, NamedType, ParenthesizedType, Channel, Expression, Integer, Named, Parenthesized, Selection, Composite, Unary, Binary, Call, Receive, Make, MakeSized, Length, Capacity, expressions}
use Rattle.syntax.specs.Measures.{Listing, Entries, SelectClauses, expression_height}
use Rattle.parser_base.specs.declared.fault.ParseFault.{ParseFault}
use Rattle.parser_base.specs.declared.fault.ParseFault.TheVariants as parse
use Rattle.parser_base.specs.declared.operator.Infix.{Infix}
use Rattle.parser_base.specs.declared.operator.Infix.TheVariants.{Operator, Period}
use Rattle.parser_base.specs.declared.list.Next.{Next}
use Rattle.parser_base.specs.declared.list.Next.TheVariants.{More, End}
use Rattle.parser_base.specs.Lexemes.{Lexeme, Literal, Name, Text, Mark}
use Rattle.parser_base.specs.Spelling.{precedence, makes_value, is_builtin}

-- ---- results

-- why nothing is read
pub data Refusal : Type 0 where
  Syntax : Refusal
  TooDeep : Refusal
  TooMany : (listing : Listing) → Refusal

-- the refusal that a fault of reading names
abbrev pub named_by : ParseFault → Option Refusal
named_by (parse.Syntax span) = Some Syntax
named_by (parse.TooDeep span) = Some TooDeep
named_by (parse.TooManyEntries span) = Some (TooMany Entries)
named_by (parse.TooManyClauses span) = Some (TooMany SelectClauses)
named_by parse.Memory = None

-- The tokens are why: memory did not run out.
abbrev pub NamesRefusal : ParseFault → Type 0
NamesRefusal parse.Memory = ⊥
NamesRefusal fault = Unit {0}

abbrev pub limit_refusal : LimitKind → Option Refusal
limit_refusal limits.ListEntries = Some (TooMany Entries)
limit_refusal limits.SelectClauses = Some (TooMany SelectClauses)
limit_refusal kind = None

-- the refusal that a fault of the text names
abbrev pub refusal_of : Fault → Option Refusal
refusal_of (faults.Syntax place) = Some Syntax
refusal_of (faults.TooDeep place) = Some TooDeep
refusal_of (faults.Limit kind at place) = limit_refusal kind
refusal_of fault = None

abbrev pub FailsWith : {A : Type 0} → ParseFault → Option Refusal → Result A Refusal → Type 0
FailsWith fault None read = fault ≡ parse.Memory
FailsWith fault (Some refusal) read = read ≡ Err refusal

-- Reading gives the refusal that the fault names, or memory ran out.
abbrev pub Fails : {A : Type 0} → ParseFault → Result A Refusal → Type 0
Fails fault read = FailsWith fault (named_by fault) read

-- What a function returned, seen by a view, is what reading gives, unless memory ran out.
abbrev pub Gives : {A B : Type 0} → (A → B) → Result A ParseFault → Result B Refusal → Type 0
Gives view (Ok x) read = read ≡ Ok (view x)
Gives view (Err fault) read = Fails fault read

-- what is read, and what follows it
abbrev pub Reading : Type 0 → Type 0
Reading A = Result (A × List Lexeme) Refusal

infixl 10 ◌>>=◌
abbrev pub ◌>>=◌ : {A B : Type 0} → Result A Refusal → (A → Result B Refusal) → Result B Refusal
(Ok x) >>= f = f x
(Err e) >>= f = Err e

-- what was read, as one of several
abbrev pub as_one : {A B : Type 0} → (A → B) → Reading A → Reading B
as_one make read = read >>= λ found. Ok (make found.0, found.1)

-- what needs at least `least` levels
abbrev pub needing : {A : Type 0} → (least depth_left : ℕ) → Result A Refusal → Result A Refusal
needing least depth_left read = if nat_le least depth_left then read else Err TooDeep

-- ---- marks

abbrev pub is_kind : TokenKind → TokenKind → Bool
is_kind kind other = sameb the_type kind other

-- what follows a mark
unfoldable pub expect : TokenKind → List Lexeme → Result (List Lexeme) Refusal
expect kind (Mark first ∷ rest) = if is_kind first kind then Ok rest else Err Syntax
expect kind words = Err Syntax

-- what follows a name
unfoldable pub expect_name : List ℕ → List Lexeme → Result (List Lexeme) Refusal
expect_name name (Name first ∷ rest) = if bytes_eq first name then Ok rest else Err Syntax
expect_name name words = Err Syntax

-- a name that may be declared, and what follows it
unfoldable pub plain_name : List Lexeme → Reading (List ℕ)
plain_name (Name name ∷ rest) = if is_builtin name then Err Syntax else Ok (name, rest)
plain_name words = Err Syntax

-- ---- lists

abbrev pub followed : {A : Type 0} → A → (List Lexeme → Reading (List A × Bool)) → Next × List Lexeme → Reading (List A × Bool)
followed first others (More, words) = others words >>= λ found. Ok ((first ∷ found.0.0, found.0.1), found.1)
followed first others (End trailing, words) = Ok ((first ∷ [], trailing), words)

-- the entries of a list, at most n, to its end, and whether a separator is before that
unfoldable pub listed : {A : Type 0} → (List Lexeme → Reading A) → (List Lexeme → Reading Next) → Refusal → ℕ → List Lexeme → Reading (List A × Bool)
listed one next full zero words = Err full
listed one next full (suc most) words = one words >>= λ first. next first.1 >>= λ after. followed first.0 (listed one next full most) after

-- whether an expression can begin so
unfoldable pub begins : List Lexeme → Bool
begins [] = false
begins (Literal value ∷ rest) = true
begins (Name name ∷ rest) = if is_builtin name then makes_value name else true
begins (Text bytes ∷ rest) = false
begins (Mark kind ∷ rest) =
    is_kind kind kinds.LeftParenthesis || is_kind kind kinds.Plus || is_kind kind kinds.Minus || is_kind kind kinds.Not || is_kind kind kinds.Caret
    || is_kind kind kinds.Arrow

-- the end of a list
abbrev pub closed : TokenKind → Bool → List Lexeme → Reading Next
closed close trailing words = expect close words >>= λ after. Ok (End trailing, after)

-- what follows a list's separator, after which another entry `starts`, or the list ends
abbrev pub after_separator : (List Lexeme → Bool) → TokenKind → List Lexeme → Reading Next
after_separator starts close words = if starts words then Ok (More, words) else closed close true words

-- what follows an entry of a list to a closing mark
unfoldable pub entry_next : TokenKind → (List Lexeme → Bool) → TokenKind → List Lexeme → Reading Next
entry_next separator starts close (Mark kind ∷ rest) =
    if is_kind kind separator then after_separator starts close rest else closed close false (Mark kind ∷ rest)
entry_next separator starts close words = Err Syntax

-- what follows a value of a list to a closing mark
abbrev pub value_next : TokenKind → List Lexeme → Reading Next
value_next close = entry_next kinds.Comma begins close

-- ---- types

-- a type in parentheses, after the opening one
unfoldable pub parenthesized_type : (List Lexeme → Reading TypeExpression) → List Lexeme → Reading TypeExpression
parenthesized_type deeper rest = do
  inner ← deeper rest
  after ← expect kinds.RightParenthesis inner.1
  Ok (ParenthesizedType inner.0, after)

-- a channel type of this direction, from its elements' type on
abbrev pub channel_type : Direction → (List Lexeme → Reading TypeExpression) → List Lexeme → Reading TypeExpression
channel_type direction deeper rest = deeper rest >>= λ element. Ok (Channel direction element.0, element.1)

-- a channel type after `chan`
unfoldable pub after_chan : (List Lexeme → Reading TypeExpression) → List Lexeme → Reading TypeExpression
after_chan deeper (Mark kind ∷ rest) =
    if is_kind kind kinds.Arrow then channel_type directions.Send deeper rest else channel_type directions.Both deeper (Mark kind ∷ rest)
after_chan deeper words = channel_type directions.Both deeper words

-- a channel type after `<-`
unfoldable pub after_arrow : (List Lexeme → Reading TypeExpression) → List Lexeme → Reading TypeExpression
after_arrow deeper rest = expect kinds.Chan rest >>= λ after. channel_type directions.Receive deeper after

-- a type of at most n levels
unfoldable pub type_at : ℕ → List Lexeme → Reading TypeExpression
type_at zero words = Err TooDeep
type_at (suc depth_left) [] = Err Syntax
type_at (suc depth_left) (Literal value ∷ rest) = Err Syntax
type_at (suc depth_left) (Text bytes ∷ rest) = Err Syntax
type_at (suc depth_left) (Name name ∷ rest) = if is_builtin name then Err Syntax else Ok (NamedType name, rest)
type_at (suc depth_left) (Mark kind ∷ rest) =
    if is_kind kind kinds.LeftParenthesis then parenthesized_type (type_at depth_left) rest
    else (if is_kind kind kinds.Chan then after_chan (type_at depth_left) rest
    else (if is_kind kind kinds.Arrow then after_arrow (type_at depth_left) rest
    else Err Syntax))

-- ---- expressions

abbrev pub binary_of : TokenKind → Option BinaryOperator
binary_of kinds.Plus = Some binaries.Add
binary_of kinds.Minus = Some binaries.Subtract
binary_of kinds.Star = Some binaries.Multiply
binary_of kinds.Slash = Some binaries.Divide
binary_of kinds.Percent = Some binaries.Remainder
binary_of kinds.Ampersand = Some binaries.And
binary_of kinds.Bar = Some binaries.Or
binary_of kinds.Caret = Some binaries.ExclusiveOr
binary_of kinds.AndNot = Some binaries.AndNot
binary_of kinds.ShiftLeft = Some binaries.ShiftLeft
binary_of kinds.ShiftRight = Some binaries.ShiftRight
binary_of kinds.Equal = Some binaries.Equal
binary_of kinds.NotEqual = Some binaries.NotEqual
binary_of kinds.Less = Some binaries.Less
binary_of kinds.LessEqual = Some binaries.LessEqual
binary_of kinds.Greater = Some binaries.Greater
binary_of kinds.GreaterEqual = Some binaries.GreaterEqual
binary_of kinds.LogicalAnd = Some binaries.LogicalAnd
binary_of kinds.LogicalOr = Some binaries.LogicalOr
binary_of kind = None

abbrev pub unary_of : TokenKind → Option UnaryOperator
unary_of kinds.Plus = Some unaries.Plus
unary_of kinds.Minus = Some unaries.Negate
unary_of kinds.Not = Some unaries.Not
unary_of kinds.Caret = Some unaries.Complement
unary_of kind = None

abbrev pub operator_step : Option BinaryOperator → Option Infix
operator_step None = None
operator_step (Some operator) = Some (Operator operator)

abbrev pub infix_of : TokenKind → Option Infix
infix_of kind = if is_kind kind kinds.Period then Some Period else operator_step (binary_of kind)

abbrev pub strength : Infix → ℕ
strength (Operator operator) = precedence operator
strength Period = 7

-- a step, if it binds at least as strongly as `least`
abbrev pub binding : ℕ → List Lexeme → Option Infix → Option (Infix × List Lexeme)
binding least rest None = None
binding least rest (Some step) = if nat_le least (strength step) then Some (step, rest) else None

-- the step at the front, if it binds at least as strongly as `least`, and what follows it
unfoldable pub step_at : ℕ → List Lexeme → Option (Infix × List Lexeme)
step_at least (Mark kind ∷ rest) = binding least rest (infix_of kind)
step_at least words = None

-- the operand of a unary operator
abbrev pub negated : (ℕ → List Lexeme → Reading Expression) → List Lexeme → Option UnaryOperator → Reading Expression
negated deeper rest None = Err Syntax
negated deeper rest (Some operator) = do
  operand ← deeper 6 rest
  Ok (Unary operator operand.0, operand.1)

-- an expression and a closing parenthesis
unfoldable pub to_parenthesis : (ℕ → List Lexeme → Reading Expression) → List Lexeme → Reading Expression
to_parenthesis deeper words = do
  inner ← deeper 0 words
  after ← expect kinds.RightParenthesis inner.1
  Ok (inner.0, after)

-- values to a closing mark, after the opening one
unfoldable pub values : (ℕ → List Lexeme → Reading Expression) → TokenKind → ℕ → List Lexeme → Reading (List Expression × Bool)
values deeper close most words =
    if begins words then listed (deeper 0) (value_next close) (TooMany Entries) most words
    else (expect close words >>= λ after. Ok (([], false), after))

-- the rest of a composite literal, after its first brace
unfoldable pub composite : (ℕ → List Lexeme → Reading Expression) → ℕ → List ℕ → List Lexeme → Reading Expression
composite deeper most name words = values deeper kinds.RightBrace most words >>= λ all. Ok (Composite name (expressions all.0.0) all.0.1, all.1)

-- the rest of a call, after its opening parenthesis
unfoldable pub called : (ℕ → List Lexeme → Reading Expression) → ℕ → List ℕ → List Lexeme → Reading Expression
called deeper most name words = values deeper kinds.RightParenthesis most words >>= λ all. Ok (Call name (expressions all.0.0) all.0.1, all.1)

-- an operand name, a call of the function `name`, or a composite literal of the type `name`
unfoldable pub named : Bool → (ℕ → List Lexeme → Reading Expression) → ℕ → List ℕ → List Lexeme → Reading Expression
named literals deeper most name (Mark kind ∷ rest) =
    if is_kind kind kinds.LeftParenthesis then called deeper most name rest
    else (if literals && is_kind kind kinds.LeftBrace then composite deeper most name rest
    else Ok (Named name, Mark kind ∷ rest))
named literals deeper most name words = Ok (Named name, words)

-- one argument in parentheses
unfoldable pub argument : (ℕ → List Lexeme → Reading Expression) → List Lexeme → Reading Expression
argument deeper words = expect kinds.LeftParenthesis words >>= to_parenthesis deeper

-- the rest of a `make` of the type `channel`: a comma and the size of the buffer, if there is one, and the closing parenthesis
unfoldable pub sized : (ℕ → List Lexeme → Reading Expression) → TypeExpression → List Lexeme → Reading Expression
sized deeper channel (Mark kind ∷ rest) =
    if is_kind kind kinds.Comma then as_one (MakeSized channel) (to_parenthesis deeper rest)
    else (expect kinds.RightParenthesis (Mark kind ∷ rest) >>= λ after. Ok (Make channel, after))
sized deeper channel words = Err Syntax

-- a `make`, after its name
unfoldable pub made : (ℕ → List Lexeme → Reading Expression) → (depth_left : ℕ) → List Lexeme → Reading Expression
made deeper depth_left words = do
  inside ← expect kinds.LeftParenthesis words
  channel ← type_at depth_left inside
  sized deeper channel.0 channel.1

-- a call of a built-in function that makes or measures a channel, after its name
unfoldable pub builtin : (ℕ → List Lexeme → Reading Expression) → (depth_left : ℕ) → List ℕ → List Lexeme → Reading Expression
builtin deeper depth_left name rest =
    if bytes_eq name (codes "make") then needing 1 depth_left (made deeper depth_left rest)
    else (if bytes_eq name (codes "len") then needing 1 depth_left (as_one Length (argument deeper rest))
    else (if bytes_eq name (codes "cap") then needing 1 depth_left (as_one Capacity (argument deeper rest))
    else Err Syntax))

-- what is no operation and no selection, with at most `depth_left` levels below it
unfoldable pub operand : Bool → (ℕ → List Lexeme → Reading Expression) → (depth_left : ℕ) → ℕ → List Lexeme → Reading Expression
operand literals deeper depth_left most [] = Err Syntax
operand literals deeper depth_left most (Literal value ∷ rest) = Ok (Integer value, rest)
operand literals deeper depth_left most (Name name ∷ rest) =
    if is_builtin name then builtin deeper depth_left name rest else named literals deeper most name rest
operand literals deeper depth_left most (Text bytes ∷ rest) = Err Syntax
operand literals deeper depth_left most (Mark kind ∷ rest) =
    if is_kind kind kinds.LeftParenthesis then as_one Parenthesized (to_parenthesis deeper rest)
    else (if is_kind kind kinds.Arrow then as_one Receive (deeper 6 rest)
    else negated deeper rest (unary_of kind))

-- what was read so far as the left operand, or as that of a selection
abbrev pub applied : (ℕ → List Lexeme → Reading Expression) → Expression → Infix × List Lexeme → Reading Expression
applied deeper left (Operator operator, words) = deeper (precedence operator + 1) words >>= λ right. Ok (Binary operator left right.0, right.1)
applied deeper left (Period, words) = plain_name words >>= λ field. Ok (Selection left field.0, field.1)

-- one step on what was read so far, and what follows it
unfoldable pub operation : (ℕ → List Lexeme → Reading Expression) → (Expression → List Lexeme → Reading Expression) → ℕ → Expression → List Lexeme → Option (Infix × List Lexeme) → Reading Expression
operation deeper next depth_left left words None = Ok (left, words)
operation deeper next depth_left left words (Some found) =
    if nat_le depth_left (expression_height left) then Err TooDeep
    else (applied deeper left found >>= λ more. next more.0 more.1)

-- the steps that follow, each of them on what was read before
unfoldable pub operations : (ℕ → List Lexeme → Reading Expression) → ℕ → ℕ → ℕ → Expression → List Lexeme → Reading Expression
operations deeper depth_left least zero left words = Err TooDeep
operations deeper depth_left least (suc turns) left words =
    operation deeper (operations deeper depth_left least turns) depth_left left words (step_at least words)

-- an expression of at most n levels, whose lists have at most `most` entries, and whose outermost operator binds
-- at least as strongly as `least`
unfoldable pub expression : Bool → ℕ → ℕ → ℕ → List Lexeme → Reading Expression
expression literals most zero least words = Err TooDeep
expression literals most (suc depth_left) least words =
    operand literals (expression literals most depth_left) depth_left most words >>= λ first.
    operations (expression literals most depth_left) (suc depth_left) least (suc depth_left) first.0 first.1

-- an expression that begins with the operand `left`, which was read before; if nothing goes on with `left` it is returned
-- at any height
unfoldable pub resumed : Bool → ℕ → ℕ → ℕ → Expression → List Lexeme → Reading Expression
resumed literals most zero least left words = Err TooDeep
resumed literals most (suc depth_left) least left words = operations (expression literals most depth_left) (suc depth_left) least (suc depth_left) left words
