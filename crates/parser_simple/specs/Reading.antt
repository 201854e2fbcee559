-- Reading simple statements from left to right, as the code does: these words are proved against the grammar (`Spelling`),
-- and claim nothing themselves.
use Rattle.std.specs.Prelude.{ℕ, zero, suc, ◌+◌, Bool, true, false, ◌&&◌, ◌||◌, List, [], ◌∷◌, Option, Some, None, Result, Ok, Err, nat_le, if◌then◌else◌, length, bytes_eq, codes}
use Rattle.scanner.specs.declared.kind.TokenKind.{TokenKind}
use Rattle.scanner.specs.declared.kind.TokenKind.TheVariants as kinds
use Rattle.syntax.specs.declared.node.BinaryOperator.{BinaryOperator}
use Rattle.syntax.specs.declared.node.BinaryOperator.TheVariants as binaries
use Rattle.syntax.specs.Tree.{Expression, Call, expressions, Arguments, Place, Part, Value, Text as TextPart, Simple, CallAlone, Close, Print, ReceiveAlone, Send, Increment, Decrement, Assign, Define, Update}
use Rattle.syntax.specs.Measures.{Entries, expression_height}
use Rattle.parser_base.specs.declared.list.Next.{Next}
use Rattle.parser_base.specs.declared.list.Next.TheVariants.{More, End}
use Rattle.parser_base.specs.Lexemes.{Lexeme, Literal, Name, Text, Mark}
use Rattle.parser_base.specs.Spelling.{makes_value, is_builtin}
use Rattle.parser_base.specs.Reading.{Refusal, Syntax, TooDeep, TooMany, Reading, ◌>>=◌, as_one, needing, is_kind, expect, plain_name, begins, listed, entry_next, values, argument, binary_of, expression, resumed}
use Rattle.parser_simple.specs.declared.form.Form.{Form}
use Rattle.parser_simple.specs.declared.form.Form.TheVariants as forms
use Rattle.parser_simple.specs.Spelling.{update_kind}

-- what follows a mark that is required here
abbrev pub after_mark : {A : Type 0} → TokenKind → (List Lexeme → Reading A) → List Lexeme → Reading A
after_mark kind one words = expect kind words >>= one

-- this mark comes next
unfoldable pub begins_with : TokenKind → List Lexeme → Bool
begins_with kind (Mark first ∷ rest) = is_kind first kind
begins_with kind words = false

-- ---- names and lvalues

-- whether a name that may be declared comes next
unfoldable pub begins_name : List Lexeme → Bool
begins_name (Name name ∷ rest) = if is_builtin name then false else true
begins_name words = false

-- what follows an entry of a list without a closing mark: after a separator another one `starts`
unfoldable pub separator_next : (List Lexeme → Bool) → TokenKind → List Lexeme → Reading Next
separator_next starts separator (Mark kind ∷ rest) =
    if is_kind kind separator then (if starts rest then Ok (More, rest) else Err Syntax) else Ok (End false, Mark kind ∷ rest)
separator_next starts separator words = Ok (End false, words)

-- at most `most` names, with a separator between each two
abbrev pub names : TokenKind → ℕ → List Lexeme → Reading (List (List ℕ) × Bool)
names separator most words = listed plain_name (separator_next begins_name separator) (TooMany Entries) most words

-- the fields of an lvalue, each after a period
unfoldable pub fields : List Lexeme → Reading (List (List ℕ))
fields words =
    if begins_with kinds.Period words
    then (expect kinds.Period words >>= λ first. names kinds.Period (length first) first >>= λ all. Ok (all.0.0, all.1))
    else Ok ([], words)

unfoldable pub place : List Lexeme → Reading Place
place words = do
  name ← plain_name words
  path ← fields name.1
  Ok (record { name = name.0; fields = path.0 }, path.1)

-- lvalues with a comma between each two
abbrev pub places : ℕ → List Lexeme → Reading (List Place × Bool)
places most words = listed place (separator_next begins_name kinds.Comma) (TooMany Entries) most words

-- ---- what follows an lvalue

-- the operator of an assignment with an operator
abbrev pub update_of : TokenKind → Option BinaryOperator
update_of kinds.PlusAssign = Some binaries.Add
update_of kinds.MinusAssign = Some binaries.Subtract
update_of kinds.StarAssign = Some binaries.Multiply
update_of kinds.SlashAssign = Some binaries.Divide
update_of kinds.PercentAssign = Some binaries.Remainder
update_of kinds.AmpersandAssign = Some binaries.And
update_of kinds.BarAssign = Some binaries.Or
update_of kinds.CaretAssign = Some binaries.ExclusiveOr
update_of kinds.AndNotAssign = Some binaries.AndNot
update_of kinds.ShiftLeftAssign = Some binaries.ShiftLeft
update_of kinds.ShiftRightAssign = Some binaries.ShiftRight
update_of kind = None

abbrev pub update_form : Option BinaryOperator → Form
update_form None = forms.Other
update_form (Some operator) = forms.Update operator

-- the form that a mark after an lvalue begins
abbrev pub form_at : TokenKind → List Lexeme → Form
form_at kinds.Increment rest = forms.Increment
form_at kinds.Decrement rest = forms.Decrement
form_at kinds.Comma rest = forms.List
form_at kinds.Assign rest = forms.Assign (begins_with kinds.Range rest)
form_at kinds.Define rest = forms.Define (begins_with kinds.Range rest)
form_at kind rest = update_form (update_of kind)

-- the form after an lvalue, of which a name comes next if `named` holds
unfoldable pub form_of : (named : Bool) → List Lexeme → Form
form_of true (Name name ∷ rest) = form_of false rest
form_of true words = forms.Other
form_of false (Mark kind ∷ rest) = if is_kind kind kinds.Period then form_of true rest else form_at kind rest
form_of false words = forms.Other

-- the form of what begins with an lvalue, if one comes next: no name of a built-in function is one
abbrev pub place_form : List Lexeme → Form
place_form words = if begins_name words then form_of true words else forms.Other

-- names with commas between them come before a `:=`; a name comes next if `named` is true
unfoldable pub defines : (named : Bool) → List Lexeme → Bool
defines true (Name name ∷ rest) = defines false rest
defines true words = false
defines false (Mark kind ∷ rest) = if is_kind kind kinds.Define then true else (if is_kind kind kinds.Comma then defines true rest else false)
defines false words = false

-- ---- values that begin as an lvalue does

abbrev pub is_operator : Option BinaryOperator → Bool
is_operator None = false
is_operator (Some operator) = true

-- whether a name or, if `alone` is false, a selection goes on as a value with this mark: as the operand of a send, as
-- a call, in a condition if `header` is true, or as a composite literal if `literals` is
abbrev pub goes_on : (header literals alone : Bool) → TokenKind → Bool
goes_on header literals alone kinds.Arrow = true
goes_on header literals alone kinds.LeftParenthesis = alone
goes_on header literals alone kinds.LeftBrace = header || (literals && alone)
goes_on header literals alone kind = header && is_operator (binary_of kind)

-- why `height` levels are refused, if they are more than `depth_left`, by whether they `go` on as a value
abbrev pub within : (height depth_left : ℕ) → (goes : Bool) → Result (Unit {0}) Refusal
within height depth_left goes = if nat_le height depth_left then Ok tt else (if goes then Err TooDeep else Err Syntax)

-- like `within` if no value goes on; after a period, when a name must come next, no level is allowed
abbrev pub stopped : (named : Bool) → (height depth_left : ℕ) → Result (Unit {0}) Refusal
stopped named height depth_left = within height (if named then 0 else depth_left) false

-- why a name or a selection at the front is refused, if it is too high as a value: only what follows shows that it is no lvalue. `height`
-- names of it were read before, and one comes next if `named` holds
unfoldable pub fits : (header literals named : Bool) → (height depth_left : ℕ) → List Lexeme → Result (Unit {0}) Refusal
fits header literals true height depth_left (Name name ∷ rest) = if is_builtin name then stopped true height depth_left else fits header literals false (height + 1) depth_left rest
fits header literals true height depth_left words = stopped true height depth_left
fits header literals false height depth_left (Mark kind ∷ rest) =
    if is_kind kind kinds.Period then fits header literals true height depth_left rest else within height depth_left (goes_on header literals (nat_le height 1) kind)
fits header literals false height depth_left words = stopped false height depth_left

-- ---- values

-- whether the operand of a send can begin so
unfoldable pub begins_primary : List Lexeme → Bool
begins_primary [] = false
begins_primary (Literal value ∷ rest) = true
begins_primary (Name name ∷ rest) = if is_builtin name then makes_value name else true
begins_primary (Text bytes ∷ rest) = false
begins_primary (Mark kind ∷ rest) = is_kind kind kinds.LeftParenthesis

-- the operand of a send
unfoldable pub primary : Bool → ℕ → ℕ → List Lexeme → Reading Expression
primary literals most depth_left words = if begins_primary words then expression literals most depth_left 7 words else Err Syntax

-- a receive: its arrow, and its operand
abbrev pub received : Bool → ℕ → ℕ → List Lexeme → Reading Expression
received literals most depth_left words = after_mark kinds.Arrow (expression literals most depth_left 6) words

-- these values as arguments
abbrev pub passed : List Expression → (trailing : Bool) → Arguments
passed all trailing = record { values = all; trailing = trailing }

-- arguments in parentheses
unfoldable pub arguments : Bool → ℕ → ℕ → List Lexeme → Reading Arguments
arguments literals most depth_left words = do
  inside ← expect kinds.LeftParenthesis words
  all ← values (expression literals most depth_left) kinds.RightParenthesis most inside
  Ok (passed all.0.0 all.0.1, all.1)

-- values with a comma between each two
abbrev pub value_list : Bool → ℕ → ℕ → List Lexeme → Reading (List Expression × Bool)
value_list literals most depth_left words = listed (expression literals most depth_left 0) (separator_next begins kinds.Comma) (TooMany Entries) most words

-- the right side of an assignment, of at most `depth_left` levels
unfoldable pub right : Bool → ℕ → ℕ → List Lexeme → Reading (List Expression)
right literals most zero words = Err TooDeep
right literals most (suc depth_left) words = value_list literals most (suc depth_left) words >>= λ all. Ok (all.0.0, all.1)

-- ---- simple statements

-- whether an argument of print or println begins so
unfoldable pub begins_part : List Lexeme → Bool
begins_part (Text bytes ∷ rest) = true
begins_part words = begins words

-- an argument of print or println
unfoldable pub part : Bool → ℕ → ℕ → List Lexeme → Reading Part
part literals most zero words = Err TooDeep
part literals most (suc depth_left) (Text bytes ∷ rest) = Ok (TextPart bytes, rest)
part literals most (suc depth_left) words = as_one Value (expression literals most (suc depth_left) 0 words)

-- the arguments of print or println, after the opening parenthesis
unfoldable pub parts : Bool → ℕ → ℕ → List Lexeme → Reading (List Part × Bool)
parts literals most depth_left words =
    if begins_part words then listed (part literals most depth_left) (entry_next kinds.Comma begins_part kinds.RightParenthesis) (TooMany Entries) most words
    else (expect kinds.RightParenthesis words >>= λ after. Ok (([], false), after))

-- a print or, if `line` holds, a println, after its name
unfoldable pub print : (line : Bool) → Bool → ℕ → ℕ → List Lexeme → Reading Simple
print line literals most depth_left words = do
  inside ← expect kinds.LeftParenthesis words
  all ← parts literals most depth_left inside
  Ok (Print line all.0.0 all.0.1, all.1)

-- a call of a built-in function as a statement, after its name
unfoldable pub builtin_call : Bool → ℕ → ℕ → List ℕ → List Lexeme → Reading Simple
builtin_call literals most depth_left name rest =
    if bytes_eq name (codes "println") then print true literals most depth_left rest
    else (if bytes_eq name (codes "print") then print false literals most depth_left rest
    else (if bytes_eq name (codes "close") then needing 1 depth_left (as_one Close (argument (expression literals most depth_left) rest))
    else Err Syntax))

-- an assignment to lvalues
unfoldable pub assigned : Bool → ℕ → ℕ → List Lexeme → Reading Simple
assigned literals most depth_left words = do
  all ← places most words
  value ← after_mark kinds.Assign (right literals most depth_left) all.1
  Ok (Assign all.0.0 value.0, value.1)

-- a `:=`
unfoldable pub defined : Bool → ℕ → ℕ → List Lexeme → Reading Simple
defined literals most depth_left words = do
  all ← names kinds.Comma most words
  value ← after_mark kinds.Define (right literals most depth_left) all.1
  Ok (Define all.0.0 value.0, value.1)

-- an lvalue before this mark
abbrev pub before_mark : TokenKind → List Lexeme → Reading Place
before_mark kind words = place words >>= λ target. expect kind target.1 >>= λ after. Ok (target.0, after)

-- a `++` or `--` after an lvalue
unfoldable pub stepped : (Place → Simple) → TokenKind → List Lexeme → Reading Simple
stepped make kind words = as_one make (before_mark kind words)

-- an assignment with an operator
unfoldable pub updated : Bool → ℕ → ℕ → BinaryOperator → List Lexeme → Reading Simple
updated literals most depth_left operator words = do
  target ← place words
  value ← after_mark (update_kind operator) (expression literals most depth_left 0) target.1
  Ok (Update target.0 operator value.0, value.1)

-- what needs a level, from what follows an lvalue on
abbrev pub after_place : {A : Type 0} → (depth_left : ℕ) → List Lexeme → Reading A → Reading A
after_place depth_left words read = if nat_le 1 depth_left then read else (place words >>= λ target. Err TooDeep)

-- a statement of this form, or None if it has none of them
unfoldable pub formed : (literals defining : Bool) → ℕ → ℕ → Form → List Lexeme → Reading (Option Simple)
formed literals defining most depth_left forms.Increment words = as_one (λ s. Some s) (stepped Increment kinds.Increment words)
formed literals defining most depth_left forms.Decrement words = as_one (λ s. Some s) (stepped Decrement kinds.Decrement words)
formed literals defining most depth_left (forms.Update operator) words = as_one (λ s. Some s) (updated literals most depth_left operator words)
formed literals defining most depth_left (forms.Assign ranges) words = as_one (λ s. Some s) (assigned literals most depth_left words)
formed literals defining most depth_left (forms.Define ranges) words =
    as_one (λ s. Some s) (if defining && defines true words then defined literals most depth_left words else assigned literals most depth_left words)
formed literals defining most depth_left forms.List words =
    after_place depth_left words (as_one (λ s. Some s) (if defining && defines true words then defined literals most depth_left words else assigned literals most depth_left words))
formed literals defining most depth_left forms.Other words = Ok (None, words)

-- a simple statement that begins with an lvalue or with the name of a built-in function, or None if a value comes next, or
-- no statement
unfoldable pub led : (literals defining : Bool) → ℕ → ℕ → List Lexeme → Reading (Option Simple)
led literals defining most depth_left (Name name ∷ rest) =
    if makes_value name then Ok (None, Name name ∷ rest)
    else (if is_builtin name then as_one (λ s. Some s) (builtin_call literals most depth_left name rest)
    else formed literals defining most depth_left (form_of true (Name name ∷ rest)) (Name name ∷ rest))
led literals defining most depth_left words = Ok (None, words)

-- the operand of a send, which may begin as an lvalue does
unfoldable pub send_operand : Bool → ℕ → ℕ → List Lexeme → Reading Expression
send_operand literals most depth_left words = fits false literals true 0 depth_left words >>= λ low. primary literals most depth_left words

-- a send
unfoldable pub sent : {A : Type 0} → (Expression → Expression → A) → Bool → ℕ → ℕ → List Lexeme → Reading A
sent make literals most depth_left words = do
  channel ← send_operand literals most depth_left words
  value ← after_mark kinds.Arrow (expression literals most depth_left 0) channel.1
  Ok (make channel.0 value.0, value.1)

-- a simple statement, or a send if none was read yet
abbrev pub led_or_sent : Bool → ℕ → ℕ → Option Simple × List Lexeme → Reading Simple
led_or_sent literals most depth_left (Some simple, rest) = Ok (simple, rest)
led_or_sent literals most depth_left (None, rest) = sent Send literals most depth_left rest

-- whether a call comes next of a function that is not built in
unfoldable pub begins_call : List Lexeme → Bool
begins_call (Name name ∷ rest) = if is_builtin name then false else begins_with kinds.LeftParenthesis rest
begins_call words = false

-- a call, as an expression
abbrev pub call_of : List ℕ → Arguments → Expression
call_of function arguments = Call function (expressions arguments.values) arguments.trailing

-- a send whose channel begins with the operand `left`, which may be one level too high
unfoldable pub sent_on : Bool → ℕ → ℕ → Expression → List Lexeme → Reading Simple
sent_on literals most depth_left left words =
    resumed literals most depth_left 7 left words >>= λ channel.
    needing (expression_height channel.0) depth_left (as_one (Send channel.0) (after_mark kinds.Arrow (expression literals most depth_left 0) channel.1))

-- whether a call goes on as the channel of a send
abbrev pub sends_on : List Lexeme → Bool
sends_on words = begins_with kinds.Period words || begins_with kinds.Arrow words

-- a call alone, or a send whose channel begins with it
abbrev pub alone_or_sent : Bool → ℕ → ℕ → List ℕ → Arguments × List Lexeme → Reading Simple
alone_or_sent literals most depth_left function (all, words) =
    if sends_on words then sent_on literals most depth_left (call_of function all) words
    else Ok (CallAlone function all, words)

-- a statement that begins with a call
unfoldable pub called : Bool → ℕ → ℕ → List Lexeme → Reading Simple
called literals most depth_left words = do
  function ← plain_name words
  all ← arguments literals most depth_left function.1
  alone_or_sent literals most depth_left function.0 all

-- a simple statement below which there are at most `depth_left` levels, whose lists have at most `most` entries. Composite literals are
-- allowed in it only if `literals` is true, and it may be a `:=` only if `defining` is.
unfoldable pub simple : (literals defining : Bool) → ℕ → ℕ → List Lexeme → Reading Simple
simple literals defining most depth_left words =
    if begins_with kinds.Arrow words then as_one ReceiveAlone (received literals most depth_left words)
    else (if begins_call words then called literals most depth_left words
    else (led literals defining most depth_left words >>= led_or_sent literals most depth_left))
