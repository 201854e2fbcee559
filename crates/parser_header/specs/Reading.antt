-- Reading what stands after `if` and `for`, and what a clause of a select waits for, as the code does: these words are
-- proved against the grammar (`Spelling`), and claim nothing themselves.
use Rattle.std.specs.Prelude.{ℕ, Bool, true, false, ◌&&◌, ◌||◌, ◌==◌, List, Option, Some, None, Ok, if◌then◌else◌}
use Rattle.scanner.specs.declared.kind.TokenKind.{TokenKind}
use Rattle.scanner.specs.declared.kind.TokenKind.TheVariants as kinds
use Rattle.syntax.specs.Tree.{Expression, Receive, Arguments, Simple, CallAlone, ReceiveAlone, Send, Comm, CommSend, CommReceive, CommDefine, CommAssign, IfHead, Bare, Semicolon, First, Target, NoTarget, DefineTarget, AssignTarget, ForHead, Forever, While, ForClauses, Range}
use Rattle.syntax.specs.Measures.{expression_height}
use Rattle.parser_base.specs.Lexemes.{Lexeme}
use Rattle.parser_base.specs.Spelling.{outer_precedence}
use Rattle.parser_base.specs.Reading.{Reading, ◌>>=◌, as_one, expect, plain_name, expression, resumed}
use Rattle.parser_simple.specs.declared.form.Form.{Form}
use Rattle.parser_simple.specs.declared.form.Form.TheVariants as forms
use Rattle.parser_simple.specs.Reading.{after_mark, before_mark, begins_with, begins_call, place_form, defines, place, received, arguments, call_of, led, sent, simple, within, fits}

-- ---- headers

-- what comes after `if` or `for`
pub data Head : Type 0 where
  HeadSimple : (simple : Simple) → Head
  HeadCondition : (condition : Expression) → Head

-- no operation but selections
abbrev pub is_primary : Expression → Bool
is_primary expression = outer_precedence expression == 7

-- a condition, or a send on it
abbrev pub condition_or_sent : ℕ → ℕ → Expression × List Lexeme → Reading Head
condition_or_sent most depth_left (channel, rest) =
    if begins_with kinds.Arrow rest && is_primary channel
    then as_one (λ value. HeadSimple (Send channel value)) (after_mark kinds.Arrow (expression false most depth_left 0) rest)
    else Ok (HeadCondition channel, rest)

abbrev pub led_or_condition : ℕ → ℕ → Option Simple × List Lexeme → Reading Head
led_or_condition most depth_left (Some simple, rest) = Ok (HeadSimple simple, rest)
led_or_condition most depth_left (None, rest) = fits true false true 0 depth_left rest >>= λ low. expression false most depth_left 0 rest >>= condition_or_sent most depth_left

-- whether a condition ends before these, or a send goes on with it
abbrev pub ends_condition : Expression → List Lexeme → Bool
ends_condition condition words = begins_with kinds.LeftBrace words || (begins_with kinds.Arrow words && is_primary condition)

-- a condition that begins with the operand `left`, which may be one level too high, or a send whose channel does
unfoldable pub headed_on : ℕ → ℕ → Expression → List Lexeme → Reading Head
headed_on most depth_left left words =
    resumed false most depth_left 0 left words >>= λ found.
    within (expression_height found.0) depth_left (ends_condition found.0 found.1) >>= λ low. condition_or_sent most depth_left found

-- the statement `alone` if a semicolon comes next, or a condition or a send that begins with the operand `left`
abbrev pub alone_or_on : ℕ → ℕ → Simple → Expression → List Lexeme → Reading Head
alone_or_on most depth_left alone left words =
    if begins_with kinds.Semicolon words then Ok (HeadSimple alone, words) else headed_on most depth_left left words

abbrev pub received_head : ℕ → ℕ → Expression × List Lexeme → Reading Head
received_head most depth_left (channel, words) = alone_or_on most depth_left (ReceiveAlone channel) (Receive channel) words

-- a receive alone, or a condition that begins with it
abbrev pub head_received : ℕ → ℕ → List Lexeme → Reading Head
head_received most depth_left words = received false most depth_left words >>= received_head most depth_left

abbrev pub called_head : ℕ → ℕ → List ℕ → Arguments × List Lexeme → Reading Head
called_head most depth_left function (all, words) = alone_or_on most depth_left (CallAlone function all) (call_of function all) words

-- a call alone, or a condition or a send that begins with it
unfoldable pub head_called : ℕ → ℕ → List Lexeme → Reading Head
head_called most depth_left words = do
  function ← plain_name words
  all ← arguments false most depth_left function.1
  called_head most depth_left function.0 all

-- a simple statement or a condition
unfoldable pub head : ℕ → ℕ → List Lexeme → Reading Head
head most depth_left words =
    if begins_with kinds.Arrow words then head_received most depth_left words
    else (if begins_call words then head_called most depth_left words
    else (led false true most depth_left words >>= led_or_condition most depth_left))

-- ---- what a clause of a select waits for

unfoldable pub second : {A : Type 0} → (List Lexeme → Reading A) → List Lexeme → Reading (Option A)
second one words =
    if begins_with kinds.Comma words then (expect kinds.Comma words >>= λ following. as_one (λ x. Some x) (one following)) else Ok (None, words)

-- a receive after this mark
abbrev pub received_after : TokenKind → ℕ → ℕ → List Lexeme → Reading Expression
received_after mark most depth_left words = after_mark mark (received true most depth_left) words

-- a receive with a `:=` of one name or two
unfoldable pub comm_defined : ℕ → ℕ → List Lexeme → Reading Comm
comm_defined most depth_left words = do
  item ← plain_name words
  ok ← second plain_name item.1
  channel ← received_after kinds.Define most depth_left ok.1
  Ok (CommDefine item.0 ok.0 channel.0, channel.1)

-- a receive with an assignment to one lvalue or two
unfoldable pub comm_assigned : ℕ → ℕ → List Lexeme → Reading Comm
comm_assigned most depth_left words = do
  item ← place words
  ok ← second place item.1
  channel ← received_after kinds.Assign most depth_left ok.1
  Ok (CommAssign item.0 ok.0 channel.0, channel.1)

unfoldable pub comm_formed : ℕ → ℕ → Form → List Lexeme → Reading Comm
comm_formed most depth_left (forms.Define ranges) words = if defines true words then comm_defined most depth_left words else comm_assigned most depth_left words
comm_formed most depth_left (forms.Assign ranges) words = comm_assigned most depth_left words
comm_formed most depth_left forms.List words = if defines true words then comm_defined most depth_left words else comm_assigned most depth_left words
comm_formed most depth_left form words = sent CommSend true most depth_left words

-- what a clause of a select waits for, with at most `depth_left` levels below it
unfoldable pub comm : ℕ → ℕ → List Lexeme → Reading Comm
comm most depth_left words =
    if begins_with kinds.Arrow words then as_one CommReceive (received true most depth_left words) else comm_formed most depth_left (place_form words) words

-- ---- headers of an if and a for

-- a condition
abbrev pub condition : ℕ → ℕ → List Lexeme → Reading Expression
condition most depth_left words = expression false most depth_left 0 words

-- a condition after a semicolon
abbrev pub after_semicolon : ℕ → ℕ → List Lexeme → Reading Expression
after_semicolon most depth_left words = expect kinds.Semicolon words >>= condition most depth_left

-- like `after_semicolon`, with the statement before it
abbrev pub after_head : IfHead → ℕ → ℕ → List Lexeme → Reading (IfHead × Expression)
after_head first most depth_left words = as_one (λ test. (first, test)) (after_semicolon most depth_left words)

-- the statement before the condition, and the condition
abbrev pub if_headed : ℕ → ℕ → Head × List Lexeme → Reading (IfHead × Expression)
if_headed most depth_left (HeadSimple simple, rest) = after_head (First simple) most depth_left rest
if_headed most depth_left (HeadCondition test, rest) = Ok ((Bare, test), rest)

-- what is between an `if` and its block
unfoldable pub if_header : ℕ → ℕ → List Lexeme → Reading (IfHead × Expression)
if_header most depth_left words =
    if begins_with kinds.Semicolon words then after_head Semicolon most depth_left words else (head most depth_left words >>= if_headed most depth_left)

-- what is there, unless this mark comes next
abbrev pub unless_next : {A : Type 0} → TokenKind → (List Lexeme → Reading A) → List Lexeme → Reading (Option A)
unless_next kind one words = if begins_with kind words then Ok (None, words) else as_one (λ x. Some x) (one words)

-- the post statement, after the second semicolon of a `for`
abbrev pub post_after : ℕ → ℕ → List Lexeme → Reading (Option Simple)
post_after most depth_left words = expect kinds.Semicolon words >>= unless_next kinds.LeftBrace (simple false false most depth_left)

-- the clauses of a `for`, after the first semicolon
unfoldable pub for_clauses : Option Simple → ℕ → ℕ → List Lexeme → Reading ForHead
for_clauses first most depth_left words = do
  test ← unless_next kinds.Semicolon (condition most depth_left) words
  post ← post_after most depth_left test.1
  Ok (ForClauses first test.0 post.0, post.1)

-- the `range` of a `for`, from its word on
unfoldable pub ranged : Target → ℕ → ℕ → List Lexeme → Reading ForHead
ranged target most depth_left words = as_one (Range target) (after_mark kinds.Range (condition most depth_left) words)

unfoldable pub range_defined : ℕ → ℕ → List Lexeme → Reading ForHead
range_defined most depth_left words = plain_name words >>= λ name. expect kinds.Define name.1 >>= λ after. ranged (DefineTarget name.0) most depth_left after

unfoldable pub range_assigned : ℕ → ℕ → List Lexeme → Reading ForHead
range_assigned most depth_left words = before_mark kinds.Assign words >>= λ target. ranged (AssignTarget target.0) most depth_left target.1

abbrev pub for_headed : ℕ → ℕ → Head × List Lexeme → Reading ForHead
for_headed most depth_left (HeadSimple simple, rest) = expect kinds.Semicolon rest >>= λ after. for_clauses (Some simple) most depth_left after
for_headed most depth_left (HeadCondition test, rest) = Ok (While test, rest)

-- whether `range` follows an assignment's mark
abbrev pub ranges : Form → Bool
ranges (forms.Assign is) = is
ranges (forms.Define is) = is
ranges form = false

-- what is between a `for` and its block, if that is no mark
unfoldable pub for_begun : ℕ → ℕ → List Lexeme → Reading ForHead
for_begun most depth_left words =
    if ranges (place_form words) then (if defines true words then range_defined most depth_left words else range_assigned most depth_left words)
    else (head most depth_left words >>= for_headed most depth_left)

-- what is between a `for` and its block
unfoldable pub for_header : ℕ → ℕ → List Lexeme → Reading ForHead
for_header most depth_left words =
    if begins_with kinds.LeftBrace words then Ok (Forever, words)
    else (if begins_with kinds.Semicolon words then (expect kinds.Semicolon words >>= λ after. for_clauses None most depth_left after)
    else (if begins_with kinds.Range words then ranged NoTarget most depth_left words
    else for_begun most depth_left words))
