-- Headers of an if and a for: what is spelt is read, and what is read is spelt so.
use Rattle.std.proofs.Common.{◌≡◌, ℕ, suc, ◌≤◌, Bool, true, false, cond, ◌&&◌, ◌==◌, Option, Some, None, max, List, [], ◌∷◌, Result, Ok, Err, nat_le, ◌<◌, inl, inr, refl, sym, ap, ◌∙◌, subst, arith}
use Rattle.std.proofs.lemmas.Bool.{eqb-true, lt-leb, leb-true}
use Rattle.scanner.specs.declared.kind.TokenKind.{TokenKind}
use Rattle.scanner.specs.declared.kind.TokenKind.TheVariants as kinds
use Rattle.syntax.specs.declared.node.BinaryOperator.{BinaryOperator}
use Rattle.syntax.specs.Tree.{Expression, Receive, Arguments, Place, Simple, CallAlone, Close, Print, ReceiveAlone, Send, Increment, Decrement, Assign, Define, Update, IfHead, Bare, Semicolon, First, Target, NoTarget, DefineTarget, AssignTarget, ForHead, Forever, While, ForClauses, Range}
use Rattle.syntax.specs.Measures.{Listing, if_any, expression_height, expression_longest, simple_height, simple_longest, if_head_height, if_head_longest, for_head_height, for_head_longest}
use Rattle.parser_base.specs.Lexemes.{Lexeme, Name, Mark}
use Rattle.parser_base.specs.Spelling.{following, separated, joined, before, outer_precedence, precedence, IsGrouped}
use Rattle.syntax.specs.declared.node.BinaryOperator.TheVariants as binaries
use Rattle.parser_base.specs.declared.operator.Infix.{Infix}
use Rattle.parser_base.specs.declared.operator.Infix.TheVariants.{Operator, Period}
use Rattle.parser_base.specs.Reading.{Refusal, Syntax, TooDeep, Reading, ◌>>=◌, as_one, is_kind, expect, plain_name, begins, step_at, expression, resumed}
use Rattle.parser_base.proofs.Marks.{bind_ok, ok_is, expect_is, plain_name_is, plain_name_again}
use Rattle.parser_base.proofs.ListLaws.{AreFew, ReadBack, Found, High}
use Rattle.parser_base.proofs.ExpressionAgain.{step_kind, IsLone, EndsExpression, shut, none_unary, begins_again}
use Rattle.parser_base.proofs.ExpressionSound.{IsOperand}
use Rattle.parser_base.proofs.Resumed.{Begun, begun, FromFirst, Again, Alone, from_first}
use Rattle.parser_base.proofs.Steps.{then_again, made_again, read_as, gave, Sound, made_is, either}
use Rattle.parser_simple.specs.declared.form.Form.{Form}
use Rattle.parser_simple.specs.declared.form.Form.TheVariants as forms
use Rattle.parser_simple.specs.Spelling.{IsName, place_words, IsPlace, IsPrimary, IsUnary, arguments_words, AreArguments, right_words, IsRight, update_kind, simple_words, IsSimple}
use Rattle.parser_header.specs.Spelling.{IsAny, if_head_words, IsIfHead, optional, target_words, IsTarget, for_head_words, IsForHead}
use Rattle.parser_simple.specs.Reading.{begins_name, place_form, after_mark, before_mark, begins_with, begins_call, defines, form_of, received, arguments, call_of, simple, led, within, fits}
use Rattle.parser_simple.proofs.BeginLaws.{value_not}
use Rattle.parser_header.specs.Reading.{Head, HeadSimple, HeadCondition, is_primary, condition_or_sent, led_or_condition, ends_condition, headed_on, alone_or_on, received_head, head_received, called_head, head_called, head, condition, after_semicolon, after_head, if_headed, if_header, unless_next, post_after, for_clauses, ranged, range_defined, range_assigned, for_headed, ranges, for_begun, for_header}
use Rattle.parser_simple.proofs.PlaceLaws.{place_again}
use Rattle.parser_simple.proofs.FormLaws.{name_form, form_after, update_again, fields_form, no_defines, no_form, led_none}
use Rattle.parser_simple.proofs.FitLaws.{Fits, within_fits, fits_again, operand_fits, condition_fits}
use Rattle.parser_simple.proofs.RightLaws.{Stops, EndsAt, ends_at, value_again, received_again, arguments_again, value_sound, received_sound}
use Rattle.parser_simple.proofs.CallLaws.{Starts, WithCall, WithReceive, WithNeither, starts, BeginsCall, begins_call_as, call_operand_sound, receive_operand_sound, call_alone_sound, resumed_is}
use Rattle.parser_simple.proofs.SimpleLaws.{SimpleSound, before_mark_sound, is_led, led_again, BeginsOther, led_begins, LedSound, led_sound, simple_again, simple_sound}

-- ---- simple statements and conditions

semicolon_stops : (literals : Bool) (ws : List Lexeme) → Stops literals (Mark kinds.Semicolon ∷ ws)
unfolding step_at begins_with
semicolon_stops literals ws = record { ends = record { none = refl; shut = shut literals kinds.Semicolon ws refl refl }; comma = refl; arrow = refl }

brace_stops : (ws : List Lexeme) → Stops false (Mark kinds.LeftBrace ∷ ws)
unfolding step_at begins_with
brace_stops ws = record { ends = record { none = refl; shut = (refl, refl) }; comma = refl; arrow = refl }

semicolon_ends : (ws : List Lexeme) → EndsExpression false (Mark kinds.Semicolon ∷ ws)
semicolon_ends ws = (semicolon_stops false ws).ends

brace_ends : (ws : List Lexeme) → EndsExpression false (Mark kinds.LeftBrace ∷ ws)
brace_ends ws = (brace_stops ws).ends

arrow_ends : (ws : List Lexeme) → EndsExpression false (Mark kinds.Arrow ∷ ws)
unfolding step_at
arrow_ends ws = record { none = refl; shut = shut false kinds.Arrow ws refl refl }

-- ---- what begins with a call or a receive

step_no_semicolon : (s : Infix) → is_kind (step_kind s) kinds.Semicolon ≡ false
step_no_semicolon Period = refl
step_no_semicolon (Operator binaries.Add) = refl
step_no_semicolon (Operator binaries.Subtract) = refl
step_no_semicolon (Operator binaries.Multiply) = refl
step_no_semicolon (Operator binaries.Divide) = refl
step_no_semicolon (Operator binaries.Remainder) = refl
step_no_semicolon (Operator binaries.And) = refl
step_no_semicolon (Operator binaries.Or) = refl
step_no_semicolon (Operator binaries.ExclusiveOr) = refl
step_no_semicolon (Operator binaries.AndNot) = refl
step_no_semicolon (Operator binaries.ShiftLeft) = refl
step_no_semicolon (Operator binaries.ShiftRight) = refl
step_no_semicolon (Operator binaries.Equal) = refl
step_no_semicolon (Operator binaries.NotEqual) = refl
step_no_semicolon (Operator binaries.Less) = refl
step_no_semicolon (Operator binaries.LessEqual) = refl
step_no_semicolon (Operator binaries.Greater) = refl
step_no_semicolon (Operator binaries.GreaterEqual) = refl
step_no_semicolon (Operator binaries.LogicalAnd) = refl
step_no_semicolon (Operator binaries.LogicalOr) = refl

-- no semicolon follows the first operand of an expression that no semicolon follows
tail_no_semicolon : (literals : Bool) (c : Expression) (rest : List Lexeme) (b : Begun literals c rest) → begins_with kinds.Semicolon rest ≡ false → begins_with kinds.Semicolon b.tail ≡ false
unfolding begins_with
tail_no_semicolon literals c rest b none =
    elim b.goes [
      | inl all ↦ ap (begins_with kinds.Semicolon) all.1 ∙ none
      | inr more ↦ ap (begins_with kinds.Semicolon) more.2 ∙ step_no_semicolon more.0
    ]

within_high : (height depth_left : ℕ) → depth_left < height → within height depth_left true ≡ Err TooDeep
within_high height depth_left high = rw (lt-leb height depth_left high) refl

-- what is read of a condition and what follows it is read from its first operand on
headed_from : (most depth_left : ℕ) (c : Expression) (rest : List Lexeme) (x : Head) (after : List Lexeme) (height : ℕ) (longest : Listing → ℕ) (first : Expression) (tail : List Lexeme) → FromFirst false most depth_left 0 c rest first tail
    → ends_condition c rest ≡ true → expression_height c ≤ height → ((listing : Listing) → expression_longest listing c ≤ longest listing)
    → (expression_height c ≤ depth_left → AreFew (λ listing. expression_longest listing c) most → ReadBack (condition_or_sent most depth_left (c, rest)) x after height depth_left longest most)
    → ReadBack (headed_on most depth_left first tail) x after height depth_left longest most
unfolding headed_on
headed_from most depth_left c rest x after height longest first tail (Again again) ends low few next =
    then_again _ again (λ high. omega (arith, high, low)) few (λ low' few'.
    rw ends (fits_again _ _ (within_fits (expression_height c) (expression_height c) depth_left (omega arith)) (λ high. omega (arith, high, low)) (next low' few')))
headed_from most depth_left c rest x after height longest first tail (Alone high e) ends low few next =
    High (omega (arith, high, low)) (rw (e, ends, within_high (expression_height c) depth_left high) refl)

on_again : (most depth_left : ℕ) (alone : Simple) (left : Expression) (ws : List Lexeme) → begins_with kinds.Semicolon ws ≡ false → alone_or_on most depth_left alone left ws ≡ headed_on most depth_left left ws
on_again most depth_left alone left ws none = rw none refl

called_again : (most depth_left : ℕ) (c : Expression) (rest : List Lexeme) (x : Head) (after : List Lexeme) (height : ℕ) (longest : Listing → ℕ) (function : List ℕ) (all : Arguments) (tail : List Lexeme) → BeginsCall false most depth_left 0 c rest function all tail
    → IsName function → AreArguments false all → begins_with kinds.Semicolon tail ≡ false
    → ends_condition c rest ≡ true → expression_height c ≤ height → ((listing : Listing) → expression_longest listing c ≤ longest listing)
    → (expression_height c ≤ depth_left → AreFew (λ listing. expression_longest listing c) most → ReadBack (condition_or_sent most depth_left (c, rest)) x after height depth_left longest most)
    → ReadBack (head_called most depth_left (Name function ∷ arguments_words all tail)) x after height depth_left longest most
unfolding head_called
called_again most depth_left c rest x after height longest function all tail begins plain are none ends low few next =
    rw (plain_name_again function (arguments_words all tail) plain)
    (then_again _ (arguments_again false most depth_left all tail are) (λ high. omega (arith, high, begins.low, low)) (λ listing. omega (arith, begins.few listing, few listing)) (λ low' few'.
    read_as (on_again most depth_left (CallAlone function all) (call_of function all) tail none)
    (headed_from most depth_left c rest x after height longest (call_of function all) tail (begins.from few') ends low few next)))

head_by_call : (most depth_left : ℕ) (function : List ℕ) (ws : List Lexeme) → IsName function → head most depth_left (Name function ∷ Mark kinds.LeftParenthesis ∷ ws) ≡ head_called most depth_left (Name function ∷ Mark kinds.LeftParenthesis ∷ ws)
unfolding head begins_with begins_call
head_by_call most depth_left function ws plain = rw plain refl

head_by_receive : (most depth_left : ℕ) (ws : List Lexeme) → head most depth_left (Mark kinds.Arrow ∷ ws) ≡ head_received most depth_left (Mark kinds.Arrow ∷ ws)
unfolding head begins_with
head_by_receive most depth_left ws = refl

head_other : (most depth_left : ℕ) (ws : List Lexeme) → BeginsOther ws → head most depth_left ws ≡ (led false true most depth_left ws >>= led_or_condition most depth_left)
unfolding head
head_other most depth_left ws other = rw (other.receive, other.call) refl

-- the receive with which a condition begins
receive_is : (c channel first : Expression) → first ≡ Receive channel → IsGrouped false first → expression_height first ≤ expression_height c → ((listing : Listing) → expression_longest listing first ≤ expression_longest listing c)
    → IsUnary false channel × (expression_height channel < expression_height c) × ((listing : Listing) → expression_longest listing channel ≤ expression_longest listing c)
receive_is c channel first is g low few =
    (subst (IsGrouped false) is g, omega (arith, ap expression_height is, low), λ listing. omega (arith, ap (expression_longest listing) is, few listing))

begins_receive : (most depth_left : ℕ) (c : Expression) (rest : List Lexeme) (x : Head) (after : List Lexeme) (height : ℕ) (longest : Listing → ℕ) (channel : Expression) (tail : List Lexeme) → (AreFew (λ listing. expression_longest listing channel) most → FromFirst false most depth_left 0 c rest (Receive channel) tail)
    → IsUnary false channel → expression_height channel < expression_height c → ((listing : Listing) → expression_longest listing channel ≤ expression_longest listing c) → EndsAt false 6 tail → begins_with kinds.Semicolon tail ≡ false
    → ends_condition c rest ≡ true → expression_height c ≤ height → ((listing : Listing) → expression_longest listing c ≤ longest listing)
    → (expression_height c ≤ depth_left → AreFew (λ listing. expression_longest listing c) most → ReadBack (condition_or_sent most depth_left (c, rest)) x after height depth_left longest most)
    → ReadBack (head_received most depth_left (Mark kinds.Arrow ∷ before channel tail)) x after height depth_left longest most
begins_receive most depth_left c rest x after height longest channel tail from unary lower fewer at none ends low few next =
    then_again _ (received_again false most depth_left channel tail unary at) (λ high. omega (arith, high, lower, low)) (λ listing. omega (arith, fewer listing, few listing)) (λ low' few'.
    read_as (on_again most depth_left (ReceiveAlone channel) (Receive channel) tail none)
    (headed_from most depth_left c rest x after height longest (Receive channel) tail (from few') ends low few next))

-- a condition, and what follows it, if that is no semicolon
head_begun : (most depth_left : ℕ) (c : Expression) (rest : List Lexeme) (x : Head) (after : List Lexeme) (height : ℕ) (longest : Listing → ℕ) → IsGrouped false c → EndsExpression false rest → begins_with kinds.Semicolon rest ≡ false
    → ends_condition c rest ≡ true → form_of false rest ≡ forms.Other → Fits (expression_height c) depth_left (fits true false true 0 depth_left (before c rest)) → expression_height c ≤ height → ((listing : Listing) → expression_longest listing c ≤ longest listing)
    → (expression_height c ≤ depth_left → AreFew (λ listing. expression_longest listing c) most → ReadBack (condition_or_sent most depth_left (c, rest)) x after height depth_left longest most)
    → (b : Begun false c rest) → Starts false b.first b.tail → ReadBack (head most depth_left (before c rest)) x after height depth_left longest most
head_begun most depth_left c rest x after height longest is end none ends form fit low few next b (WithCall function all first plain are words) =
    read_as (ap (head most depth_left) (b.parts ∙ words) ∙ head_by_call most depth_left function _ plain)
    (called_again most depth_left c rest x after height longest function all b.tail (begins_call_as false most depth_left 0 c rest b function all first is (omega arith) (ends_at false 0 rest end)) plain are (tail_no_semicolon false c rest b none) ends low few next)
head_begun most depth_left c rest x after height longest is end none ends form fit low few next b (WithReceive channel first) =
    let r = receive_is c channel b.first first b.grouped b.low b.few in
    let words = ap (λ (e : Expression). before e b.tail) first in
    let step = subst (λ (e : Expression). step_at (suc (outer_precedence e)) b.tail ≡ None) first b.none in
    let at : EndsAt false 6 b.tail = record { none = none_unary b.tail step; is_shut = b.is_shut } in
    read_as (ap (head most depth_left) (b.parts ∙ words) ∙ head_by_receive most depth_left (before channel b.tail))
    (begins_receive most depth_left c rest x after height longest channel b.tail
    (λ short. subst (λ (e : Expression). FromFirst false most depth_left 0 c rest e b.tail) first (from_first false most depth_left 0 c rest b (subst IsLone (sym first) tt) is (omega arith) end.none end.shut (λ listing. omega (arith, ap (expression_longest listing) first, short listing))))
    r.0 r.1 r.2 at (tail_no_semicolon false c rest b none) ends low few next)
head_begun most depth_left c rest x after height longest is end none ends form fit low few next b (WithNeither receive call) =
    let words = before c rest in
    let other : BeginsOther words = record { receive = ap (begins_with kinds.Arrow) b.parts ∙ receive; call = ap begins_call b.parts ∙ call } in
    read_as (head_other most depth_left words other ∙ ap (λ (r : Reading (Option Simple)). r >>= led_or_condition most depth_left) (led_none false true most depth_left words (begins_again false c rest is) (no_form c rest form)))
    (fits_again _ _ fit (λ high. omega (arith, high, low))
    (then_again _ (value_again false most depth_left c rest is end) (λ high. omega (arith, high, low)) few next))

head_value : (most depth_left : ℕ) (c : Expression) (rest : List Lexeme) (x : Head) (after : List Lexeme) (height : ℕ) (longest : Listing → ℕ) → IsGrouped false c → EndsExpression false rest → begins_with kinds.Semicolon rest ≡ false
    → ends_condition c rest ≡ true → form_of false rest ≡ forms.Other → Fits (expression_height c) depth_left (fits true false true 0 depth_left (before c rest)) → expression_height c ≤ height → ((listing : Listing) → expression_longest listing c ≤ longest listing)
    → (expression_height c ≤ depth_left → AreFew (λ listing. expression_longest listing c) most → ReadBack (condition_or_sent most depth_left (c, rest)) x after height depth_left longest most)
    → ReadBack (head most depth_left (before c rest)) x after height depth_left longest most
head_value most depth_left c rest x after height longest is end none ends form fit low few next =
    let at = ends_at false (suc (outer_precedence c)) rest end in
    let b = begun false c rest is at.none at.is_shut in
    head_begun most depth_left c rest x after height longest is end none ends form fit low few next b (starts false b.first b.tail b.is_first b.grouped b.is_shut)

-- ---- simple statements and conditions

abbrev HeadOutcome : (most depth_left : ℕ) → Reading Head → Simple → List Lexeme → Type 0
HeadOutcome most depth_left read s rest = ReadBack read (HeadSimple s) rest (simple_height s) depth_left (λ listing. simple_longest listing s) most

head_led : (most depth_left : ℕ) (s : Simple) (ws : List Lexeme) → IsSimple false true s → is_led s ≡ true → HeadOutcome most depth_left (head most depth_left (simple_words s (Mark kinds.Semicolon ∷ ws))) s (Mark kinds.Semicolon ∷ ws)
head_led most depth_left s ws is begins =
    let rest = Mark kinds.Semicolon ∷ ws in
    read_as (head_other most depth_left (simple_words s rest) (led_begins false true s rest is begins))
    (then_again _ (led_again false true most depth_left s rest is begins (semicolon_stops false ws)) (λ high. high) (λ listing. omega arith) (λ low few. Found low few refl))

sent_after : (most depth_left : ℕ) (c v : Expression) (ws : List Lexeme) → IsPrimary false c → IsGrouped false v → expression_height c ≤ depth_left → AreFew (λ listing. expression_longest listing c) most
    → HeadOutcome most depth_left (condition_or_sent most depth_left (c, Mark kinds.Arrow ∷ before v (Mark kinds.Semicolon ∷ ws))) (Send c v) (Mark kinds.Semicolon ∷ ws)
unfolding begins_with expect
sent_after most depth_left c v ws is grouped low few =
    rw is.1 (then_again _ (value_again false most depth_left v (Mark kinds.Semicolon ∷ ws) grouped (semicolon_ends ws)) (λ high. omega arith) (λ listing. omega arith) (λ low' few'.
    Found (omega arith) (λ listing. omega (arith, few listing, few' listing)) refl))

send_ends : (c : Expression) (ws : List Lexeme) → outer_precedence c ≡ 7 → ends_condition c (Mark kinds.Arrow ∷ ws) ≡ true
unfolding begins_with
send_ends c ws is = rw is refl

no_semicolon : (kind : TokenKind) (ws : List Lexeme) → is_kind kind kinds.Semicolon ≡ false → begins_with kinds.Semicolon (Mark kind ∷ ws) ≡ false
unfolding begins_with
no_semicolon kind ws is = is

head_sent : (most depth_left : ℕ) (c v : Expression) (ws : List Lexeme) → IsSimple false true (Send c v) → HeadOutcome most depth_left (head most depth_left (simple_words (Send c v) (Mark kinds.Semicolon ∷ ws))) (Send c v) (Mark kinds.Semicolon ∷ ws)
unfolding form_of
head_sent most depth_left c v ws is =
    let value = before v (Mark kinds.Semicolon ∷ ws) in
    head_value most depth_left c (Mark kinds.Arrow ∷ value) (HeadSimple (Send c v)) (Mark kinds.Semicolon ∷ ws) (max (expression_height c) (expression_height v)) (λ listing. max (expression_longest listing c) (expression_longest listing v))
    is.0.0 (arrow_ends value) (no_semicolon kinds.Arrow value refl) (send_ends c value is.0.1) refl (operand_fits true false depth_left c value is.0.0 is.0.1) (omega arith) (λ listing. omega arith) (sent_after most depth_left c v ws is.0 is.1)

head_call : (most depth_left : ℕ) (f : List ℕ) (all : Arguments) (ws : List Lexeme) → IsSimple false true (CallAlone f all) → HeadOutcome most depth_left (head most depth_left (simple_words (CallAlone f all) (Mark kinds.Semicolon ∷ ws))) (CallAlone f all) (Mark kinds.Semicolon ∷ ws)
unfolding head_called begins_with
head_call most depth_left f all ws is =
    let rest = Mark kinds.Semicolon ∷ ws in
    read_as (head_by_call most depth_left f _ is.0)
    (rw (plain_name_again f (arguments_words all rest) is.0)
    (then_again _ (arguments_again false most depth_left all rest is.1) (λ high. high) (λ listing. omega arith) (λ low few. Found low few refl)))

head_receive : (most depth_left : ℕ) (c : Expression) (ws : List Lexeme) → IsUnary false c → HeadOutcome most depth_left (head most depth_left (simple_words (ReceiveAlone c) (Mark kinds.Semicolon ∷ ws))) (ReceiveAlone c) (Mark kinds.Semicolon ∷ ws)
unfolding begins_with
head_receive most depth_left c ws is =
    let rest = Mark kinds.Semicolon ∷ ws in
    read_as (head_by_receive most depth_left (before c rest))
    (then_again _ (received_again false most depth_left c rest is (ends_at false 6 rest (semicolon_ends ws))) (λ high. high) (λ listing. omega arith) (λ low few. Found low few refl))

head_simple : (most depth_left : ℕ) (s : Simple) (ws : List Lexeme) → IsSimple false true s → HeadOutcome most depth_left (head most depth_left (simple_words s (Mark kinds.Semicolon ∷ ws))) s (Mark kinds.Semicolon ∷ ws)
head_simple most depth_left (Send c v) ws is = head_sent most depth_left c v ws is
head_simple most depth_left (CallAlone f all) ws is = head_call most depth_left f all ws is
head_simple most depth_left (Close c) ws is = head_led most depth_left (Close c) ws is refl
head_simple most depth_left (Print line ps trailing) ws is = head_led most depth_left (Print line ps trailing) ws is refl
head_simple most depth_left (ReceiveAlone c) ws is = head_receive most depth_left c ws is
head_simple most depth_left (Increment p) ws is = head_led most depth_left (Increment p) ws is refl
head_simple most depth_left (Decrement p) ws is = head_led most depth_left (Decrement p) ws is refl
head_simple most depth_left (Assign ps r) ws is = head_led most depth_left (Assign ps r) ws is refl
head_simple most depth_left (Define ns r) ws is = head_led most depth_left (Define ns r) ws is refl
head_simple most depth_left (Update p o v) ws is = head_led most depth_left (Update p o v) ws is refl

condition_alone : (most depth_left : ℕ) (c : Expression) (ws : List Lexeme) → expression_height c ≤ depth_left → AreFew (λ listing. expression_longest listing c) most
    → ReadBack (condition_or_sent most depth_left (c, Mark kinds.LeftBrace ∷ ws)) (HeadCondition c) (Mark kinds.LeftBrace ∷ ws) (expression_height c) depth_left (λ listing. expression_longest listing c) most
unfolding begins_with
condition_alone most depth_left c ws low few = Found low few refl

brace_after : (c : Expression) (ws : List Lexeme) → ends_condition c (Mark kinds.LeftBrace ∷ ws) ≡ true
unfolding begins_with
brace_after c ws = refl

head_condition : (most depth_left : ℕ) (c : Expression) (ws : List Lexeme) → IsGrouped false c
    → ReadBack (head most depth_left (before c (Mark kinds.LeftBrace ∷ ws))) (HeadCondition c) (Mark kinds.LeftBrace ∷ ws) (expression_height c) depth_left (λ listing. expression_longest listing c) most
unfolding form_of
head_condition most depth_left c ws is =
    head_value most depth_left c (Mark kinds.LeftBrace ∷ ws) (HeadCondition c) (Mark kinds.LeftBrace ∷ ws) (expression_height c) (λ listing. expression_longest listing c)
    is (brace_ends ws) (no_semicolon kinds.LeftBrace ws refl) (brace_after c ws) refl (condition_fits depth_left c ws is) (omega arith) (λ listing. omega arith) (condition_alone most depth_left c ws)

-- a head that was read
abbrev HeadSound : (most depth_left : ℕ) → List Lexeme → Head → List Lexeme → Type 0
HeadSound most depth_left ws (HeadSimple s) rest = SimpleSound false true most depth_left ws s rest
HeadSound most depth_left ws (HeadCondition c) rest = Sound before (IsGrouped false) expression_height depth_left expression_longest most ws c rest

is_seven : (n : ℕ) → (n == 7) ≡ true → n ≡ 7
is_seven n e = eqb-true n 7 e

both_true : (a b : Bool) → (a && b) ≡ true → b ≡ true
both_true true b e = e
both_true false b e = absurd cc

condition_or_sent_sound : (most depth_left : ℕ) (ws : List Lexeme) (c : Expression) (after : List Lexeme) → Sound before (IsGrouped false) expression_height depth_left expression_longest most ws c after
    → (h : Head) (rest : List Lexeme) → condition_or_sent most depth_left (c, after) ≡ gave h rest → HeadSound most depth_left ws h rest
condition_or_sent_sound most depth_left ws c after s h rest e =
    elim (either (begins_with kinds.Arrow after && is_primary c) (as_one (λ (value : Expression). HeadSimple (Send c value)) (after_mark kinds.Arrow (expression false most depth_left 0) after)) (gave (HeadCondition c) after) (h, rest) e) [
      | inl sends ↦
          let b = made_is (λ (value : Expression). HeadSimple (Send c value)) (after_mark kinds.Arrow (expression false most depth_left 0) after) h rest sends.1 in
          let a = bind_ok (expect kinds.Arrow after) (expression false most depth_left 0) (b.0, rest) b.1 in
          let v = value_sound false most depth_left a.0 b.0 rest a.2 in
          let primary = is_seven (outer_precedence c) (both_true (begins_with kinds.Arrow after) (is_primary c) sends.0) in
          subst (λ (x : Head). HeadSound most depth_left ws x rest) b.2 (record {
            parts = s.parts ∙ ap (before c) (expect_is kinds.Arrow after a.0 a.1 ∙ ap (λ (x : List Lexeme). Mark kinds.Arrow ∷ x) v.parts);
            is = ((s.is, primary), v.is);
            low = omega (arith, s.low, v.low);
            few = λ listing. omega (arith, s.few listing, v.few listing);
          })
      | inr stays ↦ subst (λ (x : Head × List Lexeme). HeadSound most depth_left ws x.0 x.1) (ok_is (HeadCondition c, after) (h, rest) stays.1) s
    ]

led_or_condition_sound : (most depth_left : ℕ) (ws : List Lexeme) (found : Option Simple) (after : List Lexeme) → LedSound false true most depth_left ws found after → (h : Head) (rest : List Lexeme) → led_or_condition most depth_left (found, after) ≡ gave h rest → HeadSound most depth_left ws h rest
led_or_condition_sound most depth_left ws None after same h rest e =
    let low = bind_ok (fits true false true 0 depth_left after) (λ low. expression false most depth_left 0 after >>= condition_or_sent most depth_left) (h, rest) e in
    let a = bind_ok (expression false most depth_left 0 after) (condition_or_sent most depth_left) (h, rest) low.2 in
    subst (λ (x : List Lexeme). HeadSound most depth_left x h rest) (sym same) (condition_or_sent_sound most depth_left after a.0.0 a.0.1 (value_sound false most depth_left after a.0.0 a.0.1 a.1) h rest a.2)
led_or_condition_sound most depth_left ws (Some s) after sound h rest e =
    subst (λ (x : Head × List Lexeme). HeadSound most depth_left ws x.0 x.1) (ok_is (HeadSimple s, after) (h, rest) e) sound

abbrev refused_by : Bool → Refusal → Refusal → Result (Unit {0}) Refusal
refused_by b d f = cond b (Err d) (Err f)

abbrev unit_ok : Result (Unit {0}) Refusal
unit_ok = Ok tt

neither : (b : Bool) (d f : Refusal) → refused_by b d f ≡ unit_ok → ⊥
neither true d f e = absurd cc
neither false d f e = absurd cc

within_low : (height depth_left : ℕ) (goes : Bool) → within height depth_left goes ≡ unit_ok → height ≤ depth_left
within_low height depth_left goes e =
    elim (either (nat_le height depth_left) (Ok tt) (cond goes (Err TooDeep) (Err Syntax)) tt e) [
      | inl low ↦ leb-true height depth_left low.0
      | inr high ↦ absurd (neither goes TooDeep Syntax high.1)
    ]

headed_on_sound : (most depth_left : ℕ) (ws : List Lexeme) (left : Expression) (after : List Lexeme) → IsOperand false most (suc depth_left) ws left after → (h : Head) (rest : List Lexeme) → headed_on most depth_left left after ≡ gave h rest → HeadSound most depth_left ws h rest
unfolding headed_on
headed_on_sound most depth_left ws left after o h rest e =
    let a = bind_ok (resumed false most depth_left 0 left after) (λ found. within (expression_height found.0) depth_left (ends_condition found.0 found.1) >>= λ low. condition_or_sent most depth_left found) (h, rest) e in
    let w = bind_ok (within (expression_height a.0.0) depth_left (ends_condition a.0.0 a.0.1)) (λ low. condition_or_sent most depth_left a.0) (h, rest) a.2 in
    let r = resumed_is false most depth_left 0 ws left after a.0.0 a.0.1 o a.1 in
    condition_or_sent_sound most depth_left ws a.0.0 a.0.1 (record { parts = r.parts; is = r.grouped; low = within_low (expression_height a.0.0) depth_left (ends_condition a.0.0 a.0.1) w.1; few = r.few }) h rest w.2

alone_or_on_sound : (most depth_left : ℕ) (ws : List Lexeme) (alone : Simple) (left : Expression) (after : List Lexeme) → SimpleSound false true most depth_left ws alone after → IsOperand false most (suc depth_left) ws left after
    → (h : Head) (rest : List Lexeme) → alone_or_on most depth_left alone left after ≡ gave h rest → HeadSound most depth_left ws h rest
alone_or_on_sound most depth_left ws alone left after s o h rest e =
    elim (either (begins_with kinds.Semicolon after) (gave (HeadSimple alone) after) (headed_on most depth_left left after) (h, rest) e) [
      | inl a ↦ subst (λ (x : Head × List Lexeme). HeadSound most depth_left ws x.0 x.1) (ok_is (HeadSimple alone, after) (h, rest) a.1) s
      | inr on ↦ headed_on_sound most depth_left ws left after o h rest on.1
    ]

head_called_sound : (most depth_left : ℕ) (ws : List Lexeme) (h : Head) (rest : List Lexeme) → head_called most depth_left ws ≡ gave h rest → HeadSound most depth_left ws h rest
unfolding head_called
head_called_sound most depth_left ws h rest e =
    let a = bind_ok (plain_name ws) (λ function. arguments false most depth_left function.1 >>= called_head most depth_left function.0) (h, rest) e in
    let b = bind_ok (arguments false most depth_left a.0.1) (called_head most depth_left a.0.0) (h, rest) a.2 in
    let n = plain_name_is ws a.0.0 a.0.1 a.1 in
    subst (λ (x : List Lexeme). HeadSound most depth_left x h rest) (sym n.0)
    (alone_or_on_sound most depth_left (Name a.0.0 ∷ a.0.1) (CallAlone a.0.0 b.0.0) (call_of a.0.0 b.0.0) b.0.1 (call_alone_sound false true most depth_left a.0.0 a.0.1 b.0.0 b.0.1 n.1 b.1)
    (call_operand_sound false most depth_left a.0.0 a.0.1 b.0.0 b.0.1 n.1 b.1) h rest b.2)

head_received_sound : (most depth_left : ℕ) (ws : List Lexeme) (h : Head) (rest : List Lexeme) → head_received most depth_left ws ≡ gave h rest → HeadSound most depth_left ws h rest
head_received_sound most depth_left ws h rest e =
    let a = bind_ok (received false most depth_left ws) (received_head most depth_left) (h, rest) e in
    let r = received_sound false most depth_left ws a.0.0 a.0.1 a.1 in
    alone_or_on_sound most depth_left ws (ReceiveAlone a.0.0) (Receive a.0.0) a.0.1 (record { parts = r.parts; is = r.is; low = r.low; few = r.few })
    (receive_operand_sound false most depth_left ws a.0.0 a.0.1 a.1) h rest a.2

head_sound : (most depth_left : ℕ) (ws : List Lexeme) (h : Head) (rest : List Lexeme) → head most depth_left ws ≡ gave h rest → HeadSound most depth_left ws h rest
unfolding head
head_sound most depth_left ws h rest e =
    let others = led false true most depth_left ws >>= led_or_condition most depth_left in
    elim (either (begins_with kinds.Arrow ws) (head_received most depth_left ws) (cond (begins_call ws) (head_called most depth_left ws) others) (h, rest) e) [
      | inl r ↦ head_received_sound most depth_left ws h rest r.1
      | inr other ↦ elim (either (begins_call ws) (head_called most depth_left ws) others (h, rest) other.1) [
        | inl c ↦ head_called_sound most depth_left ws h rest c.1
        | inr o ↦
            let a = bind_ok (led false true most depth_left ws) (led_or_condition most depth_left) (h, rest) o.1 in
            led_or_condition_sound most depth_left ws a.0.0 a.0.1 (led_sound false true most depth_left ws a.0.0 a.0.1 a.1) h rest a.2
      ]
    ]

-- ---- if

-- the statement before a condition, and the condition
abbrev pub if_header_words : IfHead × Expression → List Lexeme → List Lexeme
if_header_words header rest = if_head_words header.0 (before header.1 rest)

abbrev pub IsIfHeader : IfHead × Expression → Type 0
IsIfHeader header = IsIfHead header.0 × IsGrouped false header.1

abbrev pub if_header_height : IfHead × Expression → ℕ
if_header_height header = max (if_head_height header.0) (expression_height header.1)

abbrev pub if_header_longest : Listing → IfHead × Expression → ℕ
if_header_longest listing header = max (if_head_longest listing header.0) (expression_longest listing header.1)

simple_not_semicolon : (literals defining : Bool) (s : Simple) (ws : List Lexeme) → IsSimple literals defining s → begins_with kinds.Semicolon (simple_words s ws) ≡ false
unfolding begins_with begins
simple_not_semicolon literals defining (CallAlone f all) ws is = refl
simple_not_semicolon literals defining (Close c) ws is = refl
simple_not_semicolon literals defining (Print line ps trailing) ws is = refl
simple_not_semicolon literals defining (ReceiveAlone c) ws is = refl
simple_not_semicolon literals defining (Send c v) ws is = value_not kinds.Semicolon literals c (Mark kinds.Arrow ∷ before v ws) is.0.0 (λ rest. refl)
simple_not_semicolon literals defining (Increment p) ws is = refl
simple_not_semicolon literals defining (Decrement p) ws is = refl
simple_not_semicolon literals defining (Assign [] r) ws is = absurd is.0
simple_not_semicolon literals defining (Assign (p ∷ ps) r) ws is = refl
simple_not_semicolon literals defining (Define [] r) ws is = absurd is.1
simple_not_semicolon literals defining (Define (n ∷ ns) r) ws is = refl
simple_not_semicolon literals defining (Update p o v) ws is = refl

pub if_header_again : (most depth_left : ℕ) (header : IfHead × Expression) (ws : List Lexeme) → IsIfHeader header
    → ReadBack (if_header most depth_left (if_header_words header (Mark kinds.LeftBrace ∷ ws))) header (Mark kinds.LeftBrace ∷ ws) (if_header_height header) depth_left (λ listing. if_header_longest listing header) most
unfolding if_header expect begins_with begins
if_header_again most depth_left (Bare, test) ws is =
    rw (value_not kinds.Semicolon false test (Mark kinds.LeftBrace ∷ ws) is.1 (λ rest. refl))
    (then_again _ (head_condition most depth_left test ws is.1) (λ high. omega arith) (λ listing. omega arith) (λ low few. Found (omega arith) (λ listing. omega (arith, few listing)) refl))
if_header_again most depth_left (Semicolon, test) ws is =
    then_again _ (value_again false most depth_left test (Mark kinds.LeftBrace ∷ ws) is.1 (brace_ends ws)) (λ high. omega arith) (λ listing. omega arith) (λ low few. Found (omega arith) (λ listing. omega (arith, few listing)) refl)
if_header_again most depth_left (First s, test) ws is =
    rw (simple_not_semicolon false true s (Mark kinds.Semicolon ∷ before test (Mark kinds.LeftBrace ∷ ws)) is.0)
    (then_again _ (head_simple most depth_left s (before test (Mark kinds.LeftBrace ∷ ws)) is.0) (λ high. omega arith) (λ listing. omega arith) (λ low few.
    then_again _ (value_again false most depth_left test (Mark kinds.LeftBrace ∷ ws) is.1 (brace_ends ws)) (λ high. omega arith) (λ listing. omega arith) (λ low' few'.
    Found (omega arith) (λ listing. omega (arith, few listing, few' listing)) refl)))

abbrev pub IfHeaderSound : (most depth_left : ℕ) → List Lexeme → IfHead × Expression → List Lexeme → Type 0
IfHeaderSound most depth_left = Sound if_header_words IsIfHeader if_header_height depth_left if_header_longest most

after_head_sound : (first : IfHead) (most depth_left : ℕ) (ws : List Lexeme) (header : IfHead × Expression) (rest : List Lexeme) → after_head first most depth_left ws ≡ gave header rest
    → (Mark kinds.Semicolon ∷ before header.1 rest ≡ ws) × (first ≡ header.0) × Sound before (IsGrouped false) expression_height depth_left expression_longest most (before header.1 rest) header.1 rest
after_head_sound first most depth_left ws header rest e =
    let b = made_is (λ (test : Expression). (first, test)) (after_semicolon most depth_left ws) header rest e in
    let a = bind_ok (expect kinds.Semicolon ws) (condition most depth_left) (b.0, rest) b.1 in
    let v = value_sound false most depth_left a.0 b.0 rest a.2 in
    subst (λ (x : IfHead × Expression). (Mark kinds.Semicolon ∷ before x.1 rest ≡ ws) × (first ≡ x.0) × Sound before (IsGrouped false) expression_height depth_left expression_longest most (before x.1 rest) x.1 rest) b.2
    (sym (expect_is kinds.Semicolon ws a.0 a.1 ∙ ap (λ (x : List Lexeme). Mark kinds.Semicolon ∷ x) v.parts), refl, record { parts = refl; is = v.is; low = v.low; few = v.few })

if_headed_sound : (most depth_left : ℕ) (ws : List Lexeme) (h : Head) (after : List Lexeme) → HeadSound most depth_left ws h after → (header : IfHead × Expression) (rest : List Lexeme) → if_headed most depth_left (h, after) ≡ gave header rest → IfHeaderSound most depth_left ws header rest
if_headed_sound most depth_left ws (HeadSimple s) after sound header rest e =
    let a = after_head_sound (First s) most depth_left after header rest e in
    let made : IfHeaderSound most depth_left ws (First s, header.1) rest = record {
      parts = sound.parts ∙ ap (simple_words s) (sym a.0);
      is = (sound.is, a.2.is);
      low = omega (arith, sound.low, a.2.low);
      few = λ listing. omega (arith, sound.few listing, a.2.few listing);
    } in
    subst (λ (x : IfHead). IfHeaderSound most depth_left ws (x, header.1) rest) a.1 made
if_headed_sound most depth_left ws (HeadCondition c) after sound header rest e =
    subst (λ (x : (IfHead × Expression) × List Lexeme). IfHeaderSound most depth_left ws x.0 x.1) (ok_is ((Bare, c), after) (header, rest) e)
    (record { parts = sound.parts; is = (tt, sound.is); low = omega (arith, sound.low); few = λ listing. omega (arith, sound.few listing) })

pub if_header_sound : (most depth_left : ℕ) (ws : List Lexeme) (header : IfHead × Expression) (rest : List Lexeme) → if_header most depth_left ws ≡ gave header rest → IfHeaderSound most depth_left ws header rest
unfolding if_header
if_header_sound most depth_left ws header rest e =
    elim (either (begins_with kinds.Semicolon ws) (after_head Semicolon most depth_left ws) (head most depth_left ws >>= if_headed most depth_left) (header, rest) e) [
      | inl s ↦
          let a = after_head_sound Semicolon most depth_left ws header rest s.1 in
          let made : IfHeaderSound most depth_left ws (Semicolon, header.1) rest = record { parts = sym a.0; is = (tt, a.2.is); low = omega (arith, a.2.low); few = λ listing. omega (arith, a.2.few listing) } in
          subst (λ (x : IfHead). IfHeaderSound most depth_left ws (x, header.1) rest) a.1 made
      | inr other ↦
          let a = bind_ok (head most depth_left ws) (if_headed most depth_left) (header, rest) other.1 in
          if_headed_sound most depth_left ws a.0.0 a.0.1 (head_sound most depth_left ws a.0.0 a.0.1 a.1) header rest a.2
    ]

-- ---- for

abbrev ForOutcome : (most depth_left : ℕ) → Reading ForHead → ForHead → List Lexeme → Type 0
ForOutcome most depth_left read h rest = ReadBack read h rest (for_head_height h) depth_left (λ listing. for_head_longest listing h) most

test_again : (most depth_left : ℕ) (test : Option Expression) (ws : List Lexeme) → IsAny (IsGrouped false) test
    → ReadBack (unless_next kinds.Semicolon (condition most depth_left) (optional before test (Mark kinds.Semicolon ∷ ws))) test (Mark kinds.Semicolon ∷ ws) (if_any expression_height test) depth_left (λ listing. if_any (expression_longest listing) test) most
unfolding begins_with begins
test_again most depth_left None ws is = Found (omega arith) (λ listing. omega arith) refl
test_again most depth_left (Some test) ws is =
    rw (value_not kinds.Semicolon false test (Mark kinds.Semicolon ∷ ws) is (λ rest. refl))
    (made_again (λ (x : Expression). Some x) (value_again false most depth_left test (Mark kinds.Semicolon ∷ ws) is (semicolon_ends ws)) (λ high. high) (λ low. low) (λ listing. refl))

simple_not_brace : (literals defining : Bool) (s : Simple) (ws : List Lexeme) → IsSimple literals defining s → begins_with kinds.LeftBrace (simple_words s ws) ≡ false
unfolding begins_with begins
simple_not_brace literals defining (CallAlone f all) ws is = refl
simple_not_brace literals defining (Close c) ws is = refl
simple_not_brace literals defining (Print line ps trailing) ws is = refl
simple_not_brace literals defining (ReceiveAlone c) ws is = refl
simple_not_brace literals defining (Send c v) ws is = value_not kinds.LeftBrace literals c (Mark kinds.Arrow ∷ before v ws) is.0.0 (λ rest. refl)
simple_not_brace literals defining (Increment p) ws is = refl
simple_not_brace literals defining (Decrement p) ws is = refl
simple_not_brace literals defining (Assign [] r) ws is = absurd is.0
simple_not_brace literals defining (Assign (p ∷ ps) r) ws is = refl
simple_not_brace literals defining (Define [] r) ws is = absurd is.1
simple_not_brace literals defining (Define (n ∷ ns) r) ws is = refl
simple_not_brace literals defining (Update p o v) ws is = refl

post_again : (most depth_left : ℕ) (post : Option Simple) (ws : List Lexeme) → IsAny (IsSimple false false) post
    → ReadBack (unless_next kinds.LeftBrace (simple false false most depth_left) (optional simple_words post (Mark kinds.LeftBrace ∷ ws))) post (Mark kinds.LeftBrace ∷ ws) (if_any simple_height post) depth_left (λ listing. if_any (simple_longest listing) post) most
unfolding begins_with
post_again most depth_left None ws is = Found (omega arith) (λ listing. omega arith) refl
post_again most depth_left (Some s) ws is =
    rw (simple_not_brace false false s (Mark kinds.LeftBrace ∷ ws) is)
    (made_again (λ (x : Simple). Some x) (simple_again false false most depth_left s (Mark kinds.LeftBrace ∷ ws) is (brace_stops ws)) (λ high. high) (λ low. low) (λ listing. refl))

clauses_again : (most depth_left : ℕ) (first : Option Simple) (test : Option Expression) (post : Option Simple) (ws : List Lexeme) → if_any simple_height first ≤ depth_left → AreFew (λ listing. if_any (simple_longest listing) first) most → IsAny (IsGrouped false) test → IsAny (IsSimple false false) post
    → ForOutcome most depth_left (for_clauses first most depth_left (optional before test (Mark kinds.Semicolon ∷ optional simple_words post (Mark kinds.LeftBrace ∷ ws)))) (ForClauses first test post) (Mark kinds.LeftBrace ∷ ws)
unfolding for_clauses expect
clauses_again most depth_left first test post ws low0 few0 test_is post_is =
    then_again _ (test_again most depth_left test (optional simple_words post (Mark kinds.LeftBrace ∷ ws)) test_is) (λ high. omega arith) (λ listing. omega arith) (λ low few.
    then_again _ (post_again most depth_left post ws post_is) (λ high. omega arith) (λ listing. omega arith) (λ low' few'.
    Found (omega arith) (λ listing. omega (arith, few0 listing, few listing, few' listing)) refl))

ranged_again : (most depth_left : ℕ) (target : Target) (c : Expression) (ws : List Lexeme) → IsGrouped false c
    → ForOutcome most depth_left (ranged target most depth_left (Mark kinds.Range ∷ before c (Mark kinds.LeftBrace ∷ ws))) (Range target c) (Mark kinds.LeftBrace ∷ ws)
unfolding ranged expect
ranged_again most depth_left target c ws is =
    made_again (Range target) (value_again false most depth_left c (Mark kinds.LeftBrace ∷ ws) is (brace_ends ws)) (λ high. high) (λ low. low) (λ listing. refl)

-- what begins with a mark of its own, or not
for_forever : (most depth_left : ℕ) (ws : List Lexeme) → ForOutcome most depth_left (for_header most depth_left (Mark kinds.LeftBrace ∷ ws)) Forever (Mark kinds.LeftBrace ∷ ws)
unfolding for_header begins_with
for_forever most depth_left ws = Found (omega arith) (λ listing. omega arith) refl

for_bare_clauses : (most depth_left : ℕ) (test : Option Expression) (post : Option Simple) (ws : List Lexeme) → IsForHead (ForClauses None test post)
    → ForOutcome most depth_left (for_header most depth_left (for_head_words (ForClauses None test post) (Mark kinds.LeftBrace ∷ ws))) (ForClauses None test post) (Mark kinds.LeftBrace ∷ ws)
unfolding for_header begins_with expect
for_bare_clauses most depth_left test post ws is = clauses_again most depth_left None test post ws (omega arith) (λ listing. omega arith) is.1 is.2

for_bare_range : (most depth_left : ℕ) (c : Expression) (ws : List Lexeme) → IsGrouped false c → ForOutcome most depth_left (for_header most depth_left (Mark kinds.Range ∷ before c (Mark kinds.LeftBrace ∷ ws))) (Range NoTarget c) (Mark kinds.LeftBrace ∷ ws)
unfolding for_header begins_with
for_bare_range most depth_left c ws is = ranged_again most depth_left NoTarget c ws is

unmarked : (most depth_left : ℕ) (ws : List Lexeme) → begins_with kinds.LeftBrace ws ≡ false → begins_with kinds.Semicolon ws ≡ false → begins_with kinds.Range ws ≡ false → for_header most depth_left ws ≡ for_begun most depth_left ws
unfolding for_header
unmarked most depth_left ws brace semicolon range = rw (brace, semicolon, range) refl

for_defined : (most depth_left : ℕ) (name : List ℕ) (c : Expression) (ws : List Lexeme) → IsName name → IsGrouped false c
    → ForOutcome most depth_left (for_begun most depth_left (for_head_words (Range (DefineTarget name) c) (Mark kinds.LeftBrace ∷ ws))) (Range (DefineTarget name) c) (Mark kinds.LeftBrace ∷ ws)
unfolding for_begun form_of begins_with defines range_defined expect
for_defined most depth_left name c ws plain is =
    rw (name_form name (Mark kinds.Define ∷ Mark kinds.Range ∷ before c (Mark kinds.LeftBrace ∷ ws)) plain, plain_name_again name (Mark kinds.Define ∷ Mark kinds.Range ∷ before c (Mark kinds.LeftBrace ∷ ws)) plain) (ranged_again most depth_left (DefineTarget name) c ws is)

assign_form : (p : Place) (ws : List Lexeme) → IsPlace p → ranges (place_form (place_words p (Mark kinds.Assign ∷ Mark kinds.Range ∷ ws))) ≡ true
unfolding form_of begins_with
assign_form p ws is = rw (form_after p (Mark kinds.Assign ∷ Mark kinds.Range ∷ ws) is) refl

for_assigned : (most depth_left : ℕ) (p : Place) (c : Expression) (ws : List Lexeme) → IsPlace p → IsGrouped false c
    → ForOutcome most depth_left (for_begun most depth_left (for_head_words (Range (AssignTarget p) c) (Mark kinds.LeftBrace ∷ ws))) (Range (AssignTarget p) c) (Mark kinds.LeftBrace ∷ ws)
unfolding for_begun range_assigned expect begins_with
for_assigned most depth_left p c ws place_is is =
    let following' = Mark kinds.Range ∷ before c (Mark kinds.LeftBrace ∷ ws) in
    rw (assign_form p (before c (Mark kinds.LeftBrace ∷ ws)) place_is, no_defines p [] following', place_again p (Mark kinds.Assign ∷ following') place_is refl) (ranged_again most depth_left (AssignTarget p) c ws is)

-- no right side begins with `range`
right_no_range : (literals : Bool) (vs : List Expression) (ws : List Lexeme) → IsRight literals vs → begins_with kinds.Range (right_words vs ws) ≡ false
unfolding begins
right_no_range literals [] ws is = absurd is
right_no_range literals (v ∷ vs) ws is = value_not kinds.Range literals v (separated before (following kinds.Comma) vs ws) is.0 (λ rest. refl)

no_range_places : (p : Place) (ps : List Place) (r : List Expression) (ws : List Lexeme) → IsRight false r → ranges (form_of true (simple_words (Assign (p ∷ ps) r) ws)) ≡ false
unfolding form_of
no_range_places p [] r ws is = rw (fields_form p.fields (Mark kinds.Assign ∷ right_words r ws)) (right_no_range false r ws is)
no_range_places p (q ∷ ps) r ws is = rw (fields_form p.fields (Mark kinds.Comma ∷ joined place_words (following kinds.Comma) (q ∷ ps) (Mark kinds.Assign ∷ right_words r ws))) refl

no_range_names : (n : List ℕ) (ns : List (List ℕ)) (r : List Expression) (ws : List Lexeme) → IsRight false r → ranges (form_of true (simple_words (Define (n ∷ ns) r) ws)) ≡ false
unfolding form_of
no_range_names n [] r ws is = right_no_range false r ws is
no_range_names n (m ∷ ns) r ws is = refl

no_range_step : (p : Place) (ws : List Lexeme) → ranges (form_of false ws) ≡ false → ranges (form_of true (place_words p ws)) ≡ false
unfolding form_of
no_range_step p ws none = rw (fields_form p.fields ws) none

no_range_marks : (p : Place) (ws : List Lexeme) → (ranges (form_of true (simple_words (Increment p) ws)) ≡ false) × (ranges (form_of true (simple_words (Decrement p) ws)) ≡ false)
unfolding form_of
no_range_marks p ws = (no_range_step p (Mark kinds.Increment ∷ ws) refl, no_range_step p (Mark kinds.Decrement ∷ ws) refl)

no_range_update : (p : Place) (o : BinaryOperator) (v : Expression) (ws : List Lexeme) → 4 ≤ precedence o → ranges (form_of true (simple_words (Update p o v) ws)) ≡ false
no_range_update p o v ws strong = no_range_step p (Mark (update_kind o) ∷ before v ws) (rw (update_again o (before v ws) strong) refl)

no_range_value : (e : Expression) (ws : List Lexeme) → form_of false ws ≡ forms.Other → ranges (form_of true (before e ws)) ≡ false
no_range_value e ws none = rw (no_form e ws none) refl

no_range : (s : Simple) (ws : List Lexeme) → IsSimple false true s → ranges (form_of true (simple_words s ws)) ≡ false
unfolding form_of
no_range (CallAlone f all) ws is = refl
no_range (Close c) ws is = refl
no_range (Print true ps trailing) ws is = refl
no_range (Print false ps trailing) ws is = refl
no_range (ReceiveAlone c) ws is = refl
no_range (Send c v) ws is = no_range_value c (Mark kinds.Arrow ∷ before v ws) refl
no_range (Increment p) ws is = (no_range_marks p ws).0
no_range (Decrement p) ws is = (no_range_marks p ws).1
no_range (Assign [] r) ws is = absurd is.0
no_range (Assign (p ∷ ps) r) ws is = no_range_places p ps r ws is.1
no_range (Define [] r) ws is = absurd is.1
no_range (Define (n ∷ ns) r) ws is = no_range_names n ns r ws is.2
no_range (Update p o v) ws is = no_range_update p o v ws is.1

simple_not_range : (s : Simple) (ws : List Lexeme) → IsSimple false true s → begins_with kinds.Range (simple_words s ws) ≡ false
unfolding begins_with begins
simple_not_range (CallAlone f all) ws is = refl
simple_not_range (Close c) ws is = refl
simple_not_range (Print line ps trailing) ws is = refl
simple_not_range (ReceiveAlone c) ws is = refl
simple_not_range (Send c v) ws is = value_not kinds.Range false c (Mark kinds.Arrow ∷ before v ws) is.0.0 (λ rest. refl)
simple_not_range (Increment p) ws is = refl
simple_not_range (Decrement p) ws is = refl
simple_not_range (Assign [] r) ws is = absurd is.0
simple_not_range (Assign (p ∷ ps) r) ws is = refl
simple_not_range (Define [] r) ws is = absurd is.1
simple_not_range (Define (n ∷ ns) r) ws is = refl
simple_not_range (Update p o v) ws is = refl

no_ranges : (b : Bool) (f : Form) → ranges f ≡ false → ranges (cond b f forms.Other) ≡ false
no_ranges true f none = none
no_ranges false f none = refl

-- and so not if an lvalue comes next
no_place_range : (ws : List Lexeme) → ranges (form_of true ws) ≡ false → ranges (place_form ws) ≡ false
no_place_range ws none = no_ranges (begins_name ws) (form_of true ws) none

for_simple : (most depth_left : ℕ) (s : Simple) (test : Option Expression) (post : Option Simple) (ws : List Lexeme) → IsForHead (ForClauses (Some s) test post)
    → ForOutcome most depth_left (for_begun most depth_left (for_head_words (ForClauses (Some s) test post) (Mark kinds.LeftBrace ∷ ws))) (ForClauses (Some s) test post) (Mark kinds.LeftBrace ∷ ws)
unfolding for_begun expect
for_simple most depth_left s test post ws is =
    let after = optional before test (Mark kinds.Semicolon ∷ optional simple_words post (Mark kinds.LeftBrace ∷ ws)) in
    rw (no_place_range (simple_words s (Mark kinds.Semicolon ∷ after)) (no_range s (Mark kinds.Semicolon ∷ after) is.0))
    (then_again _ (head_simple most depth_left s after is.0) (λ high. omega arith) (λ listing. omega arith) (λ low few.
    clauses_again most depth_left (Some s) test post ws low few is.1 is.2))

for_while : (most depth_left : ℕ) (c : Expression) (ws : List Lexeme) → IsGrouped false c → ForOutcome most depth_left (for_begun most depth_left (before c (Mark kinds.LeftBrace ∷ ws))) (While c) (Mark kinds.LeftBrace ∷ ws)
unfolding for_begun form_of
for_while most depth_left c ws is =
    rw (no_place_range (before c (Mark kinds.LeftBrace ∷ ws)) (no_range_value c (Mark kinds.LeftBrace ∷ ws) refl))
    (then_again _ (head_condition most depth_left c ws is) (λ high. high) (λ listing. omega arith) (λ low few. Found low few refl))

begun_place : (most depth_left : ℕ) (p : Place) (ws : List Lexeme) → for_header most depth_left (place_words p ws) ≡ for_begun most depth_left (place_words p ws)
unfolding begins_with
begun_place most depth_left p ws = unmarked most depth_left (place_words p ws) refl refl refl

begun_name : (most depth_left : ℕ) (name : List ℕ) (ws : List Lexeme) → for_header most depth_left (Name name ∷ ws) ≡ for_begun most depth_left (Name name ∷ ws)
unfolding begins_with
begun_name most depth_left name ws = unmarked most depth_left (Name name ∷ ws) refl refl refl

begun_value : (most depth_left : ℕ) (e : Expression) (ws : List Lexeme) → IsGrouped false e → for_header most depth_left (before e ws) ≡ for_begun most depth_left (before e ws)
unfolding begins
begun_value most depth_left e ws is =
    unmarked most depth_left (before e ws) (value_not kinds.LeftBrace false e ws is (λ rest. refl)) (value_not kinds.Semicolon false e ws is (λ rest. refl)) (value_not kinds.Range false e ws is (λ rest. refl))

pub for_header_again : (most depth_left : ℕ) (h : ForHead) (ws : List Lexeme) → IsForHead h → ForOutcome most depth_left (for_header most depth_left (for_head_words h (Mark kinds.LeftBrace ∷ ws))) h (Mark kinds.LeftBrace ∷ ws)
for_header_again most depth_left Forever ws is = for_forever most depth_left ws
for_header_again most depth_left (While c) ws is = rw (begun_value most depth_left c (Mark kinds.LeftBrace ∷ ws) is) (for_while most depth_left c ws is)
for_header_again most depth_left (ForClauses None test post) ws is = for_bare_clauses most depth_left test post ws is
for_header_again most depth_left (ForClauses (Some s) test post) ws is =
    let after = Mark kinds.Semicolon ∷ optional before test (Mark kinds.Semicolon ∷ optional simple_words post (Mark kinds.LeftBrace ∷ ws)) in
    rw (unmarked most depth_left (simple_words s after) (simple_not_brace false true s after is.0) (simple_not_semicolon false true s after is.0) (simple_not_range s after is.0)) (for_simple most depth_left s test post ws is)
for_header_again most depth_left (Range NoTarget c) ws is = for_bare_range most depth_left c ws is.1
for_header_again most depth_left (Range (DefineTarget name) c) ws is =
    rw (begun_name most depth_left name (Mark kinds.Define ∷ Mark kinds.Range ∷ before c (Mark kinds.LeftBrace ∷ ws))) (for_defined most depth_left name c ws is.0 is.1)
for_header_again most depth_left (Range (AssignTarget p) c) ws is =
    rw (begun_place most depth_left p (Mark kinds.Assign ∷ Mark kinds.Range ∷ before c (Mark kinds.LeftBrace ∷ ws))) (for_assigned most depth_left p c ws is.0 is.1)

-- ---- what is read as the header of a for is spelt so

abbrev pub ForSound : (most depth_left : ℕ) → List Lexeme → ForHead → List Lexeme → Type 0
ForSound most depth_left = Sound for_head_words IsForHead for_head_height depth_left for_head_longest most

-- what is there, or nothing
unless_sound : {A : Type 0} (words : A → List Lexeme → List Lexeme) (Is : A → Type 0) (height : A → ℕ) (longest : Listing → A → ℕ) (kind : TokenKind) (one : List Lexeme → Reading A) (depth_left most : ℕ)
    → ((ws : List Lexeme) (x : A) (rest : List Lexeme) → one ws ≡ gave x rest → Sound words Is height depth_left longest most ws x rest)
    → (ws : List Lexeme) (x : Option A) (rest : List Lexeme) → unless_next kind one ws ≡ gave x rest → Sound (optional words) (IsAny Is) (if_any height) depth_left (λ listing. if_any (longest listing)) most ws x rest
unless_sound words Is height longest kind one depth_left most sound ws x rest e =
    elim (either (begins_with kind ws) (gave None ws) (as_one (λ (y : _). Some y) (one ws)) (x, rest) e) [
      | inl none ↦ subst (λ (y : Option _ × List Lexeme). Sound (optional words) (IsAny Is) (if_any height) depth_left (λ listing. if_any (longest listing)) most ws y.0 y.1) (ok_is (None, ws) (x, rest) none.1)
          (record { parts = refl; is = tt; low = omega arith; few = λ listing. omega arith })
      | inr some ↦
          let a = made_is (λ (y : _). Some y) (one ws) x rest some.1 in
          let s = sound ws a.0 rest a.1 in
          subst (λ (y : Option _). Sound (optional words) (IsAny Is) (if_any height) depth_left (λ listing. if_any (longest listing)) most ws y rest) a.2 (record { parts = s.parts; is = s.is; low = s.low; few = s.few })
    ]

clauses_sound : (most depth_left : ℕ) (first : Option Simple) → IsAny (IsSimple false true) first → if_any simple_height first ≤ depth_left → AreFew (λ listing. if_any (simple_longest listing) first) most
    → (all ws : List Lexeme) → all ≡ optional simple_words first (Mark kinds.Semicolon ∷ ws) → (h : ForHead) (rest : List Lexeme) → for_clauses first most depth_left ws ≡ gave h rest → ForSound most depth_left all h rest
unfolding for_clauses
clauses_sound most depth_left first first_is low few all ws parts h rest e =
    let a = bind_ok (unless_next kinds.Semicolon (condition most depth_left) ws) (λ test. post_after most depth_left test.1 >>= λ post. gave (ForClauses first test.0 post.0) post.1) (h, rest) e in
    let c = made_is (ForClauses first a.0.0) (post_after most depth_left a.0.1) h rest a.2 in
    let b = bind_ok (expect kinds.Semicolon a.0.1) (unless_next kinds.LeftBrace (simple false false most depth_left)) (c.0, rest) c.1 in
    let t = unless_sound before (IsGrouped false) expression_height expression_longest kinds.Semicolon (condition most depth_left) depth_left most (value_sound false most depth_left) ws a.0.0 a.0.1 a.1 in
    let p = unless_sound simple_words (IsSimple false false) simple_height simple_longest kinds.LeftBrace (simple false false most depth_left) depth_left most (simple_sound false false most depth_left) b.0 c.0 rest b.2 in
    let tail = t.parts ∙ ap (optional before a.0.0) (expect_is kinds.Semicolon a.0.1 b.0 b.1 ∙ ap (λ (x : List Lexeme). Mark kinds.Semicolon ∷ x) p.parts) in
    subst (λ (x : ForHead). ForSound most depth_left all x rest) c.2 (record {
      parts = parts ∙ ap (λ (x : List Lexeme). optional simple_words first (Mark kinds.Semicolon ∷ x)) tail;
      is = (first_is, t.is, p.is);
      low = omega (arith, low, t.low, p.low);
      few = λ listing. omega (arith, few listing, t.few listing, p.few listing);
    })

ranged_sound : (most depth_left : ℕ) (target : Target) → IsTarget target → (all ws : List Lexeme) → all ≡ target_words target ws → (h : ForHead) (rest : List Lexeme) → ranged target most depth_left ws ≡ gave h rest → ForSound most depth_left all h rest
unfolding ranged
ranged_sound most depth_left target is all ws parts h rest e =
    let b = made_is (Range target) (after_mark kinds.Range (condition most depth_left) ws) h rest e in
    let a = bind_ok (expect kinds.Range ws) (condition most depth_left) (b.0, rest) b.1 in
    let v = value_sound false most depth_left a.0 b.0 rest a.2 in
    subst (λ (x : ForHead). ForSound most depth_left all x rest) b.2 (record {
      parts = parts ∙ ap (target_words target) (expect_is kinds.Range ws a.0 a.1 ∙ ap (λ (x : List Lexeme). Mark kinds.Range ∷ x) v.parts);
      is = (is, v.is);
      low = v.low;
      few = v.few;
    })

defined_sound : (most depth_left : ℕ) (ws : List Lexeme) (h : ForHead) (rest : List Lexeme) → range_defined most depth_left ws ≡ gave h rest → ForSound most depth_left ws h rest
unfolding range_defined
defined_sound most depth_left ws h rest e =
    let a = bind_ok (plain_name ws) (λ name. expect kinds.Define name.1 >>= λ after. ranged (DefineTarget name.0) most depth_left after) (h, rest) e in
    let b = bind_ok (expect kinds.Define a.0.1) (ranged (DefineTarget a.0.0) most depth_left) (h, rest) a.2 in
    let n = plain_name_is ws a.0.0 a.0.1 a.1 in
    ranged_sound most depth_left (DefineTarget a.0.0) n.1 ws b.0 (n.0 ∙ ap (λ (x : List Lexeme). Name a.0.0 ∷ x) (expect_is kinds.Define a.0.1 b.0 b.1)) h rest b.2

assigned_sound : (most depth_left : ℕ) (ws : List Lexeme) (h : ForHead) (rest : List Lexeme) → range_assigned most depth_left ws ≡ gave h rest → ForSound most depth_left ws h rest
unfolding range_assigned
assigned_sound most depth_left ws h rest e =
    let a = bind_ok (before_mark kinds.Assign ws) (λ target. ranged (AssignTarget target.0) most depth_left target.1) (h, rest) e in
    let p = before_mark_sound kinds.Assign ws a.0.0 a.0.1 a.1 in
    ranged_sound most depth_left (AssignTarget a.0.0) p.1 ws a.0.1 p.0 h rest a.2

for_headed_sound : (most depth_left : ℕ) (ws : List Lexeme) (head' : Head) (after : List Lexeme) → HeadSound most depth_left ws head' after → (h : ForHead) (rest : List Lexeme) → for_headed most depth_left (head', after) ≡ gave h rest → ForSound most depth_left ws h rest
for_headed_sound most depth_left ws (HeadSimple s) after sound h rest e =
    let a = bind_ok (expect kinds.Semicolon after) (for_clauses (Some s) most depth_left) (h, rest) e in
    clauses_sound most depth_left (Some s) sound.is sound.low sound.few ws a.0 (sound.parts ∙ ap (simple_words s) (expect_is kinds.Semicolon after a.0 a.1)) h rest a.2
for_headed_sound most depth_left ws (HeadCondition c) after sound h rest e =
    subst (λ (x : ForHead × List Lexeme). ForSound most depth_left ws x.0 x.1) (ok_is (While c, after) (h, rest) e) (record { parts = sound.parts; is = sound.is; low = sound.low; few = sound.few })

begun_sound : (most depth_left : ℕ) (ws : List Lexeme) (h : ForHead) (rest : List Lexeme) → for_begun most depth_left ws ≡ gave h rest → ForSound most depth_left ws h rest
unfolding for_begun
begun_sound most depth_left ws h rest e =
    elim (either (ranges (place_form ws)) (cond (defines true ws) (range_defined most depth_left ws) (range_assigned most depth_left ws)) (head most depth_left ws >>= for_headed most depth_left) (h, rest) e) [
      | inl r ↦ elim (either (defines true ws) (range_defined most depth_left ws) (range_assigned most depth_left ws) (h, rest) r.1) [
        | inl d ↦ defined_sound most depth_left ws h rest d.1
        | inr a ↦ assigned_sound most depth_left ws h rest a.1
      ]
      | inr other ↦
          let a = bind_ok (head most depth_left ws) (for_headed most depth_left) (h, rest) other.1 in
          for_headed_sound most depth_left ws a.0.0 a.0.1 (head_sound most depth_left ws a.0.0 a.0.1 a.1) h rest a.2
    ]

pub for_header_sound : (most depth_left : ℕ) (ws : List Lexeme) (h : ForHead) (rest : List Lexeme) → for_header most depth_left ws ≡ gave h rest → ForSound most depth_left ws h rest
unfolding for_header
for_header_sound most depth_left ws h rest e =
    elim (either (begins_with kinds.LeftBrace ws) (gave Forever ws) (cond (begins_with kinds.Semicolon ws) (expect kinds.Semicolon ws >>= λ after. for_clauses None most depth_left after) (cond (begins_with kinds.Range ws) (ranged NoTarget most depth_left ws) (for_begun most depth_left ws))) (h, rest) e) [
      | inl brace ↦ subst (λ (x : ForHead × List Lexeme). ForSound most depth_left ws x.0 x.1) (ok_is (Forever, ws) (h, rest) brace.1) (record { parts = refl; is = tt; low = omega arith; few = λ listing. omega arith })
      | inr no_brace ↦ elim (either (begins_with kinds.Semicolon ws) (expect kinds.Semicolon ws >>= λ after. for_clauses None most depth_left after) (cond (begins_with kinds.Range ws) (ranged NoTarget most depth_left ws) (for_begun most depth_left ws)) (h, rest) no_brace.1) [
        | inl semicolon ↦
            let a = bind_ok (expect kinds.Semicolon ws) (for_clauses None most depth_left) (h, rest) semicolon.1 in
            clauses_sound most depth_left None tt (omega arith) (λ listing. omega arith) ws a.0 (expect_is kinds.Semicolon ws a.0 a.1) h rest a.2
        | inr no_semicolon ↦ elim (either (begins_with kinds.Range ws) (ranged NoTarget most depth_left ws) (for_begun most depth_left ws) (h, rest) no_semicolon.1) [
          | inl range ↦ ranged_sound most depth_left NoTarget tt ws ws refl h rest range.1
          | inr other ↦ begun_sound most depth_left ws h rest other.1
        ]
      ]
    ]
