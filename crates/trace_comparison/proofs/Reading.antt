-- The lines of a trace's text.
use Rattle.std.proofs.Common.{◌≡◌, ◌≢◌, ℕ, ◌+◌, ◌^◌, ◌<◌, suc, not, nat_lt, IsUtf8, Bool, true, get_or, List, [], ◌∷◌, ◌++◌, length, Option, Some, None, Result, Ok, Err, eqb, take, drop, take-append-drop, refl, sym, ap, subst, ◌∙◌, arith, rules, append_assoc}
use Rattle.std.specs.List.{position, position_or_len}
use Rattle.std.specs.Option.{MatchOption}
use Rattle.std.specs.Result.{OkIff, result_ok}
use Rattle.std.specs.Str.{all_ascii_digits}
use Rattle.std.specs.Str.Parse.{ParsesUnsigned}
use Rattle.std.proofs.lemmas.List.{flat_map_more, map_push, append-nil, drop_more, get_or-take, length-map, length-take}
use Rattle.std.proofs.lemmas.List.Quantifiers.{position-Some}
use Rattle.std.proofs.lemmas.Bool.{cond-true, cond_both, eqb-true, eqb-false, lt-ltb}
use Rattle.std.proofs.lemmas.Option.{none-some}
use Rattle.std.proofs.lemmas.Str.Parse.{IsNumeralModel, numerals_by_fold, tells_all_ascii_digits, not_in_digits, parse_plain}
use Rattle.std.proofs.lemmas.Str.Pattern.{IsSplitOnceResult, split_after, split_parts}
use denote.Ref.{Bor}
use Rattle.trace_comparison.specs.declared.line.TraceLine.{TraceLine}
use Rattle.trace_comparison.specs.Requests.{Event, event_of, events_of}
use Rattle.trace_comparison.specs.Texts.{value_after, IsNumber, IsRequest, IsEventLine, HasNoNewline, IsWhole, AreWhole, text_of, IsTrace, IsBrokenAt}

-- ---- numbers

pub own : IsNumeralModel (λ ds. all_ascii_digits ds ≡ true) (value_after 0)
own = numerals_by_fold _ tells_all_ascii_digits value_after (search rules)

pub not_in_number : (digits : List ℕ) (n c : ℕ) → IsNumber digits n → c < 48 → (i : ℕ) → i < length digits → get_or digits i 0 ≢ c
not_in_number digits n c number below = not_in_digits own digits c number.0 (λ range. absurd (omega arith))

number_from : {E : Type 0} (text : List ℕ) (r : Result ℕ E) → OkIff r ((all_ascii_digits text ≡ true) × (0 < length text) × (value_after 0 text < 2 ^ 64)) (value_after 0 text)
    → MatchOption (result_ok r) ((n : ℕ) → IsNumber text n → ⊥) (IsNumber text)
number_from text (Ok n) (is, same) = (is.0, is.1, is.2, sym same)
number_from text (Err e) isnt = λ n number. isnt (number.0, number.1, number.2)

-- no number begins with a plus
pub plus_is_none : (text : List ℕ) → get_or text 0 0 ≡ 43 → (n : ℕ) → IsNumber text n → ⊥
plus_is_none text plus n number = not_in_number text n 43 number (omega arith) 0 number.1 plus

pub number_parsed : {E : Type 0} (text : List ℕ) (r : Result ℕ E) (found : Option ℕ) → found ≡ result_ok r → ParsesUnsigned 64 10 text r → get_or text 0 0 ≢ 43
    → MatchOption found ((n : ℕ) → IsNumber text n → ⊥) (IsNumber text)
number_parsed {E} text r found is parses plain =
    subst (λ o. MatchOption o ((n : ℕ) → IsNumber text n → ⊥) (IsNumber text)) (sym is) (number_from text r (parse_plain own 64 text r parses plain))

-- ---- a line

pub no_space : (line : List ℕ) → IsSplitOnceResult 32 line None → (e : Event) → IsEventLine e → e.line ≢ line
no_space line split e (clock, time, goroutine, a, b, q, is) same =
    split_after 32 line clock (goroutine ++ 32 ∷ e.request) None split (omega arith) (sym same ∙ is) (not_in_number clock time 32 a (omega arith))

-- the parts of an event's line
pub record Parts (line : List ℕ) (e : Event) (clock rest : List ℕ) : Type 0 where
  time : ℕ
  goroutine : List ℕ
  clock_is : IsNumber clock time
  goroutine_is : IsNumber goroutine e.goroutine
  request_is : IsRequest e.request
  rest_is : rest ≡ goroutine ++ 32 ∷ e.request

pub first_space : (line : List ℕ) (x : Bor (List ℕ) × Bor (List ℕ)) → IsSplitOnceResult 32 line (Some x) → (e : Event) → IsEventLine e → e.line ≡ line → Parts line e x.0.now x.1.now
first_space line x split e (clock, time, goroutine, a, b, q, is) same =
    let parts = split_after 32 line clock (goroutine ++ 32 ∷ e.request) (Some x) split (omega arith) (sym same ∙ is) (not_in_number clock time 32 a (omega arith)) in
    record { time = time; goroutine = goroutine; clock_is = subst (λ c. IsNumber c time) (sym parts.0) a; goroutine_is = b; request_is = q; rest_is = parts.1 }

pub no_second_space : (line : List ℕ) (x : Bor (List ℕ) × Bor (List ℕ)) → IsSplitOnceResult 32 line (Some x) → IsSplitOnceResult 32 x.1.now None → (e : Event) → IsEventLine e → e.line ≢ line
no_second_space line x split second e is same =
    let parts = first_space line x split e is same in
    split_after 32 x.1.now parts.goroutine e.request None second (omega arith) parts.rest_is (not_in_number parts.goroutine e.goroutine 32 parts.goroutine_is (omega arith))

pub second_space : (line : List ℕ) (x y : Bor (List ℕ) × Bor (List ℕ)) → IsSplitOnceResult 32 line (Some x) → IsSplitOnceResult 32 x.1.now (Some y) → (e : Event) → IsEventLine e → e.line ≡ line
    → ((time : ℕ) × IsNumber x.0.now time) × IsNumber y.0.now e.goroutine × IsRequest y.1.now
second_space line x y split second e is same =
    let parts = first_space line x split e is same in
    let found = split_after 32 x.1.now parts.goroutine e.request (Some y) second (omega arith) parts.rest_is (not_in_number parts.goroutine e.goroutine 32 parts.goroutine_is (omega arith)) in
    ((parts.time, parts.clock_is), subst (λ g. IsNumber g e.goroutine) (sym found.0) parts.goroutine_is, subst IsRequest (sym found.1) parts.request_is)

pub line_from_parts : (line : List ℕ) (x y : Bor (List ℕ) × Bor (List ℕ)) → IsSplitOnceResult 32 line (Some x) → IsSplitOnceResult 32 x.1.now (Some y) → line ≡ x.0.now ++ 32 ∷ (y.0.now ++ 32 ∷ y.1.now)
line_from_parts line x y split second =
    (split_parts 32 line (Some x) split (omega arith)).0 ∙ ap (λ rest. x.0.now ++ 32 ∷ rest) (split_parts 32 x.1.now (Some y) second (omega arith)).0

abbrev pub IsRead : List ℕ → Option TraceLine → Type 0
IsRead line found = MatchOption found ((e : Event) → IsEventLine e → e.line ≢ line) (λ (t : TraceLine). IsEventLine (event_of t) × (t.line.now ≡ line))

pub none_read : (line : List ℕ) (found : Option TraceLine) → found ≡ None → ((e : Event) → IsEventLine e → e.line ≢ line) → IsRead line found
none_read line found is isnt = subst (IsRead line) (sym is) isnt

-- a line of bytes that are UTF-8
abbrev pub IsFound : List ℕ → Option TraceLine → Type 0
IsFound bytes found = MatchOption found ((e : Event) → IsUtf8 e.line → IsEventLine e → e.line ≢ bytes) (λ (t : TraceLine). IsEventLine (event_of t) × IsUtf8 t.line.now × (t.line.now ≡ bytes))

pub found_in_bytes : (line bytes : List ℕ) (found : Option TraceLine) → line ≡ bytes → IsUtf8 bytes → IsRead line found → IsFound bytes found
found_in_bytes line bytes None same utf8 isnt = λ e u event is. isnt e event (is ∙ sym same)
found_in_bytes line bytes (Some t) same utf8 (event, is) = (event, subst IsUtf8 (sym (is ∙ same)) utf8, is ∙ same)

-- ---- lines

pub whole_more : (es : List Event) (e : Event) → AreWhole es → IsWhole e → AreWhole (es ++ e ∷ [])
whole_more [] e whole is = (is, tt)
whole_more (x ∷ es) e whole is = (whole.0, whole_more es e whole.1 is)

pub text_more : (es : List Event) (e : Event) (text rest others : List ℕ) → text ≡ text_of es ++ rest → rest ≡ e.line ++ 10 ∷ others → text ≡ text_of (es ++ e ∷ []) ++ others
text_more es e text rest others is line =
    is ∙ ap (λ r. text_of es ++ r) line ∙ ap (λ r. text_of es ++ r) (sym (append_assoc e.line (10 ∷ []) others)) ∙ sym (append_assoc (text_of es) (e.line ++ 10 ∷ []) others)
    ∙ ap (λ t. t ++ others) (flat_map_more (λ (x : Event). x.line ++ 10 ∷ []) [] es e)

none_here : (c : ℕ) (cs : List ℕ) → HasNoNewline (c ∷ cs) → c ≢ 10
none_here c cs isnt = isnt 0 (omega arith)

none_after : (c : ℕ) (cs : List ℕ) → HasNoNewline (c ∷ cs) → HasNoNewline cs
none_after c cs isnt i l = isnt (suc i) (omega arith)

-- the first newline is at one offset
pub same_line : (a b more others : List ℕ) → HasNoNewline a → HasNoNewline b → a ++ 10 ∷ more ≡ b ++ 10 ∷ others → a ≡ b
same_line [] [] more others na nb same = refl
same_line [] (c ∷ b) more others na nb same = let e : 10 ≡ c = cc in absurd (none_here c b nb (sym e))
same_line (c ∷ a) [] more others na nb same = let e : c ≡ 10 = cc in absurd (none_here c a na e)
same_line (c ∷ a) (d ∷ b) more others na nb same =
    let e : c ≡ d = cc in
    let rest : a ++ 10 ∷ more ≡ b ++ 10 ∷ others = cc in
    let is = same_line a b more others (none_after c a na) (none_after d b nb) rest in
    cc

-- ---- the first newline

abbrev pub is_newline : ℕ → Bool
is_newline b = eqb b 10

newline_within : (line more : List ℕ) → position_or_len is_newline (line ++ 10 ∷ more) < length (line ++ 10 ∷ more)
newline_within [] more = omega arith
newline_within (c ∷ line) more =
    let l = newline_within line more in
    cond_both (not (is_newline c)) (1 + position_or_len is_newline (line ++ 10 ∷ more)) 0 (λ n. n < suc (length (line ++ 10 ∷ more))) (λ is. omega arith) (λ is. omega arith)

pub no_newline : (bytes : List ℕ) → position is_newline bytes ≡ None → (line more : List ℕ) → bytes ≢ line ++ 10 ∷ more
no_newline bytes none line more is =
    let text = line ++ 10 ∷ more in
    let there = cond-true (nat_lt (position_or_len is_newline text) (length text)) (Some (position_or_len is_newline text)) None (lt-ltb (position_or_len is_newline text) (length text) (newline_within line more)) in
    none-some (position_or_len is_newline text) (sym none ∙ ap (position is_newline) is ∙ there)

pub at_newline : (bytes : List ℕ) (end : ℕ) → position is_newline bytes ≡ Some end → (bytes ≡ take end bytes ++ 10 ∷ drop (end + 1) bytes) × HasNoNewline (take end bytes)
at_newline bytes end is =
    let found = position-Some is_newline bytes end 0 is in
    let here : get_or bytes end 0 ≡ 10 = eqb-true (get_or bytes end 0) 10 found.1 in (
      sym (take-append-drop end bytes) ∙ ap (λ rest. take end bytes ++ rest) (drop_more bytes end 0 found.0 ∙ ap (λ b. b ∷ drop (end + 1) bytes) here),
      (λ i l e. let before : i < end = omega (arith, length-take end bytes) in
          eqb-false (get_or bytes i 0) 10 (found.2 i before) (sym (get_or-take end bytes i 0 before) ∙ e)),
    )

abbrev pub IsFirstLine : List ℕ → Option (Bor (List ℕ) × Bor (List ℕ)) → Type 0
IsFirstLine bytes found =
    MatchOption found ((line more : List ℕ) → bytes ≢ line ++ 10 ∷ more) (λ (parts : Bor (List ℕ) × Bor (List ℕ)). (bytes ≡ parts.0.now ++ 10 ∷ parts.1.now) × HasNoNewline parts.0.now)

pub no_first_line : (bytes : List ℕ) (found : Option (Bor (List ℕ) × Bor (List ℕ))) → found ≡ None → None ≡ position is_newline bytes → IsFirstLine bytes found
no_first_line bytes found is none = subst (IsFirstLine bytes) (sym is) (no_newline bytes (sym none))

-- ---- the loop over the lines

module _ (text rest : List ℕ) (lines : List TraceLine) (whole : AreWhole (events_of lines)) (is : text ≡ text_of (events_of lines) ++ rest) where
  abbrev pub has_none : Type 0
  has_none = (line more : List ℕ) → rest ≢ line ++ 10 ∷ more

  pub broken_here : rest ≢ [] → ((e : Event) (more : List ℕ) → IsWhole e → rest ≢ e.line ++ 10 ∷ more) → IsBrokenAt text (length lines + 1)
  broken_here some isnt = (events_of lines, rest, whole, is, ap (λ n. n + 1) (length-map lines event_of), some, isnt)

  module _ (line others : List ℕ) (first : rest ≡ line ++ 10 ∷ others) (single : HasNoNewline line) where
    pub other_line : ((e : Event) → IsUtf8 e.line → IsEventLine e → e.line ≢ line) → (e : Event) (more : List ℕ) → IsWhole e → rest ≢ e.line ++ 10 ∷ more
    other_line isnt e more whole same = isnt e whole.1 whole.0 (same_line e.line line more others whole.2 single (sym same ∙ first))

    pub next_text : (found : TraceLine) (after : List TraceLine) → found.line.now ≡ line → after ≡ lines ++ found ∷ [] → text ≡ text_of (events_of after) ++ others
    next_text found after same more =
        text_more (events_of lines) (event_of found) text rest others is (first ∙ ap (λ l. l ++ 10 ∷ others) (sym same))
        ∙ ap (λ es. text_of es ++ others) (sym (map_push event_of lines found) ∙ ap events_of (sym more))

    pub next_whole : (found : TraceLine) (after : List TraceLine) → found.line.now ≡ line → after ≡ lines ++ found ∷ [] → IsEventLine (event_of found) → IsUtf8 found.line.now → AreWhole (events_of after)
    next_whole found after same more event utf8 =
        subst AreWhole (sym (map_push event_of lines found) ∙ ap events_of (sym more))
        (whole_more (events_of lines) (event_of found) whole (event, utf8, subst HasNoNewline (sym same) single))

  pub no_more : rest ≡ [] → IsTrace text (events_of lines)
  no_more nothing = (whole, is ∙ ap (λ r. text_of (events_of lines) ++ r) nothing ∙ append-nil (text_of (events_of lines)))
