-- Simple statements: what is spelt is read, and what is read is spelt so.
use Rattle.std.proofs.Common.{◌≡◌, ℕ, zero, suc, ◌<◌, ◌≤◌, Bool, true, false, cond, ◌&&◌, Option, Some, None, max, List, [], ◌∷◌, length, Ok, Err, inl, inr, refl, sym, ap, ◌∙◌, subst, arith, bytes_eq, codes, nat_le, IsTrue}
use Rattle.scanner.specs.declared.kind.TokenKind.{TokenKind}
use Rattle.scanner.specs.declared.kind.TokenKind.TheVariants as kinds
use Rattle.syntax.specs.declared.node.BinaryOperator.{BinaryOperator}
use Rattle.syntax.specs.Tree.{Expression, Arguments, Place, Part, Value, Text as TextPart, Simple, CallAlone, Close, Print, ReceiveAlone, Send, Increment, Decrement, Assign, Define, Update}
use Rattle.syntax.specs.Measures.{Listing, Entries as EntriesLimit, entries, highest, expression_height, expression_longest, part_height, part_longest, simple_height, simple_longest}
use Rattle.parser_base.specs.Lexemes.{Lexeme, Literal, Name, Text, Mark}
use Rattle.parser_base.specs.Spelling.{makes_value, is_builtin, following, separated, joined, closing, before, AreAll, AreSome, IsTrailing, outer_precedence, precedence, IsGrouped}
use Rattle.parser_base.specs.Reading.{Syntax, TooDeep, TooMany, Reading, ◌>>=◌, as_one, needing, is_kind, expect, begins, step_at, entry_next, expression, argument, listed}
use Rattle.parser_base.proofs.Marks.{bind_ok, when_ok, ok_is, kind_is, expect_is, expect_again, plain_name_again, bytes_are}
use Rattle.parser_base.proofs.ListLaws.{AreFew, entries-le, ReadBack, Found, High, Entries, IsReadAgain, Separates, listed_again, all_again, IsEntry, ReadsSoundly, listed_sound}
use Rattle.parser_base.proofs.ExpressionAgain.{EndsExpression, shut, none_above, height_positive, parenthesis_closes, comma_ends, closing_ends, begins_again, ending_again, more_entries}
use Rattle.parser_base.proofs.ExpressionSound.{entry_more_sound, entry_end_sound}
use Rattle.parser_base.proofs.Steps.{then_again, made_again, read_as, needing_again, needing_ok, listed_outcome, gave, Sound, made_is, either}
use Rattle.parser_base.proofs.Resumed.{Begun, begun}
use Rattle.parser_simple.specs.declared.form.Form.{Form}
use Rattle.parser_simple.specs.declared.form.Form.TheVariants as forms
use Rattle.parser_simple.specs.Spelling.{name_words, IsName, place_words, IsPlace, IsPrimary, IsUnary, arguments_words, right_words, IsRight, part_words, IsPart, print_name, update_kind, simple_words, IsSimple}
use Rattle.parser_simple.specs.Reading.{after_mark, before_mark, begins_with, begins_call, defines, form_of, names, place, places, after_place, received, primary, right, begins_part, part, parts, print, builtin_call, assigned, defined, stepped, updated, formed, led, send_operand, sent, led_or_sent, called, simple, fits}
use Rattle.parser_simple.proofs.PlaceLaws.{names_again, names_sound, place_again, place_sound, places_again, places_sound}
use Rattle.parser_simple.proofs.FormLaws.{update_again, update_shut, update_no_field, form_strong, plain_makes_none, fields_shut, led_formed, defines_names, no_defines, no_form, led_none}
use Rattle.parser_simple.proofs.FitLaws.{fits_again, operand_fits}
use Rattle.parser_simple.proofs.RightLaws.{Stops, ends_at, ExpressionOutcome, PrimarySound, value_again, primary_again, received_again, arguments_again, argument_again, right_again, right_positive, value_sound, primary_sound, received_sound, argument_sound, right_sound}
use Rattle.parser_simple.proofs.CallLaws.{no_call, Starts, WithCall, WithReceive, WithNeither, starts, sends_by_call, called_sound}

-- ---- arguments of print and println

part_value : (literals : Bool) (most depth_left : ℕ) (ws : List Lexeme) → begins ws ≡ true → part literals most (suc depth_left) ws ≡ as_one Value (expression literals most (suc depth_left) 0 ws)
unfolding part begins
part_value literals most depth_left [] is = absurd cc
part_value literals most depth_left (Literal value ∷ ws) is = refl
part_value literals most depth_left (Name name ∷ ws) is = refl
part_value literals most depth_left (Text bytes ∷ ws) is = absurd cc
part_value literals most depth_left (Mark kind ∷ ws) is = refl

begins_value : (ws : List Lexeme) → begins ws ≡ true → begins_part ws ≡ true
unfolding begins_part begins
begins_value [] is = absurd cc
begins_value (Literal value ∷ ws) is = refl
begins_value (Name name ∷ ws) is = is
begins_value (Text bytes ∷ ws) is = refl
begins_value (Mark kind ∷ ws) is = is

part_begins : (literals : Bool) (p : Part) (rest : List Lexeme) → IsPart literals p → begins_part (part_words p rest) ≡ true
unfolding begins_part
part_begins literals (Value v) rest is = begins_value (before v rest) (begins_again literals v rest is)
part_begins literals (TextPart bytes) rest is = refl

abbrev listed_parts : (literals : Bool) (most depth_left : ℕ) → Entries Part
listed_parts literals most depth_left = record {
  one = part literals most depth_left;
  next = entry_next kinds.Comma begins_part kinds.RightParenthesis;
  each = part_words;
  separator = following kinds.Comma;
  ending = closing kinds.Comma kinds.RightParenthesis;
  height = part_height;
  longest = part_longest;
  depth_left = depth_left;
  most = most;
  IsOne = IsPart literals;
}

part_positive : (p : Part) → 1 ≤ part_height p
part_positive (Value v) = height_positive v
part_positive (TextPart bytes) = omega arith

part_again : (literals : Bool) (most depth_left : ℕ) (p : Part) → IsPart literals p → IsReadAgain (listed_parts literals most depth_left) (EndsExpression literals) p
unfolding part
part_again literals most zero p is rest ends = High (part_positive p) refl
part_again literals most (suc depth_left) (TextPart bytes) is rest ends = Found (omega arith) (λ listing. omega arith) refl
part_again literals most (suc depth_left) (Value v) is rest ends =
    rw (part_value literals most depth_left (before v rest) (begins_again literals v rest is))
    (made_again Value (value_again literals most (suc depth_left) v rest is ends) (λ high. high) (λ low. low) (λ listing. refl))

no_part : (rest : List Lexeme) → begins_part (Mark kinds.RightParenthesis ∷ rest) ≡ false
unfolding begins_part begins
no_part rest = refl

parts_separate : (literals : Bool) (most depth_left : ℕ) (trailing : Bool) (rest : List Lexeme) → Separates (listed_parts literals most depth_left) (EndsExpression literals) trailing rest
parts_separate literals most depth_left trailing rest = record {
  separator = λ p words one. comma_ends literals (part_words p words);
  more = λ p words one. more_entries kinds.Comma begins_part kinds.RightParenthesis (part_words p words) (part_begins literals p words one);
  ending = closing_ends literals kinds.RightParenthesis trailing rest parenthesis_closes;
  end = ending_again kinds.Comma begins_part kinds.RightParenthesis trailing rest refl (no_part rest);
}

parts_again : (literals : Bool) (most depth_left : ℕ) (ps : List Part) (trailing : Bool) (rest : List Lexeme) → AreAll (IsPart literals) ps → IsTrailing ps trailing
    → ReadBack (parts literals most depth_left (joined part_words (following kinds.Comma) ps (closing kinds.Comma kinds.RightParenthesis trailing rest))) (ps, trailing) rest (highest part_height ps) depth_left
    (λ listing. max (entries listing (length ps)) (highest (part_longest listing) ps)) most
unfolding parts expect
parts_again literals most depth_left [] true rest all last = absurd cc
parts_again literals most depth_left [] false rest all last = Found (omega arith) (λ listing. omega (arith, entries-le listing 0)) (rw (no_part rest) refl)
parts_again literals most depth_left (p ∷ ps) trailing rest all last =
    let l = listed_parts literals most depth_left in
    let each = all_again (IsPart literals) (IsReadAgain l (EndsExpression literals)) (part_again literals most depth_left) (p ∷ ps) all in
    rw (part_begins literals p (separated part_words (following kinds.Comma) ps (closing kinds.Comma kinds.RightParenthesis trailing rest)) all.0)
    (listed_outcome (listed_again l (EndsExpression literals) trailing rest (TooMany EntriesLimit) (parts_separate literals most depth_left trailing rest) ps most p all each))

-- ---- each form

abbrev pub SimpleOutcome : (most depth_left : ℕ) → Reading Simple → Simple → List Lexeme → Type 0
SimpleOutcome most depth_left read s rest = ReadBack read s rest (simple_height s) depth_left (λ listing. simple_longest listing s) most

print_again : (line literals : Bool) (most depth_left : ℕ) (ps : List Part) (trailing : Bool) (rest : List Lexeme) → AreAll (IsPart literals) ps → IsTrailing ps trailing
    → SimpleOutcome most depth_left (print line literals most depth_left (Mark kinds.LeftParenthesis ∷ joined part_words (following kinds.Comma) ps (closing kinds.Comma kinds.RightParenthesis trailing rest))) (Print line ps trailing) rest
unfolding print expect
print_again line literals most depth_left ps trailing rest all last =
    then_again _ (parts_again literals most depth_left ps trailing rest all last) (λ high. high) (λ listing. omega arith) (λ low few. Found low few refl)

assigned_again : (literals : Bool) (most depth_left : ℕ) (p : Place) (ps : List Place) (r : List Expression) (rest : List Lexeme) → AreAll IsPlace (p ∷ ps) → IsRight literals r → Stops literals rest
    → SimpleOutcome most depth_left (assigned literals most depth_left (simple_words (Assign (p ∷ ps) r) rest)) (Assign (p ∷ ps) r) rest
unfolding assigned expect begins_with
assigned_again literals most depth_left p ps r rest all is stops =
    then_again _ (places_again most p ps (Mark kinds.Assign ∷ right_words r rest) all refl refl) (λ high. omega arith) (λ listing. omega arith) (λ low few.
    then_again _ (right_again literals most depth_left r rest is stops) (λ high. high) (λ listing. omega arith) (λ low' few'.
    Found low' (λ listing. omega (arith, few listing, few' listing)) refl))

defined_again : (literals : Bool) (most depth_left : ℕ) (n : List ℕ) (ns : List (List ℕ)) (r : List Expression) (rest : List Lexeme) → AreAll IsName (n ∷ ns) → IsRight literals r → Stops literals rest
    → SimpleOutcome most depth_left (defined literals most depth_left (simple_words (Define (n ∷ ns) r) rest)) (Define (n ∷ ns) r) rest
unfolding defined expect begins_with
defined_again literals most depth_left n ns r rest all is stops =
    then_again _ (names_again kinds.Comma most n ns (Mark kinds.Define ∷ right_words r rest) all refl) (λ high. omega arith) (λ listing. omega arith) (λ low few.
    then_again _ (right_again literals most depth_left r rest is stops) (λ high. high) (λ listing. omega arith) (λ low' few'.
    Found low' (λ listing. omega (arith, few listing, few' listing)) refl))

no_field_update : (o : BinaryOperator) (ws : List Lexeme) → begins_with kinds.Period (Mark (update_kind o) ∷ ws) ≡ false
unfolding begins_with
no_field_update o ws = update_no_field o

updated_again : (literals : Bool) (most depth_left : ℕ) (p : Place) (o : BinaryOperator) (v : Expression) (rest : List Lexeme) → IsPlace p → IsGrouped literals v → Stops literals rest
    → SimpleOutcome most depth_left (updated literals most depth_left o (simple_words (Update p o v) rest)) (Update p o v) rest
unfolding updated
updated_again literals most depth_left p o v rest is grouped stops =
    rw (place_again p (Mark (update_kind o) ∷ before v rest) is (no_field_update o (before v rest)), expect_again (update_kind o) (before v rest))
    (then_again _ (value_again literals most depth_left v rest grouped stops.ends) (λ high. high) (λ listing. omega arith) (λ low few. Found low few refl))

arrow_ends : (literals : Bool) (ws : List Lexeme) → EndsExpression literals (Mark kinds.Arrow ∷ ws)
unfolding step_at
arrow_ends literals ws = record { none = refl; shut = shut literals kinds.Arrow ws refl refl }

send_operand_again : (literals : Bool) (most depth_left : ℕ) (c : Expression) (ws : List Lexeme) → IsPrimary literals c → ExpressionOutcome literals most depth_left (send_operand literals most depth_left (before c (Mark kinds.Arrow ∷ ws))) c (Mark kinds.Arrow ∷ ws)
unfolding send_operand
send_operand_again literals most depth_left c ws is =
    fits_again _ _ (operand_fits false literals depth_left c ws is.0 is.1) (λ high. high) (primary_again literals most depth_left c (Mark kinds.Arrow ∷ ws) is (arrow_ends literals ws))

-- a send, as any of what is made of one
pub sent_again : {A : Type 0} (make : Expression → Expression → A) (literals : Bool) (most depth_left : ℕ) (c v : Expression) (rest : List Lexeme) → IsPrimary literals c → IsGrouped literals v → EndsExpression literals rest
    → ReadBack (sent make literals most depth_left (before c (Mark kinds.Arrow ∷ before v rest))) (make c v) rest (max (expression_height c) (expression_height v)) depth_left (λ listing. max (expression_longest listing c) (expression_longest listing v)) most
unfolding sent expect
sent_again make literals most depth_left c v rest is grouped ends =
    then_again _ (send_operand_again literals most depth_left c (before v rest) is) (λ high. omega arith) (λ listing. omega arith) (λ low few.
    then_again _ (value_again literals most depth_left v rest grouped ends) (λ high. omega arith) (λ listing. omega arith) (λ low' few'.
    Found (omega arith) (λ listing. omega (arith, few listing, few' listing)) refl))

-- ---- all but sends

abbrev LedOutcome : (most depth_left : ℕ) → Reading (Option Simple) → Simple → List Lexeme → Type 0
LedOutcome most depth_left read s rest = ReadBack read (Some s) rest (simple_height s) depth_left (λ listing. simple_longest listing s) most

some_again : (most depth_left : ℕ) (read : Reading Simple) (s : Simple) (rest : List Lexeme) → SimpleOutcome most depth_left read s rest → LedOutcome most depth_left (as_one (λ (x : Simple). Some x) read) s rest
some_again most depth_left read s rest again = made_again (λ (x : Simple). Some x) again (λ high. high) (λ low. low) (λ listing. refl)

led_print : (line literals defining : Bool) (most depth_left : ℕ) (ps : List Part) (trailing : Bool) (rest : List Lexeme) → AreAll (IsPart literals) ps → IsTrailing ps trailing
    → LedOutcome most depth_left (led literals defining most depth_left (simple_words (Print line ps trailing) rest)) (Print line ps trailing) rest
unfolding led builtin_call
led_print true literals defining most depth_left ps trailing rest all last = some_again most depth_left _ (Print true ps trailing) rest (print_again true literals most depth_left ps trailing rest all last)
led_print false literals defining most depth_left ps trailing rest all last = some_again most depth_left _ (Print false ps trailing) rest (print_again false literals most depth_left ps trailing rest all last)

led_close : (literals defining : Bool) (most depth_left : ℕ) (c : Expression) (rest : List Lexeme) → IsGrouped literals c → LedOutcome most depth_left (led literals defining most depth_left (simple_words (Close c) rest)) (Close c) rest
unfolding led builtin_call
led_close literals defining most depth_left c rest is =
    some_again most depth_left _ (Close c) rest (needing_again 1 depth_left (λ none. omega (arith, none, height_positive c)) (made_again Close (argument_again literals most depth_left c rest is) (λ high. high) (λ low. low) (λ listing. refl)))

led_increment : (literals defining : Bool) (most depth_left : ℕ) (p : Place) (rest : List Lexeme) → IsPlace p → LedOutcome most depth_left (led literals defining most depth_left (simple_words (Increment p) rest)) (Increment p) rest
unfolding formed form_of stepped begins_with expect
led_increment literals defining most depth_left p rest is =
    rw (led_formed literals defining most depth_left p (Mark kinds.Increment ∷ rest) is, place_again p (Mark kinds.Increment ∷ rest) is refl) (Found (omega arith) (λ listing. omega arith) refl)

led_decrement : (literals defining : Bool) (most depth_left : ℕ) (p : Place) (rest : List Lexeme) → IsPlace p → LedOutcome most depth_left (led literals defining most depth_left (simple_words (Decrement p) rest)) (Decrement p) rest
unfolding formed form_of stepped begins_with expect
led_decrement literals defining most depth_left p rest is =
    rw (led_formed literals defining most depth_left p (Mark kinds.Decrement ∷ rest) is, place_again p (Mark kinds.Decrement ∷ rest) is refl) (Found (omega arith) (λ listing. omega arith) refl)

shut_update : (o : BinaryOperator) (ws : List Lexeme) → begins_with kinds.LeftParenthesis (Mark (update_kind o) ∷ ws) ≡ false
unfolding begins_with
shut_update o ws = update_shut o

led_update : (literals defining : Bool) (most depth_left : ℕ) (p : Place) (o : BinaryOperator) (v : Expression) (rest : List Lexeme) → IsPlace p → 4 ≤ precedence o → IsGrouped literals v → Stops literals rest
    → LedOutcome most depth_left (led literals defining most depth_left (simple_words (Update p o v) rest)) (Update p o v) rest
unfolding formed
led_update literals defining most depth_left p o v rest is strong grouped stops =
    rw (led_formed literals defining most depth_left p (Mark (update_kind o) ∷ before v rest) is, update_again o (before v rest) strong)
    (some_again most depth_left _ (Update p o v) rest (updated_again literals most depth_left p o v rest is grouped stops))

-- there is a level left after the first lvalue of what is found
after_place_again : {A : Type 0} (p : Place) (after : List Lexeme) {read : Reading A} {x : A} {rest : List Lexeme} {height depth_left : ℕ} {longest : Listing → ℕ} {most : ℕ} → IsPlace p → begins_with kinds.Period after ≡ false → (depth_left < 1 → depth_left < height)
    → ReadBack read x rest height depth_left longest most → ReadBack (after_place depth_left (place_words p after) read) x rest height depth_left longest most
after_place_again p after {depth_left = depth_left} is none high again = rw (place_again p after is none) (needing_again 1 depth_left high again)

after_place_ok : {A : Type 0} (depth_left : ℕ) (ws : List Lexeme) (read : Reading A) (found : A × List Lexeme) → after_place depth_left ws read ≡ Ok found → read ≡ Ok found
after_place_ok depth_left ws read found e =
    elim (either (nat_le 1 depth_left) read (place ws >>= λ target. Err TooDeep) found e) [
      | inl enough ↦ enough.1
      | inr none ↦ let a = bind_ok (place ws) (λ target. Err TooDeep) found none.1 in absurd cc
    ]

choose_second : {A : Type 0} (a b : Bool) (first second : A) → b ≡ false → cond (a && b) first second ≡ second
choose_second true b first second is = rw is refl
choose_second false b first second is = refl

led_assign : (literals defining : Bool) (most depth_left : ℕ) (p : Place) (ps : List Place) (r : List Expression) (rest : List Lexeme) → AreAll IsPlace (p ∷ ps) → IsRight literals r → Stops literals rest
    → LedOutcome most depth_left (led literals defining most depth_left (simple_words (Assign (p ∷ ps) r) rest)) (Assign (p ∷ ps) r) rest
unfolding formed form_of begins_with
led_assign literals defining most depth_left p [] r rest all is stops =
    rw (led_formed literals defining most depth_left p (Mark kinds.Assign ∷ right_words r rest) all.0)
    (some_again most depth_left _ (Assign (p ∷ []) r) rest (assigned_again literals most depth_left p [] r rest all is stops))
led_assign literals defining most depth_left p (q ∷ ps) r rest all is stops =
    rw (
      led_formed literals defining most depth_left p (Mark kinds.Comma ∷ joined place_words (following kinds.Comma) (q ∷ ps) (Mark kinds.Assign ∷ right_words r rest)) all.0,
      choose_second defining _ (defined literals most depth_left (simple_words (Assign (p ∷ q ∷ ps) r) rest)) (assigned literals most depth_left (simple_words (Assign (p ∷ q ∷ ps) r) rest)) (no_defines p (q ∷ ps) (right_words r rest)),
    )
    (after_place_again p (Mark kinds.Comma ∷ joined place_words (following kinds.Comma) (q ∷ ps) (Mark kinds.Assign ∷ right_words r rest)) all.0 refl (λ none. omega (arith, none, right_positive literals r is))
    (some_again most depth_left _ (Assign (p ∷ q ∷ ps) r) rest (assigned_again literals most depth_left p (q ∷ ps) r rest all is stops)))

choose_first : {A : Type 0} (a b : Bool) (first second : A) → a ≡ true → b ≡ true → cond (a && b) first second ≡ first
choose_first true b first second yes' is = rw is refl
choose_first false b first second yes' is = absurd cc

led_named : (literals defining : Bool) (most depth_left : ℕ) (n : List ℕ) (ws : List Lexeme) → IsName n
    → led literals defining most depth_left (Name n ∷ ws) ≡ formed literals defining most depth_left (form_of false ws) (Name n ∷ ws)
unfolding led form_of
led_named literals defining most depth_left n ws is = rw (is, plain_makes_none n is) refl

led_define : (literals defining : Bool) (most depth_left : ℕ) (n : List ℕ) (ns : List (List ℕ)) (r : List Expression) (rest : List Lexeme) → defining ≡ true → AreAll IsName (n ∷ ns) → IsRight literals r → Stops literals rest
    → LedOutcome most depth_left (led literals defining most depth_left (simple_words (Define (n ∷ ns) r) rest)) (Define (n ∷ ns) r) rest
unfolding formed form_of begins_with
led_define literals defining most depth_left n [] r rest is_defining all is stops =
    rw (
      led_named literals defining most depth_left n (Mark kinds.Define ∷ right_words r rest) all.0,
      choose_first defining _ (defined literals most depth_left (simple_words (Define (n ∷ []) r) rest)) (assigned literals most depth_left (simple_words (Define (n ∷ []) r) rest)) is_defining (defines_names n [] (right_words r rest)),
    )
    (some_again most depth_left _ (Define (n ∷ []) r) rest (defined_again literals most depth_left n [] r rest all is stops))
led_define literals defining most depth_left n (m ∷ ns) r rest is_defining all is stops =
    rw (
      led_named literals defining most depth_left n (Mark kinds.Comma ∷ joined name_words (following kinds.Comma) (m ∷ ns) (Mark kinds.Define ∷ right_words r rest)) all.0,
      choose_first defining _ (defined literals most depth_left (simple_words (Define (n ∷ m ∷ ns) r) rest)) (assigned literals most depth_left (simple_words (Define (n ∷ m ∷ ns) r) rest)) is_defining (defines_names n (m ∷ ns) (right_words r rest)),
    )
    (after_place_again (record { name = n; fields = [] }) (Mark kinds.Comma ∷ joined name_words (following kinds.Comma) (m ∷ ns) (Mark kinds.Define ∷ right_words r rest)) (all.0, tt) refl (λ none. omega (arith, none, right_positive literals r is))
    (some_again most depth_left _ (Define (n ∷ m ∷ ns) r) rest (defined_again literals most depth_left n (m ∷ ns) r rest all is stops)))

-- what begins with an lvalue or a name of its own
abbrev pub is_led : Simple → Bool
is_led (CallAlone f all) = false
is_led (ReceiveAlone c) = false
is_led (Send c v) = false
is_led s = true

-- what is spelt is read, if `is_led` is true of it
pub led_again : (literals defining : Bool) (most depth_left : ℕ) (s : Simple) (rest : List Lexeme) → IsSimple literals defining s → is_led s ≡ true → Stops literals rest
    → LedOutcome most depth_left (led literals defining most depth_left (simple_words s rest)) s rest
led_again literals defining most depth_left (CallAlone f all) rest is begins stops = absurd cc
led_again literals defining most depth_left (Close c) rest is begins stops = led_close literals defining most depth_left c rest is
led_again literals defining most depth_left (Print line ps trailing) rest is begins stops = led_print line literals defining most depth_left ps trailing rest is.0 is.1
led_again literals defining most depth_left (ReceiveAlone c) rest is begins stops = absurd cc
led_again literals defining most depth_left (Send c v) rest is begins stops = absurd cc
led_again literals defining most depth_left (Increment p) rest is begins stops = led_increment literals defining most depth_left p rest is
led_again literals defining most depth_left (Decrement p) rest is begins stops = led_decrement literals defining most depth_left p rest is
led_again literals defining most depth_left (Assign [] r) rest is begins stops = absurd is.0
led_again literals defining most depth_left (Assign (p ∷ ps) r) rest is begins stops = led_assign literals defining most depth_left p ps r rest is.0 is.1 stops
led_again literals defining most depth_left (Define [] r) rest is begins stops = absurd is.1
led_again literals defining most depth_left (Define (n ∷ ns) r) rest is begins stops = led_define literals defining most depth_left n ns r rest is.0 is.1 is.2 stops
led_again literals defining most depth_left (Update p o v) rest is begins stops = led_update literals defining most depth_left p o v rest is.0 is.1 is.2 stops

-- neither a receive nor a call comes next
pub record BeginsOther (ws : List Lexeme) : Type 0 where
  pub receive : begins_with kinds.Arrow ws ≡ false
  pub call : begins_call ws ≡ false

begins_place : (p : Place) (ws : List Lexeme) → begins_with kinds.LeftParenthesis ws ≡ false → BeginsOther (place_words p ws)
unfolding begins_with
begins_place p ws none = record { receive = refl; call = no_call p.name _ (fields_shut p.fields ws none) }

begins_builtin : (name : List ℕ) (ws : List Lexeme) → is_builtin name ≡ true → BeginsOther (Name name ∷ ws)
unfolding begins_with begins_call
begins_builtin name ws is = record { receive = refl; call = rw is refl }

begins_name : (name : List ℕ) (ws : List Lexeme) → begins_with kinds.LeftParenthesis ws ≡ false → BeginsOther (Name name ∷ ws)
unfolding begins_with
begins_name name ws none = record { receive = refl; call = no_call name ws none }

pub led_begins : (literals defining : Bool) (s : Simple) (rest : List Lexeme) → IsSimple literals defining s → is_led s ≡ true → BeginsOther (simple_words s rest)
unfolding begins_with
led_begins literals defining (CallAlone f all) rest is led' = absurd cc
led_begins literals defining (Close c) rest is led' = begins_builtin _ _ refl
led_begins literals defining (Print true ps trailing) rest is led' = begins_builtin _ _ refl
led_begins literals defining (Print false ps trailing) rest is led' = begins_builtin _ _ refl
led_begins literals defining (ReceiveAlone c) rest is led' = absurd cc
led_begins literals defining (Send c v) rest is led' = absurd cc
led_begins literals defining (Increment p) rest is led' = begins_place p (Mark kinds.Increment ∷ rest) refl
led_begins literals defining (Decrement p) rest is led' = begins_place p (Mark kinds.Decrement ∷ rest) refl
led_begins literals defining (Assign [] r) rest is led' = absurd is.0
led_begins literals defining (Assign (p ∷ []) r) rest is led' = begins_place p _ refl
led_begins literals defining (Assign (p ∷ q ∷ ps) r) rest is led' = begins_place p _ refl
led_begins literals defining (Define [] r) rest is led' = absurd is.1
led_begins literals defining (Define (n ∷ []) r) rest is led' = begins_name n _ refl
led_begins literals defining (Define (n ∷ m ∷ ns) r) rest is led' = begins_name n _ refl
led_begins literals defining (Update p o v) rest is led' = begins_place p (Mark (update_kind o) ∷ before v rest) (shut_update o (before v rest))

-- what begins with neither is read by what it begins with
pub simple_other : (literals defining : Bool) (most depth_left : ℕ) (ws : List Lexeme) → BeginsOther ws → simple literals defining most depth_left ws ≡ (led literals defining most depth_left ws >>= led_or_sent literals most depth_left)
unfolding simple
simple_other literals defining most depth_left ws other = rw (other.receive, other.call) refl

found_again : (literals defining : Bool) (most depth_left : ℕ) (s : Simple) (rest : List Lexeme) → IsSimple literals defining s → is_led s ≡ true → Stops literals rest → SimpleOutcome most depth_left (simple literals defining most depth_left (simple_words s rest)) s rest
found_again literals defining most depth_left s rest is begins stops =
    read_as (simple_other literals defining most depth_left (simple_words s rest) (led_begins literals defining s rest is begins))
    (then_again _ (led_again literals defining most depth_left s rest is begins stops) (λ high. high) (λ listing. omega arith) (λ low few. Found low few refl))

receive_again : (literals defining : Bool) (most depth_left : ℕ) (c : Expression) (rest : List Lexeme) → IsUnary literals c → Stops literals rest → SimpleOutcome most depth_left (simple literals defining most depth_left (simple_words (ReceiveAlone c) rest)) (ReceiveAlone c) rest
unfolding simple begins_with
receive_again literals defining most depth_left c rest is stops =
    made_again ReceiveAlone (received_again literals most depth_left c rest is (ends_at literals 6 rest stops.ends)) (λ high. high) (λ low. low) (λ listing. refl)

no_period : (kind : TokenKind) (rest : List Lexeme) (b : Bool) → is_kind kind kinds.Period ≡ b → step_at 0 (Mark kind ∷ rest) ≡ None → b ≡ false
unfolding step_at
no_period kind rest true is none = let bad = rw (kind_is kind kinds.Period is) at none in absurd cc
no_period kind rest false is none = refl

-- no selection goes on if nothing does
no_more : (literals : Bool) (rest : List Lexeme) → EndsExpression literals rest → begins_with kinds.Period rest ≡ false
unfolding begins_with step_at
no_more literals [] ends = refl
no_more literals (Literal value ∷ rest) ends = refl
no_more literals (Name name ∷ rest) ends = refl
no_more literals (Text bytes ∷ rest) ends = refl
no_more literals (Mark kind ∷ rest) ends = no_period kind rest (is_kind kind kinds.Period) refl ends.none

call_again : (literals defining : Bool) (most depth_left : ℕ) (f : List ℕ) (all : Arguments) (rest : List Lexeme) → IsSimple literals defining (CallAlone f all) → Stops literals rest
    → SimpleOutcome most depth_left (simple literals defining most depth_left (simple_words (CallAlone f all) rest)) (CallAlone f all) rest
unfolding simple begins_with begins_call called
call_again literals defining most depth_left f all rest is stops =
    rw (is.0, plain_name_again f (arguments_words all rest) is.0)
    (then_again _ (arguments_again literals most depth_left all rest is.1) (λ high. high) (λ listing. omega arith) (λ low few.
    rw (no_more literals rest stops.ends, stops.arrow) (Found low few refl)))

-- a channel is no other statement
pub led_channel : (literals defining : Bool) (most depth_left : ℕ) (c : Expression) (ws : List Lexeme) → IsPrimary literals c → led literals defining most depth_left (before c (Mark kinds.Arrow ∷ ws)) ≡ Ok (None, before c (Mark kinds.Arrow ∷ ws))
unfolding form_of
led_channel literals defining most depth_left c ws is =
    led_none literals defining most depth_left (before c (Mark kinds.Arrow ∷ ws)) (begins_again literals c (Mark kinds.Arrow ∷ ws) is.0) (no_form c (Mark kinds.Arrow ∷ ws) refl)

-- the channel of a send, by its first operand
pub channel_begun : (literals : Bool) (c : Expression) (ws : List Lexeme) → IsPrimary literals c → Begun literals c (Mark kinds.Arrow ∷ ws)
channel_begun literals c ws is =
    let ends = arrow_ends literals ws in
    begun literals c (Mark kinds.Arrow ∷ ws) is.0 (none_above 0 (suc (outer_precedence c)) (Mark kinds.Arrow ∷ ws) (omega arith) ends.none) ends.shut

-- what begins with a call is read as that
pub simple_called : (literals defining : Bool) (most depth_left : ℕ) (f : List ℕ) (all : Arguments) (ws : List Lexeme) → IsName f → simple literals defining most depth_left (Name f ∷ arguments_words all ws) ≡ called literals most depth_left (Name f ∷ arguments_words all ws)
unfolding simple begins_with begins_call
simple_called literals defining most depth_left f all ws plain = rw plain refl

send_begun : (literals defining : Bool) (most depth_left : ℕ) (c v : Expression) (rest : List Lexeme) → IsSimple literals defining (Send c v) → Stops literals rest → (b : Begun literals c (Mark kinds.Arrow ∷ before v rest)) → Starts literals b.first b.tail
    → SimpleOutcome most depth_left (simple literals defining most depth_left (simple_words (Send c v) rest)) (Send c v) rest
send_begun literals defining most depth_left c v rest is stops b (WithCall function all first plain are words) =
    read_as (ap (simple literals defining most depth_left) (b.parts ∙ words) ∙ simple_called literals defining most depth_left function all b.tail plain)
    (sends_by_call literals most depth_left c v rest b function all first plain are is.0 (ends_at literals 7 (Mark kinds.Arrow ∷ before v rest) (arrow_ends literals (before v rest))) is.1 stops.ends)
send_begun literals defining most depth_left c v rest is stops b (WithReceive channel first) = absurd (omega (arith, ap outer_precedence first, b.strong, is.0.1))
send_begun literals defining most depth_left c v rest is stops b (WithNeither receive call) =
    let words = before c (Mark kinds.Arrow ∷ before v rest) in
    let other : BeginsOther words = record { receive = ap (begins_with kinds.Arrow) b.parts ∙ receive; call = ap begins_call b.parts ∙ call } in
    read_as (simple_other literals defining most depth_left words other ∙ ap (λ (r : Reading (Option Simple)). r >>= led_or_sent literals most depth_left) (led_channel literals defining most depth_left c (before v rest) is.0))
    (sent_again Send literals most depth_left c v rest is.0 is.1 stops.ends)

send_again : (literals defining : Bool) (most depth_left : ℕ) (c v : Expression) (rest : List Lexeme) → IsSimple literals defining (Send c v) → Stops literals rest → SimpleOutcome most depth_left (simple literals defining most depth_left (simple_words (Send c v) rest)) (Send c v) rest
send_again literals defining most depth_left c v rest is stops =
    let b = channel_begun literals c (before v rest) is.0 in
    send_begun literals defining most depth_left c v rest is stops b (starts literals b.first b.tail b.is_first b.grouped b.is_shut)

-- what is spelt is read, or is too high, or has too long a list
pub simple_again : (literals defining : Bool) (most depth_left : ℕ) (s : Simple) (rest : List Lexeme) → IsSimple literals defining s → Stops literals rest
    → SimpleOutcome most depth_left (simple literals defining most depth_left (simple_words s rest)) s rest
simple_again literals defining most depth_left (Send c v) rest is stops = send_again literals defining most depth_left c v rest is stops
simple_again literals defining most depth_left (CallAlone f all) rest is stops = call_again literals defining most depth_left f all rest is stops
simple_again literals defining most depth_left (Close c) rest is stops = found_again literals defining most depth_left (Close c) rest is refl stops
simple_again literals defining most depth_left (Print line ps trailing) rest is stops = found_again literals defining most depth_left (Print line ps trailing) rest is refl stops
simple_again literals defining most depth_left (ReceiveAlone c) rest is stops = receive_again literals defining most depth_left c rest is stops
simple_again literals defining most depth_left (Increment p) rest is stops = found_again literals defining most depth_left (Increment p) rest is refl stops
simple_again literals defining most depth_left (Decrement p) rest is stops = found_again literals defining most depth_left (Decrement p) rest is refl stops
simple_again literals defining most depth_left (Assign ps r) rest is stops = found_again literals defining most depth_left (Assign ps r) rest is refl stops
simple_again literals defining most depth_left (Define ns r) rest is stops = found_again literals defining most depth_left (Define ns r) rest is refl stops
simple_again literals defining most depth_left (Update p o v) rest is stops = found_again literals defining most depth_left (Update p o v) rest is refl stops

-- ---- what is read is spelt so

abbrev pub SimpleSound : (literals defining : Bool) (most depth_left : ℕ) → List Lexeme → Simple → List Lexeme → Type 0
SimpleSound literals defining most depth_left = Sound simple_words (IsSimple literals defining) simple_height depth_left simple_longest most

part_value_sound : (literals : Bool) (most depth_left : ℕ) (ws : List Lexeme) (p : Part) (rest : List Lexeme) → as_one Value (expression literals most (suc depth_left) 0 ws) ≡ gave p rest → IsEntry (listed_parts literals most (suc depth_left)) ws p rest
part_value_sound literals most depth_left ws p rest e =
    let a = made_is Value (expression literals most (suc depth_left) 0 ws) p rest e in
    let v = value_sound literals most (suc depth_left) ws a.0 rest a.1 in
    subst (λ (x : Part). IsEntry (listed_parts literals most (suc depth_left)) ws x rest) a.2 (record { parts = v.parts; is = v.is; low = v.low; few = v.few })

part_sound : (literals : Bool) (most depth_left : ℕ) (ws : List Lexeme) (p : Part) (rest : List Lexeme) → part literals most depth_left ws ≡ gave p rest → IsEntry (listed_parts literals most depth_left) ws p rest
unfolding part
part_sound literals most zero ws p rest e = absurd cc
part_sound literals most (suc depth_left) (Text bytes ∷ ws) p rest e =
    subst (λ (x : Part × List Lexeme). IsEntry (listed_parts literals most (suc depth_left)) (Text bytes ∷ ws) x.0 x.1) (ok_is (TextPart bytes, ws) (p, rest) e) (record { parts = refl; is = tt; low = omega arith; few = λ listing. omega arith })
part_sound literals most (suc depth_left) [] p rest e = part_value_sound literals most depth_left [] p rest e
part_sound literals most (suc depth_left) (Literal value ∷ ws) p rest e = part_value_sound literals most depth_left (Literal value ∷ ws) p rest e
part_sound literals most (suc depth_left) (Name name ∷ ws) p rest e = part_value_sound literals most depth_left (Name name ∷ ws) p rest e
part_sound literals most (suc depth_left) (Mark kind ∷ ws) p rest e = part_value_sound literals most depth_left (Mark kind ∷ ws) p rest e

record AreParts (literals : Bool) (most depth_left : ℕ) (ws : List Lexeme) (found : (List Part × Bool) × List Lexeme) : Type 0 where
  parts : ws ≡ joined part_words (following kinds.Comma) found.0.0 (closing kinds.Comma kinds.RightParenthesis found.0.1 found.1)
  are : AreAll (IsPart literals) found.0.0
  last : IsTrailing found.0.0 found.0.1
  low : highest part_height found.0.0 ≤ depth_left
  few : AreFew (λ listing. max (entries listing (length found.0.0)) (highest (part_longest listing) found.0.0)) most

some_parts : (literals : Bool) (ps : List Part) (trailing : Bool) → AreSome (IsPart literals) ps → AreAll (IsPart literals) ps × IsTrailing ps trailing
some_parts literals [] trailing some = absurd some
some_parts literals (p ∷ ps) trailing some = (some, tt)

either_parts : (literals : Bool) (most depth_left : ℕ) (b : Bool) (ws : List Lexeme) (found : (List Part × Bool) × List Lexeme)
    → cond b (listed (part literals most depth_left) (entry_next kinds.Comma begins_part kinds.RightParenthesis) (TooMany EntriesLimit) most ws) (expect kinds.RightParenthesis ws >>= λ after. gave ([], false) after) ≡ Ok found → AreParts literals most depth_left ws found
either_parts literals most depth_left true ws found e =
    let sound : ReadsSoundly (listed_parts literals most depth_left) = record { one = part_sound literals most depth_left; more = entry_more_sound kinds.Comma begins_part kinds.RightParenthesis; end = entry_end_sound kinds.Comma begins_part kinds.RightParenthesis } in
    let s = listed_sound (listed_parts literals most depth_left) (TooMany EntriesLimit) sound most ws found e in
    let all = some_parts literals found.0.0 found.0.1 s.are in
    record { parts = s.parts; are = all.0; last = all.1; low = s.low; few = λ listing. omega (arith, s.few listing, s.count, entries-le listing (length found.0.0)) }
either_parts literals most depth_left false ws found e =
    let a = bind_ok (expect kinds.RightParenthesis ws) (λ after. gave ([], false) after) found e in
    subst (λ (x : (List Part × Bool) × List Lexeme). AreParts literals most depth_left ws x) (ok_is (([], false), a.0) found a.2) (record {
      parts = expect_is kinds.RightParenthesis ws a.0 a.1;
      are = tt;
      last = refl;
      low = omega arith;
      few = λ listing. omega (arith, entries-le listing 0);
    })

abbrev print_of : Bool → List Part × Bool → Simple
print_of line all = Print line all.0 all.1

print_sound : (line literals defining : Bool) (most depth_left : ℕ) (ws : List Lexeme) (s : Simple) (rest : List Lexeme) → print line literals most depth_left ws ≡ gave s rest → SimpleSound literals defining most depth_left (Name (print_name line) ∷ ws) s rest
unfolding print parts
print_sound line literals defining most depth_left ws s rest e =
    let a = bind_ok (expect kinds.LeftParenthesis ws) (λ inside. parts literals most depth_left inside >>= λ all. gave (print_of line all.0) all.1) (s, rest) e in
    let b = made_is (print_of line) (parts literals most depth_left a.0) s rest a.2 in
    let p = either_parts literals most depth_left (begins_part a.0) a.0 (b.0, rest) b.1 in
    subst (λ (x : Simple). SimpleSound literals defining most depth_left (Name (print_name line) ∷ ws) x rest) b.2 (record {
      parts = ap (λ (x : List Lexeme). Name (print_name line) ∷ x) (expect_is kinds.LeftParenthesis ws a.0 a.1 ∙ ap (λ (x : List Lexeme). Mark kinds.LeftParenthesis ∷ x) p.parts);
      is = (p.are, p.last);
      low = p.low;
      few = p.few;
    })

close_sound : (literals defining : Bool) (most depth_left : ℕ) (ws : List Lexeme) (s : Simple) (rest : List Lexeme) → as_one Close (argument (expression literals most depth_left) ws) ≡ gave s rest → SimpleSound literals defining most depth_left (Name (codes "close") ∷ ws) s rest
close_sound literals defining most depth_left ws s rest e =
    let a = made_is Close (argument (expression literals most depth_left) ws) s rest e in
    let v = argument_sound literals most depth_left ws a.0 rest a.1 in
    subst (λ (x : Simple). SimpleSound literals defining most depth_left (Name (codes "close") ∷ ws) x rest) a.2
    (record { parts = ap (λ (x : List Lexeme). Name (codes "close") ∷ x) v.parts; is = v.is; low = v.low; few = v.few })

builtin_call_sound : (literals defining : Bool) (most depth_left : ℕ) (name : List ℕ) (ws : List Lexeme) (s : Simple) (rest : List Lexeme) → builtin_call literals most depth_left name ws ≡ gave s rest → SimpleSound literals defining most depth_left (Name name ∷ ws) s rest
unfolding builtin_call
builtin_call_sound literals defining most depth_left name ws s rest e =
    elim (either (bytes_eq name (codes "println")) (print true literals most depth_left ws) (cond (bytes_eq name (codes "print")) (print false literals most depth_left ws) (cond (bytes_eq name (codes "close")) (needing 1 depth_left (as_one Close (argument (expression literals most depth_left) ws))) (Err Syntax))) (s, rest) e) [
      | inl p ↦ subst (λ (x : List ℕ). SimpleSound literals defining most depth_left (Name x ∷ ws) s rest) (sym (bytes_are name (codes "println") p.0)) (print_sound true literals defining most depth_left ws s rest p.1)
      | inr other ↦ elim (either (bytes_eq name (codes "print")) (print false literals most depth_left ws) (cond (bytes_eq name (codes "close")) (needing 1 depth_left (as_one Close (argument (expression literals most depth_left) ws))) (Err Syntax)) (s, rest) other.1) [
        | inl p ↦ subst (λ (x : List ℕ). SimpleSound literals defining most depth_left (Name x ∷ ws) s rest) (sym (bytes_are name (codes "print") p.0)) (print_sound false literals defining most depth_left ws s rest p.1)
        | inr neither ↦
            let w = when_ok (bytes_eq name (codes "close")) Syntax (needing 1 depth_left (as_one Close (argument (expression literals most depth_left) ws))) (s, rest) neither.1 in
            subst (λ (x : List ℕ). SimpleSound literals defining most depth_left (Name x ∷ ws) s rest) (sym (bytes_are name (codes "close") w.0)) (close_sound literals defining most depth_left ws s rest (needing_ok 1 depth_left (as_one Close (argument (expression literals most depth_left) ws)) (s, rest) w.1))
      ]
    ]

assigned_sound : (literals defining : Bool) (most depth_left : ℕ) (ws : List Lexeme) (s : Simple) (rest : List Lexeme) → assigned literals most depth_left ws ≡ gave s rest → SimpleSound literals defining most depth_left ws s rest
unfolding assigned
assigned_sound literals defining most depth_left ws s rest e =
    let a = bind_ok (places most ws) (λ all. after_mark kinds.Assign (right literals most depth_left) all.1 >>= λ value. gave (Assign all.0.0 value.0) value.1) (s, rest) e in
    let c = made_is (λ (r : List Expression). Assign a.0.0.0 r) (after_mark kinds.Assign (right literals most depth_left) a.0.1) s rest a.2 in
    let b = bind_ok (expect kinds.Assign a.0.1) (right literals most depth_left) (c.0, rest) c.1 in
    let p = places_sound most ws a.0 a.1 in
    let r = right_sound literals most depth_left b.0 c.0 rest b.2 in
    subst (λ (x : Simple). SimpleSound literals defining most depth_left ws x rest) c.2 (record {
      parts = p.parts ∙ ap (joined place_words (following kinds.Comma) a.0.0.0) (expect_is kinds.Assign a.0.1 b.0 b.1 ∙ ap (λ (x : List Lexeme). Mark kinds.Assign ∷ x) r.parts);
      is = (p.are, r.is);
      low = r.low;
      few = λ listing. omega (arith, r.few listing, p.count, entries-le listing (length a.0.0.0));
    })

defined_sound : (literals : Bool) (most depth_left : ℕ) (ws : List Lexeme) (s : Simple) (rest : List Lexeme) → defined literals most depth_left ws ≡ gave s rest → SimpleSound literals true most depth_left ws s rest
unfolding defined
defined_sound literals most depth_left ws s rest e =
    let a = bind_ok (names kinds.Comma most ws) (λ all. after_mark kinds.Define (right literals most depth_left) all.1 >>= λ value. gave (Define all.0.0 value.0) value.1) (s, rest) e in
    let c = made_is (λ (r : List Expression). Define a.0.0.0 r) (after_mark kinds.Define (right literals most depth_left) a.0.1) s rest a.2 in
    let b = bind_ok (expect kinds.Define a.0.1) (right literals most depth_left) (c.0, rest) c.1 in
    let n = names_sound kinds.Comma most ws a.0 a.1 in
    let r = right_sound literals most depth_left b.0 c.0 rest b.2 in
    subst (λ (x : Simple). SimpleSound literals true most depth_left ws x rest) c.2 (record {
      parts = n.parts ∙ ap (joined name_words (following kinds.Comma) a.0.0.0) (expect_is kinds.Define a.0.1 b.0 b.1 ∙ ap (λ (x : List Lexeme). Mark kinds.Define ∷ x) r.parts);
      is = (refl, n.are, r.is);
      low = r.low;
      few = λ listing. omega (arith, r.few listing, n.count, entries-le listing (length a.0.0.0));
    })

pub before_mark_sound : (kind : TokenKind) (ws : List Lexeme) (p : Place) (rest : List Lexeme) → before_mark kind ws ≡ gave p rest → (ws ≡ place_words p (Mark kind ∷ rest)) × IsPlace p
before_mark_sound kind ws p rest e =
    let a = bind_ok (place ws) (λ target. expect kind target.1 >>= λ after. gave target.0 after) (p, rest) e in
    let b = bind_ok (expect kind a.0.1) (λ after. gave a.0.0 after) (p, rest) a.2 in
    let t = place_sound ws a.0.0 a.0.1 a.1 in
    subst (λ (x : Place × List Lexeme). (ws ≡ place_words x.0 (Mark kind ∷ x.1)) × IsPlace x.0) (ok_is (a.0.0, b.0) (p, rest) b.2)
    (t.0 ∙ ap (place_words a.0.0) (expect_is kind a.0.1 b.0 b.1), t.1)

stepped_sound : (make : Place → Simple) (kind : TokenKind) (literals defining : Bool) (most depth_left : ℕ) → ((p : Place) (rest : List Lexeme) → place_words p (Mark kind ∷ rest) ≡ simple_words (make p) rest) → ((p : Place) → IsPlace p → IsSimple literals defining (make p))
    → ((p : Place) → simple_height (make p) ≡ 0) → ((p : Place) (listing : Listing) → simple_longest listing (make p) ≡ 0)
    → (ws : List Lexeme) (s : Simple) (rest : List Lexeme) → stepped make kind ws ≡ gave s rest → SimpleSound literals defining most depth_left ws s rest
unfolding stepped
stepped_sound make kind literals defining most depth_left words is high long ws s rest e =
    let a = made_is make (before_mark kind ws) s rest e in
    let p = before_mark_sound kind ws a.0 rest a.1 in
    subst (λ (x : Simple). SimpleSound literals defining most depth_left ws x rest) a.2 (record {
      parts = p.0 ∙ words a.0 rest;
      is = is a.0 p.1;
      low = omega (arith, high a.0);
      few = λ listing. omega (arith, long a.0 listing);
    })

updated_sound : (literals defining : Bool) (most depth_left : ℕ) (o : BinaryOperator) (ws : List Lexeme) (s : Simple) (rest : List Lexeme) → 4 ≤ precedence o → updated literals most depth_left o ws ≡ gave s rest → SimpleSound literals defining most depth_left ws s rest
unfolding updated
updated_sound literals defining most depth_left o ws s rest strong e =
    let a = bind_ok (place ws) (λ target. after_mark (update_kind o) (expression literals most depth_left 0) target.1 >>= λ value. gave (Update target.0 o value.0) value.1) (s, rest) e in
    let c = made_is (λ (v : Expression). Update a.0.0 o v) (after_mark (update_kind o) (expression literals most depth_left 0) a.0.1) s rest a.2 in
    let b = bind_ok (expect (update_kind o) a.0.1) (expression literals most depth_left 0) (c.0, rest) c.1 in
    let p = place_sound ws a.0.0 a.0.1 a.1 in
    let v = value_sound literals most depth_left b.0 c.0 rest b.2 in
    subst (λ (x : Simple). SimpleSound literals defining most depth_left ws x rest) c.2 (record {
      parts = p.0 ∙ ap (place_words a.0.0) (expect_is (update_kind o) a.0.1 b.0 b.1 ∙ ap (λ (x : List Lexeme). Mark (update_kind o) ∷ x) v.parts);
      is = (p.1, strong, v.is);
      low = v.low;
      few = v.few;
    })

send_operand_sound : (literals : Bool) (most depth_left : ℕ) (ws : List Lexeme) (c : Expression) (rest : List Lexeme) → send_operand literals most depth_left ws ≡ gave c rest → PrimarySound literals most depth_left ws c rest
unfolding send_operand
send_operand_sound literals most depth_left ws c rest e =
    let a = bind_ok (fits false literals true 0 depth_left ws) (λ low. primary literals most depth_left ws) (c, rest) e in
    primary_sound literals most depth_left ws c rest a.2

-- a send that was read, as what was made of it
pub record IsSent {A : Type 0} (make : Expression → Expression → A) (literals : Bool) (most depth_left : ℕ) (ws : List Lexeme) (x : A) (rest : List Lexeme) : Type 0 where
  pub channel : Expression
  pub value : Expression
  pub made : make channel value ≡ x
  pub parts : ws ≡ before channel (Mark kinds.Arrow ∷ before value rest)
  pub is : IsPrimary literals channel × IsGrouped literals value
  pub low : max (expression_height channel) (expression_height value) ≤ depth_left
  pub few : AreFew (λ listing. max (expression_longest listing channel) (expression_longest listing value)) most

pub sent_sound : {A : Type 0} (make : Expression → Expression → A) (literals : Bool) (most depth_left : ℕ) (ws : List Lexeme) (x : A) (rest : List Lexeme) → sent make literals most depth_left ws ≡ gave x rest → IsSent make literals most depth_left ws x rest
unfolding sent
sent_sound make literals most depth_left ws x rest e =
    let a = bind_ok (send_operand literals most depth_left ws) (λ channel. after_mark kinds.Arrow (expression literals most depth_left 0) channel.1 >>= λ value. gave (make channel.0 value.0) value.1) (x, rest) e in
    let c = made_is (make a.0.0) (after_mark kinds.Arrow (expression literals most depth_left 0) a.0.1) x rest a.2 in
    let b = bind_ok (expect kinds.Arrow a.0.1) (expression literals most depth_left 0) (c.0, rest) c.1 in
    let p = send_operand_sound literals most depth_left ws a.0.0 a.0.1 a.1 in
    let v = value_sound literals most depth_left b.0 c.0 rest b.2 in
    record {
      channel = a.0.0;
      value = c.0;
      made = c.2;
      parts = p.parts ∙ ap (before a.0.0) (expect_is kinds.Arrow a.0.1 b.0 b.1 ∙ ap (λ (y : List Lexeme). Mark kinds.Arrow ∷ y) v.parts);
      is = (p.is, v.is);
      low = omega (arith, p.low, v.low);
      few = λ listing. omega (arith, p.few listing, v.few listing);
    }

-- what was read is a statement, or nothing
abbrev pub LedSound : (literals defining : Bool) (most depth_left : ℕ) → List Lexeme → Option Simple → List Lexeme → Type 0
LedSound literals defining most depth_left ws None rest = ws ≡ rest
LedSound literals defining most depth_left ws (Some s) rest = SimpleSound literals defining most depth_left ws s rest

some_sound : (literals defining : Bool) (most depth_left : ℕ) (ws : List Lexeme) (read : Reading Simple) → ((s : Simple) (rest : List Lexeme) → read ≡ gave s rest → SimpleSound literals defining most depth_left ws s rest)
    → (found : Option Simple) (rest : List Lexeme) → as_one (λ (s : Simple). Some s) read ≡ gave found rest → LedSound literals defining most depth_left ws found rest
some_sound literals defining most depth_left ws read sound found rest e =
    let a = made_is (λ (s : Simple). Some s) read found rest e in
    subst (λ (x : Option Simple). LedSound literals defining most depth_left ws x rest) a.2 (sound a.0 rest a.1)

either_defined : (literals defining b : Bool) (most depth_left : ℕ) (ws : List Lexeme) → IsTrue defining → (s : Simple) (rest : List Lexeme) → cond b (defined literals most depth_left ws) (assigned literals most depth_left ws) ≡ gave s rest → SimpleSound literals defining most depth_left ws s rest
either_defined literals true true most depth_left ws is s rest e = defined_sound literals most depth_left ws s rest e
either_defined literals true false most depth_left ws is s rest e = assigned_sound literals true most depth_left ws s rest e
either_defined literals false b most depth_left ws is s rest e = absurd cc

list_sound : (literals defining b : Bool) (most depth_left : ℕ) (ws : List Lexeme) (s : Simple) (rest : List Lexeme) → cond (defining && b) (defined literals most depth_left ws) (assigned literals most depth_left ws) ≡ gave s rest → SimpleSound literals defining most depth_left ws s rest
list_sound literals true b most depth_left ws s rest e = either_defined literals true b most depth_left ws refl s rest e
list_sound literals false b most depth_left ws s rest e = assigned_sound literals false most depth_left ws s rest e

formed_sound : (literals defining : Bool) (most depth_left : ℕ) (form : Form) (ws : List Lexeme) (found : Option Simple) (rest : List Lexeme) → ((o : BinaryOperator) → form ≡ forms.Update o → 4 ≤ precedence o) → formed literals defining most depth_left form ws ≡ gave found rest → LedSound literals defining most depth_left ws found rest
unfolding formed
formed_sound literals defining most depth_left forms.Increment ws found rest strong e =
    some_sound literals defining most depth_left ws (stepped Increment kinds.Increment ws) (stepped_sound Increment kinds.Increment literals defining most depth_left (λ p after. refl) (λ p is. is) (λ p. refl) (λ p listing. refl) ws) found rest e
formed_sound literals defining most depth_left forms.Decrement ws found rest strong e =
    some_sound literals defining most depth_left ws (stepped Decrement kinds.Decrement ws) (stepped_sound Decrement kinds.Decrement literals defining most depth_left (λ p after. refl) (λ p is. is) (λ p. refl) (λ p listing. refl) ws) found rest e
formed_sound literals defining most depth_left (forms.Update o) ws found rest strong e =
    some_sound literals defining most depth_left ws (updated literals most depth_left o ws) (λ s after. updated_sound literals defining most depth_left o ws s after (strong o refl)) found rest e
formed_sound literals defining most depth_left (forms.Assign ranges) ws found rest strong e =
    some_sound literals defining most depth_left ws (assigned literals most depth_left ws) (assigned_sound literals defining most depth_left ws) found rest e
formed_sound literals defining most depth_left (forms.Define ranges) ws found rest strong e =
    some_sound literals defining most depth_left ws (cond (defining && defines true ws) (defined literals most depth_left ws) (assigned literals most depth_left ws)) (list_sound literals defining (defines true ws) most depth_left ws) found rest e
formed_sound literals defining most depth_left forms.List ws found rest strong e =
    let read = cond (defining && defines true ws) (defined literals most depth_left ws) (assigned literals most depth_left ws) in
    some_sound literals defining most depth_left ws read (list_sound literals defining (defines true ws) most depth_left ws) found rest (after_place_ok depth_left ws (as_one (λ (s : Simple). Some s) read) (found, rest) e)
formed_sound literals defining most depth_left forms.Other ws found rest strong e =
    subst (λ (x : Option Simple × List Lexeme). LedSound literals defining most depth_left ws x.0 x.1) (ok_is (None, ws) (found, rest) e) refl

makes_or_sound : (literals defining : Bool) (most depth_left : ℕ) (name : List ℕ) (ws : List Lexeme) (found : Option Simple) (rest : List Lexeme)
    → cond (is_builtin name) (as_one (λ (s : Simple). Some s) (builtin_call literals most depth_left name ws)) (formed literals defining most depth_left (form_of true (Name name ∷ ws)) (Name name ∷ ws)) ≡ gave found rest
    → LedSound literals defining most depth_left (Name name ∷ ws) found rest
makes_or_sound literals defining most depth_left name ws found rest e =
    elim (either (is_builtin name) (as_one (λ (s : Simple). Some s) (builtin_call literals most depth_left name ws)) (formed literals defining most depth_left (form_of true (Name name ∷ ws)) (Name name ∷ ws)) (found, rest) e) [
      | inl b ↦ some_sound literals defining most depth_left (Name name ∷ ws) (builtin_call literals most depth_left name ws) (builtin_call_sound literals defining most depth_left name ws) found rest b.1
      | inr f ↦ formed_sound literals defining most depth_left (form_of true (Name name ∷ ws)) (Name name ∷ ws) found rest (form_strong true (Name name ∷ ws)) f.1
    ]

led_nothing : (literals defining : Bool) (most depth_left : ℕ) (ws : List Lexeme) (found : Option Simple) (rest : List Lexeme) → gave None ws ≡ gave found rest → LedSound literals defining most depth_left ws found rest
led_nothing literals defining most depth_left ws found rest e = subst (λ (x : Option Simple × List Lexeme). LedSound literals defining most depth_left ws x.0 x.1) (ok_is (None, ws) (found, rest) e) refl

pub led_sound : (literals defining : Bool) (most depth_left : ℕ) (ws : List Lexeme) (found : Option Simple) (rest : List Lexeme) → led literals defining most depth_left ws ≡ gave found rest → LedSound literals defining most depth_left ws found rest
unfolding led
led_sound literals defining most depth_left [] found rest e = led_nothing literals defining most depth_left [] found rest e
led_sound literals defining most depth_left (Literal value ∷ ws) found rest e = led_nothing literals defining most depth_left (Literal value ∷ ws) found rest e
led_sound literals defining most depth_left (Text bytes ∷ ws) found rest e = led_nothing literals defining most depth_left (Text bytes ∷ ws) found rest e
led_sound literals defining most depth_left (Mark kind ∷ ws) found rest e = led_nothing literals defining most depth_left (Mark kind ∷ ws) found rest e
led_sound literals defining most depth_left (Name name ∷ ws) found rest e =
    elim (either (makes_value name) (gave None (Name name ∷ ws)) (cond (is_builtin name) (as_one (λ (s : Simple). Some s) (builtin_call literals most depth_left name ws)) (formed literals defining most depth_left (form_of true (Name name ∷ ws)) (Name name ∷ ws))) (found, rest) e) [
      | inl m ↦ led_nothing literals defining most depth_left (Name name ∷ ws) found rest m.1
      | inr other ↦ makes_or_sound literals defining most depth_left name ws found rest other.1
    ]

pub send_sound : (literals defining : Bool) (most depth_left : ℕ) (ws : List Lexeme) (s : Simple) (rest : List Lexeme) → sent Send literals most depth_left ws ≡ gave s rest → SimpleSound literals defining most depth_left ws s rest
send_sound literals defining most depth_left ws s rest e =
    let a = sent_sound Send literals most depth_left ws s rest e in
    subst (λ (x : Simple). SimpleSound literals defining most depth_left ws x rest) a.made (record { parts = a.parts; is = a.is; low = a.low; few = a.few })

led_or_sent_sound : (literals defining : Bool) (most depth_left : ℕ) (ws : List Lexeme) (found : Option Simple) (after : List Lexeme) → LedSound literals defining most depth_left ws found after → (s : Simple) (rest : List Lexeme) → led_or_sent literals most depth_left (found, after) ≡ gave s rest → SimpleSound literals defining most depth_left ws s rest
led_or_sent_sound literals defining most depth_left ws None after same s rest e =
    subst (λ (x : List Lexeme). SimpleSound literals defining most depth_left x s rest) (sym same) (send_sound literals defining most depth_left after s rest e)
led_or_sent_sound literals defining most depth_left ws (Some x) after sound s rest e =
    subst (λ (y : Simple × List Lexeme). SimpleSound literals defining most depth_left ws y.0 y.1) (ok_is (x, after) (s, rest) e) sound

receive_sound : (literals defining : Bool) (most depth_left : ℕ) (ws : List Lexeme) (s : Simple) (rest : List Lexeme) → as_one ReceiveAlone (received literals most depth_left ws) ≡ gave s rest → SimpleSound literals defining most depth_left ws s rest
receive_sound literals defining most depth_left ws s rest e =
    let a = made_is ReceiveAlone (received literals most depth_left ws) s rest e in
    let r = received_sound literals most depth_left ws a.0 rest a.1 in
    subst (λ (x : Simple). SimpleSound literals defining most depth_left ws x rest) a.2 (record { parts = r.parts; is = r.is; low = r.low; few = r.few })

-- what is read is spelt so, and is within the limits
pub simple_sound : (literals defining : Bool) (most depth_left : ℕ) (ws : List Lexeme) (s : Simple) (rest : List Lexeme) → simple literals defining most depth_left ws ≡ gave s rest → SimpleSound literals defining most depth_left ws s rest
unfolding simple
simple_sound literals defining most depth_left ws s rest e =
    let others = led literals defining most depth_left ws >>= led_or_sent literals most depth_left in
    elim (either (begins_with kinds.Arrow ws) (as_one ReceiveAlone (received literals most depth_left ws)) (cond (begins_call ws) (called literals most depth_left ws) others) (s, rest) e) [
      | inl r ↦ receive_sound literals defining most depth_left ws s rest r.1
      | inr other ↦ elim (either (begins_call ws) (called literals most depth_left ws) others (s, rest) other.1) [
        | inl c ↦ called_sound literals defining most depth_left ws s rest c.1
        | inr o ↦
            let a = bind_ok (led literals defining most depth_left ws) (led_or_sent literals most depth_left) (s, rest) o.1 in
            led_or_sent_sound literals defining most depth_left ws a.0.0 a.0.1 (led_sound literals defining most depth_left ws a.0.0 a.0.1 a.1) s rest a.2
      ]
    ]
