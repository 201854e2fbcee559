-- The tokens of a text lie in order within it, and so does a fault.
use Rattle.std.proofs.Common.{◌≡◌, ℕ, zero, suc, ◌+◌, ◌-◌, ◌≤◌, ◌<◌, ◌⊎◌, inl, inr, Bool, true, false, ◌&&◌, cond, eqb, List, [], ◌∷◌, length, take, drop, Option, Some, None, Result, Ok, Err, refl, sym, arith, All, subst}
use Rattle.std.specs.List.{list_any}
use Rattle.std.proofs.lemmas.Bool.{eqb-true}
use Rattle.std.proofs.lemmas.List.{length-drop}
use Rattle.go_text.specs.declared.fault.Fault.{Fault}
use Rattle.go_text.specs.declared.fault.Fault.TheVariants as faults
use Rattle.scanner.specs.declared.element.Element.{Element}
use Rattle.scanner.specs.declared.element.Element.TheVariants as elements
use Rattle.scanner.specs.declared.kind.TokenKind.{TokenKind}
use Rattle.scanner.specs.declared.token.Token.{Token}
use Rattle.scanner.specs.Lexical.{is_space, longest, ends_line}
use Rattle.scanner.specs.Elements.{length_of, place_between, byte_place, is_newline, is_forbidden, is_close, is_broken, is_closing, is_escaping, longer, line_comment_rest, general_comment_rest, string_rest, line_comment, general_comment, string_literal, goes_on, judged, token_at, opens, element_at}
use Rattle.scanner.specs.Tokens.{Scanned, following, line_end, ender, taken, tokens, tokens_of, IsInOrder, LiesWithin}
use Rattle.scanner.proofs.Characters.{front_len_le}
use Rattle.scanner.proofs.Greatest.{IsBounded, longest_bounds}
use Rattle.scanner.proofs.Reading.{close_within}

-- the tokens lie in order, and a fault lies within the text
abbrev Fits : (from to : ℕ) → Scanned → Type 0
Fits from to (Ok ts) = IsInOrder from to ts
Fits from to (Err e) = LiesWithin to e

-- the semicolon of a line's end lies between these offsets
abbrev Ends : (from to : ℕ) → Option ℕ → Type 0
Ends from to None = Unit {0}
Ends from to (Some place) = (from ≤ place) × (place ≤ to)

ends_later : (from to to' : ℕ) (after : Option ℕ) → to ≤ to' → Ends from to after → Ends from to' after
ends_later from to to' None le ends = tt
ends_later from to to' (Some place) le ends = (ends.0, omega (arith, ends.1))

ender_ends : (kind : TokenKind) (place : ℕ) → Ends place place (ender kind place)
ender_ends kind place =
    elim (ends_line kind) as (λ (b : Bool). Ends place place (cond b (Some place) None)) [
      | true ↦ (omega arith, omega arith)
      | false ↦ tt
    ]

last_fits : (from to : ℕ) (after : Option ℕ) → from ≤ to → Ends from to after → Fits from to (Ok (line_end after))
last_fits from to None le ends = le
last_fits from to (Some place) le ends = (ends.0, omega arith, ends.1)

line_fits : (from to place : ℕ) (after : Option ℕ) (r : Scanned) → from ≤ place → Ends from place after → ((next : ℕ) → next ≤ place → Fits next to r) → Fits from to (following (line_end after) r)
line_fits from to place None (Ok ts) le ends fits = fits from le
line_fits from to place None (Err e) le ends fits = fits from le
line_fits from to place (Some at) (Ok ts) le ends fits = (ends.0, omega arith, fits at ends.1)
line_fits from to place (Some at) (Err e) le ends fits = fits at ends.1

-- an element that was found, or a fault, lies within `most` bytes from `place` on
abbrev pub IsRead : (place most : ℕ) → Result Element Fault → Type 0
IsRead place most (Ok element) = (1 ≤ length_of element) × (length_of element ≤ most)
IsRead place most (Err e) = LiesWithin (place + most) e

judged_is : (place : ℕ) (text : List ℕ) (found : Option (ℕ × TokenKind)) → 1 ≤ length text → IsBounded (length text) found → IsRead place (length text) (judged place text found)
judged_is place text None pos bounded = (omega arith, omega (arith, front_len_le text))
judged_is place text (Some found) pos bounded =
    elim (goes_on found.1 (drop found.0 text)) as (λ (b : Bool). IsRead place (length text) (cond b (Err (faults.BadNumber (place_between place (place + found.0)))) (Ok (elements.Token found.0 found.1)))) [
      | true ↦ (omega arith, omega (arith, bounded.1))
      | false ↦ bounded
    ]

-- the rest of a comment or a string that was read, or a fault at its first byte
abbrev IsRest : (opened most : ℕ) → Result ℕ Fault → Type 0
IsRest opened most (Ok len) = len ≤ most
IsRest opened most (Err e) = (end : ℕ) → opened < end → LiesWithin end e

longer_is : (o most : ℕ) (r : Result ℕ Fault) → IsRest o most r → IsRest o (suc most) (longer 1 r)
longer_is o most (Ok len) is = omega (arith, is)
longer_is o most (Err e) is = is

line_rest_is : (o : ℕ) (ws : List ℕ) → IsRest o (length ws) (line_comment_rest o ws)
unfolding line_comment_rest
line_rest_is o [] = omega arith
line_rest_is o (b ∷ ws) =
    elim (is_forbidden (b ∷ ws)) as (λ (x : Bool). IsRest o (length (b ∷ ws)) (cond x (Err (faults.BadCharacter (byte_place o))) (cond (is_newline b) (Ok 0) (longer 1 (line_comment_rest o ws))))) [
      | true ↦ λ end lt. (omega arith, omega (arith, lt))
      | false ↦ elim (is_newline b) as (λ (x : Bool). IsRest o (length (b ∷ ws)) (cond x (Ok 0) (longer 1 (line_comment_rest o ws)))) [
        | true ↦ omega arith
        | false ↦ longer_is o (length ws) (line_comment_rest o ws) (line_rest_is o ws)
      ]
    ]

general_goes : (o : ℕ) (ws : List ℕ) (most : ℕ) (closes : Bool) (r : Result ℕ Fault) → is_close ws ≡ closes → length ws ≡ suc most → IsRest o most r → IsRest o (length ws) (cond closes (Ok 2) (longer 1 r))
general_goes o ws most true r is len rest = close_within ws is
general_goes o ws most false r is len rest = subst (λ (n : ℕ). IsRest o n (longer 1 r)) (sym len) (longer_is o most r rest)

general_rest_is : (o : ℕ) (ws : List ℕ) → IsRest o (length ws) (general_comment_rest o ws)
unfolding general_comment_rest
general_rest_is o [] = λ end lt. (omega arith, omega (arith, lt))
general_rest_is o (b ∷ ws) =
    elim (is_forbidden (b ∷ ws)) as (λ (x : Bool). IsRest o (length (b ∷ ws)) (cond x (Err (faults.BadCharacter (byte_place o))) (cond (is_close (b ∷ ws)) (Ok 2) (longer 1 (general_comment_rest o ws))))) [
      | true ↦ λ end lt. (omega arith, omega (arith, lt))
      | false ↦ general_goes o (b ∷ ws) (length ws) (is_close (b ∷ ws)) (general_comment_rest o ws) refl (omega arith) (general_rest_is o ws)
    ]

string_rest_is : (o : ℕ) (x : Bool) (ws : List ℕ) → IsRest o (length ws) (string_rest o x ws)
unfolding string_rest
string_rest_is o x [] = λ end lt. (omega arith, omega (arith, lt))
string_rest_is o x (b ∷ ws) =
    let next = string_rest o (is_escaping x b) ws in
    elim (is_forbidden (b ∷ ws)) as (λ (y : Bool). IsRest o (length (b ∷ ws)) (cond y (Err (faults.BadCharacter (byte_place o))) (cond (is_broken x b) (Err (faults.OpenString (byte_place o))) (cond (is_closing x b) (Ok 1) (longer 1 next))))) [
      | true ↦ λ end lt. (omega arith, omega (arith, lt))
      | false ↦ elim (is_broken x b) as (λ (y : Bool). IsRest o (length (b ∷ ws)) (cond y (Err (faults.OpenString (byte_place o))) (cond (is_closing x b) (Ok 1) (longer 1 next)))) [
        | true ↦ λ end lt. (omega arith, omega (arith, lt))
        | false ↦ elim (is_closing x b) as (λ (y : Bool). IsRest o (length (b ∷ ws)) (cond y (Ok 1) (longer 1 next))) [
          | true ↦ omega arith
          | false ↦ longer_is o (length ws) next (string_rest_is o (is_escaping x b) ws)
        ]
      ]
    ]

line_is : (place most n : ℕ) (r : Result ℕ Fault) → 2 + n ≤ most → IsRest place n r → IsRead place most (line_comment r)
line_is place most n (Ok len) le is = (omega arith, omega (arith, is))
line_is place most n (Err e) le is = is (place + most) (omega arith)

general_is : (place most n : ℕ) (text : List ℕ) (r : Result ℕ Fault) → 2 + n ≤ most → IsRest place n r → IsRead place most (general_comment text r)
general_is place most n text (Ok len) le is =
    elim (list_any is_newline (take len text)) as (λ (x : Bool). IsRead place most (Ok (cond x (elements.LineEnd (2 + len)) (elements.Blank (2 + len))))) [
      | true ↦ (omega arith, omega (arith, is))
      | false ↦ (omega arith, omega (arith, is))
    ]
general_is place most n text (Err e) le is = is (place + most) (omega arith)

string_is : (place most n : ℕ) (r : Result ℕ Fault) → 1 + n ≤ most → IsRest place n r → IsRead place most (string_literal r)
string_is place most n (Ok len) le is = (omega arith, omega (arith, is))
string_is place most n (Err e) le is = is (place + most) (omega arith)

-- two bytes that open a comment
opened_two : (first second a : ℕ) (ws : List ℕ) → 0 < second → opens first second a ws ≡ true → 1 ≤ length ws
opened_two first second a [] pos is = absurd (none (eqb a first) is) where
  none : (x : Bool) → x && eqb 0 second ≡ true → ⊥
  none true e = omega (arith, eqb-true 0 second e)
  none false e = absurd cc
opened_two first second a (b ∷ ws) pos is = omega arith

-- the cases of an element from a comment on, by the tests of its first bytes
abbrev quoted : (place a : ℕ) → List ℕ → Bool → Result Element Fault
quoted place a ws x = cond x (string_literal (string_rest place false ws)) (token_at place (a ∷ ws))

abbrev commented : (place a : ℕ) → List ℕ → (line general : Bool) → Result Element Fault
commented place a ws line general =
    cond line (line_comment (line_comment_rest place (drop 1 ws)))
    (cond general (general_comment (drop 1 ws) (general_comment_rest place (drop 1 ws))) (quoted place a ws (eqb a 34)))

commented_is : (place a : ℕ) (ws : List ℕ) (line general : Bool) → opens 47 47 a ws ≡ line → opens 47 42 a ws ≡ general → IsRead place (length (a ∷ ws)) (commented place a ws line general)
commented_is place a ws true general is is' =
    line_is place (length (a ∷ ws)) (length (drop 1 ws)) (line_comment_rest place (drop 1 ws)) (omega (arith, length-drop 1 ws, opened_two 47 47 a ws (omega arith) is)) (line_rest_is place (drop 1 ws))
commented_is place a ws false true is is' =
    general_is place (length (a ∷ ws)) (length (drop 1 ws)) (drop 1 ws) (general_comment_rest place (drop 1 ws)) (omega (arith, length-drop 1 ws, opened_two 47 42 a ws (omega arith) is')) (general_rest_is place (drop 1 ws))
commented_is place a ws false false is is' =
    elim (eqb a 34) as (λ (x : Bool). IsRead place (length (a ∷ ws)) (quoted place a ws x)) [
      | true ↦ string_is place (length (a ∷ ws)) (length ws) (string_rest place false ws) (omega arith) (string_rest_is place false ws)
      | false ↦ judged_is place (a ∷ ws) (longest (a ∷ ws)) (omega arith) (longest_bounds (a ∷ ws))
    ]

element_is : (place a : ℕ) (ws : List ℕ) → IsRead place (length (a ∷ ws)) (element_at place a ws)
element_is place a ws =
    let rest = commented place a ws (opens 47 47 a ws) (opens 47 42 a ws) in
    elim (is_newline a) as (λ (x : Bool). IsRead place (length (a ∷ ws)) (cond x (Ok (elements.LineEnd 1)) (cond (is_space a) (Ok (elements.Blank 1)) rest))) [
      | true ↦ (omega arith, omega arith)
      | false ↦ elim (is_space a) as (λ (x : Bool). IsRead place (length (a ∷ ws)) (cond x (Ok (elements.Blank 1)) rest)) [
        | true ↦ (omega arith, omega arith)
        | false ↦ commented_is place a ws (opens 47 47 a ws) (opens 47 42 a ws) refl refl
      ]
    ]

front_fits : (from to : ℕ) (token : Token) (r : Scanned) → from ≤ token.span.from → token.span.from ≤ token.span.to → Fits token.span.to to r → Fits from to (following (token ∷ []) r)
front_fits from to token (Ok ts) le len fits = (le, len, fits)
front_fits from to token (Err e) le len fits = fits

-- what follows an element of n bytes, from an offset on at which a line's end may put a semicolon
abbrev Follows : (place to most : ℕ) → (ℕ → Option ℕ → Scanned) → Type 0
Follows place to most rest = (n from : ℕ) (after : Option ℕ) → 1 ≤ n → n ≤ most → from ≤ place + n → Ends from (place + n) after → Fits from to (rest (n - 1) after)

taken_fits : (from place to most : ℕ) (after : Option ℕ) (read : Result Element Fault) (rest : ℕ → Option ℕ → Scanned) → from ≤ place → place + most ≡ to → Ends from place after → IsRead place most read → Follows place to most rest → Fits from to (taken place after read rest)
taken_fits from place to most after (Err e) rest le end ends is follows = subst (λ (n : ℕ). LiesWithin n e) end is
taken_fits from place to most after (Ok (elements.Blank n)) rest le end ends is follows =
    follows n from after is.0 is.1 (omega arith) (ends_later from place (place + n) after (omega arith) ends)
taken_fits from place to most after (Ok (elements.LineEnd n)) rest le end ends is follows =
    line_fits from to place after (rest (n - 1) None) le ends (λ next before. follows n next None is.0 is.1 (omega (arith, before)) tt)
taken_fits from place to most after (Ok (elements.Token n kind)) rest le end ends is follows =
    front_fits from to (record { kind = kind; span = record { from = place; to = place + n } }) (rest (n - 1) (ender kind (place + n))) le (omega arith)
    (follows n (place + n) (ender kind (place + n)) is.0 is.1 (omega arith) (ender_ends kind (place + n)))

fits : (text : List ℕ) (passed place from to : ℕ) (after : Option ℕ) → place + length text ≡ to → passed ≤ length text → from ≤ place + passed → Ends from (place + passed) after → Fits from to (tokens passed place after text)
unfolding tokens
fits [] passed place from to after end le low ends = last_fits from to after (omega arith) (ends_later from (place + passed) to after (omega arith) ends)
fits (b ∷ rest) (suc passed) place from to after end le low ends =
    fits rest passed (place + 1) from to after (omega arith) (omega arith) (omega arith) (ends_later from (place + suc passed) (place + 1 + passed) after (omega arith) ends)
fits (b ∷ rest) zero place from to after end le low ends =
    taken_fits from place to (length (b ∷ rest)) after (element_at place b rest) (λ passed after. tokens passed (place + 1) after rest) (omega arith) end (ends_later from (place + 0) place after (omega arith) ends) (element_is place b rest)
    (λ n from after some most low ends. fits rest (n - 1) (place + 1) from to after (omega arith) (omega (arith, most, some)) (omega (arith, some, low)) (ends_later from (place + n) (place + 1 + (n - 1)) after (omega (arith, some)) ends))

all_fit : (text : List ℕ) → Fits 0 (length text) (tokens_of text)
all_fit text = fits text 0 0 0 (length text) None (omega arith) (omega arith) (omega arith) tt

pub in_order : (text : List ℕ) (ts : List Token) → tokens_of text ≡ Ok ts → IsInOrder 0 (length text) ts
in_order text ts is = subst (Fits 0 (length text)) is (all_fit text)

pub lies_within : (text : List ℕ) (e : Fault) → (e ≡ faults.Memory) ⊎ (tokens_of text ≡ Err e) → LiesWithin (length text) e
lies_within text e (inl is) = rw is tt
lies_within text e (inr is) = subst (Fits 0 (length text)) is (all_fit text)

order_of_ends : (from to : ℕ) (ts : List Token) → IsInOrder from to ts → from ≤ to
order_of_ends from to [] ordered = ordered
order_of_ends from to (t ∷ ts) ordered = omega (arith, ordered.0, ordered.1, order_of_ends t.span.to to ts ordered.2)

pub all_within : (from to : ℕ) (ts : List Token) → IsInOrder from to ts → All (λ (t : Token). (t.span.from ≤ t.span.to) × (t.span.to ≤ to)) ts
all_within from to [] ordered k d lt = absurd (omega (arith, lt))
all_within from to (t ∷ ts) ordered zero d lt = (ordered.1, order_of_ends t.span.to to ts ordered.2)
all_within from to (t ∷ ts) ordered (suc k) d lt = all_within t.span.to to ts ordered.2 k d (omega (arith, lt))
