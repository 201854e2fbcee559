-- A comment or a string is read on from one byte to the next.
use Rattle.std.proofs.Common.{◌≡◌, ℕ, ◌+◌, ◌-◌, ◌≤◌, ◌<◌, Bool, true, false, List, [], ◌∷◌, length, take, drop, get_or, Result, Ok, Err, refl, ap, ◌∙◌, sym, arith}
use Rattle.std.proofs.lemmas.List.{take_all, drop-drop, drop_all, length-drop, get_or-drop}
use Rattle.go_text.specs.declared.fault.Fault.{Fault}
use Rattle.go_text.specs.declared.fault.Fault.TheVariants as faults
use Rattle.scanner.specs.Elements.{byte_place, is_newline, is_forbidden, is_close, is_broken, is_closing, is_escaping, longer, line_comment_rest, general_comment_rest, string_rest}

longer_longer : (m n : ℕ) (r : Result ℕ Fault) → longer m (longer n r) ≡ longer (m + n) r
longer_longer m n (Ok k) = let same : m + (n + k) ≡ m + n + k = omega arith in ap (λ (x : ℕ). Ok x) same
longer_longer m n (Err e) = refl

-- a slice from an offset on
pub rest_is : (at : ℕ) (text : List ℕ) → take (length text - at) (drop at text) ≡ drop at text
rest_is at text = take_all (length text - at) (drop at text) (omega (arith, length-drop at text))

-- one byte more, if the bytes from an offset on are read
one_more : (at : ℕ) (r s total : Result ℕ Fault) → r ≡ longer 1 s → longer at r ≡ total → longer (at + 1) s ≡ total
one_more at r s total is so_far = sym (longer_longer at 1 s) ∙ ap (longer at) (sym is) ∙ so_far

-- the byte at an offset
first_of_drop : (at : ℕ) (text : List ℕ) → get_or (drop at text) 0 0 ≡ get_or text at 0
first_of_drop at text = let none : at + 0 ≡ at = omega arith in rw (get_or-drop at text 0 0, none) refl

-- ---- line comments

line_forbidden : (o : ℕ) (ws : List ℕ) → is_forbidden ws ≡ true → line_comment_rest o ws ≡ Err (faults.BadCharacter (byte_place o))
unfolding line_comment_rest
line_forbidden o [] is = absurd cc
line_forbidden o (b ∷ ws) is = rw is refl

line_ends : (o : ℕ) (ws : List ℕ) → 1 ≤ length ws → is_forbidden ws ≡ false → is_newline (get_or ws 0 0) ≡ true → line_comment_rest o ws ≡ Ok 0
unfolding line_comment_rest
line_ends o [] some is ends = absurd (omega arith)
line_ends o (b ∷ ws) some is ends = rw (is, ends) refl

line_goes : (o : ℕ) (ws : List ℕ) → 1 ≤ length ws → is_forbidden ws ≡ false → is_newline (get_or ws 0 0) ≡ false → line_comment_rest o ws ≡ longer 1 (line_comment_rest o (drop 1 ws))
unfolding line_comment_rest
line_goes o [] some is ends = absurd (omega arith)
line_goes o (b ∷ ws) some is ends = rw (is, ends) refl

pub line_forbidden_step : (o at : ℕ) (text : List ℕ) (total : Result ℕ Fault) → is_forbidden (drop at text) ≡ true → longer at (line_comment_rest o (drop at text)) ≡ total → Err (faults.BadCharacter (byte_place o)) ≡ total
line_forbidden_step o at text total is so_far = sym (ap (longer at) (line_forbidden o (drop at text) is)) ∙ so_far

pub line_end_step : (o at : ℕ) (text : List ℕ) (total : Result ℕ Fault) → at < length text → is_forbidden (drop at text) ≡ false → is_newline (get_or text at 0) ≡ true → longer at (line_comment_rest o (drop at text)) ≡ total → Ok at ≡ total
line_end_step o at text total lt is ends so_far =
    let none : at + 0 ≡ at = omega arith in
    let here : is_newline (get_or (drop at text) 0 0) ≡ true = rw (first_of_drop at text) ends in
    ap (λ (n : ℕ). Ok n) (sym none) ∙ sym (ap (longer at) (line_ends o (drop at text) (omega (arith, length-drop at text)) is here)) ∙ so_far

pub line_step : (o at : ℕ) (text : List ℕ) (total : Result ℕ Fault) → at < length text → is_forbidden (drop at text) ≡ false → is_newline (get_or text at 0) ≡ false → longer at (line_comment_rest o (drop at text)) ≡ total → longer (at + 1) (line_comment_rest o (drop (at + 1) text)) ≡ total
line_step o at text total lt is ends so_far =
    let here : is_newline (get_or (drop at text) 0 0) ≡ false = rw (first_of_drop at text) ends in
    ap (λ (ws : List ℕ). longer (at + 1) (line_comment_rest o ws)) (sym (drop-drop 1 at text))
    ∙ one_more at (line_comment_rest o (drop at text)) (line_comment_rest o (drop 1 (drop at text))) total (line_goes o (drop at text) (omega (arith, length-drop at text)) is here) so_far

pub line_text_end : (o at : ℕ) (text : List ℕ) (total : Result ℕ Fault) → length text ≤ at → longer at (line_comment_rest o (drop at text)) ≡ total → Ok at ≡ total
unfolding line_comment_rest
line_text_end o at text total le so_far =
    let none : at + 0 ≡ at = omega arith in
    ap (λ (n : ℕ). Ok n) (sym none) ∙ sym (ap (λ (ws : List ℕ). longer at (line_comment_rest o ws)) (drop_all at text le)) ∙ so_far

-- ---- general comments

general_forbidden : (o : ℕ) (ws : List ℕ) → is_forbidden ws ≡ true → general_comment_rest o ws ≡ Err (faults.BadCharacter (byte_place o))
unfolding general_comment_rest
general_forbidden o [] is = absurd cc
general_forbidden o (b ∷ ws) is = rw is refl

general_closes : (o : ℕ) (ws : List ℕ) → is_forbidden ws ≡ false → is_close ws ≡ true → general_comment_rest o ws ≡ Ok 2
unfolding general_comment_rest
general_closes o [] is closes = absurd cc
general_closes o (b ∷ ws) is closes = rw (is, closes) refl

general_goes : (o : ℕ) (ws : List ℕ) → 1 ≤ length ws → is_forbidden ws ≡ false → is_close ws ≡ false → general_comment_rest o ws ≡ longer 1 (general_comment_rest o (drop 1 ws))
unfolding general_comment_rest
general_goes o [] some is closes = absurd (omega arith)
general_goes o (b ∷ ws) some is closes = rw (is, closes) refl

pub general_forbidden_step : (o at : ℕ) (text : List ℕ) (total : Result ℕ Fault) → is_forbidden (drop at text) ≡ true → longer at (general_comment_rest o (drop at text)) ≡ total → Err (faults.BadCharacter (byte_place o)) ≡ total
general_forbidden_step o at text total is so_far = sym (ap (longer at) (general_forbidden o (drop at text) is)) ∙ so_far

pub general_close_step : (o at : ℕ) (text : List ℕ) (total : Result ℕ Fault) → is_forbidden (drop at text) ≡ false → is_close (drop at text) ≡ true → longer at (general_comment_rest o (drop at text)) ≡ total → Ok (at + 2) ≡ total
general_close_step o at text total is closes so_far = sym (ap (longer at) (general_closes o (drop at text) is closes)) ∙ so_far

pub general_step : (o at : ℕ) (text : List ℕ) (total : Result ℕ Fault) → at < length text → is_forbidden (drop at text) ≡ false → is_close (drop at text) ≡ false → longer at (general_comment_rest o (drop at text)) ≡ total → longer (at + 1) (general_comment_rest o (drop (at + 1) text)) ≡ total
general_step o at text total lt is closes so_far =
    ap (λ (ws : List ℕ). longer (at + 1) (general_comment_rest o ws)) (sym (drop-drop 1 at text))
    ∙ one_more at (general_comment_rest o (drop at text)) (general_comment_rest o (drop 1 (drop at text))) total (general_goes o (drop at text) (omega (arith, length-drop at text)) is closes) so_far

pub general_text_end : (o at : ℕ) (text : List ℕ) (total : Result ℕ Fault) → length text ≤ at → longer at (general_comment_rest o (drop at text)) ≡ total → Err (faults.OpenComment (byte_place o)) ≡ total
unfolding general_comment_rest
general_text_end o at text total le so_far = sym (ap (λ (ws : List ℕ). longer at (general_comment_rest o ws)) (drop_all at text le)) ∙ so_far

-- what has its end closed has two bytes at least
pub close_within : (ws : List ℕ) → is_close ws ≡ true → 2 ≤ length ws
close_within [] is = absurd cc
close_within (a ∷ []) is = absurd cc
close_within (a ∷ b ∷ ws) is = omega arith

-- ---- strings

string_forbidden : (o : ℕ) (x : Bool) (ws : List ℕ) → is_forbidden ws ≡ true → string_rest o x ws ≡ Err (faults.BadCharacter (byte_place o))
unfolding string_rest
string_forbidden o x [] is = absurd cc
string_forbidden o x (b ∷ ws) is = rw is refl

string_breaks : (o : ℕ) (x : Bool) (ws : List ℕ) → 1 ≤ length ws → is_forbidden ws ≡ false → is_broken x (get_or ws 0 0) ≡ true → string_rest o x ws ≡ Err (faults.OpenString (byte_place o))
unfolding string_rest
string_breaks o x [] some is breaks = absurd (omega arith)
string_breaks o x (b ∷ ws) some is breaks = rw (is, breaks) refl

string_closes : (o : ℕ) (x : Bool) (ws : List ℕ) → 1 ≤ length ws → is_forbidden ws ≡ false → is_broken x (get_or ws 0 0) ≡ false → is_closing x (get_or ws 0 0) ≡ true → string_rest o x ws ≡ Ok 1
unfolding string_rest
string_closes o x [] some is breaks closes = absurd (omega arith)
string_closes o x (b ∷ ws) some is breaks closes = rw (is, breaks, closes) refl

string_goes : (o : ℕ) (x : Bool) (ws : List ℕ) → 1 ≤ length ws → is_forbidden ws ≡ false → is_broken x (get_or ws 0 0) ≡ false → is_closing x (get_or ws 0 0) ≡ false → string_rest o x ws ≡ longer 1 (string_rest o (is_escaping x (get_or ws 0 0)) (drop 1 ws))
unfolding string_rest
string_goes o x [] some is breaks closes = absurd (omega arith)
string_goes o x (b ∷ ws) some is breaks closes = rw (is, breaks, closes) refl

pub string_forbidden_step : (o at : ℕ) (x : Bool) (text : List ℕ) (total : Result ℕ Fault) → is_forbidden (drop at text) ≡ true → longer at (string_rest o x (drop at text)) ≡ total → Err (faults.BadCharacter (byte_place o)) ≡ total
string_forbidden_step o at x text total is so_far = sym (ap (longer at) (string_forbidden o x (drop at text) is)) ∙ so_far

pub string_break_step : (o at : ℕ) (x : Bool) (text : List ℕ) (total : Result ℕ Fault) → at < length text → is_forbidden (drop at text) ≡ false → is_broken x (get_or text at 0) ≡ true → longer at (string_rest o x (drop at text)) ≡ total → Err (faults.OpenString (byte_place o)) ≡ total
string_break_step o at x text total lt is breaks so_far =
    sym (ap (longer at) (string_breaks o x (drop at text) (omega (arith, length-drop at text)) is (rw (first_of_drop at text) breaks))) ∙ so_far

pub string_close_step : (o at : ℕ) (x : Bool) (text : List ℕ) (total : Result ℕ Fault) → at < length text → is_forbidden (drop at text) ≡ false → is_broken x (get_or text at 0) ≡ false → is_closing x (get_or text at 0) ≡ true → longer at (string_rest o x (drop at text)) ≡ total → Ok (at + 1) ≡ total
string_close_step o at x text total lt is breaks closes so_far =
    sym (ap (longer at) (string_closes o x (drop at text) (omega (arith, length-drop at text)) is (rw (first_of_drop at text) breaks) (rw (first_of_drop at text) closes))) ∙ so_far

pub string_step : (o at : ℕ) (x : Bool) (text : List ℕ) (total : Result ℕ Fault) → at < length text → is_forbidden (drop at text) ≡ false → is_broken x (get_or text at 0) ≡ false → is_closing x (get_or text at 0) ≡ false → longer at (string_rest o x (drop at text)) ≡ total → longer (at + 1) (string_rest o (is_escaping x (get_or text at 0)) (drop (at + 1) text)) ≡ total
string_step o at x text total lt is breaks closes so_far =
    let next = is_escaping x (get_or text at 0) in
    ap (λ (ws : List ℕ). longer (at + 1) (string_rest o next ws)) (sym (drop-drop 1 at text))
    ∙ one_more at (string_rest o x (drop at text)) (string_rest o next (drop 1 (drop at text))) total
    (string_goes o x (drop at text) (omega (arith, length-drop at text)) is (rw (first_of_drop at text) breaks) (rw (first_of_drop at text) closes)
    ∙ ap (λ (b : ℕ). longer 1 (string_rest o (is_escaping x b) (drop 1 (drop at text)))) (first_of_drop at text)) so_far

pub string_text_end : (o at : ℕ) (x : Bool) (text : List ℕ) (total : Result ℕ Fault) → length text ≤ at → longer at (string_rest o x (drop at text)) ≡ total → Err (faults.OpenString (byte_place o)) ≡ total
unfolding string_rest
string_text_end o at x text total le so_far = sym (ap (λ (ws : List ℕ). longer at (string_rest o x ws)) (drop_all at text le)) ∙ so_far
