-- One turn of the scanner's loop.
use Rattle.std.proofs.Common.{◌≡◌, ℕ, zero, suc, ◌+◌, ◌-◌, ◌<◌, ◌≤◌, List, [], ◌∷◌, ◌++◌, length, drop, get_or, Option, None, Result, Ok, Err, refl, ap, ◌∙◌, sym, arith, append_assoc, add-zero}
use Rattle.std.proofs.lemmas.List.{drop-drop, drop_all, length-drop}
use Rattle.scanner.specs.declared.kind.TokenKind.{TokenKind}
use Rattle.scanner.specs.declared.token.Token.{Token}
use Rattle.go_text.specs.declared.fault.Fault.{Fault}
use Rattle.scanner.specs.declared.element.Element.{Element}
use Rattle.scanner.specs.declared.element.Element.TheVariants as elements
use Rattle.scanner.specs.declared.element.Element.TheVariants.{Blank, LineEnd}
use Rattle.scanner.specs.Elements.{element_at}
use Rattle.scanner.specs.Tokens.{Scanned, following, line_end, ender, taken, tokens}

after_after : (a b : List Token) (r : Scanned) → following a (following b r) ≡ following (a ++ b) r
after_after a b (Ok ts) = ap (λ (x : List Token). Ok x) (sym (append_assoc a b ts))
after_after a b (Err f) = refl

-- bytes that belong to the token before
passed_over : (p place : ℕ) (after : Option ℕ) (ws : List ℕ) → p ≤ length ws → tokens p place after ws ≡ tokens 0 (place + p) after (drop p ws)
unfolding tokens
passed_over zero place after ws le = ap (λ (n : ℕ). tokens 0 n after ws) (sym (add-zero place))
passed_over (suc p) place after [] le = absurd (omega arith)
passed_over (suc p) place after (b ∷ ws) le =
    let same : place + 1 + p ≡ place + suc p = omega arith in
    passed_over p (place + 1) after ws (omega arith) ∙ ap (λ (n : ℕ). tokens 0 n after (drop p ws)) same

element_is : (place : ℕ) (after : Option ℕ) (ws : List ℕ) (r : Result Element Fault) → 1 ≤ length ws → r ≡ element_at place (get_or ws 0 0) (drop 1 ws) → tokens 0 place after ws ≡ taken place after r (λ passed after. tokens passed (place + 1) after (drop 1 ws))
unfolding tokens
element_is place after [] r some is = absurd (omega arith)
element_is place after (b ∷ ws) r some is = ap (λ (x : Result Element Fault). taken place after x (λ passed after. tokens passed (place + 1) after ws)) (sym is)

-- an element's bytes are passed over
over : (at n : ℕ) (after : Option ℕ) (text : List ℕ) → 1 ≤ n → at + n ≤ length text → tokens (n - 1) (at + 1) after (drop 1 (drop at text)) ≡ tokens 0 (at + n) after (drop (at + n) text)
over at n after text some le =
    let sum : at + 1 + (n - 1) ≡ at + n = omega arith in
    let ws = drop 1 (drop at text) in
    let len : n - 1 ≤ length ws = omega (arith, length-drop 1 (drop at text), length-drop at text) in
    passed_over (n - 1) (at + 1) after ws len
    ∙ ap (λ (us : List ℕ). tokens 0 (at + 1 + (n - 1)) after us) (ap (drop (n - 1)) (drop-drop 1 at text) ∙ drop-drop (n - 1) (at + 1) text)
    ∙ ap (λ (m : ℕ). tokens 0 m after (drop m text)) sum

-- the text from an offset on begins with this element, or fault
abbrev pub Begins : (at : ℕ) → (text : List ℕ) → Result Element Fault → Type 0
Begins at text r = r ≡ element_at at (get_or (drop at text) 0 0) (drop 1 (drop at text))

from_place : (at : ℕ) (after : Option ℕ) (text : List ℕ) (r : Result Element Fault) → at < length text → Begins at text r → tokens 0 at after (drop at text) ≡ taken at after r (λ passed after. tokens passed (at + 1) after (drop 1 (drop at text)))
from_place at after text r lt is = element_is at after (drop at text) r (omega (arith, length-drop at text)) is

pub blank_step : (out : List Token) (at n : ℕ) (after : Option ℕ) (text : List ℕ) (total : Scanned) → at < length text → Begins at text (Ok (Blank n)) → 1 ≤ n → at + n ≤ length text
    → following out (tokens 0 at after (drop at text)) ≡ total → following out (tokens 0 (at + n) after (drop (at + n) text)) ≡ total
blank_step out at n after text total lt is some le so_far =
    ap (following out) (sym (from_place at after text (Ok (Blank n)) lt is ∙ over at n after text some le)) ∙ so_far

pub line_end_step : (out : List Token) (at n : ℕ) (after : Option ℕ) (text : List ℕ) (total : Scanned) → at < length text → Begins at text (Ok (LineEnd n)) → 1 ≤ n → at + n ≤ length text
    → following out (tokens 0 at after (drop at text)) ≡ total → following (out ++ line_end after) (tokens 0 (at + n) None (drop (at + n) text)) ≡ total
line_end_step out at n after text total lt is some le so_far =
    sym (after_after out (line_end after) (tokens 0 (at + n) None (drop (at + n) text)))
    ∙ ap (following out) (sym (from_place at after text (Ok (LineEnd n)) lt is ∙ ap (following (line_end after)) (over at n None text some le))) ∙ so_far

pub token_step : (out : List Token) (at n : ℕ) (k : TokenKind) (after : Option ℕ) (text : List ℕ) (total : Scanned) → at < length text → Begins at text (Ok (elements.Token n k)) → 1 ≤ n → at + n ≤ length text
    → following out (tokens 0 at after (drop at text)) ≡ total → following (out ++ record { kind = k; span = record { from = at; to = at + n } } ∷ []) (tokens 0 (at + n) (ender k (at + n)) (drop (at + n) text)) ≡ total
token_step out at n k after text total lt is some le so_far =
    let token : Token = record { kind = k; span = record { from = at; to = at + n } } in
    sym (after_after out (token ∷ []) (tokens 0 (at + n) (ender k (at + n)) (drop (at + n) text)))
    ∙ ap (following out) (sym (from_place at after text (Ok (elements.Token n k)) lt is ∙ ap (following (token ∷ [])) (over at n (ender k (at + n)) text some le))) ∙ so_far

pub fault_step : (out : List Token) (at : ℕ) (after : Option ℕ) (text : List ℕ) (f : Fault) (total : Scanned) → at < length text → Begins at text (Err f)
    → following out (tokens 0 at after (drop at text)) ≡ total → total ≡ Err f
fault_step out at after text f total lt is so_far = sym so_far ∙ ap (following out) (from_place at after text (Err f) lt is)

pub end_step : (out : List Token) (at : ℕ) (after : Option ℕ) (text : List ℕ) (total : Scanned) → length text ≤ at → following out (tokens 0 at after (drop at text)) ≡ total → total ≡ Ok (out ++ line_end after)
unfolding tokens
end_step out at after text total le so_far = sym so_far ∙ ap (λ (ws : List ℕ). following out (tokens 0 at after ws)) (drop_all at text le)
