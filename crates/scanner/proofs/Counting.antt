-- A text has at most one token more than bytes: each byte begins at most one, and its end may be a semicolon.
use Rattle.std.proofs.Common.{◌≡◌, ℕ, zero, suc, ◌+◌, ◌-◌, ◌≤◌, List, [], ◌∷◌, length, Option, Some, None, Result, Ok, Err, ap, arith, length-append}
use Rattle.go_text.specs.declared.fault.Fault.{Fault}
use Rattle.scanner.specs.declared.element.Element.{Element}
use Rattle.scanner.specs.declared.element.Element.TheVariants as elements
use Rattle.scanner.specs.declared.token.Token.{Token}
use Rattle.scanner.specs.Elements.{element_at}
use Rattle.scanner.specs.Tokens.{Scanned, following, line_end, ender, taken, tokens, tokens_of}

-- at most `n` tokens, unless there is a fault
abbrev AreAtMost : ℕ → Scanned → Type 0
AreAtMost n (Ok found) = length found ≤ n
AreAtMost n (Err fault) = Unit {0}

line_end_few : (after : Option ℕ) → length (line_end after) ≤ 1
line_end_few None = omega arith
line_end_few (Some place) = omega arith

more : (m n : ℕ) (read : Scanned) → m ≤ n → AreAtMost m read → AreAtMost n read
more m n (Ok found) le few = omega arith
more m n (Err fault) le few = tt

after_few : (n : ℕ) (front : List Token) (rest : Scanned) → length front ≤ 1 → AreAtMost n rest → AreAtMost (suc n) (following front rest)
after_few n front (Ok found) one few = omega (arith, length-append front found)
after_few n front (Err fault) one few = tt

length_one : (token : Token) → length (token ∷ []) ≤ 1
length_one token = omega arith

taken_few : (n place : ℕ) (after : Option ℕ) (read : Result Element Fault) (rest : ℕ → Option ℕ → Scanned) → ((passed : ℕ) (after : Option ℕ) → AreAtMost n (rest passed after)) → AreAtMost (suc n) (taken place after read rest)
taken_few n place after (Err fault) rest few = tt
taken_few n place after (Ok (elements.Blank len)) rest few = more n (suc n) (rest (len - 1) after) (omega arith) (few (len - 1) after)
taken_few n place after (Ok (elements.LineEnd len)) rest few = after_few n (line_end after) (rest (len - 1) None) (line_end_few after) (few (len - 1) None)
taken_few n place after (Ok (elements.Token len kind)) rest few =
    let token : Token = record { kind = kind; span = record { from = place; to = place + len } } in
    after_few n (token ∷ []) (rest (len - 1) (ender kind (place + len))) (length_one token) (few (len - 1) (ender kind (place + len)))

few : (text : List ℕ) (passed place : ℕ) (after : Option ℕ) → AreAtMost (suc (length text)) (tokens passed place after text)
unfolding tokens
few [] passed place after = line_end_few after
few (b ∷ rest) (suc passed) place after = more (suc (length rest)) (suc (length (b ∷ rest))) (tokens passed (place + 1) after rest) (omega arith) (few rest passed (place + 1) after)
few (b ∷ rest) zero place after =
    more (suc (suc (length rest))) (suc (length (b ∷ rest))) (taken place after (element_at place b rest) (λ passed after. tokens passed (place + 1) after rest)) (omega arith)
    (taken_few (suc (length rest)) place after (element_at place b rest) (λ passed after. tokens passed (place + 1) after rest) (λ passed after. few rest passed (place + 1) after))

at_most : (n : ℕ) (read : Scanned) (found : List Token) → AreAtMost n read → read ≡ Ok found → length found ≤ n
at_most n (Ok all) found few e = let same : all ≡ found = cc in omega (arith, ap length same)
at_most n (Err fault) found few e = absurd cc

pub length-tokens_of : (text : List ℕ) (found : List Token) → tokens_of text ≡ Ok found → length found ≤ length text + 1
length-tokens_of text found e = omega (arith, at_most (suc (length text)) (tokens_of text) found (few text 0 0 None) e)
