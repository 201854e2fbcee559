-- The longest token of a text, found from its front.
use Rattle.std.proofs.Common.{◌≡◌, ℕ, zero, suc, ◌+◌, ◌<◌, ◌≤◌, Bool, true, false, cond, eqb, not, ◌&&◌, ◌||◌, List, [], ◌∷◌, length, take, drop, get_or, Option, Some, None, inl, inr, refl, sym, ◌∙◌, subst, arith}
use Rattle.std.specs.List.{list_all, prefix_len}
use Rattle.std.proofs.lemmas.Bool.{cases_lt, ne_eqb}
use Rattle.std.proofs.lemmas.List.Sums.{prefix_len-le-length}
use Rattle.scanner.specs.declared.kind.TokenKind.{TokenKind}
use Rattle.scanner.specs.declared.kind.TokenKind.TheVariants as kinds
use Rattle.scanner.specs.Letters.{is_letter_byte, begins_letter, begins_letter_or_digit, are_letters_and_digits, is_name}
use Rattle.scanner.proofs.Characters.{letter_is_either, name_is, name_ends, no_name}
use Rattle.scanner.specs.Lexical.{is_digit, is_x, is_hex_digit, is_empty, is_hexadecimal, hexadecimal_len, word, mark, mark_1, mark_2, mark_3, exact, or_shorter, longest_mark, longest_within, longest}

-- ---- the greatest length

longest_within_is : (text : List ℕ) (n : ℕ) (k : TokenKind) (j : ℕ) → 1 ≤ n → exact (take n text) ≡ Some k → ((m : ℕ) → n < m → m ≤ length text → exact (take m text) ≡ None) → n ≤ j → j ≤ length text → longest_within j text ≡ Some (n, k)
unfolding longest_within
longest_within_is text n k zero pos is none le len = absurd (omega arith)
longest_within_is text n k (suc j) pos is none le len =
    elim (cases_lt n (suc j)) [
      | inl lt ↦ rw (none (suc j) lt len) (longest_within_is text n k j pos is none (omega arith) (omega arith))
      | inr ge ↦ let same : n ≡ suc j = omega arith in
          let here : exact (take (suc j) text) ≡ Some k = subst (λ (x : ℕ). exact (take x text) ≡ Some k) same is in
          rw (here, ← same) refl
    ]

longest_within_none : (text : List ℕ) (j : ℕ) → ((m : ℕ) → 1 ≤ m → m ≤ length text → exact (take m text) ≡ None) → j ≤ length text → longest_within j text ≡ None
unfolding longest_within
longest_within_none text zero none len = refl
longest_within_none text (suc j) none len = rw (none (suc j) (omega arith) len) (longest_within_none text j none (omega arith))

pub longest_is : (text : List ℕ) (n : ℕ) (k : TokenKind) → 1 ≤ n → n ≤ length text → exact (take n text) ≡ Some k → ((m : ℕ) → n < m → m ≤ length text → exact (take m text) ≡ None) → longest text ≡ Some (n, k)
unfolding longest
longest_is text n k pos len is none = longest_within_is text n k (length text) pos is none len (omega arith)

pub longest_none : (text : List ℕ) → ((m : ℕ) → 1 ≤ m → m ≤ length text → exact (take m text) ≡ None) → longest text ≡ None
unfolding longest
longest_none text none = longest_within_none text (length text) none (omega arith)

-- ---- runs

run_passes : (p : ℕ → Bool) (xs : List ℕ) → list_all p (take (prefix_len p xs) xs) ≡ true
run_passes p [] = refl
run_passes p (x ∷ xs) = go (p x) refl (run_passes p xs) where
  go : (b : Bool) → p x ≡ b → list_all p (take (prefix_len p xs) xs) ≡ true → list_all p (take (cond b (1 + prefix_len p xs) 0) (x ∷ xs)) ≡ true
  go true is h = let one : 1 + prefix_len p xs ≡ suc (prefix_len p xs) = omega arith in rw (one, is) h
  go false is h = refl

run_ends : (p : ℕ → Bool) (xs : List ℕ) (m : ℕ) → prefix_len p xs < m → m ≤ length xs → list_all p (take m xs) ≡ false
run_ends p [] m lt le = absurd (omega arith)
run_ends p (x ∷ xs) zero lt le = absurd (omega arith)
run_ends p (x ∷ xs) (suc m) lt le = go (p x) refl lt (run_ends p xs m) where
  go : (b : Bool) → p x ≡ b → cond b (1 + prefix_len p xs) 0 < suc m → (prefix_len p xs < m → m ≤ length xs → list_all p (take m xs) ≡ false) → list_all p (take (suc m) (x ∷ xs)) ≡ false
  go true is lt h = rw is (h (omega arith) (omega arith))
  go false is lt h = rw is refl

pub run_pos : (p : ℕ → Bool) (text : List ℕ) → 1 ≤ length text → p (get_or text 0 0) ≡ true → 1 ≤ prefix_len p text
run_pos p [] pos is = absurd (omega arith)
run_pos p (x ∷ xs) pos is = rw is (omega arith)

-- ---- names

run_begins : (p : ℕ → Bool) (x : ℕ) (xs : List ℕ) → p x ≡ true → prefix_len p (x ∷ xs) ≡ suc (prefix_len p xs)
run_begins p x xs is = let one : 1 + prefix_len p xs ≡ suc (prefix_len p xs) = omega arith in rw is one

exact_name : (x : ℕ) (xs : List ℕ) → is_letter_byte x ≡ true → is_name (x ∷ xs) ≡ true → exact (x ∷ xs) ≡ Some (word (x ∷ xs))
unfolding exact
exact_name x xs is whole = rw (is, whole) refl

exact_no_name : (x : ℕ) (xs : List ℕ) → is_letter_byte x ≡ true → is_name (x ∷ xs) ≡ false → exact (x ∷ xs) ≡ None
unfolding exact
exact_no_name x xs is whole = rw (is, whole) refl

pub longest_name : (text : List ℕ) (n : ℕ) → 1 ≤ length text → is_letter_byte (get_or text 0 0) ≡ true → begins_letter text ≡ true → n ≤ length text → are_letters_and_digits (take n text) ≡ true → begins_letter_or_digit (drop n text) ≡ false → longest text ≡ Some (n, word (take n text))
longest_name [] n pos is begins le all end = absurd (omega arith)
longest_name (x ∷ xs) zero pos is begins le all end = let wrong : true ≡ false = sym (letter_is_either (x ∷ xs) begins) ∙ end in absurd cc
longest_name (x ∷ xs) (suc n) pos is begins le all end =
    longest_is (x ∷ xs) (suc n) (word (x ∷ take n xs)) (omega arith) le (exact_name x (take n xs) is (name_is (suc n) (x ∷ xs) (omega arith) le begins all)) past where
      past : (m : ℕ) → suc n < m → m ≤ length (x ∷ xs) → exact (take m (x ∷ xs)) ≡ None
      past zero lt len = absurd (omega arith)
      past (suc m) lt len = exact_no_name x (take m xs) is (name_ends (suc n) (suc m) (x ∷ xs) lt len all end)

-- it has a letter at least
pub name_pos : (text : List ℕ) (n : ℕ) → begins_letter text ≡ true → begins_letter_or_digit (drop n text) ≡ false → 1 ≤ n
name_pos text zero begins end = let wrong : true ≡ false = sym (letter_is_either text begins) ∙ end in absurd cc
name_pos text (suc n) begins end = omega arith

pub longest_no_letter : (text : List ℕ) → 1 ≤ length text → is_letter_byte (get_or text 0 0) ≡ true → begins_letter text ≡ false → longest text ≡ None
longest_no_letter [] pos is begins = absurd (omega arith)
longest_no_letter (x ∷ xs) pos is begins = longest_none (x ∷ xs) past where
  past : (m : ℕ) → 1 ≤ m → m ≤ length (x ∷ xs) → exact (take m (x ∷ xs)) ≡ None
  past zero some len = absurd (omega arith)
  past (suc m) some len = exact_no_name x (take m xs) is (no_name (suc m) (x ∷ xs) some len begins)

-- ---- numbers

exact_number : (x : ℕ) (xs : List ℕ) → is_letter_byte x ≡ false → is_digit x ≡ true → eqb x 48 ≡ false → list_all is_digit xs ≡ true → exact (x ∷ xs) ≡ Some kinds.Integer
unfolding exact
exact_number x xs unlike is other all = rw (unlike, is, other, all) refl

exact_no_number : (x : ℕ) (xs : List ℕ) → is_letter_byte x ≡ false → is_digit x ≡ true → eqb x 48 ≡ false → list_all is_digit xs ≡ false → exact (x ∷ xs) ≡ None
unfolding exact
exact_no_number x xs unlike is other all = rw (unlike, is, other, all) refl

exact_zero : (x : ℕ) (xs : List ℕ) (found : Bool) → is_letter_byte x ≡ false → is_digit x ≡ true → eqb x 48 ≡ true → is_empty xs || is_hexadecimal xs ≡ found → exact (x ∷ xs) ≡ cond found (Some kinds.Integer) None
unfolding exact
exact_zero x xs found unlike is same whole = rw (unlike, is, same, whole) refl

pub longest_number : (text : List ℕ) → 1 ≤ length text → is_letter_byte (get_or text 0 0) ≡ false → is_digit (get_or text 0 0) ≡ true → eqb (get_or text 0 0) 48 ≡ false → longest text ≡ Some (prefix_len is_digit text, kinds.Integer)
longest_number [] pos unlike is other = absurd (omega arith)
longest_number (x ∷ xs) pos unlike is other =
    let n = prefix_len is_digit xs in
    let len : prefix_len is_digit (x ∷ xs) ≡ suc n = run_begins is_digit x xs is in
    rw len (longest_is (x ∷ xs) (suc n) kinds.Integer (omega arith) (omega (arith, prefix_len-le-length is_digit xs)) (exact_number x (take n xs) unlike is other (run_passes is_digit xs)) past) where
      past : (m : ℕ) → suc (prefix_len is_digit xs) < m → m ≤ length (x ∷ xs) → exact (take m (x ∷ xs)) ≡ None
      past zero lt le = absurd (omega arith)
      past (suc m) lt le = exact_no_number x (take m xs) unlike is other (run_ends is_digit xs m (omega arith) (omega arith))

-- ---- hexadecimal numbers

-- what may follow a 0 in a number
abbrev is_tail : List ℕ → Bool
is_tail xs = is_empty xs || is_hexadecimal xs

-- the length after the 0, by whether an x is there and how many digits follow it
abbrev tail_len : Bool → ℕ → ℕ
tail_len x run = cond (x && not (eqb run 0)) (run + 1) 0

tail_len_some : (run : ℕ) → tail_len true (suc run) ≡ suc (suc run)
tail_len_some run = let some : eqb (suc run) 0 ≡ false = ne_eqb (suc run) 0 (λ e. omega (arith, e)) in rw some (omega arith)

tail_len_le : (b : Bool) (run most : ℕ) → run ≤ most → tail_len b run ≤ suc most
tail_len_le false run most le = omega arith
tail_len_le true zero most le = omega arith
tail_len_le true (suc run) most le = omega (arith, tail_len_some run)

tail_passes : (x : ℕ) (ds : List ℕ) (b : Bool) (run : ℕ) → is_x x ≡ b → list_all is_hex_digit (take run ds) ≡ true → run ≤ length ds → is_tail (take (tail_len b run) (x ∷ ds)) ≡ true
tail_passes x ds false run is all le = refl
tail_passes x ds true zero is all le = refl
tail_passes x [] true (suc run) is all le = absurd (omega arith)
tail_passes x (d ∷ ds) true (suc run) is all le = rw (tail_len_some run, is, all) refl

tail_ends : (x : ℕ) (ds : List ℕ) (b : Bool) (run m : ℕ) → is_x x ≡ b → ((k : ℕ) → run < k → k ≤ length ds → list_all is_hex_digit (take k ds) ≡ false) → tail_len b run < m → m ≤ length (x ∷ ds) → is_tail (take m (x ∷ ds)) ≡ false
tail_ends x ds b run zero is none lt le = absurd (omega arith)
tail_ends x ds false run (suc m) is none lt le = rw is refl
tail_ends x ds true run (suc zero) is none lt le = rw is refl
tail_ends x [] true run (suc (suc m)) is none lt le = absurd (omega arith)
tail_ends x (d ∷ ds) true zero (suc (suc m)) is none lt le = rw (is, none (suc m) (omega arith) (omega arith)) refl
tail_ends x (d ∷ ds) true (suc run) (suc (suc m)) is none lt le = rw (is, none (suc m) (omega (arith, tail_len_some run)) (omega arith)) refl

hexadecimal_passes : (xs : List ℕ) → is_tail (take (hexadecimal_len xs) xs) ≡ true
hexadecimal_passes [] = refl
hexadecimal_passes (x ∷ ds) = tail_passes x ds (is_x x) (prefix_len is_hex_digit ds) refl (run_passes is_hex_digit ds) (prefix_len-le-length is_hex_digit ds)

hexadecimal_ends : (xs : List ℕ) (m : ℕ) → hexadecimal_len xs < m → m ≤ length xs → is_tail (take m xs) ≡ false
hexadecimal_ends [] m lt le = absurd (omega arith)
hexadecimal_ends (x ∷ ds) m lt le = tail_ends x ds (is_x x) (prefix_len is_hex_digit ds) m refl (run_ends is_hex_digit ds) lt le

pub hexadecimal_len_le : (xs : List ℕ) → hexadecimal_len xs ≤ length xs
hexadecimal_len_le [] = omega arith
hexadecimal_len_le (x ∷ ds) = tail_len_le (is_x x) (prefix_len is_hex_digit ds) (length ds) (prefix_len-le-length is_hex_digit ds)

pub longest_zero : (text : List ℕ) → 1 ≤ length text → is_letter_byte (get_or text 0 0) ≡ false → is_digit (get_or text 0 0) ≡ true → eqb (get_or text 0 0) 48 ≡ true → longest text ≡ Some (1 + hexadecimal_len (drop 1 text), kinds.Integer)
longest_zero [] pos unlike is same = absurd (omega arith)
longest_zero (x ∷ xs) pos unlike is same =
    let n = hexadecimal_len xs in
    let one : 1 + n ≡ suc n = omega arith in
    rw one (longest_is (x ∷ xs) (suc n) kinds.Integer (omega arith) (omega (arith, hexadecimal_len_le xs)) (exact_zero x (take n xs) true unlike is same (hexadecimal_passes xs)) past) where
      past : (m : ℕ) → suc (hexadecimal_len xs) < m → m ≤ length (x ∷ xs) → exact (take m (x ∷ xs)) ≡ None
      past zero lt le = absurd (omega arith)
      past (suc m) lt le = exact_zero x (take m xs) false unlike is same (hexadecimal_ends xs m (omega arith) (omega arith))

-- ---- marks

exact_mark : (x : ℕ) (xs : List ℕ) → is_letter_byte x ≡ false → is_digit x ≡ false → exact (x ∷ xs) ≡ mark (x ∷ xs)
unfolding exact
exact_mark x xs unlike none = rw (unlike, none) refl

two_within : (a b : ℕ) → is_letter_byte a ≡ false → is_digit a ≡ false → longest_within 2 (a ∷ b ∷ []) ≡ or_shorter 2 (mark_2 a b) (or_shorter 1 (mark_1 a) None)
unfolding longest_within
two_within a b unlike none = rw (exact_mark a (b ∷ []) unlike none, exact_mark a [] unlike none) refl

marks_within : (a b c : ℕ) (rest : List ℕ) → is_letter_byte a ≡ false → is_digit a ≡ false → (j : ℕ) → j ≤ length rest → longest_within (suc (suc (suc j))) (a ∷ b ∷ c ∷ rest) ≡ or_shorter 3 (mark_3 a b c) (or_shorter 2 (mark_2 a b) (or_shorter 1 (mark_1 a) None))
unfolding longest_within
marks_within a b c rest unlike none zero le = rw (exact_mark a (b ∷ c ∷ []) unlike none, exact_mark a (b ∷ []) unlike none, exact_mark a [] unlike none) refl
marks_within a b c [] unlike none (suc j) le = absurd (omega arith)
marks_within a b c (d ∷ ds) unlike none (suc j) le = rw (exact_mark a (b ∷ c ∷ d ∷ take j ds) unlike none) (marks_within a b c (d ∷ ds) unlike none j (omega arith))

pub longest_other : (text : List ℕ) → 1 ≤ length text → is_letter_byte (get_or text 0 0) ≡ false → is_digit (get_or text 0 0) ≡ false → longest text ≡ longest_mark text
unfolding longest longest_within
longest_other [] pos unlike none = absurd (omega arith)
longest_other (a ∷ []) pos unlike none = rw (exact_mark a [] unlike none) refl
longest_other (a ∷ b ∷ []) pos unlike none = two_within a b unlike none
longest_other (a ∷ b ∷ c ∷ rest) pos unlike none = marks_within a b c rest unlike none (length rest) (omega arith)

-- ---- the bounds of the length

-- at least 1 and at most this
abbrev pub IsBounded : ℕ → Option (ℕ × TokenKind) → Type 0
IsBounded most None = Unit {0}
IsBounded most (Some found) = (1 ≤ found.0) × (found.0 ≤ most)

longest_within_bounds : (text : List ℕ) (most n : ℕ) → n ≤ most → IsBounded most (longest_within n text)
unfolding longest_within
longest_within_bounds text most zero le = tt
longest_within_bounds text most (suc n) le =
    elim (exact (take (suc n) text)) as (λ (found : Option TokenKind). IsBounded most (or_shorter (suc n) found (longest_within n text))) [
      | None ↦ longest_within_bounds text most n (omega arith)
      | Some kind ↦ (omega arith, le)
    ]

pub longest_bounds : (text : List ℕ) → IsBounded (length text) (longest text)
unfolding longest
longest_bounds text = longest_within_bounds text (length text) (length text) (omega arith)
