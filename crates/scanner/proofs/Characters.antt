-- The character with which a text begins.
use Rattle.std.proofs.Common.{◌≡◌, ℕ, ◌+◌, ◌-◌, ◌/◌, ◌≤◌, ◌<◌, Bool, true, false, ◌&&◌, cond, ltb, List, [], ◌∷◌, ◌++◌, length, take, drop, get_or, Option, Some, None, inl, inr, refl, sym, ap, ◌∙◌, subst, arith, append-nil, append_assoc}
use lib.Utf8.{encode, encodes, scalar, scalars, scalar_cases, low_scalar, next}
use Rattle.std.proofs.lemmas.Bool.{cases_lt}
use Rattle.std.proofs.lemmas.Str.{encode_ascii, chars-encodes, is_utf8-from_IsUtf8, IsUtf8-from_is_utf8, IsUtf8-encode, IsUtf8-append, IsUtf8-drop, IsCharBoundary-from_take, chars_from_encodes, chars-append}
use Rattle.std.proofs.lemmas.List.{take_at, take_min, take-take, take-append-drop, drop-take, length-take, length-take-le, length-drop, length-append, get_or-take}
use Rattle.std.proofs.lemmas.List.Folds.{list_all-append}
use Rattle.std.proofs.Math.Seq.{take-add}
use Rattle.std.specs.List.{list_all}
use Rattle.std.specs.Prelude.{slice_get}
use Rattle.std.specs.Str.{is_utf8, chars, IsUtf8, IsCharBoundary, continuation_len}
use Rattle.scanner.proofs.Ascii.{and-left, and-right}
use Rattle.scanner.specs.Letters.{is_letter, is_letter_or_digit, front_bytes, first_of, front_char, passes, begins_letter, begins_letter_or_digit, are_letters_and_digits, is_name}

low : (c n : ℕ) → c < n → ltb c n ≡ true
low c n lt = grind arith

high : (c n : ℕ) → n ≤ c → ltb c n ≡ false
high c n le = grind arith

encode_2 : (c : ℕ) → 128 ≤ c → c < 2048 → encode c ≡ (192 + c / 64) ∷ next c ∷ []
unfolding encode
encode_2 c ge lt = rw (high c 128 ge, low c 2048 lt) refl

encode_3 : (c : ℕ) → 2048 ≤ c → c < 65536 → encode c ≡ (224 + c / 4096) ∷ next (c / 64) ∷ next c ∷ []
unfolding encode
encode_3 c ge lt = rw (high c 128 (omega arith), high c 2048 ge, low c 65536 lt) refl

encode_4 : (c : ℕ) → 65536 ≤ c → encode c ≡ (240 + c / 262144) ∷ next (c / 4096) ∷ next (c / 64) ∷ next c ∷ []
unfolding encode
encode_4 c ge = rw (high c 128 (omega arith), high c 2048 (omega arith), high c 65536 ge) refl

-- the first byte of a character says how many bytes it has
lead : (c : ℕ) (rest : List ℕ) → c < 1114112 → 1 + continuation_len (get_or (encode c ++ rest) 0 0) ≡ length (encode c)
lead c rest lt =
    elim (cases_lt c 128) [
      | inl l1 ↦ rw (encode_ascii c l1, low c 128 l1) refl
      | inr g1 ↦ elim (cases_lt c 2048) [
        | inl l2 ↦ let top : 192 + c / 64 < 224 = omega arith in rw (encode_2 c g1 l2, high (192 + c / 64) 128 (omega arith), low (192 + c / 64) 224 top) refl
        | inr g2 ↦ elim (cases_lt c 65536) [
          | inl l3 ↦ let top : 224 + c / 4096 < 240 = omega arith in rw (encode_3 c g2 l3, high (224 + c / 4096) 128 (omega arith), high (224 + c / 4096) 224 (omega arith), low (224 + c / 4096) 240 top) refl
          | inr g3 ↦ rw (encode_4 c g3, high (240 + c / 262144) 128 (omega arith), high (240 + c / 262144) 224 (omega arith), high (240 + c / 262144) 240 (omega arith)) refl
        ]
      ]
    ]

scalar_below : (c : ℕ) → scalar c ≡ true → c < 1114112
scalar_below c is = elim (scalar_cases c is) [ inl lt ↦ omega arith | inr h ↦ h.1 ]

front_bytes_encode : (c : ℕ) (rest : List ℕ) → scalar c ≡ true → front_bytes (encode c ++ rest) ≡ encode c
front_bytes_encode c rest is = rw (lead c rest (scalar_below c is)) (take_at (encode c) rest _ refl)

chars_encode : (c : ℕ) → scalar c ≡ true → chars (encode c) ≡ c ∷ []
chars_encode c is =
    let one : scalars (c ∷ []) ≡ true = rw is refl in
    let all = chars-encodes (c ∷ []) one in
    rw append-nil at all

pub front_encode : (c : ℕ) (rest : List ℕ) → scalar c ≡ true → front_char (encode c ++ rest) ≡ Some c
front_encode c rest is =
    let utf8 : is_utf8 (encode c) ≡ true = is_utf8-from_IsUtf8 (encode c) (IsUtf8-encode c is) in
    ap first_of (front_bytes_encode c rest is) ∙ rw (utf8, chars_encode c is) refl

-- ---- a text that begins with UTF-8

-- the character with which these bytes, and a text that begins with them, begin
record Opens (bytes text : List ℕ) : Type 0 where
  char : ℕ
  rest : List ℕ
  chars_are : chars bytes ≡ char ∷ rest
  bytes_begin : front_char bytes ≡ Some char
  text_begins : front_char text ≡ Some char

opens : (bytes more : List ℕ) → IsUtf8 bytes → 1 ≤ length bytes → Opens bytes (bytes ++ more)
opens bytes more u some = go u.0 u.1.0 u.1.1 where
  go : (cs : List ℕ) → scalars cs ≡ true → encodes cs ≡ bytes → Opens bytes (bytes ++ more)
  go [] is e = let none : length bytes ≡ 0 = ap length (sym e) in absurd (omega arith)
  go (c ∷ cs) is e =
      let scalar_is = and-left (scalar c) (scalars cs) is in
      record {
        char = c;
        rest = cs;
        chars_are = ap chars (sym e) ∙ chars-encodes (c ∷ cs) is;
        bytes_begin = ap front_char (sym e) ∙ front_encode c (encodes cs) scalar_is;
        text_begins = ap (λ (bs : List ℕ). front_char (bs ++ more)) (sym e) ∙ ap front_char (append_assoc (encode c) (encodes cs) more) ∙ front_encode c (encodes cs ++ more) scalar_is;
      }

prefix_opens : (n : ℕ) (text : List ℕ) → IsUtf8 (take n text) → 1 ≤ n → n ≤ length text → Opens (take n text) text
prefix_opens n text u some le =
    subst (λ (ws : List ℕ). Opens (take n text) ws) (take-append-drop n text)
    (opens (take n text) (drop n text) u (omega (arith, length-take-le n text le)))

-- ---- the first character

first_same : (n : ℕ) (ws : List ℕ) → get_or (take (1 + n) ws) 0 0 ≡ get_or ws 0 0
first_same n ws = get_or-take (1 + n) ws 0 0 (omega arith)

no_bytes : (xs : List ℕ) → length xs ≡ 0 → xs ≡ []
no_bytes [] e = refl
no_bytes (x ∷ xs) e = absurd (omega arith)

-- a character that a text begins with
record Front (text : List ℕ) (c : ℕ) : Type 0 where
  scalar_is : scalar c ≡ true
  bytes : front_bytes text ≡ encode c

front_is : (text : List ℕ) (c : ℕ) → front_char text ≡ Some c → Front text c
front_is text c e = checked (is_utf8 (front_bytes text)) refl e where
  decoded : (cs : List ℕ) → scalars cs ≡ true → encodes cs ≡ front_bytes text → slice_get cs 0 ≡ Some c → Front text c
  decoded [] is bytes first = absurd cc
  decoded (d ∷ ds) is bytes first =
      let same : d ≡ c = cc in
      let scalar_is = and-left (scalar d) (scalars ds) is in
      let long = lead d (encodes ds) (scalar_below d scalar_is) in
      let firsts : get_or (encode d ++ encodes ds) 0 0 ≡ get_or text 0 0 = ap (λ (bs : List ℕ). get_or bs 0 0) bytes ∙ first_same (continuation_len (get_or text 0 0)) text in
      let width = rw firsts at long in
      let none : encodes ds ≡ [] = no_bytes (encodes ds) (omega (arith, ap length bytes, length-append (encode d) (encodes ds), length-take (1 + continuation_len (get_or text 0 0)) text, width)) in
      let whole : encode d ≡ front_bytes text = sym (append-nil (encode d)) ∙ ap (λ (bs : List ℕ). encode d ++ bs) (sym none) ∙ bytes in
      record {
        scalar_is = subst (λ (x : ℕ). scalar x ≡ true) same scalar_is;
        bytes = sym whole ∙ ap encode same;
      }

  checked : (b : Bool) → is_utf8 (front_bytes text) ≡ b → cond b (slice_get (chars (front_bytes text)) 0) None ≡ Some c → Front text c
  checked true is first =
      let u = IsUtf8-from_is_utf8 (front_bytes text) is in
      let own : u.0 ≡ chars (front_bytes text) = chars_from_encodes u.0 (front_bytes text) u u.1.1 in
      decoded u.0 u.1.0 u.1.1 (ap (λ (cs : List ℕ). slice_get cs 0) own ∙ first)
  checked false is first = absurd cc

-- the bytes of the first character are those at the front
pub take_front : (text : List ℕ) → take (length (front_bytes text)) text ≡ front_bytes text
take_front text = go (1 + continuation_len (get_or text 0 0)) text where
  go : (n : ℕ) (ws : List ℕ) → take (length (take n ws)) ws ≡ take n ws
  go n ws = ap (λ (m : ℕ). take m ws) (length-take n ws) ∙ take_min n ws

pub front_len_le : (text : List ℕ) → length (front_bytes text) ≤ length text
front_len_le text = omega (arith, length-take (1 + continuation_len (get_or text 0 0)) text)

pub front_ascii : (text : List ℕ) → 1 ≤ length text → get_or text 0 0 < 128 → front_char text ≡ Some (get_or text 0 0)
front_ascii [] some lt = absurd (omega arith)
front_ascii (b ∷ ws) some lt =
    ap (λ (bs : List ℕ). front_char (bs ++ ws)) (sym (encode_ascii b lt)) ∙ front_encode b ws (low_scalar b (omega arith))

pub first_of_utf8 : (bs : List ℕ) → IsUtf8 bs → first_of bs ≡ slice_get (chars bs) 0
first_of_utf8 bs u = rw (is_utf8-from_IsUtf8 bs u) refl

pub first_of_other : (bs : List ℕ) → ¬ (IsUtf8 bs) → first_of bs ≡ None
first_of_other bs other = go (is_utf8 bs) refl where
  go : (b : Bool) → is_utf8 bs ≡ b → cond b (slice_get (chars bs) 0) None ≡ None
  go true is = absurd (other (IsUtf8-from_is_utf8 bs is))
  go false is = refl

-- ---- names

pub front_none : front_char [] ≡ None
unfolding is_utf8 chars
front_none = refl

pub some_bytes : (text : List ℕ) → begins_letter_or_digit text ≡ true → 1 ≤ length text
some_bytes [] is = let wrong : true ≡ false = sym is ∙ ap (passes is_letter_or_digit) front_none in absurd cc
some_bytes (b ∷ ws) is = omega arith

passed_char : (p : ℕ → Bool) (found : Option ℕ) → passes p found ≡ true → (c : ℕ) × (found ≡ Some c) × (p c ≡ true)
passed_char p None is = absurd cc
passed_char p (Some c) is = (c, refl, is)

pub letter_is_either : (text : List ℕ) → begins_letter text ≡ true → begins_letter_or_digit text ≡ true
letter_is_either text is =
    let p = passed_char is_letter (front_char text) is in
    rw (p.1, p.2) refl

-- a character more of a name
pub one_char_more : (at : ℕ) (text : List ℕ) → are_letters_and_digits (take at text) ≡ true → begins_letter_or_digit (drop at text) ≡ true
    → are_letters_and_digits (take (at + length (front_bytes (drop at text))) text) ≡ true
one_char_more at text all begins =
    let p = passed_char is_letter_or_digit (front_char (drop at text)) begins in
    let front = front_is (drop at text) p.0 p.1 in
    let u = IsUtf8-from_is_utf8 (take at text) (and-left _ _ all) in
    let v : IsUtf8 (encode p.0) = IsUtf8-encode p.0 front.scalar_is in
    let is : take (at + length (front_bytes (drop at text))) text ≡ take at text ++ encode p.0 = take-add at (length (front_bytes (drop at text))) text ∙ ap (λ (bs : List ℕ). take at text ++ bs) (take_front (drop at text) ∙ front.bytes) in
    let utf8 : is_utf8 (take at text ++ encode p.0) ≡ true = is_utf8-from_IsUtf8 _ (IsUtf8-append (take at text) (encode p.0) u v) in
    let cs : chars (take at text ++ encode p.0) ≡ chars (take at text) ++ p.0 ∷ [] = chars-append (take at text) (encode p.0) u ∙ ap (λ (xs : List ℕ). chars (take at text) ++ xs) (chars_encode p.0 front.scalar_is) in
    let every : list_all is_letter_or_digit (chars (take at text)) ≡ true = and-right _ _ all in
    let last : list_all is_letter_or_digit (p.0 ∷ []) ≡ true = rw p.2 refl in
    let both : list_all is_letter_or_digit (chars (take at text) ++ p.0 ∷ []) ≡ true = list_all-append is_letter_or_digit (chars (take at text)) (p.0 ∷ []) ∙ rw (every, last) refl in
    rw (is, utf8, cs, both) refl

-- what begins with a letter and goes on in letters and digits is a name
pub name_is : (n : ℕ) (text : List ℕ) → 1 ≤ n → n ≤ length text → begins_letter text ≡ true → are_letters_and_digits (take n text) ≡ true → is_name (take n text) ≡ true
name_is n text some le begins all =
    let o = prefix_opens n text (IsUtf8-from_is_utf8 (take n text) (and-left _ _ all)) some le in
    let same : front_char (take n text) ≡ front_char text = o.bytes_begin ∙ sym o.text_begins in
    rw (all, ap (passes is_letter) same) begins

rest_passes : (front rest : List ℕ) (c : ℕ) (cs : List ℕ) → IsUtf8 front → chars rest ≡ c ∷ cs → list_all is_letter_or_digit (chars (front ++ rest)) ≡ true → is_letter_or_digit c ≡ true
rest_passes front rest c cs u is all =
    let parts = chars-append front rest u in
    let every : list_all is_letter_or_digit (chars front ++ (c ∷ cs)) ≡ true = rw (parts, is) at all in
    let last : list_all is_letter_or_digit (c ∷ cs) ≡ true = and-right _ _ (sym (list_all-append is_letter_or_digit (chars front) (c ∷ cs)) ∙ every) in
    and-left _ _ last

contrary : (found : Option ℕ) (c : ℕ) → found ≡ Some c → is_letter_or_digit c ≡ true → passes is_letter_or_digit found ≡ false → ⊥
contrary found c is here none =
    let wrong : passes is_letter_or_digit (Some c) ≡ false = rw is at none in
    let impossible : true ≡ false = sym here ∙ wrong in
    cc

-- if no letter or digit follows, no longer text is a name
pub name_ends : (n m : ℕ) (text : List ℕ) → n < m → m ≤ length text → are_letters_and_digits (take n text) ≡ true → begins_letter_or_digit (drop n text) ≡ false → is_name (take m text) ≡ false
name_ends n m text lt le all end = go (are_letters_and_digits (take m text)) refl where
  go : (b : Bool) → are_letters_and_digits (take m text) ≡ b → b && begins_letter (take m text) ≡ false
  go false is = refl
  go true is =
      let k = m - n in
      let sum : n + k ≡ m = omega arith in
      let rest : List ℕ = take k (drop n text) in
      let parts : take m text ≡ take n text ++ rest = ap (λ (x : ℕ). take x text) (sym sum) ∙ take-add n k text in
      let u = IsUtf8-from_is_utf8 (take n text) (and-left _ _ all) in
      let w = IsUtf8-from_is_utf8 (take m text) (and-left _ _ is) in
      let len : n ≤ length (take m text) = omega (arith, length-take-le m text le) in
      let cut : IsCharBoundary (take m text) n = IsCharBoundary-from_take (take m text) n w len (subst IsUtf8 (sym (take-take n m text (omega arith))) u) in
      let same : drop n (take m text) ≡ rest = ap (λ (x : ℕ). drop n (take x text)) (sym sum) ∙ drop-take n k text in
      let v : IsUtf8 rest = subst IsUtf8 same (IsUtf8-drop (take m text) n w cut) in
      let o = prefix_opens k (drop n text) v (omega arith) (omega (arith, length-drop n text)) in
      let passes_all : list_all is_letter_or_digit (chars (take m text)) ≡ true = and-right _ _ is in
      let passing : list_all is_letter_or_digit (chars (take n text ++ rest)) ≡ true = rw parts at passes_all in
      let here : is_letter_or_digit o.char ≡ true = rest_passes (take n text) rest o.char o.rest u o.chars_are passing in
      absurd (contrary (front_char (drop n text)) o.char o.text_begins here end)

-- if no letter begins, no name does
pub no_name : (m : ℕ) (text : List ℕ) → 1 ≤ m → m ≤ length text → begins_letter text ≡ false → is_name (take m text) ≡ false
no_name m text some le none = go (are_letters_and_digits (take m text)) refl where
  go : (b : Bool) → are_letters_and_digits (take m text) ≡ b → b && begins_letter (take m text) ≡ false
  go false is = refl
  go true is =
      let o = prefix_opens m text (IsUtf8-from_is_utf8 (take m text) (and-left _ _ is)) some le in
      ap (passes is_letter) (o.bytes_begin ∙ sym o.text_begins) ∙ none

-- no bytes are letters and digits alone
pub none_are : (text : List ℕ) → are_letters_and_digits (take 0 text) ≡ true
unfolding is_utf8 chars
none_are text = refl

-- ---- names, by their characters

name_parts : (letter either all : Bool) → (letter ≡ true → either ≡ true) → (either && all) && letter ≡ letter && all
name_parts true either true h = rw (h refl) refl
name_parts true either false h = rw (h refl) refl
name_parts false true true h = refl
name_parts false true false h = refl
name_parts false false all h = refl

pub is_name-encodes : (c : ℕ) (cs : List ℕ) → scalars (c ∷ cs) ≡ true → is_name (encodes (c ∷ cs)) ≡ (is_letter c && list_all is_letter_or_digit cs)
is_name-encodes c cs is =
    let scalar_is = and-left (scalar c) (scalars cs) is in
    let utf8 : is_utf8 (encodes (c ∷ cs)) ≡ true = is_utf8-from_IsUtf8 (encodes (c ∷ cs)) (c ∷ cs, (is, refl)) in
    let begins : begins_letter (encodes (c ∷ cs)) ≡ is_letter c = ap (passes is_letter) (front_encode c (encodes cs) scalar_is) in
    let all : list_all is_letter_or_digit (chars (encodes (c ∷ cs))) ≡ (is_letter_or_digit c && list_all is_letter_or_digit cs) = ap (list_all is_letter_or_digit) (chars-encodes (c ∷ cs) is) in
    rw (utf8, all, begins) (name_parts (is_letter c) (is_letter_or_digit c) (list_all is_letter_or_digit cs) (λ e. rw e refl))
