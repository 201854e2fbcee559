-- What stands after words at the front of a text.
use Rattle.std.proofs.Common.{◌≡◌, ◌≢◌, ◌<◌, [], slice_index, ◌↔◌, ℕ, ◌+◌, ◌-◌, ◌≤◌, Bool, false, List, length, map, take, drop, Option, Some, None, MatchOption, IsTrue, sym, ap, ap₂, subst, ◌∙◌, arith, ◌++◌, ◌∷◌, get_or, codes}
use Rattle.std.proofs.lemmas.List.{get_or-drop, length-append, length-drop, take-append-drop, take_all}
use Rattle.std.proofs.lemmas.Str.Pattern.{drop_at_char, rfind_char}
use Rattle.std.proofs.lemmas.Str.{IsCharBoundary-from_take, IsCharBoundary-start}
use Rattle.std.specs.Char.{to_ascii_lowercase}
use Rattle.std.specs.List.{slice_range}
use Rattle.std.specs.Str.{IsCharBoundary, IsUtf8, trim}
use Rattle.std.specs.Str.Pattern.{HasCharAt, RFindsChar, SplitsAroundMatch}
use Rattle.expected_output.specs.Saying.{Begins, EndFirst, IsAfter, IsLastLine, Last, Neither, NotLast, OutputFirst, Says, SaysEndLast, SaysOutput, first_line, later_lines, said_end}
use Rattle.std.proofs.Math.Seq.{get_or-append_seam}
use denote.Ref.{Bor}

pub no_front : (text words : List ℕ) → IsUtf8 text → (0 ≤ length words → IsCharBoundary text 0 → IsCharBoundary text (length words) → ⊥) → Begins words text → ⊥
no_front text words utf8 none begins = none (omega arith) (IsCharBoundary-start text utf8) begins.0

front_is : (text front : List ℕ) (n : ℕ) → front ≡ slice_range text 0 n → front ≡ take n text
front_is text front n is = is ∙ ap (λ k. take k text) {x = n - 0} {y = n} (omega arith)

pub other_front : (text words front : List ℕ) (same : Bool) → front ≡ slice_range text 0 (length words) → IsTrue same ↔ (map to_ascii_lowercase front ≡ map to_ascii_lowercase words) → same ≡ false
    → Begins words text → ⊥
other_front text words front same is told other begins =
    let yes : IsTrue same = told.1 (ap (map to_ascii_lowercase) (front_is text front (length words) is) ∙ begins.1) in
    absurd cc

pub after_front : (text words front : List ℕ) (result : Option (Bor (List ℕ))) → IsUtf8 text → IsUtf8 front → length words ≤ length text → front ≡ slice_range text 0 (length words)
    → map to_ascii_lowercase front ≡ map to_ascii_lowercase words
    → MatchOption result (length words ≤ length text → IsCharBoundary text (length words) → IsCharBoundary text (length text) → ⊥)
    (λ x. (x.now ≡ slice_range text (length words) (length text)) × (length x.now + length words ≡ length text) × (length text ≤ length text))
    → MatchOption result (Begins words text → ⊥) (λ x. IsAfter words text x.now)
after_front text words front None utf8 front_utf8 short is same none = λ begins. none short begins.0 (omega arith, λ lt. absurd (omega (arith, lt)))
after_front text words front (Some x) utf8 front_utf8 short is same some =
    let front_is_taken = front_is text front (length words) is in (
      (IsCharBoundary-from_take text (length words) utf8 short (subst IsUtf8 front_is_taken front_utf8), ap (map to_ascii_lowercase) (sym front_is_taken) ∙ same),
      some.0 ∙ take_all (length text - length words) (drop (length words) text) (omega (arith, length-drop (length words) text)),
    )

-- ---- the last line

starts : (text : List ℕ) (i j : ℕ) → HasCharAt 10 text i j → IsCharBoundary text i
starts text i j at =
    let front = drop_at_char 10 text i j at (omega arith) in
    let long = ap length front in
    (omega (arith, long, length-drop i text), λ lt high. absurd (omega (arith, high, at.byte (omega arith))))

pub last_line : (text : List ℕ) (result : Option (Bor (List ℕ) × Bor (List ℕ))) → MatchOption result (RFindsChar 10 text None) (λ x. SplitsAroundMatch (RFindsChar 10) text x.0.now x.1.now)
    → MatchOption result ((before line : List ℕ) → IsLastLine text before line → ⊥) (λ x. IsLastLine text x.0.now x.1.now)
last_line text None none = λ before line last.
    let absent = rfind_char 10 text None none (omega arith) in
    absent (length before) (omega (arith, ap length last.0, length-append before (10 ∷ line))) (ap (λ t. get_or t (length before) 0) last.0 ∙ get_or-append_seam before 10 line 0)
last_line text (Some x) (i, j, finds, front, back, le, short, long) =
    let at = finds.1 in
    let next : j ≡ i + 1 = at.ends in
    let last = rfind_char 10 text (Some i) (j, finds, le, starts text i j at, subst (IsCharBoundary text) (sym at.ends) at.after) (omega arith) in (
      sym (take-append-drop i text) ∙ ap₂ (λ (a b : List ℕ). a ++ b) (sym front) (drop_at_char 10 text i j at (omega arith) ∙ ap (λ (l : List ℕ). 10 ∷ l) (sym back)),
      λ k lt is. last.2 (j + k) (omega (arith, next)) (omega (arith, next, lt, ap length back, length-drop j text)) (sym (get_or-drop j text k 0) ∙ (ap (λ l. get_or l k 0) (sym back) ∙ is)),
    )

no_seam : (line before rest : List ℕ) → line ≡ before ++ 10 ∷ rest → ((i : ℕ) → i < length line → slice_index line i ≢ 10) → ⊥
no_seam line before rest is none =
    none (length before) (omega (arith, ap length is, length-append before (10 ∷ rest))) (ap (λ t. get_or t (length before) 0) is ∙ get_or-append_seam before 10 rest 0)

one_last : (a l b m : List ℕ) → a ++ 10 ∷ l ≡ b ++ 10 ∷ m → ((i : ℕ) → i < length l → slice_index l i ≢ 10) → ((i : ℕ) → i < length m → slice_index m i ≢ 10) → l ≡ m
one_last [] l [] m is f g = cc
one_last [] l (y ∷ b) m is f g = let rest : l ≡ b ++ 10 ∷ m = cc in absurd (no_seam l b m rest f)
one_last (x ∷ a) l [] m is f g = let rest : m ≡ a ++ 10 ∷ l = cc in absurd (no_seam m a l rest g)
one_last (x ∷ a) l (y ∷ b) m is f g = let rest : a ++ 10 ∷ l ≡ b ++ 10 ∷ m = cc in one_last a l b m rest f g

-- a last line that does not say the end is the only one
pub other_last : (text before line : List ℕ) → IsLastLine text before line → (Begins (codes "ends:") line → ⊥) → (b l : List ℕ) → IsLastLine text b l → Begins (codes "ends:") l → ⊥
other_last text before line last never b l other begins =
    never (subst (Begins (codes "ends:")) (sym (one_last before line b l (sym last.0 ∙ other.0) last.1 other.1)) begins)

pub last_says : (text before line words trimmed : List ℕ) (unordered : Bool) → IsLastLine text before line → IsAfter (codes "ends:") line words → trimmed ≡ trim words
    → SaysEndLast text unordered (Some (before, unordered)) (Some trimmed)
last_says text before line words trimmed unordered last after is =
    subst (λ w. SaysEndLast text unordered (Some (before, unordered)) (Some w)) (sym is) (Last before line words last after)

pub not_last : (text : List ℕ) (unordered : Bool) (output : Option (List ℕ × Bool)) (end : Option (Bor (List ℕ))) → output ≡ Some (text, unordered) → end ≡ None
    → ((before line : List ℕ) → IsLastLine text before line → Begins (codes "ends:") line → ⊥) → SaysEndLast text unordered output (said_end end)
not_last text unordered output end is none never =
    subst (λ o. SaysEndLast text unordered o (said_end end)) (sym is) (subst (λ e. SaysEndLast text unordered (Some (text, unordered)) (said_end e)) (sym none) (NotLast never))

-- ---- what a comment says

pub end_first : (comment trimmed rest : List ℕ) (output : Option (List ℕ × Bool)) (end : Option (List ℕ)) → trimmed ≡ trim comment → IsAfter (codes "ends:") trimmed rest
    → SaysOutput (later_lines rest) output → end ≡ Some (trim (first_line rest)) → Says comment output end
end_first comment trimmed rest output end is after says end_is =
    subst (Says comment output) (sym end_is) (EndFirst rest output (subst (λ t. IsAfter (codes "ends:") t rest) is after) says)

pub output_first : (comment trimmed text : List ℕ) (unordered : Bool) (output : Option (List ℕ × Bool)) (end : Option (List ℕ)) → trimmed ≡ trim comment
    → (Begins (codes "ends:") trimmed → ⊥) → SaysOutput trimmed (Some (text, unordered)) → SaysEndLast text unordered output end → Says comment output end
output_first comment trimmed text unordered output end is never says last =
    OutputFirst text unordered output end (subst (λ t. Begins (codes "ends:") t → ⊥) is never) (subst (λ t. SaysOutput t (Some (text, unordered))) is says) last

pub neither : (comment trimmed : List ℕ) → trimmed ≡ trim comment → (Begins (codes "ends:") trimmed → ⊥) → SaysOutput trimmed None → Says comment None None
neither comment trimmed is never says = Neither (subst (λ t. Begins (codes "ends:") t → ⊥) is never) (subst (λ t. SaysOutput t None) is says)
