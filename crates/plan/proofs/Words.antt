-- Variables of several words, and the locals that hold them.
use Rattle.std.proofs.Common.{◌≡◌, ℕ, zero, suc, ◌+◌, ◌≤◌, List, [], ◌∷◌, ◌++◌, length, take, drop, Some, refl, sym, ap, ◌∙◌, subst, arith, slice_get, length-append, length-drop}
use Rattle.std.proofs.Math.Seq.{take-append_seam}
use Rattle.std.proofs.lemmas.Option.{same_Some}
use Rattle.bytecode.specs.declared.instr.WordKind.{WordKind}
use Rattle.bytecode.specs.Machine.{put_at}
use Rattle.bytecode.specs.Rules.{AllHave}
use Rattle.word.specs.declared.value.Word.{Word}

abbrev pub Words : Type 0
Words = List Word

-- n words from a on
abbrev pub part : ℕ → ℕ → Words → Words
part a n locals = take n (drop a locals)

-- ---- words that are put into locals

pub put_suc : (p : ℕ) (ws : Words) (v : Word) (ls : Words) → put_at (suc p) ws (v ∷ ls) ≡ v ∷ put_at p ws ls
put_suc p ws v ls = let e : suc p + length ws ≡ suc (p + length ws) = omega arith in ap (λ n. v ∷ ((take p ls ++ ws) ++ drop n (v ∷ ls))) e

pub put_zero : (ws ls : Words) → put_at 0 ws ls ≡ ws ++ drop (length ws) ls
put_zero ws ls = let e : 0 + length ws ≡ length ws = omega arith in ap (λ n. ws ++ drop n ls) e

-- there are as many locals as before
pub put_length : (p : ℕ) (ws ls : Words) → p + length ws ≤ length ls → length (put_at p ws ls) ≡ length ls
put_length zero ws ls le = ap length (put_zero ws ls) ∙ length-append ws (drop (length ws) ls) ∙ (let e = length-drop (length ws) ls in omega (arith, e, le))
put_length (suc p) ws [] le = absurd (omega (arith, le))
put_length (suc p) ws (v ∷ ls) le = ap length (put_suc p ws v ls) ∙ ap suc (put_length p ws ls (omega (arith, le)))

-- the words that were put are there
pub put_there : (p : ℕ) (ws ls : Words) → p + length ws ≤ length ls → part p (length ws) (put_at p ws ls) ≡ ws
put_there zero ws ls le = ap (λ (l : Words). take (length ws) l) (put_zero ws ls) ∙ take-append_seam ws (drop (length ws) ls)
put_there (suc p) ws [] le = absurd (omega (arith, le))
put_there (suc p) ws (v ∷ ls) le = ap (part (suc p) (length ws)) (put_suc p ws v ls) ∙ put_there p ws ls (omega (arith, le))

-- what lies before them stays
pub put_before : (p q n : ℕ) (ws ls : Words) → q + n ≤ p → p ≤ length ls → part q n (put_at p ws ls) ≡ part q n ls
put_before p zero zero ws ls le within = refl
put_before zero zero (suc n) ws ls le within = absurd (omega (arith, le))
put_before (suc p) zero (suc n) ws [] le within = absurd (omega (arith, within))
put_before (suc p) zero (suc n) ws (v ∷ ls) le within = ap (part 0 (suc n)) (put_suc p ws v ls) ∙ ap (λ (l : Words). v ∷ l) (put_before p zero n ws ls (omega (arith, le)) (omega (arith, within)))
put_before zero (suc q) n ws ls le within = absurd (omega (arith, le))
put_before (suc p) (suc q) n ws [] le within = absurd (omega (arith, within))
put_before (suc p) (suc q) n ws (v ∷ ls) le within = ap (part (suc q) n) (put_suc p ws v ls) ∙ put_before p q n ws ls (omega (arith, le)) (omega (arith, within))

past : (q : ℕ) (ws ls : Words) → length ws ≤ q → length ws ≤ length ls → drop q (ws ++ drop (length ws) ls) ≡ drop q ls
past q [] ls le within = refl
past zero (w ∷ ws) ls le within = absurd (omega (arith, le))
past (suc q) (w ∷ ws) [] le within = absurd (omega (arith, within))
past (suc q) (w ∷ ws) (v ∷ ls) le within = past q ws ls (omega (arith, le)) (omega (arith, within))

-- and what comes after them
pub put_after : (p q n : ℕ) (ws ls : Words) → p + length ws ≤ q → p + length ws ≤ length ls → part q n (put_at p ws ls) ≡ part q n ls
put_after zero q n ws ls le within = ap (part q n) (put_zero ws ls) ∙ ap (take n) (past q ws ls (omega (arith, le)) (omega (arith, within)))
put_after (suc p) zero n ws ls le within = absurd (omega (arith, le))
put_after (suc p) (suc q) n ws [] le within = absurd (omega (arith, within))
put_after (suc p) (suc q) n ws (v ∷ ls) le within = ap (part (suc q) n) (put_suc p ws v ls) ∙ put_after p q n ws ls (omega (arith, le)) (omega (arith, within))

-- words put into a part of a part
take_put : (n : ℕ) (ws ls : Words) → length ws ≤ n → take n (ws ++ drop (length ws) ls) ≡ ws ++ drop (length ws) (take n ls)
take_put n [] ls le = refl
take_put zero (w ∷ ws) ls le = absurd (omega (arith, le))
take_put (suc n) (w ∷ ws) [] le = ap (λ (l : Words). w ∷ l) (ap (λ (l : Words). take n (ws ++ l)) (sym (nil (length ws))) ∙ take_put n ws [] (omega (arith, le)) ∙ ap (λ (l : Words). ws ++ l) (nothing (length ws) n)) where
  nil : (k : ℕ) → (λ (e : Words). drop k e) [] ≡ []
  nil zero = refl
  nil (suc k) = refl

  nothing : (k n : ℕ) → (λ (e : Words). drop k (take n e)) [] ≡ []
  nothing zero zero = refl
  nothing zero (suc n) = refl
  nothing (suc k) zero = refl
  nothing (suc k) (suc n) = refl
take_put (suc n) (w ∷ ws) (v ∷ ls) le = ap (λ (l : Words). w ∷ l) (take_put n ws ls (omega (arith, le)))

put_first : (a n : ℕ) (ws ls : Words) → a + length ws ≤ n → n ≤ length ls → take n (put_at a ws ls) ≡ put_at a ws (take n ls)
put_first zero n ws ls le within = ap (λ (l : Words). take n l) (put_zero ws ls) ∙ take_put n ws ls (omega (arith, le)) ∙ sym (put_zero ws (take n ls))
put_first (suc a) zero ws ls le within = absurd (omega (arith, le))
put_first (suc a) (suc n) ws [] le within = absurd (omega (arith, within))
put_first (suc a) (suc n) ws (v ∷ ls) le within =
    ap (λ (l : Words). take (suc n) l) (put_suc a ws v ls) ∙ ap (λ (l : Words). v ∷ l) (put_first a n ws ls (omega (arith, le)) (omega (arith, within))) ∙ sym (put_suc a ws v (take n ls))

pub put_inside : (p a n : ℕ) (ws ls : Words) → a + length ws ≤ n → p + n ≤ length ls → part p n (put_at (p + a) ws ls) ≡ put_at a ws (part p n ls)
put_inside zero a n ws ls le within = let e : a ≡ 0 + a = omega arith in subst (λ m. part 0 n (put_at m ws ls) ≡ put_at a ws (part 0 n ls)) e (put_first a n ws ls le (omega (arith, within)))
put_inside (suc p) a n ws [] le within = absurd (omega (arith, within))
put_inside (suc p) a n ws (v ∷ ls) le within = let e : suc p + a ≡ suc (p + a) = omega arith in ap (λ m. part (suc p) n (put_at m ws (v ∷ ls))) e ∙ ap (part (suc p) n) (put_suc (p + a) ws v ls) ∙ put_inside p a n ws ls le (omega (arith, within))

-- ---- variables

-- the locals of a variable: its first one, and their kinds
pub record Slot : Type 0 where
  pub local : ℕ
  pub kinds : List WordKind

abbrev pub end_of : Slot → ℕ
end_of s = s.local + length s.kinds

-- each variable's locals come after those of the one before
abbrev pub Rising : ℕ → ℕ → List Slot → Type 0
Rising b next [] = b ≤ next
Rising b next (s ∷ sc) = (b ≤ s.local) × Rising (end_of s) next sc

-- each variable's words are in its locals, and are of its kinds
abbrev pub Holds : Words → List Words → List Slot → Type 0
Holds ls [] [] = Unit {0}
Holds ls (ws ∷ env) (s ∷ sc) = (part s.local (length s.kinds) ls ≡ ws) × AllHave ws s.kinds × Holds ls env sc
Holds ls env sc = ⊥

-- a variable gets these words
abbrev pub put : ℕ → Words → List Words → List Words
put x ws [] = []
put zero ws (v ∷ env) = ws ∷ env
put (suc x) ws (v ∷ env) = v ∷ put x ws env

rising_above : (sc : List Slot) (b next x : ℕ) (s : Slot) → slice_get sc x ≡ Some s → Rising b next sc → b ≤ s.local
rising_above [] b next x s e r = absurd cc
rising_above (t ∷ sc) b next zero s e r = let same : t ≡ s = same_Some t s e in omega (arith, ap (λ (z : Slot). z.local) same, r.0)
rising_above (t ∷ sc) b next (suc x) s e r = let a = rising_above sc (end_of t) next x s e r.1 in omega (arith, a, r.0)

rising_most : (sc : List Slot) (b next : ℕ) → Rising b next sc → b ≤ next
rising_most [] b next r = r
rising_most (s ∷ sc) b next r = let m = rising_most sc (end_of s) next r.1 in omega (arith, m, r.0)

-- words below all of them are written
holds_below : (ls : Words) (env : List Words) (sc : List Slot) (b next p : ℕ) (ws : Words) → p + length ws ≤ b → p + length ws ≤ length ls → Rising b next sc → Holds ls env sc → Holds (put_at p ws ls) env sc
holds_below ls [] [] b next p ws lt within r h = tt
holds_below ls [] (s ∷ sc) b next p ws lt within r h = absurd h
holds_below ls (v ∷ env) [] b next p ws lt within r h = absurd h
holds_below ls (v ∷ env) (s ∷ sc) b next p ws lt within r h =
    (put_after p s.local (length s.kinds) ws ls (omega (arith, lt, r.0)) within ∙ h.0, h.1, holds_below ls env sc (end_of s) next p ws (omega (arith, lt, r.0)) within r.1 h.2)

-- a variable's words are written
pub holds_put : (ls : Words) (env : List Words) (sc : List Slot) (b next x : ℕ) (s : Slot) (ws : Words) → slice_get sc x ≡ Some s → length ws ≡ length s.kinds → end_of s ≤ length ls → Rising b next sc → Holds ls env sc → AllHave ws s.kinds → Holds (put_at s.local ws ls) (put x ws env) sc
holds_put ls [] [] b next x s ws e n within r h have = absurd cc
holds_put ls [] (t ∷ sc) b next x s ws e n within r h have = absurd h
holds_put ls (v ∷ env) [] b next x s ws e n within r h have = absurd h
holds_put ls (v ∷ env) (t ∷ sc) b next zero s ws e n within r h have =
    let same : s ≡ t = sym (same_Some t s e) in
    let there : part s.local (length s.kinds) (put_at s.local ws ls) ≡ ws = ap (λ m. part s.local m (put_at s.local ws ls)) (sym n) ∙ put_there s.local ws ls (omega (arith, within, n)) in
    (subst (λ (z : Slot). part z.local (length z.kinds) (put_at s.local ws ls) ≡ ws) same there, subst (λ (z : Slot). AllHave ws z.kinds) same have, holds_below ls env sc (end_of t) next s.local ws (omega (arith, n, ap end_of same)) (omega (arith, n, within)) r.1 h.2)
holds_put ls (v ∷ env) (t ∷ sc) b next (suc x) s ws e n within r h have =
    let above = rising_above sc (end_of t) next x s e r.1 in
    (put_before s.local t.local (length t.kinds) ws ls above (omega (arith, within)) ∙ h.0, h.1, holds_put ls env sc (end_of t) next x s ws e n within r.1 h.2 have)

-- a new variable comes after all others
pub holds_new : (ls : Words) (env : List Words) (sc : List Slot) (b next : ℕ) (ks : List WordKind) (ws : Words) → length ws ≡ length ks → next + length ks ≤ length ls → Rising b next sc → Holds ls env sc → AllHave ws ks → Holds (put_at next ws ls) (env ++ ws ∷ []) (sc ++ record { local = next; kinds = ks } ∷ [])
holds_new ls [] [] b next ks ws n within r h have = (ap (λ m. part next m (put_at next ws ls)) (sym n) ∙ put_there next ws ls (omega (arith, within, n)), have, tt)
holds_new ls [] (s ∷ sc) b next ks ws n within r h have = absurd h
holds_new ls (v ∷ env) [] b next ks ws n within r h have = absurd h
holds_new ls (v ∷ env) (s ∷ sc) b next ks ws n within r h have =
    (put_before next s.local (length s.kinds) ws ls (rising_most sc (end_of s) next r.1) (omega (arith, within)) ∙ h.0, h.1, holds_new ls env sc (end_of s) next ks ws n within r.1 h.2 have)
