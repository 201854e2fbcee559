-- Words made for kinds, one after the other.
use Rattle.std.proofs.Common.{◌≡◌, ℕ, zero, suc, ◌+◌, ◌<◌, List, [], ◌∷◌, ◌++◌, length, take, drop, refl, sym, ap, ◌∙◌, subst, arith, get_or, slice_set, add-one, append_assoc}
use Rattle.std.proofs.Math.Seq.{drop-nil}
use Rattle.bytecode.specs.declared.instr.WordKind.{WordKind}
use Rattle.bytecode.specs.Machine.{as_kind, fitted, zero_of}
use Rattle.operands.specs.Words.{word_for}
use Rattle.word.specs.declared.value.Word.{Word}

fitted_suc : (ks : List WordKind) (ws : List Word) (i : ℕ) (d : WordKind) → i < length ks → fitted (drop i ks) (drop i ws) ≡ word_for (get_or ks i d) (drop i ws) ∷ fitted (drop (suc i) ks) (drop (suc i) ws)
fitted_suc [] ws i d h = absurd (omega (arith, h))
fitted_suc (k ∷ ks) [] zero d h = refl
fitted_suc (k ∷ ks) (w ∷ ws) zero d h = refl
fitted_suc (k ∷ ks) [] (suc i) d h = subst (λ (l : List Word). fitted (drop i ks) l ≡ word_for (get_or ks i d) l ∷ fitted (drop (suc i) ks) []) (drop-nil i) (fitted_suc ks [] i d (omega (arith, h)))
fitted_suc (k ∷ ks) (w ∷ ws) (suc i) d h = fitted_suc ks ws i d (omega (arith, h))

-- one more word was made
pub fitted_more : (made new : List Word) (ks : List WordKind) (ws : List Word) (i : ℕ) (d : WordKind) (w : Word) → i < length ks → made ++ fitted (drop i ks) (drop i ws) ≡ fitted ks ws → w ≡ word_for (get_or ks i d) (drop i ws) → new ≡ made ++ w ∷ [] → new ++ fitted (drop (i + 1) ks) (drop (i + 1) ws) ≡ fitted ks ws
fitted_more made new ks ws i d w h inv is e =
    let rest = fitted (drop (i + 1) ks) (drop (i + 1) ws) in
    let s : fitted (drop i ks) (drop i ws) ≡ w ∷ rest = rw add-one (fitted_suc ks ws i d h ∙ ap (λ (v : Word). v ∷ fitted (drop (suc i) ks) (drop (suc i) ws)) (sym is)) in
    ap (λ (l : List Word). l ++ rest) e ∙ append_assoc made (w ∷ []) rest ∙ ap (λ (l : List Word). made ++ l) (sym s) ∙ inv

zeros_suc : (ks : List WordKind) (i : ℕ) (d : WordKind) → i < length ks → fitted (drop i ks) [] ≡ zero_of (get_or ks i d) ∷ fitted (drop (suc i) ks) []
zeros_suc [] i d h = absurd (omega (arith, h))
zeros_suc (k ∷ ks) zero d h = refl
zeros_suc (k ∷ ks) (suc i) d h = zeros_suc ks i d (omega (arith, h))

-- one more zero was made
pub zeros_more : (made new all : List Word) (ks : List WordKind) (i : ℕ) (d : WordKind) (w : Word) → i < length ks → made ++ fitted (drop i ks) [] ≡ all → w ≡ zero_of (get_or ks i d) → new ≡ made ++ w ∷ [] → new ++ fitted (drop (i + 1) ks) [] ≡ all
zeros_more made new all ks i d w h inv is e =
    let rest = fitted (drop (i + 1) ks) [] in
    let s : fitted (drop i ks) [] ≡ w ∷ rest = rw add-one (zeros_suc ks i d h ∙ ap (λ (v : Word). v ∷ fitted (drop (suc i) ks) []) (sym is)) in
    ap (λ (l : List Word). l ++ rest) e ∙ append_assoc made (w ∷ []) rest ∙ ap (λ (l : List Word). made ++ l) (sym s) ∙ inv

-- a word was put first, and zeros after it
pub first_put : (ls : List Word) (ks : List WordKind) (d : WordKind) (w : Word) → length ls ≡ length ks → 0 < length ks → take 1 (slice_set ls 0 (as_kind (get_or ks 0 d) w)) ++ fitted (drop 1 ks) [] ≡ fitted ks (w ∷ [])
first_put ls [] d w same some = absurd (omega (arith, some))
first_put [] (k ∷ ks) d w same some = absurd (omega (arith, same))
first_put (l ∷ ls) (k ∷ ks) d w same some = refl
