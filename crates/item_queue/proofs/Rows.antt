-- Items that are stored word by word.
use Rattle.std.proofs.Common.{◌≡◌, ◌≢◌, ◌-◌, ℕ, zero, suc, ◌+◌, ◌*◌, ◌<◌, ◌≤◌, sym, ap, ◌∙◌, arith, refl, List, [], ◌∷◌, ◌++◌, length, append_assoc, Option, None}
use Rattle.std.specs.Prelude.{drop, slice_index_or, take}
use Rattle.std.proofs.Math.Seq.{take-length}
use Rattle.std.proofs.lemmas.List.{drop-append-le, length-drop, length-take-le, take-append-le}
use Rattle.word.specs.declared.value.Word.{Word}
use Rattle.word.specs.Values.{Item}
use Rattle.item_queue.specs.Items.{items_in, front_word, only_word}

pub length_items_in : (w n : ℕ) (ws : List Word) → length (items_in w n ws) ≡ n
length_items_in w zero ws = refl
length_items_in w (suc n) ws = ap suc (length_items_in w n (drop w ws))

pub few : (w n k : ℕ) → 0 < w → k ≡ w * n → n ≤ k
few zero n k l e = absurd (omega (arith, l))
few (suc w) n k l e = grind (arith, e)

more_words : (w n : ℕ) → w * suc n ≡ w + w * n
more_words w n = grind arith

pub one_more : (w n : ℕ) (ws x : List Word) → length ws ≡ w * n → length x ≡ w → items_in w (suc n) (ws ++ x) ≡ items_in w n ws ++ x ∷ []
one_more w zero [] x e l = ap (λ (y : List Word). y ∷ []) (ap (λ (k : ℕ). take k x) (sym l) ∙ take-length x)
one_more w zero (y ∷ ws) x e l = let z : w * 0 ≡ 0 = grind arith in absurd (omega (arith, e, z))
one_more w (suc n) ws x e l =
    let whole = more_words w n in
    let within : w ≤ length ws = omega (arith, e, whole) in
    let rest : length (drop w ws) ≡ w * n = length-drop w ws ∙ omega (arith, e, whole) in
    ap (λ (y : List Word). y ∷ items_in w (suc n) (drop w (ws ++ x))) (take-append-le w ws x within)
    ∙ ap (λ (y : List Word). take w ws ∷ items_in w (suc n) y) (drop-append-le w ws x within)
    ∙ ap (λ (y : List Item). take w ws ∷ y) (one_more w n (drop w ws) x rest l)

pub front_is : (w n : ℕ) (ws : List Word) → n ≢ 0 → slice_index_or (items_in w n ws) 0 [] ≡ take w ws
front_is w zero ws ne = absurd (ne refl)
front_is w (suc n) ws ne = refl

pub rest_is : (w n : ℕ) (ws : List Word) → n ≢ 0 → items_in w (n - 1) (drop w ws) ≡ drop 1 (items_in w n ws)
rest_is w zero ws ne = absurd (ne refl)
rest_is w (suc n) ws ne = let less : suc n - 1 ≡ n = omega arith in ap (λ (m : ℕ). items_in w m (drop w ws)) less

-- as many words as items fill
pub fewer_words : (w n k m : ℕ) → n ≢ 0 → k ≡ w * n → m + w ≡ k → m ≡ w * (n - 1)
fewer_words w zero k m ne e f = absurd (ne refl)
fewer_words w (suc n) k m ne e f =
    let less : suc n - 1 ≡ n = omega arith in
    let whole = more_words w n in
    let here : m ≡ w * n = omega (arith, e, f, whole) in here ∙ ap (λ (i : ℕ). w * i) (sym less)

-- one item of several is within the words
pub within : (w n k : ℕ) → n ≢ 0 → k ≡ w * n → w ≤ k
within w zero k ne e = absurd (ne refl)
within w (suc n) k ne e = let whole = more_words w n in omega (arith, e, whole)

pub within_rest : (w n i k : ℕ) → i < n → k ≡ w * n → w * i + w ≤ k
within_rest w n i k l e =
    let rest = n - suc i in
    let sum : n ≡ suc i + rest = omega (arith, l) in
    let whole : w * n ≡ w * i + w + w * rest = ap (λ (m : ℕ). w * m) sum ∙ grind arith in omega (arith, e, whole)

no_words : (n : ℕ) (ws : List Word) → ws ≡ [] → drop n ws ≡ []
no_words zero ws e = e
no_words (suc n) [] e = refl
no_words (suc n) (x ∷ ws) e = absurd (let l = ap length e in omega (arith, l))

drop_more : (f w : ℕ) (ws : List Word) → drop w (drop f ws) ≡ drop (f + w) ws
drop_more zero w ws = let e : w ≡ zero + w = omega arith in ap (λ (n : ℕ). drop n ws) e
drop_more (suc f) w [] = no_words w [] refl ∙ sym (no_words (suc f + w) [] refl)
drop_more (suc f) w (x ∷ ws) = let e : suc (f + w) ≡ suc f + w = omega arith in drop_more f w ws ∙ ap (λ (n : ℕ). drop n (x ∷ ws)) e

pub one_less : (w n i f : ℕ) (ws : List Word) (items all : List Item) (item : Item) → i < n → item ≡ take w (drop f ws) → items ++ items_in w (n - i) (drop f ws) ≡ all → (items ++ item ∷ []) ++ items_in w (n - (i + 1)) (drop (f + w) ws) ≡ all
one_less w n i f ws items all item l it e =
    let m = n - (i + 1) in
    let count : n - i ≡ suc m = omega (arith, l) in
    append_assoc items (item ∷ []) (items_in w m (drop (f + w) ws))
    ∙ ap (λ (y : Item). items ++ y ∷ items_in w m (drop (f + w) ws)) it
    ∙ ap (λ (ys : List Word). items ++ take w (drop f ws) ∷ items_in w m ys) (sym (drop_more f w ws))
    ∙ ap (λ (k : ℕ). items ++ items_in w k (drop f ws)) (sym count)
    ∙ e

several_words : (x : Item) → length x ≢ 1 → only_word x ≡ None
several_words [] ne = refl
several_words (w ∷ []) ne = absurd (ne refl)
several_words (w ∷ v ∷ ws) ne = refl

-- items of one word, and of another number of words
pub wide : (w n : ℕ) (ws : List Word) → w ≢ 1 → length ws ≡ w * n → front_word (items_in w n ws) ≡ None
wide w zero ws ne e = refl
wide w (suc n) ws ne e =
    let whole = more_words w n in
    let some : w ≤ length ws = omega (arith, e, whole) in several_words (take w ws) (λ l. ne (sym (length-take-le w ws some) ∙ l))

pub popped : (n : ℕ) (old new : List Word) (w : Word) → old ≡ w ∷ new → length old ≡ 1 * n → items_in 1 n old ≡ (w ∷ []) ∷ items_in 1 (n - 1) new
popped zero old new w e l = let some = ap length e in absurd (omega (arith, l, some))
popped (suc n) old new w e l = let less : n ≡ suc n - 1 = omega arith in ap (items_in 1 (suc n)) e ∙ ap (λ (m : ℕ). (w ∷ []) ∷ items_in 1 m new) less
