-- Words that go to several locals at once: from the last one to the first, as if from the first one to the last.
use Rattle.std.proofs.Common.{◌≡◌, ℕ, zero, suc, ◌+◌, ◌==◌, ◌<◌, ◌≤◌, Bool, true, false, List, [], ◌∷◌, ◌++◌, length, take, drop, refl, sym, ap, ◌∙◌, subst, arith, length-take}
use Rattle.std.specs.Prelude.{if◌then◌else◌}
use Rattle.std.proofs.lemmas.Bool.{true≢false}
use Rattle.std.proofs.lemmas.Bool.Decides.{nat_tests}
use Rattle.bytecode.specs.Machine.{put_at}
use Rattle.word.specs.declared.value.Word.{Word}
use Rattle.codegen_base.specs.Statements.{Spot, Dropped, Local, single_spots, singles, has_place, last_counts}
use Rattle.plan.proofs.Words.{Words, put_suc, put_zero, put_length}

-- ---- one word

abbrev pub put_one : ℕ → Word → Words → Words
put_one place w ls = put_at place (w ∷ []) ls

one_zero : (w v : Word) (ls : Words) → put_one 0 w (v ∷ ls) ≡ w ∷ ls
one_zero w v ls = put_zero (w ∷ []) (v ∷ ls)

one_suc : (p : ℕ) (w v : Word) (ls : Words) → put_one (suc p) w (v ∷ ls) ≡ v ∷ put_one p w ls
one_suc p w v ls = put_suc p (w ∷ []) v ls

-- the later word counts
one_twice : (p : ℕ) (w u : Word) (ls : Words) → p < length ls → put_one p w (put_one p u ls) ≡ put_one p w ls
one_twice p w u [] lt = absurd (omega (arith, lt))
one_twice zero w u (v ∷ ls) lt = ap (put_one 0 w) (one_zero u v ls) ∙ one_zero w u ls ∙ sym (one_zero w v ls)
one_twice (suc p) w u (v ∷ ls) lt =
    ap (put_one (suc p) w) (one_suc p u v ls) ∙ one_suc p w v (put_one p u ls) ∙ ap (λ (l : Words). v ∷ l) (one_twice p w u ls (omega (arith, lt))) ∙ sym (one_suc p w v ls)

-- words at two indexes may be put in either order
one_swap : (p q : ℕ) (w u : Word) (ls : Words) → (p ≡ q → ⊥) → p < length ls → q < length ls → put_one p w (put_one q u ls) ≡ put_one q u (put_one p w ls)
one_swap p q w u [] apart lp lq = absurd (omega (arith, lp))
one_swap zero zero w u (v ∷ ls) apart lp lq = absurd (apart refl)
one_swap zero (suc q) w u (v ∷ ls) apart lp lq =
    ap (put_one 0 w) (one_suc q u v ls) ∙ one_zero w v (put_one q u ls) ∙ sym (one_suc q u w ls) ∙ ap (put_one (suc q) u) (sym (one_zero w v ls))
one_swap (suc p) zero w u (v ∷ ls) apart lp lq =
    ap (put_one (suc p) w) (one_zero u v ls) ∙ one_suc p w u ls ∙ sym (one_zero u v (put_one p w ls)) ∙ ap (put_one 0 u) (sym (one_suc p w v ls))
one_swap (suc p) (suc q) w u (v ∷ ls) apart lp lq =
    ap (put_one (suc p) w) (one_suc q u v ls) ∙ one_suc p w v (put_one q u ls)
    ∙ ap (λ (l : Words). v ∷ l) (one_swap p q w u ls (λ e. apart (ap suc e)) (omega (arith, lp)) (omega (arith, lq)))
    ∙ sym (one_suc q u v (put_one p w ls)) ∙ ap (put_one (suc q) u) (sym (one_suc p w v ls))

one_length : (p : ℕ) (w : Word) (ls : Words) → p < length ls → length (put_one p w ls) ≡ length ls
one_length p w ls lt = put_length p (w ∷ []) ls (omega (arith, lt))

-- ---- spots

abbrev pub spot_words : Spot → ℕ
spot_words (Dropped words) = words
spot_words (Local place words) = words

abbrev pub put_spot : Spot → Words → Words → Words
put_spot (Dropped words) ws ls = ls
put_spot (Local place words) ws ls = put_at place ws ls

-- the words for spots, one spot's after the other's: put from the first spot to the last, and the other way round
abbrev pub put_forward : List Spot → Words → Words → Words
put_forward [] ws ls = ls
put_forward (spot ∷ spots) ws ls = put_forward spots (drop (spot_words spot) ws) (put_spot spot (take (spot_words spot) ws) ls)

abbrev pub put_backward : List Spot → Words → Words → Words
put_backward [] ws ls = ls
put_backward (spot ∷ spots) ws ls = put_spot spot (take (spot_words spot) ws) (put_backward spots (drop (spot_words spot) ws) ls)

-- all spots are dropped words or single locals that are there
abbrev pub AreSingle : ℕ → List Spot → Type 0
AreSingle many [] = Unit {0}
AreSingle many (Dropped words ∷ spots) = AreSingle many spots
AreSingle many (Local place words ∷ spots) = (words ≡ 1) × (place < many) × AreSingle many spots

-- as many words as the spots take
abbrev pub all_words : List Spot → ℕ
all_words [] = 0
all_words (spot ∷ spots) = spot_words spot + all_words spots

first_word : (ws : Words) (n : ℕ) → 1 + n ≤ length ws → (w : Word) × (us : Words) × (ws ≡ w ∷ us)
first_word [] n le = absurd (omega (arith, le))
first_word (w ∷ us) n le = (w, us, refl)

drop_length : (n : ℕ) (ws : Words) (m : ℕ) → n + m ≤ length ws → m ≤ length (drop n ws)
drop_length zero ws m le = omega (arith, le)
drop_length (suc n) [] m le = absurd (omega (arith, le))
drop_length (suc n) (w ∷ ws) m le = drop_length n ws m (omega (arith, le))

back_length : (spots : List Spot) (ws ls : Words) → AreSingle (length ls) spots → all_words spots ≤ length ws → length (put_backward (last_counts spots) ws ls) ≡ length ls
back_length [] ws ls single le = refl
back_length (Dropped words ∷ spots) ws ls single le = back_length spots (drop words ws) ls single (drop_length words ws (all_words spots) le)
back_length (Local place words ∷ spots) ws ls (one, lt, single) le =
    let more = back_length spots (drop words ws) ls single (drop_length words ws (all_words spots) le) in
    let w = first_word ws 0 (omega (arith, le, one)) in
    go (has_place place spots) more w.0 (ap (λ n. take n ws) one ∙ ap (take 1) w.2) where
      go : (b : Bool) → length (put_backward (last_counts spots) (drop words ws) ls) ≡ length ls → (w : Word) → take words ws ≡ w ∷ []
          → length (put_backward ((if b then Dropped words else Local place words) ∷ last_counts spots) ws ls) ≡ length ls
      go true more w is = more
      go false more w is = ap (λ (x : Words). length (put_at place x (put_backward (last_counts spots) (drop words ws) ls))) is
          ∙ one_length place w (put_backward (last_counts spots) (drop words ws) ls) (omega (arith, lt, more)) ∙ more

-- ---- the order of words

number_same : (p q : ℕ) → (p == q) ≡ true → p ≡ q
number_same p q e = grind (arith, nat_tests, e)

number_apart : (p q : ℕ) → (p == q) ≡ false → p ≡ q → ⊥
number_apart p q e same = grind (arith, nat_tests, e, same)

-- a word that was put before others counts if none of them goes to its local
before_others : (p : ℕ) (w : Word) (spots : List Spot) (ws ls : Words) → p < length ls → AreSingle (length ls) spots → all_words spots ≤ length ws
    → put_backward (last_counts spots) ws (put_one p w ls) ≡ (if has_place p spots then put_backward (last_counts spots) ws ls else put_one p w (put_backward (last_counts spots) ws ls))
before_others p w [] ws ls lt single le = refl
before_others p w (Dropped words ∷ spots) ws ls lt single le = before_others p w spots (drop words ws) ls lt single (drop_length words ws (all_words spots) le)
before_others p w (Local q n ∷ spots) ws ls lt (one, lq, single) le =
    let u = first_word ws 0 (omega (arith, le, one)) in
    go (has_place q spots) (q == p) (has_place p spots) refl refl refl (before_others p w spots (drop n ws) ls lt single (drop_length n ws (all_words spots) le)) u.0 (ap (λ k. take k ws) one ∙ ap (take 1) u.2)
    (back_length spots (drop n ws) ls single (drop_length n ws (all_words spots) le)) where
      following : Words → Words
      following l = put_backward (last_counts spots) (drop n ws) l

      go : (b e h : Bool) → has_place q spots ≡ b → (q == p) ≡ e → has_place p spots ≡ h → following (put_one p w ls) ≡ (if has_place p spots then following ls else put_one p w (following ls)) → (u : Word) → take n ws ≡ u ∷ [] → length (following ls) ≡ length ls
          → put_backward ((if has_place q spots then Dropped n else Local q n) ∷ last_counts spots) ws (put_one p w ls)
          ≡ (if (if q == p then true else has_place p spots) then put_backward ((if has_place q spots then Dropped n else Local q n) ∷ last_counts spots) ws ls else put_one p w (put_backward ((if has_place q spots then Dropped n else Local q n) ∷ last_counts spots) ws ls))
      go true true true hq same hp more u is long = rw (hq, same) (more ∙ ap (λ t. if t then following ls else put_one p w (following ls)) hp)
      go true true false hq same hp more u is long = absurd (true≢false (sym hq ∙ ap (λ k. has_place k spots) (number_same q p same) ∙ hp))
      go true false h hq same hp more u is long = rw (hq, same) more
      go false true true hq same hp more u is long = absurd (true≢false (sym hp ∙ ap (λ k. has_place k spots) (sym (number_same q p same)) ∙ hq))
      go false true false hq same hp more u is long =
          let e = number_same q p same in
          rw (hq, same) (
          ap (λ (x : Words). put_at q x (following (put_one p w ls))) is ∙ ap (put_one q u) (more ∙ ap (λ t. if t then following ls else put_one p w (following ls)) hp)
          ∙ subst (λ k. put_one q u (put_one k w (following ls)) ≡ put_one q u (following ls)) e (one_twice q u w (following ls) (omega (arith, lq, long)))
          ∙ ap (λ (x : Words). put_at q x (following ls)) (sym is))
      go false false true hq same hp more u is long =
          rw (hq, same, hp) (ap (put_at q (take n ws)) (more ∙ ap (λ t. if t then following ls else put_one p w (following ls)) hp))
      go false false false hq same hp more u is long =
          rw (hq, same, hp) (
          ap (λ (x : Words). put_at q x (following (put_one p w ls))) is ∙ ap (put_one q u) (more ∙ ap (λ t. if t then following ls else put_one p w (following ls)) hp)
          ∙ one_swap q p u w (following ls) (number_apart q p same) (omega (arith, lq, long)) (omega (arith, lt, long))
          ∙ ap (λ (x : Words). put_one p w (put_at q x (following ls))) (sym is))

pub forward_backward : (spots : List Spot) (ws ls : Words) → AreSingle (length ls) spots → all_words spots ≤ length ws → put_forward spots ws ls ≡ put_backward (last_counts spots) ws ls
forward_backward [] ws ls single le = refl
forward_backward (Dropped words ∷ spots) ws ls single le = forward_backward spots (drop words ws) ls single (drop_length words ws (all_words spots) le)
forward_backward (Local p n ∷ spots) ws ls (one, lt, single) le =
    let u = first_word ws 0 (omega (arith, le, one)) in
    let is : take n ws ≡ u.0 ∷ [] = ap (λ k. take k ws) one ∙ ap (take 1) u.2 in
    let left = drop_length n ws (all_words spots) le in
    ap (λ (x : Words). put_forward spots (drop n ws) (put_at p x ls)) is
    ∙ forward_backward spots (drop n ws) (put_one p u.0 ls) (subst (λ k. AreSingle k spots) (sym (one_length p u.0 ls lt)) single) left
    ∙ before_others p u.0 spots (drop n ws) ls lt single left
    ∙ go (has_place p spots) u.0 is where
      go : (h : Bool) (u : Word) → take n ws ≡ u ∷ []
          → (if h then put_backward (last_counts spots) (drop n ws) ls else put_one p u (put_backward (last_counts spots) (drop n ws) ls)) ≡ put_backward ((if h then Dropped n else Local p n) ∷ last_counts spots) ws ls
      go true u is = refl
      go false u is = ap (λ (x : Words). put_at p x (put_backward (last_counts spots) (drop n ws) ls)) (sym is)

-- ---- word by word

put_cons : (p : ℕ) (w : Word) (us ls : Words) → p + suc (length us) ≤ length ls → put_at p (w ∷ us) ls ≡ put_at (p + 1) us (put_one p w ls)
put_cons zero w us [] le = absurd (omega (arith, le))
put_cons zero w us (v ∷ ls) le =
    put_zero (w ∷ us) (v ∷ ls) ∙ ap (λ (l : Words). w ∷ l) (sym (put_zero us ls)) ∙ sym (put_suc 0 us w ls) ∙ ap (put_at 1 us) (sym (one_zero w v ls))
put_cons (suc p) w us [] le = absurd (omega (arith, le))
put_cons (suc p) w us (v ∷ ls) le =
    put_suc p (w ∷ us) v ls ∙ ap (λ (l : Words). v ∷ l) (put_cons p w us ls (omega (arith, le))) ∙ sym (put_suc (p + 1) us v (put_one p w ls)) ∙ ap (put_at (suc (p + 1)) us) (sym (one_suc p w v ls))
    ∙ (let e : suc (p + 1) ≡ suc p + 1 = omega arith in ap (λ k. put_at k us (put_one (suc p) w (v ∷ ls))) e)

put_none : (p : ℕ) (ls : Words) → p ≤ length ls → put_at p [] ls ≡ ls
put_none zero ls le = put_zero [] ls
put_none (suc p) [] le = absurd (omega (arith, le))
put_none (suc p) (v ∷ ls) le = put_suc p [] v ls ∙ ap (λ (l : Words). v ∷ l) (put_none p ls (omega (arith, le)))

-- the locals of spots are there
abbrev pub AreThere : ℕ → List Spot → Type 0
AreThere many [] = Unit {0}
AreThere many (Dropped words ∷ spots) = AreThere many spots
AreThere many (Local place words ∷ spots) = (place + words ≤ many) × AreThere many spots

pub put_spot_length : (spot : Spot) (ws ls : Words) (spots : List Spot) → AreThere (length ls) (spot ∷ spots) → spot_words spot ≤ length ws → length (put_spot spot (take (spot_words spot) ws) ls) ≡ length ls
put_spot_length (Dropped words) ws ls spots at le = refl
put_spot_length (Local place words) ws ls spots at le = put_length place (take words ws) ls (omega (arith, length-take words ws, at.0, le))

single_forward : (n p : ℕ) (spots : List Spot) (ws ls : Words) → n ≤ length ws → p + n ≤ length ls → put_forward (single_spots p n ++ spots) ws ls ≡ put_forward spots (drop n ws) (put_at p (take n ws) ls)
single_forward zero p spots ws ls le within = ap (λ (l : Words). put_forward spots ws l) (sym (put_none p ls (omega (arith, within))))
single_forward (suc n) p spots [] ls le within = absurd (omega (arith, le))
single_forward (suc n) p spots (w ∷ ws) ls le within =
    single_forward n (p + 1) spots ws (put_one p w ls) (omega (arith, le)) (omega (arith, within, one_length p w ls (omega (arith, within))))
    ∙ ap (λ (l : Words). put_forward spots (drop n ws) l) (sym (put_cons p w (take n ws) ls (omega (arith, within, length-take n ws, le))))

pub singles_forward : (spots : List Spot) (ws ls : Words) → AreThere (length ls) spots → all_words spots ≤ length ws → put_forward (singles spots) ws ls ≡ put_forward spots ws ls
singles_forward [] ws ls at le = refl
singles_forward (Dropped words ∷ spots) ws ls at le = singles_forward spots (drop words ws) ls at (drop_length words ws (all_words spots) le)
singles_forward (Local p n ∷ spots) ws ls at le =
    single_forward n p (singles spots) ws ls (omega (arith, le)) at.0
    ∙ singles_forward spots (drop n ws) (put_at p (take n ws) ls) (subst (λ k. AreThere k spots) (sym (put_spot_length (Local p n) ws ls spots at (omega (arith, le)))) at.1) (drop_length n ws (all_words spots) le)

-- ---- what the singles are

many_append : (many n p : ℕ) (spots : List Spot) → p + n ≤ many → AreSingle many spots → AreSingle many (single_spots p n ++ spots)
many_append many zero p spots le s = s
many_append many (suc n) p spots le s = (refl, omega (arith, le), many_append many n (p + 1) spots (omega (arith, le)) s)

pub singles_are : (many : ℕ) (spots : List Spot) → AreThere many spots → AreSingle many (singles spots)
singles_are many [] at = tt
singles_are many (Dropped words ∷ spots) at = singles_are many spots at
singles_are many (Local p n ∷ spots) at = many_append many n p (singles spots) at.0 (singles_are many spots at.1)

words_append : (n p : ℕ) (spots : List Spot) → all_words (single_spots p n ++ spots) ≡ n + all_words spots
words_append zero p spots = omega arith
words_append (suc n) p spots = let e = words_append n (p + 1) spots in omega (arith, e)

pub singles_words : (spots : List Spot) → all_words (singles spots) ≡ all_words spots
singles_words [] = refl
singles_words (Dropped words ∷ spots) = ap (λ n. words + n) (singles_words spots)
singles_words (Local p n ∷ spots) = words_append n p (singles spots) ∙ ap (λ k. n + k) (singles_words spots)

-- several values, as if from left to right
pub stored_forward : (spots : List Spot) (ws ls : Words) → AreThere (length ls) spots → all_words spots ≤ length ws → put_backward (last_counts (singles spots)) ws ls ≡ put_forward spots ws ls
stored_forward spots ws ls at le =
    sym (forward_backward (singles spots) ws ls (singles_are (length ls) spots at) (omega (arith, le, singles_words spots))) ∙ singles_forward spots ws ls at le
