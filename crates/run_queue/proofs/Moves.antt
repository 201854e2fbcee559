-- Each step keeps the rule of the queue.
use Rattle.std.proofs.Common.{◌≡◌, ◌≢◌, ℕ, zero, suc, ◌+◌, ◌≤◌, Bool, true, false, cond, nat_lt, true≢false, List, [], ◌∷◌, ◌++◌, length, set, slice_get, Some, sym, refl, ap, ◌∙◌, subst, ⊎_elim, arith, append_assoc}
use mathlib.Core.Option.{some, some-ne-none, some-injective}
use lib.ListN.{get_elem?}
use Rattle.crossbeam_queue.specs.Fifo.{Pushes, Pops, Forks, Merges, Learns}
use Rattle.crossbeam_queue.proofs.Lists.{at_set, at_snoc, set_again}
use Rattle.run_queue.specs.declared.view.View.{View}
use Rattle.run_queue.specs.Turns.{Begins, longer, Fits, Kept, whole, putting, taking, shared, further, note, spent, told_put, told_gone, PutsOne, TakesOne, PutsAfter, TakesBefore}

append_nil : {T : Type 0} (a : List T) → a ≡ a ++ []
append_nil [] = refl
append_nil (x ∷ xs) = ap (λ l. x ∷ l) (append_nil xs)

length_append : {T : Type 0} (a b : List T) → length (a ++ b) ≡ length a + length b
length_append [] b = omega arith
length_append (x ∷ xs) b = let e = length_append xs b in omega arith

get_after : {T : Type 0} (a : List T) (x : T) (b : List T) → slice_get (a ++ x ∷ b) (length a) ≡ Some x
get_after [] x b = refl
get_after (y ∷ ys) x b = get_after ys x b

begins_all : {T : Type 0} (a b : List T) → a ≡ b → Begins a b
begins_all a b e = ([], sym e ∙ append_nil a)

begins_more : {T : Type 0} (a b c : List T) → Begins a b → Begins a (b ++ c)
begins_more a b c h = (h.0 ++ c, ap (λ l. l ++ c) h.1 ∙ append_assoc a h.0 c)

begins_short : {T : Type 0} (a b : List T) → Begins a b → length a ≤ length b
begins_short a b h = let e = ap length h.1 in let f = length_append a h.0 in omega arith

begins_longer : {T : Type 0} (a b all : List T) → Begins a all → Begins b all → Begins (longer a b) all
begins_longer a b all h k = elim (nat_lt (length a) (length b)) as (λ c. Begins (cond c b a) all) [ true ↦ k | false ↦ h ]

larger_fits : (a b n : ℕ) → a ≤ n → b ≤ n → cond (nat_lt a b) b a ≤ n
larger_fits a b n h k = elim (nat_lt a b) as (λ c. cond c b a ≤ n) [ true ↦ k | false ↦ h ]

abbrev All : {T : Type 0} → (ℕ → View T → Type 0) → List (View T) → Type 0
All {T} F views = (pass : ℕ) (v : View T) → get_elem? views pass ≡ some v → F pass v

all_set : {T : Type 0} (F : ℕ → View T → Type 0) (views : List (View T)) (pass : ℕ) (w : View T) → F pass w → ((j : ℕ) (u : View T) → j ≢ pass → get_elem? views j ≡ some u → F j u) → All F (set views pass w)
all_set {T} F views pass w mine others j u e =
    ⊎_elim
    (λ (x : (j ≡ pass) × (w ≡ u)). subst (λ (y : ℕ × View T). F y.0 y.1) (λ i. (sym x.0 i, x.1 i)) mine)
    (λ (x : (j ≢ pass) × (get_elem? views j ≡ some u)). others j u x.0 x.1)
    (at_set views pass j w u e)

at_end : {T : Type 0} (l : List (View T)) (a b : View T) (j : ℕ) → get_elem? l j ≢ some b → get_elem? (l ++ a ∷ []) j ≡ some b → j ≡ length l
at_end [] a b zero n e = refl
at_end [] a b (suc j) n e = absurd (some-ne-none b (sym e))
at_end (x ∷ xs) a b zero n e = absurd (n e)
at_end (x ∷ xs) a b (suc j) n e = ap suc (at_end xs a b j n e)

no : {P : Type 0} → false ≡ true → P
no e = absurd (true≢false (sym e))

pub begins : (T : Type 0) → Kept {T = T} [] (whole ∷ [])
begins T = (0, 0, true, [], [], refl, one)
  where
    one : (pass : ℕ) (v : View T) → get_elem? (whole ∷ []) pass ≡ some v → Fits 0 0 true 0 [] pass v
    one zero v e = subst (Fits 0 0 true 0 [] 0) (some-injective _ _ e) (([], refl), (omega arith), (λ _. (refl, refl)), (λ _ _. refl), (λ _. (refl, refl, refl)))
    one (suc pass) v e = absurd (some-ne-none v (sym e))

pub ends : {T : Type 0} (pass : ℕ) (v : View T) → v.puts ≡ true → v.takes ≡ true → v.alone ≡ true → Forks Kept pass v (putting v) (taking v)
ends {T} pass v p t a items views h at =
    let mine = h.6 pass v at in let single : h.2 ≡ true = (mine.4 a).0 in let vs : List (View T) = set views pass (putting v) in
    let Old : ℕ → View T → Type 0 = λ j u. Fits h.0 h.1 h.2 (length h.4) h.3 j u × (u.takes ≢ true) × (u.alone ≢ true) in
    let old : All Old vs = all_set Old views pass (putting v) ((mine.0, mine.1, mine.2, (λ q _. no q), (λ q. no q)), (λ q. no q), (λ q. no q))
    (λ j u apart e. let o = h.6 j u e in (o, (λ q. apart (o.3 q single ∙ sym (mine.3 t single))), (λ q. apart ((o.4 q).1 ∙ sym (mine.3 t single))))) in (
      h.0,
      length vs,
      true,
      h.3,
      h.4,
      h.5,
      λ j u e. ⊎_elim
          (λ (x : get_elem? vs j ≡ some u). let o = old j u x in (o.0.0, o.0.1, o.0.2, (λ q _. absurd (o.1 q)), (λ q. absurd (o.2 q))))
          (λ (is : taking v ≡ u). let last : j ≡ length vs = at_end vs (taking v) u j (λ x. (old j u x).1 (ap (λ (y : View T). y.takes) (sym is))) e in
          subst (Fits h.0 (length vs) true (length h.4) h.3 j) is (mine.0, mine.1, (λ q. no q), (λ _ _. last), (λ _. (refl, last, (mine.4 a).2))))
          (at_snoc vs (taking v) u j e),
    )

pub furthers : {T : Type 0} (pass : ℕ) (v : View T) → v.takes ≡ true → Forks Kept pass v (shared v) (further v)
furthers {T} pass v t items views h at =
    let mine = h.6 pass v at in let F : ℕ → View T → Type 0 = Fits h.0 h.1 false (length h.4) h.3 in
    let now : All F (set views pass (shared v)) = all_set F views pass (shared v) (mine.0, mine.1, mine.2, (λ _ q. no q), (λ q. no q))
    (λ j u apart e. let o = h.6 j u e in (o.0, o.1, o.2, (λ _ q. no q), (λ q. let b = o.4 q in absurd (apart (b.1 ∙ sym (mine.3 t b.0)))))) in (
      h.0,
      h.1,
      false,
      h.3,
      h.4,
      h.5,
      λ j u e. ⊎_elim (now j u) (λ (is : further v ≡ u). subst (F j) is (mine.0, mine.1, (λ q. no q), (λ _ q. no q), (λ q. no q))) (at_snoc (set views pass (shared v)) (further v) u j e),
    )

pub notes : {T : Type 0} (pass : ℕ) (v : View T) → Forks Kept pass v v (note v)
notes {T} pass v items views h at =
    let mine = h.6 pass v at in let F : ℕ → View T → Type 0 = Fits h.0 h.1 h.2 (length h.4) h.3 in (
      h.0,
      h.1,
      h.2,
      h.3,
      h.4,
      h.5,
      λ j u e. ⊎_elim
          (λ was. h.6 j u (subst (λ (l : List (View T)). get_elem? l j ≡ some u) (set_again views pass v at) was))
          (λ (is : note v ≡ u). subst (F j) is (mine.0, mine.1, (λ q. no q), (λ q _. no q), (λ q. no q)))
          (at_snoc (set views pass v) (note v) u j e),
    )

-- two passes become one, if what they know together fits
joins : {T : Type 0} (pass : ℕ) (v : View T) (other : ℕ) (w both : View T) → ((writer taker : ℕ) (single : Bool) (gone : ℕ) (put : List T) → Fits writer taker single gone put pass v → Fits writer taker single gone put other w → Fits writer taker single gone put pass both) → Merges Kept pass v other w both spent
joins {T} pass v other w both fit items views h at two at' =
    let vs : List (View T) = set views pass both in let F : ℕ → View T → Type 0 = Fits h.0 h.1 h.2 (length h.4) h.3 in
    let was : get_elem? views other ≡ some w = ⊎_elim (λ x. absurd (two x.0)) (λ x. x.1) (at_set views pass other both w at') in
    let now : All F vs = all_set F views pass both (fit h.0 h.1 h.2 (length h.4) h.3 (h.6 pass v at) (h.6 other w was)) (λ j u _ e. h.6 j u e) in (
      h.0,
      h.1,
      h.2,
      h.3,
      h.4,
      h.5,
      all_set F vs other spent ((h.3, refl), omega arith, (λ q. no q), (λ q _. no q), (λ q. no q)) (λ j u _ e. now j u e),
    )

pub tells_put : {T : Type 0} (pass : ℕ) (v : View T) (other : ℕ) (w : View T) → v.puts ≡ false → Merges Kept pass v other w (told_put v w) spent
tells_put pass v other w apart =
    joins pass v other w (told_put v w)
    (λ writer taker single gone put mine theirs. (begins_longer v.put w.put put mine.0 theirs.0, mine.1, (λ q. absurd (true≢false (sym q ∙ apart))), mine.3, mine.4))

pub tells_gone : {T : Type 0} (pass : ℕ) (v : View T) (other : ℕ) (w : View T) → v.alone ≡ false → Merges Kept pass v other w (told_gone v w) spent
tells_gone pass v other w apart =
    joins pass v other w (told_gone v w)
    (λ writer taker single gone put mine theirs. (mine.0, larger_fits v.gone w.gone gone mine.1 theirs.1, mine.2, mine.3, (λ q. absurd (true≢false (sym q ∙ apart)))))

pub puts_one : {T : Type 0} (n pass : ℕ) (v : View T) (x : T) → v.puts ≡ true → Pushes Kept n pass v x (PutsOne v x)
puts_one {T} n pass v x p items views room h at =
    let mine = h.6 pass v at in let w : View T = record v { put = v.put ++ x ∷ [] } in let put : List T = h.3 ++ x ∷ [] in
    let same : w.put ≡ put = ap (λ l. l ++ x ∷ []) (mine.2 p).1 in (
      w,
      (
        h.0,
        h.1,
        h.2,
        put,
        h.4,
        ap (λ l. l ++ x ∷ []) h.5 ∙ append_assoc h.4 items (x ∷ []),
        all_set (Fits h.0 h.1 h.2 (length h.4) put) views pass w (begins_all w.put put same, mine.1, (λ _. ((mine.2 p).0, same)), mine.3, mine.4)
            (λ j u apart e. let o = h.6 j u e in (begins_more u.put h.3 (x ∷ []) o.0, o.1, (λ q. absurd (apart ((o.2 q).0 ∙ sym (mine.2 p).0))), o.3, o.4)),
      ),
      refl,
    )

pub takes_one : {T : Type 0} (pass : ℕ) (v : View T) → v.takes ≡ true → Pops Kept pass v (TakesOne v)
takes_one {T} pass v t x items views h at =
    let mine = h.6 pass v at in let n : ℕ = length h.4 in let w : View T = record v { put = h.3; gone = n + 1 } in let taken : List T = h.4 ++ x ∷ [] in
    let long : length taken ≡ n + 1 = length_append h.4 (x ∷ []) in (
      w,
      (
        h.0,
        h.1,
        h.2,
        h.3,
        taken,
        h.5 ∙ sym (append_assoc h.4 (x ∷ []) items),
        all_set (Fits h.0 h.1 h.2 (length taken) h.3) views pass w (begins_all h.3 h.3 refl, omega arith, (λ q. ((mine.2 q).0, refl)), mine.3, (λ q. ((mine.4 q).0, (mine.4 q).1, sym long)))
            (λ j u apart e. let o = h.6 j u e in let less = o.1 in (o.0, omega arith, o.2, o.3, (λ q. let b = o.4 q in absurd (apart (b.1 ∙ sym (mine.3 t b.0)))))),
      ),
      (n, mine.1, (λ q. sym (mine.4 q).2), ap (λ (l : List T). slice_get l n) h.5 ∙ get_after h.4 x items, mine.0, refl),
    )

pub following : {T : Type 0} (pass : ℕ) (v : View T) → Learns Kept pass v (PutsAfter v)
following pass v items views h at p =
    let mine = h.6 pass v at in let all = ap length ((mine.2 p).1 ∙ h.5) in let parts = length_append h.4 items in let less = mine.1 in omega arith

pub before : {T : Type 0} (pass : ℕ) (v : View T) → Learns Kept pass v (TakesBefore v)
before pass v items views h at q =
    let mine = h.6 pass v at in let less = begins_short v.put h.3 mine.0 in let all = ap length h.5 in let parts = length_append h.4 items in let gone = (mine.4 q).2 in
    omega arith
