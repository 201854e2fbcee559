-- What waits, in the order in which it came.
use Rattle.std.proofs.Common.{◌≡◌, ◌≢◌, ℕ, zero, suc, ◌<◌, ◌≤◌, sym, ap, ◌∙◌, subst, arith, Bool, true, false, inl, inr, ◌⊎◌, refl, List, length, length-append, [], ◌∷◌, ◌++◌}
use Rattle.std.proofs.lemmas.Bool.{cases_eq, cases_lt, cases_Bool}
use Rattle.std.proofs.lemmas.Bool.Decides.{nat_tests}
use Rattle.std.specs.Prelude.{Option, Some, None, ◌+◌, ◌==◌, slice_index_or, option_to_list, unwrap_or}
use Rattle.std.proofs.lemmas.Option.{none-some}
use Rattle.std.specs.List.{filter}
use Rattle.sleep_queue.specs.declared.offer.Node.{Node}
use Rattle.sleep_queue.specs.Queue.{Waiting, waiting_at, at_stamp, in_order, is_other, first, AreApart}
use Rattle.std.proofs.lemmas.List.Elements.{filter-append}

pub cases_option : {A : Type 0} (o : Option A) → (o ≡ None) ⊎ ((x : A) × (o ≡ Some x))
cases_option None = inl refl
cases_option (Some x) = inr (x, refl)

-- some key has this, of this stamp
abbrev pub Found : ℕ → ℕ → List (Option Node) → Waiting → Type 0
Found s j xs w = (i : ℕ) × (n : Node) × (slice_index_or xs i None ≡ Some n) × (n.stamp ≡ s) × (w ≡ waiting_at (j + i) n)

-- none has
abbrev pub Missing : ℕ → List (Option Node) → Type 0
Missing s xs = (i : ℕ) (n : Node) → slice_index_or xs i None ≡ Some n → n.stamp ≢ s

some_is : {A : Type 0} (x y : A) → Some x ≡ Some y → x ≡ y
some_is x y e = ap (λ o. unwrap_or o x) e

later : (s j : ℕ) (x : Option Node) (xs : List (Option Node)) (w : Waiting) → Found s (suc j) xs w → Found s j (x ∷ xs) w
later s j x xs w r = (suc r.0, r.1, r.2, r.3, r.4 ∙ ap (λ (k : ℕ). waiting_at k r.1) (omega arith))

now : (s j : ℕ) (n : Node) (xs : List (Option Node)) (w : Waiting) → n.stamp ≡ s → w ≡ waiting_at j n → Found s j (Some n ∷ xs) w
now s j n xs w a e = (zero, n, refl, a, e ∙ ap (λ (k : ℕ). waiting_at k n) (omega arith))

same_stamp : (a b : ℕ) → (a == b) ≡ true → a ≡ b
same_stamp a b e = grind (arith, nat_tests, e)

other_stamp : (a b : ℕ) → (a == b) ≡ false → a ≢ b
other_stamp a b e = grind (arith, nat_tests, e)

pub at_some : (s j : ℕ) (xs : List (Option Node)) (w : Waiting) → at_stamp s j xs ≡ Some w → Found s j xs w
at_some s j [] w e = absurd (none-some w e)
at_some s j (None ∷ xs) w e = later s j None xs w (at_some s (suc j) xs w e)
at_some s j (Some n ∷ xs) w e = elim (cases_Bool (n.stamp == s)) [
  | inl a ↦ now s j n xs w (same_stamp n.stamp s a) (let h = rw a at e in sym (some_is (waiting_at j n) w h))
  | inr a ↦ let h = rw a at e in later s j (Some n) xs w (at_some s (suc j) xs w h)
]

none_following : (s j : ℕ) (m : Node) (xs : List (Option Node)) → m.stamp ≢ s → Missing s xs → Missing s (Some m ∷ xs)
none_following s j m xs a r zero n h e = a (ap (λ (k : Node). k.stamp) (some_is m n h) ∙ e)
none_following s j m xs a r (suc i) n h e = r i n h e

pub at_none : (s j : ℕ) (xs : List (Option Node)) → at_stamp s j xs ≡ None → Missing s xs
at_none s j [] e i n h = absurd (none-some n h)
at_none s j (None ∷ xs) e zero n h = absurd (none-some n h)
at_none s j (None ∷ xs) e (suc i) n h = at_none s (suc j) xs e i n h
at_none s j (Some m ∷ xs) e i n h = elim (cases_Bool (m.stamp == s)) [
  | inl a ↦ let g = rw a at e in absurd (none-some (waiting_at j m) (sym g))
  | inr a ↦ let g = rw a at e in none_following s j m xs (other_stamp m.stamp s a) (at_none s (suc j) xs g) i n h
]

-- the slots seen as a map, in which no two have one stamp
module _ (xs : List (Option Node)) (d : AreApart xs) where
  pub at_is : (i s : ℕ) (n : Node) → slice_index_or xs i None ≡ Some n → n.stamp ≡ s → at_stamp s 0 xs ≡ Some (waiting_at i n)
  at_is i s n h a = elim (cases_option (at_stamp s 0 xs)) as (λ q. at_stamp s 0 xs ≡ Some (waiting_at i n)) [
    | inl e ↦ absurd (at_none s 0 xs e i n h a)
    | inr e ↦
        let r : Found s 0 xs e.0 = at_some s 0 xs e.0 e.1 in
        let same : r.0 ≡ i = d r.0 i r.1 n r.2 h (r.3 ∙ sym a) in
        let node : r.1 ≡ n = some_is r.1 n (sym r.2 ∙ ap (λ (k : ℕ). slice_index_or xs k None) same ∙ h) in
        let key : 0 + r.0 ≡ i = omega (arith, same) in
        e.1 ∙ ap (λ (w : Waiting). Some w) (r.4 ∙ ap (λ (k : ℕ). waiting_at k r.1) key ∙ ap (λ (m : Node). waiting_at i m) node)
  ]

-- what has this stamp in xs has it in ys
abbrev Kept : ℕ → List (Option Node) → List (Option Node) → Type 0
Kept s xs ys = (i : ℕ) (n : Node) → slice_index_or xs i None ≡ Some n → n.stamp ≡ s → slice_index_or ys i None ≡ Some n

at_same : (s : ℕ) (xs ys : List (Option Node)) → AreApart ys → Kept s xs ys → Kept s ys xs → at_stamp s 0 ys ≡ at_stamp s 0 xs
at_same s xs ys d there back =
    elim (cases_option (at_stamp s 0 xs)) as (λ q. at_stamp s 0 ys ≡ at_stamp s 0 xs) [
      | inl e ↦ elim (cases_option (at_stamp s 0 ys)) as (λ q. at_stamp s 0 ys ≡ at_stamp s 0 xs) [
        | inl g ↦ g ∙ sym e
        | inr g ↦ let r : Found s 0 ys g.0 = at_some s 0 ys g.0 g.1 in absurd (at_none s 0 xs e r.0 r.1 (back r.0 r.1 r.2 r.3) r.3)
      ]
      | inr e ↦
          let r : Found s 0 xs e.0 = at_some s 0 xs e.0 e.1 in
          let key : r.0 ≡ 0 + r.0 = omega arith in
          at_is ys d r.0 s r.1 (there r.0 r.1 r.2 r.3) r.3 ∙ sym (e.1 ∙ ap (λ (w : Waiting). Some w) (r.4 ∙ ap (λ (k : ℕ). waiting_at k r.1) (sym key)))
    ]

-- the slots ys are xs, but for key x
abbrev pub Elsewhere : ℕ → List (Option Node) → List (Option Node) → Type 0
Elsewhere x xs ys = (i : ℕ) → i ≢ x → slice_index_or ys i None ≡ slice_index_or xs i None

in_order_same : (xs ys : List (Option Node)) (t : ℕ) → ((s : ℕ) → s < t → at_stamp s 0 ys ≡ at_stamp s 0 xs) → in_order ys t ≡ in_order xs t
in_order_same xs ys zero h = refl
in_order_same xs ys (suc t) h = rw (h t (omega arith)) (ap (λ (q : List Waiting). q ++ option_to_list (at_stamp t 0 xs)) (in_order_same xs ys t (λ s l. h s (omega arith))))

pub in_order_enter : (xs ys : List (Option Node)) (t x : ℕ) (n : Node) → AreApart ys → Elsewhere x xs ys → slice_index_or xs x None ≡ None → slice_index_or ys x None ≡ Some n → n.stamp ≡ t → ((i : ℕ) (m : Node) → slice_index_or xs i None ≡ Some m → m.stamp < t) → in_order ys (suc t) ≡ in_order xs t ++ waiting_at x n ∷ []
in_order_enter xs ys t x n d e free its a below =
    let there : (s : ℕ) → Kept s xs ys = λ s i m h b. e i (λ (k : i ≡ x). none-some m (sym free ∙ sym (ap (λ (j : ℕ). slice_index_or xs j None) k) ∙ h)) ∙ h in
    let back : (s : ℕ) → s < t → Kept s ys xs = λ s l i m h b.
    sym (e i (λ (k : i ≡ x). not_now s l i m h b k)) ∙ h in
    rw (at_is ys d x t n its a) (ap (λ (q : List Waiting). q ++ waiting_at x n ∷ []) (in_order_same xs ys t (λ s l. at_same s xs ys d (there s) (back s l))))
  where
    not_now : (s : ℕ) → s < t → (i : ℕ) (m : Node) → slice_index_or ys i None ≡ Some m → m.stamp ≡ s → i ≡ x → ⊥
    not_now s l i m h b k =
        let same : n ≡ m = some_is n m (sym its ∙ sym (ap (λ (j : ℕ). slice_index_or ys j None) k) ∙ h) in
        let stamp = ap (λ (o : Node). o.stamp) same in absurd (omega arith)

at_gone : (xs ys : List (Option Node)) (x : ℕ) (n : Node) → AreApart xs → Elsewhere x xs ys → slice_index_or xs x None ≡ Some n → slice_index_or ys x None ≡ None → at_stamp n.stamp 0 ys ≡ None
at_gone xs ys x n d e its gone =
    elim (cases_option (at_stamp n.stamp 0 ys)) as (λ q. at_stamp n.stamp 0 ys ≡ None) [
      | inl g ↦ g
      | inr g ↦
          let r : Found n.stamp 0 ys g.0 = at_some n.stamp 0 ys g.0 g.1 in
          let ne : r.0 ≢ x = λ (k : r.0 ≡ x). none-some r.1 (sym gone ∙ sym (ap (λ (j : ℕ). slice_index_or ys j None) k) ∙ r.2) in
          absurd (ne (d r.0 x r.1 n (sym (e r.0 ne) ∙ r.2) its r.3))
    ]

-- the test of one that is there
filter_one_false : (p : Waiting → Bool) (w : Waiting) → p w ≡ false → filter p (w ∷ []) ≡ []
filter_one_false p w e = rw e refl

pub filter_one_true : (p : Waiting → Bool) (w : Waiting) → p w ≡ true → filter p (w ∷ []) ≡ w ∷ []
filter_one_true p w e = rw e refl

-- what came at one time, without key x
left_at : (xs ys : List (Option Node)) (x : ℕ) (n : Node) (s : ℕ) → AreApart xs → AreApart ys → Elsewhere x xs ys → slice_index_or xs x None ≡ Some n → slice_index_or ys x None ≡ None → option_to_list (at_stamp s 0 ys) ≡ filter (is_other x) (option_to_list (at_stamp s 0 xs))
left_at xs ys x n s d d' e its gone =
    elim (cases_eq n.stamp s) [
      | inl a ↦
          let test : (x == x) ≡ true = grind (arith, nat_tests) in
          let out : is_other x (waiting_at x n) ≡ false = rw test refl in
          let before : at_stamp s 0 xs ≡ Some (waiting_at x n) = at_is xs d x s n its a in
          let after : at_stamp s 0 ys ≡ None = subst (λ (k : ℕ). at_stamp k 0 ys ≡ None) a (at_gone xs ys x n d e its gone) in
          rw before (rw after (sym (filter_one_false (is_other x) (waiting_at x n) out)))
      | inr a ↦
          let there : Kept s xs ys = λ i m h b. e i (λ (k : i ≡ x). a (ap (λ (o : Node). o.stamp) (some_is n m (sym its ∙ sym (ap (λ (j : ℕ). slice_index_or xs j None) k) ∙ h)) ∙ b)) ∙ h in
          let back : Kept s ys xs = λ i m h b. sym (e i (λ (k : i ≡ x). none-some m (sym gone ∙ sym (ap (λ (j : ℕ). slice_index_or ys j None) k) ∙ h))) ∙ h in
          let same : at_stamp s 0 ys ≡ at_stamp s 0 xs = at_same s xs ys d' there back in
          elim (cases_option (at_stamp s 0 xs)) as (λ q. option_to_list (at_stamp s 0 ys) ≡ filter (is_other x) (option_to_list (at_stamp s 0 xs))) [
            | inl g ↦ rw same (rw g refl)
            | inr g ↦
                let r : Found s 0 xs g.0 = at_some s 0 xs g.0 g.1 in
                let ne : r.0 ≢ x = λ (k : r.0 ≡ x). a (ap (λ (o : Node). o.stamp) (some_is n r.1 (sym its ∙ sym (ap (λ (j : ℕ). slice_index_or xs j None) k) ∙ r.2)) ∙ r.3) in
                let key : g.0.key ≡ 0 + r.0 = ap (λ (w : Waiting). w.key) r.4 in
                let key2 : g.0.key ≢ x = λ (k : g.0.key ≡ x). ne (omega arith) in
                let test : (g.0.key == x) ≡ false = grind (arith, nat_tests, key2) in
                let stays : is_other x g.0 ≡ true = rw test refl in
                rw same (rw g.1 (sym (filter_one_true (is_other x) g.0 stays)))
          ]
    ]

pub in_order_leave : (xs ys : List (Option Node)) (x : ℕ) (n : Node) (t : ℕ) → AreApart xs → AreApart ys → Elsewhere x xs ys → slice_index_or xs x None ≡ Some n → slice_index_or ys x None ≡ None → in_order ys t ≡ filter (is_other x) (in_order xs t)
in_order_leave xs ys x n zero d d' e its gone = refl
in_order_leave xs ys x n (suc t) d d' e its gone =
    rw (filter-append (is_other x) (in_order xs t) (option_to_list (at_stamp t 0 xs)))
    (rw (in_order_leave xs ys x n t d d' e its gone) (ap (λ (q : List Waiting). filter (is_other x) (in_order xs t) ++ q) (left_at xs ys x n t d d' e its gone)))

first_stays : (a b : List Waiting) (w : Waiting) → first a ≡ Some w → first (a ++ b) ≡ Some w
first_stays [] b w e = absurd (none-some w e)
first_stays (v ∷ a) b w e = e

filter_all : (p : Waiting → Bool) (xs : List (Option Node)) (s : ℕ) → ((i : ℕ) (m : Node) → slice_index_or xs i None ≡ Some m → p (waiting_at i m) ≡ true) → filter p (option_to_list (at_stamp s 0 xs)) ≡ option_to_list (at_stamp s 0 xs)
filter_all p xs s h =
    elim (cases_option (at_stamp s 0 xs)) as (λ q. filter p (option_to_list (at_stamp s 0 xs)) ≡ option_to_list (at_stamp s 0 xs)) [
      | inl g ↦ rw g refl
      | inr g ↦
          let f : Found s 0 xs g.0 = at_some s 0 xs g.0 g.1 in
          let key : 0 + f.0 ≡ f.0 = omega arith in
          let same : g.0 ≡ waiting_at f.0 f.1 = f.4 ∙ ap (λ (k : ℕ). waiting_at k f.1) key in
          let test : p g.0 ≡ true = ap p same ∙ h f.0 f.1 f.2 in
          rw g.1 (filter_one_true p g.0 test)
    ]

pub all_stay : (p : Waiting → Bool) (xs : List (Option Node)) (t : ℕ) → ((i : ℕ) (m : Node) → slice_index_or xs i None ≡ Some m → p (waiting_at i m) ≡ true) → filter p (in_order xs t) ≡ in_order xs t
all_stay p xs zero h = refl
all_stay p xs (suc t) h = rw (filter-append p (in_order xs t) (option_to_list (at_stamp t 0 xs))) (rw (all_stay p xs t h) (ap (λ (q : List Waiting). in_order xs t ++ q) (filter_all p xs t h)))

-- what r takes out p takes out too
filter_both : (p r : Waiting → Bool) (xs : List (Option Node)) (s : ℕ) → ((i : ℕ) (m : Node) → slice_index_or xs i None ≡ Some m → r (waiting_at i m) ≡ false → p (waiting_at i m) ≡ false) → filter p (filter r (option_to_list (at_stamp s 0 xs))) ≡ filter p (option_to_list (at_stamp s 0 xs))
filter_both p r xs s h =
    elim (cases_option (at_stamp s 0 xs)) as (λ q. filter p (filter r (option_to_list (at_stamp s 0 xs))) ≡ filter p (option_to_list (at_stamp s 0 xs))) [
      | inl g ↦ rw g refl
      | inr g ↦
          let f : Found s 0 xs g.0 = at_some s 0 xs g.0 g.1 in
          let key : 0 + f.0 ≡ f.0 = omega arith in
          let same : g.0 ≡ waiting_at f.0 f.1 = f.4 ∙ ap (λ (k : ℕ). waiting_at k f.1) key in
          elim (cases_Bool (r g.0)) [
            | inl a ↦ rw g.1 (ap (filter p) (filter_one_true r g.0 a))
            | inr a ↦ let b : p g.0 ≡ false = ap p same ∙ h f.0 f.1 f.2 (sym (ap r same) ∙ a) in
                rw g.1 (ap (filter p) (filter_one_false r g.0 a) ∙ sym (filter_one_false p g.0 b))
          ]
    ]

pub both_stay : (p r : Waiting → Bool) (xs : List (Option Node)) (t : ℕ) → ((i : ℕ) (m : Node) → slice_index_or xs i None ≡ Some m → r (waiting_at i m) ≡ false → p (waiting_at i m) ≡ false) → filter p (filter r (in_order xs t)) ≡ filter p (in_order xs t)
both_stay p r xs zero h = refl
both_stay p r xs (suc t) h =
    ap (filter p) (filter-append r (in_order xs t) (option_to_list (at_stamp t 0 xs))) ∙ filter-append p (filter r (in_order xs t)) (filter r (option_to_list (at_stamp t 0 xs)))
    ∙ ap (λ (q : List Waiting). q ++ filter p (filter r (option_to_list (at_stamp t 0 xs)))) (both_stay p r xs t h) ∙ ap (λ (q : List Waiting). filter p (in_order xs t) ++ q) (filter_both p r xs t h)
    ∙ sym (filter-append p (in_order xs t) (option_to_list (at_stamp t 0 xs)))

pub filter_fewer : (p r : Waiting → Bool) (ws : List Waiting) → length (filter p (filter r ws)) ≤ length (filter p ws)
filter_fewer p r [] = omega arith
filter_fewer p r (w ∷ ws) = let i = filter_fewer p r ws in
    elim (cases_Bool (r w)) [
      | inl a ↦ rw a (elim (cases_Bool (p w)) [ inl b ↦ rw b (omega (arith, i)) | inr b ↦ rw b i ])
      | inr a ↦ rw a (elim (cases_Bool (p w)) [ inl b ↦ rw b (omega (arith, i)) | inr b ↦ rw b i ])
    ]

pub one_fewer : (p r : Waiting → Bool) (xs : List (Option Node)) (k t : ℕ) (n : Node) → AreApart xs → slice_index_or xs k None ≡ Some n → n.stamp < t → r (waiting_at k n) ≡ false → p (waiting_at k n) ≡ true → length (filter p (filter r (in_order xs t))) < length (filter p (in_order xs t))
one_fewer p r xs k zero n d its l a b = absurd (omega arith)
one_fewer p r xs k (suc t) n d its l a b =
    let before = in_order xs t in let here = option_to_list (at_stamp t 0 xs) in
    let e1 : length (filter p (filter r (before ++ here))) ≡ length (filter p (filter r before)) + length (filter p (filter r here)) =
    ap (λ (q : List Waiting). length (filter p q)) (filter-append r before here) ∙ ap length (filter-append p (filter r before) (filter r here)) ∙ length-append (filter p (filter r before)) (filter p (filter r here)) in
    let e2 : length (filter p (before ++ here)) ≡ length (filter p before) + length (filter p here) = ap length (filter-append p before here) ∙ length-append (filter p before) (filter p here) in
    let f1 : length (filter p (filter r before)) ≤ length (filter p before) = filter_fewer p r before in
    let f2 : length (filter p (filter r here)) ≤ length (filter p here) = filter_fewer p r here in
    elim (cases_lt n.stamp t) [
      | inl c ↦ let i : length (filter p (filter r before)) < length (filter p before) = one_fewer p r xs k t n d its c a b in omega (arith, e1, e2, f2, i)
      | inr c ↦
          let same : here ≡ waiting_at k n ∷ [] = ap option_to_list (at_is xs d k t n its (omega arith)) in
          let g1 : length (filter p (filter r here)) ≡ 0 = ap (λ (q : List Waiting). length (filter p (filter r q))) same ∙ ap (λ (q : List Waiting). length (filter p q)) (filter_one_false r (waiting_at k n) a) in
          let g2 : length (filter p here) ≡ 1 = ap (λ (q : List Waiting). length (filter p q)) same ∙ ap length (filter_one_true p (waiting_at k n) b) in
          omega (arith, e1, e2, f1, g1, g2)
    ]

pub quiet_test : (p : Waiting → Bool) (xs : List (Option Node)) (s : ℕ) → ((i : ℕ) (m : Node) → slice_index_or xs i None ≡ Some m → m.stamp ≡ s → p (waiting_at i m) ≡ false) → filter p (option_to_list (at_stamp s 0 xs)) ≡ []
quiet_test p xs s h =
    elim (cases_option (at_stamp s 0 xs)) as (λ q. filter p (option_to_list (at_stamp s 0 xs)) ≡ []) [
      | inl g ↦ rw g refl
      | inr g ↦
          let f : Found s 0 xs g.0 = at_some s 0 xs g.0 g.1 in
          let key : 0 + f.0 ≡ f.0 = omega arith in
          let same : g.0 ≡ waiting_at f.0 f.1 = f.4 ∙ ap (λ (k : ℕ). waiting_at k f.1) key in
          let test : p g.0 ≡ false = ap p same ∙ h f.0 f.1 f.2 f.3 in
          rw g.1 (filter_one_false p g.0 test)
    ]

pub empty_test : (p : Waiting → Bool) (xs : List (Option Node)) (t : ℕ) → ((i : ℕ) (m : Node) → slice_index_or xs i None ≡ Some m → m.stamp < t → p (waiting_at i m) ≡ false) → filter p (in_order xs t) ≡ []
empty_test p xs zero h = refl
empty_test p xs (suc t) h =
    rw (filter-append p (in_order xs t) (option_to_list (at_stamp t 0 xs)))
    (rw (empty_test p xs t (λ i m a b. h i m a (omega arith))) (quiet_test p xs t (λ i m a b. h i m a (omega arith))))

pub first_test : (p : Waiting → Bool) (xs : List (Option Node)) (t k : ℕ) (n : Node) → AreApart xs → slice_index_or xs k None ≡ Some n → n.stamp < t → p (waiting_at k n) ≡ true → ((i : ℕ) (m : Node) → slice_index_or xs i None ≡ Some m → m.stamp < n.stamp → p (waiting_at i m) ≡ false) → first (filter p (in_order xs t)) ≡ Some (waiting_at k n)
first_test p xs zero k n d its below test before = absurd (omega arith)
first_test p xs (suc t) k n d its below test before =
    rw (filter-append p (in_order xs t) (option_to_list (at_stamp t 0 xs)))
    (elim (cases_lt n.stamp t) [
      | inl a ↦ first_stays _ _ _ (first_test p xs t k n d its a test before)
      | inr a ↦
          let quiet_before : filter p (in_order xs t) ≡ [] = empty_test p xs t (λ i m h l. before i m h (omega arith)) in
          rw quiet_before (rw (at_is xs d k t n its (omega arith)) (ap first (filter_one_true p (waiting_at k n) test)))
    ])
