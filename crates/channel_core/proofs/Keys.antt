-- Lists of keys, and what rows have for them.
use Rattle.std.proofs.Common.{◌≡◌, ◌≢◌, ℕ, suc, ◌+◌, Bool, true, false, not, ◌||◌, List, [], ◌∷◌, ◌++◌, length, append_assoc, Option, refl, sym, ap, ◌∙◌, subst, arith, inl, inr}
use Rattle.std.specs.Prelude.{◌==◌, map}
use Rattle.std.specs.List.{filter}
use Rattle.std.proofs.lemmas.Bool.{cases_eq, both_ways, false≢true, or_cases, or_parts, or_from, or_left, or_right}
use Rattle.std.proofs.lemmas.Bool.Decides.{nat_tests}
use Rattle.std.proofs.lemmas.List.Elements.{filter-append}
use Rattle.word.specs.Values.{Request, Sleeper, Offer}
use Rattle.word.specs.Requests.{offers, without}
use Rattle.sleep_queue.specs.Queue.{Waiting, is_not_of as is_not_of_number}
use Rattle.channel_core.specs.Asleep.{Placed, placed_of, placed_offer, placed_all, is_not_of, held, asleep_of, placed_by, has, AreDistinct}
use Rattle.channel_core.specs.Orders.{is_not}

pub same_key : (a b : ℕ) → a ≡ b → (a == b) ≡ true
same_key a b e = grind (arith, nat_tests, e)

pub other_key : (a b : ℕ) → a ≢ b → (a == b) ≡ false
other_key a b e = grind (arith, nat_tests, e)

pub kept_one : {A : Type 0} (p : A → Bool) (x : A) (xs : List A) → p x ≡ true → filter p (x ∷ xs) ≡ x ∷ filter p xs
kept_one p x xs e = rw e refl

pub dropped_one : {A : Type 0} (p : A → Bool) (x : A) (xs : List A) → p x ≡ false → filter p (x ∷ xs) ≡ filter p xs
dropped_one p x xs e = rw e refl

pub stays : (j k : ℕ) → j ≢ k → is_not k j ≡ true
stays j k e = ap not (other_key j k e)

pub goes : (j k : ℕ) → j ≡ k → is_not k j ≡ false
goes j k e = ap not (same_key j k e)

-- ---- whether a key is in a list

pub has_head : (k : ℕ) (ks : List ℕ) → has k (k ∷ ks) ≡ true
has_head k ks = or_left (k == k) (has k ks) (same_key k k refl)

pub has_tail : (j k : ℕ) (ks : List ℕ) → has j ks ≡ true → has j (k ∷ ks) ≡ true
has_tail j k ks h = or_right (k == j) (has j ks) h

pub without_same : (k : ℕ) (ks : List ℕ) → has k (filter (is_not k) ks) ≡ false
without_same k [] = refl
without_same k (j ∷ ks) = elim (cases_eq j k) [
  | inl e ↦ ap (has k) (dropped_one (is_not k) j ks (goes j k e)) ∙ without_same k ks
  | inr e ↦ ap (has k) (kept_one (is_not k) j ks (stays j k e)) ∙ or_from (j == k) (has k (filter (is_not k) ks)) (other_key j k e) (without_same k ks)
]

pub without_other : (j k : ℕ) → j ≢ k → (ks : List ℕ) → has j (filter (is_not k) ks) ≡ has j ks
without_other j k ne [] = refl
without_other j k ne (i ∷ ks) = elim (cases_eq i k) [
  | inl e ↦ ap (has j) (dropped_one (is_not k) i ks (goes i k e)) ∙ without_other j k ne ks ∙ sym (ap (λ (b : Bool). b || has j ks) (other_key i j (λ (h : i ≡ j). ne (sym h ∙ e))))
  | inr e ↦ ap (has j) (kept_one (is_not k) i ks (stays i k e)) ∙ ap (λ (b : Bool). (i == j) || b) (without_other j k ne ks)
]

pub absent : (k : ℕ) (ks : List ℕ) → has k ks ≡ false → filter (is_not k) ks ≡ ks
absent k [] h = refl
absent k (j ∷ ks) h =
    let p = or_parts (j == k) (has k ks) h in
    kept_one (is_not k) j ks (ap not p.0) ∙ ap (λ (l : List ℕ). j ∷ l) (absent k ks p.1)

in_tail : (j k : ℕ) (ks : List ℕ) → j ≢ k → has k (j ∷ ks) ≡ true → has k ks ≡ true
in_tail j k ks ne h = elim (or_cases (j == k) (has k ks) h) [
  | inl a ↦ absurd (both_ways (j == k) (other_key j k ne) a)
  | inr a ↦ a
]

pub length_without : (k : ℕ) (ks : List ℕ) → AreDistinct ks → has k ks ≡ true → length (filter (is_not k) ks) + 1 ≡ length ks
length_without k [] d h = absurd (false≢true h)
length_without k (j ∷ ks) d h = elim (cases_eq j k) [
  | inl e ↦
      let out : filter (is_not k) (j ∷ ks) ≡ ks = dropped_one (is_not k) j ks (goes j k e) ∙ absent k ks (subst (λ (i : ℕ). has i ks ≡ false) e d.0) in
      let l : length (filter (is_not k) (j ∷ ks)) ≡ length ks = ap length out in
      omega (arith, l)
  | inr e ↦
      let i : length (filter (is_not k) ks) + 1 ≡ length ks = length_without k ks d.1 (in_tail j k ks e h) in
      let l : length (filter (is_not k) (j ∷ ks)) ≡ suc (length (filter (is_not k) ks)) = ap length (kept_one (is_not k) j ks (stays j k e)) in
      omega (arith, i, l)
]

pub distinct_without : (k : ℕ) (ks : List ℕ) → AreDistinct ks → AreDistinct (filter (is_not k) ks)
distinct_without k [] d = tt
distinct_without k (j ∷ ks) d = elim (cases_eq j k) [
  | inl e ↦ subst AreDistinct (sym (dropped_one (is_not k) j ks (goes j k e))) (distinct_without k ks d.1)
  | inr e ↦ subst AreDistinct (sym (kept_one (is_not k) j ks (stays j k e))) (without_other j k e ks ∙ d.0, distinct_without k ks d.1)
]

pub has_more_same : (k : ℕ) (ks : List ℕ) → has k (ks ++ k ∷ []) ≡ true
has_more_same k [] = has_head k []
has_more_same k (i ∷ ks) = or_right (i == k) (has k (ks ++ k ∷ [])) (has_more_same k ks)

pub has_more_other : (j k : ℕ) → j ≢ k → (ks : List ℕ) → has j (ks ++ k ∷ []) ≡ has j ks
has_more_other j k ne [] = or_from (k == j) false (other_key k j (λ (e : k ≡ j). ne (sym e))) refl
has_more_other j k ne (i ∷ ks) = ap (λ (b : Bool). (i == j) || b) (has_more_other j k ne ks)

pub distinct_more : (k : ℕ) (ks : List ℕ) → AreDistinct ks → has k ks ≡ false → AreDistinct (ks ++ k ∷ [])
distinct_more k [] d h = (refl, tt)
distinct_more k (j ∷ ks) d h =
    let p = or_parts (j == k) (has k ks) h in
    (has_more_other j k (λ (e : j ≡ k). both_ways (j == k) p.0 (same_key j k e)) ks ∙ d.0, distinct_more k ks d.1 p.1)

-- ---- what is in rows for several keys

module _ (slot : ℕ → Option Sleeper) where
  pub placed_by-append : (ks js : List ℕ) → placed_by slot (ks ++ js) ≡ placed_by slot ks ++ placed_by slot js
  placed_by-append [] js = refl
  placed_by-append (k ∷ ks) js =
      ap (λ (l : List Placed). placed_all k (held (slot k)).request ++ l) (placed_by-append ks js)
      ∙ sym (append_assoc (placed_all k (held (slot k)).request) (placed_by slot ks) (placed_by slot js))

-- ---- those of one key leave

gone_all : (k j : ℕ) → j ≡ k → (os : List Offer) → filter (is_not_of k) (map (placed_offer j) os) ≡ []
gone_all k j e [] = refl
gone_all k j e (o ∷ os) = dropped_one (is_not_of k) (placed_offer j o) (map (placed_offer j) os) (goes j k e) ∙ gone_all k j e os

stay_all : (k j : ℕ) → j ≢ k → (os : List Offer) → filter (is_not_of k) (map (placed_offer j) os) ≡ map (placed_offer j) os
stay_all k j e [] = refl
stay_all k j e (o ∷ os) = kept_one (is_not_of k) (placed_offer j o) (map (placed_offer j) os) (stays j k e) ∙ ap (λ (l : List Placed). placed_offer j o ∷ l) (stay_all k j e os)

pub all_go : (k j : ℕ) → j ≡ k → (q : Request) → filter (is_not_of k) (placed_all j q) ≡ []
all_go k j e q = gone_all k j e (offers q)

pub all_stay : (k j : ℕ) → j ≢ k → (q : Request) → filter (is_not_of k) (placed_all j q) ≡ placed_all j q
all_stay k j e q = stay_all k j e (offers q)

pub filter-placed_by : (slot : ℕ → Option Sleeper) (k : ℕ) (ks : List ℕ) → filter (is_not_of k) (placed_by slot ks) ≡ placed_by slot (filter (is_not k) ks)
filter-placed_by slot k [] = refl
filter-placed_by slot k (j ∷ ks) =
    let rest = filter-placed_by slot k ks in
    let apart = filter-append (is_not_of k) (placed_all j (held (slot j)).request) (placed_by slot ks) in
    elim (cases_eq j k) [
      | inl e ↦ apart ∙ ap (λ (l : List Placed). l ++ filter (is_not_of k) (placed_by slot ks)) (all_go k j e (held (slot j)).request) ∙ rest
          ∙ sym (ap (placed_by slot) (dropped_one (is_not k) j ks (goes j k e)))
      | inr e ↦ apart ∙ ap (λ (l : List Placed). l ++ filter (is_not_of k) (placed_by slot ks)) (all_stay k j e (held (slot j)).request)
          ∙ ap (λ (l : List Placed). placed_all j (held (slot j)).request ++ l) rest ∙ sym (ap (placed_by slot) (kept_one (is_not k) j ks (stays j k e)))
    ]

pub filter-placed_of : (k : ℕ) (ws : List Waiting) → map placed_of (filter (is_not_of_number k) ws) ≡ filter (is_not_of k) (map placed_of ws)
filter-placed_of k [] = refl
filter-placed_of k (w ∷ ws) =
    let rest = filter-placed_of k ws in
    elim (cases_eq w.offer.number k) [
      | inl e ↦ ap (map placed_of) (dropped_one (is_not_of_number k) w ws (goes w.offer.number k e)) ∙ rest
          ∙ sym (dropped_one (is_not_of k) (placed_of w) (map placed_of ws) (goes w.offer.number k e))
      | inr e ↦ ap (map placed_of) (kept_one (is_not_of_number k) w ws (stays w.offer.number k e)) ∙ ap (λ (l : List Placed). placed_of w ∷ l) rest
          ∙ sym (kept_one (is_not_of k) (placed_of w) (map placed_of ws) (stays w.offer.number k e))
    ]

-- ---- the same slots give the same

module _ (slot slot' : ℕ → Option Sleeper) where
  pub placed_by-same : (ks : List ℕ) → ((j : ℕ) → has j ks ≡ true → slot' j ≡ slot j) → placed_by slot' ks ≡ placed_by slot ks
  placed_by-same [] h = refl
  placed_by-same (k ∷ ks) h =
      ap (λ (o : Option Sleeper). placed_all k (held o).request ++ placed_by slot' ks) (h k (has_head k ks))
      ∙ ap (λ (l : List Placed). placed_all k (held (slot k)).request ++ l) (placed_by-same ks (λ j e. h j (has_tail j k ks e)))

  pub asleep_of-same : (ks : List ℕ) → ((j : ℕ) → has j ks ≡ true → slot' j ≡ slot j) → asleep_of slot' ks ≡ asleep_of slot ks
  asleep_of-same [] h = refl
  asleep_of-same (k ∷ ks) h =
      ap (λ (o : Option Sleeper). held o ∷ asleep_of slot' ks) (h k (has_head k ks))
      ∙ ap (λ (l : List Sleeper). held (slot k) ∷ l) (asleep_of-same ks (λ j e. h j (has_tail j k ks e)))

-- ---- those of one number leave

pub left_out : (s : Sleeper) (ss : List Sleeper) (n : ℕ) → (s.number == n) ≡ true → without (s ∷ ss) n ≡ without ss n
left_out s ss n e = rw e refl

pub left_in : (s : Sleeper) (ss : List Sleeper) (n : ℕ) → (s.number == n) ≡ false → without (s ∷ ss) n ≡ s ∷ without ss n
left_in s ss n e = rw e refl

module _ (slot : ℕ → Option Sleeper) (n : ℕ) where
  pub without_key : (k : ℕ) (ks : List ℕ) → ((j : ℕ) → has j ks ≡ true → ((held (slot j)).number == n) ≡ (j == k)) → without (asleep_of slot ks) n ≡ asleep_of slot (filter (is_not k) ks)
  without_key k [] h = refl
  without_key k (j ∷ ks) h =
      let rest = without_key k ks (λ i e. h i (has_tail i j ks e)) in
      elim (cases_eq j k) [
        | inl e ↦ left_out (held (slot j)) (asleep_of slot ks) n (h j (has_head j ks) ∙ same_key j k e) ∙ rest ∙ sym (ap (asleep_of slot) (dropped_one (is_not k) j ks (goes j k e)))
        | inr e ↦ left_in (held (slot j)) (asleep_of slot ks) n (h j (has_head j ks) ∙ other_key j k e) ∙ ap (λ (l : List Sleeper). held (slot j) ∷ l) rest
            ∙ sym (ap (asleep_of slot) (kept_one (is_not k) j ks (stays j k e)))
      ]

  pub without_none : (ks : List ℕ) → ((j : ℕ) → has j ks ≡ true → ((held (slot j)).number == n) ≡ false) → without (asleep_of slot ks) n ≡ asleep_of slot ks
  without_none [] h = refl
  without_none (j ∷ ks) h =
      left_in (held (slot j)) (asleep_of slot ks) n (h j (has_head j ks)) ∙ ap (λ (l : List Sleeper). held (slot j) ∷ l) (without_none ks (λ i e. h i (has_tail i j ks e)))
