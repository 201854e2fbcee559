-- The slots of a slab as indices in rings.
use Rattle.std.proofs.Common.{◌≡◌, ◌≢◌, ℕ, zero, suc, ◌<◌, ◌≤◌, sym, ap, ◌∙◌, subst, arith, Bool, true, false, inl, inr, refl, List, length}
use Rattle.std.proofs.lemmas.Bool.{cases_eq, both_ways, or_from, or_left, or_right}
use Rattle.std.proofs.lemmas.Bool.Decides.{nat_tests}
use Rattle.std.specs.Prelude.{◌==◌, not, Option, Some, None, ◌+◌, slice_index_or, unwrap_or}
use Rattle.std.specs.Option.{is_some}
use Rattle.std.proofs.lemmas.Option.{none-some}
use Rattle.slab.specs.Slab.{Slab, get, Updates}
use Rattle.sleep_queue.specs.Linked.{link}
use Rattle.sleep_queue.specs.declared.offer.Node.{Node}
use Rattle.sleep_queue.specs.Stored.{offer_of}
use Rattle.word.specs.Values.{Item}
use Rattle.sleep_queue.specs.Queue.{Places, IsRing, Left, Entered, IsStamped, IsHeadOf, IsSide, IsQueues, QueuesValue, by_row, by_number, head_at, Waiting, waiting_at, in_order, is_other, is_at, is_of, is_not_of, is_in_row, row_of, first, AreApart, AreBefore, head_with, head_without, number_of, places_by, is_in_either, node_at, sooner}
use Rattle.sleep_queue.proofs.Times.{in_order_enter, in_order_leave, all_stay, both_stay, one_fewer, empty_test, first_test}
use Rattle.std.specs.Prelude.{[], ◌∷◌, ◌++◌, ◌||◌, cond, nat_lt, option_map, IfSome}
use Rattle.std.specs.List.{filter}
use Rattle.sleep_queue.proofs.Orders.{left_here, left_other}
use Rattle.sleep_queue.proofs.Entering.{entered_here, entered_other}

pub taken_some : (o : Option Node) → is_some o ≡ true → (n : Node) × (o ≡ Some n)
taken_some None e = absurd (both_ways false refl e)
taken_some (Some n) e = (n, refl)

pub stamped : (f : Node → ℕ) (xs : List (Option Node)) (t : ℕ) → AreApart xs → AreBefore t xs → IsStamped (places_by f xs) t
stamped f xs t d b = record {
  apart = λ i j a c e. let m = taken_some (slice_index_or xs i None) a in let n = taken_some (slice_index_or xs j None) c in
      d i j m.0 n.0 m.1 n.1 (sym (ap (number_of (λ (k : Node). k.stamp)) m.1) ∙ e ∙ ap (number_of (λ (k : Node). k.stamp)) n.1);
  below = λ i a. let m = taken_some (slice_index_or xs i None) a in let s = ap (number_of (λ (k : Node). k.stamp)) m.1 in let l = b i m.0 m.1 in omega arith;
}

module _ (f : Node → ℕ) (s v : Slab Node) (x : ℕ) where
  pub left_places : Updates s v x None → Left (places_by f s.slots) (places_by f v.slots) x
  left_places u = record {
    gone = ap is_some u.changed;
    fewer = λ y e. elim (cases_eq y x) [
      | inl k ↦ absurd (both_ways (is_some (slice_index_or v.slots y None)) (ap is_some (ap (λ (i : ℕ). slice_index_or v.slots i None) k ∙ u.changed)) e)
      | inr k ↦ (sym (ap is_some (u.others y k)) ∙ e, k)
    ];
    others = λ y e k. ap is_some (u.others y k) ∙ e;
    group = λ y k. ap (number_of f) (u.others y k);
    stamp = λ y k. ap (number_of (λ (n : Node). n.stamp)) (u.others y k);
  }

  pub entered_places : (n : Node) → Updates s v x (Some n) → get s x ≡ None → Entered (places_by f s.slots) (places_by f v.slots) x (f n) n.stamp
  entered_places n u e = record {
    was = ap is_some e;
    taken = ap is_some u.changed;
    its_group = ap (number_of f) u.changed;
    its_stamp = ap (number_of (λ (k : Node). k.stamp)) u.changed;
    others = λ y k. ap is_some (u.others y k);
    group = λ y k. ap (number_of f) (u.others y k);
    stamp = λ y k. ap (number_of (λ (k' : Node). k'.stamp)) (u.others y k);
  }

  -- with what the rings' calls say
  pub entered_side : (n : Node) (t : ℕ) (next next' : List ℕ) (head head' : ℕ → Option ℕ) → Updates s v x (Some n) → get s x ≡ None → n.stamp ≡ t → AreApart s.slots → AreBefore t s.slots → IsSide f s.slots next head
      → (IsRing (places_by f s.slots) (link next) → IsStamped (places_by f s.slots) n.stamp → Entered (places_by f s.slots) (places_by f v.slots) x (f n) n.stamp → IsHeadOf (places_by f s.slots) (f n) (head (f n)) → IsRing (places_by f v.slots) (link next'))
      → x < length next' → length next ≤ length next' → head' (f n) ≡ head_with (head (f n)) x → ((q : ℕ) → q ≢ f n → head' q ≡ head q) → IsSide f v.slots next' head'
  entered_side n t next next' head head' u e at d b i joins room size here others =
      let en = entered_places n u e in
      let st : IsStamped (places_by f s.slots) n.stamp = subst (λ (k : ℕ). IsStamped (places_by f s.slots) k) (sym at) (stamped f s.slots t d b) in
      record {
        ring = joins i.ring st en (i.heads (f n));
        heads = λ q. elim (cases_eq q (f n)) [
          | inl k ↦ subst (λ (r : ℕ). IsHeadOf (places_by f v.slots) r (head' r)) (sym k)
              (subst (λ (h : Option ℕ). IsHeadOf (places_by f v.slots) (f n) h) (sym here) (entered_here _ (places_by f v.slots) (link next) x (f n) i.ring n.stamp st en (head (f n)) (i.heads (f n))))
          | inr k ↦ subst (λ (h : Option ℕ). IsHeadOf (places_by f v.slots) q h) (sym (others q k)) (entered_other _ (places_by f v.slots) (link next) x (f n) i.ring n.stamp st en q (head q) k (i.heads q))
        ];
        covered = λ k a. elim (cases_eq k x) [
          | inl m ↦ omega arith
          | inr m ↦ let l = i.covered k (sym (ap is_some (u.others k m)) ∙ a) in omega arith
        ];
      }

  pub left_side : (n : Node) (t : ℕ) (next next' : List ℕ) (head head' : ℕ → Option ℕ) → Updates s v x None → get s x ≡ Some n → AreApart s.slots → AreBefore t s.slots → IsSide f s.slots next head
      → (IsRing (places_by f s.slots) (link next) → IsStamped (places_by f s.slots) t → Left (places_by f s.slots) (places_by f v.slots) x → is_some (get s x) ≡ true → IsRing (places_by f v.slots) (link next'))
      → length next ≤ length next' → head' (f n) ≡ head_without (head (f n)) x (link next x) → ((q : ℕ) → q ≢ f n → head' q ≡ head q) → IsSide f v.slots next' head'
  left_side n t next next' head head' u e d b i parts size here others =
      let le = left_places u in
      let st : IsStamped (places_by f s.slots) t = stamped f s.slots t d b in
      let its : number_of f (slice_index_or s.slots x None) ≡ f n = ap (number_of f) e in
      let tx : is_some (get s x) ≡ true = ap is_some e in
      record {
        ring = parts i.ring st le tx;
        heads = λ q. elim (cases_eq q (f n)) [
          | inl k ↦ subst (λ (r : ℕ). IsHeadOf (places_by f v.slots) r (head' r)) (sym k)
              (subst (λ (h : Option ℕ). IsHeadOf (places_by f v.slots) (f n) h) (sym here)
              (subst (λ (r : ℕ). IsHeadOf (places_by f v.slots) r (head_without (head (f n)) x (link next x))) its
              (left_here (places_by f s.slots) (places_by f v.slots) (link next) x i.ring t st le tx (head (f n))
              (subst (λ (r : ℕ). IsHeadOf (places_by f s.slots) r (head (f n))) (sym its) (i.heads (f n))))))
          | inr k ↦ subst (λ (h : Option ℕ). IsHeadOf (places_by f v.slots) q h) (sym (others q k))
              (left_other (places_by f s.slots) (places_by f v.slots) (link next) x i.ring t st le tx q (head q) (λ (a : q ≡ number_of f (slice_index_or s.slots x None)). k (a ∙ its)) (i.heads q))
        ];
        covered = λ k a. let o = le.fewer k a in let l = i.covered k o.0 in omega arith;
      }

abbrev made : ℕ → List Waiting → QueuesValue
made k l = record { rows = k; waiting = l }

pub same_value : (r q : ℕ) (w v : List Waiting) → r ≡ q → w ≡ v → ◌≡◌ {A = QueuesValue} (record { rows = r; waiting = w }) (record { rows = q; waiting = v })
same_value r q w v a b = ap (λ (k : ℕ). made k w) a ∙ ap (λ (k : List Waiting). made q k) b

some_inj : (a b : Node) → Some a ≡ Some b → a ≡ b
some_inj a b e = ap (λ o. unwrap_or o a) e

module _ (s v : Slab Node) (x : ℕ) (n : Node) (t : ℕ) (d : AreApart s.slots) (b : AreBefore t s.slots) where
  module _ (u : Updates s v x (Some n)) (at : n.stamp ≡ t) where
    old_node : (i : ℕ) (a : Node) → i ≢ x → get v i ≡ Some a → get s i ≡ Some a
    old_node i a ne e = sym (u.others i ne) ∙ e

    new_node : (i : ℕ) (a : Node) → i ≡ x → get v i ≡ Some a → a.stamp ≡ t
    new_node i a k e = sym (ap (λ (m : Node). m.stamp) (some_inj n a (sym u.changed ∙ sym (ap (get v) k) ∙ e))) ∙ at

    pub entered_apart : AreApart v.slots
    entered_apart i j a c e g h = elim (cases_eq i x) [
      | inl k ↦ elim (cases_eq j x) [
        | inl m ↦ k ∙ sym m
        | inr m ↦ let p = new_node i a k e in let q = b j c (old_node j c m g) in absurd (omega arith)
      ]
      | inr k ↦ elim (cases_eq j x) [
        | inl m ↦ let p = new_node j c m g in let q = b i a (old_node i a k e) in absurd (omega arith)
        | inr m ↦ d i j a c (old_node i a k e) (old_node j c m g) h
      ]
    ]

    pub entered_before : AreBefore (t + 1) v.slots
    entered_before i a e = elim (cases_eq i x) [
      | inl k ↦ let p = new_node i a k e in omega arith
      | inr k ↦ let q = b i a (old_node i a k e) in omega arith
    ]

    pub entered_order : get s x ≡ None → in_order v.slots (t + 1) ≡ in_order s.slots t ++ waiting_at x n ∷ []
    entered_order free =
        let next : suc t ≡ t + 1 = omega arith in
        subst (λ (k : ℕ). in_order v.slots k ≡ in_order s.slots t ++ waiting_at x n ∷ []) next
        (in_order_enter s.slots v.slots t x n entered_apart u.others free u.changed at b)

  module _ (u : Updates s v x None) where
    kept_node : (i : ℕ) (a : Node) → get v i ≡ Some a → get s i ≡ Some a
    kept_node i a e = elim (cases_eq i x) [
      | inl k ↦ absurd (none-some a (sym u.changed ∙ sym (ap (get v) k) ∙ e))
      | inr k ↦ sym (u.others i k) ∙ e
    ]

    pub left_apart : AreApart v.slots
    left_apart i j a c e g h = d i j a c (kept_node i a e) (kept_node j c g) h

    pub left_before : AreBefore t v.slots
    left_before i a e = b i a (kept_node i a e)

    pub left_order : get s x ≡ Some n → in_order v.slots t ≡ filter (is_other x) (in_order s.slots t)
    left_order its = in_order_leave s.slots v.slots x n t d left_apart u.others its u.changed

not_same : (a b : ℕ) → a ≢ b → not (a == b) ≡ true
not_same a b e = let t : (a == b) ≡ false = grind (arith, nat_tests, e) in rw t refl

pub are_same : (a b : ℕ) → a ≡ b → (a == b) ≡ true
are_same a b e = grind (arith, nat_tests, e)

pub not_at : (a b : ℕ) → a ≢ b → (a == b) ≡ false
not_at a b e = grind (arith, nat_tests, e)

pub head_none : (xs : List (Option Node)) (t r : ℕ) (next : List ℕ) (head : ℕ → Option ℕ) → IsSide by_row xs next head → head r ≡ None → row_of r (in_order xs t) ≡ []
head_none xs t r next head i e =
    let h : IsHeadOf (places_by by_row xs) r None = subst (λ (k : Option ℕ). IsHeadOf (places_by by_row xs) r k) e (i.heads r) in
    empty_test (is_in_row r) xs t (λ k m g l. not_at m.row r (λ (q : m.row ≡ r). h k (ap is_some g) (ap (number_of by_row) g ∙ q)))

pub head_some : (xs : List (Option Node)) (t r k : ℕ) (n : Node) (next : List ℕ) (head : ℕ → Option ℕ) → AreApart xs → AreBefore t xs → IsSide by_row xs next head → head r ≡ Some k → slice_index_or xs k None ≡ Some n → first (row_of r (in_order xs t)) ≡ Some (waiting_at k n)
head_some xs t r k n next head d b i e its =
    let h : IsHeadOf (places_by by_row xs) r (Some k) = subst (λ (j : Option ℕ). IsHeadOf (places_by by_row xs) r j) e (i.heads r) in
    first_test (is_in_row r) xs t k n d its (b k n its) (are_same n.row r (sym (ap (number_of by_row) its) ∙ h.group))
    (λ j m g l. not_at m.row r (λ (q : m.row ≡ r).
    let least = h.least j (ap is_some g) (ap (number_of by_row) g ∙ q) in let a = ap (number_of (λ (o : Node). o.stamp)) its in let c = ap (number_of (λ (o : Node). o.stamp)) g in absurd (omega arith)))

pub head_taken : (xs : List (Option Node)) (r k : ℕ) (next : List ℕ) (head : ℕ → Option ℕ) → IsSide by_row xs next head → head r ≡ Some k → is_some (slice_index_or xs k None) ≡ true
head_taken xs r k next head i e =
    let h : IsHeadOf (places_by by_row xs) r (Some k) = subst (λ (j : Option ℕ). IsHeadOf (places_by by_row xs) r j) e (i.heads r) in h.taken

-- a key that is free: it is alone in each ring, and first of no group
module _ (f : Node → ℕ) (s : Slab Node) (x : ℕ) (rows : List ℕ) (heads : ℕ → Option ℕ) (side : IsSide f s.slots rows heads) (free : get s x ≡ None) where
  pub free_alone : (rows1 : List ℕ) → ((i : ℕ) → link rows1 i ≡ link rows i) → link rows1 x ≡ x
  free_alone rows1 same = same x ∙ side.ring.alone x (ap is_some free)

  first_apart : (q n h : ℕ) → length rows ≤ n → IsHeadOf (places_by f s.slots) q (Some h) → (h < n) × (x ≢ h)
  first_apart q n h more first =
      let l = side.covered h first.taken in
      (omega arith, λ (e : x ≡ h). both_ways (is_some (get s h)) (ap is_some (sym (ap (get s) e) ∙ free)) first.taken)

  pub free_not_first : (q n : ℕ) (o : Option ℕ) → length rows ≤ n → o ≡ heads q → IfSome o (λ (h : ℕ). (h < n) × (x ≢ h))
  free_not_first q n None more e = tt
  free_not_first q n (Some h) more e = first_apart q n h more (subst (λ (o : Option ℕ). IsHeadOf (places_by f s.slots) q o) (sym e) (side.heads q))

pub side_enter : (f : Node → ℕ) (s v : Slab Node) (x k t : ℕ) (n : Node) (rows rows1 rows' : List ℕ) (heads heads' : ℕ → Option ℕ) (head : Option ℕ)
    → AreApart s.slots → AreBefore t s.slots → IsSide f s.slots rows heads → Updates s v k (Some n) → get s k ≡ None → k ≡ x → n.stamp ≡ t
    → ((u : Places) → IsRing u (link rows) → IsRing u (link rows1)) → length rows ≤ length rows1 → x < length rows1
    → ((u w : Places) (q m : ℕ) → IsRing u (link rows1) → IsStamped u m → Entered u w x q m → IsHeadOf u q head → IsRing w (link rows')) → length rows' ≡ length rows1
    → head ≡ heads (f n) → heads' (f n) ≡ head_with head x → ((q : ℕ) → q ≢ f n → heads' q ≡ heads q)
    → IsSide f v.slots rows' heads'
side_enter f s v x k t n rows rows1 rows' heads heads' head apart before side u free same at cover more room joins size is here others =
    let u' : Updates s v x (Some n) = subst (λ (i : ℕ). Updates s v i (Some n)) same u in
    let free' : get s x ≡ None = subst (λ (i : ℕ). get s i ≡ None) same free in
    let row : IsSide f s.slots rows1 heads = record {
      ring = cover (places_by f s.slots) side.ring;
      heads = side.heads;
      covered = λ i a. let l = side.covered i a in omega arith;
    } in
    entered_side f s v x n t rows1 rows' heads heads' u' free' at apart before row
    (λ r d e h. joins (places_by f s.slots) (places_by f v.slots) (f n) n.stamp r d e (subst (λ (o : Option ℕ). IsHeadOf (places_by f s.slots) (f n) o) (sym is) h))
    (omega arith) (omega arith) (here ∙ ap (λ (o : Option ℕ). head_with o x) is) others

pub order_enter : (s v : Slab Node) (x k t t' : ℕ) (n : Node) → AreApart s.slots → AreBefore t s.slots → Updates s v k (Some n) → get s k ≡ None → k ≡ x → n.stamp ≡ t → t' ≡ t + 1
    → AreApart v.slots × AreBefore t' v.slots × (in_order v.slots t' ≡ in_order s.slots t ++ waiting_at x n ∷ [])
order_enter s v x k t t' n apart before u free same at next = (
  entered_apart s v k n t apart before u at,
  subst (λ (i : ℕ). AreBefore i v.slots) (sym next) (entered_before s v k n t apart before u at),
  subst (λ (i : ℕ). in_order v.slots i ≡ in_order s.slots t ++ waiting_at x n ∷ []) (sym next) (entered_order s v k n t apart before u at free ∙ ap (λ (i : ℕ). in_order s.slots t ++ waiting_at i n ∷ []) same),
)

no_head : (heads : List (Option ℕ)) (q : ℕ) → head_at (heads ++ None ∷ []) q ≡ head_at heads q
no_head [] zero = refl
no_head [] (suc q) = refl
no_head (h ∷ heads) zero = refl
no_head (h ∷ heads) (suc q) = no_head heads q

pub queues_more : (xs : List (Option Node)) (items : List (Option Item)) (t : ℕ) (rows : List ℕ) (heads : List (Option ℕ)) (own : List ℕ) (owners : List (Option ℕ)) → IsQueues xs items t rows heads own owners → IsQueues xs items t rows (heads ++ None ∷ []) own owners
queues_more xs items t rows heads own owners q = record {
  apart = q.apart;
  before = q.before;
  stored = q.stored;
  own = q.own;
  row = record {
    ring = q.row.ring;
    heads = λ i. subst (λ (o : Option ℕ). IsHeadOf (places_by by_row xs) i o) (sym (no_head heads i)) (q.row.heads i);
    covered = q.row.covered;
  };
}

pub queues_covered : (xs : List (Option Node)) (items : List (Option Item)) (t : ℕ) (rows rows1 : List ℕ) (heads : List (Option ℕ)) (own own1 : List ℕ) (owners : List (Option ℕ)) → IsQueues xs items t rows heads own owners
    → ((u : Places) → IsRing u (link rows) → IsRing u (link rows1)) → length rows ≤ length rows1
    → ((u : Places) → IsRing u (link own) → IsRing u (link own1)) → length own ≤ length own1 → IsQueues xs items t rows1 heads own1 owners
queues_covered xs items t rows rows1 heads own own1 owners q cover more cover1 more1 = record {
  apart = q.apart;
  before = q.before;
  stored = q.stored;
  row = record {
    ring = cover (places_by by_row xs) q.row.ring;
    heads = q.row.heads;
    covered = λ i a. let l = q.row.covered i a in omega arith;
  };
  own = record {
    ring = cover1 (places_by by_number xs) q.own.ring;
    heads = q.own.heads;
    covered = λ i a. let l = q.own.covered i a in omega arith;
  };
}

same_of : (a b : ℕ) → not (a == b) ≡ false → a ≡ b
same_of a b e = elim (cases_eq a b) [ inl k ↦ k | inr k ↦ absurd (both_ways (not (a == b)) e (not_same a b k)) ]

pub not_there : (xs : List (Option Node)) (t x : ℕ) → (is_some (slice_index_or xs x None) ≡ true → ⊥) → filter (is_other x) (in_order xs t) ≡ in_order xs t
not_there xs t x h = all_stay (is_other x) xs t (λ i m g. not_same i x (λ (k : i ≡ x). h (ap is_some (sym (ap (λ (j : ℕ). slice_index_or xs j None) k) ∙ g))))

module _ (xs : List (Option Node)) (t n : ℕ) (next : List ℕ) (head : ℕ → Option ℕ) (side : IsSide by_number xs next head) where
  pub owner_none : head n ≡ None → filter (is_not_of n) (in_order xs t) ≡ in_order xs t
  owner_none e =
      let h : IsHeadOf (places_by by_number xs) n None = subst (λ (k : Option ℕ). IsHeadOf (places_by by_number xs) n k) e (side.heads n) in
      all_stay (is_not_of n) xs t (λ i m g. not_same m.offer.number n (λ (k : m.offer.number ≡ n). h i (ap is_some g) (ap (number_of by_number) g ∙ k)))

  module _ (k : ℕ) (e : head n ≡ Some k) where
    its : (m : Node) × (slice_index_or xs k None ≡ Some m)
    its =
        let h : IsHeadOf (places_by by_number xs) n (Some k) = subst (λ (j : Option ℕ). IsHeadOf (places_by by_number xs) n j) e (side.heads n) in
        taken_some (slice_index_or xs k None) h.taken

    number_is : (m : Node) → slice_index_or xs k None ≡ Some m → m.offer.number ≡ n
    number_is m g =
        let h : IsHeadOf (places_by by_number xs) n (Some k) = subst (λ (j : Option ℕ). IsHeadOf (places_by by_number xs) n j) e (side.heads n) in
        sym (ap (number_of by_number) g) ∙ h.group

    pub owner_own : filter (is_not_of n) (filter (is_other k) (in_order xs t)) ≡ filter (is_not_of n) (in_order xs t)
    owner_own = both_stay (is_not_of n) (is_other k) xs t (λ i m g a.
        let same : i ≡ k = same_of i k a in
        let there : slice_index_or xs k None ≡ Some m = sym (ap (λ (j : ℕ). slice_index_or xs j None) same) ∙ g in
        ap not (are_same m.offer.number n (number_is m there)))

    pub owner_fewer : AreApart xs → AreBefore t xs → length (filter (is_of n) (filter (is_other k) (in_order xs t))) < length (filter (is_of n) (in_order xs t))
    owner_fewer d b =
        one_fewer (is_of n) (is_other k) xs k t its.0 d its.1 (b k its.0 its.1) (ap not (are_same k k refl)) (are_same its.0.offer.number n (number_is its.0 its.1))

pub at_key : (xs : List (Option Node)) (t x : ℕ) (n : Node) → AreApart xs → AreBefore t xs → slice_index_or xs x None ≡ Some n → first (filter (is_at x) (in_order xs t)) ≡ Some (waiting_at x n)
at_key xs t x n d b e = first_test (is_at x) xs t x n d e (b x n e) (are_same x x refl) (λ i m g l. not_at i x (λ (k : i ≡ x).
    let same : m ≡ n = some_inj m n (sym g ∙ ap (λ (j : ℕ). slice_index_or xs j None) k ∙ e) in let st = ap (λ (o : Node). o.stamp) same in absurd (omega arith)))

pub none_at : (xs : List (Option Node)) (t x : ℕ) → (is_some (slice_index_or xs x None) ≡ true → ⊥) → first (filter (is_at x) (in_order xs t)) ≡ None
none_at xs t x h = ap first (empty_test (is_at x) xs t (λ i m g l. not_at i x (λ (k : i ≡ x). h (ap is_some (sym (ap (λ (j : ℕ). slice_index_or xs j None) k) ∙ g)))))

pub head_key : (xs : List (Option Node)) (t r k : ℕ) (next : List ℕ) (head : ℕ → Option ℕ) → AreApart xs → AreBefore t xs → IsSide by_row xs next head → head r ≡ Some k
    → (w : Waiting) × (first (row_of r (in_order xs t)) ≡ Some w) × (first (filter (is_at k) (in_order xs t)) ≡ Some w) × (w.key ≡ k)
head_key xs t r k next head d b i e =
    let m = taken_some (slice_index_or xs k None) (head_taken xs r k next head i e) in
    (waiting_at k m.0, head_some xs t r k m.0 next head d b i e m.1, at_key xs t k m.0 d b m.1, refl)

-- ---- the first of two rows

abbrev IsFront : List (Option Node) → ℕ → Option Node → Type 0
IsFront xs r None = (i : ℕ) (m : Node) → slice_index_or xs i None ≡ Some m → m.row ≢ r
IsFront xs r (Some n) = (k : ℕ) × (slice_index_or xs k None ≡ Some n) × (n.row ≡ r) × ((i : ℕ) (m : Node) → slice_index_or xs i None ≡ Some m → m.row ≡ r → n.stamp ≤ m.stamp)

front_of : (xs : List (Option Node)) (r : ℕ) (h : Option ℕ) → IsHeadOf (places_by by_row xs) r h → IsFront xs r (node_at xs h)
front_of xs r None h = λ i m g e. h i (ap is_some g) (ap (number_of by_row) g ∙ e)
front_of xs r (Some k) h =
    let n = taken_some (slice_index_or xs k None) h.taken in
    subst (IsFront xs r) (sym n.1) (
      k,
      n.1,
      sym (ap (number_of by_row) n.1) ∙ h.group,
      λ i m g e.
          let least = h.least i (ap is_some g) (ap (number_of by_row) g ∙ e) in
          let a = ap (number_of (λ (o : Node). o.stamp)) n.1 in
          let c = ap (number_of (λ (o : Node). o.stamp)) g in omega arith,
    )

module _ (xs : List (Option Node)) (t r q : ℕ) (d : AreApart xs) (b : AreBefore t xs) where
  abbrev First : Option Node → Type 0
  First o = option_map (λ (w : Waiting). w.offer) (first (filter (is_in_either r q) (in_order xs t))) ≡ option_map (λ (n : Node). offer_of n.offer) o

  earliest : (k : ℕ) (n : Node) → slice_index_or xs k None ≡ Some n → (((n.row == r) || (n.row == q)) ≡ true)
      → ((i : ℕ) (m : Node) → slice_index_or xs i None ≡ Some m → m.stamp < n.stamp → (m.row ≢ r) × (m.row ≢ q)) → First (Some n)
  earliest k n its test before =
      ap (option_map (λ (w : Waiting). w.offer)) (first_test (is_in_either r q) xs t k n d its (b k n its) test
      (λ i m g l. let ne = before i m g l in or_from (m.row == r) (m.row == q) (not_at m.row r ne.0) (not_at m.row q ne.1)))

  chosen : (n p : Node) → IsFront xs r (Some n) → IsFront xs q (Some p) → (c : Bool) → nat_lt p.stamp n.stamp ≡ c → First (cond c (Some p) (Some n))
  chosen n p f g true e =
      let l : p.stamp < n.stamp = grind (arith, nat_tests, e) in
      earliest g.0 p g.1 (or_right (p.row == r) (p.row == q) (are_same p.row q g.2))
      (λ i m h k. ((λ (a : m.row ≡ r). let x = f.3 i m h a in omega arith), (λ (a : m.row ≡ q). let x = g.3 i m h a in omega arith)))
  chosen n p f g false e =
      let l : n.stamp ≤ p.stamp = grind (arith, nat_tests, e) in
      earliest f.0 n f.1 (or_left (n.row == r) (n.row == q) (are_same n.row r f.2))
      (λ i m h k. ((λ (a : m.row ≡ r). let x = f.3 i m h a in omega arith), (λ (a : m.row ≡ q). let x = g.3 i m h a in omega arith)))

  first_either : (a c : Option Node) → IsFront xs r a → IsFront xs q c → First (sooner a c)
  first_either None None f g =
      ap (option_map (λ (w : Waiting). w.offer)) (ap first (empty_test (is_in_either r q) xs t (λ i m h l. or_from (m.row == r) (m.row == q) (not_at m.row r (f i m h)) (not_at m.row q (g i m h)))))
  first_either None (Some p) f g =
      earliest g.0 p g.1 (or_right (p.row == r) (p.row == q) (are_same p.row q g.2)) (λ i m h k. (f i m h, (λ (a : m.row ≡ q). let x = g.3 i m h a in omega arith)))
  first_either (Some n) None f g =
      earliest f.0 n f.1 (or_left (n.row == r) (n.row == q) (are_same n.row r f.2)) (λ i m h k. ((λ (a : m.row ≡ r). let x = f.3 i m h a in omega arith), g i m h))
  first_either (Some n) (Some p) f g = chosen n p f g (nat_lt p.stamp n.stamp) refl

  pub first_of_heads : (next : List ℕ) (head : ℕ → Option ℕ) → IsSide by_row xs next head → First (sooner (node_at xs (head r)) (node_at xs (head q)))
  first_of_heads next head side = first_either (node_at xs (head r)) (node_at xs (head q)) (front_of xs r (head r) (side.heads r)) (front_of xs q (head q) (side.heads q))

-- with more capacity
pub queues_reserved : (s s' : Slab Node) (i i' : Slab Item) (room more t : ℕ) (rows : List ℕ) (heads : List (Option ℕ)) (own : List ℕ) (owners : List (Option ℕ)) → s' ≡ record s { capacity = room } → i' ≡ record i { capacity = more }
    → IsQueues s.slots i.slots t rows heads own owners → IsQueues s'.slots i'.slots t rows heads own owners
queues_reserved s s' i i' room more t rows heads own owners e f q =
    subst (λ (k : Slab Node). IsQueues k.slots i'.slots t rows heads own owners) (sym e) (subst (λ (k : Slab Item). IsQueues s.slots k.slots t rows heads own owners) (sym f) q)
