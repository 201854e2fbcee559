-- How many offers a row has, counted along its ring.
use Rattle.std.proofs.Common.{◌≡◌, ◌≢◌, ℕ, zero, suc, ◌<◌, ◌≤◌, ◌-◌, sym, ap, ◌∙◌, arith, Bool, true, false, inl, inr, refl, List, length, length-append, append-nil, [], ◌∷◌, ◌++◌}
use Rattle.std.proofs.lemmas.Bool.{cases_lt, cases_Bool}
use Rattle.std.proofs.lemmas.List.Elements.{filter-append}
use Rattle.std.specs.Prelude.{Option, Some, None, ◌+◌, ◌==◌, slice_index_or, option_to_list}
use Rattle.std.specs.Option.{is_some}
use Rattle.std.specs.List.{filter}
use Rattle.sleep_queue.specs.declared.offer.Node.{Node}
use Rattle.sleep_queue.specs.Queue.{AreApart, AreBefore, IsFirst, IsRing, Places, Waiting, at_stamp, by_row, in_order, is_in_either, is_in_row, number_of, places_by, row_of, waiting_at}
use Rattle.sleep_queue.proofs.Times.{at_is, empty_test, filter_one_true, quiet_test}
use Rattle.sleep_queue.proofs.Sides.{are_same, not_at, taken_some}

-- how many of the times before t an offer has, the first slot having key j
abbrev times : ℕ → List (Option Node) → ℕ → ℕ
times j xs zero = 0
times j xs (suc n) = times j xs n + length (option_to_list (at_stamp n j xs))

times_none : (j : ℕ) (xs : List (Option Node)) (t : ℕ) → times j (None ∷ xs) t ≡ times (suc j) xs t
times_none j xs zero = refl
times_none j xs (suc t) = ap (λ (n : ℕ). n + length (option_to_list (at_stamp t (suc j) xs))) (times_none j xs t)

times_before : (j : ℕ) (n : Node) (xs : List (Option Node)) (t : ℕ) → t ≤ n.stamp → times j (Some n ∷ xs) t ≡ times (suc j) xs t
times_before j n xs zero l = refl
times_before j n xs (suc t) l =
    let apart : (n.stamp == t) ≡ false = not_at n.stamp t (λ (e : n.stamp ≡ t). absurd (omega arith)) in
    rw apart (ap (λ (k : ℕ). k + length (option_to_list (at_stamp t (suc j) xs))) (times_before j n xs t (omega arith)))

times_some : (j : ℕ) (n : Node) (xs : List (Option Node)) (t : ℕ) → times j (Some n ∷ xs) t ≤ times (suc j) xs t + 1
times_some j n xs zero = omega arith
times_some j n xs (suc t) = elim (cases_Bool (n.stamp == t)) [
  | inl a ↦
      let same : n.stamp ≡ t = grind (arith, a) in
      let before = times_before j n xs t (omega arith) in rw a (omega (arith, before))
  | inr a ↦ let within = times_some j n xs t in rw a (omega (arith, within))
]

times_nil : (j t : ℕ) → times j [] t ≡ 0
times_nil j zero = refl
times_nil j (suc t) = let e = times_nil j t in omega (arith, e)

times_few : (j : ℕ) (xs : List (Option Node)) (t : ℕ) → times j xs t ≤ length xs
times_few j [] t = let e = times_nil j t in omega (arith, e)
times_few j (None ∷ xs) t = let e = times_none j xs t in let l = times_few (suc j) xs t in omega (arith, e, l)
times_few j (Some n ∷ xs) t = let e = times_some j n xs t in let l = times_few (suc j) xs t in omega (arith, e, l)

order_times : (xs : List (Option Node)) (t : ℕ) → length (in_order xs t) ≡ times 0 xs t
order_times xs zero = refl
order_times xs (suc t) = length-append (in_order xs t) (option_to_list (at_stamp t 0 xs)) ∙ ap (λ (n : ℕ). n + length (option_to_list (at_stamp t 0 xs))) (order_times xs t)

filter_short : (p : Waiting → Bool) (ws : List Waiting) → length (filter p ws) ≤ length ws
filter_short p [] = omega arith
filter_short p (w ∷ ws) = let i = filter_short p ws in elim (cases_Bool (p w)) [ inl b ↦ rw b (omega (arith, i)) | inr b ↦ rw b (omega (arith, i)) ]

-- `count` offers of row r came up to the one of key k, which is of the row
pub record IsCounted (xs : List (Option Node)) (r k count : ℕ) : Type 0 where
  pub taken : is_some (slice_index_or xs k None) ≡ true
  pub group : (places_by by_row xs).group k ≡ r
  pub so_many : count ≡ length (row_of r (in_order xs (suc ((places_by by_row xs).stamp k))))

module _ (xs : List (Option Node)) (d : AreApart xs) (r : ℕ) where
  abbrev rowed : ℕ → List Waiting
  rowed t = row_of r (in_order xs t)

  -- a row has no more offers than there are slots
  few : (t : ℕ) → length (rowed t) ≤ length xs
  few t = let a = filter_short (is_in_row r) (in_order xs t) in let b = order_times xs t in let c = times_few 0 xs t in omega (arith, a, b, c)

  -- none came between two times
  gap : (s n : ℕ) → ((i : ℕ) (m : Node) → slice_index_or xs i None ≡ Some m → m.row ≡ r → s ≤ m.stamp → m.stamp < s + n → ⊥) → rowed (s + n) ≡ rowed s
  gap s zero none = let e : s + zero ≡ s = omega arith in ap rowed e
  gap s (suc n) none =
      let e : s + suc n ≡ suc (s + n) = omega arith in
      let quiet : filter (is_in_row r) (option_to_list (at_stamp (s + n) 0 xs)) ≡ [] =
      quiet_test (is_in_row r) xs (s + n) (λ i m g l. not_at m.row r (λ (q : m.row ≡ r). none i m g q (omega arith) (omega arith))) in
      let before : rowed (s + n) ≡ rowed s = gap s n (λ i m g q a b. none i m g q a (omega arith)) in
      ap rowed e ∙ filter-append (is_in_row r) (in_order xs (s + n)) (option_to_list (at_stamp (s + n) 0 xs)) ∙ ap (λ (l : List Waiting). rowed (s + n) ++ l) quiet
      ∙ append-nil (rowed (s + n)) ∙ before

  -- one came at its time
  came : (k : ℕ) (n : Node) → slice_index_or xs k None ≡ Some n → n.row ≡ r → length (rowed (suc n.stamp)) ≡ length (rowed n.stamp) + 1
  came k n e a =
      let here : option_to_list (at_stamp n.stamp 0 xs) ≡ waiting_at k n ∷ [] = ap option_to_list (at_is xs d k n.stamp n e refl) in
      let its : filter (is_in_row r) (option_to_list (at_stamp n.stamp 0 xs)) ≡ waiting_at k n ∷ [] = ap (filter (is_in_row r)) here ∙ filter_one_true (is_in_row r) (waiting_at k n) (are_same n.row r a) in
      ap length (filter-append (is_in_row r) (in_order xs n.stamp) (option_to_list (at_stamp n.stamp 0 xs))) ∙ length-append (rowed n.stamp) _ ∙ ap (λ (l : List Waiting). length (rowed n.stamp) + length l) its

  abbrev u : Places
  u = places_by by_row xs

  pub counted_few : (k count : ℕ) → IsCounted xs r k count → count ≤ length xs
  counted_few k count c = let l = few (suc (u.stamp k)) in omega (arith, c.so_many, l)

  module _ (f : ℕ → ℕ) (ring : IsRing u f) (h : ℕ) (e : IsFirst u r h) where
    stamp_is : (i : ℕ) (m : Node) → slice_index_or xs i None ≡ Some m → u.stamp i ≡ m.stamp
    stamp_is i m g = ap (number_of (λ (o : Node). o.stamp)) g

    row_is : (i : ℕ) (m : Node) → slice_index_or xs i None ≡ Some m → u.group i ≡ m.row
    row_is i m g = ap (number_of by_row) g

    pub counted_first : IsCounted xs r h 1
    counted_first =
        let n = taken_some (slice_index_or xs h None) e.taken in
        let none : rowed n.0.stamp ≡ [] = empty_test (is_in_row r) xs n.0.stamp (λ i m g l. not_at m.row r (λ (q : m.row ≡ r).
        let least = e.least i (ap is_some g) (row_is i m g ∙ q) in let a = stamp_is h n.0 n.1 in let b = stamp_is i m g in absurd (omega arith))) in
        let one = came h n.0 n.1 (sym (row_is h n.0 n.1) ∙ e.group) in
        record {
          taken = e.taken;
          group = e.group;
          so_many = let a : length (rowed n.0.stamp) ≡ 0 = ap length none in let b : length (rowed (suc (u.stamp h))) ≡ length (rowed (suc n.0.stamp)) = ap (λ (s : ℕ). length (rowed (suc s))) (stamp_is h n.0 n.1) in omega (arith, one, a, b);
        }

    -- the next one came later, or is the first
    later : (k : ℕ) → u.taken k ≡ true → u.group k ≡ r → f k ≢ h → u.stamp k < u.stamp (f k)
    later k t g ne = elim (cases_lt (u.stamp k) (u.stamp (f k))) [
      | inl l ↦ l
      | inr l ↦
          let b = ring.beside k t in
          let ty = ring.inside k t in
          let y = taken_some (slice_index_or xs (f k) None) ty in
          let n = taken_some (slice_index_or xs h None) e.taken in
          let a1 = b.first h e.taken (e.group ∙ sym g) l in
          let a2 = e.least (f k) ty (b.group ∙ g) in
          let sy = stamp_is (f k) y.0 y.1 in let sn = stamp_is h n.0 n.1 in
          absurd (ne (d (f k) h y.0 n.0 y.1 n.1 (omega arith)))
    ]

    pub counted_next : (k count : ℕ) → IsCounted xs r k count → f k ≢ h → IsCounted xs r (f k) (count + 1)
    counted_next k count c ne =
        let b = ring.beside k c.taken in
        let ty = ring.inside k c.taken in
        let l = later k c.taken c.group ne in
        let y = taken_some (slice_index_or xs (f k) None) ty in
        let sy = stamp_is (f k) y.0 y.1 in
        let rest = u.stamp (f k) - suc (u.stamp k) in
        let reached : suc (u.stamp k) + rest ≡ y.0.stamp = omega (arith, l, sy) in
        let none : rowed (suc (u.stamp k) + rest) ≡ rowed (suc (u.stamp k)) = gap (suc (u.stamp k)) rest (λ i m g q lo hi.
        let s = stamp_is i m g in
        let more = b.rises i (ap is_some g) (row_is i m g ∙ q ∙ sym c.group) l (omega (arith, s, lo)) in absurd (omega (arith, more, hi, reached, sy, s))) in
        let here : length (rowed y.0.stamp) ≡ length (rowed (suc (u.stamp k))) = ap (λ (s : ℕ). length (rowed s)) (sym reached) ∙ ap length none in
        let one = came (f k) y.0 y.1 (sym (row_is (f k) y.0 y.1) ∙ b.group ∙ c.group) in
        let at : length (rowed (suc (u.stamp (f k)))) ≡ length (rowed (suc y.0.stamp)) = ap (λ (s : ℕ). length (rowed (suc s))) sy in
        record {
          taken = ty;
          group = b.group ∙ c.group;
          so_many = omega (arith, c.so_many, here, one, at);
        }

    pub counted_all : (k count t : ℕ) → IsCounted xs r k count → f k ≡ h → AreBefore t xs → count ≡ length (rowed t)
    counted_all k count t c last before =
        let b = ring.beside k c.taken in
        let n = taken_some (slice_index_or xs k None) c.taken in
        let sn = stamp_is k n.0 n.1 in
        let low = before k n.0 n.1 in
        let same : u.stamp (f k) ≡ u.stamp h = ap u.stamp last in
        let wraps : u.stamp (f k) ≤ u.stamp k = let l = e.least k c.taken c.group in omega (arith, l, same) in
        let rest = t - suc (u.stamp k) in
        let reached : suc (u.stamp k) + rest ≡ t = omega (arith, sn, low) in
        let none : rowed (suc (u.stamp k) + rest) ≡ rowed (suc (u.stamp k)) = gap (suc (u.stamp k)) rest (λ i m g q lo hi.
        let s = stamp_is i m g in
        let less = b.last i (ap is_some g) (row_is i m g ∙ q ∙ sym c.group) wraps in absurd (omega (arith, less, lo, s))) in
        c.so_many ∙ sym (ap (λ (s : ℕ). length (rowed s)) (sym reached) ∙ ap length none)

-- two rows have no offer in common
module _ (r q : ℕ) (apart : r ≢ q) where
  pub either_counts : (ws : List Waiting) → length (filter (is_in_either r q) ws) ≡ length (row_of r ws) + length (row_of q ws)
  either_counts [] = refl
  either_counts (w ∷ ws) = let i = either_counts ws in elim (cases_Bool (w.row == r)) [
    | inl a ↦
        let same : w.row ≡ r = grind (arith, a) in
        let no : (w.row == q) ≡ false = not_at w.row q (λ (e : w.row ≡ q). apart (sym same ∙ e)) in
        rw a (rw no (omega (arith, i)))
    | inr a ↦ rw a (elim (cases_Bool (w.row == q)) [ inl b ↦ rw b (omega (arith, i)) | inr b ↦ rw b i ])
  ]

pub either_few : (xs : List (Option Node)) (r q t : ℕ) → length (filter (is_in_either r q) (in_order xs t)) ≤ length xs
either_few xs r q t = let a = filter_short (is_in_either r q) (in_order xs t) in let b = order_times xs t in let c = times_few 0 xs t in omega (arith, a, b, c)
