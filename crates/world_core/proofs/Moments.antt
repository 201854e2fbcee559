-- The world after k events is one to which the run comes, but for local steps.
use Rattle.std.proofs.Common.{◌≡◌, ℕ, zero, suc, ◌+◌, ◌≢◌, Bool, true, false, cond, List, [], ◌∷◌, ◌++◌, map, length, Option, Some, None, refl, sym, ap, ◌∙◌, subst, arith, get_or, set, length-append}
use Rattle.std.specs.Prelude.{option_map, ◌==◌}
use Rattle.std.proofs.lemmas.List.{map-set}
use Rattle.std.proofs.lemmas.Option.{same_Some}
use Rattle.std.proofs.lemmas.Bool.{true≢false, eq-eqb}
use Rattle.logical_clock.specs.declared.key.Key.{Key}
use Rattle.logical_clock.specs.Order.{is_before, least, keys}
use Rattle.logical_clock.proofs.Keys.{key, before_or_not, IsNext, next_is}
use Rattle.turn_rule.specs.declared.Row.{Row}
use Rattle.turn_rule.specs.declared.Step.TheVariants.{Settle}
use Rattle.turn_rule.specs.Turns.{Rules, World, moved, changed, next, one, perform, run}
use Rattle.turn_rule.specs.Schedule.{Laws, Machine, Meets, Records, RowStands, Stands, changed_rows, floor_above, has_turn, parked_clock, perform_row, row_of, settle_key, step}
use Rattle.turn_rule.specs.Settled.{RowSettles, Settles, After}
use Rattle.turn_rule.proofs.Stable.{moved_add, moved_stays, one_performs, awake_at, run_add, step_stands}

module _ {S W : Type 0} (r : Rules S W) (laws : Laws r) where
  -- ---- everyone parked

  abbrev parked : S → Row S
  parked s = record { state = s; floor = r.clock s; lease = None; parked = true }

  abbrev machine : World S W → Machine S W
  machine u = record { rows = map (option_map parked) u.awake; shared = u.shared }

  parked_at : (us : List (Option S)) (n : ℕ) → get_or (map (option_map parked) us) n None ≡ option_map parked (get_or us n None)
  parked_at [] n = refl
  parked_at (u ∷ us) zero = refl
  parked_at (u ∷ us) (suc n) = parked_at us n

  parked_length : (us : List (Option S)) → length (map (option_map parked) us) ≡ length us
  parked_length [] = refl
  parked_length (u ∷ us) = ap suc (parked_length us)

  clock_parked : (o : Option S) → parked_clock r (option_map parked o) ≡ option_map r.clock o
  clock_parked None = refl
  clock_parked (Some s) = refl

  parked_keys : (us : List (Option S)) (n : ℕ) → keys (parked_clock r) n (map (option_map parked) us) ≡ keys (option_map r.clock) n us
  parked_keys [] n = refl
  parked_keys (u ∷ us) n = rw (clock_parked u, parked_keys us (suc n)) refl

  row_parked : (o p : Option S) → RowSettles r o p → RowStands r o (option_map parked p)
  row_parked None None h = tt
  row_parked None (Some t) h = elim h [ ]
  row_parked (Some s) None h = elim h [ ]
  row_parked (Some s) (Some t) h = ((h.0.0, 0, h.0.1), record { reached = (0, omega arith); leased = tt; parked = λ e. (h.1, refl, refl) })

  stands : (x u : World S W) → Settles r x u → Stands r (machine u) x
  stands x u h = record {
    shared = sym h.shared;
    size = parked_length u.awake ∙ h.size;
    rows = λ n. rw (parked_at u.awake n) (row_parked (get_or x.awake n None) (get_or u.awake n None) (h.rows n));
  }

  -- ---- the least of them has the turn

  has_turn_all : (k : Key) (rows : List (Option (Row S))) (n : ℕ) → ((i : ℕ) (row : Row S) → get_or rows i None ≡ Some row → n + i ≢ k.number → is_before k (key row.floor (n + i)) ≡ true) → has_turn k n rows ≡ true
  has_turn_all k [] n h = refl
  has_turn_all k (p ∷ rows) n h =
      let z : n + 0 ≡ n = omega arith in
      let first : (o : Option (Row S)) → p ≡ o → floor_above k n o ≡ true = λ o e. elim o as (λ o. p ≡ o → floor_above k n o ≡ true) [
        | None ↦ λ e. refl
        | Some row ↦ λ e. first_above n k row (λ ne. rw z at (h 0 row e (λ q. ne (sym z ∙ q))))
      ] e in
      rw (first p refl) (has_turn_all k rows (suc n) (λ i row e ne. let y : n + suc i ≡ suc n + i = omega arith in rw y at (h (suc i) row e (λ q. ne (sym y ∙ q))))) where
        first_above : (n : ℕ) (k : Key) (row : Row S) → (n ≢ k.number → is_before k (key row.floor n) ≡ true) → floor_above k n (Some row) ≡ true
        first_above n k row f = by_same (n == k.number) refl where
          by_same : (b : Bool) → (n == k.number) ≡ b → floor_above k n (Some row) ≡ true
          by_same true e = rw e refl
          by_same false e = rw (e, f (λ q. true≢false (sym (eq-eqb n k.number q) ∙ e))) refl

  parked_of : (o : Option S) (row : Row S) → option_map parked o ≡ Some row → (s : S) × (o ≡ Some s) × (row ≡ parked s)
  parked_of None row e = cc
  parked_of (Some s) row e = (s, refl, cc)

  turn_is : (us : List (Option S)) (g : Key) → IsNext (option_map r.clock) None us (Some g) → has_turn g 0 (map (option_map parked) us) ≡ true
  turn_is us g nx = has_turn_all g (map (option_map parked) us) 0 (λ i row e ne.
      let z : 0 + i ≡ i = omega arith in
      let p = parked_of (get_or us i None) row (sym (parked_at us i) ∙ e) in
      let above = nx.1 i (r.clock p.0) (ap (option_map r.clock) p.1) in
      rw (z, p.2) (before_or_not (key (r.clock p.0) i) g above (λ q. ne (z ∙ q))))

  -- ---- what the turn leads to

  abbrev states : List (Option (Row S)) → List (Option S)
  states rows = map (option_map (λ (row : Row S). row.state)) rows

  states_parked : (us : List (Option S)) → states (map (option_map parked) us) ≡ us
  states_parked [] = refl
  states_parked (None ∷ us) = ap (λ xs. None ∷ xs) (states_parked us)
  states_parked (Some s ∷ us) = ap (λ xs. Some s ∷ xs) (states_parked us)

  state_new : (o : Option S) → option_map (λ (row : Row S). row.state) (option_map (row_of r) o) ≡ o
  state_new None = refl
  state_new (Some s) = refl

  states_changed : (rows : List (Option (Row S))) (cs : List (ℕ × Option S)) → states (changed_rows r rows cs) ≡ changed r (states rows) cs
  states_changed rows [] = refl
  states_changed rows (c ∷ cs) =
      states_changed (set rows c.0 (option_map (row_of r) c.1)) cs
      ∙ ap (λ xs. changed r xs cs) (map-set (option_map (λ (row : Row S). row.state)) rows c.0 (option_map (row_of r) c.1) ∙ ap (set (states rows) c.0) (state_new c.1))

  states_started : (ts : List S) → states (map (λ s. Some (row_of r s)) ts) ≡ map Some ts
  states_started [] = refl
  states_started (t ∷ ts) = ap (λ xs. Some t ∷ xs) (states_started ts)

  states_append : (xs ys : List (Option (Row S))) → states (xs ++ ys) ≡ states xs ++ states ys
  states_append [] ys = refl
  states_append (x ∷ xs) ys = ap (λ zs. option_map (λ (row : Row S). row.state) x ∷ zs) (states_append xs ys)

  state_at : (rows : List (Option (Row S))) (n : ℕ) → option_map (λ (row : Row S). row.state) (get_or rows n None) ≡ get_or (states rows) n None
  state_at [] n = refl
  state_at (x ∷ xs) zero = refl
  state_at (x ∷ xs) (suc n) = state_at xs n

  states_length : (rows : List (Option (Row S))) → length (states rows) ≡ length rows
  states_length [] = refl
  states_length (x ∷ xs) = ap suc (states_length xs)

  -- a goroutine that meets a state that leads to a request leads there
  leads_on : (s t y : S) → Meets r s t → RowSettles r (Some t) (Some y) → RowSettles r (Some s) (Some y)
  leads_on s t y m h =
      let d = h.0.0 in
      let comm : m.1 + d ≡ d + m.1 = omega arith in
      ((m.0 + d, moved_add r laws m.0 d s ∙ ap (moved r d) m.2 ∙ sym (moved_add r laws m.1 d t) ∙ ap (λ i. moved r i t) comm ∙ moved_add r laws d m.1 t ∙ ap (moved r m.1) h.0.1 ∙ moved_stays r laws m.1 y (laws.parks y h.1)), h.1)

  row_settles : (o : Option S) (p : Option (Row S)) (v : Option S) → RowStands r o p → RowSettles r (option_map (λ (row : Row S). row.state) p) v → RowSettles r o v
  row_settles None None v a h = h
  row_settles None (Some row) v a h = elim a [ ]
  row_settles (Some s) None v a h = elim a [ ]
  row_settles (Some s) (Some row) None a h = elim h [ ]
  row_settles (Some s) (Some row) (Some y) a h = leads_on s row.state y a.0 h

  -- a machine whose states are those of a world that settles stands where a world settles likewise
  settles_by : (m : Machine S W) (u x v : World S W) → Stands r m x → m.shared ≡ u.shared → states m.rows ≡ u.awake → Settles r u v → Settles r x v
  settles_by m u x v st shared rows h = record {
    shared = sym st.shared ∙ shared ∙ h.shared;
    size = h.size ∙ ap length (sym rows) ∙ states_length m.rows ∙ st.size;
    rows = λ n. row_settles (get_or x.awake n None) (get_or m.rows n None) (get_or v.awake n None) (st.rows n)
        (rw (state_at m.rows n, rows) (h.rows n));
  }

  -- ---- one event more

  module _ (u : World S W) (over : r.is_over u.shared ≡ false) (g : Key) (nx : next r u.awake ≡ Some g) where
    first : IsNext (option_map r.clock) None u.awake (Some g)
    first = subst (λ o. IsNext (option_map r.clock) None u.awake o) nx (next_is (option_map r.clock) None refl u.awake)

    performed : (t : S) → get_or u.awake g.number None ≡ Some t → r.clock t ≡ g.clock → r.asks t ≡ true → (one r u ≡ perform r u g.number t) × (step r (machine u) Settle ≡ perform_row r (machine u) g.number (Some (parked t)))
    performed t at c asks =
        let same : g ≡ key (r.clock t) g.number = ap (λ n. key n g.number) (sym c) in
        let turn : has_turn g 0 (map (option_map parked) u.awake) ≡ true = turn_is u.awake g first in
        let key_is : least (keys (parked_clock r) 0 (map (option_map parked) u.awake)) ≡ Some g = ap least (parked_keys u.awake 0) ∙ nx in
        let here : get_or (map (option_map parked) u.awake) g.number None ≡ Some (parked t) = parked_at u.awake g.number ∙ ap (option_map parked) at in (
          one_performs r laws u.awake u.shared g.number t over (nx ∙ ap Some same) at asks,
          ap (settle_key r (machine u)) key_is ∙ ap (λ b. cond b (perform_row r (machine u) g.number (get_or (map (option_map parked) u.awake) g.number None)) (machine u)) turn ∙ ap (perform_row r (machine u) g.number) here,
        )

    states_performed : (t : S) → states (perform_row r (machine u) g.number (Some (parked t))).rows ≡ (perform r u g.number t).awake
    states_performed t =
        let e = r.perform u.shared g.number t in
        states_append (changed_rows r (map (option_map parked) u.awake) e.changes) (map (λ s. Some (row_of r s)) e.started)
        ∙ ap (λ xs. xs ++ states (map (λ s. Some (row_of r s)) e.started)) (states_changed (map (option_map parked) u.awake) e.changes ∙ ap (λ xs. changed r xs e.changes) (states_parked u.awake))
        ∙ ap (λ xs. changed r u.awake e.changes ++ xs) (states_started e.started)

    next_settles : (t : S) → get_or u.awake g.number None ≡ Some t → r.clock t ≡ g.clock → r.asks t ≡ true → (x v : World S W) → Settles r x u → Settles r (one r u) v → (n : ℕ) × Settles r (run r n x) v
    next_settles t at c asks x v a b =
        let q = performed t at c asks in
        let st = step_stands r laws (machine u) x (stands x u a) over Settle in
        let st' : Stands r (perform_row r (machine u) g.number (Some (parked t))) (run r st.0 x) = subst (λ m. Stands r m (run r st.0 x)) q.1 st.1 in
        (st.0, settles_by (perform_row r (machine u) g.number (Some (parked t))) (perform r u g.number t) (run r st.0 x) v st' refl (states_performed t) (subst (λ y. Settles r y v) q.0 b))

  asks_there : (o p : Option S) → RowSettles r o p → (t : S) → p ≡ Some t → r.asks t ≡ true
  asks_there None None h t e = cc
  asks_there None (Some y) h t e = elim h [ ]
  asks_there (Some s) None h t e = elim h [ ]
  asks_there (Some s) (Some y) h t e = let same : y ≡ t = same_Some y t e in rw (sym same) h.1

  -- the world after k events is one to which the run comes, but for local steps
  pub after_settles : (k : ℕ) (w v : World S W) → After r k w v → (n : ℕ) × Settles r (run r n w) v
  after_settles zero w v a = (0, a)
  after_settles (suc k) w v a =
      let u = a.0 in
      let before = after_settles k w u a.1 in
      let g = a.3 in
      let here = first u a.2 g a.4 in
      let t = awake_at r laws (get_or u.awake g.number None) g.clock here.0 in
      let asks = asks_there (get_or (run r before.0 w).awake g.number None) (get_or u.awake g.number None) (before.1.rows g.number) t.0 t.1 in
      let more = next_settles u a.2 g a.4 t.0 t.1 t.2 asks (run r before.0 w) v before.1 a.5 in
      (before.0 + more.0, subst (λ y. Settles r y v) (sym (run_add r laws before.0 more.0 w)) more.1)

  -- and has k events more
  module _ {E : Type 0} (events : W → List E) (records : Records r events) where
    event_more : (u : World S W) → r.is_over u.shared ≡ false → (g : Key) → next r u.awake ≡ Some g → (t : S) → get_or u.awake g.number None ≡ Some t → r.clock t ≡ g.clock → r.asks t ≡ true → length (events (one r u).shared) ≡ length (events u.shared) + 1
    event_more u over g nx t at c asks =
        let q = performed u over g nx t at c asks in
        let e = records u.shared g.number t asks in
        ap (λ (y : World S W). length (events y.shared)) q.0 ∙ ap length e.1 ∙ length-append (events u.shared) (e.0 ∷ [])

    pub after_counts : (k : ℕ) (w v : World S W) → After r k w v → length (events v.shared) ≡ length (events w.shared) + k
    after_counts zero w v a = let e = ap (λ x. length (events x)) a.shared in omega (arith, e)
    after_counts (suc k) w v a =
        let u = a.0 in
        let before = after_settles k w u a.1 in
        let g = a.3 in
        let here = first u a.2 g a.4 in
        let t = awake_at r laws (get_or u.awake g.number None) g.clock here.0 in
        let asks = asks_there (get_or (run r before.0 w).awake g.number None) (get_or u.awake g.number None) (before.1.rows g.number) t.0 t.1 in
        let more = event_more u a.2 g a.4 t.0 t.1 t.2 asks in
        let last = ap (λ x. length (events x)) (sym a.5.shared) in
        omega (arith, last, more, after_counts k w u a.1)
