-- Whatever the schedule, the events are those of the one-thread run.
use Rattle.std.proofs.Common.{◌≡◌, ℕ, zero, suc, ◌+◌, ◌-◌, ◌<◌, ◌≤◌, ◌≢◌, Bool, true, false, cond, List, [], ◌∷◌, ◌++◌, map, length, Option, Some, None, refl, sym, ap, ◌∙◌, subst, zero-add, suc-add, inl, inr, ◌⊎◌, arith, get_or, set, get_or-set_same, get_or-set_other, length-set, length-append}
use Rattle.std.specs.Prelude.{◌==◌, unwrap_or, option_map}
use Rattle.std.proofs.lemmas.Bool.{true≢false, cases_eq, cases_lt, and_parts, or_cases, eqb-true}
use Rattle.std.proofs.lemmas.Option.{same_Some}
use Rattle.std.proofs.lemmas.List.FromFn.{get_or-map-range_with_len, length-map-range_with_len}
use Rattle.std.proofs.lemmas.List.{length-map, set-get_or, get_or_past, get_or_append_left, get_or-append_right}
use Rattle.std.specs.List.{sum_by, range_with_len}
use Rattle.std.specs.Option.{MatchOption}
use Rattle.std.proofs.lemmas.List.Sums.{sum_by-set}
use Rattle.logical_clock.specs.declared.key.Key.{Key}
use Rattle.turn_rule.specs.declared.Lease.{Lease}
use Rattle.turn_rule.specs.declared.Row.{Row}
use Rattle.turn_rule.specs.declared.Step.{Step}
use Rattle.turn_rule.specs.declared.Step.TheVariants.{Lend, Local, Publish, Look, Return, Settle}
use Rattle.logical_clock.specs.Order.{is_before, least, keys}
use Rattle.turn_rule.specs.Turns.{Effect, Rules, World, stepped, moved, next, changed, perform, move_on, move_at, move_next, one, run}
use Rattle.turn_rule.specs.Schedule.{Machine, Meets, RowMeets, RowOk, RowStands, Stands, row_of, lend, local, publish, look, give_back, at_row, parked_clock, floor_above, has_turn, changed_rows, perform_row, settle_key, step, happens, schedule, Laws, opened, Stable}
use Rattle.logical_clock.proofs.Keys.{key, before_weaker, before_above, IsNext, next_is}

module _ {S W : Type 0} (r : Rules S W) (laws : Laws r) where
  pub moved_add : (i j : ℕ) (s : S) → moved r (i + j) s ≡ moved r j (moved r i s)
  moved_add zero j s = rw zero-add
  moved_add (suc i) j s = rw suc-add (moved_add i j (stepped r s))

  pub moved_climbs : (n : ℕ) (s : S) → r.clock s ≤ r.clock (moved r n s)
  moved_climbs zero s = omega arith
  moved_climbs (suc n) s = omega (arith, laws.climbs s, moved_climbs n (stepped r s))

  -- if there is no local step, none is made
  pub moved_stays : (n : ℕ) (s : S) → r.local s ≡ None → moved r n s ≡ s
  moved_stays zero s h = refl
  moved_stays (suc n) s h = let e : stepped r s ≡ s = ap (λ o. unwrap_or o s) h in ap (moved r n) e ∙ moved_stays n s h

  pub Meets_trans : (s t u : S) → Meets r s t → Meets r t u → Meets r s u
  Meets_trans s t u a b =
      let c : a.1 + b.0 ≡ b.0 + a.1 = omega arith in
      (a.0 + b.0, b.1 + a.1, moved_add a.0 b.0 s ∙ ap (moved r b.0) a.2 ∙ sym (moved_add a.1 b.0 t) ∙ ap (λ n. moved r n t) c ∙ moved_add b.0 a.1 t ∙ ap (moved r a.1) b.2 ∙ sym (moved_add b.1 a.1 u))

  pub stepped_is : (s t : S) → r.local s ≡ Some t → stepped r s ≡ t
  stepped_is s t h = ap (λ o. unwrap_or o s) h

  pub Meets_step : (s t u : S) → r.local s ≡ Some t → Meets r s u → Meets r t u
  Meets_step s t u h m = Meets_trans t s u (0, 1, sym (stepped_is s t h)) m

  RowMeets_step : (x y : S) → r.local x ≡ Some y → (o : Option S) → RowMeets r (Some x) o → RowMeets r (Some y) o
  RowMeets_step x y l None m = m
  RowMeets_step x y l (Some u) m = Meets_step x y u l m

  pub met_by : (o : Option S) (t : S) → RowMeets r o (Some t) → (s : S) × (o ≡ Some s) × Meets r s t
  met_by None t h = elim h [ ]
  met_by (Some s) t h = (s, refl, h)

  pub awake_at : (o : Option S) (c : ℕ) → option_map r.clock o ≡ Some c → (s : S) × (o ≡ Some s) × (r.clock s ≡ c)
  awake_at None c h = cc
  awake_at (Some s) c h = (s, refl, cc)

  pub within : (ss : List (Option S)) (n : ℕ) (s : S) → get_or ss n None ≡ Some s → n < length ss
  within ss n s h = elim (cases_lt n (length ss)) [ inl l ↦ l | inr l ↦ let e = get_or_past ss n None l in absurd cc ]

  -- one local move of the one-thread run
  pub one_local : (ss : List (Option S)) (w : W) (k : Key) (x y : S) → r.is_over w ≡ false → next r ss ≡ Some k → get_or ss k.number None ≡ Some x → r.local x ≡ Some y
      → one r (record { awake = ss; shared = w }) ≡ record { awake = set ss k.number (Some y); shared = w }
  one_local ss w k x y over e at l =
      ap (λ b. cond b (record { awake = ss; shared = w }) (move_next r (record { awake = ss; shared = w }) (next r ss))) over
      ∙ ap (λ o. move_next r (record { awake = ss; shared = w }) o) e
      ∙ ap (λ o. move_at r (record { awake = ss; shared = w }) k.number o) at
      ∙ ap (λ o. move_on r (record { awake = ss; shared = w }) k.number x o) l

  module _ (g : ℕ) (t : S) (asks : r.asks t ≡ true) where
    -- n's state comes in d local steps to t, or, if it is another goroutine's, above t's key
    abbrev pub Aims : ℕ → Option S → ℕ → Type 0
    Aims n None d = Unit {0}
    Aims n (Some s) d = ((n ≡ g) × (moved r d s ≡ t)) ⊎ ((n ≢ g) × (is_before (key (r.clock t) g) (key (r.clock (moved r d s)) n) ≡ true))

    aim_at_g : (s : S) (d : ℕ) → Aims g (Some s) d → moved r d s ≡ t
    aim_at_g s d (inl a) = a.1
    aim_at_g s d (inr a) = absurd (a.0 refl)

    not_past : (h : ℕ) (s x : S) (d : ℕ) → moved r d s ≡ t → is_before (key (r.clock s) g) (key (r.clock x) h) ≡ false → is_before (key (r.clock t) g) (key (r.clock x) h) ≡ true → ⊥
    not_past h s x d to n p =
        let c = moved_climbs d s in
        let le : r.clock s ≤ r.clock t = rw to at c in
        let q = before_weaker (r.clock s) (r.clock t) (r.clock x) h g le p in
        true≢false (sym q ∙ n)

    -- the least that has no local step is t's
    is_there : (h : ℕ) (s x : S) (d e : ℕ) → moved r d s ≡ t → is_before (key (r.clock s) g) (key (r.clock x) h) ≡ false → r.local x ≡ None → Aims h (Some x) e → (h ≡ g) × (x ≡ t)
    is_there h s x d e to n l (inl a) = (a.0, sym (moved_stays e x l) ∙ a.1)
    is_there h s x d e to n l (inr a) = absurd (not_past h s x d to n (let q = moved_stays e x l in rw q at a.1))

    nearer : (h : ℕ) (s x y : S) (d e : ℕ) → moved r d s ≡ t → is_before (key (r.clock s) g) (key (r.clock x) h) ≡ false → r.local x ≡ Some y → Aims h (Some x) e → (f : ℕ) × (e ≡ suc f) × Aims h (Some y) f
    nearer h s x y d zero to n l (inl a) = let q : r.local x ≡ None = ap r.local a.1 ∙ laws.parks t asks in absurd cc
    nearer h s x y d zero to n l (inr a) = absurd (not_past h s x d to n a.1)
    nearer h s x y d (suc f) to n l (inl a) = (f, refl, inl (a.0, ap (moved r f) (sym (stepped_is x y l)) ∙ a.1))
    nearer h s x y d (suc f) to n l (inr a) = (f, refl, inr (a.0, ap (λ z. is_before (key (r.clock t) g) (key (r.clock (moved r f z)) h)) (sym (stepped_is x y l)) ∙ a.1))

    pub record Reaches (ss : List (Option S)) (us : ℕ → Option S) (count : ℕ) (w : W) : Type 0 where
      pub moves : ℕ
      pub to : List (Option S)
      pub ran : run r moves (record { awake = ss; shared = w }) ≡ record { awake = to; shared = w }
      pub size : count ≡ length to
      pub meets : (n : ℕ) → RowMeets r (get_or to n None) (us n)
      pub is_t : get_or to g None ≡ Some t
      pub is_next : next r to ≡ Some (key (r.clock t) g)

    -- the one-thread run comes by local steps alone to where t's request is next
    module _ (us : ℕ → Option S) (count : ℕ) (w : W) (over : r.is_over w ≡ false) (here : us g ≡ Some t) where
      pub record Before (b : ℕ) (ss : List (Option S)) (ds : List ℕ) : Type 0 where
        pub few : sum_by (λ d. d) ds ≤ b
        pub size : count ≡ length ss
        pub same : length ds ≡ length ss
        pub meets : (n : ℕ) → RowMeets r (get_or ss n None) (us n)
        pub aims : (n : ℕ) → Aims n (get_or ss n None) (get_or ds n 0)

      at_g : (b : ℕ) (ss : List (Option S)) (ds : List ℕ) → Before b ss ds → (s : S) × (get_or ss g None ≡ Some s) × (moved r (get_or ds g 0) s ≡ t)
      at_g b ss ds p =
          let m = met_by (get_or ss g None) t (rw here at (p.meets g)) in
          (m.0, m.1, aim_at_g m.0 (get_or ds g 0) (rw m.1 at (p.aims g)))

      goes_on : (ss ss' : List (Option S)) → one r (record { awake = ss; shared = w }) ≡ record { awake = ss'; shared = w } → Reaches ss' us count w → Reaches ss us count w
      goes_on ss ss' e q = record { moves = suc q.moves; to = q.to; ran = ap (run r q.moves) e ∙ q.ran; size = q.size; meets = q.meets; is_t = q.is_t; is_next = q.is_next }

      before_step : (b : ℕ) (ss : List (Option S)) (ds : List ℕ) → Before (suc b) ss ds → (h f : ℕ) (x y : S) → get_or ss h None ≡ Some x → r.local x ≡ Some y → get_or ds h 0 ≡ suc f → Aims h (Some y) f
          → Before b (set ss h (Some y)) (set ds h f)
      before_step b ss ds p h f x y at l e a =
          let in_ss : h < length ss = within ss h x at in
          let in_ds : h < length ds = omega arith in
          let row : RowMeets r (Some x) (us h) = rw at at (p.meets h) in
          record {
            few = omega (arith, sum_by-set (λ (d : ℕ). d) ds h f 0 in_ds, p.few);
            size = p.size ∙ sym (length-set ss h (Some y));
            same = length-set ds h f ∙ p.same ∙ sym (length-set ss h (Some y));
            meets = λ n. elim (cases_eq n h) [
              | inl q ↦ rw (q, get_or-set_same ss h (Some y) None in_ss) (RowMeets_step x y l (us h) row)
              | inr q ↦ rw (get_or-set_other ss h n (Some y) None q) (p.meets n)
            ];
            aims = λ n. elim (cases_eq n h) [
              | inl q ↦ rw (q, get_or-set_same ss h (Some y) None in_ss, get_or-set_same ds h f 0 in_ds) a
              | inr q ↦ rw (get_or-set_other ss h n (Some y) None q, get_or-set_other ds h n f 0 q) (p.aims n)
            ];
          }

      not_after : (ss : List (Option S)) (k : Key) → IsNext (option_map r.clock) None ss (Some k) → (s : S) → get_or ss g None ≡ Some s → (x : S) → r.clock x ≡ k.clock → is_before (key (r.clock s) g) (key (r.clock x) k.number) ≡ false
      not_after ss k nx s at x c = rw c (nx.1 g (r.clock s) (ap (option_map r.clock) at))

      positive : (b : ℕ) (ss : List (Option S)) (ds : List ℕ) → Before b ss ds → (h : ℕ) (x : S) (f : ℕ) → get_or ss h None ≡ Some x → get_or ds h 0 ≡ suc f → (c : ℕ) × (b ≡ suc c)
      positive zero ss ds p h x f at e =
          let in_ss : h < length ss = within ss h x at in
          let in_ds : h < length ds = omega arith in
          absurd (omega (arith, sum_by-set (λ (d : ℕ). d) ds h f 0 in_ds, p.few))
      positive (suc c) ss ds p h x f at e = (c, refl)

      turn_at : (b : ℕ) (ss : List (Option S)) (ds : List ℕ) → Before b ss ds → ((ds' : List ℕ) (ss' : List (Option S)) → (c : ℕ) → b ≡ suc c → Before c ss' ds' → Reaches ss' us count w)
          → (k : Key) → next r ss ≡ Some k → IsNext (option_map r.clock) None ss (Some k) → (x : S) → get_or ss k.number None ≡ Some x → r.clock x ≡ k.clock → (o : Option S) → r.local x ≡ o → Reaches ss us count w
      turn_at b ss ds p rec k is nx x at c None l =
          let s = at_g b ss ds p in
          let e = is_there k.number s.0 x (get_or ds g 0) (get_or ds k.number 0) s.2 (not_after ss k nx s.0 s.1 x c) l (rw at at (p.aims k.number)) in
          let same : k ≡ key (r.clock t) g = ap (λ n. key k.clock n) e.0 ∙ ap (λ n. key n g) (sym c ∙ ap r.clock e.1) in
          let at_t : get_or ss g None ≡ Some t = ap (λ n. get_or ss n None) (sym e.0) ∙ at ∙ ap Some e.1 in
          record { moves = 0; to = ss; ran = refl; size = p.size; meets = p.meets; is_t = at_t; is_next = is ∙ ap Some same }
      turn_at b ss ds p rec k is nx x at c (Some y) l =
          let s = at_g b ss ds p in
          let f = nearer k.number s.0 x y (get_or ds g 0) (get_or ds k.number 0) s.2 (not_after ss k nx s.0 s.1 x c) l (rw at at (p.aims k.number)) in
          let few = positive b ss ds p k.number x f.0 at f.1 in
          goes_on ss (set ss k.number (Some y)) (one_local ss w k x y over is at l)
          (rec (set ds k.number f.0) (set ss k.number (Some y)) few.0 few.1 (before_step few.0 ss ds (subst (λ n. Before n ss ds) few.1 p) k.number f.0 x y at l f.1 f.2))

      turn_by : (b : ℕ) (ss : List (Option S)) (ds : List ℕ) → Before b ss ds → ((ds' : List ℕ) (ss' : List (Option S)) → (c : ℕ) → b ≡ suc c → Before c ss' ds' → Reaches ss' us count w)
          → (o : Option Key) → next r ss ≡ o → IsNext (option_map r.clock) None ss o → Reaches ss us count w
      turn_by b ss ds p rec None is nx = let s = at_g b ss ds p in absurd (nx g (r.clock s.0) (ap (option_map r.clock) s.1))
      turn_by b ss ds p rec (Some k) is nx =
          let x = awake_at (get_or ss k.number None) k.clock nx.0 in
          turn_at b ss ds p rec k is nx x.0 x.1 x.2 (r.local x.0) refl

      pub turn : (b : ℕ) (ss : List (Option S)) (ds : List ℕ) → Before b ss ds → Reaches ss us count w
      turn zero ss ds p = turn_by zero ss ds p (λ ds' ss' c e q. absurd cc) (next r ss) refl (next_is (option_map r.clock) None refl ss)
      turn (suc b) ss ds p =
          turn_by (suc b) ss ds p (λ ds' ss' c e q. let same : c ≡ b = cc in turn b ss' ds' (subst (λ n. Before n ss' ds') same q)) (next r ss) refl (next_is (option_map r.clock) None refl ss)

  -- a step of one row
  pub record Keeps (f : Row S → Option (Lease S) → Row S) : Type 0 where
    pub by : (row : Row S) (s : S) (o : Option (Lease S)) → row.lease ≡ o → Meets r s row.state → RowOk r row → Meets r s (f row o).state × RowOk r (f row o)

  -- a row that is not parked, with another lease
  not_parked : (row : Row S) → RowOk r row → (s : S) → Meets r s row.state → (row.parked ≡ true → ⊥) → (o : Option (Lease S)) → MatchOption o (Unit {0}) (λ l. (j : ℕ) × (moved r j row.state ≡ l.present) × (l.published ≤ r.clock l.present))
      → Meets r s row.state × RowOk r (record row { lease = o })
  not_parked row ok s m np o h = (m, record { reached = ok.reached; leased = h; parked = λ q. absurd (np q) })

  lease_at : (row : Row S) (l : Lease S) → row.lease ≡ Some l → RowOk r row → (j : ℕ) × (moved r j row.state ≡ l.present) × (l.published ≤ r.clock l.present)
  lease_at row l e ok = rw e at ok.leased

  lent_not_parked : (row : Row S) (l : Lease S) → row.lease ≡ Some l → RowOk r row → row.parked ≡ true → ⊥
  lent_not_parked row l e ok q = let h = (ok.parked q).2 in cc

  lend_by : (row : Row S) (s : S) → Meets r s row.state → RowOk r row → (b : Bool) → row.parked ≡ b
      → (let q = cond b row (record row { lease = Some (record { present = row.state; published = r.clock row.state }) }) in Meets r s q.state × RowOk r q)
  lend_by row s m ok true p = (m, ok)
  lend_by row s m ok false p = not_parked row ok s m (λ q. true≢false (sym q ∙ p)) (Some (record { present = row.state; published = r.clock row.state })) (0, refl, omega arith)

  pub lend_step : (row : Row S) (s : S) (o : Option (Lease S)) → row.lease ≡ o → Meets r s row.state → RowOk r row → Meets r s (lend r row o).state × RowOk r (lend r row o)
  lend_step row s None e m ok = lend_by row s m ok row.parked refl
  lend_step row s (Some l) e m ok = (m, ok)

  pub local_step : (row : Row S) (s : S) (o : Option (Lease S)) → row.lease ≡ o → Meets r s row.state → RowOk r row → Meets r s (local r row o).state × RowOk r (local r row o)
  local_step row s None e m ok = (m, ok)
  local_step row s (Some l) e m ok =
      let h = lease_at row l e ok in
      let go : moved r (h.0 + 1) row.state ≡ stepped r l.present = moved_add h.0 1 row.state ∙ ap (stepped r) h.1 in
      not_parked row ok s m (lent_not_parked row l e ok) (Some (record l { present = stepped r l.present })) (h.0 + 1, go, omega (arith, h.2, laws.climbs l.present))

  pub publish_step : (row : Row S) (s : S) (o : Option (Lease S)) → row.lease ≡ o → Meets r s row.state → RowOk r row → Meets r s (publish r row o).state × RowOk r (publish r row o)
  publish_step row s None e m ok = (m, ok)
  publish_step row s (Some l) e m ok = let h = lease_at row l e ok in not_parked row ok s m (lent_not_parked row l e ok) (Some (record l { published = r.clock l.present })) (h.0, h.1, omega arith)

  pub look_step : (row : Row S) (s : S) (o : Option (Lease S)) → row.lease ≡ o → Meets r s row.state → RowOk r row → Meets r s (look r row o).state × RowOk r (look r row o)
  look_step row s None e m ok = (m, ok)
  look_step row s (Some l) e m ok =
      let h = lease_at row l e ok in
      (m, record { reached = (h.0, rw h.1 h.2); leased = ok.leased; parked = λ q. absurd (lent_not_parked row l e ok q) })

  pub give_back_step : (row : Row S) (s : S) (o : Option (Lease S)) → row.lease ≡ o → Meets r s row.state → RowOk r row → Meets r s (give_back r row o).state × RowOk r (give_back r row o)
  give_back_step row s None e m ok = (m, ok)
  give_back_step row s (Some l) e m ok =
      let h = lease_at row l e ok in
      (Meets_trans s row.state l.present m (h.0, 0, h.1), record { reached = (0, omega arith); leased = tt; parked = λ q. (q, refl, refl) })

  row_keeps : (f : Row S → Option (Lease S) → Row S) → Keeps f → (o : Option S) (p : Option (Row S)) → RowStands r o p → RowStands r o (option_map (λ row. f row row.lease) p)
  row_keeps f k None None h = h
  row_keeps f k None (Some row) h = elim h [ ]
  row_keeps f k (Some s) None h = elim h [ ]
  row_keeps f k (Some s) (Some row) h = k.by row s row.lease refl h.0 h.1

  -- both lists are written at one index
  pub set_both : (ss : List (Option S)) (rows : List (Option (Row S))) → length rows ≡ length ss → ((n : ℕ) → RowStands r (get_or ss n None) (get_or rows n None)) → (h : ℕ) (o : Option S) (p : Option (Row S)) → RowStands r o p
      → (n : ℕ) → RowStands r (get_or (set ss h o) n None) (get_or (set rows h p) n None)
  set_both ss rows size st h o p new n = elim (cases_eq n h) [
    | inl e ↦ elim (cases_lt n (length rows)) [
      | inl l ↦ let a : h < length ss = omega arith in let b : h < length rows = omega arith in rw (e, get_or-set_same ss h o None a, get_or-set_same rows h p None b) new
      | inr l ↦
          let a : length (set ss h o) ≤ n = omega (arith, length-set ss h o) in
          let b : length (set rows h p) ≤ n = omega (arith, length-set rows h p) in
          rw (get_or_past (set ss h o) n None a, get_or_past (set rows h p) n None b) tt
    ]
    | inr e ↦ rw (get_or-set_other ss h n o None e, get_or-set_other rows h n p None e) (st n)
  ]

  pub at_row_keeps : (f : Row S → Option (Lease S) → Row S) → Keeps f → (m : Machine S W) (w : World S W) (n : ℕ) → Stands r m w → Stands r (at_row r f m n) w
  at_row_keeps f k m w n st =
      let p = option_map (λ (row : Row S). f row row.lease) (get_or m.rows n None) in
      let all = set_both w.awake m.rows st.size st.rows n (get_or w.awake n None) p (row_keeps f k (get_or w.awake n None) (get_or m.rows n None) (st.rows n)) in
      record { shared = st.shared; size = length-set m.rows n p ∙ st.size; rows = rw (set-get_or w.awake n None) at all }

  new_row : (o : Option S) → RowStands r o (option_map (row_of r) o)
  new_row None = tt
  new_row (Some s) = ((0, 0, refl), record { reached = (0, omega arith); leased = tt; parked = λ e. cc })

  changed_size : (ss : List (Option S)) (cs : List (ℕ × Option S)) → length (changed r ss cs) ≡ length ss
  changed_size ss [] = refl
  changed_size ss (c ∷ cs) = changed_size (set ss c.0 c.1) cs ∙ length-set ss c.0 c.1

  changed_rows_size : (rows : List (Option (Row S))) (cs : List (ℕ × Option S)) → length (changed_rows r rows cs) ≡ length rows
  changed_rows_size rows [] = refl
  changed_rows_size rows (c ∷ cs) = changed_rows_size (set rows c.0 (option_map (row_of r) c.1)) cs ∙ length-set rows c.0 (option_map (row_of r) c.1)

  changed_both : (ss : List (Option S)) (rows : List (Option (Row S))) (cs : List (ℕ × Option S)) → length rows ≡ length ss → ((n : ℕ) → RowStands r (get_or ss n None) (get_or rows n None))
      → (n : ℕ) → RowStands r (get_or (changed r ss cs) n None) (get_or (changed_rows r rows cs) n None)
  changed_both ss rows [] size st = st
  changed_both ss rows (c ∷ cs) size st =
      changed_both (set ss c.0 c.1) (set rows c.0 (option_map (row_of r) c.1)) cs (length-set rows c.0 (option_map (row_of r) c.1) ∙ size ∙ sym (length-set ss c.0 c.1))
      (set_both ss rows size st c.0 c.1 (option_map (row_of r) c.1) (new_row c.1))

  started_both : (ts : List S) (n : ℕ) → RowStands r (get_or (map Some ts) n None) (get_or (map (λ s. Some (row_of r s)) ts) n None)
  started_both [] n = tt
  started_both (t ∷ ts) zero = new_row (Some t)
  started_both (t ∷ ts) (suc n) = started_both ts n

  append_both : (ss : List (Option S)) (rows : List (Option (Row S))) (ts : List S) → length rows ≡ length ss → ((n : ℕ) → RowStands r (get_or ss n None) (get_or rows n None))
      → (n : ℕ) → RowStands r (get_or (ss ++ map Some ts) n None) (get_or (rows ++ map (λ s. Some (row_of r s)) ts) n None)
  append_both ss rows ts size st n = elim (cases_lt n (length ss)) [
    | inl l ↦ let l' : n < length rows = omega arith in rw (get_or_append_left ss (map Some ts) None n l, get_or_append_left rows (map (λ s. Some (row_of r s)) ts) None n l') (st n)
    | inr l ↦ rw (get_or-append_right ss (map Some ts) (length ss) n None refl l, get_or-append_right rows (map (λ s. Some (row_of r s)) ts) (length ss) n None size l) (started_both ts (n - length ss))
  ]

  pub effect_stands : (ss : List (Option S)) (rows : List (Option (Row S))) (e : Effect S W) → length rows ≡ length ss → ((n : ℕ) → RowStands r (get_or ss n None) (get_or rows n None))
      → Stands r (record { rows = changed_rows r rows e.changes ++ map (λ s. Some (row_of r s)) e.started; shared = e.shared }) (record { awake = changed r ss e.changes ++ map Some e.started; shared = e.shared })
  effect_stands ss rows e size st =
      let same : length (changed_rows r rows e.changes) ≡ length (changed r ss e.changes) = changed_rows_size rows e.changes ∙ size ∙ sym (changed_size ss e.changes) in
      record {
        shared = refl;
        size = simp (length-append, length-map) (omega arith);
        rows = append_both (changed r ss e.changes) (changed_rows r rows e.changes) e.started same (changed_both ss rows e.changes size st);
      }

  meets_from : (o : Option S) (p : Option (Row S)) → RowStands r o p → RowMeets r o (option_map (λ row. row.state) p)
  meets_from None None h = tt
  meets_from None (Some row) h = elim h [ ]
  meets_from (Some s) None h = elim h [ ]
  meets_from (Some s) (Some row) h = h.0

  stands_from : (o o' : Option S) (p : Option (Row S)) → RowStands r o p → RowMeets r o' (option_map (λ row. row.state) p) → RowStands r o' p
  stands_from None None None h m = tt
  stands_from None (Some t) None h m = m
  stands_from None o' (Some row) h m = elim h [ ]
  stands_from (Some s) o' None h m = elim h [ ]
  stands_from (Some s) None (Some row) h m = elim m [ ]
  stands_from (Some s) (Some t) (Some row) h m = (m, h.1)

  asks_of : (o : Option S) (row : Row S) → RowStands r o (Some row) → row.parked ≡ true → r.asks row.state ≡ true
  asks_of None row h p = elim h [ ]
  asks_of (Some s) row h p = (h.1.parked p).0

  pub has_turn_at : (k : Key) (rows : List (Option (Row S))) (n : ℕ) → has_turn k n rows ≡ true → (i : ℕ) (row : Row S) → get_or rows i None ≡ Some row → n + i ≢ k.number → is_before k (key row.floor (n + i)) ≡ true
  has_turn_at k [] n h i row e ne = cc
  has_turn_at k (p ∷ rows) n h zero row e ne =
      let a : floor_above k n (Some row) ≡ true = rw e at (and_parts (floor_above k n p) (has_turn k (suc n) rows) h).0 in
      let z : n + 0 ≡ n = omega arith in
      let ne' : n ≡ k.number → ⊥ = λ q. ne (z ∙ q) in
      rw z (elim (or_cases (n == k.number) (is_before k (key row.floor n)) a) [ inl q ↦ absurd (ne' (eqb-true n k.number q)) | inr q ↦ q ])
  has_turn_at k (p ∷ rows) n h (suc i) row e ne =
      let z : n + suc i ≡ suc n + i = omega arith in
      rw z (has_turn_at k rows (suc n) (and_parts (floor_above k n p) (has_turn k (suc n) rows) h).1 i row e (λ q. ne (z ∙ q)))

  pub run_add : (i j : ℕ) (w : World S W) → run r (i + j) w ≡ run r j (run r i w)
  run_add zero j w = rw zero-add
  run_add (suc i) j w = rw suc-add (run_add i j (one r w))

  parked_by : (row : Row S) (b : Bool) → row.parked ≡ b → (c : ℕ) → cond b (Some (r.clock row.state)) None ≡ Some c → (row.parked ≡ true) × (r.clock row.state ≡ c)
  parked_by row true e c h = (e, cc)
  parked_by row false e c h = cc

  pub parked_row : (p : Option (Row S)) (c : ℕ) → parked_clock r p ≡ Some c → (row : Row S) × (p ≡ Some row) × (row.parked ≡ true) × (r.clock row.state ≡ c)
  parked_row None c h = cc
  parked_row (Some row) c h = let q = parked_by row row.parked refl c h in (row, refl, q.0, q.1)

  pub one_performs : (ss : List (Option S)) (w : W) (g : ℕ) (t : S) → r.is_over w ≡ false → next r ss ≡ Some (key (r.clock t) g) → get_or ss g None ≡ Some t → r.asks t ≡ true
      → one r (record { awake = ss; shared = w }) ≡ perform r (record { awake = ss; shared = w }) g t
  one_performs ss w g t over e at asks =
      ap (λ b. cond b (record { awake = ss; shared = w }) (move_next r (record { awake = ss; shared = w }) (next r ss))) over
      ∙ ap (λ o. move_next r (record { awake = ss; shared = w }) o) e
      ∙ ap (λ o. move_at r (record { awake = ss; shared = w }) g o) at
      ∙ ap (λ o. move_on r (record { awake = ss; shared = w }) g t o) (laws.parks t asks)
      ∙ ap (λ b. cond b (perform r (record { awake = ss; shared = w }) g t) (record { awake = ss; shared = w })) asks

  module _ (ss : List (Option S)) (rows : List (Option (Row S))) (w : W) (over : r.is_over w ≡ false) (size : length rows ≡ length ss) (st : (n : ℕ) → RowStands r (get_or ss n None) (get_or rows n None)) (g : ℕ) (row : Row S) (at : get_or rows g None ≡ Some row) (asks : r.asks row.state ≡ true) (mine : has_turn (key (r.clock row.state) g) 0 rows ≡ true) where
    aim_other : (n : ℕ) (s : S) (p : Row S) → n ≢ g → get_or rows n None ≡ Some p → Meets r s p.state → RowOk r p → (d : ℕ) × Aims g row.state asks n (Some s) d
    aim_other n s p ne e m ok =
        let d = ok.reached.0 in
        let z : 0 + n ≡ n = omega arith in
        let above : is_before (key (r.clock row.state) g) (key p.floor n) ≡ true = rw z at (has_turn_at (key (r.clock row.state) g) rows 0 mine n p e (λ q. ne (sym z ∙ q))) in
        let comm : m.1 + d ≡ d + m.1 = omega arith in
        let same : moved r (m.0 + d) s ≡ moved r m.1 (moved r d p.state) = moved_add m.0 d s ∙ ap (moved r d) m.2 ∙ sym (moved_add m.1 d p.state) ∙ ap (λ i. moved r i p.state) comm ∙ moved_add d m.1 p.state in
        let up : p.floor ≤ r.clock (moved r (m.0 + d) s) = rw same (omega (arith, ok.reached.1, moved_climbs m.1 (moved r d p.state))) in
        (m.0 + d, inr (ne, before_above (key (r.clock row.state) g) p.floor (r.clock (moved r (m.0 + d) s)) n up above))

    aim_from : (n : ℕ) (o : Option S) (p : Option (Row S)) → get_or rows n None ≡ p → RowStands r o p → (d : ℕ) × Aims g row.state asks n o d
    aim_from n None p e h = (0, tt)
    aim_from n (Some s) None e h = elim h [ ]
    aim_from n (Some s) (Some p) e h = elim (cases_eq n g) [
      | inl q ↦ let same : p ≡ row = same_Some p row (sym e ∙ ap (λ i. get_or rows i None) q ∙ at) in
          let m : Meets r s row.state = subst (λ (x : Row S). Meets r s x.state) same h.0 in
          (m.0, inl (q, m.2 ∙ moved_stays m.1 row.state (laws.parks row.state asks)))
      | inr q ↦ aim_other n s p q e h.0 h.1
    ]

    aim : (n : ℕ) → (d : ℕ) × Aims g row.state asks n (get_or ss n None) d
    aim n = aim_from n (get_or ss n None) (get_or rows n None) refl (st n)

    states : ℕ → Option S
    states n = option_map (λ (x : Row S). x.state) (get_or rows n None)

    aims : List ℕ
    aims = map (λ n. (aim n).0) (range_with_len 0 (length ss))

    aims_at : (n : ℕ) → Aims g row.state asks n (get_or ss n None) (get_or aims n 0)
    unfolding aims
    aims_at n = elim (cases_lt n (length ss)) [
      | inl l ↦ let z : 0 + n ≡ n = omega arith in rw (get_or-map-range_with_len (λ i. (aim i).0) 0 (length ss) n n 0 l z) (aim n).1
      | inr l ↦ rw (get_or_past ss n None l) tt
    ]

    comes : Reaches g row.state asks ss states (length rows) w
    unfolding states aims
    comes = turn g row.state asks states (length rows) w over (ap (option_map (λ (x : Row S). x.state)) at) (sum_by (λ (d : ℕ). d) aims) ss aims (record {
      few = omega arith;
      size = size;
      same = length-map-range_with_len (λ i. (aim i).0) 0 (length ss);
      meets = λ n. meets_from (get_or ss n None) (get_or rows n None) (st n);
      aims = aims_at;
    })

    settled : (n : ℕ) × Stands r (perform_row r (record { rows = rows; shared = w }) g (Some row)) (run r n (record { awake = ss; shared = w }))
    unfolding states
    settled =
        let q = comes in
        let new = effect_stands q.to rows (r.perform w g row.state) q.size (λ n. stands_from (get_or ss n None) (get_or q.to n None) (get_or rows n None) (st n) (q.meets n)) in
        let ran : run r (q.moves + 1) (record { awake = ss; shared = w }) ≡ perform r (record { awake = q.to; shared = w }) g row.state
        = run_add q.moves 1 (record { awake = ss; shared = w }) ∙ ap (one r) q.ran ∙ one_performs q.to w g row.state over q.is_next q.is_t asks in
        (q.moves + 1, subst (λ x. Stands r (perform_row r (record { rows = rows; shared = w }) g (Some row)) x) (sym ran) new)

  settle_at : (m : Machine S W) (w : World S W) → Stands r m w → r.is_over m.shared ≡ false → (k : Key) (row : Row S) → get_or m.rows k.number None ≡ Some row → row.parked ≡ true → r.clock row.state ≡ k.clock → (b : Bool) → has_turn k 0 m.rows ≡ b
      → (n : ℕ) × Stands r (cond b (perform_row r m k.number (get_or m.rows k.number None)) m) (run r n w)
  settle_at m w st over k row at parked c false turn = (0, st)
  settle_at m w st over k row at parked c true turn =
      let ok : RowStands r (get_or w.awake k.number None) (Some row) = rw at at (st.rows k.number) in
      let asks : r.asks row.state ≡ true = asks_of (get_or w.awake k.number None) row ok parked in
      let mine : has_turn (key (r.clock row.state) k.number) 0 m.rows ≡ true = ap (λ c. has_turn (key c k.number) 0 m.rows) c ∙ turn in
      let q = settled w.awake m.rows m.shared over st.size st.rows k.number row at asks mine in
      let P : Option (Row S) → World S W → Type 0 = λ p w'. Stands r (perform_row r m k.number p) (run r q.0 w') in
      let here : P (Some row) w = subst (λ x. P (Some row) (record { awake = w.awake; shared = x })) st.shared q.1 in
      (q.0, subst (λ p. P p w) (sym at) here)

  pub settle_by : (m : Machine S W) (w : World S W) → Stands r m w → r.is_over m.shared ≡ false → (o : Option Key) → IsNext (parked_clock r) None m.rows o → (n : ℕ) × Stands r (settle_key r m o) (run r n w)
  settle_by m w st over None nx = (0, st)
  settle_by m w st over (Some k) nx =
      let p = parked_row (get_or m.rows k.number None) k.clock nx.0 in
      settle_at m w st over k p.0 p.1 p.2 p.3 (has_turn k 0 m.rows) refl

  pub step_stands : (m : Machine S W) (w : World S W) → Stands r m w → r.is_over m.shared ≡ false → (e : Step) → (n : ℕ) × Stands r (step r m e) (run r n w)
  step_stands m w st over (Lend n) = (0, at_row_keeps (lend r) (record { by = lend_step }) m w n st)
  step_stands m w st over (Local n) = (0, at_row_keeps (local r) (record { by = local_step }) m w n st)
  step_stands m w st over (Publish n) = (0, at_row_keeps (publish r) (record { by = publish_step }) m w n st)
  step_stands m w st over (Look n) = (0, at_row_keeps (look r) (record { by = look_step }) m w n st)
  step_stands m w st over (Return n) = (0, at_row_keeps (give_back r) (record { by = give_back_step }) m w n st)
  step_stands m w st over Settle = settle_by m w st over (least (keys (parked_clock r) 0 m.rows)) (next_is (parked_clock r) None refl m.rows)

  pub happens_stands : (m : Machine S W) (w : World S W) → Stands r m w → (e : Step) (b : Bool) → r.is_over m.shared ≡ b → (n : ℕ) × Stands r (cond b m (step r m e)) (run r n w)
  happens_stands m w st e true over = (0, st)
  happens_stands m w st e false over = step_stands m w st over e

  pub schedule_stands : (es : List Step) (m : Machine S W) (w : World S W) → Stands r m w → (n : ℕ) × Stands r (schedule r es m) (run r n w)
  schedule_stands [] m w st = (0, st)
  schedule_stands (e ∷ es) m w st =
      let a = happens_stands m w st e (r.is_over m.shared) refl in
      let b = schedule_stands es (happens r m e) (run r a.0 w) a.1 in
      (a.0 + b.0, rw run_add b.1)

  opened_rows : (ss : List (Option S)) (n : ℕ) → RowStands r (get_or ss n None) (get_or (map (option_map (row_of r)) ss) n None)
  opened_rows [] n = tt
  opened_rows (s ∷ ss) zero = new_row s
  opened_rows (s ∷ ss) (suc n) = opened_rows ss n

  pub opened_stands : (w : World S W) → Stands r (opened r w) w
  opened_stands w = record { shared = refl; size = length-map w.awake (option_map (row_of r)); rows = opened_rows w.awake }

  pub stable : Stable r
  stable w es = let q = schedule_stands es (opened r w) w (opened_stands w) in (q.0, sym q.1.shared)
