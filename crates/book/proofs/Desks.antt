-- The book is in a state of the one-thread run.
use Rattle.std.proofs.Common.{◌≡◌, ℕ, ◌≢◌, Bool, true, false, cond, Option, Some, None, refl, sym, ap, ◌∙◌, arith, get_or, length-set}
use Rattle.std.specs.Prelude.{slice_index_or, slice_set}
use Rattle.std.proofs.lemmas.Bool.{true≢false}
use Rattle.std.proofs.lemmas.List.{set-get_or}
use Rattle.std.proofs.lemmas.Option.{same_Some}
use Rattle.std.specs.Option.{is_some}
use Rattle.logical_clock.specs.declared.key.Key.{Key}
use Rattle.logical_clock.specs.Order.{is_before, keys, least}
use Rattle.logical_clock.proofs.Keys.{key, before_or_not, IsNext, next_is}
use Rattle.turn_rule.specs.declared.Row.{Row}
use Rattle.turn_rule.specs.Turns.{run, Leads, World, Rules}
use Rattle.turn_rule.specs.Schedule.{Machine, RowOk, RowStands, Stands, Laws, at_row, lend, parked_clock, settle_key}
use Rattle.turn_rule.proofs.Stable.{Meets_trans, at_row_keeps, lend_step, set_both, settle_by, parked_row}

module _ {S W : Type 0} (r : Rules S W) (laws : Laws r) where
  -- lending a row keeps the machine where the run is
  pub lend_keeps : (m : Machine S W) (w : World S W) (n : ℕ) → Stands r m w → Stands r (at_row r (lend r) m n) w
  lend_keeps m w n h = at_row_keeps r laws (lend r) (record { by = lend_step r laws }) m w n h

  returned : (o : Option S) (row : Row S) (l : S) (floor : ℕ) → floor ≡ r.clock l → RowStands r o (Some row) → Leads r row.state l → RowStands r o (Some (record { state = l; floor = floor; lease = None; parked = r.asks l }))
  returned None row l floor f h leads = elim h [ ]
  returned (Some s) row l floor f h leads = (Meets_trans r laws s row.state l h.0 (leads.0, 0, leads.1), record { reached = (0, omega (arith, f)); leased = tt; parked = λ q. (q, f, refl) })

  -- the present state of a lease is put back
  pub bring_keeps : (m : Machine S W) (w : World S W) (n : ℕ) (row : Row S) (s : S) (floor : ℕ) → floor ≡ r.clock s → slice_index_or m.rows n None ≡ Some row → Leads r row.state s → Stands r m w
      → Stands r (record m { rows = slice_set m.rows n (Some (record { state = s; floor = floor; lease = None; parked = r.asks s })) }) w
  bring_keeps m w n row s floor f at leads h =
      let p : Option (Row S) = Some (record { state = s; floor = floor; lease = None; parked = r.asks s }) in
      let all = set_both r laws w.awake m.rows h.size h.rows n (get_or w.awake n None) p (returned (get_or w.awake n None) row s floor f (rw at at (h.rows n)) leads) in
      record { shared = h.shared; size = length-set m.rows n p ∙ h.size; rows = rw (set-get_or w.awake n None) at all }

  -- what settling makes of the machine is where the run is after some more moves
  pub settle_keeps : (m : Machine S W) (w : World S W) → Stands r m w → r.is_over m.shared ≡ false → (n : ℕ) × Stands r (settle_key r m (least (keys (parked_clock r) 0 m.rows))) (run r n w)
  settle_keeps m w h e = settle_by r laws m w h e (least (keys (parked_clock r) 0 m.rows)) (next_is (parked_clock r) None refl m.rows)

  ok_at : (o : Option S) (row : Row S) → RowStands r o (Some row) → RowOk r row
  ok_at None row h = elim h [ ]
  ok_at (Some s) row h = h.1

  -- a parked goroutine makes a request
  pub parked_asks : (m : Machine S W) (w : World S W) → Stands r m w → (k : Key) → least (keys (parked_clock r) 0 m.rows) ≡ Some k → (row : Row S) × (slice_index_or m.rows k.number None ≡ Some row) × (row.parked ≡ true) × (r.clock row.state ≡ k.clock) × (r.asks row.state ≡ true)
  parked_asks m w h k e =
      let nx : IsNext (parked_clock r) None m.rows (Some k) = rw e at (next_is (parked_clock r) None refl m.rows) in
      let p = parked_row r laws (get_or m.rows k.number None) k.clock nx.0 in
      let ok = ok_at (get_or w.awake k.number None) p.0 (rw p.1 at (h.rows k.number)) in
      (p.0, p.1, p.2, p.3, (ok.parked p.2).0)

  parked_some : (row : Row S) → row.parked ≡ true → parked_clock r (Some row) ≡ Some (r.clock row.state)
  parked_some row p = ap (λ b. cond b (Some (r.clock row.state)) None) p

  unparked : (b : Bool) → (b ≡ true → ⊥) → b ≡ false
  unparked true h = absurd (h refl)
  unparked false h = refl

  -- if nobody is parked, a goroutine that is awake is not
  pub waits_alone : (m : Machine S W) (n : ℕ) (row : Row S) → least (keys (parked_clock r) 0 m.rows) ≡ None → slice_index_or m.rows n None ≡ Some row → row.parked ≡ false
  waits_alone m n row e at =
      let nx : IsNext (parked_clock r) None m.rows None = rw e at (next_is (parked_clock r) None refl m.rows) in
      unparked row.parked (λ p. nx n (r.clock row.state) (ap (parked_clock r) at ∙ parked_some row p))

  -- whose floor the least parked key is not below stands before it, and is not parked
  pub waits_before : (m : Machine S W) (w : World S W) → Stands r m w → (k : Key) (n : ℕ) (row : Row S) → least (keys (parked_clock r) 0 m.rows) ≡ Some k → slice_index_or m.rows n None ≡ Some row → n ≢ k.number → is_before k (key row.floor n) ≡ false → (row.parked ≡ false) × (is_before (key row.floor n) k ≡ true)
  waits_before m w h k n row e at other not_before =
      let nx : IsNext (parked_clock r) None m.rows (Some k) = rw e at (next_is (parked_clock r) None refl m.rows) in
      let before = before_or_not k (key row.floor n) not_before (λ q. other (sym q)) in
      let ok = ok_at (get_or w.awake n None) row (rw at at (h.rows n)) in (
        unparked row.parked (λ p.
            let above = nx.1 n (r.clock row.state) (ap (parked_clock r) at ∙ parked_some row p) in
            true≢false (sym before ∙ ap (λ c. is_before (key c n) k) (ok.parked p).1 ∙ above)),
        before,
      )

  -- one that is lent is not the one that is parked
  pub lent_other : (m : Machine S W) (w : World S W) → Stands r m w → (n k : ℕ) (row lent : Row S) → slice_index_or m.rows n None ≡ Some row → row.parked ≡ true → slice_index_or m.rows k None ≡ Some lent → is_some lent.lease ≡ true → k ≢ n
  lent_other m w h n k row lent at parked here out same =
      let ok = ok_at (get_or w.awake n None) row (rw at at (h.rows n)) in
      let one : lent ≡ row = same_Some lent row (sym here ∙ ap (λ i. slice_index_or m.rows i None) same ∙ at) in
      true≢false (sym out ∙ ap (λ (x : Row S). is_some x.lease) one ∙ ap is_some (ok.parked parked).2)

  is_there : (o : Option S) (row : Row S) → RowStands r o (Some row) → (s : S) × (o ≡ Some s)
  is_there None row h = elim h [ ]
  is_there (Some s) row h = (s, refl)

  -- a goroutine that has a row is awake in the one-thread run
  pub row_awake : (m : Machine S W) (w : World S W) → Stands r m w → (k : ℕ) (row : Row S) → slice_index_or m.rows k None ≡ Some row → (s : S) × (slice_index_or w.awake k None ≡ Some s)
  row_awake m w h k row at = is_there (get_or w.awake k None) row (rw at at (h.rows k))

  none_awake : (o : Option S) → RowStands r o None → o ≡ None
  none_awake None h = refl
  none_awake (Some s) h = elim h [ ]

  pub nobody_awake : (m : Machine S W) (w : World S W) → Stands r m w → ((n : ℕ) → slice_index_or m.rows n None ≡ None) → (n : ℕ) → slice_index_or w.awake n None ≡ None
  nobody_awake m w h nobody n = none_awake (get_or w.awake n None) (rw (nobody n) at (h.rows n))
