-- The run and the settled run.
use Rattle.std.proofs.Common.{◌≡◌, ℕ, zero, suc, ◌+◌, ◌-◌, ◌≤◌, Bool, true, false, cond, List, [], ◌∷◌, ◌++◌, length, Option, Some, None, refl, sym, ap, ◌∙◌, subst, inl, inr, ◌⊎◌, arith, get_or, length-append}
use Rattle.std.specs.Prelude.{slice_index_or}
use Rattle.std.proofs.lemmas.Bool.{cases_lt}
use Rattle.logical_clock.specs.declared.key.Key.{Key}
use Rattle.turn_rule.specs.Turns.{Rules, World, moved, next, perform, move_on, move_at, move_next, one, run}
use Rattle.turn_rule.specs.Schedule.{Laws, Records}
use Rattle.turn_rule.specs.Settled.{RowSettles, Settles, After}
use Rattle.turn_rule.proofs.Stable.{moved_add, moved_stays, run_add}
use Rattle.turn_rule.proofs.Grows.{grows}
use Rattle.turn_rule.proofs.Twins.{Alike, RowAlike, ChangesAlike, AllAlike, EffectsAlike, Twins, twins_run}

module _ {S W E : Type 0} (r : Rules S W) (h : W → List E) (records : Records r h) where
  -- a move leaves what is shared, or is one more event
  abbrev Shape : World S W → World S W → Type 0
  Shape w v = (v.shared ≡ w.shared) ⊎ ((e : E) × (h v.shared ≡ h w.shared ++ e ∷ []))

  on_by : (w : World S W) (n : ℕ) (s : S) (o : Option S) (b : Bool) → r.asks s ≡ b → Shape w (elim o as (λ _. World S W) [ Some t ↦ move_on r w n s (Some t) | None ↦ cond b (perform r w n s) w ])
  on_by w n s (Some t) b e = inl refl
  on_by w n s None true e = inr (records w.shared n s e)
  on_by w n s None false e = inl refl

  at_by : (w : World S W) (n : ℕ) (s : S) (o : Option S) → Shape w (move_on r w n s o)
  at_by w n s (Some t) = on_by w n s (Some t) (r.asks s) refl
  at_by w n s None = on_by w n s None (r.asks s) refl

  move_by : (w : World S W) (n : ℕ) (o : Option S) → Shape w (move_at r w n o)
  move_by w n None = inl refl
  move_by w n (Some s) = at_by w n s (r.local s)

  next_by : (w : World S W) (o : Option Key) → Shape w (move_next r w o)
  next_by w None = inl refl
  next_by w (Some k) = move_by w k.number (slice_index_or w.awake k.number None)

  one_by : (w : World S W) (b : Bool) → Shape w (cond b w (move_next r w (next r w.awake)))
  one_by w true = inl refl
  one_by w false = next_by w (next r w.awake)

  longer : (d : ℕ) (w : World S W) → length (h w.shared) ≤ length (h (run r d w).shared)
  longer d w = let g = grows r h records d w in let l = ap length g.1 in let a = length-append (h w.shared) g.0 in omega (arith, l, a)

  still : (d : ℕ) (w : World S W) → length (h (run r d w).shared) ≡ length (h w.shared) → (run r d w).shared ≡ w.shared
  still zero w e = refl
  still (suc d) w e = elim (one_by w (r.is_over w.shared)) [
    | inl s ↦ still d (one r w) (e ∙ ap (λ x. length (h x)) (sym s)) ∙ s
    | inr p ↦
        let l = longer d (one r w) in
        let a = ap length p.1 ∙ length-append (h w.shared) (p.0 ∷ []) in
        absurd (omega (arith, l, a, e))
  ]

  module _ (laws : Laws r) where
    later : (n d : ℕ) (w : World S W) → length (h (run r (n + d) w).shared) ≡ length (h (run r n w).shared) → (run r (n + d) w).shared ≡ (run r n w).shared
    later n d w e = rw run_add (still d (run r n w) (rw run_add at e))

    -- as many events, so the same is shared: event(k), output(k) and the end are the run's own
    pub same_count : (n m : ℕ) (w : World S W) → length (h (run r n w).shared) ≡ length (h (run r m w).shared) → (run r n w).shared ≡ (run r m w).shared
    same_count n m w e = elim (cases_lt n m) [
      | inl l ↦ let z : n + (m - n) ≡ m = omega arith in sym (rw z at (later n (m - n) w (rw z (sym e))))
      | inr l ↦ let z : m + (n - m) ≡ n = omega arith in rw z at (later m (n - m) w (rw z e))
    ]

abbrev pub ChangesGood : {S : Type 0} → (S → Type 0) → List (ℕ × Option S) → Type 0
ChangesGood G [] = Unit {0}
ChangesGood G ((n, None) ∷ cs) = ChangesGood G cs
ChangesGood G ((n, Some s) ∷ cs) = G s × ChangesGood G cs

abbrev pub AllGood : {S : Type 0} → (S → Type 0) → List S → Type 0
AllGood G [] = Unit {0}
AllGood G (s ∷ ss) = G s × AllGood G ss

-- G and H: what keeps a goroutine coming to a request
module _ {S W : Type 0} (r : Rules S W) (laws : Laws r) (G : S → Type 0) (H : W → Type 0)
    (comes : (s : S) → G s → (i : ℕ) × (r.asks (moved r i s) ≡ true) × G (moved r i s))
    (keeps : (w : W) (n : ℕ) (s : S) → H w → G s → r.asks s ≡ true → ChangesGood G (r.perform w n s).changes × AllGood G (r.perform w n s).started × H (r.perform w n s).shared) where
  abbrev Is : S → S → Type 0
  Is s t = (s ≡ t) × G s

  abbrev Are : W → W → Type 0
  Are w v = (w ≡ v) × H w

  alike_self : (s : S) → G s → Alike r r Is Are s s
  alike_self s g = let c = comes s g in record { i = c.0; j = c.0; left = c.1; right = c.1; clock = refl; ready = (refl, c.2) }

  changes_self : (cs : List (ℕ × Option S)) → ChangesGood G cs → ChangesAlike r r Is Are cs cs
  changes_self [] g = tt
  changes_self ((n, None) ∷ cs) g = (refl, tt, changes_self cs g)
  changes_self ((n, Some s) ∷ cs) g = (refl, alike_self s g.0, changes_self cs g.1)

  all_self : (ss : List S) → AllGood G ss → AllAlike r r Is Are ss ss
  all_self [] g = tt
  all_self (s ∷ ss) g = (alike_self s g.0, all_self ss g.1)

  performs_self : (w v : W) → Are w v → (n : ℕ) (s t : S) → r.asks s ≡ true → r.asks t ≡ true → r.clock s ≡ r.clock t → Is s t → EffectsAlike r r Is Are (r.perform w n s) (r.perform v n t)
  performs_self w v e n s t a b c f =
      let k = keeps w n s e.1 f.1 a in
      subst (λ x. EffectsAlike r r Is Are (r.perform w n s) (r.perform x n t)) e.0
      (subst (λ x. EffectsAlike r r Is Are (r.perform w n s) (r.perform w n x)) f.0
      (record { changes = changes_self (r.perform w n s).changes k.0; started = all_self (r.perform w n s).started k.1; shared = (refl, k.2) }))

  abbrev RowGood : Option S → Type 0
  RowGood None = Unit {0}
  RowGood (Some s) = G s

  -- everyone awake comes to a request
  pub record Good (w : World S W) : Type 0 where
    pub shared : H w.shared
    pub rows : (n : ℕ) → RowGood (get_or w.awake n None)

  -- two states with one request
  one_request : (s t : S) (i j : ℕ) → r.asks (moved r i s) ≡ true → r.asks (moved r j s) ≡ true → moved r i s ≡ moved r j s
  one_request s t i j a b =
      let z : i + j ≡ j + i = omega arith in
      sym (moved_stays r laws j (moved r i s) (laws.parks (moved r i s) a)) ∙ sym (moved_add r laws i j s) ∙ ap (λ k. moved r k s) z ∙ moved_add r laws j i s ∙ moved_stays r laws i (moved r j s) (laws.parks (moved r j s) b)

  row_twin : (o p : Option S) → RowSettles r o p → RowGood p → RowAlike r r Is Are p o
  row_twin None None h g = tt
  row_twin None (Some t) h g = elim h [ ]
  row_twin (Some s) None h g = elim h [ ]
  row_twin (Some s) (Some t) h g =
      let d = h.0.0 in
      let e : moved r d s ≡ t = h.0.1 in
      record { i = 0; j = d; left = h.1; right = ap r.asks e ∙ h.1; clock = sym (ap r.clock e); ready = (sym e, g) }

  row_settles : (o p q : Option S) → RowAlike r r Is Are o p → RowSettles r o q → RowSettles r p q
  row_settles None None q a h = h
  row_settles None (Some t) q a h = elim a [ ]
  row_settles (Some s) None q a h = elim a [ ]
  row_settles (Some s) (Some t) None a h = elim h [ ]
  row_settles (Some s) (Some t) (Some u) a h =
      let e : moved r h.0.0 s ≡ u = h.0.1 in
      let same : moved r a.i s ≡ u = one_request s s a.i h.0.0 a.left (ap r.asks e ∙ h.1) ∙ e in
      ((a.j, sym a.ready.0 ∙ same), h.1)

  row_good : (o p q : Option S) → RowAlike r r Is Are o p → RowSettles r o q → RowGood q
  row_good None None None a h = tt
  row_good None None (Some u) a h = elim h [ ]
  row_good None (Some t) q a h = elim a [ ]
  row_good (Some s) None q a h = elim a [ ]
  row_good (Some s) (Some t) None a h = elim h [ ]
  row_good (Some s) (Some t) (Some u) a h =
      let e : moved r h.0.0 s ≡ u = h.0.1 in
      let same : moved r a.i s ≡ u = one_request s s a.i h.0.0 a.left (ap r.asks e ∙ h.1) ∙ e in
      subst G same a.ready.1

  pub record Reached (w v : World S W) : Type 0 where
    pub m : ℕ
    pub settles : Settles r (run r m w) v
    pub good : Good v

  -- the world after k events is what the run's world settles to after some number of moves
  pub after_reached : (k : ℕ) (w v : World S W) → Good w → ((o p : Option S) → RowGood o → RowSettles r o p → RowGood p) → After r k w v → Reached w v
  after_reached zero w v g up a = record { m = 0; settles = a; good = record { shared = subst H a.shared g.shared; rows = λ n. up (get_or w.awake n None) (get_or v.awake n None) (g.rows n) (a.rows n) } }
  after_reached (suc k) w v g up a =
      let u = a.0 in
      let x = after_reached k w u g up a.1 in
      let tw : Twins r r Is Are u (run r x.m w) = record {
        shared = (sym x.settles.shared, x.good.shared);
        size = sym x.settles.size;
        rows = λ n. row_twin (get_or (run r x.m w).awake n None) (get_or u.awake n None) (x.settles.rows n) (x.good.rows n);
      } in
      let y = twins_run r r Is Are laws laws (λ p q e. ap r.is_over e.0) performs_self 1 u (run r x.m w) tw in
      let z = a.5 in
      let to : Settles r (run r y.0 (run r x.m w)) v = record {
        shared = sym y.1.shared.0 ∙ z.shared;
        size = z.size ∙ sym y.1.size;
        rows = λ n. row_settles (get_or (one r u).awake n None) (get_or (run r y.0 (run r x.m w)).awake n None) (get_or v.awake n None) (y.1.rows n) (z.rows n);
      } in
      record {
        m = x.m + y.0;
        settles = subst (λ t. Settles r t v) (sym (run_add r laws x.m y.0 w)) to;
        good = record { shared = subst H z.shared y.1.shared.1; rows = λ n. row_good (get_or (one r u).awake n None) (get_or (run r y.0 (run r x.m w)).awake n None) (get_or v.awake n None) (y.1.rows n) (z.rows n) };
      }
