-- Two runs whose goroutines come to the same requests: what the one shares after some moves, the other shares after some moves.
use Rattle.std.proofs.Common.{◌≡◌, ℕ, zero, suc, ◌+◌, ◌-◌, ◌<◌, ◌≤◌, ◌≢◌, Bool, true, false, cond, List, [], ◌∷◌, ◌++◌, map, length, Option, Some, None, refl, sym, ap, ◌∙◌, subst, inl, inr, arith, get_or, set, get_or-set_same, get_or-set_other, length-set, length-append}
use Rattle.std.specs.Prelude.{option_map}
use Rattle.std.proofs.lemmas.Bool.{cases_eq, cases_lt}
use Rattle.std.proofs.lemmas.Option.{same_Some}
use Rattle.std.proofs.lemmas.List.FromFn.{get_or-map-range_with_len, length-map-range_with_len}
use Rattle.std.proofs.lemmas.List.{length-map, set-get_or, get_or_past, get_or_append_left, get_or-append_right}
use Rattle.std.specs.List.{sum_by, range_with_len}
use Rattle.logical_clock.specs.declared.key.Key.{Key}
use Rattle.logical_clock.specs.Order.{is_before}
use Rattle.turn_rule.specs.Turns.{Effect, Rules, World, moved, next, changed, perform, move_on, move_at, move_next, one, run}
use Rattle.turn_rule.specs.Schedule.{Meets, RowMeets, Laws}
use Rattle.logical_clock.proofs.Keys.{key, before_above, before_or_not, IsNext, next_is}
use Rattle.turn_rule.proofs.Stable.{moved_climbs, moved_stays, stepped_is, awake_at, one_performs, run_add, Aims, Reaches, turn}

module _ {S W T V : Type 0} (r : Rules S W) (q : Rules T V) (Ready : S → T → Type 0) (Q : W → V → Type 0) where
  -- local steps lead both to requests, at one clock
  pub record Alike (s : S) (t : T) : Type 0 where
    pub i : ℕ
    pub j : ℕ
    pub left : r.asks (moved r i s) ≡ true
    pub right : q.asks (moved q j t) ≡ true
    pub clock : r.clock (moved r i s) ≡ q.clock (moved q j t)
    pub ready : Ready (moved r i s) (moved q j t)

  abbrev pub RowAlike : Option S → Option T → Type 0
  RowAlike None None = Unit {0}
  RowAlike None (Some t) = ⊥
  RowAlike (Some s) None = ⊥
  RowAlike (Some s) (Some t) = Alike s t

  abbrev pub ChangesAlike : List (ℕ × Option S) → List (ℕ × Option T) → Type 0
  ChangesAlike [] [] = Unit {0}
  ChangesAlike [] (b ∷ ys) = ⊥
  ChangesAlike (a ∷ xs) [] = ⊥
  ChangesAlike (a ∷ xs) (b ∷ ys) = (a.0 ≡ b.0) × RowAlike a.1 b.1 × ChangesAlike xs ys

  abbrev pub AllAlike : List S → List T → Type 0
  AllAlike [] [] = Unit {0}
  AllAlike [] (t ∷ ts) = ⊥
  AllAlike (s ∷ ss) [] = ⊥
  AllAlike (s ∷ ss) (t ∷ ts) = Alike s t × AllAlike ss ts

  pub record EffectsAlike (e : Effect S W) (f : Effect T V) : Type 0 where
    pub changes : ChangesAlike e.changes f.changes
    pub started : AllAlike e.started f.started
    pub shared : Q e.shared f.shared

  pub record Twins (w : World S W) (v : World T V) : Type 0 where
    pub shared : Q w.shared v.shared
    pub size : length v.awake ≡ length w.awake
    pub rows : (n : ℕ) → RowAlike (get_or w.awake n None) (get_or v.awake n None)

  -- the steps that the right one has to make
  abbrev far : (o : Option S) (p : Option T) → RowAlike o p → ℕ
  far None p h = 0
  far (Some s) None h = 0
  far (Some s) (Some t) h = h.j

  record Facts (s : S) (t : T) (d : ℕ) : Type 0 where
    i : ℕ
    left : r.asks (moved r i s) ≡ true
    right : q.asks (moved q d t) ≡ true
    clock : r.clock (moved r i s) ≡ q.clock (moved q d t)
    ready : Ready (moved r i s) (moved q d t)

  facts_of : (o : Option S) (p : Option T) (h : RowAlike o p) (s : S) (t : T) → o ≡ Some s → p ≡ Some t → Facts s t (far o p h)
  facts_of None p h s t a b = cc
  facts_of (Some s') None h s t a b = cc
  facts_of (Some s') (Some t') h s t a b =
      let here : Facts s' t' h.j = record { i = h.i; left = h.left; right = h.right; clock = h.clock; ready = h.ready } in
      subst (λ x. Facts x t h.j) (same_Some s' s a) (subst (λ y. Facts s' y h.j) (same_Some t' t b) here)

  other_of : (p : Option T) (s : S) → RowAlike (Some s) p → (t : T) × (p ≡ Some t)
  other_of None s h = elim h [ ]
  other_of (Some t) s h = (t, refl)

  first_of : (o : Option S) (t : T) → RowAlike o (Some t) → (s : S) × (o ≡ Some s)
  first_of None t h = elim h [ ]
  first_of (Some s) t h = (s, refl)

  -- both lists are written at one index
  alike_set : (ss : List (Option S)) (ts : List (Option T)) → length ts ≡ length ss → ((n : ℕ) → RowAlike (get_or ss n None) (get_or ts n None)) → (h : ℕ) (o : Option S) (p : Option T) → RowAlike o p
      → (n : ℕ) → RowAlike (get_or (set ss h o) n None) (get_or (set ts h p) n None)
  alike_set ss ts size st h o p new n = elim (cases_eq n h) [
    | inl e ↦ elim (cases_lt n (length ts)) [
      | inl l ↦ let a : h < length ss = omega arith in let b : h < length ts = omega arith in rw (e, get_or-set_same ss h o None a, get_or-set_same ts h p None b) new
      | inr l ↦
          let a : length (set ss h o) ≤ n = omega (arith, length-set ss h o) in
          let b : length (set ts h p) ≤ n = omega (arith, length-set ts h p) in
          rw (get_or_past (set ss h o) n None a, get_or_past (set ts h p) n None b) tt
    ]
    | inr e ↦ rw (get_or-set_other ss h n o None e, get_or-set_other ts h n p None e) (st n)
  ]

  size_changed : {X Y : Type 0} (x : Rules X Y) (ss : List (Option X)) (cs : List (ℕ × Option X)) → length (changed x ss cs) ≡ length ss
  size_changed x ss [] = refl
  size_changed x ss (c ∷ cs) = size_changed x (set ss c.0 c.1) cs ∙ length-set ss c.0 c.1

  alike_changed : (ss : List (Option S)) (ts : List (Option T)) (cs : List (ℕ × Option S)) (ds : List (ℕ × Option T)) → ChangesAlike cs ds → length ts ≡ length ss → ((n : ℕ) → RowAlike (get_or ss n None) (get_or ts n None))
      → (n : ℕ) → RowAlike (get_or (changed r ss cs) n None) (get_or (changed q ts ds) n None)
  alike_changed ss ts [] [] h size st n = st n
  alike_changed ss ts [] (d ∷ ds) h size st n = elim h [ ]
  alike_changed ss ts (c ∷ cs) [] h size st n = elim h [ ]
  alike_changed ss ts (c ∷ cs) (d ∷ ds) h size st n =
      let same : length (set ts d.0 d.1) ≡ length (set ss c.0 c.1) = length-set ts d.0 d.1 ∙ size ∙ sym (length-set ss c.0 c.1) in
      let now : (m : ℕ) → RowAlike (get_or (set ss c.0 c.1) m None) (get_or (set ts d.0 d.1) m None) = subst (λ i. (m : ℕ) → RowAlike (get_or (set ss c.0 c.1) m None) (get_or (set ts i d.1) m None)) h.0 (alike_set ss ts size st c.0 c.1 d.1 h.1) in
      alike_changed (set ss c.0 c.1) (set ts d.0 d.1) cs ds h.2 same now n

  alike_started : (ss : List S) (ts : List T) → AllAlike ss ts → (n : ℕ) → RowAlike (get_or (map Some ss) n None) (get_or (map Some ts) n None)
  alike_started [] [] h n = tt
  alike_started [] (t ∷ ts) h n = elim h [ ]
  alike_started (s ∷ ss) [] h n = elim h [ ]
  alike_started (s ∷ ss) (t ∷ ts) h zero = h.0
  alike_started (s ∷ ss) (t ∷ ts) h (suc n) = alike_started ss ts h.1 n

  size_started : (ss : List S) (ts : List T) → AllAlike ss ts → length ts ≡ length ss
  size_started [] [] h = refl
  size_started [] (t ∷ ts) h = elim h [ ]
  size_started (s ∷ ss) [] h = elim h [ ]
  size_started (s ∷ ss) (t ∷ ts) h = ap suc (size_started ss ts h.1)

  alike_append : (ss : List (Option S)) (ts : List (Option T)) (us : List S) (vs : List T) → AllAlike us vs → length ts ≡ length ss → ((n : ℕ) → RowAlike (get_or ss n None) (get_or ts n None))
      → (n : ℕ) → RowAlike (get_or (ss ++ map Some us) n None) (get_or (ts ++ map Some vs) n None)
  alike_append ss ts us vs h size st n = elim (cases_lt n (length ss)) [
    | inl l ↦ let l' : n < length ts = omega arith in rw (get_or_append_left ss (map Some us) None n l, get_or_append_left ts (map Some vs) None n l') (st n)
    | inr l ↦ rw (get_or-append_right ss (map Some us) (length ss) n None refl l, get_or-append_right ts (map Some vs) (length ss) n None size l) (alike_started us vs h (n - length ss))
  ]

  effects_twins : (ss : List (Option S)) (ts : List (Option T)) (e : Effect S W) (f : Effect T V) → EffectsAlike e f → length ts ≡ length ss → ((n : ℕ) → RowAlike (get_or ss n None) (get_or ts n None))
      → Twins (record { awake = changed r ss e.changes ++ map Some e.started; shared = e.shared }) (record { awake = changed q ts f.changes ++ map Some f.started; shared = f.shared })
  effects_twins ss ts e f h size st =
      let same : length (changed q ts f.changes) ≡ length (changed r ss e.changes) = size_changed q ts f.changes ∙ size ∙ sym (size_changed r ss e.changes) in
      record {
        shared = h.shared;
        size = simp (length-append, length-map) (omega (arith, same, size_started e.started f.started h.started));
        rows = alike_append (changed r ss e.changes) (changed q ts f.changes) e.started f.started h.started same (alike_changed ss ts e.changes f.changes h.changes size st);
      }

  module _ (laws : Laws r) (laws' : Laws q) where
    -- a local step of the left one
    left_step : (x y : S) (t : T) → r.local x ≡ Some y → (i j : ℕ) → r.asks (moved r i x) ≡ true → q.asks (moved q j t) ≡ true → r.clock (moved r i x) ≡ q.clock (moved q j t) → Ready (moved r i x) (moved q j t) → Alike y t
    left_step x y t l zero j a b c d = let p = laws.parks x a in absurd cc
    left_step x y t l (suc i) j a b c d =
        let e = stepped_is r laws x y l in
        record {
          i = i;
          j = j;
          left = subst (λ z. r.asks (moved r i z) ≡ true) e a;
          right = b;
          clock = subst (λ z. r.clock (moved r i z) ≡ q.clock (moved q j t)) e c;
          ready = subst (λ z. Ready (moved r i z) (moved q j t)) e d;
        }

    row_left_step : (x y : S) → r.local x ≡ Some y → (p : Option T) → RowAlike (Some x) p → RowAlike (Some y) p
    row_left_step x y l None h = elim h [ ]
    row_left_step x y l (Some t) h = left_step x y t l h.i h.j h.left h.right h.clock h.ready

    -- when the right one has moved on
    right_moved : (s : S) (t u : T) (d : ℕ) → Facts s t d → Meets q u (moved q d t) → Alike s u
    right_moved s t u d f m =
        let e : moved q m.0 u ≡ moved q d t = m.2 ∙ moved_stays q laws' m.1 (moved q d t) (laws'.parks (moved q d t) f.right) in
        record {
          i = f.i;
          j = m.0;
          left = f.left;
          right = ap q.asks e ∙ f.right;
          clock = f.clock ∙ sym (ap q.clock e);
          ready = subst (λ z. Ready (moved r f.i s) z) (sym e) f.ready;
        }

    rows_moved : (o : Option S) (p : Option T) (h : RowAlike o p) (u : Option T) → RowMeets q u (option_map (moved q (far o p h)) p) → RowAlike o u
    rows_moved None None h None m = tt
    rows_moved None None h (Some u) m = elim m [ ]
    rows_moved None (Some t) h u m = elim h [ ]
    rows_moved (Some s) None h u m = elim h [ ]
    rows_moved (Some s) (Some t) h None m = elim m [ ]
    rows_moved (Some s) (Some t) h (Some u) m = right_moved s t u h.j (facts_of (Some s) (Some t) h s t refl refl) m

    meets_moved : (p : Option T) (d : ℕ) → RowMeets q p (option_map (moved q d) p)
    meets_moved None d = tt
    meets_moved (Some t) d = (d, 0, refl)

    module _ (same_over : (w : W) (v : V) → Q w v → r.is_over w ≡ q.is_over v)
        (performs : (w : W) (v : V) → Q w v → (n : ℕ) (s : S) (t : T) → r.asks s ≡ true → q.asks t ≡ true → r.clock s ≡ q.clock t → Ready s t → EffectsAlike (r.perform w n s) (q.perform v n t)) where
      -- the left one performs
      module _ (w : World S W) (v : World T V) (tw : Twins w v) (over : r.is_over w.shared ≡ false) (k : Key) (nx : IsNext (option_map r.clock) None w.awake (Some k)) (x : S) (at : get_or w.awake k.number None ≡ Some x) (xc : r.clock x ≡ k.clock) (asks : r.asks x ≡ true) (c : T) (at_c : get_or v.awake k.number None ≡ Some c) where
        abbrev dist : ℕ → ℕ
        dist n = far (get_or w.awake n None) (get_or v.awake n None) (tw.rows n)

        facts : (n : ℕ) (s : S) (t : T) → get_or w.awake n None ≡ Some s → get_or v.awake n None ≡ Some t → Facts s t (dist n)
        facts n s t a b = facts_of (get_or w.awake n None) (get_or v.awake n None) (tw.rows n) s t a b

        abbrev t_at : T
        t_at = moved q (dist k.number) c

        f_at : Facts x c (dist k.number)
        f_at = facts k.number x c at at_c

        still : moved r f_at.i x ≡ x
        still = moved_stays r laws f_at.i x (laws.parks x asks)

        same_clock : r.clock x ≡ q.clock t_at
        same_clock = sym (ap r.clock still) ∙ f_at.clock

        dists : List ℕ
        dists = map dist (range_with_len 0 (length v.awake))

        aim_other : (n : ℕ) (s : S) (t : T) → n ≢ k.number → get_or w.awake n None ≡ Some s → get_or v.awake n None ≡ Some t → is_before (key (q.clock t_at) k.number) (key (q.clock (moved q (dist n) t)) n) ≡ true
        aim_other n s t ne a b =
            let f = facts n s t a b in
            let later : is_before (key (r.clock s) n) k ≡ false = nx.1 n (r.clock s) (ap (option_map r.clock) a) in
            let first : is_before k (key (r.clock s) n) ≡ true = before_or_not (key (r.clock s) n) k later ne in
            let up : r.clock s ≤ q.clock (moved q (dist n) t) = rw f.clock at (moved_climbs r laws f.i s) in
            let g : is_before k (key (q.clock (moved q (dist n) t)) n) ≡ true = before_above k (r.clock s) (q.clock (moved q (dist n) t)) n up first in
            let e : k.clock ≡ q.clock t_at = sym xc ∙ same_clock in
            subst (λ z. is_before (key z k.number) (key (q.clock (moved q (dist n) t)) n) ≡ true) e g

        aim_by : (n : ℕ) (o : Option S) (p : Option T) → n ≢ k.number → get_or w.awake n None ≡ o → get_or v.awake n None ≡ p → RowAlike o p → Aims q laws' k.number t_at f_at.right n p (dist n)
        aim_by n o None ne a b h = tt
        aim_by n None (Some t) ne a b h = elim h [ ]
        aim_by n (Some s) (Some t) ne a b h = inr (ne, aim_other n s t ne a b)

        aim : (n : ℕ) → Aims q laws' k.number t_at f_at.right n (get_or v.awake n None) (dist n)
        aim n = elim (cases_eq n k.number) [
          | inl e ↦ subst (λ m. Aims q laws' k.number t_at f_at.right m (get_or v.awake m None) (dist m)) (sym e) (subst (λ p. Aims q laws' k.number t_at f_at.right k.number p (dist k.number)) (sym at_c) (inl (refl, refl)))
          | inr ne ↦ aim_by n (get_or w.awake n None) (get_or v.awake n None) ne refl refl (tw.rows n)
        ]

        aims_at : (n : ℕ) → Aims q laws' k.number t_at f_at.right n (get_or v.awake n None) (get_or dists n 0)
        unfolding dists
        aims_at n = elim (cases_lt n (length v.awake)) [
          | inl l ↦ let z : 0 + n ≡ n = omega arith in rw (get_or-map-range_with_len dist 0 (length v.awake) n n 0 l z) (aim n)
          | inr l ↦ rw (get_or_past v.awake n None l) tt
        ]

        states : ℕ → Option T
        states n = option_map (moved q (dist n)) (get_or v.awake n None)

        comes : Reaches q laws' k.number t_at f_at.right v.awake states (length v.awake) v.shared
        unfolding states dists
        comes = turn q laws' k.number t_at f_at.right states (length v.awake) v.shared (sym (same_over w.shared v.shared tw.shared) ∙ over) (ap (option_map (moved q (dist k.number))) at_c) (sum_by (λ (d : ℕ). d) dists) v.awake dists (record {
          few = omega arith;
          size = refl;
          same = length-map-range_with_len dist 0 (length v.awake);
          meets = λ n. meets_moved (get_or v.awake n None) (dist n);
          aims = aims_at;
        })

        performed : (m : ℕ) × Twins (perform r w k.number x) (run q m v)
        unfolding states
        performed =
            let z = comes in
            let e = performs w.shared v.shared tw.shared k.number x t_at asks f_at.right same_clock (subst (λ y. Ready y t_at) still f_at.ready) in
            let rows : (n : ℕ) → RowAlike (get_or w.awake n None) (get_or z.to n None) = λ n. rows_moved (get_or w.awake n None) (get_or v.awake n None) (tw.rows n) (get_or z.to n None) (z.meets n) in
            let new = effects_twins w.awake z.to (r.perform w.shared k.number x) (q.perform v.shared k.number t_at) e (sym z.size ∙ tw.size) rows in
            let ran : run q (z.moves + 1) v ≡ perform q (record { awake = z.to; shared = v.shared }) k.number t_at
            = run_add q laws' z.moves 1 v ∙ ap (one q) z.ran ∙ one_performs q laws' z.to v.shared k.number t_at (sym (same_over w.shared v.shared tw.shared) ∙ over) z.is_next z.is_t f_at.right in
            (z.moves + 1, subst (λ y. Twins (perform r w k.number x) y) (sym ran) new)

      moves_by : (w : World S W) (v : World T V) → Twins w v → r.is_over w.shared ≡ false → (k : Key) → IsNext (option_map r.clock) None w.awake (Some k) → (x : S) → get_or w.awake k.number None ≡ Some x → r.clock x ≡ k.clock
          → (o : Option S) → r.local x ≡ o → (b : Bool) → r.asks x ≡ b → (m : ℕ) × Twins (elim o as (λ _. World S W) [ Some y ↦ move_on r w k.number x (Some y) | None ↦ cond b (perform r w k.number x) w ]) (run q m v)
      moves_by w v tw over k nx x at xc (Some y) l b a =
          let row : RowAlike (Some x) (get_or v.awake k.number None) = rw at at (tw.rows k.number) in
          let all = alike_set w.awake v.awake tw.size tw.rows k.number (Some y) (get_or v.awake k.number None) (row_left_step x y l (get_or v.awake k.number None) row) in (
            0,
            record {
              shared = tw.shared;
              size = tw.size ∙ sym (length-set w.awake k.number (Some y));
              rows = subst (λ l. (n : ℕ) → RowAlike (get_or (set w.awake k.number (Some y)) n None) (get_or l n None)) (set-get_or v.awake k.number None) all;
            },
          )
      moves_by w v tw over k nx x at xc None l false a = (0, tw)
      moves_by w v tw over k nx x at xc None l true a =
          let row : RowAlike (Some x) (get_or v.awake k.number None) = rw at at (tw.rows k.number) in
          let c = other_of (get_or v.awake k.number None) x row in
          performed w v tw over k nx x at xc a c.0 c.1

      on_by : (w : World S W) (v : World T V) → Twins w v → r.is_over w.shared ≡ false → (k : Key) → IsNext (option_map r.clock) None w.awake (Some k) → (x : S) → get_or w.awake k.number None ≡ Some x → r.clock x ≡ k.clock
          → (o : Option S) → r.local x ≡ o → (m : ℕ) × Twins (move_on r w k.number x o) (run q m v)
      on_by w v tw over k nx x at xc (Some y) l = moves_by w v tw over k nx x at xc (Some y) l (r.asks x) refl
      on_by w v tw over k nx x at xc None l = moves_by w v tw over k nx x at xc None l (r.asks x) refl

      next_by : (w : World S W) (v : World T V) → Twins w v → r.is_over w.shared ≡ false → (o : Option Key) → IsNext (option_map r.clock) None w.awake o → (m : ℕ) × Twins (move_next r w o) (run q m v)
      next_by w v tw over None nx = (0, tw)
      next_by w v tw over (Some k) nx =
          let x = awake_at r laws (get_or w.awake k.number None) k.clock nx.0 in
          let z = on_by w v tw over k nx x.0 x.1 x.2 (r.local x.0) refl in
          (z.0, subst (λ o. Twins (move_at r w k.number o) (run q z.0 v)) (sym x.1) z.1)

      one_by : (w : World S W) (v : World T V) → Twins w v → (b : Bool) → r.is_over w.shared ≡ b → (m : ℕ) × Twins (cond b w (move_next r w (next r w.awake))) (run q m v)
      one_by w v tw true e = (0, tw)
      one_by w v tw false e = next_by w v tw e (next r w.awake) (next_is (option_map r.clock) None refl w.awake)

      -- whatever moves the left world makes, the right one makes some and is its twin
      pub twins_run : (n : ℕ) (w : World S W) (v : World T V) → Twins w v → (m : ℕ) × Twins (run r n w) (run q m v)
      twins_run zero w v tw = (0, tw)
      twins_run (suc n) w v tw =
          let a = one_by w v tw (r.is_over w.shared) refl in
          let b = twins_run n (one r w) (run q a.0 v) a.1 in
          (a.0 + b.0, subst (λ y. Twins (run r n (one r w)) y) (sym (run_add q laws' a.0 b.0 v)) b.1)

module _ {S W T V : Type 0} (r : Rules S W) (q : Rules T V) (Ready : S → T → Type 0) (Q : W → V → Type 0) where
  abbrev pub Ready' : T → S → Type 0
  Ready' t s = Ready s t

  abbrev pub Q' : V → W → Type 0
  Q' v w = Q w v

  alike_flip : (s : S) (t : T) → Alike r q Ready Q s t → Alike q r Ready' Q' t s
  alike_flip s t a = record { i = a.j; j = a.i; left = a.right; right = a.left; clock = sym a.clock; ready = a.ready }

  row_flip : (o : Option S) (p : Option T) → RowAlike r q Ready Q o p → RowAlike q r Ready' Q' p o
  row_flip None None h = tt
  row_flip None (Some t) h = h
  row_flip (Some s) None h = h
  row_flip (Some s) (Some t) h = alike_flip s t h

  changes_flip : (cs : List (ℕ × Option S)) (ds : List (ℕ × Option T)) → ChangesAlike r q Ready Q cs ds → ChangesAlike q r Ready' Q' ds cs
  changes_flip [] [] h = tt
  changes_flip [] (d ∷ ds) h = h
  changes_flip (c ∷ cs) [] h = h
  changes_flip (c ∷ cs) (d ∷ ds) h = (sym h.0, row_flip c.1 d.1 h.1, changes_flip cs ds h.2)

  all_flip : (ss : List S) (ts : List T) → AllAlike r q Ready Q ss ts → AllAlike q r Ready' Q' ts ss
  all_flip [] [] h = tt
  all_flip [] (t ∷ ts) h = h
  all_flip (s ∷ ss) [] h = h
  all_flip (s ∷ ss) (t ∷ ts) h = (alike_flip s t h.0, all_flip ss ts h.1)

  pub effects_flip : (e : Effect S W) (f : Effect T V) → EffectsAlike r q Ready Q e f → EffectsAlike q r Ready' Q' f e
  effects_flip e f h = record { changes = changes_flip e.changes f.changes h.changes; started = all_flip e.started f.started h.started; shared = h.shared }

  pub twins_flip : (w : World S W) (v : World T V) → Twins r q Ready Q w v → Twins q r Ready' Q' v w
  twins_flip w v h = record { shared = h.shared; size = sym h.size; rows = λ n. row_flip (get_or w.awake n None) (get_or v.awake n None) (h.rows n) }
