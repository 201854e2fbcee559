-- Two kinds related step by step have the same events, outputs and ends, in worlds of many goroutines, at every limit.
use Rattle.std.proofs.Common.{◌≡◌, ℕ, zero, suc, ◌+◌, ◌≤◌, ◌≢◌, true, cond, List, [], ◌∷◌, map, length, Option, Some, None, refl, sym, ap, ◌∙◌, subst, arith, inl, inr, ◌⊎◌, ⊎_elim, get_or}
use Rattle.std.specs.Prelude.{option_map}
use Rattle.std.specs.Option.{is_some}
use Rattle.std.proofs.lemmas.Bool.{cases_lt, eq-eqb, ne_eqb}
use Rattle.turn_rule.specs.Turns.{Effect, Rules, World, run}
use Rattle.turn_rule.proofs.Twins.{RowAlike, ChangesAlike, AllAlike, EffectsAlike, Twins, twins_run, effects_flip, twins_flip}
use Rattle.word.specs.Values.{Word, Request, Exit, Panic, Exhausted, Reply, Nothing, Value, Received, Clause, Default, Closed, EventOutcome, Done, Ending, Finished, RanOut, Sleeper, Shared, SendOnClosed}
use Rattle.word.specs.Kinds.{Next, Slides, Ticks, Asks, Stuck, GoroutineKind, Clocked, at, asks_of, does, asks, told, Suits}
use Rattle.word.specs.Requests.{Fate, GoesOn, Dozes, Leaves, Stays, Deed, ends, act, meant, perform}
use Rattle.word.specs.Worlds.{Rest, in_bed, actor_after, beds_after, woken_by, begun_at, effect, performs, rules, opening, moment, end_by, Same, Follows, Equal}
use Rattle.word.proofs.Laws.{laws}
use Rattle.word.specs.Related.{Falls, Starts, Answers, Matches}
use Rattle.word.proofs.Found.{In, Ready, Awaits, Kept, Like, like_here, found, cond_at, cond_below}
use Rattle.word.proofs.Fair.{Fits, FateFits, AllWake, AllStart, Lies, Fair, fair, meant_is}

-- at the limit, the one request is `exhausted`
asks_spent : {A : Type 0} (limit clock : ℕ) (x : Next A) (q : Request) → clock ≡ limit → asks_of limit clock x ≡ Some q → q ≡ Exhausted
asks_spent limit clock (Slides a) q e h = cc
asks_spent limit clock (Ticks a) q e h = let c = cond_at clock limit (Some Exhausted) None e in cc
asks_spent limit clock (Asks p) q e h = let c = cond_at clock limit (Some Exhausted) (Some p) e in cc
asks_spent limit clock Stuck q e h = cc

module _ (K M : GoroutineKind) (R : K.State → M.State → Type 0) (limit : ℕ) (finds : (clock : ℕ) → clock ≤ limit → (s : K.State) (c : M.State) → R s c → Like K M R limit (at clock s) (at clock c)) where
  abbrev Rk : Rules (Clocked K.State) (Rest K.State)
  Rk = rules K limit

  abbrev Rm : Rules (Clocked M.State) (Rest M.State)
  Rm = rules M limit

  abbrev RowLike : Option (Clocked K.State) → Option (Clocked M.State) → Type 0
  RowLike = RowAlike Rk Rm (Ready K M R limit) (Kept K M R limit)

  abbrev EffectsLike : Effect (Clocked K.State) (Rest K.State) → Effect (Clocked M.State) (Rest M.State) → Type 0
  EffectsLike = EffectsAlike Rk Rm (Ready K M R limit) (Kept K M R limit)

  doomed_like : (clock : ℕ) → clock ≤ limit → (s : K.State) (t : M.State) → Like K M R limit (record { clock = clock; doomed = true; state = s }) (record { clock = clock; doomed = true; state = t })
  doomed_like clock le s t =
      ⊎_elim
      (λ lt. let e = cond_below clock limit (Some Exhausted) (Some (Panic SendOnClosed)) lt in like_here K M R limit _ _ refl (record { q = Panic SendOnClosed; left = e; right = e; below = le; answers = λ reply h. absurd h; starts = tt }))
      (λ ge. let same : clock ≡ limit = omega arith in let e = cond_at clock limit (Some Exhausted) (Some (Panic SendOnClosed)) same in like_here K M R limit _ _ refl (record { q = Exhausted; left = e; right = e; below = le; answers = λ reply h. absurd h; starts = tt }))
      (cases_lt clock limit)

  not_closed : (q : Request) (reply : Reply) → (reply ≡ Closed → ⊥) → Fits q reply → Suits q reply
  not_closed q reply n (inl e) = absurd (n e)
  not_closed q reply n (inr s) = s

  told_like : (clock : ℕ) → clock ≤ limit → (q : Request) (s : Clocked K.State) (t : Clocked M.State) → Answers K M R q s.state t.state → (reply : Reply) → Fits q reply → Like K M R limit (told K s clock reply) (told M t clock reply)
  told_like clock le q s t an Nothing f = finds clock le _ _ (an Nothing (not_closed q Nothing (λ e. cc) f))
  told_like clock le q s t an (Value w) f = finds clock le _ _ (an (Value w) (not_closed q (Value w) (λ e. cc) f))
  told_like clock le q s t an (Received x ok) f = finds clock le _ _ (an (Received x ok) (not_closed q (Received x ok) (λ e. cc) f))
  told_like clock le q s t an (Clause k g) f = finds clock le _ _ (an (Clause k g) (not_closed q (Clause k g) (λ e. cc) f))
  told_like clock le q s t an Default f = finds clock le _ _ (an Default (not_closed q Default (λ e. cc) f))
  told_like clock le q s t an Closed f = doomed_like clock le s.state t.state

  module _ (w : Rest K.State) (v : Rest M.State) (kept : Kept K M R limit w v) (n : ℕ) (s : Clocked K.State) (t : Clocked M.State) (same : s.clock ≡ t.clock) (f : Ready K M R limit s t) where
    bed_like : (clock : ℕ) → clock ≤ limit → (q : Request) (reply : Reply) → Fits q reply → (a : Option (Clocked K.State)) (b : Option (Clocked M.State)) → Awaits K M R limit q a b
        → RowLike (option_map (λ (x : Clocked K.State). told K x clock reply) a) (option_map (λ (x : Clocked M.State). told M x clock reply) b)
    bed_like clock le q reply h None b k = elim k [ ]
    bed_like clock le q reply h (Some a) None k = elim k [ ]
    bed_like clock le q reply h (Some a) (Some b) k = told_like clock le q a b k reply h

    woken_like : (clock : ℕ) → clock ≤ limit → (ws : List (ℕ × Reply)) → AllWake w.shared.asleep ws → ChangesAlike Rk Rm (Ready K M R limit) (Kept K M R limit) (woken_by K limit w.beds clock ws) (woken_by M limit v.beds clock ws)
    woken_like clock le [] h = tt
    woken_like clock le (x ∷ xs) h =
        let y = h.0 in
        let aw : Awaits K M R limit y.0.request (in_bed x.0 w.beds) (in_bed x.0 v.beds) = subst (λ i. Awaits K M R limit y.0.request (in_bed i w.beds) (in_bed i v.beds)) y.2 (kept.sleepers y.0 y.1) in
        (refl, bed_like clock le y.0.request x.1 y.3 (in_bed x.0 w.beds) (in_bed x.0 v.beds) aw, woken_like clock le xs h.1)

    begun_like : (clock : ℕ) → clock ≤ limit → (xs : List (ℕ × List Word)) → AllStart f.q xs → AllAlike Rk Rm (Ready K M R limit) (Kept K M R limit) (begun_at K limit clock xs) (begun_at M limit clock xs)
    begun_like clock le [] h = tt
    begun_like clock le (x ∷ xs) h = (finds clock le _ _ (subst (Starts K M R) h.0 f.starts), begun_like clock le xs h.1)

    actor_like : (clock : ℕ) → clock ≤ limit → (fate : Fate) → FateFits f.q fate → RowLike (actor_after K limit clock s fate) (actor_after M limit clock t fate)
    actor_like clock le (GoesOn reply) h = told_like clock le f.q s t f.answers reply (inr h)
    actor_like clock le Dozes h = tt
    actor_like clock le Leaves h = tt
    actor_like clock le Stays h = like_here K M R limit s t same f

    -- each sleeper awaits the same, after this goroutine has fallen asleep
    dozes_like : (x : Sleeper) → (In x w.shared.asleep × (x.number ≢ n)) ⊎ (x ≡ record { number = n; request = f.q }) → Awaits K M R limit x.request (in_bed x.number (record { number = n; state = s } ∷ w.beds)) (in_bed x.number (record { number = n; state = t } ∷ v.beds))
    dozes_like x (inl h) =
        let e = ne_eqb n x.number (λ z. h.1 (sym z)) in
        subst (λ b. Awaits K M R limit x.request (cond b (Some s) (in_bed x.number w.beds)) (cond b (Some t) (in_bed x.number v.beds))) (sym e) (kept.sleepers x h.0)
    dozes_like x (inr e) =
        let z = eq-eqb n n refl in
        subst (λ (y : Sleeper). Awaits K M R limit y.request (in_bed y.number (record { number = n; state = s } ∷ w.beds)) (in_bed y.number (record { number = n; state = t } ∷ v.beds))) (sym e)
        (subst (λ b. Awaits K M R limit f.q (cond b (Some s) (in_bed n w.beds)) (cond b (Some t) (in_bed n v.beds))) (sym z) f.answers)

    kept_after : (after : Shared) (fate : Fate) → ((x : Sleeper) → In x after.asleep → Lies w.shared.asleep n f.q fate x) → Kept K M R limit (record { shared = after; beds = beds_after K limit w.beds n s fate }) (record { shared = after; beds = beds_after M limit v.beds n t fate })
    kept_after after (GoesOn reply) h = record { shared = refl; sleepers = λ x i. kept.sleepers x (h x i) }
    kept_after after Dozes h = record { shared = refl; sleepers = λ x i. dozes_like x (h x i) }
    kept_after after Leaves h = record { shared = refl; sleepers = λ x i. kept.sleepers x (h x i) }
    kept_after after Stays h = record { shared = refl; sleepers = λ x i. kept.sleepers x (h x i) }

    effects_by : (clock : ℕ) → clock ≤ limit → (d : Deed) → Fair w.shared.asleep n f.q d → EffectsLike (effect K limit w n clock s d) (effect M limit v n clock t d)
    effects_by clock le d h = record {
      changes = (refl, actor_like clock le d.fate h.fate, woken_like clock le d.woken h.woken);
      started = begun_like clock le d.started h.started;
      shared = kept_after d.shared d.fate h.asleep;
    }

    ends_by : (clock c : ℕ) (q : Request) (o : EventOutcome) (e : Ending) → EffectsLike (effect K limit w n clock s (ends w.shared n c q o e)) (effect M limit v n clock t (ends w.shared n c q o e))
    ends_by clock c q o e = record {
      changes = (refl, like_here K M R limit s t same f, tt);
      started = tt;
      shared = kept_after (ends w.shared n c q o e).shared Stays (λ x i. i);
    }

    Done_by : ℕ → Request → Type 0
    Done_by c q = EffectsLike (effect K limit w n (c + 1) s (act w.shared n c q q)) (effect M limit v n (c + 1) t (act w.shared n c q q))

    acts_by : s.clock ≤ limit → Done_by s.clock f.q
    unfolding Done_by
    acts_by le =
        ⊎_elim
        (λ lt. let up : s.clock + 1 ≤ limit = omega arith in effects_by (s.clock + 1) up (act w.shared n s.clock f.q f.q) (fair w.shared n s.clock f.q))
        (λ ge. let at_limit : s.clock ≡ limit = omega arith in subst (λ q. Done_by s.clock q) (sym (asks_spent limit s.clock (does K s) f.q at_limit f.left)) (ends_by (s.clock + 1) s.clock Exhausted (Done Nothing) RanOut))
        (cases_lt s.clock limit)

    meant_by : Done_by s.clock (meant w.shared n f.q)
    unfolding Done_by
    meant_by = elim (meant_is w.shared n f.q) [
      | inl e ↦ subst (λ q. Done_by s.clock q) (sym e) (acts_by f.below)
      | inr o ↦ elim o [
        | inl e ↦ subst (λ q. Done_by s.clock q) (sym e) (ends_by (s.clock + 1) s.clock Exit (Done Nothing) Finished)
        | inr e ↦ subst (λ q. Done_by s.clock q) (sym e) (ends_by (s.clock + 1) s.clock Exhausted (Done Nothing) RanOut)
      ]
    ]

    performs_by : EffectsLike (performs K limit w n s (asks K limit s)) (performs M limit v n t (asks M limit t))
    unfolding Done_by
    performs_by =
        let a : EffectsLike (performs K limit w n s (Some f.q)) (effect M limit v n (t.clock + 1) t (perform v.shared n t.clock f.q))
        = subst (λ x. EffectsLike (performs K limit w n s (Some f.q)) (effect M limit v n (t.clock + 1) t (perform x n t.clock f.q))) kept.shared
        (subst (λ c. EffectsLike (performs K limit w n s (Some f.q)) (effect M limit v n (c + 1) t (perform w.shared n c f.q))) same meant_by) in
        subst (λ o. EffectsLike (performs K limit w n s o) (performs M limit v n t (asks M limit t))) (sym f.left)
        (subst (λ o. EffectsLike (performs K limit w n s (Some f.q)) (performs M limit v n t o)) (sym f.right) a)

  abbrev pub Pair : World (Clocked K.State) (Rest K.State) → World (Clocked M.State) (Rest M.State) → Type 0
  Pair w v = Twins Rk Rm (Ready K M R limit) (Kept K M R limit) w v

  flags : {A B : Type 0} (P : A → B → Type 0) → Type 0
  flags P = Unit {0}

  row_flag : (o : Option (Clocked K.State)) (p : Option (Clocked M.State)) → RowLike o p → is_some o ≡ is_some p
  row_flag None None h = refl
  row_flag None (Some t) h = elim h [ ]
  row_flag (Some s) None h = elim h [ ]
  row_flag (Some s) (Some t) h = refl

  same_flags : (ss : List (Option (Clocked K.State))) (ts : List (Option (Clocked M.State))) → length ts ≡ length ss → ((n : ℕ) → RowLike (get_or ss n None) (get_or ts n None)) → map is_some ss ≡ map is_some ts
  same_flags [] [] e h = refl
  same_flags [] (t ∷ ts) e h = cc
  same_flags (s ∷ ss) [] e h = cc
  same_flags (s ∷ ss) (t ∷ ts) e h =
      let a = row_flag s t (h 0) in
      let b = same_flags ss ts (omega (arith, e)) (λ n. h (suc n)) in
      ap (λ x. x ∷ map is_some ss) a ∙ ap (λ x. is_some t ∷ x) b

  pub same_seen : (w : World (Clocked K.State) (Rest K.State)) (v : World (Clocked M.State) (Rest M.State)) → Pair w v → Same w v
  same_seen w v h =
      let a = same_flags w.awake v.awake h.size h.rows in
      record { shared = h.shared.shared; awake = a; ends = ap (λ x. end_by x (map is_some w.awake)) h.shared.shared ∙ ap (λ x. end_by v.shared.shared x) a }

  opening_pair : R (K.begin K.main []) (M.begin M.main []) → Pair (opening K) (opening M)
  opening_pair start = record {
    shared = record { shared = refl; sleepers = λ x h. elim h [ ] };
    size = refl;
    rows = opening_rows;
  }
    where
      opening_rows : (n : ℕ) → RowLike (get_or (opening K).awake n None) (get_or (opening M).awake n None)
      opening_rows zero = tt
      opening_rows (suc zero) = finds 0 (omega arith) (K.begin K.main []) (M.begin M.main []) start
      opening_rows (suc (suc n)) = tt

  over_by : (w : Rest K.State) (v : Rest M.State) → Kept K M R limit w v → Rk.is_over w ≡ Rm.is_over v
  over_by w v k = ap (λ (x : Shared). is_some x.ending) k.shared

  pub pairs_run : (n : ℕ) (w : World (Clocked K.State) (Rest K.State)) (v : World (Clocked M.State) (Rest M.State)) → Pair w v → (m : ℕ) × Pair (run Rk n w) (run Rm m v)
  pairs_run = twins_run Rk Rm (Ready K M R limit) (Kept K M R limit) (laws K limit) (laws M limit) over_by (λ w v k n s t a b c f. performs_by w v k n s t c f)

  pub pairs_back : (m : ℕ) (w : World (Clocked K.State) (Rest K.State)) (v : World (Clocked M.State) (Rest M.State)) → Pair w v → (n : ℕ) × Pair (run Rk n w) (run Rm m v)
  pairs_back m w v p =
      let r = twins_run Rm Rk (λ t s. Ready K M R limit s t) (λ y x. Kept K M R limit x y) (laws M limit) (laws K limit) (λ y x k. sym (over_by x y k))
      (λ y x k n t s b a c f. effects_flip Rk Rm (Ready K M R limit) (Kept K M R limit) (Rk.perform x n s) (Rm.perform y n t) (performs_by x y k n s t (sym c) f)) m v w (twins_flip Rk Rm (Ready K M R limit) (Kept K M R limit) w v p) in
      (r.0, twins_flip Rm Rk (λ t s. Ready K M R limit s t) (λ y x. Kept K M R limit x y) (run Rm m v) (run Rk r.0 w) r.1)

  pub there : R (K.begin K.main []) (M.begin M.main []) → Follows K M limit
  there start n = let r = pairs_run n (opening K) (opening M) (opening_pair start) in (r.0, same_seen (moment K limit n) (moment M limit r.0) r.1)

  flip_same : (w : World (Clocked K.State) (Rest K.State)) (v : World (Clocked M.State) (Rest M.State)) → Same w v → Same v w
  flip_same w v h = record { shared = sym h.shared; awake = sym h.awake; ends = sym h.ends }

  pub back : R (K.begin K.main []) (M.begin M.main []) → Follows M K limit
  back start m = let r = pairs_back m (opening K) (opening M) (opening_pair start) in (r.0, flip_same (moment K limit r.0) (moment M limit m) (same_seen (moment K limit r.0) (moment M limit m) r.1))

-- what has to be shown of two kinds: a relation that each step keeps, silent steps that end, and alike beginnings
pub equal : (K M : GoroutineKind) (R : K.State → M.State → Type 0) (size : K.State → ℕ)
    → ((s : K.State) (c : M.State) → R s c → Matches K M R s (K.next s) c)
    → ((s : K.State) → Falls size (size s) (K.next s))
    → R (K.begin K.main []) (M.begin M.main [])
    → Equal K M
equal K M R size sim falls start = record {
  there = λ limit. there K M R limit (found K M R limit size sim falls) start;
  back = λ limit. back K M R limit (found K M R limit size sim falls) start;
}
