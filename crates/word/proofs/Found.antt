-- Two kinds related step by step come to the same requests at the same clocks.
use Rattle.std.proofs.Common.{◌≡◌, ℕ, zero, suc, ◌+◌, ◌-◌, ◌<◌, ◌≤◌, true, cond, List, [], ◌∷◌, Option, Some, None, refl, sym, ap, ◌∙◌, subst, arith, ◌⊎◌, ⊎_elim}
use Rattle.std.specs.Prelude.{◌==◌}
use Rattle.std.specs.Option.{is_some}
use Rattle.std.proofs.lemmas.Bool.{cases_lt, eq-eqb, ne_eqb}
use Rattle.turn_rule.specs.Turns.{moved}
use Rattle.turn_rule.proofs.Stable.{stepped_is}
use Rattle.turn_rule.proofs.Twins.{Alike}
use Rattle.word.specs.Values.{Request, Exhausted, Sleeper}
use Rattle.word.specs.Kinds.{Next, Slides, Ticks, Asks, Stuck, GoroutineKind, Clocked, at, local_of, asks_of, local, asks}
use Rattle.word.specs.Worlds.{Rest, in_bed, rules}
use Rattle.word.specs.Related.{Slips, here, more, Falls, Starts, Answers, Matches}
use Rattle.word.proofs.Laws.{laws}

abbrev pub In : {A : Type 0} → A → List A → Type 0
In x [] = ⊥
In x (y ∷ ys) = (x ≡ y) ⊎ In x ys

-- at the limit and below it
pub cond_at : {A : Type 0} (clock limit : ℕ) (a b : A) → clock ≡ limit → cond (clock == limit) a b ≡ a
cond_at clock limit a b e = ap (λ t. cond t a b) (eq-eqb clock limit e)

pub cond_below : {A : Type 0} (clock limit : ℕ) (a b : A) → clock < limit → cond (clock == limit) a b ≡ b
cond_below clock limit a b h = let ne : clock ≡ limit → ⊥ = omega arith in ap (λ t. cond t a b) (ne_eqb clock limit ne)

module _ (K M : GoroutineKind) (R : K.State → M.State → Type 0) where
  module _ (limit : ℕ) where
    -- both make the same request, and go on alike
    pub record Ready (s : Clocked K.State) (t : Clocked M.State) : Type 0 where
      pub q : Request
      pub left : asks K limit s ≡ Some q
      pub right : asks M limit t ≡ Some q
      pub below : s.clock ≤ limit
      pub answers : Answers K M R q s.state t.state
      pub starts : Starts K M R q

    abbrev pub Awaits : Request → Option (Clocked K.State) → Option (Clocked M.State) → Type 0
    Awaits q None t = ⊥
    Awaits q (Some s) None = ⊥
    Awaits q (Some s) (Some t) = Answers K M R q s.state t.state

    -- the same is shared, and each sleeper awaits the same
    pub record Kept (w : Rest K.State) (v : Rest M.State) : Type 0 where
      pub shared : w.shared ≡ v.shared
      pub sleepers : (x : Sleeper) → In x w.shared.asleep → Awaits x.request (in_bed x.number w.beds) (in_bed x.number v.beds)

    abbrev pub Like : Clocked K.State → Clocked M.State → Type 0
    Like s t = Alike (rules K limit) (rules M limit) Ready Kept s t

    pub like_here : (s : Clocked K.State) (t : Clocked M.State) → s.clock ≡ t.clock → Ready s t → Like s t
    like_here s t e f = record { i = 0; j = 0; left = ap is_some f.left; right = ap is_some f.right; clock = e; ready = f }

    left_more : (s u : Clocked K.State) (t : Clocked M.State) → local K limit s ≡ Some u → Like u t → Like s t
    left_more s u t e a =
        let p = sym (stepped_is (rules K limit) (laws K limit) s u e) in
        record {
          i = suc a.i;
          j = a.j;
          left = subst (λ z. (rules K limit).asks (moved (rules K limit) a.i z) ≡ true) p a.left;
          right = a.right;
          clock = subst (λ z. (rules K limit).clock (moved (rules K limit) a.i z) ≡ (rules M limit).clock (moved (rules M limit) a.j t)) p a.clock;
          ready = subst (λ z. Ready (moved (rules K limit) a.i z) (moved (rules M limit) a.j t)) p a.ready;
        }

    right_more : (s : Clocked K.State) (t u : Clocked M.State) → local M limit t ≡ Some u → Like s u → Like s t
    right_more s t u e a =
        let p = sym (stepped_is (rules M limit) (laws M limit) t u e) in
        record {
          i = a.i;
          j = suc a.j;
          left = a.left;
          right = subst (λ z. (rules M limit).asks (moved (rules M limit) a.j z) ≡ true) p a.right;
          clock = subst (λ z. (rules K limit).clock (moved (rules K limit) a.i s) ≡ (rules M limit).clock (moved (rules M limit) a.j z)) p a.clock;
          ready = subst (λ z. Ready (moved (rules K limit) a.i s) (moved (rules M limit) a.j z)) p a.ready;
        }

    slips_more : (clock : ℕ) (s : Clocked K.State) (c d : M.State) → Slips M.next c d → Like s (at clock d) → Like s (at clock c)
    slips_more clock s c d here a = a
    slips_more clock s c d (more e l) a = right_more s _ _ (ap (local_of limit clock) e) (slips_more clock s _ d l a)

    spent : (clock : ℕ) (s : K.State) (c : M.State) → clock ≤ limit → asks K limit (at clock s) ≡ Some Exhausted → asks M limit (at clock c) ≡ Some Exhausted → Like (at clock s) (at clock c)
    spent clock s c le a b = like_here (at clock s) (at clock c) refl (record { q = Exhausted; left = a; right = b; below = le; answers = λ reply h. absurd h; starts = tt })

    asking : (clock : ℕ) (s : K.State) (c : M.State) (q : Request) → clock ≤ limit → K.next s ≡ Asks q → M.next c ≡ Asks q → Answers K M R q s c → Starts K M R q → Like (at clock s) (at clock c)
    asking clock s c q le e f an st =
        ⊎_elim
        (λ lt. like_here (at clock s) (at clock c) refl (record {
          q = q;
          left = ap (asks_of limit clock) e ∙ cond_below clock limit (Some Exhausted) (Some q) lt;
          right = ap (asks_of limit clock) f ∙ cond_below clock limit (Some Exhausted) (Some q) lt;
          below = le;
          answers = an;
          starts = st;
        }))
        (λ ge. let eq : clock ≡ limit = omega arith in spent clock s c le
        (ap (asks_of limit clock) e ∙ cond_at clock limit (Some Exhausted) (Some q) eq)
        (ap (asks_of limit clock) f ∙ cond_at clock limit (Some Exhausted) (Some q) eq))
        (cases_lt clock limit)

    ticking : (clock : ℕ) (s a : K.State) (c e : M.State) → clock ≤ limit → K.next s ≡ Ticks a → M.next c ≡ Ticks e → (clock < limit → Like (at (clock + 1) a) (at (clock + 1) e)) → Like (at clock s) (at clock c)
    ticking clock s a c e le p p' later =
        ⊎_elim
        (λ lt. left_more (at clock s) (at (clock + 1) a) (at clock c) (ap (local_of limit clock) p ∙ cond_below clock limit None (Some (at (clock + 1) a)) lt)
        (right_more (at (clock + 1) a) (at clock c) (at (clock + 1) e) (ap (local_of limit clock) p' ∙ cond_below clock limit None (Some (at (clock + 1) e)) lt) (later lt)))
        (λ ge. let eq : clock ≡ limit = omega arith in spent clock s c le
        (ap (asks_of limit clock) p ∙ cond_at clock limit (Some Exhausted) None eq)
        (ap (asks_of limit clock) p' ∙ cond_at clock limit (Some Exhausted) None eq))
        (cases_lt clock limit)

    module _ (size : K.State → ℕ) (sim : (s : K.State) (c : M.State) → R s c → Matches K M R s (K.next s) c) (falls : (s : K.State) → Falls size (size s) (K.next s)) where
      -- by the silent steps that are left until the next tick
      by_next : (clock : ℕ) → clock ≤ limit → (clock < limit → (a : K.State) (e : M.State) → R a e → Like (at (clock + 1) a) (at (clock + 1) e)) → (n : ℕ) → ((a : K.State) (d : M.State) → size a < n → R a d → Like (at clock a) (at clock d))
          → (s : K.State) (c : M.State) → size s < suc n → (x : Next K.State) → K.next s ≡ x → Matches K M R s x c → Falls size (size s) x → Like (at clock s) (at clock c)
      by_next clock le later n rec s c lt (Slides a) e m f = left_more (at clock s) (at clock a) (at clock c) (ap (local_of limit clock) e) (slips_more clock (at clock a) c m.0 m.1 (rec a m.0 (omega arith) m.2))
      by_next clock le later n rec s c lt (Ticks a) e m f = slips_more clock (at clock s) c m.0 m.2 (ticking clock s a m.0 m.1 le e m.3 (λ l. later l a m.1 m.4))
      by_next clock le later n rec s c lt (Asks q) e m f = slips_more clock (at clock s) c m.0 m.1 (asking clock s m.0 q le e m.2 m.3 m.4)
      by_next clock le later n rec s c lt Stuck e m f = elim m [ ]

      within : (clock : ℕ) → clock ≤ limit → (clock < limit → (a : K.State) (e : M.State) → R a e → Like (at (clock + 1) a) (at (clock + 1) e)) → (n : ℕ) (s : K.State) (c : M.State) → size s < n → R s c → Like (at clock s) (at clock c)
      within clock le later zero s c lt h = absurd (omega arith)
      within clock le later (suc n) s c lt h = by_next clock le later n (λ a d l h'. within clock le later n a d l h') s c lt (K.next s) refl (sim s c h) (falls s)

      found_by : (left clock : ℕ) → clock + left ≡ limit → (s : K.State) (c : M.State) → R s c → Like (at clock s) (at clock c)
      found_by zero clock e s c h = within clock (omega arith) (λ lt a d h'. absurd (omega arith)) (suc (size s)) s c (omega arith) h
      found_by (suc left) clock e s c h = within clock (omega arith) (λ lt a d h'. found_by left (clock + 1) (omega arith) a d h') (suc (size s)) s c (omega arith) h

      pub found : (clock : ℕ) → clock ≤ limit → (s : K.State) (c : M.State) → R s c → Like (at clock s) (at clock c)
      found clock le s c h = found_by (limit - clock) clock (omega arith) s c h
