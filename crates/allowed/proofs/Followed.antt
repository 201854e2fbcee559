-- What is allowed of one kind is allowed of another that is related to it step by step.
use Rattle.std.proofs.Common.{◌≡◌, ℕ, zero, suc, ◌-◌, negsuc, ◌<◌, ◌≤◌, true, false, List, [], ◌∷◌, ◌++◌, length, Option, Some, None, refl, sym, ap, ◌∙◌, subst, arith, inl, inr, get_or, set, get_or-set_same, get_or-set_other, length-set, length-append}
use Rattle.std.specs.Option.{is_some}
use Rattle.std.proofs.lemmas.Bool.{cases_eq, cases_lt}
use Rattle.std.proofs.lemmas.Option.{same_Some}
use Rattle.std.proofs.lemmas.List.{get_or_past, get_or_append_left, get_or-append_right, set-set, set-get_or}
use Rattle.word.specs.declared.end.End.{End as Ending}
use Rattle.word.specs.declared.end.End.TheVariants.{Deadlock}
use Rattle.word.specs.Values.{Request, Make, Go, Close, End, Exit, Panic, Reply, Nothing, Channel}
use Rattle.word.specs.Kinds.{Next, Slides, Ticks, Asks, GoroutineKind, Suits}
use Rattle.word.specs.Related.{Slips, here as no_slip, more as slip_more, Starts, Answers, Matches}
use Rattle.word.specs.Requests.{channel_of, sent, got}
use Rattle.word.proofs.Fair.{offer_suits}
use Rattle.allowed.specs.Orders.{Scene, Waits, Acts, makes, puts, takes, drains, defaults, closes as closes_channel, lens, caps, prints, Goes, steps, acts, starts, leaves, meet, Ends, returns, exits, panics as panics_so, sends as sends_so, closes as closes_so, closes_nil, makes as makes_so, deadlock, Leads, here, more, first, Allowed}
use Rattle.allowed.proofs.Stands.{within}
use Rattle.allowed.proofs.Ordinary.{set_swap, never_acts}

-- the reply to what is done alone has the form of the request
pub acts_suit : (cs ds : List Channel) (q : Request) (reply : Reply) (bytes : List ℕ) → Acts cs q reply ds bytes → Suits q reply
acts_suit cs ds q reply bytes (makes size z) = tt
acts_suit cs ds q reply bytes (puts r o item one is opened has) = (offer_suits r o one).gives (ap is_some is)
acts_suit cs ds q reply bytes (takes r o item rest one is there) = (offer_suits r o one).takes (ap is_some is) item true
acts_suit cs ds q reply bytes (drains r o one is none closed) = (offer_suits r o one).takes (ap is_some is) (channel_of cs o.chan).zero false
acts_suit cs ds q reply bytes (defaults cases none) = refl
acts_suit cs ds q reply bytes (closes_channel k opened) = tt
acts_suit cs ds q reply bytes (lens k) = tt
acts_suit cs ds q reply bytes (caps k) = tt
acts_suit cs ds q reply bytes (prints text) = tt

twice_set : {A : Type 0} (xs : List A) (n m : ℕ) (a b c d : A) → (n ≡ m → ⊥) → set (set (set (set xs n a) m b) n c) m d ≡ set (set xs n c) m d
twice_set xs n m a b c d ne =
    ap (λ ys. set ys m d) (set_swap (set xs n a) m n b c (λ e. ne (sym e)) ∙ ap (λ ys. set ys m b) (set-set xs n a c))
    ∙ set-set (set xs n c) m b d

module _ (K M : GoroutineKind) (R : K.State → M.State → Type 0) (sim : (s : K.State) (c : M.State) → R s c → Matches K M R s (K.next s) c) where
  abbrev Row : Option K.State → Option M.State → Type 0
  Row None None = Unit {0}
  Row None (Some c) = ⊥
  Row (Some s) None = ⊥
  Row (Some s) (Some c) = R s c

  -- each goroutine of the one is related to that of the other
  record Pair (gs : List (Option K.State)) (hs : List (Option M.State)) : Type 0 where
    size : length hs ≡ length gs
    each : (n : ℕ) → Row (get_or gs n None) (get_or hs n None)

  abbrev scene : List (Option M.State) → List Channel → List ℕ → Scene M.State
  scene hs cs output = record { goroutines = hs; channels = cs; output = output }

  -- the other one
  at_other : (o : Option K.State) (p : Option M.State) (s : K.State) → o ≡ Some s → Row o p → (c : M.State) × (p ≡ Some c) × R s c
  at_other None p s e r = cc
  at_other (Some t) None s e r = elim r [ ]
  at_other (Some t) (Some c) s e r = (c, refl, subst (λ x. R x c) (same_Some t s e) r)

  row_set : (gs : List (Option K.State)) (hs : List (Option M.State)) → Pair gs hs → (n : ℕ) (o : Option K.State) (p : Option M.State) → Row o p → Pair (set gs n o) (set hs n p)
  row_set gs hs pair n o p r = record {
    size = omega (arith, pair.size, length-set gs n o, length-set hs n p);
    each = λ m. elim (cases_eq m n) [
      | inl e ↦ elim (cases_lt n (length gs)) [
        | inl l ↦
            let l' : n < length hs = omega (arith, l, pair.size) in
            subst (λ i. Row (get_or (set gs n o) i None) (get_or (set hs n p) i None)) (sym e) (subst (λ x. Row x (get_or (set hs n p) n None)) (sym (get_or-set_same gs n o None l)) (subst (λ y. Row o y) (sym (get_or-set_same hs n p None l')) r))
        | inr l ↦
            let a : length (set gs n o) ≤ m = omega (arith, l, e, length-set gs n o) in
            let b : length (set hs n p) ≤ m = omega (arith, l, e, length-set hs n p, pair.size) in
            subst (λ x. Row x (get_or (set hs n p) m None)) (sym (get_or_past (set gs n o) m None a)) (subst (λ y. Row None y) (sym (get_or_past (set hs n p) m None b)) tt)
      ]
      | inr ne ↦ subst (λ x. Row x (get_or (set hs n p) m None)) (sym (get_or-set_other gs n m o None ne)) (subst (λ y. Row (get_or gs m None) y) (sym (get_or-set_other hs n m p None ne)) (pair.each m))
    ];
  }

  row_more : (gs : List (Option K.State)) (hs : List (Option M.State)) → Pair gs hs → (s : K.State) (c : M.State) → R s c → Pair (gs ++ Some s ∷ []) (hs ++ Some c ∷ [])
  row_more gs hs pair s c r = record {
    size = omega (arith, pair.size, length-append gs (Some s ∷ []), length-append hs (Some c ∷ []));
    each = λ m. elim (cases_lt m (length gs)) [
      | inl l ↦
          let l' : m < length hs = omega (arith, l, pair.size) in
          subst (λ x. Row x (get_or (hs ++ Some c ∷ []) m None)) (sym (get_or_append_left gs (Some s ∷ []) None m l)) (subst (λ y. Row (get_or gs m None) y) (sym (get_or_append_left hs (Some c ∷ []) None m l')) (pair.each m))
      | inr l ↦
          subst (λ x. Row x (get_or (hs ++ Some c ∷ []) m None)) (sym (get_or-append_right gs (Some s ∷ []) (length gs) m None refl l))
          (subst (λ y. Row (get_or (Some s ∷ []) (m - length gs) None) y) (sym (get_or-append_right hs (Some c ∷ []) (length gs) m None pair.size l)) (last (m - length gs)))
    ];
  }
    where
      last : (i : ℕ) → Row (get_or (Some s ∷ []) i None) (get_or (Some c ∷ []) i None)
      last zero = r
      last (suc i) = tt

  -- a goroutine makes its silent steps
  slipped : (w : Scene M.State) (hs : List (Option M.State)) (cs : List Channel) (output : List ℕ) (n : ℕ) (c d : M.State) → get_or hs n None ≡ Some c → Slips M.next c d → Leads M w (scene hs cs output) → Leads M w (scene (set hs n (Some d)) cs output)
  slipped w hs cs output n c d h no_slip run = subst (λ gs. Leads M w (scene gs cs output)) (sym (ap (λ o. set hs n o) (sym h) ∙ set-get_or hs n None)) run
  slipped w hs cs output n c d h (slip_more {b = b} e rest) run =
      let l = within hs n c h in
      subst (λ gs. Leads M w (scene gs cs output)) (set-set hs n (Some b) (Some d))
      (slipped w (set hs n (Some b)) cs output n b d (get_or-set_same hs n (Some b) None l) rest (more run (steps n c b h (inl e))))

  matched : (s : K.State) (c : M.State) (x : Next K.State) → R s c → K.next s ≡ x → Matches K M R s x c
  matched s c x r e = subst (λ y. Matches K M R s y c) e (sim s c r)

  -- where a goroutine makes a request, the other one comes to it
  record Comes (c : M.State) (s : K.State) (q : Request) : Type 0 where
    d : M.State
    slips : Slips M.next c d
    asks : M.next d ≡ Asks q
    answers : Answers K M R q s d
    starts : Starts K M R q

  comes : (s : K.State) (c : M.State) (q : Request) → R s c → K.next s ≡ Asks q → Comes c s q
  comes s c q r a = let m = matched s c (Asks q) r a in record { d = m.0; slips = m.1; asks = m.2; answers = m.3; starts = m.4 }

  record Follows (w : Scene M.State) (v : Scene K.State) : Type 0 where
    hs : List (Option M.State)
    run : Leads M w (scene hs v.channels v.output)
    pair : Pair v.goroutines hs

  module _ (w : Scene M.State) (v : Scene K.State) (f : Follows w v) where
    abbrev Other : ℕ → K.State → Type 0
    Other n s = (c : M.State) × (get_or f.hs n None ≡ Some c) × R s c

    other : (n : ℕ) (s : K.State) → get_or v.goroutines n None ≡ Some s → Other n s
    other n s h = at_other (get_or v.goroutines n None) (get_or f.hs n None) s h (f.pair.each n)

    -- the goroutine comes to its request
    came : (n : ℕ) (c d : M.State) → get_or f.hs n None ≡ Some c → Slips M.next c d → Leads M w (scene (set f.hs n (Some d)) v.channels v.output)
    came n c d h sl = slipped w f.hs v.channels v.output n c d h sl f.run

    is_there : (n : ℕ) (c d : M.State) → get_or f.hs n None ≡ Some c → get_or (set f.hs n (Some d)) n None ≡ Some d
    is_there n c d h = get_or-set_same f.hs n (Some d) None (within f.hs n c h)

    follows : (u : Scene K.State) → Goes K v u → Follows w u
    follows u (steps n s t h (inl e)) =
        let o = other n s h in
        let m = matched s o.0 (Slides t) o.2 e in
        record { hs = set f.hs n (Some m.0); run = came n o.0 m.0 o.1 m.1; pair = row_set v.goroutines f.hs f.pair n (Some t) (Some m.0) m.2 }
    follows u (steps n s t h (inr e)) =
        let o = other n s h in
        let m = matched s o.0 (Ticks t) o.2 e in
        record {
          hs = set f.hs n (Some m.1);
          run = subst (λ gs. Leads M w (scene gs v.channels v.output)) (set-set f.hs n (Some m.0) (Some m.1)) (more (came n o.0 m.0 o.1 m.2) (steps n m.0 m.1 (is_there n o.0 m.0 o.1) (inr m.3)));
          pair = row_set v.goroutines f.hs f.pair n (Some t) (Some m.1) m.4;
        }
    follows u (acts n s q reply cs bytes h a act) =
        let o = other n s h in
        let z = comes s o.0 q o.2 a in
        record {
          hs = set f.hs n (Some (M.answer z.d reply));
          run = subst (λ gs. Leads M w (scene gs cs (v.output ++ bytes))) (set-set f.hs n (Some z.d) (Some (M.answer z.d reply))) (more (came n o.0 z.d o.1 z.slips) (acts n z.d q reply cs bytes (is_there n o.0 z.d o.1) z.asks act));
          pair = row_set v.goroutines f.hs f.pair n (Some (K.answer s reply)) (Some (M.answer z.d reply)) (z.answers reply (acts_suit v.channels cs q reply bytes act));
        }
    follows u (starts n s function args h a) =
        let o = other n s h in
        let z = comes s o.0 (Go function args) o.2 a in
        record {
          hs = set f.hs n (Some (M.answer z.d Nothing)) ++ Some (M.begin function args) ∷ [];
          run = subst (λ gs. Leads M w (scene (gs ++ Some (M.begin function args) ∷ []) v.channels v.output)) (set-set f.hs n (Some z.d) (Some (M.answer z.d Nothing))) (more (came n o.0 z.d o.1 z.slips) (starts n z.d function args (is_there n o.0 z.d o.1) z.asks));
          pair = row_more (set v.goroutines n (Some (K.answer s Nothing))) (set f.hs n (Some (M.answer z.d Nothing))) (row_set v.goroutines f.hs f.pair n (Some (K.answer s Nothing)) (Some (M.answer z.d Nothing)) (z.answers Nothing tt)) (K.begin function args) (M.begin function args) z.starts;
        }
    follows u (leaves n s ne h a) =
        let o = other n s h in
        let z = comes s o.0 End o.2 a in
        record {
          hs = set f.hs n None;
          run = subst (λ gs. Leads M w (scene gs v.channels v.output)) (set-set f.hs n (Some z.d) None) (more (came n o.0 z.d o.1 z.slips) (leaves n z.d ne (is_there n o.0 z.d o.1) z.asks));
          pair = row_set v.goroutines f.hs f.pair n None None tt;
        }
    follows u (meet n m s t q r o p item ne h h' a a' met) =
        let x = other n s h in
        let y = other m t h' in
        let i = comes s x.0 q x.2 a in
        let j = comes t y.0 r y.2 a' in
        let hs : List (Option M.State) = set f.hs n (Some i.d) in
        let there : get_or hs m None ≡ Some y.0 = get_or-set_other f.hs n m (Some i.d) None (λ e. ne (sym e)) ∙ y.1 in
        let both : List (Option M.State) = set hs m (Some j.d) in
        let at_n : get_or both n None ≡ Some i.d = get_or-set_other hs m n (Some j.d) None ne ∙ is_there n x.0 i.d x.1 in
        let at_m : get_or both m None ≡ Some j.d = get_or-set_same hs m (Some j.d) None (within hs m y.0 there) in
        let run = more (slipped w hs v.channels v.output m y.0 j.d there j.slips (came n x.0 i.d x.1 i.slips)) (meet n m i.d j.d q r o p item ne at_n at_m i.asks j.asks met) in
        record {
          hs = set (set f.hs n (Some (M.answer i.d (sent o.case)))) m (Some (M.answer j.d (got p.case item true)));
          run = subst (λ gs. Leads M w (scene gs v.channels v.output)) (twice_set f.hs n m (Some i.d) (Some j.d) (Some (M.answer i.d (sent o.case))) (Some (M.answer j.d (got p.case item true))) ne) run;
          pair = row_set (set v.goroutines n (Some (K.answer s (sent o.case)))) (set f.hs n (Some (M.answer i.d (sent o.case))))
              (row_set v.goroutines f.hs f.pair n (Some (K.answer s (sent o.case))) (Some (M.answer i.d (sent o.case))) (i.answers (sent o.case) ((offer_suits q o met.gives).gives (ap is_some met.sends))))
              m (Some (K.answer t (got p.case item true))) (Some (M.answer j.d (got p.case item true))) (j.answers (got p.case item true) ((offer_suits r p met.takes).takes (ap is_some met.receives) item true));
        }

    -- ---- ends

    record Over (e : Ending) : Type 0 where
      last : Scene M.State
      run : Leads M w last
      ends : Ends M last e
      printed : last.output ≡ v.output

    over_by : (e : Ending) (n : ℕ) (s : K.State) (q : Request) → get_or v.goroutines n None ≡ Some s → K.next s ≡ Asks q → ((gs : List (Option M.State)) (d : M.State) → get_or gs n None ≡ Some d → M.next d ≡ Asks q → Ends M (scene gs v.channels v.output) e) → Over e
    over_by e n s q h a end =
        let o = other n s h in
        let z = comes s o.0 q o.2 a in
        record { last = scene (set f.hs n (Some z.d)) v.channels v.output; run = came n o.0 z.d o.1 z.slips; ends = end (set f.hs n (Some z.d)) z.d (is_there n o.0 z.d o.1) z.asks; printed = refl }

    -- ---- a deadlock: each goroutine below k is at its request

    module _ (waits : (n : ℕ) (s : K.State) → get_or v.goroutines n None ≡ Some s → (q : Request) × (K.next s ≡ Asks q) × Waits v.channels q) where
      record At (n : ℕ) (d : M.State) : Type 0 where
        s : K.State
        q : Request
        here : get_or v.goroutines n None ≡ Some s
        left : K.next s ≡ Asks q
        right : M.next d ≡ Asks q
        wait : Waits v.channels q

      record Settled (k : ℕ) : Type 0 where
        hs : List (Option M.State)
        run : Leads M w (scene hs v.channels v.output)
        below : (n : ℕ) (d : M.State) → n < k → get_or hs n None ≡ Some d → At n d
        above : (n : ℕ) → k ≤ n → get_or hs n None ≡ get_or f.hs n None
        size : length hs ≡ length f.hs

      settled_more : (k : ℕ) → Settled k → Settled (suc k)
      settled_more k z = go (get_or v.goroutines k None) refl (get_or f.hs k None) refl (f.pair.each k)
        where
          beyond : (n : ℕ) → n < suc k → (n ≡ k → ⊥) → n < k
          beyond n l ne = elim (cases_lt n k) [ inl a ↦ a | inr a ↦ absurd (ne (omega (arith, l, a))) ]

          go : (o : Option K.State) → get_or v.goroutines k None ≡ o → (p : Option M.State) → get_or f.hs k None ≡ p → Row (get_or v.goroutines k None) (get_or f.hs k None) → Settled (suc k)
          go o e None g row = record {
            hs = z.hs;
            run = z.run;
            below = λ n d l h. elim (cases_eq n k) [
              | inl same ↦ let bad : None ≡ Some d = sym g ∙ sym (z.above k (omega arith)) ∙ ap (λ i. get_or z.hs i None) (sym same) ∙ h in absurd cc
              | inr ne ↦ z.below n d (beyond n l ne) h
            ];
            above = λ n l. z.above n (omega (arith, l));
            size = z.size;
          }
          go None e (Some c) g row = elim (subst (λ x. Row x (Some c)) e (subst (λ y. Row (get_or v.goroutines k None) y) g row)) [ ]
          go (Some s) e (Some c) g row =
              let r : R s c = subst (λ x. Row x (Some c)) e (subst (λ y. Row (get_or v.goroutines k None) y) g row) in
              let a = waits k s e in
              let m = comes s c a.0 r a.1 in
              let here' : get_or z.hs k None ≡ Some c = z.above k (omega arith) ∙ g in
              record {
                hs = set z.hs k (Some m.d);
                run = slipped w z.hs v.channels v.output k c m.d here' m.slips z.run;
                below = λ n d l h. elim (cases_eq n k) [
                  | inl same ↦
                      let is : Some m.d ≡ Some d = sym (get_or-set_same z.hs k (Some m.d) None (within z.hs k c here')) ∙ ap (λ i. get_or (set z.hs k (Some m.d)) i None) (sym same) ∙ h in
                      subst (λ i. At i d) (sym same) (subst (At k) (same_Some m.d d is) (record { s = s; q = a.0; here = e; left = a.1; right = m.asks; wait = a.2 }))
                  | inr ne ↦ z.below n d (beyond n l ne) (sym (get_or-set_other z.hs k n (Some m.d) None ne) ∙ h)
                ];
                above = λ n l. get_or-set_other z.hs k n (Some m.d) None (λ same. absurd (omega (arith, l, same))) ∙ z.above n (omega (arith, l));
                size = length-set z.hs k (Some m.d) ∙ z.size;
              }

      settled : (k : ℕ) → Settled k
      settled zero = record { hs = f.hs; run = f.run; below = λ n d l h. absurd (omega (arith, l)); above = λ n l. refl; size = refl }
      settled (suc k) = settled_more k (settled k)

      all : Settled (length f.hs)
      all = settled (length f.hs)

      at : (n : ℕ) (d : M.State) → get_or all.hs n None ≡ Some d → At n d
      at n d h = all.below n d (let l = within all.hs n d h in omega (arith, l, all.size)) h

      asks_same : (q p : Request) (x : Next M.State) → x ≡ Asks q → x ≡ Asks p → q ≡ p
      asks_same q p x a b = cc

      quiet : (n : ℕ) (d : M.State) (q : Request) → get_or all.hs n None ≡ Some d → M.next d ≡ Asks q → Waits v.channels q
      quiet n d q h a = let x = at n d h in subst (Waits v.channels) (asks_same x.q q (M.next d) x.right a) x.wait

      no_move : ((u : Scene K.State) → Goes K v u → ⊥) → (u : Scene M.State) → Goes M (scene all.hs v.channels v.output) u → ⊥
      no_move never u (steps m s t h (inl a)) = let x = at m s h in let bad : Slides t ≡ Asks x.q = sym a ∙ x.right in cc
      no_move never u (steps m s t h (inr a)) = let x = at m s h in let bad : Ticks t ≡ Asks x.q = sym a ∙ x.right in cc
      no_move never u (acts m s q reply cs bytes h a act) = never_acts v.channels cs q reply bytes act (quiet m s q h a)
      no_move never u (starts m s function args h a) = elim (quiet m s (Go function args) h a).0 [ ]
      no_move never u (leaves m s ne h a) = elim (quiet m s End h a).0 [ ]
      no_move never u (meet i j s t q r o p item ne h h' a a' met) =
          let x = at i s h in
          let y = at j t h' in
          never _ (meet i j x.s y.s q r o p item ne x.here y.here (x.left ∙ ap (λ z. Asks z) (asks_same x.q q (M.next s) x.right a)) (y.left ∙ ap (λ z. Asks z) (asks_same y.q r (M.next t) y.right a')) met)

      stuck : ((u : Scene K.State) → Goes K v u → ⊥) → Over Deadlock
      stuck never = record {
        last = scene all.hs v.channels v.output;
        run = all.run;
        ends = deadlock (λ n d h. let x = at n d h in (x.q, x.right, x.wait)) (no_move never);
        printed = refl;
      }

    over_so : (e : Ending) → Ends K v e → Over e
    over_so e (returns s h a) = over_by e 1 s End h a (λ gs d here' asks'. returns d here' asks')
    over_so e (exits n s h a) = over_by e n s Exit h a (λ gs d here' asks'. exits n d here' asks')
    over_so e (panics_so n s cause h a) = over_by e n s (Panic cause) h a (λ gs d here' asks'. panics_so n d cause here' asks')
    over_so e (sends_so n s q o h a one is closed) = over_by e n s q h a (λ gs d here' asks'. sends_so n d q o here' asks' one is closed)
    over_so e (closes_so n s k h a closed) = over_by e n s (Close (Some k)) h a (λ gs d here' asks'. closes_so n d k here' asks' closed)
    over_so e (closes_nil n s h a) = over_by e n s (Close None) h a (λ gs d here' asks'. closes_nil n d here' asks')
    over_so e (makes_so n s size z h a) = over_by e n s (Make (negsuc size) z) h a (λ gs d here' asks'. makes_so n d size z here' asks')
    over_so e (deadlock waits never) = stuck waits never

  leads_so : (w : Scene M.State) (v u : Scene K.State) → Follows w v → Leads K v u → Follows w u
  leads_so w v u f here = f
  leads_so w v u f (more {v = x} run g) = follows w x (leads_so w v x f run) u g

  -- whatever is allowed of the one is allowed of the other
  pub allowed_too : R (K.begin K.main []) (M.begin M.main []) → (output : List ℕ) (ending : Ending) → Allowed K output ending → Allowed M output ending
  allowed_too start output ending h =
      let f = leads_so (first M) (first K) h.last (record { hs = (first M).goroutines; run = here; pair = record { size = refl; each = rows } }) h.run in
      let o = over_so (first M) h.last f ending h.ends in
      record { last = o.last; run = o.run; ends = o.ends; printed = o.printed ∙ h.printed }
    where
      rows : (n : ℕ) → Row (get_or (first K).goroutines n None) (get_or (first M).goroutines n None)
      rows zero = tt
      rows (suc zero) = start
      rows (suc (suc n)) = tt
