-- The goroutines of a scene are those of a world: each one in the state in which it is awake or in which it fell asleep.
use Rattle.std.proofs.Common.{◌≡◌, ℕ, zero, suc, ◌-◌, ◌<◌, ◌≤◌, ◌≢◌, Bool, true, false, cond, List, [], ◌∷◌, ◌++◌, length, Option, Some, None, refl, sym, ap, ◌∙◌, subst, arith, inl, inr, get_or, set, get_or-set_same, get_or-set_other, length-set, length-append}
use Rattle.std.specs.Prelude.{◌==◌}
use Rattle.std.proofs.lemmas.Bool.{cases_eq, cases_lt, ne_eqb, eq-eqb, eqb-true}
use Rattle.std.proofs.lemmas.Option.{same_Some}
use Rattle.std.proofs.lemmas.List.{get_or_past, get_or_append_left, get_or-append_right}
use Rattle.word.specs.Values.{Request, Sleeper}
use Rattle.word.specs.Kinds.{Asks, GoroutineKind, Clocked}
use Rattle.word.specs.Requests.{without}
use Rattle.word.specs.Worlds.{Bed, in_bed}
use Rattle.word.proofs.Found.{In}
use Rattle.word.proofs.Fair.{in_without, in_back}

pub within : {A : Type 0} (xs : List (Option A)) (n : ℕ) (x : A) → get_or xs n None ≡ Some x → n < length xs
within xs n x h = elim (cases_lt n (length xs)) [ inl l ↦ l | inr l ↦ let e = get_or_past xs n None l in absurd cc ]

pub in_kept : (ss : List Sleeper) (n : ℕ) (x : Sleeper) → In x ss → x.number ≢ n → In x (without ss n)
in_kept [] n x i ne = elim i [ ]
in_kept (s ∷ ss) n x i ne = go (s.number == n) refl (λ i'. in_kept ss n x i' ne) i
  where
    go : (b : Bool) → (s.number == n) ≡ b → (In x ss → In x (without ss n)) → In x (s ∷ ss) → In x (cond b (without ss n) (s ∷ without ss n))
    go true e rec (inl same) = absurd (ne (ap (λ (y : Sleeper). y.number) same ∙ eqb-true s.number n e))
    go true e rec (inr i') = rec i'
    go false e rec (inl same) = inl same
    go false e rec (inr i') = inr (rec i')

pub in_front : (ss : List Sleeper) (y x : Sleeper) → In x ss → In x (ss ++ y ∷ [])
in_front [] y x i = elim i [ ]
in_front (s ∷ ss) y x (inl e) = inl e
in_front (s ∷ ss) y x (inr i) = inr (in_front ss y x i)

pub in_last : (ss : List Sleeper) (y : Sleeper) → In y (ss ++ y ∷ [])
in_last [] y = inl refl
in_last (s ∷ ss) y = inr (in_last ss y)

module _ (K : GoroutineKind) where
  abbrev pub Awake : Type 0
  Awake = List (Option (Clocked K.State))

  abbrev pub States : Type 0
  States = List (Option K.State)

  -- whoever is asleep is where it fell asleep, at its request
  pub record Down (beds : List (Bed K.State)) (gs : States) (x : Sleeper) : Type 0 where
    pub s : Clocked K.State
    pub bed : in_bed x.number beds ≡ Some s
    pub here : get_or gs x.number None ≡ Some s.state
    pub asks : K.next s.state ≡ Asks x.request

  pub record Stand (aw : Awake) (beds : List (Bed K.State)) (ss : List Sleeper) (gs : States) : Type 0 where
    pub size : length gs ≡ length aw
    pub up : (m : ℕ) (s : Clocked K.State) → get_or aw m None ≡ Some s → get_or gs m None ≡ Some s.state
    pub down : (x : Sleeper) → In x ss → Down beds gs x
    pub gone : (m : ℕ) → get_or aw m None ≡ None → ((x : Sleeper) → In x ss → x.number ≢ m) → get_or gs m None ≡ None

  -- ---- one goroutine is written

  module _ (aw : Awake) (beds : List (Bed K.State)) (ss : List Sleeper) (gs : States) (st : Stand aw beds ss gs) where
    down_other : (n : ℕ) (o : Option K.State) (x : Sleeper) → x.number ≢ n → In x ss → Down beds (set gs n o) x
    down_other n o x ne i = let d = st.down x i in record { s = d.s; bed = d.bed; here = get_or-set_other gs n x.number o None ne ∙ d.here; asks = d.asks }

    up_set : (n : ℕ) (t : Clocked K.State) → n < length aw → (m : ℕ) (s : Clocked K.State) → get_or (set aw n (Some t)) m None ≡ Some s → get_or (set gs n (Some t.state)) m None ≡ Some s.state
    up_set n t l m s h = elim (cases_eq m n) [
      | inl e ↦
          let a : Some t ≡ Some s = sym (get_or-set_same aw n (Some t) None l) ∙ ap (λ i. get_or (set aw n (Some t)) i None) (sym e) ∙ h in
          let b : n < length gs = omega (arith, l, st.size) in
          ap (λ i. get_or (set gs n (Some t.state)) i None) e ∙ get_or-set_same gs n (Some t.state) None b ∙ ap (λ (x : Clocked K.State). Some x.state) (same_Some t s a)
      | inr ne ↦ get_or-set_other gs n m (Some t.state) None ne ∙ st.up m s (sym (get_or-set_other aw n m (Some t) None ne) ∙ h)
    ]

    gone_set : (n : ℕ) (t : Clocked K.State) → n < length aw → (m : ℕ) → get_or (set aw n (Some t)) m None ≡ None → ((m ≢ n) → get_or aw m None ≡ None → get_or gs m None ≡ None) → get_or (set gs n (Some t.state)) m None ≡ None
    gone_set n t l m h f = elim (cases_eq m n) [
      | inl e ↦ let a : Some t ≡ None = sym (get_or-set_same aw n (Some t) None l) ∙ ap (λ i. get_or (set aw n (Some t)) i None) (sym e) ∙ h in absurd cc
      | inr ne ↦ get_or-set_other gs n m (Some t.state) None ne ∙ f ne (sym (get_or-set_other aw n m (Some t) None ne) ∙ h)
    ]

    size_set : (n : ℕ) (o : Option (Clocked K.State)) (p : Option K.State) → length (set gs n p) ≡ length (set aw n o)
    size_set n o p = omega (arith, st.size, length-set gs n p, length-set aw n o)

    -- one that is awake goes on
    pub stand_on : (n : ℕ) (t : Clocked K.State) → n < length aw → ((x : Sleeper) → In x ss → x.number ≢ n) → Stand (set aw n (Some t)) beds ss (set gs n (Some t.state))
    stand_on n t l off = record {
      size = size_set n (Some t) (Some t.state);
      up = up_set n t l;
      down = λ x i. down_other n (Some t.state) x (off x i) i;
      gone = λ m h none. gone_set n t l m h (λ ne g. st.gone m g none);
    }

    -- one that is asleep is woken
    pub stand_woken : (y : Sleeper) → In y ss → (t : Clocked K.State) → Stand (set aw y.number (Some t)) beds (without ss y.number) (set gs y.number (Some t.state))
    stand_woken y j t =
        let d = st.down y j in
        let l : y.number < length aw = omega (arith, within gs y.number d.s.state d.here, st.size) in
        record {
          size = size_set y.number (Some t) (Some t.state);
          up = up_set y.number t l;
          down = λ x i. let p = in_without ss y.number x i in down_other y.number (Some t.state) x p.1 p.0;
          gone = λ m h none. gone_set y.number t l m h (λ ne g. st.gone m g (λ x i. elim (cases_eq x.number y.number) [ inl e ↦ (λ z. ne (sym z ∙ e)) | inr ne' ↦ none x (in_kept ss y.number x i ne') ]));
        }

    -- one that is awake falls asleep
    pub stand_dozes : (n : ℕ) (s : Clocked K.State) (q : Request) → get_or aw n None ≡ Some s → K.next s.state ≡ Asks q
        → Stand (set aw n None) (record { number = n; state = s } ∷ beds) (without ss n ++ record { number = n; request = q } ∷ []) gs
    stand_dozes n s q h a =
        let z : Sleeper = record { number = n; request = q } in
        let l = within aw n s h in
        let nothing : Option (Clocked K.State) = None in
        record {
          size = omega (arith, st.size, length-set aw n nothing);
          up = λ m t g. elim (cases_eq m n) [
            | inl e ↦ let b : nothing ≡ Some t = sym (get_or-set_same aw n nothing None l) ∙ ap (λ i. get_or (set aw n nothing) i None) (sym e) ∙ g in absurd cc
            | inr ne ↦ st.up m t (sym (get_or-set_other aw n m nothing None ne) ∙ g)
          ];
          down = λ x i. elim (in_back (without ss n) z x i) [
            | inl b ↦
                let p = in_without ss n x b in
                let d = st.down x p.0 in
                record { s = d.s; bed = ap (λ t. cond t (Some s) (in_bed x.number beds)) (ne_eqb n x.number (λ e. p.1 (sym e))) ∙ d.bed; here = d.here; asks = d.asks }
            | inr e ↦ subst (λ (y : Sleeper). Down (record { number = n; state = s } ∷ beds) gs y) (sym e)
                (record { s = s; bed = ap (λ t. cond t (Some s) (in_bed n beds)) (eq-eqb n n refl); here = st.up n s h; asks = a })
          ];
          gone = λ m g none. elim (cases_eq m n) [
            | inl e ↦ absurd (none z (in_last (without ss n) z) (sym e))
            | inr ne ↦ st.gone m (sym (get_or-set_other aw n m nothing None ne) ∙ g) (λ x i. elim (cases_eq x.number n) [
              | inl e ↦ (λ f. ne (sym f ∙ e))
              | inr ne' ↦ none x (in_front (without ss n) z x (in_kept ss n x i ne'))
            ])
          ];
        }

    -- one that is awake ends
    pub stand_leaves : (n : ℕ) → n < length aw → ((x : Sleeper) → In x ss → x.number ≢ n) → Stand (set aw n None) beds ss (set gs n None)
    stand_leaves n l off =
        let nothing : Option (Clocked K.State) = None in
        let never : Option K.State = None in
        let b : n < length gs = omega (arith, l, st.size) in
        record {
          size = size_set n nothing never;
          up = λ m t g. elim (cases_eq m n) [
            | inl e ↦ let b' : nothing ≡ Some t = sym (get_or-set_same aw n nothing None l) ∙ ap (λ i. get_or (set aw n nothing) i None) (sym e) ∙ g in absurd cc
            | inr ne ↦ get_or-set_other gs n m never None ne ∙ st.up m t (sym (get_or-set_other aw n m nothing None ne) ∙ g)
          ];
          down = λ x i. down_other n never x (off x i) i;
          gone = λ m g none. elim (cases_eq m n) [
            | inl e ↦ ap (λ i. get_or (set gs n never) i None) e ∙ get_or-set_same gs n never None b
            | inr ne ↦ get_or-set_other gs n m never None ne ∙ st.gone m (sym (get_or-set_other aw n m nothing None ne) ∙ g) none
          ];
        }

    -- one more begins
    pub stand_begins : (t : Clocked K.State) → Stand (aw ++ Some t ∷ []) beds ss (gs ++ Some t.state ∷ [])
    stand_begins t = record {
      size = omega (arith, st.size, length-append aw (Some t ∷ []), length-append gs (Some t.state ∷ []));
      up = λ m s g. elim (cases_lt m (length aw)) [
        | inl l ↦ let b : m < length gs = omega (arith, l, st.size) in get_or_append_left gs (Some t.state ∷ []) None m b ∙ st.up m s (sym (get_or_append_left aw (Some t ∷ []) None m l) ∙ g)
        | inr l ↦
            let b : length gs ≤ m = omega (arith, l, st.size) in
            get_or-append_right gs (Some t.state ∷ []) (length aw) m None st.size l ∙ last (m - length aw) s (sym (get_or-append_right aw (Some t ∷ []) (length aw) m None refl l) ∙ g)
      ];
      down = λ x i. let d = st.down x i in record { s = d.s; bed = d.bed; here = get_or_append_left gs (Some t.state ∷ []) None x.number (within gs x.number d.s.state d.here) ∙ d.here; asks = d.asks };
      gone = λ m g none. elim (cases_lt m (length aw)) [
        | inl l ↦ let b : m < length gs = omega (arith, l, st.size) in get_or_append_left gs (Some t.state ∷ []) None m b ∙ st.gone m (sym (get_or_append_left aw (Some t ∷ []) None m l) ∙ g) none
        | inr l ↦ get_or-append_right gs (Some t.state ∷ []) (length aw) m None st.size l ∙ past (m - length aw) (sym (get_or-append_right aw (Some t ∷ []) (length aw) m None refl l) ∙ g)
      ];
    }
      where
        last : (i : ℕ) (s : Clocked K.State) → get_or (Some t ∷ []) i None ≡ Some s → get_or (Some t.state ∷ []) i None ≡ Some s.state
        last zero s h = ap (λ (x : Clocked K.State). Some x.state) (same_Some t s h)
        last (suc i) s h = cc

        past : (i : ℕ) → get_or (Some t ∷ []) i None ≡ None → get_or (Some t.state ∷ []) i None ≡ None
        past zero h = cc
        past (suc i) h = refl
