-- Moves of the run, and what was written.
use Rattle.std.proofs.Common.{◌≡◌, ◌⊎◌, inl, inr, ℕ, zero, suc, ◌+◌, ◌<◌, ◌≤◌, arith, Bool, true, false, ◌&&◌, not, cond, List, [], ◌∷◌, ◌++◌, length, map, take, Option, Some, None, refl, sym, ap, ◌∙◌, subst, append-nil, append_assoc, zero-add, suc-add}
use Rattle.std.specs.Prelude.{◌==◌, ◌^◌, Result, Ok, Err, IfOk, option_map, slice_index_or}
use Rattle.std.specs.Io.KnownBytes.{Appends}
use Rattle.std.specs.Option.{is_some}
use Rattle.std.proofs.Math.Seq.{take-length}
use Rattle.logical_clock.specs.declared.key.Key.{Key}
use Rattle.logical_clock.specs.Order.{keys, least, sooner, with_key}
use Rattle.reference_world.proofs.Events.{deed_events}
use Rattle.reference_world.specs.Deeds.{History, MeetingValue, Performs, SharedValue, deed_of, history_of, opened}
use Rattle.reference_world.specs.Events.{event_by}
use Rattle.reference_world.specs.declared.deed.Deed.{Deed as Did}
use Rattle.reference_world.specs.declared.deed.Deed.TheVariants as did
use Rattle.turn_rule.specs.Turns.{World, move_at, move_next, next, one}
use Rattle.turn_rule.proofs.Stable.{run_add}
use Rattle.word.specs.declared.end.End.{End as Ending}
use Rattle.word.specs.declared.end.End.TheVariants.{Deadlock, Exhausted as RanOut}
use Rattle.word.specs.Values.{Exhausted, Request, Shared, Sleeper}
use Rattle.word.specs.Kinds.{Clocked, GoroutineKind, asks}
use Rattle.word.specs.Requests.{Deed, act, meant, perform}
use Rattle.word.specs.Views.{request_of}
use Rattle.word.specs.Worlds.{Bed, Rest, end_of, is_deserted, moment, opening, rules}
use Rattle.one_thread.specs.declared.goroutine.Goroutine.{Goroutine}
use Rattle.one_thread.specs.declared.goroutine.Turn.TheVariants as turns
use Rattle.one_thread.specs.Places.{AdvancesAt, IsAt, SleepOn, StepsAt, awake_in, awake_of, clock_of, clocked, here}
use Rattle.one_thread.specs.Worlds.{Applies, Goes, IsAsked, IsLast, IsOpen, IsWorldOf, LieIn, Stands, printed}
use Rattle.whole_run.specs.Runs.{BeginsOutput, IsWhole}
use Rattle.one_thread.proofs.After.{Known, after, applied, known, one_after}
use Rattle.word.specs.declared.request.Request.{Request as Asked}
use Rattle.word.proofs.Laws.{laws}
use Rattle.one_thread.proofs.Printed.{act_prints}
use Rattle.one_thread.proofs.Standing.{awake_is, here_is}
use Rattle.one_thread.specs.Histories.{printed_by}

pub appends_more : (old mid new : Option (List ℕ)) (xs ys : List ℕ) → Appends old mid xs → Appends mid new ys → Appends old new (xs ++ ys)
appends_more None mid new xs ys a b = tt
appends_more (Some os) None new xs ys a b = absurd a
appends_more (Some os) (Some ms) None xs ys a b = absurd b
appends_more (Some os) (Some ms) (Some ns) xs ys a b = b ∙ ap (λ zs. zs ++ ys) a ∙ append_assoc os xs ys

pub appends_none : (old : Option (List ℕ)) → Appends old old []
appends_none None = tt
appends_none (Some xs) = sym (append-nil xs)

pub take_past : (xs ys : List ℕ) (k : ℕ) → take (length xs + k) (xs ++ ys) ≡ xs ++ take k ys
take_past [] ys k = ap (λ n. take n ys) (zero-add k)
take_past (x ∷ xs) ys k = rw suc-add (ap (λ zs. x ∷ zs) (take_past xs ys k))

-- what a deed appends to the output
deed_output : (h : History) (n c : ℕ) (p : Request) (deed : Did) (v : SharedValue) (m : MeetingValue) → (deed_of h n c p deed v m).shared.output ≡ h.output ++ printed deed
deed_output h n c p (did.Done reply woken) v m = sym (append-nil h.output)
deed_output h n c p (did.Prints bytes) v m = refl
deed_output h n c p (did.Starts function arguments) v m = sym (append-nil h.output)
deed_output h n c p did.Sleeps v m = sym (append-nil h.output)
deed_output h n c p did.Leaves v m = sym (append-nil h.output)
deed_output h n c p (did.Panics cause clause) v m = sym (append-nil h.output)
deed_output h n c p (did.Ends end) v m = sym (append-nil h.output)

still_exhausted : (w : Shared) (n : ℕ) → meant w n Exhausted ≡ Exhausted
still_exhausted w n = go (length w.events + 1 == 2 ^ 62)
  where
    go : (b : Bool) → cond b Exhausted Exhausted ≡ Exhausted
    go true = refl
    go false = refl

-- what follows of an answer
pub ok_more : {T E : Type 0} (r : Result T E) {A B : T → Type 0} → IfOk r A → ((x : T) → A x → B x) → IfOk r B
ok_more (Ok x) h more = more x h
ok_more (Err e) h more = tt

-- of two numbers the first one is less, or the second one is not more
below_or_not : (n m : ℕ) → (n < m) ⊎ (m ≤ n)
below_or_not n zero = inr (omega arith)
below_or_not zero (suc m) = inl (omega arith)
below_or_not (suc n) (suc m) = up (below_or_not n m)
  where
    up : (n < m) ⊎ (m ≤ n) → (suc n < suc m) ⊎ (suc m ≤ suc n)
    up (inl below) = inl (omega (arith, below))
    up (inr not_below) = inr (omega (arith, not_below))

never_none : (k : Key) (o : Option Key) → sooner k o ≡ None → ⊥
never_none k None e = cc
never_none k (Some j) e = cc

module _ {S : Type 0} (K : GoroutineKind) (held : S → K.State) (limit : ℕ) where
  clock_is : (x : Option (Goroutine S)) → option_map (rules K limit).clock (awake_of held x) ≡ clock_of x
  clock_is None = refl
  clock_is (Some g) = go g.asleep
    where
      go : (b : Bool) → option_map (rules K limit).clock (cond b None (Some (clocked held g))) ≡ cond b None (Some g.clock)
      go true = refl
      go false = refl

  keys_is : (n : ℕ) (xs : List (Option (Goroutine S))) → keys (option_map (rules K limit).clock) n (awake_in held xs) ≡ keys clock_of n xs
  keys_is n [] = refl
  keys_is n (x ∷ xs) = ap (λ (o : Option ℕ). with_key n o (keys (option_map (rules K limit).clock) (suc n) (awake_in held xs))) (clock_is x) ∙ ap (with_key n (clock_of x)) (keys_is (suc n) xs)

  -- ---- no goroutine is awake

  nobody_by : (n : ℕ) (x : Option (Goroutine S)) (o : Option ℕ) (ks : List Key) → clock_of x ≡ o → least (with_key n o ks) ≡ None → (clock_of x ≡ None) × (least ks ≡ None)
  nobody_by n x None ks e h = (e, h)
  nobody_by n x (Some c) ks e h = absurd (never_none (record { clock = c; number = n }) (least ks) h)

  not_awake : (x : Option (Goroutine S)) → clock_of x ≡ None → is_some (awake_of held x) ≡ false
  not_awake None e = refl
  not_awake (Some g) e = go g.asleep e
    where
      go : (b : Bool) → cond b None (Some g.clock) ≡ None → is_some (cond b None (Some (clocked held g))) ≡ false
      go true e' = refl
      go false e' = cc

  deserted : (n : ℕ) (xs : List (Option (Goroutine S))) → least (keys clock_of n xs) ≡ None → is_deserted (map is_some (awake_in held xs)) ≡ true
  deserted n [] h = refl
  deserted n (x ∷ xs) h =
      let t = nobody_by n x (clock_of x) (keys clock_of (suc n) xs) refl h in
      ap (λ (b : Bool). not b && is_deserted (map is_some (awake_in held xs))) (not_awake x t.0) ∙ deserted (suc n) xs t.1

  -- ---- a goroutine is awake

  is_awake : (x : Option (Goroutine S)) (c : ℕ) → clock_of x ≡ Some c → is_some (awake_of held x) ≡ true
  is_awake None c e = cc
  is_awake (Some g) c e = go g.asleep e
    where
      go : (b : Bool) → cond b None (Some g.clock) ≡ Some c → is_some (cond b None (Some (clocked held g))) ≡ true
      go true e' = cc
      go false e' = refl

  somebody_by : (n : ℕ) (x : Option (Goroutine S)) (o : Option ℕ) (xs : List (Option (Goroutine S))) (k : Key) → clock_of x ≡ o → least (with_key n o (keys clock_of (suc n) xs)) ≡ Some k
      → (least (keys clock_of (suc n) xs) ≡ Some k → is_deserted (map is_some (awake_in held xs)) ≡ false) → is_deserted (map is_some (awake_in held (x ∷ xs))) ≡ false
  somebody_by n x None xs k e h rest = ap (λ (b : Bool). not b && is_deserted (map is_some (awake_in held xs))) (not_awake x e) ∙ rest h
  somebody_by n x (Some c) xs k e h rest = ap (λ (b : Bool). not b && is_deserted (map is_some (awake_in held xs))) (is_awake x c e)

  somebody : (n : ℕ) (xs : List (Option (Goroutine S))) (k : Key) → least (keys clock_of n xs) ≡ Some k → is_deserted (map is_some (awake_in held xs)) ≡ false
  somebody n [] k h = cc
  somebody n (x ∷ xs) k h = somebody_by n x (clock_of x) xs k refl h (somebody (suc n) xs k)

  -- ---- the world in memory

  lie_on : (old new : List (Option (Goroutine S))) (beds : List (Bed K.State)) (ss : List Sleeper) → SleepOn held old new → LieIn K held old beds ss → LieIn K held new beds ss
  lie_on old new beds [] on h = tt
  lie_on old new beds (x ∷ xs) on h = (h.0 ∙ sym (on x.number), lie_on old new beds xs on h.1)

  pub next_is : (w : World (Clocked K.State) (Rest K.State)) (old : List (Option (Goroutine S))) (v : SharedValue) (o : Option Key) → IsWorldOf K held w old v → least (keys clock_of 0 old) ≡ o → next (rules K limit) w.awake ≡ o
  next_is w old v o fits is = ap (λ (a : List (Option (Clocked K.State))). next (rules K limit) a) (sym fits.awake) ∙ ap least (keys_is 0 old) ∙ is

  at_is : (w : World (Clocked K.State) (Rest K.State)) (old : List (Option (Goroutine S))) (v : SharedValue) (n : ℕ) → IsWorldOf K held w old v → slice_index_or w.awake n None ≡ here (awake_of held) old n
  at_is w old v n fits = ap (λ (a : List (Option (Clocked K.State))). slice_index_or a n None) (sym fits.awake) ∙ here_is held old n

  moment_next : (n : ℕ) → moment K limit (n + 1) ≡ one (rules K limit) (moment K limit n)
  moment_next n = run_add (rules K limit) (laws K limit) n 1 (opening K)

  -- a world after some moves of a run of which nothing is written
  abbrev pub at_moment : (m : ℕ) (old : List (Option (Goroutine S))) (v : SharedValue) → IsWorldOf K held (moment K limit m) old v → v.ending ≡ None → Stands K held limit None None old v
  at_moment m old v world going = record { moves = m; world = world; written = tt; goes_on = going }

  -- ---- each move

  module _ (seen : Option (List ℕ)) (now : Option (List ℕ)) (old : List (Option (Goroutine S))) (v : SharedValue) (st : Stands K held limit seen now old v) where
    abbrev w : World (Clocked K.State) (Rest K.State)
    w = moment K limit st.moves

    goes : w.shared.shared.ending ≡ None
    goes = sym st.world.shared.ending ∙ st.goes_on

    pub begins : BeginsOutput K limit seen now
    begins = (st.moves, length w.shared.shared.output, subst (Appends seen now) (sym (take-length w.shared.shared.output)) st.written)

    pub ends : least (keys clock_of 0 old) ≡ None → end_of w ≡ Some Deadlock
    ends none =
        ap (λ (o : Option Ending). cond (is_some o) o (cond (is_deserted (map is_some w.awake)) (Some Deadlock) None)) goes
        ∙ ap (λ (b : Bool). cond b (Some Deadlock) None) (ap (λ (a : List (Option (Clocked K.State))). is_deserted (map is_some a)) (sym st.world.awake) ∙ deserted 0 old none)

    pub runs_on : (turn : Key) → least (keys clock_of 0 old) ≡ Some turn → end_of w ≡ None
    runs_on turn is =
        ap (λ (o : Option Ending). cond (is_some o) o (cond (is_deserted (map is_some w.awake)) (Some Deadlock) None)) goes
        ∙ ap (λ (b : Bool). cond b (Some Deadlock) None) (ap (λ (a : List (Option (Clocked K.State))). is_deserted (map is_some a)) (sym st.world.awake) ∙ somebody 0 old turn is)

    pub deadlock : least (keys clock_of 0 old) ≡ None → IsWhole K limit seen now Deadlock
    deadlock none = (st.moves, st.written, ends none)

    pub deadlock_last : least (keys clock_of 0 old) ≡ None → IsLast K held limit None old
    deadlock_last none = (st.moves, v, st.world, ends none)

    -- the world after a local step
    pub stepped_to : (key : Key) (place : ℕ) (new : List (Option (Goroutine S))) → least (keys clock_of 0 old) ≡ Some key → key.number ≡ place → StepsAt K held limit old place new
        → moment K limit (st.moves + 1) ≡ record { awake = awake_in held new; shared = w.shared }
    stepped_to key place new is number h =
        moment_next st.moves
        ∙ (ap (λ (o : Option Ending). cond (is_some o) w (move_next (rules K limit) w (next (rules K limit) w.awake))) goes
        ∙ ap (move_next (rules K limit) w) (next_is w old v (Some key) st.world is)
        ∙ ap (λ (n : ℕ). move_at (rules K limit) w n (slice_index_or w.awake n None)) number
        ∙ ap (move_at (rules K limit) w place) (at_is w old v place st.world)
        ∙ ap (λ (a : List (Option (Clocked K.State))). move_at (rules K limit) (record { awake = a; shared = w.shared }) place (here (awake_of held) old place)) (sym st.world.awake)
        ∙ h.0 w.shared)

    pub stepped_world : (key : Key) (place : ℕ) (new : List (Option (Goroutine S))) → least (keys clock_of 0 old) ≡ Some key → key.number ≡ place → StepsAt K held limit old place new
        → IsWorldOf K held (moment K limit (st.moves + 1)) new v
    stepped_world key place new is number h =
        subst (λ (x : World (Clocked K.State) (Rest K.State)). IsWorldOf K held x new v) (sym (stepped_to key place new is number h))
        (record { awake = refl; beds = lie_on old new w.shared.beds w.shared.shared.asleep h.1 st.world.beds; shared = st.world.shared; once = st.world.once })

    pub stepped : (key : Key) (place : ℕ) (new : List (Option (Goroutine S))) → least (keys clock_of 0 old) ≡ Some key → key.number ≡ place → StepsAt K held limit old place new → Stands K held limit seen now new v
    stepped key place new is number h = record {
      moves = st.moves + 1;
      world = stepped_world key place new is number h;
      written = subst (λ (x : World (Clocked K.State) (Rest K.State)). Appends seen now x.shared.shared.output) (sym (stepped_to key place new is number h)) st.written;
      goes_on = st.goes_on;
    }

    -- the world of a goroutine that makes a request stays
    pub asked_world : (new : List (Option (Goroutine S))) → awake_in held new ≡ awake_in held old → SleepOn held old new → IsWorldOf K held w new v
    asked_world new same on = record { awake = same ∙ st.world.awake; beds = lie_on old new w.shared.beds w.shared.shared.asleep on st.world.beds; shared = st.world.shared; once = st.world.once }

    pub asks_on : (key : Key) (place clock : ℕ) (request : Asked) (new : List (Option (Goroutine S))) → least (keys clock_of 0 old) ≡ Some key → key.number ≡ place → AdvancesAt K held limit (turns.Asks request clock) old place new → Stands K held limit seen now new v × IsAsked K held limit new place clock (request_of request)
    asks_on key place clock request new is number h = (
      record {
        moves = st.moves;
        world = asked_world new h.4 h.5;
        written = st.written;
        goes_on = st.goes_on;
      },
      record {
        state = h.0;
        at = record { here = sym (here_is held new place) ∙ ap (λ (a : List (Option (Clocked K.State))). slice_index_or a place None) h.4 ∙ here_is held old place ∙ h.1.here; asks = h.1.asks };
        what = h.2;
        at_clock = h.3;
        key = key;
        turn = ap least (sym (keys_is 0 new)) ∙ ap (λ (a : List (Option (Clocked K.State))). next (rules K limit) a) h.4 ∙ ap least (keys_is 0 old) ∙ is;
        number = number;
      },
    )

    one_is : (key : Key) (place : ℕ) (s : Clocked K.State) (q : Request) → least (keys clock_of 0 old) ≡ Some key → key.number ≡ place → IsAt K held limit old place s → asks K limit s ≡ Some q → moment K limit (st.moves + 1) ≡ after K held limit w place s (perform w.shared.shared place s.clock q)
    one_is key place s q is number at what =
        moment_next st.moves
        ∙ one_after K held limit w key s q goes (next_is w old v (Some key) st.world is) (ap (λ (n : ℕ). slice_index_or w.awake n None) number ∙ at_is w old v place st.world ∙ at.here) at.asks what
        ∙ ap (λ (n : ℕ). after K held limit w n s (perform w.shared.shared n s.clock q)) number

    pub exhausted : (key : Key) (place : ℕ) (new : List (Option (Goroutine S))) → least (keys clock_of 0 old) ≡ Some key → key.number ≡ place → AdvancesAt K held limit turns.Exhausted old place new → IsWhole K limit seen now RanOut
    exhausted key place new is number h =
        let sh : Shared = w.shared.shared in
        let e = one_is key place h.0 Exhausted is number h.1 h.2 ∙ ap (λ (p : Request). after K held limit w place h.0 (act sh place h.0.clock p p)) (still_exhausted sh place) in
        let both : Appends seen now (moment K limit (st.moves + 1)).shared.shared.output × (end_of (moment K limit (st.moves + 1)) ≡ Some RanOut) =
        subst (λ (x : World (Clocked K.State) (Rest K.State)). Appends seen now x.shared.shared.output × (end_of x ≡ Some RanOut)) (sym e) (st.written, refl) in
        (st.moves + 1, both.0, both.1)

    -- ---- a request

    module _ (place clock : ℕ) (q : Request) (deed : Did) (v' : SharedValue) (ask : IsAsked K held limit old place clock q) (does : Performs v place clock q deed v') where
      done : Performs v place ask.state.clock q deed v'
      done = subst (λ (c : ℕ). Performs v place c q deed v') ask.at_clock does

      abbrev d : Deed
      d = perform w.shared.shared place ask.state.clock q

      next_moment : moment K limit (st.moves + 1) ≡ after K held limit w place ask.state d
      next_moment = one_is ask.key place ask.state q ask.turn ask.number ask.at ask.what

      output_is : (moment K limit (st.moves + 1)).shared.shared.output ≡ w.shared.shared.output ++ printed deed
      output_is =
          ap (λ (x : World (Clocked K.State) (Rest K.State)). x.shared.shared.output) next_moment
          ∙ ap (λ (x : Deed). x.shared.output) (done w.shared.shared st.world.shared).0
          ∙ deed_output (history_of w.shared.shared) place ask.state.clock (meant w.shared.shared place q) deed v' v'.meeting

      -- some of what it prints is written
      pub begins_after : (new : Option (List ℕ)) (k : ℕ) → Appends now new (take k (printed deed)) → BeginsOutput K limit seen new
      begins_after new k a = (
        st.moves + 1,
        length w.shared.shared.output + k,
        subst (Appends seen new) (sym (ap (take (length w.shared.shared.output + k)) output_is ∙ take_past w.shared.shared.output (printed deed) k))
            (appends_more seen now new w.shared.shared.output (take k (printed deed)) st.written a),
      )

      is : d ≡ deed_of (history_of w.shared.shared) place ask.state.clock (meant w.shared.shared place q) deed v' v'.meeting
      is = (done w.shared.shared st.world.shared).0

      -- the world after the request
      pub went : (new : List (Option (Goroutine S))) (later : ℕ) → later ≡ clock + 1 → Applies K held later place ask.state deed old new → IsWorldOf K held (moment K limit (st.moves + 1)) new v'
      went new later one applies =
          subst (λ (x : World (Clocked K.State) (Rest K.State)). IsWorldOf K held x new v') (sym (next_moment ∙ ap (after K held limit w place ask.state) is))
          (applied K held limit w old new v v' place ask.state (meant w.shared.shared place q) st.world ask.at.here deed
          (subst (λ (x : Deed). Known K held limit w.shared.shared place (meant w.shared.shared place q) v' x) is (known K held limit w.shared.shared place ask.state.clock q v' st.world.once (done w.shared.shared st.world.shared).1))
          (subst (λ (c : ℕ). Applies K held c place ask.state deed old new) (one ∙ ap (λ (c : ℕ). c + 1) ask.at_clock) applies))

      -- the events then
      pub events_after : (moment K limit (st.moves + 1)).shared.shared.events ≡ w.shared.shared.events ++ event_by place ask.state.clock (meant w.shared.shared place q) v'.made deed ∷ []
      events_after =
          ap (λ (x : World (Clocked K.State) (Rest K.State)). x.shared.shared.events) next_moment
          ∙ ap (λ (x : Deed). x.shared.events) is
          ∙ deed_events (history_of w.shared.shared) place ask.state.clock (meant w.shared.shared place q) deed v' v'.meeting

      -- the output then
      pub output_after : (moment K limit (st.moves + 1)).shared.shared.output ≡ w.shared.shared.output ++ printed_by (meant w.shared.shared place q)
      output_after =
          ap (λ (x : World (Clocked K.State) (Rest K.State)). x.shared.shared.output) next_moment
          ∙ act_prints w.shared.shared place ask.state.clock (meant w.shared.shared place q) (meant w.shared.shared place q)

      -- at the clock limit it ends the run
      pub ends_exhausted : q ≡ Exhausted → v'.ending ≡ Some RanOut
      ends_exhausted is_last =
          (done w.shared.shared st.world.shared).1.ending
          ∙ ap (λ (p : Request). (act w.shared.shared place ask.state.clock p p).shared.ending) (ap (meant w.shared.shared place) is_last ∙ still_exhausted w.shared.shared place)

      -- how the run has ended then
      pub ends_after : (e : Ending) → v'.ending ≡ Some e → end_of (moment K limit (st.moves + 1)) ≡ Some e
      ends_after e h =
          ap (λ (x : World (Clocked K.State) (Rest K.State)). end_of x) next_moment
          ∙ ap (λ (o : Option Ending). cond (is_some o) o (cond (is_deserted (map is_some (after K held limit w place ask.state d).awake)) (Some Deadlock) None)) (sym (done w.shared.shared st.world.shared).1.ending ∙ h)

      -- all of it is written
      pub goes_after : (written : Option (List ℕ)) (new : List (Option (Goroutine S))) (later : ℕ) → later ≡ clock + 1 → Appends now written (printed deed) → Applies K held later place ask.state deed old new → Goes K held limit seen written new v' v'.ending
      goes_after written new later one a applies = go v'.ending refl
        where
          all : Appends seen written (moment K limit (st.moves + 1)).shared.shared.output
          all = subst (Appends seen written) (sym output_is) (appends_more seen now written w.shared.shared.output (printed deed) st.written a)

          go : (o : Option Ending) → v'.ending ≡ o → Goes K held limit seen written new v' o
          go (Some e) h = (st.moves + 1, all, ends_after e h)
          go None h = record { moves = st.moves + 1; world = went new later one applies; written = all; goes_on = h }

  -- ---- the beginning

  pub opened_world : (places : List (Option (Goroutine S))) → IsOpen K held places → IsWorldOf K held (opening K) places opened
  opened_world places start =
      let g : Goroutine S = start.0 in
      subst (λ (x : List (Option (Goroutine S))). IsWorldOf K held (opening K) x opened) (sym start.3) (record {
        awake = ap (λ (x : Option (Clocked K.State)). None ∷ x ∷ []) (awake_is held g start.2 ∙ ap (λ (s : Clocked K.State). Some s) start.1);
        beds = tt;
        shared = record { asleep = refl; channels = refl; live = refl; made = refl; events = refl; ending = refl };
        once = tt;
      })

  pub opened_stands : (seen : Option (List ℕ)) (places : List (Option (Goroutine S))) (v : SharedValue) → IsOpen K held places → v ≡ opened → Stands K held limit seen seen places v
  opened_stands seen places v start is =
      subst (λ (x : SharedValue). Stands K held limit seen seen places x) (sym is) (record {
        moves = 0;
        world = opened_world places start;
        written = appends_none seen;
        goes_on = refl;
      })

  pub opened_first : (places : List (Option (Goroutine S))) (v : SharedValue) → IsOpen K held places → v ≡ opened → IsWorldOf K held (moment K limit 0) places v
  opened_first places v start is = subst (λ (x : SharedValue). IsWorldOf K held (moment K limit 0) places x) (sym is) (opened_world places start)

  -- ---- how long a run lasts

  -- a run whose goroutines have a turn after m moves has not ended by then
  pub one_more_lasts : (m : ℕ) (places : List (Option (Goroutine S))) (v : SharedValue) → IsWorldOf K held (moment K limit m) places v → v.ending ≡ None
      → (turn : Key) → least (keys clock_of 0 places) ≡ Some turn → ((n : ℕ) → n < m → end_of (moment K limit n) ≡ None) → (n : ℕ) → n < m + 1 → end_of (moment K limit n) ≡ None
  one_more_lasts m places v world going turn is before n less = go (below_or_not n m)
    where
      go : (n < m) ⊎ (m ≤ n) → end_of (moment K limit n) ≡ None
      go (inl below) = before n below
      go (inr above) =
          let same : n ≡ m = omega (arith, less, above) in
          subst (λ k. end_of (moment K limit k) ≡ None) (sym same) (runs_on None None places v (at_moment m places v world going) turn is)
