-- A run that is made event after event.
use Rattle.std.proofs.Common.{◌≡◌, ℕ, ◌+◌, Bool, true, false, cond, List, [], ◌∷◌, ◌++◌, Option, Some, None, refl, sym, ap, ◌∙◌, subst}
use Rattle.std.specs.Prelude.{option_map, slice_index_or}
use Rattle.std.proofs.lemmas.Option.{same_Some}
use Rattle.logical_clock.specs.declared.key.Key.{Key}
use Rattle.logical_clock.specs.Order.{keys, least}
use Rattle.logical_clock.proofs.Keys.{IsNext, next_is}
use Rattle.reference_world.specs.Deeds.{Performs, SharedValue, opened}
use Rattle.reference_world.specs.Events.{event_by, meant_after}
use Rattle.reference_world.specs.declared.deed.Deed.{Deed as Did}
use Rattle.turn_rule.specs.Turns.{World}
use Rattle.word.specs.declared.end.End.{End as Ending}
use Rattle.word.specs.declared.end.End.TheVariants.{Finished, Panicked, Deadlock, Exhausted as RanOut}
use Rattle.word.specs.declared.request.Request.{Request as Asked}
use Rattle.word.specs.Requests.{meant}
use Rattle.word.specs.Values.{Event, Exhausted, Request}
use Rattle.word.specs.Kinds.{Clocked, GoroutineKind}
use Rattle.word.specs.declared.request.Event.{Event as Recorded}
use Rattle.word.specs.Views.{event_of, request_of}
use Rattle.word.specs.Worlds.{Rest, moment}
use Rattle.one_thread.specs.declared.goroutine.Goroutine.{Goroutine}
use Rattle.one_thread.specs.declared.goroutine.Turn.TheVariants as turns
use Rattle.one_thread.specs.Histories.{Adds, HasEnded, HasHistory, HasHad, HasHadTo, IsLastWorld, IsReady, OpenValue, printed_by}
use Rattle.one_thread.specs.Places.{AdvancesAt, StepsAt, awake_of, clock_of, clocked, here}
use Rattle.one_thread.specs.Worlds.{Applies, IsAsked, IsOpen, IsWorldOf, Stands}
use Rattle.one_thread.proofs.Moves.{asked_world, asks_on, ends, ends_after, ends_exhausted, events_after, opened_world, output_after, stepped_to, stepped_world, went}

module _ {S H : Type 0} (held : S → H) where
  awake_clock : (x : Option (Goroutine S)) (s : Clocked H) → awake_of held x ≡ Some s → clock_of x ≡ Some s.clock
  awake_clock None s e = cc
  awake_clock (Some g) s e = go g.asleep e
    where
      go : (b : Bool) → cond b None (Some (clocked held g)) ≡ Some s → cond b None (Some g.clock) ≡ Some s.clock
      go true e' = cc
      go false e' = ap (option_map (λ (t : Clocked H). t.clock)) e'

  -- the clock of the goroutine that moves next
  turn_clock : (places : List (Option (Goroutine S))) (turn : Key) (s : Clocked H) → least (keys clock_of 0 places) ≡ Some turn → here (awake_of held) places turn.number ≡ Some s → s.clock ≡ turn.clock
  turn_clock places turn s is up =
      let first : IsNext clock_of None places (Some turn) = rw is at (next_is clock_of None refl places) in
      same_Some s.clock turn.clock (sym (awake_clock (slice_index_or places turn.number None) s up) ∙ first.0)

module _ {S : Type 0} (K : GoroutineKind) (held : S → K.State) (limit : ℕ) where
  abbrev Places : Type 0
  Places = List (Option (Goroutine S))

  pub opened_history : (places : Places) (v : SharedValue) → IsOpen K held places → v ≡ opened → HasHistory K held limit places v [] []
  opened_history places v start is =
      subst (λ (x : SharedValue). HasHistory K held limit places x [] []) (sym is) (record { moves = 0; world = opened_world K held limit places start; events = refl; output = refl })

  -- the world in which a run has ended so
  last_world : (end : Ending) (w : World (Clocked K.State) (Rest K.State)) (places : Places) (v : SharedValue) → IsWorldOf K held w places v → IsLastWorld K held end w places v
  last_world RanOut w places v world = tt
  last_world Finished w places v world = world
  last_world Deadlock w places v world = world
  last_world (Panicked cause) w places v world = world

  module _ (old : Places) (v : SharedValue) (events : List Event) (output : List ℕ) (h : HasHistory K held limit old v events output) (going : v.ending ≡ None) where
    abbrev st : Stands K held limit None None old v
    st = record { moves = h.moves; world = h.world; written = tt; goes_on = going }

    abbrev w : World (Clocked K.State) (Rest K.State)
    w = moment K limit h.moves

    -- no goroutine is awake
    pub deserted_history : least (keys clock_of 0 old) ≡ None → HasEnded K held limit old v events output Deadlock
    deserted_history none = record { moves = h.moves; world = h.world; events = h.events; output = h.output; end = ends K held limit None None old v st none }

    -- a local step
    pub stepped_history : (turn : Key) (new : Places) → least (keys clock_of 0 old) ≡ Some turn → StepsAt K held limit old turn.number new → HasHistory K held limit new v events output
    stepped_history turn new is step = let to = stepped_to K held limit None None old v st turn turn.number new is refl step in record {
      moves = h.moves + 1;
      world = stepped_world K held limit None None old v st turn turn.number new is refl step;
      events = ap (λ (x : World (Clocked K.State) (Rest K.State)). x.shared.shared.events) to ∙ h.events;
      output = ap (λ (x : World (Clocked K.State) (Rest K.State)). x.shared.shared.output) to ∙ h.output;
    }

    -- whoever has the turn asks
    pub asked_history : (turn : Key) (clock : ℕ) (request : Asked) (new : Places) → least (keys clock_of 0 old) ≡ Some turn → AdvancesAt K held limit (turns.Asks request clock) old turn.number new
        → HasHistory K held limit new v events output × IsAsked K held limit new turn.number clock (request_of request)
    asked_history turn clock request new is ask = (
      record { moves = h.moves; world = asked_world K held limit None None old v st new ask.4 ask.5; events = h.events; output = h.output },
      (asks_on K held limit None None old v st turn turn.number clock request new is refl ask).1,
    )

    module _ (place clock : ℕ) (q : Request) (deed : Did) (v' : SharedValue) (ask : IsAsked K held limit old place clock q) (does : Performs v place clock q deed v') (e : Event) (is : e ≡ event_by place clock (meant_after v.events place q) v'.made deed) where
      same_event : event_by place ask.state.clock (meant w.shared.shared place q) v'.made deed ≡ e
      same_event =
          ap (λ (c : ℕ). event_by place c (meant w.shared.shared place q) v'.made deed) (sym ask.at_clock)
          ∙ ap (λ (k : ℕ). event_by place clock (meant_after k place q) v'.made deed) (sym h.world.shared.events)
          ∙ sym is

      events_then : (moment K limit (h.moves + 1)).shared.shared.events ≡ events ++ e ∷ []
      events_then =
          events_after K held limit None None old v st place clock q deed v' ask does
          ∙ ap (λ (x : Event). w.shared.shared.events ++ x ∷ []) same_event
          ∙ ap (λ (es : List Event). es ++ e ∷ []) h.events

      output_then : (moment K limit (h.moves + 1)).shared.shared.output ≡ output ++ printed_by e.request
      output_then =
          output_after K held limit None None old v st place clock q deed v' ask does
          ∙ ap (λ (x : Event). w.shared.shared.output ++ printed_by x.request) same_event
          ∙ ap (λ (bytes : List ℕ). bytes ++ printed_by e.request) h.output

      -- at the clock limit
      pub exhausted_history : q ≡ Exhausted → (new : Places) → HasEnded K held limit new v' (events ++ e ∷ []) (output ++ printed_by e.request) RanOut
      exhausted_history last new = record {
        moves = h.moves + 1;
        world = tt;
        events = events_then;
        output = output_then;
        end = ends_after K held limit None None old v st place clock q deed v' ask does RanOut (ends_exhausted K held limit None None old v st place clock q deed v' ask does last);
      }

      -- a request is performed
      pub performed_history : (new : Places) (later : ℕ) → later ≡ clock + 1 → ((s : Clocked K.State) → here (awake_of held) old place ≡ Some s → Applies K held later place s deed old new)
          → (end : Option Ending) → end ≡ v'.ending → HasHadTo K held end (record { places = new; shared = v'; limit = limit; end = end }) (events ++ e ∷ []) (output ++ printed_by e.request)
      performed_history new later one applies end same = go end same
        where
          world : IsWorldOf K held (moment K limit (h.moves + 1)) new v'
          world = went K held limit None None old v st place clock q deed v' ask does new later one (applies ask.state ask.at.here)

          go : (o : Option Ending) → o ≡ v'.ending → HasHadTo K held o (record { places = new; shared = v'; limit = limit; end = o }) (events ++ e ∷ []) (output ++ printed_by e.request)
          go None h' = record { moves = h.moves + 1; world = world; events = events_then; output = output_then }
          go (Some x) h' = record {
            moves = h.moves + 1;
            world = last_world x (moment K limit (h.moves + 1)) new v' world;
            events = events_then;
            output = output_then;
            end = ends_after K held limit None None old v st place clock q deed v' ask does x (sym h');
          }

  -- the goroutine that has the turn is at the clock limit
  pub exhausted_asks : (old new : Places) (turn : Key) → least (keys clock_of 0 old) ≡ Some turn → AdvancesAt K held limit turns.Exhausted old turn.number new → IsAsked K held limit old turn.number turn.clock Exhausted
  exhausted_asks old new turn is ask = record {
    state = ask.0;
    at = ask.1;
    what = ask.2;
    at_clock = sym (turn_clock held old turn ask.0 is ask.1.here);
    key = turn;
    turn = is;
    number = refl;
  }

  -- the goroutine that makes a request, at which clock
  pub asked_clock : (old new : Places) (turn : Key) (clock : ℕ) (request : Asked) → least (keys clock_of 0 old) ≡ Some turn → AdvancesAt K held limit (turns.Asks request clock) old turn.number new → clock ≡ turn.clock
  asked_clock old new turn clock request is ask = ask.3 ∙ turn_clock held old turn ask.0 is ask.1.here

-- ---- what was added to a run

module _ {S : Type 0} (K : GoroutineKind) (held : S → K.State) where
  pub going_on : (run : OpenValue S) (events : List Event) (output : List ℕ) → run.end ≡ None → HasHad K held run events output → HasHistory K held run.limit run.places run.shared events output
  going_on run events output goes h = subst (λ (o : Option Ending). HasHadTo K held o run events output) goes h

  gone_on : (run : OpenValue S) (events : List Event) (output : List ℕ) → run.end ≡ None → HasHistory K held run.limit run.places run.shared events output → HasHad K held run events output
  gone_on run events output goes h = subst (λ (o : Option Ending). HasHadTo K held o run events output) (sym goes) h

  -- after moves that were no events
  pub adds_after : (first old new : OpenValue S) (found : Option Recorded) → Adds K held first None old → Adds K held old found new → Adds K held first found new
  adds_after first old new found none more = λ events output h. more events output (none events output h)

  module _ (old : OpenValue S) (goes : old.end ≡ None) (ready : IsReady old) where
    -- no goroutine is awake
    pub deserted_adds : least (keys clock_of 0 old.places) ≡ None → Adds K held old None (record old { end = Some Deadlock })
    deserted_adds none = λ events output h. deserted_history K held old.limit old.places old.shared events output (going_on old events output goes h) (ready.going goes) none

    module _ (turn : Key) (is : least (keys clock_of 0 old.places) ≡ Some turn) (new : List (Option (Goroutine S))) where
      -- a local step
      pub stepped_adds : StepsAt K held old.limit old.places turn.number new → Adds K held old None (record old { places = new })
      stepped_adds step = λ events output h.
          gone_on (record old { places = new }) events output goes (stepped_history K held old.limit old.places old.shared events output (going_on old events output goes h) (ready.going goes) turn new is step)

      -- the clock limit
      pub exhausted_adds : AdvancesAt K held old.limit turns.Exhausted old.places turn.number new → (request : Request) → request ≡ Exhausted → (deed : Did) (v' : SharedValue) → Performs old.shared turn.number turn.clock request deed v'
          → (e : Recorded) → event_of e ≡ event_by turn.number turn.clock (meant_after old.shared.events turn.number request) v'.made deed
          → Adds K held old (Some e) (record { places = new; shared = v'; limit = old.limit; end = Some RanOut })
      exhausted_adds at_limit request same deed v' does e by = λ events output h.
          exhausted_history K held old.limit old.places old.shared events output (going_on old events output goes h) (ready.going goes) turn.number turn.clock request deed v'
          (subst (λ (q : Request). IsAsked K held old.limit old.places turn.number turn.clock q) (sym same) (exhausted_asks K held old.limit old.places new turn is at_limit)) does (event_of e) by same new

      -- the goroutine that has the turn makes a request, before its request is performed
      pub asked_adds : (clock : ℕ) (request : Asked) → AdvancesAt K held old.limit (turns.Asks request clock) old.places turn.number new → (found : Option Recorded) (then : OpenValue S)
          → (IsAsked K held old.limit new turn.number clock (request_of request) → Adds K held (record old { places = new }) found then) → Adds K held old found then
      asked_adds clock request ask found then more = λ events output h.
          let both = asked_history K held old.limit old.places old.shared events output (going_on old events output goes h) (ready.going goes) turn clock request new is ask in
          more both.1 events output (gone_on (record old { places = new }) events output goes both.0)

    -- a request is performed
    pub performed_adds : (place clock : ℕ) (q : Request) (deed : Did) (v' : SharedValue) → Performs old.shared place clock q deed v' → (e : Recorded) → event_of e ≡ event_by place clock (meant_after old.shared.events place q) v'.made deed
        → (new : List (Option (Goroutine S))) (later : ℕ) → later ≡ clock + 1 → ((s : Clocked K.State) → here (awake_of held) old.places place ≡ Some s → Applies K held later place s deed old.places new)
        → (end : Option Ending) → end ≡ v'.ending → IsAsked K held old.limit old.places place clock q → Adds K held old (Some e) (record { places = new; shared = v'; limit = old.limit; end = end })
    performed_adds place clock q deed v' does e by new later one applies end same ask = λ events output h.
        performed_history K held old.limit old.places old.shared events output (going_on old events output goes h) (ready.going goes) place clock q deed v' ask does (event_of e) by new later one applies end same
