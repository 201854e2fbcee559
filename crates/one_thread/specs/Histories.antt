-- A run that is made event after event.
use Rattle.std.specs.Prelude.{◌≡◌, ℕ, ◌+◌, ◌≤◌, ◌^◌, List, [], ◌∷◌, ◌++◌, MatchOption, Option, Some, None}
use Rattle.reference_world.specs.Deeds.{SharedValue}
use Rattle.turn_rule.specs.Turns.{World}
use Rattle.word.specs.declared.end.End.{End as Ending}
use Rattle.word.specs.declared.end.End.TheVariants.{Finished, Panicked, Deadlock, Exhausted}
use Rattle.word.specs.declared.request.Event.{Event as Recorded}
use Rattle.word.specs.Values.{Event, Request, Print}
use Rattle.word.specs.Views.{event_of}
use Rattle.word.specs.Kinds.{Clocked, GoroutineKind}
use Rattle.word.specs.Worlds.{Rest, end_of, moment}
use Rattle.one_thread.specs.declared.goroutine.Goroutine.{Goroutine}
use Rattle.one_thread.specs.Places.{AreWithin}
use Rattle.one_thread.specs.Worlds.{IsWorldOf}

-- the goroutines, what they share, the clock limit, and how the run has ended, if it has
pub record OpenValue (S : Type 0) : Type 0 where
  pub places : List (Option (Goroutine S))
  pub shared : SharedValue
  pub limit : ℕ
  pub end : Option Ending

-- the bytes that a request prints
abbrev pub printed_by : Request → List ℕ
printed_by (Print bytes) = bytes
printed_by request = []

-- the run can go on, unless it has ended
pub record IsReady {S : Type 0} (run : OpenValue S) : Type 0 where
  pub limit : run.limit ≤ 2 ^ 62
  pub going : run.end ≡ None → run.shared.ending ≡ None
  pub within : run.end ≡ None → AreWithin run.limit run.places

-- there was no event, or one at this clock
abbrev pub Counts : (clock : ℕ) → SharedValue → Option Recorded → SharedValue → Type 0
Counts clock old None new = new.events ≡ old.events
Counts clock old (Some event) new = (new.events ≡ old.events + 1) × (event.clock ≡ clock)

module _ {S : Type 0} (K : GoroutineKind) (held : S → K.State) where
  -- the goroutines and what they share are those of the run's world after some moves; `seen` and `printed` are its events and output
  pub record HasHistory (limit : ℕ) (places : List (Option (Goroutine S))) (v : SharedValue) (seen : List Event) (printed : List ℕ) : Type 0 where
    pub moves : ℕ
    pub world : IsWorldOf K held (moment K limit moves) places v
    pub events : (moment K limit moves).shared.shared.events ≡ seen
    pub output : (moment K limit moves).shared.shared.output ≡ printed

  -- the goroutines and what they share are those of the world in which a run has ended so; nothing is said of one whose time is exhausted
  abbrev pub IsLastWorld : Ending → World (Clocked K.State) (Rest K.State) → List (Option (Goroutine S)) → SharedValue → Type 0
  IsLastWorld Exhausted w places v = Unit {0}
  IsLastWorld Finished w places v = IsWorldOf K held w places v
  IsLastWorld Deadlock w places v = IsWorldOf K held w places v
  IsLastWorld (Panicked cause) w places v = IsWorldOf K held w places v

  -- `seen` are all of the run's events, `printed` is its whole output, and it ends as `ending`
  pub record HasEnded (limit : ℕ) (places : List (Option (Goroutine S))) (v : SharedValue) (seen : List Event) (printed : List ℕ) (ending : Ending) : Type 0 where
    pub moves : ℕ
    pub world : IsLastWorld ending (moment K limit moves) places v
    pub events : (moment K limit moves).shared.shared.events ≡ seen
    pub output : (moment K limit moves).shared.shared.output ≡ printed
    pub end : end_of (moment K limit moves) ≡ Some ending

  abbrev pub HasHadTo : Option Ending → OpenValue S → List Event → List ℕ → Type 0
  HasHadTo None run events output = HasHistory run.limit run.places run.shared events output
  HasHadTo (Some end) run events output = HasEnded run.limit run.places run.shared events output end

  -- the run has had these events, which printed this output; if it has ended, it has no others
  abbrev pub HasHad : OpenValue S → List Event → List ℕ → Type 0
  HasHad run events output = HasHadTo run.end run events output

  -- it has had this event more, or none
  abbrev pub Adds : OpenValue S → Option Recorded → OpenValue S → Type 0
  Adds old found new = (events : List Event) (output : List ℕ) → HasHad old events output
      → MatchOption found (HasHad new events output) (λ event. HasHad new (events ++ event_of event ∷ []) (output ++ printed_by (event_of event).request))
