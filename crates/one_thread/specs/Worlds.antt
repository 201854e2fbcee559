-- Worlds in memory, and what a run has written.
use Rattle.std.specs.Prelude.{◌≡◌, ◌≢◌, ℕ, false, List, [], ◌∷◌, ◌++◌, map, Option, Some, None}
use Rattle.std.specs.Io.KnownBytes.{Appends}
use Rattle.reference_world.specs.Deeds.{IsShownBy, SharedValue}
use Rattle.reference_world.specs.declared.deed.Deed.{Deed}
use Rattle.reference_world.specs.declared.deed.Deed.TheVariants as deeds
use Rattle.logical_clock.specs.declared.key.Key.{Key}
use Rattle.logical_clock.specs.Order.{keys, least}
use Rattle.turn_rule.specs.Turns.{World}
use Rattle.word.specs.Values.{Nothing, Request, Sleeper}
use Rattle.word.specs.declared.end.End.{End as Ending}
use Rattle.word.specs.declared.end.End.TheVariants.{Deadlock}
use Rattle.word.specs.Kinds.{Clocked, GoroutineKind, asks, at, told}
use Rattle.word.specs.Views.{reply_of}
use Rattle.word.specs.Worlds.{Bed, Rest, end_of, in_bed, moment}
use Rattle.whole_run.specs.Runs.{IsWhole}
use Rattle.one_thread.specs.declared.goroutine.Goroutine.{Goroutine}
use Rattle.one_thread.specs.Places.{IsAt, Sets, Wakes, awake_in, bed_at, clock_of, clocked}

-- n is not among these numbers
abbrev pub Misses : ℕ → List ℕ → Type 0
Misses n [] = Unit {0}
Misses n (m ∷ ms) = (m ≢ n) × Misses n ms

abbrev pub Once : List ℕ → Type 0
Once [] = Unit {0}
Once (n ∷ ns) = Misses n ns × Once ns

abbrev pub numbers : List Sleeper → List ℕ
numbers ss = map (λ (s : Sleeper). s.number) ss

module _ {S : Type 0} (K : GoroutineKind) (held : S → K.State) where
  -- the state in `beds` of each sleeper is the one that is kept for it
  abbrev pub LieIn : List (Option (Goroutine S)) → List (Bed K.State) → List Sleeper → Type 0
  LieIn places beds [] = Unit {0}
  LieIn places beds (x ∷ xs) = (in_bed x.number beds ≡ bed_at held places x.number) × LieIn places beds xs

  -- the world is this one, but for its lists of events and bytes; and each of those asleep sleeps once
  pub record IsWorldOf (w : World (Clocked K.State) (Rest K.State)) (places : List (Option (Goroutine S))) (v : SharedValue) : Type 0 where
    pub awake : awake_in held places ≡ w.awake
    pub beds : LieIn places w.shared.beds w.shared.shared.asleep
    pub shared : IsShownBy w.shared.shared v
    pub once : Once (numbers w.shared.shared.asleep)

  -- what was written after the known contents is the output of the run up to this world, which goes on
  pub record Stands (limit : ℕ) (known now : Option (List ℕ)) (places : List (Option (Goroutine S))) (v : SharedValue) : Type 0 where
    pub moves : ℕ
    pub world : IsWorldOf (moment K limit moves) places v
    pub written : Appends known now (moment K limit moves).shared.shared.output
    pub goes_on : v.ending ≡ None

  -- what a deed does to the goroutines: n is the actor's number, s its state, and the goroutines that go on are at this clock
  abbrev pub Applies : ℕ → ℕ → Clocked K.State → Deed → List (Option (Goroutine S)) → List (Option (Goroutine S)) → Type 0
  Applies clock n s (deeds.Done reply woken) old new =
      (mid : List (Option (Goroutine S))) × Sets held old mid n (Some (told K s clock (reply_of reply))) None × Wakes K held clock mid woken.items new
  Applies clock n s (deeds.Prints bytes) old new = Sets held old new n (Some (told K s clock Nothing)) None
  Applies clock n s (deeds.Starts function arguments) old new =
      (mid : List (Option (Goroutine S))) × (g : Goroutine S) × Sets held old mid n (Some (told K s clock Nothing)) None
      × (clocked held g ≡ at clock (K.begin function arguments.items)) × (g.asleep ≡ false) × (new ≡ mid ++ Some g ∷ [])
  Applies clock n s deeds.Sleeps old new = Sets held old new n None (Some s)
  Applies clock n s deeds.Leaves old new = Sets held old new n None None
  Applies clock n s (deeds.Panics cause clause) old new = new ≡ old
  Applies clock n s (deeds.Ends end) old new = new ≡ old

  -- the run goes on, or has ended so
  abbrev pub Goes : ℕ → Option (List ℕ) → Option (List ℕ) → List (Option (Goroutine S)) → SharedValue → Option Ending → Type 0
  Goes limit known now places v None = Stands limit known now places v
  Goes limit known now places v (Some ending) = IsWhole K limit known now ending

  -- if no goroutine has a turn any more, the goroutines are those of a moment at which the run has ended in deadlock
  abbrev pub IsLast : ℕ → Option Key → List (Option (Goroutine S)) → Type 0
  IsLast limit None places = (n : ℕ) × (v : SharedValue) × IsWorldOf (moment K limit n) places v × (end_of (moment K limit n) ≡ Some Deadlock)
  IsLast limit (Some key) places = Unit {0}

  -- the goroutine of least key makes this request at this clock
  pub record IsAsked (limit : ℕ) (places : List (Option (Goroutine S))) (place clock : ℕ) (q : Request) : Type 0 where
    pub state : Clocked K.State
    pub at : IsAt K held limit places place state
    pub what : asks K limit state ≡ Some q
    pub at_clock : clock ≡ state.clock
    pub key : Key
    pub turn : least (keys clock_of 0 places) ≡ Some key
    pub number : key.number ≡ place

-- the bytes that a deed appends to the output
abbrev pub printed : Deed → List ℕ
printed (deeds.Prints bytes) = bytes.items
printed deed = []

-- goroutine 1 alone, at `main`
abbrev pub IsOpen : {S : Type 0} (K : GoroutineKind) → (S → K.State) → List (Option (Goroutine S)) → Type 0
IsOpen {S} K held places = (g : Goroutine S) × (clocked held g ≡ at 0 (K.begin K.main [])) × (g.asleep ≡ false) × (places ≡ None ∷ Some g ∷ [])
