-- Goroutines in memory, goroutine n at index n, and how they change.
use Rattle.std.specs.Prelude.{◌≡◌, ◌≢◌, ◌≤◌, ℕ, ◌+◌, true, cond, List, [], ◌∷◌, length, map, Option, Some, None, option_map, slice_index_or, slice_set}
use Rattle.std.specs.List.{All}
use Rattle.logical_clock.specs.declared.key.Key.{Key}
use Rattle.turn_rule.specs.Turns.{move_at}
use Rattle.word.specs.Values.{Reply, Exhausted}
use Rattle.word.specs.Kinds.{Clocked, GoroutineKind, asks, local, told}
use Rattle.word.specs.Views.{request_of}
use Rattle.word.specs.Worlds.{Rest, rules}
use Rattle.one_thread.specs.declared.goroutine.Goroutine.{Goroutine}
use Rattle.one_thread.specs.declared.goroutine.Turn.{Turn}
use Rattle.one_thread.specs.declared.goroutine.Turn.TheVariants as turns

-- the goroutine's clock, if it is awake
abbrev pub clock_of : {S : Type 0} → Option (Goroutine S) → Option ℕ
clock_of None = None
clock_of (Some g) = cond g.asleep None (Some g.clock)

-- the key of the goroutine at index n, if it is awake
abbrev pub key_of : {S : Type 0} → ℕ → Option (Goroutine S) → Option Key
key_of n place = option_map (λ (c : ℕ). record { clock = c; number = n }) (clock_of place)

-- slot n has the key of the goroutine at index n, if it is awake
pub record AreKeyed {S : Type 0} (places : List (Option (Goroutine S))) (slots : List (Option Key)) : Type 0 where
  pub size : length slots ≡ length places
  pub keys : (n : ℕ) → slice_index_or slots n None ≡ key_of n (slice_index_or places n None)

-- no clock is beyond the limit
abbrev pub IsWithin : {S : Type 0} → ℕ → Option (Goroutine S) → Type 0
IsWithin limit None = Unit {0}
IsWithin limit (Some g) = g.clock ≤ limit

abbrev pub AreWithin : {S : Type 0} → ℕ → List (Option (Goroutine S)) → Type 0
AreWithin limit places = All (IsWithin limit) places

-- nor is that of a goroutine that goes on after its request
abbrev pub IsSoon : ℕ → Turn → Type 0
IsSoon limit turns.Slid = Unit {0}
IsSoon limit turns.Ticked = Unit {0}
IsSoon limit (turns.Asks request clock) = clock + 1 ≤ limit
IsSoon limit turns.Exhausted = Unit {0}

-- the `view` of what is at index n
abbrev pub here : {A B : Type 0} → (Option A → Option B) → List (Option A) → ℕ → Option B
here view places n = view (slice_index_or places n None)

module _ {S H : Type 0} (held : S → H) where
  abbrev pub clocked : Goroutine S → Clocked H
  clocked g = record { clock = g.clock; doomed = g.doomed; state = held g.state }

  -- the goroutine, if it is awake
  abbrev pub awake_of : Option (Goroutine S) → Option (Clocked H)
  awake_of None = None
  awake_of (Some g) = cond g.asleep None (Some (clocked g))

  -- the goroutine, if it is asleep
  abbrev pub bed_of : Option (Goroutine S) → Option (Clocked H)
  bed_of None = None
  bed_of (Some g) = cond g.asleep (Some (clocked g)) None

  abbrev pub awake_in : List (Option (Goroutine S)) → List (Option (Clocked H))
  awake_in places = map awake_of places

  abbrev pub bed_at : List (Option (Goroutine S)) → ℕ → Option (Clocked H)
  bed_at places n = here bed_of places n

  -- the goroutine at index n is now `up` if it is awake, `down` if it is asleep; the others don't change
  pub record Sets (old new : List (Option (Goroutine S))) (n : ℕ) (up down : Option (Clocked H)) : Type 0 where
    pub awake : awake_in new ≡ slice_set (awake_in old) n up
    pub bed : bed_at new n ≡ down
    pub others : (k : ℕ) → k ≢ n → bed_at new k ≡ bed_at old k

  -- no goroutine fell asleep, or was woken
  abbrev pub SleepOn : List (Option (Goroutine S)) → List (Option (Goroutine S)) → Type 0
  SleepOn old new = (k : ℕ) → bed_at new k ≡ bed_at old k

-- a goroutine that was woken gets this reply, and goes on at this clock
abbrev pub woken_to : (K : GoroutineKind) → ℕ → Reply → Option (Clocked K.State) → Option (Clocked K.State)
woken_to K clock reply bed = option_map (λ (s : Clocked K.State). told K s clock reply) bed

module _ {S : Type 0} (K : GoroutineKind) (held : S → K.State) where
  -- these are woken, one after the other
  abbrev pub Wakes : ℕ → List (Option (Goroutine S)) → List (ℕ × Reply) → List (Option (Goroutine S)) → Type 0
  Wakes clock old [] new = new ≡ old
  Wakes clock old (w ∷ ws) new =
      (mid : List (Option (Goroutine S))) × Sets held old mid w.0 (woken_to K clock w.1 (bed_at held old w.0)) None × Wakes clock mid ws new

  -- goroutine n is awake, and makes a request
  pub record IsAt (limit : ℕ) (places : List (Option (Goroutine S))) (n : ℕ) (s : Clocked K.State) : Type 0 where
    pub here : here (awake_of held) places n ≡ Some s
    pub asks : local K limit s ≡ None

  -- the goroutine at index n, if it is awake, makes its local step
  abbrev pub StepsAt : ℕ → List (Option (Goroutine S)) → ℕ → List (Option (Goroutine S)) → Type 0
  StepsAt limit old n new =
      ((w : Rest K.State) → move_at (rules K limit) (record { awake = awake_in held old; shared = w }) n (here (awake_of held) old n) ≡ record { awake = awake_in held new; shared = w }) × SleepOn held old new

  -- the goroutine at index n, if it is awake, makes its local step, or has none and makes a request
  abbrev pub AdvancesAt : ℕ → Turn → List (Option (Goroutine S)) → ℕ → List (Option (Goroutine S)) → Type 0
  AdvancesAt limit turns.Slid old n new = StepsAt limit old n new
  AdvancesAt limit turns.Ticked old n new = StepsAt limit old n new
  AdvancesAt limit (turns.Asks request clock) old n new =
      (s : Clocked K.State) × IsAt limit old n s × (asks K limit s ≡ Some (request_of request)) × (clock ≡ s.clock) × (awake_in held new ≡ awake_in held old) × SleepOn held old new
  AdvancesAt limit turns.Exhausted old n new = (s : Clocked K.State) × IsAt limit old n s × (asks K limit s ≡ Some Exhausted)

-- whatever their states mean: the goroutine at index n, if it was awake, has fallen asleep
abbrev pub IsLaid : {S : Type 0} → List (Option (Goroutine S)) → ℕ → List (Option (Goroutine S)) → Type 0
IsLaid {S} old n new = (g : Goroutine S) → slice_index_or old n None ≡ Some g → new ≡ slice_set old n (Some (record g { asleep = true }))
