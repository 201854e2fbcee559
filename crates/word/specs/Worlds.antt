-- Worlds over any kind of state, and two kinds that nobody can distinguish.
use Rattle.std.specs.Prelude.{◌≡◌, ℕ, ◌+◌, ◌==◌, ◌&&◌, not, Bool, true, cond, List, [], ◌∷◌, map, Option, Some, None, option_map}
use Rattle.std.specs.Option.{is_some}
use Rattle.turn_rule.specs.Turns.{Effect, Rules, World, run}
use Rattle.word.specs.Values.{Word, Request, Reply, Ending, Deadlock, Shared}
use Rattle.word.specs.Kinds.{GoroutineKind, Clocked, at, local, asks, told}
use Rattle.word.specs.Requests.{Fate, GoesOn, Dozes, Leaves, Stays, Deed, no_channel, perform}

pub record Bed (A : Type 0) : Type 0 where
  pub number : ℕ
  pub state : Clocked A

-- apart from the awake: what all share, and the states in which goroutines fell asleep, newest first
pub record Rest (A : Type 0) : Type 0 where
  pub shared : Shared
  pub beds : List (Bed A)

abbrev pub in_bed : {A : Type 0} → ℕ → List (Bed A) → Option (Clocked A)
in_bed n [] = None
in_bed n (b ∷ bs) = cond (b.number == n) (Some b.state) (in_bed n bs)

module _ (K : GoroutineKind) (limit : ℕ) where
  abbrev pub actor_after : ℕ → Clocked K.State → Fate → Option (Clocked K.State)
  actor_after clock s (GoesOn reply) = Some (told K s clock reply)
  actor_after clock s Dozes = None
  actor_after clock s Leaves = None
  actor_after clock s Stays = Some s

  abbrev pub beds_after : List (Bed K.State) → ℕ → Clocked K.State → Fate → List (Bed K.State)
  beds_after beds n s Dozes = record { number = n; state = s } ∷ beds
  beds_after beds n s (GoesOn reply) = beds
  beds_after beds n s Leaves = beds
  beds_after beds n s Stays = beds

  abbrev pub woken_by : List (Bed K.State) → ℕ → List (ℕ × Reply) → List (ℕ × Option (Clocked K.State))
  woken_by beds clock [] = []
  woken_by beds clock (x ∷ xs) = (x.0, option_map (λ (t : Clocked K.State). told K t clock x.1) (in_bed x.0 beds)) ∷ woken_by beds clock xs

  abbrev pub begun_at : ℕ → List (ℕ × List Word) → List (Clocked K.State)
  begun_at clock [] = []
  begun_at clock (x ∷ xs) = at clock (K.begin x.0 x.1) ∷ begun_at clock xs

  -- the goroutines that go on, are woken or are started are at this clock
  abbrev pub effect : Rest K.State → ℕ → ℕ → Clocked K.State → Deed → Effect (Clocked K.State) (Rest K.State)
  effect w n clock s d = record {
    changes = (n, actor_after clock s d.fate) ∷ woken_by w.beds clock d.woken;
    started = begun_at clock d.started;
    shared = record { shared = d.shared; beds = beds_after w.beds n s d.fate };
  }

  abbrev pub performs : Rest K.State → ℕ → Clocked K.State → Option Request → Effect (Clocked K.State) (Rest K.State)
  performs w n s None = record { changes = []; started = []; shared = w }
  performs w n s (Some q) = effect w n (s.clock + 1) s (perform w.shared n s.clock q)

  abbrev pub rules : Rules (Clocked K.State) (Rest K.State)
  rules = record {
    clock = λ s. s.clock;
    local = local K limit;
    asks = λ s. is_some (asks K limit s);
    perform = λ w n s. performs w n s (asks K limit s);
    is_over = λ w. is_some w.shared.ending;
  }

-- goroutine 1 alone, at main
abbrev pub opening : (K : GoroutineKind) → World (Clocked K.State) (Rest K.State)
opening K = record {
  awake = None ∷ Some (at 0 (K.begin K.main [])) ∷ [];
  shared = record { shared = record { asleep = []; channels = no_channel ∷ []; output = []; live = 1; made = 1; events = []; ending = None }; beds = [] };
}

-- the world after n moves of the one-thread run
abbrev pub moment : (K : GoroutineKind) → ℕ → ℕ → World (Clocked K.State) (Rest K.State)
moment K limit n = run (rules K limit) n (opening K)

abbrev pub is_deserted : List Bool → Bool
is_deserted [] = true
is_deserted (b ∷ bs) = not b && is_deserted bs

-- the end, if the run has one: that of the last event, or Deadlock if nobody is awake
abbrev pub end_by : Shared → List Bool → Option Ending
end_by w awake = cond (is_some w.ending) w.ending (cond (is_deserted awake) (Some Deadlock) None)

abbrev pub end_of : {A : Type 0} → World (Clocked A) (Rest A) → Option Ending
end_of w = end_by w.shared.shared (map is_some w.awake)

-- one sees the same: channels, sleepers with their offers, output, counts, events; and the run ends alike
pub record Same {A B : Type 0} (w : World (Clocked A) (Rest A)) (v : World (Clocked B) (Rest B)) : Type 0 where
  pub shared : w.shared.shared ≡ v.shared.shared
  pub awake : map is_some w.awake ≡ map is_some v.awake
  pub ends : end_of w ≡ end_of v

-- whatever is seen in the one's run is seen in the other's
abbrev pub Follows : GoroutineKind → GoroutineKind → ℕ → Type 0
Follows K M limit = (n : ℕ) → (m : ℕ) × Same (moment K limit n) (moment M limit m)

-- two kinds that nobody can distinguish, at any limit
pub record Equal (K M : GoroutineKind) : Type 0 where
  pub there : (limit : ℕ) → Follows K M limit
  pub back : (limit : ℕ) → Follows M K limit
