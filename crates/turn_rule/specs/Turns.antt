-- Worlds of goroutines, for any kind of state, and the run that always moves the awake goroutine of least key.
use Rattle.std.specs.Prelude.{◌≡◌, ℕ, zero, suc, Bool, cond, List, [], ◌∷◌, ◌++◌, map, Option, Some, None, unwrap_or, option_map, slice_index_or, slice_set}
use Rattle.logical_clock.specs.declared.key.Key.{Key}
use Rattle.logical_clock.specs.Order.{least, keys}

-- what a request does: the goroutines whose state it changes (None: asleep or ended), those that it starts, and what all share
pub record Effect (S W : Type 0) : Type 0 where
  pub changes : List (ℕ × Option S)
  pub started : List S
  pub shared : W

-- rules of goroutine states S, and of the state that they share, W
pub record Rules (S W : Type 0) : Type 0 where
  pub clock : S → ℕ
  pub local : S → Option S
  pub asks : S → Bool
  pub perform : W → ℕ → S → Effect S W
  pub is_over : W → Bool

-- goroutine n, if it is awake, is at index n; index 0 is never used
pub record World (S W : Type 0) : Type 0 where
  pub awake : List (Option S)
  pub shared : W

module _ {S W : Type 0} (r : Rules S W) where
  -- one local step, if there is one
  abbrev pub stepped : S → S
  stepped s = unwrap_or (r.local s) s

  abbrev pub moved : ℕ → S → S
  moved zero s = s
  moved (suc n) s = moved n (stepped s)

  abbrev pub Leads : S → S → Type 0
  Leads s t = (n : ℕ) × (moved n s ≡ t)

  -- the awake goroutine of least key
  abbrev pub next : List (Option S) → Option Key
  next ss = least (keys (option_map r.clock) 0 ss)

  abbrev pub changed : List (Option S) → List (ℕ × Option S) → List (Option S)
  changed ss [] = ss
  changed ss (c ∷ cs) = changed (slice_set ss c.0 c.1) cs

  abbrev pub perform : World S W → ℕ → S → World S W
  perform w n s =
      let e = r.perform w.shared n s in
      record { awake = changed w.awake e.changes ++ map Some e.started; shared = e.shared }

  abbrev pub move_on : World S W → ℕ → S → Option S → World S W
  move_on w n s (Some t) = record w { awake = slice_set w.awake n (Some t) }
  move_on w n s None = cond (r.asks s) (perform w n s) w

  abbrev pub move_at : World S W → ℕ → Option S → World S W
  move_at w n None = w
  move_at w n (Some s) = move_on w n s (r.local s)

  abbrev pub move_next : World S W → Option Key → World S W
  move_next w None = w
  move_next w (Some k) = move_at w k.number (slice_index_or w.awake k.number None)

  -- one move of the one-thread run; after an end there is none
  abbrev pub one : World S W → World S W
  one w = cond (r.is_over w.shared) w (move_next w (next w.awake))

  -- n moves
  abbrev pub run : ℕ → World S W → World S W
  run zero w = w
  run (suc n) w = run n (one w)
