-- The world after k events, with each awake goroutine at its request.
use Rattle.std.specs.Prelude.{◌≡◌, ℕ, zero, suc, true, false, length, Option, Some, None, slice_index_or}
use Rattle.logical_clock.specs.declared.key.Key.{Key}
use Rattle.turn_rule.specs.Turns.{Rules, World, Leads, next, one}

module _ {S W : Type 0} (r : Rules S W) where
  abbrev pub RowSettles : Option S → Option S → Type 0
  RowSettles None None = Unit {0}
  RowSettles None (Some t) = ⊥
  RowSettles (Some s) None = ⊥
  RowSettles (Some s) (Some t) = Leads r s t × (r.asks t ≡ true)

  -- each awake goroutine is moved by local steps alone to its request
  pub record Settles (w v : World S W) : Type 0 where
    pub shared : w.shared ≡ v.shared
    pub size : length v.awake ≡ length w.awake
    pub rows : (n : ℕ) → RowSettles (slice_index_or w.awake n None) (slice_index_or v.awake n None)

  -- v is the world after k events of w's run: the request at the least key is served, and all move on to their requests
  abbrev pub After : ℕ → World S W → World S W → Type 0
  After zero w v = Settles w v
  After (suc k) w v = (u : World S W) × After k w u × (r.is_over u.shared ≡ false) × (g : Key) × (next r u.awake ≡ Some g) × Settles (one r u) v
