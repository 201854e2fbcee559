-- Goroutines that are lent and run ahead, and requests that are performed in their turn.
use Rattle.std.specs.Prelude.{◌≡◌, ℕ, suc, ◌≤◌, ◌==◌, Bool, true, false, ◌&&◌, ◌||◌, cond, List, [], ◌∷◌, ◌++◌, map, length, Option, Some, None, option_map, slice_index_or, slice_set}
use Rattle.std.specs.Option.{MatchOption}
use Rattle.logical_clock.specs.declared.key.Key.{Key}
use Rattle.turn_rule.specs.declared.Lease.{Lease}
use Rattle.turn_rule.specs.declared.Row.{Row}
use Rattle.turn_rule.specs.declared.Step.{Step}
use Rattle.turn_rule.specs.declared.Step.TheVariants.{Lend, Local, Publish, Look, Return, Settle}
use Rattle.logical_clock.specs.Order.{is_before, least, keys}
use Rattle.turn_rule.specs.Turns.{Rules, World, stepped, moved, run}

pub record Machine (S W : Type 0) : Type 0 where
  pub rows : List (Option (Row S))
  pub shared : W

abbrev pub floor_above : {S : Type 0} → Key → ℕ → Option (Row S) → Bool
floor_above k n None = true
floor_above k n (Some row) = (n == k.number) || is_before k (record { clock = row.floor; number = n })

-- the key is below every other awake goroutine's floor
abbrev pub has_turn : {S : Type 0} → Key → ℕ → List (Option (Row S)) → Bool
has_turn k n [] = true
has_turn k n (row ∷ rows) = floor_above k n row && has_turn k (suc n) rows

module _ {S W : Type 0} (r : Rules S W) where
  abbrev pub row_of : S → Row S
  row_of s = record { state = s; floor = r.clock s; lease = None; parked = false }

  abbrev pub lend : Row S → Option (Lease S) → Row S
  lend row None = cond row.parked row (record row { lease = Some (record { present = row.state; published = r.clock row.state }) })
  lend row (Some l) = row

  abbrev pub local : Row S → Option (Lease S) → Row S
  local row None = row
  local row (Some l) = record row { lease = Some (record l { present = stepped r l.present }) }

  abbrev pub publish : Row S → Option (Lease S) → Row S
  publish row None = row
  publish row (Some l) = record row { lease = Some (record l { published = r.clock l.present }) }

  abbrev pub look : Row S → Option (Lease S) → Row S
  look row None = row
  look row (Some l) = record row { floor = l.published }

  abbrev pub give_back : Row S → Option (Lease S) → Row S
  give_back row None = row
  give_back row (Some l) = record { state = l.present; floor = r.clock l.present; lease = None; parked = r.asks l.present }

  abbrev pub at_row : (Row S → Option (Lease S) → Row S) → Machine S W → ℕ → Machine S W
  at_row f m n = record m { rows = slice_set m.rows n (option_map (λ row. f row row.lease) (slice_index_or m.rows n None)) }

  -- the clock of one that is parked
  abbrev pub parked_clock : Option (Row S) → Option ℕ
  parked_clock None = None
  parked_clock (Some row) = cond row.parked (Some (r.clock row.state)) None

  abbrev pub changed_rows : List (Option (Row S)) → List (ℕ × Option S) → List (Option (Row S))
  changed_rows rows [] = rows
  changed_rows rows (c ∷ cs) = changed_rows (slice_set rows c.0 (option_map row_of c.1)) cs

  abbrev pub perform_row : Machine S W → ℕ → Option (Row S) → Machine S W
  perform_row m n None = m
  perform_row m n (Some row) =
      let e = r.perform m.shared n row.state in
      record { rows = changed_rows m.rows e.changes ++ map (λ s. Some (row_of s)) e.started; shared = e.shared }

  abbrev pub settle_key : Machine S W → Option Key → Machine S W
  settle_key m None = m
  settle_key m (Some k) = cond (has_turn k 0 m.rows) (perform_row m k.number (slice_index_or m.rows k.number None)) m

  abbrev pub step : Machine S W → Step → Machine S W
  step m (Lend n) = at_row lend m n
  step m (Local n) = at_row local m n
  step m (Publish n) = at_row publish m n
  step m (Look n) = at_row look m n
  step m (Return n) = at_row give_back m n
  step m Settle = settle_key m (least (keys parked_clock 0 m.rows))

  abbrev pub happens : Machine S W → Step → Machine S W
  happens m e = cond (r.is_over m.shared) m (step m e)

  abbrev pub schedule : List Step → Machine S W → Machine S W
  schedule [] m = m
  schedule (e ∷ es) m = schedule es (happens m e)

  -- the two lead to one state by local steps alone
  abbrev pub Meets : S → S → Type 0
  Meets s t = (i : ℕ) × (j : ℕ) × (moved r i s ≡ moved r j t)

  abbrev pub RowMeets : Option S → Option S → Type 0
  RowMeets None None = Unit {0}
  RowMeets None (Some t) = ⊥
  RowMeets (Some s) None = ⊥
  RowMeets (Some s) (Some t) = Meets s t

  -- the floor is at most a clock that local steps from `state` reach; local steps lead to the lease's present state, whose clock is at
  -- least what was published; a parked goroutine is at a request, with its clock as its floor, and is not lent
  pub record RowOk (row : Row S) : Type 0 where
    pub reached : (d : ℕ) × (row.floor ≤ r.clock (moved r d row.state))
    pub leased : MatchOption row.lease (Unit {0}) (λ l. (j : ℕ) × (moved r j row.state ≡ l.present) × (l.published ≤ r.clock l.present))
    pub parked : row.parked ≡ true → (r.asks row.state ≡ true) × (row.floor ≡ r.clock row.state) × (row.lease ≡ None)

  abbrev pub RowStands : Option S → Option (Row S) → Type 0
  RowStands None None = Unit {0}
  RowStands None (Some row) = ⊥
  RowStands (Some s) None = ⊥
  RowStands (Some s) (Some row) = Meets s row.state × RowOk row

  -- the machine is where the one-thread run is, but for local steps
  pub record Stands (m : Machine S W) (w : World S W) : Type 0 where
    pub shared : m.shared ≡ w.shared
    pub size : length m.rows ≡ length w.awake
    pub rows : (n : ℕ) → RowStands (slice_index_or w.awake n None) (slice_index_or m.rows n None)

  -- what every schedule keeps needs this alone of the states
  pub record Laws : Type 0 where
    pub climbs : (s : S) → r.clock s ≤ r.clock (stepped r s)
    pub parks : (s : S) → r.asks s ≡ true → r.local s ≡ None

  abbrev pub opened : World S W → Machine S W
  opened w = record { rows = map (option_map row_of) w.awake; shared = w.shared }

  -- what is shared is what the one-thread run shares after some number of moves
  abbrev pub Stable : Type 0
  Stable = (w : World S W) (es : List Step) → (n : ℕ) × ((run r n w).shared ≡ (schedule es (opened w)).shared)

  -- each request performed is one more event
  abbrev pub Records : {E : Type 0} → (W → List E) → Type 0
  Records {E} h = (w : W) (n : ℕ) (s : S) → r.asks s ≡ true → (e : E) × (h (r.perform w n s).shared ≡ h w ++ e ∷ [])

abbrev pub IsPrefixOf : {E : Type 0} → List E → List E → Type 0
IsPrefixOf {E} xs ys = (rest : List E) × (xs ++ rest ≡ ys)
