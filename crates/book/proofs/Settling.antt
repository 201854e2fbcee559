-- What settling comes to, after its looks.
use Rattle.std.proofs.Common.{◌≡◌, ◌≢◌, ℕ, ◌+◌, ◌-◌, ◌<◌, Bool, true, false, List, [], ◌∷◌, length, Option, Some, None, refl, sym, ap, ◌∙◌, subst, inl, inr, arith, get_or-set_same, get_or-set_other}
use Rattle.std.specs.Prelude.{IfNone, IfSome, slice_index_or, slice_set, option_map, sum_by}
use Rattle.std.specs.Option.{MatchOption, is_some}
use Rattle.std.proofs.lemmas.Bool.{true≢false, cases_eq, cases_lt}
use Rattle.std.proofs.lemmas.Bool.Decides.{nat_tests}
use Rattle.std.proofs.lemmas.List.Sums.{sum_by-set}
use Rattle.std.proofs.lemmas.List.{get_or_past}
use Rattle.logical_clock.specs.declared.key.Key.{Key}
use Rattle.logical_clock.specs.Order.{is_before, keys, least}
use Rattle.turn_rule.specs.declared.Row.{Row}
use Rattle.turn_rule.specs.Schedule.{has_turn}
use Rattle.world_core_base.specs.Cores.{HasLease, HasTurn}
use Rattle.world_core_base.specs.Slots.{State, Rows, IsAwake, IsBefore, raised_row, waiting_clock}
use Rattle.book.specs.Desks.{Desk, IsDesk, IsSeen, IsSight, Looks, OnlyLooks, Sighting, Waits, seen_desk}
use Rattle.book.proofs.Books.{waits_free}
use Rattle.book.proofs.Looks.{looks_keep, raised_rows, seen_is_desk, still_there, was_there}
use Rattle.book.proofs.Whole.{looks_ending, looks_least, looks_more, looks_none, turn_by, waits_by}

-- the floor of one that was looked at is what was found
within : (rows : Rows) (n : ℕ) (row : Row State) → slice_index_or rows n None ≡ Some row → n < length rows
within rows n row e = elim (cases_lt n (length rows)) [
  | inl l ↦ l
  | inr l ↦ absurd (true≢false (ap is_some (sym e ∙ get_or_past rows n None l)))
]

seen_floor : (d : Desk) (x : Sighting) → IsSight d x → IfSome (slice_index_or (seen_desk x d).core.rows x.number None) (λ (row : Row State). row.floor ≡ x.found)
seen_floor d x s =
    let at : slice_index_or (seen_desk x d).core.rows x.number None ≡ Some (raised_row x.found s.row) = get_or-set_same d.core.rows x.number (option_map (raised_row x.found) (slice_index_or d.core.rows x.number None)) None (within d.core.rows x.number s.row s.here) ∙ ap (option_map (raised_row x.found)) s.here in
    subst (λ (o : Option (Row State)). IfSome o (λ (row : Row State). row.floor ≡ x.found)) (sym at) refl

pub seen_last : (old mid : Desk) (x : Sighting) (n : ℕ) → OnlyLooks old mid → x.number ≡ n → IsSight mid x → IsSeen old (seen_desk x mid) n
seen_last old mid x n only number s = record {
  sight = x;
  earlier = only.0;
  looks = (mid, only.1, s, refl);
  number = number;
  floor = subst (λ (k : ℕ). IfSome (slice_index_or (seen_desk x mid).core.rows k None) (λ (row : Row State). row.floor ≡ x.found)) number (seen_floor mid x s);
}

-- ---- no goroutine is parked

-- one that is not lent is waited for
pub waits_unlent : (d : Desk) (n : ℕ) → IsDesk d → d.core.ending ≡ None → least (keys waiting_clock 0 d.core.rows) ≡ None → IsAwake d.core.rows n → (HasLease d.core.rows n → ⊥) → Waits d n d
waits_unlent d n h going none awake unlent = record { only = looks_none d; stands = waits_free d n h going none awake; seen = λ lent. absurd (unlent lent) }

-- one that is lent, once it was looked at
pub waits_lent : (d new : Desk) (n : ℕ) → IsDesk d → d.core.ending ≡ None → least (keys waiting_clock 0 d.core.rows) ≡ None → IsAwake d.core.rows n → (x : Sighting) × (x.number ≡ n) × IsSight d x × (new ≡ seen_desk x d) → Waits d n new
waits_lent d new n h going none awake s =
    let x = s.0 in
    let only = looks_more d d x (looks_none d) s.2 in
    let there = still_there d.core.rows x.number x.found n awake.0 awake.1 in
    subst (Waits d n) (sym s.3) (record {
      only = only;
      stands = waits_free (seen_desk x d) n (seen_is_desk d x h s.2) (looks_ending d (seen_desk x d) only going) (looks_least d (seen_desk x d) None only none) (there.0, there.1);
      seen = λ lent. seen_last d d x n (looks_none d) s.1 s.2;
    })

-- ---- a goroutine is parked

-- a goroutine that is looked at stands before the key no longer, or still
pub seen_only : (old mid new : Desk) (n : ℕ) → OnlyLooks old mid → (x : Sighting) × (x.number ≡ n) × IsSight mid x × (new ≡ seen_desk x mid) → OnlyLooks old new
seen_only old mid new n only s = subst (OnlyLooks old) (sym s.3) (looks_more old mid s.0 only s.2)

pub seen_now : (old mid new : Desk) (n : ℕ) → OnlyLooks old mid → (x : Sighting) × (x.number ≡ n) × IsSight mid x × (new ≡ seen_desk x mid) → IsSeen old new n
seen_now old mid new n only s = subst (λ (d : Desk). IsSeen old d n) (sym s.3) (seen_last old mid s.0 n only s.1 s.2)

pub seen_ending : (mid new : Desk) (n : ℕ) → mid.core.ending ≡ None → (x : Sighting) × (x.number ≡ n) × IsSight mid x × (new ≡ seen_desk x mid) → new.core.ending ≡ None
seen_ending mid new n going s = ap (λ (d : Desk). d.core.ending) s.3 ∙ going

-- how far the floor of one that is awake lies below the clock after the key's
abbrev pub following : Key → Option (Row State) → ℕ
following k None = 0
following k (Some row) = k.clock + 1 - row.floor

-- a floor above which the key is, and one below which it is
rises : (k : Key) (n floor found : ℕ) → is_before k (record { clock = floor; number = n }) ≡ false → (is_before k (record { clock = found; number = n }) ≡ false → ⊥) → k.clock + 1 - found < k.clock + 1 - floor
rises k n floor found e past = by (is_before k (record { clock = found; number = n })) refl
  where
    by : (t : Bool) → is_before k (record { clock = found; number = n }) ≡ t → k.clock + 1 - found < k.clock + 1 - floor
    by true q = grind (arith, nat_tests, e, q)
    by false q = absurd (past q)

-- one that was looked at and stands before the key no longer has risen
pub looked_rises : (mid new : Desk) (n : ℕ) (key : Key) → IsBefore mid.core.rows key n → (x : Sighting) × (x.number ≡ n) × IsSight mid x × (new ≡ seen_desk x mid) → (IsBefore new.core.rows key n → ⊥) → sum_by (following key) new.core.rows < sum_by (following key) mid.core.rows
looked_rises mid new n key b s past =
    let x = s.0 in
    let row = b.0 in
    let l = within mid.core.rows n row b.1 in
    let there = get_or-set_same mid.core.rows n (Some (raised_row x.found row)) None l in
    let rows : new.core.rows ≡ slice_set mid.core.rows n (Some (raised_row x.found row)) = ap (λ (d : Desk). d.core.rows) s.3 ∙ subst (λ (k : ℕ). slice_set mid.core.rows k (option_map (raised_row x.found) (slice_index_or mid.core.rows k None)) ≡ slice_set mid.core.rows n (Some (raised_row x.found row))) (sym s.1) (ap (λ (o : Option (Row State)). slice_set mid.core.rows n (option_map (raised_row x.found) o)) b.1) in
    let rose = rises key n row.floor x.found b.3 (λ e. past (raised_row x.found row, ap (λ (rs : Rows). slice_index_or rs n None) rows ∙ there, b.2, e)) in
    let sum = sum_by-set (following key) mid.core.rows n (Some (raised_row x.found row)) None l in
    let was : following key (slice_index_or mid.core.rows n None) ≡ key.clock + 1 - row.floor = ap (following key) b.1 in
    let is : sum_by (following key) new.core.rows ≡ sum_by (following key) (slice_set mid.core.rows n (Some (raised_row x.found row))) = ap (sum_by (following key)) rows in
    grind (arith, rose, sum, was, is)

-- one that is not lent is waited for without a look
pub waits_first : (d : Desk) (n : ℕ) (k : Key) → IsDesk d → d.core.ending ≡ None → least (keys waiting_clock 0 d.core.rows) ≡ Some k → IsBefore d.core.rows k n → (HasLease d.core.rows n → ⊥) → Waits d n d
waits_first d n k h going e before unlent = waits_by d d n k h (looks_none d) going e before (λ lent. absurd (unlent lent))

-- one that is lent, after a look at it
pub waits_looked : (old mid new : Desk) (n : ℕ) (k : Key) → IsDesk mid → old.core.ending ≡ None → least (keys waiting_clock 0 old.core.rows) ≡ Some k → OnlyLooks old mid → (x : Sighting) × (x.number ≡ n) × IsSight mid x × (new ≡ seen_desk x mid) → IsBefore new.core.rows k n → Waits old n new
waits_looked old mid new n k h going e only s before =
    let more = seen_only old mid new n only s in
    waits_by old new n k (subst IsDesk (sym s.3) (seen_is_desk mid s.0 h s.2)) more (looks_ending old new more going) (looks_least old new (Some k) more e) before (λ lent. seen_now old mid new n only s)

-- one that is not lent, after looks at others
pub waits_other : (old new : Desk) (n : ℕ) (k : Key) → IsDesk new → old.core.ending ≡ None → least (keys waiting_clock 0 old.core.rows) ≡ Some k → OnlyLooks old new → (HasLease new.core.rows n → ⊥) → IsBefore new.core.rows k n → Waits old n new
waits_other old new n k h going e only unlent before = waits_by old new n k h only (looks_ending old new only going) (looks_least old new (Some k) only e) before (λ lent. absurd (unlent lent))

pub turn_after : (old new : Desk) (k : Key) → old.core.ending ≡ None → least (keys waiting_clock 0 old.core.rows) ≡ Some k → OnlyLooks old new → has_turn k 0 new.core.rows ≡ true → HasTurn new.core k.number
turn_after old new k going e only turn = turn_by new k (looks_ending old new only going) (looks_least old new (Some k) only e) turn
