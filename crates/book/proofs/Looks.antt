-- A look keeps the machine where the one-thread run is.
use Rattle.std.proofs.Common.{◌≡◌, ℕ, zero, suc, ◌+◌, ◌≤◌, ◌==◌, Bool, true, false, cond, List, [], ◌∷◌, Option, Some, None, length, ap, refl, sym, ◌∙◌, subst, inl, inr, arith, get_or, length-set, get_or-set_same, get_or-set_other}
use Rattle.std.specs.Prelude.{slice_index_or, slice_set, option_map, unwrap_or}
use Rattle.std.specs.Option.{is_some}
use Rattle.std.proofs.lemmas.Bool.{true≢false, cases_eq, cases_lt}
use Rattle.std.proofs.lemmas.Bool.Decides.{nat_tests}
use Rattle.std.proofs.lemmas.List.{set-get_or, get_or_past, set_past}
use Rattle.bytecode.specs.Code.{Code}
use Rattle.bytecode.specs.Machine.{Frames, code_kind}
use Rattle.clock_table.specs.declared.view.Loan.{Loan}
use Rattle.clock_table.specs.declared.view.Row.{Row as Word}
use Rattle.clock_table.specs.declared.view.Row.TheVariants.{Home, Lent, Back}
use Rattle.clock_table.specs.Clocks.{IsLentOn, Reaches, RowFits, looked, row as word_at}
use Rattle.goroutine_vm.specs.Advance.{IsStateOf, steps}
use Rattle.logical_clock.specs.Order.{keys, least, with_key}
use Rattle.turn_rule.specs.declared.Row.{Row}
use Rattle.turn_rule.specs.Turns.{moved, stepped, World, Rules}
use Rattle.turn_rule.specs.Schedule.{Machine, RowStands, Stands, Laws}
use Rattle.turn_rule.proofs.Stable.{set_both}
use Rattle.word.specs.Kinds.{Next, Slides, Ticks, Asks, Stuck, at, does, local_of}
use Rattle.word.specs.Worlds.{moment, rules}
use Rattle.word.proofs.Laws.{laws}
use Rattle.world_core_base.specs.Cores.{IsLentRow}
use Rattle.world_core_base.specs.Slots.{State, Rows, FitsRow, raised_row, waiting_clock}
use Rattle.world_core_base.proofs.Leases.{core_fits_set, core_set}
use Rattle.book.specs.Desks.{Desk, IsDesk, IsSight, KeepsLeases, Looks, Sighting, seen_desk}

-- ---- clocks stay within the limit

one_below : (limit : ℕ) (s : State) (n : Next Frames) → s.clock ≤ limit → (unwrap_or (local_of limit s.clock n) s).clock ≤ limit
one_below limit s (Slides a) le = le
one_below limit s (Ticks a) le = by (s.clock == limit) refl
  where
    by : (t : Bool) → (s.clock == limit) ≡ t → (unwrap_or (cond t None (Some (at (s.clock + 1) a))) s).clock ≤ limit
    by true e = le
    by false e = grind (arith, nat_tests, e, le)
one_below limit s (Asks q) le = le
one_below limit s Stuck le = le

pub steps_below : (code : Code) (limit n : ℕ) (s : State) → s.clock ≤ limit → (steps code limit n s).clock ≤ limit
steps_below code limit zero s le = le
steps_below code limit (suc n) s le = steps_below code limit n (stepped (rules (code_kind code) limit) s) (one_below limit s (does (code_kind code) s) le)

-- ---- one look

module _ {S W : Type 0} (r : Rules S W) (ls : Laws r) where
  raised : (o : Option S) (row : Row S) (p : ℕ) → (d : ℕ) × (p ≤ r.clock (moved r d row.state)) → is_some row.lease ≡ true → RowStands r o (Some row) → RowStands r o (Some (record row { floor = p }))
  raised None row p q np h = elim h [ ]
  raised (Some s) row p q np h = (h.0, record { reached = q; leased = h.1.leased; parked = λ e. absurd (true≢false (sym np ∙ ap is_some (h.1.parked e).2)) })

  -- the floor of one that is lent is set to a clock that its state leads to
  look_keeps : (m : Machine S W) (w : World S W) (n : ℕ) (row : Row S) (p : ℕ) → slice_index_or m.rows n None ≡ Some row → is_some row.lease ≡ true → (d : ℕ) × (p ≤ r.clock (moved r d row.state)) → Stands r m w
      → Stands r (record m { rows = slice_set m.rows n (Some (record row { floor = p })) }) w
  look_keeps m w n row p at np q h =
      let o : Option (Row S) = Some (record row { floor = p }) in
      let all = set_both r ls w.awake m.rows h.size h.rows n (get_or w.awake n None) o (raised (get_or w.awake n None) row p q np (rw at at (h.rows n))) in
      record { shared = h.shared; size = length-set m.rows n o ∙ h.size; rows = rw (set-get_or w.awake n None) at all }

looked_is_desk : (d : Desk) (n p : ℕ) (row : Row State) (words : List Word) (looks : ℕ) → IsDesk d → slice_index_or d.core.rows n None ≡ Some row → is_some row.lease ≡ true → (k : ℕ) × (p ≤ (steps d.code d.limit k row.state).clock)
    → IsDesk (record d { core = record d.core { rows = slice_set d.core.rows n (Some (raised_row p row)) }; words = words; looks = looks })
looked_is_desk d n p row words looks h here np q =
    let r = rules (code_kind d.code) d.limit in
    let m = h.at.1 in
    let a = h.at.2 in
    let o : Option (Row State) = Some (raised_row p row) in
    let at : slice_index_or m.rows n None ≡ Some row = subst (λ (rows : Rows). slice_index_or rows n None ≡ Some row) a.core.rows here in
    let fits : FitsRow d.code d.limit (Some row) = subst (FitsRow d.code d.limit) here (h.fits.rows n) in
    record {
      verified = h.verified;
      limit = h.limit;
      many = h.many;
      room = h.room;
      trace_room = h.trace_room;
      fits = core_fits_set d.code d.limit d.core n o h.fits (record { state = fits.state; present = fits.present; asks = fits.asks; unlent = fits.unlent });
      at = (
        h.at.0,
        record m { rows = slice_set m.rows n o },
        record {
          stands = look_keeps r (laws (code_kind d.code) d.limit) m (moment (code_kind d.code) d.limit h.at.0) n row p at np q a.stands;
          core = core_set m d.core n o a.core;
          size = a.size;
          bytes = a.bytes;
          trace_size = a.trace_size;
          trace_bytes = a.trace_bytes;
        },
      );
    }

-- what a lent word held is within reach of its loan
pub held_reaches : (found : ℕ) (loan : Loan) (w : Word) → IsLentOn loan w → RowFits found w → Reaches loan found
held_reaches found loan (Home c) on fits = absurd on
held_reaches found loan (Lent known seen) on fits = subst (λ (l : Loan). Reaches l found) on fits.2
held_reaches found loan (Back was known c) on fits = absurd on

-- and within the limit
pub held_below : (code : Code) (limit number found : ℕ) (state : State) (w : Word) → IsStateOf code limit state → IsLentOn (record { code = code; limit = limit; number = number; base = state }) w → RowFits found w → found ≤ limit
held_below code limit number found state w is on fits =
    let p = held_reaches found (record { code = code; limit = limit; number = number; base = state }) w on fits in
    let top = steps_below code limit p.0 state is.clock in
    let low = p.1 in
    omega (arith, top, low)

pub seen_is_desk : (d : Desk) (x : Sighting) → IsDesk d → IsSight d x → IsDesk (seen_desk x d)
seen_is_desk d x h s =
    let reach = held_reaches x.found (record { code = d.code; limit = d.limit; number = x.number; base = s.row.state }) (word_at d.words x.slot) s.word s.held in
    let words = slice_set d.words x.slot (looked x.found (word_at d.words x.slot)) in
    subst (λ (o : Option (Row State)). IsDesk (record d { core = record d.core { rows = slice_set d.core.rows x.number (option_map (raised_row x.found) o) }; words = words; looks = d.looks + 1 })) (sym s.here)
    (looked_is_desk d x.number x.found s.row words (d.looks + 1) h s.here s.lent reach)

-- ---- what a look leaves of rows and words

-- the goroutine that is in a row after a look
pub record IsRaised (row new : Row State) : Type 0 where
  pub state : new.state ≡ row.state
  pub lease : new.lease ≡ row.lease
  pub parked : new.parked ≡ row.parked

abbrev pub raised_rows : Rows → ℕ → ℕ → Rows
raised_rows rows n p = slice_set rows n (option_map (raised_row p) (slice_index_or rows n None))

some_not_none : {A : Type 0} (x : A) → Some x ≡ None → ⊥
some_not_none x e = true≢false (ap is_some e)

within_rows : (rows : Rows) (n : ℕ) (row : Row State) → slice_index_or rows n None ≡ Some row → suc n ≤ length rows
within_rows rows n row e = elim (cases_lt n (length rows)) [
  | inl l ↦ omega (arith, l)
  | inr l ↦ absurd (some_not_none row (sym e ∙ get_or_past rows n None l))
]

-- a goroutine that was in a row still is
pub still_there : (rows : Rows) (n p k : ℕ) (row : Row State) → slice_index_or rows k None ≡ Some row → (new : Row State) × (slice_index_or (raised_rows rows n p) k None ≡ Some new) × IsRaised row new
still_there rows n p k row here = elim (cases_eq k n) [
  | inl same ↦
      let at : slice_index_or rows n None ≡ Some row = subst (λ (j : ℕ). slice_index_or rows j None ≡ Some row) same here in
      let l = within_rows rows n row at in
      let set : slice_index_or (raised_rows rows n p) n None ≡ Some (raised_row p row) = get_or-set_same rows n (option_map (raised_row p) (slice_index_or rows n None)) None (omega (arith, l)) ∙ ap (option_map (raised_row p)) at in
      (raised_row p row, subst (λ (j : ℕ). slice_index_or (raised_rows rows n p) j None ≡ Some (raised_row p row)) (sym same) set, record { state = refl; lease = refl; parked = refl })
  | inr other ↦ (row, get_or-set_other rows n k (option_map (raised_row p) (slice_index_or rows n None)) None other ∙ here, record { state = refl; lease = refl; parked = refl })
]

raised_some : (o : Option (Row State)) (p : ℕ) (new : Row State) → option_map (raised_row p) o ≡ Some new → (row : Row State) × (o ≡ Some row) × IsRaised row new
raised_some None p new e = absurd (some_not_none new (sym e))
raised_some (Some row) p new e =
    let is : raised_row p row ≡ new = cc in
    (row, refl, subst (IsRaised row) is (record { state = refl; lease = refl; parked = refl }))

-- and no other
pub was_there : (rows : Rows) (n p k : ℕ) (new : Row State) → slice_index_or (raised_rows rows n p) k None ≡ Some new → (row : Row State) × (slice_index_or rows k None ≡ Some row) × IsRaised row new
was_there rows n p k new here = elim (cases_eq k n) [
  | inl same ↦ elim (cases_lt n (length rows)) [
    | inl l ↦
        let at : slice_index_or (raised_rows rows n p) n None ≡ Some new = subst (λ (j : ℕ). slice_index_or (raised_rows rows n p) j None ≡ Some new) same here in
        let got = raised_some (slice_index_or rows n None) p new (sym (get_or-set_same rows n (option_map (raised_row p) (slice_index_or rows n None)) None l) ∙ at) in
        (got.0, subst (λ (j : ℕ). slice_index_or rows j None ≡ Some got.0) (sym same) got.1, got.2)
    | inr past ↦ (new, subst (λ (rs : Rows). slice_index_or rs k None ≡ Some new) (set_past rows n (option_map (raised_row p) (slice_index_or rows n None)) past) here, record { state = refl; lease = refl; parked = refl })
  ]
  | inr other ↦ (new, sym (get_or-set_other rows n k (option_map (raised_row p) (slice_index_or rows n None)) None other) ∙ here, record { state = refl; lease = refl; parked = refl })
]

-- a word after a look, whichever was looked at
pub at_look : (P : Word → Type 0) (words : List Word) (s p j : ℕ) → ((w : Word) → P w → P (looked p w)) → P (word_at words j) → P (word_at (slice_set words s (looked p (word_at words s))) j)
at_look P words s p j keeps h = elim (cases_eq j s) [
  | inl same ↦ elim (cases_lt s (length words)) [
    | inl l ↦ subst P (sym (ap (word_at (slice_set words s (looked p (word_at words s)))) same ∙ get_or-set_same words s (looked p (word_at words s)) (Home 0) l)) (keeps (word_at words s) (subst (λ (i : ℕ). P (word_at words i)) same h))
    | inr past ↦ subst (λ (ws : List Word). P (word_at ws j)) (sym (set_past words s (looked p (word_at words s)) past)) h
  ]
  | inr other ↦ subst P (sym (get_or-set_other words s j (looked p (word_at words s)) (Home 0) other)) h
]

-- and before it
pub before_look : (P : Word → Type 0) (words : List Word) (s p j : ℕ) → ((w : Word) → P (looked p w) → P w) → P (word_at (slice_set words s (looked p (word_at words s))) j) → P (word_at words j)
before_look P words s p j keeps h = elim (cases_eq j s) [
  | inl same ↦ elim (cases_lt s (length words)) [
    | inl l ↦ subst (λ (i : ℕ). P (word_at words i)) (sym same) (keeps (word_at words s) (subst P (ap (word_at (slice_set words s (looked p (word_at words s)))) same ∙ get_or-set_same words s (looked p (word_at words s)) (Home 0) l) h))
    | inr past ↦ subst (λ (ws : List Word). P (word_at ws j)) (set_past words s (looked p (word_at words s)) past) h
  ]
  | inr other ↦ subst P (get_or-set_other words s j (looked p (word_at words s)) (Home 0) other) h
]

pub looked_on : (p : ℕ) (terms : Loan) (w : Word) → IsLentOn terms w → IsLentOn terms (looked p w)
looked_on p terms (Home c) h = h
looked_on p terms (Lent loan seen) h = h
looked_on p terms (Back was loan c) h = h

pub unlooked_on : (p : ℕ) (terms : Loan) (w : Word) → IsLentOn terms (looked p w) → IsLentOn terms w
unlooked_on p terms (Home c) h = h
unlooked_on p terms (Lent loan seen) h = h
unlooked_on p terms (Back was loan c) h = h

-- a goroutine that is lent still is
pub lent_still : (rows : Rows) (n p k : ℕ) (base : State) → IsLentRow rows k base → IsLentRow (raised_rows rows n p) k base
lent_still rows n p k base lent =
    let s = still_there rows n p k lent.0 lent.1 in
    (s.0, s.1, ap is_some s.2.lease ∙ lent.2, s.2.state ∙ lent.3)

pub seen_leases : (d : Desk) (x : Sighting) → KeepsLeases d (seen_desk x d)
seen_leases d x l out = record {
  code = out.code;
  limit = out.limit;
  row = lent_still d.core.rows x.number x.found l.number l.base out.row;
  word = at_look (IsLentOn (record { code = d.code; limit = d.limit; number = l.number; base = l.base })) d.words x.slot x.found l.slot (looked_on x.found (record { code = d.code; limit = d.limit; number = l.number; base = l.base })) out.word;
}

-- ---- the least key is as it was

keys_set : (f : Option (Row State) → Option ℕ) (i : ℕ) (rows : Rows) (n : ℕ) (o : Option (Row State)) → f o ≡ f (slice_index_or rows n None) → keys f i (slice_set rows n o) ≡ keys f i rows
keys_set f i [] n o e = refl
keys_set f i (x ∷ xs) zero o e = ap (λ (c : Option ℕ). with_key i c (keys f (suc i) xs)) e
keys_set f i (x ∷ xs) (suc n) o e = ap (with_key i (f x)) (keys_set f (suc i) xs n o e)

waits_still : (p : ℕ) (o : Option (Row State)) → waiting_clock (option_map (raised_row p) o) ≡ waiting_clock o
waits_still p None = refl
waits_still p (Some row) = refl

seen_least : (d : Desk) (x : Sighting) → least (keys waiting_clock 0 (seen_desk x d).core.rows) ≡ least (keys waiting_clock 0 d.core.rows)
seen_least d x = ap least (keys_set waiting_clock 0 d.core.rows x.number (option_map (raised_row x.found) (slice_index_or d.core.rows x.number None)) (waits_still x.found (slice_index_or d.core.rows x.number None)))

-- ---- any number of looks

-- what looks leave as it was
pub record IsKept (old new : Desk) : Type 0 where
  pub rest : new ≡ record old { core = record old.core { rows = new.core.rows }; words = new.words; looks = new.looks }
  pub least : least (keys waiting_clock 0 new.core.rows) ≡ least (keys waiting_clock 0 old.core.rows)
  pub size : length new.core.rows ≡ length old.core.rows
  pub leases : KeepsLeases old new

keeps_itself : (old : Desk) → IsKept old old
keeps_itself old = record { rest = refl; least = refl; size = refl; leases = λ l out. out }

keeps_seen : (old mid : Desk) (x : Sighting) → IsKept old mid → IsKept old (seen_desk x mid)
keeps_seen old mid x h =
    let new = seen_desk x mid in
    record {
      rest = ap (λ (d : Desk). record d { core = record d.core { rows = new.core.rows }; words = new.words; looks = new.looks }) h.rest;
      least = seen_least mid x ∙ h.least;
      size = length-set mid.core.rows x.number (option_map (raised_row x.found) (slice_index_or mid.core.rows x.number None)) ∙ h.size;
      leases = λ l out. seen_leases mid x l (h.leases l out);
    }

pub looks_keep : (old : Desk) (seen : List Sighting) (new : Desk) → Looks old seen new → IsKept old new
looks_keep old [] new e = subst (IsKept old) (sym e) (keeps_itself old)
looks_keep old (x ∷ xs) new h = subst (IsKept old) (sym h.3) (keeps_seen old h.0 x (looks_keep old xs h.0 h.1))
