-- Each call of a book leaves it a book.
use Rattle.std.proofs.Common.{◌≡◌, ℕ, ◌+◌, ◌<◌, ◌≤◌, ◌^◌, ◌⊎◌, Bool, true, false, cond, List, [], ◌∷◌, length, Option, Some, None, Result, Ok, Err, refl, sym, ap, ◌∙◌, subst, inl, inr}
use Rattle.std.specs.Prelude.{IfNone, IfOk, IfSome, OnErr, slice_set}
use Rattle.std.specs.Option.{is_some}
use Rattle.std.proofs.lemmas.List.{set-get_or, set-set}
use Rattle.bytecode.specs.Code.{Code}
use Rattle.bytecode.specs.Machine.{code_kind}
use Rattle.bytecode.specs.Rules.{IsVerified}
use Rattle.clock_table.specs.declared.view.Row.{Row as Word}
use Rattle.clock_table.specs.declared.view.Row.TheVariants.{Home}
use Rattle.clock_table.specs.Clocks.{IsFree, IsLentOn, WasLent, loan_for, row as word_at}
use Rattle.goroutine_vm.specs.Advance.{IsStateOf}
use Rattle.logical_clock.specs.declared.key.Key.{Key}
use Rattle.logical_clock.specs.Order.{keys, least}
use Rattle.slot_index.specs.Numbers.{Numbered, slot_of}
use Rattle.turn_rule.specs.declared.Row.{Row}
use Rattle.turn_rule.specs.Schedule.{has_turn}
use Rattle.turn_rule.specs.Turns.{Leads}
use Rattle.word.specs.declared.request.Event.{Event as Recorded}
use Rattle.word.specs.Kinds.{asks}
use Rattle.word.specs.Worlds.{rules}
use Rattle.world_core_base.specs.Cores.{CoreValue, HasLease, HasTurn, IsFreeIn, Works}
use Rattle.world_core_base.specs.Slots.{State, Rows, FitsRow, IsBefore, back_row, free_row, lent_row, waiting_clock}
use Rattle.book.specs.Desks.{CommitsNext, Desk, Held, IsDesk, IsLent, IsSeen, IsSight, KeepsLeases, OnlyLooks, Sighting, Waits, back_core, brought, lent_desk, opened_desk, seen_desk}
use Rattle.book.specs.Slots.{IsBook, IsPlaced, IsTakenOut, SamePlaces, place_of}
use Rattle.book.proofs.Books.{brought_by, brought_is_desk, lent_is_desk, opened_is_desk, output_taken, trace_taken, waits_key}
use Rattle.book.proofs.Looks.{looks_keep, seen_is_desk}
use Rattle.book.proofs.Ties.{brought_tied, committed_tied, here_leases, here_tied, is_out, lent_tied, opened_tied, same_tied, seen_tied, slot_out, taken_tied, unplaced, was_on}

-- ---- work without a lease

-- what work makes of a desk's core
worked_core : (d : Desk) (quantum : ℕ) (answer : Option Bool) (core : CoreValue) (w : Works d.code d.limit quantum d.core answer core)
    → core ≡ record d.core { rows = slice_set d.core.rows w.key.number (Some (back_row w.worked.1.state (is_some (asks (code_kind d.code) d.limit w.worked.1.state)))) }
worked_core d quantum answer core w = w.rest ∙ ap (λ (rows : Rows). record d.core { rows = rows }) (w.worked.4 ∙ ap (λ (row : Row State). slice_set d.core.rows w.key.number (Some row)) w.worked.3.2)

pub works_leases : (d : Desk) (quantum : ℕ) (answer : Option Bool) (core : CoreValue) → Works d.code d.limit quantum d.core answer core → KeepsLeases d (record d { core = core })
works_leases d quantum answer core w =
    let row = back_row w.worked.1.state (is_some (asks (code_kind d.code) d.limit w.worked.1.state)) in
    subst (λ (x : CoreValue). KeepsLeases d (record d { core = x })) (sym (worked_core d quantum answer core w)) (here_leases d w.key.number w.worked.0 row w.worked.2)

-- no goroutine, or one that makes a request or goes on, or one to which memory was refused
pub works_as : {E : Type 0} (r : Result (Option Bool) E) (N : Type 0) (W : Option Bool → Type 0) → IfOk r (λ found. IfNone found N) → IfOk r (λ found. IfSome found (λ asking. W (Some asking))) → OnErr r (W None) → N ⊎ ((answer : Option Bool) × W answer)
works_as {E} (Ok None) N W none some err = inl none
works_as {E} (Ok (Some asking)) N W none some err = inr (Some asking, some)
works_as {E} (Err e) N W none some err = inr (None, err)

module _ (code : Code) (limit : ℕ) where
  pub book_opens : (traces : Bool) (places : Numbered) → ((n : ℕ) → slot_of places n ≡ None) → limit ≤ 2 ^ 62 → IsVerified code → IsBook code limit (opened_desk code limit traces) places
  book_opens traces places nobody le v = record { desk = opened_is_desk code limit traces v le; tied = opened_tied code limit traces places nobody; code_is = refl; limit_is = refl }

  pub book_lends : (d : Desk) (places new : Numbered) (l : Held) → IsBook code limit d places → IsFreeIn d.core.rows l.number l.base → l.slot < length d.words → IsFree (word_at d.words l.slot) → IsPlaced places new l.number l.slot → IsBook code limit (lent_desk d l) new
  book_lends d places new l h free size home placed = record {
    desk = lent_is_desk d l h.desk free;
    tied = lent_tied d places new l h.tied free size home placed;
    code_is = h.code_is;
    limit_is = h.limit_is;
  }

  -- the state that is lent fits
  pub lent_fits : (d : Desk) (places : Numbered) (n : ℕ) (s : State) → IsBook code limit d places → IsFreeIn d.core.rows n s → IsStateOf d.code d.limit s
  lent_fits d places n s h free = (subst (FitsRow d.code d.limit) free (h.desk.fits.rows n)).state

  pub book_places : (d : Desk) (places new : Numbered) → SamePlaces places new → IsBook code limit d places → IsBook code limit d new
  book_places d places new same h = record { desk = h.desk; tied = same_tied d places new same h.tied; code_is = h.code_is; limit_is = h.limit_is }

  -- a goroutine that has a seat is out, and comes back
  pub book_out : (d : Desk) (places : Numbered) (l : Held) → IsBook code limit d places → l.code ≡ code → l.limit ≡ limit → WasLent (loan_for l.code l.limit l.number l.base) l.published (word_at d.words l.slot) → IsLent d l
  book_out d places l h c m was =
      let same : loan_for l.code l.limit l.number l.base ≡ loan_for d.code d.limit l.number l.base = (λ i. loan_for ((c ∙ sym h.code_is) i) ((m ∙ sym h.limit_is) i) l.number l.base) in
      is_out d places l h.tied (c ∙ sym h.code_is) (m ∙ sym h.limit_is) (was_on (loan_for d.code d.limit l.number l.base) l.published (word_at d.words l.slot) (subst (λ x. WasLent x l.published (word_at d.words l.slot)) same was))

  -- a slot is free for one that may be lent, and is taken by one that is out
  pub book_unplaced : (d : Desk) (places : Numbered) (n : ℕ) (s : State) → IsBook code limit d places → IsFreeIn d.core.rows n s → slot_of places n ≡ None
  book_unplaced d places n s h free = unplaced d places n s h.tied free

  pub book_slot : (d : Desk) (places : Numbered) (l : Held) → IsBook code limit d places → IsLent d l → slot_of places l.number ≡ Some l.slot
  book_slot d places l h out = slot_out d places l h.tied out

  pub book_brings : (d : Desk) (places new : Numbered) (l : Held) → IsBook code limit d places → IsLent d l → IsTakenOut places new l.number → IsStateOf l.code l.limit l.present → Leads (rules (code_kind l.code) l.limit) l.base l.present → IsBook code limit (brought d l) new
  book_brings d places new l h out taken fits leads = record {
    desk = brought_by d l (is_some d.core.ending) refl h.desk out (rw (out.code, out.limit) fits) (rw (out.code, out.limit) leads);
    tied = brought_tied d places new l (is_some d.core.ending) refl h.tied out taken;
    code_is = h.code_is;
    limit_is = h.limit_is;
  }

  pub book_works : (d : Desk) (places : Numbered) (quantum : ℕ) (answer : Option Bool) (core : CoreValue) → IsBook code limit d places → Works d.code d.limit quantum d.core answer core → IsBook code limit (record d { core = core }) places
  book_works d places quantum answer core h w =
      let made = brought_is_desk d w.key.number (free_row w.worked.0) w.worked.1.state h.desk w.worked.2 (w.worked.3.0.0, w.worked.3.0.2) w.worked.3.1 in
      let row = back_row w.worked.1.state (is_some (asks (code_kind d.code) d.limit w.worked.1.state)) in
      subst (λ (x : CoreValue). IsBook code limit (record d { core = x }) places) (sym (worked_core d quantum answer core w)) (record {
        desk = made;
        tied = here_tied d places w.key.number w.worked.0 row h.tied w.worked.2 refl;
        code_is = h.code_is;
        limit_is = h.limit_is;
      })

  pub book_looks : (d : Desk) (places : Numbered) (x : Sighting) → IsBook code limit d places → IsSight d x → IsBook code limit (seen_desk x d) places
  book_looks d places x h s = record { desk = seen_is_desk d x h.desk s; tied = seen_tied d places x h.tied; code_is = h.code_is; limit_is = h.limit_is }

  pub book_commits : (d : Desk) (places : Numbered) (event : Recorded) (core : CoreValue) (pending lines : List ℕ) → IsBook code limit d places → IsDesk (record d { core = core; pending = pending; lines = lines }) → CommitsNext d event (record d { core = core; pending = pending; lines = lines })
      → IsBook code limit (record d { core = core; pending = pending; lines = lines }) places
  book_commits d places event core pending lines h new c = record { desk = new; tied = committed_tied d places event core pending lines h.desk c h.tied; code_is = h.code_is; limit_is = h.limit_is }

  pub book_takes_output : (d : Desk) (places : Numbered) (count : ℕ) (left : List ℕ) → IsBook code limit d places → count ≡ length d.pending → left ≡ [] → IsBook code limit (record d { taken = d.taken + count; pending = left }) places
  book_takes_output d places count left h whole none = record { desk = output_taken d count left h.desk whole none; tied = taken_tied d places (d.taken + count) d.traced left d.lines h.tied; code_is = h.code_is; limit_is = h.limit_is }

  pub book_takes_trace : (d : Desk) (places : Numbered) (count : ℕ) (left : List ℕ) → IsBook code limit d places → count ≡ length d.lines → left ≡ [] → IsBook code limit (record d { traced = d.traced + count; lines = left }) places
  book_takes_trace d places count left h whole none = record { desk = trace_taken d count left h.desk whole none; tied = taken_tied d places d.taken (d.traced + count) d.pending left h.tied; code_is = h.code_is; limit_is = h.limit_is }

  -- the word of a lent goroutine's slot
  pub book_words : (d : Desk) (places : Numbered) (n : ℕ) → IsBook code limit d places → d.core.ending ≡ None → (lent : HasLease d.core.rows n) → IsLentOn (loan_for d.code d.limit n lent.0.state) (word_at d.words (place_of places n))
  book_words d places n h going lent = h.tied.lent (ap is_some going) n lent.0 lent.1 lent.2

-- a state that was lent and comes back at once
pub taken_back : (rows : Rows) (n : ℕ) (s : State) → IsFreeIn rows n s → slice_set (slice_set rows n (Some (lent_row s))) n (Some (back_row s false)) ≡ rows
taken_back rows n s free = set-set rows n (Some (lent_row s)) (Some (back_row s false)) ∙ ap (slice_set rows n) (sym free) ∙ set-get_or rows n None

-- what bring makes of a desk
pub brought_before : (d : Desk) (l : Held) (core : CoreValue) (words : List Word) (n : ℕ) (s : State) (parked : Bool) → is_some d.core.ending ≡ false → l.code ≡ d.code → l.limit ≡ d.limit → n ≡ l.number → s ≡ l.present → parked ≡ is_some (asks (code_kind l.code) l.limit l.present)
    → core ≡ record d.core { rows = slice_set d.core.rows n (Some (back_row s parked)) } → words ≡ slice_set d.words l.slot (Home l.published) → record d { core = core; words = words } ≡ brought d l
brought_before d l core words n s parked e code limit en es ep ec ew =
    let ep' : parked ≡ is_some (asks (code_kind d.code) d.limit l.present) = ep ∙ (λ i. is_some (asks (code_kind (code i)) (limit i) l.present)) in
    let made : core ≡ record d.core { rows = slice_set d.core.rows l.number (Some (back_row l.present (is_some (asks (code_kind d.code) d.limit l.present)))) } = ec ∙ (λ i. record d.core { rows = slice_set d.core.rows (en i) (Some (back_row (es i) (ep' i))) }) in
    let kept : core ≡ back_core d l = made ∙ ap (λ (b : Bool). cond b d.core (record d.core { rows = slice_set d.core.rows l.number (Some (back_row l.present (is_some (asks (code_kind d.code) d.limit l.present)))) })) (sym e) in
    (λ i. record d { core = kept i; words = ew i })

pub brought_after : (d : Desk) (l : Held) (words : List Word) → is_some d.core.ending ≡ true → words ≡ slice_set d.words l.slot (Home l.published) → record d { words = words } ≡ brought d l
brought_after d l words e ew =
    let kept : d.core ≡ back_core d l = ap (λ (b : Bool). cond b d.core (record d.core { rows = slice_set d.core.rows l.number (Some (back_row l.present (is_some (asks (code_kind d.code) d.limit l.present)))) })) (sym e) in
    (λ i. record d { core = kept i; words = ew i })

-- ---- settling

pub looks_none : (d : Desk) → OnlyLooks d d
looks_none d = ([], refl)

pub looks_leases : (old new : Desk) → OnlyLooks old new → KeepsLeases old new
looks_leases old new h = (looks_keep old h.0 new h.1).leases

pub looks_ending : (old new : Desk) → OnlyLooks old new → old.core.ending ≡ None → new.core.ending ≡ None
looks_ending old new h e = ap (λ (d : Desk). d.core.ending) (looks_keep old h.0 new h.1).rest ∙ e

pub looks_least : (old new : Desk) (o : Option Key) → OnlyLooks old new → least (keys waiting_clock 0 old.core.rows) ≡ o → least (keys waiting_clock 0 new.core.rows) ≡ o
looks_least old new o h e = (looks_keep old h.0 new h.1).least ∙ e

-- what looks leave as it was, as the crates above read it
pub looks_taken : (old new : Desk) → OnlyLooks old new → (new.taken ≡ old.taken) × (new.traced ≡ old.traced) × (new.pending ≡ old.pending) × (new.lines ≡ old.lines)
looks_taken old new h =
    let e = (looks_keep old h.0 new h.1).rest in
    (ap (λ (d : Desk). d.taken) e, ap (λ (d : Desk). d.traced) e, ap (λ (d : Desk). d.pending) e, ap (λ (d : Desk). d.lines) e)

pub looks_run : (old new : Desk) → OnlyLooks old new → (new.code ≡ old.code) × (new.limit ≡ old.limit) × (new.traces ≡ old.traces)
looks_run old new h =
    let e = (looks_keep old h.0 new h.1).rest in
    (ap (λ (d : Desk). d.code) e, ap (λ (d : Desk). d.limit) e, ap (λ (d : Desk). d.traces) e)

-- one look more
pub looks_more : (old mid : Desk) (x : Sighting) → OnlyLooks old mid → IsSight mid x → OnlyLooks old (seen_desk x mid)
looks_more old mid x h s = (x ∷ h.0, (mid, h.1, s, refl))

-- a goroutine stands before the least parked key, and is not lent, or was seen
pub waits_by : (old new : Desk) (n : ℕ) (k : Key) → IsDesk new → OnlyLooks old new → new.core.ending ≡ None → least (keys waiting_clock 0 new.core.rows) ≡ Some k → IsBefore new.core.rows k n → (HasLease new.core.rows n → IsSeen old new n) → Waits old n new
waits_by old new n k h only going e before seen = record { only = only; stands = waits_key new n k h going e before; seen = seen }

pub turn_by : (d : Desk) (k : Key) → d.core.ending ≡ None → least (keys waiting_clock 0 d.core.rows) ≡ Some k → has_turn k 0 d.core.rows ≡ true → HasTurn d.core k.number
turn_by d k going e turn = record { key = k; number = refl; least = e; turn = turn; going = going }
