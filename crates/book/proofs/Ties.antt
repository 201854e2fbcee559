-- Each call of a book keeps its words tied to its rows.
use Rattle.logical_clock.specs.declared.limits.TheConstants.{MAX_GOROUTINES}
use Rattle.std.proofs.Common.{◌≡◌, ◌≢◌, ℕ, zero, suc, ◌<◌, Bool, true, false, List, [], ◌∷◌, length, Option, Some, None, refl, sym, ap, ◌∙◌, subst, inl, inr, get_or-set_same, get_or-set_other}
use Rattle.std.specs.Prelude.{slice_index_or, slice_set, unwrap_or}
use Rattle.std.specs.Option.{is_some}
use Rattle.std.proofs.lemmas.Bool.{true≢false, cases_eq, cases_lt}
use Rattle.std.proofs.lemmas.List.{get_or_past, set_past}
use Rattle.bytecode.specs.Code.{Code}
use Rattle.bytecode.specs.Machine.{code_begin, code_kind}
use Rattle.clock_table.specs.declared.view.Loan.{Loan}
use Rattle.clock_table.specs.declared.view.Row.{Row as Word}
use Rattle.clock_table.specs.declared.view.Row.TheVariants.{Home, Lent, Back}
use Rattle.clock_table.specs.Clocks.{IsFree, IsLentOn, WasLent, loan_for, opening_rows, row as word_at}
use Rattle.slot_index.specs.Numbers.{Numbered, slot_of}
use Rattle.turn_rule.specs.declared.Row.{Row}
use Rattle.word.specs.declared.request.Event.{Event as Recorded}
use Rattle.word.specs.Kinds.{at}
use Rattle.word.specs.Worlds.{rules}
use Rattle.world_core_base.specs.Cores.{CoreValue, HasTurn, IsFreeIn, IsLentRow}
use Rattle.world_core_base.specs.Slots.{State, Rows, free_row, lent_row}
use Rattle.book.specs.Desks.{CommitsNext, Desk, Held, IsDesk, IsLent, KeepsLeases, Sighting, brought, lent_desk, opened_desk, seen_desk}
use Rattle.book.specs.Slots.{IsOut, IsPlaced, IsTakenOut, IsTied, SamePlaces, place_of}
use Rattle.book.proofs.Books.{after_turn, lent_stays}
use Rattle.book.proofs.Lent.{performed_lent}
use Rattle.book.proofs.Looks.{at_look, before_look, lent_still, looked_on, unlooked_on, was_there}

some_not_none : {A : Type 0} (x : A) → Some x ≡ None → ⊥
some_not_none x e = true≢false (ap is_some e)

same_some : {A : Type 0} (x y : A) → Some x ≡ Some y → y ≡ x
same_some x y e = cc

within : {A : Type 0} (xs : List (Option A)) (n : ℕ) (x : A) → slice_index_or xs n None ≡ Some x → n < length xs
within xs n x e = elim (cases_lt n (length xs)) [
  | inl l ↦ l
  | inr l ↦ absurd (some_not_none x (sym e ∙ get_or_past xs n None l))
]

-- ---- slots

place_there : (places : Numbered) (n s : ℕ) → slot_of places n ≡ Some s → place_of places n ≡ s
place_there places n s e = ap (λ (o : Option ℕ). unwrap_or o 0) e

place_same : (old new : Numbered) (n : ℕ) → slot_of new n ≡ slot_of old n → place_of new n ≡ place_of old n
place_same old new n e = ap (λ (o : Option ℕ). unwrap_or o 0) e

-- ---- words

free_not_lent : (loan : Loan) (w : Word) → IsFree w → IsLentOn loan w → ⊥
free_not_lent loan (Home c) f on = on
free_not_lent loan (Lent known seen) f on = f
free_not_lent loan (Back was known c) f on = f

one_loan : (a b : Loan) (w : Word) → IsLentOn a w → IsLentOn b w → a ≡ b
one_loan a b (Home c) x y = absurd x
one_loan a b (Lent known seen) x y = sym x ∙ y
one_loan a b (Back was known c) x y = absurd x

pub was_on : (loan : Loan) (clock : ℕ) (w : Word) → WasLent loan clock w → IsLentOn loan w
was_on loan clock (Home c) h = h
was_on loan clock (Lent known seen) h = h.0
was_on loan clock (Back was known c) h = h

-- a slot whose word is lent is one of the table
pub on_within : (words : List Word) (s : ℕ) (loan : Loan) → IsLentOn loan (word_at words s) → s < length words
on_within words s loan on = elim (cases_lt s (length words)) [
  | inl l ↦ l
  | inr l ↦ absurd (subst (IsLentOn loan) (get_or_past words s (Home 0) l) on)
]

-- the word that was set is not lent, wherever the slot is
home_set : (words : List Word) (s c : ℕ) (loan : Loan) → IsLentOn loan (word_at (slice_set words s (Home c)) s) → ⊥
home_set words s c loan on = elim (cases_lt s (length words)) [
  | inl l ↦ subst (IsLentOn loan) (get_or-set_same words s (Home c) (Home 0) l) on
  | inr l ↦ subst (IsLentOn loan) (ap (λ (ws : List Word). word_at ws s) (set_past words s (Home c) l) ∙ get_or_past words s (Home 0) l) on
]

word_other : (words : List Word) (s j : ℕ) (w : Word) (loan : Loan) → j ≢ s → IsLentOn loan (word_at words j) → IsLentOn loan (word_at (slice_set words s w) j)
word_other words s j w loan ne on = subst (IsLentOn loan) (sym (get_or-set_other words s j w (Home 0) ne)) on

word_back : (words : List Word) (s j : ℕ) (w : Word) (loan : Loan) → j ≢ s → IsLentOn loan (word_at (slice_set words s w) j) → IsLentOn loan (word_at words j)
word_back words s j w loan ne on = subst (IsLentOn loan) (get_or-set_other words s j w (Home 0) ne) on

-- ---- rows

lent_other_row : (rows : Rows) (n k : ℕ) (o : Option (Row State)) (base : State) → k ≢ n → IsLentRow rows k base → IsLentRow (slice_set rows n o) k base
lent_other_row rows n k o base ne lent = (lent.0, get_or-set_other rows n k o None ne ∙ lent.1, lent.2, lent.3)

free_other : (rows : Rows) (n k : ℕ) (s base : State) → IsFreeIn rows n s → IsLentRow rows k base → k ≢ n
free_other rows n k s base free lent same =
    let row : lent.0 ≡ free_row s = same_some (free_row s) lent.0 (sym free ∙ ap (λ (j : ℕ). slice_index_or rows j None) (sym same) ∙ lent.1) in
    true≢false (sym lent.2 ∙ ap (λ (r : Row State). is_some r.lease) row)

-- ---- opening

home_words : (n s : ℕ) (loan : Loan) → IsLentOn loan (word_at (opening_rows n) s) → ⊥
home_words zero s loan on = on
home_words (suc n) zero loan on = on
home_words (suc n) (suc s) loan on = home_words n s loan on

unlent_row : (s : State) (row : Row State) → Some (free_row s) ≡ Some row → is_some row.lease ≡ true → ⊥
unlent_row s row e is = true≢false (sym is ∙ ap (λ (r : Row State). is_some r.lease) (same_some (free_row s) row e))

unlent : (a : State) (n : ℕ) (row : Row State) → slice_index_or (None ∷ Some (free_row a) ∷ []) n None ≡ Some row → is_some row.lease ≡ true → ⊥
unlent a zero row e is = true≢false (ap is_some (sym e))
unlent a (suc zero) row e is = unlent_row a row e is
unlent a (suc (suc n)) row e is = true≢false (ap is_some (sym e))

pub opened_tied : (code : Code) (limit : ℕ) (traces : Bool) (places : Numbered) → ((n : ℕ) → slot_of places n ≡ None) → IsTied (opened_desk code limit traces) places
opened_tied code limit traces places nobody = record {
  lent = λ going n row e is. absurd (unlent (at 0 (code_begin code (code_kind code).main [])) n row e is);
  back = λ s loan on. absurd (home_words MAX_GOROUTINES s loan on);
  placed = λ n s e. absurd (some_not_none s (sym e ∙ nobody n));
}

-- ---- lend

pub lent_tied : (d : Desk) (places new : Numbered) (l : Held) → IsTied d places → IsFreeIn d.core.rows l.number l.base → l.slot < length d.words → IsFree (word_at d.words l.slot) → IsPlaced places new l.number l.slot → IsTied (lent_desk d l) new
lent_tied d places new l t free size home placed =
    let n = l.number in
    let loan = loan_for d.code d.limit n l.base in
    let word : Word = Lent loan l.base.clock in
    let rows = slice_set d.core.rows n (Some (lent_row l.base)) in
    let words = slice_set d.words l.slot word in
    let there : slice_index_or rows n None ≡ Some (lent_row l.base) = get_or-set_same d.core.rows n (Some (lent_row l.base)) None (within d.core.rows n (free_row l.base) free) in
    let on : IsLentOn loan (word_at words l.slot) = subst (IsLentOn loan) (sym (get_or-set_same d.words l.slot word (Home 0) size)) refl in
    let out : IsOut (lent_desk d l) new l.slot loan = record { code = refl; limit = refl; row = (lent_row l.base, there, refl, refl); place = placed.here } in
    record {
      lent = λ going k row e is. elim (cases_eq k n) [
        | inl same ↦
            let row_is : row ≡ lent_row l.base = same_some (lent_row l.base) row (sym there ∙ ap (λ (j : ℕ). slice_index_or rows j None) (sym same) ∙ e) in
            let state : l.base ≡ row.state = ap (λ (r : Row State). r.state) (sym row_is) in
            let place : l.slot ≡ place_of new k = sym (place_there new n l.slot placed.here) ∙ ap (place_of new) (sym same) in
            let terms : loan ≡ loan_for d.code d.limit k row.state = (λ i. loan_for d.code d.limit (sym same i) (state i)) in
            subst (λ (j : ℕ). IsLentOn (loan_for d.code d.limit k row.state) (word_at words j)) place (subst (λ (m : Loan). IsLentOn m (word_at words l.slot)) terms on)
        | inr other ↦
            let old = t.lent going k row (sym (get_or-set_other d.core.rows n k (Some (lent_row l.base)) None other) ∙ e) is in
            let ne : place_of places k ≢ l.slot = λ q. free_not_lent (loan_for d.code d.limit k row.state) (word_at d.words l.slot) home (subst (λ (j : ℕ). IsLentOn (loan_for d.code d.limit k row.state) (word_at d.words j)) q old) in
            subst (λ (j : ℕ). IsLentOn (loan_for d.code d.limit k row.state) (word_at words j)) (sym (place_same places new k (placed.others k other))) (word_other d.words l.slot (place_of places k) word (loan_for d.code d.limit k row.state) ne old)
      ];
      back = λ s terms was. elim (cases_eq s l.slot) [
        | inl same ↦
            let here : IsLentOn terms (word_at words l.slot) = subst (λ (j : ℕ). IsLentOn terms (word_at words j)) same was in
            subst (λ (j : ℕ). IsOut (lent_desk d l) new j terms) (sym same) (subst (IsOut (lent_desk d l) new l.slot) (one_loan loan terms (word_at words l.slot) on here) out)
        | inr other ↦
            let old = t.back s terms (word_back d.words l.slot s word terms other was) in
            let ne : terms.number ≢ n = free_other d.core.rows n terms.number l.base terms.base free old.row in
            record { code = old.code; limit = old.limit; row = lent_other_row d.core.rows n terms.number (Some (lent_row l.base)) terms.base ne old.row; place = placed.others terms.number ne ∙ old.place }
      ];
      placed = λ k s e. elim (cases_eq k n) [
        | inl same ↦
            let at : s ≡ l.slot = same_some l.slot s (sym placed.here ∙ ap (slot_of new) (sym same) ∙ e) in
            (loan, subst (λ (j : ℕ). IsLentOn loan (word_at words j)) (sym at) on, sym same)
        | inr other ↦
            let old = t.placed k s (sym (placed.others k other) ∙ e) in
            let ne : s ≢ l.slot = λ q. free_not_lent old.0 (word_at d.words l.slot) home (subst (λ (j : ℕ). IsLentOn old.0 (word_at d.words j)) q old.1) in
            (old.0, word_other d.words l.slot s word old.0 ne old.1, old.2)
      ];
    }

-- one that may be lent has no slot
pub unplaced : (d : Desk) (places : Numbered) (n : ℕ) (base : State) → IsTied d places → IsFreeIn d.core.rows n base → slot_of places n ≡ None
unplaced d places n base t free = by (slot_of places n) refl
  where
    by : (o : Option ℕ) → slot_of places n ≡ o → o ≡ None
    by None e = refl
    by (Some s) e =
        let p = t.placed n s e in
        let o = t.back s p.0 p.1 in
        absurd (free_other d.core.rows n p.0.number base p.0.base free o.row p.2)

-- no memory
pub same_tied : (d : Desk) (places new : Numbered) → SamePlaces places new → IsTied d places → IsTied d new
same_tied d places new same t = record {
  lent = λ going n row e is. subst (λ (j : ℕ). IsLentOn (loan_for d.code d.limit n row.state) (word_at d.words j)) (sym (place_same places new n (same n))) (t.lent going n row e is);
  back = λ s loan on.
      let o = t.back s loan on in
      record { code = o.code; limit = o.limit; row = o.row; place = same loan.number ∙ o.place };
  placed = λ n s e. t.placed n s (sym (same n) ∙ e);
}

-- ---- bring

-- a goroutine that has a seat at this slot is out
pub is_out : (d : Desk) (places : Numbered) (l : Held) → IsTied d places → l.code ≡ d.code → l.limit ≡ d.limit → IsLentOn (loan_for d.code d.limit l.number l.base) (word_at d.words l.slot) → IsLent d l
is_out d places l t code limit on = record { code = sym code; limit = sym limit; row = (t.back l.slot (loan_for d.code d.limit l.number l.base) on).row; word = on }

-- a goroutine that is out has that slot
pub slot_out : (d : Desk) (places : Numbered) (l : Held) → IsTied d places → IsLent d l → slot_of places l.number ≡ Some l.slot
slot_out d places l t out = (t.back l.slot (loan_for d.code d.limit l.number l.base) out.word).place

-- two numbers have no slot in common
slot_apart : (d : Desk) (places : Numbered) (l : Held) (k s : ℕ) → IsTied d places → IsLent d l → k ≢ l.number → slot_of places k ≡ Some s → s ≢ l.slot
slot_apart d places l k s t out other e q =
    let p = t.placed k s e in
    other (sym p.2 ∙ ap (λ (m : Loan). m.number) (one_loan p.0 (loan_for d.code d.limit l.number l.base) (word_at d.words l.slot) (subst (λ (j : ℕ). IsLentOn p.0 (word_at d.words j)) q p.1) out.word))

-- the words that are lent are others'
word_apart : (d : Desk) (places : Numbered) (l : Held) (s : ℕ) (terms : Loan) → IsTied d places → IsLent d l → s ≢ l.slot → IsLentOn terms (word_at d.words s) → terms.number ≢ l.number
word_apart d places l s terms t out other was q =
    other (sym (same_some s l.slot (sym (t.back s terms was).place ∙ ap (slot_of places) q ∙ slot_out d places l t out)))

brought_placed : (d : Desk) (places new : Numbered) (l : Held) → IsTied d places → IsLent d l → IsTakenOut places new l.number → (k s : ℕ) → slot_of new k ≡ Some s → (loan : Loan) × IsLentOn loan (word_at (slice_set d.words l.slot (Home l.published)) s) × (loan.number ≡ k)
brought_placed d places new l t out taken k s e = elim (cases_eq k l.number) [
  | inl same ↦ absurd (some_not_none s (sym e ∙ ap (slot_of new) same ∙ taken.here))
  | inr other ↦
      let there : slot_of places k ≡ Some s = sym (taken.others k other) ∙ e in
      let p = t.placed k s there in
      (p.0, word_other d.words l.slot s (Home l.published) p.0 (slot_apart d places l k s t out other there) p.1, p.2)
]

brought_over : (d : Desk) (places new : Numbered) (l : Held) → IsTied d places → is_some d.core.ending ≡ true → IsLent d l → IsTakenOut places new l.number → IsTied (record d { words = slice_set d.words l.slot (Home l.published) }) new
brought_over d places new l t over out taken = record {
  lent = λ going n row e is. absurd (true≢false (sym over ∙ going));
  back = λ s terms was. elim (cases_eq s l.slot) [
    | inl same ↦ absurd (home_set d.words l.slot l.published terms (subst (λ (j : ℕ). IsLentOn terms (word_at (slice_set d.words l.slot (Home l.published)) j)) same was))
    | inr other ↦
        let on = word_back d.words l.slot s (Home l.published) terms other was in
        let o = t.back s terms on in
        record { code = o.code; limit = o.limit; row = o.row; place = taken.others terms.number (word_apart d places l s terms t out other on) ∙ o.place }
  ];
  placed = brought_placed d places new l t out taken;
}

-- before an end it comes back in a row that is not lent
brought_going : (d : Desk) (places new : Numbered) (l : Held) (row : Row State) → IsTied d places → is_some d.core.ending ≡ false → IsLent d l → IsTakenOut places new l.number → row.lease ≡ None
    → IsTied (record d { core = record d.core { rows = slice_set d.core.rows l.number (Some row) }; words = slice_set d.words l.slot (Home l.published) }) new
brought_going d places new l row t going out taken unlent =
    let n = l.number in
    let there : slice_index_or (slice_set d.core.rows n (Some row)) n None ≡ Some row = get_or-set_same d.core.rows n (Some row) None (within d.core.rows n out.row.0 out.row.1) in
    record {
      lent = λ on k old e is. elim (cases_eq k n) [
        | inl same ↦
            let is_row : old ≡ row = same_some row old (sym there ∙ ap (λ (j : ℕ). slice_index_or (slice_set d.core.rows n (Some row)) j None) (sym same) ∙ e) in
            absurd (true≢false (sym is ∙ ap (λ (r : Row State). is_some r.lease) is_row ∙ ap is_some unlent))
        | inr other ↦
            let was = t.lent going k old (sym (get_or-set_other d.core.rows n k (Some row) None other) ∙ e) is in
            let ne : place_of places k ≢ l.slot = λ q. other (ap (λ (m : Loan). m.number) (one_loan (loan_for d.code d.limit k old.state) (loan_for d.code d.limit n l.base) (word_at d.words l.slot) (subst (λ (j : ℕ). IsLentOn (loan_for d.code d.limit k old.state) (word_at d.words j)) q was) out.word)) in
            subst (λ (j : ℕ). IsLentOn (loan_for d.code d.limit k old.state) (word_at (slice_set d.words l.slot (Home l.published)) j)) (sym (place_same places new k (taken.others k other)))
            (word_other d.words l.slot (place_of places k) (Home l.published) (loan_for d.code d.limit k old.state) ne was)
      ];
      back = λ s terms was. elim (cases_eq s l.slot) [
        | inl same ↦ absurd (home_set d.words l.slot l.published terms (subst (λ (j : ℕ). IsLentOn terms (word_at (slice_set d.words l.slot (Home l.published)) j)) same was))
        | inr other ↦
            let on = word_back d.words l.slot s (Home l.published) terms other was in
            let o = t.back s terms on in
            let ne = word_apart d places l s terms t out other on in
            record { code = o.code; limit = o.limit; row = lent_other_row d.core.rows n terms.number (Some row) terms.base ne o.row; place = taken.others terms.number ne ∙ o.place }
      ];
      placed = brought_placed d places new l t out taken;
    }

pub brought_tied : (d : Desk) (places new : Numbered) (l : Held) (b : Bool) → is_some d.core.ending ≡ b → IsTied d places → IsLent d l → IsTakenOut places new l.number → IsTied (brought d l) new
brought_tied d places new l true e t out taken = rw e (brought_over d places new l t e out taken)
brought_tied d places new l false e t out taken = rw e (brought_going d places new l _ t e out taken refl)

-- ---- work without a lease

pub here_tied : (d : Desk) (places : Numbered) (n : ℕ) (base : State) (row : Row State) → IsTied d places → IsFreeIn d.core.rows n base → row.lease ≡ None → IsTied (record d { core = record d.core { rows = slice_set d.core.rows n (Some row) } }) places
here_tied d places n base row t free unlent =
    let there : slice_index_or (slice_set d.core.rows n (Some row)) n None ≡ Some row = get_or-set_same d.core.rows n (Some row) None (within d.core.rows n (free_row base) free) in
    record {
      lent = λ going k old e is. elim (cases_eq k n) [
        | inl same ↦
            let is_row : old ≡ row = same_some row old (sym there ∙ ap (λ (j : ℕ). slice_index_or (slice_set d.core.rows n (Some row)) j None) (sym same) ∙ e) in
            absurd (true≢false (sym is ∙ ap (λ (r : Row State). is_some r.lease) is_row ∙ ap is_some unlent))
        | inr other ↦ t.lent going k old (sym (get_or-set_other d.core.rows n k (Some row) None other) ∙ e) is
      ];
      back = λ s terms on.
          let o = t.back s terms on in
          let ne = free_other d.core.rows n terms.number base terms.base free o.row in
          record { code = o.code; limit = o.limit; row = lent_other_row d.core.rows n terms.number (Some row) terms.base ne o.row; place = o.place };
      placed = t.placed;
    }

pub here_leases : (d : Desk) (n : ℕ) (base : State) (row : Row State) → IsFreeIn d.core.rows n base → KeepsLeases d (record d { core = record d.core { rows = slice_set d.core.rows n (Some row) } })
here_leases d n base row free l out =
    let ne = free_other d.core.rows n l.number base l.base free out.row in
    record { code = out.code; limit = out.limit; row = lent_other_row d.core.rows n l.number (Some row) l.base ne out.row; word = out.word }

-- ---- settle

pub seen_tied : (d : Desk) (places : Numbered) (x : Sighting) → IsTied d places → IsTied (seen_desk x d) places
seen_tied d places x t = record {
  lent = λ going k row e is.
      let w = was_there d.core.rows x.number x.found k row e in
      let old = t.lent going k w.0 w.1 (ap is_some (sym w.2.lease) ∙ is) in
      let terms = loan_for d.code d.limit k row.state in
      let now : IsLentOn terms (word_at d.words (place_of places k)) = subst (λ (s : State). IsLentOn (loan_for d.code d.limit k s) (word_at d.words (place_of places k))) (sym w.2.state) old in
      at_look (IsLentOn terms) d.words x.slot x.found (place_of places k) (looked_on x.found terms) now;
  back = λ s loan on.
      let o = t.back s loan (before_look (IsLentOn loan) d.words x.slot x.found s (unlooked_on x.found loan) on) in
      record { code = o.code; limit = o.limit; row = lent_still d.core.rows x.number x.found loan.number loan.base o.row; place = o.place };
  placed = λ n s e.
      let p = t.placed n s e in
      (p.0, at_look (IsLentOn p.0) d.words x.slot x.found s (looked_on x.found p.0) p.1, p.2);
}

-- the goroutine that had the turn was served
pub turn_tied : (d : Desk) (places : Numbered) (n : ℕ) (core : CoreValue) (h : IsDesk d) → HasTurn d.core n → core.rows ≡ (after_turn d h.at.1 n).rows → IsTied d places → IsTied (record d { core = core }) places
turn_tied d places n core h turn rows t =
    let m = h.at.1 in
    let a = h.at.2 in
    record {
      lent = λ going k row e is.
          let there : slice_index_or m.rows k None ≡ Some row = performed_lent (rules (code_kind d.code) d.limit) m n (slice_index_or m.rows n None) k row (ap (λ (rows : Rows). slice_index_or rows k None) (sym rows) ∙ e) is in
          t.lent (ap is_some turn.going) k row (ap (λ (rows : Rows). slice_index_or rows k None) a.core.rows ∙ there) is;
      back = λ s loan on.
          let o = t.back s loan on in
          record { code = o.code; limit = o.limit; row = lent_stays d n core h turn rows loan.number loan.base o.row; place = o.place };
      placed = t.placed;
    }

-- what was taken out counts for nothing
pub taken_tied : (d : Desk) (places : Numbered) (taken traced : ℕ) (pending lines : List ℕ) → IsTied d places → IsTied (record d { taken = taken; pending = pending; traced = traced; lines = lines }) places
taken_tied d places taken traced pending lines t = record {
  lent = t.lent;
  back = λ s loan on.
      let o = t.back s loan on in
      record { code = o.code; limit = o.limit; row = o.row; place = o.place };
  placed = t.placed;
}

pub committed_tied : (d : Desk) (places : Numbered) (event : Recorded) (core : CoreValue) (pending lines : List ℕ) → IsDesk d → CommitsNext d event (record d { core = core; pending = pending; lines = lines }) → IsTied d places → IsTied (record d { core = core; pending = pending; lines = lines }) places
committed_tied d places event core pending lines h c t =
    taken_tied (record d { core = core }) places d.taken d.traced pending lines (turn_tied d places c.number core h c.turn (c.performs h.at.1 h.at.2.core).core.rows t)
