-- The rule of the table of clocks, and what each step does to the seats.
use Rattle.std.specs.Prelude.{◌≡◌, false, ℕ, ◌+◌, ◌<◌, ◌≤◌, List, [], length, replicate, slice_index, slice_index_or, slice_set, Some, None, MatchOption}
use Rattle.bytecode.specs.Code.{Code}
use Rattle.goroutine_vm.specs.Advance.{steps}
use Rattle.bytecode.specs.Machine.{Frames}
use Rattle.word.specs.Kinds.{Clocked}
use mathlib.Core.Option.{some}
use lib.ListN.{get_elem?}
use Rattle.atomic_table.specs.Table.{State, Me, Step}
use Rattle.clock_table.specs.declared.view.Loan.{Loan}
use Rattle.clock_table.specs.declared.view.Row.{Row}
use Rattle.clock_table.specs.declared.view.Row.TheVariants.{Home, Lent, Back}
use Rattle.clock_table.specs.declared.view.View.{View}
use Rattle.clock_table.specs.declared.view.View.TheVariants.{Desk, Lease, Spent}

-- the clock is no higher than that of a state to which the lent one leads by local steps alone
abbrev pub Reaches : Loan → ℕ → Type 0
Reaches loan p = (d : ℕ) × (p ≤ (steps loan.code loan.limit d loan.base).clock)

-- the row of a slot
abbrev pub row : List Row → ℕ → Row
row rows k = slice_index_or rows k (Home 0)

-- what a row says of the slot's word
abbrev pub RowFits : ℕ → Row → Type 0
RowFits w (Home c) = w ≡ c
RowFits w (Lent loan seen) = (loan.base.clock ≤ seen) × (seen ≤ w) × Reaches loan w
RowFits w (Back was loan c) = (w ≡ c) × MatchOption was ⊥ (λ x. (x.0 ≡ loan) × (x.1 ≤ c))

-- the slot is lent on these terms, whatever the book has seen
abbrev pub IsLentOn : Loan → Row → Type 0
IsLentOn terms (Home c) = ⊥
IsLentOn terms (Lent loan seen) = loan ≡ terms
IsLentOn terms (Back was loan c) = ⊥

-- one seat at most is the book's, and one at most has a slot
abbrev pub ViewFits : List ℕ → List Row → ℕ → (ℕ → ℕ) → ℕ → View → Type 0
ViewFits words rows desk owner id (Desk known looks) = (id ≡ desk) × (known ≡ rows)
ViewFits words rows desk owner id (Lease slot loan clock stores) = (owner slot ≡ id) × (slot < length words) × IsLentOn loan (row rows slot) × (slice_index words slot ≡ clock)
ViewFits words rows desk owner id Spent = Unit {0}

abbrev pub Kept : {S : Type 0} → State S View → Type 0
Kept s =
    (rows : List Row) × (desk : ℕ) × (owner : ℕ → ℕ)
    × (length rows ≡ length s.words)
    × ((k : ℕ) → k < length s.words → RowFits (slice_index s.words k) (row rows k))
    × ((id : ℕ) (v : View) → get_elem? s.views id ≡ some v → ViewFits s.words rows desk owner id v)

-- no slot is lent, and each clock is 0
abbrev pub opening_rows : ℕ → List Row
opening_rows slots = replicate slots (Home 0)

abbrev pub opening_view : ℕ → View
opening_view slots = Desk (opening_rows slots) 0

abbrev pub rows_of : View → List Row
rows_of (Desk rows looks) = rows
rows_of (Lease slot loan clock stores) = []
rows_of Spent = []

-- how many loads the seat has made
abbrev pub looks_of : View → ℕ
looks_of (Desk rows looks) = looks
looks_of (Lease slot loan clock stores) = 0
looks_of Spent = 0

-- how many stores a lease's seat has made
abbrev pub stores_of : View → ℕ
stores_of (Desk rows looks) = 0
stores_of (Lease slot loan clock stores) = stores
stores_of Spent = 0

-- the row after a look that found the clock p
abbrev pub looked : ℕ → Row → Row
looked p (Home c) = Home c
looked p (Lent loan seen) = Lent loan p
looked p (Back was loan c) = Back was loan c

abbrev pub StoresClock : {S : Type 0} → Step S → Me S View → ℕ → Me S View → Type 0
StoresClock s before clock after =
    (after.1 ≡ before.1) × (after.0 ≡ Desk (slice_set (rows_of before.0) s.word (Home clock)) (looks_of before.0))

abbrev pub lease_at : View → ℕ → View
lease_at (Desk rows looks) clock = Desk rows looks
lease_at (Lease slot loan old stores) clock = Lease slot loan clock (stores + 1)
lease_at Spent clock = Spent

abbrev pub PublishesClock : {S : Type 0} → Step S → Me S View → ℕ → Me S View → Type 0
PublishesClock s before clock after = (after.1 ≡ before.1) × (after.0 ≡ lease_at before.0 clock)

abbrev pub LooksAt : {S : Type 0} → Step S → Me S View → ℕ → Me S View → Type 0
LooksAt s before found after =
    let here = row (rows_of before.0) s.word in
    (after.1 ≡ before.1)
    × (after.0 ≡ Desk (slice_set (rows_of before.0) s.word (looked found here)) (looks_of before.0 + 1))
    × RowFits found here

-- the slot was lent on the terms of the seat that came back, and the last look was at most its clock
abbrev pub IsBack : ℕ → Row → Type 0
IsBack clock (Home c) = ⊥
IsBack clock (Lent loan seen) = ⊥
IsBack clock (Back was loan c) = (c ≡ clock) × MatchOption was ⊥ (λ x. (x.0 ≡ loan) × (x.1 ≤ c))

abbrev pub TakesClockBack : {S : Type 0} → Step S → Me S View → ℕ → Me S View → Type 0
TakesClockBack s before clock after =
    (after.1 ≡ before.1)
    × (after.0 ≡ Desk (slice_set (rows_of before.0) s.word (Home clock)) (looks_of before.0))
    × IsBack clock (row (rows_of before.0) s.word)

-- the clock that the word of a slot has which isn't lent
abbrev pub clock_of : Row → ℕ
clock_of (Home c) = c
clock_of (Lent loan seen) = seen
clock_of (Back was loan c) = c

abbrev pub desk_after_lend : ℕ → Loan → View → View
desk_after_lend slot loan v = Desk (slice_set (rows_of v) slot (Lent loan (clock_of (row (rows_of v) slot)))) (looks_of v)

abbrev pub new_lease : ℕ → Loan → View → View
new_lease slot loan v = Lease slot loan (clock_of (row (rows_of v) slot)) 0

abbrev pub no_loan : Loan
no_loan = record { code = record { functions = []; shapes = []; prints = []; selects = [] }; limit = 0; number = 0; base = record { clock = 0; doomed = false; state = [] } }

-- what the book knows once a seat with this loan and clock is taken in
abbrev pub back : Loan → ℕ → Row → Row
back loan clock (Home c) = Back None loan clock
back loan clock (Lent known seen) = Back (Some (known, seen)) loan clock
back loan clock (Back was old c) = Back None loan clock

abbrev pub desk_after_return : View → View → View
desk_after_return v (Desk rows looks) = v
desk_after_return v (Lease slot loan clock stores) = Desk (slice_set (rows_of v) slot (back loan clock (row (rows_of v) slot))) (looks_of v)
desk_after_return v Spent = v

abbrev pub loan_of : View → Loan
loan_of (Desk rows looks) = no_loan
loan_of (Lease slot loan clock stores) = loan
loan_of Spent = no_loan

-- the loan of a goroutine in this state
abbrev pub loan_for : Code → ℕ → ℕ → Clocked Frames → Loan
loan_for code limit number s = record { code = code; limit = limit; number = number; base = s }

abbrev pub desk_view : List Row → ℕ → Me (Unit {0}) View
desk_view rows looks = (Desk rows looks, [])

abbrev pub lease_view : ℕ → Loan → (clock stores : ℕ) → Me (Unit {0}) View
lease_view slot loan clock stores = (Lease slot loan clock stores, [])

abbrev pub IsFree : Row → Type 0
IsFree (Home c) = Unit {0}
IsFree (Lent loan seen) = ⊥
IsFree (Back was loan c) = ⊥

-- the slot was lent on these terms, and the last look was at most the clock
abbrev pub WasLent : Loan → ℕ → Row → Type 0
WasLent terms clock (Home c) = ⊥
WasLent terms clock (Lent loan seen) = (loan ≡ terms) × (seen ≤ clock)
WasLent terms clock (Back was loan c) = ⊥
