-- What work makes of a lease.
use Rattle.std.proofs.Common.{◌≡◌, ℕ, ◌≤◌, Bool, true, Result, Ok, ◌∙◌, sym, subst, arith}
use Rattle.std.specs.Prelude.{IfOk}
use Rattle.atomic_table.specs.Seated.{TableId}
use Rattle.bytecode.specs.Code.{Code}
use Rattle.bytecode.specs.Machine.{code_kind}
use Rattle.clock_table.specs.declared.table.LeaseSeat.{LeaseSeat}
use Rattle.clock_table.specs.declared.view.Loan.{Loan}
use Rattle.clock_table.specs.Clocks.{Reaches, loan_for}
use Rattle.clock_table.specs.Seats.{lease_clock, lease_loan, lease_slot, lease_table}
use Rattle.goroutine_vm.specs.Advance.{Goes, IsStateOf}
use Rattle.turn_rule.specs.Turns.{Leads, moved}
use Rattle.turn_rule.proofs.Stable.{moved_climbs}
use Rattle.word.specs.Worlds.{rules}
use Rattle.word.proofs.Laws.{laws}
use Rattle.world_core_base.specs.Slots.{State}
use Rattle.world_core_base.proofs.Leases.{leads_goes}
use Rattle.book.specs.Desks.{Held}
use Rattle.book.specs.Leases.{IsHeldBy}

-- an answer that a goroutine asks is right
pub yes_asks : {E : Type 0} (answer : Result Bool E) (stands a : Bool) → IfOk answer (λ x. x ≡ a) → (stands ≡ true → answer ≡ Ok true) → stands ≡ true → a ≡ true
yes_asks {E} answer stands a asks is e = sym (subst (λ (r : Result Bool E). IfOk r (λ x. x ≡ a)) (is e) asks)

-- local steps never lower the clock
goes_rises : (code : Code) (limit quantum : ℕ) (s t : State) → Goes code limit quantum s t → s.clock ≤ t.clock
goes_rises code limit quantum s t g =
    let r = rules (code_kind code) limit in
    let up : s.clock ≤ (moved r g.0 s).clock = moved_climbs r (laws (code_kind code) limit) g.0 s in
    subst (λ (x : State). s.clock ≤ x.clock) g.2 up

-- the loan allows the clock of whatever its base leads to
leads_reaches : (code : Code) (limit number : ℕ) (base present : State) (loan : Loan) → loan ≡ loan_for code limit number base → Leads (rules (code_kind code) limit) base present → Reaches loan present.clock
leads_reaches code limit number base present loan e h =
    subst (λ (l : Loan). Reaches l present.clock) (sym e) (h.0, subst (λ (x : State). present.clock ≤ x.clock) (sym h.1) (omega arith))

module _ (table : TableId) (code : Code) (limit : ℕ) (l : Held) (seat : LeaseSeat) (quantum : ℕ) (new : State) (h : IsHeldBy table code limit l seat) (g : Goes l.code l.limit quantum l.present new) where
  -- the seat may publish the clock to which work leads
  pub may_rise : lease_clock seat ≤ new.clock
  may_rise =
      let up = goes_rises l.code l.limit quantum l.present new g in
      let le = h.clock in
      omega (arith, up, le)

  pub may_reach : Reaches (lease_loan seat) new.clock
  may_reach = leads_reaches l.code l.limit l.number l.base new (lease_loan seat) h.loan (leads_goes l.code l.limit quantum l.base l.present new h.leads g)

  -- it has published the present clock
  pub worked : (after : LeaseSeat) → IsStateOf l.code l.limit new → lease_clock after ≡ new.clock → lease_table after ≡ lease_table seat → lease_loan after ≡ lease_loan seat
      → IsHeldBy table code limit (record l { present = new; slot = lease_slot after; published = lease_clock after }) after
  worked after state clock same loan = record {
    code_is = h.code_is;
    limit_is = h.limit_is;
    state = state;
    leads = leads_goes l.code l.limit quantum l.base l.present new h.leads g;
    table_is = same ∙ h.table_is;
    loan = loan ∙ h.loan;
    clock = omega (arith, clock);
  }
