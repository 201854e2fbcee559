-- A lease, and what its name says of it.
use Rattle.std.specs.Prelude.{◌≡◌, ℕ, ◌≤◌}
use Rattle.atomic_table.specs.Seated.{TableId}
use Rattle.bytecode.specs.Code.{Code}
use Rattle.bytecode.specs.Machine.{code_kind}
use Rattle.clock_table.specs.declared.table.LeaseSeat.{LeaseSeat}
use Rattle.clock_table.specs.Clocks.{loan_for}
use Rattle.clock_table.specs.Seats.{lease_clock, lease_loan, lease_table}
use Rattle.goroutine_vm.specs.Advance.{IsStateOf}
use Rattle.turn_rule.specs.Turns.{Leads}
use Rattle.word.specs.Worlds.{rules}
use Rattle.book.specs.Desks.{Held}

-- a lease of the book with this table, code and limit: local steps alone lead to its present state, and its seat may publish what they reach
pub record IsHeldBy (table : TableId) (code : Code) (limit : ℕ) (l : Held) (seat : LeaseSeat) : Type 0 where
  pub code_is : l.code ≡ code
  pub limit_is : l.limit ≡ limit
  pub state : IsStateOf l.code l.limit l.present
  pub leads : Leads (rules (code_kind l.code) l.limit) l.base l.present
  pub table_is : lease_table seat ≡ table
  pub loan : lease_loan seat ≡ loan_for l.code l.limit l.number l.base
  pub clock : lease_clock seat ≤ l.present.clock
