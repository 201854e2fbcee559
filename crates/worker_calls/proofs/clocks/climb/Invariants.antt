use Rattle.std.specs.Prelude.{◌^◌}
use Rattle.book.specs.Leases.{IsHeldBy}
use Rattle.clock_table.specs.Seats.{lease_clock, lease_slot, lease_table}
use Rattle.worker_calls.proofs.clocks.climb.Given as goal

abbrev pub invariant-loop : goal.invariant-loop
invariant-loop l =
    IsHeldBy (lease_table l.initial.lease) l.program (2 ^ 62)
    (record { code = l.program; limit = 2 ^ 62; number = 1; base = l.initial.state; present = l.state; slot = lease_slot l.lease; published = lease_clock l.lease })
    l.lease
