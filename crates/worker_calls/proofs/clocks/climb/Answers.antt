use Rattle.std.proofs.Common.{refl, arith}
use Rattle.std.specs.Prelude.{◌^◌}
use Rattle.book.specs.Desks.{Held}
use Rattle.book.proofs.Working.{may_reach, may_rise, worked}
use Rattle.clock_table.specs.Seats.{lease_clock, lease_slot, lease_table}
use Rattle.worker_calls.proofs.clocks.climb.Goals as goal

pub loop-init : goal.loop-init
loop-init c = record {
  code_is = refl;
  limit_is = refl;
  state = c.requires.state;
  leads = (0, refl);
  table_is = refl;
  loan = c.requires.lease.0;
  clock = omega (arith, c.requires.lease.1);
}

pub advance-requires : goal.advance-requires
advance-requires c = c.loop.invariant.state

pub advance-requires-in-loop-clause-rises : goal.advance-requires-in-loop-clause-rises
advance-requires-in-loop-clause-rises c =
    let held : Held = record { code = c.args.program.now; limit = 2 ^ 62; number = 1; base = c.args.state; present = c.loop.state; slot = lease_slot c.loop.lease; published = lease_clock c.loop.lease } in
    may_rise (lease_table c.args.lease) c.args.program.now (2 ^ 62) held c.loop.lease 1 c.advance.new.self c.loop.invariant c.advance.ensures.steps

pub advance-requires-in-loop-clause-bound : goal.advance-requires-in-loop-clause-bound
advance-requires-in-loop-clause-bound c =
    let held : Held = record { code = c.args.program.now; limit = 2 ^ 62; number = 1; base = c.args.state; present = c.loop.state; slot = lease_slot c.loop.lease; published = lease_clock c.loop.lease } in
    may_reach (lease_table c.args.lease) c.args.program.now (2 ^ 62) held c.loop.lease 1 c.advance.new.self c.loop.invariant c.advance.ensures.steps

pub loop-preserved : goal.loop-preserved
loop-preserved c =
    let held : Held = record { code = c.args.program.now; limit = 2 ^ 62; number = 1; base = c.args.state; present = c.loop.state; slot = lease_slot c.loop.lease; published = lease_clock c.loop.lease } in
    let after = c.advance-in-loop in
    worked (lease_table c.args.lease) c.args.program.now (2 ^ 62) held c.loop.lease 1 c.advance.new.self c.loop.invariant c.advance.ensures.steps after.new.self c.advance.ensures.state after.ensures.clock after.ensures.same.0 after.ensures.same.2
