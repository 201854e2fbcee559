use Rattle.std.proofs.Common.{ℕ, ◌<◌, None, Option, subst, sym, ◌∙◌}
use Rattle.reference_world.specs.Deeds.{SharedValue}
use Rattle.word.specs.Related.{kind_of}
use Rattle.word.specs.declared.request.Event.{Event as Recorded}
use Rattle.one_thread.specs.Histories.{Adds}
use Rattle.one_thread.specs.Progress.{EventSeenFalls, event_in, ticks_left}
use Rattle.one_thread.specs.Snapshots.{StaysBefore}
use Rattle.one_thread.proofs.Falling.{after_ticks, tick_seen_falls, tick_unseen}
use Rattle.one_thread.proofs.Histories.{adds_after}
use Rattle.one_thread.proofs.history.event_before.Goals as goal

pub returns-then-not-is_tick-clause-adds : goal.returns-then-not-is_tick-clause-adds
returns-then-not-is_tick-clause-adds g c =
    subst (λ (found : Option Recorded). Adds (kind_of (g.P.Interpreter.parts c.args.program.now)) (g.P.Interpreter.held c.args.program.now) c.args.run.now found c.tick_before.new.run) (sym c.event.ensures)
    (adds_after (kind_of (g.P.Interpreter.parts c.args.program.now)) (g.P.Interpreter.held c.args.program.now) c.args.run.now c.ticks.run c.tick_before.new.run (event_in c.in_ok-made.made) c.ticks.invariant.adds c.in_ok-made.ensures.adds)

pub returns-then-not-is_tick-clause-falls : goal.returns-then-not-is_tick-clause-falls
returns-then-not-is_tick-clause-falls g c =
    subst (λ (found : Option Recorded). EventSeenFalls c.args.until found c.args.run.now c.tick_before.new.run) (sym c.event.ensures)
    (after_ticks c.args.until c.in_ok-made.made c.args.run.now c.ticks.run c.tick_before.new.run (sym c.if-not-is_tick.ensures) c.ticks.invariant.same c.in_ok-made.ensures.falls)

pub returns-then-not-is_tick-clause-stays : goal.returns-then-not-is_tick-clause-stays
returns-then-not-is_tick-clause-stays g c =
    subst (λ (found : Option Recorded). StaysBefore c.args.until c.args.run.now.shared found c.tick_before.new.run.shared) (sym c.event.ensures)
    (subst (λ (v : SharedValue). StaysBefore c.args.until v (event_in c.in_ok-made.made) c.tick_before.new.run.shared) c.ticks.invariant.same c.in_ok-made.ensures.stays)

pub ticks-preserved : goal.ticks-preserved
ticks-preserved g c =
    let is = sym c.if-not-is_tick.ensures in
    let falls = tick_seen_falls c.args.until c.in_ok-made.made c.ticks.run c.tick_before.new.run is c.in_ok-made.ensures.falls in
    record {
      ready = c.in_ok-made.ensures.ready;
      goes = falls.2;
      adds = adds_after (kind_of (g.P.Interpreter.parts c.args.program.now)) (g.P.Interpreter.held c.args.program.now) c.args.run.now c.ticks.run c.tick_before.new.run None c.ticks.invariant.adds
          (subst (λ (found : Option Recorded). Adds (kind_of (g.P.Interpreter.parts c.args.program.now)) (g.P.Interpreter.held c.args.program.now) c.ticks.run found c.tick_before.new.run) (tick_unseen c.in_ok-made.made is) c.in_ok-made.ensures.adds);
      limit = c.in_ok-made.ensures.limit ∙ c.ticks.invariant.limit;
      same = falls.1 ∙ c.ticks.invariant.same;
    }

pub ticks-smaller : goal.ticks-smaller
ticks-smaller g c =
    let falls = tick_seen_falls c.args.until c.in_ok-made.made c.ticks.run c.tick_before.new.run (sym c.if-not-is_tick.ensures) c.in_ok-made.ensures.falls in
    subst (λ (k : ℕ). ticks_left k c.tick_before.new.run.places < ticks_left k c.ticks.run.places) c.ticks.invariant.limit falls.0
