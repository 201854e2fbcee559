use Rattle.std.proofs.Common.{ℕ, None, subst}
use Rattle.word.specs.Related.{kind_of}
use Rattle.word.specs.Values.{Reply}
use Rattle.one_thread.specs.Places.{Sets, bed_at, woken_to}
use Rattle.one_thread.proofs.Standing.{wakes_more}
use Rattle.one_thread.proofs.places.wake_all.Goals as goal

pub loop-one-preserved : goal.loop-one-preserved
loop-one-preserved g c =
    let set = c.in_ok-wake_at.ensures.woken in
    let view = c.one.view_is in
    record {
      woken = wakes_more (kind_of (g.P.Interpreter.parts c.args.program.now)) (g.P.Interpreter.held c.args.program.now) c.args.clock c.loop-one.yielded c.in-Some.one c.args.places.now c.loop-one.places c.wake_at.new.places c.loop-one.invariant.woken (subst (λ (x : ℕ × Reply). Sets (g.P.Interpreter.held c.args.program.now) c.loop-one.places c.wake_at.new.places x.0 (woken_to (kind_of (g.P.Interpreter.parts c.args.program.now)) c.args.clock x.1 (bed_at (g.P.Interpreter.held c.args.program.now) c.loop-one.places x.0)) None) view set);
      within = λ limit soon start. c.in_ok-wake_at.ensures.within limit soon (c.loop-one.invariant.within limit soon start);
    }
