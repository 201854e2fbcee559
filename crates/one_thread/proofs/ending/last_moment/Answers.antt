use Rattle.std.proofs.Common.{sym, ◌∙◌, arith}
use Rattle.word.specs.Related.{kind_of}
use Rattle.one_thread.proofs.Moves.{deadlock, deadlock_last, one_more_lasts, opened_first, opened_stands}
use Rattle.one_thread.proofs.ending.last_moment.Goals as goal

pub loop-count-init : goal.loop-count-init
loop-count-init g c =
    let stands = opened_stands (kind_of (g.P.Interpreter.parts c.args.program.now)) (g.P.Interpreter.held c.args.program.now) c.args.limit (g.W.Write.contents c.args.output.now) c.in_ok-goroutines.goroutines c.in_ok-shared.shared c.in_ok-goroutines.ensures.open c.in_ok-shared.ensures in
    record {
      going = stands.goes_on;
      within = c.in_ok-goroutines.ensures.within c.args.limit;
      stands = stands;
      world = opened_first (kind_of (g.P.Interpreter.parts c.args.program.now)) (g.P.Interpreter.held c.args.program.now) c.args.limit c.in_ok-goroutines.goroutines c.in_ok-shared.shared c.in_ok-goroutines.ensures.open c.in_ok-shared.ensures;
      lasts = λ n less. absurd (omega (arith, less));
    }

pub loop-count-preserved : goal.loop-count-preserved
loop-count-preserved g c = record {
  going = c.in_ok-made.ensures.going (sym c.ending.ensures ∙ c.in_default-ending.is);
  within = c.in_ok-made.ensures.within;
  stands = rw (sym c.ending.ensures ∙ c.in_default-ending.is) at (c.in_ok-made.ensures.goes (g.W.Write.contents c.args.output.now) c.loop-count.invariant.stands);
  world = c.in_ok-made.ensures.moves c.loop-count.count c.loop-count.invariant.world (sym c.ending.ensures ∙ c.in_default-ending.is);
  lasts = one_more_lasts (kind_of (g.P.Interpreter.parts c.args.program.now)) (g.P.Interpreter.held c.args.program.now) c.args.limit c.loop-count.count c.loop-count.goroutines c.loop-count.shared c.loop-count.invariant.world c.loop-count.invariant.going c.in-Some.turn
      (sym c.least.ensures ∙ c.in-Some.is) c.loop-count.invariant.lasts;
}

pub returns-in_default-clause-whole : goal.returns-in_default-clause-whole
returns-in_default-clause-whole g c =
    rw c.deserted.ensures.end
    (deadlock (kind_of (g.P.Interpreter.parts c.args.program.now)) (g.P.Interpreter.held c.args.program.now) c.args.limit (g.W.Write.contents c.args.output.now) (g.W.Write.contents c.loop-count.output) c.loop-count.goroutines c.loop-count.shared c.loop-count.invariant.stands (sym c.least.ensures ∙ c.in_default.is))

pub returns-in_default-clause-last : goal.returns-in_default-clause-last
returns-in_default-clause-last g c =
    rw (c.deserted.ensures.turn, c.deserted.ensures.goroutines, c.into_all.ensures)
    (deadlock_last (kind_of (g.P.Interpreter.parts c.args.program.now)) (g.P.Interpreter.held c.args.program.now) c.args.limit (g.W.Write.contents c.args.output.now) (g.W.Write.contents c.loop-count.output) c.loop-count.goroutines c.loop-count.shared c.loop-count.invariant.stands (sym c.least.ensures ∙ c.in_default.is))

pub returns-in-Some-ending-clause-whole : goal.returns-in-Some-ending-clause-whole
returns-in-Some-ending-clause-whole g c =
    rw c.stopped.ensures.end
    (rw (sym c.ending.ensures ∙ c.in-Some-ending.is) at (c.in_ok-made.ensures.goes (g.W.Write.contents c.args.output.now) c.loop-count.invariant.stands))
