use Rattle.std.proofs.Common.{Option, sym, subst, ◌∙◌}
use Rattle.word.specs.declared.end.End.{End}
use Rattle.word.specs.Related.{kind_of}
use Rattle.one_thread.specs.Worlds.{Goes}
use Rattle.one_thread.proofs.Falling.{no_tick_falls, tick_falls, tick_goes}
use Rattle.one_thread.proofs.running.next_event.Goals as goal

pub returns-in_err-made-clause-begins : goal.returns-in_err-made-clause-begins
returns-in_err-made-clause-begins g c = λ known st. c.next_tick.ensures.begins known (c.ticks.invariant.kept known st)

pub returns-then-not-is_tick-clause-begins : goal.returns-then-not-is_tick-clause-begins
returns-then-not-is_tick-clause-begins g c = λ known st. c.next_tick.ensures.begins known (c.ticks.invariant.kept known st)

pub returns-then-not-is_tick-clause-goes : goal.returns-then-not-is_tick-clause-goes
returns-then-not-is_tick-clause-goes g c = λ known st.
    subst (λ (o : Option End). Goes (kind_of (g.P.Interpreter.parts c.args.program.now)) (g.P.Interpreter.held c.args.program.now) c.args.limit known (g.W.Write.contents c.next_tick.new.output) c.next_tick.new.places c.next_tick.new.shared o) (sym c.ending.ensures) (c.in_ok-made.ensures.goes known (c.ticks.invariant.kept known st))

pub returns-then-not-is_tick-clause-going : goal.returns-then-not-is_tick-clause-going
returns-then-not-is_tick-clause-going g c = λ none. c.in_ok-made.ensures.going (sym c.ending.ensures ∙ none)

pub returns-then-not-is_tick-clause-falls : goal.returns-then-not-is_tick-clause-falls
returns-then-not-is_tick-clause-falls g c = λ none.
    no_tick_falls c.args.limit c.in_ok-made.made c.ticks.places c.args.shared.now c.ticks.shared c.next_tick.new.places c.next_tick.new.shared (sym c.if-not-is_tick.ensures) c.ticks.invariant.same c.in_ok-made.ensures.falls (sym c.ending.ensures ∙ none)

pub ticks-preserved : goal.ticks-preserved
ticks-preserved g c =
    let is = sym c.if-not-is_tick.ensures in
    let falls = tick_falls c.args.limit c.in_ok-made.made c.ticks.places c.ticks.shared c.next_tick.new.places c.next_tick.new.shared is c.in_ok-made.ensures.falls in
    let none = tick_goes c.in_ok-made.made is in
    record {
      going = c.in_ok-made.ensures.going none;
      within = c.in_ok-made.ensures.within;
      kept = λ known st. subst (λ (o : Option End). Goes (kind_of (g.P.Interpreter.parts c.args.program.now)) (g.P.Interpreter.held c.args.program.now) c.args.limit known (g.W.Write.contents c.next_tick.new.output) c.next_tick.new.places c.next_tick.new.shared o) none (c.in_ok-made.ensures.goes known (c.ticks.invariant.kept known st));
      same = falls.1 ∙ c.ticks.invariant.same;
    }

pub ticks-smaller : goal.ticks-smaller
ticks-smaller g c =
    (tick_falls c.args.limit c.in_ok-made.made c.ticks.places c.ticks.shared c.next_tick.new.places c.next_tick.new.shared (sym c.if-not-is_tick.ensures) c.in_ok-made.ensures.falls).0
