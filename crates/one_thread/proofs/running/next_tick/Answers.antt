use Rattle.std.proofs.Common.{Option, sym, subst, ◌∙◌}
use Rattle.word.specs.declared.end.End.{End}
use Rattle.word.specs.Related.{kind_of}
use Rattle.one_thread.specs.Worlds.{Goes}
use Rattle.one_thread.proofs.Falling.{no_slide_falls, slide_falls, slide_goes}
use Rattle.one_thread.proofs.running.next_tick.Goals as goal

pub returns-in_err-made-clause-begins : goal.returns-in_err-made-clause-begins
returns-in_err-made-clause-begins g c = λ known st. c.one_move.ensures.begins known (c.slides.invariant.kept known st)

pub returns-then-not-is_slide-clause-begins : goal.returns-then-not-is_slide-clause-begins
returns-then-not-is_slide-clause-begins g c = λ known st. c.one_move.ensures.begins known (c.slides.invariant.kept known st)

pub returns-then-not-is_slide-clause-goes : goal.returns-then-not-is_slide-clause-goes
returns-then-not-is_slide-clause-goes g c = λ known st. c.in_ok-made.ensures.goes known (c.slides.invariant.kept known st)

pub returns-then-not-is_slide-clause-falls : goal.returns-then-not-is_slide-clause-falls
returns-then-not-is_slide-clause-falls g c =
    no_slide_falls (λ (state : g.row.P-State.Denot). g.P.Interpreter.weight c.args.program.now (g.P.Interpreter.held c.args.program.now state)) c.args.limit c.in_ok-made.made c.args.places.now c.slides.places c.args.shared.now c.slides.shared c.one_move.new.places c.one_move.new.shared (sym c.if-not-is_slide.ensures) c.slides.invariant.ticks c.slides.invariant.same c.in_ok-made.ensures.falls

pub slides-preserved : goal.slides-preserved
slides-preserved g c =
    let is = sym c.if-not-is_slide.ensures in
    let falls = slide_falls (λ (state : g.row.P-State.Denot). g.P.Interpreter.weight c.args.program.now (g.P.Interpreter.held c.args.program.now state)) c.args.limit c.in_ok-made.made c.slides.places c.slides.shared c.one_move.new.places c.one_move.new.shared is c.in_ok-made.ensures.falls in
    let none = slide_goes c.in_ok-made.made is in
    record {
      going = c.in_ok-made.ensures.going none;
      within = c.in_ok-made.ensures.within;
      kept = λ known st. subst (λ (o : Option End). Goes (kind_of (g.P.Interpreter.parts c.args.program.now)) (g.P.Interpreter.held c.args.program.now) c.args.limit known (g.W.Write.contents c.one_move.new.output) c.one_move.new.places c.one_move.new.shared o) none (c.in_ok-made.ensures.goes known (c.slides.invariant.kept known st));
      ticks = falls.1 ∙ c.slides.invariant.ticks;
      same = falls.2 ∙ c.slides.invariant.same;
    }

pub slides-smaller : goal.slides-smaller
slides-smaller g c =
    (slide_falls (λ (state : g.row.P-State.Denot). g.P.Interpreter.weight c.args.program.now (g.P.Interpreter.held c.args.program.now state)) c.args.limit c.in_ok-made.made c.slides.places c.slides.shared c.one_move.new.places c.one_move.new.shared (sym c.if-not-is_slide.ensures) c.in_ok-made.ensures.falls).0
