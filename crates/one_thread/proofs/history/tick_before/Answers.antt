use Rattle.std.proofs.Common.{ℕ, ◌≡◌, None, Option, subst, sym, ◌∙◌}
use Rattle.reference_world.specs.Deeds.{SharedValue}
use Rattle.word.specs.Related.{kind_of}
use Rattle.word.specs.declared.request.Event.{Event as Recorded}
use Rattle.one_thread.specs.Histories.{Adds}
use Rattle.one_thread.specs.Progress.{event_in, ticks_left}
use Rattle.one_thread.specs.Snapshots.{StaysBefore}
use Rattle.one_thread.proofs.Falling.{after_slides, slide_seen_falls, slide_unseen}
use Rattle.one_thread.proofs.Histories.{adds_after}
use Rattle.one_thread.proofs.history.tick_before.Goals as goal

pub returns-then-not-is_slide-clause-adds : goal.returns-then-not-is_slide-clause-adds
returns-then-not-is_slide-clause-adds g c =
    adds_after (kind_of (g.P.Interpreter.parts c.args.program.now)) (g.P.Interpreter.held c.args.program.now) c.args.run.now c.slides.run c.make_move.new.run (event_in c.in_ok-made.made) c.slides.invariant.adds c.in_ok-made.ensures.adds

pub returns-then-not-is_slide-clause-falls : goal.returns-then-not-is_slide-clause-falls
returns-then-not-is_slide-clause-falls g c =
    after_slides c.args.until (λ (state : g.row.P-State.Denot). g.P.Interpreter.weight c.args.program.now (g.P.Interpreter.held c.args.program.now state)) c.in_ok-made.made c.args.run.now c.slides.run c.make_move.new.run (sym c.if-not-is_slide.ensures) c.slides.invariant.limit c.slides.invariant.ticks c.slides.invariant.same c.in_ok-made.ensures.falls

pub returns-then-not-is_slide-clause-stays : goal.returns-then-not-is_slide-clause-stays
returns-then-not-is_slide-clause-stays g c =
    subst (λ (v : SharedValue). StaysBefore c.args.until v (event_in c.in_ok-made.made) c.make_move.new.run.shared) c.slides.invariant.same c.in_ok-made.ensures.stays

pub slides-preserved : goal.slides-preserved
slides-preserved g c =
    let is = sym c.if-not-is_slide.ensures in
    let falls = slide_seen_falls c.args.until (λ (state : g.row.P-State.Denot). g.P.Interpreter.weight c.args.program.now (g.P.Interpreter.held c.args.program.now state)) c.in_ok-made.made c.slides.run c.make_move.new.run is c.in_ok-made.ensures.falls in
    record {
      ready = c.in_ok-made.ensures.ready;
      goes = falls.3;
      adds = adds_after (kind_of (g.P.Interpreter.parts c.args.program.now)) (g.P.Interpreter.held c.args.program.now) c.args.run.now c.slides.run c.make_move.new.run None c.slides.invariant.adds
          (subst (λ (found : Option Recorded). Adds (kind_of (g.P.Interpreter.parts c.args.program.now)) (g.P.Interpreter.held c.args.program.now) c.slides.run found c.make_move.new.run) (slide_unseen c.in_ok-made.made is) c.in_ok-made.ensures.adds);
      limit = c.in_ok-made.ensures.limit ∙ c.slides.invariant.limit;
      ticks = subst (λ (k : ℕ). ticks_left k c.make_move.new.run.places ≡ ticks_left k c.slides.run.places) c.slides.invariant.limit falls.1 ∙ c.slides.invariant.ticks;
      same = falls.2 ∙ c.slides.invariant.same;
    }

pub slides-smaller : goal.slides-smaller
slides-smaller g c =
    (slide_seen_falls c.args.until (λ (state : g.row.P-State.Denot). g.P.Interpreter.weight c.args.program.now (g.P.Interpreter.held c.args.program.now state)) c.in_ok-made.made c.slides.run c.make_move.new.run (sym c.if-not-is_slide.ensures) c.in_ok-made.ensures.falls).0
