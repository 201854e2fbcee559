use Rattle.std.proofs.Common.{[], Some, None, refl, sym, ap, ◌∙◌}
use Rattle.std.specs.Prelude.{option_map}
use Rattle.word.specs.Related.{kind_of}
use Rattle.word.specs.Views.{event_of}
use Rattle.one_thread.proofs.Snapshots.{last_more, not_past_first, over_seen, reached, rested_seen, seen_as}
use Rattle.one_thread.proofs.snapshot.run_until.Goals as goal

pub events-init : goal.events-init
events-init g c = record {
  ready = c.in_ok-run.ensures.ready;
  goes = c.in_ok-run.ensures.goes;
  limit = c.in_ok-run.ensures.limit;
  last = ([], [], c.in_ok-run.ensures.after, refl);
  bound = not_past_first c.args.until _ c.in_ok-run.ensures.shared;
}

pub returns-in_default-clause-seen : goal.returns-in_default-clause-seen
returns-in_default-clause-seen g c =
    let made = c.snapshot_of.ensures in
    let falls = rw c.in_default.is at c.in_ok-seen.ensures.falls in
    let last = last_more (kind_of (g.P.Interpreter.parts c.args.program.now)) (g.P.Interpreter.held c.args.program.now) c.events.run c.event_before.new.run None c.events.event (rw c.in_default.is at c.in_ok-seen.ensures.adds) c.events.invariant.last in
    seen_as (kind_of (g.P.Interpreter.parts c.args.program.now)) (g.P.Interpreter.held c.args.program.now) c.args.limit _ _ _ _ _ _ _ _ made.goroutines made.shared (ap (option_map event_of) made.event) (made.end ∙ c.end.ensures)
    (rested_seen (kind_of (g.P.Interpreter.parts c.args.program.now)) (g.P.Interpreter.held c.args.program.now) c.event_before.new.run c.args.limit (c.in_ok-seen.ensures.limit ∙ c.events.invariant.limit) c.events.event last c.in_ok-seen.ensures.ready _ refl (λ none. let there = falls none in (there.0, there.1)))

pub returns-in_default-clause-reached : goal.returns-in_default-clause-reached
returns-in_default-clause-reached g c = λ none.
    let made = c.snapshot_of.ensures in
    let falls = rw c.in_default.is at c.in_ok-seen.ensures.falls in
    let stays = rw c.in_default.is at c.in_ok-seen.ensures.stays in
    let there = falls (sym (made.end ∙ c.end.ensures) ∙ none) in
    rw (made.goroutines, made.shared)
    (reached c.args.until there.0 c.event_before.new.run.places c.event_before.new.run.shared (option_map event_of c.events.event) there.2 (stays c.events.event c.events.invariant.bound) there.1)

pub returns-in_default-clause-bound : goal.returns-in_default-clause-bound
returns-in_default-clause-bound g c =
    let made = c.snapshot_of.ensures in
    let stays = rw c.in_default.is at c.in_ok-seen.ensures.stays in
    rw (made.event, made.shared) (stays c.events.event c.events.invariant.bound)

pub returns-in-Some-end-clause-seen : goal.returns-in-Some-end-clause-seen
returns-in-Some-end-clause-seen g c =
    let made = c.snapshot_of-in-Some-end.ensures in
    let last = last_more (kind_of (g.P.Interpreter.parts c.args.program.now)) (g.P.Interpreter.held c.args.program.now) c.events.run c.event_before.new.run (Some c.in-Some.seen) c.events.event (rw c.in-Some.is at c.in_ok-seen.ensures.adds) c.events.invariant.last in
    seen_as (kind_of (g.P.Interpreter.parts c.args.program.now)) (g.P.Interpreter.held c.args.program.now) c.args.limit _ _ _ _ _ _ _ _ made.goroutines made.shared (ap (option_map event_of) made.event) made.end
    (over_seen (kind_of (g.P.Interpreter.parts c.args.program.now)) (g.P.Interpreter.held c.args.program.now) c.event_before.new.run c.args.limit (c.in_ok-seen.ensures.limit ∙ c.events.invariant.limit) (Some c.in-Some.seen) last c.in-Some-end.end (sym c.end-in-events.ensures ∙ c.in-Some-end.is))

pub returns-in-Some-end-clause-bound : goal.returns-in-Some-end-clause-bound
returns-in-Some-end-clause-bound g c =
    let made = c.snapshot_of-in-Some-end.ensures in
    let stays = rw c.in-Some.is at c.in_ok-seen.ensures.stays in
    rw (made.event, made.shared) (stays c.events.event c.events.invariant.bound)

pub events-preserved : goal.events-preserved
events-preserved g c =
    let stays = rw c.in-Some.is at c.in_ok-seen.ensures.stays in
    record {
      ready = c.in_ok-seen.ensures.ready;
      goes = sym c.end-in-events.ensures ∙ c.in_default-end.is;
      limit = c.in_ok-seen.ensures.limit ∙ c.events.invariant.limit;
      last = last_more (kind_of (g.P.Interpreter.parts c.args.program.now)) (g.P.Interpreter.held c.args.program.now) c.events.run c.event_before.new.run (Some c.in-Some.seen) c.events.event (rw c.in-Some.is at c.in_ok-seen.ensures.adds) c.events.invariant.last;
      bound = stays c.events.event c.events.invariant.bound;
    }

pub events-smaller : goal.events-smaller
events-smaller g c =
    let falls = rw c.in-Some.is at c.in_ok-seen.ensures.falls in
    falls (sym c.end-in-events.ensures ∙ c.in_default-end.is)
