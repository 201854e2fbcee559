use Rattle.std.proofs.Common.{ℕ, ◌+◌, ◌∙◌, ap, sym}
use Rattle.word.specs.Related.{kind_of}
use Rattle.word.specs.Views.{request_of}
use Rattle.one_thread.proofs.Histories.{performed_adds}
use Rattle.one_thread.proofs.history.make_request.Goals as goal

pub returns-clause-ready : goal.returns-clause-ready
returns-clause-ready g c =
    let ready = rw (← c.run.view_is) at c.requires.ready in
    let goes = rw (← c.run.view_is) at c.requires.goes in
    let soon = rw (← c.run.view_is) at c.requires.soon in
    let one = c.at-later.ensures ∙ ap (λ (n : ℕ). n + 1) c.time.ensures.time in
    record {
      limit = ready.limit;
      going = λ none. sym c.ending-run-inside.ensures ∙ none;
      within = λ none. c.in_ok-apply.ensures.within c.run.inside.limit (rw one soon) (ready.within goes);
    }

pub returns-clause-adds : goal.returns-clause-adds
returns-clause-adds g c =
    let done = c.in_ok-deed.ensures in
    rw (← c.run.view_is)
    (performed_adds (kind_of (g.P.Interpreter.parts c.args.program.now)) (g.P.Interpreter.held c.args.program.now) _ (rw (← c.run.view_is) at c.requires.goes) (rw (← c.run.view_is) at c.requires.ready)
    c.args.place c.args.clock (request_of c.args.request) c.in_ok-deed.deed c.perform_seen.new.self done.performs c.in_ok-deed.event done.event
    c.apply.new.places c.at-later.result (c.at-later.ensures ∙ ap (λ (n : ℕ). n + 1) c.time.ensures.time) c.in_ok-apply.ensures.applies c.ending-run-inside.result c.ending-run-inside.ensures)

pub returns-clause-room : goal.returns-clause-room
returns-clause-room g c = λ none. c.in_ok-deed.ensures.room (sym c.ending-run-inside.ensures ∙ none)
