use Rattle.recorder.proofs.Books.{all_there, taken, waiting}
use Rattle.recorder.proofs.kept.keep_last.Goals as goal
use Rattle.recorder.proofs.kept.keep_last.Goals.{in-Committed+in_ok-push-in-Committed, in-Waiting}

pub returns-in-Ended-clause-rest : goal.returns-in-Ended-clause-rest
returns-in-Ended-clause-rest g c =
    rw (c.ended.ensures.0, c.ended.ensures.1, c.ended.ensures.2)
    (all_there c.args.book.now.code c.args.book.now.limit c.rounds.latest.before c.rounds.book c.next.new.book c.rounds.latest.events.items c.in_ok-event.field-0 c.rounds.invariant.0 c.in_ok-event.ensures c.in-Ended.end c.in-Ended.is)

pub rounds-preserved : goal.rounds-preserved
rounds-preserved g c =
    elim c.match-branch-3.branch [
      | in-Committed+in_ok-push-in-Committed w ↦ rw w.latest-is (
        taken c.args.book.now.code c.args.book.now.limit c.rounds.latest.before w.push.new.self.before c.rounds.book c.next.new.book c.rounds.latest.events.items w.push.new.self.events.items
            c.in_ok-event.field-0 w.in-Committed.event c.rounds.invariant.0 c.in_ok-event.ensures w.in-Committed.is w.in_ok-push-in-Committed.ensures.moves,
        w.in_ok-push-in-Committed.ensures.few,
        w.in_ok-push-in-Committed.ensures.full,
      )
      | in-Waiting w ↦ rw w.latest-is (
        waiting c.args.book.now.code c.args.book.now.limit c.rounds.latest.before c.rounds.book c.next.new.book c.rounds.latest.events.items c.in_ok-event.field-0 c.rounds.invariant.0 c.in_ok-event.ensures w.in-Waiting.field-0 w.in-Waiting.is,
        c.rounds.invariant.1,
        c.rounds.invariant.2,
      )
    ]
