use Rattle.std.proofs.Common.{◌≤◌, ◌∙◌, arith, length}
use Rattle.recorder.proofs.Books.{all_there, taken, waiting}
use Rattle.recorder.proofs.kept.keep_from.Goals as goal
use Rattle.recorder.proofs.kept.keep_from.Goals.{else-kept-skip-via-then-kept-skip+else-len-most, else-kept-skip-via-else-kept-skip, in-Committed+in_ok-take-in-Committed, in-Waiting}

pub returns-in-Ended-clause-rest : goal.returns-in-Ended-clause-rest
returns-in-Ended-clause-rest g c =
    rw (c.ended.ensures.0, c.ended.ensures.1, c.ended.ensures.2)
    (all_there c.args.book.now.code c.args.book.now.limit c.rounds.kept.before c.rounds.book c.next.new.book c.rounds.kept.events.items c.in_ok-event.field-0 c.rounds.invariant.0 c.in_ok-event.ensures c.in-Ended.end c.in-Ended.is)

pub rounds-preserved : goal.rounds-preserved
rounds-preserved g c =
    elim c.match-branch-3.branch [
      | in-Committed+in_ok-take-in-Committed w ↦
          let few : length w.take.new.self.events.items ≤ c.args.most =
          elim c.else-kept-skip.branch [
            | else-kept-skip-via-then-kept-skip+else-len-most v ↦ omega (arith, v.if-len-most.false, v.len.ensures, w.in_ok-take-in-Committed.ensures.more)
            | else-kept-skip-via-else-kept-skip v ↦ rw (w.in_ok-take-in-Committed.ensures.skips (omega (arith, v.if-kept-skip.false))) (omega arith)
          ] in
          rw w.kept-is (
            taken c.args.book.now.code c.args.book.now.limit c.rounds.kept.before w.take.new.self.before c.rounds.book c.next.new.book c.rounds.kept.events.items w.take.new.self.events.items
                c.in_ok-event.field-0 w.in-Committed.event c.rounds.invariant.0 c.in_ok-event.ensures w.in-Committed.is w.in_ok-take-in-Committed.ensures.moves,
            few,
            w.in_ok-take-in-Committed.ensures.begins,
            w.take.ensures.end ∙ c.rounds.invariant.3,
          )
      | in-Waiting w ↦ rw w.kept-is (
        waiting c.args.book.now.code c.args.book.now.limit c.rounds.kept.before c.rounds.book c.next.new.book c.rounds.kept.events.items c.in_ok-event.field-0 c.rounds.invariant.0 c.in_ok-event.ensures w.in-Waiting.field-0 w.in-Waiting.is,
        c.rounds.invariant.1,
        c.rounds.invariant.2,
        c.rounds.invariant.3,
      )
    ]
