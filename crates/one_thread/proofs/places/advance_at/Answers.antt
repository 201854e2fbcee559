use Rattle.std.proofs.Common.{None, ◌∙◌, arith}
use Rattle.word.specs.Related.{kind_of}
use Rattle.one_thread.proofs.Falling.{turn_falls_ok}
use Rattle.one_thread.proofs.Standing.{read_at, turned_ok}
use Rattle.one_thread.proofs.places.advance_at.Goals as goal

pub returns-clause-turn : goal.returns-clause-turn
returns-clause-turn g c =
    let all = c.places.inside.all.items in
    let read = read_at all c.args.place c.index_mut.result.now None (omega arith) c.index_mut.ensures.value ∙ c.in-Some.is in
    rw (← c.places.view_is)
    (turned_ok (kind_of (g.P.Interpreter.parts c.args.program.now)) (g.P.Interpreter.held c.args.program.now) c.args.limit c.advance-turn.result all c.args.place c.in-Some.goroutine c.advance-turn.new.goroutine read (omega arith) c.if-goroutine.false c.advance-turn.ensures.asleep c.advance-turn.ensures.turn)

pub returns-clause-falls : goal.returns-clause-falls
returns-clause-falls g c =
    let all = c.places.inside.all.items in
    let read = read_at all c.args.place c.index_mut.result.now None (omega arith) c.index_mut.ensures.value ∙ c.in-Some.is in
    rw (← c.places.view_is)
    (turn_falls_ok (λ (state : g.row.P-State.Denot). g.P.Interpreter.weight c.args.program.now (g.P.Interpreter.held c.args.program.now state)) c.args.limit c.advance-turn.result all c.args.place c.in-Some.goroutine c.advance-turn.new.goroutine (omega arith) read c.advance-turn.ensures.falls)
