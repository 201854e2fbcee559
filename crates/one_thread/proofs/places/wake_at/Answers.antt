use Rattle.std.proofs.Common.{None, Some, ◌∙◌, arith}
use Rattle.std.proofs.lemmas.Result.{on_ok_weaker}
use Rattle.word.specs.Related.{kind_of}
use Rattle.word.specs.Views.{reply_of}
use Rattle.one_thread.proofs.Standing.{awake_woken, none_stays, read_at, within_at, within_set, woken_ok}
use Rattle.one_thread.proofs.places.wake_at.Goals as goal

pub returns-in_default-clause-woken : goal.returns-in_default-clause-woken
returns-in_default-clause-woken g c =
    rw (← c.places.view_is)
    (none_stays (kind_of (g.P.Interpreter.parts c.args.program.now)) (g.P.Interpreter.held c.args.program.now) c.places.inside.all.items c.args.place c.index_mut.result.now c.args.clock (reply_of c.args.reply) (omega arith) c.index_mut.ensures.value c.in_default.is)

pub returns-clause-within : goal.returns-clause-within
returns-clause-within g c = λ limit le all.
    let was = c.places.inside.all.items in
    let within = rw (← c.places.view_is) at all in
    let at = read_at was c.args.place c.index_mut.result.now None (omega arith) c.index_mut.ensures.value ∙ c.in-Some.is in
    within_set limit _ c.args.place None tt (within_set limit was c.args.place (Some c.in-Some.goroutine) (within_at limit was c.args.place c.in-Some.goroutine (omega arith) at within) within)

pub returns-clause-woken : goal.returns-clause-woken
returns-clause-woken g c =
    let was = c.places.inside.all.items in
    let read = read_at was c.args.place c.index_mut.result.now None (omega arith) c.index_mut.ensures.value ∙ c.in-Some.is in
    rw (← c.places.view_is)
    (awake_woken (kind_of (g.P.Interpreter.parts c.args.program.now)) (g.P.Interpreter.held c.args.program.now) was c.args.place c.in-Some.goroutine c.args.clock (reply_of c.args.reply) (omega arith) read c.if-goroutine.false)

pub returns-then-goroutine-clause-within : goal.returns-then-goroutine-clause-within
returns-then-goroutine-clause-within g c =
    on_ok_weaker c.tell-told.result (λ is limit le all. within_set limit c.places.inside.all.items c.args.place (Some c.tell-told.new.goroutine) (rw is le) (rw (← c.places.view_is) at all)) c.tell-told.ensures.clock

pub returns-then-goroutine-clause-woken : goal.returns-then-goroutine-clause-woken
returns-then-goroutine-clause-woken g c =
    let was = c.places.inside.all.items in
    let read = read_at was c.args.place c.index_mut.result.now None (omega arith) c.index_mut.ensures.value ∙ c.in-Some.is in
    rw (← c.places.view_is)
    (woken_ok (kind_of (g.P.Interpreter.parts c.args.program.now)) (g.P.Interpreter.held c.args.program.now) c.tell-told.result was c.args.place c.in-Some.goroutine c.tell-told.new.goroutine c.args.clock (reply_of c.args.reply) read (omega arith) c.if-goroutine.true c.tell-told.ensures.told c.tell-told.ensures.awake)
