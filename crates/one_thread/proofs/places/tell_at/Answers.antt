use Rattle.std.proofs.Common.{None, ◌∙◌, arith}
use Rattle.word.specs.Related.{kind_of}
use Rattle.word.specs.Views.{reply_of}
use Rattle.one_thread.proofs.Standing.{read_at, told_ok}
use Rattle.one_thread.proofs.places.tell_at.Goals as goal

pub returns-clause-told : goal.returns-clause-told
returns-clause-told g c =
    let all = c.places.inside.all.items in
    let read = read_at all c.args.place c.index_mut.result.now None (omega arith) c.index_mut.ensures.value ∙ c.in-Some.is in
    rw (← c.places.view_is)
    (told_ok (kind_of (g.P.Interpreter.parts c.args.program.now)) (g.P.Interpreter.held c.args.program.now) c.tell-told.result all c.args.place c.in-Some.goroutine c.tell-told.new.goroutine c.args.clock (reply_of c.args.reply) read (omega arith) c.tell-told.ensures.told c.tell-told.ensures.awake)
