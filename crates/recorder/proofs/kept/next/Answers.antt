use Rattle.std.proofs.Common.{subst}
use Rattle.book.specs.declared.settled.Settled.{Settled}
use Rattle.recorder.specs.Recorded.{Comes}
use Rattle.recorder.proofs.Books.{later_still, settles_comes}
use Rattle.recorder.proofs.kept.next.Goals as goal

pub returns-in_ok-go_on-in-Waiting : goal.returns-in_ok-go_on-in-Waiting
returns-in_ok-go_on-in-Waiting g c =
    let old = c.args.book.now in
    let mid = c.settle.new.self in
    let dropped = c.drop_output.new.book in
    later_still old dropped c.go_on.new.book
    (later_still old mid dropped
    (subst (λ (s : Settled). Comes old s mid) c.in-Waiting.is (settles_comes old c.in_ok-settled.settled mid c.in_ok-settled.ensures.settles))
    c.in_ok-drop_output-in-Waiting.ensures)
    c.in_ok-go_on-in-Waiting.ensures

pub returns-in_default : goal.returns-in_default
returns-in_default g c = settles_comes c.args.book.now c.in_ok-settled.settled c.settle.new.self c.in_ok-settled.ensures.settles
