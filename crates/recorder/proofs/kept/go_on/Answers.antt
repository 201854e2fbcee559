use Rattle.std.proofs.Common.{refl, sym, subst, arith}
use Rattle.book.specs.Desks.{Desk}
use Rattle.recorder.specs.Recorded.{IsLater}
use Rattle.recorder.proofs.Books.{brought_later}
use Rattle.recorder.proofs.kept.go_on.Goals as goal

pub returns : goal.returns
returns g c =
    let lent = rw c.in-Some.is at c.in_ok-lease.ensures.lent in
    let mid : IsLater c.args.book.now c.lend.new.self 0 = subst (λ (d : Desk). IsLater c.args.book.now d 0) (sym lent) (record { code = refl; limit = refl; events = omega arith }) in
    subst (λ (d : Desk). IsLater c.args.book.now d 0) (sym c.bring.ensures.brought) (brought_later c.args.book.now c.lend.new.self c.work.new.self mid)
