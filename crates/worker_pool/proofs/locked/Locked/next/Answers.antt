use Rattle.std.proofs.Common.{ap, ◌∙◌}
use Rattle.book.specs.Desks.{Desk}
use Rattle.book.proofs.Pieces.{handing}
use Rattle.worker_pool.proofs.locked.Locked.next.Goals as goal

pub new-requires : goal.new-requires
new-requires g c =
    let d = c.settle_all.new.self in
    let o = c.in_ok-output.ensures in
    let t = c.in_ok-trace.ensures in
    handing g.B.RunName.code g.B.RunName.limit g.B.RunName.traces d.book c.in_ok-output.output c.in_ok-trace.trace c.in_ok-end.end d.ours
    o.piece o.place.0 o.place.1
    t.piece (t.place.0 ∙ ap (λ (x : Desk). x.traced) o.taken) (t.place.1 ∙ ap (λ (x : Desk). x.lines) o.taken)
    c.in_ok-end.ensures.end
