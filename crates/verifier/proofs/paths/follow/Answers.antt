use Rattle.std.proofs.Common.{◌≡◌, ◌∙◌, sym, subst, Some, slice_get}
use Rattle.bytecode.specs.Rules.{ways}
use Rattle.verifier.specs.Tables.{Followed}
use Rattle.verifier.proofs.Visits.{followed}
use Rattle.verifier.proofs.paths.follow.Goals as goal

pub returns-in_ok-out-in-Some-clause-ok : goal.returns-in_ok-out-in-Some-clause-ok
returns-in_ok-out-in-Some-clause-ok c =
    let code = c.args.code.now in
    let f = c.args.f.now in
    let old = c.args.table.now.items in
    let new = c.lead-merge.new.table.items in
    let way : slice_get (ways code c.args.i c.args.place) c.args.number ≡ Some c.in-Some.to = sym c.way.ensures ∙ c.in-Some.is in
    subst (λ o. Followed o code f old new c.args.place c.args.i c.args.kinds.now c.args.number) (sym c.arrive.ensures)
    (followed c.lead-merge.result code f old new c.args.place c.args.i c.args.kinds.now c.in_ok-out-in-Some.out.items c.args.number c.in-Some.to c.lead-merge.ensures.there way c.in_ok-out-in-Some.ensures.ok c.lead-merge.ensures.led)
