use Rattle.std.proofs.Common.{subst, sym, ◌∙◌, ◌+◌}
use Rattle.verifier.specs.Tables.{Going}
use Rattle.verifier.proofs.Holds.{going, gone}
use Rattle.verifier.proofs.paths.pass.Goals.{in-Settles, in-Grows}
use Rattle.verifier.proofs.paths.pass.Goals as goal

pub look-requires-clause-named : goal.look-requires-clause-named
look-requires-clause-named c = c.requires.named c.loop-place.place

pub loop-place-preserved : goal.loop-place-preserved
loop-place-preserved c =
    let code = c.args.code.now in
    let f = c.args.f.now in
    let old = c.args.table.now.items in
    let mid = c.loop-place.table.items in
    let new = c.look.new.table.items in
    let g = c.loop-place.invariant.2 in (
      c.in_ok-look.ensures.len ∙ c.loop-place.invariant.0,
      c.in_ok-look.ensures.reached,
      elim c.match-branch-2.branch [
        | in-Settles w ↦ subst (λ b. Going b code f old new (c.loop-place.place + 1)) (sym w.grew-is)
            (going c.loop-place.grew code f old mid new c.loop-place.place g (rw w.in-Settles.is at c.in_ok-look.ensures.ok))
        | in-Grows w ↦ subst (λ b. Going b code f old new (c.loop-place.place + 1)) (sym w.grew-is)
            (gone c.loop-place.grew code f old mid new c.loop-place.place g (rw w.in-Grows.is at c.in_ok-look.ensures.ok))
      ],
    )
