use Rattle.std.proofs.Common.{◌≡◌, ◌∷◌, ◌+◌, ◌++◌, ◌∙◌, suc, drop, drop-cons, append_assoc, arith}
use Rattle.bytecode.specs.Effects.{part_kinds}
use Rattle.verifier_base.proofs.effect.printed.Goals as goal
use Rattle.verifier_base.proofs.effect.printed.Goals.{in-Int+in_ok-push-in-Int, in-Bool+in_ok-push-in-Bool, in-Text}

pub loop-part-preserved : goal.loop-part-preserved
loop-part-preserved c =
    let at = c.loop-part.part-index in
    let parts = c.args.parts.now in
    let kinds = c.loop-part.kinds.items in
    let rest = drop (suc at) parts in
    let more : at + 1 ≡ suc at = omega arith in
    let cut : drop at parts ≡ c.part-item.result ∷ rest = rw c.part-item.is (drop-cons parts at _ c.loop-part-test.true) in
    let here : kinds ++ part_kinds (c.part-item.result ∷ rest) ≡ part_kinds parts = rw cut at c.loop-part.invariant in
    rw more (elim c.match-part.branch [
      | in-Int+in_ok-push-in-Int w ↦ rw (w.kinds-is, w.in_ok-push-in-Int.ensures.items) (append_assoc kinds _ (part_kinds rest) ∙ rw w.in-Int.is at here)
      | in-Bool+in_ok-push-in-Bool w ↦ rw (w.kinds-is, w.in_ok-push-in-Bool.ensures.items) (append_assoc kinds _ (part_kinds rest) ∙ rw w.in-Bool.is at here)
      | in-Text w ↦ rw w.kinds-is (rw w.in-Text.is at here)
    ])
