use Rattle.std.proofs.Common.{◌≡◌, ◌∷◌, ◌+◌, ◌++◌, ◌∙◌, [], suc, cond, drop, drop-cons, append_assoc, append-nil, refl, sym, arith}
use Rattle.operands.proofs.print.print.Goals as goal
use Rattle.operands.proofs.print.print.Goals.{then-line+in_ok-push, else-line}

pub loop-part-preserved : goal.loop-part-preserved
loop-part-preserved c =
    let at = c.loop-part.part-index in
    let line = c.args.table.now.line in
    let parts = c.in-Some.rest.now in
    let text = c.loop-part.text.items in
    let rest = drop (suc at) parts in
    let more : at + 1 ≡ suc at = omega arith in
    let cut : drop at parts ≡ c.part-item.result ∷ rest = rw c.part-item.is (drop-cons parts at _ c.loop-part-test.true) in
    let here = c.in_ok-index-2.ensures in
    let spaced : c.if-line.text.items ≡ text ++ cond line (32 ∷ []) [] = elim c.if-line.branch [
      | then-line+in_ok-push w ↦ rw (w.text-is, w.in_ok-push.ensures.items, ← c.line.ensures, w.if-line.true) refl
      | else-line w ↦ rw (w.text-is, ← c.line.ensures, w.if-line.false) (sym (append-nil text))
    ] in
    record {
      text = rw (more, here.text, here.rest, spaced) (append_assoc (text ++ cond line (32 ∷ []) []) _ _ ∙ append_assoc text (cond line (32 ∷ []) []) _ ∙ rw cut at c.loop-part.invariant.text);
      within = here.within;
    }
