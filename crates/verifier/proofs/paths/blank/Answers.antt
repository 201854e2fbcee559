use Rattle.std.proofs.Common.{◌∙◌, sym, arith}
use Rattle.verifier.proofs.Entries.{entry_more}
use Rattle.verifier.proofs.paths.blank.Goals as goal

pub loop-i-preserved : goal.loop-i-preserved
loop-i-preserved c =
    let table = c.loop-i.table.items in
    let reached = c.loop-i.invariant.1 in
    let pushed = c.in_ok-push-2.ensures in
    (omega (arith, pushed.len, c.loop-i.invariant.0), rw pushed.items (entry_more table 0 ∙ reached.0, λ place ks e. reached.1 place ks (sym (entry_more table place) ∙ e)))
