use Rattle.std.proofs.Common.{◌≡◌, ◌∷◌, ◌+◌, suc, false, drop, drop-cons, sym, ◌∙◌, arith}
use Rattle.syntax.specs.View.{statement_of}
use Rattle.typing_rules.specs.Terminating.{breaks_out}
use Rattle.checker_statement.proofs.terminate.+breaks_out.Goals as goal

pub some_breaks_out-loop-statement-preserved : goal.some_breaks_out-loop-statement-preserved
some_breaks_out-loop-statement-preserved t c =
    let left = drop (suc c.loop-statement.statement-index) c.args.body.now in
    let more : c.loop-statement.statement-index + 1 ≡ suc c.loop-statement.statement-index = omega arith in
    let cut : drop c.loop-statement.statement-index c.args.body.now ≡ c.statement-item.result ∷ left = rw c.statement-item.is (drop-cons c.args.body.now c.loop-statement.statement-index _ c.loop-statement-test.true) in
    let no : breaks_out (statement_of c.statement-item.result) ≡ false = sym c.breaks_out.ensures ∙ c.if-breaks_out.false in
    rw more (rw no at (rw cut at c.loop-statement.invariant))
