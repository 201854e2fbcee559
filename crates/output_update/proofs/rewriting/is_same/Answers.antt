use Rattle.std.proofs.Common.{sym, ◌∙◌}
use Rattle.output_update.proofs.Same.{alike}
use Rattle.output_update.proofs.rewriting.is_same.Goals as goal

pub returns-then-eq : goal.returns-then-eq
returns-then-eq c = λ same.
    alike c.args.text.now c.args.other.now c.args.token.now c.args.wanted.now c.piece.result.now c.piece-then-eq.result.now (sym c.eq.ensures ∙ c.if-eq.true) (sym c.eq-then-eq.ensures ∙ same) c.piece.ensures c.piece-then-eq.ensures
