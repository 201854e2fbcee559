use Rattle.std.proofs.Common.{◌≡◌, length, sym, ◌∙◌, arith}
use Rattle.std.proofs.lemmas.Bool.{eq-eqb, ne_eqb}
use Rattle.scanner.proofs.Reading.{rest_is, line_forbidden_step, line_end_step, line_step, line_text_end}
use Rattle.scanner.proofs.comment.line_comment_rest.Goals as goal

pub returns-then-is_forbidden-clause-rest : goal.returns-then-is_forbidden-clause-rest
returns-then-is_forbidden-clause-rest c =
    let rest = rest_is c.loop-at.at c.args.text.now in
    rw c.byte_place.ensures (line_forbidden_step c.args.opened c.loop-at.at c.args.text.now _ (rw rest at (sym c.is_forbidden.ensures ∙ c.if-is_forbidden.true)) c.loop-at.invariant)

pub returns-then-byte-eq10-clause-rest : goal.returns-then-byte-eq10-clause-rest
returns-then-byte-eq10-clause-rest c =
    let rest = rest_is c.loop-at.at c.args.text.now in
    line_end_step c.args.opened c.loop-at.at c.args.text.now _ (omega arith) (rw rest at (sym c.is_forbidden.ensures ∙ c.if-is_forbidden.false)) (eq-eqb _ 10 c.if-byte-eq10.true) c.loop-at.invariant

pub loop-at-preserved : goal.loop-at-preserved
loop-at-preserved c =
    let rest = rest_is c.loop-at.at c.args.text.now in
    line_step c.args.opened c.loop-at.at c.args.text.now _ (omega arith) (rw rest at (sym c.is_forbidden.ensures ∙ c.if-is_forbidden.false)) (ne_eqb _ 10 c.if-byte-eq10.false) c.loop-at.invariant

pub returns-clause-rest : goal.returns-clause-rest
returns-clause-rest c =
    let same : c.loop-at.at ≡ length c.args.text.now = omega (arith, c.loop-at.auto.at-end, c.loop-at-test.false) in
    line_text_end c.args.opened (length c.args.text.now) c.args.text.now _ (omega arith) (rw same at c.loop-at.invariant)
