use Rattle.std.proofs.Common.{sym, ◌∙◌, arith}
use Rattle.scanner.proofs.Reading.{rest_is, general_forbidden_step, general_close_step, general_step, general_text_end}
use Rattle.scanner.proofs.comment.general_comment_rest.Goals as goal

pub returns-then-is_forbidden-clause-rest : goal.returns-then-is_forbidden-clause-rest
returns-then-is_forbidden-clause-rest c =
    let rest = rest_is c.loop-at.at c.args.text.now in
    rw c.byte_place.ensures (general_forbidden_step c.args.opened c.loop-at.at c.args.text.now _ (rw rest at (sym c.is_forbidden.ensures ∙ c.if-is_forbidden.true)) c.loop-at.invariant)

pub returns-then-is_close-clause-rest : goal.returns-then-is_close-clause-rest
returns-then-is_close-clause-rest c =
    let rest = rest_is c.loop-at.at c.args.text.now in
    general_close_step c.args.opened c.loop-at.at c.args.text.now _ (rw rest at (sym c.is_forbidden.ensures ∙ c.if-is_forbidden.false)) (rw rest at (sym c.is_close.ensures ∙ c.if-is_close.true)) c.loop-at.invariant

pub loop-at-preserved : goal.loop-at-preserved
loop-at-preserved c =
    let rest = rest_is c.loop-at.at c.args.text.now in
    general_step c.args.opened c.loop-at.at c.args.text.now _ (omega arith) (rw rest at (sym c.is_forbidden.ensures ∙ c.if-is_forbidden.false)) (rw rest at (sym c.is_close.ensures ∙ c.if-is_close.false)) c.loop-at.invariant

pub returns-clause-rest : goal.returns-clause-rest
returns-clause-rest c = rw c.byte_place-2.ensures (general_text_end c.args.opened c.loop-at.at c.args.text.now _ (omega arith) c.loop-at.invariant)
