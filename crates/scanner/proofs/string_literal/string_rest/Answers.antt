use Rattle.std.proofs.Common.{sym, ◌∙◌, arith}
use Rattle.scanner.proofs.Reading.{rest_is, string_forbidden_step, string_break_step, string_close_step, string_step, string_text_end}
use Rattle.scanner.proofs.string_literal.string_rest.Goals as goal

pub returns-then-is_forbidden-clause-rest : goal.returns-then-is_forbidden-clause-rest
returns-then-is_forbidden-clause-rest c =
    let rest = rest_is c.loop-at.at c.args.text.now in
    rw c.byte_place.ensures (string_forbidden_step c.args.opened c.loop-at.at c.loop-at.escaped c.args.text.now _ (rw rest at (sym c.is_forbidden.ensures ∙ c.if-is_forbidden.true)) c.loop-at.invariant)

pub returns-then-is_broken-clause-rest : goal.returns-then-is_broken-clause-rest
returns-then-is_broken-clause-rest c =
    let rest = rest_is c.loop-at.at c.args.text.now in
    rw c.byte_place-then-is_broken.ensures (string_break_step c.args.opened c.loop-at.at c.loop-at.escaped c.args.text.now _ (omega arith) (rw rest at (sym c.is_forbidden.ensures ∙ c.if-is_forbidden.false)) (sym c.is_broken.ensures ∙ c.if-is_broken.true) c.loop-at.invariant)

pub returns-then-is_closing-clause-rest : goal.returns-then-is_closing-clause-rest
returns-then-is_closing-clause-rest c =
    let rest = rest_is c.loop-at.at c.args.text.now in
    string_close_step c.args.opened c.loop-at.at c.loop-at.escaped c.args.text.now _ (omega arith) (rw rest at (sym c.is_forbidden.ensures ∙ c.if-is_forbidden.false)) (sym c.is_broken.ensures ∙ c.if-is_broken.false) (sym c.is_closing.ensures ∙ c.if-is_closing.true) c.loop-at.invariant

pub loop-at-preserved : goal.loop-at-preserved
loop-at-preserved c =
    let rest = rest_is c.loop-at.at c.args.text.now in
    rw c.is_escaping-escaped.ensures (string_step c.args.opened c.loop-at.at c.loop-at.escaped c.args.text.now _ (omega arith) (rw rest at (sym c.is_forbidden.ensures ∙ c.if-is_forbidden.false)) (sym c.is_broken.ensures ∙ c.if-is_broken.false) (sym c.is_closing.ensures ∙ c.if-is_closing.false) c.loop-at.invariant)

pub returns-clause-rest : goal.returns-clause-rest
returns-clause-rest c = rw c.byte_place-2.ensures (string_text_end c.args.opened c.loop-at.at c.loop-at.escaped c.args.text.now _ (omega arith) c.loop-at.invariant)
