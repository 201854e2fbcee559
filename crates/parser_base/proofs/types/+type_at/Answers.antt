use Rattle.std.proofs.Common.{refl}
use Rattle.std.proofs.lemmas.Result.{err_from_is_err_and}
use Rattle.parser_base.specs.Reading.{parenthesized_type, after_arrow}
use Rattle.parser_base.proofs.Results.{step_fails}
use Rattle.parser_base.proofs.types.+type_at.Goals as goal

pub parenthesized_type-returns-in_err-inner : goal.parenthesized_type-returns-in_err-inner
unfolding parenthesized_type
parenthesized_type-returns-in_err-inner t c =
    let p = err_from_is_err_and c.from_residual.result c.from_residual.ensures.1 in
    rw (p.1, p.2) (step_fails c.in_err-inner.field-0.0 _ _ c.in_err-inner.ensures)

pub parenthesized_type-returns-in_err-rest : goal.parenthesized_type-returns-in_err-rest
unfolding parenthesized_type
parenthesized_type-returns-in_err-rest t c =
    let p = err_from_is_err_and c.from_residual-in_err-rest.result c.from_residual-in_err-rest.ensures.1 in
    rw (p.1, p.2, c.in_ok-inner.ensures) (step_fails c.in_err-rest.field-0.0 _ _ c.in_err-rest.ensures.gives)

pub parenthesized_type-returns-in_err-node : goal.parenthesized_type-returns-in_err-node
parenthesized_type-returns-in_err-node t c =
    let p = err_from_is_err_and c.from_residual-in_err-node.result c.from_residual-in_err-node.ensures.1 in
    rw (p.1, p.2, c.in_err-node.ensures.err) refl

pub parenthesized_type-returns : goal.parenthesized_type-returns
unfolding parenthesized_type
parenthesized_type-returns t c = rw (c.in_ok-node.ensures.ok, c.in_ok-inner.ensures, c.in_ok-rest.ensures.gives) refl

pub channel_type-returns-in_err-element : goal.channel_type-returns-in_err-element
channel_type-returns-in_err-element t c =
    let p = err_from_is_err_and c.from_residual.result c.from_residual.ensures.1 in
    rw (p.1, p.2) (step_fails c.in_err-element.field-0.0 _ _ c.in_err-element.ensures)

pub channel_type-returns-in_err-node : goal.channel_type-returns-in_err-node
channel_type-returns-in_err-node t c =
    let p = err_from_is_err_and c.from_residual-in_err-node.result c.from_residual-in_err-node.ensures.1 in
    rw (p.1, p.2, c.in_err-node.ensures.err) refl

pub channel_type-returns : goal.channel_type-returns
channel_type-returns t c = rw (c.in_ok-node.ensures.ok, c.in_ok-element.ensures) refl

pub after_arrow-returns-in_err-rest : goal.after_arrow-returns-in_err-rest
unfolding after_arrow
after_arrow-returns-in_err-rest t c =
    let p = err_from_is_err_and c.from_residual.result c.from_residual.ensures.1 in
    rw (p.1, p.2) (step_fails c.in_err-rest.field-0.0 _ _ c.in_err-rest.ensures.gives)

pub after_arrow-returns : goal.after_arrow-returns
unfolding after_arrow
after_arrow-returns t c = rw c.in_ok-rest.ensures.gives c.channel_type.ensures
