use Rattle.std.proofs.Common.{is_ok, ap}
use Rattle.std.proofs.ResultArms.{chosen}
use Rattle.std.proofs.lemmas.Result.{err_from_is_err_and}
use Rattle.syntax.specs.View.{name_of}
use Rattle.parser_base.specs.Cursor.{ahead}
use Rattle.parser_base.proofs.Lists.{more, ends, one_fails, next_fails, is_full}
use Rattle.syntax.specs.Measures.{Entries}
use Rattle.parser_base.specs.Reading.{TooMany, plain_name}
use Rattle.parser_simple.specs.Reading.{begins_name, separator_next}
use Rattle.parser_simple.proofs.place.names.Goals as goal

pub returns-in_err-one : goal.returns-in_err-one
returns-in_err-one c =
    let p = err_from_is_err_and c.from_residual.result c.from_residual.ensures.1 in
    rw (p.1, p.2) (one_fails c.in_err-one.field-0.0 (plain_name) (separator_next begins_name c.args.separator) (TooMany Entries) (c.args.most) c.loop.counter _ (ahead c.loop.rest) _ c.loop-test.true c.in_err-one.ensures c.loop.invariant.total)

pub returns-in_err-next : goal.returns-in_err-next
returns-in_err-next c =
    let p = err_from_is_err_and c.from_residual-in_err-next.result c.from_residual-in_err-next.ensures.1 in
    rw (p.1, p.2) (next_fails c.in_err-next.field-0.0 (plain_name) (separator_next begins_name c.args.separator) (TooMany Entries) (c.args.most) c.loop.counter _ (ahead c.loop.rest) (name_of c.in_ok-one.one) (ahead c.in_ok-one.following) _ c.loop-test.true c.in_ok-one.ensures c.in_err-next.ensures.gives c.loop.invariant.total)

pub returns-in-End : goal.returns-in-End
returns-in-End c =
    let pushed = chosen _ _ _ _ c.push.ensures.items (ap is_ok c.in_ok-push.was) in
    rw pushed (ends name_of (plain_name) (separator_next begins_name c.args.separator) (TooMany Entries) (c.args.most) c.loop.counter c.loop.entries.items (ahead c.loop.rest) c.in_ok-one.one c.in-End.trailing (ahead c.in_ok-one.following) (ahead c.in_ok-next.after) _ c.loop-test.true c.in_ok-one.ensures (rw c.in-End.is at c.in_ok-next.ensures.gives) c.loop.invariant.total)

pub loop-preserved : goal.loop-preserved
loop-preserved c =
    let pushed = chosen _ _ _ _ c.push.ensures.items (ap is_ok c.in_ok-push.was) in
    record {
      total = rw pushed (more name_of (plain_name) (separator_next begins_name c.args.separator) (TooMany Entries) (c.args.most) c.loop.counter c.loop.entries.items (ahead c.loop.rest) c.in_ok-one.one (ahead c.in_ok-one.following) (ahead c.in_ok-next.after) _ c.loop-test.true c.in_ok-one.ensures (rw c.in-More.is at c.in_ok-next.ensures.gives) c.loop.invariant.total);
    }

pub returns : goal.returns
returns c = is_full (plain_name) (separator_next begins_name c.args.separator) (TooMany Entries) (c.args.most) c.loop.counter _ (ahead c.loop.rest) _ c.loop-test.false c.loop.invariant.total
