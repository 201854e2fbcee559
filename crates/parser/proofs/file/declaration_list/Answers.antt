use Rattle.std.proofs.Common.{◌≤◌, ◌<◌, length, is_ok, ap, arith}
use Rattle.std.proofs.ResultArms.{chosen}
use Rattle.std.proofs.lemmas.Result.{err_from_is_err_and}
use Rattle.syntax.specs.View.{top_of}
use Rattle.syntax.specs.declared.limits.TheConstants.{MAX_ENTRIES}
use Rattle.parser.specs.declared.top.TheConstants.{STATEMENT_DEPTH}
use Rattle.parser_base.specs.Cursor.{ahead}
use Rattle.parser_base.specs.Reading.{Syntax}
use Rattle.parser.specs.Reading.{top, top_next}
use Rattle.parser_base.proofs.Lists.{more, ends, one_fails, next_fails, is_full}
use Rattle.parser.proofs.file.declaration_list.Goals as goal

pub returns-in_err-one : goal.returns-in_err-one
returns-in_err-one c =
    let p = err_from_is_err_and c.from_residual.result c.from_residual.ensures.1 in
    let turns = length (ahead c.args.cursor) in
    let lt : c.loop.counter < turns = omega (arith, c.len-end.ensures) in
    rw (p.1, p.2) (one_fails c.in_err-one.field-0.0 (top MAX_ENTRIES STATEMENT_DEPTH) top_next Syntax turns c.loop.counter _ (ahead c.loop.rest) _ lt c.in_err-one.ensures c.loop.invariant.total)

pub returns-in_err-next : goal.returns-in_err-next
returns-in_err-next c =
    let p = err_from_is_err_and c.from_residual-in_err-next.result c.from_residual-in_err-next.ensures.1 in
    let turns = length (ahead c.args.cursor) in
    let lt : c.loop.counter < turns = omega (arith, c.len-end.ensures) in
    rw (p.1, p.2) (next_fails c.in_err-next.field-0.0 (top MAX_ENTRIES STATEMENT_DEPTH) top_next Syntax turns c.loop.counter _ (ahead c.loop.rest) (top_of c.in_ok-one.one) (ahead c.in_ok-one.following) _ lt c.in_ok-one.ensures c.in_err-next.ensures.gives c.loop.invariant.total)

pub returns-in-End : goal.returns-in-End
returns-in-End c =
    let pushed = chosen _ _ _ _ c.push.ensures.items (ap is_ok c.in_ok-push.was) in
    let turns = length (ahead c.args.cursor) in
    let lt : c.loop.counter < turns = omega (arith, c.len-end.ensures) in
    rw pushed (ends top_of (top MAX_ENTRIES STATEMENT_DEPTH) top_next Syntax turns c.loop.counter c.loop.entries.items (ahead c.loop.rest) c.in_ok-one.one c.in-End.trailing (ahead c.in_ok-one.following) (ahead c.in_ok-next.after) _ lt c.in_ok-one.ensures (rw c.in-End.is at c.in_ok-next.ensures.gives) c.loop.invariant.total)

pub loop-preserved : goal.loop-preserved
loop-preserved c =
    let pushed = chosen _ _ _ _ c.push.ensures.items (ap is_ok c.in_ok-push.was) in
    let turns = length (ahead c.args.cursor) in
    let lt : c.loop.counter < turns = omega (arith, c.len-end.ensures) in
    record {
      total = rw pushed (more top_of (top MAX_ENTRIES STATEMENT_DEPTH) top_next Syntax turns c.loop.counter c.loop.entries.items (ahead c.loop.rest) c.in_ok-one.one (ahead c.in_ok-one.following) (ahead c.in_ok-next.after) _ lt c.in_ok-one.ensures (rw c.in-More.is at c.in_ok-next.ensures.gives) c.loop.invariant.total);
    }

pub returns : goal.returns
returns c =
    let turns = length (ahead c.args.cursor) in
    let le : turns ≤ c.loop.counter = omega (arith, c.len-end.ensures) in
    is_full (top MAX_ENTRIES STATEMENT_DEPTH) top_next Syntax turns c.loop.counter _ (ahead c.loop.rest) _ le c.loop.invariant.total
