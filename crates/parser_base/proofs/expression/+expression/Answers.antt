use Rattle.std.proofs.Common.{◌≡◌, ◌-◌, ◌<◌, ◌≤◌, is_ok, map, refl, ap, sym, arith}
use Rattle.std.proofs.ResultArms.{chosen}
use Rattle.std.proofs.lemmas.Result.{err_from_is_err_and}
use Rattle.syntax.specs.Measures.{Entries, expression_height}
use Rattle.syntax.specs.View.{type_of, expression_of}
use Rattle.syntax.proofs.Lists.{expressions_height-of}
use Rattle.parser_base.specs.Cursor.{ahead}
use Rattle.parser_base.specs.Reading.{TooMany, value_next, composite, expression, operations}
use Rattle.parser_base.proofs.Results.{step_fails}
use Rattle.parser_base.proofs.Lists.{more, ends, one_fails, next_fails, is_full, highest-pushed}
use Rattle.parser_base.proofs.Operations.{opens, resumes, turn_stops, turn_too_high, turn_done, turn_fails}
use Rattle.parser_base.proofs.TypeLaws.{type_sound}
use Rattle.parser_base.proofs.expression.+expression.Goals as goal

pub applied-returns-in-Period-clause-tree : goal.applied-returns-in-Period-clause-tree
applied-returns-in-Period-clause-tree t c = rw c.in-Period.is (c.selection.ensures.tree (expression c.args.literals 64 (c.args.depth_left - 1)))

pub composite_literal-returns-clause-height : goal.composite_literal-returns-clause-height
composite_literal-returns-clause-height t c = (
  omega (arith, ap expression_height c.in_ok-node.ensures.ok, expressions_height-of (map expression_of c.in_ok-values.values.entries.items), c.in_ok-values.ensures.height),
  omega (arith, c.in_ok-values.ensures.within),
)

pub call-returns-clause-height : goal.call-returns-clause-height
call-returns-clause-height t c = (
  omega (arith, ap expression_height c.in_ok-node.ensures.ok, expressions_height-of (map expression_of c.in_ok-values.values.entries.items), c.in_ok-values.ensures.height),
  omega (arith, c.in_ok-values.ensures.within),
)

pub make_call-make_of-requires : goal.make_call-make_of-requires
make_call-make_of-requires t c =
    let kind = type_sound (c.args.depth_left - 1) (ahead c.in_ok-inside.inside) (type_of c.in_ok-channel.channel.node) (ahead c.in_ok-channel.channel.rest) c.in_ok-channel.ensures in
    (omega arith, (c.requires, omega (arith, kind.low, c.requires)))

pub measured_expression-returns-clause-tree : goal.measured_expression-returns-clause-tree
measured_expression-returns-clause-tree t c =
    rw (opens c.args.literals 64 c.args.depth_left c.args.least (ahead c.args.cursor) (expression_of c.in_ok-left.left.node) (ahead c.in_ok-left.left.rest) (omega arith) c.in_ok-left.ensures.tree) c.resumed_expression.ensures.tree

pub resumed_expression-loop-init : goal.resumed_expression-loop-init
resumed_expression-loop-init t c = record {
  total = resumes c.args.literals 64 c.args.depth_left c.args.least (expression_of c.args.left.node) (ahead c.args.left.rest);
  height = c.requires;
  within = λ low. low;
}

pub resumed_expression-returns-in_default-clause-tree : goal.resumed_expression-returns-in_default-clause-tree
resumed_expression-returns-in_default-clause-tree t c =
    turn_stops (expression c.args.literals 64 (c.args.depth_left - 1)) c.args.depth_left c.args.least c.args.depth_left c.loop.counter (expression_of c.loop.left.node) (ahead c.loop.left.rest) _ c.loop-test.true (sym (rw c.in_default.is at c.step_at.ensures)) c.loop.invariant.total

pub resumed_expression-returns-then-left-depth_left-clause-tree : goal.resumed_expression-returns-then-left-depth_left-clause-tree
resumed_expression-returns-then-left-depth_left-clause-tree t c =
    let high : c.args.depth_left ≤ expression_height (expression_of c.loop.left.node) = omega (arith, c.loop.invariant.height) in
    turn_too_high (expression c.args.literals 64 (c.args.depth_left - 1)) c.args.depth_left c.args.least c.args.depth_left c.loop.counter (expression_of c.loop.left.node) (ahead c.loop.left.rest) c.in-Some.step (ahead c.in-Some.after) _ c.loop-test.true c.in-Some.ensures high c.loop.invariant.total

pub resumed_expression-returns-in_err-left-clause-tree : goal.resumed_expression-returns-in_err-left-clause-tree
resumed_expression-returns-in_err-left-clause-tree t c =
    let p = err_from_is_err_and c.from_residual.result c.from_residual.ensures.1 in
    let low : expression_height (expression_of c.loop.left.node) < c.args.depth_left = omega (arith, c.loop.invariant.height) in
    rw (p.1, p.2) (turn_fails c.in_err-left.field-0.0 (expression c.args.literals 64 (c.args.depth_left - 1)) c.args.depth_left c.args.least c.args.depth_left c.loop.counter (expression_of c.loop.left.node) (ahead c.loop.left.rest) c.in-Some.step (ahead c.in-Some.after) _ c.loop-test.true c.in-Some.ensures low c.in_err-left.ensures.tree c.loop.invariant.total)

pub resumed_expression-loop-preserved : goal.resumed_expression-loop-preserved
resumed_expression-loop-preserved t c =
    let low : expression_height (expression_of c.loop.left.node) < c.args.depth_left = omega (arith, c.loop.invariant.height) in
    record {
      total = turn_done (expression c.args.literals 64 (c.args.depth_left - 1)) c.args.depth_left c.args.least c.args.depth_left c.loop.counter (expression_of c.loop.left.node) (ahead c.loop.left.rest) c.in-Some.step (ahead c.in-Some.after) (expression_of c.in_ok-left.left.node) (ahead c.in_ok-left.left.rest) _ c.loop-test.true c.in-Some.ensures low c.in_ok-left.ensures.tree c.loop.invariant.total;
      height = c.in_ok-left.ensures.height.0;
      within = λ low'. c.in_ok-left.ensures.height.1;
    }

pub resumed_expression-returns-clause-tree : goal.resumed_expression-returns-clause-tree
unfolding operations
resumed_expression-returns-clause-tree t c =
    let none : c.args.depth_left - c.loop.counter ≡ 0 = omega (arith, c.loop-test.false) in
    sym (rw none at c.loop.invariant.total)

pub expression_list-returns-in_err-found-clause-values : goal.expression_list-returns-in_err-found-clause-values
expression_list-returns-in_err-found-clause-values t c =
    let p = err_from_is_err_and c.from_residual.result c.from_residual.ensures.1 in
    rw (p.1, p.2) (one_fails c.in_err-found.field-0.0 (expression c.args.literals 64 c.args.depth_left 0) (value_next c.args.close) (TooMany Entries) 64 c.loop.counter _ (ahead c.loop.rest) _ c.loop-test.true c.in_err-found.ensures.tree c.loop.invariant.total)

pub expression_list-returns-in_err-next-clause-values : goal.expression_list-returns-in_err-next-clause-values
expression_list-returns-in_err-next-clause-values t c =
    let p = err_from_is_err_and c.from_residual-in_err-next.result c.from_residual-in_err-next.ensures.1 in
    rw (p.1, p.2) (next_fails c.in_err-next.field-0.0 (expression c.args.literals 64 c.args.depth_left 0) (value_next c.args.close) (TooMany Entries) 64 c.loop.counter _ (ahead c.loop.rest) (expression_of c.in_ok-found.found.node) (ahead c.in_ok-found.found.rest) _ c.loop-test.true c.in_ok-found.ensures.tree c.in_err-next.ensures.gives c.loop.invariant.total)

pub expression_list-returns-in-End-clause-values : goal.expression_list-returns-in-End-clause-values
expression_list-returns-in-End-clause-values t c =
    let pushed = chosen _ _ _ _ c.push.ensures.items (ap is_ok c.in_ok-push.was) in
    rw pushed (ends expression_of (expression c.args.literals 64 c.args.depth_left 0) (value_next c.args.close) (TooMany Entries) 64 c.loop.counter c.loop.entries.items (ahead c.loop.rest) c.in_ok-found.found.node c.in-End.trailing (ahead c.in_ok-found.found.rest) (ahead c.in_ok-next.after) _ c.loop-test.true c.in_ok-found.ensures.tree (rw c.in-End.is at c.in_ok-next.ensures.gives) c.loop.invariant.total)

pub expression_list-returns-in-End-clause-height : goal.expression_list-returns-in-End-clause-height
expression_list-returns-in-End-clause-height t c =
    let pushed = chosen _ _ _ _ c.push.ensures.items (ap is_ok c.in_ok-push.was) in
    rw pushed (omega (arith, highest-pushed expression_of expression_height c.loop.entries.items c.in_ok-found.found.node, c.loop.invariant.height, c.in_ok-found.ensures.height.0, c.max-height.ensures))

pub expression_list-loop-preserved : goal.expression_list-loop-preserved
expression_list-loop-preserved t c =
    let pushed = chosen _ _ _ _ c.push.ensures.items (ap is_ok c.in_ok-push.was) in
    record {
      total = rw pushed (more expression_of (expression c.args.literals 64 c.args.depth_left 0) (value_next c.args.close) (TooMany Entries) 64 c.loop.counter c.loop.entries.items (ahead c.loop.rest) c.in_ok-found.found.node (ahead c.in_ok-found.found.rest) (ahead c.in_ok-next.after) _ c.loop-test.true c.in_ok-found.ensures.tree (rw c.in-More.is at c.in_ok-next.ensures.gives) c.loop.invariant.total);
      height = rw pushed (omega (arith, highest-pushed expression_of expression_height c.loop.entries.items c.in_ok-found.found.node, c.loop.invariant.height, c.in_ok-found.ensures.height.0, c.max-height.ensures));
      within = omega (arith, c.loop.invariant.within, c.in_ok-found.ensures.height.1, c.max-height.ensures);
    }

pub expression_list-returns-clause-values : goal.expression_list-returns-clause-values
expression_list-returns-clause-values t c = is_full (expression c.args.literals 64 c.args.depth_left 0) (value_next c.args.close) (TooMany Entries) 64 c.loop.counter _ (ahead c.loop.rest) _ c.loop-test.false c.loop.invariant.total

pub unary_expression-returns-in_err-operand-clause-tree : goal.unary_expression-returns-in_err-operand-clause-tree
unary_expression-returns-in_err-operand-clause-tree t c =
    let p = err_from_is_err_and c.from_residual.result c.from_residual.ensures.1 in
    rw (p.1, p.2) (step_fails c.in_err-operand.field-0.0 _ _ c.in_err-operand.ensures.tree)

pub unary_expression-returns-in_err-node-clause-tree : goal.unary_expression-returns-in_err-node-clause-tree
unary_expression-returns-in_err-node-clause-tree t c =
    let p = err_from_is_err_and c.from_residual-in_err-node.result c.from_residual-in_err-node.ensures.1 in
    rw (p.1, p.2, c.in_err-node.ensures.err) refl

pub unary_expression-returns-clause-tree : goal.unary_expression-returns-clause-tree
unary_expression-returns-clause-tree t c = rw (c.in_ok-node.ensures.ok, c.in_ok-operand.ensures.tree) refl

pub binary_expression-returns-in_err-right-clause-tree : goal.binary_expression-returns-in_err-right-clause-tree
binary_expression-returns-in_err-right-clause-tree t c =
    let p = err_from_is_err_and c.from_residual.result c.from_residual.ensures.1 in
    rw (p.1, p.2) (step_fails c.in_err-right.field-0.0 _ _ (rw c.precedence.ensures at c.in_err-right.ensures.tree))

pub binary_expression-returns-in_err-node-clause-tree : goal.binary_expression-returns-in_err-node-clause-tree
binary_expression-returns-in_err-node-clause-tree t c =
    let p = err_from_is_err_and c.from_residual-in_err-node.result c.from_residual-in_err-node.ensures.1 in
    rw (p.1, p.2, c.in_err-node.ensures.err) refl

pub binary_expression-returns-clause-tree : goal.binary_expression-returns-clause-tree
binary_expression-returns-clause-tree t c = rw (c.in_ok-node.ensures.ok, rw c.precedence.ensures at c.in_ok-right.ensures.tree) refl

pub composite_literal-returns-in_err-values-clause-tree : goal.composite_literal-returns-in_err-values-clause-tree
unfolding composite
composite_literal-returns-in_err-values-clause-tree t c =
    let p = err_from_is_err_and c.from_residual.result c.from_residual.ensures.1 in
    rw (p.1, p.2) (step_fails c.in_err-values.field-0.0 _ _ c.in_err-values.ensures.values)

pub composite_literal-returns-in_err-node-clause-tree : goal.composite_literal-returns-in_err-node-clause-tree
composite_literal-returns-in_err-node-clause-tree t c =
    let p = err_from_is_err_and c.from_residual-in_err-node.result c.from_residual-in_err-node.ensures.1 in
    rw (p.1, p.2, c.in_err-node.ensures.err) refl

pub composite_literal-returns-clause-tree : goal.composite_literal-returns-clause-tree
unfolding composite
composite_literal-returns-clause-tree t c = rw (c.in_ok-node.ensures.ok, c.in_ok-values.ensures.values) refl
