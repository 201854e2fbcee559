use Rattle.std.proofs.Common.{◌≡◌, ◌∷◌, ◌+◌, ◌*◌, suc, ℕ, length, map, option_map, drop, rules, arith, append_assoc, drop-cons, [], ◌-◌, ◌^◌, ◌<◌, List, Option, Vec, Global}
use Rattle.std.proofs.lemmas.List.{length-map, append-nil, drop_all}
use Rattle.std.proofs.lemmas.Result.{IfOk-equal}
use Rattle.syntax.specs.declared.node.ElseNode.TheFolds.{the_lemmas}
use Rattle.syntax.specs.declared.node.Name.{Name}
use Rattle.syntax.specs.declared.node.TypeNode.{TypeNode}
use Rattle.syntax.specs.declared.node.IfNode.{IfNode}
use Rattle.syntax.specs.declared.node.ForHeader.{ForHeader}
use Rattle.syntax.specs.declared.node.ArgumentsNode.{ArgumentsNode}
use Rattle.syntax.specs.declared.node.ReturnNode.{ReturnNode}
use Rattle.syntax.specs.declared.node.ClauseNode.{ClauseNode}
use Rattle.syntax.specs.declared.node.StatementNode.{StatementNode}
use Rattle.syntax.specs.declared.node.StatementNode.TheVariants as nodes
use Rattle.syntax.specs.Tree.{VarTyped, VarUntyped, Block, For, Select, Go, Return, Conditional, Statement, TypeExpression, Expression}
use Rattle.syntax.specs.View.{name_of, type_of, expression_of, arguments_of, right_of, if_head_of, for_head_of, comm_of, returned_of, statement_of, body_of, branch_of, otherwise_of, clause_of, clauses}
use Rattle.spans.specs.Words.{joined, statement_count, body_count, clauses_count, clause_count, EndsInReach, type_count, initial_count, right_count}
use Rattle.spans.specs.Places.{statement_spans, body_spans, clause_spans, clauses_spans}
use Rattle.syntax.proofs.node.StatementNode.TheLaws.{the_size as statement_depth}
use Rattle.syntax.proofs.node.ClauseNode.TheLaws.{the_size as clause_depth}
use Rattle.syntax.proofs.Nodes.{typed_is, untyped_is, block_is, for_is, select_is, go_is, return_is, branch_is, clause_is}
use Rattle.spans.proofs.Walks.{next_spans, falls_within}
use Rattle.spans.proofs.statement.+statement_spans.Goals as goal

-- how far the first of what is left reaches
statement_reach : (at count one rest total : ℕ) → count + (one + 1 + rest) ≡ total → at + (total - 1) < 2 ^ 40 → at + count + one < 2 ^ 40
statement_reach at count one rest total is reach = omega arith

clause_reach : (at count one rest total : ℕ) → count + (one + rest) ≡ total → at + total < 2 ^ 40 → at + count + one < 2 ^ 40
clause_reach at count one rest total is reach = omega arith

-- how far a `var` reaches, by its parts
typed_reach : (at : ℕ) (s : Statement) (names : List Name) (kind : TypeExpression) (right : Option (List Expression)) → s ≡ VarTyped (map name_of names) kind right
    → EndsInReach at (statement_count s) → at + (length names * 2 - 1 + type_count kind + initial_count right + 1) < 2 ^ 40
typed_reach at s names kind right is reach = omega (arith, rw is at reach, length-map names name_of)

untyped_reach : (at : ℕ) (s : Statement) (names : List Name) (right : List Expression) → s ≡ VarUntyped (map name_of names) right
    → EndsInReach at (statement_count s) → at + (length names * 2 + right_count right + 1) < 2 ^ 40
untyped_reach at s names right is reach = omega (arith, rw is at reach, length-map names name_of)

pub body_spans-loop-statement-preserved : goal.body_spans-loop-statement-preserved
body_spans-loop-statement-preserved t c =
    let tokens = c.args.tokens.now in
    let count = c.loop-statement.count in
    let first = statement_of c.statement-item.result in
    let rest = drop (suc c.loop-statement.statement-index) c.args.body.now in
    let more : c.loop-statement.statement-index + 1 ≡ suc c.loop-statement.statement-index = omega arith in
    let cut : drop c.loop-statement.statement-index c.args.body.now ≡ c.statement-item.result ∷ rest = rw c.statement-item.is (drop-cons c.args.body.now c.loop-statement.statement-index _ c.loop-statement-test.true) in
    let counted = rw cut at c.loop-statement.invariant.0 in
    rw more (
      omega (arith, c.in_ok-count.ensures.count),
      next_spans (λ (at : ℕ). body_spans tokens at (body_of rest)) c.loop-statement.spans.items (statement_spans tokens (c.args.at + count) first) _ c.statement_spans.new.spans.items (c.args.at + count + (statement_count first + 1)) (c.args.at + (count + (c.in_ok-count.field-0 + 1)))
          c.in_ok-count.ensures.spans (omega (arith, c.in_ok-count.ensures.count)) (rw cut at c.loop-statement.invariant.1),
    )

pub clauses_spans-loop-clause-preserved : goal.clauses_spans-loop-clause-preserved
clauses_spans-loop-clause-preserved t c =
    let tokens = c.args.tokens.now in
    let count = c.loop-clause.count in
    let first = clause_of c.clause-item.result in
    let rest = drop (suc c.loop-clause.clause-index) c.args.all.now in
    let more : c.loop-clause.clause-index + 1 ≡ suc c.loop-clause.clause-index = omega arith in
    let cut : drop c.loop-clause.clause-index c.args.all.now ≡ c.clause-item.result ∷ rest = rw c.clause-item.is (drop-cons c.args.all.now c.loop-clause.clause-index _ c.loop-clause-test.true) in
    let counted = rw cut at c.loop-clause.invariant.0 in
    rw more (
      omega (arith, c.in_ok-count.ensures.count),
      next_spans (λ (at : ℕ). clauses_spans tokens at (clauses (map clause_of rest))) c.loop-clause.spans.items (clause_spans tokens (c.args.at + count) first.comm first.body) _ c.clause_spans.new.spans.items (c.args.at + count + clause_count first.comm first.body) (c.args.at + (count + c.in_ok-count.field-0))
          c.in_ok-count.ensures.spans (omega (arith, c.in_ok-count.ensures.count)) (rw cut at c.loop-clause.invariant.1),
    )

pub block_spans-returns-clause-spans : goal.block_spans-returns-clause-spans
block_spans-returns-clause-spans t c =
    IfOk-equal c.add_node.result _ _ _ c.add_node.ensures.spans (rw (c.saturating_sub-count.ensures, c.in_ok-body_spans.ensures.count, c.in_ok-body_spans.ensures.spans) (simp append_assoc))

pub branch_spans-returns-clause-spans : goal.branch_spans-returns-clause-spans
branch_spans-returns-clause-spans t c =
    let branch = c.args.branch.now in
    let is : branch_of branch ≡ Conditional (if_head_of branch.header) (expression_of branch.condition) (body_of branch.body.items) (otherwise_of branch.otherwise) = branch_is branch in
    let head = c.in_ok-head.ensures.count in
    let condition = c.in_ok-condition.ensures.count in
    let body = rw c.as_slice.ensures.value at c.in_ok-body.ensures.count in
    let second = rw head at c.in_ok-condition.ensures.spans in
    let third = rw (c.as_slice.ensures.value, head, condition) at c.in_ok-body.ensures.spans in
    let fourth = rw (head, condition, body) at c.in_ok-otherwise.ensures.spans in
    IfOk-equal c.add_node.result _ _ _ c.add_node.ensures.spans
    (rw (is, fourth, third, second, c.in_ok-head.ensures.spans, head, condition, body, c.in_ok-otherwise.ensures.count) (simp append_assoc))

pub clause_spans-returns-clause-spans : goal.clause_spans-returns-clause-spans
clause_spans-returns-clause-spans t c =
    let clause = c.args.clause.now in
    let is : clause_of clause ≡ record { comm = option_map comm_of clause.comm; body = body_of clause.body.items } = clause_is clause in
    let body = rw c.as_slice.ensures.value at c.in_ok-body.ensures.count in
    let second = rw (c.as_slice.ensures.value, c.in_ok-start.ensures.count) at c.in_ok-body.ensures.spans in
    IfOk-equal c.add_node.result _ _ _ c.add_node.ensures.spans
    (rw (is, second, c.in_ok-start.ensures.spans, c.saturating_sub.ensures, c.in_ok-start.ensures.count, body) (simp append_assoc))

pub statement_spans-returns-in_ok-values-in-Typed-clause-spans : goal.statement_spans-returns-in_ok-values-in-Typed-clause-spans
statement_spans-returns-in_ok-values-in-Typed-clause-spans t c =
    let arm = c.in-Typed in
    let is : statement_of c.args.statement.now ≡ VarTyped (map name_of arm.names.items) (type_of arm.kind) (option_map right_of arm.right) = typed_is _ _ _ _ c.in-Typed.is in
    let names : c.saturating_sub-names.result ≡ joined (length (map name_of arm.names.items) * 2) = omega (arith, length-map arm.names.items name_of) in
    let kind = c.in_ok-kind-in-Typed.ensures.count in
    let first = rw names at c.in_ok-kind-in-Typed.ensures.spans in
    let second = rw (names, kind) at c.in_ok-values-in-Typed.ensures.spans in
    IfOk-equal c.add_node-in-Typed.result _ _ _ c.add_node-in-Typed.ensures.spans
    (rw (is, second, first, names, kind, c.in_ok-values-in-Typed.ensures.count) (simp append_assoc))

pub statement_spans-returns-in_ok-values-in-Untyped-clause-spans : goal.statement_spans-returns-in_ok-values-in-Untyped-clause-spans
statement_spans-returns-in_ok-values-in-Untyped-clause-spans t c =
    let arm = c.in-Untyped in
    let is : statement_of c.args.statement.now ≡ VarUntyped (map name_of arm.names.items) (right_of arm.right) = untyped_is _ _ _ c.in-Untyped.is in
    let names : c.len-names.result ≡ length (map name_of arm.names.items) = omega (arith, length-map arm.names.items name_of) in
    let first = rw names at c.in_ok-values-in-Untyped.ensures.spans in
    IfOk-equal c.add_node-in-Untyped.result _ _ _ c.add_node-in-Untyped.ensures.spans
    (rw (is, first, names, c.in_ok-values-in-Untyped.ensures.count) (simp append_assoc))

pub statement_spans-returns-in_ok-count-in-Block-clause-spans : goal.statement_spans-returns-in_ok-count-in-Block-clause-spans
statement_spans-returns-in_ok-count-in-Block-clause-spans t c =
    let is : statement_of c.args.statement.now ≡ Block (body_of c.in-Block.body.items) = block_is _ _ c.in-Block.is in
    let count = rw c.as_slice.ensures.value at c.in_ok-count-in-Block.ensures.count in
    let first = rw c.as_slice.ensures.value at c.in_ok-count-in-Block.ensures.spans in
    IfOk-equal c.add_node-in-Block.result _ _ _ c.add_node-in-Block.ensures.spans (rw (is, first, count) (simp append_assoc))

pub statement_spans-returns-in_ok-body-in-For-clause-spans : goal.statement_spans-returns-in_ok-body-in-For-clause-spans
statement_spans-returns-in_ok-body-in-For-clause-spans t c =
    let is : statement_of c.args.statement.now ≡ For (for_head_of c.in-For.header) (body_of c.in-For.body.items) = for_is _ _ _ c.in-For.is in
    let head = c.in_ok-head-in-For.ensures.count in
    let body = rw c.as_slice-in-For.ensures.value at c.in_ok-body-in-For.ensures.count in
    let second = rw (c.as_slice-in-For.ensures.value, head) at c.in_ok-body-in-For.ensures.spans in
    IfOk-equal c.add_node-in-For.result _ _ _ c.add_node-in-For.ensures.spans
    (rw (is, second, c.in_ok-head-in-For.ensures.spans, head, body) (simp append_assoc))

pub statement_spans-returns-in_ok-count-in-Select-clause-spans : goal.statement_spans-returns-in_ok-count-in-Select-clause-spans
statement_spans-returns-in_ok-count-in-Select-clause-spans t c =
    let is : statement_of c.args.statement.now ≡ Select (clauses (map clause_of c.in-Select.clauses.items)) = select_is _ _ c.in-Select.is in
    let count = rw c.as_slice-in-Select.ensures.value at c.in_ok-count-in-Select.ensures.count in
    let first = rw c.as_slice-in-Select.ensures.value at c.in_ok-count-in-Select.ensures.spans in
    IfOk-equal c.add_node-in-Select.result _ _ _ c.add_node-in-Select.ensures.spans (rw (is, first, count) (simp append_assoc))

pub statement_spans-returns-in_ok-count-in-Go-clause-spans : goal.statement_spans-returns-in_ok-count-in-Go-clause-spans
statement_spans-returns-in_ok-count-in-Go-clause-spans t c =
    let is : statement_of c.args.statement.now ≡ Go (name_of c.in-Go.field-0) (arguments_of c.in-Go.arguments) = go_is _ _ _ c.in-Go.is in
    IfOk-equal c.add_node-in-Go.result _ _ _ c.add_node-in-Go.ensures.spans (rw (is, c.in_ok-count-in-Go.ensures.spans, c.in_ok-count-in-Go.ensures.count) (simp append_assoc))

pub statement_spans-returns-in_ok-count-in-Return-clause-spans : goal.statement_spans-returns-in_ok-count-in-Return-clause-spans
statement_spans-returns-in_ok-count-in-Return-clause-spans t c =
    let is : statement_of c.args.statement.now ≡ Return (returned_of c.in-Return.returned) = return_is _ _ c.in-Return.is in
    IfOk-equal c.add_node-in-Return.result _ _ _ c.add_node-in-Return.ensures.spans (rw (is, c.in_ok-count-in-Return.ensures.spans, c.in_ok-count-in-Return.ensures.count) (simp append_assoc))

pub body_spans-returns-clause-count : goal.body_spans-returns-clause-count
body_spans-returns-clause-count t c =
    let none : drop c.loop-statement.statement-index c.args.body.now ≡ [] = drop_all c.loop-statement.statement-index c.args.body.now c.loop-statement-test.false in
    omega (arith, rw none at c.loop-statement.invariant.0)

pub body_spans-returns-clause-spans : goal.body_spans-returns-clause-spans
body_spans-returns-clause-spans t c =
    let none : drop c.loop-statement.statement-index c.args.body.now ≡ [] = drop_all c.loop-statement.statement-index c.args.body.now c.loop-statement-test.false in
    rw append-nil at (rw none at c.loop-statement.invariant.1)

pub clauses_spans-returns-clause-count : goal.clauses_spans-returns-clause-count
clauses_spans-returns-clause-count t c =
    let none : drop c.loop-clause.clause-index c.args.all.now ≡ [] = drop_all c.loop-clause.clause-index c.args.all.now c.loop-clause-test.false in
    omega (arith, rw none at c.loop-clause.invariant.0)

pub clauses_spans-returns-clause-spans : goal.clauses_spans-returns-clause-spans
clauses_spans-returns-clause-spans t c =
    let none : drop c.loop-clause.clause-index c.args.all.now ≡ [] = drop_all c.loop-clause.clause-index c.args.all.now c.loop-clause-test.false in
    rw append-nil at (rw none at c.loop-clause.invariant.1)

pub branch_spans-if_head_spans-requires : goal.branch_spans-if_head_spans-requires
branch_spans-if_head_spans-requires t c = search (rules, the_lemmas)

pub branch_spans-overflow_add-at-3 : goal.branch_spans-overflow_add-at-3
branch_spans-overflow_add-at-3 t c = search (rules, the_lemmas)

pub branch_spans-expression_spans-requires : goal.branch_spans-expression_spans-requires
branch_spans-expression_spans-requires t c = search (rules, the_lemmas)

pub branch_spans-overflow_add-at-5 : goal.branch_spans-overflow_add-at-5
branch_spans-overflow_add-at-5 t c = search (rules, the_lemmas)

pub branch_spans-overflow_add-at-6 : goal.branch_spans-overflow_add-at-6
branch_spans-overflow_add-at-6 t c = search (rules, the_lemmas)

pub branch_spans-block_spans-requires : goal.branch_spans-block_spans-requires
branch_spans-block_spans-requires t c = search (rules, the_lemmas)

pub branch_spans-overflow_add-at-8 : goal.branch_spans-overflow_add-at-8
branch_spans-overflow_add-at-8 t c = search (rules, the_lemmas)

pub branch_spans-overflow_add-at-9 : goal.branch_spans-overflow_add-at-9
branch_spans-overflow_add-at-9 t c = search (rules, the_lemmas)

pub branch_spans-overflow_add-at-10 : goal.branch_spans-overflow_add-at-10
branch_spans-overflow_add-at-10 t c = search (rules, the_lemmas)

pub branch_spans-otherwise_spans-requires : goal.branch_spans-otherwise_spans-requires
branch_spans-otherwise_spans-requires t c = search (rules, the_lemmas)

pub branch_spans-overflow_add-count : goal.branch_spans-overflow_add-count
branch_spans-overflow_add-count t c = search (rules, the_lemmas)

pub branch_spans-overflow_add-count-2 : goal.branch_spans-overflow_add-count-2
branch_spans-overflow_add-count-2 t c = search (rules, the_lemmas)

pub branch_spans-overflow_add-count-3 : goal.branch_spans-overflow_add-count-3
branch_spans-overflow_add-count-3 t c = search (rules, the_lemmas)

pub branch_spans-overflow_add-count-4 : goal.branch_spans-overflow_add-count-4
branch_spans-overflow_add-count-4 t c = search (rules, the_lemmas)

pub branch_spans-add_node-requires : goal.branch_spans-add_node-requires
branch_spans-add_node-requires t c = search (rules, the_lemmas)

pub branch_spans-returns-clause-count : goal.branch_spans-returns-clause-count
branch_spans-returns-clause-count t c = search (rules, the_lemmas)

pub clause_spans-start_spans-requires : goal.clause_spans-start_spans-requires
clause_spans-start_spans-requires t c = search (rules, the_lemmas)

pub clause_spans-overflow_add-at : goal.clause_spans-overflow_add-at
clause_spans-overflow_add-at t c = search (rules, the_lemmas)

pub clause_spans-body_spans-requires : goal.clause_spans-body_spans-requires
clause_spans-body_spans-requires t c = search (rules, the_lemmas)

pub clause_spans-overflow_add-count : goal.clause_spans-overflow_add-count
clause_spans-overflow_add-count t c = search (rules, the_lemmas)

pub clause_spans-add_node-requires : goal.clause_spans-add_node-requires
clause_spans-add_node-requires t c = search (rules, the_lemmas)

pub clause_spans-returns-clause-count : goal.clause_spans-returns-clause-count
clause_spans-returns-clause-count t c = search (rules, the_lemmas)

pub otherwise_spans-block_spans-requires : goal.otherwise_spans-block_spans-requires
otherwise_spans-block_spans-requires t c = search (rules, the_lemmas)

pub otherwise_spans-overflow_add-result : goal.otherwise_spans-overflow_add-result
otherwise_spans-overflow_add-result t c = search (rules, the_lemmas)

pub otherwise_spans-branch_spans-requires : goal.otherwise_spans-branch_spans-requires
otherwise_spans-branch_spans-requires t c = search (rules, the_lemmas)

pub otherwise_spans-overflow_add-result-in-If : goal.otherwise_spans-overflow_add-result-in-If
otherwise_spans-overflow_add-result-in-If t c = search (rules, the_lemmas)

pub otherwise_spans-returns-in-Nothing-clause-count : goal.otherwise_spans-returns-in-Nothing-clause-count
otherwise_spans-returns-in-Nothing-clause-count t c = search (rules, the_lemmas)

pub otherwise_spans-returns-in-Nothing-clause-spans : goal.otherwise_spans-returns-in-Nothing-clause-spans
otherwise_spans-returns-in-Nothing-clause-spans t c = search (rules, the_lemmas)

pub otherwise_spans-returns-in_ok-block_spans-in-Block-clause-count : goal.otherwise_spans-returns-in_ok-block_spans-in-Block-clause-count
otherwise_spans-returns-in_ok-block_spans-in-Block-clause-count t c = search (rules, the_lemmas)

pub otherwise_spans-returns-in_ok-block_spans-in-Block-clause-spans : goal.otherwise_spans-returns-in_ok-block_spans-in-Block-clause-spans
otherwise_spans-returns-in_ok-block_spans-in-Block-clause-spans t c = search (rules, the_lemmas)

pub otherwise_spans-returns-in_ok-branch_spans-in-If-clause-count : goal.otherwise_spans-returns-in_ok-branch_spans-in-If-clause-count
otherwise_spans-returns-in_ok-branch_spans-in-If-clause-count t c = search (rules, the_lemmas)

pub otherwise_spans-returns-in_ok-branch_spans-in-If-clause-spans : goal.otherwise_spans-returns-in_ok-branch_spans-in-If-clause-spans
otherwise_spans-returns-in_ok-branch_spans-in-If-clause-spans t c = search (rules, the_lemmas)

pub statement_spans-simple_spans-requires : goal.statement_spans-simple_spans-requires
statement_spans-simple_spans-requires t c = search (rules, the_lemmas)

pub statement_spans-branch_spans-requires : goal.statement_spans-branch_spans-requires
statement_spans-branch_spans-requires t c = search (rules, the_lemmas)

pub statement_spans-overflow_add-at-in-Typed : goal.statement_spans-overflow_add-at-in-Typed
statement_spans-overflow_add-at-in-Typed t c =
    omega (arith, typed_reach c.args.at (statement_of c.args.statement.now) c.in-Typed.names.items (type_of c.in-Typed.kind) (option_map right_of c.in-Typed.right) (typed_is _ _ _ _ c.in-Typed.is) c.requires)

pub statement_spans-type_spans-requires : goal.statement_spans-type_spans-requires
statement_spans-type_spans-requires t c =
    omega (arith, typed_reach c.args.at (statement_of c.args.statement.now) c.in-Typed.names.items (type_of c.in-Typed.kind) (option_map right_of c.in-Typed.right) (typed_is _ _ _ _ c.in-Typed.is) c.requires)

pub statement_spans-overflow_add-at-in-Typed-3 : goal.statement_spans-overflow_add-at-in-Typed-3
statement_spans-overflow_add-at-in-Typed-3 t c =
    omega (arith, typed_reach c.args.at (statement_of c.args.statement.now) c.in-Typed.names.items (type_of c.in-Typed.kind) (option_map right_of c.in-Typed.right) (typed_is _ _ _ _ c.in-Typed.is) c.requires)

pub statement_spans-overflow_add-at-in-Typed-4 : goal.statement_spans-overflow_add-at-in-Typed-4
statement_spans-overflow_add-at-in-Typed-4 t c =
    omega (arith, typed_reach c.args.at (statement_of c.args.statement.now) c.in-Typed.names.items (type_of c.in-Typed.kind) (option_map right_of c.in-Typed.right) (typed_is _ _ _ _ c.in-Typed.is) c.requires, c.in_ok-kind-in-Typed.ensures.count)

pub statement_spans-initial_spans-requires : goal.statement_spans-initial_spans-requires
statement_spans-initial_spans-requires t c =
    omega (arith, typed_reach c.args.at (statement_of c.args.statement.now) c.in-Typed.names.items (type_of c.in-Typed.kind) (option_map right_of c.in-Typed.right) (typed_is _ _ _ _ c.in-Typed.is) c.requires, c.in_ok-kind-in-Typed.ensures.count)

pub statement_spans-overflow_add-names : goal.statement_spans-overflow_add-names
statement_spans-overflow_add-names t c =
    omega (arith, typed_reach c.args.at (statement_of c.args.statement.now) c.in-Typed.names.items (type_of c.in-Typed.kind) (option_map right_of c.in-Typed.right) (typed_is _ _ _ _ c.in-Typed.is) c.requires, c.in_ok-kind-in-Typed.ensures.count)

pub statement_spans-overflow_add-names-in-Typed : goal.statement_spans-overflow_add-names-in-Typed
statement_spans-overflow_add-names-in-Typed t c =
    omega (arith, typed_reach c.args.at (statement_of c.args.statement.now) c.in-Typed.names.items (type_of c.in-Typed.kind) (option_map right_of c.in-Typed.right) (typed_is _ _ _ _ c.in-Typed.is) c.requires, c.in_ok-kind-in-Typed.ensures.count, c.in_ok-values-in-Typed.ensures.count)

pub statement_spans-overflow_add-names-in-Typed-2 : goal.statement_spans-overflow_add-names-in-Typed-2
statement_spans-overflow_add-names-in-Typed-2 t c =
    omega (arith, typed_reach c.args.at (statement_of c.args.statement.now) c.in-Typed.names.items (type_of c.in-Typed.kind) (option_map right_of c.in-Typed.right) (typed_is _ _ _ _ c.in-Typed.is) c.requires, c.in_ok-kind-in-Typed.ensures.count, c.in_ok-values-in-Typed.ensures.count)

pub statement_spans-add_node-requires-in-Typed : goal.statement_spans-add_node-requires-in-Typed
statement_spans-add_node-requires-in-Typed t c =
    omega (arith, typed_reach c.args.at (statement_of c.args.statement.now) c.in-Typed.names.items (type_of c.in-Typed.kind) (option_map right_of c.in-Typed.right) (typed_is _ _ _ _ c.in-Typed.is) c.requires, c.in_ok-kind-in-Typed.ensures.count, c.in_ok-values-in-Typed.ensures.count)

pub statement_spans-overflow_add-at-in-Untyped-2 : goal.statement_spans-overflow_add-at-in-Untyped-2
statement_spans-overflow_add-at-in-Untyped-2 t c =
    omega (arith, untyped_reach c.args.at (statement_of c.args.statement.now) c.in-Untyped.names.items (right_of c.in-Untyped.right) (untyped_is _ _ _ c.in-Untyped.is) c.requires)

pub statement_spans-right_spans-requires : goal.statement_spans-right_spans-requires
statement_spans-right_spans-requires t c =
    omega (arith, untyped_reach c.args.at (statement_of c.args.statement.now) c.in-Untyped.names.items (right_of c.in-Untyped.right) (untyped_is _ _ _ c.in-Untyped.is) c.requires)

pub statement_spans-overflow_add-names-in-Untyped : goal.statement_spans-overflow_add-names-in-Untyped
statement_spans-overflow_add-names-in-Untyped t c =
    omega (arith, untyped_reach c.args.at (statement_of c.args.statement.now) c.in-Untyped.names.items (right_of c.in-Untyped.right) (untyped_is _ _ _ c.in-Untyped.is) c.requires, c.in_ok-values-in-Untyped.ensures.count)

pub statement_spans-overflow_add-names-in-Untyped-2 : goal.statement_spans-overflow_add-names-in-Untyped-2
statement_spans-overflow_add-names-in-Untyped-2 t c =
    omega (arith, untyped_reach c.args.at (statement_of c.args.statement.now) c.in-Untyped.names.items (right_of c.in-Untyped.right) (untyped_is _ _ _ c.in-Untyped.is) c.requires, c.in_ok-values-in-Untyped.ensures.count)

pub statement_spans-add_node-requires-in-Untyped : goal.statement_spans-add_node-requires-in-Untyped
statement_spans-add_node-requires-in-Untyped t c =
    omega (arith, untyped_reach c.args.at (statement_of c.args.statement.now) c.in-Untyped.names.items (right_of c.in-Untyped.right) (untyped_is _ _ _ c.in-Untyped.is) c.requires, c.in_ok-values-in-Untyped.ensures.count)

pub statement_spans-block_spans-requires : goal.statement_spans-block_spans-requires
statement_spans-block_spans-requires t c = search (rules, the_lemmas)

pub statement_spans-add_node-requires-in-Block : goal.statement_spans-add_node-requires-in-Block
statement_spans-add_node-requires-in-Block t c = search (rules, the_lemmas)

pub statement_spans-for_head_spans-requires : goal.statement_spans-for_head_spans-requires
statement_spans-for_head_spans-requires t c = search (rules, the_lemmas)

pub statement_spans-overflow_add-at-in-For-3 : goal.statement_spans-overflow_add-at-in-For-3
statement_spans-overflow_add-at-in-For-3 t c = search (rules, the_lemmas)

pub statement_spans-block_spans-requires-in-For : goal.statement_spans-block_spans-requires-in-For
statement_spans-block_spans-requires-in-For t c = search (rules, the_lemmas)

pub statement_spans-overflow_add-head : goal.statement_spans-overflow_add-head
statement_spans-overflow_add-head t c = search (rules, the_lemmas)

pub statement_spans-overflow_add-head-in-For : goal.statement_spans-overflow_add-head-in-For
statement_spans-overflow_add-head-in-For t c = search (rules, the_lemmas)

pub statement_spans-add_node-requires-in-For : goal.statement_spans-add_node-requires-in-For
statement_spans-add_node-requires-in-For t c = search (rules, the_lemmas)

pub statement_spans-clauses_spans-requires : goal.statement_spans-clauses_spans-requires
statement_spans-clauses_spans-requires t c = search (rules, the_lemmas)

pub statement_spans-overflow_add-count : goal.statement_spans-overflow_add-count
statement_spans-overflow_add-count t c = search (rules, the_lemmas)

pub statement_spans-add_node-requires-in-Select : goal.statement_spans-add_node-requires-in-Select
statement_spans-add_node-requires-in-Select t c = search (rules, the_lemmas)

pub statement_spans-arguments_spans-requires : goal.statement_spans-arguments_spans-requires
statement_spans-arguments_spans-requires t c = search (rules, the_lemmas)

pub statement_spans-overflow_add-count-in-Go : goal.statement_spans-overflow_add-count-in-Go
statement_spans-overflow_add-count-in-Go t c = search (rules, the_lemmas)

pub statement_spans-add_node-requires-in-Go : goal.statement_spans-add_node-requires-in-Go
statement_spans-add_node-requires-in-Go t c = search (rules, the_lemmas)

pub statement_spans-returned_spans-requires : goal.statement_spans-returned_spans-requires
statement_spans-returned_spans-requires t c = search (rules, the_lemmas)

pub statement_spans-overflow_add-count-in-Return : goal.statement_spans-overflow_add-count-in-Return
statement_spans-overflow_add-count-in-Return t c = search (rules, the_lemmas)

pub statement_spans-add_node-requires-in-Return : goal.statement_spans-add_node-requires-in-Return
statement_spans-add_node-requires-in-Return t c = search (rules, the_lemmas)

pub statement_spans-add_node-requires-in-Break : goal.statement_spans-add_node-requires-in-Break
statement_spans-add_node-requires-in-Break t c = search (rules, the_lemmas)

pub statement_spans-returns-in-Empty-clause-count : goal.statement_spans-returns-in-Empty-clause-count
statement_spans-returns-in-Empty-clause-count t c = search (rules, the_lemmas)

pub statement_spans-returns-in-Empty-clause-spans : goal.statement_spans-returns-in-Empty-clause-spans
statement_spans-returns-in-Empty-clause-spans t c = search (rules, the_lemmas)

pub statement_spans-returns-in-Simple-clause-count : goal.statement_spans-returns-in-Simple-clause-count
statement_spans-returns-in-Simple-clause-count t c = search (rules, the_lemmas)

pub statement_spans-returns-in-Simple-clause-spans : goal.statement_spans-returns-in-Simple-clause-spans
statement_spans-returns-in-Simple-clause-spans t c = search (rules, the_lemmas)

pub statement_spans-returns-in-If-clause-count : goal.statement_spans-returns-in-If-clause-count
statement_spans-returns-in-If-clause-count t c = search (rules, the_lemmas)

pub statement_spans-returns-in-If-clause-spans : goal.statement_spans-returns-in-If-clause-spans
statement_spans-returns-in-If-clause-spans t c = search (rules, the_lemmas)

pub statement_spans-returns-in_ok-values-in-Typed-clause-count : goal.statement_spans-returns-in_ok-values-in-Typed-clause-count
statement_spans-returns-in_ok-values-in-Typed-clause-count t c =
    let arm = c.in-Typed in
    let is : statement_of c.args.statement.now ≡ VarTyped (map name_of arm.names.items) (type_of arm.kind) (option_map right_of arm.right) = typed_is _ _ _ _ c.in-Typed.is in
    let count : c.saturating_sub-names.result + c.in_ok-kind-in-Typed.kind + c.in_ok-values-in-Typed.values + 1 ≡ statement_count (statement_of c.args.statement.now) =
    rw is (omega (arith, length-map arm.names.items name_of, c.in_ok-kind-in-Typed.ensures.count, c.in_ok-values-in-Typed.ensures.count)) in
    rw count at c.add_node-in-Typed.ensures.count

pub statement_spans-returns-in_ok-values-in-Untyped-clause-count : goal.statement_spans-returns-in_ok-values-in-Untyped-clause-count
statement_spans-returns-in_ok-values-in-Untyped-clause-count t c =
    let arm = c.in-Untyped in
    let is : statement_of c.args.statement.now ≡ VarUntyped (map name_of arm.names.items) (right_of arm.right) = untyped_is _ _ _ c.in-Untyped.is in
    let count : c.len-names.result * 2 + c.in_ok-values-in-Untyped.values + 1 ≡ statement_count (statement_of c.args.statement.now) =
    rw is (omega (arith, length-map arm.names.items name_of, c.in_ok-values-in-Untyped.ensures.count)) in
    rw count at c.add_node-in-Untyped.ensures.count

pub statement_spans-returns-in_ok-count-in-Block-clause-count : goal.statement_spans-returns-in_ok-count-in-Block-clause-count
statement_spans-returns-in_ok-count-in-Block-clause-count t c = search (rules, the_lemmas)

pub statement_spans-returns-in_ok-body-in-For-clause-count : goal.statement_spans-returns-in_ok-body-in-For-clause-count
statement_spans-returns-in_ok-body-in-For-clause-count t c = search (rules, the_lemmas)

pub statement_spans-returns-in_ok-count-in-Select-clause-count : goal.statement_spans-returns-in_ok-count-in-Select-clause-count
statement_spans-returns-in_ok-count-in-Select-clause-count t c = search (rules, the_lemmas)

pub statement_spans-returns-in_ok-count-in-Go-clause-count : goal.statement_spans-returns-in_ok-count-in-Go-clause-count
statement_spans-returns-in_ok-count-in-Go-clause-count t c = search (rules, the_lemmas)

pub statement_spans-returns-in_ok-count-in-Return-clause-count : goal.statement_spans-returns-in_ok-count-in-Return-clause-count
statement_spans-returns-in_ok-count-in-Return-clause-count t c = search (rules, the_lemmas)

pub statement_spans-returns-in-Break-clause-count : goal.statement_spans-returns-in-Break-clause-count
statement_spans-returns-in-Break-clause-count t c = search (rules, the_lemmas)

pub statement_spans-returns-in-Break-clause-spans : goal.statement_spans-returns-in-Break-clause-spans
statement_spans-returns-in-Break-clause-spans t c = search (rules, the_lemmas)

pub body_spans-overflow_add-count : goal.body_spans-overflow_add-count
body_spans-overflow_add-count t c =
    let cut : drop c.loop-statement.statement-index c.args.body.now ≡ c.statement-item.result ∷ drop (suc c.loop-statement.statement-index) c.args.body.now =
    rw c.statement-item.is (drop-cons c.args.body.now c.loop-statement.statement-index _ c.loop-statement-test.true) in
    omega (arith, c.requires, c.in_ok-count.ensures.count, rw cut at c.loop-statement.invariant.0)

pub body_spans-overflow_add-count-in-loop-statement : goal.body_spans-overflow_add-count-in-loop-statement
body_spans-overflow_add-count-in-loop-statement t c =
    let cut : drop c.loop-statement.statement-index c.args.body.now ≡ c.statement-item.result ∷ drop (suc c.loop-statement.statement-index) c.args.body.now =
    rw c.statement-item.is (drop-cons c.args.body.now c.loop-statement.statement-index _ c.loop-statement-test.true) in
    omega (arith, c.requires, c.in_ok-count.ensures.count, rw cut at c.loop-statement.invariant.0)

pub clauses_spans-overflow_add-count : goal.clauses_spans-overflow_add-count
clauses_spans-overflow_add-count t c =
    let cut : drop c.loop-clause.clause-index c.args.all.now ≡ c.clause-item.result ∷ drop (suc c.loop-clause.clause-index) c.args.all.now =
    rw c.clause-item.is (drop-cons c.args.all.now c.loop-clause.clause-index _ c.loop-clause-test.true) in
    omega (arith, c.requires, c.in_ok-count.ensures.count, rw cut at c.loop-clause.invariant.0)

pub body_spans-statement_spans-requires : goal.body_spans-statement_spans-requires
body_spans-statement_spans-requires t c =
    let rest = drop (suc c.loop-statement.statement-index) c.args.body.now in
    let cut : drop c.loop-statement.statement-index c.args.body.now ≡ c.statement-item.result ∷ rest = rw c.statement-item.is (drop-cons c.args.body.now c.loop-statement.statement-index _ c.loop-statement-test.true) in (
      falls_within (λ (one : StatementNode). statement_depth one) c.args.body.now c.loop-statement.statement-index c.statement-item.result _ _ _ t c.statement-item.is c.loop-statement-test.true c.decreases (omega arith),
      statement_reach c.args.at c.loop-statement.count (statement_count (statement_of c.statement-item.result)) (body_count (body_of rest)) _ (rw cut at c.loop-statement.invariant.0) c.requires,
    )

pub clauses_spans-clause_spans-requires : goal.clauses_spans-clause_spans-requires
clauses_spans-clause_spans-requires t c =
    let first = clause_of c.clause-item.result in
    let rest = drop (suc c.loop-clause.clause-index) c.args.all.now in
    let cut : drop c.loop-clause.clause-index c.args.all.now ≡ c.clause-item.result ∷ rest = rw c.clause-item.is (drop-cons c.args.all.now c.loop-clause.clause-index _ c.loop-clause-test.true) in (
      falls_within (λ (one : ClauseNode). clause_depth one) c.args.all.now c.loop-clause.clause-index c.clause-item.result _ _ _ t c.clause-item.is c.loop-clause-test.true c.decreases (omega arith),
      clause_reach c.args.at c.loop-clause.count (clause_count first.comm first.body) (clauses_count (clauses (map clause_of rest))) _ (rw cut at c.loop-clause.invariant.0) c.requires,
    )
