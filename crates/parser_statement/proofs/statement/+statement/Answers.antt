use Rattle.std.proofs.Common.{◌≤◌, ◌<◌, Ok, refl, length, is_ok, map, sym, ap, ◌∙◌, arith}
use Rattle.std.proofs.ResultArms.{chosen}
use Rattle.std.proofs.lemmas.Result.{err_from_is_err_and}
use Rattle.syntax.specs.Measures.{SelectClauses}
use Rattle.syntax.specs.View.{statement_of}
use Rattle.syntax.specs.declared.limits.TheConstants.{MAX_CLAUSES, MAX_ENTRIES}
use Rattle.parser_base.specs.Cursor.{ahead}
use Rattle.parser_base.specs.Reading.{Syntax, TooMany}
use Rattle.parser_base.proofs.Lists.{more, ends, one_fails, next_fails, is_full}
use Rattle.parser_statement.specs.Reading.{statement, block, branch, next_of, clause, clauses_next}
use Rattle.parser_statement.specs.Views.{clause_of}
use Rattle.parser_statement.proofs.DepthsLeft.{statement_begins, clause_begins, block_done, block_fails}
use Rattle.parser_statement.proofs.Parts.{if_head_fails, if_body_fails, if_else_fails, if_done, else_if_fails, else_if_done, else_block_done, for_head_fails, for_body_fails, for_done, clause_body_fails, clause_body_done, waits_fails, case_is, default_is, marked_leaf, block_fails as block_statement_fails, block_done as block_statement_done, branch_fails, branch_done}
use Rattle.syntax.proofs.Nodes.{block_is, for_is, branch_is, else_block_is}
use Rattle.parser_statement.proofs.statement.+statement.Goals as goal

pub statement-returns : goal.statement-returns
statement-returns t c = rw (statement_begins MAX_ENTRIES c.args.depth_left (ahead c.args.cursor) (omega arith)) c.statement_below.ensures

pub comm_clause-returns : goal.comm_clause-returns
comm_clause-returns t c = rw (clause_begins MAX_ENTRIES c.args.depth_left (ahead c.args.cursor) (omega arith)) c.comm_clause_below.ensures

pub block-returns-in_err-all : goal.block-returns-in_err-all
block-returns-in_err-all t c =
    let p = err_from_is_err_and c.from_residual-in_err-all.result c.from_residual-in_err-all.ensures.1 in
    rw (p.1, p.2) (block_fails c.in_err-all.field-0.0 MAX_ENTRIES c.args.depth_left (ahead c.args.cursor) (ahead c.in_ok-rest.rest) (omega arith) c.in_ok-rest.ensures.gives c.in_err-all.ensures)

pub block-returns : goal.block-returns
block-returns t c =
    block_done MAX_ENTRIES c.args.depth_left (ahead c.args.cursor) (ahead c.in_ok-rest.rest) (map statement_of c.in_ok-all.all.entries.items) c.in_ok-all.all.trailing (ahead c.in_ok-all.all.rest) (omega arith) c.in_ok-rest.ensures.gives c.in_ok-all.ensures

pub statements_to_end-returns-in_err-one : goal.statements_to_end-returns-in_err-one
statements_to_end-returns-in_err-one t c =
    let p = err_from_is_err_and c.from_residual.result c.from_residual.ensures.1 in
    let turns = length (ahead c.args.cursor) in
    let lt : c.loop.counter < turns = omega (arith, c.len-end.ensures) in
    rw (p.1, p.2) (one_fails c.in_err-one.field-0.0 (statement MAX_ENTRIES c.args.depth_left) (next_of c.args.clause) Syntax turns c.loop.counter _ (ahead c.loop.rest) _ lt c.in_err-one.ensures c.loop.invariant.total)

pub statements_to_end-returns-in_err-next : goal.statements_to_end-returns-in_err-next
statements_to_end-returns-in_err-next t c =
    let p = err_from_is_err_and c.from_residual-in_err-next.result c.from_residual-in_err-next.ensures.1 in
    let turns = length (ahead c.args.cursor) in
    let lt : c.loop.counter < turns = omega (arith, c.len-end.ensures) in
    rw (p.1, p.2) (next_fails c.in_err-next.field-0.0 (statement MAX_ENTRIES c.args.depth_left) (next_of c.args.clause) Syntax turns c.loop.counter _ (ahead c.loop.rest) (statement_of c.in_ok-one.one) (ahead c.in_ok-one.following) _ lt c.in_ok-one.ensures c.in_err-next.ensures.gives c.loop.invariant.total)

pub statements_to_end-returns-in-End : goal.statements_to_end-returns-in-End
statements_to_end-returns-in-End t c =
    let pushed = chosen _ _ _ _ c.push.ensures.items (ap is_ok c.in_ok-push.was) in
    let turns = length (ahead c.args.cursor) in
    let lt : c.loop.counter < turns = omega (arith, c.len-end.ensures) in
    rw pushed (ends statement_of (statement MAX_ENTRIES c.args.depth_left) (next_of c.args.clause) Syntax turns c.loop.counter c.loop.entries.items (ahead c.loop.rest) c.in_ok-one.one c.in-End.trailing (ahead c.in_ok-one.following) (ahead c.in_ok-next.after) _ lt c.in_ok-one.ensures (rw c.in-End.is at c.in_ok-next.ensures.gives) c.loop.invariant.total)

pub statements_to_end-loop-preserved : goal.statements_to_end-loop-preserved
statements_to_end-loop-preserved t c =
    let pushed = chosen _ _ _ _ c.push.ensures.items (ap is_ok c.in_ok-push.was) in
    let turns = length (ahead c.args.cursor) in
    let lt : c.loop.counter < turns = omega (arith, c.len-end.ensures) in
    record {
      total = rw pushed (more statement_of (statement MAX_ENTRIES c.args.depth_left) (next_of c.args.clause) Syntax turns c.loop.counter c.loop.entries.items (ahead c.loop.rest) c.in_ok-one.one (ahead c.in_ok-one.following) (ahead c.in_ok-next.after) _ lt c.in_ok-one.ensures (rw c.in-More.is at c.in_ok-next.ensures.gives) c.loop.invariant.total);
    }

pub statements_to_end-returns : goal.statements_to_end-returns
statements_to_end-returns t c =
    let turns = length (ahead c.args.cursor) in
    let le : turns ≤ c.loop.counter = omega (arith, c.len-end.ensures) in
    is_full (statement MAX_ENTRIES c.args.depth_left) (next_of c.args.clause) Syntax turns c.loop.counter _ (ahead c.loop.rest) _ le c.loop.invariant.total

pub comm_clauses-returns-in_err-one : goal.comm_clauses-returns-in_err-one
comm_clauses-returns-in_err-one t c =
    let p = err_from_is_err_and c.from_residual.result c.from_residual.ensures.1 in
    rw (p.1, p.2) (one_fails c.in_err-one.field-0.0 (clause MAX_ENTRIES c.args.depth_left) clauses_next (TooMany SelectClauses) MAX_CLAUSES c.loop.counter _ (ahead c.loop.rest) _ c.loop-test.true c.in_err-one.ensures c.loop.invariant.total)

pub comm_clauses-returns-in_err-next : goal.comm_clauses-returns-in_err-next
comm_clauses-returns-in_err-next t c =
    let p = err_from_is_err_and c.from_residual-in_err-next.result c.from_residual-in_err-next.ensures.1 in
    rw (p.1, p.2) (next_fails c.in_err-next.field-0.0 (clause MAX_ENTRIES c.args.depth_left) clauses_next (TooMany SelectClauses) MAX_CLAUSES c.loop.counter _ (ahead c.loop.rest) (clause_of c.in_ok-one.one) (ahead c.in_ok-one.following) _ c.loop-test.true c.in_ok-one.ensures c.in_err-next.ensures.gives c.loop.invariant.total)

pub comm_clauses-returns-in-End : goal.comm_clauses-returns-in-End
comm_clauses-returns-in-End t c =
    let pushed = chosen _ _ _ _ c.push.ensures.items (ap is_ok c.in_ok-push.was) in
    rw pushed (ends clause_of (clause MAX_ENTRIES c.args.depth_left) clauses_next (TooMany SelectClauses) MAX_CLAUSES c.loop.counter c.loop.entries.items (ahead c.loop.rest) c.in_ok-one.one c.in-End.trailing (ahead c.in_ok-one.following) (ahead c.in_ok-next.after) _ c.loop-test.true c.in_ok-one.ensures (rw c.in-End.is at c.in_ok-next.ensures.gives) c.loop.invariant.total)

pub comm_clauses-loop-preserved : goal.comm_clauses-loop-preserved
comm_clauses-loop-preserved t c =
    let pushed = chosen _ _ _ _ c.push.ensures.items (ap is_ok c.in_ok-push.was) in
    record {
      total = rw pushed (more clause_of (clause MAX_ENTRIES c.args.depth_left) clauses_next (TooMany SelectClauses) MAX_CLAUSES c.loop.counter c.loop.entries.items (ahead c.loop.rest) c.in_ok-one.one (ahead c.in_ok-one.following) (ahead c.in_ok-next.after) _ c.loop-test.true c.in_ok-one.ensures (rw c.in-More.is at c.in_ok-next.ensures.gives) c.loop.invariant.total);
    }

pub comm_clauses-returns : goal.comm_clauses-returns
comm_clauses-returns t c = is_full (clause MAX_ENTRIES c.args.depth_left) clauses_next (TooMany SelectClauses) MAX_CLAUSES c.loop.counter _ (ahead c.loop.rest) _ c.loop-test.false c.loop.invariant.total

pub if_statement-returns-in_err-head : goal.if_statement-returns-in_err-head
if_statement-returns-in_err-head t c =
    let p = err_from_is_err_and c.from_residual.result c.from_residual.ensures.1 in
    rw (p.1, p.2) (if_head_fails c.in_err-head.field-0.0 MAX_ENTRIES c.args.depth_left _ _ (ahead c.args.cursor) (omega arith) c.in_err-head.ensures)

pub if_statement-returns-in_err-head-2 : goal.if_statement-returns-in_err-head-2
if_statement-returns-in_err-head-2 t c =
    let p = err_from_is_err_and c.from_residual-in_err-head-2.result c.from_residual-in_err-head-2.ensures.1 in
    rw (p.1, p.2) (if_body_fails c.in_err-head-2.field-0.0 MAX_ENTRIES c.args.depth_left _ _ (ahead c.args.cursor) _ (omega arith) c.in_ok-head.ensures (rw c.in_err-head-2.ensures.err at c.block.ensures))

pub if_statement-returns-in_err-begun : goal.if_statement-returns-in_err-begun
if_statement-returns-in_err-begun t c =
    let p = err_from_is_err_and c.from_residual-in_err-begun.result c.from_residual-in_err-begun.ensures.1 in
    rw (p.1, p.2) (if_else_fails c.in_err-begun.field-0.0 MAX_ENTRIES c.args.depth_left _ _ (ahead c.args.cursor) _ _ (omega arith) c.in_ok-head.ensures (rw c.in_ok-head-2.ensures.ok.1 at c.block.ensures) (rw c.in_err-begun.ensures.err at c.optional_else.ensures))

pub if_statement-returns : goal.if_statement-returns
if_statement-returns t c =
    rw (c.in_ok-begun.ensures.ok.0, c.in_ok-head-2.ensures.ok.0) (if_done MAX_ENTRIES c.args.depth_left _ _ (ahead c.args.cursor) _ _ _ (omega arith) c.in_ok-head.ensures (rw c.in_ok-head-2.ensures.ok.1 at c.block.ensures) (rw c.in_ok-begun.ensures.ok.1 at c.optional_else.ensures) ∙ ap (λ made. Ok (made, ahead c.in_ok-begun.rest)) (sym (branch_is _)))

pub else_branch-returns-in_err-branch : goal.else_branch-returns-in_err-branch
else_branch-returns-in_err-branch t c =
    let p = err_from_is_err_and c.from_residual-in_err-branch.result c.from_residual-in_err-branch.ensures.1 in
    rw (p.1, p.2) (else_if_fails c.in_err-branch.field-0.0 MAX_ENTRIES c.args.depth_left (ahead c.args.cursor) _ (omega arith) (sym c.begins_with.ensures ∙ c.if-begins_with.true) c.in_ok-rest.ensures.gives c.in_err-branch.ensures)

pub else_branch-returns-then-begins_with : goal.else_branch-returns-then-begins_with
else_branch-returns-then-begins_with t c = rw c.in_ok-else_node.ensures.ok (else_if_done MAX_ENTRIES c.args.depth_left (ahead c.args.cursor) _ _ (omega arith) (sym c.begins_with.ensures ∙ c.if-begins_with.true) c.in_ok-rest.ensures.gives c.in_ok-branch.ensures)

pub else_branch-returns : goal.else_branch-returns
else_branch-returns t c = else_block_done _ _ (ahead c.args.cursor) _ (sym c.begins_with.ensures ∙ c.if-begins_with.false) c.in_ok-body.ensures ∙ ap (λ made. Ok (made, ahead c.in_ok-body.rest)) (sym (else_block_is _ c.in_ok-body.body refl))

pub for_statement-returns-in_err-header : goal.for_statement-returns-in_err-header
for_statement-returns-in_err-header t c =
    let p = err_from_is_err_and c.from_residual.result c.from_residual.ensures.1 in
    rw (p.1, p.2) (for_head_fails c.in_err-header.field-0.0 MAX_ENTRIES c.args.depth_left _ (ahead c.args.cursor) (omega arith) c.in_err-header.ensures)

pub for_statement-returns-in_err-header-2 : goal.for_statement-returns-in_err-header-2
for_statement-returns-in_err-header-2 t c =
    let p = err_from_is_err_and c.from_residual-in_err-header-2.result c.from_residual-in_err-header-2.ensures.1 in
    rw (p.1, p.2) (for_body_fails c.in_err-header-2.field-0.0 MAX_ENTRIES c.args.depth_left _ (ahead c.args.cursor) _ (omega arith) c.in_ok-header.ensures (rw c.in_err-header-2.ensures.err at c.block.ensures))

pub for_statement-returns : goal.for_statement-returns
for_statement-returns t c = rw c.in_ok-header-2.ensures.ok.0 (for_done MAX_ENTRIES c.args.depth_left _ (ahead c.args.cursor) _ _ (omega arith) c.in_ok-header.ensures (rw c.in_ok-header-2.ensures.ok.1 at c.block.ensures) ∙ ap (λ made. Ok (made, ahead c.in_ok-header-2.rest)) (sym (for_is _ c.in_ok-header.header c.in_ok-header-2.body refl)))

pub clause_body-returns-in_err-waits-2 : goal.clause_body-returns-in_err-waits-2
clause_body-returns-in_err-waits-2 t c =
    let p = err_from_is_err_and c.from_residual-in_err-waits-2.result c.from_residual-in_err-waits-2.ensures.1 in
    rw (p.1, p.2) (clause_body_fails c.in_err-waits-2.field-0.0 _ _ (ahead c.args.cursor) _ (rw c.in_ok-waits.ensures.ok.1 at c.expect.ensures.gives) (rw c.in_err-waits-2.ensures.err at c.statements_to_end.ensures))

pub clause_body-returns : goal.clause_body-returns
clause_body-returns t c = rw (c.clause_node.ensures.comm, c.clause_node.ensures.body, c.in_ok-waits-2.ensures.ok.0, c.in_ok-waits.ensures.ok.0) (clause_body_done _ _ (ahead c.args.cursor) _ _ (rw c.in_ok-waits.ensures.ok.1 at c.expect.ensures.gives) (rw c.in_ok-waits-2.ensures.ok.1 at c.statements_to_end.ensures))

pub comm_clause_below-returns-in_err-waits-in-Some-Mark-Case-default : goal.comm_clause_below-returns-in_err-waits-in-Some-Mark-Case-default
comm_clause_below-returns-in_err-waits-in-Some-Mark-Case-default t c =
    let p = err_from_is_err_and c.from_residual.result c.from_residual.ensures.1 in
    rw (p.1, p.2) (waits_fails c.in_err-waits-in-Some-Mark-Case-default.field-0.0 MAX_ENTRIES c.args.depth_left _ (ahead c.args.cursor) _ (omega arith) (rw (c.in-Some-Mark-Case-default.field-0-0-is, c.in-Some-Mark-Case-default.field-0-0-0-is) at c.in-Some-Mark-Case-default.ensures) c.in_err-waits-in-Some-Mark-Case-default.ensures)

pub comm_clause_below-returns-in_ok-waits-in-Some-Mark-Case-default : goal.comm_clause_below-returns-in_ok-waits-in-Some-Mark-Case-default
comm_clause_below-returns-in_ok-waits-in-Some-Mark-Case-default t c = rw (case_is MAX_ENTRIES c.args.depth_left (statement MAX_ENTRIES c.args.depth_left) (ahead c.args.cursor) _ _ (omega arith) (rw (c.in-Some-Mark-Case-default.field-0-0-is, c.in-Some-Mark-Case-default.field-0-0-0-is) at c.in-Some-Mark-Case-default.ensures) c.in_ok-waits-in-Some-Mark-Case-default.ensures) c.clause_body.ensures

pub comm_clause_below-returns-else-depth_left-lt1 : goal.comm_clause_below-returns-else-depth_left-lt1
comm_clause_below-returns-else-depth_left-lt1 t c = rw (default_is MAX_ENTRIES c.args.depth_left (statement MAX_ENTRIES c.args.depth_left) (ahead c.args.cursor) _ (omega arith) (rw (c.in-Some-Mark-Default-default.field-0-0-is, c.in-Some-Mark-Default-default.field-0-0-0-is) at c.in-Some-Mark-Default-default.ensures)) c.clause_body-in-Some-Mark-Default-default.ensures

pub keyword_statement-returns-in_default : goal.keyword_statement-returns-in_default
keyword_statement-returns-in_default t c = rw (marked_leaf MAX_ENTRIES c.args.depth_left (block MAX_ENTRIES c.args.depth_left) (branch MAX_ENTRIES c.args.depth_left) (clause MAX_ENTRIES c.args.depth_left) c.args.kind (ahead c.args.rest) c.in_default.not-LeftBrace c.in_default.not-If c.in_default.not-For c.in_default.not-Select) c.leaf.ensures

pub keyword_statement-returns-in_err-body-in-LeftBrace : goal.keyword_statement-returns-in_err-body-in-LeftBrace
keyword_statement-returns-in_err-body-in-LeftBrace t c =
    let p = err_from_is_err_and c.from_residual.result c.from_residual.ensures.1 in
    rw (p.1, p.2) (block_statement_fails c.in_err-body-in-LeftBrace.field-0.0 MAX_ENTRIES c.args.depth_left _ _ _ c.args.kind (ahead c.args.rest) (omega arith) c.in-LeftBrace.is (rw c.requires at c.in_err-body-in-LeftBrace.ensures))

pub keyword_statement-returns-in_ok-body-in-LeftBrace : goal.keyword_statement-returns-in_ok-body-in-LeftBrace
keyword_statement-returns-in_ok-body-in-LeftBrace t c = block_statement_done MAX_ENTRIES c.args.depth_left _ _ _ c.args.kind (ahead c.args.rest) _ (omega arith) c.in-LeftBrace.is (rw c.requires at c.in_ok-body-in-LeftBrace.ensures) ∙ ap (λ made. Ok (made, ahead c.in_ok-body-in-LeftBrace.rest)) (sym (block_is _ c.in_ok-body-in-LeftBrace.body refl))

pub keyword_statement-returns-in_err-branch-in-If : goal.keyword_statement-returns-in_err-branch-in-If
keyword_statement-returns-in_err-branch-in-If t c =
    let p = err_from_is_err_and c.from_residual-in_err-branch-in-If.result c.from_residual-in_err-branch-in-If.ensures.1 in
    rw (p.1, p.2) (branch_fails c.in_err-branch-in-If.field-0.0 MAX_ENTRIES c.args.depth_left _ _ _ c.args.kind (ahead c.args.rest) c.in-If.is c.in_err-branch-in-If.ensures)

pub keyword_statement-returns-in_ok-if_node-in-If : goal.keyword_statement-returns-in_ok-if_node-in-If
keyword_statement-returns-in_ok-if_node-in-If t c = rw c.in_ok-if_node-in-If.ensures.ok (branch_done MAX_ENTRIES c.args.depth_left _ _ _ c.args.kind (ahead c.args.rest) _ c.in-If.is c.in_ok-branch-in-If.ensures)
