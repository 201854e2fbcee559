use Rattle.std.proofs.Common.{rules, ◌≡◌, [], ◌∷◌, ◌+◌, suc, ap, inl, inr, refl, sym, subst, ◌∙◌, map, drop, drop-cons, length, arith}
use Rattle.std.proofs.lemmas.List.{drop_all}
use Rattle.std.proofs.Math.Seq.{take-length}
use Rattle.std.proofs.lemmas.Result.{err_from_is_err_and, IfOk-weaker}
use Rattle.syntax.specs.Tree.{Statement, Then}
use Rattle.syntax.specs.Measures.{statement_size}
use Rattle.syntax.specs.View.{expression_of, body_of, statement_of, if_head_of, for_head_of, otherwise_of, clause_of, clauses}
use Rattle.type_table.specs.Scopes.{Scope, entered, left}
use Rattle.type_table.specs.Visible.{globals_in, scope_of, Keeps, Leaves}
use Rattle.typing_rules.specs.declared.violation.Violation.{Violation}
use Rattle.checker_base.specs.Views.{Refuses}
use Rattle.checker_statement.specs.Settings.{setting_in}
use Rattle.typing_rules.specs.Statements.{StatementHas, StatementsHave, PartsHave, ClauseHas, ClausesHave, after_all, after_parts, after_clause, after_for_head}
use Rattle.syntax.proofs.Nodes.{empty_is, simple_is, typed_is, untyped_is, block_is, if_is, for_is, select_is, go_is, return_is, break_is, continue_is, branch_is, nothing_is, else_block_is, else_if_is}
use Rattle.checker_statement.proofs.Defaults.{two_defaults}
use Rattle.checker_statement.proofs.Further.{few_defaults, keeps_on, keeps_same, keeps_left, always, refuses_more, block_left, found_next, passed_next, found_clause, passed_clause}
use Rattle.checker_statement.proofs.statement.+statement.Goals as goal

pub select-returns-then-defaults-gt1-clause-one : goal.select-returns-then-defaults-gt1-clause-one
select-returns-then-defaults-gt1-clause-one t c = inr (
  two_defaults c.args.all.now c.loop-one.one-index c.loop-one.defaults c.with_clause-defaults.result c.one-item.result
      c.loop-one-test.true c.one-item.is c.with_clause-defaults.ensures.count c.loop-one.invariant.count c.if-defaults-gt1.true,
  c.broken_at.ensures _ (ap (λ (s : Statement). c.args.first + statement_size s) (sym c.requires.whole)),
)

pub statements-loop-one-preserved : goal.statements-loop-one-preserved
statements-loop-one-preserved t c =
    let setting = setting_in c.args.table.now c.args.inside in
    let one = statement_of c.one-item.result in
    let left = drop (suc c.loop-one.one-index) c.args.body.now in
    let rest = body_of left in
    let before = scope_of c.args.table.now c.loop-one.visible in
    let scope = scope_of c.args.table.now c.statement.new.visible in
    let more : c.loop-one.one-index + 1 ≡ suc c.loop-one.one-index = omega arith in
    let cut : drop c.loop-one.one-index c.args.body.now ≡ c.one-item.result ∷ left = rw c.one-item.is (drop-cons c.args.body.now c.loop-one.one-index _ c.loop-one-test.true) in
    let here = c.in_ok-end.ensures in
    let has = StatementsHave setting (scope_of c.args.table.now c.args.visible.now) c.args.first (body_of c.args.body.now) in
    record {
      end = rw more (omega (arith, here.end, rw cut at c.loop-one.invariant.end));
      after = rw (more, here.after) (rw cut at c.loop-one.invariant.after);
      kept = keeps_on c.args.visible.now c.loop-one.visible c.statement.new.visible c.loop-one.invariant.kept here.kept;
      found = rw more (found_next setting has before scope c.loop-one.end c.in_ok-end.end one rest here.after here.end (rw cut at c.loop-one.invariant.found));
      passed = rw more (passed_next setting has before scope c.loop-one.end c.in_ok-end.end one rest here.after here.end (rw cut at c.loop-one.invariant.passed) here.none);
    }

pub select-loop-one-preserved : goal.select-loop-one-preserved
select-loop-one-preserved t c =
    let setting = setting_in c.args.table.now c.args.inside in
    let one = clause_of c.one-item.result in
    let left = drop (suc c.loop-one.one-index) c.args.all.now in
    let rest = clauses (map clause_of left) in
    let before = scope_of c.args.table.now c.loop-one.visible in
    let scope = scope_of c.args.table.now c.clause.new.visible in
    let more : c.loop-one.one-index + 1 ≡ suc c.loop-one.one-index = omega arith in
    let cut : drop c.loop-one.one-index c.args.all.now ≡ c.one-item.result ∷ left = rw c.one-item.is (drop-cons c.args.all.now c.loop-one.one-index _ c.loop-one-test.true) in
    let here = c.in_ok-end.ensures in
    let has = ClausesHave setting (scope_of c.args.table.now c.args.visible.now) c.args.first (clauses (map clause_of c.args.all.now)) in
    record {
      end = rw more (omega (arith, here.end, rw cut at c.loop-one.invariant.end));
      after = rw (more, here.after) (rw cut at c.loop-one.invariant.after);
      left = (here.left.0 ∙ c.loop-one.invariant.left.0, here.left.1 ∙ c.loop-one.invariant.left.1);
      count = rw more (c.with_clause-defaults.ensures.count rest ∙ rw cut at c.loop-one.invariant.count);
      few = omega (arith, c.if-defaults-gt1.false);
      found = rw more (found_clause setting has before scope c.loop-one.end c.in_ok-end.end one.comm one.body rest here.after here.end (rw cut at c.loop-one.invariant.found));
      passed = rw more (passed_clause setting has before scope c.loop-one.end c.in_ok-end.end one.comm one.body rest here.after here.end (rw cut at c.loop-one.invariant.passed) here.none);
    }

pub statements-loop-one-init : goal.statements-loop-one-init
statements-loop-one-init t c = record { end = refl; after = refl; kept = (take-length c.args.visible.now.entries.items, refl); found = λ violation has. has; passed = λ violation has. has }

pub statements-returns-clause-end : goal.statements-returns-clause-end
statements-returns-clause-end t c =
    let none : drop c.loop-one.one-index c.args.body.now ≡ [] = drop_all c.loop-one.one-index c.args.body.now c.loop-one-test.false in
    omega (arith, rw none at c.loop-one.invariant.end)

pub statements-returns-clause-after : goal.statements-returns-clause-after
statements-returns-clause-after t c =
    let none : drop c.loop-one.one-index c.args.body.now ≡ [] = drop_all c.loop-one.one-index c.args.body.now c.loop-one-test.false in
    rw none at c.loop-one.invariant.after

pub statements-returns-clause-none : goal.statements-returns-clause-none
statements-returns-clause-none t c =
    let none : drop c.loop-one.one-index c.args.body.now ≡ [] = drop_all c.loop-one.one-index c.args.body.now c.loop-one-test.false in
    λ violation has. rw none at (c.loop-one.invariant.passed violation has)

pub select-loop-one-init : goal.select-loop-one-init
select-loop-one-init t c = record { end = refl; after = refl; left = (refl, refl); count = omega arith; few = omega arith; found = λ violation has. has; passed = λ violation has. has }

pub select-returns-clause-after : goal.select-returns-clause-after
select-returns-clause-after t c =
    let none : drop c.loop-one.one-index c.args.all.now ≡ [] = drop_all c.loop-one.one-index c.args.all.now c.loop-one-test.false in
    rw none at c.loop-one.invariant.after

pub select-returns-clause-none : goal.select-returns-clause-none
select-returns-clause-none t c =
    let none : drop c.loop-one.one-index c.args.all.now ≡ [] = drop_all c.loop-one.one-index c.args.all.now c.loop-one-test.false in
    let count = rw none at c.loop-one.invariant.count in
    λ violation has. elim has [ inl bad ↦ rw none at (c.loop-one.invariant.passed violation bad) | inr many ↦ few_defaults _ (omega (arith, count, c.loop-one.invariant.few)) many.0 ]

pub block-returns-in_err-end-clause-one : goal.block-returns-in_err-end-clause-one
block-returns-in_err-end-clause-one t c =
    let p = err_from_is_err_and c.from_residual.result c.from_residual.ensures.1 in
    rw (p.1, p.2) (subst (λ (s : Scope). Refuses (StatementsHave (setting_in c.args.table.now c.args.inside) s c.args.first (body_of c.args.body.now)) c.in_err-end.field-0.0) (c.enter.ensures.scope c.args.table.now) c.in_err-end.ensures.one)

pub block-returns-clause-after : goal.block-returns-clause-after
block-returns-clause-after t c =
    let count : c.len-count.result ≡ length c.args.visible.now.entries.items = search rules in
    let is = c.in_ok-end.ensures.after ∙ ap (λ (s : Scope). after_all (globals_in c.args.table.now) s (body_of c.args.body.now)) (c.enter.ensures.scope c.args.table.now) in
    block_left c.args.table.now c.args.visible.now c.enter.new.visible c.statements.new.visible c.leave.new.visible c.len-count.result _ count c.enter.ensures.entries c.in_ok-end.ensures.kept is c.leave.ensures.entries c.leave.ensures.outer c.leave.ensures.words

pub block-returns-clause-none : goal.block-returns-clause-none
block-returns-clause-none t c = λ violation has.
    c.in_ok-end.ensures.none violation (subst (λ (s : Scope). StatementsHave (setting_in c.args.table.now c.args.inside) s c.args.first (body_of c.args.body.now) violation) (sym (c.enter.ensures.scope c.args.table.now)) has)

pub if_statement-returns-in_err-node-clause-one : goal.if_statement-returns-in_err-node-clause-one
if_statement-returns-in_err-node-clause-one t c =
    let p = err_from_is_err_and c.from_residual.result c.from_residual.ensures.1 in
    rw (p.1, p.2) (subst (λ (s : Scope). Refuses (PartsHave (setting_in c.args.table.now c.args.inside) s c.args.first (if_head_of c.args.branch.now.header) (expression_of c.args.branch.now.condition) (body_of c.args.branch.now.body.items) (otherwise_of c.args.branch.now.otherwise)) c.in_err-node.field-0.0) (c.enter.ensures.scope c.args.table.now) c.in_err-node.ensures.one)

pub if_statement-returns-clause-after : goal.if_statement-returns-clause-after
if_statement-returns-clause-after t c =
    let count : c.len-count.result ≡ length c.args.visible.now.entries.items = search rules in
    let is = c.in_ok-node.ensures.after ∙ ap (λ (s : Scope). after_parts (globals_in c.args.table.now) s (if_head_of c.args.branch.now.header) (body_of c.args.branch.now.body.items) (otherwise_of c.args.branch.now.otherwise)) (c.enter.ensures.scope c.args.table.now) in
    block_left c.args.table.now c.args.visible.now c.enter.new.visible c.if_parts.new.visible c.leave.new.visible c.len-count.result _ count c.enter.ensures.entries c.in_ok-node.ensures.kept is c.leave.ensures.entries c.leave.ensures.outer c.leave.ensures.words

pub if_statement-returns-clause-none : goal.if_statement-returns-clause-none
if_statement-returns-clause-none t c = λ violation has.
    c.in_ok-node.ensures.none violation (subst (λ (s : Scope). PartsHave (setting_in c.args.table.now c.args.inside) s c.args.first (if_head_of c.args.branch.now.header) (expression_of c.args.branch.now.condition) (body_of c.args.branch.now.body.items) (otherwise_of c.args.branch.now.otherwise) violation) (sym (c.enter.ensures.scope c.args.table.now)) has)

pub clause-returns-in_err-end-clause-one : goal.clause-returns-in_err-end-clause-one
clause-returns-in_err-end-clause-one t c =
    let p = err_from_is_err_and c.from_residual.result c.from_residual.ensures.1 in
    rw (p.1, p.2) (subst (λ (s : Scope). Refuses (ClauseHas (setting_in c.args.table.now c.args.inside) s c.args.first (clause_of c.args.one.now).comm (clause_of c.args.one.now).body) c.in_err-end.field-0.0) (c.enter.ensures.scope c.args.table.now) c.in_err-end.ensures.one)

pub clause-returns-clause-after : goal.clause-returns-clause-after
clause-returns-clause-after t c =
    let count : c.len-count.result ≡ length c.args.visible.now.entries.items = search rules in
    let is = c.in_ok-end.ensures.after ∙ ap (λ (s : Scope). after_clause (globals_in c.args.table.now) s (clause_of c.args.one.now).comm (clause_of c.args.one.now).body) (c.enter.ensures.scope c.args.table.now) in
    block_left c.args.table.now c.args.visible.now c.enter.new.visible c.clause_parts.new.visible c.leave.new.visible c.len-count.result _ count c.enter.ensures.entries c.in_ok-end.ensures.kept is c.leave.ensures.entries c.leave.ensures.outer c.leave.ensures.words

pub clause-returns-clause-none : goal.clause-returns-clause-none
clause-returns-clause-none t c = λ violation has.
    c.in_ok-end.ensures.none violation (subst (λ (s : Scope). ClauseHas (setting_in c.args.table.now c.args.inside) s c.args.first (clause_of c.args.one.now).comm (clause_of c.args.one.now).body violation) (sym (c.enter.ensures.scope c.args.table.now)) has)

pub for_statement-returns-clause-after : goal.for_statement-returns-clause-after
for_statement-returns-clause-after t c =
    let table = c.args.table.now in
    let head = for_head_of c.args.header.now in
    let body = body_of c.args.body.now in
    let begun = c.enter.new.visible in
    let within = c.for_header.new.visible in
    let inner = c.block.new.visible in
    let count : c.len-count.result ≡ length c.args.visible.now.entries.items = search rules in
    let kept = keeps_on begun within inner c.in_ok-start.ensures.kept (keeps_left within inner c.in_ok-end.ensures.left) in
    let is = c.in_ok-start.ensures.after ∙ ap (λ (s : Scope). after_for_head (globals_in table) s head) (c.enter.ensures.scope table) in
    block_left table c.args.visible.now begun inner c.leave.new.visible c.len-count.result _ count c.enter.ensures.entries kept c.in_ok-end.ensures.after c.leave.ensures.entries c.leave.ensures.outer c.leave.ensures.words
    ∙ ap (λ (s : Scope). left (scope_of table c.args.visible.now) (after_all (globals_in table) (entered s) body)) is

pub clause_parts-returns-clause-kept : goal.clause_parts-returns-clause-kept
clause_parts-returns-clause-kept t c =
    IfOk-weaker c.statements.result (λ _. Keeps c.optional_comm.new.visible c.statements.new.visible) (λ _. Keeps c.args.visible.now c.statements.new.visible) (λ _ kept. keeps_on c.args.visible.now c.optional_comm.new.visible c.statements.new.visible c.in_ok-following.ensures.kept kept) c.statements.ensures.kept

pub statements-returns-in_err-end-clause-one : goal.statements-returns-in_err-end-clause-one
statements-returns-in_err-end-clause-one t c =
    let setting = setting_in c.args.table.now c.args.inside in
    let one = statement_of c.one-item.result in
    let left = drop (suc c.loop-one.one-index) c.args.body.now in
    let before = scope_of c.args.table.now c.loop-one.visible in
    let cut : drop c.loop-one.one-index c.args.body.now ≡ c.one-item.result ∷ left = rw c.one-item.is (drop-cons c.args.body.now c.loop-one.one-index _ c.loop-one-test.true) in
    let has = StatementsHave setting (scope_of c.args.table.now c.args.visible.now) c.args.first (body_of c.args.body.now) in
    let found : (violation : Violation) → StatementsHave setting before c.loop-one.end (Then one (body_of left)) violation → has violation = rw cut at c.loop-one.invariant.found in
    let p = err_from_is_err_and c.from_residual.result c.from_residual.ensures.1 in
    rw (p.1, p.2) (refuses_more (StatementHas setting before c.loop-one.end one) has c.in_err-end.field-0.0 (λ violation bad. found violation (inl bad)) c.in_err-end.ensures.one)

pub select-returns-clause-end : goal.select-returns-clause-end
select-returns-clause-end t c =
    let none : drop c.loop-one.one-index c.args.all.now ≡ [] = drop_all c.loop-one.one-index c.args.all.now c.loop-one-test.false in
    omega (arith, rw none at c.loop-one.invariant.end)

pub statement-returns-in-Empty-clause-kept : goal.statement-returns-in-Empty-clause-kept
statement-returns-in-Empty-clause-kept t c = keeps_same c.args.visible.now

pub statement-returns-in_ok-end-in-Block-clause-kept : goal.statement-returns-in_ok-end-in-Block-clause-kept
statement-returns-in_ok-end-in-Block-clause-kept t c = keeps_left c.args.visible.now c.block.new.visible c.in_ok-end-in-Block.ensures.left

pub statement-returns-in_ok-return_statement-in-Return-clause-kept : goal.statement-returns-in_ok-return_statement-in-Return-clause-kept
statement-returns-in_ok-return_statement-in-Return-clause-kept t c = keeps_same c.args.visible.now

pub statement-returns-in-If-clause-kept : goal.statement-returns-in-If-clause-kept
statement-returns-in-If-clause-kept t c = IfOk-weaker c.if_statement.result (λ _. Leaves c.args.visible.now c.if_statement.new.visible) (λ _. Keeps c.args.visible.now c.if_statement.new.visible) (λ _ same. keeps_left c.args.visible.now c.if_statement.new.visible same) c.if_statement.ensures.left

pub statement-returns-in-For-clause-kept : goal.statement-returns-in-For-clause-kept
statement-returns-in-For-clause-kept t c = IfOk-weaker c.for_statement.result (λ _. Leaves c.args.visible.now c.for_statement.new.visible) (λ _. Keeps c.args.visible.now c.for_statement.new.visible) (λ _ same. keeps_left c.args.visible.now c.for_statement.new.visible same) c.for_statement.ensures.left

pub statement-returns-in-Select-clause-kept : goal.statement-returns-in-Select-clause-kept
statement-returns-in-Select-clause-kept t c = IfOk-weaker c.select.result (λ _. Leaves c.args.visible.now c.select.new.visible) (λ _. Keeps c.args.visible.now c.select.new.visible) (λ _ same. keeps_left c.args.visible.now c.select.new.visible same) c.select.ensures.left

pub statement-returns-in-Go-clause-kept : goal.statement-returns-in-Go-clause-kept
statement-returns-in-Go-clause-kept t c = always c.call_alone.result (Keeps c.args.visible.now c.args.visible.now) (keeps_same c.args.visible.now)

pub statement-returns-in-Break-clause-kept : goal.statement-returns-in-Break-clause-kept
statement-returns-in-Break-clause-kept t c = always c.jump.result (Keeps c.args.visible.now c.args.visible.now) (keeps_same c.args.visible.now)

pub statement-returns-in-Continue-clause-kept : goal.statement-returns-in-Continue-clause-kept
statement-returns-in-Continue-clause-kept t c = always c.jump-in-Continue.result (Keeps c.args.visible.now c.args.visible.now) (keeps_same c.args.visible.now)

-- ---- a statement, by its variant

pub statement-returns-in-Simple-clause-end : goal.statement-returns-in-Simple-clause-end
statement-returns-in-Simple-clause-end t c = rw (simple_is _ _ c.in-Simple.is) c.simple.ensures.end

pub statement-returns-in-Simple-clause-after : goal.statement-returns-in-Simple-clause-after
statement-returns-in-Simple-clause-after t c = rw (simple_is _ _ c.in-Simple.is) c.simple.ensures.after

pub statement-returns-in-Simple-clause-none : goal.statement-returns-in-Simple-clause-none
statement-returns-in-Simple-clause-none t c = rw (simple_is _ _ c.in-Simple.is) c.simple.ensures.none

pub statement-returns-in-Simple-clause-one : goal.statement-returns-in-Simple-clause-one
statement-returns-in-Simple-clause-one t c = rw (simple_is _ _ c.in-Simple.is) c.simple.ensures.one

pub statement-returns-in-Typed-clause-end : goal.statement-returns-in-Typed-clause-end
statement-returns-in-Typed-clause-end t c = rw (typed_is _ _ _ _ c.in-Typed.is) (IfOk-weaker c.typed_variables.result _ _ (λ _ is. omega (arith, is)) c.typed_variables.ensures.end)

pub statement-returns-in-Typed-clause-after : goal.statement-returns-in-Typed-clause-after
statement-returns-in-Typed-clause-after t c = rw (typed_is _ _ _ _ c.in-Typed.is, ← c.as_slice.ensures.value) c.typed_variables.ensures.after

pub statement-returns-in-Typed-clause-none : goal.statement-returns-in-Typed-clause-none
statement-returns-in-Typed-clause-none t c = rw (typed_is _ _ _ _ c.in-Typed.is, ← c.as_slice.ensures.value) c.typed_variables.ensures.none

pub statement-returns-in-Typed-clause-one : goal.statement-returns-in-Typed-clause-one
statement-returns-in-Typed-clause-one t c = rw (typed_is _ _ _ _ c.in-Typed.is, ← c.as_slice.ensures.value) c.typed_variables.ensures.one

pub statement-returns-in-Untyped-clause-end : goal.statement-returns-in-Untyped-clause-end
statement-returns-in-Untyped-clause-end t c = rw (untyped_is _ _ _ c.in-Untyped.is) (IfOk-weaker c.untyped_variables.result _ _ (λ _ is. omega (arith, is)) c.untyped_variables.ensures.end)

pub statement-returns-in-Untyped-clause-after : goal.statement-returns-in-Untyped-clause-after
statement-returns-in-Untyped-clause-after t c = rw (untyped_is _ _ _ c.in-Untyped.is, ← c.as_slice-in-Untyped.ensures.value) c.untyped_variables.ensures.after

pub statement-returns-in-Untyped-clause-none : goal.statement-returns-in-Untyped-clause-none
statement-returns-in-Untyped-clause-none t c = rw (untyped_is _ _ _ c.in-Untyped.is, ← c.as_slice-in-Untyped.ensures.value) c.untyped_variables.ensures.none

pub statement-returns-in-Untyped-clause-one : goal.statement-returns-in-Untyped-clause-one
statement-returns-in-Untyped-clause-one t c = rw (untyped_is _ _ _ c.in-Untyped.is, ← c.as_slice-in-Untyped.ensures.value) c.untyped_variables.ensures.one

pub statement-returns-in-If-clause-end : goal.statement-returns-in-If-clause-end
statement-returns-in-If-clause-end t c = rw (if_is _ _ c.in-If.is, ← c.deref.ensures) c.if_statement.ensures.end

pub statement-returns-in-If-clause-after : goal.statement-returns-in-If-clause-after
statement-returns-in-If-clause-after t c = rw (if_is _ _ c.in-If.is, ← c.deref.ensures, branch_is c.deref.result.now) c.if_statement.ensures.after

pub statement-returns-in-If-clause-none : goal.statement-returns-in-If-clause-none
statement-returns-in-If-clause-none t c = rw (if_is _ _ c.in-If.is, ← c.deref.ensures, branch_is c.deref.result.now) c.if_statement.ensures.none

pub statement-returns-in-If-clause-one : goal.statement-returns-in-If-clause-one
statement-returns-in-If-clause-one t c = rw (if_is _ _ c.in-If.is, ← c.deref.ensures, branch_is c.deref.result.now) c.if_statement.ensures.one

pub statement-returns-in-For-clause-end : goal.statement-returns-in-For-clause-end
statement-returns-in-For-clause-end t c = rw (for_is _ _ _ c.in-For.is, ← c.as_slice-body.ensures.value) c.for_statement.ensures.end

pub statement-returns-in-For-clause-after : goal.statement-returns-in-For-clause-after
statement-returns-in-For-clause-after t c = rw (for_is _ _ _ c.in-For.is, ← c.as_slice-body.ensures.value) c.for_statement.ensures.after

pub statement-returns-in-For-clause-none : goal.statement-returns-in-For-clause-none
statement-returns-in-For-clause-none t c = rw (for_is _ _ _ c.in-For.is, ← c.as_slice-body.ensures.value) c.for_statement.ensures.none

pub statement-returns-in-For-clause-one : goal.statement-returns-in-For-clause-one
statement-returns-in-For-clause-one t c = rw (for_is _ _ _ c.in-For.is, ← c.as_slice-body.ensures.value) c.for_statement.ensures.one

pub statement-returns-in-Select-clause-end : goal.statement-returns-in-Select-clause-end
statement-returns-in-Select-clause-end t c = rw (select_is _ _ c.in-Select.is, ← c.as_slice-in-Select.ensures.value) c.select.ensures.end

pub statement-returns-in-Select-clause-after : goal.statement-returns-in-Select-clause-after
statement-returns-in-Select-clause-after t c = rw (select_is _ _ c.in-Select.is, ← c.as_slice-in-Select.ensures.value) c.select.ensures.after

pub statement-returns-in-Select-clause-none : goal.statement-returns-in-Select-clause-none
statement-returns-in-Select-clause-none t c = rw (select_is _ _ c.in-Select.is, ← c.as_slice-in-Select.ensures.value) c.select.ensures.none

pub statement-returns-in-Select-clause-one : goal.statement-returns-in-Select-clause-one
statement-returns-in-Select-clause-one t c = rw (select_is _ _ c.in-Select.is, ← c.as_slice-in-Select.ensures.value) c.select.ensures.one

pub statement-returns-in-Go-clause-end : goal.statement-returns-in-Go-clause-end
statement-returns-in-Go-clause-end t c = rw (go_is _ _ _ c.in-Go.is) c.call_alone.ensures.end

pub statement-returns-in-Go-clause-after : goal.statement-returns-in-Go-clause-after
statement-returns-in-Go-clause-after t c = rw (go_is _ _ _ c.in-Go.is) (always c.call_alone.result _ refl)

pub statement-returns-in-Go-clause-none : goal.statement-returns-in-Go-clause-none
statement-returns-in-Go-clause-none t c = rw (go_is _ _ _ c.in-Go.is) c.call_alone.ensures.none

pub statement-returns-in-Go-clause-one : goal.statement-returns-in-Go-clause-one
statement-returns-in-Go-clause-one t c = rw (go_is _ _ _ c.in-Go.is) c.call_alone.ensures.one

pub statement-returns-in-Break-clause-end : goal.statement-returns-in-Break-clause-end
statement-returns-in-Break-clause-end t c = rw (break_is _ c.in-Break.is) c.jump.ensures.end

pub statement-returns-in-Break-clause-after : goal.statement-returns-in-Break-clause-after
statement-returns-in-Break-clause-after t c = rw (break_is _ c.in-Break.is) (always c.jump.result _ refl)

pub statement-returns-in-Break-clause-none : goal.statement-returns-in-Break-clause-none
statement-returns-in-Break-clause-none t c = rw (break_is _ c.in-Break.is) c.jump.ensures.none

pub statement-returns-in-Break-clause-one : goal.statement-returns-in-Break-clause-one
statement-returns-in-Break-clause-one t c = rw (break_is _ c.in-Break.is) c.jump.ensures.one

pub statement-returns-in-Continue-clause-end : goal.statement-returns-in-Continue-clause-end
statement-returns-in-Continue-clause-end t c = rw (continue_is _ c.in-Continue.is) c.jump-in-Continue.ensures.end

pub statement-returns-in-Continue-clause-after : goal.statement-returns-in-Continue-clause-after
statement-returns-in-Continue-clause-after t c = rw (continue_is _ c.in-Continue.is) (always c.jump-in-Continue.result _ refl)

pub statement-returns-in-Continue-clause-none : goal.statement-returns-in-Continue-clause-none
statement-returns-in-Continue-clause-none t c = rw (continue_is _ c.in-Continue.is) c.jump-in-Continue.ensures.none

pub statement-returns-in-Continue-clause-one : goal.statement-returns-in-Continue-clause-one
statement-returns-in-Continue-clause-one t c = rw (continue_is _ c.in-Continue.is) c.jump-in-Continue.ensures.one

pub statement-returns-in-Empty-clause-end : goal.statement-returns-in-Empty-clause-end
statement-returns-in-Empty-clause-end t c = rw (empty_is _ c.in-Empty.is) refl

pub statement-returns-in-Empty-clause-after : goal.statement-returns-in-Empty-clause-after
statement-returns-in-Empty-clause-after t c = rw (empty_is _ c.in-Empty.is) refl

pub statement-returns-in-Empty-clause-none : goal.statement-returns-in-Empty-clause-none
statement-returns-in-Empty-clause-none t c = λ violation has. rw (empty_is _ c.in-Empty.is) at has

-- ---- a block, and a return

pub statement-returns-in_ok-end-in-Block-clause-end : goal.statement-returns-in_ok-end-in-Block-clause-end
statement-returns-in_ok-end-in-Block-clause-end t c = rw (block_is _ _ c.in-Block.is, ← c.as_slice-in-Block.ensures.value) (omega (arith, c.in_ok-end-in-Block.ensures.end))

pub statement-returns-in_ok-end-in-Block-clause-after : goal.statement-returns-in_ok-end-in-Block-clause-after
statement-returns-in_ok-end-in-Block-clause-after t c = rw (block_is _ _ c.in-Block.is, ← c.as_slice-in-Block.ensures.value) c.in_ok-end-in-Block.ensures.after

pub statement-returns-in_ok-end-in-Block-clause-none : goal.statement-returns-in_ok-end-in-Block-clause-none
statement-returns-in_ok-end-in-Block-clause-none t c = rw (block_is _ _ c.in-Block.is, ← c.as_slice-in-Block.ensures.value) c.in_ok-end-in-Block.ensures.none

pub statement-returns-in_err-end-in-Block-clause-one : goal.statement-returns-in_err-end-in-Block-clause-one
statement-returns-in_err-end-in-Block-clause-one t c =
    let p = err_from_is_err_and c.from_residual.result c.from_residual.ensures.1 in
    rw (p.1, p.2) (rw (block_is _ _ c.in-Block.is, ← c.as_slice-in-Block.ensures.value) c.in_err-end-in-Block.ensures.one)

pub statement-returns-in_ok-return_statement-in-Return-clause-end : goal.statement-returns-in_ok-return_statement-in-Return-clause-end
statement-returns-in_ok-return_statement-in-Return-clause-end t c = rw (return_is _ _ c.in-Return.is) c.in_ok-return_statement-in-Return.ensures.end

pub statement-returns-in_ok-return_statement-in-Return-clause-after : goal.statement-returns-in_ok-return_statement-in-Return-clause-after
statement-returns-in_ok-return_statement-in-Return-clause-after t c = rw (return_is _ _ c.in-Return.is) refl

pub statement-returns-in_ok-return_statement-in-Return-clause-none : goal.statement-returns-in_ok-return_statement-in-Return-clause-none
statement-returns-in_ok-return_statement-in-Return-clause-none t c = rw (return_is _ _ c.in-Return.is) c.in_ok-return_statement-in-Return.ensures.none

-- ---- what comes after the block of an if

pub otherwise-returns-in-Nothing-clause-end : goal.otherwise-returns-in-Nothing-clause-end
otherwise-returns-in-Nothing-clause-end t c = rw (nothing_is _ c.in-Nothing.is) (omega arith)

pub otherwise-returns-in-Nothing-clause-after : goal.otherwise-returns-in-Nothing-clause-after
otherwise-returns-in-Nothing-clause-after t c = rw (nothing_is _ c.in-Nothing.is) refl

pub otherwise-returns-in-Nothing-clause-none : goal.otherwise-returns-in-Nothing-clause-none
otherwise-returns-in-Nothing-clause-none t c = λ violation has. rw (nothing_is _ c.in-Nothing.is) at has

pub otherwise-returns-in_ok-end-in-Block-clause-end : goal.otherwise-returns-in_ok-end-in-Block-clause-end
otherwise-returns-in_ok-end-in-Block-clause-end t c = rw (else_block_is _ _ c.in-Block.is, ← c.as_slice.ensures.value) (omega (arith, c.in_ok-end-in-Block.ensures.end))

pub otherwise-returns-in_ok-end-in-Block-clause-after : goal.otherwise-returns-in_ok-end-in-Block-clause-after
otherwise-returns-in_ok-end-in-Block-clause-after t c = rw (else_block_is _ _ c.in-Block.is, ← c.as_slice.ensures.value) c.in_ok-end-in-Block.ensures.after

pub otherwise-returns-in_ok-end-in-Block-clause-none : goal.otherwise-returns-in_ok-end-in-Block-clause-none
otherwise-returns-in_ok-end-in-Block-clause-none t c = rw (else_block_is _ _ c.in-Block.is, ← c.as_slice.ensures.value) c.in_ok-end-in-Block.ensures.none

pub otherwise-returns-in_err-end-in-Block-clause-one : goal.otherwise-returns-in_err-end-in-Block-clause-one
otherwise-returns-in_err-end-in-Block-clause-one t c =
    let p = err_from_is_err_and c.from_residual.result c.from_residual.ensures.1 in
    rw (p.1, p.2) (rw (else_block_is _ _ c.in-Block.is, ← c.as_slice.ensures.value) c.in_err-end-in-Block.ensures.one)

pub otherwise-returns-in-If-clause-end : goal.otherwise-returns-in-If-clause-end
otherwise-returns-in-If-clause-end t c = rw (else_if_is _ _ c.in-If.is, ← c.deref.ensures) c.if_statement.ensures.end

pub otherwise-returns-in-If-clause-after : goal.otherwise-returns-in-If-clause-after
otherwise-returns-in-If-clause-after t c = rw (else_if_is _ _ c.in-If.is, ← c.deref.ensures, branch_is c.deref.result.now) c.if_statement.ensures.after

pub otherwise-returns-in-If-clause-none : goal.otherwise-returns-in-If-clause-none
otherwise-returns-in-If-clause-none t c = rw (else_if_is _ _ c.in-If.is, ← c.deref.ensures, branch_is c.deref.result.now) c.if_statement.ensures.none

pub otherwise-returns-in-If-clause-one : goal.otherwise-returns-in-If-clause-one
otherwise-returns-in-If-clause-one t c = rw (else_if_is _ _ c.in-If.is, ← c.deref.ensures, branch_is c.deref.result.now) c.if_statement.ensures.one

-- ---- what a statement's variants ask of the functions that check them

pub statement-simple-requires : goal.statement-simple-requires
statement-simple-requires t c = record { small = rw (simple_is _ _ c.in-Simple.is) at c.requires.small }

pub statement-typed_variables-requires : goal.statement-typed_variables-requires
statement-typed_variables-requires t c = record { small = omega (arith, rw (typed_is _ _ _ _ c.in-Typed.is) at c.requires.small) }

pub statement-untyped_variables-requires : goal.statement-untyped_variables-requires
statement-untyped_variables-requires t c = record { small = omega (arith, rw (untyped_is _ _ _ c.in-Untyped.is) at c.requires.small) }

pub statement-call_alone-requires : goal.statement-call_alone-requires
statement-call_alone-requires t c = record { small = rw (go_is _ _ _ c.in-Go.is) at c.requires.small }

pub statement-return_statement-requires : goal.statement-return_statement-requires
statement-return_statement-requires t c = record { small = omega (arith, rw (return_is _ _ c.in-Return.is) at c.requires.small) }

pub statement-jump-requires : goal.statement-jump-requires
statement-jump-requires t c = record { small = rw (break_is _ c.in-Break.is) at c.requires.small }

pub statement-jump-requires-in-Continue : goal.statement-jump-requires-in-Continue
statement-jump-requires-in-Continue t c = record { small = rw (continue_is _ c.in-Continue.is) at c.requires.small }

pub statement-overflow_add-result : goal.statement-overflow_add-result
statement-overflow_add-result t c = omega (arith, rw (empty_is _ c.in-Empty.is) at c.requires.small)

pub statement-overflow_add-result-in-Block : goal.statement-overflow_add-result-in-Block
statement-overflow_add-result-in-Block t c = omega (arith, c.in_ok-end-in-Block.ensures.end, rw (block_is _ _ c.in-Block.is, ← c.as_slice-in-Block.ensures.value) at c.requires.small)
