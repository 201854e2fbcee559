use Rattle.std.proofs.Common.{◌≡◌, ◌+◌, suc, [], ◌∷◌, ap, drop, drop-cons, map, refl, arith}
use Rattle.std.proofs.lemmas.List.{drop_all}
use Rattle.std.proofs.lemmas.Result.{on_ok_weaker}
use Rattle.std.specs.Prelude.{sum_by}
use Rattle.syntax.specs.Measures.{expression_size}
use Rattle.syntax.specs.View.{expression_of}
use Rattle.syntax.proofs.Nodes.{simple_is, typed_is, untyped_is, block_is, if_is, for_is, select_is, return_is, branch_is, nothing_is, else_block_is, else_if_is, clause_is}
use Rattle.codegen_expression.proofs.noting.+statement.Goals as goal

-- ---- a statement, by its arm

pub note_statement-returns-in-Simple-clause-noted : goal.note_statement-returns-in-Simple-clause-noted
note_statement-returns-in-Simple-clause-noted t c = rw (simple_is _ _ c.in-Simple.is) c.note_simple.ensures.noted

pub note_statement-returns-in-Simple-clause-count : goal.note_statement-returns-in-Simple-clause-count
note_statement-returns-in-Simple-clause-count t c = rw (simple_is _ _ c.in-Simple.is) c.note_simple.ensures.count

pub note_statement-note_simple-requires : goal.note_statement-note_simple-requires
note_statement-note_simple-requires t c = record { room = rw (simple_is _ _ c.in-Simple.is) at c.requires.room }

pub note_statement-returns-in-Untyped-clause-noted : goal.note_statement-returns-in-Untyped-clause-noted
note_statement-returns-in-Untyped-clause-noted t c = rw (untyped_is _ _ _ c.in-Untyped.is) (rw c.as_slice.ensures.value at c.note_values.ensures.noted)

pub note_statement-returns-in-Untyped-clause-count : goal.note_statement-returns-in-Untyped-clause-count
note_statement-returns-in-Untyped-clause-count t c = rw (untyped_is _ _ _ c.in-Untyped.is) (on_ok_weaker c.note_values.result (λ h. omega (arith, h)) (rw c.as_slice.ensures.value at c.note_values.ensures.count))

pub note_statement-note_values-requires : goal.note_statement-note_values-requires
note_statement-note_values-requires t c = record { room = omega (arith, rw (untyped_is _ _ _ c.in-Untyped.is) at c.requires.room, ap (λ l. sum_by expression_size (map expression_of l)) c.as_slice.ensures.value) }

pub note_statement-returns-in-Return-clause-noted : goal.note_statement-returns-in-Return-clause-noted
note_statement-returns-in-Return-clause-noted t c = rw (return_is _ _ c.in-Return.is) c.note_returned.ensures.noted

pub note_statement-returns-in-Return-clause-count : goal.note_statement-returns-in-Return-clause-count
note_statement-returns-in-Return-clause-count t c = rw (return_is _ _ c.in-Return.is) (on_ok_weaker c.note_returned.result (λ h. omega (arith, h)) c.note_returned.ensures.count)

pub note_statement-note_returned-requires : goal.note_statement-note_returned-requires
note_statement-note_returned-requires t c = record { room = omega (arith, rw (return_is _ _ c.in-Return.is) at c.requires.room) }

pub note_statement-note_type-requires : goal.note_statement-note_type-requires
note_statement-note_type-requires t c = record { room = omega (arith, rw (typed_is _ _ _ _ c.in-Typed.is) at c.requires.room) }

pub note_statement-note_given-requires : goal.note_statement-note_given-requires
note_statement-note_given-requires t c = record { room = omega (arith, rw (typed_is _ _ _ _ c.in-Typed.is) at c.requires.room, c.in_ok-note_type-in-Typed.ensures.count) }

pub note_statement-returns-in_ok-note_type-in-Typed-clause-noted : goal.note_statement-returns-in_ok-note_type-in-Typed-clause-noted
note_statement-returns-in_ok-note_type-in-Typed-clause-noted t c = rw (typed_is _ _ _ _ c.in-Typed.is) (rw c.in_ok-note_type-in-Typed.ensures.noted at c.note_given.ensures.noted)

pub note_statement-returns-in_ok-note_type-in-Typed-clause-count : goal.note_statement-returns-in_ok-note_type-in-Typed-clause-count
note_statement-returns-in_ok-note_type-in-Typed-clause-count t c = rw (typed_is _ _ _ _ c.in-Typed.is) (on_ok_weaker c.note_given.result (λ h. omega (arith, h, c.in_ok-note_type-in-Typed.ensures.count)) c.note_given.ensures.count)

pub note_statement-returns-in-Block-clause-noted : goal.note_statement-returns-in-Block-clause-noted
note_statement-returns-in-Block-clause-noted t c = rw (block_is _ _ c.in-Block.is) (rw c.as_slice-in-Block.ensures.value at c.note_statements.ensures.noted)

pub note_statement-returns-in-Block-clause-count : goal.note_statement-returns-in-Block-clause-count
note_statement-returns-in-Block-clause-count t c = rw (block_is _ _ c.in-Block.is) (on_ok_weaker c.note_statements.result (λ h. omega (arith, h)) (rw c.as_slice-in-Block.ensures.value at c.note_statements.ensures.count))

pub note_statement-returns-in-If-clause-noted : goal.note_statement-returns-in-If-clause-noted
note_statement-returns-in-If-clause-noted t c = rw (if_is _ _ c.in-If.is) (rw c.deref.ensures at c.note_branch.ensures.noted)

pub note_statement-returns-in-If-clause-count : goal.note_statement-returns-in-If-clause-count
note_statement-returns-in-If-clause-count t c = rw (if_is _ _ c.in-If.is) (rw c.deref.ensures at c.note_branch.ensures.count)

pub note_statement-note_head-requires : goal.note_statement-note_head-requires
note_statement-note_head-requires t c = record { room = omega (arith, rw (for_is _ _ _ c.in-For.is) at c.requires.room) }

pub note_statement-returns-in_ok-note_head-in-For-clause-noted : goal.note_statement-returns-in_ok-note_head-in-For-clause-noted
note_statement-returns-in_ok-note_head-in-For-clause-noted t c = rw (for_is _ _ _ c.in-For.is) (rw (c.as_slice-in-For.ensures.value, c.in_ok-note_head-in-For.ensures.noted) at c.note_statements-in-For.ensures.noted)

pub note_statement-returns-in_ok-note_head-in-For-clause-count : goal.note_statement-returns-in_ok-note_head-in-For-clause-count
note_statement-returns-in_ok-note_head-in-For-clause-count t c = rw (for_is _ _ _ c.in-For.is) (on_ok_weaker c.note_statements-in-For.result (λ h. omega (arith, h, c.in_ok-note_head-in-For.ensures.count)) (rw c.as_slice-in-For.ensures.value at c.note_statements-in-For.ensures.count))

pub note_statement-returns-in-Select-clause-noted : goal.note_statement-returns-in-Select-clause-noted
note_statement-returns-in-Select-clause-noted t c = rw (select_is _ _ c.in-Select.is) (rw c.as_slice-in-Select.ensures.value at c.note_clauses.ensures.noted)

pub note_statement-returns-in-Select-clause-count : goal.note_statement-returns-in-Select-clause-count
note_statement-returns-in-Select-clause-count t c = rw (select_is _ _ c.in-Select.is) (on_ok_weaker c.note_clauses.result (λ h. omega (arith, h)) (rw c.as_slice-in-Select.ensures.value at c.note_clauses.ensures.count))

-- ---- an `if` and its `else`

pub note_branch-note_header-requires : goal.note_branch-note_header-requires
note_branch-note_header-requires t c = record { room = omega (arith, rw (branch_is c.args.branch.now) at c.requires.room) }

pub note_branch-returns-clause-noted : goal.note_branch-returns-clause-noted
note_branch-returns-clause-noted t c = rw (branch_is c.args.branch.now) (rw (c.in_ok-note_statements.ensures.noted, c.as_slice.ensures.value, c.in_ok-note_expression.ensures.noted, c.in_ok-note_header.ensures.noted) at c.note_otherwise.ensures.noted)

pub note_branch-returns-clause-count : goal.note_branch-returns-clause-count
note_branch-returns-clause-count t c = rw (branch_is c.args.branch.now) (on_ok_weaker c.note_otherwise.result (λ h. omega (arith, h, c.in_ok-note_header.ensures.count, c.in_ok-note_expression.ensures.count, rw c.as_slice.ensures.value at c.in_ok-note_statements.ensures.count)) c.note_otherwise.ensures.count)

pub note_otherwise-returns-in-Nothing-clause-noted : goal.note_otherwise-returns-in-Nothing-clause-noted
note_otherwise-returns-in-Nothing-clause-noted t c = rw (nothing_is _ c.in-Nothing.is) refl

pub note_otherwise-returns-in-Nothing-clause-count : goal.note_otherwise-returns-in-Nothing-clause-count
note_otherwise-returns-in-Nothing-clause-count t c = rw (nothing_is _ c.in-Nothing.is) (omega arith)

pub note_otherwise-returns-in-Block-clause-noted : goal.note_otherwise-returns-in-Block-clause-noted
note_otherwise-returns-in-Block-clause-noted t c = rw (else_block_is _ _ c.in-Block.is) (rw c.as_slice.ensures.value at c.note_statements.ensures.noted)

pub note_otherwise-returns-in-Block-clause-count : goal.note_otherwise-returns-in-Block-clause-count
note_otherwise-returns-in-Block-clause-count t c = rw (else_block_is _ _ c.in-Block.is) (on_ok_weaker c.note_statements.result (λ h. omega (arith, h)) (rw c.as_slice.ensures.value at c.note_statements.ensures.count))

pub note_otherwise-returns-in-If-clause-noted : goal.note_otherwise-returns-in-If-clause-noted
note_otherwise-returns-in-If-clause-noted t c = rw (else_if_is _ _ c.in-If.is) (rw c.deref.ensures at c.note_branch.ensures.noted)

pub note_otherwise-returns-in-If-clause-count : goal.note_otherwise-returns-in-If-clause-count
note_otherwise-returns-in-If-clause-count t c = rw (else_if_is _ _ c.in-If.is) (rw c.deref.ensures at c.note_branch.ensures.count)

-- ---- statements and clauses, one by one

pub note_statements-loop-one-preserved : goal.note_statements-loop-one-preserved
note_statements-loop-one-preserved t c =
    let left = drop (suc c.loop-one.one-index) c.args.body.now in
    let more : c.loop-one.one-index + 1 ≡ suc c.loop-one.one-index = omega arith in
    let cut : drop c.loop-one.one-index c.args.body.now ≡ c.one-item.result ∷ left = rw c.one-item.is (drop-cons c.args.body.now c.loop-one.one-index _ c.loop-one-test.true) in
    record {
      noted = rw (more, c.in_ok-note_statement.ensures.noted) (rw cut at c.loop-one.invariant.noted);
      count = rw more (omega (arith, rw cut at c.loop-one.invariant.count, c.in_ok-note_statement.ensures.count));
    }

pub note_statements-returns-clause-noted : goal.note_statements-returns-clause-noted
note_statements-returns-clause-noted t c =
    let none : drop c.loop-one.one-index c.args.body.now ≡ [] = drop_all c.loop-one.one-index c.args.body.now c.loop-one-test.false in
    rw none at c.loop-one.invariant.noted

pub note_statements-returns-clause-count : goal.note_statements-returns-clause-count
note_statements-returns-clause-count t c =
    let none : drop c.loop-one.one-index c.args.body.now ≡ [] = drop_all c.loop-one.one-index c.args.body.now c.loop-one-test.false in
    omega (arith, rw none at c.loop-one.invariant.count)

pub note_clauses-loop-one-preserved : goal.note_clauses-loop-one-preserved
note_clauses-loop-one-preserved t c =
    let left = drop (suc c.loop-one.one-index) c.args.all.now in
    let more : c.loop-one.one-index + 1 ≡ suc c.loop-one.one-index = omega arith in
    let cut : drop c.loop-one.one-index c.args.all.now ≡ c.one-item.result ∷ left = rw c.one-item.is (drop-cons c.args.all.now c.loop-one.one-index _ c.loop-one-test.true) in
    record {
      noted = rw (more, c.in_ok-note_statements.ensures.noted, c.as_slice.ensures.value, c.in_ok-note_comm.ensures.noted) (rw (clause_is c.one-item.result) at (rw cut at c.loop-one.invariant.noted));
      count = rw more (omega (arith, rw (clause_is c.one-item.result) at (rw cut at c.loop-one.invariant.count), c.in_ok-note_comm.ensures.count, rw c.as_slice.ensures.value at c.in_ok-note_statements.ensures.count));
    }

pub note_clauses-returns-clause-noted : goal.note_clauses-returns-clause-noted
note_clauses-returns-clause-noted t c =
    let none : drop c.loop-one.one-index c.args.all.now ≡ [] = drop_all c.loop-one.one-index c.args.all.now c.loop-one-test.false in
    rw none at c.loop-one.invariant.noted

pub note_clauses-returns-clause-count : goal.note_clauses-returns-clause-count
note_clauses-returns-clause-count t c =
    let none : drop c.loop-one.one-index c.args.all.now ≡ [] = drop_all c.loop-one.one-index c.args.all.now c.loop-one-test.false in
    omega (arith, rw none at c.loop-one.invariant.count)
