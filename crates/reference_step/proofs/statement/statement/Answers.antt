use Rattle.std.proofs.lemmas.Result.{err_from_is_err_and}
use Rattle.syntax.specs.declared.node.ElseNode.TheFolds.{the_lemmas}
use Rattle.reference_step.proofs.statement.statement.Goals as goal

pub returns-in_err-course-in-Untyped-clause-err : goal.returns-in_err-course-in-Untyped-clause-err
returns-in_err-course-in-Untyped-clause-err c =
    let p = err_from_is_err_and c.from_residual-in_err-course-in-Untyped.result c.from_residual-in_err-course-in-Untyped.ensures.1 in
    rw (p.1, p.2) (rw c.in-Untyped.is (simp the_lemmas (rw (c.as_slice-names.ensures.value, c.as_slice-right.ensures.value) at c.in_err-course-in-Untyped.ensures.err)))

pub returns-in_ok-course-in-Untyped-clause-ok : goal.returns-in_ok-course-in-Untyped-clause-ok
returns-in_ok-course-in-Untyped-clause-ok c =
    rw c.in-Untyped.is (simp the_lemmas (rw (c.as_slice-names.ensures.value, c.as_slice-right.ensures.value) at c.in_ok-course-in-Untyped.ensures.ok))
