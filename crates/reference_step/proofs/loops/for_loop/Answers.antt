use Rattle.reference_step.proofs.loops.for_loop.Goals as goal

pub returns-in-Range-clause-ok : goal.returns-in-Range-clause-ok
returns-in-Range-clause-ok c = rw c.in-Range.is c.ranges-in-Range.ensures.ok

pub returns-in-Range-clause-err : goal.returns-in-Range-clause-err
returns-in-Range-clause-err c = rw c.in-Range.is c.ranges-in-Range.ensures.err
