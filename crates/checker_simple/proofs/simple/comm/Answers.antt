use Rattle.checker_simple.proofs.simple.comm.Goals as goal

pub returns-in-Assign-clause-none : goal.returns-in-Assign-clause-none
returns-in-Assign-clause-none c = rw c.in-Assign.is c.assign.ensures.none
