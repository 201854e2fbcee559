use Rattle.reference_step.proofs.clause.case_of.Goals as goal

pub returns-in-Define-clause-ok : goal.returns-in-Define-clause-ok
returns-in-Define-clause-ok c = rw c.in-Define.is c.received_case-in-Define.ensures.ok

pub returns-in-Define-clause-err : goal.returns-in-Define-clause-err
returns-in-Define-clause-err c = rw c.in-Define.is c.received_case-in-Define.ensures.err

pub returns-in-Assign-clause-ok : goal.returns-in-Assign-clause-ok
returns-in-Assign-clause-ok c = rw c.in-Assign.is c.received_case-in-Assign.ensures.ok

pub returns-in-Assign-clause-err : goal.returns-in-Assign-clause-err
returns-in-Assign-clause-err c = rw c.in-Assign.is c.received_case-in-Assign.ensures.err
