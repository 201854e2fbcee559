use Rattle.reference_step.proofs.simple.simple.Goals as goal

pub returns-in-Update-clause-ok : goal.returns-in-Update-clause-ok
returns-in-Update-clause-ok c = rw c.in-Update.is c.update.ensures.ok

pub returns-in-Update-clause-err : goal.returns-in-Update-clause-err
returns-in-Update-clause-err c = rw c.in-Update.is c.update.ensures.err

pub returns-in-Define-clause-ok : goal.returns-in-Define-clause-ok
returns-in-Define-clause-ok c = rw c.in-Define.is (rw (c.as_slice-names.ensures.value, c.as_slice-right-in-Define.ensures.value) at c.define.ensures.ok)

pub returns-in-Define-clause-err : goal.returns-in-Define-clause-err
returns-in-Define-clause-err c = rw c.in-Define.is (rw (c.as_slice-names.ensures.value, c.as_slice-right-in-Define.ensures.value) at c.define.ensures.err)
