use Rattle.std.proofs.Common.{inl, inr}
use Rattle.checker_simple.proofs.simple.simple.Goals as goal

pub returns-in-Assign-clause-none : goal.returns-in-Assign-clause-none
returns-in-Assign-clause-none c = rw c.in-Assign.is (rw (c.as_slice-in-Assign.ensures.value, c.as_slice-in-Assign-2.ensures.value) at c.assign.ensures.none)

pub returns-in-Update-clause-none : goal.returns-in-Update-clause-none
returns-in-Update-clause-none c = rw c.in-Update.is c.update.ensures.none

pub returns-in-Increment-clause-none : goal.returns-in-Increment-clause-none
returns-in-Increment-clause-none c = elim c.in-Increment.is [ inl is ↦ rw is c.step.ensures.none | inr is ↦ rw is c.step.ensures.none ]
