use Rattle.std.proofs.Common.{rules}
use Rattle.checker_base.proofs.constant.binary.Goals as goal

pub returns-in-Add-clause-value : goal.returns-in-Add-clause-value
returns-in-Add-clause-value c = search rules

pub returns-in-Add-clause-small : goal.returns-in-Add-clause-small
returns-in-Add-clause-small c = c.bounded.ensures.small

pub returns-in-Subtract-clause-value : goal.returns-in-Subtract-clause-value
returns-in-Subtract-clause-value c = search rules

pub returns-in-Subtract-clause-small : goal.returns-in-Subtract-clause-small
returns-in-Subtract-clause-small c = c.bounded-in-Subtract.ensures.small

pub returns-in-Multiply-clause-value : goal.returns-in-Multiply-clause-value
returns-in-Multiply-clause-value c = search rules

pub returns-in-Multiply-clause-small : goal.returns-in-Multiply-clause-small
returns-in-Multiply-clause-small c = c.product.ensures.small

pub returns-in-Divide-clause-value : goal.returns-in-Divide-clause-value
returns-in-Divide-clause-value c = search rules

pub returns-in-Divide-clause-small : goal.returns-in-Divide-clause-small
returns-in-Divide-clause-small c = c.bounded-in-Divide.ensures.small

pub returns-in-Remainder-clause-value : goal.returns-in-Remainder-clause-value
returns-in-Remainder-clause-value c = search rules

pub returns-in-Remainder-clause-small : goal.returns-in-Remainder-clause-small
returns-in-Remainder-clause-small c = c.bounded-in-Remainder.ensures.small

pub returns-in-And-clause-value : goal.returns-in-And-clause-value
returns-in-And-clause-value c = rw c.in-And.is c.bounded-in-And.ensures.value

pub returns-in-And-clause-small : goal.returns-in-And-clause-small
returns-in-And-clause-small c = c.bounded-in-And.ensures.small

pub returns-in-Or-clause-value : goal.returns-in-Or-clause-value
returns-in-Or-clause-value c = rw c.in-Or.is c.bounded-in-Or.ensures.value

pub returns-in-Or-clause-small : goal.returns-in-Or-clause-small
returns-in-Or-clause-small c = c.bounded-in-Or.ensures.small

pub returns-in-ExclusiveOr-clause-value : goal.returns-in-ExclusiveOr-clause-value
returns-in-ExclusiveOr-clause-value c = rw c.in-ExclusiveOr.is c.bounded-in-ExclusiveOr.ensures.value

pub returns-in-ExclusiveOr-clause-small : goal.returns-in-ExclusiveOr-clause-small
returns-in-ExclusiveOr-clause-small c = c.bounded-in-ExclusiveOr.ensures.small

pub returns-in-AndNot-clause-value : goal.returns-in-AndNot-clause-value
returns-in-AndNot-clause-value c = search rules

pub returns-in-AndNot-clause-small : goal.returns-in-AndNot-clause-small
returns-in-AndNot-clause-small c = c.bounded-in-AndNot.ensures.small

pub returns-in-ShiftLeft-clause-value : goal.returns-in-ShiftLeft-clause-value
returns-in-ShiftLeft-clause-value c = search rules

pub returns-in-ShiftLeft-clause-small : goal.returns-in-ShiftLeft-clause-small
returns-in-ShiftLeft-clause-small c = c.shifted.ensures.small

pub returns-in-ShiftRight-clause-value : goal.returns-in-ShiftRight-clause-value
returns-in-ShiftRight-clause-value c = search rules

pub returns-in-ShiftRight-clause-small : goal.returns-in-ShiftRight-clause-small
returns-in-ShiftRight-clause-small c = c.bounded-in-ShiftRight.ensures.small

pub returns-in_default-clause-value : goal.returns-in_default-clause-value
returns-in_default-clause-value c = search rules
