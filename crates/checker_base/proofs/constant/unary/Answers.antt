use Rattle.std.proofs.Common.{rules}
use Rattle.checker_base.proofs.constant.unary.Goals as goal

pub returns-in-Negate-clause-value : goal.returns-in-Negate-clause-value
returns-in-Negate-clause-value c = search rules

pub returns-in-Complement-clause-value : goal.returns-in-Complement-clause-value
returns-in-Complement-clause-value c = search rules

pub returns-in_default-clause-value : goal.returns-in_default-clause-value
returns-in_default-clause-value c = search rules
