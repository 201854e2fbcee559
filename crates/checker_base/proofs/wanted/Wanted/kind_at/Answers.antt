use Rattle.std.proofs.Common.{refl}
use Rattle.checker_base.proofs.Literals.{field_kind_at, parameter_kind_at}
use Rattle.checker_base.proofs.wanted.Wanted.kind_at.Goals as goal

pub returns-in-Some : goal.returns-in-Some
returns-in-Some c = λ types. rw (c.in-Fields.is, field_kind_at types c.in-Fields.fields.now c.args.number, ← c.field_at.ensures, c.in-Some.is) refl

pub returns-in-None : goal.returns-in-None
returns-in-None c = λ types. rw (c.in-Fields.is, field_kind_at types c.in-Fields.fields.now c.args.number, ← c.field_at.ensures, c.in-None.is) refl

pub returns-in-Parameters : goal.returns-in-Parameters
returns-in-Parameters c = λ types. rw (c.in-Parameters.is, parameter_kind_at types c.in-Parameters.kinds.now c.args.number, ← c.parameter_at.ensures) refl
