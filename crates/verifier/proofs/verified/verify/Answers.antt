use Rattle.verifier.proofs.Safe.{never_broken, never_stuck}
use Rattle.verifier.proofs.verified.verify.Goals as goal

pub returns-in-Ok-Some-clause-verified : goal.returns-in-Ok-Some-clause-verified
returns-in-Ok-Some-clause-verified c = λ v. absurd (never_broken c.args.code v c.in-Ok-Some.rule c.in-Ok-Some.function c.in-Ok-Some.place (rw c.in-Ok-Some.field-0-is at c.in-Ok-Some.ensures))

pub returns-in-Ok-clause-safe : goal.returns-in-Ok-clause-safe
returns-in-Ok-clause-safe c = never_stuck c.args.code (rw c.in-Ok-None.field-0-is at c.in-Ok-None.ensures)
