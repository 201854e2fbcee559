use Rattle.std.proofs.Common.{None, subst, sym}
use Rattle.verifier.specs.Tables.{Judged}
use Rattle.verifier_base.specs.Scans.{Scanned}
use Rattle.verifier.proofs.Holds.{judged}
use Rattle.verifier.proofs.paths.check_function.Goals as goal

pub infer-requires-clause-named : goal.infer-requires-clause-named
infer-requires-clause-named c =
    let s : Scanned None c.args.code.now c.args.f.now = rw c.in-None.is at c.first_broken.ensures in
    λ place i e. (s place i e).0

pub returns-in_ok-inferred-in-None : goal.returns-in_ok-inferred-in-None
returns-in_ok-inferred-in-None c =
    let s : Scanned None c.args.code.now c.args.f.now = rw c.in-None.is at c.first_broken.ensures in
    record {
      ok = subst (λ o. Judged o c.args.code.now c.args.f.now) (sym c.judge.ensures)
          (judged c.in_ok-inferred-in-None.inferred c.args.code.now c.args.f.now c.requires s c.in_ok-inferred-in-None.ensures.ok);
    }
