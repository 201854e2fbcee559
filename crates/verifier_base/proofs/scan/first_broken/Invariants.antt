use Rattle.std.proofs.Common.{◌<◌, None, ℕ}
use Rattle.verifier_base.specs.Scans.{ScannedAt}
use Rattle.verifier_base.proofs.scan.first_broken.Given as goal

abbrev pub invariant-loop-place : goal.invariant-loop-place
invariant-loop-place l = (q : ℕ) → q < l.place → ScannedAt None l.code l.f q
