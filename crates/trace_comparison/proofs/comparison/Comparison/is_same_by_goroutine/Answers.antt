use Rattle.std.proofs.Common.{not, ap}
use Rattle.trace_comparison.proofs.Same.{same_unless_differs}
use Rattle.trace_comparison.proofs.comparison.Comparison.is_same_by_goroutine.Goals as goal
use Rattle.trace_comparison.proofs.comparison.Comparison.is_same_by_goroutine.Goals.{in-Differs, in_default}

pub returns : goal.returns
returns c = λ recorded run is.
    elim c.match-matches.branch [
      | in-Differs w ↦ same_unless_differs recorded run c.args.self (not c.match-matches.matches) is (λ d e. ap not w.matches-is) (λ apart. absurd (apart _ w.in-Differs.is))
      | in_default w ↦ same_unless_differs recorded run c.args.self (not c.match-matches.matches) is (λ d e. absurd (w.in_default.not-Differs d e)) (λ apart. ap not w.matches-is)
    ]
