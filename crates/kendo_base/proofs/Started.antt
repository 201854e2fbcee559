-- What holds of the workers that are started holds of those that were requested.
use Rattle.std.proofs.Common.{◌↔◌, ℕ}
use Rattle.whole_run.specs.Runs.{IsWorkers}

pub of_workers : {E : Type 0} (started workers : ℕ) → IsWorkers started ↔ IsWorkers workers → E ↔ (IsWorkers started → ⊥) → E ↔ (IsWorkers workers → ⊥)
of_workers started workers same told = (λ e is. told.0 e (same.1 is), λ none. told.1 (λ is. none (same.0 is)))

pub of_both : {E L : Type 0} (started workers : ℕ) → IsWorkers started ↔ IsWorkers workers → E ↔ (IsWorkers started × L) → E ↔ (IsWorkers workers × L)
of_both started workers same told = (λ e. let both = told.0 e in (same.0 both.0, both.1), λ both. told.1 (same.1 both.0, both.1))
