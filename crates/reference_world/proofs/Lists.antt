-- Sleepers that stay, and offers.
use Rattle.std.proofs.Common.{◌≡◌, ℕ, Bool, true, false, not, List, [], ◌∷◌, refl, ap}
use Rattle.std.specs.Prelude.{◌==◌}
use Rattle.std.specs.List.{filter}
use Rattle.word.specs.Values.{Sleeper}
use Rattle.word.specs.Requests.{without}

stays : (s : Sleeper) (ss : List Sleeper) (n : ℕ) (b : Bool) → (s.number == n) ≡ b → filter (λ (t : Sleeper). not (t.number == n)) ss ≡ without ss n → filter (λ (t : Sleeper). not (t.number == n)) (s ∷ ss) ≡ without (s ∷ ss) n
stays s ss n true e rest = rw e rest
stays s ss n false e rest = rw e (ap (λ (ts : List Sleeper). s ∷ ts) rest)

-- the sleepers of other numbers stay
pub others_stay : (ss : List Sleeper) (n : ℕ) → filter (λ (t : Sleeper). not (t.number == n)) ss ≡ without ss n
others_stay [] n = refl
others_stay (s ∷ ss) n = stays s ss n (s.number == n) refl (others_stay ss n)
