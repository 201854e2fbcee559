-- Go allows the run by a plan of pauses.
use Rattle.std.proofs.Common.{ℕ, List, inl, inr}
use Rattle.word.specs.Related.{Parts, kind_of}
use Rattle.word.specs.Worlds.{moment}
use Rattle.pauses.specs.Paused.{paused, paused_parts}
use Rattle.pauses.specs.Plans.{Pause}
use Rattle.allowed.specs.Naming.{IsHonest}
use Rattle.allowed.specs.Orders.{RunsAsAllowed}
use Rattle.allowed.proofs.Keeping.{paused_honest}
use Rattle.allowed.proofs.Made.{names_made}
use Rattle.allowed.proofs.Ordinary.{ordinary_is_allowed}
use Rattle.allowed.proofs.Unpaused.{unpaused}

pub paused_is_allowed : {S : Type 0} (K : Parts S) (holds : S → ℕ → Type 0) → IsHonest (kind_of K) holds → (ps : List Pause) (limit : ℕ) → RunsAsAllowed (paused (kind_of K) ps) (kind_of K) limit
paused_is_allowed K holds honest ps limit n ending e =
    elim (ordinary_is_allowed (kind_of (paused_parts K ps)) limit (names_made (kind_of (paused_parts K ps)) (λ s k. holds s.state k) (paused_honest K holds honest ps) limit) n ending e) [
      | inl own ↦ inl own
      | inr allowed ↦ inr (unpaused K ps (moment (paused (kind_of K) ps) limit n).shared.shared.output ending allowed)
    ]
