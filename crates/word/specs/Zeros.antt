-- Who is given a zero item with false, by the events alone.
use Rattle.std.specs.Prelude.{◌≡◌, ℕ, ◌==◌, nat_le, ◌&&◌, ◌||◌, not, Bool, true, false, List, [], ◌∷◌, ◌++◌, Option, Some, None}
use Rattle.std.specs.Option.{is_some}
use Rattle.word.specs.Values.{Request, Event, Offer, Shared}
use Rattle.word.specs.Requests.{first_on, offers}
use Rattle.word.specs.Flow.{Deal, Gives, Takes, NoDeal, accepted, deal, received, slept}
use Rattle.word.specs.Closing.{closes, is_closed_in, made_in}

-- the actor takes zero with false from c
abbrev pub is_zero : ℕ → Deal → Bool
is_zero c (Gives k x) = false
is_zero c (Takes k x ok) = (k == c) && not ok
is_zero c NoDeal = false

abbrev pub is_receive : Option Offer → Bool
is_receive None = false
is_receive (Some o) = not (is_some o.item)

-- one that fell asleep at this request is served as a receiver by c's close
abbrev pub receives : ℕ → Option Request → Bool
receives c None = false
receives c (Some q) = is_receive (first_on c (offers q))

abbrev pub any_receives : ℕ → List Event → List ℕ → Bool
any_receives c before [] = false
any_receives c before (p ∷ who) = receives c (slept p before) || any_receives c before who

-- an event after these gives zero with false on c: to its actor, or, being c's close, to a receiver that it wakes
abbrev pub gives_zero : ℕ → List Event → Event → Bool
gives_zero c before e = is_zero c (deal e) || ((closes c e && nat_le c (made_in before)) && any_receives c before e.partners)

-- zero with false is given only in or after c's close, when all that c accepted was received
abbrev pub ZeroAfter : ℕ → List Event → List Event → Type 0
ZeroAfter c before [] = Unit {0}
ZeroAfter c before (e ∷ es) =
    (gives_zero c before e ≡ true → (is_closed_in c (before ++ e ∷ []) ≡ true) × (accepted c (before ++ e ∷ []) ≡ received c (before ++ e ∷ []))) × ZeroAfter c (before ++ e ∷ []) es

abbrev pub IsZeroLast : Shared → Type 0
IsZeroLast w = (c : ℕ) → ZeroAfter c [] w.events
