-- What an instruction wants on the top of the stack.
use Rattle.std.specs.Prelude.{[], ◌∷◌}
use Rattle.bytecode.specs.Effects.{Wants, Exactly, Count, OneChannel, TwoChannels}
use Rattle.verifier_base.specs.declared.effect.Need.{Need}
use Rattle.verifier_base.specs.declared.effect.Need.TheVariants.{These, One, Two, Some as Counted, Channel, Channels}

abbrev pub wants_of : Need → Wants
wants_of (These ks) = Exactly ks.items
wants_of (One k) = Exactly (k ∷ [])
wants_of (Two k) = Exactly (k ∷ (k ∷ []))
wants_of (Counted n) = Count n
wants_of Channel = OneChannel
wants_of Channels = TwoChannels
