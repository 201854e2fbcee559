use Rattle.std.proofs.Common.{◌≡◌, drop}
use Rattle.word.specs.Requests.{partner}
use Rattle.reference_world.proofs.sleeper.find_partner.Given as goal

abbrev pub invariant-loop-sleeper : goal.invariant-loop-sleeper
invariant-loop-sleeper l = partner l.chan l.sends (drop l.sleeper-index l.asleep) ≡ partner l.chan l.sends l.asleep
