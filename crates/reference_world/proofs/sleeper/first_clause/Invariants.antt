use Rattle.std.proofs.Common.{◌≡◌, suc, drop}
use Rattle.word.specs.Requests.{clause_offers, first_offer}
use Rattle.reference_world.proofs.sleeper.first_clause.Given as goal

abbrev pub invariant-loop-i : goal.invariant-loop-i
invariant-loop-i l = first_offer l.chan l.sends (clause_offers (suc l.i) (drop l.i l.cases)) ≡ first_offer l.chan l.sends (clause_offers 1 l.cases)
