use Rattle.std.proofs.Common.{◌≡◌, ◌++◌, suc, drop}
use Rattle.std.specs.Prelude.{map}
use Rattle.std.specs.List.{filter}
use Rattle.word.specs.Requests.{clause_offers}
use Rattle.channel_core.specs.Asleep.{is_not_of, placed, placed_offer}
use Rattle.channel_core.proofs.rows.offer_clauses.Given as goal

abbrev pub invariant-loop-i : goal.invariant-loop-i
invariant-loop-i l = record {
  entered : placed l.queues ++ map (placed_offer l.key) (clause_offers (suc l.i) (drop l.i l.cases)) ≡ placed l.fn.queues ++ map (placed_offer l.key) (clause_offers 1 l.cases);
  others : filter (is_not_of l.key) (placed l.queues) ≡ filter (is_not_of l.key) (placed l.fn.queues);
}
