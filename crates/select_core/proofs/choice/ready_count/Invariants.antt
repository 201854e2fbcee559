use Rattle.std.proofs.Common.{◌≡◌, ◌+◌, ◌≤◌, ℕ, suc, drop, length}
use Rattle.word.specs.Requests.{ready_clauses}
use Rattle.word.specs.Values.{Request}
use Rattle.channel_core.specs.Channels.{Others, shared_with}
use Rattle.select_core.proofs.choice.ready_count.Given as goal

abbrev pub invariant-loop-case : goal.invariant-loop-case
invariant-loop-case l =
    (l.count ≤ l.case-index)
    × ((o : Others) (n c : ℕ) (q : Request) → length (ready_clauses (shared_with o l.channels) n c q 1 l.cases) ≡ l.count + length (ready_clauses (shared_with o l.channels) n c q (suc l.case-index) (drop l.case-index l.cases)))
