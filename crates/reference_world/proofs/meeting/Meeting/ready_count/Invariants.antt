use Rattle.std.proofs.Common.{◌≡◌, ◌+◌, ◌≤◌, ℕ, suc, drop, length}
use Rattle.word.specs.Requests.{ready_clauses}
use Rattle.word.specs.Values.{Request}
use Rattle.reference_world.specs.Deeds.{History, SharedValue, shared_with}
use Rattle.reference_world.proofs.meeting.Meeting.ready_count.Given as goal

abbrev pub invariant-loop-case : goal.invariant-loop-case
invariant-loop-case l =
    (l.count ≤ l.case-index)
    × ((h : History) (v : SharedValue) (n c : ℕ) (q : Request) → length (ready_clauses (shared_with h v l.self) n c q 1 l.cases) ≡ l.count + length (ready_clauses (shared_with h v l.self) n c q (suc l.case-index) (drop l.case-index l.cases)))
