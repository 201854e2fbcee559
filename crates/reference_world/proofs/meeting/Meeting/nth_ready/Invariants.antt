use Rattle.std.proofs.Common.{◌≡◌, ℕ, suc, drop}
use Rattle.std.specs.List.{slice_get}
use Rattle.word.specs.Requests.{ready_clauses}
use Rattle.word.specs.Values.{Request}
use Rattle.reference_world.specs.Deeds.{History, SharedValue, shared_with}
use Rattle.reference_world.proofs.meeting.Meeting.nth_ready.Given as goal

abbrev pub invariant-loop-i : goal.invariant-loop-i
invariant-loop-i l = (h : History) (v : SharedValue) (n c : ℕ) (q : Request) → slice_get (ready_clauses (shared_with h v l.self) n c q 1 l.cases) l.turn ≡ slice_get (ready_clauses (shared_with h v l.self) n c q (suc l.i) (drop l.i l.cases)) l.left
