use Rattle.std.proofs.Common.{◌≡◌, ℕ, suc, drop}
use Rattle.std.specs.List.{slice_get}
use Rattle.word.specs.Requests.{ready_clauses}
use Rattle.word.specs.Values.{Request}
use Rattle.channel_core.specs.Channels.{Others, shared_with}
use Rattle.select_core.proofs.choice.nth_ready.Given as goal

abbrev pub invariant-loop-i : goal.invariant-loop-i
invariant-loop-i l = (o : Others) (n c : ℕ) (q : Request) → slice_get (ready_clauses (shared_with o l.channels) n c q 1 l.cases) l.turn ≡ slice_get (ready_clauses (shared_with o l.channels) n c q (suc l.i) (drop l.i l.cases)) l.left
