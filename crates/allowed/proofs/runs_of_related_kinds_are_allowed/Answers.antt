use Rattle.std.specs.Prelude.{IsTrue}
use Rattle.word.specs.Related.{IsPair}
use Rattle.allowed.proofs.Related.{pairs_match, related_is_allowed, related_paused_is_allowed}
use Rattle.allowed.proofs.runs_of_related_kinds_are_allowed.Goals as goal

pub returns-clause-ordinary : goal.returns-clause-ordinary
returns-clause-ordinary g c = λ K M left right h holds honest limit. related_is_allowed K M (IsPair left right) h.size (pairs_match K M left right h) h.falls h.starts (λ s k. IsTrue (holds s k)) honest limit

pub returns-clause-paused : goal.returns-clause-paused
returns-clause-paused g c = λ K M left right h holds honest ps limit. related_paused_is_allowed K M (IsPair left right) h.size (pairs_match K M left right h) h.falls h.starts (λ s k. IsTrue (holds s k)) honest ps limit
