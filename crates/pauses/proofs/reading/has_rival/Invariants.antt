use Rattle.std.proofs.Common.{◌≡◌, drop}
use Rattle.std.specs.List.{list_any}
use Rattle.pauses.specs.Plans.{is_rival, pause_of, pauses_of}
use Rattle.pauses.proofs.reading.has_rival.Given as goal

abbrev pub invariant-loop-one : goal.invariant-loop-one
invariant-loop-one l = list_any (is_rival (pause_of l.pause)) (pauses_of l.pauses) ≡ list_any (is_rival (pause_of l.pause)) (pauses_of (drop l.one-index l.pauses))
