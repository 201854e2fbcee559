use Rattle.std.proofs.Common.{◌≡◌, [], drop, map}
use Rattle.pauses.specs.Files.{lines_from}
use Rattle.pauses.specs.Plans.{pauses_of}
use Rattle.pauses.proofs.reading.pauses.Given as goal

abbrev pub invariant-loop-bytes : goal.invariant-loop-bytes
invariant-loop-bytes l = lines_from 2 [] (map (λ w. w.now) l.lines) ≡ lines_from l.number (pauses_of l.pauses.items) (map (λ w. w.now) (drop l.bytes-index l.lines))
