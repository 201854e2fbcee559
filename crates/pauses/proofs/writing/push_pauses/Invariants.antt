use Rattle.std.proofs.Common.{◌≡◌, ◌++◌, drop}
use Rattle.std.specs.List.{flat_map}
use Rattle.pauses.specs.Files.{pause_text}
use Rattle.pauses.specs.Plans.{pauses_of}
use Rattle.pauses.proofs.writing.push_pauses.Given as goal

abbrev pub invariant-loop-pause : goal.invariant-loop-pause
invariant-loop-pause l = l.text.items ++ flat_map pause_text (pauses_of (drop l.pause-index l.pauses)) ≡ l.initial.text.items ++ flat_map pause_text (pauses_of l.pauses)
