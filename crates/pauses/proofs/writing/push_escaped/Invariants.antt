use Rattle.std.proofs.Common.{◌≡◌, ◌++◌, drop}
use Rattle.pauses.specs.Headers.{escaped}
use Rattle.pauses.proofs.writing.push_escaped.Given as goal

abbrev pub invariant-loop-byte : goal.invariant-loop-byte
invariant-loop-byte l = l.text.items ++ escaped (drop l.byte-index l.bytes) ≡ l.initial.text.items ++ escaped l.bytes
