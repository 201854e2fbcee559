use Rattle.std.proofs.Common.{◌≡◌, drop}
use Rattle.pauses.specs.Headers.{unescaped, unescaped_from}
use Rattle.pauses.proofs.header.unescaped.Given as goal

abbrev pub invariant-loop-byte : goal.invariant-loop-byte
invariant-loop-byte l = unescaped l.bytes ≡ unescaped_from l.is_escape l.text.items (drop l.byte-index l.bytes)
