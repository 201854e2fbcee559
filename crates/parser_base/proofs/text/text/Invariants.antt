use Rattle.std.proofs.Common.{◌≡◌, ◌++◌, drop, false}
use Rattle.parser_base.specs.Lexemes.{text_after}
use Rattle.parser_base.proofs.text.text.Given as goal

abbrev pub invariant-loop-byte : goal.invariant-loop-byte
invariant-loop-byte l = l.bytes.items ++ text_after l.escaped (drop l.byte-index l.inside) ≡ text_after false l.inside
