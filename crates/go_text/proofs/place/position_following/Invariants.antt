use Rattle.std.proofs.Common.{◌≡◌, ◌+◌, ◌≤◌, drop}
use Rattle.go_text.specs.Lines.{position_after}
use Rattle.go_text.proofs.place.position_following.Given as goal

abbrev pub invariant-loop-byte : goal.invariant-loop-byte
invariant-loop-byte l = record {
  line : l.line ≤ l.byte-index + 1;
  column : l.column ≤ l.byte-index + 1;
  position : position_after l.line l.column (drop l.byte-index l.bytes) ≡ position_after 1 1 l.bytes;
}
