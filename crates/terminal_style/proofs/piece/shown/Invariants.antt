use Rattle.std.proofs.Common.{◌≡◌, take}
use Rattle.terminal_style.specs.Styles.{shown_of}
use Rattle.terminal_style.proofs.piece.shown.Given as goal

abbrev pub invariant-loop-piece : goal.invariant-loop-piece
invariant-loop-piece l = l.bytes.items ≡ shown_of (take l.piece-index l.fn.pieces)
