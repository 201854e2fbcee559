use Rattle.std.proofs.Common.{◌≡◌}
use Rattle.terminal_style.specs.Cutting.{whole_of}
use Rattle.terminal_style.proofs.explanation.pieces_of.Given as goal

abbrev pub invariant-loop : goal.invariant-loop
invariant-loop l = whole_of l.cutter ≡ l.fn.text
