use Rattle.std.proofs.Common.{◌≡◌, drop, false}
use Rattle.scanner.specs.Elements.{longer, string_rest}
use Rattle.scanner.proofs.string_literal.string_rest.Given as goal

abbrev pub invariant-loop-at : goal.invariant-loop-at
invariant-loop-at l = longer l.at (string_rest l.opened l.escaped (drop l.at l.text)) ≡ string_rest l.fn.opened false l.fn.text
