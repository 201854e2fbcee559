use Rattle.std.proofs.Common.{◌≡◌, string_bytes, take}
use Rattle.bytecode.specs.Listing.{function_lines}
use Rattle.bytecode.proofs.lines.listing.Given as goal

abbrev pub invariant-loop-number : goal.invariant-loop-number
invariant-loop-number l = string_bytes l.text ≡ function_lines (take l.number l.functions)
