use Rattle.std.proofs.Common.{◌≡◌, ◌++◌, string_bytes, take}
use Rattle.bytecode.specs.Listing.{heading, instr_lines}
use Rattle.bytecode.proofs.lines.list_function.Given as goal

abbrev pub invariant-loop-place : goal.invariant-loop-place
invariant-loop-place l = string_bytes l.text ≡ string_bytes l.fn.text ++ (heading l.function ++ instr_lines 0 (take l.place l.function.instrs))
