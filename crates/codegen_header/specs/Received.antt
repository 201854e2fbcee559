-- What is done with what was received.
use Rattle.std.specs.Prelude.{Bool, true, false, List, [], ◌∷◌}
use Rattle.bytecode.specs.declared.instr.Instr.{Instr}
use Rattle.bytecode.specs.declared.instr.Instr.TheVariants as instrs

-- drops whether an item was sent, unless it is used
abbrev pub unwanted : Bool → List Instr
unwanted true = []
unwanted false = instrs.Discard 1 ∷ []
