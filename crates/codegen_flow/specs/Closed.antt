-- The jumps over the later ways of a select, of one that leads on.
use Rattle.std.specs.Prelude.{Bool, true, false, ◌||◌, cond, List, [], ◌∷◌, length, slice_set, take}
use Rattle.bytecode.specs.declared.instr.Instr.{Instr}
use Rattle.bytecode.specs.declared.instr.Instr.TheVariants as instrs
use Rattle.codegen_flow.specs.declared.select.Held.{Held}

-- the jump leads past all instructions; if there are no later ways, it is taken back
abbrev pub closed_one : Held → Bool → List Instr → List Instr
closed_one held there code = cond there (cond held.leads (slice_set code held.place (instrs.Jump (length code))) code) (take held.place code)

abbrev pub are_some : List Held → Bool
are_some [] = false
are_some (held ∷ others) = true

-- all of them, the last one first
abbrev pub closed : List Held → Bool → List Instr → List Instr
closed [] there code = code
closed (held ∷ others) there code = closed_one held (there || are_some others) (closed others there code)
