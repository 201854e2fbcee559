-- How long a code's goroutine can go on without a tick.
use Rattle.std.specs.Prelude.{ℕ, ◌*◌, length, sum_by}
use Rattle.bytecode.specs.Code.{Function, Code}

-- how many instructions a code has
abbrev pub instr_count : Code → ℕ
instr_count code = sum_by (λ (f : Function). length f.instrs) code.functions

-- more steps in a row than this have a tick among them
abbrev pub most_silent : Code → ℕ
most_silent code = 1001 * instr_count code
