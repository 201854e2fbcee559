-- A writer that keeps what it takes.
use Rattle.std.specs.Prelude.{Bool, ℕ, List}
use Rattle.expected_output.specs.declared.printed.Printed.{Printed}

-- the bytes that it took
abbrev pub printed_in : Printed → List ℕ
printed_in printed = printed.bytes.items

-- whether it ever refused bytes
abbrev pub failed_of : Printed → Bool
failed_of printed = printed.failed
