-- The file of a trace or a picture.
use Rattle.std.specs.Prelude.{◌≡◌, ◌⊎◌, Bool, false, true, Option, Some, None}
use Rattle.kendo_shell.specs.declared.tracing.Outputs.{Outputs}
use Rattle.kendo_shell.specs.declared.tracing.Trace.{Trace}
use Rattle.kendo_shell.specs.declared.tracing.Trace.TheVariants.{Dropped, Kept}
use Rattle.kendo_shell.specs.Streams.{has_refused}

-- whether there is one
abbrev pub has_file : Trace → Bool
has_file Dropped = false
has_file (Kept file) = true

-- whether it ever refused bytes
abbrev pub has_lost : Trace → Bool
has_lost Dropped = false
has_lost (Kept file) = has_refused file

-- there is one, and it has refused none
abbrev pub IsKept : Trace → Type 0
IsKept Dropped = ⊥
IsKept (Kept file) = has_refused file ≡ false

-- one of the outputs refused bytes
abbrev pub IsLost : Outputs → Type 0
IsLost outputs = (has_refused outputs.standard ≡ true) ⊎ ((has_lost outputs.file ≡ true) ⊎ (has_lost outputs.values ≡ true))

-- whether a file is named for a trace or for a picture
abbrev pub is_named : {A : Type 0} → Option A → Option A → Bool
is_named (Some trace) out = true
is_named None (Some out) = true
is_named None None = false
