-- Streams that remember why they first refused bytes.
use Rattle.std.specs.Prelude.{Bool}
use Rattle.std.specs.Option.{is_some}
use Rattle.kendo_shell.specs.declared.streams.Stream.{Stream}

-- whether bytes were refused
abbrev pub has_refused : {W : Type 0} → Stream W → Bool
has_refused stream = is_some stream.refusal
