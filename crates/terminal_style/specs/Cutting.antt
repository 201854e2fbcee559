-- Texts that are cut into pieces.
use Rattle.std.specs.Prelude.{ℕ, ◌++◌, List}
use Rattle.terminal_style.specs.declared.cutter.Cutter.{Cutter}
use Rattle.terminal_style.specs.Styles.{plain_of}

-- the text: its pieces so far, and the rest
abbrev pub whole_of : Cutter → List ℕ
whole_of cutter = plain_of cutter.pieces.items ++ cutter.rest.now
