-- A line in memory.
use Rattle.pauses.specs.Files.{Line, Silent, Says, Broken}
use Rattle.pauses.specs.Plans.{pause_of}
use Rattle.pauses.specs.declared.line.Line.{Line as Kept}
use Rattle.pauses.specs.declared.line.Line.TheVariants as kept

abbrev pub line_kept : Kept → Line
line_kept kept.Silent = Silent
line_kept (kept.Says pause) = Says (pause_of pause)
line_kept kept.Broken = Broken
