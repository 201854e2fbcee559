-- Why widths are not known.
use Rattle.type_table.specs.declared.width.Endless.{Endless}
use Rattle.type_table.specs.declared.width.Endless.TheVariants as endless
use Rattle.type_table.specs.Containment.{Structs, Holds as StructHolds}

-- the struct that is named contains itself; out of memory names none
abbrev pub IsEndless : Structs → Endless → Type 0
IsEndless structs endless.Memory = Unit {0}
IsEndless structs (endless.Holds s) = StructHolds structs s s
