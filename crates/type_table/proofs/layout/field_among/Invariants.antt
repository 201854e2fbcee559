use Rattle.std.proofs.Common.{◌≡◌, drop, map, option_map}
use Rattle.type_table.specs.Containment.{following, field_among}
use Rattle.type_table.specs.Views.{field_in, Fits}
use Rattle.type_table.specs.Visible.{types_of, globals_in}
use Rattle.type_table.proofs.layout.field_among.Given as goal

-- what is left of the fields follows those that were passed
abbrev pub invariant-loop-field : goal.invariant-loop-field
invariant-loop-field l = record {
  found : option_map (following l.place) (field_among (globals_in l.table).structs (map (field_in (types_of l.table)) (drop l.field-index l.fields)) l.name)
      ≡ field_among (globals_in l.table).structs (map (field_in (types_of l.table)) l.fields) l.name;
  room : Fits (globals_in l.table).structs (map (field_in (types_of l.table)) (drop l.field-index l.fields)) l.place;
}
