use Rattle.std.proofs.Common.{◌≡◌, ◌+◌, ◌*◌, ◌++◌, drop, map}
use Rattle.type_table.specs.Containment.{fields_parts, parts_within}
use Rattle.type_table.specs.Views.{field_in, kind_of}
use Rattle.type_table.specs.Visible.{globals_in, types_of}
use Rattle.type_table.proofs.zero.+put_parts.Given as goal

abbrev pub decreases-put_fields : goal.decreases-put_fields
decreases-put_fields l = 2 * l.depth + 1

abbrev pub decreases-put_parts : goal.decreases-put_parts
decreases-put_parts l = 2 * l.depth

-- what was put, and what the fields that are left take, is all
abbrev pub invariant-put_fields-loop-field : goal.invariant-put_fields-loop-field
invariant-put_fields-loop-field l = record {
  parts : map (kind_of (types_of l.table)) l.parts.items
      ++ fields_parts (parts_within (globals_in l.table).structs l.depth) (map (field_in (types_of l.table)) (drop l.field-index l.fields))
      ≡ map (kind_of (types_of l.table)) l.initial.parts.items
      ++ fields_parts (parts_within (globals_in l.table).structs l.depth) (map (field_in (types_of l.table)) l.fields);
}
