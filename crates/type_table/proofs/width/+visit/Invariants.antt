use Rattle.std.proofs.Common.{suc, ◌+◌, ◌*◌, ◌≤◌, take, map}
use Rattle.type_table.specs.Marks.{news, wides, AreWide, Goes}
use Rattle.type_table.specs.Views.{names_of, field_in, structs_of}
use Rattle.type_table.proofs.width.+visit.Given as goal

abbrev pub decreases-field_words : goal.decreases-field_words
decreases-field_words l = 2 * news l.marks.now + 1

abbrev pub decreases-visit : goal.decreases-visit
decreases-visit l = 2 * news l.marks.now

-- the fields so far are of known width
abbrev pub invariant-visit-loop-field : goal.invariant-visit-loop-field
invariant-visit-loop-field l = record {
  goes : Goes (structs_of (names_of l.structs) l.structs) l.initial.marks l.marks;
  words : AreWide (structs_of (names_of l.structs) l.structs) (suc (wides l.marks)) (take l.field-index (map (field_in (names_of l.structs)) l.field-items)) l.words;
  small : l.words ≤ 17;
}
