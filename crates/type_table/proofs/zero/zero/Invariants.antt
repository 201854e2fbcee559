use Rattle.std.proofs.Common.{◌≡◌, map, take}
use Rattle.type_table.specs.Views.{kind_of}
use Rattle.type_table.specs.Visible.{types_of}
use Rattle.type_table.specs.Zeros.{zero_word}
use Rattle.type_table.proofs.zero.zero.Given as goal

-- the zeros so far
abbrev pub invariant-loop-part : goal.invariant-loop-part
invariant-loop-part l = record {
  words : l.words.items ≡ map zero_word (map (kind_of (types_of l.fn.table)) (take l.part-index l.part-items));
}
