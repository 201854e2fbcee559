use Rattle.std.proofs.Common.{◌≡◌, ◌+◌, ◌++◌, length, drop, map, sum_by}
use Rattle.syntax.specs.Measures.{top_size}
use Rattle.syntax.specs.View.{top_of}
use Rattle.type_table.specs.Views.{names_of, structs_of}
use Rattle.typing_rules.specs.declared.violation.Violation.{Violation}
use Rattle.typing_rules.specs.Kinds.{type_names, structs_with}
use Rattle.typing_rules.specs.Declarations.{StructsHave}
use Rattle.checker_declaration.proofs.structs.structs.Given as goal

-- what is left shows what all show
abbrev pub invariant-loop-top : goal.invariant-loop-top
invariant-loop-top l = record {
  end : l.end + sum_by top_size (map top_of (drop l.top-index l.tops)) ≡ sum_by top_size (map top_of l.tops);
  names : names_of l.all.items ++ type_names (map top_of (drop l.top-index l.tops)) ≡ type_names (map top_of l.tops);
  fields : structs_of l.types l.all.items ++ structs_with l.types (map top_of (drop l.top-index l.tops)) ≡ structs_with l.types (map top_of l.tops);
  found : (violation : Violation) → StructsHave l.types (length l.all.items) l.end (map top_of (drop l.top-index l.tops)) violation → StructsHave l.types 0 0 (map top_of l.tops) violation;
  passed : (violation : Violation) → StructsHave l.types 0 0 (map top_of l.tops) violation → StructsHave l.types (length l.all.items) l.end (map top_of (drop l.top-index l.tops)) violation;
}
