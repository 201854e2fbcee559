use Rattle.std.proofs.Common.{◌≡◌, ◌+◌, ◌++◌, length, drop, map, sum_by}
use Rattle.syntax.specs.Measures.{top_size}
use Rattle.syntax.specs.View.{top_of}
use Rattle.type_table.specs.Views.{signature_of, function_names as names_in}
use Rattle.typing_rules.specs.declared.violation.Violation.{Violation}
use Rattle.typing_rules.specs.Kinds.{function_names, signatures}
use Rattle.typing_rules.specs.Declarations.{HeadersHave}
use Rattle.checker_declaration.proofs.header.headers.Given as goal

-- what is left shows what all show
abbrev pub invariant-loop-top : goal.invariant-loop-top
invariant-loop-top l = record {
  end : l.end + sum_by top_size (map top_of (drop l.top-index l.tops)) ≡ sum_by top_size (map top_of l.tops);
  names : names_in l.all.items ++ function_names (map top_of (drop l.top-index l.tops)) ≡ function_names (map top_of l.tops);
  signatures : map (signature_of l.types) l.all.items ++ signatures l.types (map top_of (drop l.top-index l.tops)) ≡ signatures l.types (map top_of l.tops);
  found : (violation : Violation) → HeadersHave l.types l.functions (length l.all.items) l.end (map top_of (drop l.top-index l.tops)) violation → HeadersHave l.types l.functions 0 0 (map top_of l.tops) violation;
  passed : (violation : Violation) → HeadersHave l.types l.functions 0 0 (map top_of l.tops) violation → HeadersHave l.types l.functions (length l.all.items) l.end (map top_of (drop l.top-index l.tops)) violation;
}
