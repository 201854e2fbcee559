use Rattle.std.proofs.Common.{◌≡◌, ◌+◌, drop, map, sum_by}
use Rattle.syntax.specs.Measures.{top_size}
use Rattle.syntax.specs.View.{top_of}
use Rattle.type_table.specs.Visible.{types_of, globals_in}
use Rattle.typing_rules.specs.declared.violation.Violation.{Violation}
use Rattle.checker_declaration.specs.Heads.{HeadsHave}
use Rattle.typing_rules.specs.Files.{BodiesHave}
use Rattle.checker.specs.Firsts.{FirstBodyHas}
use Rattle.checker.proofs.body.bodies.Given as goal

-- what is left shows what all show
abbrev pub invariant-loop-top : goal.invariant-loop-top
invariant-loop-top l = record {
  end : l.end + sum_by top_size (map top_of (drop l.top-index l.tops)) ≡ sum_by top_size (map top_of l.tops);
  found : (violation : Violation) → FirstBodyHas (globals_in l.table) l.end (map top_of (drop l.top-index l.tops)) violation → FirstBodyHas (globals_in l.table) 0 (map top_of l.tops) violation;
  heads : (violation : Violation) → HeadsHave (types_of l.table) l.end (map top_of (drop l.top-index l.tops)) violation → HeadsHave (types_of l.table) 0 (map top_of l.tops) violation;
  passed : (violation : Violation) → BodiesHave (globals_in l.table) 0 (map top_of l.tops) violation → BodiesHave (globals_in l.table) l.end (map top_of (drop l.top-index l.tops)) violation;
}
