use Rattle.std.proofs.Common.{◌≡◌, ◌++◌, drop, length, map}
use Rattle.syntax.specs.View.{top_of}
use Rattle.type_table.specs.Visible.{globals_in}
use Rattle.codegen_base.specs.Program.{all_prints, all_selects, functions_code}
use Rattle.codegen.proofs.program.put_tops.Given as goal

-- what is put and what is left are all
abbrev pub invariant-loop-top : goal.invariant-loop-top
invariant-loop-top l = record {
  functions : l.functions.items ++ functions_code (globals_in l.context.table.now) l.context.elements.now (length l.emitter.prints.items) (length l.emitter.selects.items) (map top_of (drop l.top-index l.tops))
      ≡ l.initial.functions.items ++ functions_code (globals_in l.context.table.now) l.context.elements.now (length l.initial.emitter.prints.items) (length l.initial.emitter.selects.items) (map top_of l.tops);
  prints : l.emitter.prints.items ++ all_prints (globals_in l.context.table.now) l.context.elements.now (length l.emitter.prints.items) (length l.emitter.selects.items) (map top_of (drop l.top-index l.tops))
      ≡ l.initial.emitter.prints.items ++ all_prints (globals_in l.context.table.now) l.context.elements.now (length l.initial.emitter.prints.items) (length l.initial.emitter.selects.items) (map top_of l.tops);
  selects : l.emitter.selects.items ++ all_selects (globals_in l.context.table.now) l.context.elements.now (length l.emitter.prints.items) (length l.emitter.selects.items) (map top_of (drop l.top-index l.tops))
      ≡ l.initial.emitter.selects.items ++ all_selects (globals_in l.context.table.now) l.context.elements.now (length l.initial.emitter.prints.items) (length l.initial.emitter.selects.items) (map top_of l.tops);
}
