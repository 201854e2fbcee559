use Rattle.std.proofs.Common.{drop}
use Rattle.std.specs.Prelude.{◌≡◌, map}
use Rattle.syntax.specs.Tree.{Clauses}
use Rattle.syntax.specs.View.{body_of, clause_of, clauses}
use Rattle.type_table.specs.Views.{yield_of}
use Rattle.type_table.specs.Visible.{globals_in, types_of}
use Rattle.codegen_flow.specs.Controls.{control}
use Rattle.codegen_base.specs.Generated.{made_default}
use Rattle.codegen_emission.specs.Emitted.{site_of}
use Rattle.codegen_emission.specs.Ways.{Reaches}
use Rattle.codegen_emission.proofs.Listing.{Begins}
use Rattle.codegen_emission.proofs.statement.+statement.Given as goal

-- what is left comes to what all come to
abbrev pub invariant-emit_statements-loop-statement : goal.invariant-emit_statements-loop-statement
invariant-emit_statements-loop-statement l =
    Begins l.context.program.now.table.now (globals_in l.context.program.now.table.now) l.context.program.now.elements.now (yield_of (types_of l.context.program.now.table.now) l.context.result_type) l.initial.emitter l.emitter (control l.flow) (body_of (drop l.statement-index l.body)) (body_of l.body)

-- with the ways of what is left it is all ways
abbrev pub invariant-emit_each_way-loop-clause : goal.invariant-emit_each_way-loop-clause
invariant-emit_each_way-loop-clause l =
    (whole : Clauses) → Reaches (globals_in l.context.program.now.table.now) l.context.program.now.elements.now (yield_of (types_of l.context.program.now.table.now) l.context.result_type) l.context.program.now.table.now whole l.initial.emitter l.emitter l.list (clauses (map clause_of (drop l.clause-index l.all))) (clauses (map clause_of l.all))

-- nothing is emitted yet, and the default is in what is left
abbrev pub invariant-emit_default-loop-clause : goal.invariant-emit_default-loop-clause
invariant-emit_default-loop-clause l =
    (l.emitter ≡ l.initial.emitter)
    × (made_default (globals_in l.context.program.now.table.now) l.context.program.now.elements.now (yield_of (types_of l.context.program.now.table.now) l.context.result_type) (site_of l.context.program.now.table.now l.emitter) (clauses (map clause_of (drop l.clause-index l.all)))
    ≡ made_default (globals_in l.context.program.now.table.now) l.context.program.now.elements.now (yield_of (types_of l.context.program.now.table.now) l.context.result_type) (site_of l.context.program.now.table.now l.emitter) (clauses (map clause_of l.all)))
