use Rattle.std.proofs.Common.{rules, ◌≡◌, Some, sym, subst}
use Rattle.syntax.specs.declared.node.ElseNode.TheFolds.{the_lemmas}
use Rattle.syntax.specs.Tree.{Clause, NoClause}
use Rattle.syntax.specs.View.{clause_of, comm_of}
use Rattle.type_table.specs.Visible.{globals_in}
use Rattle.codegen_base.specs.Generated.{pushes_clauses}
use Rattle.codegen_expression.specs.Emission.{Puts}
use Rattle.codegen_simple.specs.Layouts.{layout_of}
use Rattle.codegen_header.proofs.select.push_clause.Goals as goal

pub returns-in_ok-push_comm : goal.returns-in_ok-push_comm
returns-in_ok-push_comm c = λ yields.
    let one = clause_of c.args.clause.now in
    let some : one.comm ≡ Some (comm_of c.in-Some.comm) = search (rules, the_lemmas) in
    subst (λ o. Puts c.args.code.now.items c.push_comm.new.code.items (pushes_clauses (globals_in c.args.context.now.table.now) c.args.context.now.elements.now yields (layout_of c.args.context.now.table.now c.args.layout.now) (Clause o one.body NoClause))) (sym some)
    (c.in_ok-push_comm.ensures yields)
