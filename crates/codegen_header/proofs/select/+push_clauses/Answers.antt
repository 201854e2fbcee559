use Rattle.std.proofs.Common.{rules, ◌≡◌, ◌∷◌, map, sym, subst}
use Rattle.std.proofs.lemmas.Result.{on_ok_weaker}
use Rattle.syntax.specs.View.{clause_of, clauses}
use Rattle.type_table.specs.Visible.{globals_in}
use Rattle.codegen_base.specs.Generated.{pushes_clauses}
use Rattle.codegen_expression.specs.Emission.{Puts}
use Rattle.codegen_simple.specs.Layouts.{layout_of}
use Rattle.codegen_header.proofs.Selecting.{puts_clause}
use Rattle.codegen_header.proofs.select.+push_clauses.Goals as goal

pub returns : goal.returns
returns t c = λ yields.
    let globals = globals_in c.args.context.now.table.now in
    let elements = c.args.context.now.elements.now in
    let layout = layout_of c.args.context.now.table.now c.args.layout.now in
    let one = clause_of c.in-Some.clause.now in
    let is : c.args.all.now ≡ c.in-Some.clause.now ∷ c.in-Some.all.now = search rules in
    on_ok_weaker c.push_clauses.result (λ put. subst (λ l. Puts c.args.code.now.items c.push_clauses.new.code.items (pushes_clauses globals elements yields layout (clauses (map clause_of l)))) (sym is)
    (puts_clause globals elements yields layout one.comm one.body (clauses (map clause_of c.in-Some.all.now)) c.args.code.now.items c.push_clause.new.code.items c.push_clauses.new.code.items (c.in_ok-push_clause.ensures yields) put)) (c.push_clauses.ensures yields)
