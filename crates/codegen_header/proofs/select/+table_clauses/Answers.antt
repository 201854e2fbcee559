use Rattle.std.proofs.Common.{rules, ◌≡◌, ◌∷◌, None, Some, map, sym, ap, ◌∙◌}
use Rattle.syntax.specs.declared.node.ElseNode.TheFolds.{the_lemmas}
use Rattle.syntax.specs.Tree.{Clause}
use Rattle.syntax.specs.View.{clause_of, clauses, comm_of}
use Rattle.type_table.specs.Visible.{globals_in}
use Rattle.codegen_base.specs.Generated.{table_clause, table_clauses}
use Rattle.codegen_simple.specs.Layouts.{layout_of}
use Rattle.codegen_header.proofs.select.+table_clauses.Goals as goal

pub returns-in_default-comm : goal.returns-in_default-comm
returns-in_default-comm t c = λ yields.
    let globals = globals_in c.args.context.now.table.now in
    let elements = c.args.context.now.elements.now in
    let layout = layout_of c.args.context.now.table.now c.args.layout.now in
    let one = clause_of c.in-Some.clause.now in
    let is : c.args.all.now ≡ c.in-Some.clause.now ∷ c.in-Some.all.now = search rules in
    let none : one.comm ≡ None = search (rules, the_lemmas) in
    c.in_ok-others.ensures yields
    ∙ sym (ap (λ o. table_clauses globals elements yields layout (Clause o one.body (clauses (map clause_of c.in-Some.all.now))) c.args.places.now) none)
    ∙ sym (ap (λ l. table_clauses globals elements yields layout (clauses (map clause_of l)) c.args.places.now) is)

pub returns : goal.returns
returns t c = λ yields.
    let globals = globals_in c.args.context.now.table.now in
    let elements = c.args.context.now.elements.now in
    let layout = layout_of c.args.context.now.table.now c.args.layout.now in
    let one = clause_of c.in-Some.clause.now in
    let comm = comm_of c.in-Some-comm.comm in
    let more = clauses (map clause_of c.in-Some.all.now) in
    let is : c.args.all.now ≡ c.in-Some.clause.now ∷ c.in-Some.all.now = search rules in
    let some : one.comm ≡ Some comm = search (rules, the_lemmas) in
    let at : c.args.places.now ≡ c.in-Some-split_first.to.now ∷ c.in-Some-split_first.places.now = search rules in
    c.in_ok-insert.ensures.items
    ∙ ap (λ x. x ∷ c.in_ok-made.made.items) (c.table_clause-first.ensures yields)
    ∙ ap (λ l. table_clause globals elements yields layout comm c.in-Some-split_first.to.now ∷ l) (c.in_ok-made.ensures yields)
    ∙ sym (ap (λ p. table_clauses globals elements yields layout (Clause (Some comm) one.body more) p) at)
    ∙ sym (ap (λ o. table_clauses globals elements yields layout (Clause o one.body more) c.args.places.now) some)
    ∙ sym (ap (λ l. table_clauses globals elements yields layout (clauses (map clause_of l)) c.args.places.now) is)
