use Rattle.std.proofs.Common.{rules, ◌≡◌, ◌∷◌, None, Some, map, sym, ap, ◌∙◌}
use Rattle.syntax.specs.declared.node.ElseNode.TheFolds.{the_lemmas}
use Rattle.syntax.specs.Tree.{Clause}
use Rattle.syntax.specs.View.{clause_of, clauses, comm_of}
use Rattle.codegen_base.specs.Generated.{default_at, default_places}
use Rattle.codegen_header.proofs.select.+default_place.Goals as goal

pub returns-in-None : goal.returns-in-None
returns-in-None t c = λ globals elements yields.
    let one = clause_of c.in-Some.clause.now in
    let more = clauses (map clause_of c.in-Some.all.now) in
    let is : c.args.all.now ≡ c.in-Some.clause.now ∷ c.in-Some.all.now = search rules in
    let none : one.comm ≡ None = search (rules, the_lemmas) in
    c.default_place.ensures globals elements yields
    ∙ sym (ap (λ o. default_at (default_places globals elements yields (Clause o one.body more) c.args.places.now)) none)
    ∙ sym (ap (λ l. default_at (default_places globals elements yields (clauses (map clause_of l)) c.args.places.now)) is)

pub returns-in-Some-split_first : goal.returns-in-Some-split_first
returns-in-Some-split_first t c = λ globals elements yields.
    let one = clause_of c.in-Some.clause.now in
    let comm = comm_of c.in-Some-comm.field-0 in
    let more = clauses (map clause_of c.in-Some.all.now) in
    let is : c.args.all.now ≡ c.in-Some.clause.now ∷ c.in-Some.all.now = search rules in
    let some : one.comm ≡ Some comm = search (rules, the_lemmas) in
    let at : c.args.places.now ≡ c.in-Some-split_first.field-0-0.now ∷ c.in-Some-split_first.places.now = search rules in
    c.default_place-in-Some-split_first.ensures globals elements yields
    ∙ sym (ap (λ p. default_at (default_places globals elements yields (Clause (Some comm) one.body more) p)) at)
    ∙ sym (ap (λ o. default_at (default_places globals elements yields (Clause o one.body more) c.args.places.now)) some)
    ∙ sym (ap (λ l. default_at (default_places globals elements yields (clauses (map clause_of l)) c.args.places.now)) is)
