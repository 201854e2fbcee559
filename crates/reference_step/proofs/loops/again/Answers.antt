use Rattle.std.proofs.Common.{rules}
use Rattle.std.proofs.lemmas.Result.{on_ok_weaker}
use Rattle.type_table.specs.Visible.{types_of}
use Rattle.reference_step.proofs.loops.again.Goals as goal

pub returns-in-Ranging : goal.returns-in-Ranging
returns-in-Ranging c =
    let types = types_of c.args.program.now.table in
    let left = c.leave.ensures types in
    on_ok_weaker c.turns.result (λ put. search (rules, put, left)) (c.turns.ensures types)

pub returns-in-Some : goal.returns-in-Some
returns-in-Some c =
    let types = types_of c.args.program.now.table in
    let left = c.leave.ensures types in
    on_ok_weaker c.posts.result (λ put. search (rules, put, left)) (c.posts.ensures types)

pub returns-in-None : goal.returns-in-None
returns-in-None c =
    let types = types_of c.args.program.now.table in
    let left = c.leave.ensures types in
    on_ok_weaker c.turns-in-None.result (λ put. search (rules, put, left)) (c.turns-in-None.ensures types)
