use Rattle.std.proofs.Common.{rules, ◌≡◌, length, ap}
use Rattle.syntax.specs.View.{struct_of, top_of}
use Rattle.checker_declaration.proofs.Declared.{at_struct}
use Rattle.checker_declaration.proofs.structs.top_struct.Goals as goal

pub returns-in_ok-push-in-Struct-clause-none : goal.returns-in_ok-push-in-Struct-clause-none
returns-in_ok-push-in-Struct-clause-none c =
    let same : c.len.result ≡ length c.args.structs.now.items = search rules in
    λ violation has. at_struct c.args.types.now (length c.args.structs.now.items) c.len.result c.args.first c.own_node-node.result (top_of c.args.top.now) (struct_of c.in-Struct.one) violation (ap top_of c.in-Struct.is) same c.own_node-node.ensures c.in_ok-entry-in-Struct.ensures.none has
