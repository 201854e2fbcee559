use Rattle.std.proofs.Common.{rules, ◌≡◌, length, ap}
use Rattle.syntax.specs.View.{function_of, top_of}
use Rattle.checker_declaration.proofs.Declared.{at_function}
use Rattle.checker_declaration.proofs.header.top_header.Goals as goal

pub returns-in_ok-push-in-Function-clause-none : goal.returns-in_ok-push-in-Function-clause-none
returns-in_ok-push-in-Function-clause-none c =
    let same : c.len-number.result ≡ length c.args.entries.now.items = search rules in
    λ violation has. at_function c.args.types.now c.args.functions.now (length c.args.entries.now.items) c.len-number.result c.args.first c.own_node-node.result (top_of c.args.top.now) (function_of c.in-Function.function) violation (ap top_of c.in-Function.is) same c.own_node-node.ensures c.in_ok-entry-in-Function.ensures.none has
