use Rattle.std.proofs.Common.{rules}
use Rattle.codegen_header.proofs.select.table_clause.Goals as goal

pub returns-in-Send : goal.returns-in-Send
returns-in-Send c = λ yields. let h = c.carried.ensures c.args.context.now.elements.now in search (rules, h)

pub returns-in-Receive : goal.returns-in-Receive
returns-in-Receive c = λ yields. let h = c.carried-in-Receive.ensures c.args.context.now.elements.now in search (rules, h)
