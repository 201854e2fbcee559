use Rattle.std.proofs.Common.{ap, length, arith}
use Rattle.operands.proofs.Selects.{few_clauses}
use Rattle.operands.proofs.width.select_width.Goals as goal

pub overflow_add-width : goal.overflow_add-width
overflow_add-width c =
    let few = few_clauses c.args.code.now c.args.table c.requires in
    let all = ap length c.clauses_of-clauses.ensures in
    omega (arith, few, all)
