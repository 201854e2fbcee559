use Rattle.std.proofs.Common.{rules}
use Rattle.codegen_simple.proofs.place.+taken_types.Goals as goal

pub returns : goal.returns
returns t c = λ elements.
    let one = c.taken_type-first.ensures elements in
    let others = c.in_ok-taken.ensures elements in
    search (rules, one, others)
