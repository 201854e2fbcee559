use Rattle.std.proofs.Common.{rules}
use Rattle.std.proofs.lemmas.Result.{on_ok_weaker}
use Rattle.type_table.specs.Visible.{types_of}
use Rattle.reference_step.proofs.branch.decides.Goals as goal

pub returns-then-truth_in : goal.returns-then-truth_in
returns-then-truth_in c = on_ok_weaker c.block.result (λ put. search (rules, put)) (c.block.ensures (types_of c.args.program.now.table))
