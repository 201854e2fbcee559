use Rattle.std.proofs.Common.{rules}
use Rattle.std.proofs.lemmas.Result.{on_ok_weaker}
use Rattle.type_table.specs.Visible.{types_of}
use Rattle.reference_step.proofs.loops.keep_in.Goals as goal

pub returns : goal.returns
returns c = on_ok_weaker c.declare.result (λ put. search (rules, put)) (c.declare.ensures (types_of c.args.table.now))
