use Rattle.std.proofs.Common.{rules}
use Rattle.std.proofs.lemmas.Result.{on_ok_weaker}
use Rattle.syntax.specs.declared.node.ElseNode.TheFolds.{the_lemmas}
use Rattle.type_table.specs.Visible.{types_of}
use Rattle.reference_step.proofs.branch.otherwise.Goals as goal

pub returns-in-Block : goal.returns-in-Block
returns-in-Block c = on_ok_weaker c.block.result (λ put. search (rules, the_lemmas, put)) (c.block.ensures (types_of c.args.program.now.table))
