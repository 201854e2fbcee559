use Rattle.std.proofs.Common.{map, ap, arith}
use Rattle.syntax.specs.Measures.{expression_height}
use Rattle.syntax.specs.View.{expression_of}
use Rattle.syntax.proofs.Lists.{expressions_height-of}
use Rattle.parser_simple.proofs.right.call_operand.Goals as goal

pub returns-clause-height : goal.returns-clause-height
returns-clause-height c = (
  omega (arith, ap expression_height c.in_ok-node.ensures.ok, expressions_height-of (map expression_of c.args.all.entries.items), c.requires.height),
  omega arith,
)
