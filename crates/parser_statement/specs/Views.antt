-- What the parts of a statement in memory are.
use Rattle.syntax.specs.Tree.{Statement, Branch, Otherwise}
use Rattle.syntax.specs.View.{OneClause, else_layer, statement_layer, clause_layer, branch_layer}
use Rattle.syntax.specs.declared.node.IfNode.{IfNode}
use Rattle.syntax.specs.declared.node.ElseNode.{ElseNode}
use Rattle.syntax.specs.declared.node.ClauseNode.{ClauseNode}
use Rattle.syntax.specs.declared.node.ElseNode.TheFolds.{fold-IfNode, fold-ElseNode, fold-ClauseNode}

abbrev pub branch_of : IfNode → Branch
branch_of = fold-IfNode Otherwise Statement OneClause Branch else_layer statement_layer clause_layer branch_layer

abbrev pub otherwise_of : ElseNode → Otherwise
otherwise_of = fold-ElseNode Otherwise Statement OneClause Branch else_layer statement_layer clause_layer branch_layer

abbrev pub clause_of : ClauseNode → OneClause
clause_of = fold-ClauseNode Otherwise Statement OneClause Branch else_layer statement_layer clause_layer branch_layer
