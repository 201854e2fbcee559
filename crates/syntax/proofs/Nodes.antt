-- What an expression or a statement is as a tree, by its variant in memory.
use Rattle.std.proofs.Common.{ℕ, Bool, ◌≡◌, ◌∙◌, ap, sym, map, Option, option_map, Box, Vec, Global}
use Rattle.syntax.specs.declared.node.Name.{Name}
use Rattle.syntax.specs.declared.node.UnaryOperator.{UnaryOperator}
use Rattle.syntax.specs.declared.node.BinaryOperator.{BinaryOperator}
use Rattle.syntax.specs.declared.node.TypeNode.{TypeNode}
use Rattle.syntax.specs.declared.node.ExpressionNode.{ExpressionNode}
use Rattle.syntax.specs.declared.node.ExpressionNode.TheVariants as expressions
use Rattle.syntax.specs.declared.node.ExpressionNode.TheFolds.{fold-roll-ExpressionNode}
use Rattle.syntax.specs.declared.node.ArgumentsNode.{ArgumentsNode}
use Rattle.syntax.specs.declared.node.ForHeader.{ForHeader}
use Rattle.syntax.specs.declared.node.ReturnNode.{ReturnNode}
use Rattle.syntax.specs.declared.node.IfNode.{IfNode}
use Rattle.syntax.specs.declared.node.ElseNode.{ElseNode}
use Rattle.syntax.specs.declared.node.ElseNode.TheVariants as others
use Rattle.syntax.specs.declared.node.SimpleNode.{SimpleNode}
use Rattle.syntax.specs.declared.node.ClauseNode.{ClauseNode}
use Rattle.syntax.specs.declared.node.StatementNode.{StatementNode}
use Rattle.syntax.specs.declared.node.StatementNode.TheVariants as nodes
use Rattle.syntax.specs.declared.node.ElseNode.TheFolds.{fold-roll-StatementNode, fold-roll-ElseNode, fold_out-IfNode, fold_out-ClauseNode}
use Rattle.syntax.specs.Tree.{Integer, Named, Parenthesized, Selection, Composite, Unary, Binary, Call, Receive, Make, MakeSized, Length, Capacity, expressions as expressions_in, Empty, Alone, If, NoElse, ElseBlock, ElseIf, VarTyped, VarUntyped, Block, For, Select, Go, Return, Break, Continue, Conditional}
use Rattle.syntax.specs.View.{name_of, type_of, expression_of, arguments_of, right_of, simple_of, if_head_of, for_head_of, comm_of, returned_of, statement_of, body_of, branch_of, otherwise_of, clause_of, clauses}

-- ---- expressions

pub named_is : (e : ExpressionNode) (name : Name) → e ≡ expressions.Named name → expression_of e ≡ Named (name_of name)
named_is e name is = ap expression_of (is ∙ sym (expressions.rolls-Named name)) ∙ fold-roll-ExpressionNode _ _ _

pub parenthesized_is : (e : ExpressionNode) (inner : Box ExpressionNode Global) → e ≡ expressions.Parenthesized inner → expression_of e ≡ Parenthesized (expression_of inner.value)
parenthesized_is e inner is = ap expression_of (is ∙ sym (expressions.rolls-Parenthesized inner)) ∙ fold-roll-ExpressionNode _ _ _

pub selection_is : (e : ExpressionNode) (whole : Box ExpressionNode Global) (field : Name) → e ≡ expressions.Selection whole field → expression_of e ≡ Selection (expression_of whole.value) (name_of field)
selection_is e whole field is = ap expression_of (is ∙ sym (expressions.rolls-Selection whole field)) ∙ fold-roll-ExpressionNode _ _ _

pub unary_is : (e : ExpressionNode) (operator : UnaryOperator) (operand : Box ExpressionNode Global) → e ≡ expressions.Unary operator operand → expression_of e ≡ Unary operator (expression_of operand.value)
unary_is e operator operand is = ap expression_of (is ∙ sym (expressions.rolls-Unary operator operand)) ∙ fold-roll-ExpressionNode _ _ _

pub binary_is : (e : ExpressionNode) (operator : BinaryOperator) (left right : Box ExpressionNode Global) → e ≡ expressions.Binary operator left right
    → expression_of e ≡ Binary operator (expression_of left.value) (expression_of right.value)
binary_is e operator left right is = ap expression_of (is ∙ sym (expressions.rolls-Binary operator left right)) ∙ fold-roll-ExpressionNode _ _ _

pub integer_is : (e : ExpressionNode) (value : Option ℕ) → e ≡ expressions.Integer value → expression_of e ≡ Integer value
integer_is e value is = ap expression_of (is ∙ sym (expressions.rolls-Integer value)) ∙ fold-roll-ExpressionNode _ _ _

pub composite_is : (e : ExpressionNode) (name : Name) (values : Vec ExpressionNode Global) (trailing : Bool) → e ≡ expressions.Composite name values trailing
    → expression_of e ≡ Composite (name_of name) (expressions_in (map expression_of values.items)) trailing
composite_is e name values trailing is = ap expression_of (is ∙ sym (expressions.rolls-Composite name values trailing)) ∙ fold-roll-ExpressionNode _ _ _

pub call_is : (e : ExpressionNode) (function : Name) (values : Vec ExpressionNode Global) (trailing : Bool) → e ≡ expressions.Call function values trailing
    → expression_of e ≡ Call (name_of function) (expressions_in (map expression_of values.items)) trailing
call_is e function values trailing is = ap expression_of (is ∙ sym (expressions.rolls-Call function values trailing)) ∙ fold-roll-ExpressionNode _ _ _

pub receive_is : (e : ExpressionNode) (channel : Box ExpressionNode Global) → e ≡ expressions.Receive channel → expression_of e ≡ Receive (expression_of channel.value)
receive_is e channel is = ap expression_of (is ∙ sym (expressions.rolls-Receive channel)) ∙ fold-roll-ExpressionNode _ _ _

pub make_is : (e : ExpressionNode) (channel : Box TypeNode Global) → e ≡ expressions.Make channel → expression_of e ≡ Make (type_of channel.value)
make_is e channel is = ap expression_of (is ∙ sym (expressions.rolls-Make channel)) ∙ fold-roll-ExpressionNode _ _ _

pub make_sized_is : (e : ExpressionNode) (channel : Box TypeNode Global) (size : Box ExpressionNode Global) → e ≡ expressions.MakeSized channel size → expression_of e ≡ MakeSized (type_of channel.value) (expression_of size.value)
make_sized_is e channel size is = ap expression_of (is ∙ sym (expressions.rolls-MakeSized channel size)) ∙ fold-roll-ExpressionNode _ _ _

pub length_is : (e : ExpressionNode) (channel : Box ExpressionNode Global) → e ≡ expressions.Length channel → expression_of e ≡ Length (expression_of channel.value)
length_is e channel is = ap expression_of (is ∙ sym (expressions.rolls-Length channel)) ∙ fold-roll-ExpressionNode _ _ _

pub capacity_is : (e : ExpressionNode) (channel : Box ExpressionNode Global) → e ≡ expressions.Capacity channel → expression_of e ≡ Capacity (expression_of channel.value)
capacity_is e channel is = ap expression_of (is ∙ sym (expressions.rolls-Capacity channel)) ∙ fold-roll-ExpressionNode _ _ _

-- ---- statements

pub empty_is : (s : StatementNode) → s ≡ nodes.Empty → statement_of s ≡ Empty
empty_is s is = ap statement_of (is ∙ sym nodes.rolls-Empty) ∙ fold-roll-StatementNode _ _ _ _ _ _ _ _ _

pub simple_is : (s : StatementNode) (simple : SimpleNode) → s ≡ nodes.Simple simple → statement_of s ≡ Alone (simple_of simple)
simple_is s simple is = ap statement_of (is ∙ sym (nodes.rolls-Simple simple)) ∙ fold-roll-StatementNode _ _ _ _ _ _ _ _ _

pub typed_is : (s : StatementNode) (names : Vec Name Global) (kind : TypeNode) (right : Option (Vec ExpressionNode Global)) → s ≡ nodes.Typed names kind right
    → statement_of s ≡ VarTyped (map name_of names.items) (type_of kind) (option_map right_of right)
typed_is s names kind right is = ap statement_of (is ∙ sym (nodes.rolls-Typed names kind right)) ∙ fold-roll-StatementNode _ _ _ _ _ _ _ _ _

pub untyped_is : (s : StatementNode) (names : Vec Name Global) (right : Vec ExpressionNode Global) → s ≡ nodes.Untyped names right → statement_of s ≡ VarUntyped (map name_of names.items) (right_of right)
untyped_is s names right is = ap statement_of (is ∙ sym (nodes.rolls-Untyped names right)) ∙ fold-roll-StatementNode _ _ _ _ _ _ _ _ _

pub block_is : (s : StatementNode) (body : Vec StatementNode Global) → s ≡ nodes.Block body → statement_of s ≡ Block (body_of body.items)
block_is s body is = ap statement_of (is ∙ sym (nodes.rolls-Block body)) ∙ fold-roll-StatementNode _ _ _ _ _ _ _ _ _

pub if_is : (s : StatementNode) (branch : Box IfNode Global) → s ≡ nodes.If branch → statement_of s ≡ If (branch_of branch.value)
if_is s branch is = ap statement_of (is ∙ sym (nodes.rolls-If branch)) ∙ fold-roll-StatementNode _ _ _ _ _ _ _ _ _

pub for_is : (s : StatementNode) (header : ForHeader) (body : Vec StatementNode Global) → s ≡ nodes.For header body → statement_of s ≡ For (for_head_of header) (body_of body.items)
for_is s header body is = ap statement_of (is ∙ sym (nodes.rolls-For header body)) ∙ fold-roll-StatementNode _ _ _ _ _ _ _ _ _

pub select_is : (s : StatementNode) (all : Vec ClauseNode Global) → s ≡ nodes.Select all → statement_of s ≡ Select (clauses (map clause_of all.items))
select_is s all is = ap statement_of (is ∙ sym (nodes.rolls-Select all)) ∙ fold-roll-StatementNode _ _ _ _ _ _ _ _ _

pub go_is : (s : StatementNode) (function : Name) (arguments : ArgumentsNode) → s ≡ nodes.Go function arguments → statement_of s ≡ Go (name_of function) (arguments_of arguments)
go_is s function arguments is = ap statement_of (is ∙ sym (nodes.rolls-Go function arguments)) ∙ fold-roll-StatementNode _ _ _ _ _ _ _ _ _

pub return_is : (s : StatementNode) (returned : ReturnNode) → s ≡ nodes.Return returned → statement_of s ≡ Return (returned_of returned)
return_is s returned is = ap statement_of (is ∙ sym (nodes.rolls-Return returned)) ∙ fold-roll-StatementNode _ _ _ _ _ _ _ _ _

pub break_is : (s : StatementNode) → s ≡ nodes.Break → statement_of s ≡ Break
break_is s is = ap statement_of (is ∙ sym nodes.rolls-Break) ∙ fold-roll-StatementNode _ _ _ _ _ _ _ _ _

pub continue_is : (s : StatementNode) → s ≡ nodes.Continue → statement_of s ≡ Continue
continue_is s is = ap statement_of (is ∙ sym nodes.rolls-Continue) ∙ fold-roll-StatementNode _ _ _ _ _ _ _ _ _

pub branch_is : (branch : IfNode) → branch_of branch ≡ Conditional (if_head_of branch.header) (expression_of branch.condition) (body_of branch.body.items) (otherwise_of branch.otherwise)
branch_is branch = fold_out-IfNode _ _ _ _ _ _ _ _ branch

pub nothing_is : (e : ElseNode) → e ≡ others.Nothing → otherwise_of e ≡ NoElse
nothing_is e is = ap otherwise_of (is ∙ sym others.rolls-Nothing) ∙ fold-roll-ElseNode _ _ _ _ _ _ _ _ _

pub else_block_is : (e : ElseNode) (body : Vec StatementNode Global) → e ≡ others.Block body → otherwise_of e ≡ ElseBlock (body_of body.items)
else_block_is e body is = ap otherwise_of (is ∙ sym (others.rolls-Block body)) ∙ fold-roll-ElseNode _ _ _ _ _ _ _ _ _

pub else_if_is : (e : ElseNode) (branch : Box IfNode Global) → e ≡ others.If branch → otherwise_of e ≡ ElseIf (branch_of branch.value)
else_if_is e branch is = ap otherwise_of (is ∙ sym (others.rolls-If branch)) ∙ fold-roll-ElseNode _ _ _ _ _ _ _ _ _

pub clause_is : (clause : ClauseNode) → clause_of clause ≡ record { comm = option_map comm_of clause.comm; body = body_of clause.body.items }
clause_is clause = fold_out-ClauseNode _ _ _ _ _ _ _ _ clause
