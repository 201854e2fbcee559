-- What is in memory, as a tree.
use Rattle.std.specs.Prelude.{ℕ, Option, option_map, List, [], ◌∷◌, map}
use Rattle.std.specs.Global.{Vec}
use Rattle.syntax.specs.Tree.{TypeExpression, NamedType, ParenthesizedType, Channel, Expression, Integer, Named, Parenthesized, Selection, Composite, Unary, Binary, Call, Receive, Make, MakeSized, Length, Capacity, expressions, Arguments, Place, Part, Value, Text, Simple, CallAlone, Close, Print, ReceiveAlone, Send, Increment, Decrement, Assign, Define, Update, IfHead, Bare, Semicolon, First, Target, NoTarget, DefineTarget, AssignTarget, ForHead, Forever, While, ForClauses, Range, Comm, CommSend, CommReceive, CommDefine, CommAssign, Returned, NoValue, ReturnedValue, Statement, Empty, Alone, VarTyped, VarUntyped, Block, If, For, Select, Go, Return, Break, Continue, Statements, statements, Branch, Conditional, Otherwise, NoElse, ElseBlock, ElseIf, Clauses, NoClause, Clause, Declared, Struct, Function, Top, StructTop, FunctionTop, File}
use Rattle.syntax.specs.declared.node.Name.{Name}
use Rattle.syntax.specs.declared.node.TypeNode.{TypeNode}
use Rattle.syntax.specs.declared.node.TypeNode.TheOpen as types
use Rattle.syntax.specs.declared.node.TypeNode.TheFolds.{fold-TypeNode}
use Rattle.syntax.specs.declared.node.ExpressionNode.{ExpressionNode}
use Rattle.syntax.specs.declared.node.ExpressionNode.TheOpen as layers
use Rattle.syntax.specs.declared.node.ExpressionNode.TheFolds.{fold-ExpressionNode}
use Rattle.syntax.specs.declared.node.ArgumentsNode.{ArgumentsNode}
use Rattle.syntax.specs.declared.node.PlaceNode.{PlaceNode}
use Rattle.syntax.specs.declared.node.PartNode.{PartNode}
use Rattle.syntax.specs.declared.node.PartNode.TheVariants as parts
use Rattle.syntax.specs.declared.node.SimpleNode.{SimpleNode}
use Rattle.syntax.specs.declared.node.SimpleNode.TheVariants as simples
use Rattle.syntax.specs.declared.node.IfHeader.{IfHeader}
use Rattle.syntax.specs.declared.node.IfHeader.TheVariants as ifs
use Rattle.syntax.specs.declared.node.RangeTarget.{RangeTarget}
use Rattle.syntax.specs.declared.node.RangeTarget.TheVariants as targets
use Rattle.syntax.specs.declared.node.ForHeader.{ForHeader}
use Rattle.syntax.specs.declared.node.ForHeader.TheVariants as fors
use Rattle.syntax.specs.declared.node.CommNode.{CommNode}
use Rattle.syntax.specs.declared.node.CommNode.TheVariants as comms
use Rattle.syntax.specs.declared.node.ReturnNode.{ReturnNode}
use Rattle.syntax.specs.declared.node.ReturnNode.TheVariants as returns
use Rattle.syntax.specs.declared.node.StatementNode.{StatementNode}
use Rattle.syntax.specs.declared.node.ElseNode.TheOpen as open_statements
use Rattle.syntax.specs.declared.node.ElseNode.TheFolds.{fold-StatementNode, fold-IfNode, fold-ElseNode, fold-ClauseNode}
use Rattle.syntax.specs.declared.node.IfNode.{IfNode}
use Rattle.syntax.specs.declared.node.ElseNode.{ElseNode}
use Rattle.syntax.specs.declared.node.ClauseNode.{ClauseNode}
use Rattle.syntax.specs.declared.node.DeclaredNode.{DeclaredNode}
use Rattle.syntax.specs.declared.node.StructNode.{StructNode}
use Rattle.syntax.specs.declared.node.FunctionNode.{FunctionNode}
use Rattle.syntax.specs.declared.node.TopNode.{TopNode}
use Rattle.syntax.specs.declared.node.TopNode.TheVariants as tops
use Rattle.syntax.specs.declared.node.FileNode.{FileNode}

abbrev pub name_of : Name → List ℕ
name_of name = name.bytes.items

-- ---- types

abbrev pub type_layer : types.TypeNode-F TypeExpression → TypeExpression
type_layer (types.Named name) = NamedType (name_of name)
type_layer (types.Parenthesized inner) = ParenthesizedType inner.value
type_layer (types.Channel direction element) = Channel direction element.value

abbrev pub type_of : TypeNode → TypeExpression
type_of = fold-TypeNode TypeExpression type_layer

-- ---- expressions

abbrev pub expression_layer : layers.ExpressionNode-F Expression → Expression
expression_layer (layers.Integer value) = Integer value
expression_layer (layers.Named name) = Named (name_of name)
expression_layer (layers.Parenthesized inner) = Parenthesized inner.value
expression_layer (layers.Selection whole field) = Selection whole.value (name_of field)
expression_layer (layers.Composite name values trailing) = Composite (name_of name) (expressions values.items) trailing
expression_layer (layers.Unary operator operand) = Unary operator operand.value
expression_layer (layers.Binary operator left right) = Binary operator left.value right.value
expression_layer (layers.Call function values trailing) = Call (name_of function) (expressions values.items) trailing
expression_layer (layers.Receive channel) = Receive channel.value
expression_layer (layers.Make channel) = Make (type_of channel.value)
expression_layer (layers.MakeSized channel size) = MakeSized (type_of channel.value) size.value
expression_layer (layers.Length channel) = Length channel.value
expression_layer (layers.Capacity channel) = Capacity channel.value

abbrev pub expression_of : ExpressionNode → Expression
expression_of = fold-ExpressionNode Expression expression_layer

abbrev pub arguments_of : ArgumentsNode → Arguments
arguments_of arguments = record { values = map expression_of arguments.values.items; trailing = arguments.trailing }

-- ---- simple statements

-- the values of a right side
abbrev pub right_of : Vec ExpressionNode → List Expression
right_of values = map expression_of values.items

abbrev pub place_of : PlaceNode → Place
place_of place = record { name = name_of place.name; fields = map name_of place.fields.items }

abbrev pub part_of : PartNode → Part
part_of (parts.Value value) = Value (expression_of value)
part_of (parts.Text bytes) = Text bytes.items

abbrev pub simple_of : SimpleNode → Simple
simple_of (simples.Call function arguments) = CallAlone (name_of function) (arguments_of arguments)
simple_of (simples.Close channel) = Close (expression_of channel)
simple_of (simples.Print line all trailing) = Print line (map part_of all.items) trailing
simple_of (simples.Receive channel) = ReceiveAlone (expression_of channel)
simple_of (simples.Send channel value) = Send (expression_of channel) (expression_of value)
simple_of (simples.Increment place) = Increment (place_of place)
simple_of (simples.Decrement place) = Decrement (place_of place)
simple_of (simples.Assign places right) = Assign (map place_of places.items) (right_of right)
simple_of (simples.Define names right) = Define (map name_of names.items) (right_of right)
simple_of (simples.Update place operator value) = Update (place_of place) operator (expression_of value)

-- ---- statements

abbrev pub if_head_of : IfHeader → IfHead
if_head_of ifs.Bare = Bare
if_head_of ifs.Semicolon = Semicolon
if_head_of (ifs.Simple simple) = First (simple_of simple)

abbrev pub target_of : RangeTarget → Target
target_of targets.Nothing = NoTarget
target_of (targets.Define name) = DefineTarget (name_of name)
target_of (targets.Assign place) = AssignTarget (place_of place)

abbrev pub for_head_of : ForHeader → ForHead
for_head_of fors.Forever = Forever
for_head_of (fors.While condition) = While (expression_of condition)
for_head_of (fors.Clauses first condition post) = ForClauses (option_map simple_of first) (option_map expression_of condition) (option_map simple_of post)
for_head_of (fors.Range target channel) = Range (target_of target) (expression_of channel)

abbrev pub comm_of : CommNode → Comm
comm_of (comms.Send channel value) = CommSend (expression_of channel) (expression_of value)
comm_of (comms.Receive channel) = CommReceive (expression_of channel)
comm_of (comms.Define item ok channel) = CommDefine (name_of item) (option_map name_of ok) (expression_of channel)
comm_of (comms.Assign item ok channel) = CommAssign (place_of item) (option_map place_of ok) (expression_of channel)

abbrev pub returned_of : ReturnNode → Returned
returned_of returns.Nothing = NoValue
returned_of (returns.Value value) = ReturnedValue (expression_of value)

-- a clause of a select, of which the others are still to come
pub record OneClause : Type 0 where
  pub comm : Option Comm
  pub body : Statements

abbrev pub clauses : List OneClause → Clauses
clauses [] = NoClause
clauses (first ∷ rest) = Clause first.comm first.body (clauses rest)

abbrev pub else_layer : open_statements.ElseNode-F Otherwise Statement OneClause Branch → Otherwise
else_layer open_statements.Nothing = NoElse
else_layer (open_statements.ElseNode::Block body) = ElseBlock (statements body.items)
else_layer (open_statements.ElseNode::If branch) = ElseIf branch.value

abbrev pub statement_layer : open_statements.StatementNode-F Otherwise Statement OneClause Branch → Statement
statement_layer open_statements.Empty = Empty
statement_layer (open_statements.Simple simple) = Alone (simple_of simple)
statement_layer (open_statements.Typed names kind right) = VarTyped (map name_of names.items) (type_of kind) (option_map right_of right)
statement_layer (open_statements.Untyped names right) = VarUntyped (map name_of names.items) (right_of right)
statement_layer (open_statements.StatementNode::Block body) = Block (statements body.items)
statement_layer (open_statements.StatementNode::If branch) = If branch.value
statement_layer (open_statements.For head body) = For (for_head_of head) (statements body.items)
statement_layer (open_statements.Select all) = Select (clauses all.items)
statement_layer (open_statements.Go function arguments) = Go (name_of function) (arguments_of arguments)
statement_layer (open_statements.Return returned) = Return (returned_of returned)
statement_layer open_statements.Break = Break
statement_layer open_statements.Continue = Continue

abbrev pub clause_layer : open_statements.ClauseNode-F Otherwise Statement OneClause Branch → OneClause
clause_layer clause = record { comm = option_map comm_of clause.comm; body = statements clause.body.items }

abbrev pub branch_layer : open_statements.IfNode-F Otherwise Statement OneClause Branch → Branch
branch_layer branch = Conditional (if_head_of branch.header) (expression_of branch.condition) (statements branch.body.items) branch.otherwise

abbrev pub statement_of : StatementNode → Statement
statement_of = fold-StatementNode Otherwise Statement OneClause Branch else_layer statement_layer clause_layer branch_layer

abbrev pub branch_of : IfNode → Branch
branch_of = fold-IfNode Otherwise Statement OneClause Branch else_layer statement_layer clause_layer branch_layer

abbrev pub otherwise_of : ElseNode → Otherwise
otherwise_of = fold-ElseNode Otherwise Statement OneClause Branch else_layer statement_layer clause_layer branch_layer

abbrev pub clause_of : ClauseNode → OneClause
clause_of = fold-ClauseNode Otherwise Statement OneClause Branch else_layer statement_layer clause_layer branch_layer

-- the statements of a block
abbrev pub body_of : List StatementNode → Statements
body_of body = statements (map statement_of body)

-- ---- files

abbrev pub declared_of : DeclaredNode → Declared
declared_of declared = record { names = map name_of declared.names.items; type_expression = type_of declared.type_node }

abbrev pub struct_of : StructNode → Struct
struct_of struct = record { name = name_of struct.name; fields = map declared_of struct.fields.items; trailing = struct.trailing }

abbrev pub function_of : FunctionNode → Function
function_of function = record {
  name = name_of function.name;
  parameters = map declared_of function.parameters.items;
  trailing = function.trailing;
  result = option_map type_of function.result;
  body = body_of function.body.items;
}

abbrev pub top_of : TopNode → Top
top_of (tops.Struct struct) = StructTop (struct_of struct)
top_of (tops.Function function) = FunctionTop (function_of function)

abbrev pub file_of : FileNode → File
file_of file = record { tops = map top_of file.tops.items }
