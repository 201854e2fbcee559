-- What the typing rules don't say of statements: the elements of the channel types that they make are noted.
use Rattle.std.proofs.Common.{List, [], ◌∷◌, Option, Some, None, IfSome}
use Rattle.syntax.specs.Tree.{Expression, expressions, Part, Value, Text, Simple, CallAlone, Close, Print, ReceiveAlone, Send, Increment, Decrement, Assign, Define, Update, IfHead, First, ForHead, Forever, While, ForClauses, Range, Comm, Returned, NoValue, ReturnedValue, Statement, Alone, VarTyped, VarUntyped, Block, If, For, Select, Go, Return, Statements, NoStatement, Then, Branch, Conditional, Otherwise, NoElse, ElseBlock, ElseIf, Clauses, NoClause, Clause}
use Rattle.type_table.specs.Scopes.{Globals, nothing_declared, type_in}
use Rattle.typing_rules.specs.Simples.{comm_simple}
use Rattle.meaning.specs.Values.{known}
use Rattle.codegen_base.specs.declared.element.Element.{Element}
use Rattle.codegen_base.proofs.Noted.{Noted}
use Rattle.codegen_base.proofs.Makes.{ExpressionMakes, ExpressionsMake}

-- a statement that declares nothing, as a post statement is
abbrev pub DeclaresNone : Simple → Type 0
DeclaresNone (Define names right) = ⊥
DeclaresNone simple = Unit {0}

module _ (globals : Globals) (elements : List Element) where
  abbrev pub OneMakes : Expression → Type 0
  OneMakes e = ExpressionMakes globals.types elements e

  abbrev pub ValuesMake : List Expression → Type 0
  ValuesMake values = ExpressionsMake globals.types elements (expressions values)

  abbrev pub PartsMake : List Part → Type 0
  PartsMake [] = Unit {0}
  PartsMake (Value value ∷ rest) = OneMakes value × PartsMake rest
  PartsMake (Text bytes ∷ rest) = PartsMake rest

  abbrev pub SimpleMakes : Simple → Type 0
  SimpleMakes (CallAlone function arguments) = ValuesMake arguments.values
  SimpleMakes (Close channel) = OneMakes channel
  SimpleMakes (Print line parts trailing) = PartsMake parts
  SimpleMakes (ReceiveAlone channel) = OneMakes channel
  SimpleMakes (Send channel value) = OneMakes channel × OneMakes value
  SimpleMakes (Increment place) = Unit {0}
  SimpleMakes (Decrement place) = Unit {0}
  SimpleMakes (Assign places right) = ValuesMake right
  SimpleMakes (Define names right) = ValuesMake right
  SimpleMakes (Update place operator value) = OneMakes value

  abbrev pub ReturnedMakes : Returned → Type 0
  ReturnedMakes NoValue = Unit {0}
  ReturnedMakes (ReturnedValue value) = OneMakes value

  abbrev pub IfHeadMakes : IfHead → Type 0
  IfHeadMakes (First simple) = SimpleMakes simple
  IfHeadMakes head = Unit {0}

  abbrev pub ForHeadMakes : ForHead → Type 0
  ForHeadMakes Forever = Unit {0}
  ForHeadMakes (While condition) = OneMakes condition
  ForHeadMakes (ForClauses first condition post) = IfSome first SimpleMakes × IfSome condition OneMakes × IfSome post SimpleMakes × IfSome post DeclaresNone
  ForHeadMakes (Range _ channel) = OneMakes channel

  abbrev pub CommMakes : Option Comm → Type 0
  CommMakes None = Unit {0}
  CommMakes (Some comm) = SimpleMakes (comm_simple comm)

  abbrev mutual
    pub Makes : Statement → Type 0
    Makes (Alone simple) = SimpleMakes simple
    Makes (VarTyped names kind right) = Noted elements (known (type_in globals.types nothing_declared kind)) × IfSome right ValuesMake
    Makes (VarUntyped names right) = ValuesMake right
    Makes (Block body) = AllMake body
    Makes (If branch) = BranchMakes branch
    Makes (For head body) = ForHeadMakes head × AllMake body
    Makes (Select clauses) = ClausesMake clauses
    Makes (Go function arguments) = ValuesMake arguments.values
    Makes (Return returned) = ReturnedMakes returned
    Makes s = Unit {0}

    pub AllMake : Statements → Type 0
    AllMake NoStatement = Unit {0}
    AllMake (Then first rest) = Makes first × AllMake rest

    pub BranchMakes : Branch → Type 0
    BranchMakes (Conditional head condition body otherwise) = IfHeadMakes head × OneMakes condition × AllMake body × OtherwiseMakes otherwise

    pub OtherwiseMakes : Otherwise → Type 0
    OtherwiseMakes NoElse = Unit {0}
    OtherwiseMakes (ElseBlock body) = AllMake body
    OtherwiseMakes (ElseIf branch) = BranchMakes branch

    pub ClausesMake : Clauses → Type 0
    ClausesMake NoClause = Unit {0}
    ClausesMake (Clause comm body rest) = CommMakes comm × AllMake body × ClausesMake rest
