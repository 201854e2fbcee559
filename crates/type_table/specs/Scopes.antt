-- Names, and what they stand for in a scope.
use Rattle.std.specs.Prelude.{ℕ, suc, ◌+◌, Bool, ◌||◌, if◌then◌else◌, List, [], ◌∷◌, ◌++◌, Option, Some, None, option_map, bytes_eq, codes, drop, length}
use Rattle.std.specs.Option.{is_some}
use Rattle.syntax.specs.Tree.{TypeExpression, NamedType, ParenthesizedType, Channel}
use Rattle.type_table.specs.Types.{ValueType, IntType, BoolType, StructType, ChannelType}
use Rattle.type_table.specs.Containment.{Structs, variable_words}

-- ---- names

-- the name that declares nothing
abbrev pub is_blank : List ℕ → Bool
is_blank name = bytes_eq name (codes "_")

abbrev pub is_truth : List ℕ → Bool
is_truth name = bytes_eq name (codes "true") || bytes_eq name (codes "false")

abbrev pub is_nil : List ℕ → Bool
is_nil name = bytes_eq name (codes "nil")

-- the names that are never declared
abbrev pub is_reserved : List ℕ → Bool
is_reserved name =
    bytes_eq name (codes "int") || bytes_eq name (codes "bool") || bytes_eq name (codes "true")
    || bytes_eq name (codes "false") || bytes_eq name (codes "nil") || bytes_eq name (codes "make")
    || bytes_eq name (codes "len") || bytes_eq name (codes "cap") || bytes_eq name (codes "close")
    || bytes_eq name (codes "print") || bytes_eq name (codes "println") || bytes_eq name (codes "init")

-- ---- variables

-- a variable with its type, if that is known, and the first of its words in the frame of its function
pub record Variable : Type 0 where
  pub name : List ℕ
  pub kind : Option ValueType
  pub place : ℕ

-- the variables that are visible
pub record Scope : Type 0 where
  -- in the order in which they were declared
  pub variables : List Variable
  -- how many of them were declared outside of the innermost block
  pub outer : ℕ
  -- how many words of the frame are taken, also by variables of blocks that have ended
  pub words : ℕ

abbrev pub nothing_declared : Scope
nothing_declared = record { variables = []; outer = 0; words = 0 }

-- the second one, if there is one: of two variables with one name, the one that was declared later hides the other one
abbrev pub later : Option Variable → Option Variable → Option Variable
later found None = found
later found (Some variable) = Some variable

abbrev pub if_named : List ℕ → Variable → Option Variable
if_named name variable = if bytes_eq variable.name name then Some variable else None

abbrev pub last_named : List Variable → List ℕ → Option Variable
last_named [] name = None
last_named (variable ∷ rest) name = later (if_named name variable) (last_named rest name)

-- the variable that a name stands for; `_` stands for none
abbrev pub variable_named : Scope → List ℕ → Option Variable
variable_named scope name = if is_blank name then None else last_named scope.variables name

-- the variable of this name that was declared in the innermost block
abbrev pub own_variable : Scope → List ℕ → Option Variable
own_variable scope name = if is_blank name then None else last_named (drop scope.outer scope.variables) name

-- a block begins
abbrev pub entered : Scope → Scope
entered scope = record { variables = scope.variables; outer = length scope.variables; words = scope.words }

-- a block has ended: what it declared is visible no more
abbrev pub left : Scope → Scope → Scope
left scope inner = record { variables = scope.variables; outer = scope.outer; words = inner.words }

-- a variable is declared
abbrev pub declared : Structs → Scope → Option ValueType → List ℕ → Scope
declared structs scope kind name = record {
  variables = scope.variables ++ record { name = name; kind = kind; place = scope.words } ∷ [];
  outer = scope.outer;
  words = scope.words + variable_words structs kind;
}

-- a name is declared, unless it is `_`
abbrev pub declared_unless_blank : Structs → Scope → Option ValueType → List ℕ → Scope
declared_unless_blank structs scope kind name = if is_blank name then scope else declared structs scope kind name

-- ---- what is declared in the file, and visible everywhere

-- whether a function has a result, and its type, if that is known
pub data Yield : Type 0 where
  NoResult : Yield
  Yields : (kind : Option ValueType) → Yield

pub record Signature : Type 0 where
  pub name : List ℕ
  pub parameters : List (Option ValueType)
  pub result : Yield

pub record Globals : Type 0 where
  -- the names of the struct types, in the order of their numbers
  pub types : List (List ℕ)
  pub structs : Structs
  pub functions : List Signature

-- the first one of this name
abbrev pub number_of : List (List ℕ) → List ℕ → Option ℕ
number_of [] name = None
number_of (first ∷ rest) name = if bytes_eq first name then Some 0 else option_map suc (number_of rest name)

abbrev pub function_number : List Signature → List ℕ → Option ℕ
function_number [] name = None
function_number (f ∷ rest) name = if bytes_eq f.name name then Some 0 else option_map suc (function_number rest name)

-- ---- types by their names

-- the type of this name
abbrev pub type_named : List (List ℕ) → Scope → List ℕ → Option ValueType
type_named types scope name =
    if is_some (variable_named scope name) then None
    else (if bytes_eq name (codes "int") then Some IntType
    else (if bytes_eq name (codes "bool") then Some BoolType
    else option_map StructType (number_of types name)))

-- the type that is written here: None if the name in it is no type's
abbrev pub type_in : List (List ℕ) → Scope → TypeExpression → Option ValueType
type_in types scope (NamedType name) = type_named types scope name
type_in types scope (ParenthesizedType inner) = type_in types scope inner
type_in types scope (Channel direction element) = option_map (ChannelType direction) (type_in types scope element)
