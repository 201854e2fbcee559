-- What calls are of, and what they give.
use Rattle.std.specs.Prelude.{◌&&◌, ◌||◌, not, Bool, List, [], ℕ, Option, Some, None, slice_get, if◌then◌else◌, bytes_eq, codes}
use Rattle.std.specs.Option.{is_some}
use Rattle.type_table.specs.Types.{ValueType, is_channel_type}
use Rattle.type_table.specs.Scopes.{Scope, Signature, Yield, NoResult, Yields, Globals, is_reserved, variable_named, number_of, function_number}

-- what a name in a call stands for
pub data Callee : Type 0 where
  NotDeclared : Callee
  NoFunction : Callee
  IsFunction : (number : ℕ) → Callee

abbrev pub function_of : Option ℕ → Callee
function_of None = NotDeclared
function_of (Some number) = IsFunction number

-- a name of a variable, a type or a value
abbrev pub is_other : Globals → Scope → List ℕ → Bool
is_other globals scope name =
    is_some (variable_named scope name) || is_some (number_of globals.types name)
    || (is_reserved name && not (bytes_eq name (codes "init")))

abbrev pub callee : Globals → Scope → List ℕ → Callee
callee globals scope name =
    if is_other globals scope name then NoFunction else function_of (function_number globals.functions name)

abbrev pub parameters_in : Option Signature → List (Option ValueType)
parameters_in None = []
parameters_in (Some f) = f.parameters

abbrev pub parameters_of : Globals → ℕ → List (Option ValueType)
parameters_of globals number = parameters_in (slice_get globals.functions number)

abbrev pub result_in : Option Signature → Yield
result_in None = NoResult
result_in (Some f) = f.result

abbrev pub result_of : Globals → ℕ → Yield
result_of globals number = result_in (slice_get globals.functions number)

abbrev pub yielded : Yield → Option ValueType
yielded NoResult = None
yielded (Yields kind) = kind

abbrev pub result_type : Globals → Callee → Option ValueType
result_type globals (IsFunction number) = yielded (result_of globals number)
result_type globals callee = None

-- a channel type that may be made
abbrev pub made_of : Option ValueType → Option ValueType
made_of None = None
made_of (Some t) = if is_channel_type t then Some t else None
