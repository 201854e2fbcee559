-- The context of all that the code of a function does: the program, the function while it runs, and where it is.
use Rattle.std.proofs.Common.{◌≡◌, ℕ, ◌≤◌, List, length, take, map, Option, Some, slice_get, ◌∷◌}
use Rattle.bytecode.specs.Code.{Function as CodeFunction, Code}
use Rattle.bytecode.specs.Machine.{Frames, Frame, entered, code_next}
use Rattle.word.specs.declared.value.Word.{Word}
use Rattle.word.specs.Values.{Request}
use Rattle.word.specs.Values as requests
use Rattle.type_table.specs.Types.{ValueType}
use Rattle.type_table.specs.Containment.{fields_of}
use Rattle.type_table.specs.Scopes.{Globals, Scope, Yield, function_number}
use Rattle.typing_rules.specs.Calls.{parameters_of, result_of}
use Rattle.meaning.specs.Values.{Value, known, words_in}
use Rattle.meaning.specs.Worked.{Asking, Calling}
use Rattle.codegen_base.specs.declared.element.Element.{Element}
use Rattle.codegen_base.specs.Elements.{shapes_of}
use Rattle.codegen_base.proofs.Alike.{Alike}
use Rattle.codegen_base.proofs.Static.{IsPlaced, Holding}
use Rattle.codegen_base.proofs.Fields.{AllWide, AllTyped}
use Rattle.codegen_base.proofs.Likeness.{AreLike, all_words_of}
use Rattle.codegen_base.proofs.Typing.{TypesKnown}
use Rattle.codegen_base.proofs.Called.{KindsKnown}
use Rattle.codegen_base.proofs.Known.{FieldsNoted, ResultsNoted, VariablesNoted}
use Rattle.codegen_base.proofs.Gave.{Context}
use Rattle.codegen_base.specs.Generated.{result_kinds}

-- a file and its code: what holds of its types, of the elements that its channels carry, and of its functions
pub record Compiled (globals : Globals) : Type 0 where
  pub elements : List Element
  pub code : Code
  pub wide : AllWide globals.structs
  pub typed : (n : ℕ) → AllTyped globals.structs (fields_of globals.structs n)
  pub types_known : TypesKnown globals
  pub params_known : (n : ℕ) → KindsKnown (parameters_of globals n)
  pub shapes : code.shapes ≡ shapes_of globals.structs elements
  pub fields_noted : FieldsNoted elements globals
  pub results_noted : ResultsNoted elements globals
  pub narrow : (kind : ValueType) → words_in globals.structs kind ≤ 16
  -- a function of the file has code, and as many parameters there as its arguments have words
  pub functions : (name : List ℕ) (n : ℕ) → function_number globals.functions name ≡ Some n
      → (callee : CodeFunction) × (slice_get code.functions n ≡ Some callee) × ((vs : List Value) → AreLike globals.structs (map known (parameters_of globals n)) vs → length (take callee.params callee.locals) ≡ length (all_words_of vs))

-- a function of the file and its code, which gives the words of its result
pub record Coded {globals : Globals} (program : Compiled globals) : Type 0 where
  pub number : ℕ
  pub function : CodeFunction
  pub there : slice_get program.code.functions number ≡ Some function
  pub result : Yield
  pub result_is : result_of globals number ≡ result
  pub results_are : function.results ≡ result_kinds globals program.elements result

-- a request begins nothing, unless it starts a goroutine
abbrev pub IsCalm : Request → Type 0
IsCalm (requests.Go function arguments) = ⊥
IsCalm request = Unit {0}

-- a function while it runs: its context. Calm requests begin nothing; functions that are called, and those that are started, begin
-- alike
pub record Running {globals : Globals} {program : Compiled globals} (coded : Coded program) : Type 1 where
  pub context : Context globals program.code
  pub calm : (q : Request) (d : Frames) → IsCalm q → context.Begins (Asking q) d
  pub calls : (n : ℕ) (vs : List Value) (d : Frames) (b : Frame) (callee : CodeFunction) → AreLike globals.structs (map known (parameters_of globals n)) vs → slice_get program.code.functions n ≡ Some callee
      → code_next program.code d ≡ entered n (all_words_of vs) (b ∷ context.callers) callee → context.Begins (Calling n vs) d
  pub starts : (n : ℕ) (vs : List Value) (d : Frames) (callee : CodeFunction) → AreLike globals.structs (map known (parameters_of globals n)) vs → slice_get program.code.functions n ≡ Some callee
      → context.Begins (Asking (requests.Go n (all_words_of vs))) d

-- where it is: what its locals hold, which variables lie there, at which of them the blocks begin, and which of them the typing
-- rules see; and to where its code leaves the loop around it and turns in it again
pub record Standing {globals : Globals} {program : Compiled globals} {coded : Coded program} (running : Running coded) : Type 0 where
  pub locals : List Word
  pub scope : Scope
  pub begins : List ℕ
  pub checked : Scope
  pub placed : IsPlaced globals.structs scope begins
  pub alike : Alike checked scope
  pub noted : VariablesNoted program.elements globals scope
  pub room : scope.words ≤ length locals
  pub holding : Holding globals.structs locals scope.variables
  pub leave : Option ℕ
  pub again : Option ℕ
