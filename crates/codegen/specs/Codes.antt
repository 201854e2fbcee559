-- The code of a file by what it declares, and by what its channels carry.
use Rattle.std.specs.Prelude.{◌≡◌, ◌≢◌, ℕ, List, map, None}
use Rattle.syntax.specs.Tree.{File, Top, StructTop, FunctionTop}
use Rattle.bytecode.specs.Code.{Code, Function as CodeFunction}
use Rattle.type_table.specs.Scopes.{Globals, Yield, Yields}
use Rattle.codegen_base.specs.declared.element.Element.{Element}
use Rattle.codegen_base.specs.Elements.{shapes_of}
use Rattle.codegen_base.specs.Program.{all_prints, all_selects, functions_code, label}
use Rattle.typing_rules.specs.Kinds.{function_names, yield_of}

abbrev pub code_with : Globals → List Element → List Top → Code
code_with globals elements tops = record {
  functions = functions_code globals elements 0 0 tops;
  shapes = shapes_of globals.structs elements;
  prints = all_prints globals elements 0 0 tops;
  selects = all_selects globals elements 0 0 tops;
}

-- the code's functions are the file's, in the order in which they are declared, by their names
abbrev pub AreNamed : File → Code → Type 0
AreNamed file code = map (λ (f : CodeFunction). f.name) code.functions ≡ map label (function_names file.tops)

-- there is no result, or its type is known
abbrev pub IsKnown : Yield → Type 0
IsKnown result = result ≢ Yields None

abbrev pub HasKnownResult : List (List ℕ) → Top → Type 0
HasKnownResult types (StructTop struct) = Unit {0}
HasKnownResult types (FunctionTop function) = IsKnown (yield_of types function.result)
