-- The functions of the code are those of the file.
use Rattle.std.proofs.Common.{◌≡◌, ℕ, ◌+◌, List, [], ◌∷◌, length, map, refl, ap, subst, sym}
use Rattle.syntax.specs.Tree.{File, Top, StructTop, FunctionTop}
use Rattle.bytecode.specs.Code.{Code, Function as CodeFunction}
use Rattle.plan.specs.Plan.{table_count}
use Rattle.type_table.specs.Scopes.{Globals}
use Rattle.typing_rules.specs.Kinds.{function_names}
use Rattle.codegen_base.specs.declared.element.Element.{Element}
use Rattle.codegen_base.specs.Program.{code_of, functions_code, label, made_function}
use Rattle.codegen.specs.Codes.{AreNamed}

module _ (globals : Globals) (elements : List Element) where
  names_code : (prints selects : ℕ) (tops : List Top) → map (λ (f : CodeFunction). f.name) (functions_code globals elements prints selects tops) ≡ map label (function_names tops)
  names_code prints selects [] = refl
  names_code prints selects (StructTop struct ∷ rest) = names_code prints selects rest
  names_code prints selects (FunctionTop function ∷ rest) =
      let made = made_function globals elements prints selects function in
      ap (λ (names : List (List ℕ)). label function.name ∷ names) (names_code (prints + length made.prints) (selects + table_count made.plan) rest)

pub compiled_named : (file : File) (code : Code) → code ≡ code_of file → AreNamed file code
compiled_named file code is = subst (AreNamed file) (sym is) (names_code _ _ 0 0 file.tops)
