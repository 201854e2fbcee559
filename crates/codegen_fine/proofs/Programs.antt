-- All functions of a file with which nothing is wrong keep the verifier's rules V1 to V6.
use Rattle.std.proofs.Common.{◌≡◌, ℕ, zero, suc, ◌+◌, All, List, [], ◌∷◌, ◌++◌, length, drop, Some, refl, sym, ap, ◌∙◌, subst, arith, slice_get, inl, inr}
use Rattle.std.proofs.lemmas.Option.{same_Some}
use Rattle.std.proofs.lemmas.List.Elements.{All-append}
use Rattle.syntax.specs.Tree.{Top, StructTop, FunctionTop, File}
use Rattle.syntax.specs.Measures.{top_size}
use Rattle.bytecode.specs.Code.{Function as CodeFunction, Code, SelectTable}
use Rattle.bytecode.specs.Rules.{Holds, HasShapes}
use Rattle.type_table.specs.Scopes.{Globals}
use Rattle.typing_rules.specs.Files.{BodiesHave, FileHas}
use Rattle.typing_rules.specs.Kinds.{globals_of}
use Rattle.codegen_base.specs.declared.element.Element.{Element}
use Rattle.codegen_base.specs.Program.{noting_any, noting_declared, noting_top, noting_tops, made_function, function_code, functions_code, all_prints, all_selects, elements_of, code_of}
use Rattle.codegen_base.proofs.Noted.{Grows, grows_no, grows_on}
use Rattle.codegen_base.proofs.Typing.{Free}
use Rattle.plan.specs.Plan.{tables, table_count}
use Rattle.plan.proofs.Lists.{following}
use Rattle.plan.proofs.Tables.{all_made, tables_size}
use Rattle.codegen_fine.proofs.Operands.{Grounds}
use Rattle.codegen_fine.proofs.Simples.{Prints}
use Rattle.codegen_base.proofs.Noting.{tops_grow}
use Rattle.codegen_fine.proofs.Bodies.{prints_front, prints_back}
use Rattle.codegen_fine.proofs.Wholes.{IsFine, typed_function}

-- functions keep the rules, and select tables name shapes that are there
pub record AllHold (code : Code) (functions : List CodeFunction) (selects : List SelectTable) : Type 0 where
  pub each : (g : ℕ) (f : CodeFunction) → slice_get functions g ≡ Some f → Holds code f
  pub shapes : All (HasShapes code) selects

hold_more : (code : Code) (f : CodeFunction) (functions : List CodeFunction) (own selects : List SelectTable) → Holds code f → All (HasShapes code) own → AllHold code functions selects → AllHold code (f ∷ functions) (own ++ selects)
hold_more code f functions own selects one shapes others = record { each = each; shapes = All-append (HasShapes code) own selects shapes others.shapes } where
  each : (g : ℕ) (h : CodeFunction) → slice_get (f ∷ functions) g ≡ Some h → Holds code h
  each zero h e = subst (Holds code) (same_Some f h e) one
  each (suc g) h e = others.each g h e

module _ (globals : Globals) (elements : List Element) (code : Code) (grounds : Grounds globals elements code) where
  abbrev pub AllFine : List Top → Type 0
  AllFine [] = Unit {0}
  AllFine (StructTop struct ∷ rest) = AllFine rest
  AllFine (FunctionTop function ∷ rest) = IsFine globals elements code grounds function × AllFine rest

  pub functions_hold : (tops : List Top) (prints selects first : ℕ) → AllFine tops → Free (BodiesHave globals first tops) → (all : List Element) → Grows (noting_tops globals.types tops all) elements → Prints code prints (all_prints globals elements prints selects tops)
      → drop selects code.selects ≡ all_selects globals elements prints selects tops → AllHold code (functions_code globals elements prints selects tops) (all_selects globals elements prints selects tops)
  functions_hold [] prints selects first fine free all grows tables-of selects-of = record { each = λ g f e. absurd cc; shapes = λ k d lt. absurd (omega (arith, lt)) }
  functions_hold (StructTop struct ∷ rest) prints selects first fine free all grows tables-of selects-of =
      functions_hold rest prints selects (first + top_size (StructTop struct)) fine (λ violation h. free violation (inr h)) (noting_top globals.types (StructTop struct) all) grows tables-of selects-of
  functions_hold (FunctionTop function ∷ rest) prints selects first fine free all grows tables-of selects-of =
      let m = made_function globals elements prints selects function in
      let noted = noting_top globals.types (FunctionTop function) all in
      let more = all_prints globals elements (prints + length m.prints) (selects + table_count m.plan) rest in
      let next = all_selects globals elements (prints + length m.prints) (selects + table_count m.plan) rest in
      let left = ap (λ n. drop (selects + n) code.selects) (sym (tables_size m.plan 0)) ∙ following code.selects selects (tables 0 m.plan) next selects-of in
      let one = typed_function globals elements code grounds function fine.0 prints selects first (λ violation h. free violation (inl h)) (noting_any globals.types function.result (noting_declared globals.types function.parameters all))
      (grows_on noted (noting_tops globals.types rest noted) elements (tops_grow globals.types rest noted) grows) (prints_front code prints m.prints more tables-of) next selects-of in
      let others = functions_hold rest (prints + length m.prints) (selects + table_count m.plan) (first + top_size (FunctionTop function)) fine.1 (λ violation h. free violation (inr h)) noted grows (prints_back code prints m.prints more tables-of) left in
      hold_more code (function_code globals elements function m) (functions_code globals elements (prints + length m.prints) (selects + table_count m.plan) rest) (tables 0 m.plan) next one.0 (all_made (HasShapes code) m.plan 0 one.1) others

-- the functions of the code of a file that the checker takes
pub file_functions : (file : File) (grounds : Grounds (globals_of file.tops) (elements_of file) (code_of file)) → AllFine (globals_of file.tops) (elements_of file) (code_of file) grounds file.tops → Free (FileHas file)
    → AllHold (code_of file) (code_of file).functions (code_of file).selects
file_functions file grounds fine free =
    functions_hold (globals_of file.tops) (elements_of file) (code_of file) grounds file.tops 0 0 0 fine (λ violation h. free violation (inr (inr h))) [] (grows_no (elements_of file))
    (λ n x is. let z : 0 + n ≡ n = omega arith in subst (λ k. slice_get (code_of file).prints k ≡ Some x) (sym z) is) refl
