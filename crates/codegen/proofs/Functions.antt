-- Functions, whose code and tables are appended.
use Rattle.std.proofs.Common.{◌≡◌, ◌+◌, List, [], ◌∷◌, ◌++◌, length, ap, ◌∙◌, append_assoc, length-append}
use Rattle.syntax.specs.Tree.{Function, Top, FunctionTop}
use Rattle.bytecode.specs.declared.instr.WordKind.{WordKind}
use Rattle.bytecode.specs.Code.{Function as CodeFunction, PrintTable, SelectTable}
use Rattle.type_table.specs.Scopes.{Globals}
use Rattle.codegen_base.specs.declared.element.Element.{Element}
use Rattle.codegen_base.specs.Elements.{shapes_of}
use Rattle.codegen_base.specs.Generated.{Made}
use Rattle.codegen_base.specs.Program.{all_prints, all_selects, function_code, functions_code, made_function}
use Rattle.plan.specs.Plan.{table_count, tables}
use Rattle.plan.proofs.Tables.{tables_size}
use Rattle.codegen.specs.Codes.{code_with}

module _ (globals : Globals) (elements : List Element) (function : Function) (rest : List Top) (p0 p1 : List PrintTable) (s0 s1 : List SelectTable)
    (prints : p1 ≡ p0 ++ (made_function globals elements (length p0) (length s0) function).prints) (selects : s1 ≡ s0 ++ tables 0 (made_function globals elements (length p0) (length s0) function).plan) where
  abbrev one : Made
  one = made_function globals elements (length p0) (length s0) function

  more_prints : length p1 ≡ length p0 + length one.prints
  more_prints = ap length prints ∙ length-append p0 one.prints

  more_selects : length s1 ≡ length s0 + table_count one.plan
  more_selects = ap length selects ∙ length-append s0 (tables 0 one.plan) ∙ ap (λ n. length s0 + n) (tables_size one.plan 0)

  pub functions_put : (code : CodeFunction) (f0 f1 : List CodeFunction) → code ≡ function_code globals elements function one → f1 ≡ f0 ++ code ∷ []
      → f1 ++ functions_code globals elements (length p1) (length s1) rest ≡ f0 ++ functions_code globals elements (length p0) (length s0) (FunctionTop function ∷ rest)
  functions_put code f0 f1 is put =
      ap (λ l. l ++ functions_code globals elements (length p1) (length s1) rest) put
      ∙ append_assoc f0 (code ∷ []) (functions_code globals elements (length p1) (length s1) rest)
      ∙ ap (λ c. f0 ++ (c ∷ functions_code globals elements (length p1) (length s1) rest)) is
      ∙ ap (λ n. f0 ++ (function_code globals elements function one ∷ functions_code globals elements n (length s1) rest)) more_prints
      ∙ ap (λ n. f0 ++ (function_code globals elements function one ∷ functions_code globals elements (length p0 + length one.prints) n rest)) more_selects

  pub prints_put : p1 ++ all_prints globals elements (length p1) (length s1) rest ≡ p0 ++ all_prints globals elements (length p0) (length s0) (FunctionTop function ∷ rest)
  prints_put =
      ap (λ l. l ++ all_prints globals elements (length p1) (length s1) rest) prints
      ∙ append_assoc p0 one.prints (all_prints globals elements (length p1) (length s1) rest)
      ∙ ap (λ n. p0 ++ (one.prints ++ all_prints globals elements n (length s1) rest)) more_prints
      ∙ ap (λ n. p0 ++ (one.prints ++ all_prints globals elements (length p0 + length one.prints) n rest)) more_selects

  pub selects_put : s1 ++ all_selects globals elements (length p1) (length s1) rest ≡ s0 ++ all_selects globals elements (length p0) (length s0) (FunctionTop function ∷ rest)
  selects_put =
      ap (λ l. l ++ all_selects globals elements (length p1) (length s1) rest) selects
      ∙ append_assoc s0 (tables 0 one.plan) (all_selects globals elements (length p1) (length s1) rest)
      ∙ ap (λ n. s0 ++ (tables 0 one.plan ++ all_selects globals elements n (length s1) rest)) more_prints
      ∙ ap (λ n. s0 ++ (tables 0 one.plan ++ all_selects globals elements (length p0 + length one.prints) n rest)) more_selects

-- the functions and tables that were appended to none are those of the file
pub code_made : (globals : Globals) (elements noted : List Element) (tops : List Top) (f0 f1 : List CodeFunction) (p0 p1 : List PrintTable) (s0 s1 : List SelectTable) (shapes : List (List WordKind))
    → elements ≡ noted → shapes ≡ shapes_of globals.structs elements → f0 ≡ [] → p0 ≡ [] → s0 ≡ []
    → f1 ≡ f0 ++ functions_code globals elements (length p0) (length s0) tops → p1 ≡ p0 ++ all_prints globals elements (length p0) (length s0) tops → s1 ≡ s0 ++ all_selects globals elements (length p0) (length s0) tops
    → record { functions = f1; shapes = shapes; prints = p1; selects = s1 } ≡ code_with globals noted tops
code_made globals elements noted tops f0 f1 p0 p1 s0 s1 shapes same shaped no_function no_print no_select functions prints selects =
    let zero_prints : length p0 ≡ 0 = ap length no_print in
    let zero_selects : length s0 ≡ 0 = ap length no_select in
    let fs : f1 ≡ functions_code globals elements 0 0 tops =
    functions ∙ ap (λ l. l ++ functions_code globals elements (length p0) (length s0) tops) no_function ∙ ap (λ n. functions_code globals elements n (length s0) tops) zero_prints ∙ ap (λ n. functions_code globals elements 0 n tops) zero_selects in
    let ps : p1 ≡ all_prints globals elements 0 0 tops =
    prints ∙ ap (λ l. l ++ all_prints globals elements (length p0) (length s0) tops) no_print ∙ ap (λ n. all_prints globals elements n (length s0) tops) zero_prints ∙ ap (λ n. all_prints globals elements 0 n tops) zero_selects in
    let ss : s1 ≡ all_selects globals elements 0 0 tops =
    selects ∙ ap (λ l. l ++ all_selects globals elements (length p0) (length s0) tops) no_select ∙ ap (λ n. all_selects globals elements n (length s0) tops) zero_prints ∙ ap (λ n. all_selects globals elements 0 n tops) zero_selects in
    let with_functions : record { functions = f1; shapes = shapes; prints = p1; selects = s1 } ≡ record { functions = functions_code globals elements 0 0 tops; shapes = shapes; prints = p1; selects = s1 } = ap (λ x. record { functions = x; shapes = shapes; prints = p1; selects = s1 }) fs in
    let with_shapes : record { functions = functions_code globals elements 0 0 tops; shapes = shapes; prints = p1; selects = s1 } ≡ record { functions = functions_code globals elements 0 0 tops; shapes = shapes_of globals.structs elements; prints = p1; selects = s1 } =
    ap (λ x. record { functions = functions_code globals elements 0 0 tops; shapes = x; prints = p1; selects = s1 }) shaped in
    let with_prints : record { functions = functions_code globals elements 0 0 tops; shapes = shapes_of globals.structs elements; prints = p1; selects = s1 } ≡ record { functions = functions_code globals elements 0 0 tops; shapes = shapes_of globals.structs elements; prints = all_prints globals elements 0 0 tops; selects = s1 } =
    ap (λ x. record { functions = functions_code globals elements 0 0 tops; shapes = shapes_of globals.structs elements; prints = x; selects = s1 }) ps in
    let with_all : record { functions = functions_code globals elements 0 0 tops; shapes = shapes_of globals.structs elements; prints = all_prints globals elements 0 0 tops; selects = s1 } ≡ code_with globals elements tops =
    ap (λ x. record { functions = functions_code globals elements 0 0 tops; shapes = shapes_of globals.structs elements; prints = all_prints globals elements 0 0 tops; selects = x }) ss in
    with_functions ∙ with_shapes ∙ with_prints ∙ with_all ∙ ap (λ es. code_with globals es tops) same
