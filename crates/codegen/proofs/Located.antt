-- Each function of a file has its code, its signature and its tables.
use Rattle.std.proofs.Common.{◌≡◌, ℕ, zero, suc, ◌+◌, ◌<◌, List, [], ◌∷◌, ◌++◌, length, drop, Option, Some, refl, sym, ap, ◌∙◌, subst, arith, slice_get, inl, inr}
use Rattle.syntax.specs.Tree.{Function, Top, StructTop, FunctionTop, File}
use Rattle.syntax.specs.Measures.{top_size}
use Rattle.bytecode.specs.Code.{Function as CodeFunction, Code, SelectTable}
use Rattle.type_table.specs.Scopes.{Globals, Signature}
use Rattle.typing_rules.specs.Files.{BodyHas, BodiesHave, FileHas}
use Rattle.typing_rules.specs.Kinds.{signature, signatures, function_names, globals_of}
use Rattle.meaning.specs.Destinations.{functions_in}
use Rattle.codegen_base.specs.declared.element.Element.{Element}
use Rattle.codegen_base.specs.Program.{noting_any, noting_declared, noting_statements, noting_top, noting_tops, made_function, function_code, functions_code, all_prints, all_selects, elements_of, code_of}
use Rattle.codegen_base.proofs.Noted.{Grows, grows_no, grows_on}
use Rattle.codegen_base.proofs.Typing.{Free}
use Rattle.plan.specs.Plan.{tables, table_count}
use Rattle.plan.proofs.Lists.{following}
use Rattle.plan.proofs.Tables.{tables_size}
use Rattle.codegen_fine.proofs.Operands.{Grounds}
use Rattle.codegen_fine.proofs.Simples.{Prints}
use Rattle.codegen_base.proofs.Noting.{tops_grow}
use Rattle.codegen_fine.proofs.Bodies.{prints_front, prints_back}
use Rattle.codegen_fine.proofs.Wholes.{IsFine}
use Rattle.codegen_fine.proofs.Programs.{AllFine}
use Rattle.syntax.specs.Grammar.{FormedTops}
use Rattle.codegen_fine.proofs.Heads.{all_fine}
use Rattle.codegen_fine.proofs.Structs.{grounds_of}

module _ (globals : Globals) (elements : List Element) (code : Code) (grounds : Grounds globals elements code) where
  -- a function of the source with which nothing is wrong, its code, and the numbers of its tables
  pub record Located (source : Option Function) (made : Option CodeFunction) (head : Option Signature) : Type 0 where
    pub function : Function
    pub prints : ℕ
    pub selects : ℕ
    pub first : ℕ
    pub some : List Element
    pub rest : List SelectTable
    pub source_is : source ≡ Some function
    pub made_is : made ≡ Some (function_code globals elements function (made_function globals elements prints selects function))
    pub head_is : head ≡ Some (signature globals.types function)
    pub fine : IsFine globals elements code grounds function
    pub free : Free (BodyHas globals first function)
    pub grows : Grows (noting_statements globals.types function.body some) elements
    pub tables_are : Prints code prints (made_function globals elements prints selects function).prints
    pub selects_are : drop selects code.selects ≡ tables 0 (made_function globals elements prints selects function).plan ++ rest

  all_located : (tops : List Top) (prints selects first : ℕ) → AllFine globals elements code grounds tops → Free (BodiesHave globals first tops) → (all : List Element) → Grows (noting_tops globals.types tops all) elements → Prints code prints (all_prints globals elements prints selects tops)
      → drop selects code.selects ≡ all_selects globals elements prints selects tops → (n : ℕ) → n < length (functions_code globals elements prints selects tops)
      → Located (slice_get (functions_in tops) n) (slice_get (functions_code globals elements prints selects tops) n) (slice_get (signatures globals.types tops) n)
  all_located [] prints selects first fine free all grows tables-of selects-of n lt = absurd (omega (arith, lt))
  all_located (StructTop struct ∷ rest) prints selects first fine free all grows tables-of selects-of n lt =
      all_located rest prints selects (first + top_size (StructTop struct)) fine (λ violation h. free violation (inr h)) (noting_top globals.types (StructTop struct) all) grows tables-of selects-of n lt
  all_located (FunctionTop function ∷ rest) prints selects first fine free all grows tables-of selects-of zero lt =
      let m = made_function globals elements prints selects function in
      let noted = noting_top globals.types (FunctionTop function) all in
      record {
        function = function;
        prints = prints;
        selects = selects;
        first = first;
        some = noting_any globals.types function.result (noting_declared globals.types function.parameters all);
        rest = all_selects globals elements (prints + length m.prints) (selects + table_count m.plan) rest;
        source_is = refl;
        made_is = refl;
        head_is = refl;
        fine = fine.0;
        free = λ violation h. free violation (inl h);
        grows = grows_on noted (noting_tops globals.types rest noted) elements (tops_grow globals.types rest noted) grows;
        tables_are = prints_front code prints m.prints (all_prints globals elements (prints + length m.prints) (selects + table_count m.plan) rest) tables-of;
        selects_are = selects-of;
      }
  all_located (FunctionTop function ∷ rest) prints selects first fine free all grows tables-of selects-of (suc n) lt =
      let m = made_function globals elements prints selects function in
      let more = all_prints globals elements (prints + length m.prints) (selects + table_count m.plan) rest in
      let next = all_selects globals elements (prints + length m.prints) (selects + table_count m.plan) rest in
      let left = ap (λ n. drop (selects + n) code.selects) (sym (tables_size m.plan 0)) ∙ following code.selects selects (tables 0 m.plan) next selects-of in
      all_located rest (prints + length m.prints) (selects + table_count m.plan) (first + top_size (FunctionTop function)) fine.1 (λ violation h. free violation (inr h)) (noting_top globals.types (FunctionTop function) all) grows
      (prints_back code prints m.prints more tables-of) left n (omega (arith, lt))

-- each function of a file that the checker takes
pub located : (file : File) (free : Free (FileHas file)) → FormedTops file.tops → (n : ℕ) → n < length (code_of file).functions
    → Located (globals_of file.tops) (elements_of file) (code_of file) (grounds_of file free) (slice_get (functions_in file.tops) n) (slice_get (code_of file).functions n) (slice_get (globals_of file.tops).functions n)
located file free still n lt =
    let globals = globals_of file.tops in
    let elements = elements_of file in
    let grounds = grounds_of file free in
    all_located globals elements (code_of file) grounds file.tops 0 0 0 (all_fine globals elements (code_of file) grounds file.tops (function_names file.tops) 0 0 (λ violation h. free violation (inl (inr h))) still [] (grows_no elements)) (λ violation h. free violation (inr (inr h))) [] (grows_no elements)
    (λ n x is. let z : 0 + n ≡ n = omega arith in subst (λ k. slice_get (code_of file).prints k ≡ Some x) (sym z) is) refl n lt
