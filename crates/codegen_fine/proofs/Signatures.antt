-- The functions of the code of a file have the kinds of the parameters and results that the file declares.
use Rattle.std.proofs.Common.{◌≡◌, ℕ, zero, suc, ◌+◌, ◌<◌, Bool, true, false, List, [], ◌∷◌, ◌++◌, length, take, map, Option, Some, None, option_map, refl, sym, ap, ◌∙◌, arith, slice_get, append_assoc, inl, inr, bytes_eq}
use Rattle.std.specs.Prelude.{if◌then◌else◌}
use Rattle.std.proofs.Math.Seq.{take-append_seam}
use Rattle.std.proofs.lemmas.Option.{same_Some}
use Rattle.std.proofs.lemmas.List.{append-nil}
use Rattle.syntax.specs.Tree.{Function, Top, StructTop, FunctionTop, File}
use Rattle.syntax.specs.Measures.{top_size}
use Rattle.bytecode.specs.Code.{Function as CodeFunction}
use Rattle.bytecode.specs.Effects.{params_in, results_in}
use Rattle.type_table.specs.Types.{ValueType}
use Rattle.type_table.specs.Containment.{Field}
use Rattle.type_table.specs.Scopes.{Globals, Signature, Yields, function_number}
use Rattle.typing_rules.specs.Files.{FileHas}
use Rattle.typing_rules.specs.declared.role.Role.TheVariants as roles
use Rattle.typing_rules.specs.Declarations.{HeadersHave, counting_function}
use Rattle.typing_rules.specs.Kinds.{fields_declared, kinds_in, signatures, function_names, globals_of}
use Rattle.typing_rules.specs.Calls.{parameters_in, result_in}
use Rattle.meaning.specs.Values.{known}
use Rattle.codegen_base.specs.declared.element.Element.{Element}
use Rattle.codegen_base.specs.Elements.{kinds_of}
use Rattle.codegen_base.specs.Layouts.{Layout, declaring, with_parameters}
use Rattle.codegen_base.specs.Pushes.{pushes_zeros}
use Rattle.codegen_base.specs.Program.{noting_any, noting_declared, noting_statements, noting_top, noting_tops, result_of, first_layout, made_function, function_code, functions_code, elements_of, code_of}
use Rattle.codegen_base.specs.Generated.{Site, made_of, made_all, result_kinds}
use Rattle.syntax.specs.Grammar.{FormedTops}
use Rattle.codegen_base.proofs.Called.{KindsKnown}
use Rattle.codegen_base.proofs.Noted.{Noted, Grows, grows_no, grows_on}
use Rattle.codegen_base.proofs.Typing.{Free}
use Rattle.plan.specs.Plan.{Stop, table_count}
use Rattle.codegen_fine.proofs.Operands.{all_kinds, AllNoted, Functions, Grounds}
use Rattle.codegen_fine.proofs.Layouts.{longer_no}
use Rattle.codegen_fine.proofs.Growing.{longer_statements, longer_unless}
use Rattle.codegen_base.proofs.Noting.{any_grows, statements_grow, tops_grow}
use Rattle.codegen_fine.proofs.Wholes.{ParametersFine}
use Rattle.codegen_fine.proofs.Heads.{groups_fine, result_fine, file_holds}
use Rattle.codegen_fine.proofs.Programs.{AllHold}

number_within : (fs : List Signature) (name : List ℕ) (n : ℕ) → function_number fs name ≡ Some n → n < length fs
number_within [] name n e = absurd cc
number_within (f ∷ fs) name n e = go (bytes_eq f.name name) (function_number fs name) e (λ m h. number_within fs name m h) where
  go : (t : Bool) (o : Option ℕ) → (if t then Some 0 else option_map suc o) ≡ Some n → ((m : ℕ) → o ≡ Some m → m < length fs) → n < suc (length fs)
  go true o e more = let z = same_Some 0 n e in omega (arith, z)
  go false None e more = absurd cc
  go false (Some m) e more = let z = same_Some (suc m) n e in let l = more m refl in omega (arith, z, l)

module _ (globals : Globals) (elements : List Element) where
  -- the locals of parameters
  pub parameters_locals : (fields : List Field) (layout : Layout) → (with_parameters globals elements fields layout).locals ≡ layout.locals ++ all_kinds globals.structs elements (map known (kinds_in fields))
  parameters_locals [] layout = sym (append-nil layout.locals)
  parameters_locals (field ∷ rest) layout =
      parameters_locals rest (declaring globals elements (known field.kind) field.name layout) ∙ append_assoc layout.locals (kinds_of globals.structs elements (known field.kind)) (all_kinds globals.structs elements (map known (kinds_in rest)))

  all_noted : (fields : List Field) → ParametersFine globals elements fields → AllNoted elements (map known (kinds_in fields))
  all_noted [] fine = tt
  all_noted (field ∷ rest) fine = (fine.1, all_noted rest fine.2)

  all_known : (fields : List Field) → ParametersFine globals elements fields → KindsKnown (kinds_in fields)
  all_known [] fine = tt
  all_known (field ∷ rest) fine = (fine.0, all_known rest fine.2)

  -- a function of the code, and what the file declares of it
  record HeadAt (o : Option CodeFunction) (s : Option Signature) : Type 0 where
    params : params_in o ≡ all_kinds globals.structs elements (map known (parameters_in s))
    results : results_in o ≡ result_kinds globals elements (result_in s)
    noted : AllNoted elements (map known (parameters_in s))
    kinds_known : KindsKnown (parameters_in s)
    result_known : (kind : Option ValueType) → result_in s ≡ Yields kind → (kind ≡ Some (known kind)) × Noted elements (known kind)

  first_locals : (function : Function) (prints selects : ℕ) → params_in (Some (function_code globals elements function (made_function globals elements prints selects function))) ≡ all_kinds globals.structs elements (map known (kinds_in (fields_declared globals.types function.parameters)))
  first_locals function prints selects =
      let m = made_function globals elements prints selects function in
      let result = result_of globals elements function in
      let start = first_layout globals elements function in
      let site : Site = record { layout = start; prints = prints; selects = selects } in
      let body = made_all globals elements result site function.body in
      let longer = longer_unless globals elements result body (made_of (pushes_zeros (result_kinds globals elements result) Stop) [] body.layout) start (longer_statements globals elements result site function.body) (longer_no body.layout) in
      ap (take (length start.locals)) longer.is ∙ take-append_seam start.locals longer.more ∙ parameters_locals (fields_declared globals.types function.parameters) _

  heads_are : (tops : List Top) (names : List (List ℕ)) (number first prints selects : ℕ) → Free (HeadersHave globals.types names number first tops) → (all : List Element) → Grows (noting_tops globals.types tops all) elements → (n : ℕ)
      → HeadAt (slice_get (functions_code globals elements prints selects tops) n) (slice_get (signatures globals.types tops) n)
  heads_are [] names number first prints selects free all g n = record { params = refl; results = refl; noted = tt; kinds_known = tt; result_known = λ kind e. absurd cc }
  heads_are (StructTop struct ∷ rest) names number first prints selects free all g n = heads_are rest names number (first + top_size (StructTop struct)) prints selects (λ violation h. free violation (inr h)) (noting_top globals.types (StructTop struct) all) g n
  heads_are (FunctionTop function ∷ rest) names number first prints selects free all g (suc n) =
      let m = made_function globals elements prints selects function in
      heads_are rest names (counting_function number (FunctionTop function)) (first + top_size (FunctionTop function)) (prints + length m.prints) (selects + table_count m.plan) (λ violation h. free violation (inr h)) (noting_top globals.types (FunctionTop function) all) g n
  heads_are (FunctionTop function ∷ rest) names number first prints selects free all g zero =
      let one = noting_declared globals.types function.parameters all in
      let two = noting_any globals.types function.result one in
      let three = noting_statements globals.types function.body two in
      let g2 = grows_on two three elements (statements_grow globals.types function.body two) (grows_on three (noting_tops globals.types rest three) elements (tops_grow globals.types rest three) g) in
      let g1 = grows_on one two elements (any_grows globals.types function.result one) g2 in
      let fields = fields_declared globals.types function.parameters in
      let fine = groups_fine globals elements function.parameters roles.Parameter [] first (λ violation h. free violation (inl (inr (inr (inl h))))) all g1 in
      record {
        params = first_locals function prints selects;
        results = refl;
        noted = all_noted fields fine;
        kinds_known = all_known fields fine;
        result_known = result_fine globals elements function.result _ (λ violation h. free violation (inl (inr (inr (inr h))))) one g2;
      }

  many_functions : (tops : List Top) (prints selects : ℕ) → length (functions_code globals elements prints selects tops) ≡ length (signatures globals.types tops)
  many_functions [] prints selects = refl
  many_functions (StructTop struct ∷ rest) prints selects = many_functions rest prints selects
  many_functions (FunctionTop function ∷ rest) prints selects = let m = made_function globals elements prints selects function in ap suc (many_functions rest (prints + length m.prints) (selects + table_count m.plan))

-- what is required of the functions of a file's code
pub functions_of : (file : File) → Free (FileHas file) → Functions (globals_of file.tops) (elements_of file) (code_of file)
functions_of file free =
    let globals = globals_of file.tops in
    let elements = elements_of file in
    record {
      there = λ name n is. let l = number_within globals.functions name n is in let m = many_functions globals elements file.tops 0 0 in omega (arith, l, m);
      params = λ n. (at n).params;
      results = λ n. (at n).results;
      noted = λ n. (at n).noted;
      known_kinds = λ n. (at n).kinds_known;
      result_known = λ n kind e. ((at n).result_known kind e).0;
      result_noted = λ n kind e. ((at n).result_known kind e).1;
    } where
      at : (n : ℕ) → HeadAt (globals_of file.tops) (elements_of file) (slice_get (code_of file).functions n) (slice_get (globals_of file.tops).functions n)
      at n = heads_are (globals_of file.tops) (elements_of file) file.tops (function_names file.tops) 0 0 0 0 (λ violation h. free violation (inl (inr h))) [] (grows_no (elements_of file)) n

-- the functions of the code of a file that the checker takes, no post statement of which declares anything
pub file_keeps : (file : File) → Grounds (globals_of file.tops) (elements_of file) (code_of file) → FormedTops file.tops → Free (FileHas file) → AllHold (code_of file) (code_of file).functions (code_of file).selects
file_keeps file grounds still free = file_holds file grounds still free
