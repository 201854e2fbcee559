-- What is so of the heads of functions in a file with which nothing is wrong.
use Rattle.std.proofs.Common.{◌≡◌, ℕ, ◌+◌, List, [], ◌∷◌, ◌++◌, Option, Some, None, refl, sym, ap, ◌∙◌, subst, inl, inr}
use Rattle.syntax.specs.Tree.{TypeExpression, Declared, Top, StructTop, FunctionTop, File}
use Rattle.syntax.specs.Measures.{declared_size, top_size}
use Rattle.bytecode.specs.Code.{Code}
use Rattle.type_table.specs.Types.{ValueType}
use Rattle.type_table.specs.Containment.{Field}
use Rattle.type_table.specs.Scopes.{Globals, Yield, NoResult, Yields, nothing_declared, type_in}
use Rattle.typing_rules.specs.Files.{FileHas}
use Rattle.typing_rules.specs.declared.role.Role.{Role}
use Rattle.typing_rules.specs.declared.role.Role.TheVariants as roles
use Rattle.typing_rules.specs.Declarations.{GroupsHave, IfTypeHas, HeadersHave, counting_function}
use Rattle.typing_rules.specs.Kinds.{all_fields, fields_declared, yield_of, function_names, globals_of}
use Rattle.meaning.specs.Values.{known}
use Rattle.codegen_base.specs.declared.element.Element.{Element}
use Rattle.codegen_base.specs.Program.{noting, noting_any, noting_declared, noting_statements, noting_top, noting_tops, elements_of, code_of}
use Rattle.syntax.specs.Grammar.{FormedTops}
use Rattle.codegen_base.proofs.Noted.{Noted, Grows, grows_no, grows_on}
use Rattle.codegen_base.proofs.Typing.{Free}
use Rattle.codegen_fine.proofs.Operands.{Grounds}
use Rattle.codegen_fine.proofs.Makes.{written as there, written_noted}
use Rattle.codegen_base.proofs.Making.{kind_noted}
use Rattle.codegen_base.proofs.Noting.{declared_grow, any_grows, statements_grow, tops_grow}
use Rattle.codegen_fine.proofs.Wholes.{ParametersFine}
use Rattle.codegen_fine.proofs.Programs.{AllFine, AllHold, file_functions}

abbrev yielded : Yield → Option ValueType → Option ValueType
yielded NoResult other = other
yielded (Yields kind) other = kind

module _ (globals : Globals) (elements : List Element) where
  names_fine : (o : Option ValueType) (t : ValueType) → o ≡ Some t → Noted elements t → (names : List (List ℕ)) (rest : List Field) → ParametersFine globals elements rest → ParametersFine globals elements (all_fields o names ++ rest)
  names_fine o t is noted [] rest fine = fine
  names_fine o t is noted (name ∷ names) rest fine = (is ∙ ap Some (sym (ap known is)), subst (Noted elements) (sym (ap known is)) noted, names_fine o t is noted names rest fine)

  -- declared groups have types that are known and noted
  pub groups_fine : (groups : List Declared) (role : Role) (before : List (List ℕ)) (first : ℕ) → Free (GroupsHave role globals.types before first groups) → (all : List Element) → Grows (noting_declared globals.types groups all) elements → ParametersFine globals elements (fields_declared globals.types groups)
  groups_fine [] role before first free all g = tt
  groups_fine (group ∷ rest) role before first free all g =
      let (t, is) = there globals.types nothing_declared group.type_expression first (λ violation h. free violation (inl (inr h))) in
      let one = noting globals.types group.type_expression all in
      let noted = written_noted globals.types elements nothing_declared group.type_expression t (kind_noted globals elements group.type_expression all (grows_on one (noting_declared globals.types rest one) elements (declared_grow globals.types rest one) g)) is in
      names_fine (type_in globals.types nothing_declared group.type_expression) t is noted group.names (fields_declared globals.types rest) (groups_fine rest role (before ++ group.names) (first + declared_size group) (λ violation h. free violation (inr h)) one g)

  -- a result's type is known and noted
  pub result_fine : (result : Option TypeExpression) (first : ℕ) → Free (IfTypeHas globals.types result first) → (all : List Element) → Grows (noting_any globals.types result all) elements → (kind : Option ValueType) → yield_of globals.types result ≡ Yields kind → (kind ≡ Some (known kind)) × Noted elements (known kind)
  result_fine None first free all g kind e = absurd cc
  result_fine (Some written) first free all g kind e =
      let (t, is) = there globals.types nothing_declared written first free in
      let same : Some t ≡ kind = sym is ∙ ap (λ y. yielded y None) e in
      subst (λ o. (o ≡ Some (known o)) × Noted elements (known o)) same (refl, written_noted globals.types elements nothing_declared written t (kind_noted globals elements written all g) is)

  module _ (code : Code) (grounds : Grounds globals elements code) where
    pub all_fine : (tops : List Top) (names : List (List ℕ)) (number first : ℕ) → Free (HeadersHave globals.types names number first tops) → FormedTops tops → (all : List Element) → Grows (noting_tops globals.types tops all) elements → AllFine globals elements code grounds tops
    all_fine [] names number first free still all g = tt
    all_fine (StructTop struct ∷ rest) names number first free still all g = all_fine rest names number (first + top_size (StructTop struct)) (λ violation h. free violation (inr h)) still (noting_top globals.types (StructTop struct) all) g
    all_fine (FunctionTop function ∷ rest) names number first free still all g =
        let one = noting_declared globals.types function.parameters all in
        let two = noting_any globals.types function.result one in
        let three = noting_statements globals.types function.body two in
        let g3 = grows_on three (noting_tops globals.types rest three) elements (tops_grow globals.types rest three) g in
        let g2 = grows_on two three elements (statements_grow globals.types function.body two) g3 in
        let g1 = grows_on one two elements (any_grows globals.types function.result one) g2 in
        let result = result_fine function.result _ (λ violation h. free violation (inl (inr (inr (inr h))))) one g2 in (
          record {
            takes = groups_fine function.parameters roles.Parameter [] first (λ violation h. free violation (inl (inr (inr (inl h))))) all g1;
            known_kind = λ kind e. (result kind e).0;
            noted = λ kind e. (result kind e).1;
            still = still.0;
          },
          all_fine rest names (counting_function number (FunctionTop function)) (first + top_size (FunctionTop function)) (λ violation h. free violation (inr h)) still.1 three g,
        )

-- the functions of the code of a file that the checker takes, no post statement of which declares anything
pub file_holds : (file : File) → Grounds (globals_of file.tops) (elements_of file) (code_of file) → FormedTops file.tops → Free (FileHas file)
    → AllHold (code_of file) (code_of file).functions (code_of file).selects
file_holds file grounds still free =
    file_functions file grounds
    (all_fine (globals_of file.tops) (elements_of file) (code_of file) grounds file.tops (function_names file.tops) 0 0 (λ violation h. free violation (inl (inr h))) still [] (grows_no (elements_of file))) free
