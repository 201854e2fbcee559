-- What is so of the struct types of a file with which nothing is wrong.
use Rattle.std.proofs.Common.{◌≡◌, ℕ, zero, suc, ◌+◌, ◌<◌, Bool, true, false, List, [], ◌∷◌, length, map, Option, Some, None, option_map, refl, sym, subst, slice_get, inl, inr, bytes_eq}
use Rattle.std.specs.Prelude.{if◌then◌else◌}
use Rattle.std.proofs.lemmas.Option.{slice_get_within, same_Some}
use Rattle.std.proofs.lemmas.List.{map-append}
use Rattle.syntax.specs.Tree.{Top, StructTop, FunctionTop, File}
use Rattle.syntax.specs.Measures.{top_size}
use Rattle.bytecode.specs.declared.instr.WordKind.{WordKind}
use Rattle.bytecode.specs.declared.instr.WordKind.TheVariants as kinds
use Rattle.bytecode.specs.Code.{Code}
use Rattle.bytecode.specs.Rules.{IsThere, AreThere}
use Rattle.type_table.specs.Types.{ValueType, IntType, BoolType, StructType, ChannelType}
use Rattle.type_table.specs.Containment.{Field, Selected, fields_in, fields_of, following, variable_words, field_among, kind_parts, fields_parts, parts_within}
use Rattle.type_table.specs.Scopes.{Globals}
use Rattle.typing_rules.specs.Files.{FileHas}
use Rattle.typing_rules.specs.declared.role.Role.TheVariants as roles
use Rattle.typing_rules.specs.Declarations.{StructsHave, counting_struct}
use Rattle.typing_rules.specs.Kinds.{structs_with, globals_of}
use Rattle.meaning.specs.Values.{known}
use Rattle.codegen_base.specs.declared.element.Element.{Element}
use Rattle.codegen_base.specs.Elements.{word_kind, kinds_of, shape_of, shapes_of}
use Rattle.codegen_base.specs.Program.{noting_top, noting_tops, elements_of, code_of}
use Rattle.syntax.specs.Grammar.{FormedTops}
use Rattle.codegen_base.proofs.Fields.{AllWide, AllTyped}
use Rattle.codegen_base.proofs.Known.{FieldsNoted}
use Rattle.codegen_base.proofs.Noted.{Noted, Grows, grows_no, grows_on, shape_there}
use Rattle.codegen_base.proofs.Tables.{fields_known}
use Rattle.codegen_base.proofs.Typing.{Free}
use Rattle.codegen_fine.proofs.Operands.{Grounds}
use Rattle.codegen_fine.proofs.Layouts.{there_append}
use Rattle.codegen_base.proofs.Noting.{tops_grow}
use Rattle.codegen_fine.proofs.Wholes.{ParametersFine}
use Rattle.codegen_fine.proofs.Heads.{groups_fine}
use Rattle.codegen_fine.proofs.Wide.{wide_all, none_endless}
use Rattle.codegen_fine.proofs.Programs.{AllHold}
use Rattle.codegen_fine.proofs.Signatures.{functions_of, file_keeps}

module _ (globals : Globals) (elements : List Element) where
  -- the fields of each struct have types that are known and noted
  structs_fine : (tops : List Top) (number first : ℕ) → Free (StructsHave globals.types number first tops) → (all : List Element) → Grows (noting_tops globals.types tops all) elements → (n : ℕ) → ParametersFine globals elements (fields_in (slice_get (structs_with globals.types tops) n))
  structs_fine [] number first free all g n = tt
  structs_fine (FunctionTop function ∷ rest) number first free all g n = structs_fine rest number (first + top_size (FunctionTop function)) (λ violation h. free violation (inr h)) (noting_top globals.types (FunctionTop function) all) g n
  structs_fine (StructTop struct ∷ rest) number first free all g zero =
      let noted = noting_top globals.types (StructTop struct) all in
      groups_fine globals elements struct.fields roles.Field [] first (λ violation h. free violation (inl (inr (inr (inl h))))) all (grows_on noted (noting_tops globals.types rest noted) elements (tops_grow globals.types rest noted) g)
  structs_fine (StructTop struct ∷ rest) number first free all g (suc n) = structs_fine rest (counting_struct number (StructTop struct)) (first + top_size (StructTop struct)) (λ violation h. free violation (inr h)) (noting_top globals.types (StructTop struct) all) g n

  typed_fields : (fields : List Field) → ParametersFine globals elements fields → AllTyped globals.structs fields
  typed_fields [] fine = tt
  typed_fields (field ∷ rest) fine = (fine.0, typed_fields rest fine.2)

  noted_field : (fields : List Field) → ParametersFine globals elements fields → (m : ℕ) (field : Field) → slice_get fields m ≡ Some field → Noted elements (known field.kind)
  noted_field [] fine m field e = absurd cc
  noted_field (first ∷ rest) fine zero field e = subst (λ (x : Field). Noted elements (known x.kind)) (same_Some first field e) fine.1
  noted_field (first ∷ rest) fine (suc m) field e = noted_field rest fine.2 m field e

  noted_among : (fields : List Field) (name : List ℕ) (at : Selected) → ParametersFine globals elements fields → field_among globals.structs fields name ≡ Some at → Noted elements (known at.kind)
  noted_among [] name at fine e = absurd cc
  noted_among (field ∷ rest) name at fine e = go (bytes_eq field.name name) (field_among globals.structs rest name) e (λ x h. noted_among rest name x fine.2 h) where
    go : (t : Bool) (o : Option Selected) → (if t then Some (record { place = 0; kind = field.kind }) else option_map (following (variable_words globals.structs field.kind)) o) ≡ Some at → ((x : Selected) → o ≡ Some x → Noted elements (known x.kind)) → Noted elements (known at.kind)
    go true o e more = subst (λ (s : Selected). Noted elements (known s.kind)) (same_Some (record { place = 0; kind = field.kind }) at e) fine.1
    go false None e more = absurd cc
    go false (Some x) e more = subst (λ (s : Selected). Noted elements (known s.kind)) (same_Some (following (variable_words globals.structs field.kind) x) at e) (more x refl)

  noted_of : ((n : ℕ) → ParametersFine globals elements (fields_of globals.structs n)) → FieldsNoted elements globals
  noted_of fine IntType name at t e k = absurd cc
  noted_of fine BoolType name at t e k = absurd cc
  noted_of fine (ChannelType d c) name at t e k = absurd cc
  noted_of fine (StructType n) name at t e k = subst (λ o. Noted elements (known o)) k (noted_among (fields_of globals.structs n) name at (fine n) e)

  module _ (code : Code) (shapes : code.shapes ≡ shapes_of globals.structs elements) where
    one_there : (k : WordKind) → IsThere code k → AreThere code (k ∷ [])
    one_there k is zero j e = subst (IsThere code) (same_Some k j e) is
    one_there k is (suc n) j e = absurd cc

    none_there : AreThere code []
    none_there n k e = absurd cc

    -- the kinds of the words of structs name shapes that are there
    kind_there : (inner : ℕ → List ValueType) → ((n : ℕ) → AreThere code (map (word_kind elements) (inner n))) → (o : Option ValueType) (t : ValueType) → o ≡ Some t → Noted elements t → AreThere code (map (word_kind elements) (kind_parts inner o))
    kind_there inner all None t is noted = none_there
    kind_there inner all (Some IntType) t is noted = one_there kinds.Int tt
    kind_there inner all (Some BoolType) t is noted = one_there kinds.Bool tt
    kind_there inner all (Some (StructType n)) t is noted = all n
    kind_there inner all (Some (ChannelType d c)) t is noted =
        let own = subst (Noted elements) (sym (same_Some (ChannelType d c) t is)) noted in
        one_there (kinds.Chan (shape_of elements c)) (subst (λ (l : List (List WordKind)). shape_of elements c < length l) (sym shapes) (slice_get_within (shapes_of globals.structs elements) (shape_of elements c) (kinds_of globals.structs elements c) (shape_there globals.structs elements c own.1)))

    fields_there : (inner : ℕ → List ValueType) → ((n : ℕ) → AreThere code (map (word_kind elements) (inner n))) → (fields : List Field) → ParametersFine globals elements fields → AreThere code (map (word_kind elements) (fields_parts inner fields))
    fields_there inner all [] fine = none_there
    fields_there inner all (field ∷ rest) fine =
        subst (AreThere code) (sym (map-append (word_kind elements) (kind_parts inner field.kind) (fields_parts inner rest)))
        (there_append code (map (word_kind elements) (kind_parts inner field.kind)) (map (word_kind elements) (fields_parts inner rest)) (kind_there inner all field.kind (known field.kind) fine.0 fine.1) (fields_there inner all rest fine.2))

    parts_there : ((n : ℕ) → ParametersFine globals elements (fields_of globals.structs n)) → (deep n : ℕ) → AreThere code (map (word_kind elements) (parts_within globals.structs deep n))
    parts_there fine zero n = none_there
    parts_there fine (suc deep) n = fields_there (parts_within globals.structs deep) (parts_there fine deep) (fields_of globals.structs n) (fine n)

-- ---- files with which nothing is wrong

fields_fine : (file : File) → Free (FileHas file) → (n : ℕ) → ParametersFine (globals_of file.tops) (elements_of file) (fields_of (globals_of file.tops).structs n)
fields_fine file free = structs_fine (globals_of file.tops) (elements_of file) file.tops 0 0 (λ violation h. free violation (inl (inl (inl h)))) [] (grows_no (elements_of file))

-- the types of all fields are known
fields_typed : (file : File) → Free (FileHas file) → (n : ℕ) → AllTyped (globals_of file.tops).structs (fields_of (globals_of file.tops).structs n)
fields_typed file free n = typed_fields (globals_of file.tops) (elements_of file) (fields_of (globals_of file.tops).structs n) (fields_fine file free n)

-- the words of each struct are known
pub wide_of : (file : File) → Free (FileHas file) → AllWide (globals_of file.tops).structs
wide_of file free = wide_all (globals_of file.tops).structs (fields_typed file free) (none_endless file free)

-- what is required of a file's code
pub grounds_of : (file : File) → Free (FileHas file) → Grounds (globals_of file.tops) (elements_of file) (code_of file)
grounds_of file free =
    let globals = globals_of file.tops in
    let elements = elements_of file in
    let fine = fields_fine file free in
    let functions = functions_of file free in
    record {
      wide = wide_of file free;
      typed = fields_typed file free;
      types_known = record { fields = fields_known globals.structs (fields_typed file free); results = λ n kind e. (known kind, functions.result_known n kind e) };
      fields_noted = noted_of globals elements fine;
      results_noted = λ n t e. functions.result_noted n (Some t) e;
      literals_noted = λ n m field e. noted_field globals elements (fields_of globals.structs n) (fine n) m field e;
      shapes = refl;
      structs_there = λ n. parts_there globals elements (code_of file) refl fine (suc (length globals.structs)) n;
      functions = functions;
    }

-- the functions of the code of a file that the checker takes, if no post statement declares anything
pub file_verified : (file : File) → FormedTops file.tops → Free (FileHas file) → AllHold (code_of file) (code_of file).functions (code_of file).selects
file_verified file still free = file_keeps file (grounds_of file free) still free
