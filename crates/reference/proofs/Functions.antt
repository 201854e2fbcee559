-- How many functions a file declares, and the values of their parameters.
use Rattle.std.proofs.Common.{◌≡◌, ℕ, suc, ◌<◌, ◌≤◌, ◌^◌, List, [], ◌∷◌, map, length, take, drop, sum_by, refl, ap, arith}
use Rattle.std.proofs.lemmas.List.{length-map}
use Rattle.std.proofs.lemmas.List.Sums.{sum_by-cons}
use Rattle.syntax.specs.Measures.{size, top_size}
use Rattle.syntax.specs.Tree.{File, StructTop, FunctionTop, Top}
use Rattle.type_table.specs.Containment.{Field}
use Rattle.type_table.specs.Scopes.{Globals}
use Rattle.type_table.specs.Views.{signature_of}
use Rattle.type_table.specs.Visible.{globals_in, types_of}
use Rattle.type_table.specs.declared.table.TypeTable.{TypeTable}
use Rattle.typing_rules.specs.Kinds.{globals_of, signatures, type_names}
use Rattle.meaning.specs.Source.{globals, split, zero_of}
use Rattle.meaning.specs.Values.{known}
use Rattle.word.specs.declared.value.Word.{Word}
use Rattle.reference.specs.Calls.{settled}

-- a function is a node at least
nodes_of_functions : (types : List (List ℕ)) (tops : List Top) → length (signatures types tops) ≤ sum_by top_size tops
nodes_of_functions types [] = omega arith
nodes_of_functions types (StructTop struct ∷ rest) =
    let none : length (signatures types (StructTop struct ∷ rest)) ≡ length (signatures types rest) = refl in
    omega (arith, sum_by-cons top_size (StructTop struct) rest, nodes_of_functions types rest)
nodes_of_functions types (FunctionTop function ∷ rest) =
    let one : length (signatures types (FunctionTop function ∷ rest)) ≡ suc (length (signatures types rest)) = refl in
    omega (arith, sum_by-cons top_size (FunctionTop function) rest, nodes_of_functions types rest)

-- a file with fewer than 2^32 nodes declares fewer than 2^32 functions
pub few_functions : (table : TypeTable) (file : File) → globals_in table ≡ globals_of file.tops → size file < 2 ^ 32 → length table.functions.items < 2 ^ 32
few_functions table file same small =
    omega (arith, length-map table.functions.items (signature_of (types_of table)), ap (λ (g : Globals). length g.functions) same, nodes_of_functions (type_names file.tops) file.tops)

-- a parameter's value has the width of the type that is known
pub split_settled : (file : File) (fields : List Field) (words : List Word) → split file (map settled fields) words ≡ split file fields words
split_settled file [] words = refl
split_settled file (field ∷ rest) words =
    let n = length (zero_of (globals file) (known field.kind)) in ap (λ more. take n words ∷ more) (split_settled file rest (drop n words))
