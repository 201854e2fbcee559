-- What a table of types shows of the struct types of a file.
use Rattle.std.proofs.Common.{◌≡◌, ℕ, zero, suc, Bool, true, false, List, [], ◌∷◌, map, Option, Some, None, option_map, refl, sym, ap, ◌∙◌, slice_get, bytes_eq}
use Rattle.std.specs.Prelude.{get_or, if◌then◌else◌}
use Rattle.std.proofs.lemmas.Option.{same_Some}
use Rattle.type_table.specs.declared.entry.FieldEntry.{FieldEntry}
use Rattle.type_table.specs.declared.entry.StructEntry.{StructEntry}
use Rattle.type_table.specs.Types.{ValueType, IntType, BoolType, StructType, ChannelType}
use Rattle.type_table.specs.Containment.{Field, Structs, fields_of, fields_in, Selected, following, variable_words, field_among, field_of}
use Rattle.type_table.specs.Views.{field_in, structs_of, AreWidths}
use Rattle.meaning.specs.Values.{known}
use Rattle.codegen_base.proofs.Fields.{AllWide, AllTyped}

-- widths that are known
pub all_wide : (structs : Structs) (widths : List ℕ) → AreWidths structs widths → AllWide structs
all_wide structs widths are s = (get_or widths s 0, are s)

entries_typed : (structs : Structs) (types : List (List ℕ)) (entries : List FieldEntry) → AllTyped structs (map (field_in types) entries)
entries_typed structs types [] = tt
entries_typed structs types (entry ∷ entries) = (refl, entries_typed structs types entries)

struct_typed : (structs : Structs) (types : List (List ℕ)) (entries : List StructEntry) (n : ℕ) → AllTyped structs (fields_in (slice_get (structs_of types entries) n))
struct_typed structs types [] n = tt
struct_typed structs types (entry ∷ entries) zero = entries_typed structs types entry.fields.items
struct_typed structs types (entry ∷ entries) (suc n) = struct_typed structs types entries n

-- each field in a table has a type
pub all_typed : (types : List (List ℕ)) (entries : List StructEntry) (n : ℕ) → AllTyped (structs_of types entries) (fields_of (structs_of types entries) n)
all_typed types entries n = struct_typed (structs_of types entries) types entries n

field_known : (structs : Structs) (fields : List Field) (name : List ℕ) (at : Selected) → AllTyped structs fields → field_among structs fields name ≡ Some at → (t : ValueType) × (at.kind ≡ Some t)
field_known structs [] name at typed e = absurd cc
field_known structs (field ∷ rest) name at typed e = go (bytes_eq field.name name) (field_among structs rest name) e (λ x h. field_known structs rest name x typed.1 h) where
  go : (t : Bool) (o : Option Selected) → (if t then Some (record { place = 0; kind = field.kind }) else option_map (following (variable_words structs field.kind)) o) ≡ Some at → ((x : Selected) → o ≡ Some x → (t : ValueType) × (x.kind ≡ Some t)) → (t : ValueType) × (at.kind ≡ Some t)
  go true o e more = (known field.kind, sym (ap (λ (s : Selected). s.kind) (same_Some (record { place = 0; kind = field.kind }) at e)) ∙ typed.0)
  go false None e more = absurd cc
  go false (Some x) e more =
      let m = more x refl in (m.0, sym (ap (λ (s : Selected). s.kind) (same_Some (following (variable_words structs field.kind) x) at e)) ∙ m.1)

pub fields_known : (structs : Structs) → ((n : ℕ) → AllTyped structs (fields_of structs n)) → (kind : ValueType) (name : List ℕ) (at : Selected) → field_of structs kind name ≡ Some at → (t : ValueType) × (at.kind ≡ Some t)
fields_known structs typed IntType name at e = absurd cc
fields_known structs typed BoolType name at e = absurd cc
fields_known structs typed (ChannelType d t) name at e = absurd cc
fields_known structs typed (StructType n) name at e = field_known structs (fields_of structs n) name at (typed n) e
