-- What a table of types shows of the struct types in it.
use Rattle.std.proofs.Common.{◌≡◌, ℕ, zero, suc, Bool, true, false, List, [], ◌∷◌, map, Option, Some, None, option_map, refl, subst}
use Rattle.std.specs.Prelude.{if◌then◌else◌, bytes_eq, get_or}
use Rattle.std.proofs.lemmas.Option.{same_Some}
use Rattle.type_table.specs.Types.{ValueType, IntType, BoolType, StructType, ChannelType}
use Rattle.type_table.specs.Containment.{Field, Structs, Selected, following, fields_of, field_among, field_of, variable_words}
use Rattle.type_table.specs.declared.entry.FieldEntry.{FieldEntry}
use Rattle.type_table.specs.declared.entry.StructEntry.{StructEntry}
use Rattle.type_table.specs.Views.{AreWidths, field_in, structs_of}
use Rattle.meaning.specs.Values.{known}
use Rattle.codegen_base.proofs.Fields.{AllWide, AllTyped}

-- all structs have widths
pub all_wide : (structs : Structs) (widths : List ℕ) → AreWidths structs widths → AllWide structs
all_wide structs widths are s = (get_or widths s 0, are s)

fields_typed : (structs : Structs) (types : List (List ℕ)) (entries : List FieldEntry) → AllTyped structs (map (field_in types) entries)
fields_typed structs types [] = tt
fields_typed structs types (entry ∷ rest) = (refl, fields_typed structs types rest)

-- the fields of all structs have types
pub all_typed : (structs : Structs) (types : List (List ℕ)) (entries : List StructEntry) (n : ℕ) → AllTyped structs (fields_of (structs_of types entries) n)
all_typed structs types [] n = tt
all_typed structs types (entry ∷ rest) zero = fields_typed structs types entry.fields.items
all_typed structs types (entry ∷ rest) (suc n) = all_typed structs types rest n

abbrev Known : Selected → Type 0
Known at = (t : ValueType) × (at.kind ≡ Some t)

among_known : (structs : Structs) (fields : List Field) (name : List ℕ) (at : Selected) → AllTyped structs fields → field_among structs fields name ≡ Some at → Known at
among_known structs [] name at typed is = absurd cc
among_known structs (field ∷ rest) name at typed is = go (bytes_eq field.name name) is (λ deeper h. among_known structs rest name deeper typed.1 h) where
  moved : (o : Option Selected) → option_map (following (variable_words structs field.kind)) o ≡ Some at → ((deeper : Selected) → o ≡ Some deeper → Known deeper) → Known at
  moved None h more = absurd cc
  moved (Some deeper) h more = subst Known (same_Some (following (variable_words structs field.kind) deeper) at h) (more deeper refl)

  go : (t : Bool) → (if t then Some (record { place = 0; kind = field.kind }) else option_map (following (variable_words structs field.kind)) (field_among structs rest name)) ≡ Some at
      → ((deeper : Selected) → field_among structs rest name ≡ Some deeper → Known deeper) → Known at
  go true h more = subst Known (same_Some (record { place = 0; kind = field.kind }) at h) (known field.kind, typed.0)
  go false h more = moved (field_among structs rest name) h more

-- a field that is found has a type
pub fields_known : (structs : Structs) → ((n : ℕ) → AllTyped structs (fields_of structs n)) → (kind : ValueType) (name : List ℕ) (at : Selected) → field_of structs kind name ≡ Some at → (t : ValueType) × (at.kind ≡ Some t)
fields_known structs typed (StructType n) name at is = among_known structs (fields_of structs n) name at (typed n) is
fields_known structs typed IntType name at is = absurd cc
fields_known structs typed BoolType name at is = absurd cc
fields_known structs typed (ChannelType direction carried) name at is = absurd cc
