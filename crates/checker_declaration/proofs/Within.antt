-- What lies within a struct.
use Rattle.std.proofs.Common.{◌≡◌, ℕ, zero, suc, ◌⊎◌, inl, inr, List, [], ◌∷◌, ◌++◌, Some, None, slice_get, refl, sym, subst}
use Rattle.std.proofs.lemmas.Option.{same_Some, none-some}
use Rattle.type_table.specs.Types.{StructType}
use Rattle.type_table.specs.Containment.{Structs, HasStruct, fields_of, Holds, Directly, Through}
use Rattle.checker_declaration.specs.declared.parts.Part.{Part}
use Rattle.checker_declaration.specs.declared.parts.Parts.{Parts}
use Rattle.checker_declaration.specs.Parts.{part_in, fields_in, parts_in, structs_in, IsWithin}

pub fields_there : (types : List (List ℕ)) (all : List Parts) (s : ℕ) (p : Parts) → slice_get all s ≡ Some p → fields_of (structs_in types all) s ≡ parts_in types p
fields_there types [] s p e = cc
fields_there types (x ∷ all) zero p e = subst (λ (y : Parts). parts_in types x ≡ parts_in types y) (same_Some _ _ e) refl
fields_there types (x ∷ all) (suc s) p e = fields_there types all s p e

pub no_fields : (types : List (List ℕ)) (all : List Parts) (s : ℕ) → slice_get all s ≡ None → fields_of (structs_in types all) s ≡ []
no_fields types [] s e = refl
no_fields types (x ∷ all) zero e = cc
no_fields types (x ∷ all) (suc s) e = no_fields types all s e

pub within_has : (structs : Structs) (number s t : ℕ) → IsWithin structs number s → HasStruct (fields_of structs s) t → Holds structs number t
within_has structs number s t (inl e) has = Directly number t (subst (λ (k : ℕ). HasStruct (fields_of structs k) t) e has)
within_has structs number s t (inr h) has = Through number s t h has

pub got_more : (xs : List ℕ) (x y : ℕ) (j : ℕ) → slice_get (xs ++ x ∷ []) j ≡ Some y → (slice_get xs j ≡ Some y) ⊎ (x ≡ y)
got_more [] x y zero e = inr (same_Some _ _ e)
got_more [] x y (suc j) e = absurd (none-some y e)
got_more (a ∷ xs) x y zero e = inl e
got_more (a ∷ xs) x y (suc j) e = got_more xs x y j e

pub field_has : (types : List (List ℕ)) (parts : List Part) (place : ℕ) (p : Part) (t : ℕ) → slice_get parts place ≡ Some p → (part_in types p).kind ≡ Some (StructType t) → HasStruct (fields_in types parts) t
field_has types [] place p t e k = cc
field_has types (x ∷ parts) zero p t e k = (zero, subst (λ (y : Part). (part_in types y).kind ≡ Some (StructType t)) (sym (same_Some _ _ e)) k)
field_has types (x ∷ parts) (suc place) p t e k =
    let (j, h) = field_has types parts place p t e k in (suc j, h)
