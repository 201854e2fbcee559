-- What a table keeps is what is declared.
use Rattle.std.proofs.Common.{◌≡◌, ℕ, zero, suc, ◌+◌, ◌≤◌, min, subst, sym, inl, inr, List, [], ◌∷◌, Some, slice_get, get_or, length, map, refl, arith}
use Rattle.std.specs.List.{All}
use Rattle.std.proofs.lemmas.List.Elements.{All-get_or}
use Rattle.std.proofs.lemmas.Option.{same_Some, slice_get_within}
use Rattle.type_table.specs.declared.entry.FunctionEntry.{FunctionEntry}
use Rattle.type_table.specs.Types.{ValueType, IntType, BoolType, StructType, ChannelType}
use Rattle.type_table.specs.Containment.{Structs, kind_parts, parts, parts_within}
use Rattle.type_table.specs.Scopes.{number_of, function_number}
use Rattle.type_table.specs.Views.{signature_of, function_names, AreWidths}
use Rattle.type_table.specs.Marks.{IsWide}
use Rattle.type_table.proofs.Fields.{parts-count}
use Rattle.type_table.proofs.Widths.{there, beyond, wide-more}

pub read_there : (ws : List ℕ) (s w : ℕ) → slice_get ws s ≡ Some w → get_or ws s 0 ≡ w
read_there [] s w h = cc
read_there (x ∷ ws) zero w h = same_Some _ _ h
read_there (x ∷ ws) (suc s) w h = read_there ws s w h

pub read_beyond : (ws : List ℕ) (s : ℕ) → length ws ≤ s → get_or ws s 0 ≡ 0
read_beyond [] s h = refl
read_beyond (x ∷ ws) zero h = omega arith
read_beyond (x ∷ ws) (suc s) h = read_beyond ws s (omega arith)

pub all_there : (ws : List ℕ) → All (λ w. w ≤ 16) ws → (s w : ℕ) → slice_get ws s ≡ Some w → w ≤ 16
all_there ws all s w h = rw (read_there ws s w h) at (All-get_or (λ (w : ℕ). w ≤ 16) ws s 0 (slice_get_within ws s w h) all)

-- capped widths of which none is over 16 are the widths
pub widths_are : (structs : Structs) (ws : List ℕ) (n : ℕ) → length ws ≡ n → n ≡ length structs
    → ((s w : ℕ) → slice_get ws s ≡ Some w → IsWide structs (suc n) s w) → All (λ w. w ≤ 16) ws → AreWidths structs ws
widths_are structs ws n m e known all s = elim (there ws s) [
  | inl has ↦
      let wide = wide-more structs (suc n) (suc (length structs)) (omega arith) s has.0 (known s has.0 has.1) in
      let small : has.0 ≤ 16 = all_there ws all s has.0 has.1 in
      let capped : has.0 ≡ min wide.0 17 = wide.2 in
      let same : wide.0 ≡ has.0 = omega arith in
      rw (read_there ws s has.0 has.1, ← same) wide.1
  | inr past_end ↦
      rw (read_beyond ws s past_end, beyond structs s (omega arith)) refl
]

pub function_named : (types : List (List ℕ)) (entries : List FunctionEntry) (name : List ℕ) → number_of (function_names entries) name ≡ function_number (map (signature_of types) entries) name
function_named types [] name = refl
function_named types (first ∷ rest) name = rw (function_named types rest name) refl

pub narrow_at : (ws : List ℕ) → All (λ w. w ≤ 16) ws → (s : ℕ) → get_or ws s 0 ≤ 16
narrow_at ws all s = elim (there ws s) [
  | inl has ↦ rw (read_there ws s has.0 has.1) (all_there ws all s has.0 has.1)
  | inr past_end ↦ rw (read_beyond ws s past_end) (omega arith)
]

-- a value takes at most 16 words
pub few-parts : (structs : Structs) (widths : List ℕ) → AreWidths structs widths → All (λ w. w ≤ 16) widths → (kind : ValueType) → length (parts structs kind) ≤ 16
few-parts structs widths sized narrow IntType = omega arith
few-parts structs widths sized narrow BoolType = omega arith
few-parts structs widths sized narrow (StructType s) = rw (parts-count structs (StructType s) (get_or widths s 0) (sized s)) (narrow_at widths narrow s)
few-parts structs widths sized narrow (ChannelType d e) = omega arith

-- they fit if there is nothing yet
pub room-for-parts : (structs : Structs) (widths : List ℕ) → AreWidths structs widths → All (λ w. w ≤ 16) widths → (kind : ValueType) (depth count : ℕ) → depth ≡ suc (length structs) → count ≡ 0
    → count + length (kind_parts (parts_within structs depth) (Some kind)) ≤ 16
room-for-parts structs widths sized narrow kind depth count deep none =
    let few = subst (λ (d : ℕ). length (kind_parts (parts_within structs d) (Some kind)) ≤ 16) (sym deep) (few-parts structs widths sized narrow kind) in
    omega (arith, none, few)
