-- The spots of lvalues.
use Rattle.std.proofs.Common.{◌≡◌, ◌≤◌, ◌<◌, ◌+◌, ◌-◌, ◌^◌, ℕ, true, false, List, [], ◌∷◌, Option, Some, None, option_map, refl, sym, ap, ◌∙◌, arith}
use Rattle.std.specs.Prelude.{if◌then◌else◌, min, option_and_then}
use Rattle.std.proofs.lemmas.Option.{same_Some}
use Rattle.syntax.specs.Tree.{Place}
use Rattle.type_table.specs.declared.layout.Selected.{Selected as InTable}
use Rattle.type_table.specs.Types.{ValueType, IntType}
use Rattle.type_table.specs.Containment.{Structs, Selected, following, field_of}
use Rattle.type_table.specs.Scopes.{Globals, Scope, is_blank, variable_named}
use Rattle.type_table.specs.Views.{kind_of}
use Rattle.type_table.specs.declared.visible.Entry.{Entry}
use Rattle.type_table.specs.Visible.{selected_of, variable_of}
use Rattle.typing_rules.specs.Operations.{followed, selected, variable_at}
use Rattle.typing_rules.specs.Worths.{type_of_field}
use Rattle.meaning.specs.Values.{known}
use Rattle.codegen_base.specs.declared.element.Element.{Element}
use Rattle.codegen_base.specs.Statements.{Spot, Dropped, Local, place_spot, spot_of, width}
use Rattle.codegen_simple.specs.Spots.{IsFar, capped}

module _ (globals : Globals) (elements : List Element) (scope : Scope) (place : Place) (kind : ValueType) where
  pub blank_spot : (words : ℕ) → is_blank place.name ≡ true → words ≡ width globals elements scope kind → Dropped words ≡ place_spot globals elements scope place kind
  blank_spot words is w = ap Dropped w ∙ sym (ap (λ b. if b then Dropped (width globals elements scope kind) else spot_of globals elements scope (selected globals scope place)) is)

  pub led_spot : (spot : Spot) → is_blank place.name ≡ false → spot ≡ spot_of globals elements scope (selected globals scope place) → spot ≡ place_spot globals elements scope place kind
  led_spot spot is s = s ∙ sym (ap (λ b. if b then Dropped (width globals elements scope kind) else spot_of globals elements scope (selected globals scope place)) is)

-- ---- parts of the frame, whose first words are at most 2^64 - 1 in memory

min_small : (a b : ℕ) → min a b < b → min a b ≡ a
min_small a b le = omega (arith, le)

min_sum : (a b m : ℕ) → min (min a m + b) m ≡ min (a + b) m
min_sum a b m = omega arith

abbrev place_or : Option Selected → ℕ
place_or None = 0
place_or (Some part) = part.place

abbrev kind_or : Option Selected → Option ValueType
kind_or None = None
kind_or (Some part) = part.kind

module _ (types : List (List ℕ)) where
  -- a field of a part
  pub field_followed : (structs : Structs) (whole : Selected) (at part : InTable) (name : List ℕ) (place : ℕ) → selected_of types at ≡ capped whole → Some (selected_of types part) ≡ field_of structs (kind_of types at.kind) name → place ≡ min (at.place + part.place) (2 ^ 64 - 1)
      → option_map (selected_of types) (Some (record { place = place; kind = part.kind })) ≡ option_map capped (followed structs (Some whole) (name ∷ []))
  field_followed structs whole at part name place seen found is =
      let kinds : whole.kind ≡ Some (kind_of types at.kind) = sym (ap (λ (s : Selected). s.kind) seen) in
      let places : at.place ≡ min whole.place (2 ^ 64 - 1) = ap (λ (s : Selected). s.place) seen in
      let led : followed structs (Some whole) (name ∷ []) ≡ Some (following whole.place (selected_of types part)) = ap (λ o. option_map (following whole.place) (option_and_then (λ kind. field_of structs kind name) o)) kinds ∙ ap (option_map (following whole.place)) (sym found) in
      let sum : place ≡ min (whole.place + part.place) (2 ^ 64 - 1) = is ∙ ap (λ n. min (n + part.place) (2 ^ 64 - 1)) places ∙ min_sum whole.place part.place (2 ^ 64 - 1) in
      ap (λ n. Some (record { place = n; kind = Some (kind_of types part.kind) })) sum ∙ sym (ap (option_map capped) led)

  pub no_field_followed : (structs : Structs) (whole : Selected) (at : InTable) (name : List ℕ) → selected_of types at ≡ capped whole → None ≡ field_of structs (kind_of types at.kind) name → option_map (selected_of types) None ≡ option_map capped (followed structs (Some whole) (name ∷ []))
  no_field_followed structs whole at name seen none =
      let kinds : whole.kind ≡ Some (kind_of types at.kind) = sym (ap (λ (s : Selected). s.kind) seen) in
      sym (ap (λ o. option_map capped (option_map (following whole.place) (option_and_then (λ kind. field_of structs kind name) o))) kinds ∙ ap (λ o. option_map capped (option_map (following whole.place) o)) (sym none))

  -- a part with fields denotes what its first field with the others denotes
  pub followed_on : (structs : Structs) (whole : Option Selected) (at : InTable) (name : List ℕ) (names : List (List ℕ)) (next last : Option InTable) → option_map (selected_of types) (Some at) ≡ option_map capped whole
      → ((w : Selected) → selected_of types at ≡ capped w → option_map (selected_of types) next ≡ option_map capped (followed structs (Some w) (name ∷ [])))
      → ((w : Option Selected) → option_map (selected_of types) next ≡ option_map capped w → option_map (selected_of types) last ≡ option_map capped (followed structs w names))
      → option_map (selected_of types) last ≡ option_map capped (followed structs whole (name ∷ names))
  followed_on structs None at name names next last seen step rest = absurd cc
  followed_on structs (Some whole) at name names next last seen step rest = rest (followed structs (Some whole) (name ∷ [])) (step whole (same_Some (selected_of types at) (capped whole) seen))

  pub followed_none : (structs : Structs) (whole : Option Selected) (names : List (List ℕ)) → option_map (selected_of types) None ≡ option_map capped whole → option_map (selected_of types) None ≡ option_map capped (followed structs whole names)
  followed_none structs (Some whole) names seen = absurd cc
  followed_none structs None [] seen = refl
  followed_none structs None (name ∷ names) seen = refl

  -- an lvalue of a variable that is not declared denotes nothing
  pub selected_none : (globals : Globals) (scope : Scope) (place : Place) → variable_named scope place.name ≡ None → option_map (selected_of types) None ≡ option_map capped (selected globals scope place)
  selected_none globals scope place is = followed_none globals.structs (option_map variable_at (variable_named scope place.name)) place.fields (sym (ap (λ o. option_map capped (option_map variable_at o)) is))

  pub variable_seen : (scope : Scope) (name : List ℕ) (entry : Entry) (at : InTable) → entry.place < 2 ^ 64 → at.place ≡ entry.place → at.kind ≡ entry.kind → variable_named scope name ≡ Some (variable_of types entry)
      → option_map (selected_of types) (Some at) ≡ option_map capped (option_map variable_at (variable_named scope name))
  variable_seen scope name entry at small places kinds is =
      let here : at.place ≡ min entry.place (2 ^ 64 - 1) = omega (arith, small, places) in
      ap (λ k. Some (record { place = at.place; kind = Some (kind_of types k) })) kinds ∙ ap (λ n. Some (record { place = n; kind = Some (kind_of types entry.kind) })) here ∙ sym (ap (λ o. option_map capped (option_map variable_at o)) is)

  -- the type of a part
  pub seen_kind : (whole : Option Selected) (at : InTable) → Some (selected_of types at) ≡ option_map capped whole → kind_of types at.kind ≡ known (type_of_field whole)
  seen_kind None at seen = absurd cc
  seen_kind (Some whole) at seen = ap (λ o. known (kind_or o)) seen

  pub none_kind : (whole : Option Selected) → None ≡ option_map capped whole → IntType ≡ known (type_of_field whole)
  none_kind None seen = refl
  none_kind (Some whole) seen = absurd cc

  module _ (globals : Globals) (elements : List Element) (scope : Scope) where
    pub seen_spot : (whole : Option Selected) (at : InTable) (place words : ℕ) → Some (selected_of types at) ≡ option_map capped whole → place ≡ at.place → at.place < 2 ^ 32 → words ≡ width globals elements scope (kind_of types at.kind) → Local place words ≡ spot_of globals elements scope whole
    seen_spot None at place words seen is small w = absurd cc
    seen_spot (Some whole) at place words seen is small w =
        let places : at.place ≡ min whole.place (2 ^ 64 - 1) = ap place_or seen in
        let here : place ≡ whole.place = omega (arith, is, places, small) in
        ap (λ n. Local n words) here ∙ ap (Local whole.place) (w ∙ ap (width globals elements scope) (seen_kind (Some whole) at seen))

    pub none_spot : (whole : Option Selected) → None ≡ option_map capped whole → Dropped 0 ≡ spot_of globals elements scope whole
    none_spot None seen = refl
    none_spot (Some whole) seen = absurd cc

  pub seen_far : (whole : Option Selected) (at : InTable) → Some (selected_of types at) ≡ option_map capped whole → 2 ^ 32 ≤ at.place → IsFar whole
  seen_far None at seen far = absurd cc
  seen_far (Some whole) at seen far = let places : at.place ≡ min whole.place (2 ^ 64 - 1) = ap place_or seen in omega (arith, places, far)
