-- Lvalues: their words among the locals, and their parts of the variables of a run.
use Rattle.std.proofs.Common.{◌≡◌, ℕ, ◌+◌, Bool, true, false, List, [], ◌∷◌, length, map, Option, Some, None, option_map, refl, sym, ap, ◌∙◌, subst, arith, bytes_eq, inl, inr}
use Rattle.std.specs.Prelude.{if◌then◌else◌, not, ◌&&◌}
use Rattle.std.specs.Option.{is_none}
use Rattle.std.proofs.lemmas.Option.{same_Some}
use Rattle.go_text.specs.declared.rule.Rule.TheVariants as rules
use Rattle.syntax.specs.Tree.{Place}
use Rattle.type_table.specs.Types.{ValueType}
use Rattle.type_table.specs.Containment.{Structs}
use Rattle.type_table.specs.Scopes.{Variable, Scope, is_blank, variable_named, later, last_named, Globals}
use Rattle.type_table.specs.Zeros.{zero_words}
use Rattle.typing_rules.specs.Worths.{kind_of as kind_found, type_of_field}
use Rattle.typing_rules.specs.Operations.{variable_at, followed, selected, place_type, PlaceHas, PathHas, PlacesHave}
use Rattle.meaning.specs.Values.{known, Slot, slot, slot_along, whole}
use Rattle.meaning.specs.Variables.{Blocks, kind_of, Nowhere, Into}
use Rattle.meaning.specs.Destinations.{place_slot, placed}
use Rattle.codegen_base.specs.Statements.{Dropped, Local, width, spot_of, place_spot, place_spots}
use Rattle.plan.proofs.Words.{Words}
use Rattle.codegen_base.proofs.Alike.{kind_if, kind_alike, variable_alike}
use Rattle.codegen_base.proofs.Fields.{Holds}
use Rattle.codegen_base.proofs.Likeness.{kinds_long}
use Rattle.codegen_base.proofs.Seen.{seen_one, seen, seen_lookup}
use Rattle.codegen_base.proofs.Static.{AllKnown}
use Rattle.codegen_base.proofs.Assigned.{IsSpot, after_destination, following_all, AreSpots}
use Rattle.codegen_base.proofs.Typing.{Free, broken}
use Rattle.codegen_follows.proofs.Paths.{leads}
use Rattle.codegen_follows.proofs.Stands.{View, scope_of, variables, Fine}
use Rattle.codegen_base.proofs.Running.{Compiled, Coded}

pub known_named : (vs : List Variable) (name : List ℕ) (v : Variable) → AllKnown vs → last_named vs name ≡ Some v → v.kind ≡ Some (known v.kind)
known_named [] name v k e = absurd cc
known_named (w ∷ vs) name v k e = go (last_named vs name) (bytes_eq w.name name) refl e (λ h. known_named vs name v k.1 h) where
  go : (o : Option Variable) (t : Bool) → last_named vs name ≡ o → later (if t then Some w else None) o ≡ Some v → (last_named vs name ≡ Some v → v.kind ≡ Some (known v.kind)) → v.kind ≡ Some (known v.kind)
  go (Some x) t is e more = more (is ∙ e)
  go None true is e more = subst (λ (x : Variable). x.kind ≡ Some (known x.kind)) (same_Some w v e) k.0
  go None false is e more = absurd cc

-- a variable that the typing rules see is there in the layout, with the same type
record Both (a b : Option Variable) : Type 0 where
  pub one : Variable
  pub other : Variable
  pub one_is : a ≡ Some one
  pub other_is : b ≡ Some other
  pub kind_is : one.kind ≡ other.kind

both : (a b : Option Variable) → kind_if a ≡ kind_if b → (is_none a ≡ true → ⊥) → Both a b
both None b e never = absurd (never refl)
both (Some v) None e never = absurd cc
both (Some v) (Some w) e never = record { one = v; other = w; one_is = refl; other_is = refl; kind_is = kind_alike (Some v) (Some w) e }

module _ {globals : Globals} {program : Compiled globals} (coded : Coded program) (ls : Words) (view : View) (fine : Fine coded view) where
  open program use {elements, wide as all}

  abbrev structs : Structs
  structs = globals.structs

  abbrev blocks : Blocks
  blocks = seen globals.structs ls (variables view) view.begins

  abbrev scope : Scope
  scope = scope_of view

  -- an lvalue that is no `_` is a part of a variable
  pub record Reaches (place : Place) : Type 0 where
    pub variable : Variable
    pub from : ℕ
    pub kind : ValueType
    pub found : last_named (variables view) place.name ≡ Some variable
    pub held : Holds globals.structs (known variable.kind) from kind
    pub selected_is : selected globals (scope_of view) place ≡ Some (record { place = variable.place + from; kind = Some kind })
    pub slot_is : place_slot globals (seen globals.structs ls (variables view) view.begins) place ≡ slot from kind
    pub checked_is : place_type globals view.checked place ≡ Some kind

  unblanked : (s : Scope) (name : List ℕ) → is_blank name ≡ false → variable_named s name ≡ last_named s.variables name
  unblanked s name no-blank = ap (λ b. if b then None else last_named s.variables name) no-blank

  pub reaches : (place : Place) (first : ℕ) → is_blank place.name ≡ false → Free (PlaceHas globals view.checked first place) → Reaches place
  reaches place first no-blank free =
      let name = place.name in
      let b = both (variable_named view.checked name) (variable_named scope name) (variable_alike view.checked scope fine.alike name)
      (λ gone. let x = broken rules.Visible (first + 1) (omega arith) in free x.0 (inl (ap (λ t. not t && is_none (variable_named view.checked name)) no-blank ∙ gone, x.1))) in
      let v = b.other in
      let found = sym (unblanked scope name no-blank) ∙ b.other_is in
      let has-kind : v.kind ≡ Some (known v.kind) = known_named (variables view) name v fine.placed.known found in
      let path : Free (λ violation. PathHas structs (Some (known v.kind)) place.fields (first + 1) violation) = λ violation x. free violation (inr (inr (subst (λ o. PathHas structs o place.fields (first + 1) violation) (sym (ap kind_found b.one_is ∙ b.kind_is ∙ has-kind)) x))) in
      let lead = leads structs all program.types_known.fields place.fields (known v.kind) v.place (first + 1) (omega arith) path in
      let checked = leads structs all program.types_known.fields place.fields (known v.kind) b.one.place (first + 1) (omega arith) path in
      let zero : 0 + lead.from ≡ lead.from = omega arith in
      let same-kind : checked.at ≡ lead.at = ap (λ (s : Slot). s.kind) (sym (checked.slot_is 0) ∙ lead.slot_is 0) in
      record {
        variable = v;
        from = lead.from;
        kind = lead.at;
        found = found;
        held = lead.held;
        selected_is = ap (λ o. followed structs (option_map variable_at o) place.fields) b.other_is ∙ ap (λ k. followed structs (Some (record { place = v.place; kind = k })) place.fields) has-kind ∙ lead.followed_is;
        slot_is =
            ap (λ o. slot_along structs (whole (kind_of o)) place.fields) (seen_lookup structs ls (variables view) view.begins name ∙ ap (option_map (seen_one structs ls)) found)
            ∙ lead.slot_is 0 ∙ ap (λ n. slot n lead.at) zero;
        checked_is =
            ap (λ o. type_of_field (followed structs (option_map variable_at o) place.fields)) b.one_is
            ∙ ap (λ k. type_of_field (followed structs (Some (record { place = b.one.place; kind = k })) place.fields)) (b.kind_is ∙ has-kind)
            ∙ ap type_of_field checked.followed_is ∙ ap Some same-kind;
      }

  -- a value has the words that its lvalue takes; `_` takes any
  abbrev pub Suits : Place → ValueType → ValueType → Type 0
  Suits place given taken = zero_words globals.structs taken ≡ zero_words globals.structs (if is_blank place.name then given else known (place_type globals view.checked place))

  place_is : (place : Place) (first : ℕ) (given taken : ValueType) → Free (PlaceHas globals view.checked first place) → Suits place given taken → IsSpot structs scope (placed globals blocks place) taken (place_spot globals elements scope place given)
  place_is place first given taken free suits = go (is_blank place.name) refl suits where
    go : (b : Bool) → is_blank place.name ≡ b → zero_words structs taken ≡ zero_words structs (if b then given else known (place_type globals view.checked place))
        → IsSpot structs scope (if b then Nowhere else Into place.name (place_slot globals blocks place)) taken (if b then Dropped (width globals elements scope given) else spot_of globals elements scope (selected globals scope place))
    go true is suits = ap Dropped (kinds_long structs elements given ∙ ap length (sym suits))
    go false is suits =
        let r = reaches place first is free in
        subst (λ (s : Slot). IsSpot structs scope (Into place.name s) taken (spot_of globals elements scope (selected globals scope place))) (sym r.slot_is) (
          r.variable,
          r.found,
          r.held,
          sym (suits ∙ ap (λ o. zero_words structs (known o)) r.checked_is),
          ap (spot_of globals elements scope) r.selected_is ∙ ap (Local (r.variable.place + r.from)) (kinds_long structs elements r.kind),
        )

  -- an lvalue declares nothing
  place_stays : (place : Place) → after_destination structs (placed globals blocks place) scope ≡ scope
  place_stays place = go (is_blank place.name) where
    go : (b : Bool) → after_destination structs (if b then Nowhere else Into place.name (place_slot globals blocks place)) scope ≡ scope
    go true = refl
    go false = refl

  pub places_stay : (places : List Place) → following_all structs all (map (placed globals blocks) places) scope ≡ scope
  places_stay [] = refl
  places_stay (place ∷ places) = ap (following_all structs all (map (placed globals blocks) places)) (place_stays place) ∙ places_stay places

  abbrev pub AllSuit : List Place → List ValueType → List ValueType → Type 0
  AllSuit [] [] [] = Unit {0}
  AllSuit (place ∷ places) (given ∷ types) (taken ∷ others) = Suits place given taken × AllSuit places types others
  AllSuit places types others = ⊥

  pub places_are : (places : List Place) (first : ℕ) (types others : List ValueType) → Free (PlacesHave globals view.checked first places) → AllSuit places types others → AreSpots structs all scope (map (placed globals blocks) places) others (place_spots globals elements scope places types)
  places_are [] first [] [] free suit = tt
  places_are [] first [] (o ∷ others) free suit = absurd suit
  places_are [] first (x ∷ types) others free suit = absurd suit
  places_are (place ∷ places) first [] others free suit = absurd suit
  places_are (place ∷ places) first (given ∷ types) [] free suit = absurd suit
  places_are (place ∷ places) first (given ∷ types) (taken ∷ others) free suit = (
    place_is place first given taken (λ violation x. free violation (inl x)) suit.0,
    subst (λ s. AreSpots structs all s (map (placed globals blocks) places) others (place_spots globals elements scope places types)) (sym (place_stays place)) (places_are places (first + 1) types others (λ violation x. free violation (inr x)) suit.1),
  )
