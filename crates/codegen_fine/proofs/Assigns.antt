-- Assignments and declarations with which nothing is wrong leave the stack as it was.
use Rattle.std.proofs.Common.{◌≡◌, ℕ, ◌+◌, ◌≤◌, Bool, true, false, not, ◌||◌, List, [], ◌∷◌, ◌++◌, length, map, drop, Option, Some, None, refl, sym, ap, ◌∙◌, subst, arith, inl, inr, sum_by}
use Rattle.std.specs.Prelude.{if◌then◌else◌}
use Rattle.std.specs.Option.{is_none}
use Rattle.std.specs.List.{list_any}
use Rattle.std.proofs.lemmas.Bool.{or_parts}
use Rattle.std.proofs.lemmas.List.{length-map}
use Rattle.std.proofs.lemmas.Option.{same_Some}
use Rattle.go_text.specs.declared.rule.Rule.TheVariants as rules
use Rattle.syntax.specs.Tree.{Expression, Place, Assign, Define}
use Rattle.syntax.specs.Measures.{expression_size, simple_size}
use Rattle.bytecode.specs.declared.instr.WordKind.{WordKind}
use Rattle.bytecode.specs.Code.{Function as CodeFunction, Code}
use Rattle.type_table.specs.Types.{ValueType}
use Rattle.type_table.specs.Scopes.{Globals, Scope, Variable, is_blank, last_named, own_variable}
use Rattle.typing_rules.specs.declared.violation.Violation.{Violation}
use Rattle.typing_rules.specs.Worths.{Worth, kind_of, type_of_field}
use Rattle.typing_rules.specs.Expressions.{ValueHas, NumbersHave, default_type}
use Rattle.typing_rules.specs.Operations.{selected, place_type, Given, given, RightHas, PlaceHas, GoesHas, PlacesFail, PlacesHave}
use Rattle.typing_rules.specs.Simples.{has_twice, is_declarable, NamesFail, after_name, with_defined, others, SimpleHas, after_simple}
use Rattle.meaning.specs.Values.{known}
use Rattle.codegen_base.specs.declared.element.Element.{Element}
use Rattle.codegen_base.specs.Elements.{kinds_of}
use Rattle.codegen_base.specs.Layouts.{Layout, declaring_all, following_simple}
use Rattle.codegen_base.specs.Statements.{Spot, Dropped, Local, assigns, spot_of, place_spot, place_spots, taken_type, taken_types, pushes_right, right_types, name_type, name_spots, name_types, defines, sets}
use Rattle.codegen_base.proofs.Alike.{kind_if, Alike, own_alike}
use Rattle.codegen_base.proofs.Noted.{Noted}
use Rattle.codegen_base.proofs.Typing.{Free, broken}
use Rattle.codegen_fine.proofs.Sees.{Sees}
use Rattle.plan.specs.Plan.{Plan, Skip}
use Rattle.plan.proofs.Typed.{Allowed, Typed}
use Rattle.codegen_fine.proofs.Pushing.{Puts}
use Rattle.codegen_fine.proofs.Operands.{Grounds}
use Rattle.codegen_fine.proofs.Operands.{all_kinds}
use Rattle.codegen_fine.proofs.Spots.{joined, SpotFits, SpotsFit, assigns_typed}
use Rattle.codegen_fine.proofs.Places.{IsHoused, AllHoused, found_housed, drop_housed, housed_of, place_leads, place_alike}
use Rattle.codegen_fine.proofs.Givens.{WantHas, WantsFail, WantsNoted, WellTaken, taken, taken_all, worths, given_alike}
use Rattle.codegen_fine.proofs.Rights.{Takes, typed_right}
use Rattle.codegen_base.proofs.StatementMakes.{ValuesMake}
use Rattle.codegen_fine.proofs.Layouts.{own_same, Begins, Room, AllTaken, NamesFit, names_fit}

pub joined_kinds : (globals : Globals) (elements : List Element) (types : List ValueType) → joined (map (kinds_of globals.structs elements) types) ≡ all_kinds globals.structs elements types
joined_kinds globals elements [] = refl
joined_kinds globals elements (kind ∷ types) = ap (λ (l : List WordKind). kinds_of globals.structs elements kind ++ l) (joined_kinds globals elements types)

-- ---- the types that lvalues want

abbrev pub place_want : Globals → Scope → Place → Option ValueType
place_want globals scope place = if is_blank place.name then None else Some (known (place_type globals scope place))

abbrev pub places_want : Globals → Scope → List Place → List (Option ValueType)
places_want globals scope places = map (place_want globals scope) places

pub places_taken : (globals : Globals) (elements : List Element) (scope : Scope) (places : List Place) (types : List ValueType) → taken_types globals elements scope places types ≡ taken_all (places_want globals scope places) types
places_taken globals elements scope [] types = refl
places_taken globals elements scope (place ∷ places) [] = refl
places_taken globals elements scope (place ∷ places) (kind ∷ types) = ap (λ k. k ∷ taken_types globals elements scope places types) (go (is_blank place.name)) ∙ ap (λ (l : List ValueType). taken (place_want globals scope place) kind ∷ l) (places_taken globals elements scope places types) where
  go : (b : Bool) → (if b then kind else known (place_type globals scope place)) ≡ taken (if b then None else Some (known (place_type globals scope place))) kind
  go true = refl
  go false = refl

-- ---- what names want

abbrev pub want_of : Option Variable → Option ValueType
want_of None = None
want_of (Some variable) = Some (known variable.kind)

abbrev pub names_want : Scope → List (List ℕ) → List (Option ValueType)
names_want scope names = map (λ name. want_of (own_variable scope name)) names

pub names_taken : (globals : Globals) (elements : List Element) (layout : Layout) (names : List (List ℕ)) (types : List ValueType) → name_types globals elements layout names types ≡ taken_all (names_want layout.scope names) types
names_taken globals elements layout [] types = refl
names_taken globals elements layout (name ∷ names) [] = refl
names_taken globals elements layout (name ∷ names) (kind ∷ types) = ap (λ k. k ∷ name_types globals elements layout names types) (go (own_variable layout.scope name)) ∙ ap (λ (l : List ValueType). taken (want_of (own_variable layout.scope name)) kind ∷ l) (names_taken globals elements layout names types) where
  go : (o : Option Variable) → name_type globals elements kind o ≡ taken (want_of o) kind
  go None = refl
  go (Some v) = refl

-- the variables after names are those by the types of their values
abbrev first_default : List (Option Worth) → Option ValueType
first_default [] = None
first_default (w ∷ ws) = default_type w

abbrev with_worths : Globals → Scope → List (List ℕ) → List (Option Worth) → Scope
with_worths globals s [] ws = s
with_worths globals s (name ∷ names) ws = with_worths globals (after_name globals s name (first_default ws)) names (others ws)

module _ (globals : Globals) (elements : List Element) where
  by_worths : (x scope : Scope) (alike : Sees x scope) (names : List (List ℕ)) (s : Scope) (values : List Given) → with_defined globals s names values ≡ with_worths globals s names (worths globals elements x scope alike values)
  by_worths x scope alike [] s values = refl
  by_worths x scope alike (name ∷ names) s [] = by_worths x scope alike names (after_name globals s name None) []
  by_worths x scope alike (name ∷ names) s (value ∷ values) = by_worths x scope alike names (after_name globals s name (default_type value.worth)) values

  pub defined_alike : (s scope : Scope) (alike : Sees s scope) (names : List (List ℕ)) (count m n : ℕ) (right : List Expression) → with_defined globals s names (given globals s count m right) ≡ with_defined globals s names (given globals scope count n right)
  defined_alike s scope alike names count m n right =
      by_worths s scope alike names s (given globals s count m right) ∙ ap (with_worths globals s names) (given_alike globals elements s scope alike count m n right) ∙ sym (by_worths s scope alike names s (given globals scope count n right))

  module _ (code : Code) (f : CodeFunction) (grounds : Grounds globals elements code) where
    abbrev kinds_in : ValueType → List WordKind
    kinds_in = kinds_of globals.structs elements

    -- a plan leaves the stack as it was
    abbrev pub Leaves : Plan → Type 0
    Leaves plan = (a : Allowed) (ks out : List WordKind) → Typed code f a ks Skip out → Typed code f a ks plan out

    -- values are pushed, and go to their spots
    pub put_leaves : (types : List ValueType) (spots : List Spot) (push : Plan → Plan) → Puts globals.structs elements code f (all_kinds globals.structs elements types) push → SpotsFit globals.structs elements code f spots (map kinds_in types) → Leaves (push (assigns spots Skip))
    put_leaves types spots push pushed fit a ks out t =
        pushed a ks out (assigns spots Skip) (subst (λ (l : List WordKind). Typed code f a (ks ++ l) (assigns spots Skip) out) (joined_kinds globals elements types) (assigns_typed globals.structs elements code f spots (map kinds_in types) fit a ks out Skip t))

    -- what a declaration leaves: the stack as it was, and the variables that the typing rules see
    pub record Declares (plan : Plan) (after : Scope) (following : Layout) : Type 0 where
      pub leaves : Leaves plan
      pub room : Room globals elements code f following
      pub alike : Alike after following.scope

    -- ---- lvalues

    module _ (scope : Scope) (all : AllHoused globals elements f scope.variables) (s : Scope) (alike : Sees s scope) where
      place_fits : (place : Place) (first : ℕ) (kind : ValueType) → Free (PlaceHas globals s first place) → SpotFits globals.structs elements code f (place_spot globals elements scope place kind) (kinds_in (taken_type globals elements scope place kind))
      place_fits place first kind free = go (is_blank place.name) refl where
        go : (b : Bool) → is_blank place.name ≡ b → SpotFits globals.structs elements code f (if b then Dropped (length (kinds_in kind)) else spot_of globals elements scope (selected globals scope place)) (kinds_in (if b then kind else known (place_type globals scope place)))
        go true is = refl
        go false is =
            let l = place_leads globals elements f code grounds s scope alike all place first free is in
            let h = l.housed in
            subst (λ o. SpotFits globals.structs elements code f (spot_of globals elements scope o) (kinds_in (known (type_of_field o)))) (sym l.is)
            (subst (λ o. SpotFits globals.structs elements code f (Local l.at.place (length (kinds_in (known o)))) (kinds_in (known o))) (sym h.has) (refl, h.within, h.stand))

      pub places_fit : (places : List Place) (first : ℕ) (types : List ValueType) → Free (PlacesHave globals s first places) → SpotsFit globals.structs elements code f (place_spots globals elements scope places types) (map kinds_in (taken_types globals elements scope places types))
      places_fit [] first types free = tt
      places_fit (place ∷ places) first [] free = tt
      places_fit (place ∷ places) first (kind ∷ types) free = (place_fits place first kind (λ violation h. free violation (inl h)), places_fit places (first + 1) types (λ violation h. free violation (inr h)))

      place_fails : (place : Place) (first : ℕ) (value : Given) (violation : Violation) → Free (PlaceHas globals s first place) → WantHas (place_want globals scope place) value violation → GoesHas (is_blank place.name) value (place_type globals s place) violation
      place_fails place first value violation free h = go (is_blank place.name) refl h where
        go : (b : Bool) → is_blank place.name ≡ b → WantHas (if b then None else Some (known (place_type globals scope place))) value violation → GoesHas b value (place_type globals s place) violation
        go true is h = h
        go false is h =
            let l = place_leads globals elements f code grounds s scope alike all place first free is in
            let has : place_type globals scope place ≡ Some l.housed.kind = ap type_of_field l.is ∙ l.housed.has in
            subst (λ o. ValueHas value.worth o value.nodes violation) (sym (place_alike globals s scope alike place ∙ has)) (subst (λ o. ValueHas value.worth (Some (known o)) value.nodes violation) has h)

      pub places_fail : (places : List Place) (first : ℕ) (values : List Given) (violation : Violation) → Free (PlacesHave globals s first places) → WantsFail (places_want globals scope places) values violation → PlacesFail globals s places values violation
      places_fail [] first values violation free h = h
      places_fail (place ∷ places) first [] violation free h = h
      places_fail (place ∷ places) first (value ∷ values) violation free (inl h) = inl (place_fails place first value violation (λ x y. free x (inl y)) h)
      places_fail (place ∷ places) first (value ∷ values) violation free (inr h) = inr (places_fail places (first + 1) values violation (λ x y. free x (inr y)) h)

      pub places_noted : (places : List Place) (first : ℕ) → Free (PlacesHave globals s first places) → WantsNoted elements (places_want globals scope places)
      places_noted [] first free = tt
      places_noted (place ∷ places) first free = go (is_blank place.name) refl (places_noted places (first + 1) (λ violation h. free violation (inr h))) where
        go : (b : Bool) → is_blank place.name ≡ b → WantsNoted elements (places_want globals scope places) → WantsNoted elements ((if b then None else Some (known (place_type globals scope place))) ∷ places_want globals scope places)
        go true is rest = rest
        go false is rest =
            let l = place_leads globals elements f code grounds s scope alike all place first (λ violation h. free violation (inl h)) is in
            (subst (λ o. Noted elements (known o)) (sym (ap type_of_field l.is ∙ l.housed.has)) l.housed.noted, rest)

      -- an assignment
      pub typed_sets : (places : List Place) (right : List Expression) (first : ℕ) → Free (SimpleHas globals s first (Assign places right)) → ValuesMake globals elements right
          → Leaves (sets globals elements scope places (right_types globals elements scope (length places) right) right)
      typed_sets places right first free noted =
          let count = length places in
          let housed = housed_of globals elements f scope all in
          let fine : Free (PlacesHave globals s first places) = λ violation h. free violation (inl h) in
          let wants = places_want globals scope places in
          let types = right_types globals elements scope count right in
          let t = typed_right globals elements code f grounds scope housed s alike right count (first + count) (first + simple_size (Assign places right)) wants (omega arith) (length-map places (place_want globals scope)) (places_noted places first fine)
          (λ violation h. free violation (inr (inl h))) (λ violation h. free violation (inr (inr (inl h)))) (λ violation h. free violation (inr (inr (inr (places_fail places first (given globals s count (first + count) right) violation fine h))))) noted in
          let pushed = subst (λ (l : List ValueType). Puts globals.structs elements code f (all_kinds globals.structs elements l) (pushes_right globals elements scope count l right)) (sym (places_taken globals elements scope places types)) t.pushed in
          put_leaves (taken_types globals elements scope places types) (place_spots globals elements scope places types) (pushes_right globals elements scope count (taken_types globals elements scope places types) right) pushed (places_fit places first types fine)

    -- ---- names

    module _ (layout : Layout) (room : Room globals elements code f layout) (s : Scope) (alike : Alike s layout.scope) where
      own_housed : (name : List ℕ) (v : Variable) → own_variable layout.scope name ≡ Some v → IsHoused globals elements f v.place v.kind
      own_housed name v is = found_housed globals elements f (drop layout.scope.outer layout.scope.variables) name v (drop_housed globals elements f layout.scope.outer layout.scope.variables room.housed) (of (is_blank name) is) where
        of : (b : Bool) → (if b then None else last_named (drop layout.scope.outer layout.scope.variables) name) ≡ Some v → last_named (drop layout.scope.outer layout.scope.variables) name ≡ Some v
        of true e = absurd cc
        of false e = e

      name_fails : (name : List ℕ) (value : Given) (violation : Violation) → WantHas (want_of (own_variable layout.scope name)) value violation → GoesHas (is_none (own_variable s name)) value (kind_of (own_variable s name)) violation
      name_fails name value violation h = go (own_variable s name) (own_variable layout.scope name) refl (own_alike s layout.scope alike name) h where
        go : (a b : Option Variable) → own_variable layout.scope name ≡ b → kind_if a ≡ kind_if b → WantHas (want_of b) value violation → GoesHas (is_none a) value (kind_of a) violation
        go None None is e h = h
        go None (Some w) is e h = absurd cc
        go (Some v) None is e h = absurd cc
        go (Some v) (Some w) is e h =
            let has = (own_housed name w is).has in
            subst (λ o. ValueHas value.worth o value.nodes violation) (sym (same_Some v.kind w.kind e ∙ has)) (subst (λ o. ValueHas value.worth (Some (known o)) value.nodes violation) has h)

      pub names_fail : (names : List (List ℕ)) (values : List Given) (violation : Violation) → WantsFail (names_want layout.scope names) values violation → NamesFail s names values violation
      names_fail [] values violation h = h
      names_fail (name ∷ names) [] violation h = h
      names_fail (name ∷ names) (value ∷ values) violation (inl h) = inl (name_fails name value violation h)
      names_fail (name ∷ names) (value ∷ values) violation (inr h) = inr (names_fail names values violation h)

      pub names_noted : (names : List (List ℕ)) → WantsNoted elements (names_want layout.scope names)
      names_noted [] = tt
      names_noted (name ∷ names) = go (own_variable layout.scope name) refl (names_noted names) where
        go : (o : Option Variable) → own_variable layout.scope name ≡ o → WantsNoted elements (names_want layout.scope names) → WantsNoted elements (want_of o ∷ names_want layout.scope names)
        go None is rest = rest
        go (Some v) is rest = let h = own_housed name v is in (subst (λ o. Noted elements (known o)) (sym h.has) h.noted, rest)

      all_taken : (names : List (List ℕ)) (values : List Given) → WellTaken elements (names_want layout.scope names) values → AllTaken globals elements code f grounds layout.scope names values
      all_taken [] [] w = tt
      all_taken [] (value ∷ values) w = absurd w
      all_taken (name ∷ names) [] w = absurd w
      all_taken (name ∷ names) (value ∷ values) w = (λ e. w.0 (ap want_of e), all_taken names values w.1)

      -- the names of a declaration, and what they take
      pub record DefineFits (names : List (List ℕ)) (right : List Expression) : Type 0 where
        pub takes : Takes globals elements code f grounds layout.scope (housed_of globals elements f layout.scope room.housed) s alike.named (length names) (names_want layout.scope names) (given globals layout.scope (length names) 0 right) (λ types. pushes_right globals elements layout.scope (length names) types right)
        pub names_fit : NamesFit globals elements code f grounds layout layout s names (given globals layout.scope (length names) 0 right)

      pub defines_fit : (names : List (List ℕ)) (right : List Expression) → has_twice names ≡ false → Begins f (declaring_all globals elements names (right_types globals elements layout.scope (length names) right) layout)
          → Takes globals elements code f grounds layout.scope (housed_of globals elements f layout.scope room.housed) s alike.named (length names) (names_want layout.scope names) (given globals layout.scope (length names) 0 right) (λ types. pushes_right globals elements layout.scope (length names) types right)
          → DefineFits names right
      defines_fit names right twice begins t = record {
        takes = t;
        names_fit = names_fit globals elements code f grounds names (given globals layout.scope (length names) 0 right) layout layout s room begins alike (own_same layout.scope names) twice (all_taken names (given globals layout.scope (length names) 0 right) t.well);
      }

      pub typed_defines : (names : List (List ℕ)) (right : List Expression) (first end : ℕ) → 1 ≤ end → has_twice names ≡ false → Free (RightHas globals s first right) → Free (NumbersHave (length (given globals s (length names) first right)) (length names) end)
          → Free (NamesFail s names (given globals s (length names) first right)) → ValuesMake globals elements right
          → Begins f (declaring_all globals elements names (right_types globals elements layout.scope (length names) right) layout)
          → Declares (defines globals elements layout names (right_types globals elements layout.scope (length names) right) right) (with_defined globals s names (given globals s (length names) 0 right))
          (declaring_all globals elements names (right_types globals elements layout.scope (length names) right) layout)
      typed_defines names right first end le twice free numbers fail noted begins =
          let count = length names in
          let housed = housed_of globals elements f layout.scope room.housed in
          let wants = names_want layout.scope names in
          let types = right_types globals elements layout.scope count right in
          let t = typed_right globals elements code f grounds layout.scope housed s alike.named right count first end wants le (length-map names (λ name. want_of (own_variable layout.scope name))) (names_noted names) free numbers (λ violation h. fail violation (names_fail names (given globals s count first right) violation h)) noted in
          let n = names_fit globals elements code f grounds names (given globals layout.scope count 0 right) layout layout s room begins alike (own_same layout.scope names) twice (all_taken names (given globals layout.scope count 0 right) t.well) in
          let pushed = subst (λ (l : List ValueType). Puts globals.structs elements code f (all_kinds globals.structs elements l) (pushes_right globals elements layout.scope count l right)) (sym (names_taken globals elements layout names types)) t.pushed in
          record {
            leaves = put_leaves (name_types globals elements layout names types) (name_spots globals elements layout names types) (pushes_right globals elements layout.scope count (name_types globals elements layout names types) right) pushed n.fit;
            room = n.room;
            alike = subst (λ x. Alike x (declaring_all globals elements names types layout).scope) (sym (defined_alike s layout.scope alike.named names count 0 0 right)) n.alike;
          }

      not_true : (b : Bool) → (b ≡ true → ⊥) → b ≡ false
      not_true true never = absurd (never refl)
      not_true false never = refl

      -- a `:=`
      pub typed_define : (names : List (List ℕ)) (right : List Expression) (first : ℕ) → Free (SimpleHas globals s first (Define names right)) → ValuesMake globals elements right
          → Begins f (following_simple globals elements (Define names right) layout)
          → Declares (defines globals elements layout names (right_types globals elements layout.scope (length names) right) right) (after_simple globals s (Define names right)) (following_simple globals elements (Define names right) layout)
      typed_define names right first free noted begins =
          let end = first + sum_by expression_size right + 1 in
          let b = broken rules.NewName end (omega arith) in
          let twice = not_true (has_twice names || not (list_any (is_declarable s) names)) (λ e. free b.0 (inr (inr (inl (inr (e, b.1)))))) in
          typed_defines names right first end (omega arith) (or_parts (has_twice names) (not (list_any (is_declarable s) names)) twice).0 (λ violation h. free violation (inl h)) (λ violation h. free violation (inr (inl h))) (λ violation h. free violation (inr (inr (inr h)))) noted begins
