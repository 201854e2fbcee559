-- Assignments to lvalues.
use Rattle.std.proofs.Common.{◌≡◌, ℕ, suc, ◌+◌, ◌≤◌, Bool, true, false, List, [], ◌∷◌, length, map, Option, Some, None, option_map, refl, sym, ap, ◌∙◌, subst, arith, inl, inr, zero, ◌⊎◌}
use Rattle.std.specs.Prelude.{if◌then◌else◌}
use Rattle.syntax.specs.Tree.{Expression, expressions, Place, Assign, Receive}
use Rattle.syntax.specs.Measures.{expression_size, simple_size}
use Rattle.bytecode.specs.Machine.{Frames as CodeFrames}
use Rattle.type_table.specs.Types.{ValueType, BoolType}
use Rattle.type_table.specs.Containment.{Structs}
use Rattle.type_table.specs.Scopes.{Globals, Scope, is_blank}
use Rattle.type_table.specs.Zeros.{zero_words}
use Rattle.typing_rules.specs.Worths.{Worth, Typed, worth, type_of_field, element_of}
use Rattle.typing_rules.specs.Expressions.{nodes_of, ValueHas, DefaultHas, ExpressionsHave, default_type, ExpressionHas}
use Rattle.typing_rules.specs.Operations.{Given, given, given_values, GoesHas, PlaceHas, PlacesFail, PlacesHave, place_type}
use Rattle.typing_rules.specs.Simples.{SimpleHas, AssignedHave}
use Rattle.meaning.specs.Values.{known}
use Rattle.meaning.specs.Variables.{Blocks}
use Rattle.meaning.specs.Destinations.{placed}
use Rattle.meaning.specs.Tasks.{Course}
use Rattle.meaning.specs.Source.{simple_work}
use Rattle.codegen_base.specs.Layouts.{given_types, carried}
use Rattle.codegen_base.specs.Statements.{assigns, place_spots, taken_type, taken_types, pushes_right, right_types, simple_plan}
use Rattle.plan.specs.Plan.{Plan, Skip}
use Rattle.plan.proofs.Words.{Words}
use Rattle.codegen_base.proofs.Alike.{worth_alike}
use Rattle.codegen_base.proofs.Called.{same_count, AllFit}
use Rattle.codegen_base.proofs.Likeness.{assignable_zeros}
use Rattle.codegen_base.proofs.Typing.{Free, Fits, fits, nodes_end, worth_there}
use Rattle.codegen_base.proofs.Static.{variables_known}
use Rattle.codegen_follows.proofs.Stands.{View, scope_of, variables, Fine, OneMakes, ValuesMake}
use Rattle.codegen_follows.proofs.Places.{reaches, Suits, AllSuit, places_are, places_stay}
use Rattle.codegen_base.proofs.Running.{Compiled, Coded}
use Rattle.codegen_follows.proofs.Simulated.{Simulated, at, Works, Position, here_blocks, On'}
use Rattle.meaning.specs.Worked.{Worked}
use Rattle.codegen_follows.proofs.Channels.{channel_there}
use Rattle.codegen_follows.proofs.Rights.{gives_plain, gives_both}
use Rattle.codegen_base.proofs.Sides.{IsPlain, IsBoth, form, plain_given, given_long}
use Rattle.std.proofs.lemmas.List.{length-map}
use Rattle.codegen_follows.proofs.Rights.{default_fits}

-- values of these types, whose nodes are there
abbrev pub AreTyped : List Given → List ValueType → Type 0
AreTyped [] [] = Unit {0}
AreTyped (v ∷ vs) (kind ∷ kinds) = (v.worth ≡ Some (Typed kind)) × (1 ≤ v.nodes.end) × AreTyped vs kinds
AreTyped vs kinds = ⊥

pub typed_default : (o : Option ValueType) → known (default_type (option_map Typed o)) ≡ known o
typed_default None = refl
typed_default (Some kind) = refl

module _ {globals : Globals} {program : Compiled globals} (coded : Coded program) (ls : Words) (view : View) (fine : Fine coded view) where
  open program use {elements, wide as all}

  abbrev takes : Place → ValueType → ValueType
  takes place kind = taken_type globals elements (scope_of view) place kind

  abbrev all_taken : List Place → List ValueType → List ValueType
  all_taken places types = taken_types globals elements (scope_of view) places types

  abbrev Suit : Place → ValueType → ValueType → Type 0
  Suit place given taken = Suits coded ls view fine place given taken

  abbrev pub AllSuit' : List Place → List ValueType → List ValueType → Type 0
  AllSuit' places types others = AllSuit coded ls view fine places types others

  -- a value fits its lvalue, and takes its words
  place_fits : (place : Place) (first : ℕ) (v : Given) (w : Worth) → Free (PlaceHas globals view.checked first place) → v.worth ≡ Some w → 1 ≤ v.nodes.end → Free (GoesHas (is_blank place.name) v (place_type globals view.checked place))
      → Fits w (takes place (known (default_type (Some w)))) × Suit place (known (default_type (Some w))) (takes place (known (default_type (Some w))))
  place_fits place first v w free is positive goes = go (is_blank place.name) refl goes where
    kind : ValueType
    kind = known (default_type (Some w))

    go : (b : Bool) → is_blank place.name ≡ b → Free (GoesHas b v (place_type globals view.checked place))
        → Fits w (if b then kind else known (place_type globals (scope_of view) place)) × (zero_words globals.structs (if b then kind else known (place_type globals (scope_of view) place)) ≡ zero_words globals.structs (if b then kind else known (place_type globals view.checked place)))
    go true blank goes = (default_fits w v.nodes positive (λ violation x. goes violation (subst (λ o. DefaultHas o v.nodes violation) (sym is) x)), refl)
    go false blank goes =
        let r = reaches coded ls view fine place first blank free in
        let there : place_type globals (scope_of view) place ≡ Some r.kind = ap type_of_field r.selected_is in (
          subst (λ o. Fits w (known o)) (sym there) (fits w r.kind v.nodes positive (λ violation x. goes violation (subst (λ o. ValueHas o (place_type globals view.checked place) v.nodes violation) (sym is) (subst (λ o. ValueHas (Some w) o v.nodes violation) (sym r.checked_is) x)))),
          ap (λ o. zero_words globals.structs (known o)) (there ∙ sym r.checked_is),
        )

  pub values_suit : (places : List Place) (es : List Expression) (first second n : ℕ) → length es ≡ length places → Free (PlacesHave globals view.checked first places) → Free (ExpressionsHave globals view.checked second (expressions es)) → Free (PlacesFail globals view.checked places (given_values globals view.checked second es))
      → AllFit globals view.checked (expressions es) (all_taken places (given_types globals elements (given_values globals (scope_of view) n es))) × AllSuit' places (given_types globals elements (given_values globals (scope_of view) n es)) (all_taken places (given_types globals elements (given_values globals (scope_of view) n es)))
  values_suit [] [] first second n many free good goes = (tt, tt)
  values_suit [] (e ∷ es) first second n many free good goes = absurd cc
  values_suit (place ∷ places) [] first second n many free good goes = absurd cc
  values_suit (place ∷ places) (e ∷ es) first second n many free good goes =
      let w = worth_there globals view.checked program.types_known (variables_known view.checked (scope_of view) fine.alike fine.placed.known) e second (λ violation x. good violation (inl x)) in
      let one = place_fits place first (record { worth = worth globals view.checked e; nodes = nodes_of second e }) w.0 (λ violation x. free violation (inl x)) w.1 (nodes_end second e) (λ violation x. goes violation (inl x)) in
      let same : Some w.0 ≡ worth globals (scope_of view) e = sym w.1 ∙ worth_alike view.checked (scope_of view) fine.alike globals e in
      let left : suc (length es) ≡ suc (length places) = many in
      let more = values_suit places es (first + 1) (second + expression_size e) (n + expression_size e) (omega (arith, left)) (λ violation x. free violation (inr x)) (λ violation x. good violation (inr x)) (λ violation x. goes violation (inr x)) in (
        ((w.0, w.1, subst (λ o. Fits w.0 (takes place (known (default_type o)))) same one.0), more.0),
        (subst (λ o. Suit place (known (default_type o)) (takes place (known (default_type o)))) same one.1, more.1),
      )

  pub typed_suit : (places : List Place) (vs : List Given) (kinds : List ValueType) (first : ℕ) → AreTyped vs kinds → length vs ≡ length places → Free (PlacesHave globals view.checked first places) → Free (PlacesFail globals view.checked places vs) → AllSuit' places kinds kinds
  typed_suit [] [] [] first typed many free goes = tt
  typed_suit [] [] (kind ∷ kinds) first typed many free goes = absurd typed
  typed_suit [] (v ∷ vs) kinds first typed many free goes = absurd cc
  typed_suit (place ∷ places) [] kinds first typed many free goes = absurd cc
  typed_suit (place ∷ places) (v ∷ vs) [] first typed many free goes = absurd typed
  typed_suit (place ∷ places) (v ∷ vs) (kind ∷ kinds) first (is, positive, typed) many free goes =
      let one = place_fits place first v (Typed kind) (λ violation x. free violation (inl x)) is positive (λ violation x. goes violation (inl x)) in
      let left : suc (length vs) ≡ suc (length places) = many in
      (assignable_zeros globals.structs kind (takes place kind) one.0 ∙ one.1, typed_suit places vs kinds (first + 1) typed (omega (arith, left)) (λ violation x. free violation (inr x)) (λ violation x. goes violation (inr x)))

module _ {globals : Globals} {program : Compiled globals} {coded : Coded program} {simulated : Simulated coded} (position : Position simulated) where
  open program use {elements, code, wide as all}
  open coded use {function as f, number as g, there, result}
  open simulated use {running, running.{context, context.{callers as ds}}}
  open position use {point, next, mid, tasks as k, together as t, rest as r, point.{locals as ls, around as l, view, fine, room, held as h}}

  abbrev structs : Structs
  structs = globals.structs

  abbrev Works' : Worked Course → CodeFrames → Type 0
  Works' work c = Works simulated work c

  abbrev place_at : ℕ → Words → Words → CodeFrames
  place_at place ls stack = at simulated place ls stack

  abbrev blocks : Blocks
  blocks = here_blocks point

  abbrev scope : Scope
  scope = scope_of view

  abbrev On : Plan → ℕ → Type 0
  On plan place = On' point plan place mid

  -- the types of what one receive gives for two
  pub both_types : (e : Expression) → right_types globals elements scope (suc (suc zero)) (Receive e ∷ []) ≡ carried globals elements scope e ∷ BoolType ∷ []
  both_types e = ap (λ kind. kind ∷ BoolType ∷ []) (typed_default (element_of (worth globals scope e)))

  pub both_typed : (e : Expression) (first : ℕ) → Free (ExpressionHas globals view.checked first (Receive e)) → OneMakes globals elements e → AreTyped (given globals view.checked (suc (suc zero)) first (Receive e ∷ [])) (carried globals elements scope e ∷ BoolType ∷ [])
  both_typed e first free makes =
      let c = channel_there point e first (λ violation x. free violation (inl x)) makes (λ violation x. free violation (inr (inl x))) in
      let w : worth globals view.checked (Receive e) ≡ Some (Typed (carried globals elements scope e)) = ap (λ o. option_map Typed (element_of o)) c.is ∙ ap (λ j. Some (Typed j)) (sym c.carries) in
      (w, nodes_end first (Receive e), (refl, nodes_end first (Receive e), tt))

  assign_plain : (places : List Place) (es : List Expression) (first place : ℕ) → IsPlain (length places) es → ValuesMake globals elements es → Free (SimpleHas globals view.checked first (Assign places es)) → On (simple_plan globals elements view.site.layout view.site.prints (Assign places es)) place
      → variables next ≡ variables view → scope.words ≤ length f.locals → Works' (simple_work globals blocks k (Assign places es)) (place_at place ls [])
  assign_plain places es first place plain makes free on same most =
      let second = first + length places in
      let end = first + simple_size (Assign places es) in
      let given-is = plain_given globals view.checked (length places) second es plain in
      let vs = given_values globals view.checked second es in
      let assigned : Free (AssignedHave globals view.checked places vs end) = λ violation x. free violation (inr (inr (subst (λ (l : List Given). AssignedHave globals view.checked places l end violation) (sym given-is) x))) in
      let many = same_count (length vs) (length places) end (omega arith) (λ violation x. assigned violation (inl x)) in
      let types = given_types globals elements (given_values globals scope 0 es) in
      let types-are : right_types globals elements scope (length places) es ≡ types = ap (given_types globals elements) (plain_given globals scope (length places) 0 es plain) in
      let others = taken_types globals elements scope places types in
      let spots = place_spots globals elements scope places types in
      let suit = values_suit coded ls view fine places es first second 0 (sym (given_long globals view.checked second es) ∙ many) (λ violation x. free violation (inl x)) (λ violation x. free violation (inr (inl x))) (λ violation x. assigned violation (inr x)) in
      let stay = places_stay coded ls view fine places in
      let destinations = map (placed globals blocks) places in
      let count-is : length destinations ≡ length places = length-map places (placed globals blocks) in
      let on1 : On (pushes_right globals elements scope (length places) others es (assigns spots Skip)) place = subst (λ (ts : List ValueType). On (pushes_right globals elements scope (length places) (taken_types globals elements scope places ts) es (assigns (place_spots globals elements scope places ts) Skip)) place) types-are on in
      gives_plain position destinations others spots (length places) es second place count-is plain
      (record {
        are = places_are coded ls view fine places first types others (λ violation x. free violation (inl x)) suit.1;
        fit = subst (λ (s : Scope). s.words ≤ length f.locals) (sym stay) most;
        variables_are = same ∙ ap (λ (s : Scope). s.variables) (sym stay);
      }) (λ violation x. free violation (inr (inl x))) makes suit.0 on1

  assign_both : (places : List Place) (e : Expression) (first place : ℕ) → length places ≡ suc (suc zero) → OneMakes globals elements e → Free (SimpleHas globals view.checked first (Assign places (Receive e ∷ []))) → On (simple_plan globals elements view.site.layout view.site.prints (Assign places (Receive e ∷ []))) place
      → variables next ≡ variables view → scope.words ≤ length f.locals → Works' (simple_work globals blocks k (Assign places (Receive e ∷ []))) (place_at place ls [])
  assign_both places e first place two makes free on same most =
      let es : List Expression = Receive e ∷ [] in
      let second = first + length places in
      let end = first + simple_size (Assign places es) in
      let good : Free (ExpressionHas globals view.checked second (Receive e)) = λ violation x. free violation (inr (inl (inl x))) in
      let vs = given globals view.checked (suc (suc zero)) second es in
      let assigned : Free (AssignedHave globals view.checked places vs end) = λ violation x. free violation (inr (inr (subst (λ n. AssignedHave globals view.checked places (given globals view.checked n second es) end violation) (sym two) x))) in
      let many = same_count (length vs) (length places) end (omega arith) (λ violation x. assigned violation (inl x)) in
      let types : List ValueType = carried globals elements scope e ∷ BoolType ∷ [] in
      let suit = typed_suit coded ls view fine places vs types first (both_typed e second good makes) many (λ violation x. free violation (inl x)) (λ violation x. assigned violation (inr x)) in
      let stay = places_stay coded ls view fine places in
      let destinations = map (placed globals blocks) places in
      let spots = place_spots globals elements scope places types in
      let types-are : right_types globals elements scope (length places) es ≡ types = ap (λ n. right_types globals elements scope n es) two ∙ both_types e in
      let on1 : On (pushes_right globals elements scope (length places) (taken_types globals elements scope places types) es (assigns spots Skip)) place =
      subst (λ (ts : List ValueType). On (pushes_right globals elements scope (length places) (taken_types globals elements scope places ts) es (assigns (place_spots globals elements scope places ts) Skip)) place) types-are on in
      gives_both position destinations (taken_types globals elements scope places types) types spots (length places) e second place (length-map places (placed globals blocks)) two refl
      (record {
        are = places_are coded ls view fine places first types types (λ violation x. free violation (inl x)) suit;
        fit = subst (λ (s : Scope). s.words ≤ length f.locals) (sym stay) most;
        variables_are = same ∙ ap (λ (s : Scope). s.variables) (sym stay);
      }) good makes on1

  pub assign_goes : (places : List Place) (right : List Expression) (first place : ℕ) → ValuesMake globals elements right → Free (SimpleHas globals view.checked first (Assign places right)) → On (simple_plan globals elements view.site.layout view.site.prints (Assign places right)) place
      → variables next ≡ variables view → scope.words ≤ length f.locals → Works' (simple_work globals blocks k (Assign places right)) (place_at place ls [])
  assign_goes places right first place makes free on same most = go (form (length places) right) where
    go : IsBoth (length places) right ⊎ IsPlain (length places) right → Works' (simple_work globals blocks k (Assign places right)) (place_at place ls [])
    go (inr plain) = assign_plain places right first place plain makes free on same most
    go (inl (e, two, is)) =
        subst (λ (x : List Expression). ValuesMake globals elements x → Free (SimpleHas globals view.checked first (Assign places x)) → On (simple_plan globals elements view.site.layout view.site.prints (Assign places x)) place → Works' (simple_work globals blocks k (Assign places x)) (place_at place ls [])) (sym is)
        (λ m fr o. assign_both places e first place two m.0 fr o same most) makes free on
