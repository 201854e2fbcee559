-- Loops over channels whose items go somewhere.
use Rattle.std.proofs.Common.{◌≡◌, ℕ, ◌+◌, ◌≤◌, Bool, true, false, List, [], ◌∷◌, length, take, drop, Option, Some, None, option_map, refl, sym, ap, ◌∙◌, subst, arith, inl, inr}
use Rattle.std.specs.Prelude.{if◌then◌else◌, ◌&&◌, ◌||◌, not}
use Rattle.std.specs.Option.{is_none}
use Rattle.std.specs.List.{list_any}
use Rattle.go_text.specs.declared.rule.Rule.TheVariants as rules
use Rattle.syntax.specs.Tree.{Expression, Target, DefineTarget, AssignTarget, Place, For, Range, Statements}
use Rattle.syntax.specs.Measures.{target_size}
use Rattle.bytecode.specs.Machine.{Frames as CodeFrames}
use Rattle.type_table.specs.Types.{ValueType}
use Rattle.type_table.specs.Containment.{Structs}
use Rattle.type_table.specs.Zeros.{zero_words}
use Rattle.type_table.specs.Scopes.{Scope, entered, declared, is_blank, own_variable, last_named, Globals}
use Rattle.typing_rules.specs.Worths.{Typed, worth}
use Rattle.typing_rules.specs.Expressions.{ExpressionHas, ChannelHas, nodes_of, element_of}
use Rattle.typing_rules.specs.Operations.{PlacesHave, PlacesFail}
use Rattle.typing_rules.specs.Simples.{has_twice, is_declarable, DefinedHave}
use Rattle.typing_rules.specs.Statements.{item_given, after_for_head}
use Rattle.meaning.specs.Values.{words_in, whole, slot_along}
use Rattle.meaning.specs.Variables.{Blocks, Destination, Nowhere, New, Into, kind_of}
use Rattle.meaning.specs.Tasks.{Course}
use Rattle.meaning.specs.Source.{item_destinations, statement_work}
use Rattle.meaning.specs.Destinations.{placed, place_slot}
use Rattle.codegen_base.specs.Layouts.{Layout, entering, keeping, carried, declaring}
use Rattle.codegen_base.specs.Statements.{Spot, Local, width, assigns, name_spot, own_spot, place_spot}
use Rattle.codegen_base.specs.Generated.{at, inside, takes, item_site, made_all}
use Rattle.plan.specs.Plan.{Plan, Skip}
use Rattle.plan.proofs.Words.{Words}
use Rattle.codegen_base.proofs.Alike.{drop_all}
use Rattle.codegen_base.proofs.Likeness.{kinds_long}
use Rattle.codegen_base.proofs.Seen.{seen, seen_one, seen_lookup}
use Rattle.codegen_base.proofs.Typing.{Free, broken, nodes_end}
use Rattle.codegen_follows.proofs.Outers.{has_same, worth_same}
use Rattle.codegen_follows.proofs.Places.{places_are, places_stay}
use Rattle.codegen_follows.proofs.Sets.{typed_suit}
use Rattle.codegen_follows.proofs.Stands.{Around, View, scope_of, variables, Together, Doing, Fine, IsOn, Items, Assigning, RangingAt, item_view}
use Rattle.codegen_follows.proofs.Begun.{take_front}
use Rattle.codegen_follows.proofs.Grown.{grown_statements}
use Rattle.codegen_follows.proofs.Declared.{fine_declared}
use Rattle.codegen_follows.proofs.Ranges.{unfound, other_than_blank, kept_view, channel, fine_item, loop_at, kept_goes}
use Rattle.codegen_base.proofs.Running.{Compiled, Coded}
use Rattle.codegen_follows.proofs.Simulated.{Simulated, at as at_place, Works, Position, here_blocks, On'}
use Rattle.meaning.specs.Worked.{Worked}
use Rattle.codegen_follows.proofs.Channels.{IsChannel, channel_there}
use Rattle.codegen_follows.proofs.Follows.{map_reached}
use Rattle.meaning.specs.Expressions.{element_kind}

-- a single name that a `:=` may have is not `_`
single_named : (s : Scope) (name : List ℕ) (end : ℕ) → 1 ≤ end → Free (DefinedHave s (name ∷ []) end) → is_blank name ≡ false
single_named s name end le free = go (is_blank name) refl where
  go : (b : Bool) → is_blank name ≡ b → is_blank name ≡ false
  go true blank =
      let b = broken rules.NewName end le in
      let none : (has_twice (name ∷ []) || not (list_any (is_declarable s) (name ∷ []))) ≡ true = ap (λ t. ((not t && false) || false) || not ((not t && is_none (own_variable s name)) || false)) blank in
      absurd (free b.0 (inr (none, b.1)))
  go false is = is

-- in a block that begins it is new
begun_declarable : (s : Scope) (name : List ℕ) → is_blank name ≡ false → is_declarable (entered s) name ≡ true
begun_declarable s name no-blank =
    ap (λ b. not b && is_none (if b then None else last_named (drop (length s.variables) s.variables) name)) no-blank ∙ ap (λ vs. is_none (last_named vs name)) (drop_all s.variables)

module _ {globals : Globals} {program : Compiled globals} {coded : Coded program} {simulated : Simulated coded} (position : Position simulated) where
  open program use {elements, code, wide as all}
  open coded use {function as f, number as g, there, result}
  open simulated use {running, running.{context, context.{callers as ds}}}
  open position use {point, next, mid, tasks as k, together as t, rest as r, point.{locals as ls, around as l, view, fine, room, held as h}}

  abbrev structs : Structs
  structs = globals.structs

  abbrev Works' : Worked Course → CodeFrames → Type 0
  Works' work c = Works simulated work c

  abbrev place_at : ℕ → Words → Words → CodeFrames
  place_at place ls stack = at_place simulated place ls stack

  abbrev blocks : Blocks
  blocks = here_blocks point

  abbrev scope : Scope
  scope = scope_of view

  abbrev On : Plan → ℕ → Type 0
  On plan place = On' point plan place mid

  abbrev kept : Expression → View
  kept e = kept_view coded view fine e

  abbrev item : Expression → View
  item e = item_view coded (kept e) (entered view.checked)

  fine_here : (e : Expression) → Fine coded (item e)
  fine_here e = fine_item coded view fine e

  abbrev Channel' : Expression → Type 0
  Channel' e = IsChannel point e

  -- the block of an item, with the target's variable
  abbrev taken_view : Target → Expression → View
  taken_view target e = record {
    site = item_site globals elements result view.site target e;
    begins = length (variables (kept e)) ∷ (kept e).begins;
    checked = after_for_head globals (entered view.checked) (Range target e);
  }

  abbrev Ranged : Target → Expression → Statements → ℕ → Type 0
  Ranged target e body place = Doing coded l view (For (Range target e) body) place mid

  abbrev goals : Target → Expression → List Destination
  goals target e = item_destinations globals blocks k (element_kind globals blocks e) target

  abbrev within_loop : Option ℕ → Around
  within_loop again = record { leave = mid; again = again }

  abbrev taken : Target → Expression → Plan
  taken target e = takes globals elements result (entering (keeping globals elements e view.site.layout)) (carried globals elements scope e) target

  channel_free : (target : Target) (e : Expression) (body : Statements) (place : ℕ) (d : Ranged target e body place) → Free (ExpressionHas globals view.checked (d.first + target_size target) e)
  channel_free target e body place d = let s = view.checked in λ violation x. d.good violation (inl (inr (inl (inl (has_same globals s.variables s.outer (length s.variables) s.words s.words e (d.first + target_size target) violation x)))))

  outer_worth : (e : Expression) → worth globals view.checked e ≡ worth globals (entered view.checked) e
  outer_worth e = let s = view.checked in worth_same globals s.variables s.outer (length s.variables) s.words s.words e

  channel_is : (target : Target) (e : Expression) (body : Statements) (place : ℕ) → Ranged target e body place → Channel' e
  channel_is target e body place d =
      let first = d.first + target_size target in
      channel_there point e first (channel_free target e body place d) d.makes.0 (λ violation x. d.good violation (inl (inr (inl (inr (inl (subst (λ o. ChannelHas o (nodes_of first e) violation) (outer_worth e) x)))))))

  -- the words of the item's block are there
  body_room : (target : Target) (e : Expression) (body : Statements) (place : ℕ) → Ranged target e body place → (scope_of (taken_view target e)).words ≤ length f.locals
  body_room target e body place d =
      let more = (grown_statements globals elements result (inside (taken_view target e).site) body).words in
      let most = d.fits.room in
      omega (arith, more, most)

  -- a loop whose items go to its target
  target_goes : (target : Target) (e : Expression) (body : Statements) (place : ℕ) → Ranged target e body place → (c : Channel' e) → Fine coded (taken_view target e) → Together (item e) (taken_view target e) → (scope_of (kept e)).words ≤ (scope_of (taken_view target e)).words
      → ((again m : Option ℕ) (p : ℕ) → IsOn coded (within_loop again) (taken target e) p m → Items coded (within_loop again) (item e) c.element (goals target e) (taken_view target e) p m) → variables next ≡ variables view
      → Works' (statement_work globals blocks k (For (Range target e) body)) (place_at place ls [])
  target_goes target e body place d c fine_taken u wider items same =
      let last = taken_view target e in
      let most = body_room target e body place d in
      let enough : (scope_of (kept e)).words ≤ length f.locals = omega (arith, wider, most) in
      let zero = zero_words globals.structs (element_kind globals blocks e) in
      kept_goes position e body (goals target e) (d.first + target_size target) (channel_free target e body place d) d.makes.0 c enough place d.on.0 d.on.1
      (map_reached simulated d.on.0 _ (λ p. RangingAt coded l (kept e) (goals target e) zero body p mid)
      (λ p x. loop_at position e body c (goals target e) (taken target e) (made_all globals elements result (inside last.site) body).plan last u enough items
      (λ again p on. record { first = _; breaks = true; continues = true; fine = fine_taken; good = λ violation y. d.good violation (inr y); makes = d.makes.1; on = on; fits = record { tables = d.fits.tables; room = d.fits.room } }) p x) d.on.2) same

  -- ---- a variable of its own for each item

  abbrev view_with : Expression → Layout → Scope → View
  view_with e layout checked = record { site = at layout view.site; begins = length (variables (kept e)) ∷ (kept e).begins; checked = checked }

  abbrev named_layout : Expression → List ℕ → ValueType → Layout
  named_layout e name kind = declaring globals elements kind name (item e).site.layout

  layout_is : (e : Expression) (name : List ℕ) (c : Channel' e) → is_blank name ≡ false → (taken_view (DefineTarget name) e).site.layout ≡ named_layout e name c.element
  layout_is e name c no-blank =
      ap (λ b. if b then named_layout e name (carried globals elements scope e) else (item e).site.layout) (begun_declarable (scope_of (kept e)) name no-blank)
      ∙ ap (named_layout e name) c.carries

  checked_is : (e : Expression) (name : List ℕ) (c : Channel' e) → is_blank name ≡ false → (taken_view (DefineTarget name) e).checked ≡ declared globals.structs (entered view.checked) (Some c.element) name
  checked_is e name c no-blank =
      ap (λ b. if b then entered view.checked else declared globals.structs (entered view.checked) (element_of (worth globals (entered view.checked) e)) name) no-blank
      ∙ ap (λ o. declared globals.structs (entered view.checked) (element_of o) name) (sym (outer_worth e) ∙ c.is)

  fine_named : (e : Expression) (name : List ℕ) (c : Channel' e) → is_blank name ≡ false → Fine coded (taken_view (DefineTarget name) e)
  fine_named e name c no-blank =
      subst (λ (x : Layout). Fine coded (view_with e x (taken_view (DefineTarget name) e).checked)) (sym (layout_is e name c no-blank))
      (subst (λ (s : Scope). Fine coded (view_with e (named_layout e name c.element) s)) (sym (checked_is e name c no-blank))
      (fine_declared coded (item e) name c.element (fine_here e) c.noted.0))

  -- the destination of an item of a new variable
  new_goal : (e : Expression) (name : List ℕ) (c : Channel' e) → is_blank name ≡ false → goals (DefineTarget name) e ≡ New name c.element ∷ []
  new_goal e name c no-blank = ap (λ b. (if b then Nowhere else New name (element_kind globals blocks e)) ∷ []) no-blank ∙ ap (λ kind. New name kind ∷ []) c.runs

  new_spot : (e : Expression) (name : List ℕ) (c : Channel' e) → is_blank name ≡ false
      → name_spot globals elements (item e).site.layout name (carried globals elements scope e) ≡ Local (scope_of (item e)).words (words_in globals.structs c.element)
  new_spot e name c no-blank =
      let s = scope_of (item e) in
      let kind = carried globals elements scope e in
      ap (λ b. if b then Local s.words (width globals elements s kind) else own_spot globals elements s kind (own_variable s name)) (begun_declarable (scope_of (kept e)) name no-blank)
      ∙ ap (Local s.words) (kinds_long globals.structs elements kind ∙ ap (words_in globals.structs) c.carries)

  new_items : (e : Expression) (name : List ℕ) (body : Statements) (place : ℕ) → Ranged (DefineTarget name) e body place → (c : Channel' e) → is_blank name ≡ false → (again m : Option ℕ) (p : ℕ)
      → IsOn coded (within_loop again) (taken (DefineTarget name) e) p m → Items coded (within_loop again) (item e) c.element (goals (DefineTarget name) e) (taken_view (DefineTarget name) e) p m
  new_items e name body place d c no-blank again m p on =
      let structs = globals.structs in
      let spot = Local (scope_of (item e)).words (words_in structs c.element) in
      let following = ap (λ (x : Layout). x.scope) (layout_is e name c no-blank) in
      let most = body_room (DefineTarget name) e body place d in
      let assigning : Assigning coded (within_loop again) (item e) 0 (c.element ∷ []) (New name c.element ∷ []) (taken_view (DefineTarget name) e) p m = record {
        spots = spot ∷ [];
        fine = fine_here e;
        spots_are = ((refl, refl), tt);
        room = subst (λ (s : Scope). s.words ≤ length f.locals) following most;
        on = subst (λ (x : Spot). IsOn coded (within_loop again) (assigns (x ∷ []) Skip) p m) (new_spot e name c no-blank) on;
        variables_are = ap (λ (s : Scope). s.variables) following;
      } in
      subst (λ (ds : List Destination). Items coded (within_loop again) (item e) c.element ds (taken_view (DefineTarget name) e) p m) (sym (new_goal e name c no-blank)) (c.element, refl, assigning)

  pub define_range_goes : (name : List ℕ) (e : Expression) (body : Statements) (place : ℕ) → Ranged (DefineTarget name) e body place → variables next ≡ variables view → Works' (statement_work globals blocks k (For (Range (DefineTarget name) e) body)) (place_at place ls [])
  define_range_goes name e body place d same =
      let c = channel_is (DefineTarget name) e body place d in
      let no-blank = single_named (entered view.checked) name _ (omega arith) (λ violation x. d.good violation (inl (inr (inr x)))) in
      let following : Layout.scope (taken_view (DefineTarget name) e).site.layout ≡ _ = ap (λ (x : Layout). x.scope) (layout_is e name c no-blank) in
      let vs = variables (item e) in
      target_goes (DefineTarget name) e body place d c (fine_named e name c no-blank)
      (refl, ap (λ (s : Scope). take (length vs) s.variables) following ∙ take_front (length vs) vs _ (omega arith))
      (subst (λ (s : Scope). (scope_of (kept e)).words ≤ s.words) (sym following) (omega arith))
      (new_items e name body place d c no-blank) same

  -- ---- an lvalue that is assigned

  -- an lvalue is the same in the block of an item
  place_same : (e : Expression) (place : Place) → placed globals (seen globals.structs ls (variables (item e)) (item e).begins) place ≡ placed globals blocks place
  place_same e place = go (is_blank place.name) refl where
    structs : Structs
    structs = globals.structs

    inner : Blocks
    inner = seen structs ls (variables (item e)) (item e).begins

    go : (b : Bool) → is_blank place.name ≡ b → (if b then Nowhere else Into place.name (place_slot globals inner place)) ≡ (if b then Nowhere else Into place.name (place_slot globals blocks place))
    go true blank = refl
    go false no-blank =
        ap (λ o. Into place.name (slot_along structs (whole (kind_of o)) place.fields))
        (seen_lookup structs ls (variables (item e)) (item e).begins place.name
        ∙ ap (option_map (seen_one structs ls)) (unfound (variables view) (channel coded view fine e) place.name (other_than_blank place.name no-blank))
        ∙ sym (seen_lookup structs ls (variables view) view.begins place.name))

  place_items : (to : Place) (e : Expression) (body : Statements) (place : ℕ) → Ranged (AssignTarget to) e body place → (c : Channel' e) → (again m : Option ℕ) (p : ℕ)
      → IsOn coded (within_loop again) (taken (AssignTarget to) e) p m → Items coded (within_loop again) (item e) c.element (goals (AssignTarget to) e) (taken_view (AssignTarget to) e) p m
  place_items to e body place d c again m p on =
      let structs = globals.structs in
      let inner = seen structs ls (variables (item e)) (item e).begins in
      let given = item_given globals (entered view.checked) (d.first + 1) e in
      let suit = typed_suit coded ls (item e) (fine_here e) (to ∷ []) (given ∷ []) (c.element ∷ []) d.first
      (ap (λ o. option_map Typed (element_of o)) (sym (outer_worth e) ∙ c.is), nodes_end (d.first + 1) e, tt) refl place_free goes_free in
      let stay = places_stay coded ls (item e) (fine_here e) (to ∷ []) in
      let assigning : Assigning coded (within_loop again) (item e) 0 (c.element ∷ []) (placed globals inner to ∷ []) (taken_view (AssignTarget to) e) p m = record {
        spots = place_spot globals elements (scope_of (item e)) to c.element ∷ [];
        fine = fine_here e;
        spots_are = places_are coded ls (item e) (fine_here e) (to ∷ []) d.first (c.element ∷ []) (c.element ∷ []) place_free suit;
        room = subst (λ (s : Scope). s.words ≤ length f.locals) (sym stay) (body_room (AssignTarget to) e body place d);
        on = subst (λ kind. IsOn coded (within_loop again) (assigns (place_spot globals elements (scope_of (item e)) to kind ∷ []) Skip) p m) c.carries on;
        variables_are = ap (λ (s : Scope). s.variables) (sym stay);
      } in
      subst (λ (x : Destination). Items coded (within_loop again) (item e) c.element (x ∷ []) (taken_view (AssignTarget to) e) p m) (place_same e to) (c.element, refl, assigning) where
        place_free : Free (PlacesHave globals (entered view.checked) d.first (to ∷ []))
        place_free violation (inl x) = d.good violation (inl (inl x))
        place_free violation (inr x) = absurd x

        goes_free : Free (PlacesFail globals (entered view.checked) (to ∷ []) (item_given globals (entered view.checked) (d.first + 1) e ∷ []))
        goes_free violation (inl x) = d.good violation (inl (inr (inr x)))
        goes_free violation (inr x) = absurd x

  pub assign_range_goes : (to : Place) (e : Expression) (body : Statements) (place : ℕ) → Ranged (AssignTarget to) e body place → variables next ≡ variables view → Works' (statement_work globals blocks k (For (Range (AssignTarget to) e) body)) (place_at place ls [])
  assign_range_goes to e body place d same =
      let c = channel_is (AssignTarget to) e body place d in
      target_goes (AssignTarget to) e body place d c (fine_here e) (refl, refl) (omega arith) (place_items to e body place d c) same
