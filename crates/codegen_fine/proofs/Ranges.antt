-- A range with which nothing is wrong keeps the verifier's rules, if its body does.
use Rattle.std.proofs.Common.{◌≡◌, ℕ, ◌+◌, ◌≤◌, Bool, true, false, not, ◌&&◌, ◌||◌, List, [], ◌∷◌, ◌++◌, length, drop, Option, Some, None, option_map, refl, sym, ap, ◌∙◌, subst, arith, inl, inr, ◌⊎◌, bytes_eq}
use Rattle.std.specs.Prelude.{if◌then◌else◌}
use Rattle.std.proofs.lemmas.Bool.{OnTrue_from, OnTrue_at, true≢false}
use Rattle.std.proofs.lemmas.Option.{same_Some}
use Rattle.std.proofs.lemmas.Slice.Eq.{bytes_eq-Decides}
use Rattle.syntax.specs.Tree.{Place, Target, NoTarget, DefineTarget, AssignTarget, Range, For}
use Rattle.syntax.specs.Measures.{target_size}
use Rattle.bytecode.specs.declared.instr.WordKind.{WordKind}
use Rattle.bytecode.specs.declared.instr.WordKind.TheVariants as kinds
use Rattle.bytecode.specs.declared.instr.Instr.TheVariants as instrs
use Rattle.bytecode.specs.Code.{Function as CodeFunction, Code}
use Rattle.type_table.specs.Types.{ValueType, ChannelType}
use Rattle.type_table.specs.Containment.{Structs}
use Rattle.type_table.specs.Scopes.{Globals, Scope, Variable, Yield, is_blank, later, last_named, own_variable, entered, declared}
use Rattle.typing_rules.specs.Worths.{Typed as TypedWorth, worth}
use Rattle.typing_rules.specs.Expressions.{default_type, element_of}
use Rattle.typing_rules.specs.Operations.{Given, PlaceHas, PlacesHave, GoesHas, place_type}
use Rattle.typing_rules.specs.Simples.{has_name, has_twice}
use Rattle.typing_rules.specs.Statements.{TargetHas, TakenHas, item_given, after_target}
use Rattle.meaning.specs.Values.{known}
use Rattle.meaning.specs.Variables.{blank}
use Rattle.codegen_base.specs.declared.element.Element.{Element}
use Rattle.codegen_base.specs.Elements.{kinds_of, shape_of}
use Rattle.codegen_base.specs.Layouts.{Layout, entering, leaving, type_of, carried, keeping, following_target}
use Rattle.codegen_base.specs.Pushes.{drops}
use Rattle.codegen_base.specs.Statements.{Spot, Local, stores, place_spot, taken_type, name_spot, name_type}
use Rattle.codegen_base.specs.Generated.{inside, item_site, made, made_all, keeps, receives, takes}
use Rattle.codegen_base.proofs.Alike.{kind_if, Alike, last_append, drop_all}
use Rattle.codegen_base.proofs.Noted.{Noted}
use Rattle.codegen_base.proofs.Typing.{Free, nodes_end}
use Rattle.plan.specs.Plan.{Skip, Do, Seq, Cycle, reaches_end, turns}
use Rattle.plan.proofs.Tables.{Tabled}
use Rattle.plan.proofs.Typed.{in_loop, Typed}
use Rattle.codegen_fine.proofs.Sees.{worth_sees}
use Rattle.codegen_fine.proofs.Pushing.{drops_typed, puts_locals}
use Rattle.codegen_fine.proofs.Operands.{Grounds}
use Rattle.codegen_fine.proofs.Operations.{channel_there}
use Rattle.codegen_fine.proofs.Requests.{receives_typed}
use Rattle.codegen_fine.proofs.Spots.{SpotFits, stand_range, stores_typed, ticks_typed}
use Rattle.codegen_fine.proofs.Places.{housed_of}
use Rattle.codegen_fine.proofs.Givens.{taken, typed_taken}
use Rattle.codegen_fine.proofs.Layouts.{own_same, longer_no, Begins, begins_before, Room, room_entering, room_leaving, new_housed, room_declaring, names_fit}
use Rattle.codegen_fine.proofs.Assigns.{place_want, places_fit, places_fail, places_noted}
use Rattle.codegen_fine.proofs.Variables.{alike_values, variables_are, taken_alike}
use Rattle.codegen_fine.proofs.Growing.{longer_as, longer_target, longer_statements}
use Rattle.codegen_fine.proofs.Returns.{IsResult}
use Rattle.codegen_fine.proofs.Statements.{RangesHold}

-- ---- a variable that nothing names

blank_other : (name : List ℕ) → is_blank name ≡ false → bytes_eq blank name ≡ false
blank_other name e = go (bytes_eq blank name) refl where
  go : (t : Bool) → bytes_eq blank name ≡ t → bytes_eq blank name ≡ false
  go false is = is
  go true is = absurd (true≢false (ap is_blank ((bytes_eq-Decides blank name).0 is) ∙ e))

alike_blank : (structs : Structs) (s t : Scope) (kind : ValueType) → Alike s t → Alike (entered s) (entered (declared structs t (Some kind) blank))
alike_blank structs s t kind alike =
    let v : Variable = record { name = blank; kind = Some kind; place = t.words } in
    record {
      named = λ name e. alike.named name e ∙ sym (ap kind_if (last_append t.variables v name ∙ ap (λ b. later (last_named t.variables name) (if b then Some v else None)) (blank_other name e)));
      own = λ name e. ap (λ vs. kind_if (last_named vs name)) (drop_all s.variables) ∙ sym (ap (λ vs. kind_if (last_named vs name)) (drop_all (t.variables ++ v ∷ [])));
      fits = omega arith;
      fit = omega arith;
    }

new_entered : (s : Scope) (name : List ℕ) → own_variable (entered s) name ≡ None
new_entered s name = go (is_blank name) where
  go : (b : Bool) → (if b then None else last_named (drop (length s.variables) s.variables) name) ≡ None
  go true = refl
  go false = ap (λ vs. last_named vs name) (drop_all s.variables)

one_once : (name : List ℕ) → has_twice (name ∷ []) ≡ false
one_once name = go (is_blank name) where
  go : (b : Bool) → ((not b && has_name [] name) || has_twice []) ≡ false
  go true = refl
  go false = refl

one_of : (P : Type 0) → (P → ⊥) → P ⊎ ⊥ → ⊥
one_of P never (inl p) = never p
one_of P never (inr x) = x

place_taken : (globals : Globals) (elements : List Element) (scope : Scope) (place : Place) (kind : ValueType) → taken_type globals elements scope place kind ≡ taken (place_want globals scope place) kind
place_taken globals elements scope place kind = go (is_blank place.name) where
  go : (b : Bool) → (if b then kind else known (place_type globals scope place)) ≡ taken (if b then None else Some (known (place_type globals scope place))) kind
  go true = refl
  go false = refl

module _ (globals : Globals) (elements : List Element) (code : Code) (f : CodeFunction) (grounds : Grounds globals elements code) where
  abbrev kinds_in : ValueType → List WordKind
  kinds_in = kinds_of globals.structs elements

  -- ---- the item goes to its target

  -- the layout of an item, and what goes there
  record Goes (result : Yield) (layout : Layout) (s : Scope) (kind : ValueType) (target : Target) (o : Option ValueType) (following : Layout) : Type 0 where
    taken : Typed code f in_loop (kinds_in kind) (takes globals elements result layout kind target) []
    room : Room globals elements code f following
    alike : Alike (after_target globals s o target) following.scope

  stored : (layout : Layout) (kind : ValueType) (spot : Spot) (js : List WordKind) → js ≡ kinds_in kind → SpotFits globals.structs elements code f spot js → Typed code f in_loop (kinds_in kind) (stores spot (Do instrs.Tick Skip)) []
  stored layout kind spot js same fit =
      stores_typed globals.structs elements code f spot (kinds_in kind) (subst (SpotFits globals.structs elements code f spot) same fit) in_loop [] [] (Do instrs.Tick Skip) (ticks_typed globals.structs elements code f in_loop [] [] Skip refl)

  goes : (layout : Layout) (room : Room globals elements code f layout) (s : Scope) (alike : Alike (entered s) layout.scope) (fresh : (name : List ℕ) → own_variable layout.scope name ≡ None) (kind : ValueType) (noted : Noted elements kind) (item : Given) (target : Target) (first end : ℕ)
      → item.worth ≡ Some (TypedWorth kind) → 1 ≤ item.nodes.end → Free (TargetHas globals (entered s) first target) → Free (TakenHas globals (entered s) target item end) → Begins f (following_target globals elements kind target layout)
      → (result : Yield) → Goes result layout (entered s) kind target (Some kind) (following_target globals elements kind target layout)
  goes layout room s alike fresh kind noted item NoTarget first end is le free fit_goes begins _ =
      record { taken = drops_typed globals.structs elements code f (kinds_in kind) in_loop [] [] Skip refl; room = room; alike = alike }
  goes layout room s alike fresh kind noted item (DefineTarget name) first end is le free fit_goes begins _ =
      let names = name ∷ [] in
      let n = names_fit globals elements code f grounds names (alike_values names kind) layout layout (entered s) room begins alike (own_same layout.scope names) (one_once name) (taken_alike globals elements code f grounds layout.scope names kind noted) in
      let after = variables_are globals elements names kind (entered s) (entered s) alike.fits (own_same (entered s) names) (new_entered s name, tt) (one_once name) in
      record {
        taken = stored layout kind (name_spot globals elements layout name kind) (kinds_in (name_type globals elements kind (own_variable layout.scope name))) (ap (λ o. kinds_in (name_type globals elements kind o)) (fresh name)) n.fit.0;
        room = n.room;
        alike = subst (λ x. Alike x (following_target globals elements kind (DefineTarget name) layout).scope) after n.alike;
      }
  goes layout room s alike fresh kind noted item (AssignTarget place) first end is le free fit_goes begins _ =
      let places = place ∷ [] in
      let fine : Free (PlacesHave globals (entered s) first places) = λ violation h. one_of (PlaceHas globals (entered s) first place violation) (free violation) h in
      let t = typed_taken globals elements (place_want globals layout.scope place) kind item is le (places_noted globals elements code f grounds layout.scope room.housed (entered s) alike.named places first fine) noted
      (λ violation h. one_of (GoesHas (is_blank place.name) item (place_type globals (entered s) place) violation) (fit_goes violation) (places_fail globals elements code f grounds layout.scope room.housed (entered s) alike.named places first (item ∷ []) violation fine (inl h))) in
      let fitting = places_fit globals elements code f grounds layout.scope room.housed (entered s) alike.named places first (kind ∷ []) fine in
      record {
        taken = stored layout kind (place_spot globals elements layout.scope place kind) (kinds_in (taken_type globals elements layout.scope place kind)) (ap kinds_in (place_taken globals elements layout.scope place kind) ∙ t.same) fitting.0;
        room = room;
        alike = alike;
      }

  module _ (result : Yield) (yields : IsResult globals elements f result) where
    pub typed_ranges : RangesHold globals elements code f grounds result yields
    typed_ranges target channel body site s a first end le room alike free makes fits body-made =
        let layout = site.layout in
        let at = first + target_size target in
        let housed = housed_of globals elements f layout.scope room.housed in
        let c = channel_there globals elements code f grounds layout.scope housed (entered s) alike.named channel at (λ violation h. free violation (inr (inl (inl h)))) makes (λ violation h. free violation (inr (inl (inr (inl h))))) in
        let kind = carried globals elements layout.scope channel in
        let whole = ChannelType c.direction c.element in
        let own : type_of globals elements layout.scope channel ≡ whole = ap (λ o. known (default_type o)) c.is in
        let kept = keeping globals elements channel layout in
        let item = item_site globals elements result site target channel in
        let inner = made_all globals elements result (inside item) body in
        let all = made globals elements result site (For (Range target channel) body) in
        let grown = longer_statements globals elements result (inside item) body in
        let item-begins = begins_before f item.layout all.layout (longer_as (entering item.layout) inner.layout item.layout all.layout refl refl grown) fits.begins in
        let within = entering kept in
        let kept-begins = begins_before f kept item.layout (longer_as within item.layout kept item.layout refl refl (longer_target globals elements kind target within)) item-begins in
        let noted-own = subst (Noted elements) (sym own) c.noted in
        let entered-room = room_entering globals elements code f layout room in
        let kept-room = room_declaring globals elements code f grounds (type_of globals elements layout.scope channel) blank (entering layout) entered-room kept-begins noted-own in
        let h = new_housed globals elements code f (type_of globals elements layout.scope channel) (entering layout) entered-room blank kept-begins noted-own in
        let spot : SpotFits globals.structs elements code f (Local layout.scope.words 1) (kinds_in whole) = subst (λ k. SpotFits globals.structs elements code f (Local layout.scope.words (length (kinds_in k))) (kinds_in k)) (same_Some h.kind whole (sym h.has ∙ ap Some own)) (refl, h.within, h.stand) in
        let element-is : element_of (worth globals (entered s) channel) ≡ Some kind = ap element_of (worth_sees (entered s) layout.scope alike.named globals channel ∙ c.is) ∙ ap Some (sym c.carries) in
        let noted = subst (Noted elements) (sym c.carries) c.noted.0 in
        let g = goes within (room_entering globals elements code f kept kept-room) s (alike_blank globals.structs s layout.scope (type_of globals elements layout.scope channel) alike) (λ name. new_entered kept.scope name) kind noted (item_given globals (entered s) at channel) target first end
        (ap (option_map TypedWorth) element-is) (nodes_end at channel) (λ violation x. free violation (inl x)) (λ violation x. free violation (inr (inr x))) item-begins result in
        let m = body-made g.room (subst (λ o. Alike (after_target globals (entered s) o target) item.layout.scope) (sym element-is) g.alike)
        (record { begins = begins_before f inner.layout all.layout (longer_as inner.layout inner.layout inner.layout all.layout refl refl (longer_no inner.layout)) fits.begins; prints = fits.prints }) in
        let w = layout.scope.words in
        let test : Typed code f a [] (receives globals elements result layout channel) (kinds_in kind ++ kinds.Bool ∷ []) =
        subst (λ j. Typed code f a [] (Do (instrs.Load w 1) (Do (instrs.Receive (shape_of elements j)) Skip)) (kinds_in j ++ kinds.Bool ∷ [])) (sym c.carries)
        (puts_locals globals.structs elements code f w 1 (kinds_in whole) spot.1 (stand_range f.locals w 1 (kinds_in whole) refl spot.2) a [] (kinds_in c.element ++ kinds.Bool ∷ []) (Do (instrs.Receive (shape_of elements c.element)) Skip)
        (receives_typed globals elements code f grounds c.direction c.element c.noted a [] (kinds_in c.element ++ kinds.Bool ∷ []) Skip refl)) in
        let taken = takes globals elements result within kind target in
        let turn : (place : ℕ) → Tabled code.selects place (Seq taken inner.plan) → Typed code f in_loop (kinds_in kind) (Seq taken inner.plan) [] = λ place tabled. ([], g.taken, OnTrue_from (reaches_end taken) (Typed code f in_loop [] inner.plan []) (λ e. m.runs _ (OnTrue_at e tabled.1))) in
        record {
          runs = λ place tabled. (
            [],
            c.pushed a [] [] (Do (instrs.Store w 1) Skip) (stores_typed globals.structs elements code f (Local w 1) (kinds_in whole) spot a [] [] Skip refl),
            OnTrue_from (reaches_end (keeps globals elements result layout channel)) (Typed code f a [] (Cycle (receives globals elements result layout channel) (Seq taken inner.plan) Skip (drops (length (kinds_in kind)) Skip)) []) (λ e.
                let t = OnTrue_at e tabled.1 in
                (kinds_in kind, refl, refl, test, turn _ t.1, OnTrue_from (turns (Seq taken inner.plan)) (Typed code f a [] Skip []) (λ x. refl), drops_typed globals.structs elements code f (kinds_in kind) a [] [] Skip refl)),
          );
          room = room_leaving globals elements code f layout (leaving item.layout inner.layout) room (room_leaving globals elements code f item.layout inner.layout g.room m.room);
        }
