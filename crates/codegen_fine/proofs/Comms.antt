-- What clauses of a select wait for, with which nothing is wrong.
use Rattle.std.proofs.Common.{◌≡◌, ℕ, ◌+◌, ◌<◌, Bool, true, false, not, ◌||◌, List, [], ◌∷◌, ◌++◌, length, map, Option, Some, None, refl, sym, ap, ◌∙◌, subst, arith, length-append, inl, inr, sum_by}
use Rattle.std.specs.List.{list_any}
use Rattle.std.proofs.lemmas.Bool.{or_parts}
use Rattle.std.proofs.lemmas.List.{append-nil, length-map}
use Rattle.go_text.specs.declared.rule.Rule.TheVariants as rules
use Rattle.syntax.specs.Tree.{Expression, Place, Receive, Define, Assign, Comm, CommSend, CommReceive, CommDefine, CommAssign}
use Rattle.syntax.specs.Measures.{expression_size, simple_size}
use Rattle.bytecode.specs.declared.instr.WordKind.{WordKind}
use Rattle.bytecode.specs.declared.instr.WordKind.TheVariants as kinds
use Rattle.bytecode.specs.Code.{Function as CodeFunction, Code}
use Rattle.bytecode.specs.Effects.{shape_kinds, clause_kinds, clause_gives, clause_shape}
use Rattle.type_table.specs.Types.{ValueType, BoolType}
use Rattle.type_table.specs.Scopes.{Globals, Scope, Yield, own_variable}
use Rattle.typing_rules.specs.Worths.{worth}
use Rattle.typing_rules.specs.Expressions.{nodes_of, ValueHas, element_of, ExpressionHas, ChannelHas}
use Rattle.typing_rules.specs.Operations.{given, and_also, PlacesHave}
use Rattle.typing_rules.specs.Simples.{is_declarable, has_twice, SimpleHas, after_simple, comm_simple}
use Rattle.meaning.specs.Values.{known}
use Rattle.codegen_base.specs.declared.element.Element.{Element}
use Rattle.codegen_base.specs.Elements.{kinds_of, shape_of}
use Rattle.codegen_base.specs.Layouts.{Layout, carried, declaring_all, given_types}
use Rattle.codegen_base.specs.Generated.{pushes_comm, table_clause, comm_kinds, comm_plan, one_or_two, unless_two, after_comm}
use Rattle.codegen_base.specs.Pushes.{pushes, pushes_own}
use Rattle.codegen_base.specs.Statements.{Spot, assigns, place_spots, taken_types, name_spots, name_types, right_types}
use Rattle.codegen_base.proofs.Alike.{Alike}
use Rattle.codegen_base.proofs.Noted.{Noted}
use Rattle.codegen_base.proofs.StatementMakes.{OneMakes, SimpleMakes}
use Rattle.codegen_base.proofs.Typing.{Free, broken, fits, nodes_end, worth_there}
use Rattle.plan.specs.Plan.{Skip}
use Rattle.plan.proofs.Typed.{Allowed, Typed}
use Rattle.codegen_fine.proofs.Sees.{Sees, worth_sees, known_sees}
use Rattle.codegen_fine.proofs.Pushing.{Puts, puts_both}
use Rattle.codegen_fine.proofs.Operands.{Grounds, shape_within}
use Rattle.codegen_fine.proofs.Operands.{all_kinds}
use Rattle.codegen_fine.proofs.Emitted.{typed_pushes}
use Rattle.codegen_fine.proofs.Operations.{IsChannel, channel_there}
use Rattle.codegen_fine.proofs.Requests.{shape_is}
use Rattle.codegen_fine.proofs.Simple.{discards_typed}
use Rattle.codegen_fine.proofs.Spots.{joined, SpotsFit, assigns_typed}
use Rattle.codegen_fine.proofs.Places.{housed_of}
use Rattle.codegen_fine.proofs.Rights.{default_typed, typed_given}
use Rattle.codegen_fine.proofs.Layouts.{Begins, Room}
use Rattle.codegen_fine.proofs.Assigns.{joined_kinds, place_want, places_want, places_taken, names_want, names_taken, want_of, places_fit, places_fail, places_noted, names_fail, names_noted, defines_fit, defined_alike}

not_true : (b : Bool) → (b ≡ true → ⊥) → b ≡ false
not_true true never = absurd (never refl)
not_true false never = refl

abbrev pub comm_channel : Comm → Expression
comm_channel (CommSend channel value) = channel
comm_channel (CommReceive channel) = channel
comm_channel (CommDefine item ok channel) = channel
comm_channel (CommAssign item ok channel) = channel

module _ (globals : Globals) (elements : List Element) (code : Code) (f : CodeFunction) (grounds : Grounds globals elements code) (result : Yield) where
  abbrev kinds_in : ValueType → List WordKind
  kinds_in = kinds_of globals.structs elements

  -- ---- its operands

  module _ (layout : Layout) (room : Room globals elements code f layout) (s : Scope) (sees : Sees s layout.scope) where
    -- what is pushed is what its clause of the table takes, and what the clause leaves is what its way begins with; the shape that the
    -- clause names is there
    pub record CommFine (comm : Comm) : Type 0 where
      pub pushed : (to : ℕ) → Puts globals.structs elements code f (clause_kinds code (table_clause globals elements result layout comm to)) (pushes_comm globals elements result layout comm)
      pub gives : (to : ℕ) → clause_gives code (Some (table_clause globals elements result layout comm to)) ≡ comm_kinds globals elements result layout comm
      pub there : (to : ℕ) → clause_shape (table_clause globals elements result layout comm to) < length code.shapes

    shapes_are : (channel : Expression) (c : IsChannel globals elements code f grounds layout.scope (housed_of globals elements f layout.scope room.housed) s sees channel) → shape_kinds code (shape_of elements (carried globals elements layout.scope channel)) ≡ kinds_in (carried globals elements layout.scope channel)
    shapes_are channel c = subst (λ j. shape_kinds code (shape_of elements j) ≡ kinds_in j) (sym c.carries) (shape_is globals elements code f grounds c.direction c.element c.noted)

    shape_is_there : (channel : Expression) (c : IsChannel globals elements code f grounds layout.scope (housed_of globals elements f layout.scope room.housed) s sees channel) → shape_of elements (carried globals elements layout.scope channel) < length code.shapes
    shape_is_there channel c = subst (λ j. shape_of elements j < length code.shapes) (sym c.carries) (shape_within globals elements code f grounds c.direction c.element c.noted)

    channel_pushed : (channel : Expression) (c : IsChannel globals elements code f grounds layout.scope (housed_of globals elements f layout.scope room.housed) s sees channel) → Puts globals.structs elements code f (kinds.Chan (shape_of elements (carried globals elements layout.scope channel)) ∷ []) (pushes_own globals elements layout.scope channel)
    channel_pushed channel c = subst (λ j. Puts globals.structs elements code f (kinds.Chan (shape_of elements j) ∷ []) (pushes_own globals elements layout.scope channel)) (sym c.carries) c.pushed

    channel_is : (channel : Expression) (first : ℕ) → Free (ExpressionHas globals s first channel) → OneMakes globals elements channel → Free (ChannelHas (worth globals s channel) (nodes_of first channel)) → IsChannel globals elements code f grounds layout.scope (housed_of globals elements f layout.scope room.housed) s sees channel
    channel_is channel first free makes is = channel_there globals elements code f grounds layout.scope (housed_of globals elements f layout.scope room.housed) s sees channel first free makes is

    pub comm_fine : (comm : Comm) (first : ℕ) → Free (SimpleHas globals s first (comm_simple comm)) → SimpleMakes globals elements (comm_simple comm) → CommFine comm
    comm_fine (CommReceive channel) first free makes =
        let c = channel_is channel first (λ violation h. free violation (inl h)) makes (λ violation h. free violation (inr (inl h))) in
        record { pushed = λ to. channel_pushed channel c; gives = λ to. ap (λ (l : List WordKind). l ++ kinds.Bool ∷ []) (shapes_are channel c); there = λ to. shape_is_there channel c }
    comm_fine (CommDefine item ok channel) first free makes =
        let c = channel_is channel first (λ violation h. free violation (inl (inl (inl h)))) makes.0 (λ violation h. free violation (inl (inl (inr (inl h))))) in
        record { pushed = λ to. channel_pushed channel c; gives = λ to. ap (λ (l : List WordKind). l ++ kinds.Bool ∷ []) (shapes_are channel c); there = λ to. shape_is_there channel c }
    comm_fine (CommAssign item ok channel) first free makes =
        let c = channel_is channel (first + length (and_also item ok)) (λ violation h. free violation (inr (inl (inl (inl h))))) makes.0 (λ violation h. free violation (inr (inl (inl (inr (inl h)))))) in
        record { pushed = λ to. channel_pushed channel c; gives = λ to. ap (λ (l : List WordKind). l ++ kinds.Bool ∷ []) (shapes_are channel c); there = λ to. shape_is_there channel c }
    comm_fine (CommSend channel value) first free makes =
        let housed = housed_of globals elements f layout.scope room.housed in
        let c = channel_is channel first (λ violation h. free violation (inl h)) makes.0 (λ violation h. free violation (inr (inr (inl h)))) in
        let following = first + expression_size channel in
        let w = worth_there globals s grounds.types_known (known_sees s layout.scope sees housed.known) value following (λ violation h. free violation (inr (inl h))) in
        let kind = carried globals elements layout.scope channel in
        let is-element : element_of (worth globals s channel) ≡ Some kind = ap element_of (worth_sees s layout.scope sees globals channel ∙ c.is) ∙ ap Some (sym c.carries) in
        let fit = fits w.0 kind (nodes_of following value) (nodes_end following value)
        (λ violation h. free violation (inr (inr (inr (inr (subst (λ o. ValueHas (worth globals s value) o (nodes_of following value) violation) (sym is-element) (subst (λ o. ValueHas o (Some kind) (nodes_of following value) violation) (sym w.1) h))))))) in
        let item = typed_pushes globals elements code f grounds layout.scope housed s sees value following (λ violation h. free violation (inr (inl h))) makes.1 w.0 kind (sym (worth_sees s layout.scope sees globals value) ∙ w.1) fit (subst (Noted elements) (sym c.carries) c.noted.0) in
        let chan = kinds.Chan (shape_of elements kind) ∷ [] in
        record {
          pushed = λ to.
              subst (λ (l : List WordKind). Puts globals.structs elements code f (kinds.Chan (shape_of elements kind) ∷ l) (pushes_comm globals elements result layout (CommSend channel value))) (sym (shapes_are channel c))
              (puts_both globals.structs elements code f chan (kinds_in kind) (pushes_own globals elements layout.scope channel) (pushes globals elements layout.scope kind value) (channel_pushed channel c) item);
          gives = λ to. refl;
          there = λ to. shape_is_there channel c;
        }

  -- ---- what was received is stored or dropped

  -- the item alone, or also whether it was sent
  abbrev wanted : {A : Type 0} → Option A → ValueType → List WordKind
  wanted None kind = kinds_in kind
  wanted (Some other) kind = kinds_in kind ++ kinds.Bool ∷ []

  received : {A : Type 0} (ok : Option A) (kind : ValueType) (spots : List Spot) (kss : List (List WordKind)) → SpotsFit globals.structs elements code f spots kss → joined kss ≡ wanted ok kind → (a : Allowed) → Typed code f a (kinds_in kind ++ kinds.Bool ∷ []) (unless_two globals elements result ok (assigns spots Skip)) []
  received None kind spots kss fit same a =
      discards_typed globals elements code f grounds 1 (kinds.Bool ∷ []) refl a (kinds_in kind) [] (assigns spots Skip)
      (subst (λ (l : List WordKind). Typed code f a l (assigns spots Skip) []) same (assigns_typed globals.structs elements code f spots kss fit a [] [] Skip refl))
  received (Some other) kind spots kss fit same a = subst (λ (l : List WordKind). Typed code f a l (assigns spots Skip) []) same (assigns_typed globals.structs elements code f spots kss fit a [] [] Skip refl)

  -- the types that a receive gives
  abbrev two_types : {A : Type 0} → Option A → ValueType → List ValueType
  two_types None kind = kind ∷ []
  two_types (Some other) kind = kind ∷ BoolType ∷ []

  two_kinds : {A : Type 0} (ok : Option A) (kind : ValueType) → all_kinds globals.structs elements (two_types ok kind) ≡ wanted ok kind
  two_kinds None kind = append-nil (kinds_in kind)
  two_kinds (Some other) kind = refl

  given_two : {A : Type 0} (item : A) (ok : Option A) (x : Scope) (channel : Expression) → given_types globals elements (given globals x (length (and_also item ok)) 0 (Receive channel ∷ [])) ≡ two_types ok (carried globals elements x channel)
  given_two item None x channel = ap (λ o. known o ∷ []) (default_typed (element_of (worth globals x channel)))
  given_two item (Some other) x channel = ap (λ o. known o ∷ BoolType ∷ []) (default_typed (element_of (worth globals x channel)))

  module _ (layout : Layout) (room : Room globals elements code f layout) (s : Scope) (alike : Alike s layout.scope) where
    -- a way begins with what its clause leaves, and leads to the variables that the typing rules see
    pub record CommMade (comm : Comm) : Type 0 where
      pub takes : (a : Allowed) → Typed code f a (comm_kinds globals elements result layout comm) (comm_plan globals elements result layout comm) []
      pub following : Room globals elements code f (after_comm globals elements result comm layout)
      pub seen : Alike (after_simple globals s (comm_simple comm)) (after_comm globals elements result comm layout).scope

    two_spots : (places : List Place) (item : Place) (ok : Option Place) (kind : ValueType) → place_spots globals elements layout.scope (and_also item ok) (two_types ok kind) ≡ place_spots globals elements layout.scope (one_or_two globals elements result item ok) (kind ∷ BoolType ∷ [])
    two_spots places item None kind = refl
    two_spots places item (Some other) kind = refl

    two_names : (item : List ℕ) (ok : Option (List ℕ)) (kind : ValueType) → name_spots globals elements layout (and_also item ok) (two_types ok kind) ≡ name_spots globals elements layout (one_or_two globals elements result item ok) (kind ∷ BoolType ∷ [])
    two_names item None kind = refl
    two_names item (Some other) kind = refl

    two_after : (item : List ℕ) (ok : Option (List ℕ)) (kind : ValueType) → declaring_all globals elements (and_also item ok) (two_types ok kind) layout ≡ declaring_all globals elements (one_or_two globals elements result item ok) (kind ∷ BoolType ∷ []) layout
    two_after item None kind = refl
    two_after item (Some other) kind = refl

    pub comm_made : (comm : Comm) (first : ℕ) → Free (SimpleHas globals s first (comm_simple comm)) → SimpleMakes globals elements (comm_simple comm) → Begins f (after_comm globals elements result comm layout) → CommMade comm
    comm_made (CommSend channel value) first free makes begins = record { takes = λ a. refl; following = room; seen = alike }
    comm_made (CommReceive channel) first free makes begins =
        let js = kinds_in (carried globals elements layout.scope channel) in
        record {
          takes = λ a. discards_typed globals elements code f grounds (length js + 1) (js ++ kinds.Bool ∷ []) (sym (length-append js (kinds.Bool ∷ []))) a [] [] Skip refl;
          following = room;
          seen = alike;
        }
    comm_made (CommAssign item ok channel) first free makes begins =
        let places = and_also item ok in
        let count = length places in
        let right = Receive channel ∷ [] in
        let kind = carried globals elements layout.scope channel in
        let housed = housed_of globals elements f layout.scope room.housed in
        let fine : Free (PlacesHave globals s first places) = λ violation h. free violation (inl h) in
        let wants = places_want globals layout.scope places in
        let types = right_types globals elements layout.scope count right in
        let t = typed_given globals elements code f grounds layout.scope housed s alike.named channel count (first + count) (first + simple_size (Assign places right)) wants (omega arith) (length-map places (place_want globals layout.scope)) (places_noted globals elements code f grounds layout.scope room.housed s alike.named places first fine)
        (λ violation h. free violation (inr (inl h))) (λ violation h. free violation (inr (inr (inl h)))) (λ violation h. free violation (inr (inr (inr (places_fail globals elements code f grounds layout.scope room.housed s alike.named places first (given globals s count (first + count) right) violation fine h))))) makes in
        let fit = places_fit globals elements code f grounds layout.scope room.housed s alike.named places first types fine in
        let same : joined (map kinds_in (taken_types globals elements layout.scope places types)) ≡ wanted ok kind =
        joined_kinds globals elements (taken_types globals elements layout.scope places types) ∙ ap (all_kinds globals.structs elements) (places_taken globals elements layout.scope places types) ∙ t.same ∙ ap (all_kinds globals.structs elements) (given_two item ok layout.scope channel) ∙ two_kinds ok kind in
        let spots : place_spots globals elements layout.scope places types ≡ place_spots globals elements layout.scope (one_or_two globals elements result item ok) (kind ∷ BoolType ∷ []) = ap (place_spots globals elements layout.scope places) (given_two item ok layout.scope channel) ∙ two_spots [] item ok kind in
        record {
          takes = λ a. subst (λ (x : List Spot). Typed code f a (kinds_in kind ++ kinds.Bool ∷ []) (unless_two globals elements result ok (assigns x Skip)) []) spots (received ok kind (place_spots globals elements layout.scope places types) (map kinds_in (taken_types globals elements layout.scope places types)) fit same a);
          following = room;
          seen = alike;
        }
    comm_made (CommDefine item ok channel) first free makes begins =
        let names = and_also item ok in
        let count = length names in
        let right = Receive channel ∷ [] in
        let kind = carried globals elements layout.scope channel in
        let housed = housed_of globals elements f layout.scope room.housed in
        let end = first + sum_by expression_size right + 1 in
        let wants = names_want layout.scope names in
        let types = right_types globals elements layout.scope count right in
        let b = broken rules.NewName end (omega arith) in
        let twice = not_true (has_twice names || not (list_any (is_declarable s) names)) (λ e. free b.0 (inr (inr (inl (inr (e, b.1)))))) in
        let t = typed_given globals elements code f grounds layout.scope housed s alike.named channel count first end wants (omega arith) (length-map names (λ name. want_of (own_variable layout.scope name))) (names_noted globals elements code f grounds layout room s alike names)
        (λ violation h. free violation (inl h)) (λ violation h. free violation (inr (inl h))) (λ violation h. free violation (inr (inr (inr (names_fail globals elements code f grounds layout room s alike names (given globals s count first right) violation h))))) makes in
        let following-is : declaring_all globals elements names types layout ≡ after_comm globals elements result (CommDefine item ok channel) layout = ap (λ (l : List ValueType). declaring_all globals elements names l layout) (given_two item ok layout.scope channel) ∙ two_after item ok kind in
        let n = (defines_fit globals elements code f grounds layout room s alike names right (or_parts (has_twice names) (not (list_any (is_declarable s) names)) twice).0 (subst (Begins f) (sym following-is) begins) t.takes).names_fit in
        let same : joined (map kinds_in (name_types globals elements layout names types)) ≡ wanted ok kind =
        joined_kinds globals elements (name_types globals elements layout names types) ∙ ap (all_kinds globals.structs elements) (names_taken globals elements layout names types) ∙ t.same ∙ ap (all_kinds globals.structs elements) (given_two item ok layout.scope channel) ∙ two_kinds ok kind in
        let spots : name_spots globals elements layout names types ≡ name_spots globals elements layout (one_or_two globals elements result item ok) (kind ∷ BoolType ∷ []) = ap (name_spots globals elements layout names) (given_two item ok layout.scope channel) ∙ two_names item ok kind in
        record {
          takes = λ a. subst (λ (x : List Spot). Typed code f a (kinds_in kind ++ kinds.Bool ∷ []) (unless_two globals elements result ok (assigns x Skip)) []) spots (received ok kind (name_spots globals elements layout names types) (map kinds_in (name_types globals elements layout names types)) n.fit same a);
          following = subst (Room globals elements code f) following-is n.room;
          seen = subst (λ (x : Layout). Alike (after_simple globals s (Define names right)) x.scope) following-is (subst (λ x. Alike x (declaring_all globals elements names types layout).scope) (sym (defined_alike globals elements s layout.scope alike.named names count 0 0 right)) n.alike);
        }
