-- The code of a clause of a select drops or stores what it receives.
use Rattle.std.proofs.Common.{◌≡◌, ℕ, suc, ◌+◌, ◌≤◌, Bool, true, false, List, [], ◌∷◌, length, map, take, drop, Option, Some, None, option_map, refl, sym, ap, ◌∙◌, subst, arith, inl, inr}
use Rattle.std.specs.Prelude.{if◌then◌else◌, ◌||◌}
use Rattle.std.specs.Option.{is_some}
use Rattle.std.specs.List.{list_any}
use Rattle.syntax.specs.Tree.{Expression, Place, Receive, Alone, Define, Comm, CommSend, CommReceive, CommDefine, CommAssign}
use Rattle.bytecode.specs.declared.instr.Instr.TheVariants as instrs
use Rattle.bytecode.specs.declared.instr.WordKind.{WordKind}
use Rattle.type_table.specs.Types.{ValueType, BoolType}
use Rattle.type_table.specs.Scopes.{Scope, is_blank, own_variable, entered, last_named, Globals}
use Rattle.typing_rules.specs.Worths.{Typed, worth}
use Rattle.typing_rules.specs.Expressions.{element_of, nodes_of}
use Rattle.typing_rules.specs.Operations.{Given, given, and_also, PlacesFail, PlacesHave}
use Rattle.typing_rules.specs.Simples.{has_twice, NamesFail, SimpleHas, comm_simple}
use Rattle.typing_rules.specs.Statements.{after_any}
use Rattle.meaning.specs.Values.{known, whole, slot_along}
use Rattle.meaning.specs.Variables.{Blocks, Destination, Nowhere, Into, kind_of}
use Rattle.meaning.specs.Tasks.{Task}
use Rattle.meaning.specs.Source.{comm_destinations}
use Rattle.meaning.specs.Destinations.{new, all_new, all_defined, placed}
use Rattle.codegen_base.specs.Layouts.{carried, declaring_all, given_types}
use Rattle.codegen_base.specs.Pushes.{drops}
use Rattle.codegen_base.specs.Statements.{assigns, name_spots, place_spots, width}
use Rattle.codegen_base.specs.Generated.{Site, past, comm_plan, after_comm, made_comm}
use Rattle.plan.specs.Plan.{Plan, Skip, Do}
use Rattle.plan.proofs.Words.{Words}
use Rattle.codegen_base.proofs.Alike.{drop_all}
use Rattle.codegen_base.proofs.Assigned.{following_all}
use Rattle.codegen_base.proofs.Likeness.{kinds_long}
use Rattle.codegen_base.proofs.Seen.{seen, seen_lookup, rising_up}
use Rattle.codegen_base.proofs.Typing.{Free, nodes_end}
use Rattle.codegen_follows.proofs.Outers.{worth_same}
use Rattle.codegen_follows.proofs.Places.{places_are, places_stay}
use Rattle.codegen_follows.proofs.Sets.{AreTyped, typed_default, typed_suit as places_suit}
use Rattle.codegen_follows.proofs.Names.{AreNew, new_names, names_are}
use Rattle.codegen_follows.proofs.Defined.{once, typed_suit as names_suit}
use Rattle.codegen_follows.proofs.Stands.{Around, View, scope_of, variables, Together, Fine, IsOn, Assigning, Taking, all_wide, opened, following, SimpleMakes}
use Rattle.codegen_follows.proofs.Begun.{fine_opened, take_front}
use Rattle.codegen_follows.proofs.Grown.{grown_comm}
use Rattle.codegen_base.proofs.Running.{Compiled, Coded}
use Rattle.codegen_follows.proofs.Simulated.{Simulated, at, Point, here_blocks}
use Rattle.bytecode.specs.Machine.{Frames as CodeFrames}
use Rattle.type_table.specs.Containment.{Structs}
use Rattle.codegen_follows.proofs.Channels.{IsChannel}
use Rattle.meaning.specs.Expressions.{element_kind}

-- what a clause of a select finds: how many words of the frame are taken, and the numbers of the tables
pub record Beside : Type 0 where
  pub words : ℕ
  pub locals : List WordKind
  pub prints : ℕ
  pub selects : ℕ
  pub checked : ℕ

-- a view with the same variables, and other words of the frame
abbrev pub beside : View → Beside → View
beside view b = record {
  site = record {
    layout = record { scope = record { variables = (scope_of view).variables; outer = (scope_of view).outer; words = b.words }; locals = b.locals };
    prints = b.prints;
    selects = b.selects;
  };
  begins = view.begins;
  checked = record { variables = view.checked.variables; outer = view.checked.outer; words = b.checked };
}

-- in a block that begins all names are new
fresh : (s : Scope) (names : List (List ℕ)) → AreNew (entered s) names
fresh s [] = refl
fresh s (name ∷ names) = go (is_blank name) (ap (λ vs. is_some (last_named vs name)) (drop_all s.variables)) (fresh s names) where
  go : (b : Bool) → is_some (last_named (drop (length s.variables) s.variables) name) ≡ false → AreNew (entered s) names → (is_some (if b then None else last_named (drop (length s.variables) s.variables) name) || list_any (λ n. is_some (own_variable (entered s) n)) names) ≡ false
  go true none more = more
  go false none more = ap (λ t. t || list_any (λ n. is_some (own_variable (entered s) n)) names) none ∙ more

abbrev pub comm_channel : Comm → Expression
comm_channel (CommSend to item) = to
comm_channel (CommReceive from) = from
comm_channel (CommDefine item ok from) = from
comm_channel (CommAssign item ok from) = from

module _ {globals : Globals} {program : Compiled globals} (coded : Coded program) where
  open program use {elements, wide as all}

  -- what is known of a view rests on its variables
  fine_in : (one other : Site) (begins : List ℕ) (checked : Scope) → one.layout.scope ≡ other.layout.scope → Fine coded (record { site = one; begins = begins; checked = checked }) → Fine coded (record { site = other; begins = begins; checked = checked })
  fine_in one other begins checked same h = go other.layout.scope same where
    go : (s : Scope) → one.layout.scope ≡ s → Fine coded (record { site = record { layout = record { scope = s; locals = other.layout.locals }; prints = other.prints; selects = other.selects }; begins = begins; checked = checked })
    go s e = subst (λ x. Fine coded (record { site = record { layout = record { scope = x; locals = other.layout.locals }; prints = other.prints; selects = other.selects }; begins = begins; checked = checked })) e (record { placed = h.placed; alike = h.alike; noted = h.noted })

  pub fine_beside : (view : View) (b : Beside) → (scope_of view).words ≤ b.words → Fine coded view → Fine coded (beside view b)
  fine_beside view b le h =
      let p = h.placed in
      let a = h.alike in
      record {
        placed = record { rising = rising_up globals.structs 0 (variables view) (scope_of view).words b.words le p.rising; known = p.known; outer = p.outer; nested = p.nested };
        alike = record { named = a.named; own = a.own; fits = a.fits; fit = a.fit };
        noted = h.noted;
      }

module _ {globals : Globals} {program : Compiled globals} {coded : Coded program} {simulated : Simulated coded} (point : Point simulated) (k : List Task) (b : Beside) (wider : (scope_of (point.view)).words ≤ b.words) where
  open program use {elements, code, wide as all}
  open coded use {function as f, number as g, there, result}
  open simulated use {running, running.{context, context.{callers as ds}}}
  open point use {locals as ls, around as l, view, fine, room, held as h}

  abbrev structs : Structs
  structs = globals.structs

  abbrev place_at : ℕ → Words → Words → CodeFrames
  place_at place ls stack = at simulated place ls stack

  abbrev blocks : Blocks
  blocks = here_blocks point

  -- the block of a clause
  abbrev pub clause_view : View
  clause_view = opened (beside view b)

  abbrev inner : Blocks
  inner = seen globals.structs ls (variables clause_view) clause_view.begins

  abbrev site : Site
  site = clause_view.site

  abbrev scope : Scope
  scope = scope_of clause_view

  -- after what it waits for
  abbrev pub comm_view : Comm → View
  comm_view comm = record { site = past clause_view.site (made_comm globals elements result clause_view.site comm); begins = clause_view.begins; checked = after_any globals clause_view.checked (Some (comm_simple comm)) }

  abbrev Channel' : Comm → Type 0
  Channel' comm = IsChannel point (comm_channel comm)

  abbrev Good : Comm → ℕ → Type 0
  Good comm first = Free (SimpleHas globals clause_view.checked first (comm_simple comm))

  pub fine_clause : Fine coded clause_view
  fine_clause = fine_opened coded (beside view b) (fine_beside coded view b wider fine)

  pub comm_together : (comm : Comm) → Together clause_view (comm_view comm)
  comm_together comm =
      let g = grown_comm globals elements result comm site.layout in
      let vs = variables view in
      (refl, ap (take (length vs)) g.variables ∙ take_front (length vs) vs g.more (omega arith))

  -- what the channel carries, in the clause's block
  abbrev pub item_type : Expression → ValueType
  item_type e = carried globals elements (scope_of clause_view) e

  pub carries_item : (e : Expression) → item_type e ≡ carried globals elements (scope_of view) e
  carries_item e = ap (λ o. known (element_of o)) (worth_same globals (variables view) (length (variables view)) (scope_of view).outer b.words (scope_of view).words e)

  pub kind_item : (e : Expression) → IsChannel point e → element_kind globals blocks e ≡ item_type e
  kind_item e c = c.runs ∙ sym c.carries ∙ sym (carries_item e)

  checked_item : (e : Expression) → IsChannel point e → element_of (worth globals clause_view.checked e) ≡ Some (item_type e)
  checked_item e c =
      ap element_of (worth_same globals view.checked.variables (length view.checked.variables) view.checked.outer b.checked view.checked.words e ∙ c.is)
      ∙ ap Some (sym c.carries ∙ sym (carries_item e))

  -- ---- the variables after it

  received_layout : (item : List ℕ) (ok : Option (List ℕ)) (e : Expression)
      → (declaring_all globals elements (and_also item ok) (given_types globals elements (given globals scope (length (and_also item ok)) 0 (Receive e ∷ []))) site.layout).scope ≡ (after_comm globals elements result (CommDefine item ok e) site.layout).scope
  received_layout item None e = ap (λ kind. (declaring_all globals elements (item ∷ []) (kind ∷ []) site.layout).scope) (typed_default (element_of (worth globals scope e)))
  received_layout item (Some other) e = ap (λ kind. (declaring_all globals elements (item ∷ other ∷ []) (kind ∷ BoolType ∷ []) site.layout).scope) (typed_default (element_of (worth globals scope e)))

  pub comm_fine : (comm : Comm) (first : ℕ) → Good comm first → SimpleMakes globals elements (comm_simple comm) → Fine coded (comm_view comm)
  comm_fine comm first good makes = go comm (simulated.fine_following clause_view (Alone (comm_simple comm)) first true true fine_clause good makes) where
    go : (comm : Comm) → Fine coded (following coded clause_view (Alone (comm_simple comm))) → Fine coded (comm_view comm)
    go (CommSend to item) h = record { placed = h.placed; alike = h.alike; noted = h.noted }
    go (CommReceive e) h = record { placed = h.placed; alike = h.alike; noted = h.noted }
    go (CommAssign item ok e) h = record { placed = h.placed; alike = h.alike; noted = h.noted }
    go (CommDefine item ok e) h = fine_in coded (following coded clause_view (Alone (Define (and_also item ok) (Receive e ∷ [])))).site (comm_view (CommDefine item ok e)).site clause_view.begins (comm_view (CommDefine item ok e)).checked (received_layout item ok e) h

  -- ---- what it is stored in

  abbrev OnAt : Around → Plan → ℕ → Option ℕ → Type 0
  OnAt l plan place mid = IsOn coded l plan place mid

  abbrev Assigning' : Around → List ValueType → List ValueType → List Destination → Comm → ℕ → Option ℕ → Type 0
  Assigning' l others kept to comm place mid = Assigning coded l clause_view (all_wide coded others) kept to (comm_view comm) place mid

  -- the item that is received, and whether it was sent
  abbrev received_given : Expression → ℕ → Bool → List Given
  received_given e first two = record { worth = worth globals clause_view.checked (Receive e); nodes = nodes_of first (Receive e) } ∷ (if two then record { worth = Some (Typed BoolType); nodes = nodes_of first (Receive e) } ∷ [] else [])

  received_typed : (e : Expression) (c : IsChannel point e) (first : ℕ) (two : Bool) → AreTyped (received_given e first two) (item_type e ∷ (if two then BoolType ∷ [] else []))
  received_typed e c first two = (ap (option_map Typed) (checked_item e c), nodes_end first (Receive e), more two) where
    more : (two : Bool) → AreTyped (if two then record { worth = Some (Typed BoolType); nodes = nodes_of first (Receive e) } ∷ [] else []) (if two then BoolType ∷ [] else [])
    more true = (refl, nodes_end first (Receive e), tt)
    more false = tt

  named : (l : Around) (names : List (List ℕ)) (kept others : List ValueType) (vs : List Given) (comm : Comm) (place : ℕ) (mid : Option ℕ) → has_twice names ≡ false → AreTyped vs kept → length vs ≡ length names → Free (NamesFail clause_view.checked names vs)
      → scope_of (comm_view comm) ≡ (declaring_all globals elements names kept site.layout).scope → (scope_of (comm_view comm)).words ≤ length f.locals
      → OnAt l (drops (all_wide coded others) (assigns (name_spots globals elements site.layout names kept) Skip)) place mid → Assigning' l others kept (all_new globals inner names kept) comm place mid
  named l names kept others vs comm place mid single typed many goes following most on =
      let structs = globals.structs in
      let suit = names_suit coded ls clause_view fine_clause names vs kept typed many goes in
      let are = names_are coded ls clause_view fine_clause names kept kept single suit in
      let same = new_names coded ls clause_view fine_clause names kept (fresh (beside view b).checked names) in
      let following-is : scope_of (comm_view comm) ≡ following_all structs all (all_defined globals inner names kept) scope = following ∙ sym are.1 in
      subst (λ (to : List Destination). Assigning' l others kept to comm place mid) (sym same) (record {
        spots = name_spots globals elements site.layout names kept;
        fine = fine_clause;
        spots_are = are.0;
        room = subst (λ (s : Scope). s.words ≤ length f.locals) following-is most;
        on = on;
        variables_are = ap (λ (s : Scope). s.variables) following-is;
      })

  define_taking : (l : Around) (item : List ℕ) (ok : Option (List ℕ)) (e : Expression) (first place : ℕ) (mid : Option ℕ) → IsChannel point e → Good (CommDefine item ok e) first → (scope_of (comm_view (CommDefine item ok e))).words ≤ length f.locals
      → OnAt l (comm_plan globals elements result site.layout (CommDefine item ok e)) place mid
      → Taking coded l clause_view (item_type e ∷ BoolType ∷ []) (comm_destinations globals blocks k (CommDefine item ok e)) (comm_view (CommDefine item ok e)) place mid
  define_taking l item None e first place mid c good most on =
      let names = item ∷ [] in
      let K = item_type e in
      let a = named l names (K ∷ []) (BoolType ∷ []) (received_given e first false) (CommDefine item None e) place mid (once clause_view.checked names _ (omega arith) (λ violation x. good violation (inr (inr (inl x))))) (received_typed e c first false) refl (λ violation x. good violation (inr (inr (inr x)))) refl most on in
      (K ∷ [], BoolType ∷ [], refl, subst (λ kind. Assigning' l (BoolType ∷ []) (K ∷ []) (new globals blocks item kind ∷ []) (CommDefine item None e) place mid) (sym (kind_item e c)) a)
  define_taking l item (Some other) e first place mid c good most on =
      let names = item ∷ other ∷ [] in
      let K = item_type e in
      let a = named l names (K ∷ BoolType ∷ []) [] (received_given e first true) (CommDefine item (Some other) e) place mid (once clause_view.checked names _ (omega arith) (λ violation x. good violation (inr (inr (inl x))))) (received_typed e c first true) refl (λ violation x. good violation (inr (inr (inr x)))) refl most on in
      (K ∷ BoolType ∷ [], [], refl, subst (λ kind. Assigning' l [] (K ∷ BoolType ∷ []) (new globals blocks item kind ∷ new globals blocks other BoolType ∷ []) (CommDefine item (Some other) e) place mid) (sym (kind_item e c)) a)

  -- an lvalue is the same in the clause's block
  place_same : (place : Place) → placed globals inner place ≡ placed globals blocks place
  place_same place =
      ap (λ o. if is_blank place.name then Nowhere else Into place.name (slot_along globals.structs (whole (kind_of o)) place.fields))
      (seen_lookup globals.structs ls (variables clause_view) clause_view.begins place.name ∙ sym (seen_lookup globals.structs ls (variables view) view.begins place.name))

  places_same : (places : List Place) → map (placed globals inner) places ≡ map (placed globals blocks) places
  places_same [] = refl
  places_same (place ∷ places) = ap (λ (d : Destination). d ∷ map (placed globals inner) places) (place_same place) ∙ ap (λ (l : List Destination). placed globals blocks place ∷ l) (places_same places)

  set : (l : Around) (places : List Place) (kept others : List ValueType) (vs : List Given) (comm : Comm) (first place : ℕ) (mid : Option ℕ) → AreTyped vs kept → length vs ≡ length places → Free (PlacesHave globals clause_view.checked first places) → Free (PlacesFail globals clause_view.checked places vs)
      → scope_of (comm_view comm) ≡ scope → scope.words ≤ length f.locals → OnAt l (drops (all_wide coded others) (assigns (place_spots globals elements scope places kept) Skip)) place mid
      → Assigning' l others kept (map (placed globals blocks) places) comm place mid
  set l places kept others vs comm first place mid typed many good goes following most on =
      let structs = globals.structs in
      let suit = places_suit coded ls clause_view fine_clause places vs kept first typed many good goes in
      let stay = places_stay coded ls clause_view fine_clause places in
      subst (λ (to : List Destination). Assigning' l others kept to comm place mid) (places_same places) (record {
        spots = place_spots globals elements scope places kept;
        fine = fine_clause;
        spots_are = places_are coded ls clause_view fine_clause places first kept kept good suit;
        room = subst (λ (s : Scope). s.words ≤ length f.locals) (sym stay) most;
        on = on;
        variables_are = ap (λ (s : Scope). s.variables) (following ∙ sym stay);
      })

  assign_taking : (l : Around) (item : Place) (ok : Option Place) (e : Expression) (first place : ℕ) (mid : Option ℕ) → IsChannel point e → Good (CommAssign item ok e) first → scope.words ≤ length f.locals
      → OnAt l (comm_plan globals elements result site.layout (CommAssign item ok e)) place mid
      → Taking coded l clause_view (item_type e ∷ BoolType ∷ []) (comm_destinations globals blocks k (CommAssign item ok e)) (comm_view (CommAssign item ok e)) place mid
  assign_taking l item None e first place mid c good most on =
      let K = item_type e in
      (K ∷ [], BoolType ∷ [], refl, set l (item ∷ []) (K ∷ []) (BoolType ∷ []) (received_given e (first + 1) false) (CommAssign item None e) first place mid (received_typed e c (first + 1) false) refl (λ violation x. good violation (inl x)) (λ violation x. good violation (inr (inr (inr x)))) refl most on)
  assign_taking l item (Some other) e first place mid c good most on =
      let K = item_type e in
      (K ∷ BoolType ∷ [], [], refl, set l (item ∷ other ∷ []) (K ∷ BoolType ∷ []) [] (received_given e (first + 2) true) (CommAssign item (Some other) e) first place mid (received_typed e c (first + 2) true) refl (λ violation x. good violation (inl x)) (λ violation x. good violation (inr (inr (inr x)))) refl most on)

  -- values of these types are received
  abbrev pub received_types : Comm → List ValueType
  received_types (CommSend to item) = []
  received_types (CommReceive e) = item_type e ∷ BoolType ∷ []
  received_types (CommDefine item ok e) = item_type e ∷ BoolType ∷ []
  received_types (CommAssign item ok e) = item_type e ∷ BoolType ∷ []

  pub comm_taking : (l : Around) (comm : Comm) (first place : ℕ) (mid : Option ℕ) → Channel' comm → Good comm first → (scope_of (comm_view comm)).words ≤ length f.locals → OnAt l (comm_plan globals elements result site.layout comm) place mid
      → Taking coded l clause_view (received_types comm) (comm_destinations globals blocks k comm) (comm_view comm) place mid
  comm_taking l (CommSend to item) first place mid c good most on = (on, refl)
  comm_taking l (CommReceive e) first place mid c good most on =
      let kind = item_type e in
      let n = width globals elements scope kind in
      let one : n + 1 ≡ suc n = omega arith in
      let many : suc n ≡ all_wide coded (kind ∷ BoolType ∷ []) = omega (arith, kinds_long globals.structs elements kind) in
      (subst (λ m. OnAt l (drops m Skip) place mid) many (subst (λ m. OnAt l (Do (instrs.Discard m) Skip) place mid) one on), refl)
  comm_taking l (CommDefine item ok e) first place mid c good most on = define_taking l item ok e first place mid c good most on
  comm_taking l (CommAssign item ok e) first place mid c good most on = assign_taking l item ok e first place mid c good most on
