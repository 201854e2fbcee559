-- Names that a statement declares, or assigns if their block has them.
use Rattle.std.proofs.Common.{◌≡◌, ℕ, ◌+◌, ◌≤◌, Bool, true, false, List, [], ◌∷◌, length, take, drop, Option, Some, None, option_map, refl, sym, ap, ◌∙◌, subst, arith, bytes_eq, length-append}
use Rattle.std.specs.Prelude.{if◌then◌else◌, not, ◌&&◌, ◌||◌}
use Rattle.std.specs.Option.{is_some, is_none}
use Rattle.std.specs.List.{list_any}
use Rattle.type_table.specs.Types.{ValueType}
use Rattle.type_table.specs.Containment.{Structs}
use Rattle.type_table.specs.Scopes.{Variable, Scope, is_blank, own_variable, later, if_named, last_named, declared, Globals}
use Rattle.type_table.specs.Zeros.{zero_words}
use Rattle.typing_rules.specs.Simples.{has_name, has_twice}
use Rattle.meaning.specs.Values.{known, words_in, whole}
use Rattle.meaning.specs.Variables.{Binding, Blocks, in_block, innermost, kind_of, Destination, Nowhere, New, Into}
use Rattle.meaning.specs.Destinations.{new, defined, all_new, all_defined}
use Rattle.codegen_base.specs.Layouts.{Layout, declaring, declaring_new, declaring_all}
use Rattle.codegen_base.specs.Statements.{Dropped, Local, width, own_spot, name_spot, name_spots}
use Rattle.plan.proofs.Words.{Words}
use Rattle.codegen_base.proofs.Alike.{last_append, drop_append, there_alike, own_alike}
use Rattle.codegen_base.proofs.Likeness.{kinds_long}
use Rattle.codegen_base.proofs.Seen.{seen_one, seen, last_split, seen_found}
use Rattle.codegen_base.proofs.Assigned.{IsSpot, after_destination, following_all, AreSpots}
use Rattle.codegen_follows.proofs.Paths.{held_whole}
use Rattle.codegen_follows.proofs.Stands.{View, scope_of, variables, Fine}
use Rattle.codegen_base.proofs.Running.{Compiled, Coded}
use Rattle.codegen_base.proofs.Static.{innermost_begins}

pub neither : (a b : Bool) → (a || b) ≡ false → (a ≡ false) × (b ≡ false)
neither true b e = absurd cc
neither false b e = (refl, e)

-- another name that is declared hides no name
own_stays : (structs : Structs) (s : Scope) (kind : ValueType) (other name : List ℕ) → s.outer ≤ length s.variables → bytes_eq other name ≡ false → own_variable (declared structs s (Some kind) other) name ≡ own_variable s name
own_stays structs s kind other name fits apart =
    let v : Variable = record { name = other; kind = Some kind; place = s.words } in
    let none : if_named name v ≡ None = ap (λ b. if b then Some v else None) apart in
    ap (λ o. if is_blank name then None else o)
    (ap (λ vs. last_named vs name) (drop_append s.outer s.variables v fits) ∙ last_append (drop s.outer s.variables) v name ∙ ap (later (last_named (drop s.outer s.variables) name)) none)

fits_declared : (structs : Structs) (s : Scope) (kind : ValueType) (name : List ℕ) → s.outer ≤ length s.variables → s.outer ≤ length (declared structs s (Some kind) name).variables
fits_declared structs s kind name fits = let v : Variable = record { name = name; kind = Some kind; place = s.words } in omega (arith, fits, length-append s.variables (v ∷ []))

-- a variable of the innermost block is the one of its name
pub own_found : (structs : Structs) (s : Scope) (name : List ℕ) (v : Variable) → is_blank name ≡ false → own_variable s name ≡ Some v → last_named s.variables name ≡ Some v
own_found structs s name v no-blank e =
    let own : last_named (drop s.outer s.variables) name ≡ Some v = sym (ap (λ b. if b then None else last_named (drop s.outer s.variables) name) no-blank) ∙ e in
    last_split structs s.outer s.variables name ∙ ap (later (last_named (take s.outer s.variables) name)) own

own_blank : (s : Scope) (name : List ℕ) → is_blank name ≡ true → own_variable s name ≡ None
own_blank s name blank = ap (λ b. if b then None else last_named (drop s.outer s.variables) name) blank

-- the innermost block has none of these names
abbrev pub AreNew : Scope → List (List ℕ) → Type 0
AreNew s names = list_any (λ name. is_some (own_variable s name)) names ≡ false

-- the variables of the innermost block
pub own_block : (structs : Structs) (ls : Words) (vs : List Variable) (ns : List ℕ) (name : List ℕ) → in_block (innermost (seen structs ls vs ns)) name ≡ option_map (seen_one structs ls) (last_named (drop (innermost_begins ns) vs) name)
own_block structs ls vs [] name = seen_found structs ls vs name
own_block structs ls vs (n ∷ ns) name = seen_found structs ls (drop n vs) name

module _ {globals : Globals} {program : Compiled globals} (coded : Coded program) (ls : Words) (view : View) (fine : Fine coded view) where
  open program use {elements, wide as all}

  abbrev structs : Structs
  structs = globals.structs

  abbrev blocks : Blocks
  blocks = seen globals.structs ls (variables view) view.begins

  -- what a name takes: a new one its value's type, one that is there the words of its own
  abbrev pub NameSuits : Option Variable → ValueType → ValueType → Type 0
  NameSuits None given taken = taken ≡ given
  NameSuits (Some v) given taken = zero_words globals.structs taken ≡ zero_words globals.structs (known v.kind)

  -- the spot of a name's value, and which variables are there after it
  name_is : (layout : Layout) (name : List ℕ) (given taken : ValueType) → own_variable layout.scope name ≡ own_variable (scope_of view) name → NameSuits (own_variable (scope_of view) name) given taken
      → IsSpot structs layout.scope (defined globals blocks name given) taken (name_spot globals elements layout name given)
      × (after_destination structs (defined globals blocks name given) layout.scope ≡ (declaring_new globals elements given name layout).scope)
  name_is layout name given taken same suits =
      go (is_blank name) (own_variable s name) (in_block (innermost blocks) name)
      (λ blank. own_blank s name blank)
      (λ no-blank. own_block structs ls (variables view) view.begins name
      ∙ ap (λ n. option_map (seen_one structs ls) (last_named (drop n (variables view)) name)) (sym fine.placed.outer)
      ∙ ap (option_map (seen_one structs ls)) (sym (ap (λ b. if b then None else last_named (drop (scope_of view).outer (variables view)) name) no-blank) ∙ sym same))
      (λ v no-blank e. own_found structs s name v no-blank e)
      (subst (λ o. NameSuits o given taken) (sym same) suits) where
        s : Scope
        s = layout.scope

        Goal : Bool → Option Variable → Option Binding → Type 0
        Goal b o there =
            IsSpot structs s (if b then Nowhere else (if is_some there then Into name (whole (kind_of there)) else New name given)) taken (if not b && is_none o then Local s.words (width globals elements s given) else own_spot globals elements s given o)
            × (after_destination structs (if b then Nowhere else (if is_some there then Into name (whole (kind_of there)) else New name given)) s ≡ (if not b && is_none o then declaring globals elements given name layout else layout).scope)

        dropped : taken ≡ given → Dropped (width globals elements s given) ≡ Dropped (words_in structs taken)
        dropped e = ap Dropped (kinds_long structs elements given ∙ ap (words_in structs) (sym e))

        go : (b : Bool) (o : Option Variable) (there : Option Binding) → (b ≡ true → o ≡ None) → (b ≡ false → there ≡ option_map (seen_one structs ls) o) → ((v : Variable) → b ≡ false → o ≡ Some v → last_named s.variables name ≡ Some v) → NameSuits o given taken → Goal b o there
        go true None there none is found suits = (dropped suits, refl)
        go true (Some v) there none is found suits = absurd (lost v (none refl)) where
          HasOne : Option Variable → Type 0
          HasOne None = ⊥
          HasOne (Some v) = Unit {0}

          lost : (v : Variable) → Some v ≡ None → ⊥
          lost v e = subst HasOne e tt
        go false None there none is found suits = subst (λ t. Goal false None t) (sym (is refl)) ((sym suits, ap (Local s.words) (kinds_long structs elements given)), refl)
        go false (Some v) there none is found suits =
            let kind = known v.kind in
            let place : v.place ≡ v.place + 0 = omega arith in
            subst (λ t. Goal false (Some v) t) (sym (is refl))
            ((v, found v refl refl, held_whole structs kind, sym suits, ap (λ n. Local n (width globals elements s kind)) place ∙ ap (Local (v.place + 0)) (kinds_long structs elements kind)), refl)

  -- the variables of these names are as they were
  abbrev AllSame : Scope → List (List ℕ) → Type 0
  AllSame s [] = Unit {0}
  AllSame s (name ∷ names) = (own_variable s name ≡ own_variable (scope_of view) name) × AllSame s names

  same_declared : (names : List (List ℕ)) (s : Scope) (kind : ValueType) (other : List ℕ) → s.outer ≤ length s.variables → has_name names other ≡ false → AllSame s names → AllSame (declared structs s (Some kind) other) names
  same_declared [] s kind other fits none same = tt
  same_declared (name ∷ names) s kind other fits none same =
      let n = neither (bytes_eq other name) (has_name names other) none in
      (own_stays structs s kind other name fits n.0 ∙ same.0, same_declared names s kind other fits n.1 same.1)

  same_here : (names : List (List ℕ)) → AllSame (scope_of view) names
  same_here [] = tt
  same_here (name ∷ names) = (refl, same_here names)

  -- after a name the others are as they were
  same_next : (layout : Layout) (name : List ℕ) (names : List (List ℕ)) (given : ValueType) → layout.scope.outer ≤ length layout.scope.variables → (not (is_blank name) && has_name names name) ≡ false → AllSame layout.scope names
      → ((declaring_new globals elements given name layout).scope.outer ≤ length (declaring_new globals elements given name layout).scope.variables) × AllSame (declaring_new globals elements given name layout).scope names
  same_next layout name names given fits once same = go (is_blank name) (is_none (own_variable layout.scope name)) once where
    go : (b o : Bool) → (not b && has_name names name) ≡ false
        → ((if not b && o then declaring globals elements given name layout else layout).scope.outer ≤ length (if not b && o then declaring globals elements given name layout else layout).scope.variables) × AllSame (if not b && o then declaring globals elements given name layout else layout).scope names
    go true o once = (fits, same)
    go false false once = (fits, same)
    go false true once = (fits_declared structs layout.scope given name fits, same_declared names layout.scope given name fits once same)

  abbrev pub AllNamesSuit : List (List ℕ) → List ValueType → List ValueType → Type 0
  AllNamesSuit [] [] [] = Unit {0}
  AllNamesSuit (name ∷ names) (given ∷ types) (taken ∷ others) = NameSuits (own_variable (scope_of view) name) given taken × AllNamesSuit names types others
  AllNamesSuit names types others = ⊥

  names_from : (names : List (List ℕ)) (layout : Layout) (types others : List ValueType) → layout.scope.outer ≤ length layout.scope.variables → AllSame layout.scope names → has_twice names ≡ false → AllNamesSuit names types others
      → AreSpots structs all layout.scope (all_defined globals blocks names types) others (name_spots globals elements layout names types)
      × (following_all structs all (all_defined globals blocks names types) layout.scope ≡ (declaring_all globals elements names types layout).scope)
  names_from [] layout [] [] fits same once suit = (tt, refl)
  names_from [] layout [] (o ∷ others) fits same once suit = absurd suit
  names_from [] layout (x ∷ types) others fits same once suit = absurd suit
  names_from (name ∷ names) layout [] others fits same once suit = absurd suit
  names_from (name ∷ names) layout (given ∷ types) [] fits same once suit = absurd suit
  names_from (name ∷ names) layout (given ∷ types) (taken ∷ others) fits same once suit =
      let one = name_is layout name given taken same.0 suit.0 in
      let n = neither (not (is_blank name) && has_name names name) (has_twice names) once in
      let next = declaring_new globals elements given name layout in
      let s = same_next layout name names given fits n.0 same.1 in
      let more = names_from names next types others s.0 s.1 n.1 suit.1 in (
        (one.0, subst (λ x. AreSpots structs all x (all_defined globals blocks names types) others (name_spots globals elements next names types)) (sym one.1) more.0),
        ap (following_all structs all (all_defined globals blocks names types)) one.1 ∙ more.1,
      )

  pub names_are : (names : List (List ℕ)) (types others : List ValueType) → has_twice names ≡ false → AllNamesSuit names types others
      → AreSpots structs all (scope_of view) (all_defined globals blocks names types) others (name_spots globals elements view.site.layout names types)
      × (following_all structs all (all_defined globals blocks names types) (scope_of view) ≡ (declaring_all globals elements names types view.site.layout).scope)
  names_are names types others once suit = names_from names view.site.layout types others fine.alike.fit (same_here names) once suit

  -- ---- names that are new

  new_name : (name : List ℕ) (kind : ValueType) → is_some (own_variable view.checked name) ≡ false → new globals blocks name kind ≡ defined globals blocks name kind
  new_name name kind none =
      go (is_blank name) (own_variable (scope_of view) name) (in_block (innermost blocks) name) (sym (there_alike (own_variable view.checked name) (own_variable (scope_of view) name) (own_alike view.checked (scope_of view) fine.alike name)) ∙ none)
      (λ no-blank. own_block globals.structs ls (variables view) view.begins name
      ∙ ap (λ n. option_map (seen_one globals.structs ls) (last_named (drop n (variables view)) name)) (sym fine.placed.outer)
      ∙ ap (option_map (seen_one globals.structs ls)) (sym (ap (λ b. if b then None else last_named (drop (scope_of view).outer (variables view)) name) no-blank))) where
        go : (b : Bool) (o : Option Variable) (there : Option Binding) → is_some o ≡ false → (b ≡ false → there ≡ option_map (seen_one globals.structs ls) o)
            → (if b then Nowhere else New name kind) ≡ (if b then Nowhere else (if is_some there then Into name (whole (kind_of there)) else New name kind))
        go true o there none is = refl
        go false None there none is = subst (λ (t : Option Binding). New name kind ≡ (if is_some t then Into name (whole (kind_of t)) else New name kind)) (sym (is refl)) refl
        go false (Some v) there none is = absurd cc

  pub new_names : (names : List (List ℕ)) (kinds : List ValueType) → AreNew view.checked names → all_new globals blocks names kinds ≡ all_defined globals blocks names kinds
  new_names [] kinds none = refl
  new_names (name ∷ names) [] none = refl
  new_names (name ∷ names) (kind ∷ kinds) none =
      let n = neither (is_some (own_variable view.checked name)) (list_any (λ name. is_some (own_variable view.checked name)) names) none in
      ap (λ (d : Destination). d ∷ all_new globals blocks names kinds) (new_name name kind n.0) ∙ ap (λ (l : List Destination). defined globals blocks name kind ∷ l) (new_names names kinds n.1)
