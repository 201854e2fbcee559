-- Layouts grow after the locals that are there, and their variables stay among them.
use Rattle.std.proofs.Common.{◌≡◌, ℕ, zero, suc, ◌+◌, ◌≤◌, Bool, true, false, not, ◌&&◌, List, [], ◌∷◌, ◌++◌, length, drop, map, Option, Some, None, refl, sym, ap, ◌∙◌, subst, arith, append_assoc, length-append, bytes_eq}
use Rattle.std.specs.Prelude.{if◌then◌else◌}
use Rattle.std.specs.Option.{is_none}
use Rattle.std.specs.List.{list_any}
use Rattle.std.proofs.lemmas.Bool.{and_parts, or_parts}
use Rattle.std.proofs.lemmas.List.{append-nil}
use Rattle.std.proofs.lemmas.Option.{same_Some}
use Rattle.bytecode.specs.declared.instr.WordKind.{WordKind}
use Rattle.bytecode.specs.Code.{Function as CodeFunction, Code}
use Rattle.bytecode.specs.Rules.{AreThere}
use Rattle.type_table.specs.Types.{ValueType}
use Rattle.type_table.specs.Containment.{Structs}
use Rattle.type_table.specs.Scopes.{Globals, Scope, Variable, is_blank, later, last_named, own_variable, declared}
use Rattle.typing_rules.specs.Expressions.{default_type}
use Rattle.typing_rules.specs.Operations.{Given}
use Rattle.typing_rules.specs.Simples.{is_declarable, has_name, has_twice, after_name, with_defined}
use Rattle.meaning.specs.Values.{known}
use Rattle.codegen_base.specs.declared.element.Element.{Element}
use Rattle.codegen_base.specs.Elements.{kinds_of}
use Rattle.codegen_base.specs.Layouts.{Layout, entering, leaving, declaring, declaring_new, declaring_all, declaring_each, given_types}
use Rattle.codegen_base.specs.Statements.{Local, own_spot, name_spot, name_spots, name_type, name_types}
use Rattle.codegen_base.proofs.Alike.{kind_if, Alike, own_alike, alike_declared, last_append}
use Rattle.codegen_base.proofs.Assigned.{counted_words}
use Rattle.codegen_base.proofs.Likeness.{kinds_long}
use Rattle.codegen_base.proofs.Noted.{Noted}
use Rattle.plan.proofs.Lists.{Stand, whole, split}
use Rattle.codegen_fine.proofs.Operands.{Grounds}
use Rattle.codegen_fine.proofs.Makes.{noted_there}
use Rattle.codegen_fine.proofs.Places.{IsHoused, AllHoused, found_housed, drop_housed}
use Rattle.codegen_fine.proofs.Spots.{SpotFits, SpotsFit}

drop_append : (n : ℕ) (vs : List Variable) (v : Variable) → n ≤ length vs → drop n (vs ++ v ∷ []) ≡ drop n vs ++ v ∷ []
drop_append zero vs v le = refl
drop_append (suc n) [] v le = absurd (omega (arith, le))
drop_append (suc n) (w ∷ vs) v le = drop_append n vs v (omega (arith, le))

-- a declaration of another name hides none
own_stays : (structs : Structs) (scope : Scope) (kind : Option ValueType) (new name : List ℕ) → scope.outer ≤ length scope.variables → bytes_eq new name ≡ false → own_variable (declared structs scope kind new) name ≡ own_variable scope name
own_stays structs scope kind new name le other =
    let v : Variable = record { name = new; kind = kind; place = scope.words } in
    let same : last_named (drop scope.outer (scope.variables ++ v ∷ [])) name ≡ last_named (drop scope.outer scope.variables) name =
    ap (λ vs. last_named vs name) (drop_append scope.outer scope.variables v le) ∙ last_append (drop scope.outer scope.variables) v name
    ∙ ap (λ t. later (last_named (drop scope.outer scope.variables) name) (if t then Some v else None)) other in
    ap (λ o. if is_blank name then None else o) same

-- none of these names is another one
abbrev pub AllOthers : List ℕ → List (List ℕ) → Type 0
AllOthers new [] = Unit {0}
AllOthers new (name ∷ names) = (bytes_eq new name ≡ false) × AllOthers new names

others_by : (new : List ℕ) (names : List (List ℕ)) → has_name names new ≡ false → AllOthers new names
others_by new [] e = tt
others_by new (name ∷ names) e = let w = or_parts (bytes_eq new name) (list_any (bytes_eq new) names) e in (w.0, others_by new names w.1)

-- the innermost blocks of two scopes have the same variables of these names
abbrev pub OwnSame : Scope → Scope → List (List ℕ) → Type 0
OwnSame a b [] = Unit {0}
OwnSame a b (name ∷ names) = (own_variable a name ≡ own_variable b name) × OwnSame a b names

pub own_same : (a : Scope) (names : List (List ℕ)) → OwnSame a a names
own_same a [] = tt
own_same a (name ∷ names) = (refl, own_same a names)

pub own_declared : (structs : Structs) (a b : Scope) (kind : Option ValueType) (new : List ℕ) (names : List (List ℕ)) → a.outer ≤ length a.variables → AllOthers new names → OwnSame a b names → OwnSame (declared structs a kind new) b names
own_declared structs a b kind new [] le others same = tt
own_declared structs a b kind new (name ∷ names) le others same = (own_stays structs a kind new name le others.0 ∙ same.0, own_declared structs a b kind new names le others.1 same.1)

none_there : (o : Option Variable) → is_none o ≡ true → o ≡ None
none_there None e = refl
none_there (Some v) e = absurd cc

-- a name that is declared is new, and not `_`
pub declarable_parts : (scope : Scope) (name : List ℕ) → is_declarable scope name ≡ true → (is_blank name ≡ false) × (own_variable scope name ≡ None)
declarable_parts scope name e = let w = and_parts (not (is_blank name)) (is_none (own_variable scope name)) e in (go (is_blank name) w.0, none_there (own_variable scope name) w.1) where
  go : (b : Bool) → not b ≡ true → b ≡ false
  go false e = refl
  go true e = absurd cc

none_alike : (a b : Option Variable) → kind_if a ≡ kind_if b → is_none a ≡ is_none b
none_alike None None e = refl
none_alike None (Some w) e = absurd cc
none_alike (Some v) None e = absurd cc
none_alike (Some v) (Some w) e = refl

pub declarable_alike : (s t : Scope) → Alike s t → (name : List ℕ) → is_declarable s name ≡ is_declarable t name
declarable_alike s t alike name = ap (λ b. not (is_blank name) && b) (none_alike (own_variable s name) (own_variable t name) (own_alike s t alike name))

-- names none of which, but `_`, is among them twice
pub twice_parts : (name : List ℕ) (names : List (List ℕ)) → has_twice (name ∷ names) ≡ false → (is_blank name ≡ false → AllOthers name names) × (has_twice names ≡ false)
twice_parts name names e =
    let w = or_parts (not (is_blank name) && has_name names name) (has_twice names) e in
    (λ b. others_by name names (sym (ap (λ t. not t && has_name names name) b) ∙ w.0), w.1)

-- ---- locals

-- shapes that two lists name are there
pub there_append : (code : Code) (xs ys : List WordKind) → AreThere code xs → AreThere code ys → AreThere code (xs ++ ys)
there_append code [] ys a b n k e = b n k e
there_append code (x ∷ xs) ys a b zero k e = a zero k e
there_append code (x ∷ xs) ys a b (suc n) k e = there_append code xs ys (λ m j h. a (suc m) j h) b n k e

-- the locals of the one begin those of the other
pub record Longer (a b : Layout) : Type 0 where
  pub more : List WordKind
  pub is : b.locals ≡ a.locals ++ more

pub longer_no : (a : Layout) → Longer a a
longer_no a = record { more = []; is = sym (append-nil a.locals) }

pub longer_on : (a b c : Layout) → Longer a b → Longer b c → Longer a c
longer_on a b c g h = record { more = g.more ++ h.more; is = h.is ∙ ap (λ (l : List WordKind). l ++ h.more) g.is ∙ append_assoc a.locals g.more h.more }

-- a layout's locals begin those of the function
pub record Begins (f : CodeFunction) (layout : Layout) : Type 0 where
  pub more : List WordKind
  pub is : f.locals ≡ layout.locals ++ more

pub begins_before : (f : CodeFunction) (a b : Layout) → Longer a b → Begins f b → Begins f a
begins_before f a b g h = record { more = g.more ++ h.more; is = h.is ∙ ap (λ (l : List WordKind). l ++ h.more) g.is ∙ append_assoc a.locals g.more h.more }

module _ (globals : Globals) (elements : List Element) where
  pub longer_declaring : (kind : ValueType) (name : List ℕ) (layout : Layout) → Longer layout (declaring globals elements kind name layout)
  longer_declaring kind name layout = record { more = kinds_of globals.structs elements kind; is = refl }

  pub longer_new : (kind : ValueType) (name : List ℕ) (layout : Layout) → Longer layout (declaring_new globals elements kind name layout)
  longer_new kind name layout = go (is_declarable layout.scope name) where
    go : (t : Bool) → Longer layout (if t then declaring globals elements kind name layout else layout)
    go true = longer_declaring kind name layout
    go false = longer_no layout

  pub longer_all : (names : List (List ℕ)) (types : List ValueType) (layout : Layout) → Longer layout (declaring_all globals elements names types layout)
  longer_all [] types layout = longer_no layout
  longer_all (name ∷ names) [] layout = longer_no layout
  longer_all (name ∷ names) (kind ∷ types) layout = longer_on layout (declaring_new globals elements kind name layout) _ (longer_new kind name layout) (longer_all names types (declaring_new globals elements kind name layout))

  pub longer_each : (kind : ValueType) (names : List (List ℕ)) (layout : Layout) → Longer layout (declaring_each globals elements kind names layout)
  longer_each kind [] layout = longer_no layout
  longer_each kind (name ∷ names) layout = longer_on layout (declaring_new globals elements kind name layout) _ (longer_new kind name layout) (longer_each kind names (declaring_new globals elements kind name layout))

  module _ (code : Code) (f : CodeFunction) where
    -- a layout's variables are among the function's locals, and its locals are those that are taken
    pub record Room (layout : Layout) : Type 0 where
      pub housed : AllHoused globals elements f layout.scope.variables
      pub words : layout.scope.words ≡ length layout.locals
      pub there : AreThere code layout.locals

    pub room_entering : (layout : Layout) → Room layout → Room (entering layout)
    room_entering layout r = record { housed = r.housed; words = r.words; there = r.there }

    pub room_leaving : (outer inner : Layout) → Room outer → Room inner → Room (leaving outer inner)
    room_leaving outer inner r s = record { housed = r.housed; words = s.words; there = s.there }

    housed_more : (vs : List Variable) (v : Variable) → AllHoused globals elements f vs → IsHoused globals elements f v.place v.kind → AllHoused globals elements f (vs ++ v ∷ [])
    housed_more [] v all h = (h, tt)
    housed_more (w ∷ vs) v all h = (all.0, housed_more vs v all.1 h)

    -- the words after a layout's own
    pub new_housed : (kind : ValueType) (layout : Layout) → Room layout → (name : List ℕ) → Begins f (declaring globals elements kind name layout) → Noted elements kind → IsHoused globals elements f layout.scope.words (Some kind)
    new_housed kind layout room name begins noted =
        let ks = kinds_of globals.structs elements kind in
        let all : f.locals ≡ layout.locals ++ (ks ++ begins.more) = begins.is ∙ append_assoc layout.locals ks begins.more in
        let there = split f.locals 0 layout.locals (ks ++ begins.more) layout.scope.words (omega (arith, room.words)) (subst (Stand f.locals 0) all (whole f.locals)) in
        let own = split f.locals layout.scope.words ks begins.more (layout.scope.words + length ks) refl there.1 in
        record {
          kind = kind;
          has = refl;
          within = omega (arith, room.words, ap length all, length-append layout.locals (ks ++ begins.more), length-append ks begins.more);
          stand = own.0;
          noted = noted;
        }

    pub room_declaring : Grounds globals elements code → (kind : ValueType) (name : List ℕ) (layout : Layout) → Room layout → Begins f (declaring globals elements kind name layout) → Noted elements kind → Room (declaring globals elements kind name layout)
    room_declaring grounds kind name layout room begins noted =
        let ks = kinds_of globals.structs elements kind in
        record {
          housed = housed_more layout.scope.variables (record { name = name; kind = Some kind; place = layout.scope.words }) room.housed (new_housed kind layout room name begins noted);
          words = omega (arith, room.words, length-append layout.locals ks, counted_words globals.structs grounds.wide kind, kinds_long globals.structs elements kind);
          there = there_append code layout.locals ks room.there (noted_there globals elements code f grounds kind noted);
        }

    -- ---- names that are given values

    module _ (grounds : Grounds globals elements code) where
      -- a name that is new in a scope takes a type that is known and noted
      abbrev pub AllTaken : Scope → List (List ℕ) → List Given → Type 0
      AllTaken base [] [] = Unit {0}
      AllTaken base (name ∷ names) (value ∷ values) = (own_variable base name ≡ None → (default_type value.worth ≡ Some (known (default_type value.worth))) × Noted elements (known (default_type value.worth))) × AllTaken base names values
      AllTaken base names values = ⊥

      abbrev pub kinds_each : List ValueType → List (List WordKind)
      kinds_each types = map (kinds_of globals.structs elements) types

      -- the spots of names fit, and the variables after them are those that the typing rules see
      pub record NamesFit (base layout : Layout) (s : Scope) (names : List (List ℕ)) (values : List Given) : Type 0 where
        pub fit : SpotsFit globals.structs elements code f (name_spots globals elements layout names (given_types globals elements values)) (kinds_each (name_types globals elements base names (given_types globals elements values)))
        pub room : Room (declaring_all globals elements names (given_types globals elements values) layout)
        pub alike : Alike (with_defined globals s names values) (declaring_all globals elements names (given_types globals elements values) layout).scope

      -- a variable of the innermost block takes a value
      own_fits : (layout : Layout) → Room layout → (name : List ℕ) (kind : ValueType) (o : Option Variable) → own_variable layout.scope name ≡ o → SpotFits globals.structs elements code f (own_spot globals elements layout.scope kind o) (kinds_of globals.structs elements (name_type globals elements kind o))
      own_fits layout room name kind None is = refl
      own_fits layout room name kind (Some v) is =
          let h = found_housed globals elements f (drop layout.scope.outer layout.scope.variables) name v (drop_housed globals elements f layout.scope.outer layout.scope.variables room.housed) (of (is_blank name) is) in
          subst (λ o. SpotFits globals.structs elements code f (Local v.place (length (kinds_of globals.structs elements (known o)))) (kinds_of globals.structs elements (known o))) (sym h.has) (refl, h.within, h.stand) where
            of : (b : Bool) → (if b then None else last_named (drop layout.scope.outer layout.scope.variables) name) ≡ Some v → last_named (drop layout.scope.outer layout.scope.variables) name ≡ Some v
            of true e = absurd cc
            of false e = e

      -- one name is given a value
      record StepFits (base layout : Layout) (s : Scope) (name : List ℕ) (o : Option ValueType) : Type 0 where
        fit : SpotFits globals.structs elements code f (name_spot globals elements layout name (known o)) (kinds_of globals.structs elements (name_type globals elements (known o) (own_variable base.scope name)))
        room : Room (declaring_new globals elements (known o) name layout)
        alike : Alike (after_name globals s name o) (declaring_new globals elements (known o) name layout).scope
        same : (names : List (List ℕ)) → (is_blank name ≡ false → AllOthers name names) → OwnSame layout.scope base.scope names → OwnSame (declaring_new globals elements (known o) name layout).scope base.scope names

      step_fits : (base layout : Layout) (s : Scope) (name : List ℕ) (o : Option ValueType) → Room layout → Begins f (declaring_new globals elements (known o) name layout) → Alike s layout.scope → own_variable layout.scope name ≡ own_variable base.scope name
          → (own_variable base.scope name ≡ None → (o ≡ Some (known o)) × Noted elements (known o)) → StepFits base layout s name o
      step_fits base layout s name o room begins alike same well = go (is_declarable layout.scope name) refl where
        declarable : is_declarable s name ≡ is_declarable layout.scope name
        declarable = declarable_alike s layout.scope alike name

        go : (t : Bool) → is_declarable layout.scope name ≡ t → StepFits base layout s name o
        go true is =
            let d = declarable_parts layout.scope name is in
            let none : own_variable base.scope name ≡ None = sym same ∙ d.1 in
            let w = well none in
            let b = subst (λ t. Begins f (if t then declaring globals elements (known o) name layout else layout)) is begins in
            let h = new_housed (known o) layout room name b w.1 in
            record {
              fit = subst (λ t. SpotFits globals.structs elements code f (if t then Local layout.scope.words (length (kinds_of globals.structs elements (known o))) else own_spot globals elements layout.scope (known o) (own_variable layout.scope name)) (kinds_of globals.structs elements (name_type globals elements (known o) (own_variable base.scope name)))) (sym is)
                  (subst (λ x. SpotFits globals.structs elements code f (Local layout.scope.words (length (kinds_of globals.structs elements (known o)))) (kinds_of globals.structs elements (name_type globals elements (known o) x))) (sym none)
                  (subst (λ k. SpotFits globals.structs elements code f (Local layout.scope.words (length (kinds_of globals.structs elements k))) (kinds_of globals.structs elements k)) (same_Some h.kind (known o) (sym h.has)) (refl, h.within, h.stand)));
              room = subst (λ t. Room (if t then declaring globals elements (known o) name layout else layout)) (sym is) (room_declaring grounds (known o) name layout room b w.1);
              alike = subst (λ t. Alike (if t then declared globals.structs s o name else s) (declaring_new globals elements (known o) name layout).scope) (sym (declarable ∙ is))
                  (subst (λ t. Alike (declared globals.structs s o name) (if t then declaring globals elements (known o) name layout else layout).scope) (sym is)
                  (subst (λ k. Alike (declared globals.structs s k name) (declared globals.structs layout.scope (Some (known o)) name)) (sym w.0) (alike_declared globals.structs globals.structs s layout.scope (Some (known o)) name alike)));
              same = λ names others all. subst (λ t. OwnSame (if t then declaring globals elements (known o) name layout else layout).scope base.scope names) (sym is) (own_declared globals.structs layout.scope base.scope (Some (known o)) name names alike.fit (others d.0) all);
            }
        go false is = record {
          fit = subst (λ t. SpotFits globals.structs elements code f (if t then Local layout.scope.words (length (kinds_of globals.structs elements (known o))) else own_spot globals elements layout.scope (known o) (own_variable layout.scope name)) (kinds_of globals.structs elements (name_type globals elements (known o) (own_variable base.scope name)))) (sym is)
              (subst (λ x. SpotFits globals.structs elements code f (own_spot globals elements layout.scope (known o) (own_variable layout.scope name)) (kinds_of globals.structs elements (name_type globals elements (known o) x))) same (own_fits layout room name (known o) (own_variable layout.scope name) refl));
          room = subst (λ t. Room (if t then declaring globals elements (known o) name layout else layout)) (sym is) room;
          alike = subst (λ t. Alike (if t then declared globals.structs s o name else s) (declaring_new globals elements (known o) name layout).scope) (sym (declarable ∙ is))
              (subst (λ t. Alike s (if t then declaring globals elements (known o) name layout else layout).scope) (sym is) alike);
          same = λ names others all. subst (λ t. OwnSame (if t then declaring globals elements (known o) name layout else layout).scope base.scope names) (sym is) all;
        }

      pub names_fit : (names : List (List ℕ)) (values : List Given) (base layout : Layout) (s : Scope) → Room layout → Begins f (declaring_all globals elements names (given_types globals elements values) layout) → Alike s layout.scope → OwnSame layout.scope base.scope names
          → has_twice names ≡ false → AllTaken base.scope names values → NamesFit base layout s names values
      names_fit [] [] base layout s room begins alike same twice well = record { fit = tt; room = room; alike = alike }
      names_fit [] (value ∷ values) base layout s room begins alike same twice well = absurd well
      names_fit (name ∷ names) [] base layout s room begins alike same twice well = absurd well
      names_fit (name ∷ names) (value ∷ values) base layout s room begins alike same twice well =
          let kind = known (default_type value.worth) in
          let next = declaring_new globals elements kind name layout in
          let t = twice_parts name names twice in
          let one = step_fits base layout s name (default_type value.worth) room (begins_before f next _ (longer_all names (given_types globals elements values) next) begins) alike same.0 well.0 in
          let more = names_fit names values base next (after_name globals s name (default_type value.worth)) one.room begins one.alike (one.same names t.0 same.1) t.1 well.1 in
          record { fit = (one.fit, more.fit); room = more.room; alike = more.alike }
