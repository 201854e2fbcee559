-- After a statement in which nothing is wrong, the layout has the variables that the typing rules see.
use Rattle.std.proofs.Common.{◌≡◌, ℕ, ◌≤◌, Bool, true, false, ◌&&◌, List, [], ◌∷◌, ◌++◌, length, drop, Option, Some, None, refl, sym, ap, ◌∙◌, subst, bytes_eq}
use Rattle.std.specs.Prelude.{if◌then◌else◌, not}
use Rattle.std.specs.Option.{is_none}
use Rattle.std.proofs.lemmas.Option.{same_Some}
use Rattle.type_table.specs.Types.{ValueType}
use Rattle.type_table.specs.Containment.{Structs}
use Rattle.type_table.specs.Scopes.{Globals, Scope, Variable, is_blank, later, if_named, last_named, own_variable, declared}
use Rattle.typing_rules.specs.Expressions.{default_type}
use Rattle.typing_rules.specs.Operations.{Given}
use Rattle.typing_rules.specs.Simples.{is_declarable, after_name, with_defined}
use Rattle.meaning.specs.Values.{known}
use Rattle.codegen_base.specs.declared.element.Element.{Element}
use Rattle.codegen_base.specs.Layouts.{Layout, declaring, declaring_new, declaring_all, given_types}
use Rattle.codegen_base.proofs.Alike.{Alike, alike_declared, last_append, drop_append}
use Rattle.codegen_base.proofs.Assigned.{placed_new}
use Rattle.codegen_base.proofs.Fields.{AllWide}
use Rattle.codegen_base.proofs.Known.{VariablesNoted}
use Rattle.codegen_base.proofs.Noted.{Noted}
use Rattle.codegen_base.proofs.Static.{IsPlaced}
use Rattle.codegen_fine.proofs.Layouts.{declarable_parts, declarable_alike}
use Rattle.codegen.proofs.Given.{Well, AllWell}

-- ---- names that are new after a declaration were new before it

earlier : (a b : Option Variable) → later a b ≡ None → a ≡ None
earlier a None e = e
earlier a (Some v) e = absurd cc

declarable_by : (scope : Scope) (name : List ℕ) → is_blank name ≡ false → own_variable scope name ≡ None → is_declarable scope name ≡ true
declarable_by scope name blank own = ap (λ b. not b && is_none (own_variable scope name)) blank ∙ ap is_none own

unblanked : (scope : Scope) (name : List ℕ) → is_blank name ≡ false → own_variable scope name ≡ last_named (drop scope.outer scope.variables) name
unblanked scope name blank = ap (λ b. if b then None else last_named (drop scope.outer scope.variables) name) blank

declarable_before : (structs : Structs) (s : Scope) (kind : Option ValueType) (other name : List ℕ) → s.outer ≤ length s.variables → is_declarable (declared structs s kind other) name ≡ true → is_declarable s name ≡ true
declarable_before structs s kind other name le e =
    let v : Variable = record { name = other; kind = kind; place = s.words } in
    let d = declarable_parts (declared structs s kind other) name e in
    let last : later (last_named (drop s.outer s.variables) name) (if_named name v) ≡ None =
    sym (ap (λ vs. last_named vs name) (drop_append s.outer s.variables v le) ∙ last_append (drop s.outer s.variables) v name) ∙ sym (unblanked (declared structs s kind other) name d.0) ∙ d.1 in
    declarable_by s name d.0 (unblanked s name d.0 ∙ earlier (last_named (drop s.outer s.variables) name) (if_named name v) last)

module _ (elements : List Element) (globals : Globals) (all : AllWide globals.structs) where
  well_declared : (names : List (List ℕ)) (values : List Given) (s : Scope) (kind : Option ValueType) (other : List ℕ) → s.outer ≤ length s.variables → AllWell elements s names values → AllWell elements (declared globals.structs s kind other) names values
  well_declared [] [] s kind other le well = tt
  well_declared [] (value ∷ values) s kind other le well = absurd well
  well_declared (name ∷ names) [] s kind other le well = absurd well
  well_declared (name ∷ names) (value ∷ values) s kind other le well = (λ d. well.0 (declarable_before globals.structs s kind other name le d), well_declared names values s kind other le well.1)

  -- ---- layouts and scopes that belong together

  -- the variables are laid out as the layout says, and are those that the typing rules see; the elements of their types are noted
  pub record Good (s scope : Scope) (begins : List ℕ) : Type 0 where
    pub placed : IsPlaced globals.structs scope begins
    pub alike : Alike s scope
    pub noted : VariablesNoted elements globals scope

  noted_declared : (scope : Scope) (kind : ValueType) (name : List ℕ) → VariablesNoted elements globals scope → Noted elements kind → VariablesNoted elements globals (declared globals.structs scope (Some kind) name)
  noted_declared scope kind name noted own other v t found has = go (is_blank other) refl found where
    w : Variable
    w = record { name = name; kind = Some kind; place = scope.words }

    two : (b : Bool) → is_blank other ≡ false → later (last_named scope.variables other) (if b then Some w else None) ≡ Some v → Noted elements t
    two true blank e = subst (Noted elements) (same_Some kind t (ap (λ (x : Variable). x.kind) (same_Some w v e) ∙ has)) own
    two false blank e = noted other v t (ap (λ b. if b then None else last_named scope.variables other) blank ∙ e) has

    go : (b : Bool) → is_blank other ≡ b → (if b then None else last_named (scope.variables ++ w ∷ []) other) ≡ Some v → Noted elements t
    go true blank e = absurd cc
    go false blank e = two (bytes_eq w.name other) blank (sym (last_append scope.variables w other) ∙ e)

  good_declared : (s scope : Scope) (begins : List ℕ) (kind : ValueType) (name : List ℕ) → Good s scope begins → Noted elements kind → Good (declared globals.structs s (Some kind) name) (declared globals.structs scope (Some kind) name) begins
  good_declared s scope begins kind name good own = record {
    placed = placed_new globals.structs all scope begins name kind good.placed;
    alike = alike_declared globals.structs globals.structs s scope (Some kind) name good.alike;
    noted = noted_declared scope kind name good.noted own;
  }

  good_new : (s : Scope) (layout : Layout) (begins : List ℕ) (name : List ℕ) (o : Option ValueType) → Good s layout.scope begins → (is_declarable s name ≡ true → Well elements o) → Good (after_name globals s name o) (declaring_new globals elements (known o) name layout).scope begins
  good_new s layout begins name o good well = go (is_declarable s name) (is_declarable layout.scope name) (declarable_alike s layout.scope good.alike name) well where
    go : (a b : Bool) → a ≡ b → (a ≡ true → Well elements o) → Good (if a then declared globals.structs s o name else s) (if b then declaring globals elements (known o) name layout else layout).scope begins
    go true true e well = let w = well refl in subst (λ k. Good (declared globals.structs s k name) (declared globals.structs layout.scope (Some (known o)) name) begins) (sym w.0) (good_declared s layout.scope begins (known o) name good w.1)
    go true false e well = absurd cc
    go false true e well = absurd cc
    go false false e well = good

  well_new : (names : List (List ℕ)) (values : List Given) (s : Scope) (name : List ℕ) (o : Option ValueType) → s.outer ≤ length s.variables → AllWell elements s names values → AllWell elements (after_name globals s name o) names values
  well_new names values s name o le well = go (is_declarable s name) where
    go : (b : Bool) → AllWell elements (if b then declared globals.structs s o name else s) names values
    go true = well_declared names values s o name le well
    go false = well

  pub good_all : (names : List (List ℕ)) (values : List Given) (s : Scope) (layout : Layout) (begins : List ℕ) → Good s layout.scope begins → AllWell elements s names values → Good (with_defined globals s names values) (declaring_all globals elements names (given_types globals elements values) layout).scope begins
  good_all [] [] s layout begins good well = good
  good_all [] (value ∷ values) s layout begins good well = absurd well
  good_all (name ∷ names) [] s layout begins good well = absurd well
  good_all (name ∷ names) (value ∷ values) s layout begins good well =
      good_all names values (after_name globals s name (default_type value.worth)) (declaring_new globals elements (known (default_type value.worth)) name layout) begins
      (good_new s layout begins name (default_type value.worth) good well.0) (well_new names values s name (default_type value.worth) good.alike.fits well.1)
