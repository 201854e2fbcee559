-- Declarations of variables, with which nothing is wrong, leave the stack as it was.
use Rattle.std.proofs.Common.{◌≡◌, ℕ, suc, ◌+◌, ◌≤◌, Bool, true, false, not, ◌&&◌, ◌||◌, List, [], ◌∷◌, length, map, Option, Some, None, refl, sym, ap, ◌∙◌, subst, arith, inl, inr, length-append, sum_by, IfSome}
use Rattle.std.specs.Prelude.{if◌then◌else◌}
use Rattle.std.specs.Option.{is_none, is_some}
use Rattle.std.specs.List.{list_any}
use Rattle.std.proofs.lemmas.Bool.{or_parts}
use Rattle.std.proofs.lemmas.List.{length-map, append-nil}
use Rattle.go_text.specs.declared.rule.Rule.TheVariants as rules
use Rattle.syntax.specs.Tree.{TypeExpression, Expression}
use Rattle.syntax.specs.Measures.{if_any, type_size, expression_size}
use Rattle.bytecode.specs.declared.instr.WordKind.{WordKind}
use Rattle.bytecode.specs.Code.{Function as CodeFunction, Code}
use Rattle.type_table.specs.Types.{ValueType}
use Rattle.type_table.specs.Scopes.{Globals, Scope, Variable, is_blank, is_reserved, own_variable, declared, type_in}
use Rattle.typing_rules.specs.declared.violation.Violation.{Violation}
use Rattle.typing_rules.specs.Worths.{Typed as TypedWorth}
use Rattle.typing_rules.specs.Expressions.{ValueHas}
use Rattle.typing_rules.specs.Operations.{Given, given}
use Rattle.typing_rules.specs.Simples.{has_twice, with_defined, with_variables, AllFail, IfRightHas, TypedVariablesHave, UntypedVariablesHave}
use Rattle.typing_rules.proofs.Defaults.{untyped_names}
use Rattle.codegen_base.specs.declared.element.Element.{Element}
use Rattle.codegen_base.specs.Elements.{kinds_of}
use Rattle.codegen_base.specs.Generated.{zero_values, same_types, variables_plan}
use Rattle.codegen_base.specs.Layouts.{Layout, declaring_new, declaring_all, declaring_each, given_types}
use Rattle.codegen_base.specs.Pushes.{pushes_zeros}
use Rattle.codegen_base.specs.Statements.{pushes_right, right_types, name_type, name_spots, name_types, defines}
use Rattle.codegen_base.proofs.Alike.{kind_if, Alike, own_alike}
use Rattle.codegen_base.proofs.Noted.{Noted}
use Rattle.codegen_base.proofs.Typing.{Free, broken}
use Rattle.plan.proofs.Typed.{Typed}
use Rattle.codegen_fine.proofs.Pushing.{Puts, puts_both, puts_zeros}
use Rattle.codegen_fine.proofs.Operands.{Grounds}
use Rattle.codegen_fine.proofs.Operands.{all_kinds}
use Rattle.codegen_fine.proofs.Spots.{SpotsFit}
use Rattle.codegen_fine.proofs.Places.{housed_of}
use Rattle.codegen_fine.proofs.Givens.{WantsFail, WantsNoted, taken_all}
use Rattle.codegen_fine.proofs.Rights.{typed_right}
use Rattle.codegen_base.proofs.StatementMakes.{ValuesMake}
use Rattle.codegen_fine.proofs.Layouts.{OwnSame, own_same, own_declared, AllOthers, twice_parts, Begins, Room, AllTaken, names_fit}
use Rattle.codegen_fine.proofs.Makes.{noted_there}
use Rattle.codegen_fine.proofs.Assigns.{Leaves, Declares, put_leaves, typed_defines}

pub three_false : (a b c : Bool) → (a || b || c) ≡ false → (b ≡ false) × (c ≡ false)
three_false false false false e = (refl, refl)
three_false false false true e = absurd cc
three_false false true false e = absurd cc
three_false false true true e = absurd cc
three_false true false false e = absurd cc
three_false true false true e = absurd cc
three_false true true false e = absurd cc
three_false true true true e = absurd cc

pub not_true : (b : Bool) → (b ≡ true → ⊥) → b ≡ false
not_true true never = absurd (never refl)
not_true false never = refl

none_of : (o : Option Variable) → is_some o ≡ false → o ≡ None
none_of None e = refl
none_of (Some v) e = absurd cc

-- all names are new in the innermost block
abbrev pub AllNew : Scope → List (List ℕ) → Type 0
AllNew s [] = Unit {0}
AllNew s (name ∷ names) = (own_variable s name ≡ None) × AllNew s names

pub new_by : (s : Scope) (names : List (List ℕ)) → list_any (λ name. is_some (own_variable s name)) names ≡ false → AllNew s names
new_by s [] e = tt
new_by s (name ∷ names) e = let w = or_parts (is_some (own_variable s name)) (list_any (λ name. is_some (own_variable s name)) names) e in (none_of (own_variable s name) w.0, new_by s names w.1)

new_alike : (s t : Scope) → Alike s t → (names : List (List ℕ)) → AllNew s names → AllNew t names
new_alike s t alike [] all = tt
new_alike s t alike (name ∷ names) all = (go (own_variable t name) (sym (ap kind_if all.0) ∙ own_alike s t alike name), new_alike s t alike names all.1) where
  go : (b : Option Variable) → None ≡ kind_if b → b ≡ None
  go None e = refl
  go (Some v) e = absurd cc

-- values of one type, one for each name
abbrev pub alike_values : List (List ℕ) → ValueType → List Given
alike_values [] kind = []
alike_values (name ∷ names) kind = record { worth = Some (TypedWorth kind); nodes = record { first = 0; end = 0 } } ∷ alike_values names kind

module _ (globals : Globals) (elements : List Element) where
  values_types : (names : List (List ℕ)) (kind : ValueType) → given_types globals elements (alike_values names kind) ≡ same_types globals elements names kind
  values_types [] kind = refl
  values_types (name ∷ names) kind = ap (λ (l : List ValueType). kind ∷ l) (values_types names kind)

  pub all_each : (names : List (List ℕ)) (kind : ValueType) (layout : Layout) → declaring_all globals elements names (given_types globals elements (alike_values names kind)) layout ≡ declaring_each globals elements kind names layout
  all_each [] kind layout = refl
  all_each (name ∷ names) kind layout = all_each names kind (declaring_new globals elements kind name layout)

  names_same : (layout : Layout) (names : List (List ℕ)) (kind : ValueType) → AllNew layout.scope names → name_types globals elements layout names (same_types globals elements names kind) ≡ same_types globals elements names kind
  names_same layout [] kind all = refl
  names_same layout (name ∷ names) kind all = ap (λ o. name_type globals elements kind o ∷ name_types globals elements layout names (same_types globals elements names kind)) all.0 ∙ ap (λ (l : List ValueType). kind ∷ l) (names_same layout names kind all.1)

  -- the variables after names that are all new
  pub variables_are : (names : List (List ℕ)) (kind : ValueType) (s base : Scope) → s.outer ≤ length s.variables → OwnSame s base names → AllNew base names → has_twice names ≡ false → with_defined globals s names (alike_values names kind) ≡ with_variables globals s (Some kind) names
  variables_are [] kind s base le same all twice = refl
  variables_are (name ∷ names) kind s base le same all twice = go (is_blank name) (is_none (own_variable s name)) refl (ap is_none (same.0 ∙ all.0)) (twice_parts name names twice) (λ next l h t. variables_are names kind next base l h all.1 t) where
    go : (b n : Bool) → is_blank name ≡ b → n ≡ true → ((is_blank name ≡ false → AllOthers name names) × (has_twice names ≡ false))
        → ((next : Scope) → next.outer ≤ length next.variables → OwnSame next base names → has_twice names ≡ false → with_defined globals next names (alike_values names kind) ≡ with_variables globals next (Some kind) names)
        → with_defined globals (if not b && n then declared globals.structs s (Some kind) name else s) names (alike_values names kind) ≡ with_variables globals (if b then s else declared globals.structs s (Some kind) name) (Some kind) names
    go true n is none t more = more s le same.1 t.1
    go false false is none t more = absurd cc
    go false true is none t more =
        let v : Variable = record { name = name; kind = Some kind; place = s.words } in
        let long = length-append s.variables (v ∷ []) in
        more (declared globals.structs s (Some kind) name) (omega (arith, le, long)) (own_declared globals.structs s base (Some kind) name names le (t.0 is) same.1) t.1

  abbrev all_want : List (List ℕ) → ValueType → List (Option ValueType)
  all_want names kind = map (λ name. Some kind) names

  want_same : (names : List (List ℕ)) (kind : ValueType) (values : List Given) → length values ≡ length names → taken_all (all_want names kind) (given_types globals elements values) ≡ same_types globals elements names kind
  want_same [] kind [] e = refl
  want_same [] kind (value ∷ values) e = absurd cc
  want_same (name ∷ names) kind [] e = absurd cc
  want_same (name ∷ names) kind (value ∷ values) e = let l : suc (length values) ≡ suc (length names) = e in ap (λ (l : List ValueType). kind ∷ l) (want_same names kind values (omega (arith, l)))

  want_noted : (names : List (List ℕ)) (kind : ValueType) → Noted elements kind → WantsNoted elements (all_want names kind)
  want_noted [] kind noted = tt
  want_noted (name ∷ names) kind noted = (noted, want_noted names kind noted)

  want_fails : (names : List (List ℕ)) (kind : ValueType) (o : Option ValueType) (values : List Given) (violation : Violation) → o ≡ Some kind → WantsFail (all_want names kind) values violation → AllFail o (length names) values violation
  want_fails [] kind o values violation is h = absurd h
  want_fails (name ∷ names) kind o [] violation is h = absurd h
  want_fails (name ∷ names) kind o (value ∷ values) violation is (inl h) = inl (subst (λ x. ValueHas value.worth x value.nodes violation) (sym is) h)
  want_fails (name ∷ names) kind o (value ∷ values) violation is (inr h) = inr (want_fails names kind o values violation is h)

  module _ (code : Code) (f : CodeFunction) (grounds : Grounds globals elements code) where
    zeros_put : (names : List (List ℕ)) (count : ℕ) (kind : ValueType) → Noted elements kind → Puts globals.structs elements code f (all_kinds globals.structs elements (same_types globals elements names kind)) (zero_values globals elements count names kind)
    zeros_put [] count kind noted a ks out rest t = subst (λ (l : List WordKind). Typed code f a l rest out) (append-nil ks) t
    zeros_put (name ∷ names) count kind noted a ks out rest t =
        puts_both globals.structs elements code f (kinds_of globals.structs elements kind) (all_kinds globals.structs elements (same_types globals elements names kind)) (pushes_zeros (kinds_of globals.structs elements kind)) (zero_values globals elements count names kind)
        (puts_zeros globals.structs elements code f (kinds_of globals.structs elements kind) (noted_there globals elements code f grounds kind noted)) (zeros_put names count kind noted) a ks out rest t

    pub taken_alike : (scope : Scope) (names : List (List ℕ)) (kind : ValueType) → Noted elements kind → AllTaken globals elements code f grounds scope names (alike_values names kind)
    taken_alike scope [] kind noted = tt
    taken_alike scope (name ∷ names) kind noted = (λ e. (refl, noted), taken_alike scope names kind noted)

    module _ (layout : Layout) (room : Room globals elements code f layout) (s : Scope) (alike : Alike s layout.scope) where
      -- a `var` without a type
      pub typed_untyped : (names : List (List ℕ)) (right : List Expression) (first : ℕ) → Free (UntypedVariablesHave globals s first names right) → ValuesMake globals elements right
          → Begins f (declaring_all globals elements names (right_types globals elements layout.scope (length names) right) layout)
          → Declares globals elements code f grounds (defines globals elements layout names (right_types globals elements layout.scope (length names) right) right) (with_defined globals s names (given globals s (length names) 0 right))
          (declaring_all globals elements names (right_types globals elements layout.scope (length names) right) layout)
      typed_untyped names right first free noted begins =
          let end = first + sum_by expression_size right + 1 in
          let b = broken rules.Declared end (omega arith) in
          let none = not_true (list_any is_reserved names || has_twice names || list_any (λ name. is_some (own_variable s name)) names) (λ e. free b.0 (inr (inr (inl (e, b.1))))) in
          typed_defines globals elements code f grounds layout room s alike names right first end (omega arith) (three_false (list_any is_reserved names) (has_twice names) (list_any (λ name. is_some (own_variable s name)) names) none).0
          (λ violation h. free violation (inl h)) (λ violation h. free violation (inr (inl h))) (untyped_names s names (given globals s (length names) first right) end (omega arith) (λ violation h. free violation (inr h))) noted begins

      -- a `var` with a type
      pub typed_typed : (names : List (List ℕ)) (written : TypeExpression) (right : Option (List Expression)) (first : ℕ) (kind : ValueType) → type_in globals.types s written ≡ Some kind → Noted elements kind → Free (TypedVariablesHave globals s first names written right)
          → IfSome right (ValuesMake globals elements)
          → Begins f (declaring_each globals elements kind names layout)
          → Declares globals elements code f grounds (variables_plan globals elements layout names kind right) (with_variables globals s (type_in globals.types s written) names) (declaring_each globals elements kind names layout)
      typed_typed names written right first kind is noted free makes begins =
          let end = first + type_size written + if_any (sum_by expression_size) right + 1 in
          let b = broken rules.Declared end (omega arith) in
          let parts =
          three_false (list_any is_reserved names) (has_twice names) (list_any (λ name. is_some (own_variable s name)) names)
          (not_true (list_any is_reserved names || has_twice names || list_any (λ name. is_some (own_variable s name)) names) (λ e. free b.0 (inr (inr (e, b.1))))) in
          let fresh = new_by s names parts.1 in
          let fresh-here = new_alike s layout.scope alike names fresh in
          let n = names_fit globals elements code f grounds names (alike_values names kind) layout layout s room (subst (Begins f) (sym (all_each names kind layout)) begins) alike (own_same layout.scope names) parts.0 (taken_alike layout.scope names kind noted) in
          let fit = subst (λ (l : List ValueType). SpotsFit globals.structs elements code f (name_spots globals elements layout names l) (map (kinds_of globals.structs elements) (name_types globals elements layout names l))) (values_types names kind) n.fit in
          let same = names_same layout names kind fresh-here in
          let types = same_types globals elements names kind in
          record {
            leaves = go right (λ violation h. free violation (inr (inl h))) makes same fit;
            room = subst (Room globals elements code f) (all_each names kind layout) n.room;
            alike = subst (λ o. Alike (with_variables globals s o names) (declaring_each globals elements kind names layout).scope) (sym is)
                (subst (λ x. Alike x (declaring_each globals elements kind names layout).scope) (variables_are names kind s s alike.fits (own_same s names) fresh parts.0) (subst (λ (x : Layout). Alike (with_defined globals s names (alike_values names kind)) x.scope) (all_each names kind layout) n.alike));
          } where
            go : (right : Option (List Expression)) → Free (IfRightHas globals s (length names) (type_in globals.types s written) (first + type_size written) right)
                → IfSome right (ValuesMake globals elements)
                → name_types globals elements layout names (same_types globals elements names kind) ≡ same_types globals elements names kind
                → SpotsFit globals.structs elements code f (name_spots globals elements layout names (same_types globals elements names kind)) (map (kinds_of globals.structs elements) (name_types globals elements layout names (same_types globals elements names kind)))
                → Leaves globals elements code f grounds (variables_plan globals elements layout names kind right)
            go None free makes same fit =
                put_leaves globals elements code f grounds (same_types globals elements names kind) (name_spots globals elements layout names (same_types globals elements names kind)) (zero_values globals elements 0 names kind) (zeros_put names 0 kind noted)
                (subst (λ (l : List ValueType). SpotsFit globals.structs elements code f (name_spots globals elements layout names (same_types globals elements names kind)) (map (kinds_of globals.structs elements) l)) same fit)
            go (Some r) free makes same fit =
                let count = length names in
                let at = first + type_size written in
                let values = given globals layout.scope count 0 r in
                let t = typed_right globals elements code f grounds layout.scope (housed_of globals elements f layout.scope room.housed) s alike.named r count at (at + sum_by expression_size r + 1) (all_want names kind) (omega arith) (length-map names (λ name. Some kind)) (want_noted names kind noted)
                (λ violation h. free violation (inl h)) (λ violation h. free violation (inr (inl h))) (λ violation h. free violation (inr (inr (want_fails names kind (type_in globals.types s written) (given globals s count at r) violation is h)))) makes in
                let pushed = subst (λ (l : List ValueType). Puts globals.structs elements code f (all_kinds globals.structs elements l) (pushes_right globals elements layout.scope count l r)) (want_same names kind values t.many ∙ sym same) t.pushed in
                put_leaves globals elements code f grounds (name_types globals elements layout names (same_types globals elements names kind)) (name_spots globals elements layout names (same_types globals elements names kind)) (pushes_right globals elements layout.scope count (name_types globals elements layout names (same_types globals elements names kind)) r) pushed fit
