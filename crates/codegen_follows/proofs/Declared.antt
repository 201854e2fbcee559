-- A variable that is declared with a type.
use Rattle.std.proofs.Common.{◌≡◌, Bool, true, false, List, ℕ, Option, Some, None, refl, sym, ap, ◌∙◌, subst, bytes_eq}
use Rattle.std.specs.Prelude.{if◌then◌else◌}
use Rattle.type_table.specs.Types.{ValueType}
use Rattle.type_table.specs.Scopes.{Variable, declared, is_blank, later, last_named, Globals}
use Rattle.codegen_base.specs.Layouts.{declaring}
use Rattle.codegen_base.specs.Generated.{at}
use Rattle.codegen_base.proofs.Alike.{alike_declared, last_append}
use Rattle.codegen_base.proofs.Assigned.{placed_new}
use Rattle.codegen_base.proofs.Noted.{Noted}
use Rattle.codegen_follows.proofs.Stands.{View, scope_of, variables, Fine}
use Rattle.codegen_base.proofs.Running.{Compiled, Coded}

same_some : {A : Type 0} (a b : A) → Some a ≡ Some b → a ≡ b
same_some a b e = ap (from a) e where
  from : {A : Type 0} → A → Option A → A
  from a None = a
  from a (Some b) = b

module _ {globals : Globals} {program : Compiled globals} (coded : Coded program) (view : View) (name : List ℕ) (kind : ValueType) where
  open program use {elements, wide as all}

  -- after the declaration
  abbrev pub declared_view : View
  declared_view = record { site = at (declaring globals elements kind name view.site.layout) view.site; begins = view.begins; checked = declared globals.structs view.checked (Some kind) name }

  abbrev new_one : Variable
  new_one = record { name = name; kind = Some kind; place = (scope_of view).words }

  pub fine_declared : Fine coded view → Noted elements kind → Fine coded declared_view
  fine_declared fine noted = record {
    placed = placed_new globals.structs all (scope_of view) view.begins name kind fine.placed;
    alike = alike_declared globals.structs globals.structs view.checked (scope_of view) (Some kind) name fine.alike;
    noted = λ n v t found is. unless_blank n (is_blank n) refl v t found is;
  } where
    found_there : (n : List ℕ) (b : Bool) (o : Option Variable) → last_named (variables view) n ≡ o → is_blank n ≡ false → (v : Variable) (t : ValueType) → later o (if b then Some new_one else None) ≡ Some v → v.kind ≡ Some t → Noted elements t
    found_there n true None there other v t found is = subst (Noted elements) (same_some kind t (ap (λ (x : Variable). x.kind) (same_some new_one v found) ∙ is)) noted
    found_there n true (Some w) there other v t found is = subst (Noted elements) (same_some kind t (ap (λ (x : Variable). x.kind) (same_some new_one v found) ∙ is)) noted
    found_there n false None there other v t found is = absurd cc
    found_there n false (Some w) there other v t found is = fine.noted n v t (ap (λ b. if b then None else last_named (variables view) n) other ∙ there ∙ found) is

    unless_blank : (n : List ℕ) (b : Bool) → is_blank n ≡ b → (v : Variable) (t : ValueType) → (if b then None else last_named (variables declared_view) n) ≡ Some v → v.kind ≡ Some t → Noted elements t
    unless_blank n true blank v t found is = absurd cc
    unless_blank n false blank v t found is = found_there n (bytes_eq name n) (last_named (variables view) n) refl blank v t (sym (last_append (variables view) new_one n) ∙ found) is
