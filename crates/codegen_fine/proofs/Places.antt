-- The words of variables, and of the lvalues in them, are among the locals.
use Rattle.std.proofs.Common.{◌≡◌, ℕ, zero, suc, ◌+◌, ◌≤◌, Bool, true, false, not, ◌&&◌, List, [], ◌∷◌, ◌++◌, length, drop, Option, Some, None, option_map, refl, sym, ap, ◌∙◌, subst, arith, inl, inr, bytes_eq, length-append}
use Rattle.std.specs.Prelude.{option_and_then, if◌then◌else◌}
use Rattle.std.specs.Option.{is_none}
use Rattle.std.proofs.lemmas.Option.{same_Some}
use Rattle.go_text.specs.declared.rule.Rule.TheVariants as rules
use Rattle.syntax.specs.Tree.{Place}
use Rattle.bytecode.specs.declared.instr.WordKind.{WordKind}
use Rattle.bytecode.specs.Code.{Function as CodeFunction, Code}
use Rattle.type_table.specs.Types.{ValueType}
use Rattle.type_table.specs.Containment.{Structs, Selected, following, field_of}
use Rattle.type_table.specs.Scopes.{Globals, Scope, Variable, is_blank, later, last_named, variable_named}
use Rattle.typing_rules.specs.Worths.{kind_of, type_of_field}
use Rattle.typing_rules.specs.Operations.{PathHas, PlaceHas, followed, variable_at, selected, place_type}
use Rattle.codegen_base.specs.declared.element.Element.{Element}
use Rattle.codegen_base.specs.Elements.{kinds_of}
use Rattle.codegen_base.proofs.Alike.{kind_if, kind_alike}
use Rattle.codegen_fine.proofs.Sees.{Sees, variable_sees}
use Rattle.codegen_base.proofs.Noted.{Noted}
use Rattle.codegen_base.proofs.Typing.{Free, broken}
use Rattle.plan.proofs.Lists.{Stand, split}
use Rattle.codegen_fine.proofs.WordKinds.{field_parted}
use Rattle.codegen_fine.proofs.Operands.{Grounds, Housed}
use Rattle.codegen_fine.proofs.Spots.{stand_range}

module _ (globals : Globals) (elements : List Element) (f : CodeFunction) where
  abbrev kinds_here : ValueType → List WordKind
  kinds_here = kinds_of globals.structs elements

  -- from local `place` on there are the words of a type, which is known and noted
  pub record IsHoused (place : ℕ) (o : Option ValueType) : Type 0 where
    pub kind : ValueType
    pub has : o ≡ Some kind
    pub within : place + length (kinds_of globals.structs elements kind) ≤ length f.locals
    pub stand : Stand f.locals place (kinds_of globals.structs elements kind)
    pub noted : Noted elements kind

  abbrev pub AllHoused : List Variable → Type 0
  AllHoused [] = Unit {0}
  AllHoused (v ∷ vs) = IsHoused v.place v.kind × AllHoused vs

  pub found_housed : (vs : List Variable) (name : List ℕ) (v : Variable) → AllHoused vs → last_named vs name ≡ Some v → IsHoused v.place v.kind
  found_housed [] name v h e = absurd cc
  found_housed (w ∷ vs) name v h e = go (last_named vs name) (bytes_eq w.name name) refl e (λ x. found_housed vs name v h.1 x) where
    go : (o : Option Variable) (t : Bool) → last_named vs name ≡ o → later (if t then Some w else None) o ≡ Some v → (last_named vs name ≡ Some v → IsHoused v.place v.kind) → IsHoused v.place v.kind
    go (Some x) t is e more = more (is ∙ e)
    go None true is e more = subst (λ (x : Variable). IsHoused x.place x.kind) (same_Some w v e) h.0
    go None false is e more = absurd cc

  pub drop_housed : (n : ℕ) (vs : List Variable) → AllHoused vs → AllHoused (drop n vs)
  drop_housed zero vs h = h
  drop_housed (suc n) [] h = tt
  drop_housed (suc n) (v ∷ vs) h = drop_housed n vs h.1

  unblanked : (scope : Scope) (name : List ℕ) (v : Variable) → variable_named scope name ≡ Some v → last_named scope.variables name ≡ Some v
  unblanked scope name v e = go (is_blank name) e where
    go : (b : Bool) → (if b then None else last_named scope.variables name) ≡ Some v → last_named scope.variables name ≡ Some v
    go true e = absurd cc
    go false e = e

  -- what is required of the variables of a scope
  pub housed_of : (scope : Scope) → AllHoused scope.variables → Housed globals elements f scope
  housed_of scope all = record {
    known = λ name v found. let h = of name v found in (h.kind, h.has);
    within = λ name v t found has. let h = of name v found in subst (λ k. v.place + length (kinds_here k) ≤ length f.locals) (same_Some h.kind t (sym h.has ∙ has)) h.within;
    kinds_are = λ name v t found has. let h = of name v found in stand_range f.locals v.place (length (kinds_here t)) (kinds_here t) refl (subst (λ k. Stand f.locals v.place (kinds_here k)) (same_Some h.kind t (sym h.has ∙ has)) h.stand);
    noted = λ name v t found has. let h = of name v found in subst (Noted elements) (same_Some h.kind t (sym h.has ∙ has)) h.noted;
  } where
    of : (name : List ℕ) (v : Variable) → variable_named scope name ≡ Some v → IsHoused v.place v.kind
    of name v found = found_housed scope.variables name v all (unblanked scope name v found)

  -- ---- lvalues

  -- a path leads to words of a type
  pub record Leads (o : Option Selected) : Type 0 where
    pub at : Selected
    pub is : o ≡ Some at
    pub housed : IsHoused at.place at.kind

  module _ (code : Code) (grounds : Grounds globals elements code) (s : Scope) where
    path_leads : (fields : List (List ℕ)) (at : Selected) (end : ℕ) → 1 ≤ end → IsHoused at.place at.kind → Free (PathHas globals.structs at.kind fields end) → Leads (followed globals.structs (Some at) fields)
    path_leads [] at end le h free = record { at = at; is = refl; housed = h }
    path_leads (field ∷ rest) at end le h free = go (field_of globals.structs h.kind field) refl (λ next g x. path_leads rest next end le g x) where
      free-of : Free (PathHas globals.structs (Some h.kind) (field ∷ rest) end)
      free-of violation x = free violation (subst (λ o. PathHas globals.structs o (field ∷ rest) end violation) (sym h.has) x)

      go : (o : Option Selected) → field_of globals.structs h.kind field ≡ o → ((next : Selected) → IsHoused next.place next.kind → Free (PathHas globals.structs next.kind rest end) → Leads (followed globals.structs (Some next) rest)) → Leads (followed globals.structs (Some at) (field ∷ rest))
      go None is more = let b = broken rules.Assigned end le in absurd (free-of b.0 (inl (is, b.1)))
      go (Some x) is more =
          let (t, has) = grounds.types_known.fields h.kind field x is in
          let part = field_parted globals.structs elements grounds.wide h.kind field x t is has in
          let place = at.place + x.place in
          let inner = split f.locals at.place part.before (kinds_here t ++ part.after) place (omega (arith, part.place)) (subst (Stand f.locals at.place) part.kinds_are h.stand) in
          let own = split f.locals place (kinds_here t) part.after (place + length (kinds_here t)) refl inner.1 in
          let le-all = h.within in
          let housed : IsHoused place x.kind = record {
            kind = t;
            has = has;
            within = omega (arith, le-all, ap length part.kinds_are, length-append part.before (kinds_here t ++ part.after), length-append (kinds_here t) part.after, part.place);
            stand = own.0;
            noted = grounds.fields_noted h.kind field x t is has;
          } in
          let next = more (following at.place x) housed (λ violation y. free-of violation (inr (subst (λ o. PathHas globals.structs (type_of_field o) rest end violation) (sym is) y))) in
          let same : option_map (following at.place) (option_and_then (λ kind. field_of globals.structs kind field) at.kind) ≡ Some (following at.place x) =
          ap (λ o. option_map (following at.place) (option_and_then (λ kind. field_of globals.structs kind field) o)) h.has ∙ ap (option_map (following at.place)) is in
          subst (λ o. Leads (followed globals.structs o rest)) (sym same) next

    -- an lvalue with which nothing is wrong, and which is not `_`
    pub place_leads : (scope : Scope) (alike : Sees s scope) (all : AllHoused scope.variables) (place : Place) (first : ℕ) → Free (PlaceHas globals s first place) → is_blank place.name ≡ false → Leads (selected globals scope place)
    place_leads scope alike all place first free named = go (variable_named s place.name) (variable_named scope place.name) refl refl (variable_sees s scope alike place.name) where
      go : (a b : Option Variable) → variable_named s place.name ≡ a → variable_named scope place.name ≡ b → kind_if (variable_named s place.name) ≡ kind_if (variable_named scope place.name) → Leads (selected globals scope place)
      go None b is ib same =
          let x = broken rules.Visible (first + 1) (omega arith) in
          absurd (free x.0 (inl (ap (λ t. not t && is_none (variable_named s place.name)) named ∙ ap is_none is, x.1)))
      go (Some v) None is ib same = absurd (never (sym (ap kind_if is) ∙ same ∙ ap kind_if ib)) where
        never : Some v.kind ≡ None → ⊥
        never e = absurd cc
      go (Some v) (Some w) is ib same =
          let kinds : kind_of (variable_named s place.name) ≡ w.kind = kind_alike (variable_named s place.name) (variable_named scope place.name) same ∙ ap kind_of ib in
          let housed = found_housed scope.variables place.name w all (unblanked scope place.name w ib) in
          let leads = path_leads place.fields (variable_at w) (first + 1) (omega arith) housed (λ violation h. free violation (inr (inr (subst (λ o. PathHas globals.structs o place.fields (first + 1) violation) (sym kinds) h)))) in
          subst (λ o. Leads (followed globals.structs (option_map variable_at o) place.fields)) (sym ib) leads

-- ---- the types of lvalues

-- a path that begins nowhere leads nowhere
nowhere : (structs : Structs) (fields : List (List ℕ)) → None ≡ type_of_field (followed structs None fields)
nowhere structs [] = refl
nowhere structs (field ∷ rest) = refl

-- if two paths begin with one type, they lead to one
followed_alike : (structs : Structs) (fields : List (List ℕ)) (a b : Option Selected) → type_of_field a ≡ type_of_field b → type_of_field (followed structs a fields) ≡ type_of_field (followed structs b fields)
followed_alike structs [] a b e = e
followed_alike structs (field ∷ rest) None None e = refl
followed_alike structs (field ∷ rest) None (Some y) e = nowhere structs rest ∙ followed_alike structs rest None (next y.kind) (none y.kind e) where
  next : Option ValueType → Option Selected
  next o = option_map (following y.place) (option_and_then (λ kind. field_of structs kind field) o)

  none : (o : Option ValueType) → None ≡ o → None ≡ type_of_field (next o)
  none None e = refl
  none (Some k) e = absurd cc
followed_alike structs (field ∷ rest) (Some x) None e = followed_alike structs rest (next x.kind) None (none x.kind e) ∙ sym (nowhere structs rest) where
  next : Option ValueType → Option Selected
  next o = option_map (following x.place) (option_and_then (λ kind. field_of structs kind field) o)

  none : (o : Option ValueType) → o ≡ None → type_of_field (next o) ≡ None
  none None e = refl
  none (Some k) e = absurd cc
followed_alike structs (field ∷ rest) (Some x) (Some y) e = followed_alike structs rest (next x.place x.kind) (next y.place y.kind) (ap (λ o. type_of_field (next x.place o)) e ∙ moved (option_and_then (λ kind. field_of structs kind field) y.kind)) where
  next : ℕ → Option ValueType → Option Selected
  next place o = option_map (following place) (option_and_then (λ kind. field_of structs kind field) o)

  moved : (o : Option Selected) → type_of_field (option_map (following x.place) o) ≡ type_of_field (option_map (following y.place) o)
  moved None = refl
  moved (Some z) = refl

pub place_alike : (globals : Globals) (s scope : Scope) → Sees s scope → (place : Place) → place_type globals s place ≡ place_type globals scope place
place_alike globals s scope alike place =
    followed_alike globals.structs place.fields (option_map variable_at (variable_named s place.name)) (option_map variable_at (variable_named scope place.name))
    (at (variable_named s place.name) ∙ kind_alike (variable_named s place.name) (variable_named scope place.name) (variable_sees s scope alike place.name) ∙ sym (at (variable_named scope place.name))) where
      at : (o : Option Variable) → type_of_field (option_map variable_at o) ≡ kind_of o
      at None = refl
      at (Some v) = refl
