-- The types that a right side gives are known, and the elements of channels among them are noted.
use Rattle.std.proofs.Common.{◌≡◌, ℕ, suc, zero, ◌+◌, ◌≤◌, true, List, [], ◌∷◌, length, Option, Some, refl, sym, ap, ◌∙◌, subst, arith, inl, inr, ◌⊎◌}
use Rattle.std.specs.Option.{is_none}
use Rattle.go_text.specs.declared.rule.Rule.TheVariants as rules
use Rattle.syntax.specs.Tree.{Expression, expressions, Receive}
use Rattle.syntax.specs.Measures.{expression_size}
use Rattle.type_table.specs.Types.{ValueType}
use Rattle.type_table.specs.Scopes.{Globals, Scope, Variable, own_variable}
use Rattle.typing_rules.specs.Worths.{Worth, Typed, Constant, Nil, worth, kind_of}
use Rattle.typing_rules.specs.Expressions.{nodes_of, DefaultHas, ExpressionHas, ExpressionsHave, NumbersHave, default_type}
use Rattle.typing_rules.specs.Operations.{Given, given, given_values, RightHas, GoesHas}
use Rattle.typing_rules.specs.Simples.{is_declarable, NamesFail}
use Rattle.meaning.specs.Values.{known}
use Rattle.codegen_base.specs.declared.element.Element.{Element}
use Rattle.codegen_base.proofs.Alike.{Alike, worth_alike}
use Rattle.codegen_base.proofs.Known.{VariablesNoted, worth_noted}
use Rattle.codegen_base.proofs.Noted.{Noted}
use Rattle.codegen_base.proofs.Running.{Compiled}
use Rattle.codegen_base.proofs.Sides.{IsPlain, IsBoth, form, plain_given, given_long}
use Rattle.codegen_base.proofs.StatementMakes.{OneMakes, ValuesMake}
use Rattle.codegen_base.proofs.Typing.{Free, VariablesKnown, broken, worth_there}
use Rattle.codegen_base.proofs.Called.{same_count}
use Rattle.codegen_fine.proofs.Layouts.{declarable_parts}

module _ (elements : List Element) where
  -- a type that is known, and noted
  abbrev pub Well : Option ValueType → Type 0
  Well o = (o ≡ Some (known o)) × Noted elements (known o)

  -- values for the names that are new in a scope have such types
  abbrev pub AllWell : Scope → List (List ℕ) → List Given → Type 0
  AllWell s [] [] = Unit {0}
  AllWell s (name ∷ names) (value ∷ values) = (is_declarable s name ≡ true → Well (default_type value.worth)) × AllWell s names values
  AllWell s names values = ⊥

module _ {globals : Globals} (program : Compiled globals) (s scope : Scope) (variables : VariablesKnown s) (alike : Alike s scope) (noted : VariablesNoted program.elements globals scope) where
  open program use {elements}

  -- ---- values

  value_well : (e : Expression) (second : ℕ) → Free (ExpressionHas globals s second e) → OneMakes globals elements e → Free (DefaultHas (worth globals s e) (nodes_of second e)) → Well elements (default_type (worth globals s e))
  value_well e second free makes goes =
      let w = worth_there globals s program.types_known variables e second free in subst (λ o. Well elements (default_type o)) (sym w.1) (go w.0 w.1 (λ violation h. goes violation (subst (λ o. DefaultHas o (nodes_of second e) violation) (sym w.1) h))) where
        go : (w : Worth) → worth globals s e ≡ Some w → Free (DefaultHas (Some w) (nodes_of second e)) → Well elements (default_type (Some w))
        go (Typed t) is goes = (refl, worth_noted elements globals program.fields_noted program.results_noted scope noted e makes t (sym (worth_alike s scope alike globals e) ∙ is))
        go (Constant z) is goes = (refl, tt)
        go Nil is goes = let b = broken rules.Nil ((nodes_of second e).first + 1) (omega arith) in absurd (goes b.0 b.1)

  goes_new : (name : List ℕ) (value : Given) → Free (GoesHas (is_none (own_variable s name)) value (kind_of (own_variable s name))) → is_declarable s name ≡ true → Free (DefaultHas value.worth value.nodes)
  goes_new name value goes declarable violation h =
      let d = declarable_parts s name declarable in
      goes violation (subst (λ (o : Option Variable). GoesHas (is_none o) value (kind_of o) violation) (sym d.1) h)

  values_well : (names : List (List ℕ)) (es : List Expression) (second n : ℕ) → length es ≡ length names → Free (ExpressionsHave globals s second (expressions es)) → ValuesMake globals elements es → Free (NamesFail s names (given_values globals s second es)) → AllWell elements s names (given_values globals s n es)
  values_well [] [] second n many free makes goes = tt
  values_well [] (e ∷ es) second n many free makes goes = absurd cc
  values_well (name ∷ names) [] second n many free makes goes = absurd cc
  values_well (name ∷ names) (e ∷ es) second n many free makes goes =
      let left : suc (length es) ≡ suc (length names) = many in (
        λ declarable. value_well e second (λ violation h. free violation (inl h)) makes.0 (goes_new name (record { worth = worth globals s e; nodes = nodes_of second e }) (λ violation h. goes violation (inl h)) declarable),
        values_well names es (second + expression_size e) (n + expression_size e) (omega (arith, left)) (λ violation h. free violation (inr h)) makes.1 (λ violation h. goes violation (inr h)),
      )

  -- one receive for two names
  both_well : (names : List (List ℕ)) (channel : Expression) (first : ℕ) → length names ≡ suc (suc zero) → ValuesMake globals elements (Receive channel ∷ []) → Free (RightHas globals s first (Receive channel ∷ [])) → Free (NamesFail s names (given globals s (suc (suc zero)) first (Receive channel ∷ [])))
      → AllWell elements s names (given globals s (suc (suc zero)) 0 (Receive channel ∷ []))
  both_well [] channel first many makes free goes = absurd cc
  both_well (item ∷ []) channel first many makes free goes = absurd (omega (arith, many))
  both_well (item ∷ (ok ∷ (other ∷ more))) channel first many makes free goes = absurd (omega (arith, many))
  both_well (item ∷ (ok ∷ [])) channel first many makes free goes = (
    λ declarable. value_well (Receive channel) first (λ violation h. free violation (inl h)) makes.0 (goes_new item (record { worth = worth globals s (Receive channel); nodes = nodes_of first (Receive channel) }) (λ violation h. goes violation (inl h)) declarable),
    (λ declarable. (refl, tt), tt),
  )

  -- what is given to names
  pub right_well : (names : List (List ℕ)) (right : List Expression) (first end : ℕ) → 1 ≤ end → ValuesMake globals elements right → Free (RightHas globals s first right) → Free (NumbersHave (length (given globals s (length names) first right)) (length names) end) → Free (NamesFail s names (given globals s (length names) first right))
      → AllWell elements s names (given globals s (length names) 0 right)
  right_well names right first end le makes free numbers goes = go (form (length names) right) where
    go : IsBoth (length names) right ⊎ IsPlain (length names) right → AllWell elements s names (given globals s (length names) 0 right)
    go (inl (channel, two, is)) =
        subst (λ n. AllWell elements s names (given globals s n 0 right)) (sym two)
        (subst (λ (l : List Expression). AllWell elements s names (given globals s (suc (suc zero)) 0 l)) (sym is)
        (both_well names channel first two (subst (ValuesMake globals elements) is makes) (λ violation h. free violation (subst (λ (l : List Expression). RightHas globals s first l violation) (sym is) h))
        (λ violation h. goes violation (subst (λ n. NamesFail s names (given globals s n first right) violation) (sym two) (subst (λ (l : List Expression). NamesFail s names (given globals s (suc (suc zero)) first l) violation) (sym is) h)))))
    go (inr plain) =
        let seen = plain_given globals s (length names) first right plain in
        let many = same_count (length (given globals s (length names) first right)) (length names) end le numbers in
        subst (λ (l : List Given). AllWell elements s names l) (sym (plain_given globals s (length names) 0 right plain))
        (values_well names right first 0 (sym (given_long globals s first right) ∙ sym (ap length seen) ∙ many) free makes (λ violation h. goes violation (subst (λ (l : List Given). NamesFail s names l violation) (sym seen) h)))
