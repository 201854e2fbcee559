-- A right side is one receive that gives two values, or values alone.
use Rattle.std.proofs.Common.{◌≡◌, ℕ, zero, suc, ◌+◌, ◌==◌, length, false, List, [], ◌∷◌, ◌++◌, Some, refl, ap, ◌∙◌, arith, inl, inr, ◌⊎◌}
use Rattle.std.specs.Prelude.{if◌then◌else◌, ◌&&◌}
use Rattle.std.proofs.lemmas.Bool.Decides.{nat_tests}
use Rattle.std.proofs.lemmas.List.{append-nil}
use Rattle.syntax.specs.Tree.{Expression, expressions, Receive}
use Rattle.syntax.specs.Measures.{expression_size}
use Rattle.type_table.specs.Types.{ValueType, BoolType}
use Rattle.type_table.specs.Scopes.{Globals, Scope}
use Rattle.typing_rules.specs.Worths.{Typed}
use Rattle.typing_rules.specs.Expressions.{nodes_of}
use Rattle.typing_rules.specs.Operations.{is_receive, Given, given_values, also_given, given}
use Rattle.meaning.specs.Variables.{Blocks}
use Rattle.meaning.specs.Expressions.{right_values, values}
use Rattle.codegen_base.specs.declared.element.Element.{Element}
use Rattle.codegen_base.specs.Pushes.{pushes_all}
use Rattle.codegen_base.specs.Statements.{pushes_right}
use Rattle.plan.specs.Plan.{Plan}

pub record IsPlain (count : ℕ) (es : List Expression) : Type 0 where
  pub values_are : (globals : Globals) (blocks : Blocks) → right_values globals blocks count es ≡ values globals blocks (expressions es)
  pub plan_is : (globals : Globals) (elements : List Element) (scope : Scope) (types : List ValueType) (rest : Plan) → pushes_right globals elements scope count types es rest ≡ pushes_all globals elements scope types es rest
  pub also_is : (first : ℕ) → also_given count first es ≡ []

abbrev pub IsBoth : ℕ → List Expression → Type 0
IsBoth count es = (channel : Expression) × (count ≡ suc (suc zero)) × (es ≡ Receive channel ∷ [])

more_than_two : (n : ℕ) → (suc (suc (suc n)) == 2) ≡ false
more_than_two n = grind (arith, nat_tests)

pub form : (count : ℕ) (es : List Expression) → IsBoth count es ⊎ IsPlain count es
form (suc (suc (suc n))) [] = inr (record { values_are = λ g b. refl; plan_is = λ g e s t r. refl; also_is = λ f. refl })
form (suc (suc (suc n))) (e ∷ []) = inr (record { values_are = λ g b. refl; plan_is = λ g e s t r. refl; also_is = λ f. ap (λ b. if b && is_receive e then record { worth = Some (Typed BoolType); nodes = nodes_of f e } ∷ [] else []) (more_than_two n) })
form (suc (suc (suc n))) (e ∷ e' ∷ es) = inr (record { values_are = λ g b. refl; plan_is = λ g e s t r. refl; also_is = λ f. refl })
form zero [] = inr (record { values_are = λ g b. refl; plan_is = λ g e s t r. refl; also_is = λ f. refl })
form zero (e ∷ []) = inr (record { values_are = λ g b. refl; plan_is = λ g e s t r. refl; also_is = λ f. refl })
form zero (e ∷ e' ∷ es) = inr (record { values_are = λ g b. refl; plan_is = λ g e s t r. refl; also_is = λ f. refl })
form (suc zero) [] = inr (record { values_are = λ g b. refl; plan_is = λ g e s t r. refl; also_is = λ f. refl })
form (suc zero) (e ∷ []) = inr (record { values_are = λ g b. refl; plan_is = λ g e s t r. refl; also_is = λ f. refl })
form (suc zero) (e ∷ e' ∷ es) = inr (record { values_are = λ g b. refl; plan_is = λ g e s t r. refl; also_is = λ f. refl })
form (suc (suc zero)) [] = inr (record { values_are = λ g b. refl; plan_is = λ g e s t r. refl; also_is = λ f. refl })
form (suc (suc zero)) (Receive channel ∷ e' ∷ es) = inr (record { values_are = λ g b. refl; plan_is = λ g e s t r. refl; also_is = λ f. refl })
form (suc (suc zero)) (e ∷ e' ∷ es) = inr (record { values_are = λ g b. refl; plan_is = λ g e s t r. refl; also_is = λ f. refl })
form (suc (suc zero)) (Receive channel ∷ []) = inl (channel, refl, refl)
form (suc (suc zero)) (e ∷ []) = inr (record { values_are = λ g b. refl; plan_is = λ g e s t r. refl; also_is = λ f. refl })

-- what a right side gives to `count` lvalues or names, if it is its values alone
pub plain_given : (globals : Globals) (s : Scope) (count first : ℕ) (es : List Expression) → IsPlain count es → given globals s count first es ≡ given_values globals s first es
plain_given globals s count first es p = ap (λ (l : List Given). given_values globals s first es ++ l) (p.also_is first) ∙ append-nil (given_values globals s first es)

-- values give as many
pub given_long : (globals : Globals) (s : Scope) (first : ℕ) (es : List Expression) → length (given_values globals s first es) ≡ length es
given_long globals s first [] = refl
given_long globals s first (e ∷ es) = ap suc (given_long globals s (first + expression_size e) es)
