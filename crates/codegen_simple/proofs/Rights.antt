-- What a right side gives, and what is pushed of it.
use Rattle.std.proofs.Common.{◌≡◌, ℕ, zero, suc, ◌+◌, ◌==◌, Bool, true, false, ◌&&◌, List, [], ◌∷◌, ◌++◌, map, length, Option, Some, None, option_map, refl, sym, ap, ◌∙◌, subst}
use Rattle.std.specs.Prelude.{if◌then◌else◌}
use Rattle.std.specs.Option.{is_some}
use Rattle.std.proofs.lemmas.Bool.{eqb-true}
use Rattle.std.proofs.lemmas.Option.{same_Some}
use Rattle.syntax.specs.Tree.{Expression, Integer, Named, Parenthesized, Selection, Composite, Unary, Binary, Call, Receive, Make, MakeSized, Length, Capacity}
use Rattle.syntax.specs.Measures.{expression_size}
use Rattle.bytecode.specs.declared.instr.Instr.{Instr}
use Rattle.type_table.specs.Types.{ValueType, BoolType}
use Rattle.type_table.specs.Scopes.{Globals, Scope}
use Rattle.typing_rules.specs.Worths.{Typed}
use Rattle.typing_rules.specs.Expressions.{nodes_of}
use Rattle.typing_rules.specs.Operations.{Given, also_given, given_values, is_receive}
use Rattle.codegen_base.specs.declared.element.Element.{Element}
use Rattle.codegen_base.specs.Layouts.{given_types}
use Rattle.codegen_base.specs.Pushes.{pushes_all}
use Rattle.codegen_base.specs.Statements.{pushes_received, pushes_right, right_types}
use Rattle.plan.specs.Plan.{Plan, flat}
use Rattle.codegen_expression.specs.Emission.{Puts}
use Rattle.codegen_simple.specs.Rights.{own_type, source_of, source_of_two}

-- one receive gives two values: the item, and whether it was sent
abbrev gives_two : ℕ → List Expression → Bool
gives_two count (value ∷ []) = (count == 2) && is_receive value
gives_two count values = false

receives : (value : Expression) → is_some (source_of value) ≡ is_receive value
receives (Integer x) = refl
receives (Named x) = refl
receives (Parenthesized x) = refl
receives (Selection x f) = refl
receives (Composite x vs t) = refl
receives (Unary o x) = refl
receives (Binary o x y) = refl
receives (Call f vs t) = refl
receives (Receive x) = refl
receives (Make k) = refl
receives (MakeSized k x) = refl
receives (Length x) = refl
receives (Capacity x) = refl

received : (value channel : Expression) → Some channel ≡ source_of value → Receive channel ≡ value
received (Receive x) channel is = ap Receive (same_Some channel x is)
received (Integer x) channel is = absurd cc
received (Named x) channel is = absurd cc
received (Parenthesized x) channel is = absurd cc
received (Selection x f) channel is = absurd cc
received (Composite x vs t) channel is = absurd cc
received (Unary o x) channel is = absurd cc
received (Binary o x y) channel is = absurd cc
received (Call f vs t) channel is = absurd cc
received (Make k) channel is = absurd cc
received (MakeSized k x) channel is = absurd cc
received (Length x) channel is = absurd cc
received (Capacity x) channel is = absurd cc

found_two : (count : ℕ) (values : List Expression) → is_some (source_of_two count values) ≡ gives_two count values
found_two count [] = refl
found_two count (value ∷ (other ∷ values)) = refl
found_two count (value ∷ []) = by_test (count == 2) where
  by_test : (b : Bool) → is_some (if b then source_of value else None) ≡ (b && is_receive value)
  by_test true = receives value
  by_test false = refl

pub no_source : {A : Type 0} (view : A → Expression) (found : Option A) (count : ℕ) (values : List Expression) → is_some found ≡ false → option_map view found ≡ source_of_two count values → false ≡ is_some (source_of_two count values)
no_source view None count values none is = ap is_some is
no_source view (Some channel) count values none is = absurd cc

module _ (globals : Globals) (elements : List Element) (scope : Scope) where
  each_type : (first : ℕ) (values : List Expression) → given_types globals elements (given_values globals scope first values) ≡ map (own_type globals scope) values
  each_type first [] = refl
  each_type first (value ∷ values) = ap (λ l. own_type globals scope value ∷ l) (each_type (first + expression_size value) values)

  types_append : (a b : List Given) → given_types globals elements (a ++ b) ≡ given_types globals elements a ++ given_types globals elements b
  types_append [] b = refl
  types_append (x ∷ a) b = ap (λ l. given_types globals elements (x ∷ []) ++ l) (types_append a b)

  also_types : (count first : ℕ) (values : List Expression) → given_types globals elements (also_given count first values) ≡ (if gives_two count values then BoolType ∷ [] else [])
  also_types count first [] = refl
  also_types count first (value ∷ []) = by_two ((count == 2) && is_receive value) where
    by_two : (two : Bool) → given_types globals elements (if two then record { worth = Some (Typed BoolType); nodes = nodes_of first value } ∷ [] else []) ≡ (if two then BoolType ∷ [] else [])
    by_two true = refl
    by_two false = refl
  also_types count first (value ∷ (other ∷ values)) = refl

  pub rights_types : (count : ℕ) (values : List Expression) → right_types globals elements scope count values ≡ map (own_type globals scope) values ++ (if gives_two count values then BoolType ∷ [] else [])
  rights_types count values =
      types_append (given_values globals scope 0 values) (also_given count 0 values)
      ∙ ap (λ l. l ++ given_types globals elements (also_given count 0 values)) (each_type 0 values)
      ∙ ap (λ l. map (own_type globals scope) values ++ l) (also_types count 0 values)

  -- the types are those, with or without the one of whether an item was sent
  pub right_is : (count : ℕ) (values : List Expression) (kinds : List ValueType) (two : Bool) → two ≡ is_some (source_of_two count values) → kinds ≡ map (own_type globals scope) values ++ (if two then BoolType ∷ [] else []) → kinds ≡ right_types globals elements scope count values
  right_is count values kinds two is all = all ∙ ap (λ b. map (own_type globals scope) values ++ (if b then BoolType ∷ [] else [])) (is ∙ found_two count values) ∙ sym (rights_types count values)

  by_receive : (count : ℕ) (types : List ValueType) (value : Expression) (rest : Plan) → is_receive value ≡ false → pushes_right globals elements scope count types (value ∷ []) rest ≡ pushes_all globals elements scope types (value ∷ []) rest
  by_receive zero types value rest is = refl
  by_receive (suc zero) types value rest is = refl
  by_receive (suc (suc (suc n))) types value rest is = refl
  by_receive (suc (suc zero)) types (Integer x) rest is = refl
  by_receive (suc (suc zero)) types (Named x) rest is = refl
  by_receive (suc (suc zero)) types (Parenthesized x) rest is = refl
  by_receive (suc (suc zero)) types (Selection x f) rest is = refl
  by_receive (suc (suc zero)) types (Composite x vs t) rest is = refl
  by_receive (suc (suc zero)) types (Unary o x) rest is = refl
  by_receive (suc (suc zero)) types (Binary o x y) rest is = refl
  by_receive (suc (suc zero)) types (Call f vs t) rest is = refl
  by_receive (suc (suc zero)) types (Receive x) rest is = absurd cc
  by_receive (suc (suc zero)) types (Make k) rest is = refl
  by_receive (suc (suc zero)) types (MakeSized k x) rest is = refl
  by_receive (suc (suc zero)) types (Length x) rest is = refl
  by_receive (suc (suc zero)) types (Capacity x) rest is = refl

  by_count : (count : ℕ) (types : List ValueType) (value : Expression) (rest : Plan) → (count == 2) ≡ false → pushes_right globals elements scope count types (value ∷ []) rest ≡ pushes_all globals elements scope types (value ∷ []) rest
  by_count zero types value rest is = refl
  by_count (suc zero) types value rest is = refl
  by_count (suc (suc zero)) types value rest is = absurd cc
  by_count (suc (suc (suc n))) types value rest is = refl

  -- all values are pushed, unless one receive gives two
  plainly : (count : ℕ) (types : List ValueType) (values : List Expression) (rest : Plan) → gives_two count values ≡ false → pushes_right globals elements scope count types values rest ≡ pushes_all globals elements scope types values rest
  plainly count types (value ∷ []) rest is = by_test (count == 2) refl is where
    by_test : (b : Bool) → (count == 2) ≡ b → (b && is_receive value) ≡ false → pushes_right globals elements scope count types (value ∷ []) rest ≡ pushes_all globals elements scope types (value ∷ []) rest
    by_test true e h = by_receive count types value rest h
    by_test false e h = by_count count types value rest e
  plainly zero types [] rest is = refl
  plainly (suc zero) types [] rest is = refl
  plainly (suc (suc zero)) types [] rest is = refl
  plainly (suc (suc (suc n))) types [] rest is = refl
  plainly zero types (value ∷ (other ∷ values)) rest is = refl
  plainly (suc zero) types (value ∷ (other ∷ values)) rest is = refl
  plainly (suc (suc zero)) types (value ∷ (other ∷ values)) rest is = more value where
    more : (x : Expression) → pushes_right globals elements scope 2 types (x ∷ (other ∷ values)) rest ≡ pushes_all globals elements scope types (x ∷ (other ∷ values)) rest
    more (Integer x) = refl
    more (Named x) = refl
    more (Parenthesized x) = refl
    more (Selection x f) = refl
    more (Composite x vs t) = refl
    more (Unary o x) = refl
    more (Binary o x y) = refl
    more (Call f vs t) = refl
    more (Receive x) = refl
    more (Make k) = refl
    more (MakeSized k x) = refl
    more (Length x) = refl
    more (Capacity x) = refl
  plainly (suc (suc (suc n))) types (value ∷ (other ∷ values)) rest is = refl

  pub puts_plainly : (count : ℕ) (types : List ValueType) (values : List Expression) (i0 i1 : List Instr) → None ≡ source_of_two count values → Puts i0 i1 (pushes_all globals elements scope types values) → Puts i0 i1 (pushes_right globals elements scope count types values)
  puts_plainly count types values i0 i1 is p leave again rest =
      p leave again rest ∙ ap (λ x. i0 ++ flat leave again (length i0) x) (sym (plainly count types values rest (sym (found_two count values) ∙ sym (ap is_some is))))

  pub puts_two : (count : ℕ) (types : List ValueType) (values : List Expression) (channel : Expression) (i0 i1 : List Instr) → Some channel ≡ source_of_two count values → Puts i0 i1 (pushes_received globals elements scope channel) → Puts i0 i1 (pushes_right globals elements scope count types values)
  puts_two count types [] channel i0 i1 is p = absurd cc
  puts_two count types (value ∷ (other ∷ values)) channel i0 i1 is p = absurd cc
  puts_two count types (value ∷ []) channel i0 i1 is p = by_test (count == 2) refl is where
    by_test : (b : Bool) → (count == 2) ≡ b → Some channel ≡ (if b then source_of value else None) → Puts i0 i1 (pushes_right globals elements scope count types (value ∷ []))
    by_test false e h = absurd cc
    by_test true e h =
        subst (λ v. Puts i0 i1 (pushes_right globals elements scope count types (v ∷ []))) (received value channel h)
        (subst (λ n. Puts i0 i1 (pushes_right globals elements scope n types (Receive channel ∷ []))) (sym (eqb-true count 2 e)) p)
