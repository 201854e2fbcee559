-- What right sides with which nothing is wrong push is what is taken of them.
use Rattle.std.proofs.Common.{◌≡◌, ℕ, suc, zero, ◌≤◌, List, [], ◌∷◌, ◌++◌, length, Option, Some, None, option_map, refl, sym, ap, ◌∙◌, subst, arith, inl, inr, ◌⊎◌}
use Rattle.std.proofs.lemmas.List.{append-nil}
use Rattle.syntax.specs.Tree.{Expression, expressions, Receive}
use Rattle.bytecode.specs.declared.instr.WordKind.{WordKind}
use Rattle.bytecode.specs.declared.instr.WordKind.TheVariants as kinds
use Rattle.bytecode.specs.Code.{Function as CodeFunction, Code}
use Rattle.type_table.specs.Types.{ValueType, BoolType}
use Rattle.type_table.specs.Scopes.{Globals, Scope}
use Rattle.typing_rules.specs.Worths.{Typed as TypedWorth, worth}
use Rattle.typing_rules.specs.Expressions.{nodes_of, NumbersHave, default_type, element_of}
use Rattle.typing_rules.specs.Operations.{Given, given_values, given, RightHas}
use Rattle.meaning.specs.Values.{known}
use Rattle.codegen_base.specs.declared.element.Element.{Element}
use Rattle.codegen_base.specs.Elements.{kinds_of}
use Rattle.codegen_base.specs.Layouts.{carried, given_types}
use Rattle.codegen_base.specs.Statements.{pushes_received, pushes_right}
use Rattle.codegen_fine.proofs.Sees.{Sees, worth_sees}
use Rattle.codegen_base.proofs.Called.{same_count}
use Rattle.codegen_base.proofs.Sides.{IsPlain, IsBoth, form, plain_given, given_long}
use Rattle.codegen_base.proofs.StatementMakes.{ValuesMake}
use Rattle.codegen_base.proofs.Typing.{Free, nodes_end}
use Rattle.plan.specs.Plan.{Plan}
use Rattle.plan.proofs.Typed.{Typed}
use Rattle.codegen_fine.proofs.Pushing.{Puts}
use Rattle.codegen_fine.proofs.Operands.{all_kinds, Grounds, Housed}
use Rattle.codegen_fine.proofs.Emitted.{typed_all}
use Rattle.codegen_fine.proofs.Operations.{channel_there, typed_received}
use Rattle.codegen_fine.proofs.Givens.{HasDefault, WellTaken, WantsFail, WantsNoted, taken, taken_all, typed_taken, first_noted, values_fit}

pub default_typed : (o : Option ValueType) → default_type (option_map TypedWorth o) ≡ o
default_typed None = refl
default_typed (Some t) = refl

module _ (globals : Globals) (elements : List Element) (code : Code) (f : CodeFunction) (grounds : Grounds globals elements code) where
  module _ (scope : Scope) (housed : Housed globals elements f scope) (s : Scope) (alike : Sees s scope) where
    abbrev kinds_in : ValueType → List WordKind
    kinds_in = kinds_of globals.structs elements

    abbrev PS : List WordKind → (Plan → Plan) → Type 0
    PS js push = Puts globals.structs elements code f js push

    abbrev types_in : List Given → List ValueType
    types_in values = given_types globals elements values

    -- what is taken of values is pushed
    pub record Takes (count : ℕ) (wants : List (Option ValueType)) (values : List Given) (push : List ValueType → Plan → Plan) : Type 0 where
      pub many : length values ≡ count
      pub well : WellTaken elements wants values
      pub pushed : Puts globals.structs elements code f (all_kinds globals.structs elements (taken_all wants (given_types globals elements values))) (push (taken_all wants (given_types globals elements values)))

    -- and has the kinds of the values
    pub record TakesGiven (count : ℕ) (wants : List (Option ValueType)) (values : List Given) (push : List ValueType → Plan → Plan) : Type 0 where
      pub takes : Takes count wants values push
      pub same : all_kinds globals.structs elements (taken_all wants (given_types globals elements values)) ≡ all_kinds globals.structs elements (given_types globals elements values)

    -- what is so of a right side that `count` lvalues take
    abbrev IsTaken : (ℕ → List (Option ValueType) → List Given → (List ValueType → Plan → Plan) → Type 0) → ℕ → List Expression → Type 0
    IsTaken T count right =
        (first end : ℕ) (wants : List (Option ValueType)) → 1 ≤ end → length wants ≡ count → WantsNoted elements wants → Free (RightHas globals s first right) → Free (NumbersHave (length (given globals s count first right)) count end)
        → Free (WantsFail wants (given globals s count first right)) → ValuesMake globals elements right → T count wants (given globals scope count 0 right) (λ types. pushes_right globals elements scope count types right)

    plain_taken : (count : ℕ) (right : List Expression) → IsPlain count right → IsTaken Takes count right
    plain_taken count right plain first end wants le long noted free numbers fail makes =
        let seen = plain_given globals s count first right plain in
        let here = plain_given globals scope count 0 right plain in
        let many = same_count (length (given globals s count first right)) count end le numbers in
        let counted = ap length seen ∙ given_long globals s first right in
        let fit = values_fit globals elements code f grounds scope housed s alike right wants first 0 (omega (arith, many, counted, long)) noted free (λ violation h. fail violation (subst (λ (l : List Given). WantsFail wants l violation) (sym seen) h)) makes in
        let types = taken_all wants (types_in (given_values globals scope 0 right)) in
        record {
          many = ap length here ∙ given_long globals scope 0 right ∙ sym counted ∙ many;
          well = subst (λ (l : List Given). WellTaken elements wants l) (sym here) fit.well;
          pushed = subst (λ (l : List Given). PS (all_kinds globals.structs elements (taken_all wants (types_in l))) (pushes_right globals elements scope count (taken_all wants (types_in l)) right)) (sym here)
              (λ a ks out rest t. subst (λ plan. Typed code f a ks plan out) (sym (plain.plan_is globals elements scope types rest)) (typed_all globals elements code f grounds scope housed s alike (expressions right) types first free makes fit.fit fit.noted a ks out rest t));
        }

    -- one receive that gives two values
    both_taken : (channel : Expression) → IsTaken TakesGiven (suc (suc zero)) (Receive channel ∷ [])
    both_taken channel first end [] le long noted free numbers fail makes = absurd (omega (arith, long))
    both_taken channel first end (want ∷ []) le long noted free numbers fail makes = absurd (omega (arith, long))
    both_taken channel first end (want ∷ (other ∷ (third ∷ more))) le long noted free numbers fail makes = absurd (omega (arith, long))
    both_taken channel first end (want ∷ (other ∷ [])) le long noted free numbers fail makes =
        let e = Receive channel in
        let c = channel_there globals elements code f grounds scope housed s alike channel first (λ violation h. free violation (inl (inl h))) makes.0 (λ violation h. free violation (inl (inr (inl h)))) in
        let n = first_noted globals elements want (other ∷ []) noted in
        let is : worth globals s e ≡ Some (TypedWorth c.element) = ap (λ o. option_map TypedWorth (element_of o)) (worth_sees s scope alike globals channel ∙ c.is) in
        let x = typed_taken globals elements want c.element (record { worth = worth globals s e; nodes = nodes_of first e }) is (nodes_end first e) n.0 c.noted.0 (λ violation h. fail violation (inl h)) in
        let y = typed_taken globals elements other BoolType (record { worth = Some (TypedWorth BoolType); nodes = nodes_of first e }) refl (nodes_end first e) (first_noted globals elements other [] n.1).0 tt (λ violation h. fail violation (inr (inl h))) in
        let here-is : worth globals scope e ≡ Some (TypedWorth c.element) = ap (λ o. option_map TypedWorth (element_of o)) c.is in
        let one : known (default_type (worth globals scope e)) ≡ c.element = ap (λ o. known (default_type o)) here-is in
        let push = pushes_received globals elements scope channel in
        let bool : kinds_in (taken other BoolType) ++ [] ≡ kinds.Bool ∷ [] = append-nil (kinds_in (taken other BoolType)) ∙ y.same in
        let both : kinds_in (taken want c.element) ++ (kinds_in (taken other BoolType) ++ []) ≡ kinds_in (carried globals elements scope channel) ++ kinds.Bool ∷ [] =
        ap (λ (l : List WordKind). l ++ (kinds_in (taken other BoolType) ++ [])) (x.same ∙ ap kinds_in (sym c.carries)) ∙ ap (λ (l : List WordKind). kinds_in (carried globals elements scope channel) ++ l) bool in
        record {
          takes = record {
            many = refl;
            well = (λ h. subst (HasDefault elements) (sym here-is) (refl, c.noted.0), (λ h. (refl, tt), tt));
            pushed = subst (λ k. PS (kinds_in (taken want k) ++ (kinds_in (taken other BoolType) ++ [])) push) (sym one)
                (subst (λ (l : List WordKind). PS l push) (sym both) (typed_received globals elements code f grounds scope housed s alike channel first (λ violation h. free violation (inl h)) makes.0));
          };
          same = ap (λ (l : List WordKind). l ++ (kinds_in (taken other BoolType) ++ [])) (subst (λ k. kinds_in (taken want k) ≡ kinds_in k) (sym one) x.same) ∙ ap (λ (l : List WordKind). kinds_in (known (default_type (worth globals scope e))) ++ (l ++ [])) y.same;
        }

    -- what is taken of a right side with which nothing is wrong
    pub typed_right : (right : List Expression) (count : ℕ) → IsTaken Takes count right
    typed_right right count = go (form count right) where
      go : IsBoth count right ⊎ IsPlain count right → IsTaken Takes count right
      go (inl (channel, two, is)) =
          subst (λ n. IsTaken Takes n right) (sym two) (subst (λ (l : List Expression). IsTaken Takes (suc (suc zero)) l) (sym is)
          (λ first end wants le long noted free numbers fail makes. (both_taken channel first end wants le long noted free numbers fail makes).takes))
      go (inr plain) = plain_taken count right plain

    -- one receive that gives one value
    one_taken : (channel : Expression) (count : ℕ) → IsPlain count (Receive channel ∷ []) → IsTaken TakesGiven count (Receive channel ∷ [])
    one_taken channel count plain first end wants le long noted free numbers fail makes = record { takes = plain_taken count (Receive channel ∷ []) plain first end wants le long noted free numbers fail makes; same = subst Same (sym here) (go wants long noted fail-seen) } where
      e : Expression
      e = Receive channel

      Same : List Given → Type 0
      Same l = all_kinds globals.structs elements (taken_all wants (types_in l)) ≡ all_kinds globals.structs elements (types_in l)

      seen : given globals s count first (e ∷ []) ≡ given_values globals s first (e ∷ [])
      seen = plain_given globals s count first (e ∷ []) plain

      here : given globals scope count 0 (e ∷ []) ≡ given_values globals scope 0 (e ∷ [])
      here = plain_given globals scope count 0 (e ∷ []) plain

      one : 1 ≡ count
      one = sym (ap length seen) ∙ same_count (length (given globals s count first (e ∷ []))) count end le numbers

      fail-seen : Free (WantsFail wants (given_values globals s first (e ∷ [])))
      fail-seen violation h = fail violation (subst (λ (l : List Given). WantsFail wants l violation) (sym seen) h)

      go : (ws : List (Option ValueType)) → length ws ≡ count → WantsNoted elements ws → Free (WantsFail ws (given_values globals s first (e ∷ []))) → all_kinds globals.structs elements (taken_all ws (types_in (given_values globals scope 0 (e ∷ [])))) ≡ all_kinds globals.structs elements (types_in (given_values globals scope 0 (e ∷ [])))
      go [] long noted fail = absurd (omega (arith, long, one))
      go (want ∷ (other ∷ more)) long noted fail = absurd (omega (arith, long, one))
      go (want ∷ []) long noted fail =
          let c = channel_there globals elements code f grounds scope housed s alike channel first (λ violation h. free violation (inl (inl h))) makes.0 (λ violation h. free violation (inl (inr (inl h)))) in
          let is : worth globals s e ≡ Some (TypedWorth c.element) = ap (λ o. option_map TypedWorth (element_of o)) (worth_sees s scope alike globals channel ∙ c.is) in
          let x = typed_taken globals elements want c.element (record { worth = worth globals s e; nodes = nodes_of first e }) is (nodes_end first e) (first_noted globals elements want [] noted).0 c.noted.0 (λ violation h. fail violation (inl h)) in
          let own : known (default_type (worth globals scope e)) ≡ c.element = ap (λ o. known (default_type (option_map TypedWorth (element_of o)))) c.is in
          ap (λ (l : List WordKind). l ++ []) (subst (λ k. kinds_in (taken want k) ≡ kinds_in k) (sym own) x.same)

    -- what is taken of a receive
    pub typed_given : (channel : Expression) (count : ℕ) → IsTaken TakesGiven count (Receive channel ∷ [])
    typed_given channel count = go (form count (Receive channel ∷ [])) where
      go : IsBoth count (Receive channel ∷ []) ⊎ IsPlain count (Receive channel ∷ []) → IsTaken TakesGiven count (Receive channel ∷ [])
      go (inl (other, two, is)) = subst (λ n. IsTaken TakesGiven n (Receive channel ∷ [])) (sym two) (both_taken channel)
      go (inr plain) = one_taken channel count plain
