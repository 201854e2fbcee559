-- What right sides give is of the types that are wanted.
use Rattle.std.proofs.Common.{◌≡◌, ℕ, suc, ◌+◌, ◌==◌, ◌≤◌, ◌⊎◌, Bool, true, false, ◌&&◌, List, [], ◌∷◌, ◌++◌, length, map, Option, Some, None, refl, sym, ap, ◌∙◌, subst, arith, inl, inr}
use Rattle.std.specs.Prelude.{if◌then◌else◌}
use Rattle.std.proofs.lemmas.Bool.Decides.{nat_tests}
use Rattle.std.proofs.lemmas.List.{map-append}
use Rattle.go_text.specs.declared.rule.Rule.TheVariants as rules
use Rattle.syntax.specs.Tree.{Expression, expressions}
use Rattle.syntax.specs.Measures.{expression_size}
use Rattle.syntax.specs.declared.node.Direction.TheVariants as directions
use Rattle.syntax.specs.declared.node.Direction.{Direction}
use Rattle.bytecode.specs.Code.{Function as CodeFunction, Code}
use Rattle.type_table.specs.Types.{ValueType, IntType, BoolType, StructType, ChannelType, same_direction, identical, assignable}
use Rattle.type_table.specs.Scopes.{Globals, Scope}
use Rattle.typing_rules.specs.declared.violation.Violation.{Violation}
use Rattle.typing_rules.specs.Violations.{Nodes}
use Rattle.typing_rules.specs.Worths.{Worth, Typed as TypedWorth, Constant, Nil, is_int, worth}
use Rattle.typing_rules.specs.Expressions.{nodes_of, ValueHas, DefaultHas, default_type, ExpressionsHave}
use Rattle.typing_rules.specs.Operations.{is_receive, Given, given_values, also_given, given}
use Rattle.meaning.specs.Values.{known}
use Rattle.codegen_base.specs.declared.element.Element.{Element}
use Rattle.codegen_base.specs.Elements.{kinds_of}
use Rattle.codegen_base.specs.Layouts.{given_types}
use Rattle.codegen_fine.proofs.Sees.{Sees, worth_sees, known_sees}
use Rattle.codegen_base.proofs.StatementMakes.{OneMakes, ValuesMake}
use Rattle.codegen_base.proofs.Known.{worth_noted}
use Rattle.codegen_base.proofs.Noted.{Noted}
use Rattle.codegen_base.proofs.Called.{AllFit}
use Rattle.codegen_base.proofs.Typing.{Free, Fits, fits, broken, nodes_end, not_false, worth_there}
use Rattle.codegen_fine.proofs.WordKinds.{assignable_kinds}
use Rattle.codegen_fine.proofs.Operands.{AllNoted, Grounds, Housed}

-- ---- what is wanted: a value of a type, or any that has one

abbrev pub WantHas : Option ValueType → Given → Violation → Type 0
WantHas None value violation = DefaultHas value.worth value.nodes violation
WantHas (Some kind) value violation = ValueHas value.worth (Some kind) value.nodes violation

abbrev pub WantsFail : List (Option ValueType) → List Given → Violation → Type 0
WantsFail [] values violation = ⊥
WantsFail (want ∷ wants) [] violation = ⊥
WantsFail (want ∷ wants) (value ∷ values) violation = WantHas want value violation ⊎ WantsFail wants values violation

abbrev pub WantsNoted : List Element → List (Option ValueType) → Type 0
WantsNoted elements [] = Unit {0}
WantsNoted elements (None ∷ wants) = WantsNoted elements wants
WantsNoted elements (Some kind ∷ wants) = Noted elements kind × WantsNoted elements wants

-- the type of what is taken if values of types are given
abbrev pub taken : Option ValueType → ValueType → ValueType
taken None kind = kind
taken (Some own) kind = own

abbrev pub taken_all : List (Option ValueType) → List ValueType → List ValueType
taken_all [] types = []
taken_all (want ∷ wants) [] = []
taken_all (want ∷ wants) (kind ∷ types) = taken want kind ∷ taken_all wants types

-- a value that is taken as it is has a type, which is known and noted
abbrev pub HasDefault : List Element → Option Worth → Type 0
HasDefault elements w = (default_type w ≡ Some (known (default_type w))) × Noted elements (known (default_type w))

abbrev pub WellTaken : List Element → List (Option ValueType) → List Given → Type 0
WellTaken elements [] [] = Unit {0}
WellTaken elements (want ∷ wants) (value ∷ values) = (want ≡ None → HasDefault elements value.worth) × WellTaken elements wants values
WellTaken elements wants values = ⊥

pub never_some : {A : Type 0} (x : A) → Some x ≡ None → ⊥
never_some x e = absurd cc

direction_itself : (d : Direction) → same_direction d d ≡ true
direction_itself directions.Both = refl
direction_itself directions.Send = refl
direction_itself directions.Receive = refl

identical_itself : (t : ValueType) → identical t t ≡ true
identical_itself IntType = refl
identical_itself BoolType = refl
identical_itself (StructType n) = grind (arith, nat_tests)
identical_itself (ChannelType d t) = ap (λ b. b && identical t t) (direction_itself d) ∙ identical_itself t

pub assignable_itself : (t : ValueType) → assignable t t ≡ true
assignable_itself IntType = refl
assignable_itself BoolType = refl
assignable_itself (StructType n) = identical_itself (StructType n)
assignable_itself (ChannelType directions.Both t) = identical_itself t
assignable_itself (ChannelType directions.Send t) = identical_itself t
assignable_itself (ChannelType directions.Receive t) = identical_itself t

-- ---- the values that are given have the same types or constant values in scopes that are alike

module _ (globals : Globals) (elements : List Element) (s scope : Scope) (alike : Sees s scope) where
  -- the worths of values
  abbrev pub worths : List Given → List (Option Worth)
  worths values = map (λ (value : Given). value.worth) values

  pub values_alike : (values : List Expression) (m n : ℕ) → worths (given_values globals s m values) ≡ worths (given_values globals scope n values)
  values_alike [] m n = refl
  values_alike (value ∷ rest) m n = ap (λ (l : List (Option Worth)). worth globals s value ∷ l) (values_alike rest (m + expression_size value) (n + expression_size value)) ∙ ap (λ o. o ∷ worths (given_values globals scope (n + expression_size value) rest)) (worth_sees s scope alike globals value)

  also_alike : (count m n : ℕ) (values : List Expression) → worths (also_given count m values) ≡ worths (also_given count n values)
  also_alike count m n [] = refl
  also_alike count m n (value ∷ []) = go ((count == 2) && is_receive value) where
    go : (t : Bool) → worths (if t then record { worth = Some (TypedWorth BoolType); nodes = nodes_of m value } ∷ [] else []) ≡ worths (if t then record { worth = Some (TypedWorth BoolType); nodes = nodes_of n value } ∷ [] else [])
    go true = refl
    go false = refl
  also_alike count m n (value ∷ (other ∷ rest)) = refl

  pub given_alike : (count m n : ℕ) (values : List Expression) → worths (given globals s count m values) ≡ worths (given globals scope count n values)
  given_alike count m n values =
      map-append (λ (value : Given). value.worth) (given_values globals s m values) (also_given count m values) ∙ ap (λ (l : List (Option Worth)). l ++ worths (also_given count m values)) (values_alike values m n)
      ∙ ap (λ (l : List (Option Worth)). worths (given_values globals scope n values) ++ l) (also_alike count m n values) ∙ sym (map-append (λ (value : Given). value.worth) (given_values globals scope n values) (also_given count n values))

-- types by worths
abbrev pub types_of : List (Option Worth) → List ValueType
types_of [] = []
types_of (w ∷ rest) = known (default_type w) ∷ types_of rest

pub types_given : (globals : Globals) (elements : List Element) (s scope : Scope) (alike : Sees s scope) (values : List Given) → given_types globals elements values ≡ types_of (worths globals elements s scope alike values)
types_given globals elements s scope alike [] = refl
types_given globals elements s scope alike (value ∷ rest) = ap (λ (l : List ValueType). known (default_type value.worth) ∷ l) (types_given globals elements s scope alike rest)

module _ (globals : Globals) (elements : List Element) where
  -- a value of type `kind` is taken as the type `want`
  pub record Taken (want : Option ValueType) (kind : ValueType) : Type 0 where
    pub same : kinds_of globals.structs elements (taken want kind) ≡ kinds_of globals.structs elements kind
    pub noted : Noted elements (taken want kind)

  pub typed_taken : (want : Option ValueType) (kind : ValueType) (value : Given) → value.worth ≡ Some (TypedWorth kind) → 1 ≤ value.nodes.end → WantsNoted elements (want ∷ []) → Noted elements kind → Free (WantHas want value) → Taken want kind
  typed_taken None kind value is le noted own free = record { same = refl; noted = own }
  typed_taken (Some t) kind value is le noted own free =
      let fit = fits (TypedWorth kind) t value.nodes le (λ violation h. free violation (subst (λ o. ValueHas o (Some t) value.nodes violation) (sym is) h)) in
      record { same = sym (assignable_kinds globals.structs elements kind t fit); noted = noted.0 }

  pub first_noted : (want : Option ValueType) (wants : List (Option ValueType)) → WantsNoted elements (want ∷ wants) → WantsNoted elements (want ∷ []) × WantsNoted elements wants
  first_noted None wants n = (tt, n)
  first_noted (Some kind) wants n = ((n.0, tt), n.1)

  module _ (code : Code) (f : CodeFunction) (grounds : Grounds globals elements code) where
    module _ (scope : Scope) (housed : Housed globals elements f scope) (s : Scope) (alike : Sees s scope) where
      -- ---- values

      value_taken : (want : Option ValueType) (w : Worth) (nodes : Nodes) (e : Expression) → OneMakes globals elements e → worth globals scope e ≡ Some w → 1 ≤ nodes.end → WantsNoted elements (want ∷ []) → Free (WantHas want (record { worth = Some w; nodes = nodes }))
          → Fits w (taken want (known (default_type (Some w)))) × Noted elements (taken want (known (default_type (Some w)))) × (want ≡ None → HasDefault elements (Some w))
      value_taken (Some t) w nodes e makes is le noted free = (fits w t nodes le free, noted.0, λ x. absurd (never_some t x))
      value_taken None (TypedWorth t) nodes e makes is le noted free = let n = worth_noted elements globals grounds.fields_noted grounds.results_noted scope housed.noted e makes t is in (assignable_itself t, n, λ x. (refl, n))
      value_taken None (Constant z) nodes e makes is le noted free = let b = broken rules.Constant nodes.end le in ((refl, not_false (is_int z) (λ x. free b.0 (x, b.1))), tt, λ x. (refl, tt))
      value_taken None Nil nodes e makes is le noted free = let b = broken rules.Nil (nodes.first + 1) (omega arith) in absurd (free b.0 b.1)

      -- values fit the types that are wanted
      pub record ValuesFit (values : List Expression) (wants : List (Option ValueType)) (m : ℕ) : Type 0 where
        pub fit : AllFit globals s (expressions values) (taken_all wants (given_types globals elements (given_values globals scope m values)))
        pub noted : AllNoted elements (taken_all wants (given_types globals elements (given_values globals scope m values)))
        pub well : WellTaken elements wants (given_values globals scope m values)

      pub values_fit : (values : List Expression) (wants : List (Option ValueType)) (first m : ℕ) → length values ≡ length wants → WantsNoted elements wants → Free (ExpressionsHave globals s first (expressions values)) → Free (WantsFail wants (given_values globals s first values)) → ValuesMake globals elements values → ValuesFit values wants m
      values_fit [] [] first m many noted free fail makes = record { fit = tt; noted = tt; well = tt }
      values_fit [] (want ∷ wants) first m many noted free fail makes = absurd cc
      values_fit (value ∷ rest) [] first m many noted free fail makes = absurd cc
      values_fit (value ∷ rest) (want ∷ wants) first m many noted free fail makes =
          let (w, is) = worth_there globals s grounds.types_known (known_sees s scope alike housed.known) value first (λ violation h. free violation (inl h)) in
          let here-is : worth globals scope value ≡ Some w = sym (worth_sees s scope alike globals value) ∙ is in
          let n = first_noted want wants noted in
          let one = value_taken want w (nodes_of first value) value makes.0 here-is (nodes_end first value) n.0 (λ violation h. fail violation (inl (subst (λ o. WantHas want (record { worth = o; nodes = nodes_of first value }) violation) (sym is) h))) in
          let same : known (default_type (Some w)) ≡ known (default_type (worth globals scope value)) = ap (λ o. known (default_type o)) (sym here-is) in
          let long : suc (length rest) ≡ suc (length wants) = many in
          let more = values_fit rest wants (first + expression_size value) (m + expression_size value) (omega (arith, long)) n.1 (λ violation h. free violation (inr h)) (λ violation h. fail violation (inr h)) makes.1 in
          record {
            fit = ((w, is, subst (λ k. Fits w (taken want k)) same one.0), more.fit);
            noted = (subst (λ k. Noted elements (taken want k)) same one.1, more.noted);
            well = (λ x. subst (HasDefault elements) (sym here-is) (one.2 x), more.well);
          }
