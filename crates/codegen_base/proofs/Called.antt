-- What is so of calls in which nothing is wrong.
use Rattle.std.proofs.Common.{◌≡◌, ℕ, suc, ◌+◌, ◌==◌, ◌≤◌, Bool, true, false, List, [], ◌∷◌, length, map, Option, Some, None, refl, sym, ap, subst, arith, inl, inr}
use Rattle.std.specs.Prelude.{if◌then◌else◌, unwrap_or}
use Rattle.std.proofs.lemmas.Bool.Decides.{nat_tests}
use Rattle.go_text.specs.declared.rule.Rule.TheVariants as rules
use Rattle.syntax.specs.Tree.{Expression, Expressions, NoMore, Following, expressions, expressions_in, Arguments}
use Rattle.syntax.specs.Measures.{expression_size, arguments_size}
use Rattle.type_table.specs.Types.{ValueType}
use Rattle.type_table.specs.Scopes.{Globals, Scope, function_number}
use Rattle.typing_rules.specs.Worths.{Worth, worth}
use Rattle.typing_rules.specs.Calls.{Callee, NotDeclared, NoFunction, IsFunction, function_of, is_other, callee, parameters_of}
use Rattle.typing_rules.specs.Operations.{CallHas}
use Rattle.meaning.specs.Values.{known}
use Rattle.meaning.specs.Expressions.{number_of}
use Rattle.codegen_base.proofs.Typing.{Free, TypesKnown, VariablesKnown, Fits, fits, broken, nodes_end, worth_there}
use Rattle.syntax.proofs.Lists.{expressions_in-expressions}
use Rattle.typing_rules.specs.Expressions.{nodes_of, ValueHas, NumbersHave, ValuesFail, PassedHave, CalleeHas, ExpressionsHave}

-- all these types are known
abbrev pub KindsKnown : List (Option ValueType) → Type 0
KindsKnown [] = Unit {0}
KindsKnown (kind ∷ kinds) = (kind ≡ Some (known kind)) × KindsKnown kinds

pub same_count : (a b end : ℕ) → 1 ≤ end → Free (NumbersHave a b end) → a ≡ b
same_count a b end le free = go (a == b) refl where
  go : (t : Bool) → (a == b) ≡ t → a ≡ b
  go true e = grind (arith, nat_tests, e)
  go false e = let x = broken rules.Numbers end le in absurd (free x.0 (e, x.1))

-- what a name calls that hides no function
pub function_is : (o : Option ℕ) (other : Bool) (n : ℕ) → (if other then NoFunction else function_of o) ≡ IsFunction n → o ≡ Some n
function_is o true n e = absurd cc
function_is None false n e = absurd cc
function_is (Some m) false n e = ap number_in e where
  number_in : Callee → Option ℕ
  number_in NotDeclared = None
  number_in NoFunction = None
  number_in (IsFunction k) = Some k

-- each of these expressions may be used as its type
abbrev pub AllFit : Globals → Scope → Expressions → List ValueType → Type 0
AllFit globals s NoMore [] = Unit {0}
AllFit globals s (Following e es) (kind ∷ types) = ((w : Worth) × (worth globals s e ≡ Some w) × Fits w kind) × AllFit globals s es types
AllFit globals s es types = ⊥

module _ (globals : Globals) (s : Scope) (types-known : TypesKnown globals) (variables-known : VariablesKnown s) where
  -- values fit types that are all known
  pub all_fit : (es : Expressions) (kinds : List (Option ValueType)) (first : ℕ) → KindsKnown kinds → length (expressions_in es) ≡ length kinds → Free (ExpressionsHave globals s first es) → Free (ValuesFail globals s first (expressions_in es) kinds) → AllFit globals s es (map known kinds)
  all_fit NoMore [] first k many free fail = tt
  all_fit NoMore (kind ∷ kinds) first k many free fail = absurd cc
  all_fit (Following e es) [] first k many free fail = absurd cc
  all_fit (Following e es) (kind ∷ kinds) first k many free fail =
      let w = worth_there globals s types-known variables-known e first (λ violation h. free violation (inl h)) in
      let fit = fits w.0 (known kind) (nodes_of first e) (nodes_end first e)
      (λ violation h. fail violation (inl (subst (λ o. ValueHas (worth globals s e) o (nodes_of first e) violation) (sym k.0) (subst (λ o. ValueHas o (Some (known kind)) (nodes_of first e) violation) (sym w.1) h)))) in
      let rest : suc (length (expressions_in es)) ≡ suc (length kinds) = many in
      ((w.0, w.1, fit), all_fit es kinds (first + expression_size e) k.1 (omega (arith, rest)) (λ violation h. free violation (inr h)) (λ violation h. fail violation (inr h)))

  -- a call is of a function, with values that fit its parameters
  pub record Calls (function : List ℕ) (values : Expressions) : Type 0 where
    pub number : ℕ
    pub calls : callee globals s function ≡ IsFunction number
    pub is : function_number globals.functions function ≡ Some number
    pub numbered : number_of globals function ≡ number
    pub fit : AllFit globals s values (map known (parameters_of globals number))

  pub calls_there : ((n : ℕ) → KindsKnown (parameters_of globals n)) → (function : List ℕ) (values : Expressions) (first end : ℕ) → 1 ≤ end → Free (ExpressionsHave globals s first values) → Free (CalleeHas globals s (callee globals s function) first (expressions_in values) end) → Calls function values
  calls_there known-kinds function values first end le free = go (callee globals s function) refl where
    go : (c : Callee) → callee globals s function ≡ c → Free (CalleeHas globals s (callee globals s function) first (expressions_in values) end) → Calls function values
    go NotDeclared is free-of = let b = broken rules.Visible end le in absurd (free-of b.0 (subst (λ c. CalleeHas globals s c first (expressions_in values) end b.0) (sym is) b.1))
    go NoFunction is free-of = let b = broken rules.Called end le in absurd (free-of b.0 (subst (λ c. CalleeHas globals s c first (expressions_in values) end b.0) (sym is) b.1))
    go (IsFunction n) is free-of =
        let passed : Free (PassedHave globals s first (expressions_in values) (parameters_of globals n) end) = λ violation h. free-of violation (subst (λ c. CalleeHas globals s c first (expressions_in values) end violation) (sym is) h) in
        let found = function_is (function_number globals.functions function) (is_other globals s function) n is in
        record {
          number = n;
          calls = is;
          is = found;
          numbered = ap (λ o. unwrap_or o 0) found;
          fit = all_fit values (parameters_of globals n) first (known-kinds n) (same_count (length (expressions_in values)) (length (parameters_of globals n)) end le (λ violation h. passed violation (inl h))) free (λ violation h. passed violation (inr h));
        }

  -- a call that is a statement
  pub calls : ((n : ℕ) → KindsKnown (parameters_of globals n)) → (function : List ℕ) (arguments : Arguments) (first : ℕ) → Free (CallHas globals s first function arguments) → Calls function (expressions arguments.values)
  calls known-kinds function arguments first free =
      let end = first + arguments_size arguments + 1 in
      calls_there known-kinds function (expressions arguments.values) first end (omega arith) (λ violation h. free violation (inl h))
      (λ violation h. free violation (inr (subst (λ (vs : List Expression). CalleeHas globals s (callee globals s function) first vs end violation) (expressions_in-expressions arguments.values) h)))
