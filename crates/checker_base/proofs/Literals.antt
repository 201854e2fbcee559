-- Values of literals and calls, one after the other, and the types that are wanted.
use Rattle.std.proofs.Common.{◌≡◌, ◌==◌, true, false, ℕ, suc, ◌+◌, ◌⊎◌, inl, inr, zero, Bool, List, [], ◌∷◌, map, drop, slice_get, option_map, Option, Some, None, Result, Ok, Err, length, sum_by, refl, arith}
use Rattle.std.specs.Option.{IfSome}
use Rattle.std.specs.Result.{IfOk, IfErr}
use Rattle.std.proofs.lemmas.Bool.Decides.{nat_tests}
use Rattle.syntax.specs.Tree.{Expression, Composite, Call, expressions}
use Rattle.syntax.specs.Measures.{expression_size, expressions_size}
use Rattle.syntax.proofs.Lists.{expressions_in-expressions, expressions_size-of}
use Rattle.type_table.specs.declared.entry.FieldEntry.{FieldEntry}
use Rattle.type_table.specs.declared.value_type.ValueType.{ValueType as Kind}
use Rattle.type_table.specs.Types.{ValueType}
use Rattle.type_table.specs.Views.{kind_of, field_in}
use Rattle.type_table.specs.Containment.{Field, fields_of}
use Rattle.type_table.specs.Scopes.{Globals, Scope}
use Rattle.typing_rules.specs.declared.violation.Violation.{Violation}
use Rattle.go_text.specs.declared.rule.Rule.TheVariants as rules
use Rattle.typing_rules.specs.Violations.{Nodes, IsBroken}
use Rattle.typing_rules.specs.Worths.{Worth, literal_struct, worth}
use Rattle.typing_rules.specs.Calls.{IsFunction, callee, parameters_of, result_of}
use Rattle.checker_base.specs.Views.{known_kind, kind_at, CallWith, Tells}
use Rattle.typing_rules.specs.Expressions.{ExpressionHas, ExpressionsHave, FieldsHave, PassedHave, ValuesFail, ValueHas, YieldHas, field_kinds, nodes_of}

-- P of the violation that is reported; if none is, P says what Q says of the rest
abbrev pub Narrows : Option Violation → (Violation → Type 0) → (Violation → Type 0) → Type 0
Narrows None P Q = (violation : Violation) → (P violation → Q violation) × (Q violation → P violation)
Narrows (Some violation) P Q = P violation

-- one more value is reported on
pub narrows-next : (P Q R : Violation → Type 0) (told : Option Violation) → ((violation : Violation) → (P violation → Q violation ⊎ R violation) × (Q violation ⊎ R violation → P violation)) → Tells Q told → Narrows told P R
narrows-next P Q R None both no_violation = λ violation. (λ p. elim ((both violation).0 p) [ inl q ↦ absurd (no_violation violation q) | inr r ↦ r ], λ r. (both violation).1 (inr r))
narrows-next P Q R (Some violation) both has = (both violation).1 (inl has)

-- nothing is left
pub narrows-end : (P Q : Violation → Type 0) (told : Option Violation) → ((violation : Violation) → Q violation → ⊥) → Narrows told P Q → Tells P told
narrows-end P Q None over both = λ violation p. over violation ((both violation).0 p)
narrows-end P Q (Some violation) over has = has

pub no_places : (globals : Globals) (scope : Scope) (first : ℕ) (values : List Expression) (violation : Violation) → ValuesFail globals scope first values [] violation → ⊥
no_places globals scope first [] violation has = has
no_places globals scope first (value ∷ rest) violation has = has

pub no_type : (w : Option Worth) (nodes : Nodes) (violation : Violation) → ValueHas w None nodes violation → ⊥
no_type None nodes violation has = has
no_type (Some w) nodes violation has = has

-- the types that are left begin with the next one, or none is left
abbrev pub Begins : List (Option ValueType) → Option ValueType → List (Option ValueType) → Type 0
Begins kinds kind more = (kinds ≡ kind ∷ more) ⊎ ((kinds ≡ []) × (more ≡ []) × (kind ≡ None))

pub next_kind : (kinds : List (Option ValueType)) (i : ℕ) → Begins (drop i kinds) (kind_at kinds i) (drop (suc i) kinds)
next_kind [] zero = inr (refl, refl, refl)
next_kind [] (suc i) = inr (refl, refl, refl)
next_kind (kind ∷ rest) zero = inl refl
next_kind (kind ∷ rest) (suc i) = next_kind rest i

pub field_kind_at : (types : List (List ℕ)) (fields : List FieldEntry) (n : ℕ) → kind_at (field_kinds (map (field_in types) fields)) n ≡ option_map (λ (field : FieldEntry). kind_of types field.kind) (slice_get fields n)
field_kind_at types [] zero = refl
field_kind_at types [] (suc n) = refl
field_kind_at types (field ∷ rest) zero = refl
field_kind_at types (field ∷ rest) (suc n) = field_kind_at types rest n

pub parameter_kind_at : (types : List (List ℕ)) (kinds : List Kind) (n : ℕ) → kind_at (map (known_kind types) kinds) n ≡ option_map (kind_of types) (slice_get kinds n)
parameter_kind_at types [] zero = refl
parameter_kind_at types [] (suc n) = refl
parameter_kind_at types (kind ∷ rest) zero = refl
parameter_kind_at types (kind ∷ rest) (suc n) = parameter_kind_at types rest n

-- ---- one value further

pub found_next : (globals : Globals) (scope : Scope) (P : Violation → Type 0) (first : ℕ) (value : Expression) (rest : List Expression)
    → ((violation : Violation) → ExpressionsHave globals scope first (expressions (value ∷ rest)) violation → P violation)
    → (violation : Violation) → ExpressionsHave globals scope (first + expression_size value) (expressions rest) violation → P violation
found_next globals scope P first value rest found = λ violation has. found violation (inr has)

pub passed_next : (globals : Globals) (scope : Scope) (P : Violation → Type 0) (first : ℕ) (value : Expression) (rest : List Expression)
    → ((violation : Violation) → P violation → ExpressionsHave globals scope first (expressions (value ∷ rest)) violation) → ((violation : Violation) → ExpressionHas globals scope first value violation → ⊥)
    → (violation : Violation) → P violation → ExpressionsHave globals scope (first + expression_size value) (expressions rest) violation
passed_next globals scope P first value rest passed good = λ violation p. elim (passed violation p) [ inl bad ↦ absurd (good violation bad) | inr more ↦ more ]

pub fits_next : (globals : Globals) (scope : Scope) (P : Violation → Type 0) (first : ℕ) (value : Expression) (rest : List Expression) (kinds more : List (Option ValueType)) (kind : Option ValueType) (known told : Option Violation)
    → Begins kinds kind more
    → Narrows known P (ValuesFail globals scope first (value ∷ rest) kinds)
    → IfSome known (λ violation. told ≡ Some violation)
    → (known ≡ None → Tells (ValueHas (worth globals scope value) kind (nodes_of first value)) told)
    → Narrows told P (ValuesFail globals scope (first + expression_size value) rest more)
fits_next globals scope P first value rest kinds more kind (Some violation) told begins narrows same new = rw same narrows
fits_next globals scope P first value rest kinds more kind None told (inl is) narrows same new =
    narrows-next P (ValueHas (worth globals scope value) kind (nodes_of first value)) (ValuesFail globals scope (first + expression_size value) rest more) told (rw is at narrows) (new refl)
fits_next globals scope P first value rest kinds more kind None told (inr is) narrows same new =
    let none : (violation : Violation) → (P violation → ⊥) × (⊥ → P violation) = rw is.0 at narrows in
    let no_value : (violation : Violation) → ValueHas (worth globals scope value) kind (nodes_of first value) violation → ⊥ = λ violation has. no_type (worth globals scope value) (nodes_of first value) violation (rw is.2 at has) in
    let no_more : (violation : Violation) → ValuesFail globals scope (first + expression_size value) rest more violation → ⊥ = λ violation has. no_places globals scope (first + expression_size value) rest violation (rw is.1 at has) in
    narrows-next P (ValueHas (worth globals scope value) kind (nodes_of first value)) (ValuesFail globals scope (first + expression_size value) rest more) told
    (λ violation. (λ p. absurd ((none violation).0 p), λ has. elim has [ inl v ↦ absurd (no_value violation v) | inr m ↦ absurd (no_more violation m) ])) (new refl)

-- ---- as many values as types

pub passed_agree : (globals : Globals) (scope : Scope) (first : ℕ) (values : List Expression) (kinds : List (Option ValueType)) (end : ℕ) (violation : Violation) → length values ≡ length kinds
    → (ValuesFail globals scope first values kinds violation → ⊥) → PassedHave globals scope first values kinds end violation → ⊥
passed_agree globals scope first values kinds end violation e fit (inl numbers) = let wrong = numbers.0 in grind (arith, nat_tests)
passed_agree globals scope first values kinds end violation e fit (inr fail) = fit fail

pub is_none : (n : ℕ) → (n == 0) ≡ true → n ≡ 0
is_none zero e = refl
is_none (suc n) e = grind (arith, nat_tests, e)

pub is_some : (n : ℕ) → (n == 0) ≡ false → n ≡ 0 → ⊥
is_some zero e none = cc
is_some (suc n) e none = omega (arith, none)

pub number_has : (globals : Globals) (scope : Scope) (first : ℕ) (values : List Expression) (kinds : List (Option ValueType)) (end : ℕ) (violation : Violation)
    → (length values ≡ length kinds → ⊥) → IsBroken rules.Numbers end violation → PassedHave globals scope first values kinds end violation
number_has globals scope first values kinds end violation other broken = inl (grind (arith, nat_tests, other), broken)

-- ---- whole literals

-- the values of a literal are none, or as many as its fields
fields_pass : (globals : Globals) (scope : Scope) (first : ℕ) (values : List Expression) (kinds : List (Option ValueType)) (end : ℕ) (violation : Violation)
    → FieldsHave globals scope first values kinds end violation → PassedHave globals scope first values kinds end violation
fields_pass globals scope first [] kinds end violation has = absurd has
fields_pass globals scope first (value ∷ rest) kinds end violation has = has

pass_fields : (globals : Globals) (scope : Scope) (first : ℕ) (values : List Expression) (kinds : List (Option ValueType)) (end : ℕ) (violation : Violation) → (length values ≡ 0 → ⊥)
    → PassedHave globals scope first values kinds end violation → FieldsHave globals scope first values kinds end violation
pass_fields globals scope first [] kinds end violation some has = absurd (some refl)
pass_fields globals scope first (value ∷ rest) kinds end violation some has = has

pub composite_has : (globals : Globals) (scope : Scope) (first number : ℕ) (name : List ℕ) (values : List Expression) (fields : List Field) (trailing : Bool) (violation : Violation)
    → literal_struct globals scope name ≡ Some number → fields ≡ fields_of globals.structs number → (length values ≡ 0 → ⊥)
    → ExpressionsHave globals scope first (expressions values) violation ⊎ PassedHave globals scope first values (field_kinds fields) (first + (expressions_size (expressions values) + 1)) violation
    → ExpressionHas globals scope first (Composite name (expressions values) trailing) violation
composite_has globals scope first number name values fields trailing violation e f some (inl bad) = inl bad
composite_has globals scope first number name values fields trailing violation e f some (inr bad) =
    inr (rw (e, expressions_in-expressions values, ← f) (pass_fields globals scope first values (field_kinds fields) (first + (expressions_size (expressions values) + 1)) violation some bad))

pub composite_in : (globals : Globals) (scope : Scope) (first number : ℕ) (name : List ℕ) (values : List Expression) (fields : List Field) (trailing : Bool) (violation : Violation)
    → literal_struct globals scope name ≡ Some number → fields ≡ fields_of globals.structs number
    → ExpressionHas globals scope first (Composite name (expressions values) trailing) violation
    → ExpressionsHave globals scope first (expressions values) violation ⊎ PassedHave globals scope first values (field_kinds fields) (first + (expressions_size (expressions values) + 1)) violation
composite_in globals scope first number name values fields trailing violation e f (inl bad) = inl bad
composite_in globals scope first number name values fields trailing violation e f (inr bad) =
    inr (fields_pass globals scope first values (field_kinds fields) (first + (expressions_size (expressions values) + 1)) violation (rw (e, expressions_in-expressions values, ← f) at bad))

-- a literal without values is the zero value
pub composite_none : (globals : Globals) (scope : Scope) (first number : ℕ) (name : List ℕ) (values : List Expression) (trailing : Bool) (violation : Violation)
    → literal_struct globals scope name ≡ Some number → length values ≡ 0
    → ExpressionHas globals scope first (Composite name (expressions values) trailing) violation → ⊥
composite_none globals scope first number name [] trailing violation e none (inl bad) = bad
composite_none globals scope first number name [] trailing violation e none (inr bad) = rw e at bad
composite_none globals scope first number name (value ∷ rest) trailing violation e none has = omega (arith, none)

pub size_of_values : (values : List Expression) → expressions_size (expressions values) ≡ sum_by expression_size values
size_of_values values = expressions_size-of values

-- what holds with any last comma holds with the one that was written
pub comma_free : {X : Type 0} (r : Result X Violation) (globals : Globals) (scope : Scope) (first : ℕ) (form : Bool → Expression) (trailing : Bool) (whole : Expression)
    → whole ≡ form trailing
    → IfOk r (λ _. (any : Bool) (violation : Violation) → ExpressionHas globals scope first (form any) violation → ⊥)
    → IfOk r (λ _. (violation : Violation) → ExpressionHas globals scope first whole violation → ⊥)
comma_free (Ok x) globals scope first form trailing whole e free = λ violation. rw e (free trailing violation)
comma_free (Err violation) globals scope first form trailing whole e free = tt

pub comma_violated : {X : Type 0} (r : Result X Violation) (globals : Globals) (scope : Scope) (first : ℕ) (form : Bool → Expression) (trailing : Bool) (whole : Expression)
    → whole ≡ form trailing
    → IfErr r (λ violation. (any : Bool) → ExpressionHas globals scope first (form any) violation)
    → IfErr r (ExpressionHas globals scope first whole)
comma_violated (Ok x) globals scope first form trailing whole e has = tt
comma_violated (Err violation) globals scope first form trailing whole e has = rw e (has trailing)

-- ---- whole calls

pub call_has : (globals : Globals) (scope : Scope) (first number end : ℕ) (name : List ℕ) (values : List Expression) (kinds : List (Option ValueType)) (violation : Violation)
    → callee globals scope name ≡ IsFunction number → kinds ≡ parameters_of globals number → end ≡ first + sum_by expression_size values + 1
    → ExpressionsHave globals scope first (expressions values) violation ⊎ PassedHave globals scope first values kinds end violation → CallWith globals scope first name values violation
call_has globals scope first number end name values kinds violation is k e (inl bad) = inl bad
call_has globals scope first number end name values kinds violation is k e (inr bad) = inr (rw (is, ← k, ← e) bad)

pub call_in : (globals : Globals) (scope : Scope) (first number : ℕ) (name : List ℕ) (values : List Expression) (kinds : List (Option ValueType)) (violation : Violation)
    → callee globals scope name ≡ IsFunction number → kinds ≡ parameters_of globals number → CallWith globals scope first name values violation
    → ExpressionsHave globals scope first (expressions values) violation ⊎ PassedHave globals scope first values kinds (first + sum_by expression_size values + 1) violation
call_in globals scope first number name values kinds violation is k (inl bad) = inl bad
call_in globals scope first number name values kinds violation is k (inr bad) = inr (rw (is, ← k) at bad)

call_end : (first : ℕ) (values : List Expression) → first + (expressions_size (expressions values) + 1) ≡ first + sum_by expression_size values + 1
call_end first values = omega (arith, size_of_values values)

-- a call is a value if nothing is wrong with it, and it has a result
pub called_has : (globals : Globals) (scope : Scope) (first : ℕ) (name : List ℕ) (values : List Expression) (trailing : Bool) (violation : Violation)
    → CallWith globals scope first name values violation → ExpressionHas globals scope first (Call name (expressions values) trailing) violation
called_has globals scope first name values trailing violation (inl bad) = inl (inl bad)
called_has globals scope first name values trailing violation (inr bad) = inl (inr (rw (call_end first values, expressions_in-expressions values) bad))

pub result_has : (globals : Globals) (scope : Scope) (first number end : ℕ) (name : List ℕ) (values : List Expression) (trailing : Bool) (violation : Violation)
    → callee globals scope name ≡ IsFunction number → end ≡ first + (expressions_size (expressions values) + 1)
    → YieldHas (result_of globals number) end violation → ExpressionHas globals scope first (Call name (expressions values) trailing) violation
result_has globals scope first number end name values trailing violation is e bad = inr (rw (is, ← e) bad)

pub called_in : (globals : Globals) (scope : Scope) (first number : ℕ) (name : List ℕ) (values : List Expression) (trailing : Bool) (violation : Violation)
    → callee globals scope name ≡ IsFunction number → ExpressionHas globals scope first (Call name (expressions values) trailing) violation
    → CallWith globals scope first name values violation ⊎ YieldHas (result_of globals number) (first + (expressions_size (expressions values) + 1)) violation
called_in globals scope first number name values trailing violation is (inl (inl bad)) = inl (inl bad)
called_in globals scope first number name values trailing violation is (inl (inr bad)) = inl (inr (rw (call_end first values, expressions_in-expressions values) at bad))
called_in globals scope first number name values trailing violation is (inr bad) = inr (rw is at bad)
