-- What is so of expressions in which nothing is wrong.
use Rattle.std.proofs.Common.{◌≡◌, ℕ, ℤ, ◌+◌, ◌-◌, ◌≤◌, inl, inr, Bool, true, false, not, ◌&&◌, List, Option, Some, None, option_map, Result, Ok, Err, refl, sym, ap, ◌∙◌, subst, arith}
use Rattle.std.specs.Option.{is_some}
use Rattle.std.specs.Prelude.{◌||◌, if◌then◌else◌, option_and_then}
use Rattle.std.specs.Result.{result_ok}
use Rattle.go_text.specs.declared.rule.Rule.{Rule}
use Rattle.go_text.specs.declared.rule.Rule.TheVariants as rules
use Rattle.go_text.specs.declared.rule.LimitKind.{LimitKind}
use Rattle.go_text.specs.declared.rule.LimitKind.TheVariants as limits
use Rattle.syntax.specs.declared.node.UnaryOperator.{UnaryOperator}
use Rattle.syntax.specs.declared.node.BinaryOperator.{BinaryOperator}
use Rattle.syntax.specs.Tree.{Expression, Integer, Named, Parenthesized, Selection, Composite, Unary, Binary, Call, Receive, Make, MakeSized, Length, Capacity, TypeExpression, Expressions, expressions_in}
use Rattle.syntax.specs.Measures.{expression_size}
use Rattle.type_table.specs.Types.{ValueType, IntType, BoolType, StructType, ChannelType, is_int_type, is_channel_type, assignable}
use Rattle.type_table.specs.Containment.{Selected, field_of}
use Rattle.type_table.specs.Scopes.{Globals, Scope, Variable, Yield, NoResult, Yields, is_truth, is_nil, variable_named, type_in}
use Rattle.typing_rules.specs.Calls.{Callee, NotDeclared, NoFunction, IsFunction, callee, result_of, yielded, result_type, made_of}
use Rattle.typing_rules.specs.declared.violation.Violation.{Violation}
use Rattle.typing_rules.specs.declared.violation.Violation.TheVariants.{Broken, Exceeded}
use Rattle.typing_rules.specs.declared.violation.Misuse.{Misuse}
use Rattle.typing_rules.specs.declared.violation.Misuse.TheVariants as misuses
use Rattle.typing_rules.specs.Violations.{Nodes, IsBroken, IsExceeded, IsMisuse}
use Rattle.typing_rules.specs.Worths.{Worth, Typed, Constant, Nil, kind_of, is_operand, is_int, literal, unary_worth, binary_worth, named_worth, selected_worth, type_of_field, literal_struct, element_of, worth}
use Rattle.typing_rules.specs.Expressions.{nodes_of, FitHas, Fails, UnaryHas, BinaryHas, SelectionHas, LiteralHas, TypeHas, MadeHas, CalleeHas, YieldHas, ResultHas, ChannelHas, ExpressionHas}
use Rattle.typing_rules.proofs.ExpressionNodes.{expression_positive}
use Rattle.std.proofs.lemmas.Option.{same_Some}

-- nothing of this kind is wrong
abbrev pub Free : (Violation → Type 0) → Type 0
Free P = (violation : Violation) → P violation → ⊥

pub broken : (rule : Rule) (end : ℕ) → 1 ≤ end → (violation : Violation) × IsBroken rule end violation
broken rule end le = (Broken rule (end - 1), (refl, omega (arith, le)))

pub exceeded : (kind : LimitKind) (end : ℕ) → 1 ≤ end → (violation : Violation) × IsExceeded kind end violation
exceeded kind end le = (Exceeded kind (end - 1), (refl, omega (arith, le)))

misused : (misuse : Misuse) (left right : Nodes) (end : ℕ) → 1 ≤ left.end → 1 ≤ right.end → 1 ≤ end → (violation : Violation) × IsMisuse misuse left right end violation
misused misuses.Operands left right end a b c = broken rules.Operands end c
misused misuses.Size left right end a b c = exceeded limits.ConstantSize end c
misused misuses.Right left right end a b c = broken rules.Constant end c
misused misuses.LeftConstant left right end a b c = broken rules.Constant left.end a
misused misuses.RightConstant left right end a b c = broken rules.Constant right.end b
misused misuses.LeftNil left right end a b c = broken rules.Nil (left.first + 1) (omega arith)
misused misuses.RightNil left right end a b c = broken rules.Nil (right.first + 1) (omega arith)

-- what operators make of operands that they fit
pub made : (result : Result Worth Misuse) (left right : Nodes) (end : ℕ) → 1 ≤ left.end → 1 ≤ right.end → 1 ≤ end → Free (Fails result left right end) → (w : Worth) × (result ≡ Ok w)
made (Ok w) left right end a b c free = (w, refl)
made (Err misuse) left right end a b c free = let m = misused misuse left right end a b c in absurd (free m.0 m.1)

pub nodes_end : (first : ℕ) (e : Expression) → 1 ≤ (nodes_of first e).end
nodes_end first e = omega (arith, expression_positive e)

pub not_false : (b : Bool) → (b ≡ false → ⊥) → b ≡ true
not_false true never = refl
not_false false never = absurd (never refl)

not_true : (b : Bool) → (b ≡ true → ⊥) → b ≡ false
not_true true never = absurd (never refl)
not_true false never = refl

is_there : {A : Type 0} (o : Option A) → (o ≡ None → ⊥) → (a : A) × (o ≡ Some a)
is_there None never = absurd (never refl)
is_there (Some a) never = (a, refl)

pub int_type : (t : ValueType) → is_int_type t ≡ true → t ≡ IntType
int_type IntType e = refl
int_type BoolType e = absurd cc
int_type (StructType n) e = absurd cc
int_type (ChannelType d t) e = absurd cc

-- an operand of this type or constant value may be used as type t
abbrev pub Fits : Worth → ValueType → Type 0
Fits (Typed s) t = assignable s t ≡ true
Fits (Constant z) t = (t ≡ IntType) × (is_int z ≡ true)
Fits Nil t = is_channel_type t ≡ true

pub fits : (w : Worth) (t : ValueType) (nodes : Nodes) → 1 ≤ nodes.end → Free (FitHas w t nodes) → Fits w t
fits (Typed s) t nodes le free = let b = broken rules.Assignable nodes.end le in not_false (assignable s t) (λ e. free b.0 (e, b.1))
fits (Constant z) t nodes le free =
    let b = broken rules.Assignable nodes.end le in
    let c = broken rules.Constant nodes.end le in
    let i = not_false (is_int_type t) (λ e. free b.0 (inl (e, b.1))) in
    (int_type t i, not_false (is_int z) (λ e. free c.0 (inr (ap (λ x. x && not (is_int z)) i ∙ ap not e, c.1))))
fits Nil t nodes le free = let b = broken rules.Nil (nodes.first + 1) (omega arith) in not_false (is_channel_type t) (λ e. free b.0 (e, b.1))

-- the variables that are visible have types
abbrev pub VariablesKnown : Scope → Type 0
VariablesKnown s = (name : List ℕ) (v : Variable) → variable_named s name ≡ Some v → (t : ValueType) × (v.kind ≡ Some t)

-- a name that may be an operand has a type if its variable has one
worth_named : (t n : Bool) (o : Option Variable) → ((v : Variable) → o ≡ Some v → (k : ValueType) × (v.kind ≡ Some k)) → (t || n || is_some o) ≡ true
    → (w : Worth) × ((if t then Some (Typed BoolType) else (if n then Some Nil else option_map Typed (kind_of o))) ≡ Some w)
worth_named true n o known e = (Typed BoolType, refl)
worth_named false true o known e = (Nil, refl)
worth_named false false None known e = absurd cc
worth_named false false (Some v) known e = let k = known v refl in (Typed k.0, ap (option_map Typed) k.1)

abbrev worth_type : Option Worth → Option ValueType
worth_type None = None
worth_type (Some (Typed t)) = Some t
worth_type (Some (Constant z)) = None
worth_type (Some Nil) = None

pub typed_same : (s t : ValueType) → Some (Typed s) ≡ Some (Typed t) → s ≡ t
typed_same s t e = same_Some s t (ap worth_type e)

-- a name with a type is a variable, unless it is a truth value
pub typed_variable : (o : Option Variable) (k : ValueType) → option_map Typed (kind_of o) ≡ Some (Typed k) → (v : Variable) × (o ≡ Some v) × (v.kind ≡ Some k)
typed_variable None k e = absurd cc
typed_variable (Some v) k e = (v, refl, go v.kind e) where
  go : (o : Option ValueType) → option_map Typed o ≡ Some (Typed k) → o ≡ Some k
  go None e = absurd cc
  go (Some t) e = ap worth_type e

-- the types of a file's fields and results are known
pub record TypesKnown (globals : Globals) : Type 0 where
  pub fields : (kind : ValueType) (name : List ℕ) (at : Selected) → field_of globals.structs kind name ≡ Some at → (t : ValueType) × (at.kind ≡ Some t)
  pub results : (n : ℕ) (kind : Option ValueType) → result_of globals n ≡ Yields kind → (t : ValueType) × (kind ≡ Some t)

module _ (globals : Globals) (s : Scope) where
  -- ---- one level of each form

  pub integer_there : (first : ℕ) (v : Option ℕ) → Free (ExpressionHas globals s first (Integer v)) → (z : ℤ) × (literal v ≡ Some z)
  integer_there first v free = let b = exceeded limits.ConstantSize (first + 1) (omega arith) in is_there (literal v) (λ e. free b.0 (e, b.1))

  pub named_there : VariablesKnown s → (first : ℕ) (name : List ℕ) → Free (ExpressionHas globals s first (Named name)) → (w : Worth) × (named_worth s name ≡ Some w)
  named_there known first name free =
      let b = broken rules.Visible (first + 1) (omega arith) in
      worth_named (is_truth name) (is_nil name) (variable_named s name) (known name) (not_false (is_operand s name) (λ e. free b.0 (e, b.1)))

  -- a selection is of a value with such a field
  pub record Selects (whole : Expression) (field : List ℕ) : Type 0 where
    pub kind : ValueType
    pub at : Selected
    pub of : worth globals s whole ≡ Some (Typed kind)
    pub found : field_of globals.structs kind field ≡ Some at

  pub selects : (first : ℕ) (whole : Expression) (field : List ℕ) (w : Worth) → worth globals s whole ≡ Some w → Free (ExpressionHas globals s first (Selection whole field)) → Selects whole field
  selects first whole field w is free = go w is (λ violation h. free violation (inr (subst (λ o. SelectionHas globals o field (nodes_of first whole) (first + expression_size (Selection whole field)) violation) (sym is) h))) where
    end : 1 ≤ first + expression_size (Selection whole field)
    end = omega arith

    go : (w : Worth) → worth globals s whole ≡ Some w → Free (SelectionHas globals (Some w) field (nodes_of first whole) (first + expression_size (Selection whole field))) → Selects whole field
    go (Typed kind) is free =
        let b = broken rules.Visible (first + expression_size (Selection whole field)) end in
        let f = is_there (field_of globals.structs kind field) (λ e. free b.0 (e, b.1)) in
        record { kind = kind; at = f.0; of = is; found = f.1 }
    go (Constant z) is free = let b = broken rules.Visible (first + expression_size (Selection whole field)) end in absurd (free b.0 b.1)
    go Nil is free = let b = broken rules.Nil ((nodes_of first whole).first + 1) (omega arith) in absurd (free b.0 b.1)

  pub unary_made : (first : ℕ) (operator : UnaryOperator) (e : Expression) (a : Worth) → worth globals s e ≡ Some a → Free (ExpressionHas globals s first (Unary operator e)) → (w : Worth) × (unary_worth operator a ≡ Ok w)
  unary_made first operator e a is free =
      let end = first + expression_size (Unary operator e) in
      made (unary_worth operator a) (nodes_of first e) (nodes_of first e) end (nodes_end first e) (nodes_end first e) (omega arith)
      (λ violation h. free violation (inr (subst (λ o. UnaryHas operator o (nodes_of first e) end violation) (sym is) h)))

  pub binary_made : (first : ℕ) (operator : BinaryOperator) (l r : Expression) (a b : Worth) → worth globals s l ≡ Some a → worth globals s r ≡ Some b → Free (ExpressionHas globals s first (Binary operator l r)) → (w : Worth) × (binary_worth operator a b ≡ Ok w)
  binary_made first operator l r a b is ir free =
      let end = first + expression_size (Binary operator l r) in
      let right = nodes_of (first + expression_size l) r in
      made (binary_worth operator a b) (nodes_of first l) right end (nodes_end first l) (nodes_end (first + expression_size l) r) (omega arith)
      (λ violation h. free violation (inr (inr (subst (λ o. BinaryHas operator o (worth globals s r) (nodes_of first l) right end violation) (sym is) (subst (λ o. BinaryHas operator (Some a) o (nodes_of first l) right end violation) (sym ir) h)))))

  pub literal_there : (first : ℕ) (name : List ℕ) (values : Expressions) (trailing : Bool) → Free (ExpressionHas globals s first (Composite name values trailing)) → (n : ℕ) × (literal_struct globals s name ≡ Some n)
  literal_there first name values trailing free =
      let end = first + expression_size (Composite name values trailing) in
      let b = broken rules.Visible end (omega arith) in
      is_there (literal_struct globals s name) (λ e. free b.0 (inr (subst (λ o. LiteralHas globals s o first (expressions_in values) end b.0) (sym e) b.1)))

  -- ---- every expression has a type or a constant value

  -- a call is of a function that is there
  pub call_there : (first : ℕ) (function : List ℕ) (values : Expressions) (trailing : Bool) → Free (ExpressionHas globals s first (Call function values trailing)) → (n : ℕ) × (callee globals s function ≡ IsFunction n)
  call_there first function values trailing free = go (callee globals s function) refl where
    end : ℕ
    end = first + expression_size (Call function values trailing)

    go : (c : Callee) → callee globals s function ≡ c → (n : ℕ) × (callee globals s function ≡ IsFunction n)
    go NotDeclared is = let b = broken rules.Visible end (omega arith) in absurd (free b.0 (inl (inr (subst (λ c. CalleeHas globals s c first (expressions_in values) end b.0) (sym is) b.1))))
    go NoFunction is = let b = broken rules.Called end (omega arith) in absurd (free b.0 (inl (inr (subst (λ c. CalleeHas globals s c first (expressions_in values) end b.0) (sym is) b.1))))
    go (IsFunction n) is = (n, is)

  -- and has a result
  pub yield_there : (first : ℕ) (function : List ℕ) (values : Expressions) (trailing : Bool) (n : ℕ) → callee globals s function ≡ IsFunction n → Free (ExpressionHas globals s first (Call function values trailing)) → (kind : Option ValueType) × (result_of globals n ≡ Yields kind)
  yield_there first function values trailing n is free = go (result_of globals n) refl where
    end : ℕ
    end = first + expression_size (Call function values trailing)

    go : (y : Yield) → result_of globals n ≡ y → (kind : Option ValueType) × (result_of globals n ≡ Yields kind)
    go NoResult yields =
        let b = broken rules.Called end (omega arith) in
        absurd (free b.0 (inr (subst (λ c. ResultHas globals c end b.0) (sym is) (subst (λ y. YieldHas y end b.0) (sym yields) b.1))))
    go (Yields kind) yields = (kind, yields)

  -- what is received from carries something
  pub carried_there : (e : Expression) (first : ℕ) (w : Worth) → worth globals s e ≡ Some w → Free (ChannelHas (worth globals s e) (nodes_of first e)) → (t : ValueType) × (element_of (worth globals s e) ≡ Some t)
  carried_there e first w is free = let x = is_there (element_of (Some w)) never in (x.0, ap element_of is ∙ x.1) where
    never : element_of (Some w) ≡ None → ⊥
    never none = let b = broken rules.Channel (nodes_of first e).end (nodes_end first e) in free b.0 (subst (λ o. ChannelHas o (nodes_of first e) b.0) (sym is) (none, b.1))

  -- what is made is a channel
  pub made_there : (kind : TypeExpression) (first end : ℕ) → 1 ≤ end → Free (TypeHas (type_in globals.types s kind) first) → Free (MadeHas (type_in globals.types s kind) end) → (t : ValueType) × (made_of (type_in globals.types s kind) ≡ Some t)
  made_there kind first end le named free = go (type_in globals.types s kind) named free where
    go : (o : Option ValueType) → Free (TypeHas o first) → Free (MadeHas o end) → (t : ValueType) × (made_of o ≡ Some t)
    go None named free = let b = broken rules.Visible (first + 1) (omega arith) in absurd (named b.0 b.1)
    go (Some t) named free =
        let b = broken rules.Made end le in
        let c = not_false (is_channel_type t) (λ e. free b.0 (e, b.1)) in (t, ap (λ b. if b then Some t else None) c)

  pub worth_there : TypesKnown globals → VariablesKnown s → (e : Expression) (first : ℕ) → Free (ExpressionHas globals s first e) → (w : Worth) × (worth globals s e ≡ Some w)
  worth_there known variables (Integer v) first free = let z = integer_there first v free in (Constant z.0, ap (option_map Constant) z.1)
  worth_there known variables (Named name) first free = named_there variables first name free
  worth_there known variables (Parenthesized inner) first free = worth_there known variables inner first free
  worth_there known variables (Selection whole field) first free =
      let w = worth_there known variables whole first (λ violation h. free violation (inl h)) in
      let x = selects first whole field w.0 w.1 free in
      let t = known.fields x.kind field x.at x.found in
      (Typed t.0, ap (option_and_then (selected_worth globals field)) x.of ∙ ap (λ o. option_map Typed (type_of_field o)) x.found ∙ ap (option_map Typed) t.1)
  worth_there known variables (Composite name values trailing) first free =
      let n = literal_there first name values trailing free in (Typed (StructType n.0), ap (option_map (λ n. Typed (StructType n))) n.1)
  worth_there known variables (Unary operator e) first free =
      let a = worth_there known variables e first (λ violation h. free violation (inl h)) in
      let w = unary_made first operator e a.0 a.1 free in
      (w.0, ap (option_and_then (λ x. result_ok (unary_worth operator x))) a.1 ∙ ap result_ok w.1)
  worth_there known variables (Binary operator l r) first free =
      let a = worth_there known variables l first (λ violation h. free violation (inl h)) in
      let b = worth_there known variables r (first + expression_size l) (λ violation h. free violation (inr (inl h))) in
      let w = binary_made first operator l r a.0 b.0 a.1 b.1 free in (
        w.0,
        ap (option_and_then (λ x. option_and_then (λ y. result_ok (binary_worth operator x y)) (worth globals s r))) a.1
            ∙ ap (option_and_then (λ y. result_ok (binary_worth operator a.0 y))) b.1 ∙ ap result_ok w.1,
      )
  worth_there known variables (Call function values trailing) first free =
      let n = call_there first function values trailing free in
      let y = yield_there first function values trailing n.0 n.1 free in
      let t = known.results n.0 y.0 y.1 in
      (Typed t.0, ap (λ c. option_map Typed (result_type globals c)) n.1 ∙ ap (λ y. option_map Typed (yielded y)) y.1 ∙ ap (option_map Typed) t.1)
  worth_there known variables (Receive channel) first free =
      let w = worth_there known variables channel first (λ violation h. free violation (inl h)) in
      let t = carried_there channel first w.0 w.1 (λ violation h. free violation (inr (inl h))) in (Typed t.0, ap (option_map Typed) t.1)
  worth_there known variables (Make kind) first free =
      let t = made_there kind first (first + expression_size (Make kind)) (omega arith) (λ violation h. free violation (inl h)) (λ violation h. free violation (inr h)) in (Typed t.0, ap (option_map Typed) t.1)
  worth_there known variables (MakeSized kind size) first free =
      let t = made_there kind first (first + expression_size (MakeSized kind size)) (omega arith) (λ violation h. free violation (inl h)) (λ violation h. free violation (inr (inr (inr h)))) in (Typed t.0, ap (option_map Typed) t.1)
  worth_there known variables (Length channel) first free = (Typed IntType, refl)
  worth_there known variables (Capacity channel) first free = (Typed IntType, refl)
