-- Where the innermost block begins matters only to declarations: what is wrong with an expression is so in any block.
use Rattle.std.proofs.Common.{◌≡◌, ℕ, ◌+◌, List, [], ◌∷◌, Option, Some, None, refl, ap, ◌∙◌, subst, inl, inr, option_map}
use Rattle.std.specs.Prelude.{option_and_then}
use Rattle.std.specs.Result.{result_ok}
use Rattle.syntax.specs.Tree.{Expression, Integer, Named, Parenthesized, Selection, Composite, Unary, Binary, Call, Receive, Make, MakeSized, Length, Capacity, TypeExpression, NamedType, ParenthesizedType, Channel, Expressions, NoMore, Following, expressions_in}
use Rattle.syntax.specs.Measures.{expression_size, type_size}
use Rattle.typing_rules.specs.declared.violation.Violation.{Violation}
use Rattle.type_table.specs.Types.{ValueType, ChannelType}
use Rattle.type_table.specs.Scopes.{Variable, Scope, Globals, type_in}
use Rattle.typing_rules.specs.Worths.{selected_worth, unary_worth, binary_worth, literal_struct, worth, Typed, element_of}
use Rattle.typing_rules.specs.Expressions.{nodes_of, ValueHas, UnaryHas, BinaryHas, SelectionHas, ValuesFail, FieldsHave, LiteralHas, ConditionHas, ExpressionHas, ExpressionsHave, TestHas, CalleeHas, ChannelHas, ReceivedHas, TypeHas, MadeHas, SizeHas}
use Rattle.typing_rules.specs.Calls.{Callee, NotDeclared, NoFunction, IsFunction, callee, made_of}

module _ (globals : Globals) (variables : List Variable) (a b n m : ℕ) where
  abbrev pub one : Scope
  one = record { variables = variables; outer = a; words = n }

  abbrev pub other : Scope
  other = record { variables = variables; outer = b; words = m }

  pub type_same : (types : List (List ℕ)) (kind : TypeExpression) → type_in types one kind ≡ type_in types other kind
  type_same types (NamedType name) = refl
  type_same types (ParenthesizedType inner) = type_same types inner
  type_same types (Channel direction element) = ap (option_map (ChannelType direction)) (type_same types element)

  pub worth_same : (e : Expression) → worth globals one e ≡ worth globals other e
  worth_same (Integer value) = refl
  worth_same (Named name) = refl
  worth_same (Parenthesized inner) = worth_same inner
  worth_same (Selection whole field) = ap (option_and_then (selected_worth globals field)) (worth_same whole)
  worth_same (Composite name values trailing) = refl
  worth_same (Unary operator operand) = ap (option_and_then (λ x. result_ok (unary_worth operator x))) (worth_same operand)
  worth_same (Binary operator l r) =
      ap (option_and_then (λ x. option_and_then (λ y. result_ok (binary_worth operator x y)) (worth globals one r))) (worth_same l)
      ∙ ap (λ o. option_and_then (λ x. option_and_then (λ y. result_ok (binary_worth operator x y)) o) (worth globals other l)) (worth_same r)
  worth_same (Call function values trailing) = refl
  worth_same (Receive channel) = ap (λ o. option_map Typed (element_of o)) (worth_same channel)
  worth_same (Make kind) = ap (λ o. option_map Typed (made_of o)) (type_same globals.types kind)
  worth_same (MakeSized kind size) = ap (λ o. option_map Typed (made_of o)) (type_same globals.types kind)
  worth_same (Length channel) = refl
  worth_same (Capacity channel) = refl

  pub fail_same : (es : List Expression) (kinds : List (Option ValueType)) (first : ℕ) (violation : Violation) → ValuesFail globals one first es kinds violation → ValuesFail globals other first es kinds violation
  fail_same [] kinds first violation h = h
  fail_same (e ∷ es) [] first violation h = h
  fail_same (e ∷ es) (kind ∷ kinds) first violation (inl h) = inl (subst (λ o. ValueHas o kind (nodes_of first e) violation) (worth_same e) h)
  fail_same (e ∷ es) (kind ∷ kinds) first violation (inr h) = inr (fail_same es kinds (first + expression_size e) violation h)

  fields_same : (es : List Expression) (kinds : List (Option ValueType)) (first end : ℕ) (violation : Violation) → FieldsHave globals one first es kinds end violation → FieldsHave globals other first es kinds end violation
  fields_same [] kinds first end violation h = h
  fields_same (e ∷ es) kinds first end violation (inl h) = inl h
  fields_same (e ∷ es) kinds first end violation (inr h) = inr (fail_same (e ∷ es) kinds first violation h)

  literal_same : (o : Option ℕ) (es : List Expression) (first end : ℕ) (violation : Violation) → LiteralHas globals one o first es end violation → LiteralHas globals other o first es end violation
  literal_same None es first end violation h = h
  literal_same (Some number) es first end violation h = fields_same es _ first end violation h

  pub callee_same : (c : Callee) (first : ℕ) (es : List Expression) (end : ℕ) (violation : Violation) → CalleeHas globals one c first es end violation → CalleeHas globals other c first es end violation
  callee_same NotDeclared first es end violation h = h
  callee_same NoFunction first es end violation h = h
  callee_same (IsFunction number) first es end violation (inl h) = inl h
  callee_same (IsFunction number) first es end violation (inr h) = inr (fail_same es _ first violation h)

  mutual
    pub has_same : (e : Expression) (first : ℕ) (violation : Violation) → ExpressionHas globals one first e violation → ExpressionHas globals other first e violation
    has_same (Integer value) first violation h = h
    has_same (Named name) first violation h = h
    has_same (Parenthesized inner) first violation h = has_same inner first violation h
    has_same (Selection whole field) first violation (inl h) = inl (has_same whole first violation h)
    has_same (Selection whole field) first violation (inr h) = inr (subst (λ o. SelectionHas globals o field (nodes_of first whole) (first + expression_size (Selection whole field)) violation) (worth_same whole) h)
    has_same (Composite name values trailing) first violation (inl h) = inl (have_same values first violation h)
    has_same (Composite name values trailing) first violation (inr h) = inr (literal_same (literal_struct globals one name) (expressions_in values) first (first + expression_size (Composite name values trailing)) violation h)
    has_same (Unary operator operand) first violation (inl h) = inl (has_same operand first violation h)
    has_same (Unary operator operand) first violation (inr h) = inr (subst (λ o. UnaryHas operator o (nodes_of first operand) (first + expression_size (Unary operator operand)) violation) (worth_same operand) h)
    has_same (Binary operator l r) first violation (inl h) = inl (has_same l first violation h)
    has_same (Binary operator l r) first violation (inr (inl h)) = inr (inl (has_same r (first + expression_size l) violation h))
    has_same (Binary operator l r) first violation (inr (inr h)) =
        inr (inr (subst (λ o. BinaryHas operator o (worth globals other r) (nodes_of first l) (nodes_of (first + expression_size l) r) (first + expression_size (Binary operator l r)) violation) (worth_same l)
        (subst (λ o. BinaryHas operator (worth globals one l) o (nodes_of first l) (nodes_of (first + expression_size l) r) (first + expression_size (Binary operator l r)) violation) (worth_same r) h)))
    has_same (Call function values trailing) first violation (inl (inl h)) = inl (inl (have_same values first violation h))
    has_same (Call function values trailing) first violation (inl (inr h)) = inl (inr (callee_same (callee globals one function) (first) (expressions_in values) (first + expression_size (Call function values trailing)) violation h))
    has_same (Call function values trailing) first violation (inr h) = inr h
    has_same (Receive channel) first violation (inl h) = inl (has_same channel first violation h)
    has_same (Receive channel) first violation (inr (inl h)) = inr (inl (subst (λ o. ChannelHas o (nodes_of first channel) violation) (worth_same channel) h))
    has_same (Receive channel) first violation (inr (inr h)) = inr (inr (subst (λ o. ReceivedHas o (first + expression_size channel + 1) violation) (worth_same channel) h))
    has_same (Make kind) first violation (inl h) = inl (subst (λ o. TypeHas o first violation) (type_same globals.types kind) h)
    has_same (Make kind) first violation (inr h) = inr (subst (λ o. MadeHas o (first + expression_size (Make kind)) violation) (type_same globals.types kind) h)
    has_same (MakeSized kind size) first violation (inl h) = inl (subst (λ o. TypeHas o first violation) (type_same globals.types kind) h)
    has_same (MakeSized kind size) first violation (inr (inl h)) = inr (inl (has_same size (first + type_size kind) violation h))
    has_same (MakeSized kind size) first violation (inr (inr (inl h))) = inr (inr (inl (subst (λ o. SizeHas o (nodes_of (first + type_size kind) size) violation) (worth_same size) h)))
    has_same (MakeSized kind size) first violation (inr (inr (inr h))) = inr (inr (inr (subst (λ o. MadeHas o (first + expression_size (MakeSized kind size)) violation) (type_same globals.types kind) h)))
    has_same (Length channel) first violation (inl h) = inl (has_same channel first violation h)
    has_same (Length channel) first violation (inr h) = inr (subst (λ o. ChannelHas o (nodes_of first channel) violation) (worth_same channel) h)
    has_same (Capacity channel) first violation (inl h) = inl (has_same channel first violation h)
    has_same (Capacity channel) first violation (inr h) = inr (subst (λ o. ChannelHas o (nodes_of first channel) violation) (worth_same channel) h)

    pub have_same : (es : Expressions) (first : ℕ) (violation : Violation) → ExpressionsHave globals one first es violation → ExpressionsHave globals other first es violation
    have_same NoMore first violation h = h
    have_same (Following e es) first violation (inl h) = inl (has_same e first violation h)
    have_same (Following e es) first violation (inr h) = inr (have_same es (first + expression_size e) violation h)

  pub test_same : (e : Expression) (first : ℕ) (violation : Violation) → TestHas globals one first e violation → TestHas globals other first e violation
  test_same e first violation (inl h) = inl (has_same e first violation h)
  test_same e first violation (inr h) = inr (subst (λ o. ConditionHas o (nodes_of first e) violation) (worth_same e) h)
