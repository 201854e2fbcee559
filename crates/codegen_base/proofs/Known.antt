-- The elements of every channel type that an expression has are noted.
use Rattle.std.proofs.Common.{◌≡◌, ℕ, ℤ, Bool, true, false, ◌||◌, List, Option, Some, None, option_map, Result, Ok, Err, refl, sym, ap, ◌∙◌, subst, ◌⊎◌, inl, inr}
use Rattle.std.specs.Prelude.{if◌then◌else◌, option_and_then}
use Rattle.std.specs.Result.{result_ok}
use Rattle.std.proofs.lemmas.Option.{same_Some}
use Rattle.syntax.specs.declared.node.UnaryOperator.{UnaryOperator}
use Rattle.syntax.specs.declared.node.BinaryOperator.{BinaryOperator}
use Rattle.syntax.specs.Tree.{Expression, Integer, Named, Parenthesized, Selection, Composite, Unary, Binary, Call, Receive, Make, MakeSized, Length, Capacity, TypeExpression}
use Rattle.type_table.specs.Types.{ValueType, IntType, BoolType, StructType, ChannelType, is_channel_type}
use Rattle.typing_rules.specs.Calls.{Callee, NotDeclared, NoFunction, IsFunction, callee, result_of, yielded, result_type, made_of}
use Rattle.meaning.specs.Values.{known}
use Rattle.codegen_base.proofs.Makes.{ExpressionMakes, type_anywhere}
use Rattle.type_table.specs.Containment.{Selected, field_of}
use Rattle.type_table.specs.Scopes.{Globals, Scope, Variable, Yield, NoResult, Yields, is_truth, is_nil, nothing_declared, variable_named, type_in}
use Rattle.typing_rules.specs.declared.violation.Misuse.{Misuse}
use Rattle.typing_rules.specs.Worths.{Worth, Typed, Constant, Nil, is_equality, is_order, is_logical, is_not, made_type, kind_of, type_of_field, selected_worth, literal, literal_struct, unary_worth, binary_worth, element_of, worth}
use Rattle.codegen_base.specs.declared.element.Element.{Element}
use Rattle.codegen_base.proofs.Noted.{Noted}
use Rattle.codegen_base.proofs.Splits.{Operands, Ints, Bools, Channels, Truths, unary_typed, typed_operands, left_operand, right_operand, nil_right, nil_left, two_constants, constant_untyped}
use Rattle.codegen_base.proofs.Typing.{typed_same, typed_variable}

module _ (elements : List Element) where
  either_noted : (b : Bool) → Noted elements (if b then BoolType else IntType)
  either_noted true = tt
  either_noted false = tt

  made_noted : (operator : BinaryOperator) → Noted elements (made_type operator)
  made_noted operator = either_noted (is_equality operator || is_order operator || is_logical operator)

  operands_noted : (operator : BinaryOperator) (s t k : ValueType) → Operands operator s t k → Noted elements k
  operands_noted operator s t k (Ints calm) = made_noted operator
  operands_noted operator s t k (Bools eq) = made_noted operator
  operands_noted operator s t k (Channels d f x y eq) = made_noted operator
  operands_noted operator s t k (Truths lo) = made_noted operator

  binary_noted : (operator : BinaryOperator) (a b : Worth) (k : ValueType) → binary_worth operator a b ≡ Ok (Typed k) → Noted elements k
  binary_noted operator (Constant a) (Constant b) k made = subst (Noted elements) (sym (two_constants operator a b k made).1) tt
  binary_noted operator (Constant a) (Typed t) k made = subst (Noted elements) (left_operand operator a t k made).gives (made_noted operator)
  binary_noted operator (Constant a) Nil k made = absurd cc
  binary_noted operator (Typed s) (Constant b) k made = subst (Noted elements) (right_operand operator s b k made).gives (made_noted operator)
  binary_noted operator (Typed s) (Typed t) k made = operands_noted operator s t k (typed_operands operator s t k made)
  binary_noted operator (Typed s) Nil k made = subst (Noted elements) (sym (nil_right operator s k made).gives) tt
  binary_noted operator Nil (Constant b) k made = absurd cc
  binary_noted operator Nil (Typed t) k made = subst (Noted elements) (sym (nil_left operator t k made).gives) tt
  binary_noted operator Nil Nil k made = absurd cc

  unary_noted : (operator : UnaryOperator) (a : Worth) (k : ValueType) → unary_worth operator a ≡ Ok (Typed k) → Noted elements k
  unary_noted operator (Constant z) k made = absurd (constant_untyped operator z k made)
  unary_noted operator (Typed t) k made = go (unary_typed operator t k made) where
    go : ((is_not operator ≡ true) × (t ≡ BoolType) × (k ≡ BoolType)) ⊎ ((is_not operator ≡ false) × (t ≡ IntType) × (k ≡ IntType)) → Noted elements k
    go (inl x) = subst (Noted elements) (sym x.2) tt
    go (inr x) = subst (Noted elements) (sym x.2) tt
  unary_noted operator Nil k made = absurd cc

  ok_of : (o : Result Worth Misuse) (k : ValueType) → result_ok o ≡ Some (Typed k) → o ≡ Ok (Typed k)
  ok_of (Ok w) k e = ap Ok (same_Some w (Typed k) e)
  ok_of (Err misuse) k e = absurd cc

  module _ (globals : Globals) where
    -- the types of fields are noted, and those of variables
    abbrev pub FieldsNoted : Type 0
    FieldsNoted = (kind : ValueType) (name : List ℕ) (at : Selected) (t : ValueType) → field_of globals.structs kind name ≡ Some at → at.kind ≡ Some t → Noted elements t

    abbrev pub VariablesNoted : Scope → Type 0
    VariablesNoted s = (name : List ℕ) (v : Variable) (t : ValueType) → variable_named s name ≡ Some v → v.kind ≡ Some t → Noted elements t

    -- and those of results
    abbrev pub ResultsNoted : Type 0
    ResultsNoted = (n : ℕ) (t : ValueType) → result_of globals n ≡ Yields (Some t) → Noted elements t

    module _ (fields : FieldsNoted) (results : ResultsNoted) (s : Scope) (variables : VariablesNoted s) where
      named_noted : (name : List ℕ) (t n : Bool) (k : ValueType) → (if t then Some (Typed BoolType) else (if n then Some Nil else option_map Typed (kind_of (variable_named s name)))) ≡ Some (Typed k) → Noted elements k
      named_noted name true n k e = subst (Noted elements) (typed_same BoolType k e) tt
      named_noted name false true k e = absurd cc
      named_noted name false false k e = let v = typed_variable (variable_named s name) k e in variables name v.0 k v.1 v.2

      field_noted : (field : List ℕ) (o : Option Worth) (k : ValueType) → option_and_then (selected_worth globals field) o ≡ Some (Typed k) → Noted elements k
      field_noted field None k e = absurd cc
      field_noted field (Some (Constant z)) k e = absurd cc
      field_noted field (Some Nil) k e = absurd cc
      field_noted field (Some (Typed kind)) k e = go (field_of globals.structs kind field) refl e where
        kind_go : (at : Selected) (o : Option ValueType) → field_of globals.structs kind field ≡ Some at → at.kind ≡ o → option_map Typed o ≡ Some (Typed k) → Noted elements k
        kind_go at None is has e = absurd cc
        kind_go at (Some t) is has e = fields kind field at k is (has ∙ ap Some (typed_same t k e))

        go : (o : Option Selected) → field_of globals.structs kind field ≡ o → option_map Typed (type_of_field o) ≡ Some (Typed k) → Noted elements k
        go None is e = absurd cc
        go (Some at) is e = kind_go at at.kind is refl e

      call_noted : (c : Callee) (k : ValueType) → option_map Typed (result_type globals c) ≡ Some (Typed k) → Noted elements k
      call_noted NotDeclared k e = absurd cc
      call_noted NoFunction k e = absurd cc
      call_noted (IsFunction n) k e = go (result_of globals n) refl e where
        go : (y : Yield) → result_of globals n ≡ y → option_map Typed (yielded y) ≡ Some (Typed k) → Noted elements k
        go NoResult is e = absurd cc
        go (Yields None) is e = absurd cc
        go (Yields (Some t)) is e = results n k (is ∙ ap (λ j. Yields (Some j)) (typed_same t k e))

      received_noted : (o : Option Worth) (k : ValueType) → option_map Typed (element_of o) ≡ Some (Typed k) → ((t : ValueType) → o ≡ Some (Typed t) → Noted elements t) → Noted elements k
      received_noted None k e noted = absurd cc
      received_noted (Some (Constant z)) k e noted = absurd cc
      received_noted (Some Nil) k e noted = absurd cc
      received_noted (Some (Typed IntType)) k e noted = absurd cc
      received_noted (Some (Typed BoolType)) k e noted = absurd cc
      received_noted (Some (Typed (StructType n))) k e noted = absurd cc
      received_noted (Some (Typed (ChannelType d t))) k e noted = subst (Noted elements) (typed_same t k e) (noted (ChannelType d t) refl).0

      made_is : (o : Option ValueType) (k : ValueType) → option_map Typed (made_of o) ≡ Some (Typed k) → o ≡ Some k
      made_is None k e = absurd cc
      made_is (Some t) k e = go (is_channel_type t) e where
        go : (c : Bool) → option_map Typed (if c then Some t else None) ≡ Some (Typed k) → Some t ≡ Some k
        go true e = ap Some (typed_same t k e)
        go false e = absurd cc

      make_noted : (kind : TypeExpression) (k : ValueType) → Noted elements (known (type_in globals.types nothing_declared kind)) → option_map Typed (made_of (type_in globals.types s kind)) ≡ Some (Typed k) → Noted elements k
      make_noted kind k noted e = subst (Noted elements) (ap known (type_anywhere globals.types s kind k (made_is (type_in globals.types s kind) k e))) noted

      pub worth_noted : (e : Expression) → ExpressionMakes globals.types elements e → (k : ValueType) → worth globals s e ≡ Some (Typed k) → Noted elements k
      worth_noted (Integer v) makes k is = absurd (go (literal v) is) where
        go : (o : Option ℤ) → option_map Constant o ≡ Some (Typed k) → ⊥
        go None e = absurd cc
        go (Some z) e = absurd cc
      worth_noted (Named name) makes k is = named_noted name (is_truth name) (is_nil name) k is
      worth_noted (Parenthesized inner) makes k is = worth_noted inner makes k is
      worth_noted (Selection whole field) makes k is = field_noted field (worth globals s whole) k is
      worth_noted (Composite name values trailing) makes k is = go (literal_struct globals s name) is where
        go : (o : Option ℕ) → option_map (λ n. Typed (StructType n)) o ≡ Some (Typed k) → Noted elements k
        go None e = absurd cc
        go (Some n) e = subst (Noted elements) (typed_same (StructType n) k e) tt
      worth_noted (Unary operator e) makes k is = go (worth globals s e) is where
        go : (o : Option Worth) → option_and_then (λ x. result_ok (unary_worth operator x)) o ≡ Some (Typed k) → Noted elements k
        go None e = absurd cc
        go (Some a) e = unary_noted operator a k (ok_of (unary_worth operator a) k e)
      worth_noted (Binary operator l r) makes k is = go (worth globals s l) (worth globals s r) is where
        go : (o p : Option Worth) → option_and_then (λ x. option_and_then (λ y. result_ok (binary_worth operator x y)) p) o ≡ Some (Typed k) → Noted elements k
        go None p e = absurd cc
        go (Some a) None e = absurd cc
        go (Some a) (Some b) e = binary_noted operator a b k (ok_of (binary_worth operator a b) k e)
      worth_noted (Call function values trailing) makes k is = call_noted (callee globals s function) k is
      worth_noted (Receive channel) makes k is = received_noted (worth globals s channel) k is (λ t e. worth_noted channel makes t e)
      worth_noted (Make kind) makes k is = make_noted kind k makes is
      worth_noted (MakeSized kind size) makes k is = make_noted kind k makes.0 is
      worth_noted (Length channel) makes k is = subst (Noted elements) (typed_same IntType k is) tt
      worth_noted (Capacity channel) makes k is = subst (Noted elements) (typed_same IntType k is) tt
