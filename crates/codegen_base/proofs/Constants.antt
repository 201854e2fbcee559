-- Which expressions are constants, or `nil`, and the values of these.
use Rattle.std.specs.Int.{w64, int_wrap}
use Rattle.std.proofs.Common.{◌≡◌, ℕ, ℤ, Bool, true, false, ◌||◌, ◌&&◌, not, List, [], ◌∷◌, Option, Some, None, option_map, Result, Ok, Err, refl, ap, ◌∙◌, bytes_eq}
use Rattle.std.specs.Prelude.{option_and_then, if◌then◌else◌, codes}
use Rattle.std.specs.Result.{result_ok}
use Rattle.syntax.specs.declared.node.UnaryOperator.{UnaryOperator}
use Rattle.syntax.specs.declared.node.BinaryOperator.{BinaryOperator}
use Rattle.syntax.specs.Tree.{Expression, Integer, Named, Parenthesized, Selection, Composite, Unary, Binary, Call, Receive, Make, MakeSized, Length, Capacity}
use Rattle.type_table.specs.Types.{ValueType, IntType, BoolType, StructType, is_int_type, is_bool_type, is_channel_type}
use Rattle.type_table.specs.Scopes.{Globals, Scope, is_truth, is_nil, variable_named, type_in}
use Rattle.typing_rules.specs.Calls.{callee, result_type, made_of}
use Rattle.typing_rules.specs.declared.violation.Misuse.{Misuse}
use Rattle.typing_rules.specs.declared.violation.Misuse.TheVariants as misuses
use Rattle.typing_rules.specs.Worths.{Worth, Typed, Constant, Nil, bounded, literal, is_int, is_equality, is_order, is_logical, is_not, is_far, is_wrong_right, made_type, element_of, exact_unary, exact_binary, sized, if_good, fit_operator, unary_worth, binary_worth, kind_of, named_worth, selected_worth, literal_struct, worth}
use Rattle.word.specs.declared.value.Word.TheVariants.{Int, Bool as Truth, Chan}
use Rattle.meaning.specs.Variables.{Blocks, scope_in, lookup, value_of}
use Rattle.meaning.specs.Expressions.{word_in, before, binary, compared, exactly, named, value}
use Rattle.meaning.specs.Values.{Value}
use Rattle.meaning.specs.Worked.{ready, and_then}

-- ---- no operator makes `nil`

abbrev NoNil : Result Worth Misuse → Type 0
NoNil (Ok (Typed kind)) = Unit {0}
NoNil (Ok (Constant z)) = Unit {0}
NoNil (Ok Nil) = ⊥
NoNil (Err misuse) = Unit {0}

unless : (t : Bool) (a b : Result Worth Misuse) → NoNil a → NoNil b → NoNil (if t then a else b)
unless true a b x y = x
unless false a b x y = y

sized_no : (o : Option ℤ) → NoNil (sized o)
sized_no None = tt
sized_no (Some z) = tt

good_no : (good : Bool) (kind : ValueType) → NoNil (if_good good kind)
good_no true kind = tt
good_no false kind = tt

unary_no : (operator : UnaryOperator) (a : Worth) → NoNil (unary_worth operator a)
unary_no operator (Constant z) = unless (is_not operator) (Err misuses.Operands) (sized (bounded (exact_unary operator z))) tt (sized_no (bounded (exact_unary operator z)))
unary_no operator (Typed kind) = unless (is_not operator) (if_good (is_bool_type kind) BoolType) (if_good (is_int_type kind) IntType) (good_no (is_bool_type kind) BoolType) (good_no (is_int_type kind) IntType)
unary_no operator Nil = tt

binary_no : (operator : BinaryOperator) (a b : Worth) → NoNil (binary_worth operator a b)
binary_no operator (Constant a) (Constant b) =
    unless (is_equality operator || is_order operator) (Ok (Typed BoolType)) _ tt
    (unless (is_logical operator) (Err misuses.Operands) _ tt
    (unless (is_wrong_right operator b) (Err misuses.Right) _ tt
    (unless (is_far operator b) (Err misuses.Size) _ tt (sized_no (bounded (exact_binary operator a b))))))
binary_no operator (Constant a) (Typed t) = unless (is_logical operator || not (is_int_type t)) (Err misuses.Operands) _ tt (unless (is_int a) (Ok (Typed (made_type operator))) (Err misuses.LeftConstant) tt tt)
binary_no operator (Constant a) Nil = tt
binary_no operator (Typed s) (Constant b) =
    unless (is_logical operator || not (is_int_type s)) (Err misuses.Operands) _ tt
    (unless (not (is_int b)) (Err misuses.RightConstant) _ tt (unless (is_wrong_right operator b) (Err misuses.Right) (Ok (Typed (made_type operator))) tt tt))
binary_no operator (Typed s) (Typed t) = good_no (fit_operator operator s t) (made_type operator)
binary_no operator (Typed s) Nil = unless (is_equality operator && is_channel_type s) (Ok (Typed BoolType)) (Err misuses.RightNil) tt tt
binary_no operator Nil (Constant b) = tt
binary_no operator Nil (Typed t) = unless (is_equality operator && is_channel_type t) (Ok (Typed BoolType)) (Err misuses.LeftNil) tt tt
binary_no operator Nil Nil = tt

made_no : (o : Result Worth Misuse) → NoNil o → result_ok o ≡ Some Nil → ⊥
made_no (Ok (Typed kind)) n e = absurd cc
made_no (Ok (Constant z)) n e = absurd cc
made_no (Ok Nil) n e = n
made_no (Err misuse) n e = absurd cc

-- ---- names, fields and literals are values of types, or `nil`

typed_constant : (o : Option ValueType) (z : ℤ) → option_map Typed o ≡ Some (Constant z) → ⊥
typed_constant None z e = absurd cc
typed_constant (Some k) z e = absurd cc

typed_nil : (o : Option ValueType) → option_map Typed o ≡ Some Nil → ⊥
typed_nil None e = absurd cc
typed_nil (Some k) e = absurd cc

module _ (globals : Globals) (s : Scope) where
  named_constant : (name : List ℕ) (z : ℤ) → named_worth s name ≡ Some (Constant z) → ⊥
  named_constant name z e = go (is_truth name) (is_nil name) e where
    go : (t n : Bool) → (if t then Some (Typed BoolType) else (if n then Some Nil else option_map Typed (kind_of (variable_named s name)))) ≡ Some (Constant z) → ⊥
    go true n e = absurd cc
    go false true e = absurd cc
    go false false e = typed_constant (kind_of (variable_named s name)) z e

  field_constant : (field : List ℕ) (o : Option Worth) (z : ℤ) → option_and_then (selected_worth globals field) o ≡ Some (Constant z) → ⊥
  field_constant field None z e = absurd cc
  field_constant field (Some (Typed kind)) z e = typed_constant _ z e
  field_constant field (Some (Constant y)) z e = absurd cc
  field_constant field (Some Nil) z e = absurd cc

  field_nil : (field : List ℕ) (o : Option Worth) → option_and_then (selected_worth globals field) o ≡ Some Nil → ⊥
  field_nil field None e = absurd cc
  field_nil field (Some (Typed kind)) e = typed_nil _ e
  field_nil field (Some (Constant y)) e = absurd cc
  field_nil field (Some Nil) e = absurd cc

  struct_constant : (o : Option ℕ) (z : ℤ) → option_map (λ n. Typed (StructType n)) o ≡ Some (Constant z) → ⊥
  struct_constant None z e = absurd cc
  struct_constant (Some n) z e = absurd cc

  struct_nil : (o : Option ℕ) → option_map (λ n. Typed (StructType n)) o ≡ Some Nil → ⊥
  struct_nil None e = absurd cc
  struct_nil (Some n) e = absurd cc

  integer_nil : (o : Option ℤ) → option_map Constant o ≡ Some Nil → ⊥
  integer_nil None e = absurd cc
  integer_nil (Some z) e = absurd cc

  unary_nil : (operator : UnaryOperator) (o : Option Worth) → option_and_then (λ a. result_ok (unary_worth operator a)) o ≡ Some Nil → ⊥
  unary_nil operator None e = absurd cc
  unary_nil operator (Some a) e = made_no (unary_worth operator a) (unary_no operator a) e

  binary_nil : (operator : BinaryOperator) (o p : Option Worth) → option_and_then (λ a. option_and_then (λ b. result_ok (binary_worth operator a b)) p) o ≡ Some Nil → ⊥
  binary_nil operator None p e = absurd cc
  binary_nil operator (Some a) None e = absurd cc
  binary_nil operator (Some a) (Some b) e = made_no (binary_worth operator a b) (binary_no operator a b) e

  -- ---- their values

  module _ (blocks : Blocks) (same : (e : Expression) → worth globals (scope_in blocks) e ≡ worth globals s e) where
    pub constant_value : (e : Expression) (z : ℤ) → worth globals s e ≡ Some (Constant z) → value globals blocks e ≡ ready (Int (int_wrap w64 z) ∷ [])
    constant_value (Integer v) z is = ap (λ o. exactly o (ready [])) (same (Integer v) ∙ is)
    constant_value (Named name) z is = absurd (named_constant name z is)
    constant_value (Parenthesized inner) z is = constant_value inner z is
    constant_value (Selection whole field) z is = absurd (field_constant field (worth globals s whole) z is)
    constant_value (Composite name values trailing) z is = absurd (struct_constant (literal_struct globals s name) z is)
    constant_value (Unary operator e) z is = ap (λ o. exactly o (and_then (value globals blocks e) (λ a. before operator (word_in a)))) (same (Unary operator e) ∙ is)
    constant_value (Binary operator l r) z is =
        ap (λ o. exactly o (compared operator (worth globals (scope_in blocks) l) (worth globals (scope_in blocks) r) (binary operator (value globals blocks l) (value globals blocks r)))) (same (Binary operator l r) ∙ is)
    constant_value (Call function values trailing) z is = absurd (typed_constant (result_type globals (callee globals s function)) z is)
    constant_value (Receive channel) z is = absurd (typed_constant (element_of (worth globals s channel)) z is)
    constant_value (Make kind) z is = absurd (typed_constant (made_of (type_in globals.types s kind)) z is)
    constant_value (MakeSized kind size) z is = absurd (typed_constant (made_of (type_in globals.types s kind)) z is)
    constant_value (Length channel) z is = absurd cc
    constant_value (Capacity channel) z is = absurd cc

    named_nil : (name : List ℕ) → named_worth s name ≡ Some Nil → named globals blocks name ≡ Chan None ∷ []
    named_nil name e = go (is_truth name) (is_nil name) e where
      go : (t n : Bool) → (if t then Some (Typed BoolType) else (if n then Some Nil else option_map Typed (kind_of (variable_named s name)))) ≡ Some Nil
          → (if t then Truth (bytes_eq name (codes "true")) ∷ [] else (if n then Chan None ∷ [] else value_of (lookup blocks name))) ≡ Chan None ∷ []
      go true n e = absurd cc
      go false true e = refl
      go false false e = absurd (typed_nil (kind_of (variable_named s name)) e)

    pub nil_value : (e : Expression) → worth globals s e ≡ Some Nil → value globals blocks e ≡ ready (Chan None ∷ [])
    nil_value (Integer v) is = absurd (integer_nil (literal v) is)
    nil_value (Named name) is = ap (λ (v : Value). ready v) (named_nil name is)
    nil_value (Parenthesized inner) is = nil_value inner is
    nil_value (Selection whole field) is = absurd (field_nil field (worth globals s whole) is)
    nil_value (Composite name values trailing) is = absurd (struct_nil (literal_struct globals s name) is)
    nil_value (Unary operator e) is = absurd (unary_nil operator (worth globals s e) is)
    nil_value (Binary operator l r) is = absurd (binary_nil operator (worth globals s l) (worth globals s r) is)
    nil_value (Call function values trailing) is = absurd (typed_nil (result_type globals (callee globals s function)) is)
    nil_value (Receive channel) is = absurd (typed_nil (element_of (worth globals s channel)) is)
    nil_value (Make kind) is = absurd (typed_nil (made_of (type_in globals.types s kind)) is)
    nil_value (MakeSized kind size) is = absurd (typed_nil (made_of (type_in globals.types s kind)) is)
    nil_value (Length channel) is = absurd cc
    nil_value (Capacity channel) is = absurd cc
