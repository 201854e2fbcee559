-- What is worked out takes what was given in order, and never more than it needs.
use Rattle.std.specs.Int.{w64, int_wrap}
use Rattle.std.specs.Prelude.{if◌then◌else◌}
use Rattle.std.proofs.Common.{◌≡◌, ℕ, ℤ, pos, Bool, true, false, ◌||◌, List, [], ◌∷◌, ◌++◌, Option, Some, None, Ok, Err, refl, sym, ap, subst}
use Rattle.syntax.specs.declared.node.UnaryOperator.{UnaryOperator}
use Rattle.syntax.specs.declared.node.UnaryOperator.TheVariants as signs
use Rattle.syntax.specs.declared.node.BinaryOperator.{BinaryOperator}
use Rattle.syntax.specs.declared.node.BinaryOperator.TheVariants as symbols
use Rattle.syntax.specs.Tree.{TypeExpression, Expression, Integer, Named, Parenthesized, Selection, Composite, Unary, Binary, Call, Receive, Make, MakeSized, Length, Capacity, Expressions, NoMore, Following}
use Rattle.word.specs.declared.value.Word.{Word}
use Rattle.word.specs.declared.value.Word.TheVariants.{Int, Bool as Truth, Chan}
use Rattle.word.specs.Apply.{Valued, value as applied}
use Rattle.type_table.specs.Types.{ValueType, element_type}
use Rattle.type_table.specs.Zeros.{zero_words}
use Rattle.typing_rules.specs.Calls.{result_of}
use Rattle.word.specs.Values.{Request}
use Rattle.word.specs.Values as requests
use Rattle.type_table.specs.Scopes.{Globals}
use Rattle.typing_rules.specs.Worths.{Worth, Typed, Constant, Nil, is_equality, is_order}
use Rattle.meaning.specs.Values.{Value, known, words_like, parted, first_of}
use Rattle.meaning.specs.Variables.{Blocks}
use Rattle.meaning.specs.Expressions.{one_word, word_in, operator_at, between, beside, binary, before, exactly, compared, told, told_one, named, selected, type_of, item_zeros, channel_in, number_in, zero_result, written_kind, received, called, made, measured, number_of, element_kind, value, fields, values}
use Rattle.word.specs.declared.panic.Panic.{Panic as Cause}
use Rattle.meaning.specs.Worked.{Need, Asking, Calling, Given, given_words, Reached, Came, Fails, Needs, Worked, ready, fails, needs, go_on_from, and_then}

-- what was given for more
abbrev pub After : {A : Type 0} → Reached A → List Given → Reached A → Type 0
After (Came a left) more later = later ≡ Came a (left ++ more)
After (Fails cause) more later = later ≡ Fails cause
After (Needs need) more later = Unit {0}

-- nothing of what was given is left
abbrev pub AllTaken : {A : Type 0} → Reached A → Type 0
AllTaken (Came a left) = left ≡ []
AllTaken (Fails cause) = Unit {0}
AllTaken (Needs need) = Unit {0}

-- one thing more was needed, and was given
abbrev pub IsLast : {A : Type 0} → Reached A → Reached A → Type 0
IsLast (Came a left) later = Unit {0}
IsLast (Fails cause) later = Unit {0}
IsLast (Needs need) later = AllTaken later

pub record IsFair {A : Type 0} (work : Worked A) : Type 0 where
  pub none : AllTaken (work [])
  pub more : (given rest : List Given) → After (work given) rest (work (given ++ rest))
  pub last : (given : List Given) (one : Given) → IsLast (work given) (work (given ++ one ∷ []))

pub ready_fair : {A : Type 0} (a : A) → IsFair (ready a)
ready_fair a = record { none = refl; more = λ given rest. refl; last = λ given one. tt }

pub fails_fair : {A : Type 0} (cause : Cause) → IsFair (fails {A = A} cause)
fails_fair cause = record { none = tt; more = λ given rest. refl; last = λ given one. tt }

pub needs_fair : (need : Need) → IsFair (needs need)
needs_fair need = record { none = tt; more = more'; last = last' } where
  more' : (given rest : List Given) → After (needs need given) rest (needs need (given ++ rest))
  more' [] rest = tt
  more' (first ∷ left) rest = refl

  last' : (given : List Given) (one : Given) → IsLast (needs need given) (needs need (given ++ one ∷ []))
  last' [] one = refl
  last' (first ∷ left) one = tt

module _ {A B : Type 0} (f : A → Worked B) (each : (a : A) → IsFair (f a)) where
  none_from : (r : Reached A) → AllTaken r → AllTaken (go_on_from r f)
  none_from (Came a left) e = subst (λ (l : List Given). AllTaken (f a l)) (sym e) (each a).none
  none_from (Fails cause) e = tt
  none_from (Needs need) e = tt

  more_from : (r later : Reached A) (rest : List Given) → After r rest later → After (go_on_from r f) rest (go_on_from later f)
  more_from (Came a left) later rest e = subst (λ x. After (f a left) rest (go_on_from x f)) (sym e) ((each a).more left rest)
  more_from (Fails cause) later rest e = ap (λ x. go_on_from x f) e
  more_from (Needs need) later rest e = tt

  last_from : (r later : Reached A) (one : Given) → After r (one ∷ []) later → IsLast r later → IsLast (go_on_from r f) (go_on_from later f)
  last_from (Came a left) later one after e = subst (λ x. IsLast (f a left) (go_on_from x f)) (sym after) ((each a).last left one)
  last_from (Fails cause) later one after e = tt
  last_from (Needs need) later one after e = none_from later e

  pub then_fair : (work : Worked A) → IsFair work → IsFair (and_then work f)
  then_fair work fair = record {
    none = none_from (work []) fair.none;
    more = λ given rest. more_from (work given) (work (given ++ rest)) rest (fair.more given rest);
    last = λ given one. last_from (work given) (work (given ++ one ∷ [])) one (fair.more given (one ∷ [])) (fair.last given one);
  }

-- ---- expressions

word_fair : (v : Valued) → IsFair (one_word v)
word_fair (Some (Ok word)) = ready_fair (word ∷ [])
word_fair (Some (Err cause)) = fails_fair cause
word_fair None = ready_fair (Int (pos 0) ∷ [])

pub told_fair : (zeros : List Value) (need : Need) → IsFair (told zeros need)
told_fair zeros need = then_fair (λ given. ready (parted zeros (given_words given))) (λ given. ready_fair (parted zeros (given_words given))) (needs need) (needs_fair need)

told_one_fair : (z : Value) (need : Need) → IsFair (told_one z need)
told_one_fair z need = then_fair (λ given. ready (words_like z (given_words given))) (λ given. ready_fair (words_like z (given_words given))) (needs need) (needs_fair need)

between_fair : (operator : BinaryOperator) (a b : Word) → IsFair (between operator a b)
between_fair symbols.LogicalAnd a b = ready_fair (b ∷ [])
between_fair symbols.LogicalOr a b = ready_fair (b ∷ [])
between_fair symbols.Add a b = word_fair _
between_fair symbols.Subtract a b = word_fair _
between_fair symbols.Multiply a b = word_fair _
between_fair symbols.Divide a b = word_fair _
between_fair symbols.Remainder a b = word_fair _
between_fair symbols.And a b = word_fair _
between_fair symbols.Or a b = word_fair _
between_fair symbols.ExclusiveOr a b = word_fair _
between_fair symbols.AndNot a b = word_fair _
between_fair symbols.ShiftLeft a b = word_fair _
between_fair symbols.ShiftRight a b = word_fair _
between_fair symbols.Equal a b = word_fair _
between_fair symbols.NotEqual a b = word_fair _
between_fair symbols.Less a b = word_fair _
between_fair symbols.LessEqual a b = word_fair _
between_fair symbols.Greater a b = word_fair _
between_fair symbols.GreaterEqual a b = word_fair _

-- the right operand is worked out, or not needed
right_fair : (operator : BinaryOperator) (a : Word) (right : Worked Value) → IsFair right → IsFair (and_then right (λ b. between operator a (word_in b)))
right_fair operator a right fair = then_fair (λ b. between operator a (word_in b)) (λ b. between_fair operator a (word_in b)) right fair

beside_fair : (operator : BinaryOperator) (a : Word) (right : Worked Value) → IsFair right → IsFair (beside operator a right)
beside_fair symbols.LogicalAnd (Truth false) right fair = ready_fair (Truth false ∷ [])
beside_fair symbols.LogicalAnd (Truth true) right fair = right_fair symbols.LogicalAnd (Truth true) right fair
beside_fair symbols.LogicalAnd (Int n) right fair = right_fair symbols.LogicalAnd (Int n) right fair
beside_fair symbols.LogicalAnd (Chan c) right fair = right_fair symbols.LogicalAnd (Chan c) right fair
beside_fair symbols.LogicalOr (Truth true) right fair = ready_fair (Truth true ∷ [])
beside_fair symbols.LogicalOr (Truth false) right fair = right_fair symbols.LogicalOr (Truth false) right fair
beside_fair symbols.LogicalOr (Int n) right fair = right_fair symbols.LogicalOr (Int n) right fair
beside_fair symbols.LogicalOr (Chan c) right fair = right_fair symbols.LogicalOr (Chan c) right fair
beside_fair symbols.Add a right fair = right_fair symbols.Add a right fair
beside_fair symbols.Subtract a right fair = right_fair symbols.Subtract a right fair
beside_fair symbols.Multiply a right fair = right_fair symbols.Multiply a right fair
beside_fair symbols.Divide a right fair = right_fair symbols.Divide a right fair
beside_fair symbols.Remainder a right fair = right_fair symbols.Remainder a right fair
beside_fair symbols.And a right fair = right_fair symbols.And a right fair
beside_fair symbols.Or a right fair = right_fair symbols.Or a right fair
beside_fair symbols.ExclusiveOr a right fair = right_fair symbols.ExclusiveOr a right fair
beside_fair symbols.AndNot a right fair = right_fair symbols.AndNot a right fair
beside_fair symbols.ShiftLeft a right fair = right_fair symbols.ShiftLeft a right fair
beside_fair symbols.ShiftRight a right fair = right_fair symbols.ShiftRight a right fair
beside_fair symbols.Equal a right fair = right_fair symbols.Equal a right fair
beside_fair symbols.NotEqual a right fair = right_fair symbols.NotEqual a right fair
beside_fair symbols.Less a right fair = right_fair symbols.Less a right fair
beside_fair symbols.LessEqual a right fair = right_fair symbols.LessEqual a right fair
beside_fair symbols.Greater a right fair = right_fair symbols.Greater a right fair
beside_fair symbols.GreaterEqual a right fair = right_fair symbols.GreaterEqual a right fair

pub binary_fair : (operator : BinaryOperator) (left right : Worked Value) → IsFair left → IsFair right → IsFair (binary operator left right)
binary_fair operator left right l r = then_fair (λ a. beside operator (word_in a) right) (λ a. beside_fair operator (word_in a) right r) left l

before_fair : (operator : UnaryOperator) (a : Word) → IsFair (before operator a)
before_fair signs.Plus a = ready_fair (a ∷ [])
before_fair signs.Negate a = word_fair _
before_fair signs.Not a = word_fair _
before_fair signs.Complement a = word_fair _

exactly_fair : (o : Option Worth) (work : Worked Value) → IsFair work → IsFair (exactly o work)
exactly_fair None work fair = fair
exactly_fair (Some (Constant z)) work fair = ready_fair (Int (int_wrap w64 z) ∷ [])
exactly_fair (Some (Typed kind)) work fair = fair
exactly_fair (Some Nil) work fair = fair

either_fair : (b : Bool) (x y : Worked Value) → IsFair x → IsFair y → IsFair (if b then x else y)
either_fair true x y f g = f
either_fair false x y f g = g

compared_fair : (operator : BinaryOperator) (o p : Option Worth) (work : Worked Value) → IsFair work → IsFair (compared operator o p work)
compared_fair operator (Some (Constant a)) (Some (Constant b)) work fair =
    either_fair (is_equality operator || is_order operator) (one_word (applied (operator_at operator (Int a)) (Int a) (Int b))) work (word_fair _) fair
compared_fair operator (Some (Constant a)) None work fair = fair
compared_fair operator (Some (Constant a)) (Some (Typed t)) work fair = fair
compared_fair operator (Some (Constant a)) (Some Nil) work fair = fair
compared_fair operator (Some (Typed s)) p work fair = fair
compared_fair operator (Some Nil) p work fair = fair
compared_fair operator None p work fair = fair

module _ (globals : Globals) (blocks : Blocks) where
  pub received_fair : (kind : ValueType) (c : Value) → IsFair (received globals kind c)
  received_fair kind c = told_fair (item_zeros globals kind) (Asking (requests.Receive (channel_in (word_in c))))

  called_fair : (n : ℕ) (vs : List Value) → IsFair (called globals n vs)
  called_fair n vs = told_one_fair (zero_result globals (result_of globals n)) (Calling n vs)

  made_fair : (kind : TypeExpression) (n : ℤ) → IsFair (made globals kind n)
  made_fair kind n = told_one_fair (Chan None ∷ []) (Asking (requests.Make n (zero_words globals.structs (known (element_type (written_kind globals kind))))))

  measured_fair : (q : Request) → IsFair (measured globals q)
  measured_fair q = told_one_fair (Int (pos 0) ∷ []) (Asking q)

  mutual
    pub value_fair : (e : Expression) → IsFair (value globals blocks e)
    value_fair (Integer number) = exactly_fair _ _ (ready_fair [])
    value_fair (Named name) = ready_fair (named globals blocks name)
    value_fair (Parenthesized inner) = value_fair inner
    value_fair (Selection of field) = then_fair _ (λ words. ready_fair (selected globals blocks (type_of globals blocks of) field words)) (value globals blocks of) (value_fair of)
    value_fair (Composite name NoMore trailing) = ready_fair _
    value_fair (Composite name (Following first rest) trailing) = fields_fair (Following first rest)
    value_fair (Unary operator operand) = exactly_fair _ _ (then_fair (λ a. before operator (word_in a)) (λ a. before_fair operator (word_in a)) (value globals blocks operand) (value_fair operand))
    value_fair (Binary operator left right) = exactly_fair _ _ (compared_fair operator _ _ _ (binary_fair operator (value globals blocks left) (value globals blocks right) (value_fair left) (value_fair right)))
    value_fair (Call function all trailing) = then_fair (called globals (number_of globals function)) (λ vs. called_fair (number_of globals function) vs) (values globals blocks all) (values_fair all)
    value_fair (Receive channel) = then_fair _ (λ c. then_fair _ (λ got. ready_fair (first_of got)) (received globals (element_kind globals blocks channel) c) (received_fair (element_kind globals blocks channel) c)) (value globals blocks channel) (value_fair channel)
    value_fair (Make kind) = made_fair kind (pos 0)
    value_fair (MakeSized kind size) = then_fair _ (λ n. made_fair kind (number_in (word_in n))) (value globals blocks size) (value_fair size)
    value_fair (Length channel) = then_fair _ (λ c. measured_fair (requests.Len (channel_in (word_in c)))) (value globals blocks channel) (value_fair channel)
    value_fair (Capacity channel) = then_fair _ (λ c. measured_fair (requests.Cap (channel_in (word_in c)))) (value globals blocks channel) (value_fair channel)

    fields_fair : (es : Expressions) → IsFair (fields globals blocks es)
    fields_fair NoMore = ready_fair []
    fields_fair (Following first rest) = then_fair _ (λ a. then_fair _ (λ b. ready_fair (a ++ b)) (fields globals blocks rest) (fields_fair rest)) (value globals blocks first) (value_fair first)

    pub values_fair : (es : Expressions) → IsFair (values globals blocks es)
    values_fair NoMore = ready_fair []
    values_fair (Following first rest) = then_fair _ (λ a. then_fair _ (λ more. ready_fair (a ∷ more)) (values globals blocks rest) (values_fair rest)) (value globals blocks first) (value_fair first)
