-- What is spelt as an expression is read.
use Rattle.std.proofs.Common.{◌≡◌, ℕ, zero, suc, ◌+◌, ◌-◌, ◌<◌, ◌≤◌, List, [], ◌∷◌, ◌++◌, length, Option, Some, None, Ok, Err, Bool, true, false, ◌&&◌, leb, max, inl, inr, refl, ap, ◌∙◌, subst, arith, append_assoc}
use Rattle.std.proofs.lemmas.Bool.{le-leb, lt-leb, cases_lt}
use Rattle.scanner.specs.declared.kind.TokenKind.{TokenKind}
use Rattle.scanner.specs.declared.kind.TokenKind.TheVariants as kinds
use Rattle.syntax.specs.declared.node.BinaryOperator.{BinaryOperator}
use Rattle.syntax.specs.declared.node.BinaryOperator.TheVariants as binaries
use Rattle.syntax.specs.declared.node.UnaryOperator.{UnaryOperator}
use Rattle.syntax.specs.declared.node.UnaryOperator.TheVariants as unaries
use Rattle.syntax.specs.Tree.{Expression, Integer, Named, Parenthesized, Selection, Composite, Unary, Binary, Call, Receive, Make, MakeSized, Length, Capacity, TypeExpression, Expressions, NoMore, Following, expressions, expressions_in}
use Rattle.syntax.specs.Measures.{Listing, Entries, entries, highest, type_height, expression_height, expressions_height, expression_longest, expressions_longest, expressions_count}
use Rattle.syntax.proofs.Lists.{expressions-expressions_in}
use Rattle.parser_base.specs.declared.operator.Infix.{Infix}
use Rattle.parser_base.specs.declared.operator.Infix.TheVariants.{Operator, Period}
use Rattle.parser_base.specs.declared.list.Next.TheVariants.{More, End}
use Rattle.parser_base.specs.Lexemes.{Lexeme, Literal, Name, Text, Mark}
use Rattle.parser_base.specs.Spelling.{is_builtin, following, joined, separated, closing, before, AreAll, IsTrailing, HasLast, type_words, IsType, expression_words, expressions_words, more_words, outer_precedence, precedence, IsGrouped, AreGrouped, unary_kind, binary_kind}
use Rattle.parser_base.specs.Reading.{Reading, TooDeep, TooMany, ◌>>=◌, as_one, needing, is_kind, expect, begins, entry_next, value_next, values, composite, called, named, to_parenthesis, argument, sized, made, builtin, infix_of, strength, binding, step_at, negated, operand, applied, operation, operations, expression, type_at}
use Rattle.parser_base.proofs.Marks.{is_kind_same, expect_again, plain_name_again}
use Rattle.parser_base.proofs.ListLaws.{AreFew, ReadBack, Found, High, Many, Found as AllFound, High as AllHigh, Many as AllMany, Full, entries-le, Entries as Listed, IsReadAgain, Separates, listed_again, all_again}
use Rattle.parser_base.proofs.Steps.{then_again, made_again, read_as, needing_again}
use Rattle.parser_base.proofs.TypeLaws.{type_again, type_height_positive, Found as TypeFound, High as TypeHigh}

-- ---- operators

-- the mark of a step
abbrev pub step_kind : Infix → TokenKind
step_kind (Operator o) = binary_kind o
step_kind Period = kinds.Period

operator_again : (o : BinaryOperator) → infix_of (binary_kind o) ≡ Some (Operator o)
operator_again binaries.Add = refl
operator_again binaries.Subtract = refl
operator_again binaries.Multiply = refl
operator_again binaries.Divide = refl
operator_again binaries.Remainder = refl
operator_again binaries.And = refl
operator_again binaries.Or = refl
operator_again binaries.ExclusiveOr = refl
operator_again binaries.AndNot = refl
operator_again binaries.ShiftLeft = refl
operator_again binaries.ShiftRight = refl
operator_again binaries.Equal = refl
operator_again binaries.NotEqual = refl
operator_again binaries.Less = refl
operator_again binaries.LessEqual = refl
operator_again binaries.Greater = refl
operator_again binaries.GreaterEqual = refl
operator_again binaries.LogicalAnd = refl
operator_again binaries.LogicalOr = refl

step_again : (s : Infix) → infix_of (step_kind s) ≡ Some s
step_again (Operator o) = operator_again o
step_again Period = refl

pub no_brace : (o : BinaryOperator) → is_kind (binary_kind o) kinds.LeftBrace ≡ false
no_brace binaries.Add = refl
no_brace binaries.Subtract = refl
no_brace binaries.Multiply = refl
no_brace binaries.Divide = refl
no_brace binaries.Remainder = refl
no_brace binaries.And = refl
no_brace binaries.Or = refl
no_brace binaries.ExclusiveOr = refl
no_brace binaries.AndNot = refl
no_brace binaries.ShiftLeft = refl
no_brace binaries.ShiftRight = refl
no_brace binaries.Equal = refl
no_brace binaries.NotEqual = refl
no_brace binaries.Less = refl
no_brace binaries.LessEqual = refl
no_brace binaries.Greater = refl
no_brace binaries.GreaterEqual = refl
no_brace binaries.LogicalAnd = refl
no_brace binaries.LogicalOr = refl

-- no operator is a parenthesis
pub operator_shut : (o : BinaryOperator) → is_kind (binary_kind o) kinds.LeftParenthesis ≡ false
operator_shut binaries.Add = refl
operator_shut binaries.Subtract = refl
operator_shut binaries.Multiply = refl
operator_shut binaries.Divide = refl
operator_shut binaries.Remainder = refl
operator_shut binaries.And = refl
operator_shut binaries.Or = refl
operator_shut binaries.ExclusiveOr = refl
operator_shut binaries.AndNot = refl
operator_shut binaries.ShiftLeft = refl
operator_shut binaries.ShiftRight = refl
operator_shut binaries.Equal = refl
operator_shut binaries.NotEqual = refl
operator_shut binaries.Less = refl
operator_shut binaries.LessEqual = refl
operator_shut binaries.Greater = refl
operator_shut binaries.GreaterEqual = refl
operator_shut binaries.LogicalAnd = refl
operator_shut binaries.LogicalOr = refl

unary_again : (literals : Bool) (deeper : ℕ → List Lexeme → Reading Expression) (depth_left most : ℕ) (o : UnaryOperator) (ws : List Lexeme) → operand literals deeper depth_left most (Mark (unary_kind o) ∷ ws) ≡ negated deeper ws (Some o)
unfolding operand
unary_again literals deeper depth_left most unaries.Plus ws = refl
unary_again literals deeper depth_left most unaries.Negate ws = refl
unary_again literals deeper depth_left most unaries.Not ws = refl
unary_again literals deeper depth_left most unaries.Complement ws = refl

pub precedence-lt : (o : BinaryOperator) → precedence o < 6
precedence-lt binaries.Add = omega arith
precedence-lt binaries.Subtract = omega arith
precedence-lt binaries.Multiply = omega arith
precedence-lt binaries.Divide = omega arith
precedence-lt binaries.Remainder = omega arith
precedence-lt binaries.And = omega arith
precedence-lt binaries.Or = omega arith
precedence-lt binaries.ExclusiveOr = omega arith
precedence-lt binaries.AndNot = omega arith
precedence-lt binaries.ShiftLeft = omega arith
precedence-lt binaries.ShiftRight = omega arith
precedence-lt binaries.Equal = omega arith
precedence-lt binaries.NotEqual = omega arith
precedence-lt binaries.Less = omega arith
precedence-lt binaries.LessEqual = omega arith
precedence-lt binaries.Greater = omega arith
precedence-lt binaries.GreaterEqual = omega arith
precedence-lt binaries.LogicalAnd = omega arith
precedence-lt binaries.LogicalOr = omega arith

pub strength-lt : (s : Infix) → strength s < 8
strength-lt (Operator o) = omega (arith, precedence-lt o)
strength-lt Period = omega arith

pub outer_precedence-le : (t : Expression) → outer_precedence t ≤ 7
outer_precedence-le (Integer value) = omega arith
outer_precedence-le (Named name) = omega arith
outer_precedence-le (Parenthesized inner) = omega arith
outer_precedence-le (Selection whole field) = omega arith
outer_precedence-le (Composite name vs trailing) = omega arith
outer_precedence-le (Unary o inner) = omega arith
outer_precedence-le (Binary o l r) = omega (arith, precedence-lt o)
outer_precedence-le (Call function vs trailing) = omega arith
outer_precedence-le (Receive channel) = omega arith
outer_precedence-le (Make channel) = omega arith
outer_precedence-le (MakeSized channel size) = omega arith
outer_precedence-le (Length channel) = omega arith
outer_precedence-le (Capacity channel) = omega arith

binding_up : (a b : ℕ) (ws : List Lexeme) (s : Option Infix) → a ≤ b → binding a ws s ≡ None → binding b ws s ≡ None
binding_up a b ws None le e = refl
binding_up a b ws (Some s) le e =
    elim (cases_lt (strength s) b) [
      | inl lt ↦ rw (lt-leb b (strength s) lt) refl
      | inr ge ↦ let t : leb a (strength s) ≡ true = le-leb a (strength s) (omega arith) in let bad = rw t at e in absurd cc
    ]

-- if nothing binds so strongly, nothing binds more strongly
pub none_above : (a b : ℕ) (ws : List Lexeme) → a ≤ b → step_at a ws ≡ None → step_at b ws ≡ None
unfolding step_at
none_above a b [] le e = refl
none_above a b (Literal value ∷ ws) le e = refl
none_above a b (Name bytes ∷ ws) le e = refl
none_above a b (Text bytes ∷ ws) le e = refl
none_above a b (Mark kind ∷ ws) le e = binding_up a b ws (infix_of kind) le e

binding_strong : (ws : List Lexeme) (s : Option Infix) → binding 8 ws s ≡ None
binding_strong ws None = refl
binding_strong ws (Some s) = rw (lt-leb 8 (strength s) (strength-lt s)) refl

-- nothing binds more strongly than a selection
pub none_strong : (ws : List Lexeme) → step_at 8 ws ≡ None
unfolding step_at
none_strong [] = refl
none_strong (Literal value ∷ ws) = refl
none_strong (Name bytes ∷ ws) = refl
none_strong (Text bytes ∷ ws) = refl
none_strong (Mark kind ∷ ws) = binding_strong ws (infix_of kind)

binding_unary : (ws : List Lexeme) (s : Option Infix) → binding 7 ws s ≡ None → binding 6 ws s ≡ None
binding_unary ws None e = refl
binding_unary ws (Some (Operator o)) e = rw (lt-leb 6 (precedence o) (precedence-lt o)) refl
binding_unary ws (Some Period) e = absurd cc

-- no binary operator binds as strongly as a unary one
pub none_unary : (ws : List Lexeme) → step_at 7 ws ≡ None → step_at 6 ws ≡ None
unfolding step_at
none_unary [] e = refl
none_unary (Literal value ∷ ws) e = refl
none_unary (Name bytes ∷ ws) e = refl
none_unary (Text bytes ∷ ws) e = refl
none_unary (Mark kind ∷ ws) e = binding_unary ws (infix_of kind) e

pub at_step : (least : ℕ) (s : Infix) (ws : List Lexeme) → least ≤ strength s → step_at least (Mark (step_kind s) ∷ ws) ≡ Some (s, ws)
unfolding step_at
at_step least s ws le = rw (step_again s, le-leb least (strength s) le) refl

pub past_step : (least : ℕ) (s : Infix) (ws : List Lexeme) → strength s < least → step_at least (Mark (step_kind s) ∷ ws) ≡ None
unfolding step_at
past_step least s ws lt = rw (step_again s, lt-leb least (strength s) lt) refl

-- ---- what follows

-- no parenthesis follows, and no brace if that would begin a composite literal
abbrev pub Shut : (literals : Bool) → List Lexeme → Type 0
Shut literals [] = Unit {0}
Shut literals (Literal value ∷ rest) = Unit {0}
Shut literals (Name name ∷ rest) = Unit {0}
Shut literals (Text bytes ∷ rest) = Unit {0}
Shut literals (Mark kind ∷ rest) = (is_kind kind kinds.LeftParenthesis ≡ false) × ((literals && is_kind kind kinds.LeftBrace) ≡ false)

none_of : (a b : Bool) → b ≡ false → (a && b) ≡ false
none_of true b e = e
none_of false b e = refl

pub shut : (literals : Bool) (kind : TokenKind) (ws : List Lexeme) → is_kind kind kinds.LeftParenthesis ≡ false → is_kind kind kinds.LeftBrace ≡ false → Shut literals (Mark kind ∷ ws)
shut literals kind ws open' brace = (open', none_of literals (is_kind kind kinds.LeftBrace) brace)

named_again : (literals : Bool) (deeper : ℕ → List Lexeme → Reading Expression) (most : ℕ) (name : List ℕ) (rest : List Lexeme) → Shut literals rest → named literals deeper most name rest ≡ Ok (Named name, rest)
unfolding named
named_again literals deeper most name [] is = refl
named_again literals deeper most name (Literal value ∷ rest) is = refl
named_again literals deeper most name (Name bytes ∷ rest) is = refl
named_again literals deeper most name (Text bytes ∷ rest) is = refl
named_again literals deeper most name (Mark kind ∷ rest) is = rw (is.0, is.1) refl

-- nothing follows that would go on with the expression
pub record EndsExpression (literals : Bool) (rest : List Lexeme) : Type 0 where
  pub none : step_at 0 rest ≡ None
  pub shut : Shut literals rest

-- ---- heights and lists

pub height_positive : (t : Expression) → 1 ≤ expression_height t
height_positive (Integer value) = omega arith
height_positive (Named name) = omega arith
height_positive (Parenthesized inner) = omega arith
height_positive (Selection whole field) = omega arith
height_positive (Composite name vs trailing) = omega arith
height_positive (Unary o operand) = omega arith
height_positive (Binary o l r) = omega arith
height_positive (Call function vs trailing) = omega arith
height_positive (Receive channel) = omega arith
height_positive (Make channel) = omega arith
height_positive (MakeSized channel size) = omega arith
height_positive (Length channel) = omega arith
height_positive (Capacity channel) = omega arith

height_in : (vs : Expressions) → highest expression_height (expressions_in vs) ≡ expressions_height vs
height_in NoMore = refl
height_in (Following v vs) = omega (arith, height_in vs)

longest_in : (listing : Listing) (vs : Expressions) → highest (expression_longest listing) (expressions_in vs) ≡ expressions_longest listing vs
longest_in listing NoMore = refl
longest_in listing (Following v vs) = omega (arith, longest_in listing vs)

count_in : (vs : Expressions) → length (expressions_in vs) ≡ expressions_count vs
count_in NoMore = refl
count_in (Following v vs) = omega (arith, count_in vs)

more_words_in : (vs : Expressions) (rest : List Lexeme) → more_words vs ++ rest ≡ separated before (following kinds.Comma) (expressions_in vs) rest
more_words_in NoMore rest = refl
more_words_in (Following v vs) rest =
    ap (λ (ws : List Lexeme). Mark kinds.Comma ∷ ws) (append_assoc (expression_words v) (more_words vs) rest ∙ ap (λ (ws : List Lexeme). expression_words v ++ ws) (more_words_in vs rest))

pub words_in : (vs : Expressions) (rest : List Lexeme) → expressions_words vs ++ rest ≡ joined before (following kinds.Comma) (expressions_in vs) rest
words_in NoMore rest = refl
words_in (Following v vs) rest = append_assoc (expression_words v) (more_words vs) rest ∙ ap (λ (ws : List Lexeme). expression_words v ++ ws) (more_words_in vs rest)

-- what closes a list, before what follows
pub closing_before : (separator close : TokenKind) (trailing : Bool) (rest : List Lexeme) → closing separator close trailing [] ++ rest ≡ closing separator close trailing rest
closing_before separator close true rest = refl
closing_before separator close false rest = refl

pub closed_words : (close : TokenKind) (vs : Expressions) (trailing : Bool) (rest : List Lexeme)
    → (expressions_words vs ++ closing kinds.Comma close trailing []) ++ rest ≡ joined before (following kinds.Comma) (expressions_in vs) (closing kinds.Comma close trailing rest)
closed_words close vs trailing rest =
    append_assoc (expressions_words vs) (closing kinds.Comma close trailing []) rest
    ∙ ap (λ (ws : List Lexeme). expressions_words vs ++ ws) (closing_before kinds.Comma close trailing rest)
    ∙ words_in vs (closing kinds.Comma close trailing rest)

pub grouped_in : (literals : Bool) (vs : Expressions) → AreGrouped literals vs → AreAll (IsGrouped literals) (expressions_in vs)
grouped_in literals NoMore all = tt
grouped_in literals (Following v vs) all = (all.0, grouped_in literals vs all.1)

pub last_in : (vs : Expressions) (trailing : Bool) → HasLast vs trailing → IsTrailing (expressions_in vs) trailing
last_in NoMore trailing last = last
last_in (Following v vs) trailing last = tt

-- ---- trees

-- how a tree is read if nothing goes on after it
abbrev pub IsRead : (literals : Bool) (most : ℕ) → Expression → Type 0
IsRead literals most t = (depth_left least : ℕ) (rest : List Lexeme) → least ≤ outer_precedence t → step_at least rest ≡ None → Shut literals rest
    → ReadBack (expression literals most depth_left least (expression_words t ++ rest)) t rest (expression_height t) depth_left (λ listing. expression_longest listing t) most

-- A tree's words are read as the tree, and reading goes on after it; or it is too high, or has too long a list.
data Reads (literals : Bool) (most depth_left least : ℕ) (t : Expression) (rest : List Lexeme) : Type 0 where
  Goes : (turns : ℕ) → suc (suc depth_left) ≤ turns + expression_height t → expression_height t ≤ suc depth_left → AreFew (λ listing. expression_longest listing t) most
      → expression literals most (suc depth_left) least (expression_words t ++ rest) ≡ operations (expression literals most depth_left) (suc depth_left) least turns t rest → Reads literals most depth_left least t rest
  TooHigh : suc depth_left < expression_height t → expression literals most (suc depth_left) least (expression_words t ++ rest) ≡ Err TooDeep → Reads literals most depth_left least t rest
  TooLong : (listing : Listing) → most < expression_longest listing t → expression literals most (suc depth_left) least (expression_words t ++ rest) ≡ Err (TooMany listing) → Reads literals most depth_left least t rest

abbrev GoesOn : (literals : Bool) (most : ℕ) → Expression → Type 0
GoesOn literals most t = (depth_left least : ℕ) (rest : List Lexeme) → least ≤ outer_precedence t → step_at (suc (outer_precedence t)) rest ≡ None → Shut literals rest → Reads literals most depth_left least t rest

pub stops : (deeper : ℕ → List Lexeme → Reading Expression) (depth_left least turns : ℕ) (left : Expression) (ws : List Lexeme) → 1 ≤ turns → step_at least ws ≡ None → operations deeper depth_left least turns left ws ≡ Ok (left, ws)
unfolding operations operation
stops deeper depth_left least zero left ws h e = absurd (omega arith)
stops deeper depth_left least (suc turns) left ws h e = rw e refl

is_read : (literals : Bool) (most : ℕ) (t : Expression) → GoesOn literals most t → IsRead literals most t
unfolding expression
is_read literals most t goes zero least rest le none is_shut = High (height_positive t) refl
is_read literals most t goes (suc depth_left) least rest le none is_shut =
    elim (goes depth_left least rest le (none_above least (suc (outer_precedence t)) rest (omega arith) none) is_shut) [
      | Goes turns enough low few e ↦ Found low few (e ∙ stops (expression literals most depth_left) (suc depth_left) least turns t rest (omega (arith, enough)) none)
      | TooHigh high e ↦ High high e
      | TooLong listing many e ↦ Many listing many e
    ]

one_step : (deeper : ℕ → List Lexeme → Reading Expression) (depth_left least turns : ℕ) (left : Expression) (s : Infix) (ws : List Lexeme) → least ≤ strength s → expression_height left < depth_left
    → operations deeper depth_left least (suc turns) left (Mark (step_kind s) ∷ ws) ≡ (applied deeper left (s, ws) >>= λ more. operations deeper depth_left least turns more.0 more.1)
unfolding operations operation
one_step deeper depth_left least turns left s ws le low = rw (at_step least s ws le, lt-leb depth_left (expression_height left) low) refl

pub no_depth_left : (deeper : ℕ → List Lexeme → Reading Expression) (depth_left least turns : ℕ) (left : Expression) (s : Infix) (ws : List Lexeme) → least ≤ strength s → depth_left ≤ expression_height left
    → operations deeper depth_left least turns left (Mark (step_kind s) ∷ ws) ≡ Err TooDeep
unfolding operations operation
no_depth_left deeper depth_left least zero left s ws le high = refl
no_depth_left deeper depth_left least (suc turns) left s ws le high = rw (at_step least s ws le, le-leb depth_left (expression_height left) high) refl

-- like `one_step`, after an expression that is read
step_read : (literals : Bool) (most depth_left least turns : ℕ) (left : Expression) (s : Infix) (ws : List Lexeme) (read : Reading Expression) → 1 ≤ turns → least ≤ strength s → expression_height left < suc depth_left
    → read ≡ operations (expression literals most depth_left) (suc depth_left) least turns left (Mark (step_kind s) ∷ ws)
    → read ≡ (applied (expression literals most depth_left) left (s, ws) >>= λ more. operations (expression literals most depth_left) (suc depth_left) least (turns - 1) more.0 more.1)
step_read literals most depth_left least turns left s ws read some le low e =
    let more : turns ≡ suc (turns - 1) = omega (arith, some) in
    e ∙ ap (λ (n : ℕ). operations (expression literals most depth_left) (suc depth_left) least n left (Mark (step_kind s) ∷ ws)) more ∙ one_step (expression literals most depth_left) (suc depth_left) least (turns - 1) left s ws le low

binary_goes : (literals : Bool) (most depth_left least turns : ℕ) (o : BinaryOperator) (l r : Expression) (rest : List Lexeme) → IsRead literals most r → precedence o < outer_precedence r → least ≤ precedence o → step_at (suc (precedence o)) rest ≡ None → Shut literals rest
    → suc (suc depth_left) ≤ turns + expression_height l → expression_height l ≤ suc depth_left → AreFew (λ listing. expression_longest listing l) most
    → expression literals most (suc depth_left) least (expression_words (Binary o l r) ++ rest) ≡ operations (expression literals most depth_left) (suc depth_left) least turns l (Mark (binary_kind o) ∷ (expression_words r ++ rest))
    → Reads literals most depth_left least (Binary o l r) rest
binary_goes literals most depth_left least turns o l r rest right lt le none is_shut enough low few e =
    let same : suc (precedence o) ≡ precedence o + 1 = omega arith in
    elim (cases_lt (expression_height l) (suc depth_left)) [
      | inr high ↦ TooHigh (omega arith) (e ∙ no_depth_left (expression literals most depth_left) (suc depth_left) least turns l (Operator o) (expression_words r ++ rest) le high)
      | inl lower ↦
          let step = step_read literals most depth_left least turns l (Operator o) (expression_words r ++ rest) _ (omega (arith, enough)) le lower e in
          elim (right depth_left (precedence o + 1) rest (omega arith) (subst (λ (n : ℕ). step_at n rest ≡ None) same none) is_shut) [
            | Found low' few' e' ↦ Goes (turns - 1) (omega (arith, enough)) (omega arith) (λ listing. omega (arith, few listing, few' listing)) (step ∙ rw e' refl)
            | High high e' ↦ TooHigh (omega arith) (step ∙ rw e' refl)
            | Many listing many e' ↦ TooLong listing (omega arith) (step ∙ rw e' refl)
          ]
    ]

reads_binary : (literals : Bool) (most : ℕ) (o : BinaryOperator) (l r : Expression) → GoesOn literals most l → IsRead literals most r → precedence o ≤ outer_precedence l → precedence o < outer_precedence r → GoesOn literals most (Binary o l r)
reads_binary literals most o l r left right le lt depth_left least rest least-le none is_shut =
    let tail = Mark (binary_kind o) ∷ (expression_words r ++ rest) in
    let regroup : expression_words (Binary o l r) ++ rest ≡ expression_words l ++ tail = append_assoc (expression_words l) (Mark (binary_kind o) ∷ expression_words r) rest in
    let begin = ap (expression literals most (suc depth_left) least) regroup in
    elim (left depth_left least tail (omega arith) (past_step (suc (outer_precedence l)) (Operator o) (expression_words r ++ rest) (omega arith)) (shut literals (binary_kind o) (expression_words r ++ rest) (operator_shut o) (no_brace o))) [
      | Goes turns enough low few e ↦ binary_goes literals most depth_left least turns o l r rest right lt least-le none is_shut enough low few (begin ∙ e)
      | TooHigh high e ↦ TooHigh (omega arith) (begin ∙ e)
      | TooLong listing many e ↦ TooLong listing (omega arith) (begin ∙ e)
    ]

selection_goes : (literals : Bool) (most depth_left least turns : ℕ) (whole : Expression) (field : List ℕ) (rest : List Lexeme) → is_builtin field ≡ false → least ≤ 7
    → suc (suc depth_left) ≤ turns + expression_height whole → expression_height whole ≤ suc depth_left → AreFew (λ listing. expression_longest listing whole) most
    → expression literals most (suc depth_left) least (expression_words (Selection whole field) ++ rest) ≡ operations (expression literals most depth_left) (suc depth_left) least turns whole (Mark kinds.Period ∷ Name field ∷ rest)
    → Reads literals most depth_left least (Selection whole field) rest
selection_goes literals most depth_left least turns whole field rest plain le enough low few e =
    elim (cases_lt (expression_height whole) (suc depth_left)) [
      | inr high ↦ TooHigh (omega arith) (e ∙ no_depth_left (expression literals most depth_left) (suc depth_left) least turns whole Period (Name field ∷ rest) le high)
      | inl lower ↦
          let step = step_read literals most depth_left least turns whole Period (Name field ∷ rest) _ (omega (arith, enough)) le lower e in
          Goes (turns - 1) (omega (arith, enough)) (omega arith) few (step ∙ rw (plain_name_again field rest plain) refl)
    ]

reads_selection : (literals : Bool) (most : ℕ) (whole : Expression) (field : List ℕ) → GoesOn literals most whole → outer_precedence whole ≡ 7 → is_builtin field ≡ false → GoesOn literals most (Selection whole field)
reads_selection literals most whole field goes strong plain depth_left least rest le none is_shut =
    let tail = Mark kinds.Period ∷ Name field ∷ rest in
    let regroup : expression_words (Selection whole field) ++ rest ≡ expression_words whole ++ tail = append_assoc (expression_words whole) (Mark kinds.Period ∷ Name field ∷ []) rest in
    let begin = ap (expression literals most (suc depth_left) least) regroup in
    elim (goes depth_left least tail (omega (arith, strong)) (past_step (suc (outer_precedence whole)) Period (Name field ∷ rest) (omega (arith, strong))) (shut literals kinds.Period (Name field ∷ rest) refl refl)) [
      | Goes turns enough low few e ↦ selection_goes literals most depth_left least turns whole field rest plain le enough low few (begin ∙ e)
      | TooHigh high e ↦ TooHigh (omega arith) (begin ∙ e)
      | TooLong listing many e ↦ TooLong listing many (begin ∙ e)
    ]

-- how an operand is read that has at most `depth_left` levels below it
abbrev pub IsOperandRead : (literals : Bool) (most : ℕ) → Expression → Type 0
IsOperandRead literals most t = (depth_left : ℕ) (rest : List Lexeme) → step_at (suc (outer_precedence t)) rest ≡ None → Shut literals rest
    → ReadBack (operand literals (expression literals most depth_left) depth_left most (expression_words t ++ rest)) t rest (expression_height t) (suc depth_left) (λ listing. expression_longest listing t) most

-- an expression as it is read after its first operand
pub after_operand : (literals : Bool) (most depth_left least : ℕ) (ws : List Lexeme) (r : Reading Expression) → operand literals (expression literals most depth_left) depth_left most ws ≡ r
    → expression literals most (suc depth_left) least ws ≡ (r >>= λ first. operations (expression literals most depth_left) (suc depth_left) least (suc depth_left) first.0 first.1)
unfolding expression
after_operand literals most depth_left least ws r e = ap (λ (x : Reading Expression). x >>= λ first. operations (expression literals most depth_left) (suc depth_left) least (suc depth_left) first.0 first.1) e

operand_goes : (literals : Bool) (most : ℕ) (t : Expression) → IsOperandRead literals most t → GoesOn literals most t
operand_goes literals most t read depth_left least rest le none is_shut =
    let words = expression_words t ++ rest in
    elim (read depth_left rest none is_shut) [
      | Found low few e ↦ Goes (suc depth_left) (omega (arith, height_positive t)) low few (after_operand literals most depth_left least words (Ok (t, rest)) e)
      | High high e ↦ TooHigh high (after_operand literals most depth_left least words (Err TooDeep) e)
      | Many listing many e ↦ TooLong listing many (after_operand literals most depth_left least words (Err (TooMany listing)) e)
    ]

reads_integer : (literals : Bool) (most : ℕ) (value : Option ℕ) → IsOperandRead literals most (Integer value)
unfolding operand
reads_integer literals most value depth_left rest none is_shut = Found (omega arith) (λ listing. omega arith) refl

reads_named : (literals : Bool) (most : ℕ) (name : List ℕ) → is_builtin name ≡ false → IsOperandRead literals most (Named name)
unfolding operand
reads_named literals most name plain depth_left rest none is_shut =
    Found (omega arith) (λ listing. omega arith) (rw (plain, named_again literals (expression literals most depth_left) most name rest is_shut) refl)

pub parenthesis_ends : (literals : Bool) (rest : List Lexeme) → EndsExpression literals (Mark kinds.RightParenthesis ∷ rest)
unfolding step_at
parenthesis_ends literals rest = record { none = refl; shut = shut literals kinds.RightParenthesis rest refl refl }

to_parenthesis_again : (literals : Bool) (most depth_left : ℕ) (inner : Expression) (rest : List Lexeme) → IsRead literals most inner
    → ReadBack (to_parenthesis (expression literals most depth_left) (expression_words inner ++ (Mark kinds.RightParenthesis ∷ rest))) inner rest (expression_height inner) depth_left (λ listing. expression_longest listing inner) most
unfolding to_parenthesis
to_parenthesis_again literals most depth_left inner rest read =
    let ends = parenthesis_ends literals rest in
    then_again _ (read depth_left 0 (Mark kinds.RightParenthesis ∷ rest) (omega arith) ends.none ends.shut) (λ high. high) (λ listing. omega arith)
    (λ low few. Found low few (rw (expect_again kinds.RightParenthesis rest) refl))

reads_parenthesized : (literals : Bool) (most : ℕ) (inner : Expression) → IsRead literals most inner → IsOperandRead literals most (Parenthesized inner)
unfolding operand
reads_parenthesized literals most inner read depth_left rest none is_shut =
    let regroup = append_assoc (expression_words inner) (Mark kinds.RightParenthesis ∷ []) rest in
    read_as (ap (λ (ws : List Lexeme). as_one Parenthesized (to_parenthesis (expression literals most depth_left) ws)) regroup)
    (made_again Parenthesized (to_parenthesis_again literals most depth_left inner rest read) (λ high. omega arith) (λ low. omega arith) (λ listing. refl))

reads_unary : (literals : Bool) (most : ℕ) (o : UnaryOperator) (inner : Expression) → IsRead literals most inner → 6 ≤ outer_precedence inner → IsOperandRead literals most (Unary o inner)
reads_unary literals most o inner read strong depth_left rest none is_shut =
    read_as (unary_again literals (expression literals most depth_left) depth_left most o (expression_words inner ++ rest))
    (made_again (Unary o) (read depth_left 6 rest strong (none_unary rest none) is_shut) (λ high. omega arith) (λ low. omega arith) (λ listing. refl))

-- ---- receives, and calls of built-in functions

reads_receive : (literals : Bool) (most : ℕ) (channel : Expression) → IsRead literals most channel → 6 ≤ outer_precedence channel → IsOperandRead literals most (Receive channel)
unfolding operand
reads_receive literals most channel read strong depth_left rest none is_shut =
    made_again Receive (read depth_left 6 rest strong (none_unary rest none) is_shut) (λ high. omega arith) (λ low. omega arith) (λ listing. refl)

pub type_outcome : (depth_left most : ℕ) (t : TypeExpression) (rest : List Lexeme) → IsType t → ReadBack (type_at depth_left (type_words t ++ rest)) t rest (type_height t) depth_left (λ listing. 0) most
type_outcome depth_left most t rest is =
    elim (type_again depth_left t rest is) [
      | TypeFound low e ↦ Found low (λ listing. omega arith) e
      | TypeHigh high e ↦ High high e
    ]

-- a type is at least one level high
made_plain_again : (literals : Bool) (most depth_left : ℕ) (t : TypeExpression) (rest : List Lexeme) → IsType t
    → ReadBack (needing 1 depth_left (made (expression literals most depth_left) depth_left (Mark kinds.LeftParenthesis ∷ (type_words t ++ (Mark kinds.RightParenthesis ∷ rest))))) (Make t) rest (suc (type_height t)) (suc depth_left) (λ listing. 0) most
unfolding made sized expect
made_plain_again literals most depth_left t rest is =
    needing_again 1 depth_left (λ none. omega (arith, none, type_height_positive t))
    (then_again _ (type_outcome depth_left most t (Mark kinds.RightParenthesis ∷ rest) is) (λ high. omega arith) (λ listing. omega arith) (λ low few. Found (omega arith) few refl))

made_sized_again : (literals : Bool) (most depth_left : ℕ) (t : TypeExpression) (s : Expression) (rest : List Lexeme) → IsType t → IsRead literals most s
    → ReadBack (needing 1 depth_left (made (expression literals most depth_left) depth_left (Mark kinds.LeftParenthesis ∷ (type_words t ++ (Mark kinds.Comma ∷ (expression_words s ++ (Mark kinds.RightParenthesis ∷ rest))))))) (MakeSized t s) rest
    (suc (max (type_height t) (expression_height s))) (suc depth_left) (λ listing. expression_longest listing s) most
unfolding made sized expect
made_sized_again literals most depth_left t s rest is read =
    needing_again 1 depth_left (λ none. omega (arith, none, type_height_positive t))
    (then_again _ (type_outcome depth_left most t (Mark kinds.Comma ∷ (expression_words s ++ (Mark kinds.RightParenthesis ∷ rest))) is) (λ high. omega arith) (λ listing. omega arith) (λ low few.
    made_again (MakeSized t) (to_parenthesis_again literals most depth_left s rest read) (λ high. omega arith) (λ low'. omega arith) (λ listing. refl)))

reads_make : (literals : Bool) (most : ℕ) (t : TypeExpression) → IsType t → IsOperandRead literals most (Make t)
unfolding operand builtin
reads_make literals most t is depth_left rest none is_shut =
    read_as (ap (λ (ws : List Lexeme). needing 1 depth_left (made (expression literals most depth_left) depth_left (Mark kinds.LeftParenthesis ∷ ws))) (append_assoc (type_words t) (Mark kinds.RightParenthesis ∷ []) rest))
    (made_plain_again literals most depth_left t rest is)

reads_make_sized : (literals : Bool) (most : ℕ) (t : TypeExpression) (s : Expression) → IsType t → IsRead literals most s → IsOperandRead literals most (MakeSized t s)
unfolding operand builtin
reads_make_sized literals most t s is read depth_left rest none is_shut =
    let close = Mark kinds.RightParenthesis ∷ rest in
    let regroup : ((type_words t ++ (Mark kinds.Comma ∷ expression_words s)) ++ (Mark kinds.RightParenthesis ∷ [])) ++ rest ≡ type_words t ++ (Mark kinds.Comma ∷ (expression_words s ++ close)) =
    append_assoc (type_words t ++ (Mark kinds.Comma ∷ expression_words s)) (Mark kinds.RightParenthesis ∷ []) rest ∙ append_assoc (type_words t) (Mark kinds.Comma ∷ expression_words s) close in
    read_as (ap (λ (ws : List Lexeme). needing 1 depth_left (made (expression literals most depth_left) depth_left (Mark kinds.LeftParenthesis ∷ ws))) regroup)
    (made_sized_again literals most depth_left t s rest is read)

pub argument_again : (literals : Bool) (most depth_left : ℕ) (e : Expression) (rest : List Lexeme) → IsRead literals most e
    → ReadBack (argument (expression literals most depth_left) (Mark kinds.LeftParenthesis ∷ (expression_words e ++ (Mark kinds.RightParenthesis ∷ rest)))) e rest (expression_height e) depth_left (λ listing. expression_longest listing e) most
unfolding argument expect
argument_again literals most depth_left e rest read = to_parenthesis_again literals most depth_left e rest read

reads_length : (literals : Bool) (most : ℕ) (channel : Expression) → IsRead literals most channel → IsOperandRead literals most (Length channel)
unfolding operand builtin
reads_length literals most channel read depth_left rest none is_shut =
    read_as (ap (λ (ws : List Lexeme). needing 1 depth_left (as_one Length (argument (expression literals most depth_left) (Mark kinds.LeftParenthesis ∷ ws)))) (append_assoc (expression_words channel) (Mark kinds.RightParenthesis ∷ []) rest))
    (needing_again 1 depth_left (λ none. omega (arith, none, height_positive channel)) (made_again Length (argument_again literals most depth_left channel rest read) (λ high. omega arith) (λ low. omega arith) (λ listing. refl)))

reads_capacity : (literals : Bool) (most : ℕ) (channel : Expression) → IsRead literals most channel → IsOperandRead literals most (Capacity channel)
unfolding operand builtin
reads_capacity literals most channel read depth_left rest none is_shut =
    read_as (ap (λ (ws : List Lexeme). needing 1 depth_left (as_one Capacity (argument (expression literals most depth_left) (Mark kinds.LeftParenthesis ∷ ws)))) (append_assoc (expression_words channel) (Mark kinds.RightParenthesis ∷ []) rest))
    (needing_again 1 depth_left (λ none. omega (arith, none, height_positive channel)) (made_again Capacity (argument_again literals most depth_left channel rest read) (λ high. omega arith) (λ low. omega arith) (λ listing. refl)))

-- ---- lists of values

-- marks that close lists
pub record IsClose (close : TokenKind) : Type 0 where
  pub step : infix_of close ≡ None
  pub brace : is_kind close kinds.LeftBrace ≡ false
  pub open' : is_kind close kinds.LeftParenthesis ≡ false
  pub comma : is_kind close kinds.Comma ≡ false
  pub begin : (rest : List Lexeme) → begins (Mark close ∷ rest) ≡ false

pub brace_closes : IsClose kinds.RightBrace
unfolding begins
brace_closes = record { step = refl; brace = refl; open' = refl; comma = refl; begin = λ rest. refl }

pub parenthesis_closes : IsClose kinds.RightParenthesis
unfolding begins
parenthesis_closes = record { step = refl; brace = refl; open' = refl; comma = refl; begin = λ rest. refl }

abbrev pub listed_values : (literals : Bool) (most depth_left : ℕ) (close : TokenKind) → Listed Expression
listed_values literals most depth_left close = record {
  one = expression literals most depth_left 0;
  next = value_next close;
  each = before;
  separator = following kinds.Comma;
  ending = closing kinds.Comma close;
  height = expression_height;
  longest = expression_longest;
  depth_left = depth_left;
  most = most;
  IsOne = IsGrouped literals;
}

pub begins_again : (literals : Bool) (t : Expression) (rest : List Lexeme) → IsGrouped literals t → begins (expression_words t ++ rest) ≡ true
unfolding begins
begins_again literals (Integer value) rest g = refl
begins_again literals (Named name) rest g = rw g refl
begins_again literals (Parenthesized inner) rest g = refl
begins_again literals (Selection whole field) rest g =
    ap begins (append_assoc (expression_words whole) (Mark kinds.Period ∷ Name field ∷ []) rest) ∙ begins_again literals whole (Mark kinds.Period ∷ Name field ∷ rest) g.0
begins_again literals (Composite name vs trailing) rest g = rw g.1 refl
begins_again literals (Unary unaries.Plus inner) rest g = refl
begins_again literals (Unary unaries.Negate inner) rest g = refl
begins_again literals (Unary unaries.Not inner) rest g = refl
begins_again literals (Unary unaries.Complement inner) rest g = refl
begins_again literals (Binary o l r) rest g =
    ap begins (append_assoc (expression_words l) (Mark (binary_kind o) ∷ expression_words r) rest) ∙ begins_again literals l (Mark (binary_kind o) ∷ (expression_words r ++ rest)) g.0
begins_again literals (Call function vs trailing) rest g = rw g.0 refl
begins_again literals (Receive channel) rest g = refl
begins_again literals (Make channel) rest g = refl
begins_again literals (MakeSized channel size) rest g = refl
begins_again literals (Length channel) rest g = refl
begins_again literals (Capacity channel) rest g = refl

pub comma_ends : (literals : Bool) (rest : List Lexeme) → EndsExpression literals (Mark kinds.Comma ∷ rest)
unfolding step_at
comma_ends literals rest = record { none = refl; shut = shut literals kinds.Comma rest refl refl }

pub close_ends : (literals : Bool) (close : TokenKind) (rest : List Lexeme) → IsClose close → EndsExpression literals (Mark close ∷ rest)
unfolding step_at
close_ends literals close rest is = record { none = rw is.step refl; shut = shut literals close rest is.open' is.brace }

pub closing_ends : (literals : Bool) (close : TokenKind) (trailing : Bool) (rest : List Lexeme) → IsClose close → EndsExpression literals (closing kinds.Comma close trailing rest)
closing_ends literals close true rest is = comma_ends literals (Mark close ∷ rest)
closing_ends literals close false rest is = close_ends literals close rest is

-- a list's end is read, if no entry starts with its closing mark
pub ending_again : (separator : TokenKind) (starts : List Lexeme → Bool) (close : TokenKind) (trailing : Bool) (rest : List Lexeme) → is_kind close separator ≡ false → starts (Mark close ∷ rest) ≡ false
    → entry_next separator starts close (closing separator close trailing rest) ≡ Ok (End trailing, rest)
unfolding entry_next
ending_again separator starts close true rest other none = rw (is_kind_same separator, none, expect_again close rest) refl
ending_again separator starts close false rest other none = rw (other, expect_again close rest) refl

-- another entry is read after a separator, if one starts so
pub more_entries : (separator : TokenKind) (starts : List Lexeme → Bool) (close : TokenKind) (words : List Lexeme) → starts words ≡ true → entry_next separator starts close (Mark separator ∷ words) ≡ Ok (More, words)
unfolding entry_next
more_entries separator starts close words is = rw (is_kind_same separator, is) refl

pub closing_again : (close : TokenKind) (trailing : Bool) (rest : List Lexeme) → IsClose close → value_next close (closing kinds.Comma close trailing rest) ≡ Ok (End trailing, rest)
closing_again close trailing rest is = ending_again kinds.Comma begins close trailing rest is.comma (is.begin rest)

pub more_values : (literals : Bool) (close : TokenKind) (t : Expression) (rest : List Lexeme) → IsGrouped literals t → value_next close (Mark kinds.Comma ∷ (expression_words t ++ rest)) ≡ Ok (More, expression_words t ++ rest)
more_values literals close t rest g = more_entries kinds.Comma begins close (expression_words t ++ rest) (begins_again literals t rest g)

values_separate : (literals : Bool) (most depth_left : ℕ) (close : TokenKind) (trailing : Bool) (rest : List Lexeme) → IsClose close → Separates (listed_values literals most depth_left close) (EndsExpression literals) trailing rest
values_separate literals most depth_left close trailing rest is = record {
  separator = λ t words one. comma_ends literals (before t words);
  more = λ t words one. more_values literals close t words one;
  ending = closing_ends literals close trailing rest is;
  end = closing_again close trailing rest is;
}

-- values of which each is read alone
abbrev all_longest : List Expression → Listing → ℕ
all_longest vs listing = max (entries listing (length vs)) (highest (expression_longest listing) vs)

none_values : (literals : Bool) (most depth_left : ℕ) (close : TokenKind) (rest : List Lexeme) → IsClose close
    → ReadBack (values (expression literals most depth_left) close most (Mark close ∷ rest)) ([], false) rest 0 depth_left (all_longest []) most
unfolding values
none_values literals most depth_left close rest is =
    Found (omega arith) (λ listing. omega (arith, entries-le listing 0)) (rw (is.begin rest, expect_again close rest) refl)

some_values : (literals : Bool) (most depth_left : ℕ) (close : TokenKind) (v : Expression) (vs : List Expression) (trailing : Bool) (rest : List Lexeme) → IsClose close
    → AreAll (IsGrouped literals) (v ∷ vs) → AreAll (IsRead literals most) (v ∷ vs)
    → ReadBack (values (expression literals most depth_left) close most (joined before (following kinds.Comma) (v ∷ vs) (closing kinds.Comma close trailing rest))) (v ∷ vs, trailing) rest
    (highest expression_height (v ∷ vs)) depth_left (all_longest (v ∷ vs)) most
unfolding values
some_values literals most depth_left close v vs trailing rest is grouped read =
    let l = listed_values literals most depth_left close in
    let again = all_again (IsRead literals most) (IsReadAgain l (EndsExpression literals)) (λ t one rest ends. one depth_left 0 rest (omega arith) ends.none ends.shut) (v ∷ vs) read in
    let b = begins_again literals v (separated before (following kinds.Comma) vs (closing kinds.Comma close trailing rest)) grouped.0 in
    rw b (elim (listed_again l (EndsExpression literals) trailing rest (TooMany Entries) (values_separate literals most depth_left close trailing rest is) vs most v grouped again) [
      | AllFound low few count e ↦ Found low (λ listing. omega (arith, few listing, entries-le listing (length (v ∷ vs)))) (rw e refl)
      | AllHigh high e ↦ High high (rw e refl)
      | AllMany listing many e ↦ Many listing (omega (arith, many)) (rw e refl)
      | Full count e ↦ Many Entries (omega (arith, count)) (rw e refl)
    ])

pub values_again : (literals : Bool) (most depth_left : ℕ) (close : TokenKind) (vs : List Expression) (trailing : Bool) (rest : List Lexeme) → IsClose close
    → AreAll (IsGrouped literals) vs → AreAll (IsRead literals most) vs → IsTrailing vs trailing
    → ReadBack (values (expression literals most depth_left) close most (joined before (following kinds.Comma) vs (closing kinds.Comma close trailing rest))) (vs, trailing) rest
    (highest expression_height vs) depth_left (all_longest vs) most
values_again literals most depth_left close [] true rest is grouped read last = absurd cc
values_again literals most depth_left close [] false rest is grouped read last = none_values literals most depth_left close rest is
values_again literals most depth_left close (v ∷ vs) trailing rest is grouped read last = some_values literals most depth_left close v vs trailing rest is grouped read

-- ---- composite literals and calls

-- what is made of a list of values
collected_again : (make : Expressions → Bool → Expression) (literals : Bool) (most depth_left : ℕ) (close : TokenKind) (vs : Expressions) (trailing : Bool) (rest : List Lexeme) → IsClose close
    → AreGrouped literals vs → AreAll (IsRead literals most) (expressions_in vs) → HasLast vs trailing
    → ReadBack (values (expression literals most depth_left) close most (joined before (following kinds.Comma) (expressions_in vs) (closing kinds.Comma close trailing rest)) >>= λ all. Ok (make (expressions all.0.0) all.0.1, all.1)) (make vs trailing) rest
    (suc (expressions_height vs)) (suc depth_left) (λ listing. max (entries listing (expressions_count vs)) (expressions_longest listing vs)) most
collected_again make literals most depth_left close vs trailing rest is grouped read last =
    let words = joined before (following kinds.Comma) (expressions_in vs) (closing kinds.Comma close trailing rest) in
    let again = made_again (λ (found : List Expression × Bool). make (expressions found.0) found.1)
    (values_again literals most depth_left close (expressions_in vs) trailing rest is (grouped_in literals vs grouped) read (last_in vs trailing last))
    (λ high. omega (arith, high, height_in vs)) (λ low. omega (arith, low, height_in vs)) (λ listing. rw (count_in vs, longest_in listing vs) refl) in
    subst (λ (es : Expressions). ReadBack (values (expression literals most depth_left) close most words >>= λ all. Ok (make (expressions all.0.0) all.0.1, all.1)) (make es trailing) rest
    (suc (expressions_height vs)) (suc depth_left) (λ listing. max (entries listing (expressions_count vs)) (expressions_longest listing vs)) most)
    (expressions-expressions_in vs) again

reads_composite : (literals : Bool) (most : ℕ) (name : List ℕ) (vs : Expressions) (trailing : Bool) → AreAll (IsRead literals most) (expressions_in vs) → IsGrouped literals (Composite name vs trailing) → IsOperandRead literals most (Composite name vs trailing)
unfolding operand named composite
reads_composite false most name vs trailing read g depth_left rest none is_shut = let bad = g.0 in absurd cc
reads_composite true most name vs trailing read g depth_left rest none is_shut =
    read_as (rw (g.1, closed_words kinds.RightBrace vs trailing rest) refl)
    (collected_again (Composite name) true most depth_left kinds.RightBrace vs trailing rest brace_closes g.2 read g.3)

reads_call : (literals : Bool) (most : ℕ) (function : List ℕ) (vs : Expressions) (trailing : Bool) → AreAll (IsRead literals most) (expressions_in vs) → IsGrouped literals (Call function vs trailing) → IsOperandRead literals most (Call function vs trailing)
unfolding operand named called
reads_call literals most function vs trailing read g depth_left rest none is_shut =
    read_as (rw (g.0, closed_words kinds.RightParenthesis vs trailing rest) refl)
    (collected_again (Call function) literals most depth_left kinds.RightParenthesis vs trailing rest parenthesis_closes g.1 read g.2)

mutual
  goes_on : (literals : Bool) (most : ℕ) (t : Expression) → IsGrouped literals t → GoesOn literals most t
  goes_on literals most (Integer value) g = operand_goes literals most (Integer value) (reads_integer literals most value)
  goes_on literals most (Named name) g = operand_goes literals most (Named name) (reads_named literals most name g)
  goes_on literals most (Parenthesized inner) g = operand_goes literals most (Parenthesized inner) (reads_parenthesized literals most inner (is_read literals most inner (goes_on literals most inner g)))
  goes_on literals most (Selection whole field) g = reads_selection literals most whole field (goes_on literals most whole g.0) g.1 g.2
  goes_on literals most (Composite name vs trailing) g = operand_goes literals most (Composite name vs trailing) (reads_composite literals most name vs trailing (all_read literals most vs g.2) g)
  goes_on literals most (Unary o inner) g = operand_goes literals most (Unary o inner) (reads_unary literals most o inner (is_read literals most inner (goes_on literals most inner g.0)) g.1)
  goes_on literals most (Binary o l r) g = reads_binary literals most o l r (goes_on literals most l g.0) (is_read literals most r (goes_on literals most r g.1)) g.2 g.3
  goes_on literals most (Call function vs trailing) g = operand_goes literals most (Call function vs trailing) (reads_call literals most function vs trailing (all_read literals most vs g.1) g)
  goes_on literals most (Receive channel) g = operand_goes literals most (Receive channel) (reads_receive literals most channel (is_read literals most channel (goes_on literals most channel g.0)) g.1)
  goes_on literals most (Make channel) g = operand_goes literals most (Make channel) (reads_make literals most channel g)
  goes_on literals most (MakeSized channel size) g = operand_goes literals most (MakeSized channel size) (reads_make_sized literals most channel size g.0 (is_read literals most size (goes_on literals most size g.1)))
  goes_on literals most (Length channel) g = operand_goes literals most (Length channel) (reads_length literals most channel (is_read literals most channel (goes_on literals most channel g)))
  goes_on literals most (Capacity channel) g = operand_goes literals most (Capacity channel) (reads_capacity literals most channel (is_read literals most channel (goes_on literals most channel g)))

  all_read : (literals : Bool) (most : ℕ) (vs : Expressions) → AreGrouped literals vs → AreAll (IsRead literals most) (expressions_in vs)
  all_read literals most NoMore g = tt
  all_read literals most (Following v vs) g = (is_read literals most v (goes_on literals most v g.0), all_read literals most vs g.1)

-- what is spelt is read, or is too high, or has too long a list
pub reads : (literals : Bool) (most : ℕ) (t : Expression) → IsGrouped literals t → IsRead literals most t
reads literals most t g = is_read literals most t (goes_on literals most t g)

-- calls and receives, which may also be statements
abbrev pub IsLone : Expression → Type 0
IsLone (Call function values trailing) = Unit {0}
IsLone (Receive channel) = Unit {0}
IsLone expression = ⊥

pub lone_read : (literals : Bool) (most : ℕ) (t : Expression) → IsLone t → IsGrouped literals t → IsOperandRead literals most t
lone_read literals most (Call function vs trailing) lone g = reads_call literals most function vs trailing (all_read literals most vs g.1) g
lone_read literals most (Receive channel) lone g = reads_receive literals most channel (reads literals most channel g.0) g.1
lone_read literals most _ lone g = absurd lone
