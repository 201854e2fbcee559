-- What is read as an expression is spelt so.
use Rattle.std.proofs.Common.{◌≡◌, ℕ, zero, suc, ◌+◌, ◌<◌, ◌≤◌, max, min, List, [], ◌∷◌, ◌++◌, length, Option, Some, None, Ok, Err, Bool, true, false, cond, ◌&&◌, IsTrue, bytes_eq, codes, leb, inl, inr, refl, ap, ◌∙◌, sym, subst, arith, append_assoc}
use Rattle.std.proofs.lemmas.Bool.{le-leb, lt-leb, leb-false, cases_lt}
use Rattle.scanner.specs.declared.kind.TokenKind.{TokenKind}
use Rattle.scanner.specs.declared.kind.TokenKind.TheVariants as kinds
use Rattle.syntax.specs.declared.node.BinaryOperator.{BinaryOperator}
use Rattle.syntax.specs.declared.node.BinaryOperator.TheVariants as binaries
use Rattle.syntax.specs.declared.node.UnaryOperator.{UnaryOperator}
use Rattle.syntax.specs.declared.node.UnaryOperator.TheVariants as unaries
use Rattle.syntax.specs.Tree.{Expression, Integer, Named, Parenthesized, Selection, Composite, Unary, Binary, TypeExpression, Call, Receive, Make, MakeSized, Length, Capacity, Expressions, expressions}
use Rattle.syntax.specs.Measures.{Entries, entries, highest, type_height, expression_height, expressions_height, expression_longest, expressions_longest, expressions_count}
use Rattle.syntax.proofs.Lists.{expressions_in-expressions, expressions_height-of, expressions_longest-of, expressions_count-of}
use Rattle.parser_base.specs.declared.operator.Infix.{Infix}
use Rattle.parser_base.specs.declared.operator.Infix.TheVariants.{Operator, Period}
use Rattle.parser_base.specs.declared.list.Next.{Next}
use Rattle.parser_base.specs.declared.list.Next.TheVariants.{More, End}
use Rattle.parser_base.specs.Lexemes.{Lexeme, Literal, Name, Text, Mark}
use Rattle.parser_base.specs.Spelling.{is_builtin, following, joined, closing, before, AreAll, AreSome, IsTrailing, HasLast, type_words, IsType, expression_words, expressions_words, outer_precedence, precedence, IsGrouped, AreGrouped, unary_kind, binary_kind}
use Rattle.parser_base.specs.Reading.{Reading, Syntax, TooDeep, TooMany, ◌>>=◌, as_one, needing, is_kind, expect, begins, closed, after_separator, entry_next, value_next, values, composite, called, named, to_parenthesis, argument, sized, made, builtin, plain_name, binary_of, unary_of, operator_step, infix_of, strength, binding, step_at, negated, operand, applied, operation, operations, expression, listed, type_at}
use Rattle.parser_base.proofs.Marks.{bind_ok, unless_ok, when_ok, ok_is, kind_is, expect_is, plain_name_is, bytes_are}
use Rattle.parser_base.proofs.ListLaws.{AreFew, entries-le, Entries as Listed, ReadsSoundly as EntriesSoundly, listed_sound, ends_with, goes_on_with, all_of}
use Rattle.parser_base.proofs.ExpressionAgain.{step_kind, precedence-lt, outer_precedence-le, none_above, none_strong, at_step, closed_words}
use Rattle.parser_base.proofs.Steps.{made_is, needing_ok, either}
use Rattle.parser_base.proofs.TypeLaws.{type_sound}

abbrev some : {A : Type 0} → A → Option A
some x = Some x

some_is : {A : Type 0} (x y : A) → some x ≡ some y → x ≡ y
some_is x y e = cc

-- ---- operators

binary_is : (k : TokenKind) (o : BinaryOperator) → binary_of k ≡ Some o → k ≡ binary_kind o
binary_is kinds.Plus o e = let p : binaries.Add ≡ o = cc in ap binary_kind p
binary_is kinds.Minus o e = let p : binaries.Subtract ≡ o = cc in ap binary_kind p
binary_is kinds.Star o e = let p : binaries.Multiply ≡ o = cc in ap binary_kind p
binary_is kinds.Slash o e = let p : binaries.Divide ≡ o = cc in ap binary_kind p
binary_is kinds.Percent o e = let p : binaries.Remainder ≡ o = cc in ap binary_kind p
binary_is kinds.Ampersand o e = let p : binaries.And ≡ o = cc in ap binary_kind p
binary_is kinds.Bar o e = let p : binaries.Or ≡ o = cc in ap binary_kind p
binary_is kinds.Caret o e = let p : binaries.ExclusiveOr ≡ o = cc in ap binary_kind p
binary_is kinds.AndNot o e = let p : binaries.AndNot ≡ o = cc in ap binary_kind p
binary_is kinds.ShiftLeft o e = let p : binaries.ShiftLeft ≡ o = cc in ap binary_kind p
binary_is kinds.ShiftRight o e = let p : binaries.ShiftRight ≡ o = cc in ap binary_kind p
binary_is kinds.Equal o e = let p : binaries.Equal ≡ o = cc in ap binary_kind p
binary_is kinds.NotEqual o e = let p : binaries.NotEqual ≡ o = cc in ap binary_kind p
binary_is kinds.Less o e = let p : binaries.Less ≡ o = cc in ap binary_kind p
binary_is kinds.LessEqual o e = let p : binaries.LessEqual ≡ o = cc in ap binary_kind p
binary_is kinds.Greater o e = let p : binaries.Greater ≡ o = cc in ap binary_kind p
binary_is kinds.GreaterEqual o e = let p : binaries.GreaterEqual ≡ o = cc in ap binary_kind p
binary_is kinds.LogicalAnd o e = let p : binaries.LogicalAnd ≡ o = cc in ap binary_kind p
binary_is kinds.LogicalOr o e = let p : binaries.LogicalOr ≡ o = cc in ap binary_kind p
binary_is _ o e = absurd cc

unary_is : (k : TokenKind) (o : UnaryOperator) → unary_of k ≡ Some o → k ≡ unary_kind o
unary_is kinds.Plus o e = let p : unaries.Plus ≡ o = cc in ap unary_kind p
unary_is kinds.Minus o e = let p : unaries.Negate ≡ o = cc in ap unary_kind p
unary_is kinds.Not o e = let p : unaries.Not ≡ o = cc in ap unary_kind p
unary_is kinds.Caret o e = let p : unaries.Complement ≡ o = cc in ap unary_kind p
unary_is _ o e = absurd cc

operator_step_is : (k : TokenKind) (o : Option BinaryOperator) (s : Infix) → binary_of k ≡ o → operator_step o ≡ Some s → k ≡ step_kind s
operator_step_is k None s is e = absurd cc
operator_step_is k (Some o) s is e = binary_is k o is ∙ ap step_kind (some_is (Operator o) s e)

step_mark_is : (k : TokenKind) (b : Bool) (s : Infix) → is_kind k kinds.Period ≡ b → cond b (some Period) (operator_step (binary_of k)) ≡ Some s → k ≡ step_kind s
step_mark_is k true s is e = kind_is k kinds.Period is ∙ ap step_kind (some_is Period s e)
step_mark_is k false s is e = operator_step_is k (binary_of k) s refl e

binding_is : (least : ℕ) (rest : List Lexeme) (p : Option Infix) (s : Infix) (after : List Lexeme) → binding least rest p ≡ Some (s, after) → (p ≡ Some s) × (rest ≡ after) × (least ≤ strength s)
binding_is least rest None s after e = absurd cc
binding_is least rest (Some q) s after e =
    elim (cases_lt (strength q) least) [
      | inl lt ↦ let bad = rw (lt-leb least (strength q) lt) at e in absurd cc
      | inr le ↦
          let is = rw (le-leb least (strength q) le) at e in
          let same : q ≡ s = ap (λ (x : Infix × List Lexeme). x.0) (some_is (q, rest) (s, after) is) in
          (ap (λ (x : Infix). Some x) same, ap (λ (x : Infix × List Lexeme). x.1) (some_is (q, rest) (s, after) is), subst (λ (x : Infix). least ≤ strength x) same le)
    ]

step_is : (least : ℕ) (ws : List Lexeme) (s : Infix) (after : List Lexeme) → step_at least ws ≡ Some (s, after) → (ws ≡ Mark (step_kind s) ∷ after) × (least ≤ strength s)
unfolding step_at
step_is least [] s after e = absurd cc
step_is least (Literal value ∷ ws) s after e = absurd cc
step_is least (Name bytes ∷ ws) s after e = absurd cc
step_is least (Text bytes ∷ ws) s after e = absurd cc
step_is least (Mark kind ∷ ws) s after e =
    let b = binding_is least ws (infix_of kind) s after e in
    ((λ i. Mark (step_mark_is kind (is_kind kind kinds.Period) s refl b.0 i) ∷ b.1 i), b.2)

-- if nothing binds more strongly than `n`, the next step doesn't
order_of : (n : ℕ) (ws : List Lexeme) (s : Infix) (after : List Lexeme) → ws ≡ Mark (step_kind s) ∷ after → step_at (suc n) ws ≡ None → strength s ≤ n
order_of n ws s after is none =
    elim (cases_lt n (strength s)) [
      | inr le ↦ le
      | inl lt ↦ let bad = sym none ∙ ap (step_at (suc n)) is ∙ at_step (suc n) s after lt in absurd cc
    ]

-- ---- trees

pub record IsSound (literals : Bool) (most depth_left least : ℕ) (ws : List Lexeme) (t : Expression) (rest : List Lexeme) : Type 0 where
  pub parts : ws ≡ expression_words t ++ rest
  pub grouped : IsGrouped literals t
  pub low : expression_height t ≤ depth_left
  pub few : AreFew (λ listing. expression_longest listing t) most
  -- a unary operator is read even if only a selection binds so strongly
  pub strong : min least 6 ≤ outer_precedence t
  pub none : step_at least rest ≡ None

abbrev pub ReadsSoundly : Bool → ℕ → (ℕ → List Lexeme → Reading Expression) → ℕ → Type 0
ReadsSoundly literals most deeper depth_left = (least : ℕ) (ws : List Lexeme) (t : Expression) (rest : List Lexeme) → deeper least ws ≡ Ok (t, rest) → IsSound literals most depth_left least ws t rest

-- what is no operation on two operands and no selection
pub record IsOperand (literals : Bool) (most depth_left : ℕ) (ws : List Lexeme) (t : Expression) (rest : List Lexeme) : Type 0 where
  pub parts : ws ≡ expression_words t ++ rest
  pub grouped : IsGrouped literals t
  pub low : expression_height t ≤ depth_left
  pub few : AreFew (λ listing. expression_longest listing t) most
  pub strong : 6 ≤ outer_precedence t
  pub none : step_at (suc (outer_precedence t)) rest ≡ None

abbrev with_rest : Expression → List Lexeme → Expression × List Lexeme
with_rest t rest = (t, rest)

-- an expression before a closing parenthesis
record IsClosed (literals : Bool) (most depth_left : ℕ) (ws : List Lexeme) (t : Expression) (rest : List Lexeme) : Type 0 where
  parts : ws ≡ expression_words t ++ (Mark kinds.RightParenthesis ∷ rest)
  grouped : IsGrouped literals t
  low : expression_height t ≤ depth_left
  few : AreFew (λ listing. expression_longest listing t) most

to_parenthesis_sound : (literals : Bool) (most : ℕ) (deeper : ℕ → List Lexeme → Reading Expression) (depth_left : ℕ) → ReadsSoundly literals most deeper depth_left → (ws : List Lexeme) (t : Expression) (rest : List Lexeme) → to_parenthesis deeper ws ≡ Ok (t, rest) → IsClosed literals most depth_left ws t rest
unfolding to_parenthesis
to_parenthesis_sound literals most deeper depth_left sound ws t rest e =
    let a = bind_ok (deeper 0 ws) (λ inner. expect kinds.RightParenthesis inner.1 >>= λ after. Ok (with_rest inner.0 after)) (t, rest) e in
    let b = bind_ok (expect kinds.RightParenthesis a.0.1) (λ after. Ok (with_rest a.0.0 after)) (t, rest) a.2 in
    let s = sound 0 ws a.0.0 a.0.1 a.1 in
    let c = expect_is kinds.RightParenthesis a.0.1 b.0 b.1 in
    subst (λ (x : Expression × List Lexeme). IsClosed literals most depth_left ws x.0 x.1) (ok_is (with_rest a.0.0 b.0) (t, rest) b.2) (record {
      parts = s.parts ∙ ap (λ (x : List Lexeme). expression_words a.0.0 ++ x) c;
      grouped = s.grouped;
      low = s.low;
      few = s.few;
    })

-- its words with the parenthesis, before what follows
closed_parts : (t : Expression) (rest : List Lexeme) → expression_words t ++ (Mark kinds.RightParenthesis ∷ rest) ≡ (expression_words t ++ (Mark kinds.RightParenthesis ∷ [])) ++ rest
closed_parts t rest = sym (append_assoc (expression_words t) (Mark kinds.RightParenthesis ∷ []) rest)

parenthesized_sound : (literals : Bool) (most : ℕ) (deeper : ℕ → List Lexeme → Reading Expression) (depth_left : ℕ) → ReadsSoundly literals most deeper depth_left → (ws : List Lexeme) (t : Expression) (rest : List Lexeme) → as_one Parenthesized (to_parenthesis deeper ws) ≡ Ok (with_rest t rest) → IsOperand literals most (suc depth_left) (Mark kinds.LeftParenthesis ∷ ws) t rest
parenthesized_sound literals most deeper depth_left sound ws t rest e =
    let a = made_is Parenthesized (to_parenthesis deeper ws) t rest e in
    let s = to_parenthesis_sound literals most deeper depth_left sound ws a.0 rest a.1 in
    subst (λ (x : Expression). IsOperand literals most (suc depth_left) (Mark kinds.LeftParenthesis ∷ ws) x rest) a.2 (record {
      parts = ap (λ (x : List Lexeme). Mark kinds.LeftParenthesis ∷ x) (s.parts ∙ closed_parts a.0 rest);
      grouped = s.grouped;
      low = omega (arith, s.low);
      few = s.few;
      strong = omega arith;
      none = none_strong rest;
    })

receive_sound : (literals : Bool) (most : ℕ) (deeper : ℕ → List Lexeme → Reading Expression) (depth_left : ℕ) → ReadsSoundly literals most deeper depth_left → (ws : List Lexeme) (t : Expression) (rest : List Lexeme) → as_one Receive (deeper 6 ws) ≡ Ok (with_rest t rest) → IsOperand literals most (suc depth_left) (Mark kinds.Arrow ∷ ws) t rest
receive_sound literals most deeper depth_left sound ws t rest e =
    let a = made_is Receive (deeper 6 ws) t rest e in
    let s = sound 6 ws a.0 rest a.1 in
    subst (λ (x : Expression). IsOperand literals most (suc depth_left) (Mark kinds.Arrow ∷ ws) x rest) a.2 (record {
      parts = ap (λ (x : List Lexeme). Mark kinds.Arrow ∷ x) s.parts;
      grouped = (s.grouped, omega (arith, s.strong));
      low = omega (arith, s.low);
      few = s.few;
      strong = omega arith;
      none = none_above 6 7 rest (omega arith) s.none;
    })

negated_sound : (literals : Bool) (most : ℕ) (deeper : ℕ → List Lexeme → Reading Expression) (depth_left : ℕ) → ReadsSoundly literals most deeper depth_left → (kind : TokenKind) (ws : List Lexeme) (o : Option UnaryOperator) (t : Expression) (rest : List Lexeme) → unary_of kind ≡ o → negated deeper ws o ≡ Ok (t, rest) → IsOperand literals most (suc depth_left) (Mark kind ∷ ws) t rest
negated_sound literals most deeper depth_left sound kind ws None t rest is e = absurd cc
negated_sound literals most deeper depth_left sound kind ws (Some o) t rest is e =
    let a = bind_ok (deeper 6 ws) (λ inner. Ok (Unary o inner.0, inner.1)) (t, rest) e in
    let s = sound 6 ws a.0.0 a.0.1 a.1 in
    subst (λ (x : Expression × List Lexeme). IsOperand literals most (suc depth_left) (Mark kind ∷ ws) x.0 x.1) (ok_is (with_rest (Unary o a.0.0) a.0.1) (t, rest) a.2) (record {
      parts = λ i. Mark (unary_is kind o is i) ∷ s.parts i;
      grouped = (s.grouped, omega (arith, s.strong));
      low = omega (arith, s.low);
      few = s.few;
      strong = omega arith;
      none = none_above 6 7 a.0.1 (omega arith) s.none;
    })

-- ---- lists of values

end_is : (a b : Bool) (ws rest : List Lexeme) → ends_with a ws ≡ ends_with b rest → (a ≡ b) × (ws ≡ rest)
end_is a b ws rest e =
    let same : End a ≡ End b = ap (λ (x : Next × List Lexeme). x.0) e in
    (cc, ap (λ (x : Next × List Lexeme). x.1) e)

close_sound : (close : TokenKind) (before : Bool) (ws : List Lexeme) (trailing : Bool) (rest : List Lexeme) → closed close before ws ≡ Ok (ends_with trailing rest) → (before ≡ trailing) × (ws ≡ Mark close ∷ rest)
close_sound close before ws trailing rest e =
    let a = bind_ok (expect close ws) (λ after. Ok (ends_with before after)) (ends_with trailing rest) e in
    let same = end_is before trailing a.0 rest (ok_is (ends_with before a.0) (ends_with trailing rest) a.2) in
    (same.0, expect_is close ws a.0 a.1 ∙ ap (λ (x : List Lexeme). Mark close ∷ x) same.1)

close_no_more : (close : TokenKind) (before : Bool) (ws rest : List Lexeme) → closed close before ws ≡ Ok (goes_on_with rest) → ⊥
close_no_more close before ws rest e =
    let a = bind_ok (expect close ws) (λ after. Ok (ends_with before after)) (goes_on_with rest) e in
    let same = ok_is (ends_with before a.0) (goes_on_with rest) a.2 in
    let kind : End before ≡ More = ap (λ (x : Next × List Lexeme). x.0) same in
    cc

separator_more : (close : TokenKind) (b : Bool) (ws rest : List Lexeme) → cond b (Ok (goes_on_with ws)) (closed close true ws) ≡ Ok (goes_on_with rest) → ws ≡ rest
separator_more close true ws rest e = ap (λ (x : Next × List Lexeme). x.1) (ok_is (goes_on_with ws) (goes_on_with rest) e)
separator_more close false ws rest e = absurd (close_no_more close true ws rest e)

separator_end : (close : TokenKind) (b : Bool) (ws : List Lexeme) (trailing : Bool) (rest : List Lexeme) → cond b (Ok (goes_on_with ws)) (closed close true ws) ≡ Ok (ends_with trailing rest) → (true ≡ trailing) × (ws ≡ Mark close ∷ rest)
separator_end close true ws trailing rest e =
    let same = ok_is (goes_on_with ws) (ends_with trailing rest) e in
    let kind : More ≡ End trailing = ap (λ (x : Next × List Lexeme). x.0) same in
    absurd cc
separator_end close false ws trailing rest e = close_sound close true ws trailing rest e

mark_more : (separator : TokenKind) (starts : List Lexeme → Bool) (close kind : TokenKind) (b : Bool) (ws rest : List Lexeme) → is_kind kind separator ≡ b → cond b (after_separator starts close ws) (closed close false (Mark kind ∷ ws)) ≡ Ok (goes_on_with rest) → Mark kind ∷ ws ≡ Mark separator ∷ rest
mark_more separator starts close kind true ws rest is e = λ i. Mark (kind_is kind separator is i) ∷ separator_more close (starts ws) ws rest e i
mark_more separator starts close kind false ws rest is e = absurd (close_no_more close false (Mark kind ∷ ws) rest e)

pub entry_more_sound : (separator : TokenKind) (starts : List Lexeme → Bool) (close : TokenKind) (ws rest : List Lexeme) → entry_next separator starts close ws ≡ Ok (goes_on_with rest) → ws ≡ Mark separator ∷ rest
unfolding entry_next
entry_more_sound separator starts close [] rest e = absurd cc
entry_more_sound separator starts close (Literal value ∷ ws) rest e = absurd cc
entry_more_sound separator starts close (Name bytes ∷ ws) rest e = absurd cc
entry_more_sound separator starts close (Text bytes ∷ ws) rest e = absurd cc
entry_more_sound separator starts close (Mark kind ∷ ws) rest e = mark_more separator starts close kind (is_kind kind separator) ws rest refl e

mark_end : (separator : TokenKind) (starts : List Lexeme → Bool) (close kind : TokenKind) (b : Bool) (ws : List Lexeme) (trailing : Bool) (rest : List Lexeme) → is_kind kind separator ≡ b → cond b (after_separator starts close ws) (closed close false (Mark kind ∷ ws)) ≡ Ok (ends_with trailing rest) → Mark kind ∷ ws ≡ closing separator close trailing rest
mark_end separator starts close kind true ws trailing rest is e =
    let a = separator_end close (starts ws) ws trailing rest e in
    let both : Mark kind ∷ ws ≡ closing separator close true rest = λ i. Mark (kind_is kind separator is i) ∷ a.1 i in
    both ∙ ap (λ (b : Bool). closing separator close b rest) a.0
mark_end separator starts close kind false ws trailing rest is e =
    let a = close_sound close false (Mark kind ∷ ws) trailing rest e in
    let both : Mark kind ∷ ws ≡ closing separator close false rest = a.1 in
    both ∙ ap (λ (b : Bool). closing separator close b rest) a.0

pub entry_end_sound : (separator : TokenKind) (starts : List Lexeme → Bool) (close : TokenKind) (ws : List Lexeme) (trailing : Bool) (rest : List Lexeme) → entry_next separator starts close ws ≡ Ok (ends_with trailing rest) → ws ≡ closing separator close trailing rest
unfolding entry_next
entry_end_sound separator starts close [] trailing rest e = absurd cc
entry_end_sound separator starts close (Literal value ∷ ws) trailing rest e = absurd cc
entry_end_sound separator starts close (Name bytes ∷ ws) trailing rest e = absurd cc
entry_end_sound separator starts close (Text bytes ∷ ws) trailing rest e = absurd cc
entry_end_sound separator starts close (Mark kind ∷ ws) trailing rest e = mark_end separator starts close kind (is_kind kind separator) ws trailing rest refl e

-- values read by a reader that is sound
abbrev deeper_values : (literals : Bool) (most depth_left : ℕ) (close : TokenKind) (deeper : ℕ → List Lexeme → Reading Expression) → Listed Expression
deeper_values literals most depth_left close deeper = record {
  one = deeper 0;
  next = value_next close;
  each = before;
  separator = following kinds.Comma;
  ending = closing kinds.Comma close;
  height = expression_height;
  longest = expression_longest;
  depth_left = depth_left;
  most = most;
  IsOne = IsGrouped literals;
}

deeper_sound : (literals : Bool) (most depth_left : ℕ) (close : TokenKind) (deeper : ℕ → List Lexeme → Reading Expression) → ReadsSoundly literals most deeper depth_left → EntriesSoundly (deeper_values literals most depth_left close deeper)
deeper_sound literals most depth_left close deeper sound = record {
  one = λ ws t rest e. let s = sound 0 ws t rest e in record { parts = s.parts; is = s.grouped; low = s.low; few = s.few };
  more = entry_more_sound kinds.Comma begins close;
  end = entry_end_sound kinds.Comma begins close;
}

pub record AreValues (literals : Bool) (most depth_left : ℕ) (close : TokenKind) (ws : List Lexeme) (vs : List Expression) (trailing : Bool) (rest : List Lexeme) : Type 0 where
  pub parts : ws ≡ joined before (following kinds.Comma) vs (closing kinds.Comma close trailing rest)
  pub are : AreAll (IsGrouped literals) vs
  pub last : IsTrailing vs trailing
  pub low : highest expression_height vs ≤ depth_left
  pub few : AreFew (λ listing. max (entries listing (length vs)) (highest (expression_longest listing) vs)) most

some_trailing : {X : Type 0} (P : X → Type 0) (xs : List X) (trailing : Bool) → AreSome P xs → IsTrailing xs trailing
some_trailing P [] trailing some = absurd some
some_trailing P (x ∷ xs) trailing some = tt

abbrev values_with : List Expression → Bool → List Lexeme → (List Expression × Bool) × List Lexeme
values_with vs trailing rest = ((vs, trailing), rest)

either_values : (literals : Bool) (most depth_left : ℕ) (close : TokenKind) (deeper : ℕ → List Lexeme → Reading Expression) → ReadsSoundly literals most deeper depth_left → (b : Bool) (ws : List Lexeme) (vs : List Expression) (trailing : Bool) (rest : List Lexeme)
    → cond b (listed (deeper 0) (value_next close) (TooMany Entries) most ws) (expect close ws >>= λ after. Ok (values_with [] false after)) ≡ Ok (values_with vs trailing rest) → AreValues literals most depth_left close ws vs trailing rest
either_values literals most depth_left close deeper sound true ws vs trailing rest e =
    let l = listed_sound (deeper_values literals most depth_left close deeper) (TooMany Entries) (deeper_sound literals most depth_left close deeper sound) most ws (values_with vs trailing rest) e in
    record {
      parts = l.parts;
      are = all_of (IsGrouped literals) vs l.are;
      last = some_trailing (IsGrouped literals) vs trailing l.are;
      low = l.low;
      few = λ listing. omega (arith, l.few listing, l.count, entries-le listing (length vs));
    }
either_values literals most depth_left close deeper sound false ws vs trailing rest e =
    let a = bind_ok (expect close ws) (λ after. Ok (values_with [] false after)) (values_with vs trailing rest) e in
    subst (λ (x : (List Expression × Bool) × List Lexeme). AreValues literals most depth_left close ws x.0.0 x.0.1 x.1) (ok_is (values_with [] false a.0) (values_with vs trailing rest) a.2) (record {
      parts = expect_is close ws a.0 a.1;
      are = tt;
      last = refl;
      low = omega arith;
      few = λ listing. omega (arith, entries-le listing 0);
    })

pub values_sound : (literals : Bool) (most depth_left : ℕ) (close : TokenKind) (deeper : ℕ → List Lexeme → Reading Expression) → ReadsSoundly literals most deeper depth_left → (ws : List Lexeme) (vs : List Expression) (trailing : Bool) (rest : List Lexeme)
    → values deeper close most ws ≡ Ok ((vs, trailing), rest) → AreValues literals most depth_left close ws vs trailing rest
unfolding values
values_sound literals most depth_left close deeper sound ws vs trailing rest e = either_values literals most depth_left close deeper sound (begins ws) ws vs trailing rest e

-- ---- composite literals, calls and names

grouped_of : (literals : Bool) (vs : List Expression) → AreAll (IsGrouped literals) vs → AreGrouped literals (expressions vs)
grouped_of literals [] all = tt
grouped_of literals (v ∷ vs) all = (all.0, grouped_of literals vs all.1)

last_of : (vs : List Expression) (trailing : Bool) → IsTrailing vs trailing → HasLast (expressions vs) trailing
last_of [] trailing last = last
last_of (v ∷ vs) trailing last = tt

-- the values of a literal or of a call, with its closing mark
record IsCollected (literals : Bool) (most depth_left : ℕ) (close : TokenKind) (make : Expressions → Bool → Expression) (ws : List Lexeme) (t : Expression) (rest : List Lexeme) : Type 0 where
  vs : Expressions
  trailing : Bool
  is : make vs trailing ≡ t
  parts : ws ≡ (expressions_words vs ++ closing kinds.Comma close trailing []) ++ rest
  grouped : AreGrouped literals vs
  last : HasLast vs trailing
  low : expressions_height vs ≤ depth_left
  few : AreFew (λ listing. max (entries listing (expressions_count vs)) (expressions_longest listing vs)) most

collected_sound : (literals : Bool) (most depth_left : ℕ) (close : TokenKind) (make : Expressions → Bool → Expression) (deeper : ℕ → List Lexeme → Reading Expression) → ReadsSoundly literals most deeper depth_left → (ws : List Lexeme) (t : Expression) (rest : List Lexeme)
    → (values deeper close most ws >>= λ all. Ok (with_rest (make (expressions all.0.0) all.0.1) all.1)) ≡ Ok (with_rest t rest) → IsCollected literals most depth_left close make ws t rest
collected_sound literals most depth_left close make deeper sound ws t rest e =
    let a = bind_ok (values deeper close most ws) (λ all. Ok (with_rest (make (expressions all.0.0) all.0.1) all.1)) (with_rest t rest) e in
    let vs = a.0.0.0 in
    let trailing = a.0.0.1 in
    let v = values_sound literals most depth_left close deeper sound ws vs trailing a.0.1 a.1 in
    let made = ok_is (with_rest (make (expressions vs) trailing) a.0.1) (with_rest t rest) a.2 in
    let same = ap (λ (xs : List Expression). joined before (following kinds.Comma) xs (closing kinds.Comma close trailing a.0.1)) (expressions_in-expressions vs) in
    subst (λ (x : Expression × List Lexeme). IsCollected literals most depth_left close make ws x.0 x.1) made (record {
      vs = expressions vs;
      trailing = trailing;
      is = refl;
      parts = v.parts ∙ sym same ∙ sym (closed_words close (expressions vs) trailing a.0.1);
      grouped = grouped_of literals vs v.are;
      last = last_of vs trailing v.last;
      low = omega (arith, v.low, expressions_height-of vs);
      few = λ listing. subst (λ (n : ℕ). max (entries listing n) (expressions_longest listing (expressions vs)) ≤ most) (sym (expressions_count-of vs)) (omega (arith, v.few listing, expressions_longest-of listing vs));
    })

composite_sound : (literals : Bool) (most : ℕ) (deeper : ℕ → List Lexeme → Reading Expression) (depth_left : ℕ) → ReadsSoundly literals most deeper depth_left → (name : List ℕ) (ws : List Lexeme) (t : Expression) (rest : List Lexeme) → IsTrue literals → is_builtin name ≡ false → composite deeper most name ws ≡ Ok (with_rest t rest) → IsOperand literals most (suc depth_left) (Name name ∷ Mark kinds.LeftBrace ∷ ws) t rest
unfolding composite
composite_sound literals most deeper depth_left sound name ws t rest here plain e =
    let c = collected_sound literals most depth_left kinds.RightBrace (Composite name) deeper sound ws t rest e in
    subst (λ (x : Expression). IsOperand literals most (suc depth_left) (Name name ∷ Mark kinds.LeftBrace ∷ ws) x rest) c.is (record {
      parts = ap (λ (x : List Lexeme). Name name ∷ Mark kinds.LeftBrace ∷ x) c.parts;
      grouped = (here, plain, c.grouped, c.last);
      low = omega (arith, c.low);
      few = c.few;
      strong = omega arith;
      none = none_strong rest;
    })

called_sound : (literals : Bool) (most : ℕ) (deeper : ℕ → List Lexeme → Reading Expression) (depth_left : ℕ) → ReadsSoundly literals most deeper depth_left → (name : List ℕ) (ws : List Lexeme) (t : Expression) (rest : List Lexeme) → is_builtin name ≡ false → called deeper most name ws ≡ Ok (with_rest t rest) → IsOperand literals most (suc depth_left) (Name name ∷ Mark kinds.LeftParenthesis ∷ ws) t rest
unfolding called
called_sound literals most deeper depth_left sound name ws t rest plain e =
    let c = collected_sound literals most depth_left kinds.RightParenthesis (Call name) deeper sound ws t rest e in
    subst (λ (x : Expression). IsOperand literals most (suc depth_left) (Name name ∷ Mark kinds.LeftParenthesis ∷ ws) x rest) c.is (record {
      parts = ap (λ (x : List Lexeme). Name name ∷ Mark kinds.LeftParenthesis ∷ x) c.parts;
      grouped = (plain, c.grouped, c.last);
      low = omega (arith, c.low);
      few = c.few;
      strong = omega arith;
      none = none_strong rest;
    })

name_sound : (literals : Bool) (most : ℕ) (depth_left : ℕ) (name : List ℕ) (ws : List Lexeme) (t : Expression) (rest : List Lexeme) → is_builtin name ≡ false → with_rest (Named name) ws ≡ with_rest t rest → IsOperand literals most (suc depth_left) (Name name ∷ ws) t rest
name_sound literals most depth_left name ws t rest plain e =
    subst (λ (x : Expression × List Lexeme). IsOperand literals most (suc depth_left) (Name name ∷ ws) x.0 x.1) e (record {
      parts = refl;
      grouped = plain;
      low = omega arith;
      few = λ listing. omega arith;
      strong = omega arith;
      none = none_strong ws;
    })

both_hold : (a b : Bool) → (a && b) ≡ true → IsTrue a × (b ≡ true)
both_hold true b e = (refl, e)
both_hold false b e = absurd cc

mark_after_sound : (literals : Bool) (most : ℕ) (deeper : ℕ → List Lexeme → Reading Expression) (depth_left : ℕ) → ReadsSoundly literals most deeper depth_left → (name : List ℕ) (kind : TokenKind) (ws : List Lexeme) (t : Expression) (rest : List Lexeme) → is_builtin name ≡ false
    → cond (is_kind kind kinds.LeftParenthesis) (called deeper most name ws) (cond (literals && is_kind kind kinds.LeftBrace) (composite deeper most name ws) (Ok (with_rest (Named name) (Mark kind ∷ ws)))) ≡ Ok (with_rest t rest)
    → IsOperand literals most (suc depth_left) (Name name ∷ Mark kind ∷ ws) t rest
mark_after_sound literals most deeper depth_left sound name kind ws t rest plain e =
    let on = λ (k : TokenKind). IsOperand literals most (suc depth_left) (Name name ∷ Mark k ∷ ws) t rest in
    let alone = Ok (with_rest (Named name) (Mark kind ∷ ws)) in
    elim (either (is_kind kind kinds.LeftParenthesis) (called deeper most name ws) (cond (literals && is_kind kind kinds.LeftBrace) (composite deeper most name ws) alone) (with_rest t rest) e) [
      | inl c ↦ subst on (sym (kind_is kind kinds.LeftParenthesis c.0)) (called_sound literals most deeper depth_left sound name ws t rest plain c.1)
      | inr other ↦ elim (either (literals && is_kind kind kinds.LeftBrace) (composite deeper most name ws) alone (with_rest t rest) other.1) [
        | inl c ↦
            let both = both_hold literals (is_kind kind kinds.LeftBrace) c.0 in
            subst on (sym (kind_is kind kinds.LeftBrace both.1)) (composite_sound literals most deeper depth_left sound name ws t rest both.0 plain c.1)
        | inr n ↦ name_sound literals most depth_left name (Mark kind ∷ ws) t rest plain (ok_is (with_rest (Named name) (Mark kind ∷ ws)) (with_rest t rest) n.1)
      ]
    ]

named_sound : (literals : Bool) (most : ℕ) (deeper : ℕ → List Lexeme → Reading Expression) (depth_left : ℕ) → ReadsSoundly literals most deeper depth_left → (name : List ℕ) (ws : List Lexeme) (t : Expression) (rest : List Lexeme) → is_builtin name ≡ false → named literals deeper most name ws ≡ Ok (with_rest t rest) → IsOperand literals most (suc depth_left) (Name name ∷ ws) t rest
unfolding named
named_sound literals most deeper depth_left sound name [] t rest plain e = name_sound literals most depth_left name [] t rest plain (ok_is (with_rest (Named name) []) (with_rest t rest) e)
named_sound literals most deeper depth_left sound name (Literal value ∷ ws) t rest plain e = name_sound literals most depth_left name (Literal value ∷ ws) t rest plain (ok_is (with_rest (Named name) (Literal value ∷ ws)) (with_rest t rest) e)
named_sound literals most deeper depth_left sound name (Name bytes ∷ ws) t rest plain e = name_sound literals most depth_left name (Name bytes ∷ ws) t rest plain (ok_is (with_rest (Named name) (Name bytes ∷ ws)) (with_rest t rest) e)
named_sound literals most deeper depth_left sound name (Text bytes ∷ ws) t rest plain e = name_sound literals most depth_left name (Text bytes ∷ ws) t rest plain (ok_is (with_rest (Named name) (Text bytes ∷ ws)) (with_rest t rest) e)
named_sound literals most deeper depth_left sound name (Mark kind ∷ ws) t rest plain e = mark_after_sound literals most deeper depth_left sound name kind ws t rest plain e

-- ---- calls of built-in functions

-- one argument in parentheses
pub argument_sound : (literals : Bool) (most : ℕ) (deeper : ℕ → List Lexeme → Reading Expression) (depth_left : ℕ) → ReadsSoundly literals most deeper depth_left → (ws : List Lexeme) (t : Expression) (rest : List Lexeme) → argument deeper ws ≡ Ok (with_rest t rest)
    → (ws ≡ Mark kinds.LeftParenthesis ∷ (expression_words t ++ (Mark kinds.RightParenthesis ∷ rest))) × IsGrouped literals t × (expression_height t ≤ depth_left) × AreFew (λ listing. expression_longest listing t) most
unfolding argument
argument_sound literals most deeper depth_left sound ws t rest e =
    let a = bind_ok (expect kinds.LeftParenthesis ws) (to_parenthesis deeper) (with_rest t rest) e in
    let s = to_parenthesis_sound literals most deeper depth_left sound a.0 t rest a.2 in
    (expect_is kinds.LeftParenthesis ws a.0 a.1 ∙ ap (λ (x : List Lexeme). Mark kinds.LeftParenthesis ∷ x) s.parts, s.grouped, s.low, s.few)

length_sound : (literals : Bool) (most : ℕ) (deeper : ℕ → List Lexeme → Reading Expression) (depth_left : ℕ) → ReadsSoundly literals most deeper depth_left → (ws : List Lexeme) (t : Expression) (rest : List Lexeme) → as_one Length (argument deeper ws) ≡ Ok (with_rest t rest) → IsOperand literals most (suc depth_left) (Name (codes "len") ∷ ws) t rest
length_sound literals most deeper depth_left sound ws t rest e =
    let a = made_is Length (argument deeper ws) t rest e in
    let s = argument_sound literals most deeper depth_left sound ws a.0 rest a.1 in
    subst (λ (x : Expression). IsOperand literals most (suc depth_left) (Name (codes "len") ∷ ws) x rest) a.2 (record {
      parts = ap (λ (x : List Lexeme). Name (codes "len") ∷ x) (s.0 ∙ ap (λ (x : List Lexeme). Mark kinds.LeftParenthesis ∷ x) (closed_parts a.0 rest));
      grouped = s.1;
      low = omega (arith, s.2);
      few = s.3;
      strong = omega arith;
      none = none_strong rest;
    })

capacity_sound : (literals : Bool) (most : ℕ) (deeper : ℕ → List Lexeme → Reading Expression) (depth_left : ℕ) → ReadsSoundly literals most deeper depth_left → (ws : List Lexeme) (t : Expression) (rest : List Lexeme) → as_one Capacity (argument deeper ws) ≡ Ok (with_rest t rest) → IsOperand literals most (suc depth_left) (Name (codes "cap") ∷ ws) t rest
capacity_sound literals most deeper depth_left sound ws t rest e =
    let a = made_is Capacity (argument deeper ws) t rest e in
    let s = argument_sound literals most deeper depth_left sound ws a.0 rest a.1 in
    subst (λ (x : Expression). IsOperand literals most (suc depth_left) (Name (codes "cap") ∷ ws) x rest) a.2 (record {
      parts = ap (λ (x : List Lexeme). Name (codes "cap") ∷ x) (s.0 ∙ ap (λ (x : List Lexeme). Mark kinds.LeftParenthesis ∷ x) (closed_parts a.0 rest));
      grouped = s.1;
      low = omega (arith, s.2);
      few = s.3;
      strong = omega arith;
      none = none_strong rest;
    })

-- a `make` after its type
record IsMade (literals : Bool) (most depth_left : ℕ) (channel : TypeExpression) (ws : List Lexeme) (t : Expression) (rest : List Lexeme) : Type 0 where
  parts : Name (codes "make") ∷ Mark kinds.LeftParenthesis ∷ (type_words channel ++ ws) ≡ expression_words t ++ rest
  grouped : IsType channel → IsGrouped literals t
  low : type_height channel ≤ depth_left → expression_height t ≤ suc depth_left
  few : AreFew (λ listing. expression_longest listing t) most
  strong : outer_precedence t ≡ 7

plain_made : (literals : Bool) (most depth_left : ℕ) (channel : TypeExpression) (rest : List Lexeme) → IsMade literals most depth_left channel (Mark kinds.RightParenthesis ∷ rest) (Make channel) rest
plain_made literals most depth_left channel rest = record {
  parts = ap (λ (x : List Lexeme). Name (codes "make") ∷ Mark kinds.LeftParenthesis ∷ x) (sym (append_assoc (type_words channel) (Mark kinds.RightParenthesis ∷ []) rest));
  grouped = λ is. is;
  low = λ low. omega (arith, low);
  few = λ listing. omega arith;
  strong = refl;
}

sized_words : (channel : TypeExpression) (size : Expression) (rest : List Lexeme)
    → type_words channel ++ (Mark kinds.Comma ∷ (expression_words size ++ (Mark kinds.RightParenthesis ∷ rest))) ≡ ((type_words channel ++ (Mark kinds.Comma ∷ expression_words size)) ++ (Mark kinds.RightParenthesis ∷ [])) ++ rest
sized_words channel size rest =
    sym (append_assoc (type_words channel ++ (Mark kinds.Comma ∷ expression_words size)) (Mark kinds.RightParenthesis ∷ []) rest
    ∙ append_assoc (type_words channel) (Mark kinds.Comma ∷ expression_words size) (Mark kinds.RightParenthesis ∷ rest))

with_size : (literals : Bool) (most : ℕ) (deeper : ℕ → List Lexeme → Reading Expression) (depth_left : ℕ) → ReadsSoundly literals most deeper depth_left → (channel : TypeExpression) (ws : List Lexeme) (t : Expression) (rest : List Lexeme)
    → as_one (MakeSized channel) (to_parenthesis deeper ws) ≡ Ok (with_rest t rest) → IsMade literals most depth_left channel (Mark kinds.Comma ∷ ws) t rest
with_size literals most deeper depth_left sound channel ws t rest e =
    let a = made_is (MakeSized channel) (to_parenthesis deeper ws) t rest e in
    let s = to_parenthesis_sound literals most deeper depth_left sound ws a.0 rest a.1 in
    let after_type = ap (λ (x : List Lexeme). type_words channel ++ (Mark kinds.Comma ∷ x)) s.parts ∙ sized_words channel a.0 rest in
    subst (λ (x : Expression). IsMade literals most depth_left channel (Mark kinds.Comma ∷ ws) x rest) a.2 (record {
      parts = ap (λ (x : List Lexeme). Name (codes "make") ∷ Mark kinds.LeftParenthesis ∷ x) after_type;
      grouped = λ is. (is, s.grouped);
      low = λ low. omega (arith, low, s.low);
      few = s.few;
      strong = refl;
    })

sized_sound : (literals : Bool) (most : ℕ) (deeper : ℕ → List Lexeme → Reading Expression) (depth_left : ℕ) → ReadsSoundly literals most deeper depth_left → (channel : TypeExpression) (ws : List Lexeme) (t : Expression) (rest : List Lexeme) → sized deeper channel ws ≡ Ok (with_rest t rest) → IsMade literals most depth_left channel ws t rest
unfolding sized
sized_sound literals most deeper depth_left sound channel [] t rest e = absurd cc
sized_sound literals most deeper depth_left sound channel (Literal value ∷ ws) t rest e = absurd cc
sized_sound literals most deeper depth_left sound channel (Name bytes ∷ ws) t rest e = absurd cc
sized_sound literals most deeper depth_left sound channel (Text bytes ∷ ws) t rest e = absurd cc
sized_sound literals most deeper depth_left sound channel (Mark kind ∷ ws) t rest e =
    elim (either (is_kind kind kinds.Comma) (as_one (MakeSized channel) (to_parenthesis deeper ws)) (expect kinds.RightParenthesis (Mark kind ∷ ws) >>= λ after. Ok (with_rest (Make channel) after)) (with_rest t rest) e) [
      | inl c ↦ subst (λ (k : TokenKind). IsMade literals most depth_left channel (Mark k ∷ ws) t rest) (sym (kind_is kind kinds.Comma c.0)) (with_size literals most deeper depth_left sound channel ws t rest c.1)
      | inr p ↦
          let a = bind_ok (expect kinds.RightParenthesis (Mark kind ∷ ws)) (λ after. Ok (with_rest (Make channel) after)) (with_rest t rest) p.1 in
          subst (λ (x : List Lexeme). IsMade literals most depth_left channel x t rest) (sym (expect_is kinds.RightParenthesis (Mark kind ∷ ws) a.0 a.1))
          (subst (λ (x : Expression × List Lexeme). IsMade literals most depth_left channel (Mark kinds.RightParenthesis ∷ a.0) x.0 x.1) (ok_is (with_rest (Make channel) a.0) (with_rest t rest) a.2) (plain_made literals most depth_left channel a.0))
    ]

made_sound : (literals : Bool) (most : ℕ) (deeper : ℕ → List Lexeme → Reading Expression) (depth_left : ℕ) → ReadsSoundly literals most deeper depth_left → (ws : List Lexeme) (t : Expression) (rest : List Lexeme) → made deeper depth_left ws ≡ Ok (with_rest t rest) → IsOperand literals most (suc depth_left) (Name (codes "make") ∷ ws) t rest
unfolding made
made_sound literals most deeper depth_left sound ws t rest e =
    let a = bind_ok (expect kinds.LeftParenthesis ws) (λ inside. type_at depth_left inside >>= λ channel. sized deeper channel.0 channel.1) (with_rest t rest) e in
    let b = bind_ok (type_at depth_left a.0) (λ channel. sized deeper channel.0 channel.1) (with_rest t rest) a.2 in
    let y = type_sound depth_left a.0 b.0.0 b.0.1 b.1 in
    let m = sized_sound literals most deeper depth_left sound b.0.0 b.0.1 t rest b.2 in
    record {
      parts = ap (λ (x : List Lexeme). Name (codes "make") ∷ x) (expect_is kinds.LeftParenthesis ws a.0 a.1 ∙ ap (λ (x : List Lexeme). Mark kinds.LeftParenthesis ∷ x) y.parts) ∙ m.parts;
      grouped = m.grouped y.is;
      low = m.low y.low;
      few = m.few;
      strong = omega (arith, m.strong);
      none = subst (λ (n : ℕ). step_at (suc n) rest ≡ None) (sym m.strong) (none_strong rest);
    }

builtin_sound : (literals : Bool) (most : ℕ) (deeper : ℕ → List Lexeme → Reading Expression) (depth_left : ℕ) → ReadsSoundly literals most deeper depth_left → (name : List ℕ) (ws : List Lexeme) (t : Expression) (rest : List Lexeme) → builtin deeper depth_left name ws ≡ Ok (with_rest t rest) → IsOperand literals most (suc depth_left) (Name name ∷ ws) t rest
unfolding builtin
builtin_sound literals most deeper depth_left sound name ws t rest e =
    let on = λ (x : List ℕ). IsOperand literals most (suc depth_left) (Name x ∷ ws) t rest in
    let makes = needing 1 depth_left (made deeper depth_left ws) in
    let measures = needing 1 depth_left (as_one Length (argument deeper ws)) in
    let holds = needing 1 depth_left (as_one Capacity (argument deeper ws)) in
    elim (either (bytes_eq name (codes "make")) makes (cond (bytes_eq name (codes "len")) measures (cond (bytes_eq name (codes "cap")) holds (Err Syntax))) (with_rest t rest) e) [
      | inl m ↦ subst on (sym (bytes_are name (codes "make") m.0)) (made_sound literals most deeper depth_left sound ws t rest (needing_ok 1 depth_left (made deeper depth_left ws) (with_rest t rest) m.1))
      | inr other ↦ elim (either (bytes_eq name (codes "len")) measures (cond (bytes_eq name (codes "cap")) holds (Err Syntax)) (with_rest t rest) other.1) [
        | inl l ↦ subst on (sym (bytes_are name (codes "len") l.0)) (length_sound literals most deeper depth_left sound ws t rest (needing_ok 1 depth_left (as_one Length (argument deeper ws)) (with_rest t rest) l.1))
        | inr neither ↦
            let w = when_ok (bytes_eq name (codes "cap")) Syntax holds (with_rest t rest) neither.1 in
            subst on (sym (bytes_are name (codes "cap") w.0)) (capacity_sound literals most deeper depth_left sound ws t rest (needing_ok 1 depth_left (as_one Capacity (argument deeper ws)) (with_rest t rest) w.1))
      ]
    ]

-- ---- operands and what follows

mark_sound : (literals : Bool) (most : ℕ) (deeper : ℕ → List Lexeme → Reading Expression) (depth_left : ℕ) → ReadsSoundly literals most deeper depth_left → (kind : TokenKind) (ws : List Lexeme) (t : Expression) (rest : List Lexeme)
    → cond (is_kind kind kinds.LeftParenthesis) (as_one Parenthesized (to_parenthesis deeper ws)) (cond (is_kind kind kinds.Arrow) (as_one Receive (deeper 6 ws)) (negated deeper ws (unary_of kind))) ≡ Ok (with_rest t rest)
    → IsOperand literals most (suc depth_left) (Mark kind ∷ ws) t rest
mark_sound literals most deeper depth_left sound kind ws t rest e =
    let on = λ (k : TokenKind). IsOperand literals most (suc depth_left) (Mark k ∷ ws) t rest in
    elim (either (is_kind kind kinds.LeftParenthesis) (as_one Parenthesized (to_parenthesis deeper ws)) (cond (is_kind kind kinds.Arrow) (as_one Receive (deeper 6 ws)) (negated deeper ws (unary_of kind))) (with_rest t rest) e) [
      | inl p ↦ subst on (sym (kind_is kind kinds.LeftParenthesis p.0)) (parenthesized_sound literals most deeper depth_left sound ws t rest p.1)
      | inr other ↦ elim (either (is_kind kind kinds.Arrow) (as_one Receive (deeper 6 ws)) (negated deeper ws (unary_of kind)) (with_rest t rest) other.1) [
        | inl r ↦ subst on (sym (kind_is kind kinds.Arrow r.0)) (receive_sound literals most deeper depth_left sound ws t rest r.1)
        | inr u ↦ negated_sound literals most deeper depth_left sound kind ws (unary_of kind) t rest refl u.1
      ]
    ]

pub operand_sound : (literals : Bool) (most : ℕ) (deeper : ℕ → List Lexeme → Reading Expression) (depth_left : ℕ) → ReadsSoundly literals most deeper depth_left → (ws : List Lexeme) (t : Expression) (rest : List Lexeme) → operand literals deeper depth_left most ws ≡ Ok (t, rest) → IsOperand literals most (suc depth_left) ws t rest
unfolding operand
operand_sound literals most deeper depth_left sound [] t rest e = absurd cc
operand_sound literals most deeper depth_left sound (Literal value ∷ ws) t rest e =
    subst (λ (x : Expression × List Lexeme). IsOperand literals most (suc depth_left) (Literal value ∷ ws) x.0 x.1) (ok_is (with_rest (Integer value) ws) (t, rest) e)
    (record { parts = refl; grouped = tt; low = omega arith; few = λ listing. omega arith; strong = omega arith; none = none_strong ws })
operand_sound literals most deeper depth_left sound (Name name ∷ ws) t rest e =
    elim (either (is_builtin name) (builtin deeper depth_left name ws) (named literals deeper most name ws) (with_rest t rest) e) [
      | inl b ↦ builtin_sound literals most deeper depth_left sound name ws t rest b.1
      | inr n ↦ named_sound literals most deeper depth_left sound name ws t rest n.0 n.1
    ]
operand_sound literals most deeper depth_left sound (Text bytes ∷ ws) t rest e = absurd cc
operand_sound literals most deeper depth_left sound (Mark kind ∷ ws) t rest e = mark_sound literals most deeper depth_left sound kind ws t rest e

-- what follows an operand, which may itself be as high as a limit
abbrev pub GoesOn : Bool → ℕ → (Expression → List Lexeme → Reading Expression) → (limit least : ℕ) → Type 0
GoesOn literals most next limit least = (left : Expression) (ws : List Lexeme) (t : Expression) (rest : List Lexeme) → IsGrouped literals left → expression_height left ≤ limit → AreFew (λ listing. expression_longest listing left) most → min least 6 ≤ outer_precedence left → step_at (suc (outer_precedence left)) ws ≡ None → next left ws ≡ Ok (t, rest)
    → IsSound literals most limit least (expression_words left ++ ws) t rest

-- what a step makes of what was read before
record IsApplied (literals : Bool) (most depth_left : ℕ) (left : Expression) (s : Infix) (after : List Lexeme) (t : Expression) (rest : List Lexeme) : Type 0 where
  parts : expression_words left ++ (Mark (step_kind s) ∷ after) ≡ expression_words t ++ rest
  grouped : IsGrouped literals t
  low : expression_height t ≤ suc depth_left
  few : AreFew (λ listing. expression_longest listing t) most
  strong : outer_precedence t ≡ strength s
  none : step_at (suc (outer_precedence t)) rest ≡ None

applied_sound : (literals : Bool) (most : ℕ) (deeper : ℕ → List Lexeme → Reading Expression) (depth_left : ℕ) → ReadsSoundly literals most deeper depth_left → (left : Expression) (s : Infix) (after : List Lexeme) (t : Expression) (rest : List Lexeme) → IsGrouped literals left → expression_height left ≤ depth_left → AreFew (λ listing. expression_longest listing left) most → strength s ≤ outer_precedence left
    → applied deeper left (s, after) ≡ Ok (with_rest t rest) → IsApplied literals most depth_left left s after t rest
applied_sound literals most deeper depth_left sound left (Operator o) after t rest grouped low few order e =
    let a = bind_ok (deeper (precedence o + 1) after) (λ right. Ok (with_rest (Binary o left right.0) right.1)) (with_rest t rest) e in
    let one_more : precedence o + 1 ≡ suc (precedence o) = omega arith in
    let r = sound (precedence o + 1) after a.0.0 a.0.1 a.1 in
    subst (λ (x : Expression × List Lexeme). IsApplied literals most depth_left left (Operator o) after x.0 x.1) (ok_is (with_rest (Binary o left a.0.0) a.0.1) (with_rest t rest) a.2) (record {
      parts = ap (λ (x : List Lexeme). expression_words left ++ (Mark (binary_kind o) ∷ x)) r.parts ∙ sym (append_assoc (expression_words left) (Mark (binary_kind o) ∷ expression_words a.0.0) a.0.1);
      grouped = (grouped, r.grouped, order, omega (arith, r.strong, precedence-lt o));
      low = omega (arith, r.low);
      few = λ listing. omega (arith, few listing, r.few listing);
      strong = refl;
      none = subst (λ (n : ℕ). step_at n a.0.1 ≡ None) one_more r.none;
    })
applied_sound literals most deeper depth_left sound left Period after t rest grouped low few order e =
    let a = bind_ok (plain_name after) (λ field. Ok (with_rest (Selection left field.0) field.1)) (with_rest t rest) e in
    let n = plain_name_is after a.0.0 a.0.1 a.1 in
    subst (λ (x : Expression × List Lexeme). IsApplied literals most depth_left left Period after x.0 x.1) (ok_is (with_rest (Selection left a.0.0) a.0.1) (with_rest t rest) a.2) (record {
      parts = ap (λ (x : List Lexeme). expression_words left ++ (Mark kinds.Period ∷ x)) n.0 ∙ sym (append_assoc (expression_words left) (Mark kinds.Period ∷ Name a.0.0 ∷ []) a.0.1);
      grouped = (grouped, omega (arith, outer_precedence-le left), n.1);
      low = omega arith;
      few = few;
      strong = refl;
      none = none_strong a.0.1;
    })

operation_sound : (literals : Bool) (most : ℕ) (deeper : ℕ → List Lexeme → Reading Expression) (next : Expression → List Lexeme → Reading Expression) (depth_left limit least : ℕ) → suc depth_left ≤ limit → ReadsSoundly literals most deeper depth_left → GoesOn literals most next limit least
    → (left : Expression) (ws : List Lexeme) (found : Option (Infix × List Lexeme)) (t : Expression) (rest : List Lexeme) → IsGrouped literals left → expression_height left ≤ limit → AreFew (λ listing. expression_longest listing left) most → min least 6 ≤ outer_precedence left → step_at (suc (outer_precedence left)) ws ≡ None
    → step_at least ws ≡ found → operation deeper next (suc depth_left) left ws found ≡ Ok (t, rest) → IsSound literals most limit least (expression_words left ++ ws) t rest
unfolding operation
operation_sound literals most deeper next depth_left limit least enough sound goes left ws None t rest grouped low few strong none is e =
    subst (λ (x : Expression × List Lexeme). IsSound literals most limit least (expression_words left ++ ws) x.0 x.1) (ok_is (with_rest left ws) (t, rest) e) (record { parts = refl; grouped = grouped; low = low; few = few; strong = strong; none = is })
operation_sound literals most deeper next depth_left limit least enough sound goes left ws (Some found) t rest grouped low few strong none is e =
    let s = found.0 in
    let after = found.1 in
    let at = step_is least ws s after is in
    let g = unless_ok (leb (suc depth_left) (expression_height left)) TooDeep (applied deeper left (s, after) >>= λ more. next more.0 more.1) (t, rest) e in
    let lower : expression_height left < suc depth_left = leb-false _ _ g.0 in
    let b = bind_ok (applied deeper left (s, after)) (λ more. next more.0 more.1) (t, rest) g.1 in
    let order = order_of (outer_precedence left) ws s after at.0 none in
    let a = applied_sound literals most deeper depth_left sound left s after b.0.0 b.0.1 grouped (omega arith) few order b.1 in
    let r = goes b.0.0 b.0.1 t rest a.grouped (omega (arith, a.low, enough)) a.few (omega (arith, a.strong, at.1)) a.none b.2 in
    record {
      parts = ap (λ (x : List Lexeme). expression_words left ++ x) at.0 ∙ a.parts ∙ r.parts;
      grouped = r.grouped;
      low = r.low;
      few = r.few;
      strong = r.strong;
      none = r.none;
    }

pub operations_sound : (literals : Bool) (most : ℕ) (deeper : ℕ → List Lexeme → Reading Expression) (depth_left limit least : ℕ) → suc depth_left ≤ limit → ReadsSoundly literals most deeper depth_left → (turns : ℕ) → GoesOn literals most (operations deeper (suc depth_left) least turns) limit least
unfolding operations
operations_sound literals most deeper depth_left limit least enough sound zero left ws t rest grouped low few strong none e = absurd cc
operations_sound literals most deeper depth_left limit least enough sound (suc turns) left ws t rest grouped low few strong none e =
    operation_sound literals most deeper (operations deeper (suc depth_left) least turns) depth_left limit least enough sound (operations_sound literals most deeper depth_left limit least enough sound turns) left ws (step_at least ws) t rest grouped low few strong none refl e

pub expression_sound : (literals : Bool) (most depth_left : ℕ) → ReadsSoundly literals most (expression literals most depth_left) depth_left
unfolding expression
expression_sound literals most zero least ws t rest e = absurd cc
expression_sound literals most (suc depth_left) least ws t rest e =
    let deeper = expression literals most depth_left in
    let a = bind_ok (operand literals deeper depth_left most ws) (λ first. operations deeper (suc depth_left) least (suc depth_left) first.0 first.1) (t, rest) e in
    let first = operand_sound literals most deeper depth_left (expression_sound literals most depth_left) ws a.0.0 a.0.1 a.1 in
    let s = operations_sound literals most deeper depth_left (suc depth_left) least (omega arith) (expression_sound literals most depth_left) (suc depth_left) a.0.0 a.0.1 t rest first.grouped first.low first.few (omega (arith, first.strong)) first.none a.2 in
    record { parts = first.parts ∙ s.parts; grouped = s.grouped; low = s.low; few = s.few; strong = s.strong; none = s.none }
