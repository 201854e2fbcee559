-- Types: what is spelt is read, and what is read is spelt so.
use Rattle.std.proofs.Common.{◌≡◌, ℕ, zero, suc, ◌+◌, ◌<◌, ◌≤◌, Bool, true, false, cond, List, [], ◌∷◌, ◌++◌, length, Ok, Err, refl, sym, ap, ◌∙◌, subst, arith, append_assoc, length-append}
use Rattle.scanner.specs.declared.kind.TokenKind.{TokenKind}
use Rattle.scanner.specs.declared.kind.TokenKind.TheVariants as kinds
use Rattle.syntax.specs.declared.node.Direction.{Direction}
use Rattle.syntax.specs.declared.node.Direction.TheVariants as directions
use Rattle.syntax.specs.Tree.{TypeExpression, NamedType, ParenthesizedType, Channel}
use Rattle.syntax.specs.Measures.{type_height, type_size}
use Rattle.parser_base.specs.Lexemes.{Lexeme, Literal, Name, Text, Mark}
use Rattle.parser_base.specs.Spelling.{is_builtin, direction_words, type_words, is_receiver, IsElement, IsType}
use Rattle.parser_base.specs.Reading.{Syntax, TooDeep, Reading, ◌>>=◌, is_kind, expect, parenthesized_type, channel_type, after_chan, after_arrow, type_at}
use Rattle.parser_base.proofs.Marks.{bind_ok, unless_ok, ok_is, kind_is, expect_is, expect_again}

-- ---- what is spelt is read

-- what is read of a type's words: the type, unless it is too high
pub data TypeOutcome (read : Reading TypeExpression) (t : TypeExpression) (rest : List Lexeme) (height depth_left : ℕ) : Type 0 where
  Found : height ≤ depth_left → read ≡ Ok (t, rest) → TypeOutcome read t rest height depth_left
  High : depth_left < height → read ≡ Err TooDeep → TypeOutcome read t rest height depth_left

pub type_height_positive : (t : TypeExpression) → 1 ≤ type_height t
type_height_positive (NamedType name) = omega arith
type_height_positive (ParenthesizedType inner) = omega arith
type_height_positive (Channel direction element) = omega arith

-- after `chan`, a type that is no channel to receive from stands for the elements
both_again : (deeper : List Lexeme → Reading TypeExpression) (element : TypeExpression) (rest : List Lexeme) → is_receiver element ≡ false → after_chan deeper (type_words element ++ rest) ≡ channel_type directions.Both deeper (type_words element ++ rest)
unfolding after_chan
both_again deeper (NamedType name) rest other = refl
both_again deeper (ParenthesizedType inner) rest other = refl
both_again deeper (Channel directions.Both element) rest other = refl
both_again deeper (Channel directions.Send element) rest other = refl
both_again deeper (Channel directions.Receive element) rest other = absurd cc

send_again : (deeper : List Lexeme → Reading TypeExpression) (rest : List Lexeme) → after_chan deeper (Mark kinds.Arrow ∷ rest) ≡ channel_type directions.Send deeper rest
unfolding after_chan
send_again deeper rest = refl

receive_again : (deeper : List Lexeme → Reading TypeExpression) (rest : List Lexeme) → after_arrow deeper (Mark kinds.Chan ∷ rest) ≡ channel_type directions.Receive deeper rest
unfolding after_arrow
receive_again deeper rest = rw (expect_again kinds.Chan rest) refl

-- a channel type is read by what it begins with
direction_again : (depth_left : ℕ) (direction : Direction) (element : TypeExpression) (rest : List Lexeme) → IsElement direction element
    → type_at (suc depth_left) (type_words (Channel direction element) ++ rest) ≡ channel_type direction (type_at depth_left) (type_words element ++ rest)
unfolding type_at
direction_again depth_left directions.Both element rest is = both_again (type_at depth_left) element rest is
direction_again depth_left directions.Send element rest is = send_again (type_at depth_left) (type_words element ++ rest)
direction_again depth_left directions.Receive element rest is = receive_again (type_at depth_left) (type_words element ++ rest)

parenthesized_again : (depth_left : ℕ) (inner : TypeExpression) (rest : List Lexeme)
    → type_at (suc depth_left) (type_words (ParenthesizedType inner) ++ rest) ≡ parenthesized_type (type_at depth_left) (type_words inner ++ (Mark kinds.RightParenthesis ∷ rest))
unfolding type_at
parenthesized_again depth_left inner rest = ap (parenthesized_type (type_at depth_left)) (append_assoc (type_words inner) (Mark kinds.RightParenthesis ∷ []) rest)

closed_again : (depth_left : ℕ) (inner : TypeExpression) (rest : List Lexeme) (read : Reading TypeExpression) → read ≡ parenthesized_type (type_at depth_left) (type_words inner ++ (Mark kinds.RightParenthesis ∷ rest))
    → TypeOutcome (type_at depth_left (type_words inner ++ (Mark kinds.RightParenthesis ∷ rest))) inner (Mark kinds.RightParenthesis ∷ rest) (type_height inner) depth_left → TypeOutcome read (ParenthesizedType inner) rest (suc (type_height inner)) (suc depth_left)
unfolding parenthesized_type
closed_again depth_left inner rest read is (Found low e) = Found (omega arith) (is ∙ rw (e, expect_again kinds.RightParenthesis rest) refl)
closed_again depth_left inner rest read is (High high e) = High (omega arith) (is ∙ rw e refl)

element_again : (depth_left : ℕ) (direction : Direction) (element : TypeExpression) (rest : List Lexeme) (read : Reading TypeExpression) → read ≡ channel_type direction (type_at depth_left) (type_words element ++ rest)
    → TypeOutcome (type_at depth_left (type_words element ++ rest)) element rest (type_height element) depth_left → TypeOutcome read (Channel direction element) rest (suc (type_height element)) (suc depth_left)
element_again depth_left direction element rest read is (Found low e) = Found (omega arith) (is ∙ rw e refl)
element_again depth_left direction element rest read is (High high e) = High (omega arith) (is ∙ rw e refl)

no_depth_left : (t : TypeExpression) (rest : List Lexeme) → TypeOutcome (type_at 0 (type_words t ++ rest)) t rest (type_height t) 0
unfolding type_at
no_depth_left t rest = High (type_height_positive t) refl

name_again : (depth_left : ℕ) (name : List ℕ) (rest : List Lexeme) → is_builtin name ≡ false → TypeOutcome (type_at (suc depth_left) (Name name ∷ rest)) (NamedType name) rest 1 (suc depth_left)
unfolding type_at
name_again depth_left name rest plain = Found (omega arith) (rw plain refl)

pub type_again : (depth_left : ℕ) (t : TypeExpression) (rest : List Lexeme) → IsType t → TypeOutcome (type_at depth_left (type_words t ++ rest)) t rest (type_height t) depth_left
type_again zero t rest is = no_depth_left t rest
type_again (suc depth_left) (NamedType name) rest is = name_again depth_left name rest is
type_again (suc depth_left) (ParenthesizedType inner) rest is =
    closed_again depth_left inner rest _ (parenthesized_again depth_left inner rest) (type_again depth_left inner (Mark kinds.RightParenthesis ∷ rest) is)
type_again (suc depth_left) (Channel direction element) rest is =
    element_again depth_left direction element rest _ (direction_again depth_left direction element rest is.1) (type_again depth_left element rest is.0)

-- ---- what is read is spelt so

pub record IsTypeSound (depth_left : ℕ) (words : List Lexeme) (t : TypeExpression) (rest : List Lexeme) : Type 0 where
  pub parts : words ≡ type_words t ++ rest
  pub is : IsType t
  pub low : type_height t ≤ depth_left

abbrev ReadsTypes : (List Lexeme → Reading TypeExpression) → ℕ → Type 0
ReadsTypes deeper depth_left = (words : List Lexeme) (t : TypeExpression) (rest : List Lexeme) → deeper words ≡ Ok (t, rest) → IsTypeSound depth_left words t rest

abbrev with_rest : TypeExpression → List Lexeme → TypeExpression × List Lexeme
with_rest t rest = (t, rest)

abbrev closes : TypeExpression × List Lexeme → Reading TypeExpression
closes inner = expect kinds.RightParenthesis inner.1 >>= λ after. Ok (with_rest (ParenthesizedType inner.0) after)

parenthesized_sound : (deeper : List Lexeme → Reading TypeExpression) (depth_left : ℕ) → ReadsTypes deeper depth_left → (ws : List Lexeme) (t : TypeExpression) (rest : List Lexeme) → parenthesized_type deeper ws ≡ Ok (with_rest t rest) → IsTypeSound (suc depth_left) (Mark kinds.LeftParenthesis ∷ ws) t rest
unfolding parenthesized_type
parenthesized_sound deeper depth_left sound ws t rest e =
    let a = bind_ok (deeper ws) closes (with_rest t rest) e in
    let b = bind_ok (expect kinds.RightParenthesis a.0.1) (λ after. Ok (with_rest (ParenthesizedType a.0.0) after)) (with_rest t rest) a.2 in
    let s = sound ws a.0.0 a.0.1 a.1 in
    let c = expect_is kinds.RightParenthesis a.0.1 b.0 b.1 in
    subst (λ (x : TypeExpression × List Lexeme). IsTypeSound (suc depth_left) (Mark kinds.LeftParenthesis ∷ ws) x.0 x.1) (ok_is (with_rest (ParenthesizedType a.0.0) b.0) (with_rest t rest) b.2) (record {
      parts = ap (λ (x : List Lexeme). Mark kinds.LeftParenthesis ∷ x) (s.parts ∙ ap (λ (x : List Lexeme). type_words a.0.0 ++ x) c ∙ sym (append_assoc (type_words a.0.0) (Mark kinds.RightParenthesis ∷ []) b.0));
      is = s.is;
      low = omega (arith, s.low);
    })

words_after : (direction : Direction) (element : TypeExpression) (rest : List Lexeme) → direction_words direction (type_words element ++ rest) ≡ type_words (Channel direction element) ++ rest
words_after directions.Both element rest = refl
words_after directions.Send element rest = refl
words_after directions.Receive element rest = refl

channel_sound : (direction : Direction) (deeper : List Lexeme → Reading TypeExpression) (depth_left : ℕ) → ReadsTypes deeper depth_left → (ws : List Lexeme) (t : TypeExpression) (rest : List Lexeme)
    → ((element : TypeExpression) (after : List Lexeme) → ws ≡ type_words element ++ after → IsElement direction element) → channel_type direction deeper ws ≡ Ok (with_rest t rest) → IsTypeSound (suc depth_left) (direction_words direction ws) t rest
channel_sound direction deeper depth_left sound ws t rest element e =
    let a = bind_ok (deeper ws) (λ found. Ok (with_rest (Channel direction found.0) found.1)) (with_rest t rest) e in
    let s = sound ws a.0.0 a.0.1 a.1 in
    subst (λ (x : TypeExpression × List Lexeme). IsTypeSound (suc depth_left) (direction_words direction ws) x.0 x.1) (ok_is (with_rest (Channel direction a.0.0) a.0.1) (with_rest t rest) a.2) (record {
      parts = ap (direction_words direction) s.parts ∙ words_after direction a.0.0 a.0.1;
      is = (s.is, element a.0.0 a.0.1 s.parts);
      low = omega (arith, s.low);
    })

-- whether these begin with `<-`
abbrev is_arrow : List Lexeme → Bool
is_arrow [] = false
is_arrow (Literal value ∷ rest) = false
is_arrow (Name name ∷ rest) = false
is_arrow (Text bytes ∷ rest) = false
is_arrow (Mark kind ∷ rest) = is_kind kind kinds.Arrow

no_receiver : (element : TypeExpression) (after : List Lexeme) → is_arrow (type_words element ++ after) ≡ false → is_receiver element ≡ false
no_receiver (NamedType name) after is = refl
no_receiver (ParenthesizedType inner) after is = refl
no_receiver (Channel directions.Both element) after is = refl
no_receiver (Channel directions.Send element) after is = refl
no_receiver (Channel directions.Receive element) after is = absurd cc

both_sound : (deeper : List Lexeme → Reading TypeExpression) (depth_left : ℕ) → ReadsTypes deeper depth_left → (ws : List Lexeme) (t : TypeExpression) (rest : List Lexeme) → is_arrow ws ≡ false → channel_type directions.Both deeper ws ≡ Ok (with_rest t rest) → IsTypeSound (suc depth_left) (Mark kinds.Chan ∷ ws) t rest
both_sound deeper depth_left sound ws t rest other e =
    channel_sound directions.Both deeper depth_left sound ws t rest (λ element after is. no_receiver element after (sym (ap is_arrow is) ∙ other)) e

arrow_sound : (deeper : List Lexeme → Reading TypeExpression) (depth_left : ℕ) → ReadsTypes deeper depth_left → (kind : TokenKind) (b : Bool) (ws : List Lexeme) (t : TypeExpression) (rest : List Lexeme) → is_kind kind kinds.Arrow ≡ b
    → cond b (channel_type directions.Send deeper ws) (channel_type directions.Both deeper (Mark kind ∷ ws)) ≡ Ok (with_rest t rest) → IsTypeSound (suc depth_left) (Mark kinds.Chan ∷ Mark kind ∷ ws) t rest
arrow_sound deeper depth_left sound kind true ws t rest is e =
    subst (λ (k : TokenKind). IsTypeSound (suc depth_left) (Mark kinds.Chan ∷ Mark k ∷ ws) t rest) (sym (kind_is kind kinds.Arrow is)) (channel_sound directions.Send deeper depth_left sound ws t rest (λ element after is. tt) e)
arrow_sound deeper depth_left sound kind false ws t rest is e = both_sound deeper depth_left sound (Mark kind ∷ ws) t rest is e

chan_sound : (deeper : List Lexeme → Reading TypeExpression) (depth_left : ℕ) → ReadsTypes deeper depth_left → (ws : List Lexeme) (t : TypeExpression) (rest : List Lexeme) → after_chan deeper ws ≡ Ok (with_rest t rest) → IsTypeSound (suc depth_left) (Mark kinds.Chan ∷ ws) t rest
unfolding after_chan
chan_sound deeper depth_left sound [] t rest e = both_sound deeper depth_left sound [] t rest refl e
chan_sound deeper depth_left sound (Literal value ∷ ws) t rest e = both_sound deeper depth_left sound (Literal value ∷ ws) t rest refl e
chan_sound deeper depth_left sound (Name name ∷ ws) t rest e = both_sound deeper depth_left sound (Name name ∷ ws) t rest refl e
chan_sound deeper depth_left sound (Text bytes ∷ ws) t rest e = both_sound deeper depth_left sound (Text bytes ∷ ws) t rest refl e
chan_sound deeper depth_left sound (Mark kind ∷ ws) t rest e = arrow_sound deeper depth_left sound kind (is_kind kind kinds.Arrow) ws t rest refl e

receive_sound : (deeper : List Lexeme → Reading TypeExpression) (depth_left : ℕ) → ReadsTypes deeper depth_left → (kind : TokenKind) (b : Bool) (ws : List Lexeme) (t : TypeExpression) (rest : List Lexeme) → is_kind kind kinds.Arrow ≡ b
    → cond b (after_arrow deeper ws) (Err Syntax) ≡ Ok (with_rest t rest) → IsTypeSound (suc depth_left) (Mark kind ∷ ws) t rest
unfolding after_arrow
receive_sound deeper depth_left sound kind true ws t rest is e =
    let a = bind_ok (expect kinds.Chan ws) (channel_type directions.Receive deeper) (with_rest t rest) e in
    let both : Mark kind ∷ ws ≡ Mark kinds.Arrow ∷ Mark kinds.Chan ∷ a.0 = λ i. Mark (kind_is kind kinds.Arrow is i) ∷ expect_is kinds.Chan ws a.0 a.1 i in
    subst (λ (x : List Lexeme). IsTypeSound (suc depth_left) x t rest) (sym both) (channel_sound directions.Receive deeper depth_left sound a.0 t rest (λ element after is. tt) a.2)
receive_sound deeper depth_left sound kind false ws t rest is e = absurd cc

chan_or_receive_sound : (deeper : List Lexeme → Reading TypeExpression) (depth_left : ℕ) → ReadsTypes deeper depth_left → (kind : TokenKind) (b : Bool) (ws : List Lexeme) (t : TypeExpression) (rest : List Lexeme) → is_kind kind kinds.Chan ≡ b
    → cond b (after_chan deeper ws) (cond (is_kind kind kinds.Arrow) (after_arrow deeper ws) (Err Syntax)) ≡ Ok (with_rest t rest) → IsTypeSound (suc depth_left) (Mark kind ∷ ws) t rest
chan_or_receive_sound deeper depth_left sound kind true ws t rest is e =
    subst (λ (k : TokenKind). IsTypeSound (suc depth_left) (Mark k ∷ ws) t rest) (sym (kind_is kind kinds.Chan is)) (chan_sound deeper depth_left sound ws t rest e)
chan_or_receive_sound deeper depth_left sound kind false ws t rest is e = receive_sound deeper depth_left sound kind (is_kind kind kinds.Arrow) ws t rest refl e

mark_sound : (deeper : List Lexeme → Reading TypeExpression) (depth_left : ℕ) → ReadsTypes deeper depth_left → (kind : TokenKind) (b : Bool) (ws : List Lexeme) (t : TypeExpression) (rest : List Lexeme) → is_kind kind kinds.LeftParenthesis ≡ b
    → cond b (parenthesized_type deeper ws) (cond (is_kind kind kinds.Chan) (after_chan deeper ws) (cond (is_kind kind kinds.Arrow) (after_arrow deeper ws) (Err Syntax))) ≡ Ok (with_rest t rest)
    → IsTypeSound (suc depth_left) (Mark kind ∷ ws) t rest
mark_sound deeper depth_left sound kind true ws t rest is e =
    subst (λ (k : TokenKind). IsTypeSound (suc depth_left) (Mark k ∷ ws) t rest) (sym (kind_is kind kinds.LeftParenthesis is)) (parenthesized_sound deeper depth_left sound ws t rest e)
mark_sound deeper depth_left sound kind false ws t rest is e = chan_or_receive_sound deeper depth_left sound kind (is_kind kind kinds.Chan) ws t rest refl e

pub type_sound : (depth_left : ℕ) (words : List Lexeme) (t : TypeExpression) (rest : List Lexeme) → type_at depth_left words ≡ Ok (t, rest) → IsTypeSound depth_left words t rest
unfolding type_at
type_sound zero ws t rest e = absurd cc
type_sound (suc depth_left) [] t rest e = absurd cc
type_sound (suc depth_left) (Literal value ∷ ws) t rest e = absurd cc
type_sound (suc depth_left) (Text bytes ∷ ws) t rest e = absurd cc
type_sound (suc depth_left) (Name name ∷ ws) t rest e =
    let w = unless_ok (is_builtin name) Syntax (Ok (with_rest (NamedType name) ws)) (with_rest t rest) e in
    subst (λ (x : TypeExpression × List Lexeme). IsTypeSound (suc depth_left) (Name name ∷ ws) x.0 x.1) (ok_is (with_rest (NamedType name) ws) (with_rest t rest) w.1) (record { parts = refl; is = w.0; low = omega arith })
type_sound (suc depth_left) (Mark kind ∷ ws) t rest e = mark_sound (type_at depth_left) depth_left (type_sound depth_left) kind (is_kind kind kinds.LeftParenthesis) ws t rest refl e

-- ---- sizes

direction_length : (direction : Direction) (ws : List Lexeme) → length ws + 1 ≤ length (direction_words direction ws)
direction_length directions.Both ws = omega arith
direction_length directions.Send ws = omega arith
direction_length directions.Receive ws = omega arith

-- a type has no more nodes than lexemes
pub type_size-le : (t : TypeExpression) → type_size t ≤ length (type_words t)
type_size-le (NamedType name) = omega arith
type_size-le (ParenthesizedType inner) = omega (arith, type_size-le inner, length-append (type_words inner) (Mark kinds.RightParenthesis ∷ []))
type_size-le (Channel direction element) = omega (arith, type_size-le element, direction_length direction (type_words element))
