-- Calls and receives that are statements, or begin an expression that goes on: what is spelt is read, and what is read is
-- spelt so.
use Rattle.std.proofs.Common.{◌≡◌, ℕ, suc, ◌<◌, ◌≤◌, Bool, true, false, cond, max, min, List, [], ◌∷◌, Err, nat_le, inl, inr, refl, sym, ap, ◌∙◌, subst, arith}
use Rattle.std.proofs.lemmas.Bool.{lt-leb, leb-true}
use Rattle.scanner.specs.declared.kind.TokenKind.TheVariants as kinds
use Rattle.syntax.specs.declared.node.UnaryOperator.TheVariants as unaries
use Rattle.syntax.specs.Tree.{Expression, Integer, Named, Parenthesized, Selection, Composite, Unary, Binary, Call, Receive, Make, MakeSized, Length, Capacity, Expressions, expressions_in, Arguments, Simple, CallAlone, Send}
use Rattle.syntax.specs.Measures.{Listing, expression_height, expression_longest, arguments_height, arguments_longest, simple_height, simple_longest}
use Rattle.syntax.proofs.Lists.{expressions-expressions_in, expressions_height-of, expressions_longest-of, expressions_count-of}
use Rattle.parser_base.specs.declared.operator.Infix.{Infix}
use Rattle.parser_base.specs.declared.operator.Infix.TheVariants.{Operator, Period}
use Rattle.parser_base.specs.Lexemes.{Lexeme, Literal, Name, Text, Mark}
use Rattle.parser_base.specs.Spelling.{is_builtin, before, outer_precedence, IsGrouped}
use Rattle.parser_base.specs.Reading.{TooDeep, Reading, ◌>>=◌, as_one, needing, expect, plain_name, values, named, called as called_operand, operand, strength, expression, resumed}
use Rattle.parser_base.proofs.Marks.{bind_ok, when_ok, ok_is, expect_is, plain_name_is, plain_name_again}
use Rattle.parser_base.proofs.ListLaws.{AreFew, ReadBack, Found, High}
use Rattle.parser_base.proofs.ExpressionAgain.{step_kind, Shut, EndsExpression, IsLone, precedence-lt, closed_words, grouped_in, last_in}
use Rattle.parser_base.proofs.ExpressionSound.{IsOperand, operand_sound, expression_sound}
use Rattle.parser_base.proofs.Resumed.{IsFirst, Begun, FromFirst, Again, Alone, from_first, resumed_sound}
use Rattle.parser_base.proofs.Steps.{then_again, needing_again, gave, Sound, made_is, either}
use Rattle.parser_simple.specs.Spelling.{IsName, IsPrimary, arguments_words, AreArguments, simple_words, IsSimple}
use Rattle.parser_simple.specs.Reading.{after_mark, begins_with, begins_call, begins_primary, passed, arguments, received, call_of, sends_on, sent_on, alone_or_sent, called}
use Rattle.parser_simple.proofs.RightLaws.{EndsAt, value_again, arguments_again, primary_is, value_sound, arguments_sound}

-- ---- with what an expression begins

not_called : (b c : Bool) → c ≡ false → cond b false c ≡ false
not_called true c none = refl
not_called false c none = none

-- a name that no parenthesis follows is no call
pub no_call : (name : List ℕ) (ws : List Lexeme) → begins_with kinds.LeftParenthesis ws ≡ false → begins_call (Name name ∷ ws) ≡ false
unfolding begins_call
no_call name ws none = not_called (is_builtin name) (begins_with kinds.LeftParenthesis ws) none

pub no_parenthesis : (literals : Bool) (ws : List Lexeme) → Shut literals ws → begins_with kinds.LeftParenthesis ws ≡ false
unfolding begins_with
no_parenthesis literals [] is = refl
no_parenthesis literals (Literal value ∷ ws) is = refl
no_parenthesis literals (Name name ∷ ws) is = refl
no_parenthesis literals (Text bytes ∷ ws) is = refl
no_parenthesis literals (Mark kind ∷ ws) is = is.0

-- with what an expression begins: with a call, with a receive, or with neither
pub data Starts (literals : Bool) (first : Expression) (tail : List Lexeme) : Type 0 where
  WithCall : (function : List ℕ) (all : Arguments) → first ≡ call_of function all → IsName function → AreArguments literals all → before first tail ≡ Name function ∷ arguments_words all tail → Starts literals first tail
  WithReceive : (channel : Expression) → first ≡ Receive channel → Starts literals first tail
  WithNeither : begins_with kinds.Arrow (before first tail) ≡ false → begins_call (before first tail) ≡ false → Starts literals first tail

starts_with_call : (literals : Bool) (function : List ℕ) (vs : Expressions) (trailing : Bool) (tail : List Lexeme) → IsGrouped literals (Call function vs trailing) → Starts literals (Call function vs trailing) tail
starts_with_call literals function vs trailing tail g =
    WithCall function (record { values = expressions_in vs; trailing = trailing }) (ap (λ (es : Expressions). Call function es trailing) (sym (expressions-expressions_in vs))) g.0
    (grouped_in literals vs g.1, last_in vs trailing g.2) (ap (λ (ws : List Lexeme). Name function ∷ Mark kinds.LeftParenthesis ∷ ws) (closed_words kinds.RightParenthesis vs trailing tail))

pub starts : (literals : Bool) (first : Expression) (tail : List Lexeme) → IsFirst first → IsGrouped literals first → Shut literals tail → Starts literals first tail
unfolding begins_with begins_call
starts literals (Integer value) tail one g is_shut = WithNeither refl refl
starts literals (Named name) tail one g is_shut = WithNeither refl (not_called (is_builtin name) (begins_with kinds.LeftParenthesis tail) (no_parenthesis literals tail is_shut))
starts literals (Parenthesized inner) tail one g is_shut = WithNeither refl refl
starts literals (Selection whole field) tail one g is_shut = absurd one
starts literals (Composite name vs trailing) tail one g is_shut = WithNeither refl (not_called (is_builtin name) false refl)
starts literals (Unary unaries.Plus inner) tail one g is_shut = WithNeither refl refl
starts literals (Unary unaries.Negate inner) tail one g is_shut = WithNeither refl refl
starts literals (Unary unaries.Not inner) tail one g is_shut = WithNeither refl refl
starts literals (Unary unaries.Complement inner) tail one g is_shut = WithNeither refl refl
starts literals (Binary o l r) tail one g is_shut = absurd one
starts literals (Call function vs trailing) tail one g is_shut = starts_with_call literals function vs trailing tail g
starts literals (Receive channel) tail one g is_shut = WithReceive channel refl
starts literals (Make channel) tail one g is_shut = WithNeither refl refl
starts literals (MakeSized channel size) tail one g is_shut = WithNeither refl refl
starts literals (Length channel) tail one g is_shut = WithNeither refl refl
starts literals (Capacity channel) tail one g is_shut = WithNeither refl refl

-- the arguments of a call are lower than the call, and their lists no longer
pub call_height : (function : List ℕ) (all : Arguments) → expression_height (call_of function all) ≡ suc (arguments_height all)
call_height function all = omega (arith, expressions_height-of all.values)

pub call_longest : (function : List ℕ) (all : Arguments) (listing : Listing) → expression_longest listing (call_of function all) ≡ arguments_longest listing all
call_longest function all listing = rw (expressions_count-of all.values, expressions_longest-of listing all.values) refl

-- ---- what is spelt is read

-- what needs more levels than there are is too deep
no_need : {A : Type 0} (least have : ℕ) (read : Reading A) → have < least → needing least have read ≡ Err TooDeep
no_need least have read high = rw (lt-leb least have high) refl

-- a send on what was begun
pub sent_from : (literals : Bool) (most depth_left : ℕ) (c v : Expression) (rest : List Lexeme) (first : Expression) (tail : List Lexeme) → FromFirst literals most depth_left 7 c (Mark kinds.Arrow ∷ before v rest) first tail → IsGrouped literals v → EndsExpression literals rest
    → ReadBack (sent_on literals most depth_left first tail) (Send c v) rest (max (expression_height c) (expression_height v)) depth_left (λ listing. max (expression_longest listing c) (expression_longest listing v)) most
unfolding sent_on expect
sent_from literals most depth_left c v rest first tail (Again again) grouped ends =
    then_again _ again (λ high. omega arith) (λ listing. omega arith) (λ low few.
    needing_again (expression_height c) depth_left (λ none. absurd (omega (arith, none, low)))
    (then_again _ (value_again literals most depth_left v rest grouped ends) (λ high. omega arith) (λ listing. omega arith) (λ low' few'.
    Found (omega arith) (λ listing. omega (arith, few listing, few' listing)) refl)))
sent_from literals most depth_left c v rest first tail (Alone high e) grouped ends =
    High (omega arith) (rw e (no_need (expression_height c) depth_left _ high))

-- a step that binds as strongly as a selection is one
period_is : (s : Infix) → 7 ≤ strength s → step_kind s ≡ kinds.Period
period_is (Operator o) strong = absurd (omega (arith, strong, precedence-lt o))
period_is Period strong = refl

selects : (s : Infix) (ws : List Lexeme) → step_kind s ≡ kinds.Period → sends_on (Mark (step_kind s) ∷ ws) ≡ true
unfolding begins_with
selects s ws is = rw is refl

pub channel_goes_on : (literals : Bool) (c : Expression) (ws : List Lexeme) (b : Begun literals c (Mark kinds.Arrow ∷ ws)) → outer_precedence c ≡ 7 → sends_on b.tail ≡ true
unfolding begins_with
channel_goes_on literals c ws b strong =
    elim b.goes [
      | inl all ↦ ap sends_on all.1
      | inr more ↦ ap sends_on more.2 ∙ selects more.0 more.1 (period_is more.0 (omega (arith, strong, more.3)))
    ]

-- a send whose channel begins with a call
call_sends : (literals : Bool) (most depth_left : ℕ) (c v : Expression) (rest : List Lexeme) (function : List ℕ) (all : Arguments) (tail : List Lexeme) → IsName function → AreArguments literals all → sends_on tail ≡ true
    → arguments_height all < expression_height c → ((listing : Listing) → arguments_longest listing all ≤ expression_longest listing c)
    → (AreFew (λ listing. arguments_longest listing all) most → FromFirst literals most depth_left 7 c (Mark kinds.Arrow ∷ before v rest) (call_of function all) tail) → IsGrouped literals v → EndsExpression literals rest
    → ReadBack (called literals most depth_left (Name function ∷ arguments_words all tail)) (Send c v) rest (max (expression_height c) (expression_height v)) depth_left (λ listing. max (expression_longest listing c) (expression_longest listing v)) most
unfolding called
call_sends literals most depth_left c v rest function all tail plain are on low few from grouped ends =
    rw (plain_name_again function (arguments_words all tail) plain)
    (then_again _ (arguments_again literals most depth_left all tail are) (λ high. omega (arith, high, low)) (λ listing. omega (arith, few listing)) (λ low' few'.
    rw on (sent_from literals most depth_left c v rest (call_of function all) tail (from few') grouped ends)))

-- a call that is the first operand of an expression
pub record BeginsCall (literals : Bool) (most depth_left least : ℕ) (e : Expression) (rest : List Lexeme) (function : List ℕ) (all : Arguments) (tail : List Lexeme) : Type 0 where
  pub low : arguments_height all < expression_height e
  pub few : (listing : Listing) → arguments_longest listing all ≤ expression_longest listing e
  pub from : AreFew (λ listing. arguments_longest listing all) most → FromFirst literals most depth_left least e rest (call_of function all) tail

pub begins_call_as : (literals : Bool) (most depth_left least : ℕ) (e : Expression) (rest : List Lexeme) (b : Begun literals e rest) (function : List ℕ) (all : Arguments) → b.first ≡ call_of function all → IsGrouped literals e → least ≤ outer_precedence e → EndsAt literals least rest
    → BeginsCall literals most depth_left least e rest function all b.tail
begins_call_as literals most depth_left least e rest b function all is g le ends =
    let high = ap expression_height is ∙ call_height function all in
    let long = λ (listing : Listing). ap (expression_longest listing) is ∙ call_longest function all listing in
    record {
      low = omega (arith, high, b.low);
      few = λ listing. omega (arith, long listing, b.few listing);
      from = λ short. subst (λ (x : Expression). FromFirst literals most depth_left least e rest x b.tail) is
          (from_first literals most depth_left least e rest b (subst IsLone (sym is) tt) g le ends.none ends.is_shut (λ listing. omega (arith, long listing, short listing)));
    }

pub sends_by_call : (literals : Bool) (most depth_left : ℕ) (c v : Expression) (rest : List Lexeme) (b : Begun literals c (Mark kinds.Arrow ∷ before v rest)) (function : List ℕ) (all : Arguments) → b.first ≡ call_of function all → IsName function → AreArguments literals all → IsPrimary literals c
    → EndsAt literals 7 (Mark kinds.Arrow ∷ before v rest) → IsGrouped literals v → EndsExpression literals rest
    → ReadBack (called literals most depth_left (Name function ∷ arguments_words all b.tail)) (Send c v) rest (max (expression_height c) (expression_height v)) depth_left (λ listing. max (expression_longest listing c) (expression_longest listing v)) most
sends_by_call literals most depth_left c v rest b function all is plain are primary at grouped ends =
    let begins = begins_call_as literals most depth_left 7 c (Mark kinds.Arrow ∷ before v rest) b function all is primary.0 (omega (arith, primary.1)) at in
    call_sends literals most depth_left c v rest function all b.tail plain are (channel_goes_on literals c (before v rest) b primary.1) begins.low begins.few begins.from grouped ends

-- ---- what is read is spelt so

called_as : (literals : Bool) (deeper : ℕ → List Lexeme → Reading Expression) (depth_left most : ℕ) (name : List ℕ) (inside : List Lexeme) (found : List Expression × Bool) (after : List Lexeme) → is_builtin name ≡ false → values deeper kinds.RightParenthesis most inside ≡ gave found after
    → operand literals deeper depth_left most (Name name ∷ Mark kinds.LeftParenthesis ∷ inside) ≡ gave (call_of name (passed found.0 found.1)) after
unfolding operand named called_operand
called_as literals deeper depth_left most name inside found after plain e = rw (plain, e) refl

abbrev arguments_of : List Expression × Bool → Arguments
arguments_of all = passed all.0 all.1

-- a call that was read is an operand, which may be a level too high
pub call_operand_sound : (literals : Bool) (most depth_left : ℕ) (name : List ℕ) (ws : List Lexeme) (all : Arguments) (rest : List Lexeme) → IsName name → arguments literals most depth_left ws ≡ gave all rest → IsOperand literals most (suc depth_left) (Name name ∷ ws) (call_of name all) rest
unfolding arguments
call_operand_sound literals most depth_left name ws all rest plain e =
    let deeper = expression literals most depth_left in
    let a = bind_ok (expect kinds.LeftParenthesis ws) (λ inside. values deeper kinds.RightParenthesis most inside >>= λ found. gave (arguments_of found.0) found.1) (all, rest) e in
    let b = made_is arguments_of (values deeper kinds.RightParenthesis most a.0) all rest a.2 in
    let read = called_as literals deeper depth_left most name a.0 b.0 rest plain b.1 in
    subst (λ (x : List Lexeme). IsOperand literals most (suc depth_left) (Name name ∷ x) (call_of name all) rest) (sym (expect_is kinds.LeftParenthesis ws a.0 a.1))
    (subst (λ (x : Arguments). IsOperand literals most (suc depth_left) (Name name ∷ Mark kinds.LeftParenthesis ∷ a.0) (call_of name x) rest) b.2
    (operand_sound literals most deeper depth_left (expression_sound literals most depth_left) (Name name ∷ Mark kinds.LeftParenthesis ∷ a.0) (call_of name (arguments_of b.0)) rest read))

received_as : (literals : Bool) (deeper : ℕ → List Lexeme → Reading Expression) (depth_left most : ℕ) (inside : List Lexeme) (c : Expression) (rest : List Lexeme) → deeper 6 inside ≡ gave c rest → operand literals deeper depth_left most (Mark kinds.Arrow ∷ inside) ≡ gave (Receive c) rest
unfolding operand
received_as literals deeper depth_left most inside c rest e = rw e refl

pub receive_operand_sound : (literals : Bool) (most depth_left : ℕ) (ws : List Lexeme) (c : Expression) (rest : List Lexeme) → received literals most depth_left ws ≡ gave c rest → IsOperand literals most (suc depth_left) ws (Receive c) rest
receive_operand_sound literals most depth_left ws c rest e =
    let deeper = expression literals most depth_left in
    let a = bind_ok (expect kinds.Arrow ws) (deeper 6) (c, rest) e in
    subst (λ (x : List Lexeme). IsOperand literals most (suc depth_left) x (Receive c) rest) (sym (expect_is kinds.Arrow ws a.0 a.1))
    (operand_sound literals most deeper depth_left (expression_sound literals most depth_left) (Mark kinds.Arrow ∷ a.0) (Receive c) rest (received_as literals deeper depth_left most a.0 c rest a.2))

-- an expression that was read from its first operand on, which may be a level too high
pub record IsResumed (literals : Bool) (most least : ℕ) (ws : List Lexeme) (t : Expression) (rest : List Lexeme) : Type 0 where
  pub parts : ws ≡ before t rest
  pub grouped : IsGrouped literals t
  pub few : AreFew (λ listing. expression_longest listing t) most
  pub strong : min least 6 ≤ outer_precedence t

pub resumed_is : (literals : Bool) (most depth_left least : ℕ) (ws : List Lexeme) (left : Expression) (after : List Lexeme) (t : Expression) (rest : List Lexeme) → IsOperand literals most (suc depth_left) ws left after → resumed literals most depth_left least left after ≡ gave t rest
    → IsResumed literals most least ws t rest
resumed_is literals most depth_left least ws left after t rest o e =
    let s = resumed_sound literals most depth_left least left after t rest o.grouped o.low o.few (omega (arith, o.strong)) o.none e in
    record { parts = o.parts ∙ s.parts; grouped = s.grouped; few = s.few; strong = s.strong }

abbrev sends : Expression → Expression → Simple
sends c v = Send c v

-- what begins with a name that is not built in begins as the operand of a send
begins_named : (name : List ℕ) (ws : List Lexeme) → is_builtin name ≡ false → begins_primary (Name name ∷ ws) ≡ true
unfolding begins_primary
begins_named name ws plain = rw plain refl

sent_on_sound : (literals defining : Bool) (most depth_left : ℕ) (ws : List Lexeme) (left : Expression) (after : List Lexeme) (s : Simple) (rest : List Lexeme) → begins_primary ws ≡ true → IsOperand literals most (suc depth_left) ws left after → sent_on literals most depth_left left after ≡ gave s rest
    → Sound simple_words (IsSimple literals defining) simple_height depth_left simple_longest most ws s rest
unfolding sent_on
sent_on_sound literals defining most depth_left ws left after s rest begun' o e =
    let value = λ (c : Expression) (x : List Lexeme). after_mark kinds.Arrow (expression literals most depth_left 0) x in
    let a = bind_ok (resumed literals most depth_left 7 left after) (λ channel. needing (expression_height channel.0) depth_left (as_one (sends channel.0) (value channel.0 channel.1))) (s, rest) e in
    let c = a.0.0 in
    let w = when_ok (nat_le (expression_height c) depth_left) TooDeep (as_one (sends c) (value c a.0.1)) (s, rest) a.2 in
    let r = resumed_is literals most depth_left 7 ws left after c a.0.1 o a.1 in
    let m = made_is (sends c) (value c a.0.1) s rest w.1 in
    let b = bind_ok (expect kinds.Arrow a.0.1) (expression literals most depth_left 0) (m.0, rest) m.1 in
    let v = value_sound literals most depth_left b.0 m.0 rest b.2 in
    let primary = primary_is literals c a.0.1 r.grouped (omega (arith, r.strong)) (sym (ap begins_primary r.parts) ∙ begun') in
    subst (λ (x : Simple). Sound simple_words (IsSimple literals defining) simple_height depth_left simple_longest most ws x rest) m.2 (record {
      parts = r.parts ∙ ap (before c) (expect_is kinds.Arrow a.0.1 b.0 b.1 ∙ ap (λ (x : List Lexeme). Mark kinds.Arrow ∷ x) v.parts);
      is = ((r.grouped, primary), v.is);
      low = omega (arith, leb-true (expression_height c) depth_left w.0, v.low);
      few = λ listing. omega (arith, r.few listing, v.few listing);
    })

abbrev calls : List ℕ → Arguments → Simple
calls function all = CallAlone function all

-- what is read of a call alone is spelt so
pub call_alone_sound : (literals defining : Bool) (most depth_left : ℕ) (name : List ℕ) (ws : List Lexeme) (all : Arguments) (rest : List Lexeme) → IsName name → arguments literals most depth_left ws ≡ gave all rest
    → Sound simple_words (IsSimple literals defining) simple_height depth_left simple_longest most (Name name ∷ ws) (calls name all) rest
call_alone_sound literals defining most depth_left name ws all rest plain e =
    let s = arguments_sound literals most depth_left ws all rest e in
    record { parts = ap (λ (x : List Lexeme). Name name ∷ x) s.parts; is = (plain, s.is); low = s.low; few = s.few }

pub called_sound : (literals defining : Bool) (most depth_left : ℕ) (ws : List Lexeme) (s : Simple) (rest : List Lexeme) → called literals most depth_left ws ≡ gave s rest
    → Sound simple_words (IsSimple literals defining) simple_height depth_left simple_longest most ws s rest
unfolding called
called_sound literals defining most depth_left ws s rest e =
    let sound = λ (x : List Lexeme) (y : Simple) (z : List Lexeme). Sound simple_words (IsSimple literals defining) simple_height depth_left simple_longest most x y z in
    let a = bind_ok (plain_name ws) (λ function. arguments literals most depth_left function.1 >>= alone_or_sent literals most depth_left function.0) (s, rest) e in
    let b = bind_ok (arguments literals most depth_left a.0.1) (alone_or_sent literals most depth_left a.0.0) (s, rest) a.2 in
    let n = plain_name_is ws a.0.0 a.0.1 a.1 in
    let name = a.0.0 in
    let on : sound (Name name ∷ a.0.1) s rest = elim (either (sends_on b.0.1) (sent_on literals most depth_left (call_of name b.0.0) b.0.1) (gave (calls name b.0.0) b.0.1) (s, rest) b.2) [
      | inl x ↦ sent_on_sound literals defining most depth_left (Name name ∷ a.0.1) (call_of name b.0.0) b.0.1 s rest (begins_named name a.0.1 n.1) (call_operand_sound literals most depth_left name a.0.1 b.0.0 b.0.1 n.1 b.1) x.1
      | inr x ↦ subst (λ (y : Simple × List Lexeme). sound (Name name ∷ a.0.1) y.0 y.1) (ok_is (calls name b.0.0, b.0.1) (s, rest) x.1) (call_alone_sound literals defining most depth_left name a.0.1 b.0.0 b.0.1 n.1 b.1)
    ] in
    subst (λ (x : List Lexeme). sound x s rest) (sym n.0) on
