-- Right sides: what is spelt is read, and what is read is spelt so.
use Rattle.std.proofs.Common.{◌≡◌, ℕ, zero, suc, ◌≤◌, Bool, true, false, None, max, List, [], ◌∷◌, length, refl, sym, ap, ◌∙◌, subst, arith, append_assoc}
use Rattle.scanner.specs.declared.kind.TokenKind.TheVariants as kinds
use Rattle.syntax.specs.declared.node.UnaryOperator.TheVariants as unaries
use Rattle.syntax.specs.Tree.{Expression, Integer, Named, Parenthesized, Selection, Composite, Unary, Binary, Call, Receive, Make, MakeSized, Length, Capacity, Arguments}
use Rattle.syntax.specs.Measures.{Entries as EntriesLimit, entries, highest, expression_height, expression_longest, arguments_height, arguments_longest, list_longest}
use Rattle.parser_base.specs.Lexemes.{Lexeme, Name, Mark}
use Rattle.parser_base.specs.Spelling.{following, joined, before, AreAll, expression_words, outer_precedence, IsGrouped}
use Rattle.parser_base.specs.Reading.{Syntax, TooMany, Reading, ◌>>=◌, expect, step_at, begins, expression, values, argument}
use Rattle.parser_base.proofs.Marks.{bind_ok, when_ok, expect_is}
use Rattle.parser_base.proofs.ListLaws.{ReadBack, High, entries-le, Entries, IsReadAgain, Separates, listed_again, all_again, ReadsSoundly, listed_sound}
use Rattle.parser_base.proofs.ExpressionAgain.{reads, Shut, EndsExpression, height_positive, precedence-lt, none_above, parenthesis_closes, comma_ends, begins_again, values_again, argument_again as parenthesized_again}
use Rattle.parser_base.proofs.ExpressionSound.{expression_sound, values_sound, argument_sound as parenthesized_sound}
use Rattle.parser_base.proofs.Steps.{made_again, listed_outcome, gave, Sound, made_is}
use Rattle.parser_simple.specs.Spelling.{IsPrimary, IsUnary, arguments_words, AreArguments, right_words, IsRight}
use Rattle.parser_simple.specs.Reading.{begins_with, separator_next, begins_primary, primary, received, passed, arguments, value_list, right}
use Rattle.parser_simple.proofs.PlaceLaws.{separator_again, no_separator, separator_more_sound, separator_end_sound}

-- ---- what may follow

-- nothing goes on with a value, a list of values, or a channel
pub record Stops (literals : Bool) (rest : List Lexeme) : Type 0 where
  pub ends : EndsExpression literals rest
  pub comma : begins_with kinds.Comma rest ≡ false
  pub arrow : begins_with kinds.Arrow rest ≡ false

-- no step that binds at least so strongly follows, and nothing that goes on with a name
pub record EndsAt (literals : Bool) (least : ℕ) (rest : List Lexeme) : Type 0 where
  pub none : step_at least rest ≡ None
  pub is_shut : Shut literals rest

-- what ends an expression ends what binds more strongly
pub ends_at : (literals : Bool) (least : ℕ) (rest : List Lexeme) → EndsExpression literals rest → EndsAt literals least rest
ends_at literals least rest ends = record { none = none_above 0 least rest (omega arith) ends.none; is_shut = ends.shut }

-- ---- values and operands

abbrev pub ExpressionOutcome : (literals : Bool) (most depth_left : ℕ) → Reading Expression → Expression → List Lexeme → Type 0
ExpressionOutcome literals most depth_left read e rest = ReadBack read e rest (expression_height e) depth_left (λ listing. expression_longest listing e) most

pub value_again : (literals : Bool) (most depth_left : ℕ) (e : Expression) (rest : List Lexeme) → IsGrouped literals e → EndsExpression literals rest
    → ExpressionOutcome literals most depth_left (expression literals most depth_left 0 (before e rest)) e rest
value_again literals most depth_left e rest is ends = reads literals most e is depth_left 0 rest (omega arith) ends.none ends.shut

pub begins_primary_again : (literals : Bool) (e : Expression) (rest : List Lexeme) → IsPrimary literals e → begins_primary (before e rest) ≡ true
unfolding begins_primary
begins_primary_again literals (Integer value) rest is = refl
begins_primary_again literals (Named name) rest is = rw is.0 refl
begins_primary_again literals (Parenthesized inner) rest is = refl
begins_primary_again literals (Selection whole field) rest is =
    ap begins_primary (append_assoc (expression_words whole) (Mark kinds.Period ∷ Name field ∷ []) rest) ∙ begins_primary_again literals whole (Mark kinds.Period ∷ Name field ∷ rest) (is.0.0, is.0.1)
begins_primary_again literals (Composite name vs trailing) rest is = rw is.0.1 refl
begins_primary_again literals (Unary o inner) rest is = absurd (omega (arith, is.1))
begins_primary_again literals (Binary o l r) rest is = absurd (omega (arith, is.1, precedence-lt o))
begins_primary_again literals (Call function vs trailing) rest is = rw is.0.0 refl
begins_primary_again literals (Receive channel) rest is = absurd (omega (arith, is.1))
begins_primary_again literals (Make channel) rest is = refl
begins_primary_again literals (MakeSized channel size) rest is = refl
begins_primary_again literals (Length channel) rest is = refl
begins_primary_again literals (Capacity channel) rest is = refl

pub primary_again : (literals : Bool) (most depth_left : ℕ) (e : Expression) (rest : List Lexeme) → IsPrimary literals e → EndsExpression literals rest
    → ExpressionOutcome literals most depth_left (primary literals most depth_left (before e rest)) e rest
unfolding primary
primary_again literals most depth_left e rest is ends =
    rw (begins_primary_again literals e rest is) (reads literals most e is.0 depth_left 7 rest (omega (arith, is.1)) (none_above 0 7 rest (omega arith) ends.none) ends.shut)

pub received_again : (literals : Bool) (most depth_left : ℕ) (e : Expression) (rest : List Lexeme) → IsUnary literals e → EndsAt literals 6 rest
    → ExpressionOutcome literals most depth_left (received literals most depth_left (Mark kinds.Arrow ∷ before e rest)) e rest
unfolding expect
received_again literals most depth_left e rest is ends = reads literals most e is.0 depth_left 6 rest is.1 ends.none ends.is_shut

pub arguments_again : (literals : Bool) (most depth_left : ℕ) (all : Arguments) (rest : List Lexeme) → AreArguments literals all
    → ReadBack (arguments literals most depth_left (arguments_words all rest)) all rest (arguments_height all) depth_left (λ listing. arguments_longest listing all) most
unfolding arguments expect
arguments_again literals most depth_left all rest are =
    let each = all_again (IsGrouped literals) _ (λ e is. reads literals most e is) all.values are.0 in
    made_again (λ (found : List Expression × Bool). passed found.0 found.1)
    (values_again literals most depth_left kinds.RightParenthesis all.values all.trailing rest parenthesis_closes are.0 each are.1) (λ high. high) (λ low. low) (λ listing. refl)

pub argument_again : (literals : Bool) (most depth_left : ℕ) (e : Expression) (rest : List Lexeme) → IsGrouped literals e
    → ExpressionOutcome literals most depth_left (argument (expression literals most depth_left) (Mark kinds.LeftParenthesis ∷ before e (Mark kinds.RightParenthesis ∷ rest))) e rest
argument_again literals most depth_left e rest is = parenthesized_again literals most depth_left e rest (reads literals most e is)

-- ---- values with commas

abbrev pub right_values : (literals : Bool) (most depth_left : ℕ) → Entries Expression
right_values literals most depth_left = record {
  one = expression literals most depth_left 0;
  next = separator_next begins kinds.Comma;
  each = before;
  separator = following kinds.Comma;
  ending = λ trailing rest. rest;
  height = expression_height;
  longest = expression_longest;
  depth_left = depth_left;
  most = most;
  IsOne = IsGrouped literals;
}

values_separate : (literals : Bool) (most depth_left : ℕ) (rest : List Lexeme) → Stops literals rest → Separates (right_values literals most depth_left) (EndsExpression literals) false rest
values_separate literals most depth_left rest stops = record {
  separator = λ e words one. comma_ends literals (before e words);
  more = λ e words one. separator_again begins kinds.Comma (before e words) (begins_again literals e words one);
  ending = stops.ends;
  end = no_separator begins kinds.Comma rest stops.comma;
}

value_list_again : (literals : Bool) (most depth_left : ℕ) (v : Expression) (vs : List Expression) (rest : List Lexeme) → AreAll (IsGrouped literals) (v ∷ vs) → Stops literals rest
    → ReadBack (value_list literals most depth_left (joined before (following kinds.Comma) (v ∷ vs) rest)) (v ∷ vs, false) rest (highest expression_height (v ∷ vs)) depth_left
    (λ listing. max (entries listing (length (v ∷ vs))) (highest (expression_longest listing) (v ∷ vs))) most
value_list_again literals most depth_left v vs rest all stops =
    let l = right_values literals most depth_left in
    let each = all_again (IsGrouped literals) (IsReadAgain l (EndsExpression literals)) (λ e is after ends. value_again literals most depth_left e after is ends) (v ∷ vs) all in
    listed_outcome (listed_again l (EndsExpression literals) false rest (TooMany EntriesLimit) (values_separate literals most depth_left rest stops) vs most v all each)

pub right_positive : (literals : Bool) (vs : List Expression) → IsRight literals vs → 1 ≤ highest expression_height vs
right_positive literals [] is = absurd is
right_positive literals (v ∷ vs) is = omega (arith, height_positive v)

pub right_again : (literals : Bool) (most depth_left : ℕ) (vs : List Expression) (rest : List Lexeme) → IsRight literals vs → Stops literals rest
    → ReadBack (right literals most depth_left (right_words vs rest)) vs rest (highest expression_height vs) depth_left (λ listing. list_longest expression_longest listing vs) most
unfolding right
right_again literals most zero vs rest is stops = High (right_positive literals vs is) refl
right_again literals most (suc depth_left) [] rest is stops = absurd is
right_again literals most (suc depth_left) (v ∷ vs) rest is stops =
    made_again (λ (found : List Expression × Bool). found.0) (value_list_again literals most (suc depth_left) v vs rest is stops) (λ high. high) (λ low. low) (λ listing. refl)

-- ---- what is read is spelt so

abbrev pub ExpressionSound : (literals : Bool) (most depth_left : ℕ) → List Lexeme → Expression → List Lexeme → Type 0
ExpressionSound literals most depth_left = Sound before (IsGrouped literals) expression_height depth_left expression_longest most

pub value_sound : (literals : Bool) (most depth_left : ℕ) (ws : List Lexeme) (e : Expression) (rest : List Lexeme) → expression literals most depth_left 0 ws ≡ gave e rest → ExpressionSound literals most depth_left ws e rest
value_sound literals most depth_left ws e rest is =
    let s = expression_sound literals most depth_left 0 ws e rest is in
    record { parts = s.parts; is = s.grouped; low = s.low; few = s.few }

abbrev pub PrimarySound : (literals : Bool) (most depth_left : ℕ) → List Lexeme → Expression → List Lexeme → Type 0
PrimarySound literals most depth_left = Sound before (IsPrimary literals) expression_height depth_left expression_longest most

abbrev pub UnarySound : (literals : Bool) (most depth_left : ℕ) → List Lexeme → Expression → List Lexeme → Type 0
UnarySound literals most depth_left = Sound (λ e rest. Mark kinds.Arrow ∷ before e rest) (IsUnary literals) expression_height depth_left expression_longest most

-- what begins as an operand, and is no binary operation, has no operation but selections
pub primary_is : (literals : Bool) (e : Expression) (rest : List Lexeme) → IsGrouped literals e → 6 ≤ outer_precedence e → begins_primary (before e rest) ≡ true → outer_precedence e ≡ 7
unfolding begins_primary
primary_is literals (Integer value) rest g strong is = refl
primary_is literals (Named name) rest g strong is = refl
primary_is literals (Parenthesized inner) rest g strong is = refl
primary_is literals (Selection whole field) rest g strong is = refl
primary_is literals (Composite name vs trailing) rest g strong is = refl
primary_is literals (Unary unaries.Plus inner) rest g strong is = absurd cc
primary_is literals (Unary unaries.Negate inner) rest g strong is = absurd cc
primary_is literals (Unary unaries.Not inner) rest g strong is = absurd cc
primary_is literals (Unary unaries.Complement inner) rest g strong is = absurd cc
primary_is literals (Binary o l r) rest g strong is = absurd (omega (arith, strong, precedence-lt o))
primary_is literals (Call function vs trailing) rest g strong is = refl
primary_is literals (Receive channel) rest g strong is = absurd cc
primary_is literals (Make channel) rest g strong is = refl
primary_is literals (MakeSized channel size) rest g strong is = refl
primary_is literals (Length channel) rest g strong is = refl
primary_is literals (Capacity channel) rest g strong is = refl

pub primary_sound : (literals : Bool) (most depth_left : ℕ) (ws : List Lexeme) (e : Expression) (rest : List Lexeme) → primary literals most depth_left ws ≡ gave e rest → PrimarySound literals most depth_left ws e rest
unfolding primary
primary_sound literals most depth_left ws e rest is =
    let w = when_ok (begins_primary ws) Syntax (expression literals most depth_left 7 ws) (e, rest) is in
    let s = expression_sound literals most depth_left 7 ws e rest w.1 in
    record { parts = s.parts; is = (s.grouped, primary_is literals e rest s.grouped (omega (arith, s.strong)) (sym (ap begins_primary s.parts) ∙ w.0)); low = s.low; few = s.few }

pub received_sound : (literals : Bool) (most depth_left : ℕ) (ws : List Lexeme) (e : Expression) (rest : List Lexeme) → received literals most depth_left ws ≡ gave e rest → UnarySound literals most depth_left ws e rest
received_sound literals most depth_left ws e rest is =
    let a = bind_ok (expect kinds.Arrow ws) (expression literals most depth_left 6) (e, rest) is in
    let s = expression_sound literals most depth_left 6 a.0 e rest a.2 in
    record { parts = expect_is kinds.Arrow ws a.0 a.1 ∙ ap (λ (x : List Lexeme). Mark kinds.Arrow ∷ x) s.parts; is = (s.grouped, omega (arith, s.strong)); low = s.low; few = s.few }

abbrev pub ArgumentsSound : (literals : Bool) (most depth_left : ℕ) → List Lexeme → Arguments → List Lexeme → Type 0
ArgumentsSound literals most depth_left = Sound arguments_words (AreArguments literals) arguments_height depth_left arguments_longest most

abbrev arguments_of : List Expression × Bool → Arguments
arguments_of all = passed all.0 all.1

pub arguments_sound : (literals : Bool) (most depth_left : ℕ) (ws : List Lexeme) (all : Arguments) (rest : List Lexeme) → arguments literals most depth_left ws ≡ gave all rest → ArgumentsSound literals most depth_left ws all rest
unfolding arguments
arguments_sound literals most depth_left ws all rest e =
    let a = bind_ok (expect kinds.LeftParenthesis ws) (λ inside. values (expression literals most depth_left) kinds.RightParenthesis most inside >>= λ found. gave (arguments_of found.0) found.1) (all, rest) e in
    let b = made_is arguments_of (values (expression literals most depth_left) kinds.RightParenthesis most a.0) all rest a.2 in
    let v = values_sound literals most depth_left kinds.RightParenthesis (expression literals most depth_left) (expression_sound literals most depth_left) a.0 b.0.0 b.0.1 rest b.1 in
    subst (λ (x : Arguments). ArgumentsSound literals most depth_left ws x rest) b.2 (record {
      parts = expect_is kinds.LeftParenthesis ws a.0 a.1 ∙ ap (λ (x : List Lexeme). Mark kinds.LeftParenthesis ∷ x) v.parts;
      is = (v.are, v.last);
      low = v.low;
      few = v.few;
    })

-- a value in parentheses, and then these
abbrev pub enclosed : Expression → List Lexeme → List Lexeme
enclosed e rest = Mark kinds.LeftParenthesis ∷ before e (Mark kinds.RightParenthesis ∷ rest)

pub argument_sound : (literals : Bool) (most depth_left : ℕ) (ws : List Lexeme) (e : Expression) (rest : List Lexeme) → argument (expression literals most depth_left) ws ≡ gave e rest → Sound enclosed (IsGrouped literals) expression_height depth_left expression_longest most ws e rest
argument_sound literals most depth_left ws e rest is =
    let a = parenthesized_sound literals most (expression literals most depth_left) depth_left (expression_sound literals most depth_left) ws e rest is in
    record { parts = a.0; is = a.1; low = a.2; few = a.3 }

-- ---- right sides

values_soundly : (literals : Bool) (most depth_left : ℕ) → ReadsSoundly (right_values literals most depth_left)
values_soundly literals most depth_left = record {
  one = λ ws e rest is. let s = value_sound literals most depth_left ws e rest is in record { parts = s.parts; is = s.is; low = s.low; few = s.few };
  more = separator_more_sound begins kinds.Comma;
  end = λ ws trailing rest e. separator_end_sound begins kinds.Comma ws trailing rest e;
}

abbrev pub RightSound : (literals : Bool) (most depth_left : ℕ) → List Lexeme → List Expression → List Lexeme → Type 0
RightSound literals most depth_left = Sound right_words (IsRight literals) (highest expression_height) depth_left (list_longest expression_longest) most

abbrev values_of : List Expression × Bool → List Expression
values_of all = all.0

pub right_sound : (literals : Bool) (most depth_left : ℕ) (ws : List Lexeme) (vs : List Expression) (rest : List Lexeme) → right literals most depth_left ws ≡ gave vs rest → RightSound literals most depth_left ws vs rest
unfolding right
right_sound literals most zero ws vs rest e = absurd cc
right_sound literals most (suc depth_left) ws vs rest e =
    let a = made_is values_of (value_list literals most (suc depth_left) ws) vs rest e in
    let s = listed_sound (right_values literals most (suc depth_left)) (TooMany EntriesLimit) (values_soundly literals most (suc depth_left)) most ws (a.0, rest) a.1 in
    subst (λ (x : List Expression). RightSound literals most (suc depth_left) ws x rest) a.2 (record {
      parts = s.parts;
      is = s.are;
      low = s.low;
      few = λ listing. omega (arith, s.few listing, s.count, entries-le listing (length a.0.0));
    })
