-- Reading that goes on from an operand which was read before: a call or a receive at the front of a statement or of a
-- condition, that may be one level too high until it is known what follows it.
use Rattle.std.proofs.Common.{◌≡◌, ℕ, zero, suc, ◌<◌, ◌≤◌, min, List, [], ◌∷◌, None, Ok, Err, Bool, ◌⊎◌, inl, inr, refl, ap, ◌∙◌, sym, subst, arith, append_assoc}
use Rattle.std.proofs.lemmas.Bool.{cases_lt}
use Rattle.scanner.specs.declared.kind.TokenKind.TheVariants as kinds
use Rattle.syntax.specs.Tree.{Expression, Selection, Binary}
use Rattle.syntax.specs.Measures.{Listing, expression_height, expression_longest}
use Rattle.parser_base.specs.declared.operator.Infix.{Infix}
use Rattle.parser_base.specs.declared.operator.Infix.TheVariants.{Operator, Period}
use Rattle.parser_base.specs.Lexemes.{Lexeme, Name, Mark}
use Rattle.parser_base.specs.Spelling.{before, expression_words, outer_precedence, IsGrouped, binary_kind}
use Rattle.parser_base.specs.Reading.{TooDeep, step_at, strength, operand, operations, expression, resumed}
use Rattle.parser_base.proofs.ListLaws.{AreFew, ReadBack, Found, High, Many}
use Rattle.parser_base.proofs.ExpressionAgain.{step_kind, Shut, shut, operator_shut, no_brace, past_step, height_positive, after_operand, IsLone, lone_read, reads, stops, no_depth_left}
use Rattle.parser_base.proofs.Steps.{read_as}
use Rattle.parser_base.proofs.ExpressionSound.{IsSound, expression_sound, operations_sound}

-- ---- the operand with which an expression begins

-- no operation on two operands and no selection
abbrev pub IsFirst : Expression → Type 0
IsFirst (Selection whole field) = ⊥
IsFirst (Binary operator left right) = ⊥
IsFirst expression = Unit {0}

pub record Begun (literals : Bool) (e : Expression) (rest : List Lexeme) : Type 0 where
  pub first : Expression
  -- what follows it
  pub tail : List Lexeme
  pub is_first : IsFirst first
  pub grouped : IsGrouped literals first
  pub parts : before e rest ≡ before first tail
  pub low : expression_height first ≤ expression_height e
  pub few : (listing : Listing) → expression_longest listing first ≤ expression_longest listing e
  pub strong : outer_precedence e ≤ outer_precedence first
  pub none : step_at (suc (outer_precedence first)) tail ≡ None
  pub is_shut : Shut literals tail
  -- it is all of the expression, or a step follows that binds no more weakly than that
  pub goes : ((first ≡ e) × (tail ≡ rest)) ⊎ ((s : Infix) × (ws : List Lexeme) × (tail ≡ Mark (step_kind s) ∷ ws) × (outer_precedence e ≤ strength s))

begun_alone : (literals : Bool) (e : Expression) (rest : List Lexeme) → IsFirst e → IsGrouped literals e → step_at (suc (outer_precedence e)) rest ≡ None → Shut literals rest → Begun literals e rest
begun_alone literals e rest first g none is_shut = record {
  first = e;
  tail = rest;
  is_first = first;
  grouped = g;
  parts = refl;
  low = omega arith;
  few = λ listing. omega arith;
  strong = omega arith;
  none = none;
  is_shut = is_shut;
  goes = inl (refl, refl);
}

-- what begins with the first operand of a step, whose words are before what follows the mark of the step
begun_within : (literals : Bool) (e left : Expression) (s : Infix) (ws rest : List Lexeme) → before e rest ≡ before left (Mark (step_kind s) ∷ ws) → expression_height left ≤ expression_height e → ((listing : Listing) → expression_longest listing left ≤ expression_longest listing e)
    → outer_precedence e ≤ outer_precedence left → outer_precedence e ≤ strength s → Begun literals left (Mark (step_kind s) ∷ ws) → Begun literals e rest
begun_within literals e left s ws rest same low few strong strong_step b = record {
  first = b.first;
  tail = b.tail;
  is_first = b.is_first;
  grouped = b.grouped;
  parts = same ∙ b.parts;
  low = omega (arith, b.low, low);
  few = λ listing. omega (arith, b.few listing, few listing);
  strong = omega (arith, b.strong, strong);
  none = b.none;
  is_shut = b.is_shut;
  goes = elim b.goes [
    | inl all ↦ inr (s, ws, all.1, strong_step)
    | inr more ↦ inr (more.0, more.1, more.2, omega (arith, more.3, strong))
  ];
}

pub begun : (literals : Bool) (e : Expression) (rest : List Lexeme) → IsGrouped literals e → step_at (suc (outer_precedence e)) rest ≡ None → Shut literals rest → Begun literals e rest
begun literals (Selection whole field) rest g none is_shut =
    let ws = Name field ∷ rest in
    begun_within literals (Selection whole field) whole Period ws rest (append_assoc (expression_words whole) (Mark kinds.Period ∷ Name field ∷ []) rest) (omega arith) (λ listing. omega arith) (omega (arith, g.1)) (omega arith)
    (begun literals whole (Mark kinds.Period ∷ ws) g.0 (past_step (suc (outer_precedence whole)) Period ws (omega (arith, g.1))) (shut literals kinds.Period ws refl refl))
begun literals (Binary o l r) rest g none is_shut =
    let ws = before r rest in
    begun_within literals (Binary o l r) l (Operator o) ws rest (append_assoc (expression_words l) (Mark (binary_kind o) ∷ expression_words r) rest) (omega arith) (λ listing. omega arith) g.2 (omega arith)
    (begun literals l (Mark (binary_kind o) ∷ ws) g.0 (past_step (suc (outer_precedence l)) (Operator o) ws (omega (arith, g.2))) (shut literals (binary_kind o) ws (operator_shut o) (no_brace o)))
begun literals e rest g none is_shut = begun_alone literals e rest tt g none is_shut

-- ---- what is spelt is read

-- the expression is read from its first operand on, or it is that operand, and too high
pub data FromFirst (literals : Bool) (most depth_left least : ℕ) (e : Expression) (rest : List Lexeme) (first : Expression) (tail : List Lexeme) : Type 0 where
  Again : ReadBack (resumed literals most depth_left least first tail) e rest (expression_height e) depth_left (λ listing. expression_longest listing e) most → FromFirst literals most depth_left least e rest first tail
  Alone : depth_left < expression_height e → resumed literals most depth_left least first tail ≡ Ok (e, rest) → FromFirst literals most depth_left least e rest first tail

-- what is read from the first operand on is what is read from its begin, if that operand is not too high
resumed_as : (literals : Bool) (most depth_left least : ℕ) (first : Expression) (tail : List Lexeme) → ReadBack (operand literals (expression literals most depth_left) depth_left most (before first tail)) first tail (expression_height first) (suc depth_left) (λ listing. expression_longest listing first) most
    → expression_height first ≤ suc depth_left → AreFew (λ listing. expression_longest listing first) most → resumed literals most (suc depth_left) least first tail ≡ expression literals most (suc depth_left) least (before first tail)
unfolding resumed
resumed_as literals most depth_left least first tail (Found low few e) fits short = sym (after_operand literals most depth_left least (before first tail) (Ok (first, tail)) e)
resumed_as literals most depth_left least first tail (High high e) fits short = absurd (omega (arith, high, fits))
resumed_as literals most depth_left least first tail (Many listing many e) fits short = absurd (omega (arith, many, short listing))

resumed_none : (literals : Bool) (most least : ℕ) (left : Expression) (ws : List Lexeme) → resumed literals most 0 least left ws ≡ Err TooDeep
unfolding resumed
resumed_none literals most least left ws = refl

high_first : (literals : Bool) (most depth_left least : ℕ) (e : Expression) (rest : List Lexeme) (b : Begun literals e rest) → least ≤ outer_precedence e → step_at least rest ≡ None → suc depth_left < expression_height b.first → FromFirst literals most (suc depth_left) least e rest b.first b.tail
unfolding resumed
high_first literals most depth_left least e rest b le none high =
    elim b.goes [
      | inl all ↦
          let nothing = subst (λ (ws : List Lexeme). step_at least ws ≡ None) (sym all.1) none in
          let stopped = stops (expression literals most depth_left) (suc depth_left) least (suc depth_left) b.first b.tail (omega arith) nothing in
          Alone (omega (arith, high, b.low)) (stopped ∙ (λ i. Ok (all.0 i, all.1 i)))
      | inr more ↦
          let refused = no_depth_left (expression literals most depth_left) (suc depth_left) least (suc depth_left) b.first more.0 more.1 (omega (arith, le, more.3)) (omega (arith, high)) in
          Again (High (omega (arith, high, b.low)) (ap (operations (expression literals most depth_left) (suc depth_left) least (suc depth_left) b.first) more.2 ∙ refused))
    ]

low_first : (literals : Bool) (most depth_left least : ℕ) (e : Expression) (rest : List Lexeme) (b : Begun literals e rest) → IsLone b.first → IsGrouped literals e → least ≤ outer_precedence e → step_at least rest ≡ None → Shut literals rest → AreFew (λ listing. expression_longest listing b.first) most
    → expression_height b.first ≤ suc depth_left → FromFirst literals most (suc depth_left) least e rest b.first b.tail
low_first literals most depth_left least e rest b lone g le none is_shut few fits =
    let same = resumed_as literals most depth_left least b.first b.tail (lone_read literals most b.first lone b.grouped depth_left b.tail b.none b.is_shut) fits few in
    let all = same ∙ ap (expression literals most (suc depth_left) least) (sym b.parts) in
    Again (read_as all (reads literals most e g (suc depth_left) least rest le none is_shut))

pub from_first : (literals : Bool) (most depth_left least : ℕ) (e : Expression) (rest : List Lexeme) (b : Begun literals e rest) → IsLone b.first → IsGrouped literals e → least ≤ outer_precedence e → step_at least rest ≡ None → Shut literals rest → AreFew (λ listing. expression_longest listing b.first) most
    → FromFirst literals most depth_left least e rest b.first b.tail
from_first literals most zero least e rest b lone g le none is_shut few = Again (High (height_positive e) (resumed_none literals most least b.first b.tail))
from_first literals most (suc depth_left) least e rest b lone g le none is_shut few =
    elim (cases_lt (suc depth_left) (expression_height b.first)) [
      | inl high ↦ high_first literals most depth_left least e rest b le none high
      | inr fits ↦ low_first literals most depth_left least e rest b lone g le none is_shut few fits
    ]

-- ---- what is read is spelt so

pub resumed_sound : (literals : Bool) (most depth_left least : ℕ) (left : Expression) (ws : List Lexeme) (t : Expression) (rest : List Lexeme) → IsGrouped literals left → expression_height left ≤ suc depth_left → AreFew (λ listing. expression_longest listing left) most → min least 6 ≤ outer_precedence left → step_at (suc (outer_precedence left)) ws ≡ None
    → resumed literals most depth_left least left ws ≡ Ok (t, rest) → IsSound literals most (suc depth_left) least (before left ws) t rest
unfolding resumed
resumed_sound literals most zero least left ws t rest grouped low few strong none e = absurd cc
resumed_sound literals most (suc depth_left) least left ws t rest grouped low few strong none e =
    operations_sound literals most (expression literals most depth_left) depth_left (suc (suc depth_left)) least (omega arith) (expression_sound literals most depth_left) (suc depth_left) left ws t rest grouped low few strong none e
