-- Names and selections that are too high as values are refused only if no value fits.
use Rattle.std.proofs.Common.{◌≡◌, ℕ, ◌<◌, ◌≤◌, Bool, true, false, cond, List, [], ◌∷◌, Result, Ok, Err, nat_le, ◌⊎◌, inl, inr, refl, arith, append_assoc, add-one}
use Rattle.std.proofs.lemmas.Bool.{leb-false}
use Rattle.scanner.specs.declared.kind.TokenKind.TheVariants as kinds
use Rattle.syntax.specs.declared.node.BinaryOperator.{BinaryOperator}
use Rattle.syntax.specs.declared.node.BinaryOperator.TheVariants as binaries
use Rattle.syntax.specs.Tree.{Expression, Integer, Named, Parenthesized, Selection, Composite, Unary, Binary, Call, Receive, Make, MakeSized, Length, Capacity}
use Rattle.syntax.specs.Measures.{Listing, expression_height}
use Rattle.parser_base.specs.Lexemes.{Lexeme, Name, Mark}
use Rattle.parser_base.specs.Spelling.{before, expression_words, outer_precedence, IsGrouped, binary_kind}
use Rattle.parser_base.specs.Reading.{Refusal, TooDeep, Reading, ◌>>=◌}
use Rattle.parser_base.proofs.ListLaws.{ReadBack, High}
use Rattle.parser_base.proofs.ExpressionAgain.{height_positive, precedence-lt}
use Rattle.parser_simple.specs.Reading.{goes_on, within, fits}

-- nothing is refused, or `height` levels are too deep
abbrev pub Fits : (height depth_left : ℕ) → Result (Unit {0}) Refusal → Type 0
Fits height depth_left read = (read ≡ Ok tt) ⊎ ((read ≡ Err TooDeep) × (depth_left < height))

either_fits : (b : Bool) (high depth_left : ℕ) → (b ≡ false → depth_left < high) → Fits high depth_left (cond b (Ok tt) (Err TooDeep))
either_fits true high depth_left none = inl refl
either_fits false high depth_left none = inr (refl, none refl)

pub within_fits : (height high depth_left : ℕ) → height ≤ high → Fits high depth_left (within height depth_left true)
within_fits height high depth_left low = either_fits (nat_le height depth_left) high depth_left (λ none. let over = leb-false height depth_left none in omega (arith, over, low))

-- what is read after the guard
pub fits_again : {A : Type 0} {part height depth_left depth_left' : ℕ} {longest : Listing → ℕ} {most : ℕ} {x : A} {rest : List Lexeme} (read : Reading A) (guard : Result (Unit {0}) Refusal)
    → Fits part depth_left guard → (depth_left < part → depth_left' < height) → ReadBack read x rest height depth_left' longest most → ReadBack (guard >>= λ low. read) x rest height depth_left' longest most
fits_again read guard (inl e) up again = rw e again
fits_again read guard (inr high) up again = High (up high.1) (rw high.0 refl)

-- ---- what goes on with a value

operator_goes : (literals : Bool) (o : BinaryOperator) (height depth_left : ℕ) (ws : List Lexeme) → fits true literals false height depth_left (Mark (binary_kind o) ∷ ws) ≡ within height depth_left true
unfolding fits
operator_goes literals binaries.Add height depth_left ws = refl
operator_goes literals binaries.Subtract height depth_left ws = refl
operator_goes literals binaries.Multiply height depth_left ws = refl
operator_goes literals binaries.Divide height depth_left ws = refl
operator_goes literals binaries.Remainder height depth_left ws = refl
operator_goes literals binaries.And height depth_left ws = refl
operator_goes literals binaries.Or height depth_left ws = refl
operator_goes literals binaries.ExclusiveOr height depth_left ws = refl
operator_goes literals binaries.AndNot height depth_left ws = refl
operator_goes literals binaries.ShiftLeft height depth_left ws = refl
operator_goes literals binaries.ShiftRight height depth_left ws = refl
operator_goes literals binaries.Equal height depth_left ws = refl
operator_goes literals binaries.NotEqual height depth_left ws = refl
operator_goes literals binaries.Less height depth_left ws = refl
operator_goes literals binaries.LessEqual height depth_left ws = refl
operator_goes literals binaries.Greater height depth_left ws = refl
operator_goes literals binaries.GreaterEqual height depth_left ws = refl
operator_goes literals binaries.LogicalAnd height depth_left ws = refl
operator_goes literals binaries.LogicalOr height depth_left ws = refl

operator_fits : (header literals : Bool) (o : BinaryOperator) (height high depth_left : ℕ) (ws : List Lexeme) → header ≡ true → height ≤ high → Fits high depth_left (fits header literals false height depth_left (Mark (binary_kind o) ∷ ws))
operator_fits header literals o height high depth_left ws begins low = rw (begins, operator_goes literals o height depth_left ws) (within_fits height high depth_left low)

literal_goes : (header : Bool) → goes_on header true true kinds.LeftBrace ≡ true
literal_goes true = refl
literal_goes false = refl

-- ---- values

-- a value fits, or is too high, if each name and selection before what follows does
pub value_fits : (header literals : Bool) (high depth_left : ℕ) (e : Expression) (ws : List Lexeme) → IsGrouped literals e → (header ≡ true) ⊎ (outer_precedence e ≡ 7) → expression_height e ≤ high
    → Fits high depth_left (fits header literals false (expression_height e) depth_left ws) → Fits high depth_left (fits header literals true 0 depth_left (before e ws))
unfolding fits
value_fits header literals high depth_left (Integer value) ws is strong low next = inl refl
value_fits header literals high depth_left (Named name) ws is strong low next = rw is next
value_fits header literals high depth_left (Parenthesized inner) ws is strong low next = inl refl
value_fits header literals high depth_left (Selection whole field) ws is strong low next =
    rw (append_assoc (expression_words whole) (Mark kinds.Period ∷ Name field ∷ []) ws)
    (value_fits header literals high depth_left whole (Mark kinds.Period ∷ Name field ∷ ws) is.0 (inr is.1) (omega (arith, low)) (rw (is.2, add-one (expression_height whole)) next))
value_fits header literals high depth_left (Composite name vs trailing) ws is strong low next =
    rw (is.1, is.0, literal_goes header) (within_fits 1 high depth_left (omega (arith, low, height_positive (Composite name vs trailing))))
value_fits header literals high depth_left (Unary o inner) ws is strong low next = inl refl
value_fits header literals high depth_left (Binary o l r) ws is (inl begins) low next =
    rw (append_assoc (expression_words l) (Mark (binary_kind o) ∷ expression_words r) ws)
    (value_fits header literals high depth_left l (Mark (binary_kind o) ∷ before r ws) is.0 (inl begins) (omega (arith, low)) (operator_fits header literals o (expression_height l) high depth_left (before r ws) begins (omega (arith, low))))
value_fits header literals high depth_left (Binary o l r) ws is (inr strong) low next = absurd (omega (arith, strong, precedence-lt o))
value_fits header literals high depth_left (Call function vs trailing) ws is strong low next = rw is.0 (within_fits 1 high depth_left (omega (arith, low, height_positive (Call function vs trailing))))
value_fits header literals high depth_left (Receive channel) ws is strong low next = inl refl
value_fits header literals high depth_left (Make channel) ws is strong low next = inl refl
value_fits header literals high depth_left (MakeSized channel size) ws is strong low next = inl refl
value_fits header literals high depth_left (Length channel) ws is strong low next = inl refl
value_fits header literals high depth_left (Capacity channel) ws is strong low next = inl refl

-- the operand of a send
pub operand_fits : (header literals : Bool) (depth_left : ℕ) (c : Expression) (ws : List Lexeme) → IsGrouped literals c → outer_precedence c ≡ 7 → Fits (expression_height c) depth_left (fits header literals true 0 depth_left (before c (Mark kinds.Arrow ∷ ws)))
unfolding fits
operand_fits header literals depth_left c ws is strong =
    value_fits header literals (expression_height c) depth_left c (Mark kinds.Arrow ∷ ws) is (inr strong) (omega arith) (within_fits (expression_height c) (expression_height c) depth_left (omega arith))

-- a condition before a block
pub condition_fits : (depth_left : ℕ) (c : Expression) (ws : List Lexeme) → IsGrouped false c → Fits (expression_height c) depth_left (fits true false true 0 depth_left (before c (Mark kinds.LeftBrace ∷ ws)))
unfolding fits
condition_fits depth_left c ws is =
    value_fits true false (expression_height c) depth_left c (Mark kinds.LeftBrace ∷ ws) is (inl refl) (omega arith) (within_fits (expression_height c) (expression_height c) depth_left (omega arith))
