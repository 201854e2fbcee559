-- What no value begins with.
use Rattle.std.proofs.Common.{◌≡◌, Bool, true, false, List, [], ◌∷◌, refl, sym, ap, ◌∙◌}
use Rattle.scanner.specs.declared.kind.TokenKind.{TokenKind}
use Rattle.scanner.specs.declared.kind.TokenKind.TheVariants as kinds
use Rattle.syntax.specs.Tree.{Expression}
use Rattle.parser_base.specs.Lexemes.{Lexeme, Literal, Name, Text, Mark}
use Rattle.parser_base.specs.Spelling.{before, IsGrouped}
use Rattle.parser_base.specs.Reading.{is_kind, begins}
use Rattle.parser_base.proofs.Marks.{kind_is}
use Rattle.parser_base.proofs.ExpressionAgain.{begins_again}
use Rattle.parser_simple.specs.Reading.{begins_with, begins_primary}

other_kind : (kind first : TokenKind) (b : Bool) (ws : List Lexeme) → is_kind first kind ≡ b → begins (Mark first ∷ ws) ≡ true → begins (Mark kind ∷ ws) ≡ false → b ≡ false
other_kind kind first false ws is begun none = refl
other_kind kind first true ws is begun none =
    let bad = sym begun ∙ ap (λ (k : TokenKind). begins (Mark k ∷ ws)) (kind_is first kind is) ∙ none in
    absurd cc

not_begun : (kind : TokenKind) (ws : List Lexeme) → begins ws ≡ true → ((rest : List Lexeme) → begins (Mark kind ∷ rest) ≡ false) → begins_with kind ws ≡ false
unfolding begins_with
not_begun kind [] begun none = refl
not_begun kind (Literal value ∷ ws) begun none = refl
not_begun kind (Name name ∷ ws) begun none = refl
not_begun kind (Text bytes ∷ ws) begun none = refl
not_begun kind (Mark first ∷ ws) begun none = other_kind kind first (is_kind first kind) ws refl begun (none ws)

-- no value begins with a mark with which none begins
pub value_not : (kind : TokenKind) (literals : Bool) (e : Expression) (ws : List Lexeme) → IsGrouped literals e → ((rest : List Lexeme) → begins (Mark kind ∷ rest) ≡ false) → begins_with kind (before e ws) ≡ false
value_not kind literals e ws g none = not_begun kind (before e ws) (begins_again literals e ws g) none

shut_is : (kind : TokenKind) → is_kind kind kinds.LeftParenthesis ≡ true → is_kind kind kinds.Arrow ≡ false
shut_is kind is = rw (kind_is kind kinds.LeftParenthesis is) refl

-- the operand of a send begins with no arrow
pub primary_not_arrow : (ws : List Lexeme) → begins_primary ws ≡ true → begins_with kinds.Arrow ws ≡ false
unfolding begins_with begins_primary
primary_not_arrow [] begun = absurd cc
primary_not_arrow (Literal value ∷ ws) begun = refl
primary_not_arrow (Name name ∷ ws) begun = refl
primary_not_arrow (Text bytes ∷ ws) begun = absurd cc
primary_not_arrow (Mark kind ∷ ws) begun = shut_is kind begun
