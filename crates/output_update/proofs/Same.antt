-- Tokens that are spelt the same.
use Rattle.std.proofs.Common.{◌≡◌, ℕ, List, ◌∷◌, true, bytes_eq, ap, sym, ◌∙◌}
use Rattle.std.specs.Prelude.{map}
use Rattle.std.proofs.lemmas.Slice.Eq.{bytes_eq-Decides}
use denote.Enum.Bare.{sameb, same_true}
use Rattle.scanner.specs.contracts.kind.TokenKind.{the_type}
use Rattle.scanner.specs.declared.kind.TokenKind.{TokenKind}
use Rattle.scanner.specs.declared.token.Token.{Token}
use Rattle.output_update.specs.Tokens.{piece_of, spelt_in}

-- a token of the same kind and with the same bytes
pub alike : (text other : List ℕ) (token wanted : Token) (piece wanted_piece : List ℕ) → sameb the_type token.kind wanted.kind ≡ true → bytes_eq piece wanted_piece ≡ true
    → piece ≡ piece_of text token.span → wanted_piece ≡ piece_of other wanted.span → spelt_in text token ≡ spelt_in other wanted
alike text other token wanted piece wanted_piece kinds bytes is are =
    ap (λ (kind : TokenKind). record { kind = kind; bytes = piece_of text token.span }) (same_true the_type tt token.kind wanted.kind kinds)
    ∙ ap (λ (found : List ℕ). record { kind = wanted.kind; bytes = found }) (sym is ∙ (bytes_eq-Decides piece wanted_piece).0 bytes ∙ are)

pub more_same : {A B C : Type 0} (f : A → C) (g : B → C) (all : List A) (others : List B) (x : A) (xs : List A) (y : B) (ys : List B) → all ≡ x ∷ xs → others ≡ y ∷ ys → f x ≡ g y → map f xs ≡ map g ys → map f all ≡ map g others
more_same f g all others x xs y ys is are first rest = ap (map f) is ∙ ap (λ c. c ∷ map f xs) first ∙ ap (λ cs. g y ∷ cs) rest ∙ sym (ap (map g) are)
