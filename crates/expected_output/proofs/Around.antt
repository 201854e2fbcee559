-- The comments around tokens.
use Rattle.std.proofs.Common.{◌≡◌, ◌+◌, ◌<◌, ◌≤◌, ℕ, List, ◌++◌, length, drop, get_or, sym, ap, subst, ◌∙◌}
use Rattle.std.proofs.lemmas.List.{append_assoc, drop_all, drop_more}
use Rattle.expected_output.specs.Comments.{AreBetween, AreComments, Before, Rest}
use Rattle.scanner.specs.declared.token.Token.{Token}

-- the comments before one token more
pub token_next : (text : List ℕ) (tokens : List Token) (at end : ℕ) (d : Token) (old between new : List (List ℕ)) → at < length tokens
    → AreBetween text end (get_or tokens at d).span.from between
    → ((later : List (List ℕ)) → AreComments text end (drop at tokens) later → AreComments text 0 tokens (old ++ later)) → new ≡ old ++ between
    → (later : List (List ℕ)) → AreComments text (get_or tokens at d).span.to (drop (at + 1) tokens) later → AreComments text 0 tokens (new ++ later)
token_next text tokens at end d old between new within are was grows later rest =
    subst (AreComments text 0 tokens) (sym (append_assoc old between later) ∙ ap (λ (l : List (List ℕ)). l ++ later) (sym grows))
    (was (between ++ later)
    (subst (λ (ts : List Token). AreComments text end ts (between ++ later)) (sym (drop_more tokens at d within)) (Before end (get_or tokens at d) (drop (at + 1) tokens) between later are rest)))

-- the comments after the last token
pub token_last : (text : List ℕ) (tokens : List Token) (at end : ℕ) (old between new : List (List ℕ)) → AreBetween text end (length text) between
    → ((later : List (List ℕ)) → AreComments text end (drop at tokens) later → AreComments text 0 tokens (old ++ later)) → length tokens ≤ at → new ≡ old ++ between
    → AreComments text 0 tokens new
token_last text tokens at end old between new are was all grows =
    subst (AreComments text 0 tokens) (sym grows)
    (was between (subst (λ (ts : List Token). AreComments text end ts between) (sym (drop_all at tokens all)) (Rest end between are)))
