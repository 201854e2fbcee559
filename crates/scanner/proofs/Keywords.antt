-- The keyword of a statement is that of a choice, of a jump, of a loop or of a call.
use Rattle.std.proofs.Common.{◌≡◌, ℕ, Bool, true, false, List, refl, sym, subst, codes}
use Rattle.std.specs.Prelude.{Option, bytes_eq}
use Rattle.std.specs.Option.{option_or}
use Rattle.std.proofs.lemmas.Slice.Eq.{bytes_eq-Decides}
use Rattle.scanner.specs.declared.kind.TokenKind.{TokenKind}
use Rattle.scanner.specs.Keywords.{choice_keyword, jump_keyword, loop_or_call_keyword}
use Rattle.scanner.specs.Lexical.{statement_keyword}

-- P holds of a text if it holds of `word`, and of the text if that differs from `word`
word_or : (P : List ℕ → Type 0) (text word : List ℕ) → P word → (bytes_eq text word ≡ false → P text) → P text
word_or P text word one others = tested (bytes_eq text word) refl
  where
    tested : (same : Bool) → bytes_eq text word ≡ same → P text
    tested true e = subst P (sym ((bytes_eq-Decides text word).0 e)) one
    tested false e = others e

-- the keyword by what it is for
abbrev by_purpose : List ℕ → Option TokenKind
by_purpose text = option_or (choice_keyword text) (option_or (jump_keyword text) (loop_or_call_keyword text))

abbrev IsByPurpose : List ℕ → Type 0
IsByPurpose text = statement_keyword text ≡ by_purpose text

pub statement_keyword_is : (text : List ℕ) → statement_keyword text ≡ option_or (choice_keyword text) (option_or (jump_keyword text) (loop_or_call_keyword text))
unfolding statement_keyword choice_keyword jump_keyword loop_or_call_keyword
statement_keyword_is text =
    word_or IsByPurpose text (codes "break") refl (λ not_break.
    word_or IsByPurpose text (codes "case") refl (λ not_case.
    word_or IsByPurpose text (codes "continue") refl (λ not_continue.
    word_or IsByPurpose text (codes "default") refl (λ not_default.
    word_or IsByPurpose text (codes "defer") refl (λ not_defer.
    word_or IsByPurpose text (codes "else") refl (λ not_else.
    word_or IsByPurpose text (codes "fallthrough") refl (λ not_fallthrough.
    word_or IsByPurpose text (codes "for") refl (λ not_for.
    word_or IsByPurpose text (codes "go") refl (λ not_go.
    word_or IsByPurpose text (codes "goto") refl (λ not_goto.
    word_or IsByPurpose text (codes "if") refl (λ not_if.
    word_or IsByPurpose text (codes "range") refl (λ not_range.
    word_or IsByPurpose text (codes "return") refl (λ not_return.
    word_or IsByPurpose text (codes "select") refl (λ not_select.
    word_or IsByPurpose text (codes "switch") refl (λ not_switch.
    rw (not_break, not_case, not_continue, not_default, not_defer, not_else, not_fallthrough, not_for, not_go, not_goto, not_if, not_range, not_return, not_select, not_switch) refl)))))))))))))))
