-- Slots of a table on which none is lent.
use Rattle.std.proofs.Common.{◌≡◌, ℕ, zero, suc, true, List, length, ap, refl, sym, ◌∙◌, subst}
use Rattle.std.proofs.lemmas.Bool.{true≢false}
use Rattle.std.proofs.lemmas.List.{length-replicate}
use Rattle.clock_table.specs.declared.view.Row.{Row as Word}
use Rattle.clock_table.specs.declared.view.Row.TheVariants.{Home, Lent, Back}
use Rattle.clock_table.specs.Clocks.{IsFree, opening_rows, row as word_at}
use Rattle.slot_index.specs.Numbers.{Numbered}
use Rattle.book.specs.Slots.{AreFree, is_home}

home : (n s : ℕ) → is_home (word_at (opening_rows n) s) ≡ true
home zero s = refl
home (suc n) zero = refl
home (suc n) (suc s) = home n s

pub all_home : (n : ℕ) (places : Numbered) (words : List Word) → words ≡ opening_rows n → AreFree places words
all_home n places words e s free = subst (λ (ws : List Word). is_home (word_at ws s) ≡ true) (sym e) (home n s)

pub as_many : (n : ℕ) (words : List Word) → words ≡ opening_rows n → length words ≡ n
as_many n words e = ap length e ∙ length-replicate {A = Word} n (Home 0)

pub home_free : (w : Word) → is_home w ≡ true → IsFree w
home_free (Home c) e = tt
home_free (Lent loan seen) e = absurd (true≢false (sym e))
home_free (Back was loan c) e = absurd (true≢false (sym e))
