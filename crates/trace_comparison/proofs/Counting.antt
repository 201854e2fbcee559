-- How many requests goroutines make.
use Rattle.std.proofs.Common.{◌≡◌, ℕ, ◌-◌, ◌<◌, ◌≤◌, ◌^◌, suc, zero, List, [], ◌∷◌, length, Option, refl, sym, ap, subst, arith, ⊎_elim}
use Rattle.std.specs.Option.{IsSome, IfSome}
use Rattle.std.proofs.lemmas.Bool.{cases_eq, false≢true}
use Rattle.trace_comparison.specs.Requests.{Event, requests_of}
use Rattle.trace_comparison.specs.Counting.{counted}
use Rattle.trace_comparison.proofs.Events.{requests_here, requests_apart}

pub some_from_count : (o : Option ℕ) (n : ℕ) → o ≡ counted n → 0 < n → IsSome o
some_from_count o zero is has = absurd (omega arith)
some_from_count o (suc n) is has = subst IsSome (sym is) refl

pub count_from_some : (o : Option ℕ) (n : ℕ) → o ≡ counted n → IsSome o → 0 < n
count_from_some o zero is some = absurd (false≢true (subst IsSome is some))
count_from_some o (suc n) is some = omega arith

-- a goroutine makes no more requests than there are events
pub requests_fit : (g : ℕ) (es : List Event) → length (requests_of g es) ≤ length es
requests_fit g [] = omega arith
requests_fit g (e ∷ es) =
    let fit = requests_fit g es in
    ⊎_elim (λ is. omega (arith, ap length (requests_here g e es is))) (λ apart. omega (arith, ap length (requests_apart g e es apart))) (cases_eq e.goroutine g)

abbrev pub Fits : ℕ → Type 0
Fits n = n < 2 ^ 64 - 1

below : (n : ℕ) → Fits n → IfSome (counted n) Fits
below zero fits = tt
below (suc n) fits = fits

-- another request can be counted
pub count_fits : (o : Option ℕ) (g : ℕ) (es : List Event) → o ≡ counted (length (requests_of g es)) → Fits (length es) → IfSome o Fits
count_fits o g es is fits = subst (λ p. IfSome p Fits) (sym is) (below (length (requests_of g es)) (omega (arith, requests_fit g es)))
