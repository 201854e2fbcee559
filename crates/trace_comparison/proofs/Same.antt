-- Traces in which each goroutine requests the same.
use Rattle.std.proofs.Common.{◌≡◌, ◌↔◌, ℕ, ◌-◌, Bool, true, false, List, [], ◌∷◌, map, IsTrue, refl, sym, ap, ◌∙◌, ⊎_elim}
use Rattle.std.specs.List.{slice_get}
use Rattle.std.proofs.lemmas.Bool.{cases_eq, false≢true}
use Rattle.trace_comparison.specs.Requests.{Event, requests_of, HaveSameRequests}
use Rattle.trace_comparison.specs.Comparing.{without_line, IsComparison}
use Rattle.trace_comparison.specs.declared.comparison.Comparison.{Comparison}
use Rattle.trace_comparison.specs.declared.comparison.Comparison.TheVariants.{Same, OtherClocks, OtherOrder, Differs}
use Rattle.trace_comparison.specs.declared.comparison.Difference.{Difference}
use Rattle.trace_comparison.proofs.Events.{requests_here, requests_apart}

requests_without_line : (g : ℕ) (es : List Event) → requests_of g (map without_line es) ≡ requests_of g es
requests_without_line g [] = refl
requests_without_line g (e ∷ es) =
    let rest = requests_without_line g es in
    ⊎_elim (λ is. requests_here g (without_line e) (map without_line es) is ∙ ap (λ qs. e.request ∷ qs) rest ∙ sym (requests_here g e es is))
    (λ apart. requests_apart g (without_line e) (map without_line es) apart ∙ rest ∙ sym (requests_apart g e es apart)) (cases_eq e.goroutine g)

same_requests : (run recorded : List Event) → map without_line run ≡ map without_line recorded → HaveSameRequests run recorded
same_requests run recorded same g = sym (requests_without_line g run) ∙ ap (requests_of g) same ∙ requests_without_line g recorded

pub same_unless_differs : (recorded run : List Event) (comparison : Comparison) (b : Bool) → IsComparison recorded run comparison
    → ((d : Difference) → comparison ≡ Differs d → b ≡ false) → (((d : Difference) → comparison ≡ Differs d → ⊥) → b ≡ true) → IsTrue b ↔ HaveSameRequests run recorded
same_unless_differs recorded run Same b same differs other = ((λ yes g. ap (requests_of g) same), (λ requests. other (λ d is. cc)))
same_unless_differs recorded run (OtherClocks event) b same differs other = ((λ yes. same_requests run recorded same.0), (λ requests. other (λ d is. cc)))
same_unless_differs recorded run (OtherOrder event) b same differs other = ((λ yes. same.0), (λ requests. other (λ d is. cc)))
same_unless_differs recorded run (Differs d) b difference differs other = (
  (λ yes. absurd (false≢true (sym (differs d refl) ∙ yes))),
  (λ requests. absurd (difference.2 (ap (λ qs. slice_get qs (d.number - 1)) (requests d.goroutine)))),
)
