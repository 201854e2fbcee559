-- Requests of one trace in another.
use Rattle.std.proofs.Common.{◌≡◌, ◌↔◌, ℕ, ◌+◌, ◌<◌, ◌≤◌, Bool, true, false, cond, eqb, get_or, List, [], ◌∷◌, ◌++◌, length, Option, Some, IsTrue, refl, sym, ap, subst, ◌∙◌, arith, ⊎_elim, nat_cmp}
use Rattle.std.specs.Cmp.Lexicographic.{pointwise}
use Rattle.std.specs.List.{slice_get}
use Rattle.std.specs.Ordering.{is_eq, ordering_then}
use Rattle.std.specs.declared.cmp.Ordering.{Ordering}
use Rattle.std.specs.declared.cmp.Ordering.TheVariants.{Less, Equal, Greater}
use Rattle.std.proofs.lemmas.Bool.{cases_Bool, false≢true, cond-true, cond-false}
use Rattle.std.proofs.lemmas.Map.Lookups.{exact_unsigned}
use Rattle.std.proofs.lemmas.Option.{same_Some, none-some, slice_get_past}
use Rattle.std.proofs.lemmas.Slice.Eq.{bytes_eq-Decides}
use Rattle.std.specs.Cmp.{nat_cmp_is}
use Rattle.trace_comparison.specs.declared.line.TraceLine.{TraceLine}
use Rattle.trace_comparison.specs.declared.places.Name.{Name}
use Rattle.trace_comparison.specs.Requests.{Event, event_of, events_of, requests_of, IsEvent, IsEventIfAny}
use Rattle.trace_comparison.specs.Comparing.{HasRequest}
use Rattle.trace_comparison.specs.Counting.{name_cmp}
use Rattle.trace_comparison.proofs.Events.{event_there, event_last, event_more, events_length}

-- ---- names

equal : (o : Ordering) → is_eq o ≡ true → o ≡ Equal
equal Less is = absurd (false≢true is)
equal Equal is = refl
equal Greater is = absurd (false≢true is)

both_equal : (o p : Ordering) → ordering_then o p ≡ Equal → (o ≡ Equal) × (p ≡ Equal)
both_equal Less p is = cc
both_equal Equal p is = (refl, is)
both_equal Greater p is = cc

pub same_name : (a b : Name) → is_eq (name_cmp a b) ≡ true → (a.goroutine ≡ b.goroutine) × (a.before ≡ b.before)
same_name a b is =
    let parts = both_equal (nat_cmp a.goroutine b.goroutine) (nat_cmp a.before b.before) (equal (name_cmp a b) is) in
    (exact_unsigned a.goroutine b.goroutine parts.0, exact_unsigned a.before b.before parts.1)

pub name_itself : (a b : Name) → a.goroutine ≡ b.goroutine → a.before ≡ b.before → is_eq (name_cmp a b) ≡ true
name_itself a b g n =
    let e : nat_cmp a.goroutine b.goroutine ≡ Equal = sym (nat_cmp_is a.goroutine b.goroutine Equal g) in
    let f : nat_cmp a.before b.before ≡ Equal = sym (nat_cmp_is a.before b.before Equal n) in
    ap is_eq (ap (λ o. ordering_then o (nat_cmp a.before b.before)) e ∙ f)

-- a map of the requests, with the last event put in
pub places_more : (es : List Event) (e : Event) (name : Name) (old new : Name → Option ℕ) → ((q : Name) → IsEventIfAny es q.goroutine (q.before + 1) (old q))
    → name.goroutine ≡ e.goroutine → name.before ≡ length (requests_of e.goroutine es) → ((q : Name) → new q ≡ cond (is_eq (name_cmp name q)) (Some (length es + 1)) (old q))
    → (q : Name) → IsEventIfAny (es ++ e ∷ []) q.goroutine (q.before + 1) (new q)
places_more es e name old new places g n puts q =
    ⊎_elim
    (λ is. let same = same_name name q is in
    subst (IsEventIfAny (es ++ e ∷ []) q.goroutine (q.before + 1)) (sym (puts q ∙ cond-true (is_eq (name_cmp name q)) (Some (length es + 1)) (old q) is))
    (subst (λ h. IsEvent (es ++ e ∷ []) h (q.before + 1) (length es + 1)) (sym g ∙ same.0)
    (subst (λ k. IsEvent (es ++ e ∷ []) e.goroutine (k + 1) (length es + 1)) (sym n ∙ same.1) (event_last es e))))
    (λ isnt. subst (IsEventIfAny (es ++ e ∷ []) q.goroutine (q.before + 1)) (sym (puts q ∙ cond-false (is_eq (name_cmp name q)) (Some (length es + 1)) (old q) isnt))
    (event_more es e q.goroutine (q.before + 1) (old q) (places q)
    (λ h k. let m : length (requests_of q.goroutine es) ≡ q.before = omega arith in
    false≢true (sym isnt ∙ name_itself name q (g ∙ h) (n ∙ ap (λ r. length (requests_of r es)) h ∙ m)))))
    (cases_Bool (is_eq (name_cmp name q)))

-- ---- requests in events

pub request_is : (lines : List TraceLine) (index : Option ℕ) (event i : ℕ) (line : TraceLine) (q : List ℕ) (b : Bool) → index ≡ Some event → event ≡ i + 1 → i < length lines
    → line ≡ get_or lines i line → b ≡ pointwise eqb line.request.now q → IsTrue b ↔ HasRequest (events_of lines) index q
request_is lines index event i line q b is number l at eq =
    let there : slice_get (events_of lines) i ≡ Some (event_of line) = event_there lines i line l ∙ ap (λ x. Some (event_of x)) (sym at) in
    let decides = bytes_eq-Decides line.request.now q in (
      (λ yes. (i, is ∙ ap Some number, event_of line, there, decides.0 (sym eq ∙ yes))),
      (λ has. let (j, js, e, e_at, same) = has in
          let m : event ≡ j + 1 = same_Some event (j + 1) (sym is ∙ js) in
          let ij : i ≡ j = omega arith in
          let ee : event_of line ≡ e = same_Some (event_of line) e (sym there ∙ ap (slice_get (events_of lines)) ij ∙ e_at) in
          eq ∙ decides.1 (ap (λ (x : Event). x.request) ee ∙ same)),
    )

pub no_request : (lines : List TraceLine) (index : Option ℕ) (event i : ℕ) (q : List ℕ) → index ≡ Some event → event ≡ i + 1 → length lines ≤ i → IsTrue false ↔ HasRequest (events_of lines) index q
no_request lines index event i q is number past = (
  (λ yes. absurd (false≢true yes)),
  (λ has. let (j, js, e, e_at, same) = has in
      let m : event ≡ j + 1 = same_Some event (j + 1) (sym is ∙ js) in
      let ij : i ≡ j = omega arith in
      absurd (none-some e (sym (slice_get_past (events_of lines) i (omega (arith, events_length lines))) ∙ ap (slice_get (events_of lines)) ij ∙ e_at))),
)
