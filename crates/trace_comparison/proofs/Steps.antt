-- The steps of the loops over lines.
use Rattle.std.proofs.Common.{◌≡◌, ◌≢◌, ℕ, ◌+◌, ◌-◌, ◌<◌, ◌≤◌, ◌^◌, false, cond, get_or, List, [], ◌∷◌, ◌++◌, length, take, Option, Some, None, IsTrue, refl, sym, ap, subst, ◌∙◌, arith, nat_cmp}
use Rattle.std.specs.BTreeMap.{get}
use Rattle.std.specs.List.{slice_get}
use Rattle.std.specs.Option.{IfSome}
use Rattle.std.specs.Ordering.{is_eq}
use Rattle.std.proofs.lemmas.Bool.{false≢true}
use Rattle.trace_comparison.specs.declared.counts.Counts.{Counts}
use Rattle.trace_comparison.specs.declared.line.TraceLine.{TraceLine}
use Rattle.trace_comparison.specs.declared.places.Name.{Name}
use Rattle.trace_comparison.specs.Comparing.{HasRequest, IsUnmatched}
use Rattle.trace_comparison.specs.Counting.{AreCounts, name_cmp}
use Rattle.trace_comparison.specs.Requests.{Event, event_of, events_of, requests_of, IsEventIfAny, AreFirst}
use Rattle.trace_comparison.proofs.Counting.{Fits, count_fits, requests_fit}
use Rattle.trace_comparison.proofs.Events.{taken, taken_length, event_there, first_more, other_request, same_request}
use Rattle.trace_comparison.proofs.Matching.{places_more}

from_one : (es : List Event) (g n : ℕ) (o : Option ℕ) → IsEventIfAny es g n o → IfSome o (λ e. 0 < e)
from_one es g n None past = tt
from_one es g n (Some e) (i, number, x, at, is, k) = omega arith

module _ (lines : List TraceLine) (i : ℕ) (d : TraceLine) (within : i < length lines) where
  abbrev pub here : TraceLine
  here = get_or lines i d

  abbrev pub before_here : List Event
  before_here = take i (events_of lines)

  pub one_more : before_here ++ event_of here ∷ [] ≡ take (i + 1) (events_of lines)
  one_more = sym (taken lines i d within)

  pub can_count : (counts : Counts) → length lines < 2 ^ 64 → AreCounts counts before_here → IfSome (get nat_cmp counts.counts here.goroutine) Fits
  can_count counts fits are = count_fits (get nat_cmp counts.counts here.goroutine) here.goroutine before_here (are here.goroutine) (omega (arith, taken_length lines i (omega arith)))

  abbrev pub Adds : Counts → Counts → ℕ → Type 0
  Adds old new before = (es : List Event) (e : Event) → AreCounts old es → e.goroutine ≡ here.goroutine → (before ≡ length (requests_of here.goroutine es)) × AreCounts new (es ++ e ∷ [])

  pub counted_before : (old new : Counts) (before : ℕ) → Adds old new before → AreCounts old before_here → before ≡ length (requests_of here.goroutine before_here)
  counted_before old new before adds are = (adds before_here (event_of here) are refl).0

  pub counts_step : (old new : Counts) (before : ℕ) → Adds old new before → AreCounts old before_here → AreCounts new (take (i + 1) (events_of lines))
  counts_step old new before adds are = subst (AreCounts new) one_more (adds before_here (event_of here) are refl).1

  pub number_fits : (old new : Counts) (before : ℕ) → Adds old new before → AreCounts old before_here → before ≤ i
  number_fits old new before adds are =
      omega (arith, counted_before old new before adds are, requests_fit here.goroutine before_here, taken_length lines i (omega arith))

  pub places_step : (old new : Counts) (before : ℕ) → Adds old new before → AreCounts old before_here
      → (was is : Name → Option ℕ) → ((q : Name) → IsEventIfAny before_here q.goroutine (q.before + 1) (was q))
      → ((q : Name) → is q ≡ cond (is_eq (name_cmp (record { goroutine = here.goroutine; before = before }) q)) (Some (i + 1)) (was q))
      → (q : Name) → IsEventIfAny (take (i + 1) (events_of lines)) q.goroutine (q.before + 1) (is q)
  places_step old new before adds are was is places puts q =
      let name : Name = record { goroutine = here.goroutine; before = before } in
      let len : length before_here ≡ i = taken_length lines i (omega arith) in
      subst (λ es. IsEventIfAny es q.goroutine (q.before + 1) (is q)) one_more
      (places_more before_here (event_of here) name was is places refl (counted_before old new before adds are)
      (λ r. puts r ∙ ap (λ n. cond (is_eq (name_cmp name r)) (Some (n + 1)) (was r)) (sym len)) q)

  module _ (others : List Event) (old new : Counts) (before : ℕ) (adds : Adds old new before) (are : AreCounts old before_here)
      (event : Name → Option ℕ) (places : (q : Name) → IsEventIfAny others q.goroutine (q.before + 1) (event q))
      (there : Option ℕ) (is : there ≡ event (record { goroutine = here.goroutine; before = before })) where
    place_there : IsEventIfAny others here.goroutine (before + 1) there
    place_there = subst (IsEventIfAny others here.goroutine (before + 1)) (sym is) (places (record { goroutine = here.goroutine; before = before }))

    pub is_counted_from_one : IfSome there (λ e. 0 < e)
    is_counted_from_one = from_one others here.goroutine (before + 1) there place_there

    pub first_step : AreFirst before_here others → HasRequest others there here.request.now → AreFirst (take (i + 1) (events_of lines)) others
    first_step first has =
        let n = counted_before old new before adds are in
        subst (λ es. AreFirst es others) one_more
        (first_more before_here others (event_of here) first
        (subst (λ k. slice_get (requests_of here.goroutine others) k ≡ Some here.request.now) n (same_request others here.goroutine before here.request.now there place_there has)))

    pub unmatched_here : AreFirst before_here others → (HasRequest others there here.request.now → IsTrue false)
        → IsUnmatched (events_of lines) others (Some (record { goroutine = here.goroutine; number = before + 1; event = i + 1; there = there }))
    unmatched_here first isnt =
        let n = sym (counted_before old new before adds are) in
        let at = event_there lines i d within in
        let less_k : before ≡ (before + 1) - 1 = omega arith in
        let less_i : i ≡ (i + 1) - 1 = omega arith in (
          (i, refl, event_of here, at, refl, ap (λ k. k + 1) n),
          place_there,
          subst (λ k. slice_get (requests_of here.goroutine (events_of lines)) k ≢ slice_get (requests_of here.goroutine others) k) less_k
              (other_request (events_of lines) others here.goroutine before i (event_of here) there at refl n place_there (λ has. false≢true (isnt has))),
          subst (λ j. AreFirst (take j (events_of lines)) others) less_i first,
        )
