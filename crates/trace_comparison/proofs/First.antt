-- The first event of which a part is not the same.
use Rattle.std.proofs.Common.{◌≡◌, ◌↔◌, ℕ, ◌+◌, ◌<◌, ◌≤◌, Bool, false, get_or, List, length, map, take, Some, IsTrue, refl, sym, ap, subst, ◌∙◌, arith}
use Rattle.std.specs.List.{slice_get}
use Rattle.std.specs.Option.{option_map}
use Rattle.std.proofs.lemmas.Bool.{false≢true}
use Rattle.std.proofs.lemmas.List.{length-map, map-id, take_all}
use Rattle.std.proofs.lemmas.Option.{slice_get-map, slice_get_past, slice_get_within, same_Some, none-some}
use Rattle.trace_comparison.specs.declared.line.TraceLine.{TraceLine}
use Rattle.trace_comparison.specs.Comparing.{IsFirstOther}
use Rattle.trace_comparison.specs.Requests.{Event, event_of, events_of}
use Rattle.trace_comparison.proofs.Events.{event_there, events_length}
use Rattle.trace_comparison.proofs.Lists.{take_one_more, some_there}

module _ (part : Event → Event) where
  abbrev pub parts : List TraceLine → List Event
  parts lines = map part (events_of lines)

  parts_length : (lines : List TraceLine) → length (parts lines) ≡ length lines
  parts_length lines = length-map (events_of lines) part ∙ events_length lines

  part_there : (lines : List TraceLine) (i : ℕ) (d : TraceLine) → i < length lines → slice_get (parts lines) i ≡ Some (part (event_of (get_or lines i d)))
  part_there lines i d l = slice_get-map part (events_of lines) i ∙ ap (option_map part) (event_there lines i d l)

  -- ---- one line

  pub line_is : (lines : List TraceLine) (i : ℕ) (other : TraceLine) (e : Event) (b : Bool) → i < length lines → other ≡ get_or lines i other
      → IsTrue b ↔ (part (event_of other) ≡ part e) → IsTrue b ↔ (slice_get (parts lines) i ≡ Some (part e))
  line_is lines i other e b l at iff =
      let there : slice_get (parts lines) i ≡ Some (part (event_of other)) = part_there lines i other l ∙ ap (λ x. Some (part (event_of x))) (sym at) in
      ((λ yes. there ∙ ap Some (iff.0 yes)), (λ same. iff.1 (same_Some (part (event_of other)) (part e) (sym there ∙ same))))

  pub no_line : (lines : List TraceLine) (i : ℕ) (e : Event) → length lines ≤ i → IsTrue false ↔ (slice_get (parts lines) i ≡ Some e)
  no_line lines i e past =
      ((λ yes. absurd (false≢true yes)), (λ same. absurd (none-some e (sym (slice_get_past (parts lines) i (omega (arith, parts_length lines))) ∙ same))))

  -- ---- the loop over the lines

  module _ (run recorded : List TraceLine) (i : ℕ) (same : take i (parts run) ≡ take i (parts recorded)) where
    pub other_here : (d : TraceLine) → i < length run → (slice_get (parts recorded) i ≡ Some (part (event_of (get_or run i d))) → IsTrue false)
        → IsFirstOther (parts run) (parts recorded) (i + 1)
    other_here d l isnt = (i, refl, same, λ is. false≢true (isnt (sym is ∙ part_there run i d l)))

    pub same_more : (d : TraceLine) → i < length run → slice_get (parts recorded) i ≡ Some (part (event_of (get_or run i d))) → take (i + 1) (parts run) ≡ take (i + 1) (parts recorded)
    same_more d l there = take_one_more (parts run) (parts recorded) i (part (event_of (get_or run i d))) same (part_there run i d l) there

    pub within_more : (e : Event) → slice_get (parts recorded) i ≡ Some e → i + 1 ≤ length recorded
    within_more e there = omega (arith, slice_get_within (parts recorded) i e there, parts_length recorded)

    pub other_after : length run ≤ i → i ≤ length run → length run < length recorded → IsFirstOther (parts run) (parts recorded) (length run + 1)
    other_after past within more =
        let all : i ≡ length run = omega arith in
        let d : (x : Event) × (slice_get (parts recorded) (length run) ≡ Some x) = some_there (parts recorded) (length run) (omega (arith, parts_length recorded)) in (
          length run,
          refl,
          subst (λ n. take n (parts run) ≡ take n (parts recorded)) all same,
          (λ is. none-some d.0 (sym (slice_get_past (parts run) (length run) (omega (arith, parts_length run))) ∙ is ∙ d.1)),
        )

    pub same_all : length run ≤ i → i ≤ length run → i ≤ length recorded → length recorded ≤ length run → parts run ≡ parts recorded
    same_all past within fits all =
        sym (take_all i (parts run) (omega (arith, parts_length run))) ∙ same ∙ take_all i (parts recorded) (omega (arith, parts_length recorded))

-- lines are whole
pub other_line : (run recorded : List Event) (n : ℕ) → IsFirstOther (map (λ (e : Event). e) run) (map (λ (e : Event). e) recorded) n → IsFirstOther run recorded n
other_line run recorded n other =
    subst (λ (es : List Event). IsFirstOther es recorded n) (map-id run) (subst (λ (es : List Event). IsFirstOther (map (λ (e : Event). e) run) es n) (map-id recorded) other)
