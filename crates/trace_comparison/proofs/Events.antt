-- What goroutines request in events.
use Rattle.std.proofs.Common.{◌≡◌, ◌≢◌, ℕ, ◌+◌, ◌<◌, ◌≤◌, suc, Bool, cond, eqb, get_or, List, [], ◌∷◌, ◌++◌, length, take, drop, map, Option, Some, None, refl, sym, ap, subst, ◌∙◌, arith, ⊎_elim}
use Rattle.std.specs.List.{slice_get, filter}
use Rattle.std.specs.Option.{option_map}
use Rattle.std.proofs.lemmas.List.{map-append, append-nil, take_at, length_push, take-append-le, take-map, map_more, length-take-le, length-map}
use Rattle.std.proofs.lemmas.List.Elements.{filter-append}
use Rattle.std.proofs.lemmas.Bool.{eq-eqb, ne_eqb, cases_eq}
use Rattle.std.proofs.lemmas.Option.{slice_get_past, slice_get_within, same_Some, none-some, slice_get-map, slice_get-get_or}
use Rattle.trace_comparison.specs.Requests.{Event, event_of, events_of, requests_of, HaveSameRequests, IsEvent, IsEventIfAny, AreFirst}
use Rattle.trace_comparison.specs.Comparing.{HasRequest}
use Rattle.trace_comparison.specs.declared.line.TraceLine.{TraceLine}
use Rattle.trace_comparison.proofs.Lists.{slice_get_at, around, slice_get-append_left, front_more, same_fronts}

pub requests-append : (g : ℕ) (xs ys : List Event) → requests_of g (xs ++ ys) ≡ requests_of g xs ++ requests_of g ys
requests-append g xs ys =
    ap (map (λ (e : Event). e.request)) (filter-append (λ (e : Event). eqb e.goroutine g) xs ys)
    ∙ map-append (λ (e : Event). e.request) (filter (λ (e : Event). eqb e.goroutine g) xs) (filter (λ (e : Event). eqb e.goroutine g) ys)

pub requests_here : (g : ℕ) (e : Event) (es : List Event) → e.goroutine ≡ g → requests_of g (e ∷ es) ≡ e.request ∷ requests_of g es
requests_here g e es is =
    ap (λ (b : Bool). map (λ (f : Event). f.request) (cond b (e ∷ filter (λ (f : Event). eqb f.goroutine g) es) (filter (λ (f : Event). eqb f.goroutine g) es))) (eq-eqb e.goroutine g is)

pub requests_apart : (g : ℕ) (e : Event) (es : List Event) → (e.goroutine ≢ g) → requests_of g (e ∷ es) ≡ requests_of g es
requests_apart g e es isnt =
    ap (λ (b : Bool). map (λ (f : Event). f.request) (cond b (e ∷ filter (λ (f : Event). eqb f.goroutine g) es) (filter (λ (f : Event). eqb f.goroutine g) es))) (ne_eqb e.goroutine g isnt)

-- one more event
pub requests_more : (g : ℕ) (es : List Event) (e : Event) → e.goroutine ≡ g → requests_of g (es ++ e ∷ []) ≡ requests_of g es ++ e.request ∷ []
requests_more g es e is = requests-append g es (e ∷ []) ∙ ap (λ qs. requests_of g es ++ qs) (requests_here g e [] is)

pub requests_same : (g : ℕ) (es : List Event) (e : Event) → (e.goroutine ≢ g) → requests_of g (es ++ e ∷ []) ≡ requests_of g es
requests_same g es e isnt = requests-append g es (e ∷ []) ∙ ap (λ qs. requests_of g es ++ qs) (requests_apart g e [] isnt) ∙ append-nil (requests_of g es)

-- what is requested in an event
pub request_at : (es : List Event) (g k i : ℕ) (e : Event) → slice_get es i ≡ Some e → e.goroutine ≡ g → length (requests_of g (take i es)) ≡ k
    → slice_get (requests_of g es) k ≡ Some e.request
request_at es g k i e at is n =
    let whole : requests_of g es ≡ requests_of g (take i es) ++ e.request ∷ requests_of g (drop (suc i) es) =
    ap (requests_of g) (around es i e at) ∙ requests-append g (take i es) (e ∷ drop (suc i) es) ∙ ap (λ qs. requests_of g (take i es) ++ qs) (requests_here g e (drop (suc i) es) is) in
    ap (λ qs. slice_get qs k) whole ∙ ap (slice_get (requests_of g (take i es) ++ e.request ∷ requests_of g (drop (suc i) es))) (sym n)
    ∙ slice_get_at (requests_of g (take i es)) e.request (requests_of g (drop (suc i) es))

-- the last event
pub event_last : (es : List Event) (e : Event) → IsEvent (es ++ e ∷ []) e.goroutine (length (requests_of e.goroutine es) + 1) (length es + 1)
event_last es e = (length es, refl, e, slice_get_at es e [], refl, ap (λ xs. length (requests_of e.goroutine xs) + 1) (take_at es (e ∷ []) (length es) refl))

-- earlier events stay
pub event_more : (es : List Event) (e : Event) (g n : ℕ) (o : Option ℕ) → IsEventIfAny es g n o → (e.goroutine ≡ g → (length (requests_of g es) + 1 ≡ n) → ⊥) → IsEventIfAny (es ++ e ∷ []) g n o
event_more es e g n None past isnt =
    ⊎_elim (λ is. let m = isnt is in let l : length (requests_of g es) + 1 < n = omega arith in omega (arith, ap length (requests_more g es e is), length_push (requests_of g es) e.request))
    (λ apart. omega (arith, ap length (requests_same g es e apart))) (cases_eq e.goroutine g)
event_more es e g n (Some event) (i, number, f, at, is, k) isnt =
    let l = slice_get_within es i f at in
    (i, number, f, slice_get-append_left es (e ∷ []) i l ∙ at, is, ap (λ xs. length (requests_of g xs) + 1) (take-append-le i es (e ∷ []) (omega arith)) ∙ k)

-- each goroutine's first requests, with one more
pub first_more : (some all : List Event) (e : Event) → AreFirst some all → slice_get (requests_of e.goroutine all) (length (requests_of e.goroutine some)) ≡ Some e.request
    → AreFirst (some ++ e ∷ []) all
first_more some all e first next g =
    ⊎_elim
    (λ is. subst (λ qs. take (length qs) (requests_of g all) ≡ qs) (sym (requests_more g some e is))
    (front_more (requests_of g some) (requests_of g all) e.request (first g) (subst (λ h. slice_get (requests_of h all) (length (requests_of h some)) ≡ Some e.request) is next)))
    (λ apart. subst (λ qs. take (length qs) (requests_of g all) ≡ qs) (sym (requests_same g some e apart)) (first g))
    (cases_eq e.goroutine g)

-- what a goroutine requested is another one, or missing, in all
pub other_request : (some all : List Event) (g k i : ℕ) (e : Event) (there : Option ℕ) → slice_get some i ≡ Some e → e.goroutine ≡ g → length (requests_of g (take i some)) ≡ k
    → IsEventIfAny all g (k + 1) there → (HasRequest all there e.request → ⊥) → slice_get (requests_of g some) k ≢ slice_get (requests_of g all) k
other_request some all g k i e None at is n past isnt same =
    let a = request_at some g k i e at is n in
    let b = slice_get_past (requests_of g all) k (omega arith) in
    none-some e.request (sym b ∙ sym same ∙ a)
other_request some all g k i e (Some event) at is n (j, number, f, there, of, m) isnt same =
    let a = request_at some g k i e at is n in
    let b = request_at all g k j f there of (omega arith) in
    isnt (j, ap Some number, f, there, same_Some f.request e.request (sym b ∙ sym same ∙ a))

-- what a goroutine requested is there, too
pub same_request : (all : List Event) (g k : ℕ) (q : List ℕ) (there : Option ℕ) → IsEventIfAny all g (k + 1) there → HasRequest all there q → slice_get (requests_of g all) k ≡ Some q
same_request all g k q there event (j, is, f, at, same) =
    let (i, number, h, there_at, of, n) = subst (IsEventIfAny all g (k + 1)) is event in
    let ij : i ≡ j = omega arith in
    request_at all g k i h there_at of (omega arith) ∙ ap Some (ap (λ (x : Event). x.request) (same_Some h f (sym there_at ∙ ap (slice_get all) ij ∙ at)) ∙ same)

pub same_both_ways : (run recorded : List Event) → AreFirst run recorded → AreFirst recorded run → HaveSameRequests run recorded
same_both_ways run recorded a b g = same_fronts (requests_of g run) (requests_of g recorded) (a g) (b g)

-- ---- the events of lines

pub taken : (lines : List TraceLine) (i : ℕ) (d : TraceLine) → i < length lines → take (i + 1) (events_of lines) ≡ take i (events_of lines) ++ event_of (get_or lines i d) ∷ []
taken lines i d l = take-map event_of (i + 1) lines ∙ map_more event_of lines i d l ∙ ap (λ es. es ++ event_of (get_or lines i d) ∷ []) (sym (take-map event_of i lines))

pub event_there : (lines : List TraceLine) (i : ℕ) (d : TraceLine) → i < length lines → slice_get (events_of lines) i ≡ Some (event_of (get_or lines i d))
event_there lines i d l = slice_get-map event_of lines i ∙ ap (option_map event_of) (slice_get-get_or lines i d l)

pub taken_length : (lines : List TraceLine) (i : ℕ) → i ≤ length lines → length (take i (events_of lines)) ≡ i
taken_length lines i l = length-take-le i (events_of lines) (omega (arith, length-map lines event_of))

pub events_length : (lines : List TraceLine) → length (events_of lines) ≡ length lines
events_length lines = length-map lines event_of
