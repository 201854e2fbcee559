-- What a book has committed, step by step.
use Rattle.std.proofs.Common.{◌≡◌, ℕ, ◌+◌, ◌<◌, ◌≤◌, List, [], ◌∷◌, ◌++◌, Bool, true, false, cond, map, length, refl, sym, ap, ◌∙◌, subst, arith, length-append}
use Rattle.std.proofs.lemmas.List.{length-map, map-append}
use Rattle.std.specs.Option.{is_some}
use Rattle.book.specs.Desks.{Desk, Held, IsEvent, Settles, Looks, Sighting, brought, opened_desk}
use Rattle.book.specs.declared.settled.Settled.{Settled}
use Rattle.book.specs.declared.settled.Settled.TheVariants.{Committed, Waiting, Ended}
use Rattle.bytecode.specs.Code.{Code}
use Rattle.world_core_base.specs.Cores.{CoreValue}
use Rattle.world_core_base.specs.Slots.{Rows}
use Rattle.bytecode.specs.Machine.{code_kind}
use Rattle.word.specs.declared.end.End.{End as Ending}
use Rattle.word.specs.declared.request.Event.{Event as Recorded}
use Rattle.word.specs.Values.{Event}
use Rattle.word.specs.Views.{event_of}
use Rattle.event_window.specs.Windows.{AreNext, AreRest, Moves}
use Rattle.event_window.proofs.First.{next_all, next_later, next_more, one_longer}
use Rattle.recorder.specs.Recorded.{Comes, EndsAfter, HasRecorded, IsLater}

pub opened : (code : Code) (limit : ℕ) (traces : Bool) (d : Desk) → d ≡ opened_desk code limit traces → HasRecorded d.code d.limit d 0 []
opened code limit traces d is = subst (λ (e : Desk). HasRecorded e.code e.limit e 0 []) (sym is) (record { code = refl; limit = refl; counted = refl; next = ([], refl, (0, refl)) })

-- looks commit nothing
looks_later : (old : Desk) (seen : List Sighting) (new : Desk) → Looks old seen new → IsLater old new 0
looks_later old [] new e = subst (λ (d : Desk). IsLater old d 0) (sym e) (record { code = refl; limit = refl; events = omega arith })
looks_later old (x ∷ xs) new h =
    let mid = looks_later old xs h.0 h.1 in
    subst (λ (d : Desk). IsLater old d 0) (sym h.3) (record { code = mid.code; limit = mid.limit; events = mid.events })

pub settles_comes : (old : Desk) (settled : Settled) (new : Desk) → Settles old settled new → Comes old settled new
settles_comes old (Committed event) new h =
    let looks = looks_later old h.1.0 h.0 h.1.1 in
    let next = h.2 in (
      record {
        code = next.code ∙ looks.code;
        limit = next.limit ∙ looks.limit;
        events = let a = next.one_more in let b = looks.events in omega (arith, a, b);
      },
      subst (λ k. IsEvent old.code old.limit k (event_of event)) (let b = looks.events in omega (arith, b))
          (subst (λ l. IsEvent old.code l h.0.core.events (event_of event)) looks.limit (subst (λ (c : Code). IsEvent c h.0.limit h.0.core.events (event_of event)) looks.code next.is_next)),
    )
settles_comes old (Waiting n) new h = looks_later old h.only.0 new h.only.1
settles_comes old (Ended ending) new h = (subst (λ (d : Desk). IsLater old d 0) (sym h.0) (record { code = refl; limit = refl; events = omega arith }), (h.1.moves, h.1.events, h.1.ending))

-- steps after a settling that commits nothing
pub later_still : (old mid new : Desk) → IsLater old mid 0 → IsLater mid new 0 → IsLater old new 0
later_still old mid new one two = record {
  code = two.code ∙ one.code;
  limit = two.limit ∙ one.limit;
  events = let a = one.events in let b = two.events in omega (arith, a, b);
}

cond_events : (b : Bool) (c : CoreValue) (rows : Rows) → (cond b c (record c { rows = rows })).events ≡ c.events
cond_events true c rows = refl
cond_events false c rows = refl

pub brought_later : (old mid : Desk) (l : Held) → IsLater old mid 0 → IsLater old (brought mid l) 0
brought_later old mid l m = record { code = m.code; limit = m.limit; events = cond_events (is_some mid.core.ending) mid.core _ ∙ m.events }

module _ (code : Code) (limit before : ℕ) (old new : Desk) (events : List Recorded) (settled : Settled) (kept : HasRecorded code limit old before events) (comes : Comes old settled new) where
  abbrev seen : List Event
  seen = map event_of events

  added : (event : Recorded) → IsLater old new 1 × IsEvent old.code old.limit old.core.events (event_of event) → HasRecorded code limit new before (events ++ event ∷ [])
  added event came =
      let all : map event_of (events ++ event ∷ []) ≡ seen ++ event_of event ∷ [] = map-append event_of events (event ∷ []) in
      let here : IsEvent code limit (before + length seen) (event_of event) =
      subst (λ k. IsEvent code limit k (event_of event)) kept.counted (subst (λ l. IsEvent code l old.core.events (event_of event)) kept.limit (subst (λ (c : Code). IsEvent c old.limit old.core.events (event_of event)) kept.code came.1)) in
      let more : length (map event_of (events ++ event ∷ [])) ≡ length seen + 1 = ap length all ∙ one_longer seen (event_of event) in
      record {
        code = came.0.code ∙ kept.code;
        limit = came.0.limit ∙ kept.limit;
        counted = let z = came.0.events in let k = kept.counted in omega (arith, z, k, more);
        next = subst (AreNext (code_kind code) limit before) (sym all) (next_more (code_kind code) limit before seen (event_of event) kept.next here);
      }

  pub committed : (event : Recorded) → settled ≡ Committed event → HasRecorded code limit new before (events ++ event ∷ [])
  committed event is = added event (subst (λ (s : Settled). Comes old s new) is comes)

  waited : IsLater old new 0 → HasRecorded code limit new before events
  waited came = record {
    code = came.code ∙ kept.code;
    limit = came.limit ∙ kept.limit;
    counted = let z = came.events in let k = kept.counted in omega (arith, z, k);
    next = kept.next;
  }

  pub waiting : (n : ℕ) → settled ≡ Waiting n → HasRecorded code limit new before events
  waiting n is = waited (subst (λ (s : Settled). Comes old s new) is comes)

  ended : (ending : Ending) → EndsAfter old.code old.limit old.core.events ending → AreRest (code_kind code) limit before seen ending
  ended ending came =
      next_all (code_kind code) limit before seen ending kept.next
      (subst (λ k. EndsAfter code limit k ending) kept.counted (subst (λ l. EndsAfter code l old.core.events ending) kept.limit (subst (λ (c : Code). EndsAfter c old.limit old.core.events ending) kept.code came)))

  pub all_there : (ending : Ending) → settled ≡ Ended ending → AreRest (code_kind code) limit before seen ending
  all_there ending is = ended ending (subst (λ (s : Settled). Comes old s new) is comes).1

-- events that go into the past
pub moved : (code : Code) (limit before later : ℕ) (d : Desk) (events left : List Recorded) → HasRecorded code limit d before events → Moves before events later left → HasRecorded code limit d later left
moved code limit before later d events left kept moves =
    let gone = map event_of moves.0 in
    let all : map event_of events ≡ gone ++ map event_of left = ap (map event_of) (sym moves.2) ∙ map-append event_of moves.0 left in
    let counts : before + length gone ≡ later = ap (λ k. before + k) (length-map moves.0 event_of) ∙ moves.1 in
    let sizes : length (map event_of events) ≡ length gone + length (map event_of left) = ap length all ∙ length-append gone (map event_of left) in
    record {
      code = kept.code;
      limit = kept.limit;
      counted = let k = kept.counted in omega (arith, k, counts, sizes);
      next = next_later (code_kind code) limit before later gone (map event_of left) counts (subst (AreNext (code_kind code) limit before) all kept.next);
    }

-- the next event, and what goes into the past with it
pub taken : (code : Code) (limit before later : ℕ) (old new : Desk) (events left : List Recorded) (settled : Settled) (event : Recorded) → HasRecorded code limit old before events → Comes old settled new → settled ≡ Committed event
    → Moves before (events ++ event ∷ []) later left → HasRecorded code limit new later left
taken code limit before later old new events left settled event kept comes is moves =
    moved code limit before later new (events ++ event ∷ []) left (committed code limit before old new events settled kept comes event is) moves
