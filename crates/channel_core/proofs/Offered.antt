-- How many offers on a channel there are, counted in rows.
use Rattle.std.proofs.Common.{◌≡◌, ℕ, suc, ◌+◌, ◌≤◌, Bool, true, false, List, [], ◌∷◌, ◌++◌, length, Option, Some, None, refl, ap, ◌∙◌, arith, inl, inr}
use Rattle.std.specs.Prelude.{◌==◌, cond, map}
use Rattle.std.specs.List.{filter}
use Rattle.std.specs.Option.{is_some}
use Rattle.std.proofs.lemmas.Bool.{cases_Bool}
use Rattle.std.proofs.lemmas.Option.{none-some}
use Rattle.word.specs.Values.{Offer, Sleeper}
use Rattle.word.specs.Requests.{also, first_on, offers, partners}
use Rattle.sleep_queue.specs.Queue.{QueuesValue, Waiting, is_in_either}
use Rattle.channel_core.specs.Asleep.{IsAsleep, Placed, asleep_of, held, placed, placed_all, placed_by, placed_of, placed_offer, row_on}
use Rattle.channel_core.specs.Channels.{offers_at, offers_on}
use Rattle.channel_core.proofs.Meeting.{on_channel, on_its_channel}

-- how many of these are in the rows of channel c
abbrev placed_on : ℕ → List Placed → ℕ
placed_on c [] = 0
placed_on c (p ∷ ps) = cond (on_channel c p.row) (suc (placed_on c ps)) (placed_on c ps)

module _ (c : ℕ) where
  counted : (ws : List Waiting) → length (filter (is_in_either (row_on c false) (row_on c true)) ws) ≡ placed_on c (map placed_of ws)
  counted [] = refl
  counted (w ∷ ws) = let i = counted ws in elim (cases_Bool (on_channel c w.row)) [ inl a ↦ rw a (ap suc i) | inr a ↦ rw a i ]

  placed_on-append : (ps qs : List Placed) → placed_on c (ps ++ qs) ≡ placed_on c ps + placed_on c qs
  placed_on-append [] qs = omega arith
  placed_on-append (p ∷ ps) qs = let i = placed_on-append ps qs in elim (cases_Bool (on_channel c p.row)) [ inl a ↦ rw a (omega (arith, i)) | inr a ↦ rw a i ]

  placed_on-offers : (k : ℕ) (os : List Offer) → placed_on c (map (placed_offer k) os) ≡ offers_on c os
  placed_on-offers k [] = refl
  placed_on-offers k (o ∷ os) =
      let i = placed_on-offers k os in
      let same : on_channel c (row_on o.chan (is_some o.item)) ≡ (o.chan == c) = on_its_channel c o.chan (is_some o.item) in
      ap (λ (b : Bool). cond b (suc (placed_on c (map (placed_offer k) os))) (placed_on c (map (placed_offer k) os))) same
      ∙ ap (λ (n : ℕ). cond (o.chan == c) (suc n) n) i

  placed_on-sleepers : (slot : ℕ → Option Sleeper) (ks : List ℕ) → placed_on c (placed_by slot ks) ≡ offers_at c (asleep_of slot ks)
  placed_on-sleepers slot [] = refl
  placed_on-sleepers slot (k ∷ ks) =
      let a = placed_on-append (placed_all k (held (slot k)).request) (placed_by slot ks) in
      let b = placed_on-offers k (offers (held (slot k)).request) in
      let i = placed_on-sleepers slot ks in omega (arith, a, b, i)

  pub offers_counted : (slot : ℕ → Option Sleeper) (key_of : ℕ → Option ℕ) (ks : List ℕ) (q : QueuesValue) (count : ℕ) → IsAsleep slot key_of ks (placed q) count
      → length (filter (is_in_either (row_on c false) (row_on c true)) q.waiting) ≡ offers_at c (asleep_of slot ks)
  offers_counted slot key_of ks q count a = counted q.waiting ∙ ap (placed_on c) a.rows ∙ placed_on-sleepers slot ks

  some_on : (os : List Offer) (o : Offer) → first_on c os ≡ Some o → 1 ≤ offers_on c os
  some_on [] o e = absurd (none-some o e)
  some_on (x ∷ os) o e = elim (cases_Bool (x.chan == c)) [
    | inl a ↦ rw a (omega arith)
    | inr a ↦ let h = rw a at e in rw a (some_on os o h)
  ]

  met : (s : Sleeper) (found : Option Offer) (ps : List (Sleeper × Offer)) (n m : ℕ) → ((o : Offer) → found ≡ Some o → 1 ≤ n) → length ps ≤ m → length (also s found ps) ≤ n + m
  met s None ps n m one l = omega (arith, l)
  met s (Some o) ps n m one l = let a = one o refl in omega (arith, l, a)

  -- each one that sleeps at a channel has an offer there
  pub partners_few : (ss : List Sleeper) → length (partners c ss) ≤ offers_at c ss
  partners_few [] = omega arith
  partners_few (s ∷ ss) = met s (first_on c (offers s.request)) (partners c ss) (offers_on c (offers s.request)) (offers_at c ss) (λ o e. some_on (offers s.request) o e) (partners_few ss)
