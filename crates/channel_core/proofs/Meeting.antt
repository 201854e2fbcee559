-- Whom a request meets, found in rows.
use Rattle.std.proofs.Common.{◌≡◌, ℕ, suc, ◌+◌, ◌*◌, ◌≤◌, Bool, true, false, not, ◌&&◌, ◌||◌, List, [], ◌∷◌, ◌++◌, length, append_assoc, Option, Some, None, option_map, refl, sym, ap, ◌∙◌, subst, arith, inl, inr}
use Rattle.std.specs.Prelude.{◌==◌, cond, map}
use Rattle.std.proofs.lemmas.List.{length-map}
use Rattle.std.specs.List.{filter}
use Rattle.std.specs.Option.{is_some}
use Rattle.std.proofs.lemmas.Bool.{cases_eq, cases_Bool, both_ways, and_from, and_left, and_right, or_from, or_left, or_right}
use Rattle.word.specs.Values.{Item, Request, Sleeper, Offer, Reply}
use Rattle.word.specs.Requests.{also, close_reply, first_offer, first_on, offers, or_else, partner, partners, without, without_all}
use Rattle.word.specs.declared.offer.Offer.{Offer as Entry}
use Rattle.sleep_queue.specs.Queue.{Waiting, first}
use Rattle.channel_core.specs.Asleep.{Placed, placed_of, row_on, placed_offer, placed_all, held, asleep_of, placed_by, has, AreDistinct}
use Rattle.channel_core.specs.Channels.{Partner, closed_for, partner_of}
use Rattle.channel_core.proofs.Keys.{same_key, other_key, kept_one, dropped_one, has_head, has_tail, left_in, left_out, without_none}

-- the first entry of the rows that pass
abbrev pub first_by : (ℕ → Bool) → List Placed → Option Entry
first_by t [] = None
first_by t (p ∷ ps) = cond (t p.row) (Some p.entry) (first_by t ps)

abbrev or_first : Option Entry → Option Entry → Option Entry
or_first None b = b
or_first (Some a) b = Some a

abbrev pub entry_of : ℕ → Offer → Entry
entry_of k o = (placed_offer k o).entry

abbrev offer_of : Waiting → Entry
offer_of w = w.offer

module _ (t : ℕ → Bool) where
  pub hit : (p : Placed) (ps : List Placed) → t p.row ≡ true → first_by t (p ∷ ps) ≡ Some p.entry
  hit p ps e = rw e refl

  pub miss : (p : Placed) (ps : List Placed) → t p.row ≡ false → first_by t (p ∷ ps) ≡ first_by t ps
  miss p ps e = rw e refl

  pub first_waiting : (ws : List Waiting) → option_map offer_of (first (filter (λ (w : Waiting). t w.row) ws)) ≡ first_by t (map placed_of ws)
  first_waiting [] = refl
  first_waiting (w ∷ ws) = elim (cases_Bool (t w.row)) [
    | inl e ↦ ap (λ (l : List Waiting). option_map offer_of (first l)) (kept_one (λ (v : Waiting). t v.row) w ws e) ∙ sym (hit (placed_of w) (map placed_of ws) e)
    | inr e ↦ ap (λ (l : List Waiting). option_map offer_of (first l)) (dropped_one (λ (v : Waiting). t v.row) w ws e) ∙ first_waiting ws ∙ sym (miss (placed_of w) (map placed_of ws) e)
  ]

  first_by-append : (ps qs : List Placed) → first_by t (ps ++ qs) ≡ or_first (first_by t ps) (first_by t qs)
  first_by-append [] qs = refl
  first_by-append (p ∷ ps) qs = elim (cases_Bool (t p.row)) [
    | inl e ↦ hit p (ps ++ qs) e ∙ sym (ap (λ (o : Option Entry). or_first o (first_by t qs)) (hit p ps e))
    | inr e ↦ miss p (ps ++ qs) e ∙ first_by-append ps qs ∙ sym (ap (λ (o : Option Entry). or_first o (first_by t qs)) (miss p ps e))
  ]

  -- what passes is what a search of the offers themselves finds
  module _ (u : Offer → Bool) (found : List Offer → Option Offer) (none : found [] ≡ None) (step : (o : Offer) (os : List Offer) → found (o ∷ os) ≡ cond (u o) (Some o) (found os))
      (same : (o : Offer) → t (row_on o.chan (is_some o.item)) ≡ u o) where
    first_of_offers : (k : ℕ) (os : List Offer) → first_by t (map (placed_offer k) os) ≡ option_map (entry_of k) (found os)
    first_of_offers k [] = sym (ap (option_map (entry_of k)) none)
    first_of_offers k (o ∷ os) = elim (cases_Bool (u o)) [
      | inl e ↦ hit (placed_offer k o) (map (placed_offer k) os) (same o ∙ e) ∙ sym (ap (option_map (entry_of k)) (step o os ∙ ap (λ (b : Bool). cond b (Some o) (found os)) e))
      | inr e ↦ miss (placed_offer k o) (map (placed_offer k) os) (same o ∙ e) ∙ first_of_offers k os
          ∙ sym (ap (option_map (entry_of k)) (step o os ∙ ap (λ (b : Bool). cond b (Some o) (found os)) e))
    ]

    first_of_sleeper : (k : ℕ) (q : Request) (rest : List Placed) → first_by t (placed_all k q ++ rest) ≡ or_first (option_map (entry_of k) (found (offers q))) (first_by t rest)
    first_of_sleeper k q rest =
        first_by-append (placed_all k q) rest ∙ ap (λ (o : Option Entry). or_first o (first_by t rest)) (first_of_offers k (offers q))

-- ---- the partner

abbrev pub on_row : ℕ → Bool → ℕ → Bool
on_row c sends r = r == row_on c sends

on_its_row : (c d : ℕ) (sends b : Bool) → (row_on d b == row_on c sends) ≡ ((d == c) && cond sends b (not b))
on_its_row c d true true = elim (cases_eq d c) [
  | inl e ↦ same_key (2 * d + 1) (2 * c + 1) (omega arith) ∙ sym (and_from (d == c) true (same_key d c e) refl)
  | inr e ↦ other_key (2 * d + 1) (2 * c + 1) (λ (h : 2 * d + 1 ≡ 2 * c + 1). e (omega arith)) ∙ sym (and_left (d == c) true (other_key d c e))
]
on_its_row c d true false = other_key (2 * d) (2 * c + 1) (λ (h : 2 * d ≡ 2 * c + 1). omega arith) ∙ sym (and_right (d == c) false refl)
on_its_row c d false true = other_key (2 * d + 1) (2 * c) (λ (h : 2 * d + 1 ≡ 2 * c). omega arith) ∙ sym (and_right (d == c) false refl)
on_its_row c d false false = elim (cases_eq d c) [
  | inl e ↦ same_key (2 * d) (2 * c) (omega arith) ∙ sym (and_from (d == c) true (same_key d c e) refl)
  | inr e ↦ other_key (2 * d) (2 * c) (λ (h : 2 * d ≡ 2 * c). e (omega arith)) ∙ sym (and_left (d == c) true (other_key d c e))
]

abbrev pub partner_at : (ℕ → Option Sleeper) → Entry → Partner
partner_at slot e = record { number = (held (slot e.number)).number; case = e.case; item = e.item }

module _ (slot : ℕ → Option Sleeper) (c : ℕ) where
  picked : (k : ℕ) (o : Option Offer) (p : Option (Sleeper × Offer)) (f : Option Entry) → option_map partner_of p ≡ option_map (partner_at slot) f
      → option_map partner_of (or_else (held (slot k)) o p) ≡ option_map (partner_at slot) (or_first (option_map (entry_of k) o) f)
  picked k None p f e = e
  picked k (Some o) p f e = refl

  pub partner_first : (sends : Bool) (ks : List ℕ) → option_map partner_of (partner c sends (asleep_of slot ks)) ≡ option_map (partner_at slot) (first_by (on_row c sends) (placed_by slot ks))
  partner_first sends [] = refl
  partner_first sends (k ∷ ks) =
      picked k (first_offer c sends (offers (held (slot k)).request)) (partner c sends (asleep_of slot ks)) (first_by (on_row c sends) (placed_by slot ks)) (partner_first sends ks)
      ∙ sym (ap (option_map (partner_at slot))
      (first_of_sleeper (on_row c sends) (λ (o : Offer). (o.chan == c) && cond sends (is_some o.item) (not (is_some o.item))) (first_offer c sends) refl (λ o os. refl)
      (λ o. on_its_row c o.chan sends (is_some o.item)) k (held (slot k)).request (placed_by slot ks)))

-- ---- the sleepers that a close wakes

abbrev pub on_channel : ℕ → ℕ → Bool
on_channel c r = (r == row_on c false) || (r == row_on c true)

pub on_its_channel : (c d : ℕ) (b : Bool) → on_channel c (row_on d b) ≡ (d == c)
on_its_channel c d true = elim (cases_eq d c) [
  | inl e ↦ or_right (2 * d + 1 == 2 * c) (2 * d + 1 == 2 * c + 1) (same_key (2 * d + 1) (2 * c + 1) (omega arith)) ∙ sym (same_key d c e)
  | inr e ↦ or_from (2 * d + 1 == 2 * c) (2 * d + 1 == 2 * c + 1) (other_key (2 * d + 1) (2 * c) (λ (h : 2 * d + 1 ≡ 2 * c). omega arith))
      (other_key (2 * d + 1) (2 * c + 1) (λ (h : 2 * d + 1 ≡ 2 * c + 1). e (omega arith))) ∙ sym (other_key d c e)
]
on_its_channel c d false = elim (cases_eq d c) [
  | inl e ↦ or_left (2 * d == 2 * c) (2 * d == 2 * c + 1) (same_key (2 * d) (2 * c) (omega arith)) ∙ sym (same_key d c e)
  | inr e ↦ or_from (2 * d == 2 * c) (2 * d == 2 * c + 1) (other_key (2 * d) (2 * c) (λ (h : 2 * d ≡ 2 * c). e (omega arith)))
      (other_key (2 * d) (2 * c + 1) (λ (h : 2 * d ≡ 2 * c + 1). omega arith)) ∙ sym (other_key d c e)
]

-- no two have one number
abbrev pub AreApart : List Sleeper → Type 0
AreApart [] = Unit {0}
AreApart (s ∷ ss) = (without ss s.number ≡ ss) × AreApart ss

pub apart_by_keys : (slot : ℕ → Option Sleeper) (ks : List ℕ) → AreDistinct ks
    → ((i j : ℕ) → has i ks ≡ true → has j ks ≡ true → (held (slot i)).number ≡ (held (slot j)).number → i ≡ j) → AreApart (asleep_of slot ks)
apart_by_keys slot [] d h = tt
apart_by_keys slot (k ∷ ks) d h = (
  without_none slot (held (slot k)).number ks (λ j e. other_key (held (slot j)).number (held (slot k)).number (λ (m : (held (slot j)).number ≡ (held (slot k)).number).
      both_ways (has k ks) d.0 (subst (λ (i : ℕ). has i ks ≡ true) (h j k (has_tail j k ks e) (has_head k ks) m) e))),
  apart_by_keys slot ks d.1 (λ i j a b. h i j (has_tail i k ks a) (has_tail j k ks b)),
)

module _ (slot : ℕ → Option Sleeper) (c : ℕ) (z : Item) where
  abbrev pub told : Entry → ℕ × Reply
  told e = ((held (slot e.number)).number, close_reply z (record { case = e.case; chan = e.chan; item = e.item }))

  -- the first entry is of the first sleeper that a close wakes
  abbrev pub Wakes : List Sleeper → Option Entry → Type 0
  Wakes ss None = partners c ss ≡ []
  Wakes ss (Some e) = closed_for z (partners c ss) ≡ told e ∷ closed_for z (partners c (without ss (told e).0))

  met : (s : Sleeper) (ss : List Sleeper) (o : Offer) → first_on c (offers s.request) ≡ Some o → partners c (s ∷ ss) ≡ (s, o) ∷ partners c ss
  met s ss o e = ap (λ (f : Option Offer). also s f (partners c ss)) e

  missed : (s : Sleeper) (ss : List Sleeper) → first_on c (offers s.request) ≡ None → partners c (s ∷ ss) ≡ partners c ss
  missed s ss e = ap (λ (f : Option Offer). also s f (partners c ss)) e

  missed_too : (s : Sleeper) (ss : List Sleeper) (n : ℕ) → first_on c (offers s.request) ≡ None → partners c (without (s ∷ ss) n) ≡ partners c (without ss n)
  missed_too s ss n e = elim (cases_Bool (s.number == n)) [
    | inl a ↦ ap (partners c) (left_out s ss n a)
    | inr a ↦ ap (partners c) (left_in s ss n a) ∙ missed s (without ss n) e
  ]

  wakes_first : (k : ℕ) (ss : List Sleeper) (o : Option Offer) (f : Option Entry) → AreApart (held (slot k) ∷ ss) → first_on c (offers (held (slot k)).request) ≡ o → Wakes ss f
      → Wakes (held (slot k) ∷ ss) (or_first (option_map (entry_of k) o) f)
  wakes_first k ss (Some o) f a e w =
      ap (closed_for z) (met (held (slot k)) ss o e)
      ∙ ap (λ (l : List Sleeper). told (entry_of k o) ∷ closed_for z (partners c l)) (sym (left_out (held (slot k)) ss (held (slot k)).number (same_key (held (slot k)).number (held (slot k)).number refl) ∙ a.0))
  wakes_first k ss None None a e w = missed (held (slot k)) ss e ∙ w
  wakes_first k ss None (Some g) a e w =
      ap (closed_for z) (missed (held (slot k)) ss e) ∙ w
      ∙ ap (λ (l : List (Sleeper × Offer)). told g ∷ closed_for z l) (sym (missed_too (held (slot k)) ss (told g).0 e))

  pub wakes : (ks : List ℕ) → AreApart (asleep_of slot ks) → Wakes (asleep_of slot ks) (first_by (on_channel c) (placed_by slot ks))
  wakes [] a = refl
  wakes (k ∷ ks) a =
      subst (Wakes (asleep_of slot (k ∷ ks)))
      (sym (first_of_sleeper (on_channel c) (λ (o : Offer). o.chan == c) (first_on c) refl (λ o os. refl) (λ o. on_its_channel c o.chan (is_some o.item)) k (held (slot k)).request (placed_by slot ks)))
      (wakes_first k (asleep_of slot ks) (first_on c (offers (held (slot k)).request)) (first_by (on_channel c) (placed_by slot ks)) a refl (wakes ks a.1))

-- ---- all of them

pub without_all-more : (ss : List Sleeper) (ws : List (ℕ × Reply)) (w : ℕ × Reply) → without_all ss (ws ++ w ∷ []) ≡ without (without_all ss ws) w.0
without_all-more ss [] w = refl
without_all-more ss (v ∷ ws) w = without_all-more (without ss v.0) ws w

also_length : (s : Sleeper) (o : Option Offer) (ps : List (Sleeper × Offer)) → length (also s o ps) ≤ length ps + 1
also_length s None ps = omega arith
also_length s (Some o) ps = omega arith

pub length-partners : (c : ℕ) (ss : List Sleeper) → length (partners c ss) ≤ length ss
length-partners c [] = omega arith
length-partners c (s ∷ ss) =
    let i : length (partners c ss) ≤ length ss = length-partners c ss in
    let l : length (also s (first_on c (offers s.request)) (partners c ss)) ≤ length (partners c ss) + 1 = also_length s (first_on c (offers s.request)) (partners c ss) in
    omega (arith, i, l)

module _ (c : ℕ) (z : Item) (ss : List Sleeper) (w : ℕ × Reply) (e : closed_for z (partners c ss) ≡ w ∷ closed_for z (partners c (without ss w.0))) where
  -- one more has its reply, and the rest is still to get one
  pub told_one : (ws all : List (ℕ × Reply)) → ws ++ closed_for z (partners c ss) ≡ all → (ws ++ w ∷ []) ++ closed_for z (partners c (without ss w.0)) ≡ all
  told_one ws all h = append_assoc ws (w ∷ []) (closed_for z (partners c (without ss w.0))) ∙ ap (λ (l : List (ℕ × Reply)). ws ++ l) (sym e) ∙ h

  pub one_fewer : length (partners c ss) ≡ suc (length (partners c (without ss w.0)))
  one_fewer =
      let before : length (closed_for z (partners c ss)) ≡ length (partners c ss) = length-map (partners c ss) (λ (p : Sleeper × Offer). (p.0.number, close_reply z p.1)) in
      let after : length (closed_for z (partners c (without ss w.0))) ≡ length (partners c (without ss w.0)) = length-map (partners c (without ss w.0)) (λ (p : Sleeper × Offer). (p.0.number, close_reply z p.1)) in
      let both : length (closed_for z (partners c ss)) ≡ suc (length (closed_for z (partners c (without ss w.0)))) = ap length e in
      omega (arith, before, after, both)
