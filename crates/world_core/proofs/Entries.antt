-- The items of a channel's entries are those that it accepts.
use Rattle.std.proofs.Common.{◌≡◌, ℕ, suc, ◌&&◌, Bool, true, false, cond, List, [], ◌∷◌, ◌++◌, map, length, Option, Some, None, refl, ap, ◌∙◌}
use Rattle.std.specs.Prelude.{◌==◌, option_map}
use Rattle.std.proofs.lemmas.List.{map-append}
use Rattle.word.specs.Flow.{Deal, Gives, Takes, NoDeal, accepted, accepted_after, deal, dozed, enters, is_sleeps, item_of, latest, offered, slept}
use Rattle.word.specs.Requests.{offers, first_offer}
use Rattle.word.specs.Rising.{Entry, entered, entries, entries_after, falls_in, fell, later, offered_by}
use Rattle.word.specs.Values.{Event, Item, Request}

abbrev items : List Entry → List Item
items all = map (λ (entry : Entry). entry.item) all

abbrev asked_then : Option (ℕ × Request) → Option Request
asked_then o = option_map (λ (x : ℕ × Request). x.1) o

later_is : (o p : Option (ℕ × Request)) → asked_then (later o p) ≡ latest (asked_then o) (asked_then p)
later_is None p = refl
later_is (Some x) p = refl

falls_is : (p i : ℕ) (e : Event) → asked_then (falls_in p i e) ≡ dozed p e
falls_is p i e = go ((e.number == p) && is_sleeps e.outcome)
  where
    go : (b : Bool) → asked_then (cond b (Some (i, e.request)) None) ≡ cond b (Some e.request) None
    go true = refl
    go false = refl

fell_is : (p i : ℕ) (es : List Event) → asked_then (fell p i es) ≡ slept p es
fell_is p i [] = refl
fell_is p i (e ∷ es) = later_is (fell p (suc i) es) (falls_in p (suc i) e) ∙ (λ k. latest (fell_is p (suc i) es k) (falls_is p (suc i) e k))

abbrev entry_of : ℕ → ℕ → Item → Entry
entry_of p k y = record { sender = p; event = k; item = y }

one_item : (p k : ℕ) (xs : List Item) → items (map (entry_of p k) xs) ≡ xs
one_item p k [] = refl
one_item p k (x ∷ xs) = ap (λ (ys : List Item). x ∷ ys) (one_item p k xs)

offered_is : (c p : ℕ) (o : Option (ℕ × Request)) → items (offered_by c p o) ≡ offered c (asked_then o)
offered_is c p None = refl
offered_is c p (Some x) = one_item p x.0 (item_of (first_offer c true (offers x.1)))

entered_is : (c : ℕ) (before : List Event) (d : Deal) (n : ℕ) (who : List ℕ) → items (entered c before d n who) ≡ enters c before d who
entered_is c before (Gives k x) n who = go (k == c)
  where
    go : (b : Bool) → items (cond b (entry_of n (suc (length before)) x ∷ []) []) ≡ cond b (x ∷ []) []
    go true = refl
    go false = refl
entered_is c before (Takes k x ok) n [] = refl
entered_is c before (Takes k x ok) n (p ∷ who) = go (k == c)
  where
    go : (b : Bool) → items (cond b (offered_by c p (fell p 0 before)) []) ≡ cond b (offered c (slept p before)) []
    go true = offered_is c p (fell p 0 before) ∙ ap (offered c) (fell_is p 0 before)
    go false = refl
entered_is c before NoDeal n who = refl

after_is : (c : ℕ) (before es : List Event) → items (entries_after c before es) ≡ accepted_after c before es
after_is c before [] = refl
after_is c before (e ∷ es) = map-append _ _ _ ∙ (λ k. entered_is c before (deal e) e.number e.partners k ++ after_is c (before ++ e ∷ []) es k)

pub all_accepted : (c : ℕ) (es : List Event) → items (entries c es) ≡ accepted c es
all_accepted c es = after_is c [] es
