-- The clauses of a select, offered one after the other.
use Rattle.std.proofs.Common.{◌≡◌, ℕ, suc, ◌+◌, ◌<◌, List, [], ◌∷◌, ◌++◌, length, drop, get_or, append_assoc, Option, Some, None, sym, ap, ◌∙◌, arith}
use Rattle.std.specs.Prelude.{map}
use Rattle.std.specs.List.{filter}
use Rattle.std.proofs.lemmas.List.{append-nil, at_drop_more}
use Rattle.std.proofs.lemmas.List.Elements.{filter-append}
use Rattle.word.specs.declared.request.Case.{Case}
use Rattle.word.specs.Values.{Item, Offer}
use Rattle.word.specs.Requests.{clause_offers, with_offer}
use Rattle.channel_core.specs.Asleep.{Placed, placed_offer, is_not_of}
use Rattle.channel_core.proofs.Keys.{dropped_one, goes}

module _ (cases : List Case) (i : ℕ) (x : Case) (l : i < length cases) (is : x ≡ get_or cases i x) where
  clause_here : clause_offers (suc i) (drop i cases) ≡ with_offer (suc i) x.chan x.item (clause_offers (suc (i + 1)) (drop (i + 1) cases))
  clause_here =
      at_drop_more (clause_offers (suc i)) cases i x l
      ∙ ap (λ (y : Case). with_offer (suc i) y.chan y.item (clause_offers (suc (suc i)) (drop (i + 1) cases))) (sym is)
      ∙ ap (λ (n : ℕ). with_offer (suc i) x.chan x.item (clause_offers n (drop (i + 1) cases))) (omega arith)

  pub clause_on_nil : x.chan ≡ None → clause_offers (suc i) (drop i cases) ≡ clause_offers (suc (i + 1)) (drop (i + 1) cases)
  clause_on_nil e = clause_here ∙ ap (λ (c : Option ℕ). with_offer (suc i) c x.item (clause_offers (suc (i + 1)) (drop (i + 1) cases))) e

  pub clause_on : (c : ℕ) (item : Option Item) → x.chan ≡ Some c → item ≡ x.item
      → clause_offers (suc i) (drop i cases) ≡ record { case = i + 1; chan = c; item = item } ∷ clause_offers (suc (i + 1)) (drop (i + 1) cases)
  clause_on c item e k =
      clause_here ∙ ap (λ (d : Option ℕ). with_offer (suc i) d x.item (clause_offers (suc (i + 1)) (drop (i + 1) cases))) e
      ∙ ap (λ (n : ℕ). with_offer n (Some c) x.item (clause_offers (suc (i + 1)) (drop (i + 1) cases))) (omega arith)
      ∙ ap (λ (o : Option Item). with_offer (i + 1) (Some c) o (clause_offers (suc (i + 1)) (drop (i + 1) cases))) (sym k)

-- one more has entered, and the rest is still to come
pub entered_one : (key : ℕ) (before now all : List Placed) (o : Offer) (os rest : List Offer) → now ≡ before ++ placed_offer key o ∷ [] → os ≡ o ∷ rest
    → before ++ map (placed_offer key) os ≡ all → now ++ map (placed_offer key) rest ≡ all
entered_one key before now all o os rest e k h =
    ap (λ (l : List Placed). l ++ map (placed_offer key) rest) e ∙ append_assoc before (placed_offer key o ∷ []) (map (placed_offer key) rest)
    ∙ ap (λ (l : List Offer). before ++ map (placed_offer key) l) (sym k) ∙ h

-- what enters for a key is nothing to the others
pub others_stay : (key : ℕ) (before now : List Placed) (p : Placed) → p.entry.number ≡ key → now ≡ before ++ p ∷ [] → filter (is_not_of key) now ≡ filter (is_not_of key) before
others_stay key before now p k e =
    ap (filter (is_not_of key)) e ∙ filter-append (is_not_of key) before (p ∷ [])
    ∙ ap (λ (l : List Placed). filter (is_not_of key) before ++ l) (dropped_one (is_not_of key) p [] (goes p.entry.number key k)) ∙ append-nil (filter (is_not_of key) before)
