-- Offers whose items are in a store.
use Rattle.std.specs.Prelude.{◌≡◌, ℕ, List, Option, None, Some, option_copied, option_map, slice_index_or}
use Rattle.word.specs.Values.{Item}
use Rattle.sleep_queue.specs.declared.offer.Kept.{Kept}
use Rattle.sleep_queue.specs.declared.offer.Node.{Node}
use Rattle.word.specs.declared.offer.Offer.{Offer}
use Rattle.sleep_queue.specs.declared.offer.OfferView.{OfferView}
use Rattle.sleep_queue.specs.declared.offer.Stored.{Stored}

-- an offer whose item is lent
abbrev pub view_of : OfferView → Offer
view_of v = record { number = v.number; case = v.case; chan = v.chan; item = option_copied v.item }

abbrev pub stored_item : Option Stored → Option Item
stored_item s = option_map (λ (t : Stored). t.item.value) s

-- an offer whose item is in a store
abbrev pub offer_of : Kept → Offer
offer_of k = record { number = k.number; case = k.case; chan = k.chan; item = stored_item k.item }

-- what the store has at an item's index
abbrev pub item_at : List (Option Item) → Option Stored → Option Item
item_at items None = None
item_at items (Some s) = slice_index_or items s.place None

-- the item at this index is one of these offers'
abbrev pub IsOffered : List (Option Node) → ℕ → Type 0
IsOffered xs p = (i : ℕ) × (n : Node) × (s : Stored) × (slice_index_or xs i None ≡ Some n) × (n.offer.item ≡ Some s) × (s.place ≡ p)

-- the store has the items of these offers, each at an index of its own, and no others
pub record AreStored (xs : List (Option Node)) (items : List (Option Item)) : Type 0 where
  pub held : (i : ℕ) (n : Node) (s : Stored) → slice_index_or xs i None ≡ Some n → n.offer.item ≡ Some s → slice_index_or items s.place None ≡ Some s.item.value
  pub own : (i j : ℕ) (a b : Node) (s t : Stored) → slice_index_or xs i None ≡ Some a → slice_index_or xs j None ≡ Some b → a.offer.item ≡ Some s → b.offer.item ≡ Some t → s.place ≡ t.place → i ≡ j
  pub used : (p : ℕ) (item : Item) → slice_index_or items p None ≡ Some item → IsOffered xs p
