-- The items of offers, in their store.
use Rattle.std.proofs.Common.{◌≡◌, ◌≢◌, ◌⊎◌, ℕ, sym, ap, ◌∙◌, subst, inl, inr, refl, List}
use Rattle.std.proofs.lemmas.Bool.{cases_Bool, cases_eq}
use Rattle.std.proofs.lemmas.Option.{none-some}
use Rattle.std.specs.Prelude.{IfSome, None, Option, Some, nat_lt, slice_index_or, unwrap_or}
use Rattle.slab.specs.Slab.{Slab, Updates, get}
use Rattle.word.specs.Values.{Item}
use Rattle.sleep_queue.specs.Queue.{node_at, sooner}
use Rattle.sleep_queue.specs.Stored.{AreStored, IsOffered, item_at, offer_of, stored_item}
use Rattle.sleep_queue.specs.declared.offer.Kept.{Kept}
use Rattle.sleep_queue.specs.declared.offer.Node.{Node}
use Rattle.word.specs.declared.offer.Offer.{Offer}
use Rattle.sleep_queue.specs.declared.offer.Stored.{Stored}

node_inj : (a b : Node) → Some a ≡ Some b → a ≡ b
node_inj a b e = ap (λ o. unwrap_or o a) e

if_some : (P : Stored → Type 0) (o : Option Stored) (s : Stored) → IfSome o P → o ≡ Some s → P s
if_some P o s h e = subst (λ (p : Option Stored). IfSome p P) e h

one_of : (a b : Option Node) (n : Node) → sooner a b ≡ Some n → (a ≡ Some n) ⊎ (b ≡ Some n)
one_of None b n e = inr e
one_of (Some a) None n e = inl e
one_of (Some a) (Some b) n e = elim (cases_Bool (nat_lt b.stamp a.stamp)) [
  | inl t ↦ let h = rw t at e in inr h
  | inr t ↦ let h = rw t at e in inl h
]

abbrev place_of : Stored → Option Stored → ℕ
place_of t o = (unwrap_or o t).place

-- this is the index of an item, or is not
is_place : (o : Option Stored) (p : ℕ) → ((s : Stored) × (o ≡ Some s) × (s.place ≡ p)) ⊎ ((s : Stored) → o ≡ Some s → p ≢ s.place)
is_place None p = inr (λ s e. absurd (none-some s e))
is_place (Some t) p = elim (cases_eq t.place p) [
  | inl x ↦ inl (t, refl, x)
  | inr x ↦ inr (λ s e same. x (ap (λ (o : Option Stored). place_of t o) e ∙ sym same))
]

abbrev with_item : Kept → Option Item → Offer
with_item k item = record { number = k.number; case = k.case; chan = k.chan; item = item }

abbrev pub item_of : Node → Option Stored
item_of n = n.offer.item

module _ (xs : List (Option Node)) (items : List (Option Item)) (a : AreStored xs items) where
  held_item : (i : ℕ) (n : Node) (o : Option Stored) → slice_index_or xs i None ≡ Some n → item_of n ≡ o → item_at items o ≡ stored_item o
  held_item i n None e h = refl
  held_item i n (Some s) e h = a.held i n s e h

  -- an offer, with its item out of the store
  pub lent_offer : (i : ℕ) (n : Node) → slice_index_or xs i None ≡ Some n → with_item n.offer (item_at items n.offer.item) ≡ offer_of n.offer
  lent_offer i n e = ap (with_item n.offer) (held_item i n n.offer.item e refl)

  lent_at : (h : Option ℕ) (n : Node) → node_at xs h ≡ Some n → with_item n.offer (item_at items n.offer.item) ≡ offer_of n.offer
  lent_at None n e = absurd (none-some n e)
  lent_at (Some i) n e = lent_offer i n e

  pub lent_sooner : (h g : Option ℕ) (n : Node) → sooner (node_at xs h) (node_at xs g) ≡ Some n → with_item n.offer (item_at items n.offer.item) ≡ offer_of n.offer
  lent_sooner h g n e = elim (one_of (node_at xs h) (node_at xs g) n e) [
    | inl x ↦ lent_at h n x
    | inr x ↦ lent_at g n x
  ]

module _ (s v : Slab Node) (items items' : List (Option Item)) (k : ℕ) (n : Node) (a : AreStored s.slots items) where
  module _ (u : Updates s v k (Some n)) (at : IfSome n.offer.item (λ t. slice_index_or items' t.place None ≡ Some t.item.value))
      (free : IfSome n.offer.item (λ t. slice_index_or items t.place None ≡ None)) (vacant : get s k ≡ None) (others : (p : ℕ) → ((t : Stored) → n.offer.item ≡ Some t → p ≢ t.place) → slice_index_or items' p None ≡ slice_index_or items p None) where
    was : (i : ℕ) (m : Node) → i ≢ k → get v i ≡ Some m → get s i ≡ Some m
    was i m x e = sym (u.others i x) ∙ e

    its : (i : ℕ) (m : Node) (t : Stored) → i ≡ k → get v i ≡ Some m → item_of m ≡ Some t → item_of n ≡ Some t
    its i m t x e h = ap item_of (node_inj n m (sym u.changed ∙ sym (ap (get v) x) ∙ e)) ∙ h

    -- the index of the new item is no other's
    apart : (i j : ℕ) (b c : Node) (t w : Stored) → i ≡ k → j ≢ k → get v i ≡ Some b → get v j ≡ Some c → item_of b ≡ Some t → item_of c ≡ Some w → t.place ≡ w.place → ⊥
    apart i j b c t w x y e g h l same =
        none-some w.item.value (sym (if_some (λ r. slice_index_or items r.place None ≡ None) n.offer.item t free (its i b t x e h))
        ∙ ap (λ (p : ℕ). slice_index_or items p None) same ∙ a.held j c w (was j c y g) l)

    -- the item of an old offer has another index
    elsewhere : (i : ℕ) (m : Node) (t : Stored) → get s i ≡ Some m → item_of m ≡ Some t → (w : Stored) → n.offer.item ≡ Some w → t.place ≢ w.place
    elsewhere i m t e h w g same =
        none-some t.item.value (sym (if_some (λ r. slice_index_or items r.place None ≡ None) n.offer.item w free g) ∙ sym (ap (λ (p : ℕ). slice_index_or items p None) same) ∙ a.held i m t e h)

    still : (p : ℕ) → IsOffered s.slots p → IsOffered v.slots p
    still p x = (x.0, x.1, x.2, u.others x.0 (λ (e : x.0 ≡ k). none-some x.1 (sym vacant ∙ sym (ap (get s) e) ∙ x.3)) ∙ x.3, x.4, x.5)

    pub entered_stored : AreStored v.slots items'
    entered_stored = record {
      held = λ i m t e h. elim (cases_eq i k) [
        | inl x ↦ if_some (λ r. slice_index_or items' r.place None ≡ Some r.item.value) n.offer.item t at (its i m t x e h)
        | inr x ↦ others t.place (elsewhere i m t (was i m x e) h) ∙ a.held i m t (was i m x e) h
      ];
      own = λ i j b c t w e g h l same. elim (cases_eq i k) [
        | inl x ↦ elim (cases_eq j k) [
          | inl y ↦ x ∙ sym y
          | inr y ↦ absurd (apart i j b c t w x y e g h l same)
        ]
        | inr x ↦ elim (cases_eq j k) [
          | inl y ↦ absurd (apart j i c b w t y x g e l h (sym same))
          | inr y ↦ a.own i j b c t w (was i b x e) (was j c y g) h l same
        ]
      ];
      used = λ p item h. elim (is_place n.offer.item p) [
        | inl x ↦ (k, n, x.0, u.changed, x.1, x.2)
        | inr x ↦ still p (a.used p item (sym (others p x) ∙ h))
      ];
    }

  module _ (u : Updates s v k None) (at : get s k ≡ Some n) (gone : (t : Stored) → n.offer.item ≡ Some t → slice_index_or items' t.place None ≡ None) (others : (p : ℕ) → ((t : Stored) → n.offer.item ≡ Some t → p ≢ t.place) → slice_index_or items' p None ≡ slice_index_or items p None) where
    stays : (i : ℕ) (m : Node) → get v i ≡ Some m → i ≢ k
    stays i m e x = none-some m (sym u.changed ∙ sym (ap (get v) x) ∙ e)

    stayed : (i : ℕ) (m : Node) → get v i ≡ Some m → get s i ≡ Some m
    stayed i m e = sym (u.others i (stays i m e)) ∙ e

    apart_from : (p : ℕ) (item : Item) → slice_index_or items' p None ≡ Some item → (t : Stored) → n.offer.item ≡ Some t → p ≢ t.place
    apart_from p item h t g same = none-some item (sym (gone t g) ∙ sym (ap (λ (q : ℕ). slice_index_or items' q None) same) ∙ h)

    still_used : (p : ℕ) → ((t : Stored) → n.offer.item ≡ Some t → p ≢ t.place) → IsOffered s.slots p → IsOffered v.slots p
    still_used p ne x = (x.0, x.1, x.2, u.others x.0 (λ (e : x.0 ≡ k). ne x.2 (ap item_of (node_inj n x.1 (sym at ∙ sym (ap (get s) e) ∙ x.3)) ∙ x.4) (sym x.5)) ∙ x.3, x.4, x.5)

    pub left_stored : AreStored v.slots items'
    left_stored = record {
      held = λ i m t e h. others t.place (λ w g same. stays i m e (a.own i k m n t w (stayed i m e) at h g same)) ∙ a.held i m t (stayed i m e) h;
      own = λ i j b c t w e g h l same. a.own i j b c t w (stayed i b e) (stayed j c g) h l same;
      used = λ p item h. let ne = apart_from p item h in still_used p ne (a.used p item (sym (others p ne) ∙ h));
    }
