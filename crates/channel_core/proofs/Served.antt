-- Whom a request meets among those asleep.
use Rattle.std.proofs.Common.{◌≡◌, ◌≢◌, ℕ, Bool, Bor, true, false, List, [], ◌∷◌, Option, Some, None, option_map, refl, sym, ap, ◌∙◌, subst, inl, inr}
use Rattle.std.specs.Prelude.{cond, count_by, option_copied, slice_index_or, unwrap_or}
use Rattle.std.specs.List.{filter}
use Rattle.std.specs.Option.{is_some}
use Rattle.std.proofs.lemmas.Bool.{cases_eq, cases_Bool}
use Rattle.std.proofs.lemmas.Option.{none-some}
use Rattle.word.specs.Values.{Closed, Item, Reply, Sleeper}
use Rattle.word.specs.Requests.{got, partner}
use Rattle.word.specs.declared.offer.Offer.{Offer as Entry}
use Rattle.sleep_queue.specs.Queue.{QueuesValue, Waiting, first, is_in_either, row_of}
use Rattle.channel_core.specs.Asleep.{IsAsleep, Placed, asleep_of, has, held, is_not_of, placed, row_on}
use Rattle.channel_core.specs.Channels.{partner_of}
use Rattle.channel_core.proofs.Keys.{dropped_one, goes, kept_one, stays}
use Rattle.channel_core.proofs.Kept.{nothing_of, sleeper_at}
use Rattle.channel_core.proofs.Meeting.{Wakes, apart_by_keys, first_by, first_waiting, hit, miss, on_channel, on_row, partner_at, partner_first, told, wakes}

pub is_some-map : {A B : Type 0} (f : A → B) (o : Option A) → is_some (option_map f o) ≡ is_some o
is_some-map f None = refl
is_some-map f (Some x) = refl

pub is_some-copied : {A : Type 0} (o : Option (Bor A)) → is_some (option_copied o) ≡ is_some o
is_some-copied None = refl
is_some-copied (Some x) = refl

abbrev pair : ℕ → Reply → ℕ × Reply
pair n r = (n, r)

entry_inj : (a b : Entry) → Some a ≡ Some b → a ≡ b
entry_inj a b e = ap (λ (o : Option Entry). unwrap_or o a) e

key_inj : (a b : ℕ) → Some a ≡ Some b → a ≡ b
key_inj a b e = ap (λ (o : Option ℕ). unwrap_or o a) e

-- nothing of a key is found if all of it has left
found_is_other : (t : ℕ → Bool) (k : ℕ) (ps : List Placed) (e : Entry) → first_by t (filter (is_not_of k) ps) ≡ Some e → e.number ≢ k
found_is_other t k [] e h = absurd (none-some e h)
found_is_other t k (p ∷ ps) e h = elim (cases_eq p.entry.number k) [
  | inl x ↦ found_is_other t k ps e (sym (ap (first_by t) (dropped_one (is_not_of k) p ps (goes p.entry.number k x))) ∙ h)
  | inr x ↦
      let there : first_by t (p ∷ filter (is_not_of k) ps) ≡ Some e = sym (ap (first_by t) (kept_one (is_not_of k) p ps (stays p.entry.number k x))) ∙ h in
      elim (cases_Bool (t p.row)) [
        | inl y ↦ λ (m : e.number ≡ k). x (ap (λ (f : Entry). f.number) (entry_inj p.entry e (sym (hit t p (filter (is_not_of k) ps) y) ∙ there)) ∙ m)
        | inr y ↦ found_is_other t k ps e (sym (miss t p (filter (is_not_of k) ps) y) ∙ there)
      ]
]

module _ (slot : ℕ → Option Sleeper) (key_of : ℕ → Option ℕ) (ks : List ℕ) (q : QueuesValue) (count : ℕ) (a : IsAsleep slot key_of ks (placed q) count) where
  -- each offer is one of a sleeper
  pub offered : (t : ℕ → Bool) (e : Entry) → option_map (λ (w : Waiting). w.offer) (first (filter (λ (w : Waiting). t w.row) q.waiting)) ≡ Some e → slot e.number ≡ None → ⊥
  offered t e h none =
      found_is_other t e.number (placed q) e (ap (first_by t) (nothing_of slot key_of ks (placed q) count a e.number none) ∙ sym (first_waiting t q.waiting) ∙ h) refl

  pub partner_is : (c : ℕ) (sends : Bool) → option_map partner_of (partner c sends (asleep_of slot ks))
      ≡ option_map (partner_at slot) (option_map (λ (w : Waiting). w.offer) (first (row_of (row_on c sends) q.waiting)))
  partner_is c sends =
      partner_first slot c sends ks ∙ ap (option_map (partner_at slot)) (ap (first_by (on_row c sends)) (sym a.rows) ∙ sym (first_waiting (on_row c sends) q.waiting))

  module _ (c : ℕ) (sends : Bool) (r : ℕ) (at : r ≡ row_on c sends) where
    pub partner_found : (o : Option Entry) → o ≡ option_map (λ (w : Waiting). w.offer) (first (row_of r q.waiting))
        → option_map partner_of (partner c sends (asleep_of slot ks)) ≡ option_map (partner_at slot) o
    partner_found o e =
        partner_is c sends ∙ ap (option_map (partner_at slot)) (ap (λ (i : ℕ). option_map (λ (w : Waiting). w.offer) (first (row_of i q.waiting))) (sym at) ∙ sym e)

    pub partner_there : (e : Entry) → Some e ≡ option_map (λ (w : Waiting). w.offer) (first (row_of r q.waiting)) → slot e.number ≡ None → ⊥
    partner_there e h none = offered (on_row c sends) e (ap (λ (i : ℕ). option_map (λ (w : Waiting). w.offer) (first (row_of i q.waiting))) (sym at) ∙ sym h) none

  pub has_partner_is : (c : ℕ) (sends : Bool) → is_some (partner c sends (asleep_of slot ks)) ≡ is_some (option_map (λ (w : Waiting). w.offer) (first (row_of (row_on c sends) q.waiting)))
  has_partner_is c sends =
      sym (is_some-map partner_of (partner c sends (asleep_of slot ks))) ∙ ap is_some (partner_is c sends)
      ∙ is_some-map (partner_at slot) (option_map (λ (w : Waiting). w.offer) (first (row_of (row_on c sends) q.waiting)))

  same_key_of : (i j : ℕ) → has i ks ≡ true → has j ks ≡ true → (held (slot i)).number ≡ (held (slot j)).number → i ≡ j
  same_key_of i j hi hj e =
      let s = sleeper_at slot key_of ks (placed q) count a i hi in
      let u = sleeper_at slot key_of ks (placed q) count a j hj in
      let same : s.0.number ≡ u.0.number = sym (ap (λ (o : Option Sleeper). (held o).number) s.1) ∙ e ∙ ap (λ (o : Option Sleeper). (held o).number) u.1 in
      key_inj i j (sym (a.known i s.0 s.1) ∙ ap key_of same ∙ a.known j u.0 u.1)

  pub close_is : (c : ℕ) (z : Item) → Wakes slot c z (asleep_of slot ks) (option_map (λ (w : Waiting). w.offer) (first (filter (is_in_either (row_on c false) (row_on c true)) q.waiting)))
  close_is c z =
      subst (Wakes slot c z (asleep_of slot ks)) (ap (first_by (on_channel c)) (sym a.rows) ∙ sym (first_waiting (on_channel c) q.waiting))
      (wakes slot c z ks (apart_by_keys slot ks a.distinct same_key_of))

module _ (slot : ℕ → Option Sleeper) (key_of : ℕ → Option ℕ) (ks : List ℕ) (q : QueuesValue) (count : ℕ) (a : IsAsleep slot key_of ks (placed q) count)
    (c r t : ℕ) (receives : r ≡ row_on c false) (sends : t ≡ row_on c true) where
  there : (o : Option Entry) → o ≡ option_map (λ (w : Waiting). w.offer) (first (filter (is_in_either r t) q.waiting))
      → option_map (λ (w : Waiting). w.offer) (first (filter (is_in_either (row_on c false) (row_on c true)) q.waiting)) ≡ o
  there o h =
      ap (λ (i : ℕ). option_map (λ (w : Waiting). w.offer) (first (filter (is_in_either i (row_on c true)) q.waiting))) (sym receives)
      ∙ ap (λ (i : ℕ). option_map (λ (w : Waiting). w.offer) (first (filter (is_in_either r i) q.waiting))) (sym sends) ∙ sym h

  pub close_found : (z : Item) (o : Option Entry) → o ≡ option_map (λ (w : Waiting). w.offer) (first (filter (is_in_either r t) q.waiting)) → Wakes slot c z (asleep_of slot ks) o
  close_found z o h = subst (Wakes slot c z (asleep_of slot ks)) (there o h) (close_is slot key_of ks q count a c z)

  pub close_there : (e : Entry) → Some e ≡ option_map (λ (w : Waiting). w.offer) (first (filter (is_in_either r t) q.waiting)) → slot e.number ≡ None → ⊥
  close_there e h none = offered slot key_of ks q count a (on_channel c) e (there (Some e) h) none

pub told_same : (slot : ℕ → Option Sleeper) (c : ℕ) (z : Item) (e : Entry) (s : Sleeper) (n : ℕ) (reply : Reply) → slot e.number ≡ Some s → n ≡ s.number
    → reply ≡ cond (is_some e.item) Closed (got e.case z false) → ◌≡◌ {A = ℕ × Reply} (n, reply) (told slot c z e)
told_same slot c z e s n reply at number same =
    ap (λ (m : ℕ). pair m reply) (number ∙ sym (ap (λ (o : Option Sleeper). (held o).number) at)) ∙ ap (λ (r : Reply). pair (held (slot e.number)).number r) same

pub partner_same : (slot : ℕ → Option Sleeper) (e : Entry) (s : Sleeper) (n : ℕ) (item : Option Item) → slot e.number ≡ Some s → n ≡ s.number → item ≡ e.item
    → Some (record { number = n; case = e.case; item = item }) ≡ Some (partner_at slot e)
partner_same slot e s n item at number same =
    ap (λ (m : ℕ). Some (record { number = m; case = e.case; item = item })) (number ∙ sym (ap (λ (o : Option Sleeper). (held o).number) at))
    ∙ ap (λ (i : Option Item). Some (record { number = (held (slot e.number)).number; case = e.case; item = i })) same

pub nobody_asleep : (slots : List (Option Sleeper)) (key_of : ℕ → Option ℕ) (ks : List ℕ) (ps : List Placed) → slots ≡ [] → ks ≡ [] → ps ≡ [] → ((n : ℕ) → key_of n ≡ None) → IsAsleep (λ k. slice_index_or slots k None) key_of ks ps (count_by is_some slots)
nobody_asleep slots key_of ks ps e g f none =
    subst (λ (xs : List (Option Sleeper)). IsAsleep (λ k. slice_index_or xs k None) key_of ks ps (count_by is_some xs)) (sym e)
    (subst (λ (js : List ℕ). IsAsleep (λ k. slice_index_or [] k None) key_of js ps 0) (sym g)
    (subst (λ (qs : List Placed). IsAsleep (λ k. slice_index_or [] k None) key_of [] qs 0) (sym f)
    (record {
      rows = refl;
      kept = λ k. refl;
      known = λ k s h. absurd (none-some s h);
      named = λ n k h. absurd (none-some k (sym (none n) ∙ h));
      distinct = tt;
      size = refl;
    })))
