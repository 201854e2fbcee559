-- Sleepers that leave and enter.
use Rattle.std.proofs.Common.{◌≡◌, ◌≢◌, ℕ, ◌+◌, true, false, List, [], ◌∷◌, ◌++◌, length, length-append, Option, Some, None, option_map, refl, sym, ap, ◌∙◌, subst, arith, inl, inr}
use Rattle.std.specs.Prelude.{◌==◌, cond, unwrap_or}
use Rattle.std.specs.List.{filter}
use Rattle.std.specs.Option.{is_some}
use Rattle.std.proofs.lemmas.Bool.{cases_eq, both_ways}
use Rattle.std.proofs.lemmas.List.{append-nil, map-append}
use Rattle.std.proofs.lemmas.List.Elements.{filter-append}
use Rattle.std.proofs.lemmas.Option.{none-some}
use Rattle.word.specs.Values.{Sleeper}
use Rattle.word.specs.Requests.{without}
use Rattle.channel_core.specs.Asleep.{Placed, placed_all, is_not_of, held, asleep_of, placed_by, has, AreDistinct, IsAsleep}
use Rattle.channel_core.specs.Orders.{is_not}
use Rattle.channel_core.proofs.Keys.{same_key, other_key, without_same, without_other, absent, length_without, distinct_without, has_more_same, has_more_other, distinct_more, kept_one, stays, placed_by-append, all_stay, filter-placed_by, placed_by-same, asleep_of-same, without_key, without_none}

some_inj : {A : Type 0} (x y : A) → Some x ≡ Some y → x ≡ y
some_inj x y e = ap (λ o. unwrap_or o x) e

abbrev number : Sleeper → ℕ
number s = s.number

-- a slot that has a number has a sleeper
has_sleeper : (o : Option Sleeper) (n : ℕ) → option_map number o ≡ Some n → (s : Sleeper) × (o ≡ Some s) × (s.number ≡ n)
has_sleeper None n e = absurd (none-some n e)
has_sleeper (Some s) n e = (s, refl, some_inj s.number n e)

is_taken : (o : Option Sleeper) → is_some o ≡ true → (s : Sleeper) × (o ≡ Some s)
is_taken None e = absurd (both_ways false refl e)
is_taken (Some s) e = (s, refl)

module _ (slot : ℕ → Option Sleeper) (key_of : ℕ → Option ℕ) (ks : List ℕ) (ps : List Placed) (count : ℕ) (a : IsAsleep slot key_of ks ps count) where
  -- one that is asleep
  pub sleeper_at : (j : ℕ) → has j ks ≡ true → (s : Sleeper) × (slot j ≡ Some s)
  sleeper_at j h = is_taken (slot j) (a.kept j ∙ h)

  number_at : (j : ℕ) (s : Sleeper) → slot j ≡ Some s → (held (slot j)).number ≡ s.number
  number_at j s e = ap (λ (o : Option Sleeper). (held o).number) e

  pub vacant : (k : ℕ) → slot k ≡ None → has k ks ≡ false
  vacant k e = sym (a.kept k) ∙ ap is_some e

  -- no row has anything for a key that is not in use
  pub nothing_of : (k : ℕ) → slot k ≡ None → filter (is_not_of k) ps ≡ ps
  nothing_of k e =
      ap (filter (is_not_of k)) a.rows ∙ filter-placed_by slot k ks ∙ ap (placed_by slot) (absent k ks (vacant k e)) ∙ sym a.rows

  pub nobody : (n : ℕ) → key_of n ≡ None → without (asleep_of slot ks) n ≡ asleep_of slot ks
  nobody n e = without_none slot n ks (λ j h.
      let s = sleeper_at j h in
      other_key (held (slot j)).number n (λ (m : (held (slot j)).number ≡ n).
      none-some j (sym e ∙ sym (ap key_of (sym (number_at j s.0 s.1) ∙ m)) ∙ a.known j s.0 s.1)))

  module _ (n k : ℕ) (at : key_of n ≡ Some k) where
    pub sleeper_of : (s : Sleeper) × (slot k ≡ Some s) × (s.number ≡ n)
    sleeper_of = has_sleeper (slot k) n (a.named n k at)

    in_use : has k ks ≡ true
    in_use = sym (a.kept k) ∙ ap is_some sleeper_of.1

    -- only this key's sleeper has this number
    same_number : (j : ℕ) → has j ks ≡ true → ((held (slot j)).number == n) ≡ (j == k)
    same_number j h =
        let s = sleeper_at j h in
        let number_j = number_at j s.0 s.1 in
        elim (cases_eq j k) [
          | inl e ↦ same_key (held (slot j)).number n (ap (λ (i : ℕ). (held (slot i)).number) e ∙ number_at k sleeper_of.0 sleeper_of.1 ∙ sleeper_of.2) ∙ sym (same_key j k e)
          | inr e ↦ other_key (held (slot j)).number n (λ (m : (held (slot j)).number ≡ n).
              e (some_inj j k (sym (a.known j s.0 s.1) ∙ ap key_of (sym number_j ∙ m) ∙ at))) ∙ sym (other_key j k e)
        ]

    module _ (slot' : ℕ → Option Sleeper) (key_of' : ℕ → Option ℕ) (ks' : List ℕ) (ps' : List Placed) (count' : ℕ)
        (gone : slot' k ≡ None) (others : (j : ℕ) → j ≢ k → slot' j ≡ slot j)
        (lost : key_of' n ≡ None) (rest : (m : ℕ) → m ≢ n → key_of' m ≡ key_of m)
        (keys_left : ks' ≡ filter (is_not k) ks) (left : ps' ≡ filter (is_not_of k) ps) (fewer : count' + 1 ≡ count) where
      rows_left : ps' ≡ placed_by slot (filter (is_not k) ks)
      rows_left = left ∙ ap (filter (is_not_of k)) a.rows ∙ filter-placed_by slot k ks

      same_slot : (j : ℕ) → has j (filter (is_not k) ks) ≡ true → slot' j ≡ slot j
      same_slot j h = others j (λ (e : j ≡ k). both_ways (has j (filter (is_not k) ks)) (subst (λ (i : ℕ). has i (filter (is_not k) ks) ≡ false) (sym e) (without_same k ks)) h)

      not_gone : (j : ℕ) (s : Sleeper) → slot' j ≡ Some s → j ≢ k
      not_gone j s e m = none-some s (sym gone ∙ sym (ap slot' m) ∙ e)

      pub leaves : IsAsleep slot' key_of' ks' ps' count'
      leaves = record {
        rows = rows_left ∙ sym (placed_by-same slot slot' (filter (is_not k) ks) same_slot) ∙ sym (ap (placed_by slot') keys_left);
        kept = λ j. elim (cases_eq j k) [
          | inl e ↦ ap (λ (i : ℕ). is_some (slot' i)) e ∙ ap is_some gone ∙ sym (without_same k ks) ∙ sym (ap (λ (i : ℕ). has i (filter (is_not k) ks)) e) ∙ sym (ap (has j) keys_left)
          | inr e ↦ ap is_some (others j e) ∙ a.kept j ∙ sym (without_other j k e ks) ∙ sym (ap (has j) keys_left)
        ];
        known = λ j s e.
            let there : slot j ≡ Some s = sym (others j (not_gone j s e)) ∙ e in
            rest s.number (λ (m : s.number ≡ n). not_gone j s e (some_inj j k (sym (a.known j s there) ∙ ap key_of m ∙ at))) ∙ a.known j s there;
        named = λ m j e.
            let other : m ≢ n = λ (x : m ≡ n). none-some j (sym lost ∙ sym (ap key_of' x) ∙ e) in
            let was : key_of m ≡ Some j = sym (rest m other) ∙ e in
            let at_j : option_map number (slot j) ≡ Some m = a.named m j was in
            let apart : j ≢ k = λ (x : j ≡ k). other (some_inj m n (sym at_j ∙ ap (λ (i : ℕ). option_map number (slot i)) x ∙ a.named n k at)) in
            ap (option_map number) (others j apart) ∙ at_j;
        distinct = subst AreDistinct (sym keys_left) (distinct_without k ks a.distinct);
        size =
            let l : length ks' ≡ length (filter (is_not k) ks) = ap length keys_left in
            let f : length (filter (is_not k) ks) + 1 ≡ length ks = length_without k ks a.distinct in_use in
            let c : length ks ≡ count = a.size in
            omega (arith, l, f, c, fewer);
      }

      pub left_asleep : asleep_of slot' ks' ≡ without (asleep_of slot ks) n
      left_asleep =
          ap (asleep_of slot') keys_left ∙ asleep_of-same slot slot' (filter (is_not k) ks) same_slot ∙ sym (without_key slot n k ks same_number)

  module _ (k : ℕ) (s : Sleeper) (slot' : ℕ → Option Sleeper) (key_of' : ℕ → Option ℕ) (ks' : List ℕ) (ps' : List Placed) (count' : ℕ)
      (free : slot k ≡ None) (now : slot' k ≡ Some s) (others : (j : ℕ) → j ≢ k → slot' j ≡ slot j)
      (unknown : key_of s.number ≡ None) (found : key_of' s.number ≡ Some k) (rest : (m : ℕ) → m ≢ s.number → key_of' m ≡ key_of m)
      (keys_more : ks' ≡ ks ++ k ∷ []) (more : ps' ≡ ps ++ placed_all k s.request) (one : count' ≡ count + 1) where
    new_key : (j : ℕ) → has j ks ≡ true → j ≢ k
    new_key j h e = both_ways (has j ks) (subst (λ (i : ℕ). has i ks ≡ false) (sym e) (vacant k free)) h

    last : placed_by slot' (k ∷ []) ≡ placed_all k s.request
    last = ap (λ (o : Option Sleeper). placed_all k (held o).request ++ []) now ∙ append-nil (placed_all k s.request)

    pub enters : IsAsleep slot' key_of' ks' ps' count'
    enters = record {
      rows = more ∙ ap (λ (l : List Placed). l ++ placed_all k s.request) (a.rows ∙ sym (placed_by-same slot slot' ks (λ j h. others j (new_key j h))))
          ∙ ap (λ (l : List Placed). placed_by slot' ks ++ l) (sym last) ∙ sym (placed_by-append slot' ks (k ∷ [])) ∙ sym (ap (placed_by slot') keys_more);
      kept = λ j. elim (cases_eq j k) [
        | inl e ↦ ap (λ (i : ℕ). is_some (slot' i)) e ∙ ap is_some now ∙ sym (has_more_same k ks) ∙ sym (ap (λ (i : ℕ). has i (ks ++ k ∷ [])) e) ∙ sym (ap (has j) keys_more)
        | inr e ↦ ap is_some (others j e) ∙ a.kept j ∙ sym (has_more_other j k e ks) ∙ sym (ap (has j) keys_more)
      ];
      known = λ j t e. elim (cases_eq j k) [
        | inl x ↦
            let same : s ≡ t = some_inj s t (sym now ∙ sym (ap slot' x) ∙ e) in
            ap (λ (u : Sleeper). key_of' u.number) (sym same) ∙ found ∙ ap (λ (i : ℕ). Some i) (sym x)
        | inr x ↦
            let was : key_of t.number ≡ Some j = a.known j t (sym (others j x) ∙ e) in
            rest t.number (λ (y : t.number ≡ s.number). none-some j (sym unknown ∙ sym (ap key_of y) ∙ was)) ∙ was
      ];
      named = λ m j e. elim (cases_eq m s.number) [
        | inl x ↦
            let same : k ≡ j = some_inj k j (sym found ∙ sym (ap key_of' x) ∙ e) in
            ap (λ (i : ℕ). option_map number (slot' i)) (sym same) ∙ ap (option_map number) now ∙ ap (λ (i : ℕ). Some i) (sym x)
        | inr x ↦
            let at_j : option_map number (slot j) ≡ Some m = a.named m j (sym (rest m x) ∙ e) in
            let apart : j ≢ k = λ (y : j ≡ k). none-some m (ap (option_map number) (sym free) ∙ sym (ap (λ (i : ℕ). option_map number (slot i)) y) ∙ at_j) in
            ap (option_map number) (others j apart) ∙ at_j
      ];
      distinct = subst AreDistinct (sym keys_more) (distinct_more k ks a.distinct (vacant k free));
      size =
          let l : length ks' ≡ length ks + 1 = ap length keys_more ∙ length-append ks (k ∷ []) in
          let c : length ks ≡ count = a.size in
          omega (arith, l, c, one);
    }

    pub entered_asleep : asleep_of slot' ks' ≡ asleep_of slot ks ++ s ∷ []
    entered_asleep =
        ap (asleep_of slot') keys_more ∙ map-append (λ (i : ℕ). held (slot' i)) ks (k ∷ [])
        ∙ ap (λ (l : List Sleeper). l ++ held (slot' k) ∷ []) (asleep_of-same slot slot' ks (λ j h. others j (new_key j h)))
        ∙ ap (λ (o : Option Sleeper). asleep_of slot ks ++ held o ∷ []) now

-- one of this number and key leaves, and one of this number enters under another key
module _ (slot : ℕ → Option Sleeper) (key_of : ℕ → Option ℕ) (ks : List ℕ) (ps : List Placed) (count : ℕ) (a : IsAsleep slot key_of ks ps count)
    (o k : ℕ) (s : Sleeper) (slot' : ℕ → Option Sleeper) (key_of' : ℕ → Option ℕ) (ks' : List ℕ) (ps' : List Placed)
    (at : key_of s.number ≡ Some o) (free : slot k ≡ None) (now : slot' k ≡ Some s) (gone : slot' o ≡ None) (others : (j : ℕ) → j ≢ k → j ≢ o → slot' j ≡ slot j)
    (found : key_of' s.number ≡ Some k) (rest : (m : ℕ) → m ≢ s.number → key_of' m ≡ key_of m)
    (keys_more : ks' ≡ filter (is_not o) (ks ++ k ∷ [])) (more : ps' ≡ filter (is_not_of o) (ps ++ placed_all k s.request)) where
  slot1 : ℕ → Option Sleeper
  slot1 j = cond (j == o) None (slot j)

  key_of1 : ℕ → Option ℕ
  key_of1 m = cond (m == s.number) None (key_of m)

  slot1_at : slot1 o ≡ None
  unfolding slot1
  slot1_at = rw (same_key o o refl) refl

  slot1_other : (j : ℕ) → j ≢ o → slot1 j ≡ slot j
  unfolding slot1
  slot1_other j e = rw (other_key j o e) refl

  key_of1_at : key_of1 s.number ≡ None
  unfolding key_of1
  key_of1_at = rw (same_key s.number s.number refl) refl

  key_of1_other : (m : ℕ) → m ≢ s.number → key_of1 m ≡ key_of m
  unfolding key_of1
  key_of1_other m e = rw (other_key m s.number e) refl

  apart : k ≢ o
  apart e = let t = sleeper_of slot key_of ks ps count a s.number o at in none-some t.0 (sym free ∙ ap slot e ∙ t.1)

  fewer : length (filter (is_not o) ks) + 1 ≡ count
  fewer = length_without o ks a.distinct (in_use slot key_of ks ps count a s.number o at) ∙ a.size

  between : IsAsleep slot1 key_of1 (filter (is_not o) ks) (filter (is_not_of o) ps) (length (filter (is_not o) ks))
  between = leaves slot key_of ks ps count a s.number o at slot1 key_of1 (filter (is_not o) ks) (filter (is_not_of o) ps) (length (filter (is_not o) ks))
      slot1_at slot1_other key_of1_at key_of1_other refl refl fewer

  between_asleep : asleep_of slot1 (filter (is_not o) ks) ≡ without (asleep_of slot ks) s.number
  between_asleep = left_asleep slot key_of ks ps count a s.number o at slot1 key_of1 (filter (is_not o) ks) (filter (is_not_of o) ps) (length (filter (is_not o) ks))
      slot1_at slot1_other key_of1_at key_of1_other refl refl fewer

  others1 : (j : ℕ) → j ≢ k → slot' j ≡ slot1 j
  others1 j e = elim (cases_eq j o) [
    | inl x ↦ ap slot' x ∙ gone ∙ sym slot1_at ∙ sym (ap slot1 x)
    | inr x ↦ others j e x ∙ sym (slot1_other j x)
  ]

  rest1 : (m : ℕ) → m ≢ s.number → key_of' m ≡ key_of1 m
  rest1 m e = rest m e ∙ sym (key_of1_other m e)

  more1 : ps' ≡ filter (is_not_of o) ps ++ placed_all k s.request
  more1 = more ∙ filter-append (is_not_of o) ps (placed_all k s.request) ∙ ap (λ (l : List Placed). filter (is_not_of o) ps ++ l) (all_stay o k apart s.request)

  keys_more1 : ks' ≡ filter (is_not o) ks ++ k ∷ []
  keys_more1 = keys_more ∙ filter-append (is_not o) ks (k ∷ []) ∙ ap (λ (l : List ℕ). filter (is_not o) ks ++ l) (kept_one (is_not o) k [] (stays k o apart))

  pub replaces : IsAsleep slot' key_of' ks' ps' count
  replaces = enters slot1 key_of1 (filter (is_not o) ks) (filter (is_not_of o) ps) (length (filter (is_not o) ks)) between k s slot' key_of' ks' ps' count
      (slot1_other k apart ∙ free) now others1 key_of1_at found rest1 keys_more1 more1 (sym fewer)

  pub replaced_asleep : asleep_of slot' ks' ≡ without (asleep_of slot ks) s.number ++ s ∷ []
  replaced_asleep = entered_asleep slot1 key_of1 (filter (is_not o) ks) (filter (is_not_of o) ps) (length (filter (is_not o) ks)) between k s slot' key_of' ks' ps' count
      (slot1_other k apart ∙ free) now others1 key_of1_at found rest1 keys_more1 more1 (sym fewer)
      ∙ ap (λ (l : List Sleeper). l ++ s ∷ []) between_asleep
