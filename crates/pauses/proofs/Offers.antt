-- A select of some clauses has the other ones on nil, and misses none if it is thinned.
use Rattle.std.proofs.Common.{◌≡◌, ℕ, zero, suc, ◌+◌, ◌==◌, Bool, true, false, ◌&&◌, ◌||◌, ◌⊎◌, cond, List, [], ◌∷◌, Option, Some, None, slice_get, refl, inl, inr, arith, sym, ◌∙◌, ap, subst, add-zero}
use Rattle.std.proofs.lemmas.Bool.{and_from, and_parts, cond-true, eq-eqb, eqb-true, false_from_ne_true, false≢true, not_from_false, or_left, or_right}
use Rattle.std.specs.List.{list_any}
use Rattle.std.specs.Option.{is_some}
use Rattle.word.specs.declared.request.Case.{Case}
use Rattle.pauses.specs.declared.select.Mask.{Mask}
use Rattle.pauses.specs.declared.select.Mask.TheVariants.{Alone, Thinned}
use Rattle.pauses.specs.Laws.{ArePart, OffersAlike, is_on}
use Rattle.pauses.specs.Selects.{alone, case_at, is_same_channel, is_same_direction, keeps, masked_from, off, thinned, thinned_by}

-- the clause stays, or is on nil
stays : (x : Case) (b : Bool) (y : Case) → y ≡ cond b x (off x) → (y ≡ x) ⊎ (y ≡ off x)
stays x true y e = inl e
stays x false y e = inr e

pub masked_part : (m : Mask) (number : ℕ) (xs : List Case) → ArePart xs (masked_from m number xs)
masked_part m number [] = tt
masked_part m number (x ∷ xs) = (stays x (keeps m number x) _ refl, masked_part m (number + 1) xs)

pub whole_part : (xs : List Case) → ArePart xs xs
whole_part [] = tt
whole_part (x ∷ xs) = (inl refl, whole_part xs)

module _ (c : ℕ) (sends : Bool) where
  -- a clause that stays, and one that is not on the channel, make no difference
  kept_one : (x : Case) (rest more b : Bool) → (is_on c sends x ≡ true → b ≡ true) → rest ≡ more → (is_on c sends (cond b x (off x)) || rest) ≡ (is_on c sends x || more)
  kept_one x rest more true h same = ap (λ v. is_on c sends x || v) same
  kept_one x rest more false h same =
      let away : is_on c sends x ≡ false = false_from_ne_true _ (λ on. absurd (false≢true (h on))) in
      same ∙ sym (ap (λ v. v || more) away)

  -- if all clauses on the channel stay
  kept_all : (m : Mask) (number : ℕ) (xs : List Case) → ((n : ℕ) (x : Case) → is_on c sends x ≡ true → keeps m n x ≡ true) → list_any (is_on c sends) (masked_from m number xs) ≡ list_any (is_on c sends) xs
  kept_all m number [] h = refl
  kept_all m number (x ∷ xs) h = kept_one x _ _ (keeps m number x) (h number x) (kept_all m (number + 1) xs h)

  -- if clause k from here is on the channel, and stays
  there : (xs : List Case) (k : ℕ) (y : Case) → slice_get xs k ≡ Some y → is_on c sends y ≡ true → list_any (is_on c sends) xs ≡ true
  there [] k y e h = cc
  there (x ∷ xs) zero y e h = or_left _ _ (let same : x ≡ y = cc in subst (λ v. is_on c sends v ≡ true) (sym same) h)
  there (x ∷ xs) (suc k) y e h = or_right _ _ (there xs k y e h)

  stays_there : (m : Mask) (number : ℕ) (xs : List Case) (k : ℕ) (y : Case) → slice_get xs k ≡ Some y → is_on c sends y ≡ true → ((x : Case) → keeps m (number + k) x ≡ true) → list_any (is_on c sends) (masked_from m number xs) ≡ true
  stays_there m number [] k y e h stays = cc
  stays_there m number (x ∷ xs) zero y e h stays =
      let here : keeps m number x ≡ true = subst (λ n. keeps m n x ≡ true) (add-zero number) (stays x) in
      let same : x ≡ y = cc in
      or_left _ _ (subst (λ v. is_on c sends v ≡ true) (sym (cond-true _ x (off x) here ∙ same)) h)
  stays_there m number (x ∷ xs) (suc k) y e h stays =
      or_right _ _ (stays_there m (number + 1) xs k y e h (λ z. subst (λ n. keeps m n z ≡ true) (omega arith) (stays z)))

-- two numbers that are equal to a third
same_number : (a b c : ℕ) → (a == c) ≡ true → (a == b) ≡ true → (b == c) ≡ true
same_number a b c p q = eq-eqb b c (sym (eqb-true a b q) ∙ eqb-true a c p)

same_channels : (a b : Option ℕ) (c : ℕ) → is_same_channel a (Some c) ≡ true → is_same_channel a b ≡ true → is_same_channel b (Some c) ≡ true
same_channels None b c p q = absurd (false≢true p)
same_channels (Some a) None c p q = absurd (false≢true q)
same_channels (Some a) (Some b) c p q = same_number a b c p q

same_directions : (a b s : Bool) → is_same_direction a s ≡ true → is_same_direction a b ≡ true → is_same_direction b s ≡ true
same_directions true true s p q = p
same_directions true false s p q = absurd (false≢true q)
same_directions false true s p q = absurd (false≢true q)
same_directions false false s p q = p

-- a clause on the channel, in the direction of a third, stays if clause y is not on that
not_rival : (c : ℕ) (sends : Bool) (y x : Case) → is_on c sends y ≡ false → is_on c sends x ≡ true → (is_same_channel x.chan y.chan && is_same_direction (is_some x.item) (is_some y.item)) ≡ false
not_rival c sends y x away on = false_from_ne_true _ (λ rival.
    let at = and_parts _ _ on in
    let both = and_parts _ _ rival in
    absurd (false≢true (sym away ∙ and_from _ _ (same_channels x.chan y.chan c at.0 both.0) (same_directions (is_some x.item) (is_some y.item) sends at.1 both.1))))

thin_by : (k : ℕ) (y : Case) (xs : List Case) (c : ℕ) (sends on : Bool) → slice_get xs k ≡ Some y → on ≡ is_on c sends y → list_any (is_on c sends) (masked_from (Thinned (suc k) y.chan (is_some y.item)) 1 xs) ≡ list_any (is_on c sends) xs
thin_by k y xs c sends true e is =
    stays_there c sends (Thinned (suc k) y.chan (is_some y.item)) 1 xs k y e (sym is) (λ x. or_left _ _ (eq-eqb (1 + k) (suc k) (omega arith))) ∙ sym (there c sends xs k y e (sym is))
thin_by k y xs c sends false e is =
    kept_all c sends (Thinned (suc k) y.chan (is_some y.item)) 1 xs (λ n x on. or_right _ _ (not_from_false _ (not_rival c sends y x (sym is) on)))

by_case : (k : ℕ) (found : Option Case) (xs : List Case) → slice_get xs k ≡ found → OffersAlike xs (thinned_by (suc k) found xs)
by_case k None xs e c sends = refl
by_case k (Some y) xs e c sends = thin_by k y xs c sends (is_on c sends y) e refl

pub thinned_offers : (clause : ℕ) (xs : List Case) → OffersAlike xs (thinned clause xs)
thinned_offers zero xs c sends = refl
thinned_offers (suc k) xs c sends = by_case k (slice_get xs k) xs refl c sends

part_by : (clause : ℕ) (found : Option Case) (xs : List Case) → ArePart xs (thinned_by clause found xs)
part_by clause None xs = whole_part xs
part_by clause (Some y) xs = masked_part (Thinned clause y.chan (is_some y.item)) 1 xs

pub thinned_part : (clause : ℕ) (xs : List Case) → ArePart xs (thinned clause xs)
thinned_part clause xs = part_by clause (case_at clause xs) xs

pub alone_part : (clause : ℕ) (xs : List Case) → ArePart xs (alone clause xs)
alone_part clause xs = masked_part (Alone clause) 1 xs
