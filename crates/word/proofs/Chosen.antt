-- The clause that a select does is one of its own, with its number, and ready.
use Rattle.std.proofs.Common.{◌≡◌, ℕ, zero, suc, ◌+◌, ◌<◌, Bool, true, false, not, cond, List, [], ◌∷◌, length, Option, Some, None, refl, sym, ap, ◌∙◌, subst, arith, inl, inr}
use Rattle.std.specs.Prelude.{◌%◌}
use Rattle.std.specs.List.{slice_get}
use Rattle.std.specs.Option.{is_some}
use Rattle.std.proofs.Math.Nat.{mod-lt}
use Rattle.std.proofs.lemmas.Option.{none-some, same_Some, slice_get-get_or}
use Rattle.word.specs.Values.{Item, Case, Request, Shared}
use Rattle.word.specs.Kinds.{SuitsClause}
use Rattle.word.specs.Flow.{case_deal, clause_deal}
use Rattle.word.specs.Requests.{is_ready, ready_clauses, choose}
use Rattle.word.proofs.Found.{In}

get_in : {A : Type 0} (xs : List A) (i : ℕ) (y : A) → slice_get xs i ≡ Some y → In y xs
get_in [] i y h = cc
get_in (x ∷ xs) zero y h = inl (sym (same_Some x y h))
get_in (x ∷ xs) (suc i) y h = inr (get_in xs i y h)

turned_none : {A : Type 0} (xs : List A) (c : ℕ) → slice_get xs (c % length xs) ≡ None → xs ≡ []
turned_none [] c h = refl
turned_none (x ∷ xs) c h = let within : c % suc (length xs) < suc (length xs) = mod-lt c (omega arith) in absurd (none-some _ (sym h ∙ slice_get-get_or (x ∷ xs) (c % suc (length xs)) x within))

-- the clause at index k of a select, by its replies and by what it exchanges
pub suits_at : (xs : List Case) (k : ℕ) (x : Case) → slice_get xs k ≡ Some x → (g : Option (Item × Bool)) → is_some g ≡ not (is_some x.item) → SuitsClause xs (suc k) g
suits_at [] k x h g s = cc
suits_at (y ∷ ys) zero x h g s = subst (λ (t : Case). is_some g ≡ not (is_some t.item)) (sym (same_Some y x h)) s
suits_at (y ∷ ys) (suc k) x h g s = suits_at ys k x h g s

pub deals_at : (xs : List Case) (k : ℕ) (x : Case) → slice_get xs k ≡ Some x → (g : Option (Item × Bool)) → case_deal xs (suc k) g ≡ clause_deal x.chan x.item g
deals_at [] k x h g = cc
deals_at (y ∷ ys) zero x h g = ap (λ (t : Case). clause_deal t.chan t.item g) (same_Some y x h)
deals_at (y ∷ ys) (suc k) x h g = deals_at ys k x h g

-- of these clauses, which j others precede, the one at index k: with its number, and ready
pub record Chosen (w : Shared) (n c : ℕ) (q : Request) (xs : List Case) (j : ℕ) (y : ℕ × Case) : Type 0 where
  pub k : ℕ
  pub is : y.0 ≡ suc (j + k)
  pub stands : slice_get xs k ≡ Some y.1
  pub ready : is_ready w n c q y.1.chan y.1.item ≡ true

module _ (w : Shared) (n c : ℕ) (q : Request) where
  ready_is : (xs : List Case) (j : ℕ) (y : ℕ × Case) → In y (ready_clauses w n c q (suc j) xs) → Chosen w n c q xs j y
  ready_is [] j y h = elim h [ ]
  ready_is (x ∷ xs) j y h = go (ready_is xs (suc j) y) (is_ready w n c q x.chan x.item) refl h
    where
      later : Chosen w n c q xs (suc j) y → Chosen w n c q (x ∷ xs) j y
      later z = record { k = suc z.k; is = omega (arith, z.is); stands = z.stands; ready = z.ready }

      go : (In y (ready_clauses w n c q (suc (suc j)) xs) → Chosen w n c q xs (suc j) y) → (b : Bool) → is_ready w n c q x.chan x.item ≡ b
          → In y (cond b ((suc j, x) ∷ ready_clauses w n c q (suc (suc j)) xs) (ready_clauses w n c q (suc (suc j)) xs)) → Chosen w n c q (x ∷ xs) j y
      go rec true r (inl e) = subst (λ (t : ℕ × Case). Chosen w n c q (x ∷ xs) j t) (sym e) (record { k = 0; is = omega arith; stands = refl; ready = r })
      go rec true r (inr h') = later (rec h')
      go rec false r h' = later (rec h')

  pub chosen : (cases : List Case) (y : ℕ × Case) → choose w n c q cases ≡ Some y → Chosen w n c q cases 0 y
  chosen cases y h = ready_is cases 0 y (get_in (ready_clauses w n c q 1 cases) (c % length (ready_clauses w n c q 1 cases)) y h)

  pub none_ready : (cases : List Case) → choose w n c q cases ≡ None → ready_clauses w n c q 1 cases ≡ []
  none_ready cases h = turned_none (ready_clauses w n c q 1 cases) c h
