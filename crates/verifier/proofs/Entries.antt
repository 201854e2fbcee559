-- A table's entries.
use Rattle.std.proofs.Common.{◌≡◌, ℕ, zero, suc, ◌<◌, List, [], ◌∷◌, ◌++◌, length, Option, Some, None, refl, sym, ap, ◌∙◌, subst, arith, slice_set, slice_index_or}
use Rattle.std.specs.Global.{Vec}
use Rattle.bytecode.specs.declared.instr.WordKind.{WordKind}
use Rattle.std.proofs.Common.{◌⊎◌, inl, inr}
use Rattle.bytecode.specs.Code.{Function, Code}
use Rattle.verifier.specs.declared.paths.Merge.{Merge}
use Rattle.verifier.specs.declared.paths.Merge.TheVariants.{Same, New, Differs}
use Rattle.verifier.specs.Tables.{Table, entry, kinds_at, Reached}
use Rattle.bytecode.specs.Rules.{Path}
use Rattle.verifier.specs.Tables.{unknown, Merged, Led}
use Rattle.bytecode.proofs.Options.{some_inj}

pub entry_read : (t : Table) (n : ℕ) (o : Option (Vec WordKind)) → n < length t → o ≡ slice_index_or t n o → entry t n ≡ kinds_at (Some o)
entry_read [] n o h e = absurd (omega (arith, h))
entry_read (x ∷ t) zero o h e = ap (λ y. kinds_at (Some y)) (sym e)
entry_read (x ∷ t) (suc n) o h e = entry_read t n o (omega (arith, h)) e

pub entry_set : (t : Table) (n : ℕ) (v : Vec WordKind) → n < length t → entry (slice_set t n (Some v)) n ≡ Some v.items
entry_set [] n v h = absurd (omega (arith, h))
entry_set (x ∷ t) zero v h = refl
entry_set (x ∷ t) (suc n) v h = entry_set t n v (omega (arith, h))

pub entry_other : (t : Table) (n m : ℕ) (v : Vec WordKind) → (m ≡ n → ⊥) → entry (slice_set t n (Some v)) m ≡ entry t m
entry_other [] n m v h = refl
entry_other (x ∷ t) zero zero v h = absurd (h refl)
entry_other (x ∷ t) zero (suc m) v h = refl
entry_other (x ∷ t) (suc n) zero v h = refl
entry_other (x ∷ t) (suc n) (suc m) v h = entry_other t n m v (λ e. h (ap suc e))

pub some_none : {A : Type 0} {x : A} → Some x ≡ None → ⊥
some_none e = cc

pub unknown_set : (t : Table) (n : ℕ) (v : Vec WordKind) → n < length t → entry t n ≡ None → unknown (slice_set t n (Some v)) < unknown t
unknown_set [] n v h e = absurd (omega (arith, h))
unknown_set (None ∷ t) zero v h e = omega arith
unknown_set (Some w ∷ t) zero v h e = absurd (some_none e)
unknown_set (None ∷ t) (suc n) v h e = omega (arith, unknown_set t n v (omega (arith, h)) e)
unknown_set (Some w ∷ t) (suc n) v h e = unknown_set t n v (omega (arith, h)) e

same_or : (a b : ℕ) → (a ≡ b) ⊎ (a ≡ b → ⊥)
same_or zero zero = inl refl
same_or zero (suc b) = inr (λ e. absurd (omega (arith, e)))
same_or (suc a) zero = inr (λ e. absurd (omega (arith, e)))
same_or (suc a) (suc b) = elim (same_or a b) [ inl e ↦ inl (ap suc e) | inr h ↦ inr (λ e. h (omega (arith, e))) ]

-- a way on a path keeps each entry on a path
reached_set : (code : Code) (f : Function) (t : Table) (to : ℕ) (v : Vec WordKind) → entry t to ≡ None → to < length t → Reached code f t → (n : ℕ) × Path code f n to v.items → Reached code f (slice_set t to (Some v))
reached_set code f t to v none h r p = (
  entry_other t to 0 v (λ e. some_none (sym r.0 ∙ (ap (entry t) e ∙ none))) ∙ r.0,
  λ place ks e.
      elim (same_or place to) [
        | inl q ↦
            let s : v.items ≡ ks = some_inj (sym (entry_set t to v h) ∙ (ap (entry (slice_set t to (Some v))) (sym q) ∙ e)) in
            (p.0, subst (λ x. Path code f p.0 x ks) (sym q) (subst (λ x. Path code f p.0 to x) s p.1))
        | inr q ↦ r.1 place ks (sym (entry_other t to place v q) ∙ e)
      ],
)

pub led : (m : Merge) (code : Code) (f : Function) (old new : Table) (to : ℕ) (ks : List WordKind) → to < length old → Reached code f old → (n : ℕ) × Path code f n to ks → Merged m old new to ks → Reached code f new × Led m code f old new to ks
led Same code f old new to ks h r p m = (subst (Reached code f) (sym m.0) r, m)
led Differs code f old new to ks h r p m =
    let q = r.1 to m.1.0 m.1.1 in
    (subst (Reached code f) (sym m.0) r, (q.0, p.0, m.1.0, ks, q.1, p.1, m.1.2))
led New code f old new to ks h r p m =
    let v = m.1.0 in
    let same : v.items ≡ ks = m.1.1 in (
      subst (Reached code f) (sym m.1.2) (reached_set code f old to v m.0 h r (p.0, subst (λ x. Path code f p.0 to x) (sym same) p.1)),
      (subst (λ x. unknown x < unknown old) (sym m.1.2) (unknown_set old to v h m.0), m),
    )

-- an entry without kinds at the end changes nothing
pub entry_more : (t : Table) (n : ℕ) → entry (t ++ None ∷ []) n ≡ entry t n
entry_more [] zero = refl
entry_more [] (suc n) = refl
entry_more (x ∷ t) zero = refl
entry_more (x ∷ t) (suc n) = entry_more t n
