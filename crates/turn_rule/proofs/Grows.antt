-- The events of the one-thread run only grow, and an end stays.
use Rattle.std.proofs.Common.{◌≡◌, ℕ, zero, suc, Bool, true, false, cond, List, [], ◌∷◌, ◌++◌, Option, Some, None, refl, sym, ap, ◌∙◌, append_assoc, append-nil}
use Rattle.std.specs.Prelude.{slice_index_or}
use Rattle.logical_clock.specs.declared.key.Key.{Key}
use Rattle.turn_rule.specs.Turns.{Rules, World, next, perform, move_on, move_at, move_next, one, run}
use Rattle.turn_rule.specs.Schedule.{Records, IsPrefixOf}

-- a list that requests only lengthen is only lengthened by the run
module _ {S W E : Type 0} (r : Rules S W) (h : W → List E) (longer : (w : W) (n : ℕ) (s : S) → r.asks s ≡ true → IsPrefixOf (h w) (h (r.perform w n s).shared)) where
  abbrev Grows : World S W → World S W → Type 0
  Grows w v = IsPrefixOf (h w.shared) (h v.shared)

  same : (w : World S W) → Grows w w
  same w = ([], append-nil (h w.shared))

  on_by : (w : World S W) (n : ℕ) (s : S) (o : Option S) (b : Bool) → r.asks s ≡ b → Grows w (elim o as (λ _. World S W) [ Some t ↦ move_on r w n s (Some t) | None ↦ cond b (perform r w n s) w ])
  on_by w n s (Some t) b e = same w
  on_by w n s None true e = longer w.shared n s e
  on_by w n s None false e = same w

  at_by : (w : World S W) (n : ℕ) (s : S) (o : Option S) → Grows w (move_on r w n s o)
  at_by w n s (Some t) = on_by w n s (Some t) (r.asks s) refl
  at_by w n s None = on_by w n s None (r.asks s) refl

  move_by : (w : World S W) (n : ℕ) (o : Option S) → Grows w (move_at r w n o)
  move_by w n None = same w
  move_by w n (Some s) = at_by w n s (r.local s)

  next_by : (w : World S W) (o : Option Key) → Grows w (move_next r w o)
  next_by w None = same w
  next_by w (Some k) = move_by w k.number (slice_index_or w.awake k.number None)

  one_by : (w : World S W) (b : Bool) → Grows w (cond b w (move_next r w (next r w.awake)))
  one_by w true = same w
  one_by w false = next_by w (next r w.awake)

  pub lengthens : (n : ℕ) (w : World S W) → Grows w (run r n w)
  lengthens zero w = same w
  lengthens (suc n) w =
      let a = one_by w (r.is_over w.shared) in
      let b = lengthens n (one r w) in
      (a.0 ++ b.0, sym (append_assoc (h w.shared) a.0 b.0) ∙ ap (λ l. l ++ b.0) a.1 ∙ b.1)

pub grows : {S W E : Type 0} (r : Rules S W) (h : W → List E) → Records r h → (n : ℕ) (w : World S W) → IsPrefixOf (h w.shared) (h (run r n w).shared)
grows r h records n w = lengthens r h (λ w n s e. let q = records w n s e in (q.0 ∷ [], sym q.1)) n w
