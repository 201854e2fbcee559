-- Verified code is never stuck and violates no rule.
use Rattle.std.proofs.Common.{ℕ, sym, ◌∙◌, subst, inl, inr}
use Rattle.bytecode.specs.declared.rule.Rule.{Rule}
use Rattle.bytecode.specs.declared.rule.Rule.TheVariants.{Names, Targets, Paths, Calls, Returns, Locals, Tables, Main}
use Rattle.bytecode.specs.Code.{Function, Code}
use Rattle.bytecode.specs.Effects.{Fits}
use Rattle.bytecode.specs.Machine.{Frames}
use Rattle.bytecode.specs.Rules.{Holds, IsVerified, IsFrameOf, Misfit, Parting, BrokenIn, BrokenBeside, Breaks}
use Rattle.bytecode.proofs.Unstuck.{begin_keeps, step_keeps, tick_keeps, answer_keeps, not_stuck}
use Rattle.verifier.specs.Refusals.{Comes, begins, slides, ticks, answers, NeverStuck}
use Rattle.bytecode.proofs.Options.{some_inj}

comes_fits : (code : Code) → IsVerified code → (s : Frames) → Comes code s → IsFrameOf code s
comes_fits code v s (begins g below args) = begin_keeps code v g args below
comes_fits code v s (slides {s = r} c e) = step_keeps code v r s (comes_fits code v r c) e
comes_fits code v s (ticks {s = r} c e) = tick_keeps code v r s (comes_fits code v r c) e
comes_fits code v s (answers {s = r} c q e reply) = answer_keeps code v r reply (comes_fits code v r c)

pub never_stuck : (code : Code) → IsVerified code → NeverStuck code
never_stuck code v s c = not_stuck code v s (comes_fits code v s c)

module _ (code : Code) where
  no_misfit : (f : Function) (rule : Rule) (place : ℕ) → Holds code f → Misfit code f rule place → ⊥
  no_misfit f rule place h (n, ks, i, path, here, is, other) =
      let t = h.fit n place ks path in
      other (subst (λ j. Fits code f j ks) (some_inj (sym t.1 ∙ here)) t.2)

  no_parting : (f : Function) (place : ℕ) → Holds code f → Parting code f place → ⊥
  no_parting f place h (n, m, ks, js, p, q, other) = other (h.same n m place ks js p q)

  none_in : (f : Function) (rule : Rule) (place : ℕ) → Holds code f → BrokenIn code f rule place → ⊥
  none_in f Names place h (inl b) = b.2 (h.named place b.0 b.1)
  none_in f Names place h (inr b) = b.1 h.headed
  none_in f Targets place h b = b.2 (h.directed place b.0 b.1)
  none_in f Paths place h (inl b) = no_misfit f Paths place h b
  none_in f Paths place h (inr b) = no_parting f place h b
  none_in f Calls place h b = no_misfit f Calls place h b
  none_in f Returns place h b = no_misfit f Returns place h b
  none_in f Locals place h b = no_misfit f Locals place h b
  none_in f Tables place h b = b
  none_in f Main place h b = b

  none_beside : (v : IsVerified code) (rule : Rule) (place : ℕ) → BrokenBeside code rule place → ⊥
  none_beside v Names place (inl b) = b.2 (v.shapes place b.0 b.1).there
  none_beside v Names place (inr b) = b.2 (v.selects place b.0 b.1).there
  none_beside v Targets place b = b
  none_beside v Paths place b = b
  none_beside v Calls place b = b
  none_beside v Returns place b = b
  none_beside v Locals place b = b
  none_beside v Tables place (inl b) = let shaped = v.shapes place b.0 b.1 in b.2 (shaped.some, shaped.most)
  none_beside v Tables place (inr (inl b)) = b.2 (v.prints place b.0 b.1)
  none_beside v Tables place (inr (inr b)) = b.2 (v.selects place b.0 b.1).most
  none_beside v Main place b = b.1 v.main

  pub never_broken : IsVerified code → (rule : Rule) (g place : ℕ) → Breaks code rule g place → ⊥
  never_broken v rule g place (inl (f, at, b)) = none_in f rule place (v.functions g f at) b
  never_broken v rule g place (inr b) = none_beside v rule place b.1
