-- Tasks over which a break or a continue passes.
use Rattle.std.proofs.Common.{◌≡◌, ℕ, List, [], ◌∷◌, ◌++◌, ◌⊎◌, inl, inr, refl, sym, ap, ◌∙◌}
use Rattle.syntax.specs.Tree.{Branch, Conditional}
use Rattle.syntax.specs.View.{branch_of}
use Rattle.meaning.specs.Tasks.{Task as OneTask, broken, continued, frame}
use Rattle.meaning.specs.Variables.{Blocks, left}
use Rattle.reference_task.specs.declared.task.Loop.{Loop}
use Rattle.reference_task.specs.declared.task.Task.{Task}
use Rattle.reference_task.specs.declared.task.Task.TheVariants as tasks
use Rattle.reference_task.specs.Tasks.{decided, task_of, tasks_of}
use Rattle.reference_scope.proofs.Lasts.{shown_last}

-- neither the end of a block or of a select, nor that of a loop's body
record IsOver (task : Task) : Type 0 where
  block : task ≡ tasks.EndBlock → ⊥
  again : (loop : Loop) → task ≡ tasks.Again loop → ⊥
  select : task ≡ tasks.EndSelect → ⊥

module _ (types : List (List ℕ)) (blocks : Blocks) (rest : List OneTask) where
  decided_break : (branch : Branch) → broken blocks (decided branch ∷ rest) ≡ broken blocks rest
  decided_break (Conditional head condition body otherwise) = refl

  decided_continue : (branch : Branch) → continued blocks (decided branch ∷ rest) ≡ continued blocks rest
  decided_continue (Conditional head condition body otherwise) = refl

  over_break : (task : Task) → IsOver task → broken blocks (task_of types task ∷ rest) ≡ broken blocks rest
  over_break (tasks.Do one) over = refl
  over_break (tasks.Simply one) over = refl
  over_break (tasks.Branch one) over = refl
  over_break (tasks.Enclose body) over = refl
  over_break tasks.EndBlock over = absurd (over.block refl)
  over_break (tasks.Decide one) over = decided_break (branch_of one.value.now)
  over_break (tasks.Head loop) over = refl
  over_break (tasks.Again loop) over = absurd (over.again loop refl)
  over_break (tasks.Turn loop) over = refl
  over_break tasks.EndSelect over = absurd (over.select refl)

  over_continue : (task : Task) → IsOver task → continued blocks (task_of types task ∷ rest) ≡ continued blocks rest
  over_continue (tasks.Do one) over = refl
  over_continue (tasks.Simply one) over = refl
  over_continue (tasks.Branch one) over = refl
  over_continue (tasks.Enclose body) over = refl
  over_continue tasks.EndBlock over = absurd (over.block refl)
  over_continue (tasks.Decide one) over = decided_continue (branch_of one.value.now)
  over_continue (tasks.Head loop) over = refl
  over_continue (tasks.Again loop) over = absurd (over.again loop refl)
  over_continue (tasks.Turn loop) over = refl
  over_continue tasks.EndSelect over = absurd (over.select refl)

module _ (types : List (List ℕ)) (blocks : Blocks) (all rest : List Task) (task : Task) (is : all ≡ rest ++ task ∷ []) where
  shown : tasks_of types all ≡ task_of types task ∷ tasks_of types rest
  shown = ap (tasks_of types) is ∙ shown_last (task_of types) rest task

  pub breaks_over : (task ≡ tasks.EndBlock → ⊥) → ((loop : Loop) → task ≡ tasks.Again loop → ⊥) → (task ≡ tasks.EndSelect → ⊥) → broken blocks (tasks_of types all) ≡ broken blocks (tasks_of types rest)
  breaks_over block again select = ap (broken blocks) shown ∙ over_break types blocks (tasks_of types rest) task (record { block = block; again = again; select = select })

  pub continues_over : (task ≡ tasks.EndBlock → ⊥) → ((loop : Loop) → task ≡ tasks.Again loop → ⊥) → (task ≡ tasks.EndSelect → ⊥) → continued blocks (tasks_of types all) ≡ continued blocks (tasks_of types rest)
  continues_over block again select = ap (continued blocks) shown ∙ over_continue types blocks (tasks_of types rest) task (record { block = block; again = again; select = select })

  pub continues_block : (task ≡ tasks.EndBlock) ⊎ (task ≡ tasks.EndSelect) → continued blocks (tasks_of types all) ≡ continued (left blocks) (tasks_of types rest)
  continues_block (inl end) = ap (continued blocks) shown ∙ ap (λ (t : Task). continued blocks (task_of types t ∷ tasks_of types rest)) end
  continues_block (inr end) = ap (continued blocks) shown ∙ ap (λ (t : Task). continued blocks (task_of types t ∷ tasks_of types rest)) end

  pub breaks_block : task ≡ tasks.EndBlock → broken blocks (tasks_of types all) ≡ broken (left blocks) (tasks_of types rest)
  breaks_block end = ap (broken blocks) shown ∙ ap (λ (t : Task). broken blocks (task_of types t ∷ tasks_of types rest)) end

  pub breaks_here : ((loop : Loop) × (task ≡ tasks.Again loop)) ⊎ (task ≡ tasks.EndSelect) → broken blocks (tasks_of types all) ≡ frame (left blocks) (tasks_of types rest)
  breaks_here (inl (loop, end)) = ap (broken blocks) shown ∙ ap (λ (t : Task). broken blocks (task_of types t ∷ tasks_of types rest)) end
  breaks_here (inr end) = ap (broken blocks) shown ∙ ap (λ (t : Task). broken blocks (task_of types t ∷ tasks_of types rest)) end

  pub continues_here : (loop : Loop) → task ≡ tasks.Again loop → continued blocks (tasks_of types all) ≡ frame blocks (task_of types task ∷ tasks_of types rest)
  continues_here loop end =
      ap (continued blocks) shown
      ∙ ap (λ (t : Task). continued blocks (task_of types t ∷ tasks_of types rest)) end
      ∙ ap (λ (t : Task). frame blocks (task_of types t ∷ tasks_of types rest)) (sym end)
