use Rattle.std.proofs.Common.{ℕ, false, refl, ap, ◌∙◌}
use Rattle.word.specs.Kinds.{at}
use Rattle.one_thread.proofs.running.opening.Goals as goal

pub returns-clause-open : goal.returns-clause-open
returns-clause-open g c =
    let parts = g.P.Interpreter.parts c.args.program.now in (
      record { clock = 0; doomed = false; asleep = false; state = c.in_ok-state.state },
      ap (λ (x : g.P.Interpreter.Held). at 0 x) (c.in_ok-state.ensures ∙ ap (λ (n : ℕ). parts.begin n c.as_slice.result.now) c.main.ensures ∙ ap (parts.begin parts.main) c.as_slice.ensures),
      refl,
      rw (c.in_ok-start.ensures, c.in_ok-places.ensures) refl,
    )
