use Rattle.std.proofs.Common.{◌∙◌, ap, refl, subst, sym, false}
use Rattle.word.specs.Kinds.{at}
use Rattle.one_thread.specs.declared.goroutine.Goroutine.{Goroutine}
use Rattle.one_thread.specs.Places.{AreWithin}
use Rattle.one_thread.proofs.Standing.{ended_by, laid_by}
use Rattle.one_thread.proofs.Moves.{ok_more}
use Rattle.one_thread.proofs.Within.{within_also}
use Rattle.one_thread.proofs.running.apply.Goals as goal

pub returns-in-Sleeps-clause-applies : goal.returns-in-Sleeps-clause-applies
returns-in-Sleeps-clause-applies g c = λ s up. rw c.in-Sleeps.is (laid_by (g.P.Interpreter.held c.args.program.now) c.args.places.now c.args.place c.lay.new.self s c.lay.ensures.laid up)

pub returns-in-Leaves-clause-applies : goal.returns-in-Leaves-clause-applies
returns-in-Leaves-clause-applies g c = λ s up. rw c.in-Leaves.is (ended_by (g.P.Interpreter.held c.args.program.now) c.args.places.now c.args.place c.end.new.self s c.end.ensures.ended up)

pub returns-in-Starts-clause-applies : goal.returns-in-Starts-clause-applies
returns-in-Starts-clause-applies g c =
    let new : Goroutine g.row.P-State.Denot = record { clock = c.args.later; doomed = false; asleep = false; state = c.in_ok-state-in-Starts.state } in
    let begun = c.in_ok-state-in-Starts.ensures ∙ ap ((g.P.Interpreter.parts c.args.program.now).begin c.in-Starts.function) c.as_slice.ensures.value in
    ok_more c.start.result c.start.ensures (λ x started s up.
    rw c.in-Starts.is (c.tell_at-in-Starts.new.places, new, c.in_ok-tell_at-in-Starts.ensures.told s up, ap (λ (x : g.P.Interpreter.Held). at c.args.later x) begun, refl, started))

pub returns-in-Starts-clause-within : goal.returns-in-Starts-clause-within
returns-in-Starts-clause-within g c =
    let new : Goroutine g.row.P-State.Denot = record { clock = c.args.later; doomed = false; asleep = false; state = c.in_ok-state-in-Starts.state } in
    ok_more c.start.result c.start.ensures (λ x started limit soon all.
    subst (AreWithin limit) (sym started) (within_also limit c.tell_at-in-Starts.new.places new (c.in_ok-tell_at-in-Starts.ensures.within limit soon all) soon))

pub returns-in-Done-clause-within : goal.returns-in-Done-clause-within
returns-in-Done-clause-within g c =
    ok_more c.wake_all.result c.wake_all.ensures.within (λ x kept limit soon all. kept limit soon (c.in_ok-tell_at-in-Done.ensures.within limit soon all))

pub returns-in-Sleeps-clause-within : goal.returns-in-Sleeps-clause-within
returns-in-Sleeps-clause-within g c = λ limit soon. c.lay.ensures.within limit
