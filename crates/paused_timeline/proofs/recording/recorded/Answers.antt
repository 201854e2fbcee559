use Rattle.std.proofs.Common.{subst}
use Rattle.std.specs.Prelude.{map}
use Rattle.event_window.specs.Windows.{IsWindow}
use Rattle.meaning.specs.Source.{source_kind}
use Rattle.pauses.specs.Paused.{paused}
use Rattle.pauses.specs.Plans.{pauses_of}
use Rattle.syntax.specs.Tree.{File}
use Rattle.word.specs.Views.{event_of}
use Rattle.paused_timeline.proofs.Windows.{windowed}
use Rattle.paused_timeline.proofs.recording.recorded.Goals as goal

pub returns-clause-recorded : goal.returns-clause-recorded
returns-clause-recorded c =
    let made = c.with_notes.ensures in
    let kept = c.recording-recording.ensures in
    let seen = c.in_ok-kept.ensures in
    rw (made.0, made.1, made.2, kept.0, kept.1, kept.2)
    (subst (λ (file : File). IsWindow (paused (source_kind file) (pauses_of c.args.plan.now.pauses.items)) c.args.limit c.in_ok-kept.kept.before (map event_of c.in_ok-kept.kept.events.items) c.in_ok-kept.kept.end) c.in_ok-program.ensures
    (windowed _ c.args.limit _ _ _ (rw c.in_ok-run.ensures.limit at seen.next) (rw c.in_ok-run.ensures.limit at seen.rest)))
