use Rattle.std.proofs.Common.{map, ◌∙◌}
use Rattle.std.specs.Arc.{arc_value}
use Rattle.checker.specs.Trees.{tree_in}
use Rattle.meaning.specs.Source.{source_kind}
use Rattle.syntax.specs.Spans.{tree_of}
use Rattle.word.specs.Views.{event_of}
use Rattle.kendo_code.proofs.Recordings.{recorded_code}
use Rattle.kendo_code.proofs.recording.recorded.Goals as goal

pub returns-clause-recorded : goal.returns-clause-recorded
returns-clause-recorded c =
    let made = c.in_ok-recording.recording in
    let window = recorded_code (source_kind (tree_of (tree_in c.args.typed.now))) _ (arc_value c.in_ok-program.program) c.args.limit made.before (map event_of made.events.items) made.end
    (c.in_ok-program.ensures.ok ∙ c.in_ok-verified.ensures.code) c.in_ok-code.ensures.equal c.in_ok-recording.ensures.next c.in_ok-recording.ensures.rest in
    let same = c.with_notes.ensures in
    rw (same.0, same.1, same.2) window
