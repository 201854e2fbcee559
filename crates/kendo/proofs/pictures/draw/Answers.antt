use Rattle.std.proofs.Common.{◌≡◌, ◌∙◌, List, ℕ, refl, subst}
use Rattle.command_line.specs.declared.arguments.Subcommand.TheVariants as subcommands
use Rattle.kendo_shell.proofs.Findings.{limit_ended, picture_loses, timeline_stops}
use Rattle.kendo_shell.specs.Answers.{HasReading, IsReason}
use Rattle.kendo.proofs.Judging.{not_lost}
use Rattle.kendo.proofs.pictures.draw.Goals as goal

pub returns-in-Err-clause-found : goal.returns-in-Err-clause-found
returns-in-Err-clause-found c =
    let same : c.in_ok-bytes.bytes.items ≡ c.args.source.now.bytes.items = c.in_ok-bytes.ensures.items ∙ c.as_slice.ensures.value in
    let e = c.in-Err.ensures in
    subst (λ (text : List ℕ). IsReason (subcommands.Timeline c.args.limit) text c.in-Err.fault) same
    (timeline_stops c.args.limit c.in_ok-bytes.bytes.items c.in-Err.fault e.limit e.only e.refused e.why)

pub returns-in-Ok-show-clause-found : goal.returns-in-Ok-show-clause-found
returns-in-Ok-show-clause-found c =
    let same : c.in_ok-bytes.bytes.items ≡ c.args.source.now.bytes.items = c.in_ok-bytes.ensures.items ∙ c.as_slice.ensures.value in
    let made = c.in-Ok.ensures in
    (refl, limit_ended c.args.limit _ made.limit, subst (λ (text : List ℕ). HasReading text) same made.reads)

pub returns-clause-found : goal.returns-clause-found
returns-clause-found c =
    let same : c.in_ok-bytes.bytes.items ≡ c.args.source.now.bytes.items = c.in_ok-bytes.ensures.items ∙ c.as_slice.ensures.value in
    let made = c.in-Ok.ensures in
    picture_loses c.args.limit c.args.source.now.bytes.items c.in-Err-show.fault c.in-Err-show.ensures.only (limit_ended c.args.limit _ made.limit)
    (subst (λ (text : List ℕ). HasReading text) same made.reads)

pub returns-in-Err-clause-write : goal.returns-in-Err-clause-write
returns-in-Err-clause-write c = λ lost. absurd (not_lost c.in-Err.fault c.in-Err.ensures.only lost)
