-- What an exit status reports.
use Rattle.std.proofs.Common.{◌≡◌, ◌⊎◌, ℕ, inl, inr, List, Result, Ok, Err, IfOk}
use Rattle.clap.specs.Words.{Text}
use Rattle.command_line.specs.declared.arguments.Invocation.{Invocation}
use Rattle.command_line.specs.declared.arguments.Subcommand.{Subcommand}
use Rattle.go_text.specs.declared.fault.Fault.{Fault}
use Rattle.kendo_report.specs.Outcome.{report_status}
use Rattle.kendo_run.specs.Tasks.{IsReported, Reports, ReportsAll}
use Rattle.kendo_shell.proofs.Findings.{told_status}
use Rattle.kendo_shell.proofs.Obeying.{obeyed}
use Rattle.kendo_shell.proofs.SeveralFiles.{of_all_status}
use Rattle.kendo_shell.specs.Answers.{Finds, IsOfOne, IsStatus, Obeys}
use Rattle.word.specs.declared.end.End.{End}

pub reported : (subcommand : Subcommand) (text : List ℕ) (outcome : Result End Fault) (status : ℕ) → Finds subcommand text outcome → status ≡ report_status outcome
    → IsReported subcommand text status
reported subcommand text outcome status finds is = (outcome, finds, is)

-- the status of one program is that of some program
pub of_some : {E : Type 0} (subcommand : Subcommand) (text : List ℕ) (result : Result ℕ E) → IfOk result (IsReported subcommand text)
    → IfOk result (IsOfOne (Reports subcommand))
of_some subcommand text (Ok status) is = inr (text, is)
of_some subcommand text (Err e) is = is

one_status : (subcommand : Subcommand) (status : ℕ) → IsOfOne (Reports subcommand) status → IsStatus status
one_status subcommand status (inl is) = inr (inl is)
one_status subcommand status (inr (text, (outcome, finds, is))) = told_status subcommand status (inr (text, (outcome, finds, inl is)))

pub reported_status : (words : List Text) (status : ℕ) → Obeys ReportsAll words status → IsStatus status
reported_status words status obeys = obeyed {Reports = ReportsAll} words status by obeys
  where
    by : (invocation : Invocation) → (status ≡ 64) ⊎ ReportsAll invocation status → IsStatus status
    by invocation (inl is) = inr (inl is)
    by invocation (inr all) = of_all_status (Reports invocation.subcommand) _ status (one_status invocation.subcommand) all

-- that of a command line whose command was performed
pub started : {E : Type 0} (words : List Text) (result : Result ℕ E) → IfOk result (λ status. Obeys ReportsAll words status) → IfOk result IsStatus
started words (Ok status) obeys = reported_status words status obeys
started words (Err e) obeys = obeys
