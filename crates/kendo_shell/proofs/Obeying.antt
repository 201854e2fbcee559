-- What the words of a command line ask for, and the exit status.
use Rattle.std.proofs.Common.{◌≡◌, ℕ, ◌⊎◌, ◌↔◌, inl, inr, true, false, List, Option, Some, None, Result, Ok, Err, IfOk, IsErr, refl, subst, arith}
use Rattle.clap.specs.Faults.{fault_of, is_simple_and_free}
use Rattle.clap.specs.Kinds.{FailsBy}
use Rattle.clap.specs.Simple.{App, HasMatchesOf, subcommand_of, subcommand_rows_of}
use Rattle.clap.specs.Values.{kind_of}
use Rattle.clap.specs.Words.{Text}
use Rattle.clap.specs.declared.error.Error.{Error}
use Rattle.clap.specs.declared.error.kind.ErrorKind.{ErrorKind}
use Rattle.clap.specs.declared.error.kind.ErrorKind.TheVariants as kinds
use Rattle.clap.specs.declared.parser.matches.ArgMatches.{ArgMatches}
use Rattle.kendo_shell.specs.Answers.{IsStatus, Obeys, WasDone, WasNothing, WasShown, ShowsAs}
use Rattle.command_line.specs.CommandLine.{IsAsked, kendo}
use Rattle.command_line.specs.declared.arguments.Invocation.{Invocation}

fails : (app : App) (words : List Text) (parsed : Result ArgMatches Error) → app ≡ kendo → (is_simple_and_free app ≡ true → FailsBy (fault_of app words) parsed) → FailsBy (fault_of kendo words) parsed
fails app words parsed is f = subst (λ (a : App). is_simple_and_free a ≡ true → FailsBy (fault_of a words) parsed) is f refl

asked : (app : App) (words : List Text) (m : ArgMatches) (o : Option Invocation) → app ≡ kendo → HasMatchesOf app words m → IsAsked (subcommand_rows_of m) o → IsAsked (subcommand_of kendo words) o
asked app words m o is has a = subst (λ rows. IsAsked rows o) (subst (λ (a : App). HasMatchesOf a words m) is has refl).1 a

pub done : {Reports : Invocation → ℕ → Type 0} (app : App) (words : List Text) (m : ArgMatches) (invocation : Invocation) (status : ℕ) → app ≡ kendo
    → (is_simple_and_free app ≡ true → FailsBy {T = ArgMatches} (fault_of app words) (Ok m)) → HasMatchesOf app words m
    → IsAsked (subcommand_rows_of m) (Some invocation) → (status ≡ 64) ⊎ Reports invocation status → Obeys Reports words status
done app words m invocation status is f has a reports = WasDone (fails app words (Ok m) is f) invocation (asked app words m (Some invocation) is has a) reports

pub nothing_done : {Reports : Invocation → ℕ → Type 0} (app : App) (words : List Text) (m : ArgMatches) → app ≡ kendo
    → (is_simple_and_free app ≡ true → FailsBy {T = ArgMatches} (fault_of app words) (Ok m)) → HasMatchesOf app words m
    → IsAsked (subcommand_rows_of m) None → Obeys Reports words 64
nothing_done app words m is f has a = WasNothing (fails app words (Ok m) is f) (asked app words m None is has a) refl

untrue : {A : Type 0} → false ≡ true → A
untrue e = absurd cc

pub shown : {E : Type 0} (Reports : Invocation → ℕ → Type 0) (app : App) (words : List Text) (e : Error) (result : Result ℕ E) → app ≡ kendo
    → (is_simple_and_free app ≡ true → FailsBy {T = ArgMatches} (fault_of app words) (Err e)) → IsErr result ↔ (kind_of e ≡ kinds.OutOfMemory)
    → IfOk result (λ status. ShowsAs (kind_of e) status) → IfOk result (λ status. Obeys Reports words status)
shown Reports app words e (Ok status) is f memory shows =
    elim (fails app words (Err e) is f) [ inl full ↦ untrue (memory.1 full) | inr among ↦ WasShown (kind_of e) among shows ]
shown Reports app words e (Err x) is f memory shows = shows

shown_status : (kind : ErrorKind) (status : ℕ) → ShowsAs kind status → IsStatus status
shown_status kinds.DisplayHelp status (inl is) = inl (omega (arith, is))
shown_status kinds.DisplayHelp status (inr is) = inl (omega (arith, is))
shown_status kinds.DisplayVersion status (inl is) = inl (omega (arith, is))
shown_status kinds.DisplayVersion status (inr is) = inl (omega (arith, is))
shown_status kinds.InvalidValue status is = inr (inl is)
shown_status kinds.UnknownArgument status is = inr (inl is)
shown_status kinds.InvalidSubcommand status is = inr (inl is)
shown_status kinds.NoEquals status is = inr (inl is)
shown_status kinds.ValueValidation status is = inr (inl is)
shown_status kinds.TooManyValues status is = inr (inl is)
shown_status kinds.TooFewValues status is = inr (inl is)
shown_status kinds.WrongNumberOfValues status is = inr (inl is)
shown_status kinds.ArgumentConflict status is = inr (inl is)
shown_status kinds.MissingRequiredArgument status is = inr (inl is)
shown_status kinds.MissingSubcommand status is = inr (inl is)
shown_status kinds.DisplayHelpOnMissingArgumentOrSubcommand status is = inr (inl is)
shown_status kinds.Io status is = inr (inl is)
shown_status kinds.Format status is = inr (inl is)
shown_status kinds.OutOfMemory status is = inr (inl is)

-- an exit status that obeys a command line is one of the program, if those that report are
pub obeyed : {Reports : Invocation → ℕ → Type 0} (words : List Text) (status : ℕ) → ((invocation : Invocation) → (status ≡ 64) ⊎ Reports invocation status → IsStatus status)
    → Obeys Reports words status → IsStatus status
obeyed words status reported (WasDone none invocation a reports) = reported invocation reports
obeyed words status reported (WasNothing none a is) = inr (inl is)
obeyed words status reported (WasShown kind among shows) = shown_status kind status shows
