-- What a command finds in a text, and the exit status that tells it.
use Rattle.std.proofs.Common.{◌≡◌, ◌↔◌, ℕ, ◌≤◌, ◌<◌, ◌^◌, ◌⊎◌, inl, inr, List, Result, Ok, Err, IsErrOf, refl, sym, ap, subst, ◌∙◌, arith}
use Rattle.std.proofs.lemmas.Bool.{cases_lt}
use Rattle.kendo_shell.specs.Answers.{Finds, HasReading, IsInBounds, IsReason, IsStatus, IsStatusOf, IsVerdict, Tells}
use Rattle.command_line.specs.declared.arguments.Subcommand.{Subcommand}
use Rattle.command_line.specs.declared.arguments.Subcommand.TheVariants as subcommands
use Rattle.kendo_report.specs.Outcome.{fault_status, report_status}
use Rattle.kendo_reading.specs.Reading.{HasNoReading, IsOfText, IsRefusal, IsWhy, Reads}
use Rattle.whole_run.specs.Runs.{IsLimit, IsWorkers}
use Rattle.syntax.specs.Tree.{File}
use Rattle.go_text.specs.declared.fault.Fault.{Fault}
use Rattle.go_text.specs.declared.fault.Fault.TheVariants as faults
use Rattle.word.specs.declared.end.End.{End}
use Rattle.word.specs.declared.end.End.TheVariants.{Finished, Panicked, Deadlock, Exhausted}

-- a number that is not out of its bounds
within : (low high n : ℕ) → ((((low ≤ n) × (n ≤ high)) → ⊥) → ⊥) → (low ≤ n) × (n ≤ high)
within low high n never = go (cases_lt n low) (cases_lt high n) where
  go : ((n < low) ⊎ (low ≤ n)) → ((high < n) ⊎ (n ≤ high)) → (low ≤ n) × (n ≤ high)
  go (inl a) b = absurd (never (λ r. omega (arith, a, r.0)))
  go (inr a) (inl b) = absurd (never (λ r. omega (arith, b, r.1)))
  go (inr a) (inr b) = (a, b)

-- a fault of the source or of a writer, which is reported if the workers and the limit are within their bounds
abbrev IsTold : Fault → Type 0
IsTold fault = IsRefusal fault ⊎ (fault ≡ faults.Write)

workers_untold : IsTold faults.BadWorkers → ⊥
workers_untold (inl low) = omega (arith, low)
workers_untold (inr is) = absurd cc

limit_untold : IsTold faults.BadLimit → ⊥
limit_untold (inl low) = omega (arith, low)
limit_untold (inr is) = absurd cc

abbrev fault_in : {T : Type 0} → Fault → Result T Fault → Fault
fault_in other (Ok made) = other
fault_in other (Err fault) = fault

-- if a fault of the source or of a writer is reported, the workers and the limit are within their bounds
limit_before : {T : Type 0} (limit : ℕ) (fault : Fault) → IsErrOf {T = T} (Err fault) faults.BadLimit ↔ (IsLimit limit → ⊥) → IsTold fault → IsLimit limit
limit_before limit fault bad told = within 1 (2 ^ 62) limit (λ out. limit_untold (subst IsTold (ap (fault_in fault) (bad.1 out)) told))

both_before : {T : Type 0} (workers limit : ℕ) (fault : Fault) → IsErrOf {T = T} (Err fault) faults.BadWorkers ↔ (IsWorkers workers → ⊥) → IsErrOf {T = T} (Err fault) faults.BadLimit ↔ (IsWorkers workers × (IsLimit limit → ⊥)) → IsTold fault
    → IsWorkers workers × IsLimit limit
both_before workers limit fault bad_workers bad_limit told =
    let many = within 1 64 workers (λ out. workers_untold (subst IsTold (ap (fault_in fault) (bad_workers.1 out)) told)) in
    (many, within 1 (2 ^ 62) limit (λ out. limit_untold (subst IsTold (ap (fault_in fault) (bad_limit.1 (many, out))) told)))

not_both : {T : Type 0} (made : T) (fault : Fault) → IsErrOf {T = T} (Ok made) fault → ⊥
not_both made fault e = absurd cc

-- they are within their bounds too if something was made
pub limit_ended : {T : Type 0} (limit : ℕ) (made : T) → IsErrOf {T = T} (Ok made) faults.BadLimit ↔ (IsLimit limit → ⊥) → IsLimit limit
limit_ended limit made bad = within 1 (2 ^ 62) limit (λ out. not_both made faults.BadLimit (bad.1 out))

pub both_ended : {T : Type 0} (workers limit : ℕ) (made : T) → IsErrOf {T = T} (Ok made) faults.BadWorkers ↔ (IsWorkers workers → ⊥) → IsErrOf {T = T} (Ok made) faults.BadLimit ↔ (IsWorkers workers × (IsLimit limit → ⊥)) → IsWorkers workers × IsLimit limit
both_ended workers limit made bad_workers bad_limit =
    let many = within 1 64 workers (λ out. not_both made faults.BadWorkers (bad_workers.1 out)) in
    (many, within 1 (2 ^ 62) limit (λ out. not_both made faults.BadLimit (bad_limit.1 (many, out))))

-- why a text is refused
unreadable : (subcommand : Subcommand) (text : List ℕ) (fault : Fault) → IsInBounds subcommand → IsRefusal fault → HasNoReading text → IsWhy text fault → IsReason subcommand text fault
unreadable subcommand text faults.TooLong bounds is none why = (bounds, none, why)
unreadable subcommand text faults.NotUtf8 bounds is none why = (bounds, none, why)
unreadable subcommand text (faults.BadCharacter place) bounds is none why = (bounds, none, why)
unreadable subcommand text (faults.BadNumber place) bounds is none why = (bounds, none, why)
unreadable subcommand text (faults.OpenString place) bounds is none why = (bounds, none, why)
unreadable subcommand text (faults.OpenComment place) bounds is none why = (bounds, none, why)
unreadable subcommand text (faults.Syntax place) bounds is none why = (bounds, none, why)
unreadable subcommand text (faults.TooDeep place) bounds is none why = (bounds, none, why)
unreadable subcommand text (faults.Typing rule at place) bounds is none why = (bounds, none, why)
unreadable subcommand text (faults.Limit kind at place) bounds is none why = (bounds, none, why)
unreadable subcommand text (faults.Unverified rule function at) bounds is none why = absurd (omega (arith, is))
unreadable subcommand text faults.NotYours bounds is none why = absurd (omega (arith, is))
unreadable subcommand text faults.BadWorkers bounds is none why = absurd (omega (arith, is))
unreadable subcommand text faults.BadLimit bounds is none why = absurd (omega (arith, is))
unreadable subcommand text faults.Memory bounds is none why = tt
unreadable subcommand text faults.Write bounds is none why = absurd (omega (arith, is))

-- out of memory is a reason for every command
pub no_memory : (subcommand : Subcommand) (text : List ℕ) (fault : Fault) → fault ≡ faults.Memory → IsReason subcommand text fault
no_memory subcommand text fault is = subst (IsReason subcommand text) (sym is) tt

-- the text has a reading of which more is said
pub read_of : {Q : File → Type 0} (text : List ℕ) → (file : File) × Reads text file × Q file → HasReading text
read_of text (file, reads, more) = (file, reads)

-- ---- a text that is checked or listed

pub check_stops : (text : List ℕ) (fault : Fault) → IsOfText fault → (IsRefusal fault → HasNoReading text) → (IsRefusal fault → IsWhy text fault)
    → IsReason subcommands.Check text fault
check_stops text fault (inl is) refused why = unreadable subcommands.Check text fault tt is (refused is) (why is)
check_stops text fault (inr is) refused why = no_memory subcommands.Check text fault is

pub list_loses : (text : List ℕ) (fault : Fault) → fault ≡ faults.Write → HasReading text → IsReason subcommands.List text fault
list_loses text fault is read = subst (IsReason subcommands.List text) (sym is) (tt, read)

pub list_stops : (text : List ℕ) (fault : Fault) → IsRefusal fault ⊎ ((fault ≡ faults.Memory) ⊎ (fault ≡ faults.Write)) → (IsRefusal fault → HasNoReading text)
    → (IsRefusal fault → IsWhy text fault) → (IsErrOf {T = Unit {0}} (Err fault) faults.Write → HasReading text) → IsReason subcommands.List text fault
list_stops text fault (inl is) refused why read = unreadable subcommands.List text fault tt is (refused is) (why is)
list_stops text fault (inr (inl is)) refused why read = no_memory subcommands.List text fault is
list_stops text fault (inr (inr is)) refused why read = list_loses text fault is (read (ap (λ (f : Fault). Err f) is))

-- ---- a text that is interpreted, with or without pauses, or of whose run a picture is made

pub reference_loses : (limit : ℕ) (text : List ℕ) (fault : Fault) → fault ≡ faults.Write → IsLimit limit → HasReading text → IsReason (subcommands.Reference limit) text fault
reference_loses limit text fault is bounds read = subst (IsReason (subcommands.Reference limit) text) (sym is) (bounds, read)

pub reference_stops : (limit : ℕ) (text : List ℕ) (fault : Fault) → IsErrOf {T = End} (Err fault) faults.BadLimit ↔ (IsLimit limit → ⊥)
    → IsRefusal fault ⊎ ((fault ≡ faults.Memory) ⊎ ((fault ≡ faults.Write) ⊎ (fault ≡ faults.BadLimit))) → (IsRefusal fault → HasNoReading text)
    → (IsRefusal fault → IsWhy text fault) → (IsErrOf {T = End} (Err fault) faults.Write → HasReading text) → IsReason (subcommands.Reference limit) text fault
reference_stops limit text fault bad (inl is) refused why read = unreadable (subcommands.Reference limit) text fault (limit_before limit fault bad (inl is)) is (refused is) (why is)
reference_stops limit text fault bad (inr (inl is)) refused why read = no_memory (subcommands.Reference limit) text fault is
reference_stops limit text fault bad (inr (inr (inl is))) refused why read =
    reference_loses limit text fault is (limit_before limit fault bad (inr is)) (read (ap (λ (f : Fault). Err f) is))
reference_stops limit text fault bad (inr (inr (inr is))) refused why read =
    subst (IsReason (subcommands.Reference limit) text) (sym is) (bad.0 (ap (λ (f : Fault). Err f) is))

-- one thread is a number of workers
one_thread : IsWorkers 1
one_thread = (omega arith, omega arith)

pub paused_loses : (limit : ℕ) (text : List ℕ) (fault : Fault) → fault ≡ faults.Write → IsLimit limit → HasReading text → IsReason (subcommands.Paused 1 limit) text fault
paused_loses limit text fault is bounds read = subst (IsReason (subcommands.Paused 1 limit) text) (sym is) ((one_thread, bounds), read)

pub paused_stops : (limit : ℕ) (text : List ℕ) (fault : Fault) → IsErrOf {T = End} (Err fault) faults.BadLimit ↔ (IsLimit limit → ⊥)
    → IsRefusal fault ⊎ ((fault ≡ faults.Memory) ⊎ ((fault ≡ faults.Write) ⊎ (fault ≡ faults.BadLimit))) → (IsRefusal fault → HasNoReading text)
    → (IsRefusal fault → IsWhy text fault) → (IsErrOf {T = End} (Err fault) faults.Write → HasReading text) → IsReason (subcommands.Paused 1 limit) text fault
paused_stops limit text fault bad (inl is) refused why read =
    unreadable (subcommands.Paused 1 limit) text fault (one_thread, limit_before limit fault bad (inl is)) is (refused is) (why is)
paused_stops limit text fault bad (inr (inl is)) refused why read = no_memory (subcommands.Paused 1 limit) text fault is
paused_stops limit text fault bad (inr (inr (inl is))) refused why read =
    paused_loses limit text fault is (limit_before limit fault bad (inr is)) (read (ap (λ (f : Fault). Err f) is))
paused_stops limit text fault bad (inr (inr (inr is))) refused why read =
    subst (IsReason (subcommands.Paused 1 limit) text) (sym is) (one_thread, bad.0 (ap (λ (f : Fault). Err f) is))

-- what ended a run by a plan on one thread
pub paused_ended : {T : Type 0} (limit : ℕ) (made : T) → IsErrOf {T = T} (Ok made) faults.BadLimit ↔ (IsLimit limit → ⊥) → IsWorkers 1 × IsLimit limit
paused_ended limit made bad = (one_thread, limit_ended limit made bad)

-- why a run by a plan does not end on one thread is why it does not with other workers
pub more_reason : (workers limit : ℕ) (text : List ℕ) (fault : Fault) → IsWorkers workers → IsReason (subcommands.Paused 1 limit) text fault → IsReason (subcommands.Paused workers limit) text fault
more_reason workers limit text faults.TooLong many why = ((many, why.0.1), why.1, why.2)
more_reason workers limit text faults.NotUtf8 many why = ((many, why.0.1), why.1, why.2)
more_reason workers limit text (faults.BadCharacter place) many why = ((many, why.0.1), why.1, why.2)
more_reason workers limit text (faults.BadNumber place) many why = ((many, why.0.1), why.1, why.2)
more_reason workers limit text (faults.OpenString place) many why = ((many, why.0.1), why.1, why.2)
more_reason workers limit text (faults.OpenComment place) many why = ((many, why.0.1), why.1, why.2)
more_reason workers limit text (faults.Syntax place) many why = ((many, why.0.1), why.1, why.2)
more_reason workers limit text (faults.TooDeep place) many why = ((many, why.0.1), why.1, why.2)
more_reason workers limit text (faults.Typing rule at place) many why = ((many, why.0.1), why.1, why.2)
more_reason workers limit text (faults.Limit kind at place) many why = ((many, why.0.1), why.1, why.2)
more_reason workers limit text (faults.Unverified rule function at) many why = why
more_reason workers limit text faults.NotYours many why = why
more_reason workers limit text faults.BadWorkers many why = absurd (why one_thread)
more_reason workers limit text faults.BadLimit many why = (many, why.1)
more_reason workers limit text faults.Memory many why = tt
more_reason workers limit text faults.Write many why = ((many, why.0.1), why.1)

timeline_loses : (limit : ℕ) (text : List ℕ) (fault : Fault) → fault ≡ faults.Write → IsLimit limit → HasReading text → IsReason (subcommands.Timeline limit) text fault
timeline_loses limit text fault is bounds read = subst (IsReason (subcommands.Timeline limit) text) (sym is) (bounds, read)

pub timeline_stops : {T : Type 0} (limit : ℕ) (text : List ℕ) (fault : Fault) → IsErrOf {T = T} (Err fault) faults.BadLimit ↔ (IsLimit limit → ⊥)
    → IsRefusal fault ⊎ ((fault ≡ faults.Memory) ⊎ (fault ≡ faults.BadLimit)) → (IsRefusal fault → HasNoReading text)
    → (IsRefusal fault → IsWhy text fault) → IsReason (subcommands.Timeline limit) text fault
timeline_stops limit text fault bad (inl is) refused why = unreadable (subcommands.Timeline limit) text fault (limit_before limit fault bad (inl is)) is (refused is) (why is)
timeline_stops limit text fault bad (inr (inl is)) refused why = no_memory (subcommands.Timeline limit) text fault is
timeline_stops limit text fault bad (inr (inr is)) refused why =
    subst (IsReason (subcommands.Timeline limit) text) (sym is) (bad.0 (ap (λ (f : Fault). Err f) is))

-- the picture of a recording can't be made or written
pub picture_loses : (limit : ℕ) (text : List ℕ) (fault : Fault) → (fault ≡ faults.Memory) ⊎ (fault ≡ faults.Write) → IsLimit limit → HasReading text → IsReason (subcommands.Timeline limit) text fault
picture_loses limit text fault (inl is) bounds read = no_memory (subcommands.Timeline limit) text fault is
picture_loses limit text fault (inr is) bounds read = timeline_loses limit text fault is bounds read

-- ---- a text that is explored

explore_loses : (limit tries states : ℕ) (text : List ℕ) (fault : Fault) → fault ≡ faults.Write → IsLimit limit → HasReading text
    → IsReason (subcommands.Explore limit tries states) text fault
explore_loses limit tries states text fault is bounds read = subst (IsReason (subcommands.Explore limit tries states) text) (sym is) (bounds, read)

pub explore_stops : {T : Type 0} (limit tries states : ℕ) (text : List ℕ) (fault : Fault) → IsErrOf {T = T} (Err fault) faults.BadLimit ↔ (IsLimit limit → ⊥)
    → IsRefusal fault ⊎ ((fault ≡ faults.Memory) ⊎ (fault ≡ faults.BadLimit)) → (IsRefusal fault → HasNoReading text)
    → (IsRefusal fault → IsWhy text fault) → IsReason (subcommands.Explore limit tries states) text fault
explore_stops limit tries states text fault bad (inl is) refused why =
    unreadable (subcommands.Explore limit tries states) text fault (limit_before limit fault bad (inl is)) is (refused is) (why is)
explore_stops limit tries states text fault bad (inr (inl is)) refused why = no_memory (subcommands.Explore limit tries states) text fault is
explore_stops limit tries states text fault bad (inr (inr is)) refused why =
    subst (IsReason (subcommands.Explore limit tries states) text) (sym is) (bad.0 (ap (λ (f : Fault). Err f) is))

-- what was found can't be written
pub findings_lost : (limit tries states : ℕ) (text : List ℕ) (fault : Fault) → (fault ≡ faults.Memory) ⊎ (fault ≡ faults.Write) → IsLimit limit → HasReading text
    → IsReason (subcommands.Explore limit tries states) text fault
findings_lost limit tries states text fault (inl is) bounds read = no_memory (subcommands.Explore limit tries states) text fault is
findings_lost limit tries states text fault (inr is) bounds read = explore_loses limit tries states text fault is bounds read

-- ---- a text that is tested

pub test_stops : {T : Type 0} (limit tries states : ℕ) (text : List ℕ) (fault : Fault) → IsErrOf {T = T} (Err fault) faults.BadLimit ↔ (IsLimit limit → ⊥)
    → (fault ≡ faults.Memory) ⊎ (fault ≡ faults.BadLimit) → IsReason (subcommands.Test limit tries states) text fault
test_stops limit tries states text fault bad (inl is) = no_memory (subcommands.Test limit tries states) text fault is
test_stops limit tries states text fault bad (inr is) =
    subst (IsReason (subcommands.Test limit tries states) text) (sym is) (bad.0 (ap (λ (f : Fault). Err f) is))

-- what came of it can't be written
pub test_lost : (limit tries states : ℕ) (text : List ℕ) (fault : Fault) → (fault ≡ faults.Memory) ⊎ (fault ≡ faults.Write) → IsReason (subcommands.Test limit tries states) text fault
test_lost limit tries states text fault (inl is) = no_memory (subcommands.Test limit tries states) text fault is
test_lost limit tries states text fault (inr is) = subst (IsReason (subcommands.Test limit tries states) text) (sym is) tt

-- ---- a text of whose run a moment is shown

-- what is shown can't be written
pub inspect_loses : (limit : ℕ) (text : List ℕ) (fault : Fault) → fault ≡ faults.Write → IsLimit limit → HasReading text → IsReason (subcommands.Inspect limit) text fault
inspect_loses limit text fault is bounds read = subst (IsReason (subcommands.Inspect limit) text) (sym is) (bounds, read)

pub inspect_stops : {T : Type 0} (limit : ℕ) (text : List ℕ) (fault : Fault) → IsErrOf {T = T} (Err fault) faults.BadLimit ↔ (IsLimit limit → ⊥)
    → IsRefusal fault ⊎ ((fault ≡ faults.Memory) ⊎ (fault ≡ faults.BadLimit)) → (IsRefusal fault → HasNoReading text)
    → (IsRefusal fault → IsWhy text fault) → IsReason (subcommands.Inspect limit) text fault
inspect_stops limit text fault bad (inl is) refused why = unreadable (subcommands.Inspect limit) text fault (limit_before limit fault bad (inl is)) is (refused is) (why is)
inspect_stops limit text fault bad (inr (inl is)) refused why = no_memory (subcommands.Inspect limit) text fault is
inspect_stops limit text fault bad (inr (inr is)) refused why =
    subst (IsReason (subcommands.Inspect limit) text) (sym is) (bad.0 (ap (λ (f : Fault). Err f) is))

-- ---- a text that is run

pub run_loses : (workers limit : ℕ) (text : List ℕ) (fault : Fault) → fault ≡ faults.Write → IsWorkers workers × IsLimit limit → HasReading text → IsReason (subcommands.Run workers limit) text fault
run_loses workers limit text fault is bounds read = subst (IsReason (subcommands.Run workers limit) text) (sym is) (bounds, read)

pub run_stops : (workers limit : ℕ) (text : List ℕ) (fault : Fault) → IsErrOf {T = End} (Err fault) faults.BadWorkers ↔ (IsWorkers workers → ⊥)
    → IsErrOf {T = End} (Err fault) faults.BadLimit ↔ (IsWorkers workers × (IsLimit limit → ⊥))
    → IsRefusal fault ⊎ ((fault ≡ faults.Memory) ⊎ ((fault ≡ faults.Write) ⊎ ((fault ≡ faults.BadWorkers) ⊎ (fault ≡ faults.BadLimit)))) → (IsRefusal fault → HasNoReading text)
    → (IsRefusal fault → IsWhy text fault) → (IsErrOf {T = End} (Err fault) faults.Write → HasReading text) → IsReason (subcommands.Run workers limit) text fault
run_stops workers limit text fault bad_workers bad_limit (inl is) refused why read =
    unreadable (subcommands.Run workers limit) text fault (both_before workers limit fault bad_workers bad_limit (inl is)) is (refused is) (why is)
run_stops workers limit text fault bad_workers bad_limit (inr (inl is)) refused why read = no_memory (subcommands.Run workers limit) text fault is
run_stops workers limit text fault bad_workers bad_limit (inr (inr (inl is))) refused why read =
    run_loses workers limit text fault is (both_before workers limit fault bad_workers bad_limit (inr is)) (read (ap (λ (f : Fault). Err f) is))
run_stops workers limit text fault bad_workers bad_limit (inr (inr (inr (inl is)))) refused why read =
    subst (IsReason (subcommands.Run workers limit) text) (sym is) (bad_workers.0 (ap (λ (f : Fault). Err f) is))
run_stops workers limit text fault bad_workers bad_limit (inr (inr (inr (inr is)))) refused why read =
    subst (IsReason (subcommands.Run workers limit) text) (sym is) (bad_limit.0 (ap (λ (f : Fault). Err f) is))

-- ---- what is reported

pub told : (subcommand : Subcommand) (text : List ℕ) (outcome : Result End Fault) (status : ℕ) → Finds subcommand text outcome → status ≡ report_status outcome
    → IsStatusOf subcommand text status
told subcommand text outcome status finds is = (outcome, finds, inl is)

pub explored : (subcommand : Subcommand) (text : List ℕ) (outcome : Result End Fault) (status told : ℕ) → Finds subcommand text outcome → status ≡ report_status outcome
    → (told ≡ status) ⊎ IsVerdict subcommand outcome told → IsStatusOf subcommand text told
explored subcommand text outcome status told finds is (inl same) = (outcome, finds, inl (same ∙ is))
explored subcommand text outcome status told finds is (inr verdict) = (outcome, finds, inr verdict)

fault_is : (subcommand : Subcommand) (text : List ℕ) (fault : Fault) → IsReason subcommand text fault → IsStatus (fault_status fault)
fault_is subcommand text faults.NotYours is = elim is [ ]
fault_is subcommand text faults.BadWorkers is = inr (inl refl)
fault_is subcommand text faults.BadLimit is = inr (inl refl)
fault_is subcommand text fault is = inl (omega arith)

outcome_is : (subcommand : Subcommand) (text : List ℕ) (outcome : Result End Fault) → Finds subcommand text outcome → IsStatus (report_status outcome)
outcome_is subcommand text (Ok Finished) finds = inl (omega arith)
outcome_is subcommand text (Ok (Panicked cause)) finds = inl (omega arith)
outcome_is subcommand text (Ok Deadlock) finds = inl (omega arith)
outcome_is subcommand text (Ok Exhausted) finds = inl (omega arith)
outcome_is subcommand text (Err fault) finds = fault_is subcommand text fault finds

verdict_is : (subcommand : Subcommand) (outcome : Result End Fault) (status : ℕ) → IsVerdict subcommand outcome status → IsStatus status
verdict_is (subcommands.Explore limit tries states) (Ok end) status is = inr (inr is)
verdict_is (subcommands.Test limit tries states) (Ok end) status is = inl (omega (arith, is))
verdict_is (subcommands.Test limit tries states) (Err fault) status is = absurd is
verdict_is (subcommands.Explore limit tries states) (Err fault) status is = absurd is
verdict_is subcommands.Check outcome status is = absurd is
verdict_is subcommands.List outcome status is = absurd is
verdict_is (subcommands.Reference limit) outcome status is = absurd is
verdict_is (subcommands.Timeline limit) outcome status is = absurd is
verdict_is (subcommands.Inspect limit) outcome status is = absurd is
verdict_is (subcommands.Paused workers limit) (Ok end) status is = inr (inr (inl is))
verdict_is (subcommands.Paused workers limit) (Err fault) status is = absurd is
verdict_is (subcommands.Run workers limit) (Ok end) status is = inr (inr (inl is))
verdict_is (subcommands.Run workers limit) (Err fault) status is = absurd is

pub told_status : (subcommand : Subcommand) (status : ℕ) → (status ≡ 64) ⊎ Tells subcommand status → IsStatus status
told_status subcommand status (inl is) = inr (inl is)
told_status subcommand status (inr (text, (outcome, finds, inl is))) = subst IsStatus (sym is) (outcome_is subcommand text outcome finds)
told_status subcommand status (inr (text, (outcome, finds, inr is))) = verdict_is subcommand outcome status is
