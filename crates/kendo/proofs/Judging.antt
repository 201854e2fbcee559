-- What an exit status says of a program.
use Rattle.std.proofs.lemmas.List.{length-map}
use Rattle.std.proofs.lemmas.Result.{IfOk-weaker}
use Rattle.std.proofs.Common.{◌≡◌, ◌⊎◌, ◌∙◌, ◌≤◌, ℕ, Bool, length, map, inl, inr, true, false, List, [], Option, Some, None, Result, Ok, Err, IfErr, IfOk, IsErrOf, Vec, Global, refl, sym, subst, ap, arith}
use Rattle.command_line.specs.declared.arguments.Invocation.{Invocation}
use Rattle.command_line.specs.declared.arguments.Subcommand.{Subcommand}
use Rattle.command_line.specs.declared.arguments.Subcommand.TheVariants as subcommands
use Rattle.exploration.specs.declared.findings.Verdict.{Verdict}
use Rattle.exploration.specs.declared.findings.Verdict.TheVariants.{Other, Same, SameSoFar, Unended, Unshown}
use Rattle.go_text.specs.declared.fault.Fault.{Fault}
use Rattle.go_text.specs.declared.fault.Fault.TheVariants as faults
use Rattle.kendo.specs.Verdicts.{compared_status, Compares, exploration_status, explored_status, Explores, FindsBy, FindsPlainly, is_test, IsAgainst, IsAgainstIfAny, IsExplored, IsJudged, IsSaid, IsTested, IsTracedAs, Judges, JudgesAll, JudgesEach, Says, SaysIfAny, scope_of, passes, test_status, tested_status, Tests}
use Rattle.kendo_compare.specs.Comparing.{IsCompared}
use Rattle.kendo_compare.specs.Traces.{IsTracedBy}
use Rattle.kendo_reading.specs.Reading.{IsRefusal}
use Rattle.kendo_report.specs.Outcome.{report_status}
use Rattle.clap.specs.Words.{Text}
use Rattle.kendo_shell.proofs.Findings.{explored as of_verdict, more_reason, test_lost, told, told_status}
use Rattle.kendo_shell.proofs.Obeying.{obeyed}
use Rattle.kendo_shell.proofs.SeveralFiles.{of_all_status}
use Rattle.kendo_shell.specs.Answers.{Finds, IsOfAll, IsOfOne, IsReason, IsStatus, IsStatusOf, Obeys, Tells}
use Rattle.kendo_test.specs.Passing.{IsRight, IsUpdatedTo}
use Rattle.kendo_test.specs.declared.testing.Verdict.{Verdict as TestVerdict}
use Rattle.pauses.specs.Plans.{Pause}
use Rattle.program_states.specs.declared.space.Scope.{Scope}
use Rattle.test_folders.specs.Folders.{AreTests}
use Rattle.whole_run.specs.Runs.{IsLimit, IsWorkers}
use Rattle.word.specs.declared.end.End.{End}
use Rattle.word.specs.declared.end.End.TheVariants.{Finished}

-- ---- why a command finds nothing

finds_reason : (s : Subcommand) (pauses : List Pause) (text : List ℕ) (fault : Fault) → IsReason s text fault → FindsBy s pauses text (Err fault)
finds_reason subcommands.Check pauses text fault why = why
finds_reason subcommands.List pauses text fault why = why
finds_reason (subcommands.Reference limit) pauses text fault why = why
finds_reason (subcommands.Timeline limit) pauses text fault why = why
finds_reason (subcommands.Explore limit tries states) pauses text fault why = why
finds_reason (subcommands.Test limit tries states) pauses text fault why = why
finds_reason (subcommands.Inspect limit) pauses text fault why = why
finds_reason (subcommands.Paused workers limit) pauses text fault why = why
finds_reason (subcommands.Run workers limit) pauses text fault why = why

refused : (invocation : Invocation) (pauses : List Pause) (text : List ℕ) (fault : Fault) (status : ℕ) → IsReason invocation.subcommand text fault → status ≡ report_status (Err fault)
    → IsJudged invocation pauses text status
refused invocation pauses text fault status why is = (Err fault, finds_reason invocation.subcommand pauses text fault why, is)

-- ---- what it finds

explored_in : {T : Type 0} (s : Subcommand) (scope : Scope) (against : Option T) (strict whole : Bool) (pauses : List Pause) (text : List ℕ) (verdict : Verdict) (status : ℕ) → IsExplored s scope text verdict
    → status ≡ explored_status verdict whole → FindsBy s pauses text (Ok Finished) × Says s scope against strict whole pauses text Finished status
explored_in (subcommands.Explore limit tries states) scope against strict whole pauses text verdict status shown is =
    ((refl, shown.0, (shown.1.0, shown.1.2)), (verdict, shown, is))
explored_in subcommands.Check scope against strict whole pauses text verdict status shown is = absurd shown
explored_in subcommands.List scope against strict whole pauses text verdict status shown is = absurd shown
explored_in (subcommands.Reference limit) scope against strict whole pauses text verdict status shown is = absurd shown
explored_in (subcommands.Timeline limit) scope against strict whole pauses text verdict status shown is = absurd shown
explored_in (subcommands.Test limit tries states) scope against strict whole pauses text verdict status shown is = absurd shown
explored_in (subcommands.Inspect limit) scope against strict whole pauses text verdict status shown is = absurd shown
explored_in (subcommands.Paused workers limit) scope against strict whole pauses text verdict status shown is = absurd shown
explored_in (subcommands.Run workers limit) scope against strict whole pauses text verdict status shown is = absurd shown

explored : (invocation : Invocation) (pauses : List Pause) (text : List ℕ) (verdict : Verdict) (status : ℕ) → IsExplored invocation.subcommand (scope_of invocation) text verdict
    → status ≡ explored_status verdict invocation.whole → IsJudged invocation pauses text status
explored invocation pauses text verdict status shown is =
    let both = explored_in invocation.subcommand (scope_of invocation) invocation.against invocation.strict invocation.whole pauses text verdict status shown is in
    (Ok Finished, both.0, both.1)

pub explored_or_not : (invocation : Invocation) (pauses : List Pause) (text : List ℕ) (found : Result Verdict Fault) (status : ℕ) → Explores invocation.subcommand (scope_of invocation) text found
    → status ≡ exploration_status found invocation.whole → IsJudged invocation pauses text status
explored_or_not invocation pauses text (Ok verdict) status shown is = explored invocation pauses text verdict status shown is
explored_or_not invocation pauses text (Err fault) status why is = refused invocation pauses text fault status why is

tested_in : {T : Type 0} (s : Subcommand) (scope : Scope) (against : Option T) (strict whole : Bool) (pauses : List Pause) (text : List ℕ) (passed : Bool) (status : ℕ) → IsTested s scope.leaks text passed
    → status ≡ tested_status passed → FindsBy s pauses text (Ok Finished) × Says s scope against strict whole pauses text Finished status
tested_in (subcommands.Test limit tries states) scope against strict whole pauses text passed status shown is = ((refl, shown.0), (passed, shown, is))
tested_in subcommands.Check scope against strict whole pauses text passed status shown is = absurd shown
tested_in subcommands.List scope against strict whole pauses text passed status shown is = absurd shown
tested_in (subcommands.Reference limit) scope against strict whole pauses text passed status shown is = absurd shown
tested_in (subcommands.Timeline limit) scope against strict whole pauses text passed status shown is = absurd shown
tested_in (subcommands.Explore limit tries states) scope against strict whole pauses text passed status shown is = absurd shown
tested_in (subcommands.Inspect limit) scope against strict whole pauses text passed status shown is = absurd shown
tested_in (subcommands.Paused workers limit) scope against strict whole pauses text passed status shown is = absurd shown
tested_in (subcommands.Run workers limit) scope against strict whole pauses text passed status shown is = absurd shown

tested : (invocation : Invocation) (pauses : List Pause) (text : List ℕ) (passed : Bool) (status : ℕ) → IsTested invocation.subcommand invocation.leaks text passed → status ≡ tested_status passed
    → IsJudged invocation pauses text status
tested invocation pauses text passed status shown is =
    let both = tested_in invocation.subcommand (scope_of invocation) invocation.against invocation.strict invocation.whole pauses text passed status shown is in
    (Ok Finished, both.0, both.1)

pub tested_or_not : (invocation : Invocation) (pauses : List Pause) (text : List ℕ) (found : Result Bool Fault) (status : ℕ) → Tests invocation.subcommand invocation.leaks text found → status ≡ test_status found
    → IsJudged invocation pauses text status
tested_or_not invocation pauses text (Ok passed) status shown is = tested invocation pauses text passed status shown is
tested_or_not invocation pauses text (Err fault) status why is = refused invocation pauses text fault status why is

-- a program whose comments were brought up to date is tested, or its report is lost
right_of : (text : List ℕ) (leaks : Bool) (limit : ℕ) (verdict : TestVerdict) (update : Option (Vec ℕ Global)) → IsUpdatedTo text leaks limit verdict update
    → (new : List ℕ) × IsRight verdict leaks new limit
right_of text leaks limit verdict None right = (text, right)
right_of text leaks limit verdict (Some new) (expectation, is, said, passing) =
    (new.items, subst (λ (v : TestVerdict). IsRight v leaks new.items limit) (sym is) (said, passing))

tests_of_update : (limit tries states : ℕ) (leaks : Bool) (text : List ℕ) (verdict : TestVerdict) (found : Result Bool Fault) → IsLimit limit → IsRight verdict leaks text limit
    → IfOk found (λ passed. passed ≡ passes verdict) → IfErr found (λ fault. (fault ≡ faults.Memory) ⊎ (fault ≡ faults.Write)) → Tests (subcommands.Test limit tries states) leaks text found
tests_of_update limit tries states leaks text verdict (Ok passed) bounds right is only = (bounds, (verdict, right, is))
tests_of_update limit tries states leaks text verdict (Err fault) bounds right is only = test_lost limit tries states text fault only

pub updated_judged : {E : Type 0} (invocation : Invocation) (limit tries states : ℕ) (text : List ℕ) (verdict : TestVerdict) (update : Option (Vec ℕ Global)) (found : Result Bool Fault) (result : Result ℕ E)
    → invocation.subcommand ≡ subcommands.Test limit tries states → IsLimit limit → IsUpdatedTo text invocation.leaks limit verdict update → IfOk found (λ passed. passed ≡ passes verdict)
    → IfErr found (λ fault. (fault ≡ faults.Memory) ⊎ (fault ≡ faults.Write)) → IfOk result (λ status. status ≡ test_status found) → IfOk result (IsOfOne (Judges invocation))
updated_judged invocation limit tries states text verdict update found result is bounds updated passed only reported =
    let both = right_of text invocation.leaks limit verdict update updated in
    let tests = subst (λ (s : Subcommand). Tests s invocation.leaks both.0 found) (sym is) (tests_of_update limit tries states invocation.leaks both.0 verdict found bounds both.1 passed only) in
    IfOk-weaker result _ _ (λ status is. inr (both.0, [], tested_or_not invocation [] both.0 found status tests is)) reported

against_in : {T : Type 0} (s : Subcommand) (scope : Scope) (against : Option T) (path : T) (strict whole : Bool) (pauses : List Pause) (recorded text : List ℕ) (end : End) (status : ℕ)
    → against ≡ Some path → IsAgainst s pauses strict recorded text end status → Says s scope against strict whole pauses text end status
against_in (subcommands.Run workers limit) scope against path strict whole pauses recorded text end status is says =
    subst (λ a. Says (subcommands.Run workers limit) scope a strict whole pauses text end status) (sym is) (recorded, says)
against_in (subcommands.Paused workers limit) scope against path strict whole pauses recorded text end status is says =
    subst (λ a. Says (subcommands.Paused workers limit) scope a strict whole pauses text end status) (sym is) (recorded, says)
against_in subcommands.Check scope against path strict whole pauses recorded text end status is (lines, same, traced, as_said, status_is) = absurd traced
against_in subcommands.List scope against path strict whole pauses recorded text end status is (lines, same, traced, as_said, status_is) = absurd traced
against_in (subcommands.Reference limit) scope against path strict whole pauses recorded text end status is (lines, same, traced, as_said, status_is) = absurd traced
against_in (subcommands.Timeline limit) scope against path strict whole pauses recorded text end status is (lines, same, traced, as_said, status_is) = absurd traced
against_in (subcommands.Explore limit tries states) scope against path strict whole pauses recorded text end status is (lines, same, traced, as_said, status_is) = absurd traced
against_in (subcommands.Test limit tries states) scope against path strict whole pauses recorded text end status is (lines, same, traced, as_said, status_is) = absurd traced
against_in (subcommands.Inspect limit) scope against path strict whole pauses recorded text end status is (lines, same, traced, as_said, status_is) = absurd traced

-- a run that ended was compared with a trace
pub compared : (invocation : Invocation) (pauses : List Pause) (text lines recorded : List ℕ) (outcome : Result End Fault) (end : End) (strict is_same : Bool) (report status : ℕ)
    → outcome ≡ Ok end → strict ≡ invocation.strict → FindsBy invocation.subcommand pauses text outcome → IfOk outcome (IsTracedAs invocation.subcommand pauses text lines)
    → IsCompared strict recorded lines is_same → report ≡ report_status outcome → status ≡ compared_status is_same report → Compares invocation pauses recorded text status
compared invocation pauses text lines recorded outcome end strict is_same report status is is_strict finds traced same_or_not reported status_is = (
  Ok end,
  subst (FindsBy invocation.subcommand pauses text) is finds,
  (
    lines,
    is_same,
    subst (λ (o : Result End Fault). IfOk o (IsTracedAs invocation.subcommand pauses text lines)) is traced,
    subst (λ b. IsCompared b recorded lines is_same) is_strict same_or_not,
    status_is ∙ ap (compared_status is_same) (reported ∙ ap report_status is),
  ),
)

-- one that did not was not
pub uncompared : (invocation : Invocation) (pauses : List Pause) (text recorded : List ℕ) (outcome : Result End Fault) (fault : Fault) (status : ℕ) → outcome ≡ Err fault
    → FindsBy invocation.subcommand pauses text outcome → status ≡ report_status outcome → Compares invocation pauses recorded text status
uncompared invocation pauses text recorded outcome fault status is finds status_is =
    (Err fault, subst (FindsBy invocation.subcommand pauses text) is finds, status_is ∙ ap report_status is)

said_in : {T : Type 0} (s : Subcommand) (scope : Scope) (against : Option T) (path : T) (strict whole : Bool) (pauses : List Pause) (recorded text : List ℕ) (outcome : Result End Fault) (status : ℕ)
    → against ≡ Some path → IsAgainstIfAny s pauses strict recorded text outcome status → SaysIfAny s scope against strict whole pauses text outcome status
said_in s scope against path strict whole pauses recorded text (Ok end) status is says = against_in s scope against path strict whole pauses recorded text end status is says
said_in s scope against path strict whole pauses recorded text (Err fault) status is says = says

-- the status of a run that is compared is that of the invocation
pub against_trace : {T : Type 0} (s : Subcommand) (scope : Scope) (against : Option T) (path : T) (strict whole : Bool) (pauses : List Pause) (recorded text : List ℕ) (status : ℕ) → against ≡ Some path
    → (outcome : Result End Fault) × FindsBy s pauses text outcome × IsAgainstIfAny s pauses strict recorded text outcome status
    → (outcome : Result End Fault) × FindsBy s pauses text outcome × SaysIfAny s scope against strict whole pauses text outcome status
against_trace s scope against path strict whole pauses recorded text status is (outcome, finds, says) =
    (outcome, finds, said_in s scope against path strict whole pauses recorded text outcome status is says)

-- ---- a command that neither explores nor tests, nor compares its run

plainly_in : {T : Type 0} (s : Subcommand) (scope : Scope) (against : Option T) (strict whole : Bool) (pauses : List Pause) (text : List ℕ) (end : End) (status : ℕ) → against ≡ None → FindsPlainly s pauses text (Ok end)
    → status ≡ report_status (Ok end) → FindsBy s pauses text (Ok end) × Says s scope against strict whole pauses text end status
plainly_in (subcommands.Explore limit tries states) scope against strict whole pauses text end status none finds is = absurd finds
plainly_in (subcommands.Test limit tries states) scope against strict whole pauses text end status none finds is = absurd finds
plainly_in subcommands.Check scope against strict whole pauses text end status none finds is = (finds, subst (λ a. Says subcommands.Check scope a strict whole pauses text end status) (sym none) is)
plainly_in subcommands.List scope against strict whole pauses text end status none finds is = (finds, subst (λ a. Says subcommands.List scope a strict whole pauses text end status) (sym none) is)
plainly_in (subcommands.Reference limit) scope against strict whole pauses text end status none finds is =
    (finds, subst (λ a. Says (subcommands.Reference limit) scope a strict whole pauses text end status) (sym none) is)
plainly_in (subcommands.Timeline limit) scope against strict whole pauses text end status none finds is =
    (finds, subst (λ a. Says (subcommands.Timeline limit) scope a strict whole pauses text end status) (sym none) is)
plainly_in (subcommands.Inspect limit) scope against strict whole pauses text end status none finds is =
    (finds, subst (λ a. Says (subcommands.Inspect limit) scope a strict whole pauses text end status) (sym none) is)
plainly_in (subcommands.Paused workers limit) scope against strict whole pauses text end status none finds is =
    (finds, subst (λ a. Says (subcommands.Paused workers limit) scope a strict whole pauses text end status) (sym none) is)
plainly_in (subcommands.Run workers limit) scope against strict whole pauses text end status none finds is =
    (finds, subst (λ a. Says (subcommands.Run workers limit) scope a strict whole pauses text end status) (sym none) is)

plain_reason : (s : Subcommand) (pauses : List Pause) (text : List ℕ) (fault : Fault) → FindsPlainly s pauses text (Err fault) → FindsBy s pauses text (Err fault)
plain_reason subcommands.Check pauses text fault why = why
plain_reason subcommands.List pauses text fault why = why
plain_reason (subcommands.Reference limit) pauses text fault why = why
plain_reason (subcommands.Timeline limit) pauses text fault why = why
plain_reason (subcommands.Explore limit tries states) pauses text fault why = why
plain_reason (subcommands.Test limit tries states) pauses text fault why = why
plain_reason (subcommands.Inspect limit) pauses text fault why = why
plain_reason (subcommands.Paused workers limit) pauses text fault why = why
plain_reason (subcommands.Run workers limit) pauses text fault why = why

pub answered : (invocation : Invocation) (pauses : List Pause) (text : List ℕ) (outcome : Result End Fault) (status : ℕ) → invocation.against ≡ None
    → FindsPlainly invocation.subcommand pauses text outcome → status ≡ report_status outcome → IsJudged invocation pauses text status
answered invocation pauses text (Ok end) status none finds is =
    let both = plainly_in invocation.subcommand (scope_of invocation) invocation.against invocation.strict invocation.whole pauses text end status none finds is in
    (Ok end, both.0, both.1)
answered invocation pauses text (Err fault) status none finds is = (Err fault, plain_reason invocation.subcommand pauses text fault finds, is)

-- the status of a picture
pub drawn : (invocation : Invocation) (limit : ℕ) (text : List ℕ) (outcome : Result End Fault) (status : ℕ) → invocation.against ≡ None → invocation.subcommand ≡ subcommands.Timeline limit
    → Finds (subcommands.Timeline limit) text outcome → status ≡ report_status outcome → IsOfOne (Judges invocation) status
drawn invocation limit text outcome status none is finds told =
    inr (text, [], answered invocation [] text outcome status none (subst (λ (s : Subcommand). FindsPlainly s [] text outcome) (sym is) finds) told)

-- ---- why no bytes are lost

fault_in : {T : Type 0} → Fault → Result T Fault → Fault
fault_in other (Ok made) = other
fault_in other (Err fault) = fault

write_refuses : IsRefusal faults.Write → ⊥
write_refuses low = omega (arith, low)

write_is_memory : faults.Memory ≡ faults.Write → ⊥
write_is_memory is = absurd cc

write_is_limit : faults.BadLimit ≡ faults.Write → ⊥
write_is_limit is = absurd cc

-- what makes a picture or a moment refuses no bytes
pub not_lost : {T : Type 0} (fault : Fault) → IsRefusal fault ⊎ ((fault ≡ faults.Memory) ⊎ (fault ≡ faults.BadLimit)) → IsErrOf {T = T} (Err fault) faults.Write → ⊥
unfolding fault_in
not_lost {T = T} fault only lost = go only
  where
    is : fault ≡ faults.Write
    is = ap (fault_in {T = T} fault) lost

    go : IsRefusal fault ⊎ ((fault ≡ faults.Memory) ⊎ (fault ≡ faults.BadLimit)) → ⊥
    go (inl refusal) = write_refuses (subst IsRefusal is refusal)
    go (inr (inl memory)) = write_is_memory (sym memory ∙ is)
    go (inr (inr limit)) = write_is_limit (sym limit ∙ is)

-- ---- a run by a plan

-- its workers count only if they are out of their bounds
pub more_workers : (workers limit : ℕ) (pauses : List Pause) (text : List ℕ) (outcome : Result End Fault) → IsWorkers workers → FindsBy (subcommands.Paused 1 limit) pauses text outcome
    → FindsBy (subcommands.Paused workers limit) pauses text outcome
more_workers workers limit pauses text (Ok end) many finds = (many, finds.1, finds.2)
more_workers workers limit pauses text (Err fault) many finds = more_reason workers limit text fault many finds

-- one that is traced ends as its trace says
pub traced_workers : (workers limit : ℕ) (pauses : List Pause) (text lines : List ℕ) (outcome : Result End Fault) → IsWorkers workers → Finds (subcommands.Paused 1 limit) text outcome
    → IfOk outcome (IsTracedBy pauses text limit lines) → FindsBy (subcommands.Paused workers limit) pauses text outcome
traced_workers workers limit pauses text lines (Ok end) many finds traced = (many, finds.1, (traced.0, traced.2.0, traced.1, traced.2.2))
traced_workers workers limit pauses text lines (Err fault) many finds traced = more_reason workers limit text fault many finds

-- ---- of some program

pub of_some : {E : Type 0} (invocation : Invocation) (pauses : List Pause) (text : List ℕ) (result : Result ℕ E) → IfOk result (IsJudged invocation pauses text)
    → IfOk result (IsOfOne (Judges invocation))
of_some invocation pauses text (Ok status) is = inr (text, pauses, is)
of_some invocation pauses text (Err e) is = is

-- the exit status of tests, or, if how many passed can't be written, of that
pub summed : (invocation : Invocation) (limit tries states status all : ℕ) (programs : List (List ℕ)) → invocation.subcommand ≡ subcommands.Test limit tries states
    → AreTests (map (λ path. path.now) invocation.files.now) programs → 1 ≤ length programs → (all ≡ status) ⊎ (all ≡ 6) → IsOfAll (Judges invocation) (length programs) status
    → JudgesAll invocation all
summed invocation limit tries states status all programs is tests some (inl same) of_all =
    subst (λ (s : Subcommand). JudgesEach s (Judges invocation) (map (λ path. path.now) invocation.files.now) all) (sym is) (programs, tests, some, inl (subst (λ n. IsOfAll (Judges invocation) (length programs) n) (sym same) of_all))
summed invocation limit tries states status all programs is tests some (inr lost) of_all =
    subst (λ (s : Subcommand). JudgesEach s (Judges invocation) (map (λ path. path.now) invocation.files.now) all) (sym is) (programs, tests, some, inr lost)

-- that of a command that does not test
pub untested_in : (s : Subcommand) (Reports : ℕ → Type 0) (paths : List (List ℕ)) (status : ℕ) → is_test s ≡ false → IsOfAll Reports (length paths) status → JudgesEach s Reports paths status
untested_in (subcommands.Test limit tries states) Reports paths status is all = absurd cc
untested_in subcommands.Check Reports paths status is all = all
untested_in subcommands.List Reports paths status is all = all
untested_in (subcommands.Reference limit) Reports paths status is all = all
untested_in (subcommands.Timeline limit) Reports paths status is all = all
untested_in (subcommands.Explore limit tries states) Reports paths status is all = all
untested_in (subcommands.Inspect limit) Reports paths status is all = all
untested_in (subcommands.Paused workers limit) Reports paths status is all = all
untested_in (subcommands.Run workers limit) Reports paths status is all = all

pub untested : (invocation : Invocation) (status : ℕ) → is_test invocation.subcommand ≡ false → IsOfAll (Judges invocation) (length invocation.files.now) status → JudgesAll invocation status
untested invocation status is all =
    untested_in invocation.subcommand (Judges invocation) (map (λ path. path.now) invocation.files.now) status is
    (subst (λ n. IsOfAll (Judges invocation) n status) (sym (length-map invocation.files.now (λ path. path.now))) all)

-- ---- of any command line

-- what is found by some pauses is found
finds_of : (s : Subcommand) (pauses : List Pause) (text : List ℕ) (outcome : Result End Fault) → FindsBy s pauses text outcome → Finds s text outcome
finds_of (subcommands.Paused workers limit) pauses text (Ok end) finds = (finds.0, finds.1, (pauses, finds.2))
finds_of (subcommands.Paused workers limit) pauses text (Err fault) finds = finds
finds_of subcommands.Check pauses text outcome finds = finds
finds_of subcommands.List pauses text outcome finds = finds
finds_of (subcommands.Reference limit) pauses text outcome finds = finds
finds_of (subcommands.Timeline limit) pauses text outcome finds = finds
finds_of (subcommands.Explore limit tries states) pauses text outcome finds = finds
finds_of (subcommands.Test limit tries states) pauses text outcome finds = finds
finds_of (subcommands.Inspect limit) pauses text outcome finds = finds
finds_of (subcommands.Run workers limit) pauses text outcome finds = finds

verdict_in : {T : Type 0} (s : Subcommand) (scope : Scope) (against : Option T) (strict whole : Bool) (pauses : List Pause) (text : List ℕ) (end : End) (status : ℕ) → Finds s text (Ok end)
    → Says s scope against strict whole pauses text end status → IsStatusOf s text status
verdict_in (subcommands.Explore limit tries states) scope against strict whole pauses text end status finds (Other, shown, is) =
    of_verdict (subcommands.Explore limit tries states) text (Ok end) _ status finds refl (inr (inl is))
verdict_in (subcommands.Explore limit tries states) scope against strict true pauses text end status finds (SameSoFar, shown, is) =
    of_verdict (subcommands.Explore limit tries states) text (Ok end) _ status finds refl (inr (inr is))
verdict_in (subcommands.Explore limit tries states) scope against strict false pauses text end status finds (SameSoFar, shown, is) =
    told (subcommands.Explore limit tries states) text (Ok end) status finds (is ∙ sym (ap (λ (e : End). report_status (Ok e)) finds.0))
verdict_in (subcommands.Explore limit tries states) scope against strict whole pauses text end status finds (Same, shown, is) =
    told (subcommands.Explore limit tries states) text (Ok end) status finds (is ∙ sym (ap (λ (e : End). report_status (Ok e)) finds.0))
verdict_in (subcommands.Explore limit tries states) scope against strict whole pauses text end status finds (Unended, shown, is) =
    told (subcommands.Explore limit tries states) text (Ok end) status finds (is ∙ sym (ap (λ (e : End). report_status (Ok e)) finds.0))
verdict_in (subcommands.Explore limit tries states) scope against strict whole pauses text end status finds (Unshown, shown, is) =
    of_verdict (subcommands.Explore limit tries states) text (Ok end) _ status finds refl (inr (inl is))
verdict_in (subcommands.Test limit tries states) scope against strict whole pauses text end status finds (true, shown, is) =
    told (subcommands.Test limit tries states) text (Ok end) status finds (is ∙ sym (ap (λ (e : End). report_status (Ok e)) finds.0))
verdict_in (subcommands.Test limit tries states) scope against strict whole pauses text end status finds (false, shown, is) =
    of_verdict (subcommands.Test limit tries states) text (Ok end) _ status finds refl (inr is)
verdict_in subcommands.Check scope None strict whole pauses text end status finds is = told subcommands.Check text (Ok end) status finds is
verdict_in subcommands.List scope None strict whole pauses text end status finds is = told subcommands.List text (Ok end) status finds is
verdict_in (subcommands.Reference limit) scope None strict whole pauses text end status finds is = told (subcommands.Reference limit) text (Ok end) status finds is
verdict_in (subcommands.Timeline limit) scope None strict whole pauses text end status finds is = told (subcommands.Timeline limit) text (Ok end) status finds is
verdict_in (subcommands.Inspect limit) scope None strict whole pauses text end status finds is = told (subcommands.Inspect limit) text (Ok end) status finds is
verdict_in (subcommands.Paused workers limit) scope None strict whole pauses text end status finds is = told (subcommands.Paused workers limit) text (Ok end) status finds is
verdict_in (subcommands.Run workers limit) scope None strict whole pauses text end status finds is = told (subcommands.Run workers limit) text (Ok end) status finds is
verdict_in (subcommands.Paused workers limit) scope (Some path) strict whole pauses text end status finds (recorded, (lines, true, traced, as_said, is)) =
    told (subcommands.Paused workers limit) text (Ok end) status finds is
verdict_in (subcommands.Paused workers limit) scope (Some path) strict whole pauses text end status finds (recorded, (lines, false, traced, as_said, is)) =
    of_verdict (subcommands.Paused workers limit) text (Ok end) _ status finds refl (inr is)
verdict_in (subcommands.Run workers limit) scope (Some path) strict whole pauses text end status finds (recorded, (lines, true, traced, as_said, is)) =
    told (subcommands.Run workers limit) text (Ok end) status finds is
verdict_in (subcommands.Run workers limit) scope (Some path) strict whole pauses text end status finds (recorded, (lines, false, traced, as_said, is)) =
    of_verdict (subcommands.Run workers limit) text (Ok end) _ status finds refl (inr is)
verdict_in subcommands.Check scope (Some path) strict whole pauses text end status finds (recorded, (lines, same, traced, as_said, told_so)) = absurd traced
verdict_in subcommands.List scope (Some path) strict whole pauses text end status finds (recorded, (lines, same, traced, as_said, told_so)) = absurd traced
verdict_in (subcommands.Reference limit) scope (Some path) strict whole pauses text end status finds (recorded, (lines, same, traced, as_said, told_so)) = absurd traced
verdict_in (subcommands.Timeline limit) scope (Some path) strict whole pauses text end status finds (recorded, (lines, same, traced, as_said, told_so)) = absurd traced
verdict_in (subcommands.Inspect limit) scope (Some path) strict whole pauses text end status finds (recorded, (lines, same, traced, as_said, told_so)) = absurd traced

status_in : (invocation : Invocation) (pauses : List Pause) (text : List ℕ) (outcome : Result End Fault) (status : ℕ) → Finds invocation.subcommand text outcome → IsSaid invocation pauses text outcome status
    → IsStatusOf invocation.subcommand text status
status_in invocation pauses text (Ok end) status finds is = verdict_in invocation.subcommand (scope_of invocation) invocation.against invocation.strict invocation.whole pauses text end status finds is
status_in invocation pauses text (Err fault) status finds is = told invocation.subcommand text (Err fault) status finds is

-- what the status says of some program is the status of some program
tells : (invocation : Invocation) (status : ℕ) → (status ≡ 64) ⊎ Judges invocation status → (status ≡ 64) ⊎ Tells invocation.subcommand status
tells invocation status (inl is) = inl is
tells invocation status (inr (text, pauses, (outcome, finds, is))) =
    inr (text, status_in invocation pauses text outcome status (finds_of invocation.subcommand pauses text outcome finds) is)

all_status : (invocation : Invocation) (count status : ℕ) → IsOfAll (Judges invocation) count status → IsStatus status
all_status invocation count status all = of_all_status (Judges invocation) count status (λ one judges. told_status invocation.subcommand one (tells invocation one judges)) all

each_status : (subcommand : Subcommand) (invocation : Invocation) (paths : List (List ℕ)) (status : ℕ) → JudgesEach subcommand (Judges invocation) paths status → IsStatus status
each_status (subcommands.Test limit tries states) invocation paths status (programs, tests, some, inl all) = all_status invocation _ status all
each_status (subcommands.Test limit tries states) invocation paths status (programs, tests, some, inr lost) = inl (omega (arith, lost))
each_status subcommands.Check invocation paths status all = all_status invocation _ status all
each_status subcommands.List invocation paths status all = all_status invocation _ status all
each_status (subcommands.Reference limit) invocation paths status all = all_status invocation _ status all
each_status (subcommands.Timeline limit) invocation paths status all = all_status invocation _ status all
each_status (subcommands.Explore limit tries states) invocation paths status all = all_status invocation _ status all
each_status (subcommands.Inspect limit) invocation paths status all = all_status invocation _ status all
each_status (subcommands.Paused workers limit) invocation paths status all = all_status invocation _ status all
each_status (subcommands.Run workers limit) invocation paths status all = all_status invocation _ status all

pub judged_status : (words : List Text) (status : ℕ) → Obeys JudgesAll words status → IsStatus status
judged_status words status obeys = obeyed {Reports = JudgesAll} words status by obeys
  where
    by : (invocation : Invocation) → (status ≡ 64) ⊎ JudgesAll invocation status → IsStatus status
    by invocation (inl is) = inr (inl is)
    by invocation (inr judges) = each_status invocation.subcommand invocation _ status judges

-- that of a command line whose command was performed
pub started : {E : Type 0} (words : List Text) (result : Result ℕ E) → IfOk result (λ status. Obeys JudgesAll words status) → IfOk result IsStatus
started words (Ok status) obeys = judged_status words status obeys
started words (Err e) obeys = obeys

-- ---- whether a command explains

-- it counts for no exit status
pub explained_or_not : (invocation environment : Invocation) (explains : Bool) (status : ℕ) → environment ≡ record invocation { explains = explains }
    → JudgesAll environment status → JudgesAll invocation status
explained_or_not invocation environment explains status is judges = subst (λ (i : Invocation). JudgesAll i status) is judges

pub tested_explained : {E : Type 0} (invocation environment : Invocation) (explains : Bool) (usage : ℕ) (result : Result ℕ E) → environment ≡ record invocation { explains = explains }
    → IfOk result (λ status. (status ≡ usage) ⊎ JudgesAll environment status) → IfOk result (λ status. (status ≡ usage) ⊎ JudgesAll invocation status)
tested_explained invocation environment explains usage (Ok status) is (inl judges) = inl judges
tested_explained invocation environment explains usage (Ok status) is (inr judges) = inr (explained_or_not invocation environment explains status is judges)
tested_explained invocation environment explains usage (Err e) is judges = judges
