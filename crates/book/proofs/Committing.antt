-- What calls of a book leave as it was.
use Rattle.std.proofs.Common.{ap, subst, ◌∙◌}
use Rattle.book.specs.Desks.{Desk, KeepsLeases, OnlyLooks, Settles, settled_by}
use Rattle.book.specs.declared.settled.Reached.TheVariants as reached
use Rattle.book.specs.declared.settled.Reached.{Reached}
use Rattle.book.specs.declared.settled.Settled.{Settled}
use Rattle.book.specs.declared.settled.Settled.TheVariants.{Committed, Waiting, Ended}
use Rattle.book.proofs.Whole.{looks_run, looks_taken}
use Rattle.bytecode.specs.Code.{Code}
use Rattle.book.specs.Handing.{KeepsTaken}
use Rattle.book.specs.Runs.{IsOfRun}
use Rattle.book.specs.Turns.{Commits, SettlesAll, SettlesOne, SettlesSome, is_committed}
use Rattle.std.specs.Prelude.{◌≡◌, ℕ, Bool, List, ◌∷◌, None, Some, IfOk, OnErr, Result, Ok, Err}
use Rattle.word.specs.declared.end.End.{End as Ending}
use Rattle.go_text.specs.declared.fault.Memory.{Memory}
use Rattle.word.specs.declared.request.Event.{Event as Recorded}

pub looks_keep_taken : (old new : Desk) → OnlyLooks old new → KeepsTaken old new
looks_keep_taken old new h =
    let t = looks_taken old new h in
    record { taken = t.0; traced = t.1 }

pub settles_keep_taken : (old new : Desk) (s : Settled) → Settles old s new → KeepsTaken old new
settles_keep_taken old new (Committed event) h =
    let t = looks_taken old h.0 h.1 in
    record { taken = h.2.taken ∙ t.0; traced = h.2.traced ∙ t.1 }
settles_keep_taken old new (Waiting n) h = looks_keep_taken old new h.only
settles_keep_taken old new (Ended end) h = record { taken = ap (λ (d : Desk). d.taken) h.0; traced = ap (λ (d : Desk). d.traced) h.0 }

pub looks_keep_run : (code : Code) (limit : ℕ) (traces : Bool) (old new : Desk) → OnlyLooks old new → IsOfRun code limit traces old → IsOfRun code limit traces new
looks_keep_run code limit traces old new h is =
    let r = looks_run old new h in
    record { code = r.0 ∙ is.code; limit = r.1 ∙ is.limit; traces = r.2 ∙ is.traces }

pub settles_keep_run : (code : Code) (limit : ℕ) (traces : Bool) (old new : Desk) (s : Settled) → Settles old s new → IsOfRun code limit traces old → IsOfRun code limit traces new
settles_keep_run code limit traces old new (Committed event) h is =
    let mid = looks_keep_run code limit traces old h.0 h.1 is in
    record { code = h.2.code ∙ mid.code; limit = h.2.limit ∙ mid.limit; traces = h.2.traces ∙ mid.traces }
settles_keep_run code limit traces old new (Waiting n) h is = looks_keep_run code limit traces old new h.only is
settles_keep_run code limit traces old new (Ended end) h is = record { code = ap (λ (d : Desk). d.code) h.0 ∙ is.code; limit = ap (λ (d : Desk). d.limit) h.0 ∙ is.limit; traces = ap (λ (d : Desk). d.traces) h.0 ∙ is.traces }

-- whatever a settling returns, the book is of the run
pub settled_keeps_run : (code : Code) (limit : ℕ) (traces : Bool) (old new : Desk) (event : Recorded) (r : Result Reached Memory) → IfOk r (λ s. Settles old (settled_by s event) new) → OnErr r (OnlyLooks old new) → IsOfRun code limit traces old → IsOfRun code limit traces new
settled_keeps_run code limit traces old new event (Ok s) h e is = settles_keep_run code limit traces old new (settled_by s event) h is
settled_keeps_run code limit traces old new event (Err x) h e is = looks_keep_run code limit traces old new e is

pub leases_stay : (a b c : Desk) → KeepsLeases a b → KeepsLeases b c → KeepsLeases a c
leases_stay a b c h k = λ l out. k l (h l out)

-- whether an event is committed, by what was reached
pub settled_one : (old new : Desk) (event : Recorded) (r : Reached) (committed : Bool) → Settles old (settled_by r event) new → is_committed (settled_by r event) ≡ committed → SettlesOne old committed new
settled_one old new event r committed h is = (settled_by r event, h, is)

-- one event more is committed
pub one_more : (old mid new : Desk) (events : List Recorded) (event : Recorded) (r : Reached) → r ≡ reached.Committed → Commits old events mid → Settles mid (settled_by r event) new → (all : List Recorded) × Commits old all new
one_more old mid new events event r is h s = (event ∷ events, (mid, h, subst (λ (r : Reached). Settles mid (settled_by r event) new) is s))

-- out of memory
pub some_settled : (old mid new : Desk) (events : List Recorded) → Commits old events mid → OnlyLooks mid new → SettlesSome old new
some_settled old mid new events h looks = (events, mid, h, looks)

-- a goroutine stands before the next event
pub all_waiting : (old mid new : Desk) (events : List Recorded) (event : Recorded) (r : Reached) (n : ℕ) → r ≡ reached.Waiting n → Commits old events mid → Settles mid (settled_by r event) new → SettlesAll old None new
all_waiting old mid new events event r n is h s = (events, mid, h, (n, subst (λ (r : Reached). Settles mid (settled_by r event) new) is s))

-- the run has ended
pub all_ended : (old mid new : Desk) (events : List Recorded) (event : Recorded) (r : Reached) (ending : Ending) → r ≡ reached.Ended ending → Commits old events mid → Settles mid (settled_by r event) new → SettlesAll old (Some ending) new
all_ended old mid new events event r ending is h s = (events, mid, h, subst (λ (r : Reached). Settles mid (settled_by r event) new) is s)

pub kept_taken : (a b c : Desk) → KeepsTaken a b → KeepsTaken b c → KeepsTaken a c
kept_taken a b c h k = record { taken = k.taken ∙ h.taken; traced = k.traced ∙ h.traced }
