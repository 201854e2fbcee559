-- What a run writes is what the source of its code writes.
use Rattle.std.proofs.Common.{◌≡◌, ℕ, ◌↔◌, ◌⊎◌, inl, inr, List, take, Option, Result, Ok, Err, IfErr, IfOk, IsErrOf, sym, ap, ◌∙◌, subst}
use Rattle.std.specs.Io.KnownBytes.{Appends}
use Rattle.bytecode.specs.Code.{Code}
use Rattle.bytecode.specs.Machine.{code_kind}
use Rattle.go_text.specs.declared.fault.Fault.{Fault}
use Rattle.go_text.specs.declared.fault.Fault.TheVariants as faults
use Rattle.whole_run.specs.Runs.{IsLimit, IsWorkers}
use Rattle.output.specs.declared.piece.Kind.{Kind}
use Rattle.word.specs.declared.end.End.{End as Ending}
use Rattle.word.specs.Kinds.{GoroutineKind}
use Rattle.word.specs.Worlds.{Equal}
use Rattle.book.specs.Runs.{Begins, IsAll, bytes_of}
use Rattle.book.proofs.Pieces.{appends_none}

-- nothing is written
pub nothing_begins : (kind : Kind) (K : GoroutineKind) (limit : ℕ) (old : Option (List ℕ)) → Begins kind K limit old old
nothing_begins kind K limit old = (0, 0, appends_none old)

-- `Begins` for a kind of goroutines that is equal to M
begins_also : (kind : Kind) (K M : GoroutineKind) (limit : ℕ) (old new : Option (List ℕ)) → Equal K M → Begins kind M limit old new → Begins kind K limit old new
begins_also kind K M limit old new e b =
    let s = e.back limit b.0 in
    (s.0, b.1, subst (λ xs. Appends old new (take b.1 xs)) (ap (bytes_of kind) s.1.shared) b.2)

all_also : (kind : Kind) (K M : GoroutineKind) (limit : ℕ) (old new : Option (List ℕ)) (ending : Ending) → Equal K M → IsAll kind M limit old new ending → IsAll kind K limit old new ending
all_also kind K M limit old new ending e b =
    let s = e.back limit b.0 in
    (s.0, subst (Appends old new) (ap (bytes_of kind) s.1.shared) b.1, sym s.1.ends ∙ b.2)

-- `Begins` for code that is equal to the code that was proved
pub begins_code : (kind : Kind) (K : GoroutineKind) (code code' : Code) (limit : ℕ) (old new : Option (List ℕ)) → code' ≡ code → Equal K (code_kind code) → Begins kind (code_kind code') limit old new → Begins kind K limit old new
begins_code kind K code code' limit old new is e b =
    begins_also kind K (code_kind code) limit old new e (subst (λ x. Begins kind (code_kind x) limit old new) is b)

pub all_code : (kind : Kind) (K : GoroutineKind) (code code' : Code) (limit : ℕ) (old new : Option (List ℕ)) (ending : Ending) → code' ≡ code → Equal K (code_kind code) → IsAll kind (code_kind code') limit old new ending → IsAll kind K limit old new ending
all_code kind K code code' limit old new ending is e b =
    all_also kind K (code_kind code) limit old new ending e (subst (λ x. IsAll kind (code_kind x) limit old new ending) is b)

-- `Begins` for a program whose code it is
pub begins_of : (kind : Kind) (code code' : Code) (limit : ℕ) (old new : Option (List ℕ)) → code' ≡ code → Begins kind (code_kind code') limit old new → Begins kind (code_kind code) limit old new
begins_of kind code code' limit old new is b = subst (λ (x : Code). Begins kind (code_kind x) limit old new) is b

pub all_of : (kind : Kind) (code code' : Code) (limit : ℕ) (old new : Option (List ℕ)) (outcome : Result Ending Fault) → code' ≡ code → IfOk outcome (IsAll kind (code_kind code') limit old new) → IfOk outcome (IsAll kind (code_kind code) limit old new)
all_of kind code code' limit old new outcome is b = subst (λ (x : Code). IfOk outcome (IsAll kind (code_kind x) limit old new)) is b

-- a run on `workers` workers up to this limit stops because it is out of memory, or for a writer
pub stops_for : (workers limit : ℕ) (outcome : Result Ending Fault) → IsWorkers workers → IsLimit limit → IsErrOf outcome faults.BadWorkers ↔ (IsWorkers workers → ⊥) → IsErrOf outcome faults.BadLimit ↔ (IsWorkers workers × (IsLimit limit → ⊥))
    → IfErr outcome (λ fault. (fault ≡ faults.Memory) ⊎ ((fault ≡ faults.Write) ⊎ ((fault ≡ faults.BadWorkers) ⊎ (fault ≡ faults.BadLimit)))) → IfErr outcome (λ fault. (fault ≡ faults.Memory) ⊎ (fault ≡ faults.Write))
stops_for workers limit (Ok ending) many within bad_workers bad_limit only = tt
stops_for workers limit (Err fault) many within bad_workers bad_limit (inl is) = inl is
stops_for workers limit (Err fault) many within bad_workers bad_limit (inr (inl is)) = inr is
stops_for workers limit (Err fault) many within bad_workers bad_limit (inr (inr (inl is))) = absurd (bad_workers.0 (ap (λ (f : Fault). Err f) is) many)
stops_for workers limit (Err fault) many within bad_workers bad_limit (inr (inr (inr is))) = absurd ((bad_limit.0 (ap (λ (f : Fault). Err f) is)).1 within)
