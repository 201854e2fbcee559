-- The shared state performs a request as the meeting does.
use Rattle.std.proofs.Common.{◌≡◌, ℕ, Result, IfOk}
use Rattle.std.proofs.lemmas.Result.{IfOk-weaker}
use Rattle.word.specs.Values.{Request, Shared}
use Rattle.word.specs.Requests.{act}
use Rattle.reference_world.specs.Deeds.{Acts, Does, DoesAt, MeetingValue, SharedValue}
use Rattle.reference_world.specs.declared.deed.Deed.{Deed as Did}

acts_so : (old inside : SharedValue) (n c : ℕ) (q a : Request) (m : MeetingValue) (deed : Did) → inside ≡ old → q ≡ a → DoesAt (λ (w : Shared). act w n c a a) inside.meeting n c a deed m → Acts old n c q deed (record inside { meeting = m })
acts_so old inside n c q a m deed view asks does h = rw (← view, asks) (does h (record inside { meeting = m }))

pub acted_at : {E : Type 0} (made : Result Did E) (old inside : SharedValue) (n c : ℕ) (q a : Request) (m : MeetingValue) → inside ≡ old → q ≡ a
    → IfOk made (λ deed. DoesAt (λ (w : Shared). act w n c a a) inside.meeting n c a deed m) → IfOk made (λ deed. Acts old n c q deed (record inside { meeting = m }))
acted_at made old inside n c q a m view asks does =
    IfOk-weaker made (λ deed. DoesAt (λ (w : Shared). act w n c a a) inside.meeting n c a deed m) (λ deed. Acts old n c q deed (record inside { meeting = m })) (λ deed. acts_so old inside n c q a m deed view asks) does

-- whatever the clock
pub acted : {E : Type 0} (made : Result Did E) (old inside : SharedValue) (n c : ℕ) (q a : Request) (m : MeetingValue) → inside ≡ old → q ≡ a
    → IfOk made (λ deed. Does (λ (w : Shared) (c : ℕ). act w n c a a) inside.meeting n a deed m) → IfOk made (λ deed. Acts old n c q deed (record inside { meeting = m }))
acted made old inside n c q a m view asks does =
    acted_at made old inside n c q a m view asks (IfOk-weaker made (λ deed. Does (λ (w : Shared) (c : ℕ). act w n c a a) inside.meeting n a deed m) (λ deed. DoesAt (λ (w : Shared). act w n c a a) inside.meeting n c a deed m) (λ deed each h v. each h v c) does)

-- whichever goroutine makes the request, whatever it is
pub acted_for_all : {E : Type 0} (made : Result Did E) (old inside : SharedValue) (n c : ℕ) (q a : Request) (m : MeetingValue) → inside ≡ old → q ≡ a
    → IfOk made (λ deed. (k : ℕ) (p : Request) → Does (λ (w : Shared) (c : ℕ). act w k c p a) inside.meeting k p deed m) → IfOk made (λ deed. Acts old n c q deed (record inside { meeting = m }))
acted_for_all made old inside n c q a m view asks does =
    acted made old inside n c q a m view asks (IfOk-weaker made (λ deed. (k : ℕ) (p : Request) → Does (λ (w : Shared) (c : ℕ). act w k c p a) inside.meeting k p deed m) (λ deed. Does (λ (w : Shared) (c : ℕ). act w n c a a) inside.meeting n a deed m) (λ deed each. each n a) does)
