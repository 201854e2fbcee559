-- What sends, receives and selects do, branch by branch.
use Rattle.std.proofs.Common.{◌≡◌, ℕ, Bool, true, false, [], ◌∷◌, ◌++◌, Some, refl}
use Rattle.word.specs.Values.{Item, Request, Send, Receive, Shared}
use Rattle.word.specs.Requests.{act, do_receive, do_send, receive_ready, send_ready, without}
use Rattle.reference_world.specs.Deeds.{Does, History, MeetingValue, SharedValue, shared_with}
use Rattle.reference_world.specs.declared.deed.Deed.{Deed as Did}
use Rattle.reference_world.specs.declared.deed.Deed.TheVariants as did

-- whatever else is shared
abbrev Always : (Shared → ℕ → ℕ → Request → Bool) → MeetingValue → Bool → Type 0
Always what old b = (h : History) (v : SharedValue) (n c : ℕ) (q : Request) → b ≡ what (shared_with h v old) n c q

abbrev ActsOn : MeetingValue → ℕ → Request → Did → MeetingValue → Type 0
ActsOn old n q deed new = Does (λ (w : Shared) (c : ℕ). act w n c q q) old n q deed new

abbrev with_sleeper : MeetingValue → ℕ → Request → MeetingValue
with_sleeper old n q = record { channels = old.channels; asleep = without old.asleep n ++ record { number = n; request = q } ∷ [] }

pub send_done : (old new : MeetingValue) (n k : ℕ) (item : Item) (deed : Did) → Always (λ (w : Shared) (m c : ℕ) (q : Request). send_ready w m c q k) old true → ((m : ℕ) (q : Request) → Does (λ (w : Shared) (c : ℕ). do_send w m c q k item 0) old m q deed new) → ActsOn old n (Send (Some k) item) deed new
send_done old new n k item deed ready sends h v c = rw (← ready h v n c (Send (Some k) item)) (sends n (Send (Some k) item) h v c)

pub send_sleeps : (old : MeetingValue) (n k : ℕ) (item : Item) → Always (λ (w : Shared) (m c : ℕ) (q : Request). send_ready w m c q k) old false → ActsOn old n (Send (Some k) item) did.Sleeps (with_sleeper old n (Send (Some k) item))
send_sleeps old n k item ready h v c = rw (← ready h v n c (Send (Some k) item)) refl

pub receive_done : (old new : MeetingValue) (n k : ℕ) (deed : Did) → Always (λ (w : Shared) (m c : ℕ) (q : Request). receive_ready w m c q k) old true → ((m : ℕ) (q : Request) → Does (λ (w : Shared) (c : ℕ). do_receive w m c q k 0) old m q deed new) → ActsOn old n (Receive (Some k)) deed new
receive_done old new n k deed ready receives h v c = rw (← ready h v n c (Receive (Some k))) (receives n (Receive (Some k)) h v c)

pub receive_sleeps : (old : MeetingValue) (n k : ℕ) → Always (λ (w : Shared) (m c : ℕ) (q : Request). receive_ready w m c q k) old false → ActsOn old n (Receive (Some k)) did.Sleeps (with_sleeper old n (Receive (Some k)))
receive_sleeps old n k ready h v c = rw (← ready h v n c (Receive (Some k))) refl
