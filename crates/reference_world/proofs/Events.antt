-- The event of a deed.
use Rattle.std.proofs.Common.{◌≡◌, ℕ, [], ◌∷◌, ◌++◌, refl}
use Rattle.word.specs.Values.{Request}
use Rattle.reference_world.specs.Deeds.{History, MeetingValue, SharedValue, deed_of}
use Rattle.reference_world.specs.Events.{event_by}
use Rattle.reference_world.specs.declared.deed.Deed.{Deed as Did}
use Rattle.reference_world.specs.declared.deed.Deed.TheVariants as did

-- the events after a deed
pub deed_events : (h : History) (n c : ℕ) (p : Request) (deed : Did) (v : SharedValue) (m : MeetingValue) → (deed_of h n c p deed v m).shared.events ≡ h.events ++ event_by n c p v.made deed ∷ []
deed_events h n c p (did.Done reply woken) v m = refl
deed_events h n c p (did.Prints bytes) v m = refl
deed_events h n c p (did.Starts function arguments) v m = refl
deed_events h n c p did.Sleeps v m = refl
deed_events h n c p did.Leaves v m = refl
deed_events h n c p (did.Panics cause clause) v m = refl
deed_events h n c p (did.Ends end) v m = refl
