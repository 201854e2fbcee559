-- What goroutines share, without the lists of bytes and events, and what a request does to it.
use Rattle.std.specs.Prelude.{◌≡◌, ℕ, ℤ, ◌+◌, ◌<◌, ◌≤◌, ◌^◌, ◌++◌, List, [], ◌∷◌, drop, length, map, slice_index_or, Option, Some, None}
use Rattle.word.specs.declared.end.End.{End as Ending}
use Rattle.word.specs.declared.end.End.TheVariants.{Panicked}
use Rattle.logical_clock.specs.declared.limits.TheConstants.{MAX_GOROUTINES}
use Rattle.word.specs.declared.request.Case.{Case}
use Rattle.word.specs.declared.value.Word.TheVariants.{Int}
use Rattle.word.specs.Values.{Item, Request, Reply, Nothing, Value, EventOutcome, Done, Sleeps, Panics, Event, Channel, Sleeper, Offer, Shared}
use Rattle.word.specs.Requests.{Deed, GoesOn, Dozes, Leaves, Stays, act, channel_of, close_reply, happened, meant, no_channel, perform, receive_from}
use Rattle.word.specs.Views.{reply_of}
use Rattle.reference_world.specs.declared.deed.Deed.{Deed as Did}
use Rattle.reference_world.specs.declared.deed.Deed.TheVariants as did
use Rattle.reference_world.specs.declared.sleeper.Partner.{Partner}

-- those asleep, in the order in which they fell asleep; channel c is at index c, and index 0 is no channel's
pub record MeetingValue : Type 0 where
  pub asleep : List Sleeper
  pub channels : List Channel

-- how many goroutines are awake or asleep, how many were made, how many events there were, and how the run ended
pub record SharedValue : Type 0 where
  pub meeting : MeetingValue
  pub live : ℕ
  pub made : ℕ
  pub events : ℕ
  pub ending : Option Ending

-- goroutine 1 alone, and no channels
abbrev pub opened : SharedValue
opened = record { meeting = record { asleep = []; channels = no_channel ∷ [] }; live = 1; made = 1; events = 0; ending = None }

-- at most 16,384 are alive, each goroutine but the first was made by an event, and a run that goes on had less than 2^62
pub record IsCounted (live made events : ℕ) (ending : Option Ending) : Type 0 where
  pub alive : live ≤ MAX_GOROUTINES
  pub each : made ≤ events + 1
  pub room : ending ≡ None → events < 2 ^ 62

-- what is shared is this, but for the lists of bytes and events
pub record IsShownBy (w : Shared) (v : SharedValue) : Type 0 where
  pub asleep : v.meeting.asleep ≡ w.asleep
  pub channels : v.meeting.channels ≡ w.channels
  pub live : v.live ≡ w.live
  pub made : v.made ≡ w.made
  pub events : v.events ≡ length w.events
  pub ending : v.ending ≡ w.ending

-- the bytes that were written, and the events
pub record History : Type 0 where
  pub output : List ℕ
  pub events : List Event

abbrev pub history_of : Shared → History
history_of w = record { output = w.output; events = w.events }

-- all that is shared, after history h, with the sleepers and the channels of m
abbrev pub shared_with : History → SharedValue → MeetingValue → Shared
shared_with h v m = record {
  asleep = m.asleep;
  channels = m.channels;
  output = h.output;
  live = v.live;
  made = v.made;
  events = h.events;
  ending = v.ending;
}

-- after this history goroutine n, at clock c, made request q
module _ (h : History) (n c : ℕ) (q : Request) where
  -- all that is shared after the event of this outcome
  abbrev pub with_event : SharedValue → MeetingValue → EventOutcome → List ℕ → Shared
  with_event v m outcome who = happened (shared_with h v m) n c q (shared_with h v m) outcome who

  -- what was done, in the words of the definitions
  abbrev pub deed_of : Did → SharedValue → MeetingValue → Deed
  deed_of (did.Done reply woken) v m = record {
    fate = GoesOn (reply_of reply);
    woken = woken.items;
    started = [];
    shared = with_event v m (Done (reply_of reply)) (map (λ (x : ℕ × Reply). x.0) woken.items);
  }
  deed_of (did.Prints bytes) v m = record {
    fate = GoesOn Nothing;
    woken = [];
    started = [];
    shared = record (with_event v m (Done Nothing) []) { output = h.output ++ bytes.items };
  }
  deed_of (did.Starts function arguments) v m = record {
    fate = GoesOn Nothing;
    woken = [];
    started = (function, arguments.items) ∷ [];
    shared = with_event v m (Done Nothing) (v.made ∷ []);
  }
  deed_of did.Sleeps v m = record { fate = Dozes; woken = []; started = []; shared = with_event v m Sleeps [] }
  deed_of did.Leaves v m = record { fate = Leaves; woken = []; started = []; shared = with_event v m (Done Nothing) [] }
  deed_of (did.Panics cause clause) v m = record {
    fate = Stays;
    woken = [];
    started = [];
    shared = record (with_event v m (Panics cause clause) []) { ending = Some (Panicked cause) };
  }
  deed_of (did.Ends end) v m = record { fate = Stays; woken = []; started = []; shared = record (with_event v m (Done Nothing) []) { ending = Some end } }

-- the end of the run, if this deed ends it
abbrev pub ending_of : Did → Option Ending
ending_of (did.Panics cause clause) = Some (Panicked cause)
ending_of (did.Ends end) = Some end
ending_of deed = None

-- what the request q of goroutine n does to the sleepers and the channels, whatever else is shared
abbrev pub Does : (Shared → ℕ → Deed) → MeetingValue → ℕ → Request → Did → MeetingValue → Type 0
Does what old n q deed new = (h : History) (v : SharedValue) (c : ℕ) → what (shared_with h v old) c ≡ deed_of h n c q deed v new

-- like `Does`, at this clock of goroutine n
abbrev pub DoesAt : (Shared → Deed) → MeetingValue → ℕ → ℕ → Request → Did → MeetingValue → Type 0
DoesAt what old n c q deed new = (h : History) (v : SharedValue) → what (shared_with h v old) ≡ deed_of h n c q deed v new

-- so goroutine n's request q at clock c is done
abbrev pub Acts : SharedValue → ℕ → ℕ → Request → Did → SharedValue → Type 0
Acts old n c q deed new = (h : History) → act (shared_with h old old.meeting) n c q q ≡ deed_of h n c q deed new new.meeting

-- goroutine n's request q at clock c is performed, in each world that shares this
abbrev pub Performs : SharedValue → ℕ → ℕ → Request → Did → SharedValue → Type 0
Performs old n c q deed new =
    (w : Shared) → IsShownBy w old
    → (perform w n c q ≡ deed_of (history_of w) n c (meant w n q) deed new new.meeting) × IsShownBy (perform w n c q).shared new

-- ---- channels and sleepers

-- a sleeper and its offer as a partner
abbrev pub met : Sleeper × Offer → Partner
met p = record { number = p.0.number; offer = p.1 }

-- the replies to the goroutines that a close wakes, z being the zero item
abbrev pub closed_for : Item → List (Sleeper × Offer) → List (ℕ × Reply)
closed_for z ps = map (λ (p : Sleeper × Offer). (p.0.number, close_reply z p.1)) ps

-- the clause at index i of a select
abbrev pub clause_at : List Case → ℕ → Case
clause_at cases i = slice_index_or cases i (record { chan = None; item = None })

-- the items in a channel's buffer, and its capacity; `nil` has neither
abbrev pub length_of : List Channel → Option ℕ → ℕ
length_of cs None = 0
length_of cs (Some k) = length (channel_of cs k).items

abbrev pub capacity_of : List Channel → Option ℕ → ℕ
capacity_of cs None = 0
capacity_of cs (Some k) = (channel_of cs k).capacity

-- the items after the front item of channel k's buffer
abbrev pub rest_of : List Channel → ℕ → List Item
rest_of cs k = drop 1 (channel_of cs k).items

-- what is left of channel k's buffer when an item comes in at its back and one goes out at its front
abbrev pub exchanged : List Channel → ℕ → Item → List Item
exchanged cs k item = drop 1 ((channel_of cs k).items ++ item ∷ [])

-- a receive of this clause on channel k meets this partner
abbrev pub IsServed : MeetingValue → ℕ → ℕ → Partner → Did → MeetingValue → Type 0
IsServed old k clause p deed new =
    (n : ℕ) (q : Request) (x : Sleeper × Offer) → met x ≡ p
    → Does (λ (w : Shared) (c : ℕ). receive_from w n c q k (channel_of w.channels k) clause (channel_of w.channels k).items (Some x)) old n q deed new

-- its reply is this number, and nobody is woken
abbrev pub IsTold : Did → ℤ → Type 0
IsTold (did.Done reply woken) number = (reply_of reply ≡ Value (Int number)) × (woken.items ≡ [])
IsTold deed number = ⊥
