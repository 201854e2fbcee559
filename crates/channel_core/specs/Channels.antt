-- The channels and sleepers of a world, and what a request to them does.
use Rattle.std.specs.Prelude.{◌≡◌, ◌==◌, ◌+◌, ℕ, suc, ℤ, cond, List, [], ◌∷◌, ◌++◌, drop, length, map, option_copied, slice_index_or, Option, Some, None}
use Rattle.word.specs.declared.request.Case.{Case}
use Rattle.std.specs.Global.{Vec}
use Rattle.word.specs.declared.request.EventOutcome.{EventOutcome as Fate}
use Rattle.word.specs.declared.request.EventOutcome.TheVariants as fates
use Rattle.word.specs.declared.end.End.{End as Ending}
use Rattle.word.specs.declared.end.End.TheVariants.{Panicked}
use Rattle.word.specs.declared.value.Word.TheVariants.{Int}
use Rattle.word.specs.Values.{Item, Request, Make, Send, Receive, Close, Select, Len, Cap, Reply, Nothing, Received, Clause, Value, Done, Sleeps, Panics, Event, Channel, Sleeper, Offer, Shared}
use Rattle.word.specs.Requests.{Deed, GoesOn, Dozes, Stays, happened, act, channel_of, close_reply, do_clause, do_send, do_receive, offers, receive_from}
use Rattle.word.specs.Views.{outcome_of, reply_of}
use Rattle.channel_core.specs.declared.outcome.Outcome.{Outcome}
use Rattle.channel_core.specs.declared.outcome.Outcome.TheVariants as outcomes
use Rattle.channel_core.specs.declared.sleepers.PartnerView.{PartnerView}

-- channel c is at index c, and index 0 is no channel's; sleepers are in the order in which they fell asleep
pub record ChannelsValue : Type 0 where
  pub channels : List Channel
  pub asleep : List Sleeper

-- what else a world shares
pub record Others : Type 0 where
  pub output : List ℕ
  pub live : ℕ
  pub made : ℕ
  pub events : List Event
  pub ending : Option Ending

abbrev pub shared_with : Others → ChannelsValue → Shared
shared_with o v = record {
  asleep = v.asleep;
  channels = v.channels;
  output = o.output;
  live = o.live;
  made = o.made;
  events = o.events;
  ending = o.ending;
}

-- what is known of a sleeper and its offer: its number, the clause, and what it sends
pub record Partner : Type 0 where
  pub number : ℕ
  pub case : ℕ
  pub item : Option Item

-- the `Partner` of a view, whose item is lent
abbrev pub met : PartnerView → Partner
met v = record { number = v.number; case = v.case; item = option_copied v.item }

abbrev pub partner_of : Sleeper × Offer → Partner
partner_of p = record { number = p.0.number; case = p.1.case; item = p.1.item }

-- the outcome that has this fate in its event, and woke these goroutines
abbrev pub came : Fate → Vec (ℕ × Reply) → Outcome
came (fates.Done reply) woken = outcomes.Done reply woken
came fates.Sleeps woken = outcomes.Sleeps
came (fates.Panics cause k) woken = outcomes.Panics cause k

-- a reply that hands over this item, if it hands one over
abbrev pub given : Reply → Item → Reply
given (Received other ok) item = Received item ok
given (Clause k (Some got)) item = Clause k (Some (item, got.1))
given reply item = reply

-- a woken goroutine, and the reply with this item
abbrev pub with_item : ℕ × Reply → Item → ℕ × Reply
with_item one item = (one.0, given one.1 item)

abbrev pub nobody : ℕ × Reply
nobody = (0, Nothing)

-- goroutine n, at clock c, with request q: what it did, by its outcome
module _ (o : Others) (n c : ℕ) (q : Request) where
  abbrev pub deed_of : Outcome → ChannelsValue → Deed
  deed_of (outcomes.Done reply woken) new = record {
    fate = GoesOn (reply_of reply);
    woken = woken.items;
    started = [];
    shared = happened (shared_with o new) n c q (shared_with o new) (Done (reply_of reply)) (map (λ (x : ℕ × Reply). x.0) woken.items);
  }
  deed_of outcomes.Sleeps new = record { fate = Dozes; woken = []; started = []; shared = happened (shared_with o new) n c q (shared_with o new) Sleeps [] }
  deed_of (outcomes.Panics cause k) new = record {
    fate = Stays;
    woken = [];
    started = [];
    shared = record (happened (shared_with o new) n c q (shared_with o new) (Panics cause k) []) { ending = Some (Panicked cause) };
  }

-- the request of goroutine n has this outcome, after which channels and sleepers are these
abbrev pub Does : ChannelsValue → ℕ → Request → Outcome → ChannelsValue → Type 0
Does old n q outcome new = (o : Others) (c : ℕ) → act (shared_with o old) n c q q ≡ deed_of o n c q outcome new

-- like `Does`, at this clock of goroutine n
abbrev pub DoesAt : ChannelsValue → ℕ → ℕ → Request → Outcome → ChannelsValue → Type 0
DoesAt old n c q outcome new = (o : Others) → act (shared_with o old) n c q q ≡ deed_of o n c q outcome new

-- like `Does`, if nobody is woken
abbrev pub DoesAlone : ChannelsValue → ℕ → Request → Fate → ChannelsValue → Type 0
DoesAlone old n q fate new = (w : Vec (ℕ × Reply)) → w.items ≡ [] → Does old n q (came fate w) new

-- so does a send of this clause on channel k that is ready
abbrev pub Sends : ChannelsValue → ℕ → ℕ → Item → ℕ → Outcome → ChannelsValue → Type 0
Sends old n k item clause outcome new = (o : Others) (c : ℕ) (q : Request) → do_send (shared_with o old) n c q k item clause ≡ deed_of o n c q outcome new

-- so does a receive of this clause on channel k that is ready
abbrev pub Receives : ChannelsValue → ℕ → ℕ → ℕ → Outcome → ChannelsValue → Type 0
Receives old n k clause outcome new = (o : Others) (c : ℕ) (q : Request) → do_receive (shared_with o old) n c q k clause ≡ deed_of o n c q outcome new

-- so does a clause of a select, of this number, that is ready
abbrev pub Serves : ChannelsValue → ℕ → Case → ℕ → Outcome → ChannelsValue → Type 0
Serves old n x clause outcome new = (o : Others) (c : ℕ) (q : Request) → do_clause (shared_with o old) n c q clause x.chan x.item ≡ deed_of o n c q outcome new

-- the clause at index i of a select, counted from 0
abbrev pub clause_at : List Case → ℕ → Case
clause_at cases i = slice_index_or cases i (record { chan = None; item = None })

-- the replies to those that a close wakes, z being the zero item
abbrev pub closed_for : Item → List (Sleeper × Offer) → List (ℕ × Reply)
closed_for z ps = map (λ (p : Sleeper × Offer). (p.0.number, close_reply z p.1)) ps

-- how many of these offers are on channel c
abbrev pub offers_on : ℕ → List Offer → ℕ
offers_on c [] = 0
offers_on c (o ∷ os) = cond (o.chan == c) (suc (offers_on c os)) (offers_on c os)

-- how many offers on channel c these sleepers make
abbrev pub offers_at : ℕ → List Sleeper → ℕ
offers_at c [] = 0
offers_at c (s ∷ ss) = offers_on c (offers s.request) + offers_at c ss

-- the items in a channel's buffer, and its capacity; `nil` has neither
abbrev pub length_of : List Channel → Option ℕ → ℕ
length_of cs None = 0
length_of cs (Some k) = length (channel_of cs k).items

abbrev pub capacity_of : List Channel → Option ℕ → ℕ
capacity_of cs None = 0
capacity_of cs (Some k) = (channel_of cs k).capacity

-- a request to channels
abbrev pub IsOfChannels : Request → Type 0
IsOfChannels (Make size zero) = Unit {0}
IsOfChannels (Send c item) = Unit {0}
IsOfChannels (Receive c) = Unit {0}
IsOfChannels (Close c) = Unit {0}
IsOfChannels (Select cases default) = Unit {0}
IsOfChannels (Len c) = Unit {0}
IsOfChannels (Cap c) = Unit {0}
IsOfChannels q = ⊥

-- a request to one channel: any but a select
abbrev pub IsOfOneChannel : Request → Type 0
IsOfOneChannel (Select cases default) = ⊥
IsOfOneChannel q = IsOfChannels q

-- the reply is this number
abbrev pub IsTold : Fate → ℤ → Type 0
IsTold fate number = outcome_of fate ≡ Done (Value (Int number))

-- what is left of channel k's buffer when an item entered at its back and one left at its front
abbrev pub after_passing : List Channel → ℕ → Item → List Item
after_passing cs k item = drop 1 ((channel_of cs k).items ++ item ∷ [])

-- the one that left at its front
abbrev pub front_after : List Channel → ℕ → Item → Item
front_after cs k item = slice_index_or ((channel_of cs k).items ++ item ∷ []) 0 []

-- a receive of this clause on channel k met this sender, and so it was done
abbrev pub IsServed : ChannelsValue → ℕ → ℕ → Partner → Outcome → ChannelsValue → Type 0
IsServed old k clause p outcome new =
    (o : Others) (n c : ℕ) (q : Request) (x : Sleeper × Offer) → partner_of x ≡ p
    → receive_from (shared_with o old) n c q k (channel_of old.channels k) clause (channel_of old.channels k).items (Some x) ≡ deed_of o n c q outcome new

-- a receive of this clause on channel k met nobody
abbrev pub IsAlone : ChannelsValue → ℕ → ℕ → Fate → ChannelsValue → Type 0
IsAlone old k clause fate new =
    (w : Vec (ℕ × Reply)) → w.items ≡ [] → (o : Others) (n c : ℕ) (q : Request)
    → receive_from (shared_with o old) n c q k (channel_of old.channels k) clause (channel_of old.channels k).items None ≡ deed_of o n c q (came fate w) new
