-- What a turn at the book comes to.
use Rattle.std.specs.Prelude.{◌≡◌, ℕ, Bool, false, true, [], List, ◌∷◌, Option, Some}
use Rattle.std.specs.Option.{MatchOption}
use Rattle.book.specs.Desks.{Desk, Held, IsLent, OnlyLooks, Settles, lent_desk}
use Rattle.book.specs.declared.settled.Settled.{Settled}
use Rattle.book.specs.declared.settled.Settled.TheVariants.{Committed, Waiting, Ended}
use Rattle.clock_table.specs.Clocks.{IsFree, row as word_at}
use Rattle.word.specs.declared.end.End.{End as Ending}
use Rattle.word.specs.declared.request.Event.{Event as Recorded}
use Rattle.world_core_base.specs.Cores.{IsFreeIn, to_lend}

-- the goroutine of least key of those that can be lent is lent, in a slot that was free
pub record Lends (old : Desk) (l : Held) (new : Desk) : Type 0 where
  pub key : to_lend old.core ≡ Some (record { clock = l.base.clock; number = l.number })
  pub free : IsFreeIn old.core.rows l.number l.base
  pub present : l.present ≡ l.base
  pub published : l.published ≡ l.base.clock
  pub slot : IsFree (word_at old.words l.slot)
  pub out : IsLent new l
  pub lent : new ≡ lent_desk old l

-- whether an event is committed
abbrev pub is_committed : Settled → Bool
is_committed (Committed event) = true
is_committed (Waiting n) = false
is_committed (Ended ending) = false

-- one settling, which committed an event or not
abbrev pub SettlesOne : Desk → Bool → Desk → Type 0
SettlesOne old committed new = (settled : Settled) × Settles old settled new × (is_committed settled ≡ committed)

-- these events were committed one after the other, the last one first
abbrev pub Commits : Desk → List Recorded → Desk → Type 0
Commits old [] new = new ≡ old
Commits old (event ∷ events) new = (mid : Desk) × Commits old events mid × Settles mid (Committed event) new

-- the result of a settling that none can follow: a goroutine stands before the next event, or the run has ended
abbrev pub Rests : Desk → Option Ending → Desk → Type 0
Rests old found new = MatchOption found ((n : ℕ) × Settles old (Waiting n) new) (λ ending. Settles old (Ended ending) new)

-- all events that can be are committed
abbrev pub SettlesAll : Desk → Option Ending → Desk → Type 0
SettlesAll old found new = (events : List Recorded) × (mid : Desk) × Commits old events mid × Rests mid found new

-- some events are committed, and looks were made
abbrev pub SettlesSome : Desk → Desk → Type 0
SettlesSome old new = (events : List Recorded) × (mid : Desk) × Commits old events mid × OnlyLooks mid new
