-- Requests, replies and events of the code, as the definitions see them.
use Rattle.word.specs.declared.request.Request.{Request as Asked}
use Rattle.word.specs.declared.request.Request.TheVariants as asked
use Rattle.word.specs.declared.request.Reply.{Reply as Told}
use Rattle.word.specs.declared.request.Reply.TheVariants as told
use Rattle.word.specs.declared.request.EventOutcome.{EventOutcome as Came}
use Rattle.word.specs.declared.request.EventOutcome.TheVariants as came
use Rattle.word.specs.declared.request.Event.{Event as Recorded}
use Rattle.word.specs.Values.{Request, Make, Go, Send, Receive, Close, Select, Len, Cap, Print, End, Exit, Panic, Exhausted, Reply, Nothing, Value, Received, Clause, Default, Closed, EventOutcome, Done, Sleeps, Panics, Event}

abbrev pub request_of : Asked → Request
request_of (asked.Make size zero) = Make size zero
request_of (asked.Go function args) = Go function args.items
request_of (asked.Send c item) = Send c item
request_of (asked.Receive c) = Receive c
request_of (asked.Close c) = Close c
request_of (asked.Select cases default) = Select cases.items default
request_of (asked.Len c) = Len c
request_of (asked.Cap c) = Cap c
request_of (asked.Print bytes) = Print bytes.items
request_of asked.End = End
request_of asked.Exit = Exit
request_of (asked.Panic cause) = Panic cause
request_of asked.Exhausted = Exhausted

abbrev pub reply_of : Told → Reply
reply_of told.Nothing = Nothing
reply_of (told.Word word) = Value word
reply_of (told.Received item ok) = Received item ok
reply_of (told.Clause k got) = Clause k got
reply_of told.Default = Default
reply_of told.Closed = Closed

abbrev pub outcome_of : Came → EventOutcome
outcome_of (came.Done reply) = Done (reply_of reply)
outcome_of came.Sleeps = Sleeps
outcome_of (came.Panics cause k) = Panics cause k

abbrev pub event_of : Recorded → Event
event_of e = record { clock = e.clock; number = e.number; request = request_of e.request; outcome = outcome_of e.outcome; partners = e.partners.items }
