-- Sends of one word, and receives.
use Rattle.std.specs.Prelude.{[], ◌∷◌, Option, Some, None}
use Rattle.bytecode.specs.Machine.{Frames}
use Rattle.goroutine_vm_request.specs.declared.talks.Talk.{Talk}
use Rattle.goroutine_vm_request.specs.declared.talks.Talk.TheVariants as talks
use Rattle.word.specs.Kinds.{Next, Slides, Ticks, Asks, Stuck}
use Rattle.word.specs.Values.{Request, Send, Receive}

-- a send of one word or a receive, on a channel that is not nil
abbrev pub talk_in : Request → Talk
talk_in (Send (Some c) (w ∷ [])) = talks.Send c w
talk_in (Receive (Some c)) = talks.Receive c
talk_in q = talks.Other

-- the talk of a goroutine at this request, or at none
abbrev pub talk_of : Option Request → Talk
talk_of (Some q) = talk_in q
talk_of None = talks.Running

-- like `talk_of`, but of a goroutine that is at no request this is none too
abbrev pub talk_at : Option Request → Talk
talk_at (Some q) = talk_in q
talk_at None = talks.Other

-- the talk that comes next, if one does
abbrev pub next_talk : Next Frames → Talk
next_talk (Slides a) = talks.Other
next_talk (Ticks a) = talks.Other
next_talk (Asks q) = talk_in q
next_talk Stuck = talks.Other
