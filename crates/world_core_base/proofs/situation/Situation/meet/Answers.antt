use Rattle.std.proofs.Common.{◌≡◌, ◌++◌, ℕ, map, ap, ◌∙◌, subst, arith}
use Rattle.channel_core.specs.Channels.{DoesAt, came as came_as}
use Rattle.channel_core.specs.declared.outcome.Outcome.TheVariants as outcomes
use Rattle.word.specs.declared.request.EventOutcome.{EventOutcome as Fate}
use Rattle.word.specs.declared.end.End.TheVariants.{Panicked}
use Rattle.word.specs.declared.request.Event.{Event as Recorded}
use Rattle.word.specs.Values.{Reply}
use Rattle.word.specs.Views.{outcome_of, reply_of, request_of}
use Rattle.world_core_base.specs.Cores.{CoreValue, left_beds, most_woken, woken_rows}
use Rattle.world_core_base.proofs.Events.{channels_quiet, made_met, meets_below, sleeper_quiet}
use Rattle.world_core_base.proofs.Shapes.{done_core, few_partners, few_woken, recorded, slept_core, stopped_core}
use Rattle.world_core_base.proofs.situation.Situation.meet.Goals as goal

pub next_time-later-requires-clause-below : goal.next_time-later-requires-clause-below
next_time-later-requires-clause-below c =
    let ev = c.args.event.now in
    meets_below c.args.code.now c.args.limit c.args.self.now ev.number ev.clock (request_of ev.request) c.requires.asked c.requires.channels

pub wake_all-requires-clause-room : goal.wake_all-requires-clause-room
wake_all-requires-clause-room c =
    let core = c.args.self.now in
    let ev = c.args.event.now in
    let means = request_of ev.request in
    let channels = c.ask.new.self.channels in
    let does : DoesAt core.channels ev.number ev.clock means (outcomes.Done c.in-Done.reply c.ask.new.woken) channels = subst (λ (f : Fate). DoesAt core.channels ev.number ev.clock means (came_as f c.ask.new.woken) channels) c.in-Done.is c.in_ok-ask.ensures.does in
    let few = few_woken core.channels ev.number ev.clock means (outcomes.Done c.in-Done.reply c.ask.new.woken) channels does in
    let most = c.most_offered-most.ensures.woken in
    let same = ap (λ (x : CoreValue). most_woken means x.channels.asleep) c.self.view_is in
    let room = c.in_ok-reserve.ensures.ok in
    omega (arith, few, most, same, room)

pub wake_all-requires-clause-rooms : goal.wake_all-requires-clause-rooms
wake_all-requires-clause-rooms c =
    let core = c.args.self.now in
    let ev = c.args.event.now in
    let means = request_of ev.request in
    let channels = c.ask.new.self.channels in
    let does : DoesAt core.channels ev.number ev.clock means (outcomes.Done c.in-Done.reply c.ask.new.woken) channels = subst (λ (f : Fate). DoesAt core.channels ev.number ev.clock means (came_as f c.ask.new.woken) channels) c.in-Done.is c.in_ok-ask.ensures.does in
    let few = few_woken core.channels ev.number ev.clock means (outcomes.Done c.in-Done.reply c.ask.new.woken) channels does in
    let most = c.most_offered-most.ensures.woken in
    let same = ap (λ (x : CoreValue). most_woken means x.channels.asleep) c.self.view_is in
    let rooms = c.in_ok-make_rooms.ensures in
    omega (arith, few, most, same, rooms)

pub fall_asleep-requires-clause-quiet : goal.fall_asleep-requires-clause-quiet
fall_asleep-requires-clause-quiet c =
    let core = c.args.self.now in
    let ev = c.args.event.now in
    rw c.in_ok-ask.ensures.rest (sleeper_quiet c.args.code.now c.args.limit core ev.number ev.clock (request_of ev.request) c.requires.asked c.requires.channels)

pub returns-in-Done-clause-performs : goal.returns-in-Done-clause-performs
returns-in-Done-clause-performs c =
    let code = c.args.code.now in
    let core = c.args.self.now in
    let ev = c.args.event.now in
    let means = request_of ev.request in
    let channels = c.ask.new.self.channels in
    let does : DoesAt core.channels ev.number ev.clock means (outcomes.Done c.in-Done.reply c.ask.new.woken) channels = subst (λ (f : Fate). DoesAt core.channels ev.number ev.clock means (came_as f c.ask.new.woken) channels) c.in-Done.is c.in_ok-ask.ensures.does in
    let later = c.next_time-later.result in
    let below = meets_below code c.args.limit core ev.number ev.clock means c.requires.asked c.requires.channels in
    let numbers : c.wake_all.new.partners.items ≡ c.reserve.new.self.items ++ map (λ (w : ℕ × Reply). w.0) c.ask.new.woken.items = c.wake_all.ensures.numbers in
    let new = c.wake_all.new.self in
    let told = c.go_on.new.self in
    let woke : new ≡ record told { rows = woken_rows code told.rows told.beds later c.ask.new.woken.items; beds = left_beds told.beds c.ask.new.woken.items } = c.wake_all.ensures.core in
    let is = done_core code ev.number later (reply_of c.in-Done.reply) c.ask.new.woken.items core c.ask.new.self c.go_on.new.self new c.in_ok-ask.ensures.rest c.go_on.ensures woke in
    let event : Recorded = record ev { outcome = c.ask.new.outcome; partners = c.wake_all.new.partners } in
    (made_met code c.args.limit core event new c.requires.asked c.requires.fits c.requires.events (outcomes.Done c.in-Done.reply c.ask.new.woken) channels c.requires.channels does (record {
      later = later;
      is = c.next_time-later.ensures;
      below = below;
      new = is;
      event = λ i. recorded ev.clock ev.number means (outcome_of (c.in-Done.is i)) ((numbers ∙ ap (λ ns. ns ++ map (λ (w : ℕ × Reply). w.0) c.ask.new.woken.items) (c.reserve.ensures.items ∙ c.requires.alone)) i);
    })).performs

pub returns-in-Done-clause-bytes : goal.returns-in-Done-clause-bytes
returns-in-Done-clause-bytes c = channels_quiet c.args.event.now.request c.requires.channels

pub returns-in-Done-clause-fits : goal.returns-in-Done-clause-fits
returns-in-Done-clause-fits c =
    let code = c.args.code.now in
    let core = c.args.self.now in
    let ev = c.args.event.now in
    let means = request_of ev.request in
    let channels = c.ask.new.self.channels in
    let does : DoesAt core.channels ev.number ev.clock means (outcomes.Done c.in-Done.reply c.ask.new.woken) channels = subst (λ (f : Fate). DoesAt core.channels ev.number ev.clock means (came_as f c.ask.new.woken) channels) c.in-Done.is c.in_ok-ask.ensures.does in
    let later = c.next_time-later.result in
    let below = meets_below code c.args.limit core ev.number ev.clock means c.requires.asked c.requires.channels in
    let numbers : c.wake_all.new.partners.items ≡ c.reserve.new.self.items ++ map (λ (w : ℕ × Reply). w.0) c.ask.new.woken.items = c.wake_all.ensures.numbers in
    let new = c.wake_all.new.self in
    let told = c.go_on.new.self in
    let woke : new ≡ record told { rows = woken_rows code told.rows told.beds later c.ask.new.woken.items; beds = left_beds told.beds c.ask.new.woken.items } = c.wake_all.ensures.core in
    let is = done_core code ev.number later (reply_of c.in-Done.reply) c.ask.new.woken.items core c.ask.new.self c.go_on.new.self new c.in_ok-ask.ensures.rest c.go_on.ensures woke in
    let event : Recorded = record ev { outcome = c.ask.new.outcome; partners = c.wake_all.new.partners } in
    (made_met code c.args.limit core event new c.requires.asked c.requires.fits c.requires.events (outcomes.Done c.in-Done.reply c.ask.new.woken) channels c.requires.channels does (record {
      later = later;
      is = c.next_time-later.ensures;
      below = below;
      new = is;
      event = λ i. recorded ev.clock ev.number means (outcome_of (c.in-Done.is i)) ((numbers ∙ ap (λ ns. ns ++ map (λ (w : ℕ × Reply). w.0) c.ask.new.woken.items) (c.reserve.ensures.items ∙ c.requires.alone)) i);
    })).fits

pub returns-in-Done-clause-partners : goal.returns-in-Done-clause-partners
returns-in-Done-clause-partners c =
    let core = c.args.self.now in
    let ev = c.args.event.now in
    let means = request_of ev.request in
    let channels = c.ask.new.self.channels in
    let does : DoesAt core.channels ev.number ev.clock means (outcomes.Done c.in-Done.reply c.ask.new.woken) channels = subst (λ (f : Fate). DoesAt core.channels ev.number ev.clock means (came_as f c.ask.new.woken) channels) c.in-Done.is c.in_ok-ask.ensures.does in
    let numbers : c.wake_all.new.partners.items ≡ c.reserve.new.self.items ++ map (λ (w : ℕ × Reply). w.0) c.ask.new.woken.items = c.wake_all.ensures.numbers in
    let is = numbers ∙ ap (λ ns. ns ++ map (λ (w : ℕ × Reply). w.0) c.ask.new.woken.items) (c.reserve.ensures.items ∙ c.requires.alone) in
    few_partners core.channels ev.number ev.clock means (outcomes.Done c.in-Done.reply c.ask.new.woken) channels does c.wake_all.new.partners.items is

pub returns-in-Sleeps-clause-performs : goal.returns-in-Sleeps-clause-performs
returns-in-Sleeps-clause-performs c =
    let core = c.args.self.now in
    let ev = c.args.event.now in
    let means = request_of ev.request in
    let channels = c.ask.new.self.channels in
    let does : DoesAt core.channels ev.number ev.clock means outcomes.Sleeps channels = subst (λ (f : Fate). DoesAt core.channels ev.number ev.clock means (came_as f c.ask.new.woken) channels) c.in-Sleeps.is c.in_ok-ask.ensures.does in
    let new = c.fall_asleep.new.self in
    let is = slept_core ev.number core c.ask.new.self new c.in_ok-ask.ensures.rest c.fall_asleep.ensures in
    let event : Recorded = record ev { outcome = c.ask.new.outcome; partners = c.reserve.new.self } in
    (made_met c.args.code.now c.args.limit core event new c.requires.asked c.requires.fits c.requires.events outcomes.Sleeps channels c.requires.channels does (record {
      new = is;
      event = λ i. recorded ev.clock ev.number means (outcome_of (c.in-Sleeps.is i)) ((c.reserve.ensures.items ∙ c.requires.alone) i);
    })).performs

pub returns-in-Sleeps-clause-bytes : goal.returns-in-Sleeps-clause-bytes
returns-in-Sleeps-clause-bytes c = channels_quiet c.args.event.now.request c.requires.channels

pub returns-in-Sleeps-clause-fits : goal.returns-in-Sleeps-clause-fits
returns-in-Sleeps-clause-fits c =
    let core = c.args.self.now in
    let ev = c.args.event.now in
    let means = request_of ev.request in
    let channels = c.ask.new.self.channels in
    let does : DoesAt core.channels ev.number ev.clock means outcomes.Sleeps channels = subst (λ (f : Fate). DoesAt core.channels ev.number ev.clock means (came_as f c.ask.new.woken) channels) c.in-Sleeps.is c.in_ok-ask.ensures.does in
    let new = c.fall_asleep.new.self in
    let is = slept_core ev.number core c.ask.new.self new c.in_ok-ask.ensures.rest c.fall_asleep.ensures in
    let event : Recorded = record ev { outcome = c.ask.new.outcome; partners = c.reserve.new.self } in
    (made_met c.args.code.now c.args.limit core event new c.requires.asked c.requires.fits c.requires.events outcomes.Sleeps channels c.requires.channels does (record {
      new = is;
      event = λ i. recorded ev.clock ev.number means (outcome_of (c.in-Sleeps.is i)) ((c.reserve.ensures.items ∙ c.requires.alone) i);
    })).fits

pub returns-in-Sleeps-clause-partners : goal.returns-in-Sleeps-clause-partners
returns-in-Sleeps-clause-partners c = rw (c.reserve.ensures.items, c.requires.alone) (omega arith)

pub returns-in-Panics-clause-performs : goal.returns-in-Panics-clause-performs
returns-in-Panics-clause-performs c =
    let core = c.args.self.now in
    let ev = c.args.event.now in
    let means = request_of ev.request in
    let channels = c.ask.new.self.channels in
    let does : DoesAt core.channels ev.number ev.clock means (outcomes.Panics c.in-Panics.cause c.in-Panics.field-1) channels = subst (λ (f : Fate). DoesAt core.channels ev.number ev.clock means (came_as f c.ask.new.woken) channels) c.in-Panics.is c.in_ok-ask.ensures.does in
    let new = c.stop.new.self in
    let is = stopped_core ev.number (Panicked c.in-Panics.cause) core c.ask.new.self new c.in_ok-ask.ensures.rest c.stop.ensures in
    let event : Recorded = record ev { outcome = c.ask.new.outcome; partners = c.reserve.new.self } in
    (made_met c.args.code.now c.args.limit core event new c.requires.asked c.requires.fits c.requires.events (outcomes.Panics c.in-Panics.cause c.in-Panics.field-1) channels c.requires.channels does (record {
      new = is;
      event = λ i. recorded ev.clock ev.number means (outcome_of (c.in-Panics.is i)) ((c.reserve.ensures.items ∙ c.requires.alone) i);
    })).performs

pub returns-in-Panics-clause-bytes : goal.returns-in-Panics-clause-bytes
returns-in-Panics-clause-bytes c = channels_quiet c.args.event.now.request c.requires.channels

pub returns-in-Panics-clause-fits : goal.returns-in-Panics-clause-fits
returns-in-Panics-clause-fits c =
    let core = c.args.self.now in
    let ev = c.args.event.now in
    let means = request_of ev.request in
    let channels = c.ask.new.self.channels in
    let does : DoesAt core.channels ev.number ev.clock means (outcomes.Panics c.in-Panics.cause c.in-Panics.field-1) channels = subst (λ (f : Fate). DoesAt core.channels ev.number ev.clock means (came_as f c.ask.new.woken) channels) c.in-Panics.is c.in_ok-ask.ensures.does in
    let new = c.stop.new.self in
    let is = stopped_core ev.number (Panicked c.in-Panics.cause) core c.ask.new.self new c.in_ok-ask.ensures.rest c.stop.ensures in
    let event : Recorded = record ev { outcome = c.ask.new.outcome; partners = c.reserve.new.self } in
    (made_met c.args.code.now c.args.limit core event new c.requires.asked c.requires.fits c.requires.events (outcomes.Panics c.in-Panics.cause c.in-Panics.field-1) channels c.requires.channels does (record {
      new = is;
      event = λ i. recorded ev.clock ev.number means (outcome_of (c.in-Panics.is i)) ((c.reserve.ensures.items ∙ c.requires.alone) i);
    })).fits

pub returns-in-Panics-clause-partners : goal.returns-in-Panics-clause-partners
returns-in-Panics-clause-partners c = rw (c.reserve.ensures.items, c.requires.alone) (omega arith)
