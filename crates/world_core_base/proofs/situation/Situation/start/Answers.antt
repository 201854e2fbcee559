use Rattle.logical_clock.specs.declared.limits.TheConstants.{MAX_GOROUTINES}
use Rattle.std.proofs.Common.{◌≡◌, ◌≢◌, ◌++◌, [], ◌∷◌, length, refl, sym, ap, subst, ◌∙◌, arith}
use Rattle.bytecode.specs.Machine.{code_begin}
use Rattle.word.specs.Kinds.{at}
use Rattle.word.specs.declared.panic.Panic.TheVariants.{TooManyGoroutines}
use Rattle.word.specs.declared.request.Event.{Event as Recorded}
use Rattle.word.specs.declared.request.EventOutcome.TheVariants as came
use Rattle.word.specs.declared.request.Reply.TheVariants as replies
use Rattle.word.specs.Views.{request_of}
use Rattle.world_core_base.specs.Cores.{CoreValue}
use Rattle.world_core_base.proofs.Events.{go_below, go_quiet, made_full, made_started}
use Rattle.world_core_base.proofs.Shapes.{added_core}
use Rattle.world_core_base.proofs.Starting.{StartsWithin, starts_within}
use Rattle.world_core_base.proofs.situation.Situation.start.Goals as goal

pub next_time-later-requires-clause-below : goal.next_time-later-requires-clause-below
next_time-later-requires-clause-below c =
    let ev = c.args.event.now in
    go_below c.args.code.now c.args.limit c.args.self.now ev.number ev.clock (request_of ev.request) c.requires.asked c.requires.go

pub begin_state-requires : goal.begin_state-requires
begin_state-requires c =
    let ev = c.args.event.now in
    subst (StartsWithin c.args.code.now) (ap request_of c.in-Go.is) (starts_within c.args.code.now c.args.limit c.args.self.now ev.number ev.clock (request_of ev.request) c.requires.asked)

pub returns-then-self-eq-MAX_GOROUTINES-clause-performs : goal.returns-then-self-eq-MAX_GOROUTINES-clause-performs
returns-then-self-eq-MAX_GOROUTINES-clause-performs c =
    let core = c.args.self.now in
    let event : Recorded = record c.args.event.now { outcome = came.Panics TooManyGoroutines 0 } in
    let full : core.live ≡ MAX_GOROUTINES = sym (ap (λ (x : CoreValue). x.live) c.self.view_is) ∙ c.if-self-eq-MAX_GOROUTINES.true in
    (made_full c.args.code.now c.args.limit core event c.stop.new.self c.requires.asked c.requires.fits c.requires.events c.requires.go full refl c.requires.alone c.stop.ensures).performs

pub returns-then-self-eq-MAX_GOROUTINES-clause-bytes : goal.returns-then-self-eq-MAX_GOROUTINES-clause-bytes
returns-then-self-eq-MAX_GOROUTINES-clause-bytes c = go_quiet c.args.event.now.request c.requires.go

pub returns-then-self-eq-MAX_GOROUTINES-clause-fits : goal.returns-then-self-eq-MAX_GOROUTINES-clause-fits
returns-then-self-eq-MAX_GOROUTINES-clause-fits c =
    let core = c.args.self.now in
    let event : Recorded = record c.args.event.now { outcome = came.Panics TooManyGoroutines 0 } in
    let full : core.live ≡ MAX_GOROUTINES = sym (ap (λ (x : CoreValue). x.live) c.self.view_is) ∙ c.if-self-eq-MAX_GOROUTINES.true in
    (made_full c.args.code.now c.args.limit core event c.stop.new.self c.requires.asked c.requires.fits c.requires.events c.requires.go full refl c.requires.alone c.stop.ensures).fits

pub returns-then-self-eq-MAX_GOROUTINES-clause-partners : goal.returns-then-self-eq-MAX_GOROUTINES-clause-partners
returns-then-self-eq-MAX_GOROUTINES-clause-partners c = rw c.requires.alone (omega arith)

pub returns-clause-performs : goal.returns-clause-performs
returns-clause-performs c =
    let code = c.args.code.now in
    let core = c.args.self.now in
    let ev = c.args.event.now in
    let f = c.in-Go.function in
    let args = c.in-Go.args.items in
    let later = c.next_time-later.result in
    let new = c.go_on.new.self in
    let room : core.live ≢ MAX_GOROUTINES = λ e. c.if-self-eq-MAX_GOROUTINES.false (ap (λ (x : CoreValue). x.live) c.self.view_is ∙ e) in
    let state : c.in_ok-state.state ≡ at later (code_begin code f args) = c.in_ok-state.ensures.begins ∙ ap (λ ws. at later (code_begin code f ws)) c.as_slice.ensures.value in
    let is = added_core code ev.number later c.in_ok-state.state (at later (code_begin code f args)) core c.add.new.self new state c.in_ok-add.ensures.ok c.go_on.ensures in
    let count : c.count.result ≡ length core.rows = c.count.ensures.rows ∙ ap (λ (x : CoreValue). length x.rows) c.self.view_is in
    let event : Recorded = record ev { outcome = came.Done replies.Nothing; partners = c.push.new.self } in
    let started : event.partners.items ≡ length core.rows ∷ [] = c.in_ok-push.ensures.items ∙ ap (λ xs. xs ++ c.count.result ∷ []) c.requires.alone ∙ ap (λ k. k ∷ []) count in
    (made_started code c.args.limit core event new c.requires.asked c.requires.fits c.requires.events f args later (ap request_of c.in-Go.is) room refl started c.next_time-later.ensures is).performs

pub returns-clause-bytes : goal.returns-clause-bytes
returns-clause-bytes c = go_quiet c.args.event.now.request c.requires.go

pub returns-clause-fits : goal.returns-clause-fits
returns-clause-fits c =
    let code = c.args.code.now in
    let core = c.args.self.now in
    let ev = c.args.event.now in
    let f = c.in-Go.function in
    let args = c.in-Go.args.items in
    let later = c.next_time-later.result in
    let new = c.go_on.new.self in
    let room : core.live ≢ MAX_GOROUTINES = λ e. c.if-self-eq-MAX_GOROUTINES.false (ap (λ (x : CoreValue). x.live) c.self.view_is ∙ e) in
    let state : c.in_ok-state.state ≡ at later (code_begin code f args) = c.in_ok-state.ensures.begins ∙ ap (λ ws. at later (code_begin code f ws)) c.as_slice.ensures.value in
    let is = added_core code ev.number later c.in_ok-state.state (at later (code_begin code f args)) core c.add.new.self new state c.in_ok-add.ensures.ok c.go_on.ensures in
    let count : c.count.result ≡ length core.rows = c.count.ensures.rows ∙ ap (λ (x : CoreValue). length x.rows) c.self.view_is in
    let event : Recorded = record ev { outcome = came.Done replies.Nothing; partners = c.push.new.self } in
    let started : event.partners.items ≡ length core.rows ∷ [] = c.in_ok-push.ensures.items ∙ ap (λ xs. xs ++ c.count.result ∷ []) c.requires.alone ∙ ap (λ k. k ∷ []) count in
    (made_started code c.args.limit core event new c.requires.asked c.requires.fits c.requires.events f args later (ap request_of c.in-Go.is) room refl started c.next_time-later.ensures is).fits
