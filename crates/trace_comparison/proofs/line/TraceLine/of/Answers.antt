use Rattle.std.proofs.Common.{refl}
use Rattle.std.proofs.lemmas.Bool.{false≢true}
use Rattle.trace_comparison.proofs.Reading.{none_read, no_space, no_second_space, second_space, line_from_parts}
use Rattle.trace_comparison.proofs.line.TraceLine.of.Goals as goal

pub returns-in_err-clock : goal.returns-in_err-clock
returns-in_err-clock c = none_read c.args.line.now _ c.from_residual.ensures (no_space c.args.line.now c.in_err-clock.ensures.cases)

pub returns-in_err-goroutine : goal.returns-in_err-goroutine
returns-in_err-goroutine c =
    none_read c.args.line.now _ c.from_residual-in_err-goroutine.ensures
    (no_second_space c.args.line.now (c.in_ok-clock.clock, c.in_ok-clock.rest) c.in_ok-clock.ensures.cases c.in_err-goroutine.ensures.cases)

pub returns-in_err-_clock : goal.returns-in_err-_clock
returns-in_err-_clock c =
    none_read c.args.line.now _ c.from_residual-in_err-_clock.ensures
    (λ e is same. let parts = second_space c.args.line.now (c.in_ok-clock.clock, c.in_ok-clock.rest) (c.in_ok-goroutine.goroutine, c.in_ok-goroutine.request)
    c.in_ok-clock.ensures.cases c.in_ok-goroutine.ensures.cases e is same in
    c.in_err-_clock.ensures parts.0.0 parts.0.1)

pub returns-in_err-goroutine-2 : goal.returns-in_err-goroutine-2
returns-in_err-goroutine-2 c =
    none_read c.args.line.now _ c.from_residual-in_err-goroutine-2.ensures
    (λ e is same. let parts = second_space c.args.line.now (c.in_ok-clock.clock, c.in_ok-clock.rest) (c.in_ok-goroutine.goroutine, c.in_ok-goroutine.request)
    c.in_ok-clock.ensures.cases c.in_ok-goroutine.ensures.cases e is same in
    c.in_err-goroutine-2.ensures e.goroutine parts.1)

pub returns-else-is_request : goal.returns-else-is_request
returns-else-is_request c =
    λ e is same. let parts = second_space c.args.line.now (c.in_ok-clock.clock, c.in_ok-clock.rest) (c.in_ok-goroutine.goroutine, c.in_ok-goroutine.request)
    c.in_ok-clock.ensures.cases c.in_ok-goroutine.ensures.cases e is same in
    false≢true (c.if-is_request.ensures.1 parts.2)

pub returns-then-is_request : goal.returns-then-is_request
returns-then-is_request c = (
  (
    c.in_ok-clock.clock.now,
    c.in_ok-_clock._clock,
    c.in_ok-goroutine.goroutine.now,
    c.in_ok-_clock.ensures,
    c.in_ok-goroutine-2.ensures,
    c.if-is_request.ensures.0 refl,
    line_from_parts c.args.line.now (c.in_ok-clock.clock, c.in_ok-clock.rest) (c.in_ok-goroutine.goroutine, c.in_ok-goroutine.request) c.in_ok-clock.ensures.cases
        c.in_ok-goroutine.ensures.cases,
  ),
  refl,
)
