use Rattle.std.proofs.Common.{inl, inr, refl, sym, ◌∙◌}
use Rattle.workers.proofs.Queues.{if_none, if_some, none_more, none_of}
use Rattle.workers.proofs.work_queues.WorkQueues.take.Goals as goal

pub returns-then-is_some-clause-some : goal.returns-then-is_some-clause-some
returns-then-is_some-clause-some g c = if_some c.take-found.result (λ item takes. inl (takes, refl)) c.take-found.ensures.some

pub returns-clause-some : goal.returns-clause-some
returns-clause-some g c =
    let none = none_of c.take-found.result (sym c.is_some.ensures ∙ c.if-is_some.false) in
    if_some c.take_of.result (λ item takes. inr (if_none c.take-found.result none c.take-found.ensures.none, takes)) c.take_of.ensures.some

pub returns-clause-none : goal.returns-clause-none
returns-clause-none g c =
    let none = none_of c.take-found.result (sym c.is_some.ensures ∙ c.if-is_some.false) in
    none_more c.take_of.result (λ same. (if_none c.take-found.result none c.take-found.ensures.none, same)) c.take_of.ensures.none

pub returns-clause-empty : goal.returns-clause-empty
returns-clause-empty g c =
    let none = none_of c.take-found.result (sym c.is_some.ensures ∙ c.if-is_some.false) in
    none_more c.take_of.result (λ all. (if_none c.take-found.result none c.take-found.ensures.empty, all)) c.take_of.ensures.empty
