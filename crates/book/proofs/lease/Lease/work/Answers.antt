use Rattle.std.proofs.Common.{◌≡◌, subst}
use Rattle.std.specs.Prelude.{IfOk}
use Rattle.std.specs.Option.{is_some}
use Rattle.std.specs.Arc.{arc_value}
use Rattle.bytecode.specs.Code.{Code}
use Rattle.bytecode.specs.Machine.{code_kind}
use Rattle.clock_table.specs.Seats.{lease_clock, lease_slot}
use Rattle.goroutine_vm.specs.Advance.{Goes, IsStateOf}
use Rattle.word.specs.Kinds.{asks}
use Rattle.book.specs.Desks.{Held}
use Rattle.book.proofs.Working.{may_reach, may_rise, worked, yes_asks}
use Rattle.book.proofs.lease.Lease.work.Goals as goal

pub advance-requires-clause-rises : goal.advance-requires-clause-rises
advance-requires-clause-rises g c =
    let l = c.self.inside in
    let h : Held = record { code = arc_value l.program; limit = l.limit; number = l.number; base = l.base.value; present = l.present; slot = lease_slot l.seat; published = lease_clock l.seat } in
    let new = c.step_ahead-asking.new.self in
    let goes : Goes h.code h.limit c.args.quantum h.present new = subst (λ (code : Code). Goes code l.limit c.args.quantum l.present new) c.deref.ensures c.step_ahead-asking.ensures.steps in
    may_rise g.B.BookName.table g.B.BookName.code g.B.BookName.limit h l.seat c.args.quantum new c.self.invariant.0 goes

pub advance-requires-clause-bound : goal.advance-requires-clause-bound
advance-requires-clause-bound g c =
    let l = c.self.inside in
    let h : Held = record { code = arc_value l.program; limit = l.limit; number = l.number; base = l.base.value; present = l.present; slot = lease_slot l.seat; published = lease_clock l.seat } in
    let new = c.step_ahead-asking.new.self in
    let goes : Goes h.code h.limit c.args.quantum h.present new = subst (λ (code : Code). Goes code l.limit c.args.quantum l.present new) c.deref.ensures c.step_ahead-asking.ensures.steps in
    may_reach g.B.BookName.table g.B.BookName.code g.B.BookName.limit h l.seat c.args.quantum new c.self.invariant.0 goes

pub invariant_of-self : goal.invariant_of-self
invariant_of-self g c =
    let l = c.self.inside in
    let h : Held = record { code = arc_value l.program; limit = l.limit; number = l.number; base = l.base.value; present = l.present; slot = lease_slot l.seat; published = lease_clock l.seat } in
    let new = c.step_ahead-asking.new.self in
    let goes : Goes h.code h.limit c.args.quantum h.present new = subst (λ (code : Code). Goes code l.limit c.args.quantum l.present new) c.deref.ensures c.step_ahead-asking.ensures.steps in
    let state : IsStateOf h.code h.limit new = subst (λ (code : Code). IsStateOf code l.limit new) c.deref.ensures c.step_ahead-asking.ensures.state in
    let asked = subst (λ (code : Code). IfOk c.step_ahead-asking.result (λ x. x ≡ is_some (asks (code_kind code) l.limit new))) c.deref.ensures c.step_ahead-asking.ensures.asks in (
      worked g.B.BookName.table g.B.BookName.code g.B.BookName.limit h l.seat c.args.quantum new c.self.invariant.0 goes c.advance.new.self state c.advance.ensures.clock c.advance.ensures.same.0 c.advance.ensures.same.2,
      yes_asks c.step_ahead-asking.result c.is_yes-self-inside.result (is_some (asks (code_kind (arc_value l.program)) l.limit new)) asked c.is_yes-self-inside.ensures,
    )

pub invariant_of-self-2 : goal.invariant_of-self-2
invariant_of-self-2 g c =
    let l = c.self.inside in
    let h : Held = record { code = arc_value l.program; limit = l.limit; number = l.number; base = l.base.value; present = l.present; slot = lease_slot l.seat; published = lease_clock l.seat } in
    let new = c.step_ahead-asking.new.self in
    let goes : Goes h.code h.limit c.args.quantum h.present new = subst (λ (code : Code). Goes code l.limit c.args.quantum l.present new) c.deref.ensures c.step_ahead-asking.ensures.steps in
    let state : IsStateOf h.code h.limit new = subst (λ (code : Code). IsStateOf code l.limit new) c.deref.ensures c.step_ahead-asking.ensures.state in
    let asked = subst (λ (code : Code). IfOk c.step_ahead-asking.result (λ x. x ≡ is_some (asks (code_kind code) l.limit new))) c.deref.ensures c.step_ahead-asking.ensures.asks in (
      worked g.B.BookName.table g.B.BookName.code g.B.BookName.limit h l.seat c.args.quantum new c.self.invariant.0 goes c.advance.new.self state c.advance.ensures.clock c.advance.ensures.same.0 c.advance.ensures.same.2,
      yes_asks c.step_ahead-asking.result c.is_yes-self-inside.result (is_some (asks (code_kind (arc_value l.program)) l.limit new)) asked c.is_yes-self-inside.ensures,
    )

pub returns-clause-steps : goal.returns-clause-steps
returns-clause-steps g c =
    let l = c.self.inside in
    let goes : Goes (arc_value l.program) l.limit c.args.quantum l.present c.step_ahead-asking.new.self = subst (λ (code : Code). Goes code l.limit c.args.quantum l.present c.step_ahead-asking.new.self) c.deref.ensures c.step_ahead-asking.ensures.steps in
    subst (λ (x : Held). Goes x.code x.limit c.args.quantum x.present c.step_ahead-asking.new.self) c.self.view_is goes

pub returns-in_err-asking-clause-steps : goal.returns-in_err-asking-clause-steps
returns-in_err-asking-clause-steps g c =
    let l = c.self.inside in
    let goes : Goes (arc_value l.program) l.limit c.args.quantum l.present c.step_ahead-asking.new.self = subst (λ (code : Code). Goes code l.limit c.args.quantum l.present c.step_ahead-asking.new.self) c.deref.ensures c.step_ahead-asking.ensures.steps in
    subst (λ (x : Held). Goes x.code x.limit c.args.quantum x.present c.step_ahead-asking.new.self) c.self.view_is goes
