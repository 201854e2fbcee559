use Rattle.std.proofs.Common.{◌≡◌, ◌∙◌, Some, true, sym}
use Rattle.awake_rows.specs.Slots.{is_asking}
use Rattle.world_core_base.proofs.Moving.{found_asks, one_move, served_fits, then_ok, works_fit}
use Rattle.world_core_base.proofs.situation.Situation.talk_next.Goals as goal

pub returns-in-Some-actor-clause-talks : goal.returns-in-Some-actor-clause-talks
returns-in-Some-actor-clause-talks c =
    let code = c.args.code.now in
    let core = c.args.self.now in
    let mid = c.work.new.self in
    let found : c.in_ok-number.field-0 ≡ Some (c.in-Some.number, c.in-Some.talk) = c.in-Some.is in
    let asks : is_asking c.in-Some.talk ≡ true = sym c.is_asking.ensures ∙ c.if-not-is_asking.false in
    let works = found_asks code c.args.limit c.args.quantum core mid c.in_ok-number.field-0 c.in-Some.number c.in-Some.talk found asks c.in_ok-number.ensures.works in
    let actor = c.in-Some-actor.actor in
    then_ok code c.args.limit c.args.quantum core mid c.serve.new.self actor.number actor.clock c.serve.result works c.in-Some-actor.ensures.some c.serve.ensures.served

pub returns-in-Some-actor-clause-fits : goal.returns-in-Some-actor-clause-fits
returns-in-Some-actor-clause-fits c =
    let code = c.args.code.now in
    let core = c.args.self.now in
    let mid = c.work.new.self in
    let found : c.in_ok-number.field-0 ≡ Some (c.in-Some.number, c.in-Some.talk) = c.in-Some.is in
    let asks : is_asking c.in-Some.talk ≡ true = sym c.is_asking.ensures ∙ c.if-not-is_asking.false in
    let works = found_asks code c.args.limit c.args.quantum core mid c.in_ok-number.field-0 c.in-Some.number c.in-Some.talk found asks c.in_ok-number.ensures.works in
    served_fits code c.args.limit mid c.serve.new.self c.in-Some-actor.actor.number c.serve.result (works_fit code c.args.limit c.args.quantum core (Some true) mid c.requires.fits works) c.serve.ensures.served c.serve.ensures.memory

pub returns-in_default-actor-clause-talks : goal.returns-in_default-actor-clause-talks
returns-in_default-actor-clause-talks c =
    let code = c.args.code.now in
    let core = c.args.self.now in
    let mid = c.work.new.self in
    let found : c.in_ok-number.field-0 ≡ Some (c.in-Some.number, c.in-Some.talk) = c.in-Some.is in
    let asks : is_asking c.in-Some.talk ≡ true = sym c.is_asking.ensures ∙ c.if-not-is_asking.false in
    let works = found_asks code c.args.limit c.args.quantum core mid c.in_ok-number.field-0 c.in-Some.number c.in-Some.talk found asks c.in_ok-number.ensures.works in
    one_move code c.args.limit c.args.quantum core mid works

pub returns-in_default-actor-clause-fits : goal.returns-in_default-actor-clause-fits
returns-in_default-actor-clause-fits c =
    let code = c.args.code.now in
    let core = c.args.self.now in
    let mid = c.work.new.self in
    let found : c.in_ok-number.field-0 ≡ Some (c.in-Some.number, c.in-Some.talk) = c.in-Some.is in
    let asks : is_asking c.in-Some.talk ≡ true = sym c.is_asking.ensures ∙ c.if-not-is_asking.false in
    let works = found_asks code c.args.limit c.args.quantum core mid c.in_ok-number.field-0 c.in-Some.number c.in-Some.talk found asks c.in_ok-number.ensures.works in
    works_fit code c.args.limit c.args.quantum core (Some true) mid c.requires.fits works
