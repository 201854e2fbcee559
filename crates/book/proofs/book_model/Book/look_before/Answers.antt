use Rattle.std.proofs.Common.{refl, sym}
use Rattle.std.proofs.lemmas.Bool.{true≢false}
use Rattle.book.proofs.Settling.{looked_rises, seen_ending, seen_only, turn_after, waits_looked, waits_other}
use Rattle.book.proofs.book_model.Book.look_before.Goals as goal

pub returns-then-not-is_lent-clause-some : goal.returns-then-not-is_lent-clause-some
returns-then-not-is_lent-clause-some g c =
    waits_other c.args.self.now c.loop-number.self c.in-Some.number c.args.key.now c.blocker.ensures.stands c.requires.ending c.requires.least c.loop-number.invariant.only (λ lent. true≢false (sym (c.if-not-is_lent.ensures.1 lent))) c.in-Some.ensures.blocker

pub returns-then-stands_before-clause-some : goal.returns-then-stands_before-clause-some
returns-then-stands_before-clause-some g c =
    waits_looked c.args.self.now c.loop-number.self c.look.new.self c.in-Some.number c.args.key.now c.blocker.ensures.stands c.requires.ending c.requires.least c.loop-number.invariant.only c.look.ensures (c.if-stands_before.ensures.0 refl)

pub loop-number-smaller : goal.loop-number-smaller
loop-number-smaller g c = looked_rises c.loop-number.self c.look.new.self c.in-Some.number c.args.key.now c.in-Some.ensures.blocker c.look.ensures (λ before. true≢false (sym (c.if-stands_before.ensures.1 before)))

pub loop-number-preserved : goal.loop-number-preserved
loop-number-preserved g c =
    let i = c.loop-number.invariant in
    record {
      only = seen_only c.args.self.now c.loop-number.self c.look.new.self c.in-Some.number i.only c.look.ensures;
      going = seen_ending c.loop-number.self c.look.new.self c.in-Some.number i.going c.look.ensures;
    }

pub returns-clause-none : goal.returns-clause-none
returns-clause-none g c =
    let only = c.loop-number.invariant.only in
    (only, turn_after c.args.self.now c.loop-number.self c.args.key.now c.requires.ending c.requires.least only c.in_default.ensures.blocker)
