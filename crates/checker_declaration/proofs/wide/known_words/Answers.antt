use Rattle.std.proofs.Common.{◌≡◌, ℕ, suc, ◌+◌, length, subst, arith}
use Rattle.checker_declaration.specs.Parts.{structs_in, AreKnown}
use Rattle.checker_declaration.proofs.KnownWidths.{known_at_last}
use Rattle.checker_declaration.proofs.wide.known_words.Goals as goal

pub loop-place-preserved : goal.loop-place-preserved
loop-place-preserved c = λ types.
    let e : suc c.loop-place.place ≡ c.loop-place.place + 1 = omega arith in
    subst (λ (k : ℕ). AreKnown (structs_in types c.args.all.now) k c.note_words.new.known.items) e (c.note_words.ensures types c.loop-place.place (c.loop-place.invariant types))

pub returns : goal.returns
returns c = λ types.
    known_at_last (structs_in types c.args.all.now) c.loop-place.place (length c.args.all.now) c.loop-place.known.items (omega (arith, c.loop-place-test.false, c.loop-place.auto.place-end)) (c.loop-place.invariant types)

pub returns-in_default : goal.returns-in_default
returns-in_default c = λ types.
    known_at_last (structs_in types c.args.all.now) c.loop-place.place (length c.args.all.now) c.loop-place.known.items (omega (arith, c.loop-place-test.true, c.loop-place.auto.place-end)) (c.loop-place.invariant types)
