use Rattle.std.proofs.Common.{◌+◌, ◌≤◌, ◌∙◌, length, sym, subst, arith}
use Rattle.bytecode.specs.Rules.{ways}
use Rattle.verifier.specs.Tables.{Spread}
use Rattle.verifier.proofs.Visits.{all_kept, grown, kept, ways_reached}
use Rattle.verifier.proofs.paths.spread.Goals.{in-Kept, in-Grown}
use Rattle.verifier.proofs.paths.spread.Goals as goal

pub follow-requires-clause-paths : goal.follow-requires-clause-paths
follow-requires-clause-paths c = ways_reached c.args.code.now c.args.f.now c.args.table.now.items c.args.place c.args.i c.args.kinds.now c.args.at c.requires.reached c.requires.leads

pub loop-number-preserved : goal.loop-number-preserved
loop-number-preserved c =
    let code = c.args.code.now in
    let f = c.args.f.now in
    let old = c.args.table.now.items in
    let mid = c.loop-number.table.items in
    let new = c.follow.new.table.items in
    let n = c.loop-number.number in
    let s = c.loop-number.invariant.spread in
    record {
      len = c.in_ok-follow.ensures.len ∙ c.loop-number.invariant.len;
      reached = c.in_ok-follow.ensures.reached;
      spread = elim c.match-branch-2.branch [
        | in-Kept w ↦ subst (λ b. Spread b code f old new c.args.place c.args.i c.args.kinds.now (n + 1)) (sym w.grew-is)
            (kept code f old c.args.place c.args.i c.args.kinds.now c.loop-number.grew mid new n s (rw w.in-Kept.is at c.in_ok-follow.ensures.ok))
        | in-Grown w ↦ subst (λ b. Spread b code f old new c.args.place c.args.i c.args.kinds.now (n + 1)) (sym w.grew-is)
            (grown code f old c.args.place c.args.i c.args.kinds.now c.loop-number.grew mid new n s (rw w.in-Grown.is at c.in_ok-follow.ensures.ok))
      ];
    }

pub returns-else-grew-clause-ok : goal.returns-else-grew-clause-ok
returns-else-grew-clause-ok c =
    let code = c.args.code.now in
    let f = c.args.f.now in
    let old = c.args.table.now.items in
    let all : length (ways code c.args.i c.args.place) ≤ c.loop-number.number = let e = c.way_count-number-end.ensures c.args.place in omega (arith, e, c.loop-number-test.false) in
    all_kept code f old c.args.place c.args.i c.args.kinds.now c.args.at c.loop-number.table.items c.loop-number.number c.requires.leads all
    (subst (λ b. Spread b code f old c.loop-number.table.items c.args.place c.args.i c.args.kinds.now c.loop-number.number) c.if-grew.false c.loop-number.invariant.spread)
