use Rattle.std.proofs.Common.{◌≡◌, suc, ◌≤◌, length, arith, ◌∙◌}
use Rattle.std.proofs.lemmas.List.{length-map}
use Rattle.std.proofs.lemmas.Grind.{common_steps}
use Rattle.type_table.specs.Views.{names_of, structs_of}
use Rattle.type_table.specs.Marks.{wides}
use Rattle.type_table.proofs.Widths.{known-append, none-itself, wide-more, wides-le}
use Rattle.type_table.proofs.width.all_widths.Goals as goal

pub returns-clause-wide : goal.returns-clause-wide
returns-clause-wide c = λ s w h.
    let n = c.loop-number.invariant.all in
    let le : wides c.loop-number.marks ≤ length c.loop-number.marks = wides-le c.loop-number.marks in
    wide-more (structs_of (names_of c.args.structs.now) c.args.structs.now) (suc (wides c.loop-number.marks)) (suc (length c.args.structs.now)) (omega arith) s w (c.loop-number.invariant.known s w h)

pub returns-clause-finite : goal.returns-clause-finite
returns-clause-finite c =
    let n = c.loop-number.invariant.count in
    let a = c.loop-number.auto.number-end in
    let b = c.loop-number-test.false in
    let e : length c.loop-number.all.items ≡ length (structs_of (names_of c.args.structs.now) c.args.structs.now) = rw length-map (omega arith) in
    none-itself (structs_of (names_of c.args.structs.now) c.args.structs.now) (suc (wides c.loop-number.marks)) c.loop-number.all.items e c.loop-number.invariant.known

pub loop-number-preserved : goal.loop-number-preserved
loop-number-preserved c =
    let structs = structs_of (names_of c.args.structs.now) c.args.structs.now in
    let went = c.in_ok-words.ensures.goes in
    let n = c.loop-number.invariant.count in
    let items = c.in_ok-push.ensures.items in
    record {
      closed = λ o h. c.loop-number.invariant.closed o (went.opened o h);
      all = c.one_width.auto.marks ∙ c.loop-number.invariant.all;
      stands = went.stands;
      count = rw items (grind (arith, common_steps, n));
      known = rw items (known-append structs c.loop-number.marks c.one_width.new.marks c.loop-number.all.items c.in_ok-words.words went.more c.loop-number.invariant.known (rw n c.in_ok-words.ensures.wide));
    }
