use Rattle.std.proofs.Common.{◌≡◌, ◌+◌, ◌≤◌, suc, [], ◌∷◌, ◌++◌, length, map, take, take-suc, ap, arith}
use Rattle.std.proofs.lemmas.List.{length-map, length-take-le, map-append}
use Rattle.type_table.specs.Views.{kind_of}
use Rattle.type_table.specs.Visible.{types_of}
use Rattle.type_table.specs.Zeros.{zero_word}
use Rattle.type_table.proofs.zero.zero.Goals as goal

pub push-requires : goal.push-requires
push-requires c =
    let kind = kind_of (types_of c.args.table.now) in
    let at = c.loop-part.part-index in
    let all = c.as_slice-part-items.result.now in
    let within : at ≤ length all = omega (arith, c.loop-part-test.true) in
    omega (arith, ap length c.loop-part.invariant.words, length-map (map kind (take at all)) zero_word, length-map (take at all) kind, length-take-le at all within, c.loop-part-test.true, c.as_slice-part-items.ensures.fits)

pub loop-part-preserved : goal.loop-part-preserved
loop-part-preserved c =
    let types = types_of c.args.table.now in
    let at = c.loop-part.part-index in
    let all = c.as_slice-part-items.result.now in
    let more : at + 1 ≡ suc at = omega arith in
    let cut : take (suc at) all ≡ take at all ++ c.part-item.result ∷ [] = rw c.part-item.is (take-suc all at _ c.loop-part-test.true) in
    let here = rw (c.loop-part.invariant.words, c.zero_word.ensures types) at c.push.ensures.items in
    record {
      words = rw (more, cut, map-append (kind_of types) (take at all) (c.part-item.result ∷ []), map-append zero_word (map (kind_of types) (take at all)) (kind_of types c.part-item.result ∷ [])) here;
    }
