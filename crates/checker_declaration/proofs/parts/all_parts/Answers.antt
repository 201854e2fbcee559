use Rattle.std.proofs.Common.{◌≡◌, [], ◌∷◌, ◌+◌, suc, map, drop, drop-cons, sym, ◌∙◌, arith}
use Rattle.std.proofs.lemmas.List.{append-nil, drop_all}
use Rattle.syntax.specs.View.{top_of}
use Rattle.typing_rules.specs.Kinds.{struct_in, structs_with}
use Rattle.checker_declaration.specs.Parts.{structs_in}
use Rattle.checker_declaration.proofs.Tops.{one_more}
use Rattle.checker_declaration.proofs.parts.all_parts.Goals as goal

pub loop-top-preserved : goal.loop-top-preserved
loop-top-preserved c =
    let types = c.args.types.now in
    let left = drop (suc c.loop-top.top-index) c.args.tops.now in
    let more : c.loop-top.top-index + 1 ≡ suc c.loop-top.top-index = omega arith in
    let cut : drop c.loop-top.top-index c.args.tops.now ≡ c.top-item.result ∷ left = rw c.top-item.is (drop-cons c.args.tops.now c.loop-top.top-index _ c.loop-top-test.true) in
    rw more (one_more (structs_in types c.push_struct.new.all.items) (structs_in types c.loop-top.all.items) (struct_in types (top_of c.top-item.result)) (structs_with types (map top_of left)) _ c.in_ok-push_struct.ensures (rw cut at c.loop-top.invariant))

pub returns : goal.returns
returns c =
    let none : drop c.loop-top.top-index c.args.tops.now ≡ [] = drop_all c.loop-top.top-index c.args.tops.now c.loop-top-test.false in
    sym (append-nil (structs_in c.args.types.now c.loop-top.all.items)) ∙ (rw none at c.loop-top.invariant)
