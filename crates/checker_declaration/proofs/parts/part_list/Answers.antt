use Rattle.std.proofs.Common.{◌≡◌, [], ◌∷◌, ◌+◌, suc, map, drop, drop-cons, sym, ◌∙◌, arith}
use Rattle.std.proofs.lemmas.List.{append-nil, drop_all}
use Rattle.syntax.specs.View.{declared_of}
use Rattle.type_table.specs.Scopes.{nothing_declared, type_in}
use Rattle.typing_rules.specs.Kinds.{all_fields, fields_declared}
use Rattle.checker_declaration.specs.Parts.{fields_in}
use Rattle.checker_declaration.proofs.Tops.{one_more}
use Rattle.checker_declaration.proofs.parts.part_list.Goals as goal

pub loop-group-preserved : goal.loop-group-preserved
loop-group-preserved c =
    let types = c.args.types.now in
    let group = declared_of c.group-item.result in
    let left = drop (suc c.loop-group.group-index) c.args.groups.now in
    let more : c.loop-group.group-index + 1 ≡ suc c.loop-group.group-index = omega arith in
    let cut : drop c.loop-group.group-index c.args.groups.now ≡ c.group-item.result ∷ left = rw c.group-item.is (drop-cons c.args.groups.now c.loop-group.group-index _ c.loop-group-test.true) in
    rw more (one_more (fields_in types c.push_group.new.fields.items) (fields_in types c.loop-group.fields.items) (all_fields (type_in types nothing_declared group.type_expression) group.names) (fields_declared types (map declared_of left)) _ c.in_ok-push_group.ensures (rw cut at c.loop-group.invariant))

pub returns : goal.returns
returns c =
    let none : drop c.loop-group.group-index c.args.groups.now ≡ [] = drop_all c.loop-group.group-index c.args.groups.now c.loop-group-test.false in
    sym (append-nil (fields_in c.args.types.now c.loop-group.fields.items)) ∙ (rw none at c.loop-group.invariant)
