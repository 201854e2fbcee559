use Rattle.std.proofs.Common.{◌≡◌, length, refl}
use Rattle.std.proofs.lemmas.List.{length-map}
use Rattle.type_table.specs.Views.{names_of, structs_of}
use Rattle.type_table.proofs.Tables.{widths_are}
use Rattle.type_table.proofs.table.TypeTable.new.Goals as goal

pub invariant_of-result : goal.invariant_of-result
invariant_of-result c =
    let structs = structs_of (names_of c.args.structs.items) c.args.structs.items in
    let e : length c.args.structs.items ≡ length structs = rw length-map refl in
    record {
      named = c.requires.named;
      called = c.requires.called;
      sized = widths_are structs c.args.widths.items (length c.args.structs.items) c.requires.count e c.requires.wide c.requires.narrow;
      narrow = c.requires.narrow;
    }
