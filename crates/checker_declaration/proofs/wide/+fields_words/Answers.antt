use Rattle.std.proofs.Common.{rules, ◌≡◌, List, ◌∷◌, sym, subst}
use Rattle.type_table.specs.Marks.{AreWide}
use Rattle.checker_declaration.specs.declared.parts.Part.{Part}
use Rattle.checker_declaration.specs.Parts.{part_in, fields_in}
use Rattle.checker_declaration.proofs.KnownWidths.{first_field}
use Rattle.checker_declaration.proofs.wide.+fields_words.Goals as goal

pub returns-in-Some-fields_words : goal.returns-in-Some-fields_words
returns-in-Some-fields_words t c =
    let split : c.args.fields.now ≡ c.in-Some.one.now ∷ c.in-Some.rest.now = search rules in
    λ types structs depth known. subst (λ (xs : List Part). AreWide structs depth (fields_in types xs) c.together.result) (sym split)
    (first_field structs depth (part_in types c.in-Some.one.now) (fields_in types c.in-Some.rest.now) c.in-Some-kind_words.first c.in-Some-fields_words.others c.together.result
    (c.in-Some-kind_words.ensures types structs depth known) (c.in-Some-fields_words.ensures types structs depth known) c.together.ensures)
