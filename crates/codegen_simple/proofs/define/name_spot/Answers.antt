use Rattle.std.proofs.Common.{rules, ◌≡◌, true}
use Rattle.syntax.specs.View.{name_of}
use Rattle.type_table.specs.Views.{kind_of}
use Rattle.type_table.specs.Visible.{globals_in, types_of}
use Rattle.typing_rules.specs.Simples.{is_declarable}
use Rattle.codegen_simple.specs.Layouts.{layout_of}
use Rattle.codegen_simple.proofs.Naming.{new_spot}
use Rattle.codegen_simple.proofs.define.name_spot.Goals as goal

pub returns-then-is_declarable-clause-spot : goal.returns-then-is_declarable-clause-spot
returns-then-is_declarable-clause-spot c =
    let globals = globals_in c.args.context.now.table.now in
    let layout = layout_of c.args.context.now.table.now c.args.layout.now in
    let kind = kind_of (types_of c.args.context.now.table.now) c.args.kind in
    let is : is_declarable layout.scope (name_of c.args.name.now) ≡ true = search rules in
    new_spot globals c.args.context.now.elements.now layout (name_of c.args.name.now) kind c.in_ok-place.place c.words_of.result is c.in_ok-place.ensures.fits (c.words_of.ensures layout.scope)
