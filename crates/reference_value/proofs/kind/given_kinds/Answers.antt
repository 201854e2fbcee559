use Rattle.std.proofs.Common.{◌≡◌, ◌==◌, ◌&&◌, ◌∙◌, false, map, sym}
use Rattle.std.proofs.lemmas.List.{append-nil}
use Rattle.syntax.specs.View.{expression_of}
use Rattle.type_table.specs.Visible.{types_of, globals_in}
use Rattle.meaning.specs.Expressions.{type_of}
use Rattle.reference_value.specs.Rights.{is_lone_receive}
use Rattle.reference_scope.specs.Scopes.{blocks_of}
use Rattle.reference_value.proofs.Types.{kinds_given}
use Rattle.reference_value.proofs.kind.given_kinds.Goals as goal

pub returns-in-None : goal.returns-in-None
returns-in-None c =
    let globals = globals_in c.args.table.now in
    let blocks = blocks_of (types_of c.args.table.now) c.args.scope.now in
    let right = map expression_of c.args.right.now in
    let other : ((c.args.count == 2) && is_lone_receive right) ≡ false = sym c.in-None.ensures.is in
    rw (kinds_given globals blocks c.args.count right, other) (c.in_ok-kinds.ensures ∙ sym (append-nil (map (type_of globals blocks) right)))
