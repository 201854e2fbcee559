use Rattle.std.proofs.Common.{rules, arith, ◌∷◌, [], length, length-append, ap, sym, ◌∙◌}
use Rattle.std.specs.Option.{is_some}
use Rattle.codegen_expression.specs.Indexes.{place_in}
use Rattle.codegen_expression.proofs.Finding.{list_noted}
use Rattle.codegen_expression.proofs.element_list.ElementList.note.Goals as goal

pub invariant_of-self-inside-in-Ok : goal.invariant_of-self-inside-in-Ok
invariant_of-self-inside-in-Ok c = (
  omega (arith, ap length c.in_ok-push.ensures.items, length-append c.self.inside.elements.items (c.args.element ∷ []), rw (← c.self.view_is) at c.requires),
  (
    list_noted c.self.inside.elements.items c.push.new.self.items c.args.element c.len-place.result (place_in c.self.inside.places) (place_in c.insert.new.self) c.in_ok-push.ensures.items (search rules)
        (rw (← c.self.view_is) at (ap is_some (sym c.found_at.ensures) ∙ sym c.is_some.ensures ∙ c.if-is_some.false)) c.self.inside.found (λ x. c.in-Ok.ensures.updates.0 x),
    tt,
  ),
)
