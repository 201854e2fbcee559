use Rattle.std.proofs.Common.{rules, ◌≡◌, ◌∙◌, Some, slice_get, sym}
use Rattle.std.proofs.lemmas.Option.{same_Some}
use Rattle.codegen_base.specs.declared.element.Element.TheVariants as variants
use Rattle.codegen_base.specs.Elements.{found_at}
use Rattle.codegen_expression.proofs.Finding.{stands_there}
use Rattle.codegen_expression.proofs.channel.place_within.Goals as goal

pub returns-in-Some-Channel : goal.returns-in-Some-Channel
returns-in-Some-Channel c = λ element placed.
    let all = c.args.elements.now in
    let at : found_at all element ≡ Some c.in_ok-place.field-0 = rw c.in_ok-place.was at placed in
    let here : slice_get all c.in_ok-place.field-0 ≡ Some (variants.Channel c.in-Some-Channel.carried) = search rules in
    (same_Some element (variants.Channel c.in-Some-Channel.carried) (sym (stands_there all element c.in_ok-place.field-0 at) ∙ here), c.if-carried-gt0.true)
