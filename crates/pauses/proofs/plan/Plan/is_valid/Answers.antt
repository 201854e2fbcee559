use Rattle.std.proofs.Common.{◌≡◌, [], rules, sym, ◌∙◌}
use Rattle.pauses.specs.Plans.{pauses_of}
use Rattle.pauses.specs.Tests.{are_pauses}
use Rattle.pauses.proofs.Tested.{pauses_are, pauses_test}
use Rattle.pauses.proofs.plan.Plan.is_valid.Goals as goal

pub returns : goal.returns
returns c =
    let ps = pauses_of c.args.self.now.pauses.items in
    let same : c.are_pauses.result ≡ are_pauses [] ps = search rules in
    (λ h. pauses_are [] ps (sym same ∙ h), λ h. same ∙ pauses_test [] ps h)
