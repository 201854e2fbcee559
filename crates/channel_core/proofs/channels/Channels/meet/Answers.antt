use Rattle.std.proofs.Common.{◌≡◌, ◌∙◌, ap, rules, sym, ℤ}
use mir.Syntax.{w64}
use mir.Val.{to_z, of_z}
use Rattle.std.proofs.Math.Facts.{to_z-of_z}
use Rattle.word.specs.Values.{Make}
use Rattle.word.specs.Views.{request_of}
use Rattle.channel_core.proofs.Deeds.{nobody_woken}
use Rattle.channel_core.proofs.channels.Channels.meet.Goals as goal

pub returns-in-Make-clause-does : goal.returns-in-Make-clause-does
returns-in-Make-clause-does c =
    let size : ℤ = to_z w64 (of_z w64 c.in-Make.size) in
    let same : to_z w64 (of_z w64 c.in-Make.size) ≡ c.in-Make.size = search (rules, to_z-of_z) in
    nobody_woken c.args.self.now c.make_asked.new.self c.args.number (request_of c.args.request.now) (Make size c.in-Make.zero) c.make_asked.new.outcome c.make_asked.new.woken c.make_asked.result c.make_asked.ensures.nobody
    (ap request_of c.in-Make.is ∙ ap (λ (n : ℤ). Make n c.in-Make.zero) (sym same)) c.make_asked.ensures.does
