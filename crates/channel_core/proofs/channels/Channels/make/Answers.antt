use Rattle.std.proofs.Common.{◌≡◌, rules, subst, sym, ℤ}
use mir.Syntax.{w64}
use mir.Val.{to_z, of_z}
use Rattle.std.proofs.Math.Facts.{to_z-of_z}
use Rattle.word.specs.Values.{Make}
use Rattle.channel_core.specs.Channels.{Does, came}
use Rattle.channel_core.specs.declared.outcome.Outcome.{Outcome}
use Rattle.channel_core.proofs.channels.Channels.make.Goals as goal

pub returns-clause-does : goal.returns-clause-does
returns-clause-does c =
    let same : to_z w64 (of_z w64 c.args.size) ≡ c.args.size = search (rules, to_z-of_z) in
    λ n. subst (λ (outcome : Outcome). Does c.args.self.now n (Make c.args.size c.args.zero) outcome c.make_asked.new.self) (sym c.of.ensures)
    (subst (λ (size : ℤ). Does c.args.self.now n (Make size c.args.zero) (came c.make_asked.new.outcome c.make_asked.new.woken) c.make_asked.new.self) same (c.in_ok-make_asked.ensures.does n c.make_asked.new.woken c.make_asked.ensures.nobody))
