use Rattle.std.proofs.Common.{ap, ap₂, ◌≡◌, ◌∙◌, ◌||◌}
use Rattle.clap.specs.Simple.{app_of_fields}
use Rattle.clap.specs.Words.{app_of, new_app}
use Rattle.command_line.specs.CommandLine.{with_rules}
use Rattle.command_line.proofs.CommandLine.{all_taken, one_taken}
use Rattle.command_line.proofs.arguments.text_command.Goals as goal

pub loop-argument-init : goal.loop-argument-init
loop-argument-init c =
    let named : app_of c.after_help-command.result ≡ new_app c.args.listed.now.name.now =
    ap app_of_fields c.after_help-command.ensures ∙ ap app_of_fields c.about.ensures ∙ c.new.ensures.app in
    record {
      app = ap (λ a. with_rules a c.args.listed.now.arguments.now) named;
      local = ap (λ f. f.has_globals) c.after_help-command.ensures ∙ ap (λ f. f.has_globals) c.about.ensures ∙ c.new.ensures.local;
    }

pub loop-argument-preserved : goal.loop-argument-preserved
loop-argument-preserved c =
    let adds = c.in_ok-command.ensures in
    record {
      app = one_taken _ _ _ c.args.listed.now.arguments.now c.loop-argument.argument-index _ _ c.loop-argument-test.true c.argument_of.ensures.0 (adds.shape c.argument_of.ensures.1) c.loop-argument.invariant.app;
      local = adds.globals ∙ ap₂ ◌||◌ c.loop-argument.invariant.local c.argument_of.ensures.1;
    }

pub returns-clause-app : goal.returns-clause-app
returns-clause-app c = all_taken _ _ c.args.listed.now.arguments.now c.loop-argument.argument-index c.loop-argument-test.false c.loop-argument.invariant.app

pub returns-clause-local : goal.returns-clause-local
returns-clause-local c = c.loop-argument.invariant.local
