use Rattle.std.proofs.Common.{sym, subst}
use Rattle.kendo.specs.Verdicts.{Explores, scope_of}
use Rattle.command_line.specs.declared.arguments.Subcommand.{Subcommand}
use Rattle.command_line.specs.declared.arguments.Subcommand.TheVariants as subcommands
use Rattle.program_states.specs.declared.space.Scope.{Scope}
use Rattle.kendo.proofs.exploring.find.Goals as goal

pub returns-in-Explore : goal.returns-in-Explore
returns-in-Explore c =
    let explore = subcommands.Explore c.in-Explore.limit c.in-Explore.tries c.in-Explore.states in
    let text = c.args.bytes.items in
    let in_scope = subst (λ (scope : Scope). Explores explore scope text c.explore.result) c.scope_of.ensures c.explore.ensures in
    subst (λ (s : Subcommand). Explores s (scope_of c.args.invocation.now) text c.explore.result) (sym c.in-Explore.is) in_scope
