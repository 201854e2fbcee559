use Rattle.std.proofs.Common.{subst}
use Rattle.checker.specs.Trees.{tree_in}
use Rattle.meaning.specs.Source.{source_kind}
use Rattle.syntax.specs.Spans.{tree_of}
use Rattle.syntax.specs.Tree.{File}
use Rattle.kendo_inspect.specs.Stops.{IsAfter, IsWanted}
use Rattle.kendo_inspect.proofs.Stopping.{after, ok_so, wanted}
use Rattle.kendo_inspect.proofs.inspecting.inspect.Goals as goal

pub returns-clause-world : goal.returns-clause-world
returns-clause-world c =
    let seen = c.in_ok-seen.ensures in
    ok_so c.inspected_moment.result (λ events end. IsAfter (source_kind (tree_of (tree_in c.args.typed.now))) c.args.limit c.args.until events end) _ _ c.inspected_moment.ensures.events c.inspected_moment.ensures.end
    (subst (λ (file : File). IsAfter (source_kind file) c.args.limit c.args.until c.in_ok-seen.seen.shared.events c.in_ok-seen.seen.end) c.in_ok-watched.ensures (after _ _ _ _ _ _ c.args.until seen.bound _ seen.reached seen.seen))

pub returns-clause-wanted : goal.returns-clause-wanted
returns-clause-wanted c =
    let seen = c.in_ok-seen.ensures in
    ok_so c.inspected_moment.result (λ events end. IsWanted c.args.until events end) _ _ c.inspected_moment.ensures.events c.inspected_moment.ensures.end (wanted _ _ _ _ _ seen.reached seen.bound)
