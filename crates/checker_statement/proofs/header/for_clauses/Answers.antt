use Rattle.std.proofs.Common.{option_map}
use Rattle.std.proofs.lemmas.Result.{IfOk-weaker}
use Rattle.syntax.specs.View.{expression_of, simple_of}
use Rattle.type_table.specs.Visible.{globals_in, scope_of}
use Rattle.checker_statement.proofs.Headers.{clauses_free}
use Rattle.checker_statement.proofs.header.for_clauses.Goals as goal

pub returns-clause-none : goal.returns-clause-none
returns-clause-none c =
    IfOk-weaker c.post_statement.result _ _ (λ _ post violation has. clauses_free (globals_in c.args.table.now) (scope_of c.args.table.now c.args.visible.now) (scope_of c.args.table.now c.optional_simple.new.visible)
    c.args.first c.in_ok-middle.middle c.in_ok-following.following
    (option_map simple_of c.args.header.first.now) (option_map expression_of c.args.header.condition.now) (option_map simple_of c.args.header.post.now) violation
    c.in_ok-middle.ensures.after c.in_ok-middle.ensures.end c.in_ok-following.ensures.end
    (c.in_ok-middle.ensures.none violation) (c.in_ok-following.ensures.none violation) (post violation) has) c.post_statement.ensures.none
