use Rattle.std.proofs.Common.{rules, ◌≡◌, ℕ, ◌+◌, true, false, List, [], ◌∷◌, ◌++◌, cond, None, Some, option_map, length, refl, sym, ap, ◌∙◌, subst, drop}
use Rattle.std.specs.Option.{is_none, is_some}
use Rattle.std.specs.Prelude.{map, slice_set}
use Rattle.bytecode.specs.declared.instr.Instr.{Instr}
use Rattle.bytecode.specs.declared.instr.Instr.TheVariants as instrs
use Rattle.typing_rules.specs.Statements.{head_simple}
use Rattle.std.proofs.lemmas.List.{drop_all}
use Rattle.syntax.specs.declared.node.ClauseNode.{ClauseNode}
use Rattle.syntax.specs.declared.node.StatementNode.{StatementNode}
use Rattle.syntax.specs.View.{OneClause, body_of, branch_of, clause_of, clauses, comm_of, expression_of, if_head_of, otherwise_of, simple_of, statement_of, target_of}
use Rattle.syntax.specs.declared.node.ElseNode.TheFolds.{the_lemmas}
use Rattle.syntax.proofs.Nodes.{branch_is, clause_is}
use Rattle.syntax.specs.Tree.{Clause, Conditional, NoClause, NoElse}
use Rattle.type_table.specs.Views.{kind_of, yield_of}
use Rattle.type_table.specs.Visible.{globals_in, types_of}
use Rattle.meaning.specs.Variables.{blank}
use Rattle.plan.specs.Plan.{Skip}
use Rattle.codegen_base.specs.Generated.{made_branch, made_default, select_table}
use Rattle.codegen_base.specs.Layouts.{declaring, keeping, type_of}
use Rattle.codegen_base.specs.Pushes.{drops}
use Rattle.codegen_base.specs.Statements.{width}
use Rattle.codegen_header.specs.Layouts.{layout_of}
use Rattle.codegen_header.specs.Simples.{Appends}
use Rattle.codegen_emission.specs.Items.{made_item}
use Rattle.codegen_emission.proofs.Ranging.{emits_item, emits_items, emits_range}
use Rattle.codegen_flow.specs.declared.waits.Wait.{Wait}
use Rattle.codegen_emission.specs.declared.emitter.Emitter.{Emitter}
use Rattle.codegen_flow.specs.Waits.{filled, settled}
use Rattle.codegen_flow.specs.Closed.{closed}
use Rattle.codegen_flow.specs.declared.select.Held.{Held}
use Rattle.codegen_flow.specs.Selects.{any_control, after_select, no_table}
use Rattle.codegen_emission.specs.Ways.{Reaches, Ways, default_start, made_way, or_nothing, ways_left}
use Rattle.codegen_emission.proofs.Choosing.{reaches, reaches_more}
use Rattle.codegen_emission.proofs.Defaults.{all_ways, default_here, default_later, default_none, default_nowhere, default_way, next_clause, reaches_past}
use Rattle.codegen_emission.proofs.Selecting.{emits_as_is, emits_comm, emits_select}
use Rattle.codegen_flow.specs.Controls.{Control, control}
use Rattle.codegen_emission.specs.Emitted.{Emits, site_of}
use Rattle.codegen_emission.proofs.Emitting.{emits_nothing}
use Rattle.codegen_emission.proofs.Referred.{of_copied}
use Rattle.codegen_emission.proofs.Listing.{begins_all, begins_cut, begins_more, emits_block, next_statement}
use Rattle.codegen_emission.specs.Branches.{made_condition, made_other, made_within}
use Rattle.codegen_emission.specs.Turns.{made_turns}
use Rattle.codegen_emission.proofs.Blocks.{Entered, Left, emits_headed}
use Rattle.codegen_emission.proofs.Branching.{Beside, emits_one_way, emits_two_ways}
use Rattle.codegen_emission.proofs.Turning.{emits_tested, emits_untested}
use Rattle.codegen_emission.proofs.statement.+statement.Goals as goal

pub emit_block-returns : goal.emit_block-returns
emit_block-returns t c =
    let e0 = c.args.emitter.now in
    let e2 = c.emit_statements.new.emitter in
    emits_block c.args.context.now.program.now.table.now (globals_in c.args.context.now.program.now.table.now) c.args.context.now.program.now.elements.now (yield_of (types_of c.args.context.now.program.now.table.now) c.args.context.now.result_type) (body_of c.args.body.now) e0 (record { code = e0.code; prints = e0.prints; selects = e0.selects; layout = c.enter-mark.new.layout; marks = e0.marks }) e2
    (record { code = e2.code; prints = e2.prints; selects = e2.selects; layout = c.leave.new.layout; marks = e2.marks }) c.enter-mark.result.count c.enter-mark.result.outer (control c.in_ok-flow.flow) refl refl refl (c.enter-mark.ensures.layout c.args.context.now.program.now.table.now) c.enter-mark.ensures.kept
    c.enter-mark.ensures.count c.enter-mark.ensures.outer c.in_ok-flow.ensures refl refl refl c.leave.ensures.entries c.leave.ensures.outer c.leave.ensures.words c.leave.ensures.locals

pub emit_statements-returns-then-not-goes_on : goal.emit_statements-returns-then-not-goes_on
emit_statements-returns-then-not-goes_on t c =
    let table = c.args.context.now.program.now.table.now in
    begins_cut table (globals_in table) c.args.context.now.program.now.elements.now (yield_of (types_of table) c.args.context.now.result_type) c.args.emitter.now c.loop-statement.emitter c.emit_marked.new.emitter (control c.loop-statement.flow) (control c.in_ok-one.one) (control c.join.new.flow) (statement_of c.statement-item.result)
    (body_of (drop (c.loop-statement.statement-index + 1) c.args.body.now)) (body_of (drop c.loop-statement.statement-index c.args.body.now)) (body_of c.args.body.now) (next_statement c.loop-statement.statement-index c.statement-item.result c.args.body.now c.loop-statement-test.true c.statement-item.is) c.loop-statement.invariant c.if-not-goes_on.true c.in_ok-one.ensures c.in_ok-join.ensures

pub emit_statements-loop-statement-preserved : goal.emit_statements-loop-statement-preserved
emit_statements-loop-statement-preserved t c =
    let table = c.args.context.now.program.now.table.now in
    let all = c.args.body.now in
    let i = c.loop-statement.statement-index in
    begins_more table (globals_in table) c.args.context.now.program.now.elements.now (yield_of (types_of table) c.args.context.now.result_type) c.args.emitter.now c.loop-statement.emitter c.emit_marked.new.emitter (control c.loop-statement.flow) (control c.in_ok-one.one) (control c.join.new.flow) (statement_of c.statement-item.result)
    (body_of (drop (i + 1) all)) (body_of (drop i all)) (body_of all) (next_statement i c.statement-item.result all c.loop-statement-test.true c.statement-item.is) c.loop-statement.invariant c.if-not-goes_on.false c.in_ok-one.ensures c.in_ok-join.ensures

pub emit_statements-returns : goal.emit_statements-returns
emit_statements-returns t c =
    let table = c.args.context.now.program.now.table.now in
    let all = c.args.body.now in
    let i = c.loop-statement.statement-index in
    begins_all table (globals_in table) c.args.context.now.program.now.elements.now (yield_of (types_of table) c.args.context.now.result_type) c.args.emitter.now c.loop-statement.emitter (control c.loop-statement.flow) (body_of (drop i all)) (body_of all) (ap body_of (drop_all i all c.loop-statement-test.false)) c.loop-statement.invariant

pub emit_endless-returns : goal.emit_endless-returns
emit_endless-returns t c =
    let table = c.args.context.now.program.now.table.now in
    let e0 = c.args.emitter.now in
    let e1 = c.emit_block.new.emitter in
    let e2 = c.emit_round.new.emitter in
    let e3 : Emitter = record { code = c.fill.new.code; prints = e2.prints; selects = e2.selects; layout = e2.layout; marks = e2.marks } in
    let flow = control c.in_ok-within.within in
    let post = option_map (λ (s : _). simple_of s.now) c.args.post in
    let stop = c.in_ok-stop.stop in
    let again = c.in_ok-again.again in
    let done : e3.code.items ≡ filled flow.waits stop again e2.code.items = c.fill.ensures ∙ ap (λ (ws : List Wait). filled ws stop again e2.code.items) c.as_slice.ensures.value in
    emits_untested table (globals_in table) c.args.context.now.program.now.elements.now (yield_of (types_of table) c.args.context.now.result_type) (body_of c.args.body.now) post c.comes_round-turns.result e0 e1 e2 e3 flow (control c.after_loop.result) c.in_ok-head.head again stop
    c.in_ok-within.ensures c.comes_round-turns.ensures c.in_ok-head.ensures.place c.in_ok-again.ensures.place c.in_ok-emit_round.ensures c.in_ok-stop.ensures.place done (record { prints = refl; selects = refl; layout = refl }) c.after_loop.ensures

pub emit_tested-returns : goal.emit_tested-returns
emit_tested-returns t c =
    let table = c.args.context.now.program.now.table.now in
    let e0 = c.args.emitter.now in
    let e1 : Emitter = record { code = c.push_test.new.code; prints = e0.prints; selects = e0.selects; layout = e0.layout; marks = e0.marks } in
    let e2 : Emitter = record { code = c.hold_test.new.code; prints = e0.prints; selects = e0.selects; layout = e0.layout; marks = e0.marks } in
    let e3 = c.emit_block.new.emitter in
    let e4 = c.emit_round.new.emitter in
    let e5 : Emitter = record { code = c.fill.new.code; prints = e4.prints; selects = e4.selects; layout = e4.layout; marks = e4.marks } in
    let flow = control c.in_ok-within.within in
    let post = option_map (λ (s : _). simple_of s.now) c.args.post in
    let stop = c.in_ok-stop.stop in
    let again = c.in_ok-again.again in
    let done : e5.code.items ≡ filled flow.waits stop again (slice_set e4.code.items (length e1.code.items) (instrs.Unless stop)) =
    c.fill.ensures ∙ ap (λ (ws : List Wait). filled ws stop again c.aim.new.code.items) c.as_slice.ensures.value ∙ ap (λ (l : List Instr). filled flow.waits stop again l) (c.aim.ensures ∙ ap (λ n. slice_set e4.code.items n (instrs.Unless stop)) c.in_ok-test.ensures.place) in
    let same : Beside e0 e0 = record { prints = refl; selects = refl; layout = refl } in
    emits_tested table (globals_in table) c.args.context.now.program.now.elements.now (yield_of (types_of table) c.args.context.now.result_type) (expression_of c.args.condition.now) (body_of c.args.body.now) post c.comes_round-turns.result e0 e1 e2 e3 e4 e5 flow (control c.through.result) c.in_ok-head.head again stop
    c.in_ok-push_test.ensures (record { prints = refl; selects = refl; layout = refl }) c.in_ok-test.ensures.held (record { prints = refl; selects = refl; layout = refl }) c.in_ok-within.ensures c.comes_round-turns.ensures c.in_ok-head.ensures.place c.in_ok-again.ensures.place c.in_ok-emit_round.ensures c.in_ok-stop.ensures.place done
    (record { prints = refl; selects = refl; layout = refl }) c.through.ensures

pub emit_clauses-returns : goal.emit_clauses-returns
emit_clauses-returns t c =
    let table = c.args.context.now.program.now.table.now in
    let globals = globals_in table in
    let elements = c.args.context.now.program.now.elements.now in
    let result = yield_of (types_of table) c.args.context.now.result_type in
    let e0 = c.args.emitter.now in
    let e1 : Emitter = record { code = e0.code; prints = e0.prints; selects = e0.selects; layout = c.enter-mark.new.layout; marks = e0.marks } in
    let e2 = c.emit_any.new.emitter in
    let e3 = c.emit_turns.new.emitter in
    let e4 : Emitter = record { code = e3.code; prints = e3.prints; selects = e3.selects; layout = c.leave.new.layout; marks = e3.marks } in
    let first = option_map (λ (s : _). simple_of s.now) c.args.first in
    let condition = option_map (λ (e : _). expression_of e.now) c.args.condition in
    let post = option_map (λ (s : _). simple_of s.now) c.args.post in
    let flow = control c.in_ok-flow.flow in
    let mark = c.enter-mark.result in
    let entered : Entered table e0 e1 mark.count mark.outer =
    record { code = refl; prints = refl; selects = refl; layout = c.enter-mark.ensures.layout table; entries = c.enter-mark.ensures.kept; count_is = c.enter-mark.ensures.count; outer_is = c.enter-mark.ensures.outer } in
    let left : Left e3 e4 mark.count mark.outer = record { code = refl; prints = refl; selects = refl; entries = c.leave.ensures.entries; outer_is = c.leave.ensures.outer; words = c.leave.ensures.words; locals = c.leave.ensures.locals } in
    emits_headed table globals elements first (λ site. made_turns globals elements result site condition (body_of c.args.body.now) post) e0 e1 e2 e3 e4 mark.count mark.outer flow entered c.in_ok-emit_any.ensures c.in_ok-flow.ensures left

pub emit_branch-returns : goal.emit_branch-returns
emit_branch-returns t c =
    let table = c.args.context.now.program.now.table.now in
    let globals = globals_in table in
    let elements = c.args.context.now.program.now.elements.now in
    let result = yield_of (types_of table) c.args.context.now.result_type in
    let branch = c.args.branch.now in
    let e0 = c.args.emitter.now in
    let e1 : Emitter = record { code = e0.code; prints = e0.prints; selects = e0.selects; layout = c.enter-mark.new.layout; marks = e0.marks } in
    let e2 = c.emit_head.new.emitter in
    let e3 = c.emit_ways.new.emitter in
    let e4 : Emitter = record { code = e3.code; prints = e3.prints; selects = e3.selects; layout = c.leave.new.layout; marks = e3.marks } in
    let flow = control c.in_ok-flow.flow in
    let mark = c.enter-mark.result in
    let entered : Entered table e0 e1 mark.count mark.outer =
    record { code = refl; prints = refl; selects = refl; layout = c.enter-mark.ensures.layout table; entries = c.enter-mark.ensures.kept; count_is = c.enter-mark.ensures.count; outer_is = c.enter-mark.ensures.outer } in
    let left : Left e3 e4 mark.count mark.outer = record { code = refl; prints = refl; selects = refl; entries = c.leave.ensures.entries; outer_is = c.leave.ensures.outer; words = c.leave.ensures.words; locals = c.leave.ensures.locals } in
    let done = emits_headed table globals elements (head_simple (if_head_of branch.header)) (λ site. made_condition globals elements result site (expression_of branch.condition) (body_of branch.body.items) (otherwise_of branch.otherwise)) e0 e1 e2 e3 e4 mark.count mark.outer flow entered
    c.in_ok-emit_head.ensures c.in_ok-flow.ensures left in
    let is : branch_of branch ≡ Conditional (if_head_of branch.header) (expression_of branch.condition) (body_of branch.body.items) (otherwise_of branch.otherwise) = branch_is branch in
    subst (λ b. Emits table e0 e4 flow (made_branch globals elements result (site_of table e0) b)) (sym is) done

pub emit_one_way-returns : goal.emit_one_way-returns
emit_one_way-returns t c =
    let table = c.args.context.now.program.now.table.now in
    let globals = globals_in table in
    let elements = c.args.context.now.program.now.elements.now in
    let result = yield_of (types_of table) c.args.context.now.result_type in
    let e0 = c.args.emitter.now in
    let e1 : Emitter = record { code = c.push_test.new.code; prints = e0.prints; selects = e0.selects; layout = e0.layout; marks = e0.marks } in
    let e2 : Emitter = record { code = c.hold_test.new.code; prints = e0.prints; selects = e0.selects; layout = e0.layout; marks = e0.marks } in
    let e3 = c.emit_block.new.emitter in
    let e4 : Emitter = record { code = c.end_test.new.code; prints = e3.prints; selects = e3.selects; layout = e3.layout; marks = e3.marks } in
    let so = made_within globals elements result (site_of table e0) (body_of c.args.branch.now.body.items) in
    let within = subst (λ (b : List StatementNode). Emits table e2 e3 (control c.in_ok-flow.flow) (made_within globals elements result (site_of table e0) (body_of b))) c.as_slice-body.ensures.value c.in_ok-flow.ensures in
    let next = length e3.code.items in
    let set : e4.code.items ≡ slice_set e3.code.items (length e1.code.items) (instrs.Unless next) = c.in_ok-end_test.ensures.ended ∙ ap (λ n. slice_set e3.code.items n (instrs.Unless next)) c.in_ok-test.ensures.place in
    emits_one_way table globals elements result (expression_of c.args.branch.now.condition) so e0 e1 e2 e3 e4 (control c.in_ok-flow.flow) (control c.may_end.new.flow) next c.in_ok-push_test.ensures (record { prints = refl; selects = refl; layout = refl })
    c.in_ok-test.ensures.held (record { prints = refl; selects = refl; layout = refl }) within refl set (record { prints = refl; selects = refl; layout = refl }) c.may_end.ensures

pub emit_two_ways-returns : goal.emit_two_ways-returns
emit_two_ways-returns t c =
    let table = c.args.context.now.program.now.table.now in
    let globals = globals_in table in
    let elements = c.args.context.now.program.now.elements.now in
    let result = yield_of (types_of table) c.args.context.now.result_type in
    let e0 = c.args.emitter.now in
    let e1 : Emitter = record { code = c.push_test.new.code; prints = e0.prints; selects = e0.selects; layout = e0.layout; marks = e0.marks } in
    let e2 : Emitter = record { code = c.hold_test.new.code; prints = e0.prints; selects = e0.selects; layout = e0.layout; marks = e0.marks } in
    let e3 = c.emit_block.new.emitter in
    let e4 : Emitter = record { code = c.begin_other.new.code; prints = e3.prints; selects = e3.selects; layout = e3.layout; marks = e3.marks } in
    let e5 = c.emit_marked_other.new.emitter in
    let e6 : Emitter = record { code = c.end_other.new.code; prints = e5.prints; selects = e5.selects; layout = e5.layout; marks = e5.marks } in
    let f = control c.in_ok-flow.flow in
    let so = made_within globals elements result (site_of table e0) (body_of c.args.branch.now.body.items) in
    let over = cond f.ends (instrs.Jump 0 ∷ []) [] in
    let within = subst (λ (b : List StatementNode). Emits table e2 e3 (control c.in_ok-flow.flow) (made_within globals elements result (site_of table e0) (body_of b))) c.as_slice-body.ensures.value c.in_ok-flow.ensures in
    let begun : e4.code.items ≡ slice_set (e3.code.items ++ over) (length e1.code.items) (instrs.Unless (length e4.code.items)) = c.in_ok-over.ensures.begun ∙ ap (λ n. slice_set (e3.code.items ++ over) n (instrs.Unless (length e4.code.items))) c.in_ok-test.ensures.place in
    let ended_at : e6.code.items ≡ cond f.ends (slice_set e5.code.items (length e3.code.items) (instrs.Jump (length e5.code.items))) e5.code.items =
    c.in_ok-end_other.ensures.ended ∙ ap (λ n. cond f.ends (slice_set e5.code.items n (instrs.Jump (length e5.code.items))) e5.code.items) c.in_ok-over.ensures.over in
    emits_two_ways table globals elements result (expression_of c.args.branch.now.condition) so (λ site. made_other globals elements result site (otherwise_of c.args.branch.now.otherwise)) e0 e1 e2 e3 e4 e5 e6 f (control c.in_ok-other.other) (control c.join_way.new.flow) c.in_ok-push_test.ensures
    (record { prints = refl; selects = refl; layout = refl }) c.in_ok-test.ensures.held (record { prints = refl; selects = refl; layout = refl }) within begun (record { prints = refl; selects = refl; layout = refl }) c.in_ok-other.ensures ended_at (record { prints = refl; selects = refl; layout = refl })
    c.in_ok-join_way.ensures

pub emit_item-returns : goal.emit_item-returns
emit_item-returns t c =
    let table = c.args.context.now.program.now.table.now in
    let globals = globals_in table in
    let elements = c.args.context.now.program.now.elements.now in
    let result = yield_of (types_of table) c.args.context.now.result_type in
    let e0 = c.args.emitter.now in
    let e1 : Emitter = record { code = e0.code; prints = e0.prints; selects = e0.selects; layout = c.enter-mark.new.layout; marks = e0.marks } in
    let e2 : Emitter = record { code = c.take_item.new.code; prints = e0.prints; selects = e0.selects; layout = c.take_item.new.layout; marks = e0.marks } in
    let e3 = c.emit_block.new.emitter in
    let e4 : Emitter = record { code = e3.code; prints = e3.prints; selects = e3.selects; layout = c.leave.new.layout; marks = e3.marks } in
    let mark = c.enter-mark.result in
    let entered : Entered table e0 e1 mark.count mark.outer =
    record { code = refl; prints = refl; selects = refl; layout = c.enter-mark.ensures.layout table; entries = c.enter-mark.ensures.kept; count_is = c.enter-mark.ensures.count; outer_is = c.enter-mark.ensures.outer } in
    let left : Left e3 e4 mark.count mark.outer = record { code = refl; prints = refl; selects = refl; entries = c.leave.ensures.entries; outer_is = c.leave.ensures.outer; words = c.leave.ensures.words; locals = c.leave.ensures.locals } in
    emits_item globals elements result table (kind_of (types_of table) c.args.kind) (target_of c.args.target.now) (body_of c.args.body.now) e0 e1 e2 e3 e4 mark.count mark.outer (control c.in_ok-flow.flow) entered (c.in_ok-take_item.ensures.emitted result) refl refl c.in_ok-take_item.ensures.after
    c.in_ok-take_item.ensures.kept c.in_ok-flow.ensures left

pub emit_items-returns : goal.emit_items-returns
emit_items-returns t c = λ around channel place_is kind_is.
    let table = c.args.context.now.program.now.table.now in
    let globals = globals_in table in
    let elements = c.args.context.now.program.now.elements.now in
    let result = yield_of (types_of table) c.args.context.now.result_type in
    let e0 = c.args.emitter.now in
    let e1 : Emitter = record { code = c.emit_next.new.code; prints = e0.prints; selects = e0.selects; layout = e0.layout; marks = e0.marks } in
    let e2 : Emitter = record { code = c.hold_test.new.code; prints = e0.prints; selects = e0.selects; layout = e0.layout; marks = e0.marks } in
    let e3 = c.emit_item.new.emitter in
    let e4 : Emitter = record { code = c.come_round.new.code; prints = e3.prints; selects = e3.selects; layout = e3.layout; marks = e3.marks } in
    let e5 : Emitter = record { code = c.emit_unused.new.code; prints = e3.prints; selects = e3.selects; layout = e3.layout; marks = e3.marks } in
    let e6 : Emitter = record { code = c.fill.new.code; prints = e3.prints; selects = e3.selects; layout = e3.layout; marks = e3.marks } in
    let flow = control c.in_ok-within.within in
    let target = target_of c.args.target.now in
    let body = body_of c.args.body.now in
    let stop = c.in_ok-stop.stop in
    let again = c.in_ok-again.again in
    let exit = c.in_ok-exit.exit in
    let done : e6.code.items ≡ filled flow.waits stop again (slice_set e5.code.items (length e1.code.items) (instrs.Unless exit)) =
    c.fill.ensures ∙ ap (λ (ws : List Wait). filled ws stop again c.aim.new.code.items) c.as_slice.ensures.value ∙ ap (λ (l : List Instr). filled flow.waits stop again l) (c.aim.ensures ∙ ap (λ n. slice_set e5.code.items n (instrs.Unless exit)) c.in_ok-test.ensures.place) in
    let item = subst (λ k. Emits table e2 e3 flow (made_item globals elements result (site_of table e0) k target body)) (sym kind_is) c.in_ok-within.ensures in
    let unused = subst (λ k. Appends e4.code.items e5.code.items (drops (width globals elements around.scope k) Skip)) (sym kind_is) (c.in_ok-emit_unused.ensures around.scope) in
    emits_items globals elements result table around channel target body c.comes_round.result e0 e1 e2 e3 e4 e5 e6 flow (control c.through.result) c.in_ok-head.head again exit stop (c.in_ok-emit_next.ensures result around channel place_is kind_is) (record { prints = refl; selects = refl; layout = refl }) c.in_ok-test.ensures.held
    (record { prints = refl; selects = refl; layout = refl }) item c.comes_round.ensures c.in_ok-head.ensures.place c.in_ok-again.ensures.place c.in_ok-come_round.ensures (record { prints = refl; selects = refl; layout = refl }) c.in_ok-exit.ensures.place unused (record { prints = refl; selects = refl; layout = refl }) c.in_ok-stop.ensures.place done (record { prints = refl; selects = refl; layout = refl }) c.through.ensures

pub emit_range-returns : goal.emit_range-returns
emit_range-returns t c =
    let table = c.args.context.now.program.now.table.now in
    let globals = globals_in table in
    let elements = c.args.context.now.program.now.elements.now in
    let result = yield_of (types_of table) c.args.context.now.result_type in
    let e0 = c.args.emitter.now in
    let e1 : Emitter = record { code = c.emit_kept.new.code; prints = e0.prints; selects = e0.selects; layout = e0.layout; marks = e0.marks } in
    let e2 : Emitter = record { code = c.emit_kept.new.code; prints = e0.prints; selects = e0.selects; layout = c.enter-mark.new.layout; marks = e0.marks } in
    let e3 : Emitter = record { code = c.emit_kept.new.code; prints = e0.prints; selects = e0.selects; layout = c.declare_kept.new.layout; marks = e0.marks } in
    let e4 = c.emit_items.new.emitter in
    let e5 : Emitter = record { code = e4.code; prints = e4.prints; selects = e4.selects; layout = c.leave.new.layout; marks = e4.marks } in
    let mark = c.enter-mark.result in
    let around = layout_of table e0.layout in
    let channel = expression_of c.args.channel.now in
    let kept = c.in_ok-ranged.ensures in
    let entered : Entered table e1 e2 mark.count mark.outer =
    record { code = refl; prints = refl; selects = refl; layout = c.enter-mark.ensures.layout table; entries = c.enter-mark.ensures.kept; count_is = c.enter-mark.ensures.count; outer_is = c.enter-mark.ensures.outer } in
    let left : Left e4 e5 mark.count mark.outer = record { code = refl; prints = refl; selects = refl; entries = c.leave.ensures.entries; outer_is = c.leave.ensures.outer; words = c.leave.ensures.words; locals = c.leave.ensures.locals } in
    let declared : layout_of table e3.layout ≡ keeping globals elements channel around =
    c.in_ok-declare_kept.ensures.after ∙ ap (λ k. declaring globals elements k blank (layout_of table e2.layout)) (sym kept.channel) ∙ ap (declaring globals elements (type_of globals elements around.scope channel) blank) (c.enter-mark.ensures.layout table) in
    emits_range globals elements result table channel (target_of c.args.target.now) (body_of c.args.body.now) e0 e1 e2 e3 e4 e5 mark.count mark.outer (control c.in_ok-flow.flow) (kept.emitted result) (record { prints = refl; selects = refl; layout = refl }) entered refl refl refl declared c.in_ok-declare_kept.ensures.kept
    (c.in_ok-flow.ensures around channel kept.place kept.item) left

pub emit_way-returns : goal.emit_way-returns
emit_way-returns t c =
    let table = c.args.context.now.program.now.table.now in
    let globals = globals_in table in
    let elements = c.args.context.now.program.now.elements.now in
    let result = yield_of (types_of table) c.args.context.now.result_type in
    let e0 = c.args.emitter.now in
    let e1 : Emitter = record { code = e0.code; prints = e0.prints; selects = e0.selects; layout = c.enter-mark.new.layout; marks = e0.marks } in
    let e2 : Emitter = record { code = c.take_comm.new.code; prints = e0.prints; selects = e0.selects; layout = c.take_comm.new.layout; marks = e0.marks } in
    let e3 = c.emit_statements.new.emitter in
    let e4 : Emitter = record { code = e3.code; prints = e3.prints; selects = e3.selects; layout = c.leave.new.layout; marks = e3.marks } in
    let mark = c.enter-mark.result in
    let entered : Entered table e0 e1 mark.count mark.outer =
    record { code = refl; prints = refl; selects = refl; layout = c.enter-mark.ensures.layout table; entries = c.enter-mark.ensures.kept; count_is = c.enter-mark.ensures.count; outer_is = c.enter-mark.ensures.outer } in
    let left : Left e3 e4 mark.count mark.outer = record { code = refl; prints = refl; selects = refl; entries = c.leave.ensures.entries; outer_is = c.leave.ensures.outer; words = c.leave.ensures.words; locals = c.leave.ensures.locals } in
    emits_comm table globals elements result (comm_of c.args.comm.now) (body_of c.args.body.now) e0 e1 e2 e3 e4 mark.count mark.outer (control c.in_ok-flow.flow) entered (c.in_ok-take_comm.ensures.emitted result) refl refl (c.in_ok-take_comm.ensures.after result)
    c.in_ok-take_comm.ensures.kept c.in_ok-flow.ensures left

pub emit_clause-returns : goal.emit_clause-returns
emit_clause-returns t c = λ whole left all first reaches.
    let table = c.args.context.now.program.now.table.now in
    let globals = globals_in table in
    let elements = c.args.context.now.program.now.elements.now in
    let result = yield_of (types_of table) c.args.context.now.result_type in
    let clause = c.args.clause.now in
    let e0 = c.args.emitter.now in
    let e1 = c.emit_marked_way.new.emitter in
    let e2 : Emitter = record { code = c.hold.new.code; prints = e1.prints; selects = e1.selects; layout = e1.layout; marks = e1.marks } in
    let f = control c.in_ok-flow.flow in
    let list = c.args.list.now in
    let next = c.add_way.new.list in
    let is : clause_of clause ≡ record { comm = option_map comm_of clause.comm; body = body_of clause.body.items } = clause_is clause in
    let with_comm : option_map comm_of clause.comm ≡ Some (comm_of c.in-Some.comm) = search rules in
    let body_is = c.as_slice-body.ensures.value in
    let here = subst (λ o. Reaches globals elements result table whole first e0 list (Clause o (body_of clause.body.items) left) all) with_comm (subst (λ (o : OneClause). Reaches globals elements result table whole first e0 list (Clause o.comm o.body left) all) is reaches) in
    let way = subst (λ (b : List StatementNode). Emits table e0 e1 f (made_way globals elements result (site_of table e0) (comm_of c.in-Some.comm) (body_of b))) body_is c.in_ok-flow.ensures in
    let places : next.places.items ≡ list.places.items ++ length e0.code.items ∷ [] = c.in_ok-add_way.ensures.places ∙ ap (λ n. list.places.items ++ n ∷ []) c.in_ok-place.ensures.place in
    reaches_more globals elements result table whole first e0 e1 e2 list next f c.in_ok-held.held (comm_of c.in-Some.comm) (body_of clause.body.items) left all here way c.in_ok-held.ensures.held (record { prints = refl; selects = refl; layout = refl }) c.in_ok-held.ensures.place c.in_ok-held.ensures.leads
    c.in_ok-add_way.ensures.flow places c.in_ok-add_way.ensures.held

pub emit_clause-returns-in_default : goal.emit_clause-returns-in_default
emit_clause-returns-in_default t c = λ whole left all first reaches.
    let table = c.args.context.now.program.now.table.now in
    let globals = globals_in table in
    let elements = c.args.context.now.program.now.elements.now in
    let result = yield_of (types_of table) c.args.context.now.result_type in
    let clause = c.args.clause.now in
    let e0 = c.args.emitter.now in
    let is : clause_of clause ≡ record { comm = option_map comm_of clause.comm; body = body_of clause.body.items } = clause_is clause in
    let without : option_map comm_of clause.comm ≡ None = search rules in
    let here = subst (λ o. Reaches globals elements result table whole first e0 c.args.list.now (Clause o (body_of clause.body.items) left) all) without (subst (λ (o : OneClause). Reaches globals elements result table whole first e0 c.args.list.now (Clause o.comm o.body left) all) is reaches) in
    reaches_past table globals elements result whole left all (body_of clause.body.items) first e0 c.args.list.now here

pub emit_each_way-loop-clause-init : goal.emit_each_way-loop-clause-init
emit_each_way-loop-clause-init t c = λ whole.
    let table = c.args.context.now.program.now.table.now in
    let list = c.new-list.result in
    reaches (globals_in table) c.args.context.now.program.now.elements.now (yield_of (types_of table) c.args.context.now.result_type) table whole c.args.emitter.now list (clauses (map clause_of c.args.all.now)) c.new-list.ensures.flow c.new-list.ensures.places c.new-list.ensures.held

pub emit_each_way-loop-clause-preserved : goal.emit_each_way-loop-clause-preserved
emit_each_way-loop-clause-preserved t c = λ whole.
    let table = c.args.context.now.program.now.table.now in
    let globals = globals_in table in
    let elements = c.args.context.now.program.now.elements.now in
    let result = yield_of (types_of table) c.args.context.now.result_type in
    let all = c.args.all.now in
    let i = c.loop-clause.clause-index in
    let one = c.clause-item.result in
    let e0 = c.args.emitter.now in
    let rest = clauses (map clause_of (drop (i + 1) all)) in
    let next = next_clause i one all c.loop-clause-test.true c.clause-item.is in
    let here = subst (λ l. Reaches globals elements result table whole e0 c.loop-clause.emitter c.loop-clause.list l (clauses (map clause_of all))) next (c.loop-clause.invariant whole) in
    c.in_ok-emit_clause.ensures whole rest (clauses (map clause_of all)) e0 here

pub emit_each_way-returns : goal.emit_each_way-returns
emit_each_way-returns t c = λ whole.
    let table = c.args.context.now.program.now.table.now in
    let all = c.args.all.now in
    let i = c.loop-clause.clause-index in
    let none : clauses (map clause_of (drop i all)) ≡ NoClause = ap (λ (l : List ClauseNode). clauses (map clause_of l)) (drop_all i all c.loop-clause-test.false) in
    subst (λ l. Reaches (globals_in table) c.args.context.now.program.now.elements.now (yield_of (types_of table) c.args.context.now.result_type) table whole c.args.emitter.now c.loop-clause.emitter c.loop-clause.list l (clauses (map clause_of all))) none (c.loop-clause.invariant whole)

pub emit_default-loop-clause-preserved : goal.emit_default-loop-clause-preserved
emit_default-loop-clause-preserved t c =
    let table = c.args.context.now.program.now.table.now in
    let globals = globals_in table in
    let elements = c.args.context.now.program.now.elements.now in
    let result = yield_of (types_of table) c.args.context.now.result_type in
    let site = site_of table c.loop-clause.emitter in
    let all = c.args.all.now in
    let i = c.loop-clause.clause-index in
    let one = c.clause-item.result in
    let some : is_none one.comm ≡ false = search rules in
    let is : clause_of one ≡ record { comm = option_map comm_of one.comm; body = body_of one.body.items } = clause_is one in
    (c.loop-clause.invariant.0, default_later globals elements result site i one all c.loop-clause-test.true c.clause-item.is is some c.loop-clause.invariant.1)

pub emit_default-returns-then-is_none : goal.emit_default-returns-then-is_none
emit_default-returns-then-is_none t c =
    let table = c.args.context.now.program.now.table.now in
    let globals = globals_in table in
    let elements = c.args.context.now.program.now.elements.now in
    let result = yield_of (types_of table) c.args.context.now.result_type in
    let e0 = c.loop-clause.emitter in
    let site = site_of table e0 in
    let all = c.args.all.now in
    let i = c.loop-clause.clause-index in
    let one = c.clause-item.result in
    let none : is_none one.comm ≡ true = search rules in
    let is : clause_of one ≡ record { comm = option_map comm_of one.comm; body = body_of one.body.items } = clause_is one in
    let way = subst (λ (b : List StatementNode). Emits table e0 c.emit_block.new.emitter (control c.in_ok-flow.flow) (made_within globals elements result site (body_of b))) c.as_slice-body.ensures.value c.in_ok-flow.ensures in
    let e1 = c.emit_block.new.emitter in
    let f = control c.in_ok-flow.flow in
    let here = default_way table e0 e1 f (made_within globals elements result site (body_of one.body.items)) (made_default globals elements result site (clauses (map clause_of all)))
    (default_here globals elements result site i one all c.loop-clause-test.true c.clause-item.is is none c.loop-clause.invariant.1) way in
    subst (λ (e : Emitter). (noted : List ℕ) → Ways table e e1.code.items e1 noted (default_start noted e (Some f)) (Some f) (made_default globals elements result (site_of table e) (clauses (map clause_of all)))) c.loop-clause.invariant.0 here

pub emit_default-returns : goal.emit_default-returns
emit_default-returns t c =
    let table = c.args.context.now.program.now.table.now in
    let globals = globals_in table in
    let elements = c.args.context.now.program.now.elements.now in
    let result = yield_of (types_of table) c.args.context.now.result_type in
    let e0 = c.loop-clause.emitter in
    let all = c.args.all.now in
    let i = c.loop-clause.clause-index in
    let here = default_none table e0 (made_default globals elements result (site_of table e0) (clauses (map clause_of all))) (default_nowhere globals elements result (site_of table e0) i all c.loop-clause-test.false c.loop-clause.invariant.1) in
    subst (λ (e : Emitter). (noted : List ℕ) → Ways table e e0.code.items e0 noted (default_start noted e None) None (made_default globals elements result (site_of table e) (clauses (map clause_of all)))) c.loop-clause.invariant.0 here

pub emit_all_ways-returns : goal.emit_all_ways-returns
emit_all_ways-returns t c =
    let table = c.args.context.now.program.now.table.now in
    let globals = globals_in table in
    let elements = c.args.context.now.program.now.elements.now in
    let result = yield_of (types_of table) c.args.context.now.result_type in
    let all = clauses (map clause_of c.args.all.now) in
    let e0 = c.args.emitter.now in
    let e1 = c.emit_each_way.new.emitter in
    let e2 = c.emit_default.new.emitter in
    let e3 : Emitter = record { code = c.close.new.code; prints = e2.prints; selects = e2.selects; layout = e2.layout; marks = e2.marks } in
    let list = c.in_ok-list.list in
    let default = option_map control c.in_ok-default.default in
    let there : c.is_some-there.result ≡ is_some default = search rules in
    let closes : e3.code.items ≡ closed list.held.items (is_some default) e2.code.items =
    c.in_ok-close.ensures.closed ∙ ap (λ (hs : List Held). closed hs c.is_some-there.result e2.code.items) c.as_slice.ensures.value ∙ ap (λ b. closed list.held.items b e2.code.items) there in
    let same : is_some c.in_ok-default.default ≡ is_some default = search rules in
    let places : c.end_ways.new.list.places.items ≡ default_start list.places.items e1 default =
    c.in_ok-end_ways.ensures.places ∙ ap (λ n. list.places.items ++ cond (is_some c.in_ok-default.default) (n ∷ []) []) c.in_ok-place.ensures.place ∙ ap (λ b. list.places.items ++ cond b (length e1.code.items ∷ []) []) same in
    all_ways table globals elements result all e0 e1 e2 e3 list default (option_map control c.end_ways.new.list.flow) c.end_ways.new.list.places.items (c.in_ok-list.ensures all) c.in_ok-default.ensures closes (record { prints = refl; selects = refl; layout = refl }) places c.in_ok-end_ways.ensures.flow

pub emit_select-returns : goal.emit_select-returns
emit_select-returns t c =
    let table = c.args.context.now.program.now.table.now in
    let globals = globals_in table in
    let elements = c.args.context.now.program.now.elements.now in
    let result = yield_of (types_of table) c.args.context.now.result_type in
    let all = clauses (map clause_of c.args.all.now) in
    let e0 = c.args.emitter.now in
    let e1 : Emitter = record { code = c.push_clauses.new.code; prints = e0.prints; selects = e0.selects; layout = e0.layout; marks = e0.marks } in
    let e2 : Emitter = record { code = c.hold_select.new.code; prints = e0.prints; selects = c.hold_select.new.tables; layout = e0.layout; marks = e0.marks } in
    let e3 = c.emit_all_ways.new.emitter in
    let e4 : Emitter = record { code = c.leave_select.new.code; prints = e3.prints; selects = c.set_table.new.tables; layout = e3.layout; marks = e3.marks } in
    let list = c.in_ok-list.list in
    let flow = option_map control list.flow in
    let at_is : c.len-at.result ≡ length e1.selects.items = search rules in
    let stop = length e3.code.items in
    let w = c.in_ok-list.ensures in
    let ways = emits_as_is table e2 e3 e3 e3.code.items (any_control flow) (or_nothing (site_of table e2) (ways_left globals elements result all (site_of table e2) all)) w.emits refl (record { prints = refl; selects = refl; layout = refl }) in
    let settles : e4.code.items ≡ settled (any_control flow).waits stop e3.code.items = c.in_ok-flow.ensures.settled ∙ ap (λ (f : Control). settled f.waits stop e3.code.items) c.from_ways-ways.ensures in
    let sets : e4.selects.items ≡ slice_set e3.selects.items (length e1.selects.items) c.in_ok-made.made = c.set_table.ensures ∙ ap (λ n. slice_set e3.selects.items n c.in_ok-made.made) at_is in
    let table_is : c.in_ok-made.made ≡ select_table globals elements result (layout_of table e3.layout) all list.places.items = c.in_ok-made.ensures result ∙ ap (λ (ps : List ℕ). select_table globals elements result (layout_of table e3.layout) all ps) c.as_slice-places.ensures.value in
    let flow_is : control c.in_ok-flow.flow ≡ after_select (any_control flow) = c.in_ok-flow.ensures.flow ∙ ap after_select c.from_ways-ways.ensures in
    emits_select table globals elements result all no_table c.in_ok-made.made e0 e1 e2 e3 e4 flow (control c.in_ok-flow.flow) list.places.items c.len-at.result stop (c.in_ok-push_clauses.ensures result) (record { prints = refl; selects = refl; layout = refl }) at_is c.in_ok-hold_select.ensures.code refl c.in_ok-hold_select.ensures.tables
    refl ways w.begin refl settles refl sets refl table_is flow_is

pub emit_header_clauses-returns : goal.emit_header_clauses-returns
emit_header_clauses-returns t c =
    rw (of_copied simple_of c.as_ref.result c.args.first.now c.as_ref.ensures.value, of_copied expression_of c.as_ref-2.result c.args.condition.now c.as_ref-2.ensures.value, of_copied simple_of c.as_ref-3.result c.args.post.now c.as_ref-3.ensures.value) at c.emit_clauses.ensures

pub emit_other-returns-in-Nothing : goal.emit_other-returns-in-Nothing
emit_other-returns-in-Nothing t c =
    let table = c.args.context.now.program.now.table.now in
    let e : otherwise_of c.args.otherwise.now ≡ NoElse = rw c.in-Nothing.is (search (rules, the_lemmas)) in
    rw e (emits_nothing table c.args.emitter.now (control c.through.result) c.through.ensures)
