use Rattle.std.proofs.Common.{◌≡◌, ℕ, ◌+◌, ◌⊎◌, inl, map, refl, ap}
use Rattle.std.proofs.lemmas.Result.{IfOk-weaker, IfErr-weaker}
use Rattle.syntax.specs.Measures.{statements_size}
use Rattle.syntax.specs.View.{body_of, function_of}
use Rattle.type_table.specs.Views.{field_in, yield_of as yield_in}
use Rattle.type_table.specs.Visible.{types_of, globals_in, scope_of}
use Rattle.typing_rules.specs.Kinds.{yield_of, fields_declared, parameters}
use Rattle.typing_rules.specs.Declarations.{HeadHas}
use Rattle.typing_rules.specs.Files.{BodyIn, BodyHas}
use Rattle.checker_declaration.proofs.Declared.{refuses_more}
use Rattle.checker.proofs.Bodies.{inside, body_has, body_in}
use Rattle.checker.proofs.body.body.Goals as goal

pub returns-clause-one : goal.returns-clause-one
returns-clause-one c =
    let types = types_of c.args.table.now in
    let globals = globals_in c.args.table.now in
    let function = function_of c.args.function.now in
    let y = yield_in types c.in_ok-head.head.result in
    let scope = scope_of c.args.table.now c.declare_all.new.visible in
    let middle : ℕ = c.in_ok-head.head.end in
    let body = body_of c.as_slice-2.result.now in
    let yields : y ≡ yield_of types function.result = rw c.types.ensures at c.in_ok-head.ensures.kind in
    let listed : map (field_in types) c.in_ok-head.head.parameters.items ≡ fields_declared types function.parameters = rw c.types.ensures at c.in_ok-head.ensures.parameters in
    let visible : scope ≡ parameters globals function = rw (c.new-visible.ensures.scope c.args.table.now, c.as_slice.ensures.value, listed) at c.in_ok-declare_all.ensures in
    let end : ℕ = middle + statements_size body + 2 in
    IfErr-weaker c.body_in.result _ _ (λ refusal has_in. refuses_more (λ violation. (e : ℕ) → e ≡ end → BodyIn (inside globals y) scope middle body e violation) (λ violation. BodyHas globals c.args.first function violation ⊎ HeadHas types c.args.first function violation) refusal
    (λ violation has. inl (body_has globals function c.args.first middle y scope body yields visible c.in_ok-head.ensures.end (ap body_of c.as_slice-2.ensures.value) violation (has end refl))) has_in) c.body_in.ensures.one

pub returns-clause-none : goal.returns-clause-none
returns-clause-none c =
    let types = types_of c.args.table.now in
    let globals = globals_in c.args.table.now in
    let function = function_of c.args.function.now in
    let y = yield_in types c.in_ok-head.head.result in
    let scope = scope_of c.args.table.now c.declare_all.new.visible in
    let middle : ℕ = c.in_ok-head.head.end in
    let body = body_of c.as_slice-2.result.now in
    let yields : y ≡ yield_of types function.result = rw c.types.ensures at c.in_ok-head.ensures.kind in
    let listed : map (field_in types) c.in_ok-head.head.parameters.items ≡ fields_declared types function.parameters = rw c.types.ensures at c.in_ok-head.ensures.parameters in
    let visible : scope ≡ parameters globals function = rw (c.new-visible.ensures.scope c.args.table.now, c.as_slice.ensures.value, listed) at c.in_ok-declare_all.ensures in
    IfOk-weaker c.body_in.result _ _ (λ _ good violation has. good (middle + statements_size body + 2) refl violation (body_in globals function c.args.first middle y scope body yields visible c.in_ok-head.ensures.end (ap body_of c.as_slice-2.ensures.value) violation has)) c.body_in.ensures.none
