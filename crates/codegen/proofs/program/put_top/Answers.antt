use Rattle.std.proofs.Common.{◌≡◌, ◌++◌, ◌∷◌, ap, sym, subst, length}
use Rattle.syntax.specs.Tree.{Top, FunctionTop}
use Rattle.syntax.specs.View.{function_of, top_of}
use Rattle.type_table.specs.Visible.{globals_in}
use Rattle.codegen_base.specs.Program.{all_prints, all_selects, functions_code}
use Rattle.codegen.proofs.Functions.{functions_put, prints_put, selects_put}
use Rattle.codegen.proofs.program.put_top.Goals as goal

pub returns-in_ok-push-clause-functions : goal.returns-in_ok-push-clause-functions
returns-in_ok-push-clause-functions c = λ rest.
    let globals = globals_in c.args.context.now.table.now in
    let elements = c.args.context.now.elements.now in
    let function = function_of c.in-Function.function in
    let p0 = c.args.emitter.now.prints.items in
    let p1 = c.function_code.new.emitter.prints.items in
    let s0 = c.args.emitter.now.selects.items in
    let s1 = c.function_code.new.emitter.selects.items in
    let is : top_of c.args.top.now ≡ FunctionTop function = ap top_of c.in-Function.is in
    subst (λ (t : Top). c.push.new.self.items ++ functions_code globals elements (length p1) (length s1) rest ≡ c.args.functions.now.items ++ functions_code globals elements (length p0) (length s0) (t ∷ rest)) (sym is)
    (functions_put globals elements function rest p0 p1 s0 s1 c.in_ok-code.ensures.prints c.in_ok-code.ensures.selects c.in_ok-code.code c.args.functions.now.items c.push.new.self.items c.in_ok-code.ensures.code c.in_ok-push.ensures.items)

pub returns-in_ok-push-clause-prints : goal.returns-in_ok-push-clause-prints
returns-in_ok-push-clause-prints c = λ rest.
    let globals = globals_in c.args.context.now.table.now in
    let elements = c.args.context.now.elements.now in
    let function = function_of c.in-Function.function in
    let p0 = c.args.emitter.now.prints.items in
    let p1 = c.function_code.new.emitter.prints.items in
    let s0 = c.args.emitter.now.selects.items in
    let s1 = c.function_code.new.emitter.selects.items in
    let is : top_of c.args.top.now ≡ FunctionTop function = ap top_of c.in-Function.is in
    subst (λ (t : Top). p1 ++ all_prints globals elements (length p1) (length s1) rest ≡ p0 ++ all_prints globals elements (length p0) (length s0) (t ∷ rest)) (sym is)
    (prints_put globals elements function rest p0 p1 s0 s1 c.in_ok-code.ensures.prints c.in_ok-code.ensures.selects)

pub returns-in_ok-push-clause-selects : goal.returns-in_ok-push-clause-selects
returns-in_ok-push-clause-selects c = λ rest.
    let globals = globals_in c.args.context.now.table.now in
    let elements = c.args.context.now.elements.now in
    let function = function_of c.in-Function.function in
    let p0 = c.args.emitter.now.prints.items in
    let p1 = c.function_code.new.emitter.prints.items in
    let s0 = c.args.emitter.now.selects.items in
    let s1 = c.function_code.new.emitter.selects.items in
    let is : top_of c.args.top.now ≡ FunctionTop function = ap top_of c.in-Function.is in
    subst (λ (t : Top). s1 ++ all_selects globals elements (length p1) (length s1) rest ≡ s0 ++ all_selects globals elements (length p0) (length s0) (t ∷ rest)) (sym is)
    (selects_put globals elements function rest p0 p1 s0 s1 c.in_ok-code.ensures.prints c.in_ok-code.ensures.selects)
