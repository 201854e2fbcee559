use Rattle.std.proofs.Common.{◌≡◌, ℕ, ◌∙◌, ◌-◌, ◌≤◌, List, length, Some, None, cond, ap, sym, subst, arith}
use Rattle.std.proofs.lemmas.Result.{IfOk-weaker}
use Rattle.bytecode.specs.Machine.{code_next}
use Rattle.goroutine_vm_base.specs.Steps.{AsksFor}
use Rattle.call_frame.specs.Steps.{Fetched}
use Rattle.call_frame.proofs.Fetching.{next_instr}
use Rattle.goroutine_vm_base.proofs.Stacks.{first_of}
use Rattle.word.specs.declared.value.Word.{Word}
use Rattle.goroutine_vm_request.proofs.asked.request_any.Goals as goal

pub returns-else-have-wanted : goal.returns-else-have-wanted
returns-else-have-wanted c =
    let code = c.args.code.now in
    let x = c.last-frame.result.now in
    let first = first_of c.args.frames.now x c.last-frame.ensures.some c.last-frame.ensures.last in
    let wanted = c.in-Some.wanted in
    let view = ap (λ (l : List Word). length l) c.stack-have.ensures in
    let enough : wanted ≤ length x.stack = omega (arith, view, c.if-have-wanted.false) in
    let fetched : Fetched code x (Some (c.in-Some.i, wanted)) = c.in-Some.ensures.fetched in
    let next = next_instr code x first.0 c.in-Some.i wanted c.quiet.ensures fetched (length c.stack-have.result.now - wanted) (ap (λ (n : ℕ). n - wanted) view) enough in
    let many = ap length first.1 in
    let depth : length first.0 ≡ c.len-depth.result - 1 = omega (arith, many, c.len-depth.ensures.len) in
    let goes = ap (code_next code) first.1 ∙ next in
    IfOk-weaker c.ask.result _ _ (λ asking h. subst (λ n. AsksFor n (cond asking (Some c.ask.new.place) None)) (sym goes) (h first.0 depth)) c.ask.ensures
