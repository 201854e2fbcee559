use Rattle.std.proofs.Common.{◌≡◌, ◌+◌, ◌≤◌, List, Ok, length, is_ok, sym, ap, ◌∙◌, arith, inr}
use Rattle.std.proofs.lemmas.List.{length-drop}
use Rattle.std.proofs.lemmas.Result.{err_from_is_err_and}
use Rattle.std.proofs.ResultArms.{chosen}
use Rattle.scanner.specs.declared.token.Token.{Token}
use Rattle.scanner.specs.Elements.{length_of}
use Rattle.scanner.proofs.Reading.{rest_is}
use Rattle.scanner.proofs.Scanning.{blank_step, line_end_step, token_step, fault_step, end_step}
use Rattle.scanner.proofs.tokens.scan_bytes.Goals as goal

pub returns-in_err-element-clause-err : goal.returns-in_err-element-clause-err
returns-in_err-element-clause-err c =
    let rest = rest_is c.loop-at.at c.args.text.now in
    let p = err_from_is_err_and c.from_residual.result c.from_residual.ensures.1 in
    rw (p.1, p.2) (inr (fault_step c.loop-at.out.items c.loop-at.at c.loop-at.after c.args.text.now c.in_err-element.field-0.0 _ c.loop-at-test.true (rw rest at c.in_err-element.ensures.element) c.loop-at.invariant.total))

pub loop-at-preserved-in-Blank : goal.loop-at-preserved-in-Blank
loop-at-preserved-in-Blank c =
    let rest = rest_is c.loop-at.at c.args.text.now in
    let n = c.in-Blank.field-0 in
    let len : c.len-at.result ≡ n = c.len-at.ensures ∙ ap length_of c.in-Blank.is in
    let read = rw (rest, c.in-Blank.is) at c.in_ok-element.ensures.element in
    let bounds = rw (rest, c.in-Blank.is) at c.in_ok-element.ensures.within in
    let within : c.loop-at.at + n ≤ length c.args.text.now = omega (arith, bounds.1, length-drop c.loop-at.at c.args.text.now) in
    record {
      within = rw len within;
      total = rw len (blank_step c.loop-at.out.items c.loop-at.at n c.loop-at.after c.args.text.now _ c.loop-at-test.true read bounds.0 within c.loop-at.invariant.total);
    }

pub loop-at-preserved-in-LineEnd : goal.loop-at-preserved-in-LineEnd
loop-at-preserved-in-LineEnd c =
    let rest = rest_is c.loop-at.at c.args.text.now in
    let n = c.in-LineEnd.field-0 in
    let len : c.len-at.result ≡ n = c.len-at.ensures ∙ ap length_of c.in-LineEnd.is in
    let read = rw (rest, c.in-LineEnd.is) at c.in_ok-element.ensures.element in
    let bounds = rw (rest, c.in-LineEnd.is) at c.in_ok-element.ensures.within in
    let within : c.loop-at.at + n ≤ length c.args.text.now = omega (arith, bounds.1, length-drop c.loop-at.at c.args.text.now) in
    record {
      within = rw len within;
      total = rw (len, c.in_ok-end_line-in-LineEnd.ensures) (line_end_step c.loop-at.out.items c.loop-at.at n c.loop-at.after c.args.text.now _ c.loop-at-test.true read bounds.0 within c.loop-at.invariant.total);
    }

pub loop-at-preserved : goal.loop-at-preserved
loop-at-preserved c =
    let rest = rest_is c.loop-at.at c.args.text.now in
    let n = c.in-Token.field-0 in
    let len : c.len-at.result ≡ n = c.len-at.ensures ∙ ap length_of c.in-Token.is in
    let read = rw (rest, c.in-Token.is) at c.in_ok-element.ensures.element in
    let bounds = rw (rest, c.in-Token.is) at c.in_ok-element.ensures.within in
    let within : c.loop-at.at + n ≤ length c.args.text.now = omega (arith, bounds.1, length-drop c.loop-at.at c.args.text.now) in
    let pushed = chosen _ _ _ _ c.push.ensures.items (ap is_ok c.in_ok-push-in-Token.was) in
    record {
      within = rw len within;
      total = rw (pushed, c.ender-after.ensures, len) (token_step c.loop-at.out.items c.loop-at.at n c.in-Token.kind c.loop-at.after c.args.text.now _ c.loop-at-test.true read bounds.0 within c.loop-at.invariant.total);
    }

pub returns-clause-ok : goal.returns-clause-ok
returns-clause-ok c =
    end_step c.loop-at.out.items c.loop-at.at c.loop-at.after c.args.text.now _ c.loop-at-test.false c.loop-at.invariant.total
    ∙ ap (λ (x : List Token). Ok x) (sym c.in_ok-end_line.ensures)
