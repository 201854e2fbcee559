use Rattle.std.proofs.Common.{◌≡◌, ◌+◌, List, [], ℕ, eqb, length, rules, sym, ap, subst, ◌∙◌}
use Rattle.std.proofs.lemmas.Bool.{false≢true}
use Rattle.trace_comparison.specs.Texts.{IsWhy, IsBrokenAt}
use Rattle.trace_comparison.proofs.Reading.{broken_here, other_line, next_text, next_whole}
use Rattle.trace_comparison.proofs.trace.Trace.read.Goals as goal

pub returns-in-None : goal.returns-in-None
returns-in-None c =
    let some = λ (e : c.loop-rest.rest.now ≡ []). false≢true (c.loop-rest-test.ensures ∙ ap (λ (bytes : List ℕ). eqb (length bytes) 0) e) in
    let other = other_line c.args.bytes.now c.loop-rest.rest.now c.loop-rest.lines.items c.loop-rest.invariant.whole c.loop-rest.invariant.text c.in-Some.line.now c.in-Some.others.now
    c.in-Some.ensures.0 c.in-Some.ensures.1 c.in-None.ensures in
    let broken = broken_here c.args.bytes.now c.loop-rest.rest.now c.loop-rest.lines.items c.loop-rest.invariant.whole c.loop-rest.invariant.text some other in
    let len : c.len-in-None.result ≡ length c.loop-rest.lines.items = search rules in
    subst (IsWhy c.args.bytes.now) (sym c.broken-in-None.ensures) (subst (λ n. IsBrokenAt c.args.bytes.now (n + 1)) (sym len) broken)

pub loop-rest-preserved : goal.loop-rest-preserved
loop-rest-preserved c =
    let line = c.in-Some.line.now in
    let found = c.in-Some-event_in.ensures in
    record {
      whole = next_whole c.args.bytes.now c.loop-rest.rest.now c.loop-rest.lines.items c.loop-rest.invariant.whole c.loop-rest.invariant.text line c.in-Some.others.now
          c.in-Some.ensures.0 c.in-Some.ensures.1 c.in-Some-event_in.event c.add.new.lines.items found.2 c.in_ok-add-in-Some-event_in.ensures found.0 found.1;
      text = next_text c.args.bytes.now c.loop-rest.rest.now c.loop-rest.lines.items c.loop-rest.invariant.whole c.loop-rest.invariant.text line c.in-Some.others.now
          c.in-Some.ensures.0 c.in-Some.ensures.1 c.in-Some-event_in.event c.add.new.lines.items found.2 c.in_ok-add-in-Some-event_in.ensures;
    }
