use Rattle.std.proofs.Common.{is_ok, sym, ap, ◌∙◌}
use Rattle.std.proofs.ResultArms.{chosen}
use Rattle.parser_base.specs.Lexemes.{text}
use Rattle.parser_base.proofs.Texts.{ends, closes, escapes, escaped_next, plain_next}
use Rattle.parser_base.proofs.text.text.Goals as goal
use Rattle.parser_base.proofs.text.text.Goals.{then-escaped+in_ok-push, else-escaped+else-byte-eq34+then-byte-eq92, else-escaped+else-byte-eq34+else-byte-eq92+in_ok-push-2}

pub returns-then-byte-eq34-clause-ok : goal.returns-then-byte-eq34-clause-ok
returns-then-byte-eq34-clause-ok c =
    closes c.loop-byte.bytes.items c.in-Some.inside.now c.loop-byte.byte-index _ c.loop-byte-test.true c.if-byte-eq34.true (rw c.if-escaped.false at c.loop-byte.invariant) ∙ ap text (sym c.in-Some.ensures.cases.0)

pub returns-clause-ok : goal.returns-clause-ok
returns-clause-ok c =
    ends c.loop-byte.bytes.items c.in-Some.inside.now c.loop-byte.escaped c.loop-byte.byte-index _ c.loop-byte-test.false c.loop-byte.invariant ∙ ap text (sym c.in-Some.ensures.cases.0)

pub loop-byte-preserved : goal.loop-byte-preserved
loop-byte-preserved c = elim c.if-escaped.branch [
  | then-escaped+in_ok-push w ↦
      let pushed = chosen _ _ _ _ w.push.ensures.items (ap is_ok w.in_ok-push.was) in
      rw (w.bytes-is, w.escaped-is, pushed, w.escape.ensures) (escaped_next c.loop-byte.bytes.items c.in-Some.inside.now c.loop-byte.byte-index _ c.loop-byte-test.true (rw w.if-escaped.true at c.loop-byte.invariant))
  | else-escaped+else-byte-eq34+then-byte-eq92 w ↦
      rw (w.bytes-is, w.escaped-is) (escapes c.loop-byte.bytes.items c.in-Some.inside.now c.loop-byte.byte-index _ c.loop-byte-test.true w.if-byte-eq92.true (rw w.if-escaped.false at c.loop-byte.invariant))
  | else-escaped+else-byte-eq34+else-byte-eq92+in_ok-push-2 w ↦
      let pushed = chosen _ _ _ _ w.push-else-byte-eq92.ensures.items (ap is_ok w.in_ok-push-2.was) in
      rw (w.bytes-is, w.escaped-is, w.if-escaped.false, pushed) (plain_next c.loop-byte.bytes.items c.in-Some.inside.now c.loop-byte.byte-index _ c.loop-byte-test.true w.if-byte-eq34.false w.if-byte-eq92.false (rw w.if-escaped.false at c.loop-byte.invariant))
]
