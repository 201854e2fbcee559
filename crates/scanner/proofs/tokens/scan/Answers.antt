use Rattle.std.proofs.Common.{length}
use Rattle.std.proofs.lemmas.Result.{IfOk-weaker, IfErr-weaker}
use Rattle.go_text.specs.Source.{bytes_of}
use Rattle.scanner.proofs.Counting.{length-tokens_of}
use Rattle.scanner.proofs.Order.{in_order, all_within, lies_within}
use Rattle.scanner.proofs.tokens.scan.Goals as goal

pub returns-clause-in_order : goal.returns-clause-in_order
returns-clause-in_order c =
    IfOk-weaker c.scan_bytes.result _ _ (λ v is. in_order (bytes_of c.args.source.now) v.items (rw c.as_bytes.ensures.bytes at is)) c.scan_bytes.ensures.ok

pub returns-clause-within : goal.returns-clause-within
returns-clause-within c =
    IfOk-weaker c.scan_bytes.result _ _ (λ v is. all_within 0 (length (bytes_of c.args.source.now)) v.items (in_order (bytes_of c.args.source.now) v.items (rw c.as_bytes.ensures.bytes at is))) c.scan_bytes.ensures.ok

pub returns-clause-placed : goal.returns-clause-placed
returns-clause-placed c =
    IfErr-weaker c.scan_bytes.result _ _ (λ e is. lies_within (bytes_of c.args.source.now) e (rw c.as_bytes.ensures.bytes at is)) c.scan_bytes.ensures.err

pub returns-clause-few : goal.returns-clause-few
returns-clause-few c =
    IfOk-weaker c.scan_bytes.result _ _ (λ v is. length-tokens_of (bytes_of c.args.source.now) v.items (rw c.as_bytes.ensures.bytes at is)) c.scan_bytes.ensures.ok
