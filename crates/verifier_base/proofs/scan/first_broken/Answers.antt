use Rattle.std.proofs.Common.{ap, length, arith}
use Rattle.verifier_base.proofs.Scanning.{scanned_more, scanned_all}
use Rattle.verifier_base.proofs.scan.first_broken.Goals as goal

pub loop-place-preserved : goal.loop-place-preserved
loop-place-preserved c =
    scanned_more c.args.code.now c.args.f.now c.loop-place.place c.loop-place.invariant (rw c.in-None.is at c.scan_one.ensures)

pub returns : goal.returns
returns c = scanned_all c.args.code.now c.args.f.now c.loop-place.place (omega (arith, ap length c.instrs-place-end.ensures)) c.loop-place.invariant
