use Rattle.std.proofs.Common.{◌-◌, length}
use Rattle.key_index.proofs.heap.+sift.Given as goal

abbrev pub decreases-sift : goal.decreases-sift
decreases-sift g l = length l.heap.now - l.hole
