use Rattle.std.proofs.Common.{length}
use Rattle.diagnostic_scope.proofs.scene.+scene_at.Given as goal

abbrev pub decreases-scene_at : goal.decreases-scene_at
decreases-scene_at l = length l.tops.now
