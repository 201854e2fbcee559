use Rattle.std.proofs.Common.{◌≡◌, map, take}
use Rattle.exploration.specs.Shown.{seen}
use Rattle.kendo_explore.specs.Explored.{ends_by}
use Rattle.kendo_explore.proofs.exploring.plan_files.Given as goal

abbrev pub invariant-loop-index : goal.invariant-loop-index
invariant-loop-index l = ends_by l.plans.items ≡ map seen (take l.index l.shown)
