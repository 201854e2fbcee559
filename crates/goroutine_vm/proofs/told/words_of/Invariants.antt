use Rattle.std.proofs.Common.{◌≡◌, take}
use Rattle.goroutine_vm.proofs.told.words_of.Given as goal

abbrev pub invariant-loop-word : goal.invariant-loop-word
invariant-loop-word l = l.told ≡ take l.word-index l.word-items
