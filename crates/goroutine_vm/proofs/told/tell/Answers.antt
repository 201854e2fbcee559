use Rattle.std.proofs.Common.{◌∙◌, ap, length, arith, length-append}
use Rattle.word.specs.declared.value.Word.{Word}
use Rattle.operands.proofs.Fitting.{fitted_more}
use Rattle.goroutine_vm.proofs.told.tell.Goals as goal

pub loop-index-preserved : goal.loop-index-preserved
loop-index-preserved c = record {
  words = fitted_more c.loop-index.told c.push.new.self c.args.kinds.now c.args.words.now c.loop-index.index _ c.word_at.result c.loop-index-test.true c.loop-index.invariant.words c.word_at.ensures c.push.ensures;
  many = ap length c.push.ensures ∙ omega (arith, length-append {A = Word}, c.loop-index.invariant.many);
}
