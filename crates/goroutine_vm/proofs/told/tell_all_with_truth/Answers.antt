use Rattle.std.proofs.Common.{◌∙◌, ◌++◌, ◌∷◌, [], List, ap, sym, length, arith}
use Rattle.bytecode.specs.declared.instr.WordKind.TheVariants as kinds
use Rattle.word.specs.declared.value.Word.{Word}
use Rattle.bytecode.proofs.Fitted.{fitted_length}
use Rattle.goroutine_vm.proofs.Quiet.{fitted_last}
use Rattle.bytecode.specs.Machine.{fitted}
use Rattle.goroutine_vm.proofs.told.tell_all_with_truth.Goals as goal

pub push-requires : goal.push-requires
push-requires c = let e = ap length c.tell.ensures ∙ fitted_length c.args.kinds.now c.args.words.now in let r = c.requires in omega (arith, e, r)

pub returns : goal.returns
returns c = c.push.ensures ∙ ap (λ (l : List Word). l ++ c.word_at.result ∷ []) c.tell.ensures ∙ ap (λ (w : Word). fitted c.args.kinds.now c.args.words.now ++ w ∷ []) c.word_at.ensures ∙ sym (fitted_last c.args.kinds.now kinds.Bool c.args.words.now)
