use Rattle.std.proofs.Common.{◌≡◌, ◌++◌, ◌∷◌, [], ℤ, length, rules, subst}
use Rattle.std.proofs.Math.Facts.{to_z-of_z}
use Rattle.std.proofs.lemmas.Result.{IfOk-weaker}
use mir.Syntax.{w64}
use mir.Val.{to_z, of_z}
use Rattle.bytecode.specs.declared.instr.Instr.{Instr}
use Rattle.bytecode.specs.Machine.{Frame, goes_on}
use Rattle.call_frame.specs.Steps.{FitsAt}
use Rattle.word.specs.declared.value.Word.TheVariants.{Int}
use Rattle.call_frame.proofs.Quick.{pushed_there}
use Rattle.call_frame.proofs.plain.plain.Goals as goal

pub returns-in_ok-push-in-Int-clause-ok : goal.returns-in_ok-push-in-Int-clause-ok
returns-in_ok-push-in-Int-clause-ok c = λ code callers sound.
    let old : Frame = c.args.frame.now in
    let same : to_z w64 (of_z w64 c.in-Int.number) ≡ c.in-Int.number = search (rules, to_z-of_z) in
    let top = subst (λ (i : Instr). FitsAt i c.args.at (length old.stack)) c.in-Int.is c.requires.at in
    rw c.in-Int.is (pushed_there old c.push.new.frame callers c.args.at _ top (subst (λ (n : ℤ). ◌≡◌ {A = Frame} c.push.new.frame (goes_on old (old.stack ++ Int n ∷ []))) same c.in_ok-push-in-Int.ensures.ok))

pub returns-in_ok-push-in-Bool-clause-ok : goal.returns-in_ok-push-in-Bool-clause-ok
returns-in_ok-push-in-Bool-clause-ok c = λ code callers sound.
    let top = subst (λ (i : Instr). FitsAt i c.args.at (length c.args.frame.now.stack)) c.in-Bool.is c.requires.at in
    rw c.in-Bool.is (pushed_there c.args.frame.now c.push-in-Bool.new.frame callers c.args.at _ top c.in_ok-push-in-Bool.ensures.ok)

pub returns-in_ok-push-in-Nil-clause-ok : goal.returns-in_ok-push-in-Nil-clause-ok
returns-in_ok-push-in-Nil-clause-ok c = λ code callers sound.
    let top = subst (λ (i : Instr). FitsAt i c.args.at (length c.args.frame.now.stack)) c.in-Nil.is c.requires.at in
    rw c.in-Nil.is (pushed_there c.args.frame.now c.push-in-Nil.new.frame callers c.args.at _ top c.in_ok-push-in-Nil.ensures.ok)

pub returns-in-Apply-clause-ok : goal.returns-in-Apply-clause-ok
returns-in-Apply-clause-ok c = λ code callers sound. rw c.in-Apply.is (c.operate.ensures.step c.args.may code callers)

pub returns-in-Unless-clause-ok : goal.returns-in-Unless-clause-ok
returns-in-Unless-clause-ok c = λ code callers sound. rw c.in-Unless.is (c.choose.ensures.step c.args.may code callers)

pub returns-in-Load-clause-ok : goal.returns-in-Load-clause-ok
returns-in-Load-clause-ok c = rw c.in-Load.is (IfOk-weaker c.load_range.result _ _ (λ step went code callers. went c.args.may code callers) c.load_range.ensures.ok)

pub returns-in-Store-clause-ok : goal.returns-in-Store-clause-ok
returns-in-Store-clause-ok c = rw c.in-Store.is (λ code callers. c.store_range.ensures c.args.may code callers)

pub returns-in-Pick-clause-ok : goal.returns-in-Pick-clause-ok
returns-in-Pick-clause-ok c = rw c.in-Pick.is (IfOk-weaker c.pick_range.result _ _ (λ step went code callers. went c.args.may code callers) c.pick_range.ensures.ok)
