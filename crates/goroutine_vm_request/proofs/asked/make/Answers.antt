use Rattle.std.proofs.Common.{◌≡◌, ◌∙◌, ◌<◌, ◌≤◌, List, [], ◌∷◌, length, drop, map, Some, ap, sym, subst, rules, arith, get_or, slice_get}
use mir.Syntax.{w64}
use mir.Val.{to_z, of_z}
use Rattle.std.proofs.Math.Facts.{to_z-of_z}
use Rattle.std.proofs.lemmas.Option.{slice_get-get_or}
use Rattle.bytecode.specs.declared.instr.WordKind.{WordKind}
use Rattle.bytecode.specs.Machine.{zero_of}
use Rattle.word.specs.declared.value.Word.{Word}
use Rattle.word.specs.declared.value.Word.TheVariants.{Int}
use Rattle.call_frame.proofs.Quick.{drop_one}
use Rattle.goroutine_vm_request.proofs.Asking.{make_for}
use Rattle.goroutine_vm_request.proofs.asked.make.Goals as goal

pub returns-in_ok-words-in-Int : goal.returns-in_ok-words-in-Int
returns-in_ok-words-in-Int c = λ callers.
    let shapes : List (List WordKind) = c.shapes-shapes.result.now in
    let ks : List WordKind = c.index-shapes-shape.result in
    let lt : c.args.shape < length shapes = search rules in
    let here : slice_get c.args.code.now.shapes c.args.shape ≡ Some ks = ap (λ (xs : List (List WordKind)). slice_get xs c.args.shape) (sym c.shapes-shapes.ensures) ∙ slice_get-get_or shapes c.args.shape ks lt ∙ ap Some (sym c.index-shapes-shape.is) in
    let short : length ks ≤ 16 = omega (arith, c.if-kinds-gt-MAX_WORDS.false, ap length c.kinds-kinds.ensures) in
    let word : Int c.in-Int.size ≡ get_or c.stack.result.now c.args.at (Int c.in-Int.size) = search rules in
    let one : drop c.args.at c.args.frame.now.stack ≡ Int c.in-Int.size ∷ [] = drop_one c.args.frame.now.stack c.args.at (Int c.in-Int.size) c.requires (subst (λ (st : List Word). Int c.in-Int.size ≡ get_or st c.args.at (Int c.in-Int.size)) c.stack.ensures word) in
    let same : to_z w64 (of_z w64 c.in-Int.size) ≡ c.in-Int.size = search (rules, to_z-of_z) in
    let item : c.new.result ≡ map zero_of ks = c.new.ensures ∙ c.deref.ensures.value ∙ c.in_ok-words-in-Int.ensures ∙ ap (map zero_of) c.kinds-kinds.ensures in
    make_for c.args.code.now.shapes c.args.shape ks (drop c.args.at c.args.frame.now.stack) c.in-Int.size (to_z w64 (of_z w64 c.in-Int.size)) c.new.result here short one same item
