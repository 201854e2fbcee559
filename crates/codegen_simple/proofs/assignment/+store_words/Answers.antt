use Rattle.std.proofs.Common.{rules, arith, ◌≡◌, ◌<◌, ◌+◌, ◌-◌, ◌++◌, ◌∷◌, sym, subst}
use Rattle.std.proofs.lemmas.Result.{on_ok_weaker}
use Rattle.codegen_base.specs.Statements.{Local, single_spots}
use Rattle.codegen_simple.specs.Spots.{Stored}
use Rattle.codegen_simple.proofs.Storing.{first_word}
use Rattle.codegen_simple.proofs.assignment.+store_words.Goals as goal

pub returns : goal.returns
returns t c =
    let some : 0 < c.args.words = omega arith in
    let next : c.in-Some.next ≡ c.args.place + 1 = search rules in
    let is : single_spots c.args.place c.args.words ≡ Local c.args.place 1 ∷ single_spots c.in-Some.next (c.args.words - 1) = first_word c.args.place c.args.words c.in-Some.next some next in
    λ first later. on_ok_weaker c.store_word.result (λ stored h. subst (λ l. Stored first (l ++ later) c.store_word.new.places c.store_word.new.code.items) (sym is)
    (stored (c.in_ok-store_words.ensures first later h))) (c.store_word.ensures first (single_spots c.in-Some.next (c.args.words - 1) ++ later))
