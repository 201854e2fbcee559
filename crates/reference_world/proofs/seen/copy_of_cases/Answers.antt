use Rattle.std.proofs.Common.{◌≡◌, ◌∙◌, ◌+◌, ◌<◌, ◌∷◌, ◌++◌, [], ℕ, List, Option, ap, get_or, length, sym, take}
use Rattle.std.proofs.lemmas.List.{take_more}
use Rattle.reference_world.proofs.seen.copy_of_cases.Goals as goal
use Rattle.word.specs.Values.{Item}
use Rattle.word.specs.declared.request.Case.{Case}

-- one case more was copied
copied_more : (cases copy new : List Case) (i : ℕ) (x : Case) (item : Option Item) → i < length cases → copy ≡ take i cases → x ≡ get_or cases i x → item ≡ x.item → new ≡ copy ++ record { chan = x.chan; item = item } ∷ [] → new ≡ take (i + 1) cases
copied_more cases copy new i x item below so_far here same is =
    is ∙ ap (λ (l : List Case). l ++ record { chan = x.chan; item = item } ∷ []) so_far
    ∙ ap (λ (o : Option Item). take i cases ++ record { chan = x.chan; item = o } ∷ []) same
    ∙ ap (λ (y : Case). take i cases ++ y ∷ []) here ∙ sym (take_more cases i x below)

pub loop-case-preserved : goal.loop-case-preserved
loop-case-preserved c =
    copied_more c.args.cases.now c.loop-case.copy.items c.push.new.self.items c.loop-case.case-index c.case-item.result c.copy_of.result c.loop-case-test.true c.loop-case.invariant c.case-item.is c.copy_of.ensures c.in_ok-push.ensures.items
