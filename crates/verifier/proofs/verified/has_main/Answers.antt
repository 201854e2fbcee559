use Rattle.std.proofs.Common.{◌≡◌, ◌∙◌, ◌<◌, List, [], ◌∷◌, length, Some, sym, ap, arith, rules, refl, slice_get}
use Rattle.std.proofs.lemmas.Option.{slice_get-get_or}
use Rattle.bytecode.specs.Code.{Function}
use Rattle.bytecode.specs.Machine.{main_of}
use Rattle.verifier.proofs.verified.has_main.Goals as goal
use Rattle.bytecode.proofs.Options.{some_inj}

empty : {A : Type 0} (xs : List A) → length xs ≡ 0 → xs ≡ []
empty [] e = refl
empty (x ∷ xs) e = absurd (omega (arith, e))

pub returns-in-Some : goal.returns-in-Some
returns-in-Some c =
    let n = c.in-Some.number in
    let f : Function = c.index-functions-number.result in
    let is = c.functions-functions.ensures in
    let lt : n < length c.functions-functions.result.now = search rules in
    let first : main_of c.args.code.now.functions ≡ Some n = ap main_of (sym is) ∙ sym c.in-Some.ensures in
    let there : slice_get c.args.code.now.functions n ≡ Some f = ap (λ (xs : List Function). slice_get xs n) (sym is) ∙ slice_get-get_or c.functions-functions.result.now n f lt ∙ ap Some (sym c.index-functions-number.is) in (
      λ t. let p = c.is_plain.ensures.0 t in record { number = n; function = f; first = first; there = there; params = p.0; results = empty f.results p.1 },
      λ h.
          let same : h.number ≡ n = some_inj (sym h.first ∙ first) in
          let one : h.function ≡ f = some_inj (sym h.there ∙ ap (slice_get c.args.code.now.functions) same ∙ there) in
          c.is_plain.ensures.1 (ap (λ (x : Function). x.params) (sym one) ∙ h.params, ap (λ (x : Function). length x.results) (sym one) ∙ ap length h.results),
    )
