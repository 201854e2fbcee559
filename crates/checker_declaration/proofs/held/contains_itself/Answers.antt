use Rattle.std.proofs.Common.{rules, ◌≡◌, ℕ, inl, inr, List, Some, slice_get, sym, subst}
use Rattle.type_table.specs.Containment.{Holds}
use Rattle.checker_declaration.specs.Parts.{structs_in}
use Rattle.checker_declaration.proofs.Within.{within_has}
use Rattle.checker_declaration.proofs.held.contains_itself.Goals as goal

pub returns-then-next-number : goal.returns-then-next-number
returns-then-next-number c =
    let there : slice_get c.note_struct.new.found.items c.loop-at.at ≡ Some c.in-Some.inner = rw c.as_slice.ensures.value at (sym c.in-Some.ensures) in
    let same : c.in-Some.inner ≡ c.args.number = search rules in
    λ _ types. subst (λ (k : ℕ). Holds (structs_in types c.args.all.now) c.args.number k) same (elim (c.in_ok-note_struct.ensures types c.loop-at.at c.in-Some.inner there) [
      | inl e ↦ c.loop-at.invariant.found types c.loop-at.at c.in-Some.inner e
      | inr has ↦ within_has (structs_in types c.args.all.now) c.args.number c.loop-at.next c.in-Some.inner (c.loop-at.invariant.next types) has
    ])

pub loop-at-preserved : goal.loop-at-preserved
loop-at-preserved c =
    let there : slice_get c.note_struct.new.found.items c.loop-at.at ≡ Some c.in-Some.inner = rw c.as_slice.ensures.value at (sym c.in-Some.ensures) in
    let found : (types : List (List ℕ)) (j t : ℕ) → slice_get c.note_struct.new.found.items j ≡ Some t → Holds (structs_in types c.args.all.now) c.args.number t =
    λ types j t h. elim (c.in_ok-note_struct.ensures types j t h) [
      | inl e ↦ c.loop-at.invariant.found types j t e
      | inr has ↦ within_has (structs_in types c.args.all.now) c.args.number c.loop-at.next t (c.loop-at.invariant.next types) has
    ] in
    record {
      next = λ types. inr (found types c.loop-at.at c.in-Some.inner there);
      found = found;
    }
