-- Breaks that get their targets, and continues that still wait.
use Rattle.std.proofs.Common.{◌≡◌, ℕ, ◌+◌, ◌<◌, Bool, true, false, cond, List, [], ◌∷◌, ◌++◌, length, drop, get_or, refl, sym, ap, ◌∙◌, append_assoc}
use Rattle.std.specs.Prelude.{slice_set}
use Rattle.std.proofs.lemmas.List.{append-nil, drop_more}
use Rattle.bytecode.specs.declared.instr.Instr.{Instr}
use Rattle.bytecode.specs.declared.instr.Instr.TheVariants as instrs
use Rattle.codegen_flow.specs.declared.waits.Wait.{Wait}
use Rattle.codegen_flow.specs.Waits.{continues, settled}

settled_both : (ws vs : List Wait) (stop : ℕ) (code : List Instr) → settled (ws ++ vs) stop code ≡ settled ws stop (settled vs stop code)
settled_both [] vs stop code = refl
settled_both (w ∷ ws) vs stop code = ap (λ (c : List Instr). cond w.leaves (slice_set c w.place (instrs.Jump stop)) c) (settled_both ws vs stop code)

-- the last one first
pub settled_last : (all ws : List Wait) (w : Wait) (stop : ℕ) (code next : List Instr) → all ≡ ws ++ w ∷ [] → next ≡ cond w.leaves (slice_set code w.place (instrs.Jump stop)) code → settled ws stop next ≡ settled all stop code
settled_last all ws w stop code next is done = ap (settled ws stop) done ∙ sym (settled_both ws (w ∷ []) stop code) ∙ ap (λ l. settled l stop code) (sym is)

kept_or_not : (b : Bool) (left rest : List Wait) (w : Wait) → (left ++ cond b [] (w ∷ [])) ++ rest ≡ left ++ cond b rest (w ∷ rest)
kept_or_not true left rest w = ap (λ (l : List Wait). l ++ rest) (append-nil left)
kept_or_not false left rest w = append_assoc left (w ∷ []) rest

-- one more is seen
pub continues_more : (i : ℕ) (all left next : List Wait) (w : Wait) → i < length all → w ≡ get_or all i w → left ++ continues (drop i all) ≡ continues all → next ≡ left ++ cond w.leaves [] (w ∷ []) → next ++ continues (drop (i + 1) all) ≡ continues all
continues_more i all left next w there is before done =
    let rest = continues (drop (i + 1) all) in
    let more : continues (drop i all) ≡ cond w.leaves rest (w ∷ rest) = ap continues (drop_more all i w there ∙ ap (λ x. x ∷ drop (i + 1) all) (sym is)) in
    ap (λ (l : List Wait). l ++ rest) done ∙ kept_or_not w.leaves left rest w ∙ ap (λ (l : List Wait). left ++ l) (sym more) ∙ before
