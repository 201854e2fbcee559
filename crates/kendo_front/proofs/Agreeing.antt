-- Two runs of a text that both end have written the same bytes, and ended alike.
use Rattle.std.proofs.Common.{◌≡◌, ℕ, zero, suc, ◌+◌, ◌-◌, ◌≤◌, Bool, true, false, cond, List, [], ◌∷◌, map, Option, Some, None, option_map, refl, sym, ap, ◌∙◌, subst, arith, inl, inr}
use Rattle.std.proofs.lemmas.Bool.{cases_lt}
use Rattle.std.specs.Io.KnownBytes.{Appends}
use Rattle.std.specs.Option.{is_some}
use Rattle.logical_clock.specs.Order.{keys, least}
use Rattle.turn_rule.specs.Turns.{World, next, move_next, one, run}
use Rattle.turn_rule.proofs.Stable.{run_add}
use Rattle.word.specs.Kinds.{Clocked, GoroutineKind}
use Rattle.word.specs.declared.end.End.{End as Ending}
use Rattle.word.specs.declared.end.End.TheVariants.{Deadlock}
use Rattle.word.specs.Worlds.{Rest, rules, opening, moment, is_deserted, end_of}
use Rattle.word.proofs.Laws.{laws}
use Rattle.meaning.specs.Source.{source_kind}
use Rattle.syntax.specs.Tree.{File}
use Rattle.whole_run.specs.Runs.{IsWhole}
use Rattle.kendo_front.specs.Agreement.{Agree}
use Rattle.kendo_reading.specs.Reading.{Reads}
use Rattle.kendo_reading.proofs.Refusals.{one_reading}

nobody : {S : Type 0} (clock : S → ℕ) (n : ℕ) (xs : List (Option S)) → is_deserted (map is_some xs) ≡ true → keys (option_map clock) n xs ≡ []
nobody clock n [] e = refl
nobody clock n (None ∷ xs) e = nobody clock (suc n) xs e
nobody clock n (Some s ∷ xs) e = absurd cc

module _ (K : GoroutineKind) (limit : ℕ) where
  abbrev Whole : Type 0
  Whole = World (Clocked K.State) (Rest K.State)

  abbrev moves_on : Whole → Bool → Whole
  moves_on w over = cond over w (move_next (rules K limit) w (next (rules K limit) w.awake))

  -- after an end nothing moves
  one_rests : (w : Whole) (e : Ending) → end_of w ≡ Some e → one (rules K limit) w ≡ w
  one_rests w e ends = go w.shared.shared.ending refl ends where
    go : (o : Option Ending) → w.shared.shared.ending ≡ o → end_of w ≡ Some e → one (rules K limit) w ≡ w
    go (Some x) is ends = ap (λ (o : Option Ending). moves_on w (is_some o)) is
    go None is ends = ap (λ (o : Option Ending). moves_on w (is_some o)) is ∙ last (is_deserted (map is_some w.awake)) refl (sym (ap (λ (o : Option Ending). cond (is_some o) o (cond (is_deserted (map is_some w.awake)) (Some Deadlock) None)) is) ∙ ends) where
      last : (b : Bool) → is_deserted (map is_some w.awake) ≡ b → cond (is_deserted (map is_some w.awake)) (Some Deadlock) None ≡ Some e → move_next (rules K limit) w (next (rules K limit) w.awake) ≡ w
      last true deserted some = ap (λ ks. move_next (rules K limit) w (least ks)) (nobody (λ (s : Clocked K.State). s.clock) 0 w.awake deserted)
      last false deserted some = absurd cc

  run_rests : (d : ℕ) (w : Whole) (e : Ending) → end_of w ≡ Some e → run (rules K limit) d w ≡ w
  run_rests zero w e ends = refl
  run_rests (suc d) w e ends = ap (λ x. run (rules K limit) d x) (one_rests w e ends) ∙ run_rests d w e ends

  later : (n m : ℕ) (e : Ending) → n ≤ m → end_of (moment K limit n) ≡ Some e → moment K limit m ≡ moment K limit n
  later n m e le ends =
      let sum : n + (m - n) ≡ m = omega (arith, le) in
      ap (moment K limit) (sym sum) ∙ run_add (rules K limit) (laws K limit) n (m - n) (opening K) ∙ run_rests (m - n) (moment K limit n) e ends

  -- a run ends at one world
  one_end : (n m : ℕ) (e d : Ending) → end_of (moment K limit n) ≡ Some e → end_of (moment K limit m) ≡ Some d → moment K limit m ≡ moment K limit n
  one_end n m e d ends too = elim (cases_lt n m) [
    | inl lt ↦ later n m e (omega (arith, lt)) ends
    | inr ge ↦ sym (later m n d (omega (arith, ge)) too)
  ]

agree : (K : GoroutineKind) (limit : ℕ) (old new other others : Option (List ℕ)) (e d : Ending) → IsWhole K limit old new e → IsWhole K limit other others d → Agree old new other others e d
agree K limit old new other others e d (n, written, ends) (m, too, also) =
    let same = one_end K limit n m e d ends also in
    ((moment K limit n).shared.shared.output, written, subst (λ (w : World (Clocked K.State) (Rest K.State)). Appends other others w.shared.shared.output) same too, same_ending (sym ends ∙ ap end_of (sym same) ∙ also)) where
      same_ending : {x y : Ending} → Some x ≡ Some y → x ≡ y
      same_ending is = cc

-- two runs of a text at one limit that both end, by the compiler or by the interpreter, wrote the same and ended alike
pub runs_agree : (text : List ℕ) (limit : ℕ) (file again : File) (old new other others : Option (List ℕ)) (e d : Ending) → Reads text file → Reads text again
    → IsWhole (source_kind file) limit old new e → IsWhole (source_kind again) limit other others d → Agree old new other others e d
runs_agree text limit file again old new other others e d reads too whole also =
    let same = one_reading text again file too reads in
    agree (source_kind file) limit old new other others e d whole (subst (λ (f : File). IsWhole (source_kind f) limit other others d) same also)
