-- The woken goroutines get up one by one.
use Rattle.std.proofs.Common.{◌≡◌, ℕ, ◌+◌, ◌≤◌, ◌++◌, List, [], ◌∷◌, map, length, Option, None, IfSome, sym, ap, ◌∙◌, subst, inl, inr, arith, append_assoc, get_or-set_same, get_or-set_other}
use Rattle.std.specs.Prelude.{option_map, slice_index_or, slice_set}
use Rattle.std.proofs.lemmas.Bool.{cases_eq, cases_lt}
use Rattle.std.proofs.lemmas.List.{length_push, set_past}
use Rattle.bytecode.specs.Code.{Code}
use Rattle.bytecode.specs.Machine.{code_kind}
use Rattle.bytecode.specs.Rules.{IsFrameOf}
use Rattle.word.specs.Kinds.{told}
use Rattle.word.specs.Values.{Reply}
use Rattle.world_core_base.specs.Cores.{left_beds, woken_rows}
use Rattle.awake_rows.specs.Slots.{Beds, Rows, State, free_row}

abbrev FitsFrames : Code → Beds → Type 0
FitsFrames code bs = (k : ℕ) → IfSome (slice_index_or bs k None) (λ (s : State). IsFrameOf code s.state)

-- waking those that are left gives from here what waking all gave at first
pub record Waking (code : Code) (clock : ℕ) (rs rs' : Rows) (bs bs' : Beds) (left all : List (ℕ × Reply)) (ns ns' : List ℕ) (len most : ℕ) : Type 0 where
  pub fits : (k : ℕ) → IfSome (slice_index_or bs k None) (λ (s : State). IsFrameOf code s.state)
  pub rows : woken_rows code rs bs clock left ≡ woken_rows code rs' bs' clock all
  pub beds : left_beds bs left ≡ left_beds bs' all
  pub numbers : ns ++ map (λ (w : ℕ × Reply). w.0) left ≡ ns' ++ map (λ (w : ℕ × Reply). w.0) all
  pub room : len + length left ≤ most

still_fits : (code : Code) (bs : Beds) (n : ℕ) → FitsFrames code bs → FitsFrames code (slice_set bs n None)
still_fits code bs n all k = elim (cases_eq k n) [
  | inl e ↦ elim (cases_lt n (length bs)) [
    | inl l ↦ subst (λ (p : Option State). IfSome p (λ (s : State). IsFrameOf code s.state)) (sym (ap (λ j. slice_index_or (slice_set bs n None) j None) e ∙ get_or-set_same bs n None None l)) tt
    | inr l ↦ subst (λ (ys : Beds). IfSome (slice_index_or ys k None) (λ (s : State). IsFrameOf code s.state)) (sym (set_past bs n None l)) (all k)
  ]
  | inr ne ↦ subst (λ (p : Option State). IfSome p (λ (s : State). IsFrameOf code s.state)) (sym (get_or-set_other bs n k None None ne)) (all k)
]

-- one of them gets up
pub next_wakes : (code : Code) (clock : ℕ) (rs rs' rows : Rows) (bs bs' beds : Beds) (w : ℕ × Reply) (left all : List (ℕ × Reply)) (ns ns' numbers : List ℕ) (len most size n : ℕ) (reply : Reply)
    → Waking code clock rs rs' bs bs' (w ∷ left) all ns ns' len most → n ≡ w.0 → reply ≡ w.1
    → rows ≡ slice_set rs n (option_map (λ (s : State). free_row (told (code_kind code) s clock reply)) (slice_index_or bs n None)) → beds ≡ slice_set bs n None → numbers ≡ ns ++ n ∷ [] → size ≡ len + 1
    → Waking code clock rows rs' beds bs' left all numbers ns' size most
next_wakes code clock rs rs' rows bs bs' beds w left all ns ns' numbers len most size n reply h en er r b e s =
    let up : rows ≡ slice_set rs w.0 (option_map (λ (t : State). free_row (told (code_kind code) t clock w.1)) (slice_index_or bs w.0 None)) =
    r ∙ (λ i. slice_set rs (en i) (option_map (λ (t : State). free_row (told (code_kind code) t clock (er i))) (slice_index_or bs (en i) None))) in
    let out : beds ≡ slice_set bs w.0 None = b ∙ (λ i. slice_set bs (en i) None) in
    let had = h.room in
    record {
      fits = subst (FitsFrames code) (sym out) (still_fits code bs w.0 h.fits);
      rows = (λ i. woken_rows code (up i) (out i) clock left) ∙ h.rows;
      beds = ap (λ (bs : Beds). left_beds bs left) out ∙ h.beds;
      numbers = ap (λ (xs : List ℕ). xs ++ map (λ (v : ℕ × Reply). v.0) left) (e ∙ ap (λ k. ns ++ k ∷ []) en) ∙ append_assoc ns (w.0 ∷ []) (map (λ (v : ℕ × Reply). v.0) left) ∙ h.numbers;
      room = omega (arith, had, s);
    }

-- one buffer less is enough for those that are left
pub next_room : {A B : Type 0} (left : List A) (w : A) (rooms new : List B) (room : B) → length (w ∷ left) ≤ length rooms → rooms ≡ new ++ room ∷ [] → length left ≤ length new
next_room left w rooms new room enough is =
    let one = ap length is ∙ length_push new room in
    omega (arith, enough, one)
