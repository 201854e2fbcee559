-- Steps that cost nothing lead forward, so that there are few of them in a row.
use Rattle.std.proofs.Common.{◌≡◌, ℕ, ℤ, zero, suc, ◌+◌, ◌-◌, ◌*◌, ◌<◌, ◌≤◌, List, [], ◌∷◌, length, map, Option, Some, None, Result, Ok, Err, refl, sym, ap, subst, arith, Bool, true, false, cond, nat_lt, slice_get, slice_range}
use Rattle.std.specs.Prelude.{sum_by}
use Rattle.std.specs.Option.{is_some}
use Rattle.std.proofs.lemmas.List.Sums.{sum_by-cons}
use Rattle.std.proofs.Math.Nat.{suc-mul}
use Rattle.bytecode.specs.declared.instr.Instr.{Instr}
use Rattle.bytecode.specs.declared.instr.Instr.TheVariants as instrs
use Rattle.bytecode.specs.declared.instr.WordKind.{WordKind}
use Rattle.bytecode.specs.Code.{Function, Code}
use Rattle.bytecode.specs.Effects.{top_of, below}
use Rattle.bytecode.specs.Machine.{Frame, Frames, NextFrames, instrs_of, zero_of, begun, goes_on, goes_to, put_at, if_within, if_there, on_truth, on_int, on_chan, applied, on_value, entered, returned, printed, cases_of, pushed, instr_next, pops, at_instr, at_function, told_first, code_next}
use Rattle.bytecode.specs.Rules.{Directed, IsVerified, Await, IsFrameOf}
use Rattle.bytecode.specs.Silence.{instr_count, most_silent}
use Rattle.bytecode.proofs.Unstuck.{there}
use Rattle.word.specs.declared.panic.Panic.{Panic as Cause}
use Rattle.word.specs.declared.panic.Panic.TheVariants.{CallDepth}
use Rattle.word.specs.declared.value.Word.{Word}
use Rattle.word.specs.declared.value.Word.TheVariants.{Int, Bool as Truth, Chan}
use Rattle.word.specs.Kinds.{Slides, Ticks, Asks, Stuck}
use Rattle.word.specs.Values.{Make, Go, Send, Receive, Close, Select, Len, Cap, Print, Panic}
use Rattle.std.proofs.lemmas.Option.{slice_get_within}

module _ (code : Code) where
  -- how many instructions of a frame's function lie ahead, the next one counted
  abbrev ahead_of : ℕ → ℕ → ℕ
  ahead_of function place = length (instrs_of (slice_get code.functions function)) - place

  abbrev ahead : Frames → ℕ
  ahead [] = 0
  ahead (c ∷ cs) = ahead_of c.function c.place + ahead cs

  abbrev told_steps : List Word → ℕ
  told_steps [] = 0
  told_steps (w ∷ ws) = 1

  -- how many steps there are in a row at most that cost nothing
  abbrev pub silent : Frames → ℕ
  silent [] = 0
  silent (c ∷ cs) = told_steps c.told + ahead (c ∷ cs)

  -- a step that costs nothing leaves fewer
  abbrev Falls : ℕ → NextFrames → Type 0
  Falls n (Slides s) = silent s < n
  Falls n (Ticks s) = Unit {0}
  Falls n (Asks q) = Unit {0}
  Falls n Stuck = Unit {0}

  by_within : (n m have : ℕ) (a : NextFrames) → Falls n a → Falls n (if_within m have a)
  by_within n m have a h = by (nat_lt have m)
    where
      by : (t : Bool) → Falls n (cond t Stuck a)
      by true = tt
      by false = h

  by_there : {A : Type 0} (n : ℕ) (o : Option A) (step : A → NextFrames) → ((x : A) → o ≡ Some x → Falls n (step x)) → Falls n (if_there o step)
  by_there n None step h = tt
  by_there n (Some x) step h = h x refl

  by_truth : (n : ℕ) (ws : List Word) (so other : NextFrames) → Falls n so → Falls n other → Falls n (on_truth ws so other)
  by_truth n (Truth true ∷ []) so other p q = p
  by_truth n (Truth false ∷ []) so other p q = q
  by_truth n [] so other p q = tt
  by_truth n (Int x ∷ ws) so other p q = tt
  by_truth n (Chan x ∷ ws) so other p q = tt
  by_truth n (Truth true ∷ (w ∷ ws)) so other p q = tt
  by_truth n (Truth false ∷ (w ∷ ws)) so other p q = tt

  by_int : (n : ℕ) (ws : List Word) (step : ℤ → NextFrames) → ((x : ℤ) → Falls n (step x)) → Falls n (on_int ws step)
  by_int n (Int x ∷ []) step h = h x
  by_int n [] step h = tt
  by_int n (Truth x ∷ ws) step h = tt
  by_int n (Chan x ∷ ws) step h = tt
  by_int n (Int x ∷ (w ∷ ws)) step h = tt

  by_chan : (n : ℕ) (ws : List Word) (step : Option ℕ → List Word → NextFrames) → ((c : Option ℕ) (item : List Word) → Falls n (step c item)) → Falls n (on_chan ws step)
  by_chan n (Chan c ∷ item) step h = h c item
  by_chan n [] step h = tt
  by_chan n (Int x ∷ ws) step h = tt
  by_chan n (Truth x ∷ ws) step h = tt

  by_value : (n : ℕ) (o : Option (Result Word Cause)) (step : Word → NextFrames) → ((w : Word) → Falls n (step w)) → Falls n (on_value o step)
  by_value n (Some (Ok w)) step h = h w
  by_value n (Some (Err cause)) step h = tt
  by_value n None step h = tt

  told_none : (told : List Word) → told ≡ [] → told_steps told ≡ 0
  told_none told e = ap told_steps e

  module _ (c : Frame) (cs : Frames) (low top : List Word) (own : List WordKind) (ht : c.told ≡ []) (aw : Await code own cs) (within : c.place < length (instrs_of (slice_get code.functions c.function))) where
    -- forward within the function
    forward : (to : ℕ) → c.place < to → told_steps c.told + (ahead_of c.function to + ahead cs) < ahead (c ∷ cs)
    forward to further =
        let none = told_none c.told ht in
        omega (arith, none, further, within)

    next_one : told_steps c.told + (ahead_of c.function (c.place + 1) + ahead cs) < ahead (c ∷ cs)
    next_one = forward (c.place + 1) (omega arith)

    returns : (low : List Word) (cs : Frames) → Await code own cs → (n : ℕ) → ahead cs < n → Falls n (returned low top cs)
    returns (w ∷ low) cs aw n h = tt
    returns [] [] aw n h = tt
    returns [] (d ∷ ds) aw n h =
        let none = told_none d.told aw.4 in
        omega (arith, none, h)

    by_instr : (i : Instr) → Directed code c.place i → Falls (ahead (c ∷ cs)) (instr_next code c cs low top i)
    by_instr (instrs.Int n) d = next_one
    by_instr (instrs.Bool b) d = next_one
    by_instr (instrs.Nil s) d = next_one
    by_instr (instrs.Load a n) d = by_within (ahead (c ∷ cs)) (a + n) (length c.locals) (pushed code c cs low top (slice_range c.locals a (a + n))) next_one
    by_instr (instrs.Store a n) d = by_within (ahead (c ∷ cs)) (a + n) (length c.locals) (Slides (record c { place = c.place + 1; locals = put_at a top c.locals; stack = low } ∷ cs)) next_one
    by_instr (instrs.Pick t a n) d = by_within (ahead (c ∷ cs)) (a + n) t (pushed code c cs low top (slice_range top a (a + n))) next_one
    by_instr (instrs.Discard n) d = next_one
    by_instr (instrs.Apply op) d = by_value (ahead (c ∷ cs)) (applied op top) (λ w. pushed code c cs low top (w ∷ [])) (λ w. next_one)
    by_instr instrs.Tick d = tt
    by_instr (instrs.Jump to) d = forward to d
    by_instr (instrs.Unless to) d = by_truth (ahead (c ∷ cs)) top (Slides (goes_on c low ∷ cs)) (Slides (goes_to c to low ∷ cs)) next_one (forward to d)
    by_instr (instrs.Loop to) d = tt
    by_instr (instrs.Call g) d = by_there (ahead (c ∷ cs)) (slice_get code.functions g) (entered g top (goes_on c low ∷ cs)) (λ f e. enters (nat_lt (length (goes_on c low ∷ cs)) 1000) f)
      where
        enters : (t : Bool) (f : Function) → Falls (ahead (c ∷ cs)) (cond t (Ticks (begun f.locals g top ∷ (goes_on c low ∷ cs))) (Asks (Panic CallDepth)))
        enters true f = tt
        enters false f = tt
    by_instr instrs.Return d = returns low cs aw (ahead (c ∷ cs)) (omega (arith, within))
    by_instr (instrs.Make s) d = by_there (ahead (c ∷ cs)) (slice_get code.shapes s) (λ ks. if_within (length ks) 16 (on_int top (λ n. Asks (Make n (map zero_of ks))))) (λ ks e. by_within (ahead (c ∷ cs)) (length ks) 16 (on_int top (λ n. Asks (Make n (map zero_of ks)))) (by_int (ahead (c ∷ cs)) top (λ n. Asks (Make n (map zero_of ks))) (λ n. tt)))
    by_instr (instrs.Go g) d = by_there (ahead (c ∷ cs)) (slice_get code.functions g) (λ f. Asks (Go g top)) (λ f e. tt)
    by_instr (instrs.Send s) d = by_chan (ahead (c ∷ cs)) top (λ chan item. if_within (length item) 16 (Asks (Send chan item))) (λ chan item. by_within (ahead (c ∷ cs)) (length item) 16 (Asks (Send chan item)) tt)
    by_instr (instrs.Receive s) d = by_chan (ahead (c ∷ cs)) top (λ chan item. Asks (Receive chan)) (λ chan item. tt)
    by_instr instrs.Close d = by_chan (ahead (c ∷ cs)) top (λ chan item. Asks (Close chan)) (λ chan item. tt)
    by_instr instrs.Len d = by_chan (ahead (c ∷ cs)) top (λ chan item. Asks (Len chan)) (λ chan item. tt)
    by_instr instrs.Cap d = by_chan (ahead (c ∷ cs)) top (λ chan item. Asks (Cap chan)) (λ chan item. tt)
    by_instr (instrs.Print q) d = by_there (ahead (c ∷ cs)) (slice_get code.prints q) (λ table. Asks (Print (printed table top))) (λ table e. tt)
    by_instr (instrs.Select q) d = by_there (ahead (c ∷ cs)) (slice_get code.selects q) (λ table. if_there (cases_of code table.clauses top) (λ cases. Asks (Select cases (is_some table.default)))) (λ table e. by_there (ahead (c ∷ cs)) (cases_of code table.clauses top) (λ cases. Asks (Select cases (is_some table.default))) (λ cases h. tt))

  module _ (v : IsVerified code) where
    frame_within : (c : Frame) (f : Function) (i : Instr) → slice_get code.functions c.function ≡ Some f → slice_get f.instrs c.place ≡ Some i → c.place < length (instrs_of (slice_get code.functions c.function))
    frame_within c f i e h = subst (λ o. c.place < length (instrs_of o)) (sym e) (slice_get_within f.instrs c.place i h)

    by_frame : (c : Frame) (cs : Frames) (told : List Word) → c.told ≡ told → IsFrameOf code (c ∷ cs) → Falls (told_steps told + ahead (c ∷ cs)) (told_first code c cs told)
    by_frame c cs (w ∷ ws) e g = omega arith
    by_frame c cs [] e g =
        by_there (0 + ahead (c ∷ cs)) (slice_get code.functions c.function) (at_function code c cs) (λ f hf.
        by_there (0 + ahead (c ∷ cs)) (slice_get f.instrs c.place) (at_instr code c cs f) (λ i hi.
        let n = pops code f i in
        by_within (0 + ahead (c ∷ cs)) n (length c.stack) (instr_next code c cs (below n c.stack) (top_of n c.stack) i)
        (subst (λ m. Falls m (instr_next code c cs (below n c.stack) (top_of n c.stack) i)) (let z : ahead (c ∷ cs) ≡ 0 + ahead (c ∷ cs) = omega arith in z)
        (by_instr c cs (below n c.stack) (top_of n c.stack) g.good.0 e g.good.5 (frame_within c f i hf hi) i ((v.functions c.function f hf).directed c.place i hi)))))

    -- a step that costs nothing leaves fewer steps that do
    pub falls : (s t : Frames) → IsFrameOf code s → code_next code s ≡ Slides t → silent t < silent s
    falls [] t g e = absurd g.good
    falls (c ∷ cs) t g e = subst (Falls (silent (c ∷ cs))) e (by_frame c cs c.told refl g)

-- ---- how many there are at most

-- a part of a sum is at most the sum
part_of : (fs : List Function) (g : ℕ) → length (instrs_of (slice_get fs g)) ≤ sum_by (λ (f : Function). length f.instrs) fs
part_of [] g = omega arith
part_of (f ∷ fs) zero =
    let all = sum_by-cons (λ (f : Function). length f.instrs) f fs in
    omega (arith, all)
part_of (f ∷ fs) (suc g) =
    let all = sum_by-cons (λ (f : Function). length f.instrs) f fs in
    let rest = part_of fs g in
    omega (arith, all, rest)

module _ (code : Code) where
  ahead_most : (n : ℕ) (s : Frames) → length s ≤ n → ahead code s ≤ n * instr_count code
  ahead_most n [] h = omega arith
  ahead_most zero (c ∷ cs) h = absurd (omega (arith, h))
  ahead_most (suc n) (c ∷ cs) h =
      let one = part_of code.functions c.function in
      let rest = ahead_most n cs (omega (arith, h)) in
      let split = suc-mul n (instr_count code) in
      omega (arith, one, rest, split)

  -- no more steps in a row are silent
  pub silent_most : IsVerified code → (s : Frames) → IsFrameOf code s → silent code s ≤ most_silent code
  silent_most v [] g = absurd g.good
  silent_most v (c ∷ cs) g =
      let t = there code v c.function c.place g.good.1 g.good.4 in
      let here = frame_within code v c t.function t.instr t.is-function t.is-instr in
      let some = part_of code.functions c.function in
      let all = ahead_most 1000 (c ∷ cs) g.depth in
      let told : told_steps code c.told ≤ 1 = one_told c.told in
      omega (arith, here, some, all, told)
    where
      one_told : (told : List Word) → told_steps code told ≤ 1
      one_told [] = omega arith
      one_told (w ∷ ws) = omega arith
