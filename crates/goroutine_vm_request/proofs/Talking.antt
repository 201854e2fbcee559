-- The sends of one word, and the receives, that come next.
use Rattle.std.proofs.Common.{◌≡◌, ℕ, ℤ, ◌+◌, ◌-◌, ◌<◌, ◌≤◌, Bool, true, false, cond, List, [], ◌∷◌, length, take, drop, Option, Some, None, Result, Ok, Err, refl, sym, ap, ◌∙◌, nat_lt, slice_get, slice_range}
use Rattle.bytecode.specs.declared.instr.Instr.{Instr}
use Rattle.bytecode.specs.declared.instr.Instr.TheVariants as instrs
use Rattle.bytecode.specs.Code.{Function, Code}
use Rattle.bytecode.specs.Machine.{Frame, Frames, NextFrames as NextStep, applied, at_function, at_instr, begun, code_next, cases_of, entered, goes_on, if_there, instr_next, on_chan, on_int, on_truth, on_value, pops, pushed, put_at, returned, told_first}
use Rattle.call_frame.specs.Steps.{StandsAt}
use Rattle.call_frame.proofs.Fetching.{next_instr, next_short}
use Rattle.goroutine_vm_request.specs.Talks.{next_talk}
use Rattle.goroutine_vm_request.specs.declared.talks.Talk.{Talk}
use Rattle.goroutine_vm_request.specs.declared.talks.Talk.TheVariants.{Other}
use Rattle.word.specs.declared.panic.Panic.{Panic as Cause}
use Rattle.word.specs.declared.value.Word.{Word}
use Rattle.word.specs.declared.value.Word.TheVariants.{Int, Bool as Truth, Chan}
use Rattle.word.specs.declared.limits.TheConstants.{MAX_DEPTH}
use Rattle.word.specs.declared.panic.Panic.TheVariants.{CallDepth}
use Rattle.word.specs.Values.{Panic}
use Rattle.word.specs.Kinds.{Slides, Ticks, Asks, Stuck}

-- neither a send of one word nor a receive, on a channel
abbrev Mute : NextStep → Type 0
Mute next = next_talk next ≡ Other

mute_cond : (b : Bool) (next : NextStep) → Mute next → Mute (cond b Stuck next)
mute_cond true next m = refl
mute_cond false next m = m

mute_there : {A : Type 0} (o : Option A) (step : A → NextStep) → ((x : A) → Mute (step x)) → Mute (if_there o step)
mute_there None step m = refl
mute_there (Some x) step m = m x

mute_either : (b : Bool) (so other : NextStep) → Mute so → Mute other → Mute (cond b so other)
mute_either true so other m n = m
mute_either false so other m n = n

mute_int : (ws : List Word) (step : ℤ → NextStep) → ((n : ℤ) → Mute (step n)) → Mute (on_int ws step)
mute_int [] step m = refl
mute_int (Int n ∷ []) step m = m n
mute_int (Int n ∷ (w ∷ ws)) step m = refl
mute_int (Truth b ∷ ws) step m = refl
mute_int (Chan c ∷ ws) step m = refl

mute_chan : (ws : List Word) (step : Option ℕ → List Word → NextStep) → ((c : Option ℕ) (item : List Word) → Mute (step c item)) → Mute (on_chan ws step)
mute_chan [] step m = refl
mute_chan (Int n ∷ ws) step m = refl
mute_chan (Truth b ∷ ws) step m = refl
mute_chan (Chan c ∷ ws) step m = m c ws

mute_truth : (ws : List Word) (so other : NextStep) → Mute so → Mute other → Mute (on_truth ws so other)
mute_truth [] so other m n = refl
mute_truth (Int x ∷ ws) so other m n = refl
mute_truth (Chan c ∷ ws) so other m n = refl
mute_truth (Truth true ∷ []) so other m n = m
mute_truth (Truth false ∷ []) so other m n = n
mute_truth (Truth true ∷ (w ∷ ws)) so other m n = refl
mute_truth (Truth false ∷ (w ∷ ws)) so other m n = refl

mute_value : (o : Option (Result Word Cause)) (step : Word → NextStep) → ((w : Word) → Mute (step w)) → Mute (on_value o step)
mute_value None step m = refl
mute_value (Some (Ok w)) step m = m w
mute_value (Some (Err cause)) step m = refl

mute_returned : (low results : List Word) (callers : Frames) → Mute (returned low results callers)
mute_returned (w ∷ low) results callers = refl
mute_returned [] results [] = refl
mute_returned [] results (c ∷ callers) = refl

mute_entered : (g : ℕ) (args : List Word) (callers : Frames) (f : Function) → Mute (entered g args callers f)
mute_entered g args callers f = mute_either (nat_lt (length callers) MAX_DEPTH) (Ticks (begun f.locals g args ∷ callers)) (Asks (Panic CallDepth)) refl refl

-- an instruction that neither sends nor receives
mute_instr : (code : Code) (c : Frame) (cs : Frames) (low top : List Word) (i : Instr) → ((s : ℕ) → i ≡ instrs.Send s → ⊥) → ((s : ℕ) → i ≡ instrs.Receive s → ⊥) → Mute (instr_next code c cs low top i)
mute_instr code c cs low top (instrs.Int n) x y = refl
mute_instr code c cs low top (instrs.Bool b) x y = refl
mute_instr code c cs low top (instrs.Nil s) x y = refl
mute_instr code c cs low top (instrs.Load a n) x y = mute_cond (nat_lt (length c.locals) (a + n)) (pushed code c cs low top (slice_range c.locals a (a + n))) refl
mute_instr code c cs low top (instrs.Store a n) x y = mute_cond (nat_lt (length c.locals) (a + n)) (Slides (record c { place = c.place + 1; locals = put_at a top c.locals; stack = low } ∷ cs)) refl
mute_instr code c cs low top (instrs.Pick t a n) x y = mute_cond (nat_lt t (a + n)) (pushed code c cs low top (slice_range top a (a + n))) refl
mute_instr code c cs low top (instrs.Discard n) x y = refl
mute_instr code c cs low top (instrs.Apply op) x y = mute_value (applied op top) (λ w. pushed code c cs low top (w ∷ [])) (λ w. refl)
mute_instr code c cs low top instrs.Tick x y = refl
mute_instr code c cs low top (instrs.Jump to) x y = refl
mute_instr code c cs low top (instrs.Unless to) x y = mute_truth top _ _ refl refl
mute_instr code c cs low top (instrs.Loop to) x y = refl
mute_instr code c cs low top (instrs.Call g) x y = mute_there (slice_get code.functions g) _ (mute_entered g top (goes_on c low ∷ cs))
mute_instr code c cs low top instrs.Return x y = mute_returned low top cs
mute_instr code c cs low top (instrs.Make s) x y = mute_there (slice_get code.shapes s) _ (λ ks. mute_cond _ _ (mute_int top _ (λ n. refl)))
mute_instr code c cs low top (instrs.Go g) x y = mute_there (slice_get code.functions g) _ (λ f. refl)
mute_instr code c cs low top (instrs.Send s) x y = absurd (x s refl)
mute_instr code c cs low top (instrs.Receive s) x y = absurd (y s refl)
mute_instr code c cs low top instrs.Close x y = mute_chan top _ (λ o item. refl)
mute_instr code c cs low top instrs.Len x y = mute_chan top _ (λ o item. refl)
mute_instr code c cs low top instrs.Cap x y = mute_chan top _ (λ o item. refl)
mute_instr code c cs low top (instrs.Print q) x y = mute_there (slice_get code.prints q) _ (λ table. refl)
mute_instr code c cs low top (instrs.Select q) x y = mute_there (slice_get code.selects q) _ (λ table. mute_there (cases_of code table.clauses top) _ (λ cases. refl))

-- what comes next if the last one called has no reply words
module _ (code : Code) (fs : Frames) (r : Frame) (cs : Frames) (is : fs ≡ r ∷ cs) (quiet : r.told ≡ []) where
  pub mute_at : (i : Instr) → StandsAt code r i → ((s : ℕ) → i ≡ instrs.Send s → ⊥) → ((s : ℕ) → i ≡ instrs.Receive s → ⊥) → Other ≡ next_talk (code_next code fs)
  mute_at i s x y =
      let here : code_next code fs ≡ at_instr code r cs s.0 i = ap (code_next code) is ∙ ap (told_first code r cs) quiet ∙ ap (λ o. if_there o (at_function code r cs)) s.1 ∙ ap (λ o. if_there o (at_instr code r cs s.0)) s.2 in
      sym (ap next_talk here ∙ mute_cond _ _ (mute_instr code r cs _ _ i x y))

  module _ (i : Instr) (n : ℕ) (s : StandsAt code r i) (many : n ≡ pops code s.0 i) where
    pub mute_short : length r.stack < n → Other ≡ next_talk (code_next code fs)
    mute_short short = sym (ap next_talk (ap (code_next code) is ∙ next_short code r cs i n quiet (s.0, s.1, s.2, many) short))

    pub talks_at : (at : ℕ) (talk : Talk) → at ≡ length r.stack - n → n ≤ length r.stack → talk ≡ next_talk (instr_next code r cs (take at r.stack) (drop at r.stack) i) → talk ≡ next_talk (code_next code fs)
    talks_at at talk goes enough e = e ∙ sym (ap next_talk (ap (code_next code) is ∙ next_instr code r cs i n quiet (s.0, s.1, s.2, many) at goes enough))
