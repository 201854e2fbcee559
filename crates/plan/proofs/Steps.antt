-- What single instructions do to the frames of a goroutine.
use Rattle.std.proofs.Common.{◌≡◌, ℕ, ℤ, suc, ◌+◌, ◌-◌, ◌≤◌, Bool, true, false, cond, List, [], ◌∷◌, ◌++◌, length, drop, take, map, Option, Some, None, Ok, Err, refl, ap, sym, ◌∙◌, subst, arith, nat_lt, slice_get, slice_range, length-append, length-take, length-drop}
use Rattle.std.proofs.Math.Seq.{drop-append_seam, take-append_seam}
use Rattle.std.proofs.lemmas.List.{append-nil}
use Rattle.std.proofs.lemmas.Bool.Decides.{nat_tests}
use Rattle.bytecode.specs.declared.instr.Instr.{Instr}
use Rattle.bytecode.specs.declared.instr.Instr.TheVariants as instrs
use Rattle.bytecode.specs.declared.instr.WordKind.{WordKind}
use Rattle.bytecode.specs.Code.{Function, PrintTable, Code}
use Rattle.bytecode.specs.Effects.{below, top_of, gives}
use Rattle.bytecode.specs.Machine.{Frame, Frames, NextFrames, fetch, instrs_of, zero_of, if_there, if_within, on_value, applied, entered, returned, printed, instr_next, pops, at_instr, at_function, code_next, put_at, told_in, code_answer, choice, selected, reply_words, fitted, is_told}
use Rattle.word.specs.declared.apply.Op.{Op}
use Rattle.word.specs.declared.value.Word.{Word}
use Rattle.word.specs.declared.value.Word.TheVariants.{Int, Bool as Truth, Chan}
use Rattle.word.specs.declared.panic.Panic.{Panic as Cause}
use Rattle.word.specs.Values.{Make, Go, Send, Receive, Close, Len, Cap, Print, Panic, Reply}
use Rattle.word.specs.Kinds.{Next, Slides, Ticks, Asks, Stuck}
use Rattle.word.specs.Related.{Slips, here, more}
use Rattle.plan.proofs.Places.{JumpsTo, at_once, by_jump}

pub within : (n have : ℕ) (step : NextFrames) → n ≤ have → if_within n have step ≡ step
within n have step le = let b : nat_lt have n ≡ false = grind (arith, nat_tests, le) in ap (λ t. cond t Stuck step) b

pub below_of : {A : Type 0} (low xs : List A) (n : ℕ) → n ≡ length xs → below n (low ++ xs) ≡ low
below_of low xs n e = let z : length (low ++ xs) - n ≡ length low = omega (arith, e, length-append low xs) in ap (λ m. take m (low ++ xs)) z ∙ take-append_seam low xs

pub top_of_is : {A : Type 0} (low xs : List A) (n : ℕ) → n ≡ length xs → top_of n (low ++ xs) ≡ xs
top_of_is low xs n e = let z : length (low ++ xs) - n ≡ length low = omega (arith, e, length-append low xs) in ap (λ m. drop m (low ++ xs)) z ∙ drop-append_seam low xs

pub range_length : {A : Type 0} (xs : List A) (a n : ℕ) → a + n ≤ length xs → length (slice_range xs a (a + n)) ≡ n
range_length xs a n le = omega (arith, length-take (a + n - a) (drop a xs), length-drop a xs, le)

pub slips_more : {A : Type 0} (next : A → Next A) (a b c : A) → Slips next a b → Slips next b c → Slips next a c
slips_more next a b c here t = t
slips_more next a b c (more e s) t = more e (slips_more next _ b c s t)

module _ (code : Code) (g : ℕ) (f : Function) (there : slice_get code.functions g ≡ Some f) (callers : Frames) where
  -- the function at a pc, with these locals and this stack
  abbrev pub spot : ℕ → List Word → List Word → Frame
  spot place locals stack = record { function = g; place = place; locals = locals; stack = stack; told = [] }

  -- it runs, and its callers wait
  abbrev pub spots : ℕ → List Word → List Word → Frames
  spots place locals stack = spot place locals stack ∷ callers

  -- the instruction at a pc, whose operands are these
  pub step : (place : ℕ) (locals low xs : List Word) (i : Instr) → slice_get f.instrs place ≡ Some i → pops code f i ≡ length xs → code_next code (spots place locals (low ++ xs)) ≡ instr_next code (spot place locals (low ++ xs)) callers low xs i
  step place locals low xs i at n =
      let c = spot place locals (low ++ xs) in
      ap (λ o. if_there o (at_function code c callers)) there ∙ ap (λ o. if_there o (at_instr code c callers f)) at
      ∙ within (pops code f i) (length (low ++ xs)) (instr_next code c callers (below (pops code f i) (low ++ xs)) (top_of (pops code f i) (low ++ xs)) i) (omega (arith, n, length-append low xs))
      ∙ ap (λ (l : List Word). instr_next code c callers l (top_of (pops code f i) (low ++ xs)) i) (below_of low xs (pops code f i) n)
      ∙ ap (λ (l : List Word). instr_next code c callers low l i) (top_of_is low xs (pops code f i) n)

  -- an instruction without operands
  pub step_none : (place : ℕ) (locals stack : List Word) (i : Instr) → slice_get f.instrs place ≡ Some i → pops code f i ≡ 0 → code_next code (spots place locals stack) ≡ instr_next code (spot place locals stack) callers stack [] i
  step_none place locals stack i at n =
      subst (λ (s : List Word). code_next code (spots place locals s) ≡ instr_next code (spot place locals s) callers stack [] i) (append-nil stack) (step place locals stack [] i at n)

  -- ---- instructions that cost nothing

  pub pushes_int : (place : ℕ) (locals stack : List Word) (n : ℤ) → slice_get f.instrs place ≡ Some (instrs.Int n) → Slips (code_next code) (spots place locals stack) (spots (place + 1) locals (stack ++ Int n ∷ []))
  pushes_int place locals stack n at = more (step_none place locals stack (instrs.Int n) at refl) here

  pub pushes_bool : (place : ℕ) (locals stack : List Word) (b : Bool) → slice_get f.instrs place ≡ Some (instrs.Bool b) → Slips (code_next code) (spots place locals stack) (spots (place + 1) locals (stack ++ Truth b ∷ []))
  pushes_bool place locals stack b at = more (step_none place locals stack (instrs.Bool b) at refl) here

  pub pushes_nil : (place : ℕ) (locals stack : List Word) (s : ℕ) → slice_get f.instrs place ≡ Some (instrs.Nil s) → Slips (code_next code) (spots place locals stack) (spots (place + 1) locals (stack ++ Chan None ∷ []))
  pushes_nil place locals stack s at = more (step_none place locals stack (instrs.Nil s) at refl) here

  pub loads : (place : ℕ) (locals stack : List Word) (a n : ℕ) → slice_get f.instrs place ≡ Some (instrs.Load a n) → a + n ≤ length locals → Slips (code_next code) (spots place locals stack) (spots (place + 1) locals (stack ++ slice_range locals a (a + n)))
  loads place locals stack a n at le =
      more (step_none place locals stack (instrs.Load a n) at refl ∙ within (a + n) (length locals) (Slides (spots (place + 1) locals (stack ++ slice_range locals a (a + n)))) le) here

  pub stores : (place : ℕ) (locals low ws : List Word) (a n : ℕ) → slice_get f.instrs place ≡ Some (instrs.Store a n) → length ws ≡ n → a + n ≤ length f.locals → length locals ≡ length f.locals
      → Slips (code_next code) (spots place locals (low ++ ws)) (spots (place + 1) (put_at a ws locals) low)
  stores place locals low ws a n at many le full =
      more (step place locals low ws (instrs.Store a n) at (range_length f.locals a n le ∙ sym many) ∙ within (a + n) (length locals) (Slides (spots (place + 1) (put_at a ws locals) low)) (omega (arith, le, full))) here

  pub picks : (place : ℕ) (locals low ws : List Word) (t a n : ℕ) → slice_get f.instrs place ≡ Some (instrs.Pick t a n) → t ≡ length ws → a + n ≤ t → Slips (code_next code) (spots place locals (low ++ ws)) (spots (place + 1) locals (low ++ slice_range ws a (a + n)))
  picks place locals low ws t a n at many le =
      more (step place locals low ws (instrs.Pick t a n) at many ∙ within (a + n) t (Slides (spots (place + 1) locals (low ++ slice_range ws a (a + n)))) le) here

  pub discards : (place : ℕ) (locals low ws : List Word) (n : ℕ) → slice_get f.instrs place ≡ Some (instrs.Discard n) → n ≡ length ws → Slips (code_next code) (spots place locals (low ++ ws)) (spots (place + 1) locals low)
  discards place locals low ws n at many = more (step place locals low ws (instrs.Discard n) at many) here

  pub applies : (place : ℕ) (locals low ws : List Word) (op : Op) (w : Word) → slice_get f.instrs place ≡ Some (instrs.Apply op) → pops code f (instrs.Apply op) ≡ length ws → applied op ws ≡ Some (Ok w)
      → Slips (code_next code) (spots place locals (low ++ ws)) (spots (place + 1) locals (low ++ w ∷ []))
  applies place locals low ws op w at many is = more (step place locals low ws (instrs.Apply op) at many ∙ ap (λ v. on_value v (λ x. Slides (spots (place + 1) locals (low ++ x ∷ [])))) is) here

  pub jumps_to : (place to : ℕ) (locals stack : List Word) → slice_get f.instrs place ≡ Some (instrs.Jump to) → Slips (code_next code) (spots place locals stack) (spots to locals stack)
  jumps_to place to locals stack at = more (step_none place locals stack (instrs.Jump to) at refl) here

  -- a truth value is popped
  pub chooses : (place to : ℕ) (locals low : List Word) (b : Bool) → slice_get f.instrs place ≡ Some (instrs.Unless to) → Slips (code_next code) (spots place locals (low ++ Truth b ∷ [])) (spots (cond b (place + 1) to) locals low)
  chooses place to locals low true at = more (step place locals low (Truth true ∷ []) (instrs.Unless to) at refl) here
  chooses place to locals low false at = more (step place locals low (Truth false ∷ []) (instrs.Unless to) at refl) here

  -- jumps, one after the other
  pub passes : (p q : ℕ) (locals stack : List Word) → JumpsTo f.instrs p q → Slips (code_next code) (spots p locals stack) (spots q locals stack)
  passes p q locals stack at_once = here
  passes p q locals stack (by_jump at on) = slips_more (code_next code) _ _ _ (jumps_to p _ locals stack at) (passes _ q locals stack on)

  -- the reply words go onto the stack
  pub takes_told : (place : ℕ) (locals stack ws : List Word) → Slips (code_next code) (record { function = g; place = place; locals = locals; stack = stack; told = ws } ∷ callers) (spots place locals (stack ++ ws))
  takes_told place locals stack [] = subst (λ (s : List Word). Slips (code_next code) (spots place locals stack) (spots place locals s)) (sym (append-nil stack)) here
  takes_told place locals stack (w ∷ ws) = more refl here

  -- ---- instructions that tick, calls and returns

  pub ticks : (place : ℕ) (locals stack : List Word) → slice_get f.instrs place ≡ Some instrs.Tick → code_next code (spots place locals stack) ≡ Ticks (spots (place + 1) locals stack)
  ticks place locals stack at = step_none place locals stack instrs.Tick at refl

  pub turns : (place to : ℕ) (locals stack : List Word) → slice_get f.instrs place ≡ Some (instrs.Loop to) → code_next code (spots place locals stack) ≡ Ticks (spots to locals stack)
  turns place to locals stack at = step_none place locals stack (instrs.Loop to) at refl

  pub calls : (place : ℕ) (locals low args : List Word) (h : ℕ) (callee : Function) → slice_get f.instrs place ≡ Some (instrs.Call h) → pops code f (instrs.Call h) ≡ length args → slice_get code.functions h ≡ Some callee
      → code_next code (spots place locals (low ++ args)) ≡ entered h args (spots (place + 1) locals low) callee
  calls place locals low args h callee at many is = step place locals low args (instrs.Call h) at many ∙ ap (λ o. if_there o (entered h args (spots (place + 1) locals low))) is

  pub returns : (place : ℕ) (locals results : List Word) → slice_get f.instrs place ≡ Some instrs.Return → length f.results ≡ length results → code_next code (spots place locals results) ≡ returned [] results callers
  returns place locals results at many = step place locals [] results instrs.Return at many

  -- ---- requests

  pub panics : (place : ℕ) (locals low ws : List Word) (op : Op) (cause : Cause) → slice_get f.instrs place ≡ Some (instrs.Apply op) → pops code f (instrs.Apply op) ≡ length ws → applied op ws ≡ Some (Err cause)
      → code_next code (spots place locals (low ++ ws)) ≡ Asks (Panic cause)
  panics place locals low ws op cause at many is = step place locals low ws (instrs.Apply op) at many ∙ ap (λ v. on_value v (λ x. Slides (spots (place + 1) locals (low ++ x ∷ [])))) is

  pub makes : (place : ℕ) (locals low : List Word) (s : ℕ) (ks : List WordKind) (n : ℤ) → slice_get f.instrs place ≡ Some (instrs.Make s) → slice_get code.shapes s ≡ Some ks → length ks ≤ 16
      → code_next code (spots place locals (low ++ Int n ∷ [])) ≡ Asks (Make n (map zero_of ks))
  makes place locals low s ks n at is le =
      step place locals low (Int n ∷ []) (instrs.Make s) at refl ∙ ap (λ o. if_there o (λ ks. if_within (length ks) 16 (Asks (Make n (map zero_of ks))))) is ∙ within (length ks) 16 (Asks (Make n (map zero_of ks))) le

  pub starts_goroutine : (place : ℕ) (locals low args : List Word) (h : ℕ) (callee : Function) → slice_get f.instrs place ≡ Some (instrs.Go h) → pops code f (instrs.Go h) ≡ length args → slice_get code.functions h ≡ Some callee
      → code_next code (spots place locals (low ++ args)) ≡ Asks (Go h args)
  starts_goroutine place locals low args h callee at many is = step place locals low args (instrs.Go h) at many ∙ ap (λ o. if_there o (λ f. Asks (Go h args))) is

  pub sends : (place : ℕ) (locals low item : List Word) (s : ℕ) (c : Option ℕ) → slice_get f.instrs place ≡ Some (instrs.Send s) → pops code f (instrs.Send s) ≡ suc (length item) → length item ≤ 16
      → code_next code (spots place locals (low ++ (Chan c ∷ item))) ≡ Asks (Send c item)
  sends place locals low item s c at many le = step place locals low (Chan c ∷ item) (instrs.Send s) at many ∙ within (length item) 16 (Asks (Send c item)) le

  pub receives : (place : ℕ) (locals low : List Word) (s : ℕ) (c : Option ℕ) → slice_get f.instrs place ≡ Some (instrs.Receive s) → code_next code (spots place locals (low ++ Chan c ∷ [])) ≡ Asks (Receive c)
  receives place locals low s c at = step place locals low (Chan c ∷ []) (instrs.Receive s) at refl

  pub closes : (place : ℕ) (locals low : List Word) (c : Option ℕ) → slice_get f.instrs place ≡ Some instrs.Close → code_next code (spots place locals (low ++ Chan c ∷ [])) ≡ Asks (Close c)
  closes place locals low c at = step place locals low (Chan c ∷ []) instrs.Close at refl

  pub asks_len : (place : ℕ) (locals low : List Word) (c : Option ℕ) → slice_get f.instrs place ≡ Some instrs.Len → code_next code (spots place locals (low ++ Chan c ∷ [])) ≡ Asks (Len c)
  asks_len place locals low c at = step place locals low (Chan c ∷ []) instrs.Len at refl

  pub asks_cap : (place : ℕ) (locals low : List Word) (c : Option ℕ) → slice_get f.instrs place ≡ Some instrs.Cap → code_next code (spots place locals (low ++ Chan c ∷ [])) ≡ Asks (Cap c)
  asks_cap place locals low c at = step place locals low (Chan c ∷ []) instrs.Cap at refl

  pub prints : (place : ℕ) (locals low ws : List Word) (q : ℕ) (table : PrintTable) → slice_get f.instrs place ≡ Some (instrs.Print q) → pops code f (instrs.Print q) ≡ length ws → slice_get code.prints q ≡ Some table
      → code_next code (spots place locals (low ++ ws)) ≡ Asks (Print (printed table ws))
  prints place locals low ws q table at many is = step place locals low ws (instrs.Print q) at many ∙ ap (λ o. if_there o (λ table. Asks (Print (printed table ws)))) is

  pub fetched : (place : ℕ) (i : Instr) → slice_get f.instrs place ≡ Some i → fetch code g place ≡ Some i
  fetched place i at = ap (λ o. slice_get (instrs_of o) place) there ∙ at

  -- the state after a request: the words of the reply are pending
  pub answer : (place : ℕ) (locals low xs : List Word) (i : Instr) (reply : Reply) → slice_get f.instrs place ≡ Some i → pops code f i ≡ length xs → is_told i ≡ true
      → code_answer code (spots place locals (low ++ xs)) reply ≡ record { function = g; place = place + 1; locals = locals; stack = low; told = fitted (gives code f i []) (reply_words reply) } ∷ callers
  answer place locals low xs i reply at n is =
      let c = spot place locals (low ++ xs) in
      let done : List Word → Frame = λ low. record { function = g; place = place + 1; locals = locals; stack = low; told = fitted (gives code f i []) (reply_words reply) } in
      ap (λ o. told_in code c (choice reply) (reply_words reply) o (fetch code g place) ∷ callers) there
      ∙ ap (λ o. told_in code c (choice reply) (reply_words reply) (Some f) o ∷ callers) (fetched place i at)
      ∙ ap (λ b. cond b (done (below (pops code f i) (low ++ xs))) (selected code c (choice reply) (reply_words reply) f i) ∷ callers) is
      ∙ ap (λ (l : List Word). done l ∷ callers) (below_of low xs (pops code f i) n)
