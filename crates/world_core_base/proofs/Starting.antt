-- A goroutine of the code starts functions of the code, and below the limit its request is not `exhausted`.
use Rattle.std.proofs.Common.{◌≡◌, ℕ, ◌+◌, ◌<◌, ◌^◌, Bool, true, false, cond, List, [], ◌∷◌, ◌++◌, length, Option, Some, None, refl, sym, ap, ◌∙◌, subst, arith, inl, inr}
use Rattle.std.specs.Prelude.{◌==◌, ℤ, Result, Ok, Err, nat_lt, slice_get}
use Rattle.std.proofs.lemmas.Bool.{cases_lt, eq-eqb}
use Rattle.std.proofs.lemmas.Option.{same_Some, slice_get_within}
use Rattle.bytecode.specs.declared.instr.Instr.{Instr}
use Rattle.bytecode.specs.declared.instr.Instr.TheVariants as instrs
use Rattle.bytecode.specs.Code.{Code}
use Rattle.bytecode.specs.Machine.{Frame, Frames, NextFrames, code_kind, code_next, told_first, if_there, instr_next, on_truth, on_int, on_chan, on_value, returned, applied, begun, goes_on, cases_of}
use Rattle.word.specs.declared.panic.Panic.{Panic as Cause}
use Rattle.word.specs.declared.panic.Panic.TheVariants.{CallDepth, SendOnClosed}
use Rattle.word.specs.declared.value.Word.{Word}
use Rattle.word.specs.declared.value.Word.TheVariants.{Int, Bool as Truth, Chan}
use Rattle.word.specs.Kinds.{Next, Slides, Ticks, Asks, Stuck, Clocked, asks_of, does}
use Rattle.word.specs.Requests.{asked}
use Rattle.word.specs.Values.{Request, Make, Go, Send, Receive, Close, Select, Len, Cap, Print, End, Exit, Panic, Exhausted}
use Rattle.world_core_base.specs.Cores.{CoreValue, IsAsked, meant_after}

-- a function that is started is one of the code
abbrev pub StartsWithin : Code → Request → Type 0
StartsWithin code (Go f args) = f < length code.functions
StartsWithin code q = Unit {0}

abbrev InRange : Code → NextFrames → Type 0
InRange code (Asks q) = StartsWithin code q
InRange code (Slides a) = Unit {0}
InRange code (Ticks a) = Unit {0}
InRange code Stuck = Unit {0}

module _ (code : Code) where
  there_range : {A : Type 0} (o : Option A) (step : A → NextFrames) → ((x : A) → o ≡ Some x → InRange code (step x)) → InRange code (if_there o step)
  there_range None step h = tt
  there_range (Some x) step h = h x refl

  cond_range : (b : Bool) (a c : NextFrames) → InRange code a → InRange code c → InRange code (cond b a c)
  cond_range true a c h k = h
  cond_range false a c h k = k

  truth_range : (ws : List Word) (a c : NextFrames) → InRange code a → InRange code c → InRange code (on_truth ws a c)
  truth_range [] a c h k = tt
  truth_range (Int n ∷ ws) a c h k = tt
  truth_range (Chan n ∷ ws) a c h k = tt
  truth_range (Truth true ∷ []) a c h k = h
  truth_range (Truth false ∷ []) a c h k = k
  truth_range (Truth true ∷ (w ∷ ws)) a c h k = tt
  truth_range (Truth false ∷ (w ∷ ws)) a c h k = tt

  int_range : (ws : List Word) (step : ℤ → NextFrames) → ((n : ℤ) → InRange code (step n)) → InRange code (on_int ws step)
  int_range [] step h = tt
  int_range (Int n ∷ []) step h = h n
  int_range (Int n ∷ (w ∷ ws)) step h = tt
  int_range (Truth b ∷ ws) step h = tt
  int_range (Chan c ∷ ws) step h = tt

  chan_range : (ws : List Word) (step : Option ℕ → List Word → NextFrames) → ((c : Option ℕ) (item : List Word) → InRange code (step c item)) → InRange code (on_chan ws step)
  chan_range [] step h = tt
  chan_range (Chan c ∷ item) step h = h c item
  chan_range (Int n ∷ ws) step h = tt
  chan_range (Truth b ∷ ws) step h = tt

  value_range : (o : Option (Result Word Cause)) (step : Word → NextFrames) → ((w : Word) → InRange code (step w)) → InRange code (on_value o step)
  value_range None step h = tt
  value_range (Some (Ok w)) step h = h w
  value_range (Some (Err cause)) step h = tt

  return_range : (low top : List Word) (callers : Frames) → InRange code (returned low top callers)
  return_range (w ∷ low) top callers = tt
  return_range [] top [] = tt
  return_range [] top (c ∷ callers) = tt

  instr_range : (c : Frame) (callers : Frames) (low top : List Word) (i : Instr) → InRange code (instr_next code c callers low top i)
  instr_range c callers low top (instrs.Int n) = tt
  instr_range c callers low top (instrs.Bool b) = tt
  instr_range c callers low top (instrs.Nil s) = tt
  instr_range c callers low top (instrs.Load a n) = cond_range (nat_lt (length c.locals) (a + n)) Stuck _ tt tt
  instr_range c callers low top (instrs.Store a n) = cond_range (nat_lt (length c.locals) (a + n)) Stuck _ tt tt
  instr_range c callers low top (instrs.Pick t a n) = cond_range (nat_lt t (a + n)) Stuck _ tt tt
  instr_range c callers low top (instrs.Discard n) = tt
  instr_range c callers low top (instrs.Apply op) = value_range (applied op top) (λ w. Slides (goes_on c (low ++ w ∷ []) ∷ callers)) (λ w. tt)
  instr_range c callers low top instrs.Tick = tt
  instr_range c callers low top (instrs.Jump to) = tt
  instr_range c callers low top (instrs.Unless to) = truth_range top _ _ tt tt
  instr_range c callers low top (instrs.Loop to) = tt
  instr_range c callers low top (instrs.Call g) = there_range (slice_get code.functions g) _ (λ f e. cond_range (nat_lt (length (goes_on c low ∷ callers)) 1000) (Ticks (begun f.locals g top ∷ goes_on c low ∷ callers)) (Asks (Panic CallDepth)) tt tt)
  instr_range c callers low top instrs.Return = return_range low top callers
  instr_range c callers low top (instrs.Make s) = there_range (slice_get code.shapes s) _ (λ ks e. cond_range (nat_lt 16 (length ks)) Stuck _ tt (int_range top _ (λ n. tt)))
  instr_range c callers low top (instrs.Go g) = there_range (slice_get code.functions g) _ (λ f e. slice_get_within code.functions g f e)
  instr_range c callers low top (instrs.Send s) = chan_range top _ (λ chan item. cond_range (nat_lt 16 (length item)) Stuck _ tt tt)
  instr_range c callers low top (instrs.Receive s) = chan_range top _ (λ chan item. tt)
  instr_range c callers low top instrs.Close = chan_range top _ (λ chan item. tt)
  instr_range c callers low top instrs.Len = chan_range top _ (λ chan item. tt)
  instr_range c callers low top instrs.Cap = chan_range top _ (λ chan item. tt)
  instr_range c callers low top (instrs.Print q) = there_range (slice_get code.prints q) _ (λ table e. tt)
  instr_range c callers low top (instrs.Select q) = there_range (slice_get code.selects q) _ (λ table e. there_range (cases_of code table.clauses top) _ (λ cases h. tt))

  next_range : (s : Frames) → InRange code (code_next code s)
  next_range [] = tt
  next_range (c ∷ callers) = go c.told
    where
      go : (told : List Word) → InRange code (told_first code c callers told)
      go [] = there_range (slice_get code.functions c.function) _ (λ f e. there_range (slice_get f.instrs c.place) _ (λ i h. cond_range _ Stuck _ tt (instr_range c callers _ _ i)))
      go (w ∷ ws) = tt

  -- ---- with the clock and the meaning of the request

  asks_range : (limit clock : ℕ) (x : NextFrames) (q : Request) → InRange code x → asks_of limit clock x ≡ Some q → StartsWithin code q
  asks_range limit clock (Slides a) q h e = cc
  asks_range limit clock (Ticks a) q h e = by_limit (clock == limit) e
    where
      by_limit : (b : Bool) → cond b (Some Exhausted) None ≡ Some q → StartsWithin code q
      by_limit true e' = subst (StartsWithin code) (same_Some Exhausted q e') tt
      by_limit false e' = absurd cc
  asks_range limit clock (Asks p) q h e = by_limit (clock == limit) e
    where
      by_limit : (b : Bool) → cond b (Some Exhausted) (Some p) ≡ Some q → StartsWithin code q
      by_limit true e' = subst (StartsWithin code) (same_Some Exhausted q e') tt
      by_limit false e' = subst (StartsWithin code) (same_Some p q e') h
  asks_range limit clock Stuck q h e = cc

  does_range : (s : Clocked Frames) → InRange code (does (code_kind code) s)
  does_range s = go s.doomed
    where
      go : (b : Bool) → InRange code (cond b (Asks (Panic SendOnClosed)) (code_next code s.state))
      go true = tt
      go false = next_range s.state

  means_range : (events n : ℕ) (q : Request) → StartsWithin code q → StartsWithin code (meant_after events n q)
  means_range events n q h = go (events + 1 == 2 ^ 62)
    where
      asked_range : (q : Request) → StartsWithin code q → StartsWithin code (asked n q)
      asked_range End h = by (n == 1)
        where
          by : (b : Bool) → StartsWithin code (cond b Exit End)
          by true = tt
          by false = tt
      asked_range (Make size z) h = tt
      asked_range (Go f args) h = h
      asked_range (Send c item) h = tt
      asked_range (Receive c) h = tt
      asked_range (Close c) h = tt
      asked_range (Select cases default) h = tt
      asked_range (Len c) h = tt
      asked_range (Cap c) h = tt
      asked_range (Print bytes) h = tt
      asked_range Exit h = tt
      asked_range (Panic p) h = tt
      asked_range Exhausted h = tt

      go : (b : Bool) → StartsWithin code (cond b Exhausted (asked n q))
      go true = tt
      go false = asked_range q h

pub starts_within : (code : Code) (limit : ℕ) (core : CoreValue) (n clock : ℕ) (means : Request) → IsAsked code limit core n clock means → StartsWithin code means
starts_within code limit core n clock means a =
    subst (StartsWithin code) (sym a.meant) (means_range code core.events n a.what (asks_range code limit a.row.state.clock (does (code_kind code) a.row.state) a.what (does_range code a.row.state) a.request))

-- ---- below the limit

at_limit : {S : Type 0} (limit clock : ℕ) (x : Next S) (q : Request) → clock ≡ limit → asks_of limit clock x ≡ Some q → q ≡ Exhausted
at_limit limit clock (Slides a) q e h = cc
at_limit limit clock (Ticks a) q e h = sym (same_Some Exhausted q (ap (λ b. cond b (Some Exhausted) None) (sym (eq-eqb clock limit e)) ∙ h))
at_limit limit clock (Asks p) q e h = sym (same_Some Exhausted q (ap (λ b. cond b (Some Exhausted) (Some p)) (sym (eq-eqb clock limit e)) ∙ h))
at_limit limit clock Stuck q e h = cc

still_exhausted : (events n : ℕ) (q : Request) → q ≡ Exhausted → meant_after events n q ≡ Exhausted
still_exhausted events n q e = ap (meant_after events n) e ∙ go (events + 1 == 2 ^ 62)
  where
    go : (b : Bool) → cond b Exhausted Exhausted ≡ Exhausted
    go true = refl
    go false = refl

pub still_below : (code : Code) (limit : ℕ) (core : CoreValue) (n clock : ℕ) (means : Request) → IsAsked code limit core n clock means → (means ≡ Exhausted → ⊥) → clock < limit
still_below code limit core n clock means a busy =
    elim (cases_lt a.row.state.clock limit) [
      | inl l ↦ subst (λ c. c < limit) a.time l
      | inr l ↦ absurd (busy (a.meant ∙ still_exhausted core.events n a.what (at_limit limit a.row.state.clock (does (code_kind code) a.row.state) a.what (let below = a.state.clock in omega (arith, below, l)) a.request)))
    ]
