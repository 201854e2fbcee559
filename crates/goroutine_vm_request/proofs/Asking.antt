-- The requests of the instructions that make requests.
use Rattle.std.proofs.Common.{◌≡◌, ℕ, ℤ, ◌-◌, ◌<◌, ◌≤◌, Bool, false, cond, List, [], ◌∷◌, length, map, take, drop, Option, Some, None, Result, Ok, Err, refl, sym, ap, ◌∙◌, subst, arith, nat_lt, slice_get}
use Rattle.std.specs.Prelude.{option_map}
use Rattle.std.proofs.lemmas.Bool.Decides.{nat_tests}
use Rattle.bytecode.specs.declared.instr.WordKind.{WordKind}
use Rattle.bytecode.specs.declared.instr.Instr.{Instr}
use Rattle.bytecode.specs.declared.instr.Instr.TheVariants as instrs
use Rattle.bytecode.specs.Code.{Function, Code}
use Rattle.bytecode.specs.Machine.{Frame, Frames, NextFrames as NextStep, zero_of, if_there, if_within, on_int, applied, on_value, pushed, printed, instr_next, code_next, pops}
use Rattle.std.specs.Option.{is_some}
use Rattle.std.specs.Global.{Vec}
use Rattle.bytecode.specs.Code.{PrintTable}
use Rattle.goroutine_vm_base.specs.Steps.{AsksFor, stops}
use Rattle.call_frame.specs.Steps.{StandsAt}
use Rattle.call_frame.proofs.Fetching.{next_instr, next_short}
use Rattle.word.specs.declared.request.Request.{Request as Asked}
use Rattle.word.specs.declared.apply.Op.{Op}
use Rattle.word.specs.declared.request.Request.TheVariants as asked
use Rattle.word.specs.declared.value.Word.{Word}
use Rattle.word.specs.declared.value.Word.TheVariants.{Int}
use Rattle.word.specs.declared.panic.Panic.{Panic as Cause}
use Rattle.word.specs.Values.{Make, Go, Print}
use Rattle.word.specs.Kinds.{Slides, Ticks, Asks, Stuck}
use Rattle.bytecode.proofs.Options.{get_some}

pub make_for : (shapes : List (List WordKind)) (s : ℕ) (ks : List WordKind) (top : List Word) (n m : ℤ) (item : List Word) → slice_get shapes s ≡ Some ks → length ks ≤ 16 → top ≡ Int n ∷ [] → m ≡ n → item ≡ map zero_of ks
    → AsksFor (if_there (slice_get shapes s) (λ xs. if_within (length xs) 16 (on_int top (λ x. Asks (Make x (map zero_of xs)))))) (Some (asked.Make m item))
make_for shapes s ks top n m item here short one same is =
    let b : nat_lt 16 (length ks) ≡ false = grind (arith, nat_tests, short) in
    subst (λ o. AsksFor (if_there o (λ xs. if_within (length xs) 16 (on_int top (λ x. Asks (Make x (map zero_of xs)))))) (Some (asked.Make m item))) (sym here)
    (subst (λ (t : Bool). AsksFor (cond t Stuck (on_int top (λ x. Asks (Make x (map zero_of ks))))) (Some (asked.Make m item))) (sym b)
    (subst (λ (ws : List Word). AsksFor (on_int ws (λ x. Asks (Make x (map zero_of ks)))) (Some (asked.Make m item))) (sym one)
    (ap (λ x. Make x item) same ∙ ap (Make n) is)))

pub go_for : (functions : List Function) (g : ℕ) (top : List Word) (args : Vec Word) → g < length functions → args.items ≡ top → AsksFor (if_there (slice_get functions g) (λ f. Asks (Go g top))) (Some (asked.Go g args))
go_for functions g top args below is =
    let k = get_some functions g below in
    subst (λ o. AsksFor (if_there o (λ f. Asks (Go g top))) (Some (asked.Go g args))) (sym k.1) (ap (Go g) is)

pub print_for : (prints : List PrintTable) (q : ℕ) (table : PrintTable) (top : List Word) (text : Vec ℕ) → slice_get prints q ≡ Some table → text.items ≡ printed table top → AsksFor (if_there (slice_get prints q) (λ t. Asks (Print (printed t top)))) (Some (asked.Print text))
print_for prints q table top text here is = subst (λ o. AsksFor (if_there o (λ t. Asks (Print (printed t top)))) (Some (asked.Print text))) (sym here) (ap Print is)

-- an operator never ticks
abbrev pub NoTick : NextStep → Type 0
NoTick (Ticks a) = ⊥
NoTick (Slides a) = Unit {0}
NoTick (Asks q) = Unit {0}
NoTick Stuck = Unit {0}

value_no_tick : (code : Code) (c : Frame) (cs : Frames) (low top : List Word) (o : Option (Result Word Cause)) → NoTick (on_value o (λ w. pushed code c cs low top (w ∷ [])))
value_no_tick code c cs low top None = tt
value_no_tick code c cs low top (Some (Ok w)) = tt
value_no_tick code c cs low top (Some (Err p)) = tt

pub apply_no_tick : (code : Code) (c : Frame) (cs : Frames) (low top : List Word) (op : Op) → NoTick (instr_next code c cs low top (instrs.Apply op))
apply_no_tick code c cs low top op = value_no_tick code c cs low top (applied op top)

pub asks_some : (l : Bool) (next : NextStep) (o : Option Asked) → NoTick next → AsksFor next o → is_some o ≡ stops l next
asks_some l (Slides a) None n h = refl
asks_some l (Slides a) (Some r) n h = absurd h
asks_some l (Ticks a) o n h = absurd n
asks_some l (Asks q) None n h = absurd h
asks_some l (Asks q) (Some r) n h = refl
asks_some l Stuck None n h = refl
asks_some l Stuck (Some r) n h = absurd h

-- the request of one that meets a panic
abbrev pub panic_asked : Option Cause → Option Asked
panic_asked o = option_map (λ cause. asked.Panic cause) o

pub panic_some : (o : Option Cause) → is_some (panic_asked o) ≡ is_some o
panic_some None = refl
panic_some (Some cause) = refl

-- what comes next if the last one called is at this instruction
module _ (code : Code) (fs : Frames) (r : Frame) (cs : Frames) (i : Instr) (n : ℕ) (is : fs ≡ r ∷ cs) (quiet : r.told ≡ []) (s : StandsAt code r i) (many : n ≡ pops code s.0 i) where
  pub asks_at : (at : ℕ) (o : Option Asked) → at ≡ length r.stack - n → n ≤ length r.stack → AsksFor (instr_next code r cs (take at r.stack) (drop at r.stack) i) o → AsksFor (code_next code fs) o
  asks_at at o goes enough asks = subst (λ x. AsksFor x o) (sym (ap (code_next code) is ∙ next_instr code r cs i n quiet (s.0, s.1, s.2, many) at goes enough)) asks

  pub none_at : length r.stack < n → AsksFor (code_next code fs) None
  none_at short = subst (λ x. AsksFor x None) (sym (ap (code_next code) is ∙ next_short code r cs i n quiet (s.0, s.1, s.2, many) short)) tt
