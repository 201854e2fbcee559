-- Verified code never meets a word of another kind, a word too few, or a pc that is not there.
use Rattle.std.proofs.Common.{◌≡◌, ℕ, ℤ, pos, negsuc, zero, suc, ◌+◌, ◌-◌, ◌<◌, ◌≤◌, List, [], ◌∷◌, ◌++◌, length, take, drop, map, Option, Some, None, Ok, Err, refl, sym, ap, ◌∙◌, subst, arith, Bool, true, false, cond, nat_lt, slice_get, slice_range, take-append-drop, append_assoc}
use Rattle.std.proofs.lemmas.List.{length-take}
use Rattle.std.proofs.Math.Seq.{drop-append_seam, take-append_seam}
use Rattle.std.specs.Option.{is_some}
use Rattle.std.specs.Prelude.{int_rem}
use Rattle.std.specs.Int.{w64, int_wrapping_div}
use Rattle.std.proofs.lemmas.List.{append-nil, places, drop-drop}
use Rattle.std.proofs.lemmas.Bool.Decides.{nat_tests}
use Rattle.bytecode.specs.declared.instr.WordKind.{WordKind}
use Rattle.bytecode.specs.declared.instr.WordKind.TheVariants as kinds
use Rattle.bytecode.specs.declared.instr.Instr.{Instr}
use Rattle.bytecode.specs.declared.instr.Instr.TheVariants as instrs
use Rattle.bytecode.specs.declared.table.Clause.{Clause as TableClause}
use Rattle.bytecode.specs.declared.table.Clause.TheVariants as clauses
use Rattle.bytecode.specs.Code.{Function, Code}
use Rattle.bytecode.specs.Effects.{top_of, below, results_in, shape_kinds, kinds_in, locals_in, clause_shape, clause_kinds, all_clause_kinds, clauses_in, targets_in, wants, gives, leaves, count, Meets, Fits, Enough, afterwards, IsChannel, OneIsChannel, operands, outcome}
use Rattle.bytecode.specs.Machine.{Frame, Frames, NextFrames, fetch, instrs_of, zero_of, as_kind, fitted, begun, goes_on, goes_to, put_at, if_within, if_there, on_truth, on_int, on_chan, applied, on_value, entered, returned, printed, case_of, cases_of, also, pushed, instr_next, pops, at_instr, at_function, told_first, answered, frames_told, code_next, reply_words, choice, is_told, way_of, went, selected, told_at, told_in, code_answer, code_begin}
use Rattle.bytecode.specs.Rules.{ways, Named, IsVerified, At, Has, AllHave, Await, IsFrameOf}
use Rattle.word.specs.declared.apply.Op.{Op}
use Rattle.word.specs.declared.apply.Op.TheVariants as ops
use Rattle.word.specs.declared.panic.Panic.TheVariants.{DivideByZero, CallDepth}
use Rattle.word.specs.declared.value.Word.{Word}
use Rattle.word.specs.declared.value.Word.TheVariants.{Int, Bool as Truth, Chan}
use Rattle.word.specs.Apply.{Valued, int_value, bool_value, chan_value, is_zero, panics, number, shifted_left, shifted_right}
use Rattle.word.specs.Kinds.{Slides, Ticks, Asks, Stuck}
use Rattle.word.specs.declared.request.Case.{Case}
use Rattle.word.specs.Values.{Make, Go, Send, Receive, Close, Select, Len, Cap, Print, Panic, Reply}
use Rattle.bytecode.proofs.Options.{some_inj, get_some}

not_below : (have n : ℕ) → n ≤ have → nat_lt have n ≡ false
not_below have n le = grind (arith, nat_tests)

enough_of : (i : Instr) (n m : ℕ) → Enough i n m → n ≤ m
enough_of (instrs.Int x) have m e = e
enough_of (instrs.Bool b) have m e = e
enough_of (instrs.Nil s) have m e = e
enough_of (instrs.Load a x) have m e = e
enough_of (instrs.Store a x) have m e = e
enough_of (instrs.Pick t a x) have m e = e
enough_of (instrs.Discard x) have m e = e
enough_of (instrs.Apply op) have m e = e
enough_of instrs.Tick have m e = e
enough_of (instrs.Jump x) have m e = e
enough_of (instrs.Unless x) have m e = e
enough_of (instrs.Loop x) have m e = e
enough_of (instrs.Call g) have m e = e
enough_of instrs.Return have m e = omega (arith, e)
enough_of (instrs.Make s) have m e = e
enough_of (instrs.Go g) have m e = e
enough_of (instrs.Send s) have m e = e
enough_of (instrs.Receive s) have m e = e
enough_of instrs.Close have m e = e
enough_of instrs.Len have m e = e
enough_of instrs.Cap have m e = e
enough_of (instrs.Print q) have m e = e
enough_of (instrs.Select q) have m e = e

range_split : {A : Type 0} → (at n : ℕ) (ks : List A) → at + n ≤ length ks → (take at ks ++ slice_range ks at (at + n)) ++ drop (at + n) ks ≡ ks
range_split at n ks le =
    let back : (at + n) - at ≡ n = omega arith in
    let e : slice_range ks at (at + n) ++ drop (at + n) ks ≡ drop at ks = subst (λ m. take m (drop at ks) ++ drop (at + n) ks ≡ drop at ks) (sym back) (subst (λ l. take n (drop at ks) ++ l ≡ drop at ks) (drop-drop n at ks) (take-append-drop n (drop at ks))) in
    append_assoc (take at ks) (slice_range ks at (at + n)) (drop (at + n) ks) ∙ (ap (λ l. take at ks ++ l) e ∙ take-append-drop at ks)

pub all_length : (ws : List Word) (ks : List WordKind) → AllHave ws ks → length ws ≡ length ks
all_length [] [] h = refl
all_length (w ∷ ws) (k ∷ ks) h = ap suc (all_length ws ks h.1)
all_length [] (k ∷ ks) h = absurd h
all_length (w ∷ ws) [] h = absurd h

all_append : (vs ws : List Word) (js ks : List WordKind) → AllHave vs js → AllHave ws ks → AllHave (vs ++ ws) (js ++ ks)
all_append [] ws [] ks h g = g
all_append (v ∷ vs) ws (j ∷ js) ks h g = (h.0, all_append vs ws js ks h.1 g)
all_append [] ws (j ∷ js) ks h g = absurd h
all_append (v ∷ vs) ws [] ks h g = absurd h

all_take : (n : ℕ) (ws : List Word) (ks : List WordKind) → AllHave ws ks → AllHave (take n ws) (take n ks)
all_take zero ws ks h = tt
all_take (suc n) [] [] h = tt
all_take (suc n) (w ∷ ws) (k ∷ ks) h = (h.0, all_take n ws ks h.1)
all_take (suc n) [] (k ∷ ks) h = absurd h
all_take (suc n) (w ∷ ws) [] h = absurd h

all_drop : (n : ℕ) (ws : List Word) (ks : List WordKind) → AllHave ws ks → AllHave (drop n ws) (drop n ks)
all_drop zero ws ks h = h
all_drop (suc n) [] [] h = tt
all_drop (suc n) (w ∷ ws) (k ∷ ks) h = all_drop n ws ks h.1
all_drop (suc n) [] (k ∷ ks) h = absurd h
all_drop (suc n) (w ∷ ws) [] h = absurd h

all_range : (a b : ℕ) (ws : List Word) (ks : List WordKind) → AllHave ws ks → AllHave (slice_range ws a b) (slice_range ks a b)
all_range a b ws ks h = all_take (b - a) (drop a ws) (drop a ks) (all_drop a ws ks h)

all_top : (n : ℕ) (ws : List Word) (ks : List WordKind) → AllHave ws ks → AllHave (top_of n ws) (top_of n ks)
all_top n ws ks h = subst (λ m. AllHave (drop (length ws - n) ws) (drop (m - n) ks)) (all_length ws ks h) (all_drop (length ws - n) ws ks h)

all_below : (n : ℕ) (ws : List Word) (ks : List WordKind) → AllHave ws ks → AllHave (below n ws) (below n ks)
all_below n ws ks h = subst (λ m. AllHave (take (length ws - n) ws) (take (m - n) ks)) (all_length ws ks h) (all_take (length ws - n) ws ks h)

zero_has : (k : WordKind) → Has (zero_of k) k
zero_has kinds.Int = tt
zero_has kinds.Bool = tt
zero_has (kinds.Chan s) = tt

as_kind_has : (k : WordKind) (w : Word) → Has (as_kind k w) k
as_kind_has kinds.Int w = int w
  where
    int : (w : Word) → Has (as_kind kinds.Int w) kinds.Int
    int (Int n) = tt
    int (Truth b) = tt
    int (Chan c) = tt
as_kind_has kinds.Bool w = truth w
  where
    truth : (w : Word) → Has (as_kind kinds.Bool w) kinds.Bool
    truth (Int n) = tt
    truth (Truth b) = tt
    truth (Chan c) = tt
as_kind_has (kinds.Chan s) w = chan w
  where
    chan : (w : Word) → Has (as_kind (kinds.Chan s) w) (kinds.Chan s)
    chan (Int n) = tt
    chan (Truth b) = tt
    chan (Chan c) = tt

pub fitted_has : (ks : List WordKind) (ws : List Word) → AllHave (fitted ks ws) ks
fitted_has [] ws = tt
fitted_has (k ∷ ks) [] = (zero_has k, fitted_has ks [])
fitted_has (k ∷ ks) (w ∷ ws) = (as_kind_has k w, fitted_has ks ws)

-- what an operator gives is of its kind
abbrev Yields : WordKind → Valued → Type 0
Yields k (Some (Ok w)) = Has w k
Yields k (Some (Err cause)) = Unit {0}
Yields k None = ⊥

either : (k : WordKind) (b : Bool) (o p : Valued) → Yields k o → Yields k p → Yields k (cond b o p)
either k true o p h g = h
either k false o p h g = g

left_yields : (x y : ℤ) → Yields kinds.Int (shifted_left x y)
left_yields x (pos n) = tt
left_yields x (negsuc n) = tt

right_yields : (x y : ℤ) → Yields kinds.Int (shifted_right x y)
right_yields x (pos n) = tt
right_yields x (negsuc n) = tt

yields_ints : (k : WordKind) (op : Op) → ((x y : ℤ) → Yields k (int_value op x y)) → (ws : List Word) → AllHave ws (kinds.Int ∷ kinds.Int ∷ []) → Yields k (applied op ws)
yields_ints k op g (Int x ∷ (Int y ∷ [])) h = g x y
yields_ints k op g [] h = absurd h
yields_ints k op g (Int x ∷ []) h = absurd h.1
yields_ints k op g (Truth x ∷ ws) h = absurd h.0
yields_ints k op g (Chan x ∷ ws) h = absurd h.0
yields_ints k op g (Int x ∷ (Truth y ∷ ws)) h = absurd h.1.0
yields_ints k op g (Int x ∷ (Chan y ∷ ws)) h = absurd h.1.0
yields_ints k op g (Int x ∷ (Int y ∷ (w ∷ ws))) h = absurd h.1.1

yields_int : (op : Op) → ((x : ℤ) → Yields kinds.Int (int_value op x x)) → (ws : List Word) → AllHave ws (kinds.Int ∷ []) → Yields kinds.Int (applied op ws)
yields_int op g (Int x ∷ []) h = g x
yields_int op g [] h = absurd h
yields_int op g (Truth x ∷ ws) h = absurd h.0
yields_int op g (Chan x ∷ ws) h = absurd h.0
yields_int op g (Int x ∷ (w ∷ ws)) h = absurd h.1

yields_bools : (op : Op) → ((x y : Bool) → Yields kinds.Bool (bool_value op x y)) → (ws : List Word) → AllHave ws (kinds.Bool ∷ kinds.Bool ∷ []) → Yields kinds.Bool (applied op ws)
yields_bools op g (Truth x ∷ (Truth y ∷ [])) h = g x y
yields_bools op g [] h = absurd h
yields_bools op g (Truth x ∷ []) h = absurd h.1
yields_bools op g (Int x ∷ ws) h = absurd h.0
yields_bools op g (Chan x ∷ ws) h = absurd h.0
yields_bools op g (Truth x ∷ (Int y ∷ ws)) h = absurd h.1.0
yields_bools op g (Truth x ∷ (Chan y ∷ ws)) h = absurd h.1.0
yields_bools op g (Truth x ∷ (Truth y ∷ (w ∷ ws))) h = absurd h.1.1

yields_bool : (op : Op) → ((x : Bool) → Yields kinds.Bool (bool_value op x x)) → (ws : List Word) → AllHave ws (kinds.Bool ∷ []) → Yields kinds.Bool (applied op ws)
yields_bool op g (Truth x ∷ []) h = g x
yields_bool op g [] h = absurd h
yields_bool op g (Int x ∷ ws) h = absurd h.0
yields_bool op g (Chan x ∷ ws) h = absurd h.0
yields_bool op g (Truth x ∷ (w ∷ ws)) h = absurd h.1

yields_chans : (op : Op) → ((x y : Option ℕ) → Yields kinds.Bool (chan_value op x y)) → (k : WordKind) → IsChannel k → (ws : List Word) → AllHave ws (k ∷ k ∷ []) → Yields kinds.Bool (applied op ws)
yields_chans op g (kinds.Chan s) p (Chan x ∷ (Chan y ∷ [])) h = g x y
yields_chans op g k p [] h = absurd h
yields_chans op g k p (w ∷ []) h = absurd h.1
yields_chans op g (kinds.Chan s) p (Int x ∷ ws) h = absurd h.0
yields_chans op g (kinds.Chan s) p (Truth x ∷ ws) h = absurd h.0
yields_chans op g (kinds.Chan s) p (Chan x ∷ (Int y ∷ ws)) h = absurd h.1.0
yields_chans op g (kinds.Chan s) p (Chan x ∷ (Truth y ∷ ws)) h = absurd h.1.0
yields_chans op g (kinds.Chan s) p (Chan x ∷ (Chan y ∷ (w ∷ ws))) h = absurd h.1.1
yields_chans op g kinds.Int p ws h = absurd p
yields_chans op g kinds.Bool p ws h = absurd p

yields : (op : Op) (ws : List Word) (ks : List WordKind) → AllHave ws ks → Meets (operands op) ks → Yields (outcome op) (applied op ws)
yields ops.Add ws ks h m = yields_ints kinds.Int ops.Add (λ x y. tt) ws (subst (AllHave ws) m h)
yields ops.Sub ws ks h m = yields_ints kinds.Int ops.Sub (λ x y. tt) ws (subst (AllHave ws) m h)
yields ops.Mul ws ks h m = yields_ints kinds.Int ops.Mul (λ x y. tt) ws (subst (AllHave ws) m h)
yields ops.Div ws ks h m = yields_ints kinds.Int ops.Div (λ x y. either kinds.Int (is_zero y) (panics DivideByZero) (number (int_wrapping_div w64 x y)) tt tt) ws (subst (AllHave ws) m h)
yields ops.Rem ws ks h m = yields_ints kinds.Int ops.Rem (λ x y. either kinds.Int (is_zero y) (panics DivideByZero) (number (int_rem x y)) tt tt) ws (subst (AllHave ws) m h)
yields ops.And ws ks h m = yields_ints kinds.Int ops.And (λ x y. tt) ws (subst (AllHave ws) m h)
yields ops.Or ws ks h m = yields_ints kinds.Int ops.Or (λ x y. tt) ws (subst (AllHave ws) m h)
yields ops.Xor ws ks h m = yields_ints kinds.Int ops.Xor (λ x y. tt) ws (subst (AllHave ws) m h)
yields ops.AndNot ws ks h m = yields_ints kinds.Int ops.AndNot (λ x y. tt) ws (subst (AllHave ws) m h)
yields ops.Shl ws ks h m = yields_ints kinds.Int ops.Shl left_yields ws (subst (AllHave ws) m h)
yields ops.Shr ws ks h m = yields_ints kinds.Int ops.Shr right_yields ws (subst (AllHave ws) m h)
yields ops.Neg ws ks h m = yields_int ops.Neg (λ x. tt) ws (subst (AllHave ws) m h)
yields ops.Com ws ks h m = yields_int ops.Com (λ x. tt) ws (subst (AllHave ws) m h)
yields ops.Not ws ks h m = yields_bool ops.Not (λ x. tt) ws (subst (AllHave ws) m h)
yields ops.EqInt ws ks h m = yields_ints kinds.Bool ops.EqInt (λ x y. tt) ws (subst (AllHave ws) m h)
yields ops.NeInt ws ks h m = yields_ints kinds.Bool ops.NeInt (λ x y. tt) ws (subst (AllHave ws) m h)
yields ops.Lt ws ks h m = yields_ints kinds.Bool ops.Lt (λ x y. tt) ws (subst (AllHave ws) m h)
yields ops.Le ws ks h m = yields_ints kinds.Bool ops.Le (λ x y. tt) ws (subst (AllHave ws) m h)
yields ops.Gt ws ks h m = yields_ints kinds.Bool ops.Gt (λ x y. tt) ws (subst (AllHave ws) m h)
yields ops.Ge ws ks h m = yields_ints kinds.Bool ops.Ge (λ x y. tt) ws (subst (AllHave ws) m h)
yields ops.EqBool ws ks h m = yields_bools ops.EqBool (λ x y. tt) ws (subst (AllHave ws) m h)
yields ops.NeBool ws ks h m = yields_bools ops.NeBool (λ x y. tt) ws (subst (AllHave ws) m h)
yields ops.EqChan ws [] h m = absurd m
yields ops.EqChan ws (k ∷ ks) h m = yields_chans ops.EqChan (λ x y. tt) k m.0 ws (subst (λ l. AllHave ws (k ∷ l)) m.1 h)
yields ops.NeChan ws [] h m = absurd m
yields ops.NeChan ws (k ∷ ks) h m = yields_chans ops.NeChan (λ x y. tt) k m.0 ws (subst (λ l. AllHave ws (k ∷ l)) m.1 h)

-- a store keeps the kinds of the locals
put_all : (at n : ℕ) (ws ls : List Word) (ks : List WordKind) → at + n ≤ length ks → AllHave ls ks → AllHave ws (slice_range ks at (at + n)) → AllHave (put_at at ws ls) ks
put_all at n ws ls ks le h g =
    let e : length (slice_range ks at (at + n)) ≡ n = grind (arith, places) in
    let m : length ws ≡ n = all_length ws (slice_range ks at (at + n)) g ∙ e in
    let whole : (take at ks ++ slice_range ks at (at + n)) ++ drop (at + n) ks ≡ ks = range_split at n ks le in
    subst (λ l. AllHave ((take at ls ++ ws) ++ drop (at + length ws) ls) l) whole
    (subst (λ x. AllHave ((take at ls ++ ws) ++ drop (at + x) ls) ((take at ks ++ slice_range ks at (at + n)) ++ drop (at + n) ks)) (sym m)
    (all_append (take at ls ++ ws) (drop (at + n) ls) (take at ks ++ slice_range ks at (at + n)) (drop (at + n) ks)
    (all_append (take at ls) ws (take at ks) (slice_range ks at (at + n)) (all_take at ls ks h) g)
    (all_drop (at + n) ls ks h)))

none_told : (ws told : List Word) (ks : List WordKind) → told ≡ [] → AllHave (ws ++ told) ks → AllHave ws ks
none_told ws told ks e h = subst (λ l. AllHave l ks) (append-nil ws) (subst (λ t. AllHave (ws ++ t) ks) e h)

-- if the reply has no words
all_told : (ws told : List Word) (ks : List WordKind) → told ≡ [] → AllHave ws ks → AllHave (ws ++ told) ks
all_told ws told ks e h = subst (λ t. AllHave (ws ++ t) ks) (sym e) (subst (λ l. AllHave l ks) (sym (append-nil ws)) h)

module _ (code : Code) where
  -- a step ends in good frames, and none is stuck
  abbrev pub Keeps : NextFrames → Type 0
  Keeps (Slides s) = IsFrameOf code s
  Keeps (Ticks s) = IsFrameOf code s
  Keeps (Asks q) = Unit {0}
  Keeps Stuck = ⊥

  within : (n have : ℕ) (a : NextFrames) → n ≤ have → Keeps a → Keeps (if_within n have a)
  within n have a le h = subst (λ t. Keeps (cond t Stuck a)) (sym (not_below have n le)) h

  there_is : {A : Type 0} (o : Option A) (x : A) (step : A → NextFrames) → o ≡ Some x → Keeps (step x) → Keeps (if_there o step)
  there_is o x step e h = subst (λ p. Keeps (if_there p step)) (sym e) h

  keeps_truth : (ws : List Word) (so other : NextFrames) → AllHave ws (kinds.Bool ∷ []) → Keeps so → Keeps other → Keeps (on_truth ws so other)
  keeps_truth (Truth true ∷ []) so other h p q = p
  keeps_truth (Truth false ∷ []) so other h p q = q
  keeps_truth [] so other h p q = absurd h
  keeps_truth (Int x ∷ ws) so other h p q = absurd h.0
  keeps_truth (Chan x ∷ ws) so other h p q = absurd h.0
  keeps_truth (Truth x ∷ (w ∷ ws)) so other h p q = absurd h.1

  keeps_int : (ws : List Word) (go : ℤ → NextFrames) → AllHave ws (kinds.Int ∷ []) → ((n : ℤ) → Keeps (go n)) → Keeps (on_int ws go)
  keeps_int (Int n ∷ []) go h g = g n
  keeps_int [] go h g = absurd h
  keeps_int (Truth x ∷ ws) go h g = absurd h.0
  keeps_int (Chan x ∷ ws) go h g = absurd h.0
  keeps_int (Int x ∷ (w ∷ ws)) go h g = absurd h.1

  keeps_chan : (k : WordKind) (ks : List WordKind) (ws : List Word) (go : Option ℕ → List Word → NextFrames) → IsChannel k → AllHave ws (k ∷ ks) → ((c : Option ℕ) (item : List Word) → AllHave item ks → Keeps (go c item)) → Keeps (on_chan ws go)
  keeps_chan (kinds.Chan s) ks (Chan c ∷ item) go p h g = g c item h.1
  keeps_chan k ks [] go p h g = absurd h
  keeps_chan (kinds.Chan s) ks (Int x ∷ ws) go p h g = absurd h.0
  keeps_chan (kinds.Chan s) ks (Truth x ∷ ws) go p h g = absurd h.0
  keeps_chan kinds.Int ks ws go p h g = absurd p
  keeps_chan kinds.Bool ks ws go p h g = absurd p

  keeps_one : (topks : List WordKind) (ws : List Word) (go : Option ℕ → List Word → NextFrames) → OneIsChannel topks → AllHave ws topks → ((c : Option ℕ) (item : List Word) → Keeps (go c item)) → Keeps (on_chan ws go)
  keeps_one [] ws go p h g = absurd p
  keeps_one (k ∷ ks) ws go p h g = keeps_chan k ks ws go p.0 h (λ c item _. g c item)

  keeps_value : (k : WordKind) (o : Valued) (go : Word → NextFrames) → Yields k o → ((w : Word) → Has w k → Keeps (go w)) → Keeps (on_value o go)
  keeps_value k (Some (Ok w)) go h g = g w h
  keeps_value k (Some (Err cause)) go h g = tt
  keeps_value k None go h g = absurd h

  keeps_return : (low ws : List Word) (own : List WordKind) (cs : Frames) → length low ≡ 0 → suc (length cs) ≤ 1000 → AllHave ws own → Await code own cs → Keeps (returned low ws cs)
  keeps_return (w ∷ low) ws own cs e d h a = absurd (omega (arith, e))
  keeps_return [] ws own [] e d h a = tt
  keeps_return [] ws own (c ∷ cs) e d h a = record { good = (a.0, a.1 ++ own, a.2, all_told (c.stack ++ ws) c.told (a.1 ++ own) a.4 (all_append c.stack ws a.1 own a.3 h), a.5, a.6); depth = omega (arith, d) }

  module _ (v : IsVerified code) where
    -- the operands of a select's clauses are of their kinds
    case_there : (x : TableClause) (ws : List Word) → clause_shape x < length code.shapes → AllHave ws (clause_kinds code x) → (y : Case) × (case_of x ws ≡ Some y)
    case_there (clauses.Receive s to) (Chan c ∷ []) le h = (record { chan = c; item = None }, refl)
    case_there (clauses.Receive s to) [] le h = absurd h
    case_there (clauses.Receive s to) (Int n ∷ ws) le h = absurd h.0
    case_there (clauses.Receive s to) (Truth b ∷ ws) le h = absurd h.0
    case_there (clauses.Receive s to) (Chan c ∷ (w ∷ ws)) le h = absurd h.1
    case_there (clauses.Send s to) (Chan c ∷ item) le h =
        let k = get_some code.shapes s le in
        let most : length (shape_kinds code s) ≤ 16 = subst (λ o. length (kinds_in o) ≤ 16) (sym k.1) (v.shapes s k.0 k.1).most in
        let same = all_length item (shape_kinds code s) h.1 in
        let short : nat_lt 16 (length item) ≡ false = grind (arith, nat_tests, most, same) in
        (record { chan = c; item = Some item }, ap (λ b. cond b None (Some (record { chan = c; item = Some item }))) short)
    case_there (clauses.Send s to) [] le h = absurd h
    case_there (clauses.Send s to) (Int n ∷ ws) le h = absurd h.0
    case_there (clauses.Send s to) (Truth b ∷ ws) le h = absurd h.0

    cases_there : (xs : List TableClause) (ws : List Word) → ((n : ℕ) (x : TableClause) → slice_get xs n ≡ Some x → clause_shape x < length code.shapes) → AllHave ws (all_clause_kinds code xs) → (ys : List Case) × (cases_of code xs ws ≡ Some ys)
    cases_there [] ws s h = ([], refl)
    cases_there (x ∷ xs) ws s h =
        let ks = clause_kinds code x in
        let n = length ks in
        let rest = all_clause_kinds code xs in
        let one = case_there x (take n ws) (s 0 x refl) (subst (AllHave (take n ws)) (take-append_seam ks rest) (all_take n ws (ks ++ rest) h)) in
        let more = cases_there xs (drop n ws) (λ k y e. s (suc k) y e) (subst (AllHave (drop n ws)) (drop-append_seam ks rest) (all_drop n ws (ks ++ rest) h)) in
        (one.0 ∷ more.0, ap (λ o. also o (cases_of code xs (drop n ws))) one.1 ∙ ap (also (Some one.0)) more.1)

    -- the instruction at a pc to which a path leads
    pub record There (g place : ℕ) (ks : List WordKind) : Type 0 where
      pub function : Function
      pub instr : Instr
      pub is-function : slice_get code.functions g ≡ Some function
      pub is-instr : slice_get function.instrs place ≡ Some instr
      pub named : Named code function instr
      pub fits : Fits code function instr ks
      pub next : (k to : ℕ) → slice_get (ways code instr place) k ≡ Some to → At code g to (afterwards code function instr k ks)

    pub there : (g place : ℕ) (ks : List WordKind) → At code g place ks → There g place ks
    there g place ks a =
        let f = a.0 in
        let h = v.functions g f a.1 in
        let t = h.fit a.2 place ks a.3 in
        record { function = f; instr = t.0; is-function = a.1; is-instr = t.1; named = (h.named place t.0 t.1).0; fits = t.2; next = λ k to e. (f, a.1, suc a.2, (place, ks, t.0, k, a.3, t.1, t.2, e, refl)) }

    start : (g : ℕ) (f : Function) → slice_get code.functions g ≡ Some f → At code g 0 []
    start g f e = (f, e, 0, (refl, refl))

    module _ (f : Function) (c : Frame) (cs : Frames) (low top : List Word) (own lowks topks : List WordKind) (hf : slice_get code.functions c.function ≡ Some f) (hown : f.results ≡ own) (hl : AllHave c.locals f.locals) (hlow : AllHave low lowks) (htop : AllHave top topks) (aw : Await code own cs) (d : suc (length cs) ≤ 1000) (ht : c.told ≡ []) where
      on : (ws : List Word) (ks : List WordKind) → AllHave ws ks → At code c.function (c.place + 1) (lowks ++ ks) → IsFrameOf code (goes_on c (low ++ ws) ∷ cs)
      on ws ks h e = record { good = (own, lowks ++ ks, (f, hf, hown, hl), all_told (low ++ ws) c.told (lowks ++ ks) ht (all_append low ws lowks ks hlow h), e, aw); depth = d }

      plain : (to : ℕ) → At code c.function to (lowks ++ []) → IsFrameOf code (goes_to c to low ∷ cs)
      plain to e = record { good = (own, lowks, (f, hf, hown, hl), all_told low c.told lowks ht hlow, subst (At code c.function to) (append-nil lowks) e, aw); depth = d }

      stores : (new : List Word) → AllHave new f.locals → At code c.function (c.place + 1) (lowks ++ []) → IsFrameOf code (record c { place = c.place + 1; locals = new; stack = low } ∷ cs)
      stores new h e = record { good = (own, lowks, (f, hf, hown, h), all_told low c.told lowks ht hlow, subst (At code c.function (c.place + 1)) (append-nil lowks) e, aw); depth = d }

      enters_by : (t : Bool) (g : ℕ) (k : Function) → nat_lt (length (goes_on c low ∷ cs)) 1000 ≡ t → slice_get code.functions g ≡ Some k → At code c.function (c.place + 1) (lowks ++ k.results) → Keeps (cond t (Ticks (begun k.locals g top ∷ (goes_on c low ∷ cs))) (Asks (Panic CallDepth)))
      enters_by false g k t e q = tt
      enters_by true g k t e q = record {
        good = (k.results, [], (k, e, refl, fitted_has k.locals top), tt, start g k e, (own, lowks, (f, hf, hown, hl), hlow, ht, q, aw));
        depth = grind (arith, nat_tests, t);
      }

      keeps_instr : (i : Instr) → Named code f i → Enough i (count (wants code f i)) (length low + count (wants code f i)) → Meets (wants code f i) topks → ((k to : ℕ) → slice_get (ways code i c.place) k ≡ Some to → At code c.function to (lowks ++ leaves code f i k topks)) → Keeps (instr_next code c cs low top i)
      keeps_instr (instrs.Int n) nm en m next = on (Int n ∷ []) (kinds.Int ∷ []) (tt, tt) (next 0 (c.place + 1) refl)
      keeps_instr (instrs.Bool b) nm en m next = on (Truth b ∷ []) (kinds.Bool ∷ []) (tt, tt) (next 0 (c.place + 1) refl)
      keeps_instr (instrs.Nil s) nm en m next = on (Chan None ∷ []) (kinds.Chan s ∷ []) (tt, tt) (next 0 (c.place + 1) refl)
      keeps_instr (instrs.Load a n) nm en m next =
          within (a + n) (length c.locals) (pushed code c cs low top (slice_range c.locals a (a + n))) (subst (λ l. a + n ≤ l) (sym (all_length c.locals f.locals hl)) nm)
          (on (slice_range c.locals a (a + n)) (slice_range f.locals a (a + n)) (all_range a (a + n) c.locals f.locals hl) (next 0 (c.place + 1) refl))
      keeps_instr (instrs.Store a n) nm en m next =
          within (a + n) (length c.locals) (Slides (record c { place = c.place + 1; locals = put_at a top c.locals; stack = low } ∷ cs)) (subst (λ l. a + n ≤ l) (sym (all_length c.locals f.locals hl)) nm)
          (stores (put_at a top c.locals) (put_all a n top c.locals f.locals nm hl (subst (AllHave top) m htop)) (next 0 (c.place + 1) refl))
      keeps_instr (instrs.Pick t a n) nm en m next = within (a + n) t (pushed code c cs low top (slice_range top a (a + n))) nm (on (slice_range top a (a + n)) (slice_range topks a (a + n)) (all_range a (a + n) top topks htop) (next 0 (c.place + 1) refl))
      keeps_instr (instrs.Discard n) nm en m next = plain (c.place + 1) (next 0 (c.place + 1) refl)
      keeps_instr (instrs.Apply op) nm en m next = keeps_value (outcome op) (applied op top) (λ w. pushed code c cs low top (w ∷ [])) (yields op top topks htop m) (λ w h. on (w ∷ []) (outcome op ∷ []) (h, tt) (next 0 (c.place + 1) refl))
      keeps_instr instrs.Tick nm en m next = plain (c.place + 1) (next 0 (c.place + 1) refl)
      keeps_instr (instrs.Jump to) nm en m next = plain to (next 0 to refl)
      keeps_instr (instrs.Unless to) nm en m next = keeps_truth top (Slides (goes_on c low ∷ cs)) (Slides (goes_to c to low ∷ cs)) (subst (AllHave top) m htop) (plain (c.place + 1) (next 0 (c.place + 1) refl)) (plain to (next 1 to refl))
      keeps_instr (instrs.Loop to) nm en m next = plain to (next 0 to refl)
      keeps_instr (instrs.Call g) nm en m next =
          let k = get_some code.functions g nm in
          there_is (slice_get code.functions g) k.0 (entered g top (goes_on c low ∷ cs)) k.1
          (enters_by (nat_lt (length (goes_on c low ∷ cs)) 1000) g k.0 refl k.1 (subst (λ o. At code c.function (c.place + 1) (lowks ++ results_in o)) k.1 (next 0 (c.place + 1) refl)))
      keeps_instr instrs.Return nm en m next = keeps_return low top own cs (omega (arith, en)) d (subst (AllHave top) (m ∙ hown) htop) aw
      keeps_instr (instrs.Make s) nm en m next =
          let k = get_some code.shapes s nm in
          there_is (slice_get code.shapes s) k.0 (λ ks. if_within (length ks) 16 (on_int top (λ n. Asks (Make n (map zero_of ks))))) k.1
          (within (length k.0) 16 (on_int top (λ n. Asks (Make n (map zero_of k.0)))) (v.shapes s k.0 k.1).most (keeps_int top (λ n. Asks (Make n (map zero_of k.0))) (subst (AllHave top) m htop) (λ n. tt)))
      keeps_instr (instrs.Go g) nm en m next = let k = get_some code.functions g nm in there_is (slice_get code.functions g) k.0 (λ _. Asks (Go g top)) k.1 tt
      keeps_instr (instrs.Send s) nm en m next =
          let k = get_some code.shapes s nm in
          let most : length (shape_kinds code s) ≤ 16 = subst (λ o. length (kinds_in o) ≤ 16) (sym k.1) (v.shapes s k.0 k.1).most in
          keeps_chan (kinds.Chan s) (shape_kinds code s) top (λ chan item. if_within (length item) 16 (Asks (Send chan item))) tt (subst (AllHave top) m htop)
          (λ chan item h. within (length item) 16 (Asks (Send chan item)) (subst (λ n. n ≤ 16) (sym (all_length item (shape_kinds code s) h)) most) tt)
      keeps_instr (instrs.Receive s) nm en m next = keeps_chan (kinds.Chan s) [] top (λ chan item. Asks (Receive chan)) tt (subst (AllHave top) m htop) (λ chan item h. tt)
      keeps_instr instrs.Close nm en m next = keeps_one topks top (λ chan item. Asks (Close chan)) m htop (λ chan item. tt)
      keeps_instr instrs.Len nm en m next = keeps_one topks top (λ chan item. Asks (Len chan)) m htop (λ chan item. tt)
      keeps_instr instrs.Cap nm en m next = keeps_one topks top (λ chan item. Asks (Cap chan)) m htop (λ chan item. tt)
      keeps_instr (instrs.Print q) nm en m next = let k = get_some code.prints q nm in there_is (slice_get code.prints q) k.0 (λ table. Asks (Print (printed table top))) k.1 tt
      keeps_instr (instrs.Select q) nm en m next =
          let k = get_some code.selects q nm.0 in
          let have : AllHave top (all_clause_kinds code k.0.clauses) = subst (λ o. AllHave top (all_clause_kinds code (clauses_in o))) k.1 (subst (AllHave top) m htop) in
          let x = cases_there k.0.clauses top (v.selects q k.0 k.1).there have in
          there_is (slice_get code.selects q) k.0 (λ table. if_there (cases_of code table.clauses top) (λ cases. Asks (Select cases (is_some table.default)))) k.1
          (there_is (cases_of code k.0.clauses top) x.0 (λ cases. Asks (Select cases (is_some k.0.default))) x.1 tt)

      told_by : (to : ℕ) (ks : List WordKind) (ws : List Word) → At code c.function to (lowks ++ ks) → IsFrameOf code (record c { place = to; stack = low; told = fitted ks ws } ∷ cs)
      told_by to ks ws e = record { good = (own, lowks ++ ks, (f, hf, hown, hl), all_append low (fitted ks ws) lowks ks hlow (fitted_has ks ws), e, aw); depth = d }

      -- on to a way that is there
      went_keeps : (q : ℕ) (ws : List Word) → low ≡ below (pops code f (instrs.Select q)) c.stack → IsFrameOf code (c ∷ cs)
          → ((k to : ℕ) → slice_get (ways code (instrs.Select q) c.place) k ≡ Some to → At code c.function to (lowks ++ leaves code f (instrs.Select q) k topks))
          → (k : ℕ) (o : Option ℕ) → slice_get (ways code (instrs.Select q) c.place) k ≡ o → IsFrameOf code (went code c ws f (instrs.Select q) k o ∷ cs)
      went_keeps q ws is g next k None e = g
      went_keeps q ws is g next k (Some to) e =
          subst (λ (l : List Word). IsFrameOf code (record c { place = to; stack = l; told = fitted (leaves code f (instrs.Select q) k []) ws } ∷ cs)) is
          (told_by to (leaves code f (instrs.Select q) k []) ws (next k to e))

      told_keeps : (i : Instr) (chosen : Option ℕ) (reply : List Word) → low ≡ below (pops code f i) c.stack → IsFrameOf code (c ∷ cs) → ((k to : ℕ) → slice_get (ways code i c.place) k ≡ Some to → At code c.function to (lowks ++ leaves code f i k topks)) → IsFrameOf code (cond (is_told i) (record c { place = c.place + 1; stack = low; told = fitted (gives code f i []) reply }) (selected code c chosen reply f i) ∷ cs)
      told_keeps (instrs.Make s) chosen reply is g next = told_by (c.place + 1) (kinds.Chan s ∷ []) reply (next 0 (c.place + 1) refl)
      told_keeps (instrs.Go x) chosen reply is g next = told_by (c.place + 1) [] reply (next 0 (c.place + 1) refl)
      told_keeps (instrs.Send s) chosen reply is g next = told_by (c.place + 1) [] reply (next 0 (c.place + 1) refl)
      told_keeps (instrs.Receive s) chosen reply is g next = told_by (c.place + 1) (shape_kinds code s ++ kinds.Bool ∷ []) reply (next 0 (c.place + 1) refl)
      told_keeps instrs.Close chosen reply is g next = told_by (c.place + 1) [] reply (next 0 (c.place + 1) refl)
      told_keeps instrs.Len chosen reply is g next = told_by (c.place + 1) (kinds.Int ∷ []) reply (next 0 (c.place + 1) refl)
      told_keeps instrs.Cap chosen reply is g next = told_by (c.place + 1) (kinds.Int ∷ []) reply (next 0 (c.place + 1) refl)
      told_keeps (instrs.Print q) chosen reply is g next = told_by (c.place + 1) [] reply (next 0 (c.place + 1) refl)
      told_keeps (instrs.Select q) chosen reply is g next =
          let k = way_of (slice_get code.selects q) chosen in
          went_keeps q reply is g next k (slice_get (targets_in (slice_get code.selects q)) k) refl
      told_keeps i chosen reply is g next = g

    instr_keeps : (c : Frame) (cs : Frames) → c.told ≡ [] → IsFrameOf code (c ∷ cs) → Keeps (told_first code c cs [])
    instr_keeps c cs ht g =
        let own = g.good.0 in
        let ks = g.good.1 in
        let stand = g.good.2 in
        let t = there c.function c.place ks g.good.4 in
        let f = t.function in
        let i = t.instr in
        let n = count (wants code f i) in
        let same : stand.0 ≡ f = some_inj (sym stand.1 ∙ t.is-function) in
        let have : AllHave c.stack ks = none_told c.stack c.told ks ht g.good.3 in
        let lengths : length c.stack ≡ length ks = all_length c.stack ks have in
        let enough : n ≤ length c.stack = subst (λ x. n ≤ x) (sym lengths) (enough_of i n (length ks) t.fits.0) in
        let all : length ks ≡ length (below n c.stack) + n = omega (arith, lengths, enough, length-take (length c.stack - n) c.stack) in
        there_is (slice_get code.functions c.function) f (at_function code c cs) t.is-function
        (there_is (slice_get f.instrs c.place) i (at_instr code c cs f) t.is-instr
        (within n (length c.stack) (instr_next code c cs (below n c.stack) (top_of n c.stack) i) enough
        (keeps_instr f c cs (below n c.stack) (top_of n c.stack) own (below n ks) (top_of n ks) t.is-function (subst (λ (x : Function). x.results ≡ own) same stand.2) (subst (λ (x : Function). AllHave c.locals x.locals) same stand.3) (all_below n c.stack ks have) (all_top n c.stack ks have) g.good.5 g.depth ht i t.named (subst (Enough i n) all t.fits.0) t.fits.1 t.next)))

    frame_keeps : (c : Frame) (cs : Frames) (told : List Word) → c.told ≡ told → IsFrameOf code (c ∷ cs) → Keeps (told_first code c cs told)
    frame_keeps c cs [] e g = instr_keeps c cs e g
    frame_keeps c cs (w ∷ ws) e g = record { good = (g.good.0, g.good.1, g.good.2, subst (λ l. AllHave l g.good.1) (sym (append-nil (c.stack ++ (w ∷ ws)))) (subst (λ t. AllHave (c.stack ++ t) g.good.1) e g.good.3), g.good.4, g.good.5); depth = g.depth }

    -- no test fails, and the next frames are good again
    pub keeps : (s : Frames) → IsFrameOf code s → Keeps (code_next code s)
    keeps [] g = absurd g.good
    keeps (c ∷ cs) g = frame_keeps c cs c.told refl g

    instr_answers : (c : Frame) (cs : Frames) (chosen : Option ℕ) (reply : List Word) → c.told ≡ [] → IsFrameOf code (c ∷ cs) → IsFrameOf code (answered code c chosen reply [] ∷ cs)
    instr_answers c cs chosen reply ht g =
        let own = g.good.0 in
        let ks = g.good.1 in
        let stand = g.good.2 in
        let t = there c.function c.place ks g.good.4 in
        let f = t.function in
        let i = t.instr in
        let n = count (wants code f i) in
        let same : stand.0 ≡ f = some_inj (sym stand.1 ∙ t.is-function) in
        let have : AllHave c.stack ks = none_told c.stack c.told ks ht g.good.3 in
        let fetched : fetch code c.function c.place ≡ Some i = ap (λ o. slice_get (instrs_of o) c.place) t.is-function ∙ t.is-instr in
        let told : IsFrameOf code (told_at code c chosen reply f i ∷ cs) = told_keeps f c cs (below n c.stack) (top_of n c.stack) own (below n ks) (top_of n ks) t.is-function (subst (λ (x : Function). x.results ≡ own) same stand.2) (subst (λ (x : Function). AllHave c.locals x.locals) same stand.3) (all_below n c.stack ks have) (all_top n c.stack ks have) g.good.5 g.depth ht i chosen reply refl g t.next in
        subst (λ o. IsFrameOf code (told_in code c chosen reply o (fetch code c.function c.place) ∷ cs)) (sym t.is-function)
        (subst (λ o. IsFrameOf code (told_in code c chosen reply (Some f) o ∷ cs)) (sym fetched) told)

    frame_answers : (c : Frame) (cs : Frames) (chosen : Option ℕ) (reply : List Word) (told : List Word) → c.told ≡ told → IsFrameOf code (c ∷ cs) → IsFrameOf code (answered code c chosen reply told ∷ cs)
    frame_answers c cs chosen reply [] e g = instr_answers c cs chosen reply e g
    frame_answers c cs chosen reply (w ∷ ws) e g = g

    pub words_keep : (s : Frames) (chosen : Option ℕ) (words : List Word) → IsFrameOf code s → IsFrameOf code (frames_told code s chosen words)
    words_keep [] chosen words g = g
    words_keep (c ∷ cs) chosen words g = frame_answers c cs chosen words c.told refl g

    -- whatever the reply
    pub answer_keeps : (s : Frames) (reply : Reply) → IsFrameOf code s → IsFrameOf code (code_answer code s reply)
    answer_keeps s reply g = words_keep s (choice reply) (reply_words reply) g

    begin_by : (g : ℕ) (args : List Word) (o : Option Function) (f : Function) → slice_get code.functions g ≡ Some f → o ≡ Some f → IsFrameOf code (begun (locals_in o) g args ∷ [])
    begin_by g args o f e is = subst (λ x. IsFrameOf code (begun (locals_in x) g args ∷ [])) (sym is) (record { good = (f.results, [], (f, e, refl, fitted_has f.locals args), tt, start g f e, tt); depth = omega arith })

    pub begin_keeps : (g : ℕ) (args : List Word) → g < length code.functions → IsFrameOf code (code_begin code g args)
    begin_keeps g args below = let k = get_some code.functions g below in begin_by g args (slice_get code.functions g) k.0 k.1 k.1

    not_kept : (a : NextFrames) → Keeps a → a ≡ Stuck → ⊥
    not_kept a h e = subst Keeps e h

    pub not_stuck : (s : Frames) → IsFrameOf code s → code_next code s ≡ Stuck → ⊥
    not_stuck s g e = not_kept (code_next code s) (keeps s g) e

    pub step_keeps : (s t : Frames) → IsFrameOf code s → code_next code s ≡ Slides t → IsFrameOf code t
    step_keeps s t g e = subst Keeps e (keeps s g)

    pub tick_keeps : (s t : Frames) → IsFrameOf code s → code_next code s ≡ Ticks t → IsFrameOf code t
    tick_keeps s t g e = subst Keeps e (keeps s g)
