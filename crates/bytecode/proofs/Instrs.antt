-- Instructions are the same if they compare as equal.
use Rattle.std.proofs.Common.{◌≡◌, ℤ, Bool, refl, subst, true, false, ap, Decides, arith, rules}
use Rattle.std.proofs.lemmas.Bool.{false≢true}
use Rattle.std.proofs.lemmas.Bool.Decides.{nat_tests, Decides-eqb}
use Rattle.word.specs.declared.apply.Op.{Op}
use Rattle.bytecode.specs.declared.instr.Instr.{Instr}
use Rattle.bytecode.specs.declared.instr.Instr.TheVariants as instrs
use Rattle.bytecode.specs.contracts.instr.InstrPartialEq.TheImpl.{eq-value}

same_int : (a b : ℤ) → eq-value.it (instrs.Int a) (instrs.Int b) ≡ true → a ≡ b
same_int a b e = grind (arith, nat_tests, e)

sameool : (a b : Bool) → eq-value.it (instrs.Bool a) (instrs.Bool b) ≡ true → a ≡ b
sameool true true e = refl
sameool true false e = cc
sameool false true e = cc
sameool false false e = refl

bool_itself : (a : Bool) → eq-value.it (instrs.Bool a) (instrs.Bool a) ≡ true
bool_itself true = refl
bool_itself false = refl

same_op : (a b : Op) → eq-value.it (instrs.Apply a) (instrs.Apply b) ≡ true → a ≡ b
same_op a b e = search rules

same : (i j : Instr) → eq-value.it i j ≡ true → i ≡ j
same (instrs.Int a) (instrs.Int d) h = ap instrs.Int (same_int a d h)
same (instrs.Int a) j h = absurd (false≢true h)
same (instrs.Bool a) (instrs.Bool d) h = ap instrs.Bool (sameool a d h)
same (instrs.Bool a) j h = absurd (false≢true h)
same (instrs.Nil a) (instrs.Nil d) h = ap instrs.Nil ((Decides-eqb a d).0 h)
same (instrs.Nil a) j h = absurd (false≢true h)
same (instrs.Load a b) (instrs.Load d e) h = grind (arith, nat_tests, h)
same (instrs.Load a b) j h = absurd (false≢true h)
same (instrs.Store a b) (instrs.Store d e) h = grind (arith, nat_tests, h)
same (instrs.Store a b) j h = absurd (false≢true h)
same (instrs.Pick a b c) (instrs.Pick d e f) h = grind (arith, nat_tests, h)
same (instrs.Pick a b c) j h = absurd (false≢true h)
same (instrs.Discard a) (instrs.Discard d) h = ap instrs.Discard ((Decides-eqb a d).0 h)
same (instrs.Discard a) j h = absurd (false≢true h)
same (instrs.Apply a) (instrs.Apply d) h = ap instrs.Apply (same_op a d h)
same (instrs.Apply a) j h = absurd (false≢true h)
same instrs.Tick instrs.Tick h = refl
same instrs.Tick j h = absurd (false≢true h)
same (instrs.Jump a) (instrs.Jump d) h = ap instrs.Jump ((Decides-eqb a d).0 h)
same (instrs.Jump a) j h = absurd (false≢true h)
same (instrs.Unless a) (instrs.Unless d) h = ap instrs.Unless ((Decides-eqb a d).0 h)
same (instrs.Unless a) j h = absurd (false≢true h)
same (instrs.Loop a) (instrs.Loop d) h = ap instrs.Loop ((Decides-eqb a d).0 h)
same (instrs.Loop a) j h = absurd (false≢true h)
same (instrs.Call a) (instrs.Call d) h = ap instrs.Call ((Decides-eqb a d).0 h)
same (instrs.Call a) j h = absurd (false≢true h)
same instrs.Return instrs.Return h = refl
same instrs.Return j h = absurd (false≢true h)
same (instrs.Make a) (instrs.Make d) h = ap instrs.Make ((Decides-eqb a d).0 h)
same (instrs.Make a) j h = absurd (false≢true h)
same (instrs.Go a) (instrs.Go d) h = ap instrs.Go ((Decides-eqb a d).0 h)
same (instrs.Go a) j h = absurd (false≢true h)
same (instrs.Send a) (instrs.Send d) h = ap instrs.Send ((Decides-eqb a d).0 h)
same (instrs.Send a) j h = absurd (false≢true h)
same (instrs.Receive a) (instrs.Receive d) h = ap instrs.Receive ((Decides-eqb a d).0 h)
same (instrs.Receive a) j h = absurd (false≢true h)
same instrs.Close instrs.Close h = refl
same instrs.Close j h = absurd (false≢true h)
same instrs.Len instrs.Len h = refl
same instrs.Len j h = absurd (false≢true h)
same instrs.Cap instrs.Cap h = refl
same instrs.Cap j h = absurd (false≢true h)
same (instrs.Print a) (instrs.Print d) h = ap instrs.Print ((Decides-eqb a d).0 h)
same (instrs.Print a) j h = absurd (false≢true h)
same (instrs.Select a) (instrs.Select d) h = ap instrs.Select ((Decides-eqb a d).0 h)
same (instrs.Select a) j h = absurd (false≢true h)

itself : (i : Instr) → eq-value.it i i ≡ true
itself (instrs.Int a) = grind arith
itself (instrs.Bool a) = bool_itself a
itself (instrs.Nil a) = (Decides-eqb a a).1 refl
itself (instrs.Load a b) = grind (arith, nat_tests)
itself (instrs.Store a b) = grind (arith, nat_tests)
itself (instrs.Pick a b c) = grind (arith, nat_tests)
itself (instrs.Discard a) = (Decides-eqb a a).1 refl
itself (instrs.Apply a) = search rules
itself instrs.Tick = refl
itself (instrs.Jump a) = (Decides-eqb a a).1 refl
itself (instrs.Unless a) = (Decides-eqb a a).1 refl
itself (instrs.Loop a) = (Decides-eqb a a).1 refl
itself (instrs.Call a) = (Decides-eqb a a).1 refl
itself instrs.Return = refl
itself (instrs.Make a) = (Decides-eqb a a).1 refl
itself (instrs.Go a) = (Decides-eqb a a).1 refl
itself (instrs.Send a) = (Decides-eqb a a).1 refl
itself (instrs.Receive a) = (Decides-eqb a a).1 refl
itself instrs.Close = refl
itself instrs.Len = refl
itself instrs.Cap = refl
itself (instrs.Print a) = (Decides-eqb a a).1 refl
itself (instrs.Select a) = (Decides-eqb a a).1 refl

pub instr_decides : (i j : Instr) → Decides (eq-value.it i j) (i ≡ j)
instr_decides i j = (same i j, λ e. subst (λ k. eq-value.it i k ≡ true) e (itself i))
