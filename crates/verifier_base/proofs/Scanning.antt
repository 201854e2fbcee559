-- A scan from pc to pc.
use Rattle.std.proofs.Common.{ℕ, ◌+◌, ◌<◌, ◌≤◌, length, None, sym, subst, arith, inl, inr}
use Rattle.std.proofs.lemmas.Bool.{cases_eq}
use Rattle.std.proofs.lemmas.Option.{slice_get_within}
use Rattle.bytecode.specs.Code.{Function, Code}
use Rattle.verifier_base.specs.Scans.{ScannedAt, Scanned}

pub scanned_more : (code : Code) (f : Function) (place : ℕ) → ((q : ℕ) → q < place → ScannedAt None code f q) → ScannedAt None code f place → (q : ℕ) → q < place + 1 → ScannedAt None code f q
scanned_more code f place h g q l = elim (cases_eq q place) [ inl e ↦ subst (ScannedAt None code f) (sym e) g | inr n ↦ h q (grind (arith, l, n)) ]

pub scanned_all : (code : Code) (f : Function) (n : ℕ) → length f.instrs ≤ n → ((q : ℕ) → q < n → ScannedAt None code f q) → Scanned None code f
scanned_all code f n le h place i e = h place (omega (arith, slice_get_within f.instrs place i e)) i e
