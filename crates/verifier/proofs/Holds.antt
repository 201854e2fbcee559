-- A full table shows that the rules of paths hold.
use Rattle.std.proofs.Common.{◌≡◌, ℕ, zero, suc, ◌+◌, ◌<◌, ◌≤◌, List, [], ◌∷◌, length, Some, None, sym, ap, ◌∙◌, subst, arith, slice_get}
use Rattle.std.specs.Prelude.{Bool, true, false}
use Rattle.std.proofs.Common.{inl, inr}
use Rattle.std.proofs.lemmas.Bool.{cases_eq}
use Rattle.bytecode.specs.declared.instr.WordKind.{WordKind}
use Rattle.bytecode.specs.declared.instr.Instr.{Instr}
use Rattle.bytecode.specs.Code.{Function, Code}
use Rattle.verifier.specs.declared.paths.Visit.TheVariants.{Settles, Grows}
use Rattle.verifier.specs.Tables.{Table, entry, Settled}
use Rattle.bytecode.specs.Effects.{Fits, afterwards}
use Rattle.bytecode.specs.Rules.{Path, ways}
use Rattle.bytecode.specs.declared.rule.Rule.{Rule}
use Rattle.bytecode.specs.declared.rule.Rule.TheVariants.{Names, Targets, Paths, Calls, Returns, Locals, Tables, Main}
use Rattle.bytecode.specs.declared.instr.Instr.TheVariants as instrs
use Rattle.bytecode.specs.Rules.{IsHeaded, Misfit, BrokenIn, Holds, rule_of}
use Rattle.verifier.specs.declared.paths.Inferred.{Inferred}
use Rattle.verifier.specs.declared.paths.Inferred.TheVariants.{Full, BrokenAt, PartedAt}
use Rattle.verifier.specs.Tables.{Ahead, Infers, Judged, judged_of, Going, Visited, Full'}
use Rattle.verifier_base.specs.Scans.{Scanned}
use Rattle.bytecode.proofs.Options.{some_inj, none_some}
use Rattle.std.proofs.lemmas.Option.{slice_get_within}

entry_within : (t : Table) (n : ℕ) (ks : List WordKind) → entry t n ≡ Some ks → n < length t
entry_within [] n ks e = absurd (none_some e)
entry_within (x ∷ t) zero ks e = omega arith
entry_within (x ∷ t) (suc n) ks e = omega (arith, entry_within t n ks e)

settled_on : (code : Code) (f : Function) (old new : Table) (place q : ℕ) → Ahead old new place → q ≤ place → Settled code f old q → Settled code f new q
settled_on code f old new place q a l s ks e = let r = s ks (sym (a.same q l) ∙ e) in (r.0, r.1, r.2, λ k to h. a.kept to (afterwards code f r.0 k ks) (r.3 k to h))

pub going : (grew : Bool) (code : Code) (f : Function) (old mid new : Table) (place : ℕ) → Going grew code f old mid place → Visited Settles code f mid new place → Going grew code f old new (place + 1)
going true code f old mid new place g v = let w = v.0.fewer in omega (arith, g, w)
going false code f old mid new place g v = (
  let u = g.0 in let w = v.0.fewer in omega (arith, u, w),
  λ q h. elim (cases_eq q place) [
    | inl e ↦ subst (Settled code f new) (sym e) v.1
    | inr n ↦ settled_on code f mid new place q v.0 (omega (arith, h)) (g.1 q (grind (arith, h, n)))
  ],
)

pub gone : (grew : Bool) (code : Code) (f : Function) (old mid new : Table) (place : ℕ) → Going grew code f old mid place → Visited Grows code f mid new place → Going true code f old new (place + 1)
gone true code f old mid new place g v = omega (arith, g, v)
gone false code f old mid new place g v = let u = g.0 in omega (arith, u, v)

module _ (code : Code) (f : Function) (table : Table) (same : length table ≡ length f.instrs) (full : Full' code f table) where
  settled_at : (place : ℕ) (ks : List WordKind) → entry table place ≡ Some ks → (i : Instr) × (slice_get f.instrs place ≡ Some i) × Fits code f i ks × ((k to : ℕ) → slice_get (ways code i place) k ≡ Some to → entry table to ≡ Some (afterwards code f i k ks))
  settled_at place ks e = full.1 place (subst (λ n. place < n) same (entry_within table place ks e)) ks e

  -- each path ends at an entry
  pub on_path : (n place : ℕ) (ks : List WordKind) → Path code f n place ks → entry table place ≡ Some ks
  on_path zero place ks p = ap (entry table) p.0 ∙ (full.0 ∙ ap Some (sym p.1))
  on_path (suc n) place ks (from, js, i, k, p, hi, fits, way, out) =
      let s = settled_at from js (on_path n from js p) in
      let e : s.0 ≡ i = some_inj (sym s.1 ∙ hi) in
      s.3 k place (subst (λ x. slice_get (ways code x from) k ≡ Some place) (sym e) way) ∙ ap Some (ap (λ x. afterwards code f x k js) e ∙ sym out)

  pub fit : (n place : ℕ) (ks : List WordKind) → Path code f n place ks → (i : Instr) × (slice_get f.instrs place ≡ Some i) × Fits code f i ks
  fit n place ks p = let s = settled_at place ks (on_path n place ks p) in (s.0, s.1, s.2)

  pub alike : (n m place : ℕ) (ks js : List WordKind) → Path code f n place ks → Path code f m place js → ks ≡ js
  alike n m place ks js p q = some_inj (sym (on_path n place ks p) ∙ on_path m place js q)

abbrev IsPathRule : Rule → Type 0
IsPathRule Names = ⊥
IsPathRule Targets = ⊥
IsPathRule Tables = ⊥
IsPathRule Main = ⊥
IsPathRule r = Unit {0}

path_rule : (i : Instr) → IsPathRule (rule_of i)
path_rule (instrs.Call g) = tt
path_rule (instrs.Go g) = tt
path_rule instrs.Return = tt
path_rule (instrs.Store a n) = tt
path_rule i = tt

pub misfit_broken : (code : Code) (f : Function) (rule : Rule) (place : ℕ) → Misfit code f rule place → BrokenIn code f rule place
misfit_broken code f Names place m = absurd (subst IsPathRule m.5 (path_rule m.2))
misfit_broken code f Targets place m = absurd (subst IsPathRule m.5 (path_rule m.2))
misfit_broken code f Paths place m = inl m
misfit_broken code f Calls place m = m
misfit_broken code f Returns place m = m
misfit_broken code f Locals place m = m
misfit_broken code f Tables place m = absurd (subst IsPathRule m.5 (path_rule m.2))
misfit_broken code f Main place m = absurd (subst IsPathRule m.5 (path_rule m.2))

pub holds : (code : Code) (f : Function) (table : Table) → IsHeaded code f → Scanned None code f → length table ≡ length f.instrs → Full' code f table → Holds code f
holds code f table some scanned same full =
    record { headed = some; named = λ place i e. (scanned place i e).0; directed = λ place i e. (scanned place i e).1; fit = fit code f table same full; same = alike code f table same full }

pub judged : (r : Inferred) (code : Code) (f : Function) → IsHeaded code f → Scanned None code f → Infers r code f → Judged (judged_of r) code f
judged (Full table) code f some scanned h = holds code f table.items some scanned h.0 h.1
judged (BrokenAt rule place) code f some scanned h = misfit_broken code f rule place h
judged (PartedAt to) code f some scanned h = inr h

-- what holds of all below a number and of the one there
pub all_more : {A : Type 0} (P : A → Type 0) (xs : List A) (g : ℕ) (x : A) → ((h : ℕ) (y : A) → h < g → slice_get xs h ≡ Some y → P y) → slice_get xs g ≡ Some x → P x → (h : ℕ) (y : A) → h < g + 1 → slice_get xs h ≡ Some y → P y
all_more P xs g x all e new h y l s =
    elim (cases_eq h g) [
      | inl q ↦ subst P (some_inj (sym e ∙ (ap (slice_get xs) (sym q) ∙ s))) new
      | inr n ↦ all h y (grind (arith, l, n)) s
    ]

pub all_of : {A : Type 0} (P : A → Type 0) (xs : List A) (n : ℕ) → length xs ≤ n → ((h : ℕ) (y : A) → h < n → slice_get xs h ≡ Some y → P y) → (h : ℕ) (y : A) → slice_get xs h ≡ Some y → P y
all_of P xs n le all h y e = all h y (omega (arith, slice_get_within xs h y e)) e
