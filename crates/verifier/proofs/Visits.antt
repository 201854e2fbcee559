-- The result of a look at a pc.
use Rattle.std.proofs.Common.{◌≡◌, ℕ, suc, ◌+◌, ◌<◌, ◌≤◌, List, length, Some, None, cond, nat_lt, refl, sym, ap, ◌∙◌, subst, arith, slice_get, slice_set}
use Rattle.std.proofs.lemmas.Bool.Decides.{nat_tests}
use Rattle.std.specs.Global.{Vec}
use Rattle.std.specs.Prelude.{Bool, true, false}
use Rattle.std.proofs.Common.{inl, inr}
use Rattle.std.proofs.lemmas.Bool.{cases_eq}
use Rattle.verifier.specs.declared.paths.Visit.TheVariants.{Settles}
use Rattle.bytecode.specs.declared.instr.WordKind.{WordKind}
use Rattle.bytecode.specs.declared.instr.Instr.{Instr}
use Rattle.bytecode.specs.Code.{Function, Code}
use Rattle.verifier.specs.Tables.{Table, entry, Reached, Settled}
use Rattle.verifier.specs.declared.paths.Onward.TheVariants.{Kept, Grown}
use Rattle.bytecode.specs.Effects.{Fits, afterwards}
use Rattle.bytecode.specs.Rules.{ways}
use Rattle.verifier.specs.declared.paths.Merge.{Merge}
use Rattle.verifier.specs.declared.paths.Merge.TheVariants.{Same, New, Differs}
use Rattle.verifier.specs.Tables.{unknown, Ahead, AreReached, Followed, Led, Spread, Visited, LeadsOn, onward_of}
use Rattle.verifier.proofs.Entries.{entry_other, entry_set, some_none, unknown_set}
use Rattle.std.proofs.lemmas.Option.{slice_get_within}
use Rattle.bytecode.proofs.Options.{some_inj}

-- ---- entries that are made after a pc

ahead_same : (old new : Table) (place : ℕ) → new ≡ old → Ahead old new place
ahead_same old new place e = record { kept = λ p ks h. subst (λ t. entry t p ≡ Some ks) (sym e) h; same = λ p l. ap (λ t. entry t p) e; fewer = subst (λ t. unknown t ≤ unknown old) (sym e) (omega arith) }

ahead_more : (old mid new : Table) (place : ℕ) → Ahead old mid place → Ahead mid new place → Ahead old new place
ahead_more old mid new place a b = record { kept = λ p ks h. b.kept p ks (a.kept p ks h); same = λ p l. b.same p l ∙ a.same p l; fewer = let x = a.fewer in let y = b.fewer in omega (arith, x, y) }

ahead_set : (old : Table) (place to : ℕ) (v : Vec WordKind) → to < length old → place < to → entry old to ≡ None → Ahead old (slice_set old to (Some v)) place
ahead_set old place to v within l none = record {
  kept = λ p ks h. entry_other old to p v (λ e. some_none (sym h ∙ (ap (entry old) e ∙ none))) ∙ h;
  same = λ p m. entry_other old to p v (λ e. absurd (omega (arith, l, m, e)));
  fewer = let u = unknown_set old to v within none in omega (arith, u);
}

-- ---- the ways of an instruction, one after the other

-- there is no way of this number
pub stays : (code : Code) (f : Function) (old : Table) (place : ℕ) (i : Instr) (ks : List WordKind) (number : ℕ) → slice_get (ways code i place) number ≡ None → Followed Kept code f old old place i ks number
stays code f old place i ks number none = (ahead_same old old place refl, λ to e. absurd (some_none (sym e ∙ none)))

only_way : (code : Code) (f : Function) (place : ℕ) (i : Instr) (ks : List WordKind) (number to : ℕ) (new : Table) → slice_get (ways code i place) number ≡ Some to → entry new to ≡ Some (afterwards code f i number ks) → (q : ℕ) → slice_get (ways code i place) number ≡ Some q → entry new q ≡ Some (afterwards code f i number ks)
only_way code f place i ks number to new way here q e = subst (λ n. entry new n ≡ Some (afterwards code f i number ks)) (some_inj (sym way ∙ e)) here

-- the way of this number leads to a pc
pub followed : (m : Merge) (code : Code) (f : Function) (old new : Table) (place : ℕ) (i : Instr) (ks out : List WordKind) (number to : ℕ) → to < length old → slice_get (ways code i place) number ≡ Some to → out ≡ afterwards code f i number ks → Led m code f old new to out → Followed (onward_of m place to) code f old new place i ks number
followed Same code f old new place i ks out number to within way is led =
    (ahead_same old new place led.0, only_way code f place i ks number to new way (subst (λ t. entry t to ≡ Some (afterwards code f i number ks)) (sym led.0) (led.1 ∙ ap Some is)))
followed Differs code f old new place i ks out number to within way is led = led
followed New code f old new place i ks out number to within way is led = by (nat_lt place to) refl
  where
    v : Vec WordKind
    v = led.1.1.0

    set : new ≡ slice_set old to (Some v)
    set = led.1.1.2

    by : (b : Bool) → b ≡ nat_lt place to → Followed (cond b Kept Grown) code f old new place i ks number
    by false e = led.0
    by true e = (
      subst (λ t. Ahead old t place) (sym set) (ahead_set old place to v within (grind (arith, nat_tests, e)) led.1.0),
      only_way code f place i ks number to new way (subst (λ t. entry t to ≡ Some (afterwards code f i number ks)) (sym set) (entry_set old to v within ∙ ap Some (led.1.1.1 ∙ is))),
    )

-- nothing leads from here
pub dead : (code : Code) (f : Function) (old : Table) (place : ℕ) → entry old place ≡ None → Visited Settles code f old old place
dead code f old place none = (ahead_same old old place refl, λ ks e. absurd (some_none (sym e ∙ none)))

module _ (code : Code) (f : Function) (old : Table) (place : ℕ) (i : Instr) (ks : List WordKind) where
  pub none_yet : Spread false code f old old place i ks 0
  none_yet = (ahead_same old old place refl, λ k to l e. absurd (omega (arith, l)))

  pub kept : (grew : Bool) (mid new : Table) (number : ℕ) → Spread grew code f old mid place i ks number → Followed Kept code f mid new place i ks number → Spread grew code f old new place i ks (number + 1)
  kept true mid new number s h = let w = h.0.fewer in omega (arith, s, w)
  kept false mid new number s h = (
    ahead_more old mid new place s.0 h.0,
    λ k to l e.
        elim (cases_eq k number) [
          | inl q ↦ subst (λ m. entry new to ≡ Some (afterwards code f i m ks)) (sym q) (h.1 to (subst (λ m. slice_get (ways code i place) m ≡ Some to) q e))
          | inr n ↦ h.0.kept to (afterwards code f i k ks) (s.1 k to (grind (arith, l, n)) e)
        ],
  )

  pub grown : (grew : Bool) (mid new : Table) (number : ℕ) → Spread grew code f old mid place i ks number → Followed Grown code f mid new place i ks number → Spread true code f old new place i ks (number + 1)
  grown true mid new number s h = omega (arith, s, h)
  grown false mid new number s h = let w = s.0.fewer in omega (arith, w, h)

  pub all_kept : (at : ℕ) (new : Table) (number : ℕ) → LeadsOn code f old place i ks at → length (ways code i place) ≤ number → Spread false code f old new place i ks number → Visited Settles code f old new place
  all_kept at new number leads all s = (s.0, settled)
    where
      settled : Settled code f new place
      settled js e =
          let same : ks ≡ js = some_inj (sym leads.here ∙ (sym (s.0.same place (omega arith)) ∙ e)) in
          subst (λ l. (i : Instr) × (slice_get f.instrs place ≡ Some i) × Fits code f i l × ((k to : ℕ) → slice_get (ways code i place) k ≡ Some to → entry new to ≡ Some (afterwards code f i k l))) same
          (i, leads.fetched, leads.fits, λ k to h. s.1 k to (let l = slice_get_within (ways code i place) k to h in omega (arith, l, all)) h)

-- each way leads to a pc, on a path
pub ways_reached : (code : Code) (f : Function) (table : Table) (place : ℕ) (i : Instr) (ks : List WordKind) (at : ℕ) → Reached code f table → LeadsOn code f table place i ks at → AreReached code f place i ks
ways_reached code f table place i ks at r l k to e =
    let p = r.1 place ks l.here in (suc p.0, (place, ks, i, k, p.1, l.fetched, l.fits, e, refl))
