-- What goes to spots among the locals fits them.
use Rattle.std.proofs.Common.{◌≡◌, ℕ, zero, suc, ◌+◌, ◌-◌, ◌≤◌, Bool, true, false, List, [], ◌∷◌, ◌++◌, length, take, drop, Some, refl, sym, ap, ◌∙◌, subst, arith, append_assoc, slice_get, slice_range}
use Rattle.std.specs.Prelude.{if◌then◌else◌}
use Rattle.std.proofs.lemmas.Option.{same_Some}
use Rattle.std.proofs.lemmas.List.{append-nil}
use Rattle.bytecode.specs.declared.instr.WordKind.{WordKind}
use Rattle.bytecode.specs.declared.instr.Instr.TheVariants as instrs
use Rattle.bytecode.specs.Code.{Function as CodeFunction, Code}
use Rattle.type_table.specs.Containment.{Structs}
use Rattle.codegen_base.specs.declared.element.Element.{Element}
use Rattle.codegen_base.specs.Pushes.{drops}
use Rattle.codegen_base.specs.Statements.{Spot, Dropped, Local, stores, stores_all, single_spots, singles, has_place, last_counts, assigns}
use Rattle.plan.specs.Plan.{Plan, Do}
use Rattle.plan.proofs.Lists.{Stand}
use Rattle.plan.proofs.Typed.{Allowed, Typed, typed_step, typed_none}
use Rattle.codegen_fine.proofs.Pushing.{drops_typed}

-- ---- what is among the locals

drop_at : (xs : List WordKind) (p : ℕ) (k : WordKind) → slice_get xs p ≡ Some k → drop p xs ≡ k ∷ drop (p + 1) xs
drop_at [] p k e = absurd cc
drop_at (x ∷ xs) zero k e = ap (λ y. y ∷ xs) (same_Some x k e)
drop_at (x ∷ xs) (suc p) k e = let s : suc (p + 1) ≡ suc p + 1 = omega arith in drop_at xs p k e ∙ ap (λ n. k ∷ drop n (x ∷ xs)) s

stand_take : (xs : List WordKind) (p : ℕ) (js : List WordKind) → Stand xs p js → take (length js) (drop p xs) ≡ js
stand_take xs p [] h = refl
stand_take xs p (k ∷ js) h = ap (take (suc (length js))) (drop_at xs p k h.0) ∙ ap (λ (l : List WordKind). k ∷ l) (stand_take xs (p + 1) js h.1)

-- what is there is a part of the list
pub stand_range : (xs : List WordKind) (p n : ℕ) (js : List WordKind) → n ≡ length js → Stand xs p js → slice_range xs p (p + n) ≡ js
stand_range xs p n js many h = let e : p + n - p ≡ length js = omega (arith, many) in ap (λ m. take m (drop p xs)) e ∙ stand_take xs p js h

-- several lists of kinds, one after the other
abbrev pub joined : List (List WordKind) → List WordKind
joined [] = []
joined (js ∷ kss) = js ++ joined kss

module _ (structs : Structs) (elements : List Element) (code : Code) (f : CodeFunction) where
  -- words of these kinds may go to a spot
  abbrev pub SpotFits : Spot → List WordKind → Type 0
  SpotFits (Dropped words) js = words ≡ length js
  SpotFits (Local place words) js = (words ≡ length js) × (place + words ≤ length f.locals) × Stand f.locals place js

  abbrev pub SpotsFit : List Spot → List (List WordKind) → Type 0
  SpotsFit [] [] = Unit {0}
  SpotsFit (spot ∷ spots) (js ∷ kss) = SpotFits spot js × SpotsFit spots kss
  SpotsFit spots kss = ⊥

  pub stores_typed : (spot : Spot) (js : List WordKind) → SpotFits spot js → (a : Allowed) (ks out : List WordKind) (rest : Plan) → Typed code f a ks rest out → Typed code f a (ks ++ js) (stores spot rest) out
  stores_typed (Dropped words) js fit a ks out rest t = subst (λ n. Typed code f a (ks ++ js) (drops n rest) out) (sym fit) (drops_typed structs elements code f js a ks out rest t)
  stores_typed (Local place words) js (many, within, stand) a ks out rest t =
      let range = stand_range f.locals place words js many stand in
      typed_step code f a ks js (instrs.Store place words) rest out tt within (ap length range) (sym range) (subst (λ (l : List WordKind). Typed code f a l rest out) (sym (append-nil ks)) t)

  pub stores_all_typed : (spots : List Spot) (kss : List (List WordKind)) → SpotsFit spots kss → (a : Allowed) (ks out : List WordKind) (rest : Plan) → Typed code f a ks rest out → Typed code f a (ks ++ joined kss) (stores_all spots rest) out
  stores_all_typed [] [] fit a ks out rest t = subst (λ (l : List WordKind). Typed code f a l rest out) (sym (append-nil ks)) t
  stores_all_typed [] (js ∷ kss) fit a ks out rest t = absurd fit
  stores_all_typed (spot ∷ spots) [] fit a ks out rest t = absurd fit
  stores_all_typed (spot ∷ spots) (js ∷ kss) fit a ks out rest t =
      subst (λ (l : List WordKind). Typed code f a l (stores_all spots (stores spot rest)) out) (append_assoc ks js (joined kss)) (stores_all_typed spots kss fit.1 a (ks ++ js) out (stores spot rest) (stores_typed spot js fit.0 a ks out rest t))

  -- ---- several values are stored word by word

  abbrev each_alone : List WordKind → List (List WordKind)
  each_alone [] = []
  each_alone (k ∷ js) = (k ∷ []) ∷ each_alone js

  joined_alone : (js : List WordKind) → joined (each_alone js) ≡ js
  joined_alone [] = refl
  joined_alone (k ∷ js) = ap (λ (l : List WordKind). k ∷ l) (joined_alone js)

  joined_append : (xs ys : List (List WordKind)) → joined (xs ++ ys) ≡ joined xs ++ joined ys
  joined_append [] ys = refl
  joined_append (x ∷ xs) ys = ap (λ (l : List WordKind). x ++ l) (joined_append xs ys) ∙ sym (append_assoc x (joined xs) (joined ys))

  fit_append : (xs ys : List Spot) (kss jss : List (List WordKind)) → SpotsFit xs kss → SpotsFit ys jss → SpotsFit (xs ++ ys) (kss ++ jss)
  fit_append [] ys [] jss x y = y
  fit_append [] ys (ks ∷ kss) jss x y = absurd x
  fit_append (spot ∷ xs) ys [] jss x y = absurd x
  fit_append (spot ∷ xs) ys (ks ∷ kss) jss x y = (x.0, fit_append xs ys kss jss x.1 y)

  single_fit : (place words : ℕ) (js : List WordKind) → words ≡ length js → place + words ≤ length f.locals → Stand f.locals place js → SpotsFit (single_spots place words) (each_alone js)
  single_fit place zero [] many within stand = tt
  single_fit place zero (k ∷ js) many within stand = absurd (omega (arith, many))
  single_fit place (suc words) [] many within stand = absurd (omega (arith, many))
  single_fit place (suc words) (k ∷ js) many within stand =
      ((refl, omega (arith, within), (stand.0, tt)), single_fit (place + 1) words js (omega (arith, many)) (omega (arith, within)) stand.1)

  -- the kinds of the spots word by word, which are the same
  pub record Singly (spots : List Spot) (kss : List (List WordKind)) : Type 0 where
    pub each : List (List WordKind)
    pub fit : SpotsFit spots each
    pub same : joined each ≡ joined kss

  singly : (spots : List Spot) (kss : List (List WordKind)) → SpotsFit spots kss → Singly (singles spots) kss
  singly [] [] fit = record { each = []; fit = tt; same = refl }
  singly [] (js ∷ kss) fit = absurd fit
  singly (spot ∷ spots) [] fit = absurd fit
  singly (Dropped words ∷ spots) (js ∷ kss) fit =
      let s = singly spots kss fit.1 in record { each = js ∷ s.each; fit = (fit.0, s.fit); same = ap (λ (l : List WordKind). js ++ l) s.same }
  singly (Local place words ∷ spots) (js ∷ kss) fit =
      let s = singly spots kss fit.1 in
      record {
        each = each_alone js ++ s.each;
        fit = fit_append (single_spots place words) (singles spots) (each_alone js) s.each (single_fit place words js fit.0.0 fit.0.1 fit.0.2) s.fit;
        same = joined_append (each_alone js) s.each ∙ ap (λ (l : List WordKind). l ++ joined s.each) (joined_alone js) ∙ ap (λ (l : List WordKind). js ++ l) s.same;
      }

  last_fit : (spots : List Spot) (kss : List (List WordKind)) → SpotsFit spots kss → SpotsFit (last_counts spots) kss
  last_fit [] [] fit = tt
  last_fit [] (js ∷ kss) fit = absurd fit
  last_fit (Dropped words ∷ spots) [] fit = absurd fit
  last_fit (Local place words ∷ spots) [] fit = absurd fit
  last_fit (Dropped words ∷ spots) (js ∷ kss) fit = (fit.0, last_fit spots kss fit.1)
  last_fit (Local place words ∷ spots) (js ∷ kss) fit = (go (has_place place spots) fit.0, last_fit spots kss fit.1) where
    go : (t : Bool) → SpotFits (Local place words) js → SpotFits (if t then Dropped words else Local place words) js
    go true fit = fit.0
    go false fit = fit

  pub ticks_typed : (a : Allowed) (ks out : List WordKind) (rest : Plan) → Typed code f a ks rest out → Typed code f a ks (Do instrs.Tick rest) out
  ticks_typed a ks out rest t = typed_none code f a ks instrs.Tick rest out tt tt refl tt (subst (λ (l : List WordKind). Typed code f a l rest out) (sym (append-nil ks)) t)

  -- values go to their spots
  pub assigns_typed : (spots : List Spot) (kss : List (List WordKind)) → SpotsFit spots kss → (a : Allowed) (ks out : List WordKind) (rest : Plan) → Typed code f a ks rest out → Typed code f a (ks ++ joined kss) (assigns spots rest) out
  assigns_typed [] kss fit a ks out rest t = stores_all_typed [] kss fit a ks out (Do instrs.Tick rest) (ticks_typed a ks out rest t)
  assigns_typed (spot ∷ []) kss fit a ks out rest t = stores_all_typed (spot ∷ []) kss fit a ks out (Do instrs.Tick rest) (ticks_typed a ks out rest t)
  assigns_typed (spot ∷ (other ∷ others)) kss fit a ks out rest t =
      let s = singly (spot ∷ (other ∷ others)) kss fit in
      let spots = last_counts (singles (spot ∷ (other ∷ others))) in
      subst (λ (l : List WordKind). Typed code f a (ks ++ l) (stores_all spots (Do instrs.Tick rest)) out) s.same
      (stores_all_typed spots s.each (last_fit (singles (spot ∷ (other ∷ others))) s.each s.fit) a ks out (Do instrs.Tick rest) (ticks_typed a ks out rest t))
