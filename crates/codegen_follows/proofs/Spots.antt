-- The code of assignments stores values in their spots, and comes to the tick.
use Rattle.std.proofs.Common.{◌≡◌, ℕ, zero, suc, ◌+◌, ◌≤◌, Bool, true, false, List, [], ◌∷◌, ◌++◌, length, Option, refl, sym, ap, ◌∙◌, subst, arith, length-append}
use Rattle.std.specs.Prelude.{if◌then◌else◌}
use Rattle.std.proofs.lemmas.List.{take_all}
use Rattle.bytecode.specs.declared.instr.Instr.TheVariants as instrs
use Rattle.bytecode.specs.Machine.{Frames as CodeFrames, code_next}
use Rattle.word.specs.Related.{Slips, here}
use Rattle.type_table.specs.Types.{ValueType}
use Rattle.type_table.specs.Containment.{Structs}
use Rattle.type_table.specs.Scopes.{Scope, Globals}
use Rattle.meaning.specs.Values.{Value, known}
use Rattle.meaning.specs.Variables.{Blocks, Destination, Nowhere, New, Into, stored, all_stored}
use Rattle.codegen_base.specs.Statements.{Spot, Dropped, Local, single_spots, singles, has_place, last_counts, assigns}
use Rattle.plan.specs.Plan.{Skip, Do}
use Rattle.plan.proofs.Words.{Words}
use Rattle.plan.proofs.Places.{At, On, Leads}
use Rattle.plan.proofs.Steps.{spots as frames}
use Rattle.codegen_base.proofs.Seen.{found_below}
use Rattle.codegen_base.proofs.Static.{IsPlaced}
use Rattle.codegen_base.proofs.Likeness.{like_long, AreLike, all_words_of}
use Rattle.codegen_base.proofs.Fields.{AllWide, held_within}
use Rattle.codegen_base.proofs.Stores.{spot_words, put_spot, put_forward, all_words, AreThere, singles_words, stored_forward}
use Rattle.codegen_base.proofs.Storing.{stores_goes, all_goes}
use Rattle.codegen_base.proofs.Assigned.{after_destination, counted_words, placed_new, AreSpots, following_all, spot_long, more_words}
use Rattle.codegen_base.proofs.Running.{Compiled, Coded, Running}

-- ---- the words of spots, and their locals

last_words : (spots : List Spot) → all_words (last_counts spots) ≡ all_words spots
last_words [] = refl
last_words (Dropped words ∷ spots) = ap (λ n. words + n) (last_words spots)
last_words (Local place words ∷ spots) = go (has_place place spots) (ap (λ n. words + n) (last_words spots)) where
  go : (t : Bool) → words + all_words (last_counts spots) ≡ words + all_words spots → all_words ((if t then Dropped words else Local place words) ∷ last_counts spots) ≡ words + all_words spots
  go true more = more
  go false more = more

last_there : (many : ℕ) (spots : List Spot) → AreThere many spots → AreThere many (last_counts spots)
last_there many [] at = tt
last_there many (Dropped words ∷ spots) at = last_there many spots at
last_there many (Local place words ∷ spots) at = go (has_place place spots) (last_there many spots at.1) where
  go : (t : Bool) → AreThere many (last_counts spots) → AreThere many ((if t then Dropped words else Local place words) ∷ last_counts spots)
  go true more = more
  go false more = (at.0, more)

single_there : (many n p : ℕ) (spots : List Spot) → p + n ≤ many → AreThere many spots → AreThere many (single_spots p n ++ spots)
single_there many zero p spots le at = at
single_there many (suc n) p spots le at = (omega (arith, le), single_there many n (p + 1) spots (omega (arith, le)) at)

singles_there : (many : ℕ) (spots : List Spot) → AreThere many spots → AreThere many (singles spots)
singles_there many [] at = tt
singles_there many (Dropped words ∷ spots) at = singles_there many spots at
singles_there many (Local place words ∷ spots) at = single_there many words place (singles spots) at.0 (singles_there many spots at.1)

-- ---- destinations

module _ (structs : Structs) (all : AllWide structs) where
  -- values of the types take as many words as the spots
  pub spots_words : (ds : List Destination) (types : List ValueType) (spots : List Spot) (vs : List Value) (scope : Scope) → AreSpots structs all scope ds types spots → AreLike structs types vs → all_words spots ≡ length (all_words_of vs)
  spots_words [] [] [] [] scope are like = refl
  spots_words [] [] [] (v ∷ vs) scope are like = absurd like
  spots_words [] [] (spot ∷ spots) vs scope are like = absurd are
  spots_words [] (kind ∷ types) spots vs scope are like = absurd are
  spots_words (d ∷ ds) [] spots vs scope are like = absurd are
  spots_words (d ∷ ds) (kind ∷ types) [] vs scope are like = absurd are
  spots_words (d ∷ ds) (kind ∷ types) (spot ∷ spots) [] scope are like = absurd like
  spots_words (d ∷ ds) (kind ∷ types) (spot ∷ spots) (v ∷ vs) scope are like =
      let one = spot_long structs all scope d kind spot are.0 in
      let long = like_long structs kind v like.0 in
      let more = spots_words ds types spots vs (after_destination structs d scope) are.1 like.1 in
      omega (arith, one, long, more, length-append v (all_words_of vs))

  -- the locals of the spots are there
  pub spots_there : (ds : List Destination) (types : List ValueType) (spots : List Spot) (scope : Scope) (ns : List ℕ) (many : ℕ) → IsPlaced structs scope ns → AreSpots structs all scope ds types spots → (following_all structs all ds scope).words ≤ many → AreThere many spots
  spots_there [] [] [] scope ns many p are room = tt
  spots_there [] [] (spot ∷ spots) scope ns many p are room = absurd are
  spots_there [] (kind ∷ types) spots scope ns many p are room = absurd are
  spots_there (d ∷ ds) [] spots scope ns many p are room = absurd are
  spots_there (d ∷ ds) (kind ∷ types) [] scope ns many p are room = absurd are
  spots_there (Nowhere ∷ ds) (kind ∷ types) (spot ∷ spots) scope ns many p are room = subst (λ s. AreThere many (s ∷ spots)) (sym are.0) (spots_there ds types spots scope ns many p are.1 room)
  spots_there (New name k ∷ ds) (kind ∷ types) (spot ∷ spots) scope ns many p ((same, is), are) room =
      let next = after_destination structs (New name k) scope in
      let m = more_words structs all ds next in
      subst (λ s. AreThere many (s ∷ spots)) (sym is) (omega (arith, m, room, counted_words structs all k), spots_there ds types spots next ns many (placed_new structs all scope ns name k p) are room)
  spots_there (Into name at ∷ ds) (kind ∷ types) (spot ∷ spots) scope ns many p ((x, found, held, same, is), are) room =
      let m = more_words structs all ds scope in
      let inside = held_within structs (known x.kind) at.from at.kind held in
      let below = found_below structs 0 scope.variables scope.words name x p.rising found in
      subst (λ s. AreThere many (s ∷ spots)) (sym is) (omega (arith, m, room, inside, below.1), spots_there ds types spots scope ns many p are room)

  -- values that nothing takes are left
  pub stored_kept : (ds : List Destination) (types : List ValueType) (spots : List Spot) (vs others : List Value) (scope : Scope) (blocks : Blocks) → AreSpots structs all scope ds types spots → AreLike structs types vs → all_stored structs ds (vs ++ others) blocks ≡ all_stored structs ds vs blocks
  stored_kept [] types spots vs others scope blocks are like = refl
  stored_kept (d ∷ ds) [] spots vs others scope blocks are like = absurd are
  stored_kept (d ∷ ds) (kind ∷ types) [] vs others scope blocks are like = absurd are
  stored_kept (d ∷ ds) (kind ∷ types) (spot ∷ spots) [] others scope blocks are like = absurd like
  stored_kept (d ∷ ds) (kind ∷ types) (spot ∷ spots) (v ∷ vs) others scope blocks are like = stored_kept ds types spots vs others (after_destination structs d scope) (stored structs d v blocks) are.1 like.1

-- ---- the code

module _ {globals : Globals} {program : Compiled globals} {coded : Coded program} (running : Running coded) (leave again : Option ℕ) where
  open program use {code}
  open coded use {number as g, function as f, there}
  open running use {context.{callers}}

  abbrev Place : ℕ → Words → Words → CodeFrames
  Place place ls stack = frames code g f there callers place ls stack

  abbrev pub Assigns : List Spot → ℕ → Option ℕ → Type 0
  Assigns spots place mid = On code.selects f.instrs leave again (assigns spots Skip) place mid

  -- to the pc where the clock ticks
  abbrev pub ToTick : ℕ → Words → Words → Words → Option ℕ → Type 0
  ToTick place ls stack ms mid = (to : ℕ) × Slips (code_next code) (Place place ls stack) (Place to ms []) × At f.instrs to instrs.Tick × Leads f.instrs (to + 1) mid

  pub assigned_goes : (spots : List Spot) (ws ls : Words) (place : ℕ) (mid : Option ℕ) → all_words spots ≡ length ws → AreThere (length f.locals) spots → length ls ≡ length f.locals → Assigns spots place mid → ToTick place ls ws (put_forward spots ws ls) mid
  assigned_goes [] [] ls place mid e at full on = (place, here, on.0, on.1)
  assigned_goes [] (w ∷ ws) ls place mid e at full on = absurd cc
  assigned_goes (spot ∷ []) ws ls place mid e at full on =
      let e' : spot_words spot ≡ length ws = omega (arith, e) in
      let m = stores_goes running leave again spot ws [] ls (Do instrs.Tick Skip) mid place e' at full on in
      (m.0, subst (λ (x : Words). Slips (code_next code) (Place place ls ws) (Place m.0 (put_spot spot x ls) [])) (sym (take_all (spot_words spot) ws (omega (arith, e')))) m.1, m.2.0, m.2.1)
  assigned_goes (spot ∷ (other ∷ others)) ws ls place mid e at full on =
      let spots : List Spot = spot ∷ (other ∷ others) in
      let e' : all_words (last_counts (singles spots)) ≡ length ws = last_words (singles spots) ∙ singles_words spots ∙ e in
      let m = (all_goes running leave again (last_counts (singles spots)) ws [] ls (Do instrs.Tick Skip) mid place e' (last_there (length f.locals) (singles spots) (singles_there (length f.locals) spots at)) full on).0 in
      let same = stored_forward spots ws ls (subst (λ n. AreThere n spots) (sym full) at) (omega (arith, e)) in
      (m.0, subst (λ (x : Words). Slips (code_next code) (Place place ls ws) (Place m.0 x [])) same m.1, m.2.0, m.2.1)
