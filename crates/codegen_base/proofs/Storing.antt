-- The code that stores values puts them where they go.
use Rattle.std.proofs.Common.{◌≡◌, ℕ, zero, suc, ◌+◌, List, [], ◌∷◌, ◌++◌, length, take, drop, Option, sym, ap, ◌∙◌, subst, arith, append_assoc, length-take, length-drop, pos, false, map, slice_get, Some}
use Rattle.std.proofs.lemmas.List.{append-nil, take-append-drop}
use Rattle.bytecode.specs.Machine.{Frames, code_next, zero_of}
use Rattle.bytecode.specs.declared.instr.WordKind.{WordKind}
use Rattle.bytecode.specs.declared.instr.WordKind.TheVariants as kinds
use Rattle.word.specs.Related.{Slips, here}
use Rattle.codegen_base.specs.Pushes.{drops, pushes_zeros, zero_instr}
use Rattle.codegen_base.specs.Statements.{Spot, Dropped, Local, stores, stores_all}
use Rattle.plan.specs.Plan.{Plan}
use Rattle.plan.proofs.Words.{Words, put_length}
use Rattle.plan.proofs.Places.{On}
use Rattle.plan.proofs.Steps.{spots as frames, slips_more, discards, stores as stores_words, pushes_int, pushes_bool, pushes_nil}
use Rattle.codegen_base.proofs.Stores.{spot_words, put_spot, put_backward, all_words, AreThere}
use Rattle.codegen_base.proofs.Running.{Compiled, Coded, Running}
use Rattle.type_table.specs.Scopes.{Globals}

module _ {globals : Globals} {program : Compiled globals} {coded : Coded program} (running : Running coded) (leave again : Option ℕ) where
  open program use {code}
  open coded use {number as g, function as f, there}
  open running use {context.{callers}}

  abbrev Place : ℕ → Words → Words → Frames
  Place place ls stack = frames code g f there callers place ls stack

  abbrev Stands : Plan → ℕ → Option ℕ → Type 0
  Stands plan place out = On code.selects f.instrs leave again plan place out

  -- the code leads on, with other locals and another stack, to the pc of what follows
  abbrev pub Leads : ℕ → Words → Words → Words → Words → Plan → Option ℕ → Type 0
  Leads place ls stack ms rest-stack rest out = (to : ℕ) × Slips (code_next code) (Place place ls stack) (Place to ms rest-stack) × Stands rest to out

  -- zeros are pushed
  pub zeros_push : (ks : List WordKind) (ls : Words) (rest : Plan) (out : Option ℕ) (place : ℕ) (stack : Words) → Stands (pushes_zeros ks rest) place out → Leads place ls stack ls (stack ++ map zero_of ks) rest out
  zeros_push [] ls rest out place stack on = (place, subst (λ (s : Words). Slips (code_next code) (Place place ls stack) (Place place ls s)) (sym (append-nil stack)) here, on)
  zeros_push (k ∷ ks) ls rest out place stack on =
      let more = zeros_push ks ls rest out (place + 1) (stack ++ zero_of k ∷ []) on.1 in (
        more.0,
        slips_more (code_next code) (Place place ls stack) (Place (place + 1) ls (stack ++ zero_of k ∷ [])) (Place more.0 ls (stack ++ map zero_of (k ∷ ks))) (one k on.0)
            (subst (λ (s : Words). Slips (code_next code) (Place (place + 1) ls (stack ++ zero_of k ∷ [])) (Place more.0 ls s)) (append_assoc stack (zero_of k ∷ []) (map zero_of ks)) more.1),
        more.2,
      ) where
        one : (k : WordKind) → slice_get f.instrs place ≡ Some (zero_instr k) → Slips (code_next code) (Place place ls stack) (Place (place + 1) ls (stack ++ zero_of k ∷ []))
        one kinds.Int is = pushes_int code g f there callers place ls stack (pos 0) is
        one kinds.Bool is = pushes_bool code g f there callers place ls stack false is
        one (kinds.Chan s) is = pushes_nil code g f there callers place ls stack s is

  pub drops_goes : (n : ℕ) (ws base ls : Words) (rest : Plan) (out : Option ℕ) (place : ℕ) → n ≡ length ws → Stands (drops n rest) place out → Leads place ls (base ++ ws) ls base rest out
  drops_goes zero [] base ls rest out place e on = (place, subst (λ (s : Words). Slips (code_next code) (Place place ls s) (Place place ls base)) (sym (append-nil base)) here, on)
  drops_goes zero (w ∷ ws) base ls rest out place e on = absurd cc
  drops_goes (suc n) ws base ls rest out place e on = (place + 1, discards code g f there callers place ls base ws (suc n) on.0 e, on.1)

  -- one value
  pub stores_goes : (spot : Spot) (ws base ls : Words) (rest : Plan) (out : Option ℕ) (place : ℕ) → spot_words spot ≡ length ws → AreThere (length f.locals) (spot ∷ []) → length ls ≡ length f.locals → Stands (stores spot rest) place out
      → Leads place ls (base ++ ws) (put_spot spot ws ls) base rest out
  stores_goes (Dropped n) ws base ls rest out place e at full on = drops_goes n ws base ls rest out place e on
  stores_goes (Local p n) ws base ls rest out place e at full on = (place + 1, stores_words code g f there callers place ls base ws p n on.0 (sym e) at.0 full, on.1)

  one_there : (spot : Spot) (spots : List Spot) → AreThere (length f.locals) (spot ∷ spots) → AreThere (length f.locals) (spot ∷ []) × AreThere (length f.locals) spots
  one_there (Dropped n) spots at = (tt, at)
  one_there (Local p n) spots at = ((at.0, tt), at.1)

  put_full : (spot : Spot) (ws ls : Words) → spot_words spot ≡ length ws → AreThere (length f.locals) (spot ∷ []) → length ls ≡ length f.locals → length (put_spot spot ws ls) ≡ length f.locals
  put_full (Dropped n) ws ls e at full = full
  put_full (Local p n) ws ls e at full = put_length p ws ls (let le = at.0 in omega (arith, le, e, full)) ∙ full

  -- several, the last one first
  pub all_goes : (spots : List Spot) (ws base ls : Words) (rest : Plan) (out : Option ℕ) (place : ℕ) → all_words spots ≡ length ws → AreThere (length f.locals) spots → length ls ≡ length f.locals → Stands (stores_all spots rest) place out
      → Leads place ls (base ++ ws) (put_backward spots ws ls) base rest out × (length (put_backward spots ws ls) ≡ length f.locals)
  all_goes [] [] base ls rest out place e at full on = ((place, subst (λ (s : Words). Slips (code_next code) (Place place ls s) (Place place ls base)) (sym (append-nil base)) here, on), full)
  all_goes [] (w ∷ ws) base ls rest out place e at full on = absurd cc
  all_goes (spot ∷ spots) ws base ls rest out place e at full on =
      let n = spot_words spot in
      let first : n ≡ length (take n ws) = omega (arith, length-take n ws, e) in
      let left : all_words spots ≡ length (drop n ws) = omega (arith, length-drop n ws, e) in
      let s = one_there spot spots at in
      let (lead, long) = all_goes spots (drop n ws) (base ++ take n ws) ls (stores spot rest) out place left s.1 full on in
      let one = stores_goes spot (take n ws) base (put_backward spots (drop n ws) ls) rest out lead.0 first s.0 long lead.2 in
      let parts : (base ++ take n ws) ++ drop n ws ≡ base ++ ws = append_assoc base (take n ws) (drop n ws) ∙ ap (λ (l : Words). base ++ l) (take-append-drop n ws) in (
        (one.0, slips_more (code_next code) _ _ _ (subst (λ (x : Words). Slips (code_next code) (Place place ls x) (Place lead.0 (put_backward spots (drop n ws) ls) (base ++ take n ws))) parts lead.1) one.1, one.2),
        put_full spot (take n ws) (put_backward spots (drop n ws) ls) first s.0 long,
      )
