-- What a select requests, and where it continues.
use Rattle.std.proofs.Common.{◌≡◌, ℕ, zero, suc, ◌+◌, List, [], ◌∷◌, ◌++◌, length, Option, Some, refl, ap, ◌∙◌, subst, slice_get}
use Rattle.std.proofs.lemmas.Option.{same_Some}
use Rattle.std.specs.Option.{is_some}
use Rattle.bytecode.specs.declared.instr.Instr.{Instr}
use Rattle.bytecode.specs.declared.instr.Instr.TheVariants as instrs
use Rattle.bytecode.specs.Code.{Function, SelectTable, Code}
use Rattle.bytecode.specs.Effects.{leaves, targets, targets_in}
use Rattle.bytecode.specs.Machine.{Frames, fetch, pops, code_next, code_answer, told_in, went, way_of, choice, reply_words, fitted, if_there, cases_of}
use Rattle.word.specs.declared.request.Case.{Case}
use Rattle.word.specs.declared.value.Word.{Word}
use Rattle.word.specs.Values.{Reply, Select}
use Rattle.word.specs.Kinds.{Asks}
use Rattle.plan.specs.Plan.{Plan, Way, LastWay, jump_size, size, starts}
use Rattle.plan.proofs.Places.{On}
use Rattle.plan.proofs.Steps.{spot, spots, step, fetched, below_of}

-- the bodies of the ways of a select
abbrev pub bodies : Plan → List Plan
bodies (Way ks body others) = body ∷ bodies others
bodies (LastWay ks body) = body ∷ []
bodies plan = []

-- each way's body is at the pc at which the way begins, and leads to where all of them lead
pub way_on : (selects : List SelectTable) (is : List Instr) (leave again out : Option ℕ) (ways : Plan) (place : ℕ) → On selects is leave again ways place out → (k to : ℕ) → slice_get (starts place ways) k ≡ Some to
    → (body : Plan) × (slice_get (bodies ways) k ≡ Some body) × On selects is leave again body to out
way_on selects is leave again out (Way ks body others) place on zero to at = (body, refl, subst (λ n. On selects is leave again body n out) (same_Some place to at) on.0)
way_on selects is leave again out (Way ks body others) place on (suc k) to at = way_on selects is leave again out others (place + size body + jump_size body) on.1 k to at
way_on selects is leave again out (LastWay ks body) place on zero to at = (body, refl, subst (λ n. On selects is leave again body n out) (same_Some place to at) on)
way_on selects is leave again out plan place on k to at = absurd cc

module _ (code : Code) (g : ℕ) (f : Function) (there : slice_get code.functions g ≡ Some f) (callers : Frames) where
  pub select_asks : (q place : ℕ) (locals low xs : List Word) (table : SelectTable) (cases : List Case) → slice_get f.instrs place ≡ Some (instrs.Select q) → pops code f (instrs.Select q) ≡ length xs → slice_get code.selects q ≡ Some table → cases_of code table.clauses xs ≡ Some cases
      → code_next code (spots code g f there callers place locals (low ++ xs)) ≡ Asks (Select cases (is_some table.default))
  select_asks q place locals low xs table cases at n is cs =
      step code g f there callers place locals low xs (instrs.Select q) at n
      ∙ ap (λ o. if_there o (λ t. if_there (cases_of code t.clauses xs) (λ c. Asks (Select c (is_some t.default))))) is
      ∙ ap (λ o. if_there o (λ c. Asks (Select c (is_some table.default)))) cs

  -- it continues where the chosen way begins, with the words of the reply
  pub select_answer : (q place : ℕ) (locals low xs : List Word) (table : SelectTable) (reply : Reply) (n to : ℕ) → slice_get f.instrs place ≡ Some (instrs.Select q) → pops code f (instrs.Select q) ≡ length xs → slice_get code.selects q ≡ Some table
      → way_of (Some table) (choice reply) ≡ n → slice_get (targets table) n ≡ Some to
      → code_answer code (spots code g f there callers place locals (low ++ xs)) reply ≡ record { function = g; place = to; locals = locals; stack = low; told = fitted (leaves code f (instrs.Select q) n []) (reply_words reply) } ∷ callers
  select_answer q place locals low xs table reply n to at many is way leads =
      let c = spot code g f there callers place locals (low ++ xs) in
      let i = instrs.Select q in
      let ws = reply_words reply in
      ap (λ o. told_in code c (choice reply) ws o (fetch code g place) ∷ callers) there
      ∙ ap (λ o. told_in code c (choice reply) ws (Some f) o ∷ callers) (fetched code g f there callers place i at)
      ∙ ap (λ o. went code c ws f i (way_of o (choice reply)) (slice_get (targets_in o) (way_of o (choice reply))) ∷ callers) is
      ∙ ap (λ m. went code c ws f i m (slice_get (targets table) m) ∷ callers) way
      ∙ ap (λ o. went code c ws f i n o ∷ callers) leads
      ∙ ap (λ (l : List Word). record { function = g; place = to; locals = locals; stack = l; told = fitted (leaves code f i n []) ws } ∷ callers) (below_of low xs (pops code f i) many)
