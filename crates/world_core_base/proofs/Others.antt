-- Who is awake, and is not the one whose request is performed, stays as it is.
use Rattle.std.proofs.Common.{◌≡◌, ◌≢◌, ℕ, List, [], ◌∷◌, ◌++◌, map, Option, Some, None, refl, sym, ap, ◌∙◌, get_or-set_other, get_or-set_same}
use Rattle.std.specs.Prelude.{IsSome, ◌+◌, option_map, slice_index_or, slice_set}
use Rattle.std.specs.Option.{is_some}
use Rattle.std.proofs.lemmas.List.{get_or_append_left}
use Rattle.bytecode.specs.Code.{Code}
use Rattle.bytecode.specs.Machine.{Frames, code_kind}
use Rattle.turn_rule.specs.declared.Row.{Row}
use Rattle.turn_rule.specs.Schedule.{changed_rows, perform_row, row_of}
use Rattle.word.specs.Kinds.{asks, told}
use Rattle.word.specs.Requests.{Deed, act, meant}
use Rattle.word.specs.Values.{Reply, Request, Sleeper}
use Rattle.word.specs.Worlds.{Bed, actor_after, begun_at, in_bed, performs, rules, woken_by}
use Rattle.word.proofs.Fair.{AllWake, IsApart, fair}
use Rattle.word.proofs.Found.{In}
use Rattle.world_core_base.specs.Cores.{CodeMachine, shared_of}
use Rattle.awake_rows.specs.Slots.{IsFreeIn, State, Rows, free_row}
use Rattle.world_core_base.proofs.Performing.{there}

-- whoever is woken was asleep
awake_apart : (ss : List Sleeper) (ws : List (ℕ × Reply)) (k : ℕ) → ((y : Sleeper) → In y ss → k ≢ y.number) → AllWake ss ws → IsApart k ws
awake_apart ss [] k awake woken = tt
awake_apart ss (w ∷ ws) k awake woken =
    let y = woken.0.0 in
    ((λ e. awake y woken.0.1 (e ∙ sym woken.0.2)), awake_apart ss ws k awake woken.1)

module _ (code : Code) (limit : ℕ) where
  woken_other : (beds : List (Bed Frames)) (clock : ℕ) (ws : List (ℕ × Reply)) (rows : Rows) (k : ℕ) → IsApart k ws
      → slice_index_or (changed_rows (rules (code_kind code) limit) rows (woken_by (code_kind code) limit beds clock ws)) k None ≡ slice_index_or rows k None
  woken_other beds clock [] rows k apart = refl
  woken_other beds clock (w ∷ ws) rows k apart =
      let row : Option (Row State) = option_map (row_of (rules (code_kind code) limit)) (option_map (λ (t : State). told (code_kind code) t clock w.1) (in_bed w.0 beds)) in
      woken_other beds clock ws (slice_set rows w.0 row) k apart.1 ∙ get_or-set_other rows w.0 k row None apart.0

  asked_other : (m : CodeMachine) (n k : ℕ) (s : State) (other : Row State) (o : Option Request) → slice_index_or m.rows k None ≡ Some other → k ≢ n → ((y : Sleeper) → In y (shared_of m).asleep → k ≢ y.number)
      → (let e = performs (code_kind code) limit m.shared n s o in slice_index_or (changed_rows (rules (code_kind code) limit) m.rows e.changes ++ map (λ (t : State). Some (row_of (rules (code_kind code) limit) t)) e.started) k None ≡ Some other)
  asked_other m n k s other None here ne awake = get_or_append_left m.rows [] None k (there m.rows k other here) ∙ here
  asked_other m n k s other (Some q) here ne awake =
      let r = rules (code_kind code) limit in
      let p = meant (shared_of m) n q in
      let d : Deed = act (shared_of m) n s.clock p p in
      let actor : Option (Row State) = option_map (row_of r) (actor_after (code_kind code) limit (s.clock + 1) s d.fate) in
      let rows : Rows = changed_rows r (slice_set m.rows n actor) (woken_by (code_kind code) limit m.shared.beds (s.clock + 1) d.woken) in
      let apart = awake_apart (shared_of m).asleep d.woken k awake (fair (shared_of m) n s.clock p).woken in
      let stays : slice_index_or rows k None ≡ Some other = woken_other m.shared.beds (s.clock + 1) d.woken (slice_set m.rows n actor) k apart ∙ get_or-set_other m.rows n k actor None ne ∙ here in
      get_or_append_left rows (map (λ (t : State). Some (row_of r t)) (begun_at (code_kind code) limit (s.clock + 1) d.started)) None k (there rows k other stays) ∙ stays

  pub performed_other : (m : CodeMachine) (n k : ℕ) (row other : Row State) → slice_index_or m.rows n None ≡ Some row → slice_index_or m.rows k None ≡ Some other → k ≢ n → ((y : Sleeper) → In y (shared_of m).asleep → k ≢ y.number)
      → slice_index_or (perform_row (rules (code_kind code) limit) m n (slice_index_or m.rows n None)).rows k None ≡ Some other
  performed_other m n k row other actor here ne awake =
      ap (λ (o : Option (Row State)). slice_index_or (perform_row (rules (code_kind code) limit) m n o).rows k None) actor
      ∙ asked_other m n k row.state other (asks (code_kind code) limit row.state) here ne awake

-- one that was free is awake, however it is set
pub still_awake : (rows : Rows) (n : ℕ) (s : State) (row : Row State) → IsFreeIn rows n s → IsSome (slice_index_or (slice_set rows n (Some row)) n None)
still_awake rows n s row free = ap is_some (get_or-set_same rows n (Some row) None (there rows n (free_row s) free))
