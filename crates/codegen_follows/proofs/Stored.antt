-- Values that are stored: the clock ticks once, and the variables have them.
use Rattle.std.proofs.Common.{◌≡◌, ℕ, ◌+◌, List, [], Option, sym, ap, ◌∙◌, subst, arith, length, ◌++◌, refl}
use Rattle.bytecode.specs.Machine.{Frames as CodeFrames, code_next}
use Rattle.type_table.specs.Containment.{Structs}
use Rattle.type_table.specs.Scopes.{Variable, Globals}
use Rattle.meaning.specs.Values.{Value}
use Rattle.meaning.specs.Variables.{Blocks, Destination, all_stored}
use Rattle.meaning.specs.Tasks.{Task, frame, Course, Moves, Frame}
use Rattle.plan.proofs.Words.{Words}
use Rattle.plan.proofs.Steps.{ticks, slips_more}
use Rattle.codegen_base.proofs.Seen.{seen}
use Rattle.codegen_base.proofs.Assigned.{following_all, stores_forward}
use Rattle.codegen_base.proofs.Stores.{put_forward}
use Rattle.codegen_follows.proofs.Stands.{Around, View, scope_of, Sits, Assigning}
use Rattle.codegen_follows.proofs.Follows.{lead_through, lands}
use Rattle.codegen_follows.proofs.Spots.{spots_words, spots_there, stored_kept, assigned_goes}
use Rattle.codegen_base.proofs.Running.{Compiled, Coded}
use Rattle.codegen_follows.proofs.Simulated.{Simulated, Held, Rest, blocks_of, at, Works, Reaches, moves}
use Rattle.meaning.specs.Worked.{Worked, ready}
use Rattle.codegen_base.proofs.Likeness.{AreLike, all_words_of}
use Rattle.codegen_base.proofs.Storing.{drops_goes}
use Rattle.codegen_base.specs.Statements.{assigns}
use Rattle.plan.specs.Plan.{Skip}
use Rattle.codegen_base.proofs.Static.{Holding}
use Rattle.type_table.specs.Types.{ValueType}
use Rattle.std.proofs.lemmas.List.{append-nil}

module _ {globals : Globals} {program : Compiled globals} {coded : Coded program} (simulated : Simulated coded) where
  open program use {elements, code, wide as all}
  open coded use {function as f, number as g, there, result}
  open simulated use {running, running.{context, context.{callers as ds}}, fine_following, sitting}

  abbrev structs : Structs
  structs = globals.structs

  abbrev S : View → Around → Option ℕ → List Task → Type 0
  S view l place tasks = Sits coded view l place tasks

  abbrev H : Words → View → Type 0
  H ls view = Held coded ls view

  abbrev Works' : Worked Course → CodeFrames → Type 0
  Works' work c = Works simulated work c

  abbrev Reaches' : Frame → CodeFrames → Type 0
  Reaches' top c = Reaches simulated top c

  abbrev place_at : ℕ → Words → Words → CodeFrames
  place_at place ls stack = at simulated place ls stack

  abbrev blocks : Words → View → Blocks
  blocks ls view = blocks_of coded ls view

  -- values on the stack are stored, and those after them dropped
  pub stores_go : (ls : Words) (view next : View) (l : Around) (destinations : List Destination) (types : List ValueType) (kept others : List Value) (dropped place : ℕ) (mid : Option ℕ) (k : List Task) → H ls view → Assigning coded l view dropped types destinations next place mid → AreLike structs types kept
      → dropped ≡ length (all_words_of others) → next.begins ≡ view.begins → Rest coded next l mid k → Works' (ready (Moves (frame (all_stored structs destinations (kept ++ others) (blocks ls view)) k))) (place_at place ls (all_words_of kept ++ all_words_of others))
  stores_go ls view next l destinations types kept others dropped place mid k h x like many begins r =
      let ws = all_words_of kept in
      let m = drops_goes running l.leave l.again dropped (all_words_of others) ws ls (assigns x.spots Skip) mid place many x.on in
      let room = x.room in
      let full = h.full in
      let goes = assigned_goes running l.leave l.again x.spots ws ls m.0 mid (spots_words structs all destinations types x.spots kept (scope_of view) x.spots_are like)
      (spots_there structs all destinations types x.spots (scope_of view) view.begins _ x.fine.placed x.spots_are room) full m.2 in
      let ms = put_forward x.spots ws ls in
      let s = stores_forward structs all destinations types x.spots kept (scope_of view) view.begins ls x.fine.placed h.holding (omega (arith, room, full)) x.spots_are like in
      let to = goes.0 + 1 in
      let held : H ms next = record { holding = subst (Holding structs ms) (sym x.variables_are) s.holding; full = s.many ∙ full } in
      let same : blocks ms next ≡ all_stored structs destinations (kept ++ others) (blocks ls view) =
      ap (λ (vs : List Variable). seen structs ms vs next.begins) x.variables_are
      ∙ ap (seen structs ms (following_all structs all destinations (scope_of view)).variables) begins
      ∙ s.seen_is
      ∙ sym (stored_kept structs all destinations types x.spots kept others (scope_of view) (blocks ls view) x.spots_are like) in
      moves simulated (all_stored structs destinations (kept ++ others) (blocks ls view)) k (place_at place ls (ws ++ all_words_of others)) (place_at goes.0 ms []) (place_at to ms [])
      (slips_more (code_next code) (place_at place ls (ws ++ all_words_of others)) (place_at m.0 ls ws) (place_at goes.0 ms []) m.1 goes.1) (ticks code g f there ds goes.0 ms [] goes.2)
      (subst (λ b. Reaches' (frame b k) (place_at to ms [])) same (lands simulated ms next l to r.0 k held (lead_through simulated to mid r.0 goes.3 r.1) r.2))

  -- values on the stack are stored; others have no words there
  pub kept_goes : (ls : Words) (view next : View) (l : Around) (destinations : List Destination) (types : List ValueType) (kept others : List Value) (place : ℕ) (mid : Option ℕ) (k : List Task) → H ls view → Assigning coded l view 0 types destinations next place mid → AreLike structs types kept
      → next.begins ≡ view.begins → Rest coded next l mid k → Works' (ready (Moves (frame (all_stored structs destinations (kept ++ others) (blocks ls view)) k))) (place_at place ls (all_words_of kept ++ []))
  kept_goes ls view next l destinations types kept others place mid k h x like begins r =
      subst (λ b. Works' (ready (Moves (frame b k))) (place_at place ls (all_words_of kept ++ []))) (stored_kept structs all destinations types x.spots kept [] (scope_of view) (blocks ls view) x.spots_are like ∙ sym (stored_kept structs all destinations types x.spots kept others (scope_of view) (blocks ls view) x.spots_are like))
      (stores_go ls view next l destinations types kept [] 0 place mid k h x like refl begins r)

  -- as many values as there are destinations
  pub all_kept_goes : (ls : Words) (view next : View) (l : Around) (destinations : List Destination) (types : List ValueType) (vs : List Value) (place : ℕ) (mid : Option ℕ) (k : List Task) → H ls view → Assigning coded l view 0 types destinations next place mid → AreLike structs types vs
      → next.begins ≡ view.begins → Rest coded next l mid k → Works' (ready (Moves (frame (all_stored structs destinations vs (blocks ls view)) k))) (place_at place ls (all_words_of vs))
  all_kept_goes ls view next l destinations types vs place mid k h x like begins r =
      subst (λ (x : Words). Works' (ready (Moves (frame (all_stored structs destinations vs (blocks ls view)) k))) (place_at place ls x)) (append-nil (all_words_of vs))
      (subst (λ (x : List Value). Works' (ready (Moves (frame (all_stored structs destinations x (blocks ls view)) k))) (place_at place ls (all_words_of vs ++ []))) (append-nil vs)
      (kept_goes ls view next l destinations types vs [] place mid k h x like begins r))
