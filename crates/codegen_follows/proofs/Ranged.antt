-- Loops over channels: the next item is requested, and after the body the code goes back to the loop's head.
use Rattle.word.specs.Values as requests
use Rattle.bytecode.specs.declared.instr.WordKind.TheVariants as kinds
use Rattle.bytecode.specs.declared.instr.Instr.TheVariants as instrs
use Rattle.std.proofs.Common.{◌≡◌, ℕ, ◌+◌, false, List, [], ◌∷◌, ◌++◌, Option, Some, IfSome, refl, sym, ◌∙◌, subst, cond, Bool, true, None, drop, length, ap, option_map, take, slice_range, ◌≤◌, arith, map}
use Rattle.std.proofs.lemmas.List.{append-nil, map-append}
use Rattle.syntax.specs.Tree.{Statements, Block}
use Rattle.bytecode.specs.Machine.{Frames as CodeFrames, zero_of, code_next}
use Rattle.word.specs.declared.value.Word.TheVariants.{Bool as Truth, Chan}
use Rattle.type_table.specs.Containment.{Structs}
use Rattle.type_table.specs.Scopes.{Globals, last_named, later}
use Rattle.meaning.specs.Values.{Value, words_in, words_like, parted}
use Rattle.meaning.specs.Variables.{Blocks, Destination, all_stored, left, blank, value_of}
use Rattle.meaning.specs.Tasks.{Ranging, Task, Again, frame, Course, Goes, Moves, Frame, Do, Turn, Head}
use Rattle.meaning.specs.Source.{next_item, head_work, task_work, again_work}
use Rattle.plan.proofs.Words.{Words, part}
use Rattle.plan.proofs.Places.{at_once, At, Leads}
use Rattle.plan.proofs.Steps.{passes, chooses, receives, loads, turns}
use Rattle.codegen_base.proofs.Likeness.{like_long, made_like, is_bool, all_words_of, is_channel, kinds_zeros}
use Rattle.codegen_base.proofs.Seen.{Like, seen_one, last_split, wide}
use Rattle.codegen_follows.proofs.Stands.{Around, View, variables, Together, RangingAt, Sits, item_view, Doing, Does, Items, LeadsOn, scope_of}
use Rattle.codegen_follows.proofs.Begun.{inner_opened, seen_opened}
use Rattle.codegen_base.proofs.Running.{Compiled, Coded}
use Rattle.codegen_follows.proofs.Simulated.{Simulated, Held, Rest, blocks_of, at, Works, Reaches, reaches_after, works_after, slides, standing, moves, Comes}
use Rattle.meaning.specs.Worked.{Worked, ready, Asking, and_then}
use Rattle.codegen_follows.proofs.Taken.{comes_of, assigned_comes}
use Rattle.codegen_follows.proofs.Stored.{kept_goes}
use Rattle.codegen_follows.proofs.Follows.{lands_same, lands, held_inner, sits_here, point_at}
use Rattle.codegen_base.proofs.Storing.{drops_goes}
use Rattle.plan.specs.Plan.{Skip}
use Rattle.codegen_base.proofs.Told.{told_goes as told_lays, Lay}
use Rattle.codegen_base.proofs.Gave.{bind as follows_then}
use Rattle.codegen_follows.proofs.Names.{own_block}
use Rattle.meaning.specs.Expressions.{told, channel_in, word_in}
use Rattle.type_table.specs.Zeros.{zero_words}
use Rattle.codegen_base.proofs.Static.{innermost_begins, found_like}
use Rattle.type_table.specs.Types.{BoolType}
use Rattle.codegen_follows.proofs.Unwound.{inner_left}
use Rattle.word.specs.Related.{here, Slips}
use Rattle.codegen_base.proofs.Evaluates.{range_part}
use Rattle.bytecode.specs.Effects.{shape_kinds}

module _ {globals : Globals} {program : Compiled globals} {coded : Coded program} (simulated : Simulated coded) where
  open program use {elements, code, wide as all}
  open coded use {function as f, number as g, there, result}
  open simulated use {running, running.{context, context.{callers as ds}}, fine_following, sitting}

  abbrev structs : Structs
  structs = globals.structs

  abbrev S : View → Around → Option ℕ → List Task → Type 0
  S view l place tasks = Sits coded view l place tasks

  abbrev H : Words → View → Type 0
  H ls view = Held coded ls view

  abbrev Works' : Worked Course → CodeFrames → Type 0
  Works' work c = Works simulated work c

  abbrev Reaches' : Frame → CodeFrames → Type 0
  Reaches' top c = Reaches simulated top c

  abbrev place_at : ℕ → Words → Words → CodeFrames
  place_at place ls stack = at simulated place ls stack

  abbrev blocks : Words → View → Blocks
  blocks ls view = blocks_of coded ls view

  abbrev Ranges : Around → View → List Destination → Value → Statements → ℕ → Option ℕ → Type 0
  Ranges l view destinations zero body head out = RangingAt coded l view destinations zero body head out

  -- ---- an item

  module _ (ls : Words) (view next : View) (l : Around) (destinations : List Destination) (zero : Value) (body : Statements) (head : ℕ) (mid : Option ℕ) (k : List Task) (h : H ls view) (d : Ranges l view destinations zero body head mid) (t : Together view next) (same : variables next ≡ variables view) (r : Rest coded next l mid k) where
    abbrev inner : Around
    inner = record { leave = mid; again = d.again }

    abbrev item : View
    item = item_view coded view d.checked

    abbrev tail : List Task
    tail = Do (Block body) ∷ (Again (Ranging destinations zero body) ∷ k)

    abbrev held : H ls item
    held = record { holding = h.holding; full = h.full }

    again_place : (o : Option ℕ) → IfSome o (λ p. o ≡ Some p)
    again_place None = tt
    again_place (Some p) = refl

    leads_self : (o : Option ℕ) → LeadsOn coded o o
    leads_self None = tt
    leads_self (Some p) = at_once

    doing : (o : Option ℕ) → IfSome o (λ p. Doing coded inner d.next (Block body) p d.again) → IfSome o (λ p. Does coded inner d.next (Do (Block body)) d.next p d.again)
    doing None x = tt
    doing (Some p) x = (x, refl)

    tail_sits : S d.next inner d.mid tail
    tail_sits = (
      d.next,
      (refl, refl),
      d.again,
      doing d.mid d.goes,
      d.again,
      leads_self d.again,
      (view, inner_opened coded view d.next d.together, l, next, t, same, head, mid, refl, (d, refl), again_place d.again, r.0, r.1, r.2),
    )

    abbrev comes : Bool → Value → Course
    comes b v = next_item globals (blocks ls view) k destinations zero body (v ∷ (Truth b ∷ []) ∷ [])

    false_goes : (v : Value) → Like structs d.kind v → Works' (ready (Goes (frame (blocks ls view) k))) (place_at d.exit ls v)
    false_goes v like =
        let m = drops_goes running l.leave l.again (words_in structs d.kind) v [] ls Skip mid d.exit (sym (like_long structs d.kind v like)) d.ends in
        slides simulated (frame (blocks ls view) k) (place_at d.exit ls v) (reaches_after simulated (frame (blocks ls view) k) (place_at d.exit ls v) (place_at m.0 ls []) m.1 (lands_same simulated ls view next l m.0 mid k h same t.0 m.2 r))

    item_goes : (to : List Destination) → Items coded inner item d.kind to d.next (d.check + 1) d.mid → (v : Value) → Like structs d.kind v
        → Works' (ready (comes_of simulated (blocks ls item) tail to (v ∷ (Truth true ∷ []) ∷ []))) (place_at (d.check + 1) ls v)
    item_goes [] (on, stay) v like =
        let m = drops_goes running inner.leave inner.again (words_in structs d.kind) v [] ls Skip d.mid (d.check + 1) (sym (like_long structs d.kind v like)) on in
        slides simulated (frame (blocks ls item) tail) (place_at (d.check + 1) ls v) (reaches_after simulated (frame (blocks ls item) tail) (place_at (d.check + 1) ls v) (place_at m.0 ls []) m.1
        (lands_same simulated ls item d.next inner m.0 d.mid tail held stay d.together.0 m.2 (d.mid, leads_self d.mid, tail_sits)))
    item_goes (first ∷ more) (other, zeros-are, assigning) v like =
        subst (λ (x : Words). Works' (ready (Moves (frame (all_stored structs (first ∷ more) (v ∷ (Truth true ∷ []) ∷ []) (blocks ls item)) tail))) (place_at (d.check + 1) ls x)) (append-nil (v ++ []) ∙ append-nil v)
        (kept_goes simulated ls item d.next inner (first ∷ more) (other ∷ []) (v ∷ []) ((Truth true ∷ []) ∷ []) (d.check + 1) d.mid tail held assigning (subst (λ (z : Value). words_like z v ≡ v) zeros-are like, tt) d.together.0 (d.mid, leads_self d.mid, tail_sits))

    chosen_goes : (v : Value) → Like structs d.kind v → (b : Bool) → Works' (ready (comes b v)) (place_at (cond b (d.check + 1) d.exit) ls v)
    chosen_goes v like true = subst (λ c. Works' (ready c) (place_at (d.check + 1) ls v)) (assigned_comes simulated (blocks ls view) k destinations (v ∷ (Truth true ∷ []) ∷ []) tail)
        (subst (λ b. Works' (ready (comes_of simulated b tail destinations (v ∷ (Truth true ∷ []) ∷ []))) (place_at (d.check + 1) ls v)) (seen_opened coded ls view) (item_goes destinations d.item v like))
    chosen_goes v like false = false_goes v like

    -- an item, and whether it was sent
    told_goes : (v : Value) → Like structs d.kind v → (b : Bool) (to : ℕ) → Leads f.instrs to (Some d.check) → Works' (ready (comes b v)) (place_at to ls (v ++ Truth b ∷ []))
    told_goes v like b to lead =
        works_after simulated (ready (comes b v)) (place_at to ls (v ++ Truth b ∷ [])) (place_at d.check ls (v ++ Truth b ∷ [])) (passes code g f there ds to d.check ls (v ++ Truth b ∷ []) lead)
        (works_after simulated (ready (comes b v)) (place_at d.check ls (v ++ Truth b ∷ [])) (place_at (cond b (d.check + 1) d.exit) ls v) (chooses code g f there ds d.check d.exit ls v b d.unless) (chosen_goes v like b))

    abbrev zeros : List Value
    zeros = zero ∷ (Truth false ∷ []) ∷ []

    -- the values that were received
    parted_goes : (ws : Words) (to : ℕ) → Leads f.instrs to (Some d.check) → Works' (ready (next_item globals (blocks ls view) k destinations zero body (parted zeros ws))) (place_at to ls (all_words_of (parted zeros ws)))
    parted_goes ws to lead =
        let v = words_like zero ws in
        let o = words_like (Truth false ∷ []) (drop (length zero) ws) in
        let like : Like structs d.kind v = subst (λ (z : Value). words_like (zero_words structs d.kind) (words_like z ws) ≡ words_like z ws) (sym d.zero_is) (made_like structs d.kind ws) in
        let b = is_bool structs o (made_like structs BoolType (drop (length zero) ws)) in
        subst (λ (x : Value). Works' (ready (next_item globals (blocks ls view) k destinations zero body (v ∷ x ∷ []))) (place_at to ls (v ++ (x ++ [])))) (sym b.1) (told_goes v like b.0 to lead)

    -- the next item is requested
    pub next_goes : Works' (head_work globals (blocks ls view) k (Ranging destinations zero body)) (place_at head ls [])
    next_goes =
        let v = d.channel in
        let n = innermost_begins view.begins in
        let own = own_block structs ls (variables view) view.begins blank ∙ ap (option_map (seen_one structs ls)) d.channel_is in
        let found : last_named (variables view) blank ≡ Some v = last_split structs n (variables view) blank ∙ ap (later (last_named (take n (variables view)) blank)) d.channel_is in
        let whole = part v.place (wide structs v) ls in
        let like = subst (λ kind. Like structs kind whole) d.carries (found_like structs ls (variables view) blank v h.holding found) in
        let c = is_channel structs d.direction d.kind whole like in
        let single : wide structs v ≡ 1 = ap (words_in structs) d.carries in
        let loaded : slice_range ls v.place (v.place + 1) ≡ Chan c.0 ∷ [] = range_part v.place 1 ls ∙ ap (λ m. part v.place m ls) (sym single) ∙ c.1 in
        let within : v.place + 1 ≤ length ls = (let a = d.below in let b = d.room in let full = h.full in omega (arith, a, b, full)) in
        let room : (scope_of view).words ≤ length ls = (let b = d.room in let full = h.full in omega (arith, b, full)) in
        let zero-is : map zero_of (shape_kinds code d.shape) ≡ zero = ap (map zero_of) d.shape_is ∙ kinds_zeros structs elements d.kind ∙ sym d.zero_is in
        let gives-are : map zero_of (shape_kinds code d.shape ++ kinds.Bool ∷ []) ≡ zero ++ Truth false ∷ [] = map-append zero_of (shape_kinds code d.shape) (kinds.Bool ∷ []) ∙ ap (λ (z : Words). z ++ Truth false ∷ []) zero-is in
        let pt = standing (point_at simulated ls l view d.fine room h) in
        let q = requests.Receive c.0 in
        let go : List Value → Worked Course = λ got. ready (next_item globals (blocks ls view) k destinations zero body got) in
        subst (λ (x : Option ℕ). Works' (and_then (told zeros (Asking (requests.Receive x))) go) (place_at head ls [])) (sym (ap (λ o. channel_in (word_in (value_of o))) own ∙ ap (λ (x : Value). channel_in (word_in x)) c.1))
        (works_after simulated (and_then (told zeros (Asking q)) go) (place_at head ls []) (place_at (head + 1) ls (Chan c.0 ∷ [])) (subst (λ (x : Words). Slips (code_next code) (place_at head ls []) (place_at (head + 1) ls x)) loaded (loads code g f there ds head ls [] v.place 1 d.loads within))
        (follows_then context (told zeros (Asking q)) go (Lay pt zeros Skip (Some d.check) []) (Comes simulated) (place_at (head + 1) ls (Chan c.0 ∷ []))
        (told_lays pt zeros q (instrs.Receive d.shape) (Chan c.0 ∷ []) Skip (Some d.check) (head + 1) [] d.receives refl refl (receives code g f there ds (head + 1) ls [] d.shape c.0 d.receives) gives-are (running.calm q (place_at (head + 1) ls (Chan c.0 ∷ [])) tt) d.checks)
        (λ got e lay. subst (λ (x : List Value). Works' (go x) e) (sym lay.2) (subst (λ x. Works' (go (parted zeros lay.1)) x) (sym (lay.3 ∙ ap (λ (x : List Value). place_at lay.0 ls (all_words_of x)) lay.2)) (parted_goes lay.1 lay.0 lay.4)))))

    -- after the body of a loop over a channel the code goes back to the loop's head
    pub round_goes : (place : ℕ) → At f.instrs place (instrs.Loop head) → Works' (task_work globals (blocks ls view) k (Turn (Ranging destinations zero body))) (place_at place ls [])
    round_goes place i =
        moves simulated (blocks ls view) (Head (Ranging destinations zero body) ∷ k) (place_at place ls []) (place_at place ls []) (place_at head ls []) here (turns code g f there ds place head ls [] i)
        (sits_here simulated view l head ls (Head (Ranging destinations zero body) ∷ k) h (next, t, mid, (d, same), r.0, r.1, r.2))

  -- the block of an item ends
  pub item_ends : (ls : Words) (view : View) (l : Around) (destinations : List Destination) (zero : Value) (body : Statements) (place : ℕ) (k : List Task) → H ls view → S view l (Some place) (Again (Ranging destinations zero body) ∷ k)
      → Works' (again_work globals (blocks ls view) k (Ranging destinations zero body)) (place_at place ls [])
  item_ends ls view l destinations zero body place k h (outer, inner, around, next, t, same, head, out, leave, (d, again-is), is, to, lead, sits) =
      let tail = Turn (Ranging destinations zero body) ∷ k in
      let m = subst (λ o. IfSome o (λ m. (turn : ℕ) × Leads f.instrs m (Some turn) × At f.instrs turn (instrs.Loop head))) (again-is ∙ is) d.turns in
      slides simulated (frame (left (blocks ls view)) tail) (place_at place ls [])
      (subst (λ b. Reaches' (frame b tail) (place_at place ls [])) (sym (inner_left structs ls outer view inner))
      (lands simulated ls outer around place (Some m.0) tail (held_inner simulated ls outer view inner h) m.1 (next, t, out, (head, m.2, d, same), to, lead, sits)))
