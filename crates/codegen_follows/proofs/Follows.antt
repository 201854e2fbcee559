-- Blocks, ifs and loops: the code does what the source does.
use Rattle.std.proofs.Common.{◌≡◌, ℕ, ◌+◌, ◌≤◌, Bool, true, false, List, [], ◌∷◌, ◌++◌, length, take, Option, Some, None, IfSome, refl, sym, ap, ◌∙◌, subst, arith}
use Rattle.std.specs.Prelude.{if◌then◌else◌}
use Rattle.syntax.specs.Tree.{Expression, Simple, Empty, Alone, Block, If, Statements, Branch, Conditional, Otherwise, NoElse, ElseBlock, ElseIf}
use Rattle.bytecode.specs.declared.instr.Instr.TheVariants as instrs
use Rattle.bytecode.specs.Machine.{Frames as CodeFrames}
use Rattle.word.specs.declared.value.Word.TheVariants.{Bool as Truth}
use Rattle.word.specs.Related.{here}
use Rattle.type_table.specs.Scopes.{entered as scope_entered, Globals}
use Rattle.typing_rules.specs.Statements.{after_all}
use Rattle.meaning.specs.Variables.{Blocks, entered, left}
use Rattle.meaning.specs.Tasks.{Repeating, Task, Do, EndBlock, Decide, Head, Again, Turn, EndSelect, Frame, frame, all_of, broken, continued, Course, Goes}
use Rattle.meaning.specs.Source.{truth_in, decides, statement_work, task_work, head_work, again_work, body_work}
use Rattle.codegen_base.specs.Generated.{Site, inside, ended, made_all, made_branch}
use Rattle.plan.specs.Plan.{Skip}
use Rattle.plan.proofs.Words.{Words}
use Rattle.plan.proofs.Places.{At, JumpsTo, at_once, Leads, jumps_through}
use Rattle.plan.proofs.Steps.{passes, chooses, turns}
use Rattle.codegen_base.proofs.Alike.{alike_left}
use Rattle.codegen_base.proofs.Seen.{seen, rising_up}
use Rattle.codegen_base.proofs.Assigned.{AllLike, holding_like, like_holding}
use Rattle.codegen_base.proofs.Static.{innermost_begins}
use Rattle.codegen_base.proofs.Static.{Holding}
use Rattle.codegen_follows.proofs.Stands.{Around, View, scope_of, variables, Together, Inner, opened, IsOn, LeadsOn, Fine, made_body, following, after_body, Doing, Deciding, Looping, post_made, Live, Sits}
use Rattle.codegen_follows.proofs.Grown.{grown_statements, grown_otherwise}
use Rattle.codegen_follows.proofs.Unwound.{Left, inner_left, broken_sits, continued_sits}
use Rattle.codegen_follows.proofs.Begun.{prints_front, prints_back, together_after, sits_all, fine_opened, inner_opened, seen_opened}
use Rattle.codegen_follows.proofs.Valued.{test_goes}
use Rattle.codegen_base.proofs.Running.{Compiled, Coded}
use Rattle.codegen_follows.proofs.Simulated.{Simulated, Held, Rest, blocks_of, at, Comes, Works, Reaches, reaches_after, works_after, slides, moves, Point}
use Rattle.meaning.specs.Worked.{Worked, ready}

module _ {globals : Globals} {program : Compiled globals} {coded : Coded program} (simulated : Simulated coded) where
  open program use {elements, code}
  open coded use {function as f, number as g, there, result}
  open simulated use {running.{context, context.{callers as ds}}, fine_following, sitting, Sat}

  abbrev S : View → Around → Option ℕ → List Task → Type 0
  S view l place tasks = Sits coded view l place tasks

  abbrev H : Words → View → Type 0
  H ls view = Held coded ls view

  abbrev Works' : Worked Course → CodeFrames → Type 0
  Works' work c = Works simulated work c

  abbrev Reaches' : Frame → CodeFrames → Type 0
  Reaches' top c = Reaches simulated top c

  abbrev place_at : ℕ → Words → Words → CodeFrames
  place_at place ls stack = at simulated place ls stack

  abbrev blocks : Words → View → Blocks
  blocks ls view = blocks_of coded ls view

  -- ---- what is held

  pub held_same : (ls : Words) (view next : View) → variables next ≡ variables view → H ls view → H ls next
  held_same ls view next same h = record { holding = subst (Holding globals.structs ls) (sym same) h.holding; full = h.full }

  pub held_inner : (ls : Words) (outer view : View) → Inner outer view → H ls view → H ls outer
  held_inner ls outer view i h =
      record {
        holding = like_holding globals.structs ls (variables outer) outer.begins
            (subst (λ vs. AllLike globals.structs (seen globals.structs ls vs outer.begins)) i.within (holding_like globals.structs ls (variables view) (i.begin ∷ outer.begins) h.holding).1);
        full = h.full;
      }

  pub blocks_same : (ls : Words) (view next : View) → variables next ≡ variables view → next.begins ≡ view.begins → blocks ls next ≡ blocks ls view
  blocks_same ls view next same begins = ap (λ vs. seen globals.structs ls vs next.begins) same ∙ ap (seen globals.structs ls (variables view)) begins

  -- ---- where jumps lead

  pub lead_through : (place : ℕ) (mid to : Option ℕ) → Leads f.instrs place mid → LeadsOn coded mid to → Leads f.instrs place to
  lead_through place None to lead on = absurd lead
  lead_through place (Some m) None lead on = absurd on
  lead_through place (Some m) (Some n) lead on = jumps_through f.instrs place m n lead on

  pub lead_there : (mid to : Option ℕ) → LeadsOn coded mid to → IfSome mid (λ p. Leads f.instrs p to)
  lead_there None to lead = tt
  lead_there (Some m) to lead = lead

  pub end_sits : (outer last : View) (l : Around) (mid to : Option ℕ) (k : List Task) → Inner outer last → LeadsOn coded mid to → S outer l to k → S last l mid (EndBlock ∷ k)
  end_sits outer last l mid to k inner lead sits = (outer, inner, to, lead_there mid to lead, sits)

  pub inner_same : (view next last : View) → variables next ≡ variables view → next.begins ≡ view.begins → Inner view last → Inner next last
  inner_same view next last same begins i = record { begin = i.begin; begins = i.begins ∙ ap (λ ns. i.begin ∷ ns) (sym begins); within = i.within ∙ sym same }

  pub fine_body : (view : View) (body : Statements) → Fine coded view → Fine coded (after_body coded view body)
  fine_body view body fine =
      let p = fine.placed in
      let le = (grown_statements globals elements result (inside view.site) body).words in
      record {
        placed = record { rising = rising_up globals.structs 0 (variables view) (scope_of view).words (scope_of (after_body coded view body)).words le p.rising; known = p.known; outer = p.outer; nested = p.nested };
        alike = alike_left view.checked (scope_of view) (after_all globals (scope_entered view.checked) body) (made_body coded view body).layout.scope fine.alike;
        noted = fine.noted;
      }

  pub map_reached : (o : Option ℕ) (A B : ℕ → Type 0) → ((n : ℕ) → A n → B n) → IfSome o A → IfSome o B
  map_reached None A B go h = tt
  map_reached (Some n) A B go h = go n h

  -- an if keeps the variables
  pub branch_same : (site : Site) (branch : Branch) → (made_branch globals elements result site branch).layout.scope.variables ≡ site.layout.scope.variables
  branch_same site (Conditional head condition body otherwise) = refl

  pub room_of : (ls : Words) (view : View) (words : ℕ) → length ls ≡ length f.locals → (scope_of view).words ≤ words → words ≤ length f.locals → (scope_of view).words ≤ length ls
  room_of ls view words full a b = omega (arith, full, a, b)

  pub sits_here : (view : View) (l : Around) (place : ℕ) (ls : Words) (tasks : List Task) → H ls view → S view l (Some place) tasks → Reaches' (frame (blocks ls view) tasks) (place_at place ls [])
  sits_here view l place ls tasks h sits = (place_at place ls [], here, sitting view l place ls tasks h sits, refl)

  -- a point between statements
  abbrev pub point_at : (ls : Words) (l : Around) (view : View) → Fine coded view → (scope_of view).words ≤ length ls → H ls view → Point simulated
  point_at ls l view fine room h = record { locals = ls; around = l; view = view; fine = fine; room = room; held = h }

  pub lands : (ls : Words) (view : View) (l : Around) (place : ℕ) (to : Option ℕ) (tasks : List Task) → H ls view → Leads f.instrs place to → S view l to tasks → Reaches' (frame (blocks ls view) tasks) (place_at place ls [])
  lands ls view l place None tasks h lead sits = absurd lead
  lands ls view l place (Some n) tasks h lead sits = reaches_after simulated (frame (blocks ls view) tasks) (place_at place ls []) (place_at n ls []) (passes code g f there ds place n ls [] lead) (sits_here view l n ls tasks h sits)

  -- what is next has the same variables
  pub lands_same : (ls : Words) (view next : View) (l : Around) (place : ℕ) (mid : Option ℕ) (k : List Task) → H ls view → variables next ≡ variables view → next.begins ≡ view.begins → Leads f.instrs place mid → Rest coded next l mid k → Reaches' (frame (blocks ls view) k) (place_at place ls [])
  lands_same ls view next l place mid k h same begins lead r =
      subst (λ b. Reaches' (frame b k) (place_at place ls [])) (blocks_same ls view next same begins) (lands ls next l place r.0 k (held_same ls view next same h) (lead_through place mid r.0 lead r.1) r.2)

  -- a block begins
  pub block_lands : (ls : Words) (view : View) (l : Around) (body : Statements) (place : ℕ) (out : Option ℕ) (k : List Task) → H ls view → Live coded (opened view) l body place out → ((last : View) → Inner view last → S last l out k)
      → Reaches' (frame (entered (blocks ls view)) (all_of body ++ k)) (place_at place ls [])
  block_lands ls view l body place out k h live sits =
      let fine = live.fine in
      let soon = sits_all coded fine_following body (opened view) l (Some place) out k live fine.placed.nested (λ last t. sits last (inner_opened coded view last t)) in
      subst (λ b. Reaches' (frame b (all_of body ++ k)) (place_at place ls [])) (seen_opened coded ls view)
      (lands ls (opened view) l place soon.0 (all_of body ++ k) (record { holding = h.holding; full = h.full }) soon.1 soon.2)

  -- ---- the end of a block

  pub end_block_goes : (ls : Words) (view : View) (l : Around) (place : ℕ) (k : List Task) → H ls view → S view l (Some place) (EndBlock ∷ k) → Works' (task_work globals (blocks ls view) k EndBlock) (place_at place ls [])
  end_block_goes ls view l place k h (outer, inner, to, lead, sits) =
      slides simulated _ _ (subst (λ b. Reaches' (frame b k) (place_at place ls [])) (sym (inner_left globals.structs ls outer view inner)) (lands ls outer l place to k (held_inner ls outer view inner h) lead sits))

  -- ---- an empty statement, and a block

  pub empty_goes : (ls : Words) (view next : View) (l : Around) (place : ℕ) (mid : Option ℕ) (k : List Task) → H ls view → Doing coded l view Empty place mid → variables next ≡ variables view → next.begins ≡ view.begins → Rest coded next l mid k
      → Works' (statement_work globals (blocks ls view) k Empty) (place_at place ls [])
  empty_goes ls view next l place mid k h d same begins r = slides simulated _ _ (lands_same ls view next l place mid k h same begins d.on r)

  pub block_goes : (ls : Words) (view next : View) (l : Around) (body : Statements) (place : ℕ) (mid : Option ℕ) (k : List Task) → H ls view → Doing coded l view (Block body) place mid → variables next ≡ variables view → next.begins ≡ view.begins → Rest coded next l mid k
      → Works' (statement_work globals (blocks ls view) k (Block body)) (place_at place ls [])
  block_goes ls view next l body place mid k h d same begins r =
      slides simulated _ _ (
      block_lands ls view l body place mid (EndBlock ∷ k) h
      (record { first = d.first; breaks = d.breaks; continues = d.continues; fine = fine_opened coded view d.fine; good = d.good; makes = d.makes; on = d.on; fits = record { tables = d.fits.tables; room = d.fits.room } })
      (λ last i. end_sits next last l mid r.0 k (inner_same view next last same begins i) r.1 r.2))

  -- ---- an if after its first statement

  pub decide_goes : (ls : Words) (view next : View) (l : Around) (condition : Expression) (body : Statements) (otherwise : Otherwise) (place : ℕ) (mid : Option ℕ) (k : List Task) → H ls view → Deciding coded l view condition body otherwise place mid → variables next ≡ variables view → next.begins ≡ view.begins → Rest coded next l mid k
      → Works' (task_work globals (blocks ls view) k (Decide condition body otherwise)) (place_at place ls [])
  decide_goes ls view next l condition body NoElse place mid k h d same begins r =
      let fits = d.fits in
      let grown = grown_statements globals elements result (inside view.site) body in
      test_goes (point_at ls l view d.fine (room_of ls view (made_body coded view body).layout.scope.words h.full grown.words fits.room) h) condition d.first k
      (decides globals (blocks ls view) k body NoElse) (Comes simulated) _ mid place d.test d.test_makes d.on
      (λ b to on. go b to on.0 on.1
      (block_lands ls view l body (to + 1) mid (EndBlock ∷ k) h
      (record { first = d.second; breaks = d.breaks; continues = d.continues; fine = fine_opened coded view d.fine; good = d.good; makes = d.makes; on = on.2; fits = record { tables = fits.tables; room = fits.room } })
      (λ last i. end_sits next last l mid r.0 k (inner_same view next last same begins i) r.1 r.2))
      (lands_same ls view next l on.0 mid k h same begins on.3 r)) where
        go : (b : Bool) (to other : ℕ) → At f.instrs to (instrs.Unless other) → Reaches' (frame (entered (blocks ls view)) (all_of body ++ EndBlock ∷ k)) (place_at (to + 1) ls []) → Reaches' (frame (blocks ls view) k) (place_at other ls [])
            → Works' (decides globals (blocks ls view) k body NoElse (Truth b)) (place_at to ls (Truth b ∷ []))
        go true to other i x y = slides simulated _ _ (reaches_after simulated _ _ _ (chooses code g f there ds to other ls [] true i) x)
        go false to other i x y = slides simulated _ _ (reaches_after simulated _ _ _ (chooses code g f there ds to other ls [] false i) y)
  decide_goes ls view next l condition body (ElseBlock others) place mid k h d same begins r =
      let fits = d.fits in
      let so = ended view.site.layout (made_body coded view body) in
      let second = after_body coded view body in
      let grown = grown_statements globals elements result (inside view.site) body in
      let more = grown_statements globals elements result (inside second.site) others in
      let most : (made_body coded view body).layout.scope.words ≤ length f.locals = (let a = more.words in let b = fits.room in omega (arith, a, b)) in
      test_goes (point_at ls l view d.fine (room_of ls view (made_body coded view body).layout.scope.words h.full grown.words most) h) condition d.first k
      (decides globals (blocks ls view) k body (ElseBlock others)) (Comes simulated) _ mid place d.test d.test_makes d.on
      (λ b to on. go b to on.0 on.1
      (block_lands ls view l body (to + 1) mid (EndBlock ∷ k) h
      (record {
        first = d.second;
        breaks = d.breaks;
        continues = d.continues;
        fine = fine_opened coded view d.fine;
        good = d.good;
        makes = d.makes;
        on = on.2;
        fits = record { tables = prints_front code view.site.prints so.prints (made_all globals elements result (inside second.site) others).prints fits.tables; room = most };
      })
      (λ last i. end_sits next last l mid r.0 k (inner_same view next last same begins i) r.1 r.2))
      (block_lands ls second l others on.0 mid (EndBlock ∷ k) (record { holding = h.holding; full = h.full })
      (record {
        first = d.third;
        breaks = d.breaks;
        continues = d.continues;
        fine = fine_opened coded second (fine_body view body d.fine);
        good = d.other;
        makes = d.other_makes;
        on = on.3;
        fits = record { tables = prints_back code view.site.prints so.prints (made_all globals elements result (inside second.site) others).prints fits.tables; room = fits.room };
      })
      (λ last i. end_sits next last l mid r.0 k (inner_same second next last same begins i) r.1 r.2))) where
        go : (b : Bool) (to other : ℕ) → At f.instrs to (instrs.Unless other) → Reaches' (frame (entered (blocks ls view)) (all_of body ++ EndBlock ∷ k)) (place_at (to + 1) ls []) → Reaches' (frame (entered (blocks ls view)) (all_of others ++ EndBlock ∷ k)) (place_at other ls [])
            → Works' (decides globals (blocks ls view) k body (ElseBlock others) (Truth b)) (place_at to ls (Truth b ∷ []))
        go true to other i x y = slides simulated _ _ (reaches_after simulated _ _ _ (chooses code g f there ds to other ls [] true i) x)
        go false to other i x y = slides simulated _ _ (reaches_after simulated _ _ _ (chooses code g f there ds to other ls [] false i) y)
  decide_goes ls view next l condition body (ElseIf branch) place mid k h d same begins r =
      let fits = d.fits in
      let so = ended view.site.layout (made_body coded view body) in
      let second = after_body coded view body in
      let grown = grown_statements globals elements result (inside view.site) body in
      let le = grown_otherwise globals elements result view.site condition so (ElseIf branch) in
      let most : (made_body coded view body).layout.scope.words ≤ length f.locals = (let b = fits.room in omega (arith, le, b)) in
      let fine = fine_body view body d.fine in
      test_goes (point_at ls l view d.fine (room_of ls view (made_body coded view body).layout.scope.words h.full grown.words most) h) condition d.first k
      (decides globals (blocks ls view) k body (ElseIf branch)) (Comes simulated) _ mid place d.test d.test_makes d.on
      (λ b to on. go b to on.0 on.1
      (block_lands ls view l body (to + 1) mid (EndBlock ∷ k) h
      (record {
        first = d.second;
        breaks = d.breaks;
        continues = d.continues;
        fine = fine_opened coded view d.fine;
        good = d.good;
        makes = d.makes;
        on = on.2;
        fits = record { tables = prints_front code view.site.prints so.prints (made_branch globals elements result second.site branch).prints fits.tables; room = most };
      })
      (λ last i. end_sits next last l mid r.0 k (inner_same view next last same begins i) r.1 r.2))
      (sits_here second l on.0 ls (Do (If branch) ∷ k) (record { holding = h.holding; full = h.full }) (
        next,
        (begins, ap (take (innermost_begins view.begins)) same),
        mid,
        (
          record {
            first = d.third;
            breaks = d.breaks;
            continues = d.continues;
            fine = fine;
            good = d.other;
            makes = d.other_makes;
            on = on.3;
            fits = record { tables = prints_back code view.site.prints so.prints (made_branch globals elements result second.site branch).prints fits.tables; room = fits.room };
          },
          same ∙ sym (branch_same second.site branch),
        ),
        r.0,
        r.1,
        r.2,
      ))) where
        go : (b : Bool) (to other : ℕ) → At f.instrs to (instrs.Unless other) → Reaches' (frame (entered (blocks ls view)) (all_of body ++ EndBlock ∷ k)) (place_at (to + 1) ls []) → Reaches' (frame (blocks ls view) (Do (If branch) ∷ k)) (place_at other ls [])
            → Works' (decides globals (blocks ls view) k body (ElseIf branch) (Truth b)) (place_at to ls (Truth b ∷ []))
        go true to other i x y = slides simulated _ _ (reaches_after simulated _ _ _ (chooses code g f there ds to other ls [] true i) x)
        go false to other i x y = slides simulated _ _ (reaches_after simulated _ _ _ (chooses code g f there ds to other ls [] false i) y)

  -- ---- loops

  -- where a loop's body ends
  again_place : (o : Option ℕ) → IfSome o (λ p. o ≡ Some p)
  again_place None = tt
  again_place (Some p) = refl

  -- a loop's body begins
  body_lands : (ls : Words) (view next : View) (l : Around) (condition : Option Expression) (post : Option Simple) (body : Statements) (head : ℕ) (mid : Option ℕ) (k : List Task) (place : ℕ) (post_at : Option ℕ) → H ls view → (d : Looping coded l view condition post body head mid)
      → IsOn coded (record { leave = mid; again = post_at }) (made_body coded view body).plan place post_at → IfSome post_at (λ m. (turn : ℕ) × IsOn coded l (post_made coded view body post).plan m (Some turn) × At f.instrs turn (instrs.Loop head))
      → Together view next → variables next ≡ variables view → Rest coded next l mid k → Reaches' (frame (entered (blocks ls view)) (all_of body ++ Again (Repeating condition post body) ∷ k)) (place_at place ls [])
  body_lands ls view next l condition post body head mid k place post_at h d on turns' t same r =
      block_lands ls view (record { leave = mid; again = post_at }) body place post_at (Again (Repeating condition post body) ∷ k) h
      (record { first = d.second; breaks = true; continues = true; fine = fine_opened coded view d.fine; good = d.good; makes = d.makes; on = on; fits = record { tables = d.fits.tables; room = d.fits.room } })
      (λ last i. (view, i, l, next, t, same, head, mid, refl, (d, turns'), again_place post_at, r.0, r.1, r.2))

  pub head_goes : (ls : Words) (view next : View) (l : Around) (condition : Option Expression) (post : Option Simple) (body : Statements) (place : ℕ) (mid : Option ℕ) (k : List Task) → H ls view → Looping coded l view condition post body place mid → Together view next → variables next ≡ variables view → Rest coded next l mid k
      → Works' (head_work globals (blocks ls view) k (Repeating condition post body)) (place_at place ls [])
  head_goes ls view next l None post body place mid k h d t same r = slides simulated _ _ (body_lands ls view next l None post body place mid k place d.on.0 h d d.on.1 d.on.2 t same r)
  head_goes ls view next l (Some condition) post body place mid k h d t same r =
      let on = d.on in
      let grown = grown_statements globals elements result (inside view.site) body in
      let fits = d.fits in
      test_goes (point_at ls l view d.fine (room_of ls view (made_body coded view body).layout.scope.words h.full grown.words fits.room) h) condition d.first k _ (Comes simulated) Skip (Some on.0) place d.test d.test_makes on.3
      (λ b to lead. works_after simulated _ (place_at to ls (Truth b ∷ [])) (place_at on.0 ls (Truth b ∷ [])) (passes code g f there ds to on.0 ls (Truth b ∷ []) lead)
      (go b on.0 on.2 on.4 (body_lands ls view next l (Some condition) post body place mid k (on.0 + 1) on.1 h d on.5 on.6 t same r) (lands_same ls view next l on.2 mid k h same t.0 on.7 r))) where
        go : (b : Bool) (to other : ℕ) → At f.instrs to (instrs.Unless other) → Reaches' (frame (entered (blocks ls view)) (all_of body ++ Again (Repeating (Some condition) post body) ∷ k)) (place_at (to + 1) ls []) → Reaches' (frame (blocks ls view) k) (place_at other ls [])
            → Works' (if truth_in (Truth b) then body_work globals (blocks ls view) k (Repeating (Some condition) post body) body else ready (Goes (frame (blocks ls view) k))) (place_at to ls (Truth b ∷ []))
        go true to other i x y = slides simulated _ _ (reaches_after simulated _ _ _ (chooses code g f there ds to other ls [] true i) x)
        go false to other i x y = slides simulated _ _ (reaches_after simulated _ _ _ (chooses code g f there ds to other ls [] false i) y)

  -- after a loop's body and its post statement the code goes back to the loop's head
  pub turn_goes : (ls : Words) (view next : View) (l : Around) (condition : Option Expression) (post : Option Simple) (body : Statements) (head place : ℕ) (mid : Option ℕ) (k : List Task) → H ls view → At f.instrs place (instrs.Loop head) → Looping coded l view condition post body head mid → Together view next → variables next ≡ variables view
      → Rest coded next l mid k → Works' (task_work globals (blocks ls view) k (Turn (Repeating condition post body))) (place_at place ls [])
  turn_goes ls view next l condition post body head place mid k h i d t same r =
      moves simulated (blocks ls view) (Head (Repeating condition post body) ∷ k) (place_at place ls []) (place_at place ls []) (place_at head ls []) here (turns code g f there ds place head ls [] i) (sits_here view l head ls (Head (Repeating condition post body) ∷ k) h (next, t, mid, (d, same), r.0, r.1, r.2))

  turn_sits : (view next : View) (l : Around) (condition : Option Expression) (post : Option Simple) (body : Statements) (head turn : ℕ) (mid : Option ℕ) (k : List Task) → At f.instrs turn (instrs.Loop head) → Looping coded l view condition post body head mid → Together view next → variables next ≡ variables view
      → Rest coded next l mid k → S view l (Some turn) (Turn (Repeating condition post body) ∷ k)
  turn_sits view next l condition post body head turn mid k i d t same r = (next, t, mid, (head, i, d, same), r.0, r.1, r.2)

  pub again_goes : (ls : Words) (view : View) (l : Around) (condition : Option Expression) (post : Option Simple) (body : Statements) (place : ℕ) (k : List Task) → H ls view → S view l (Some place) (Again (Repeating condition post body) ∷ k)
      → Works' (again_work globals (blocks ls view) k (Repeating condition post body)) (place_at place ls [])
  again_goes ls view l condition None body place k h (outer, inner, around, next, t, same, head, out, leave, (d, turns'), is, to, lead, sits) =
      let m = subst (λ o. IfSome o (λ m. (turn : ℕ) × Leads f.instrs m (Some turn) × At f.instrs turn (instrs.Loop head))) is turns' in
      slides simulated _ _ (
      subst (λ b. Reaches' (frame b (Turn (Repeating condition None body) ∷ k)) (place_at place ls [])) (sym (inner_left globals.structs ls outer view inner))
      (lands ls outer around place (Some m.0) (Turn (Repeating condition None body) ∷ k) (held_inner ls outer view inner h) m.1 (turn_sits outer next around condition None body head m.0 out k m.2 d t same (to, lead, sits))))
  again_goes ls view l condition (Some post) body place k h (outer, inner, around, next, t, same, head, out, leave, (d, turns'), is, to, lead, sits) =
      let m = subst (λ o. IfSome o (λ m. (turn : ℕ) × IsOn coded around (post_made coded outer body (Some post)).plan m (Some turn) × At f.instrs turn (instrs.Loop head))) is turns' in
      let within = opened (after_body coded outer body) in
      let fine = fine_opened coded (after_body coded outer body) (fine_body outer body d.fine) in
      let last = following coded within (Alone post) in
      let u = together_after coded within (Alone post) fine.placed.nested in
      let tail = turn_sits outer next around condition (Some post) body head m.0 out k m.2 d t same (to, lead, sits) in
      let k' : List Task = EndBlock ∷ (Turn (Repeating condition (Some post) body) ∷ k) in
      let sits' : S within around (Some place) (Do (Alone post) ∷ k') = (
        last,
        u,
        Some m.0,
        (record { first = d.third; breaks = true; continues = true; fine = fine; good = d.after_good; makes = d.post_makes; on = m.1; fits = record { tables = d.post_fits.tables; room = d.post_fits.room } }, refl),
        Some m.0,
        at_once,
        end_sits outer last around (Some m.0) (Some m.0) (Turn (Repeating condition (Some post) body) ∷ k) (inner_opened coded outer last u) at_once tail,
      ) in
      slides simulated _ _ (
      subst (λ b. Reaches' (frame b (Do (Alone post) ∷ k')) (place_at place ls [])) (seen_opened coded ls outer ∙ ap entered (sym (inner_left globals.structs ls outer view inner)))
      (sits_here within around place ls (Do (Alone post) ∷ k') (record { holding = (held_inner ls outer view inner h).holding; full = h.full }) sits'))

  -- ---- a for without clauses

  pub repeats_goes : (ls : Words) (view next : View) (l : Around) (condition : Option Expression) (body : Statements) (place : ℕ) (mid : Option ℕ) (k : List Task) → H ls view → Looping coded l view condition None body place mid → Together view next → variables next ≡ variables view → Rest coded next l mid k
      → Works' (ready (Goes (frame (blocks ls view) (Head (Repeating condition None body) ∷ k)))) (place_at place ls [])
  repeats_goes ls view next l condition body place mid k h d t same r =
      slides simulated _ _ (sits_here view l place ls (Head (Repeating condition None body) ∷ k) h (next, t, mid, (d, same), r.0, r.1, r.2))

  -- ---- break, continue, and the end of a select's clause

  like_left : (b : Blocks) → AllLike globals.structs b → AllLike globals.structs (left b)
  like_left [] h = tt
  like_left (block ∷ outer) h = h.1

  broken_like : (tasks : List Task) (b : Blocks) → AllLike globals.structs b → AllLike globals.structs (broken b tasks).blocks
  broken_like [] b h = h
  broken_like (EndBlock ∷ k) b h = broken_like k (left b) (like_left b h)
  broken_like (Again x ∷ k) b h = like_left b h
  broken_like (EndSelect ∷ k) b h = like_left b h
  broken_like (Do x ∷ k) b h = broken_like k b h
  broken_like (Decide x y z ∷ k) b h = broken_like k b h
  broken_like (Head x ∷ k) b h = broken_like k b h
  broken_like (Turn x ∷ k) b h = broken_like k b h

  continued_like : (tasks : List Task) (b : Blocks) → AllLike globals.structs b → AllLike globals.structs (continued b tasks).blocks
  continued_like [] b h = h
  continued_like (EndBlock ∷ k) b h = continued_like k (left b) (like_left b h)
  continued_like (Again x ∷ k) b h = h
  continued_like (EndSelect ∷ k) b h = continued_like k (left b) (like_left b h)
  continued_like (Do x ∷ k) b h = continued_like k b h
  continued_like (Decide x y z ∷ k) b h = continued_like k b h
  continued_like (Head x ∷ k) b h = continued_like k b h
  continued_like (Turn x ∷ k) b h = continued_like k b h

  -- what is left by a jump
  left_lands : (ls : Words) (c : Frame) (place from : ℕ) → length ls ≡ length f.locals → AllLike globals.structs c.blocks → JumpsTo f.instrs place from → Left coded ls from c → Reaches' (frame c.blocks c.tasks) (place_at place ls [])
  left_lands ls c place from full like jumps (view, l, to, same, lead, sits) =
      let holding = like_holding globals.structs ls (variables view) view.begins (subst (AllLike globals.structs) same like) in
      subst (λ b. Reaches' (frame b c.tasks) (place_at place ls [])) (sym same) (lands ls view l place (Some to) c.tasks (record { holding = holding; full = full }) (jumps_through f.instrs place from to jumps lead) sits)

  broken_none : (tasks : List Task) (b : Blocks) → (broken b tasks).given ≡ []
  broken_none [] b = refl
  broken_none (EndBlock ∷ k) b = broken_none k (left b)
  broken_none (Again x ∷ k) b = refl
  broken_none (EndSelect ∷ k) b = refl
  broken_none (Do x ∷ k) b = broken_none k b
  broken_none (Decide x y z ∷ k) b = broken_none k b
  broken_none (Head x ∷ k) b = broken_none k b
  broken_none (Turn x ∷ k) b = broken_none k b

  continued_none : (tasks : List Task) (b : Blocks) → (continued b tasks).given ≡ []
  continued_none [] b = refl
  continued_none (EndBlock ∷ k) b = continued_none k (left b)
  continued_none (Again x ∷ k) b = refl
  continued_none (EndSelect ∷ k) b = continued_none k (left b)
  continued_none (Do x ∷ k) b = continued_none k b
  continued_none (Decide x y z ∷ k) b = continued_none k b
  continued_none (Head x ∷ k) b = continued_none k b
  continued_none (Turn x ∷ k) b = continued_none k b

  -- nothing was given in it yet
  fresh_reaches : (c : Frame) (d : CodeFrames) → c.given ≡ [] → Reaches' (frame c.blocks c.tasks) d → Reaches' c d
  fresh_reaches c d none (e, slips, sat, empty) = (e, slips, sat, none)

  pub break_goes : (ls : Words) (view next : View) (l : Around) (place : ℕ) (k : List Task) (to : Option ℕ) → H ls view → Leads f.instrs place l.leave → Together view next → S next l to k → Works' (ready (Goes (broken (blocks ls view) k))) (place_at place ls [])
  break_goes ls view next l place k to h lead t sits = go l.leave refl lead where
    go : (o : Option ℕ) → l.leave ≡ o → Leads f.instrs place o → Works' (ready (Goes (broken (blocks ls view) k))) (place_at place ls [])
    go None is lead = absurd lead
    go (Some n) is lead =
        slides simulated (broken (blocks ls view) k) (place_at place ls [])
        (fresh_reaches (broken (blocks ls view) k) (place_at place ls []) (broken_none k (blocks ls view))
        (left_lands ls (broken (blocks ls view) k) place n h.full (broken_like k (blocks ls view) (holding_like globals.structs ls (variables view) view.begins h.holding)) lead (broken_sits coded ls k view next l to n is t sits)))

  pub continue_goes : (ls : Words) (view next : View) (l : Around) (place : ℕ) (k : List Task) (to : Option ℕ) → H ls view → Leads f.instrs place l.again → Together view next → S next l to k → Works' (ready (Goes (continued (blocks ls view) k))) (place_at place ls [])
  continue_goes ls view next l place k to h lead t sits = go l.again refl lead where
    go : (o : Option ℕ) → l.again ≡ o → Leads f.instrs place o → Works' (ready (Goes (continued (blocks ls view) k))) (place_at place ls [])
    go None is lead = absurd lead
    go (Some n) is lead =
        slides simulated (continued (blocks ls view) k) (place_at place ls [])
        (fresh_reaches (continued (blocks ls view) k) (place_at place ls []) (continued_none k (blocks ls view))
        (left_lands ls (continued (blocks ls view) k) place n h.full (continued_like k (blocks ls view) (holding_like globals.structs ls (variables view) view.begins h.holding)) lead (continued_sits coded ls k view next l to n is t sits)))

  pub end_select_goes : (ls : Words) (view : View) (l : Around) (place : ℕ) (k : List Task) → H ls view → S view l (Some place) (EndSelect ∷ k) → Works' (task_work globals (blocks ls view) k EndSelect) (place_at place ls [])
  end_select_goes ls view l place k h (outer, inner, around, again, to, out, lead, sits) =
      slides simulated _ _ (subst (λ b. Reaches' (frame b k) (place_at place ls [])) (sym (inner_left globals.structs ls outer view inner)) (lands ls outer around place to k (held_inner ls outer view inner h) lead sits))
