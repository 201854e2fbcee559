-- A for: forever, with a condition, and with clauses.
use Rattle.std.proofs.Common.{◌≡◌, ℕ, ◌+◌, ◌≤◌, true, List, [], ◌∷◌, ◌++◌, length, Option, Some, None, IfSome, refl, subst, arith, slice_get, inl, inr}
use Rattle.syntax.specs.Tree.{Expression, Simple, Alone, For, ForHead, Forever, While, ForClauses, Statements}
use Rattle.bytecode.specs.Code.{PrintTable, Code}
use Rattle.bytecode.specs.Machine.{Frames as CodeFrames}
use Rattle.type_table.specs.Containment.{Structs}
use Rattle.type_table.specs.Scopes.{Scope, entered as scope_entered, Globals}
use Rattle.typing_rules.specs.Expressions.{TestHas}
use Rattle.typing_rules.specs.Simples.{SimpleHas}
use Rattle.typing_rules.specs.Statements.{IfSimpleHas, IfTestHas, StatementsHave}
use Rattle.meaning.specs.Variables.{Blocks}
use Rattle.meaning.specs.Tasks.{Repeating, Task, Do, EndBlock, Head, frame, Course, Frame}
use Rattle.codegen_base.specs.Generated.{Made, nothing, past, inside, loop, test_plan, made_simple}
use Rattle.plan.proofs.Words.{Words}
use Rattle.plan.proofs.Places.{at_once}
use Rattle.codegen_base.proofs.Typing.{Free}
use Rattle.codegen_follows.proofs.Stands.{Around, View, variables, Together, Inner, Prints, opened, within, IsOn, LeadsOn, Fine, made_body, following, after_body, post_made, DeclaresNone, SimpleMakes, AllMake, Doing, Looping, Sits, OneMakes}
use Rattle.codegen_follows.proofs.Grown.{grown_statements, grown_post}
use Rattle.codegen_follows.proofs.Begun.{prints_front, prints_back, together_after, fine_opened, inner_opened, seen_opened}
use Rattle.codegen_follows.proofs.Follows.{lands, map_reached, end_sits, inner_same, repeats_goes, sits_here}
use Rattle.codegen_follows.proofs.Outers.{test_same}
use Rattle.codegen_follows.proofs.Simples.{simple_same}
use Rattle.codegen_base.proofs.Running.{Compiled, Coded}
use Rattle.codegen_follows.proofs.Simulated.{Simulated, Held, Rest, blocks_of, at, Works, Reaches, slides}
use Rattle.meaning.specs.Worked.{Worked}
use Rattle.meaning.specs.Source.{statement_work}

no_prints : (code : Code) (first n : ℕ) (table : PrintTable) → slice_get [] n ≡ Some table → slice_get code.prints (first + n) ≡ Some table
no_prints code first n table e = absurd cc

module _ {globals : Globals} {program : Compiled globals} {coded : Coded program} (simulated : Simulated coded) where
  open program use {elements, code, wide as all}
  open coded use {function as f, number as g, there, result}
  open simulated use {running, running.{context, context.{callers as ds}}, fine_following, sitting}

  abbrev structs : Structs
  structs = globals.structs

  abbrev S : View → Around → Option ℕ → List Task → Type 0
  S view l place tasks = Sits coded view l place tasks

  abbrev H : Words → View → Type 0
  H ls view = Held coded ls view

  abbrev Works' : Worked Course → CodeFrames → Type 0
  Works' work c = Works simulated work c

  abbrev Reaches' : Frame → CodeFrames → Type 0
  Reaches' top c = Reaches simulated top c

  abbrev place_at : ℕ → Words → Words → CodeFrames
  place_at place ls stack = at simulated place ls stack

  abbrev blocks : Words → View → Blocks
  blocks ls view = blocks_of coded ls view

  abbrev Does : Around → View → Option Expression → Option Simple → Statements → ℕ → Option ℕ → Type 0
  Does l view condition post body place mid = Looping coded l view condition post body place mid

  -- a post statement that declares nothing may be in a block of its own
  post_good : (view : View) (body : Statements) (post : Option Simple) (first : ℕ) → IfSome post DeclaresNone → Free (IfSimpleHas globals view.checked first post) → IfSome post (λ s. Free (SimpleHas globals (scope_entered (after_body coded view body).checked) first s))
  post_good view body None first none free = tt
  post_good view body (Some simple) first none free =
      let s = scope_entered (after_body coded view body).checked in
      λ violation h. free violation (simple_same globals view.checked.variables s.outer view.checked.outer s.words view.checked.words simple first violation none h)

  test_good : (checked : Scope) (condition : Option Expression) (first : ℕ) → Free (IfTestHas globals checked first condition) → IfSome condition (λ c. Free (TestHas globals checked first c))
  test_good checked None first free = tt
  test_good checked (Some c) first free = free

  self_lead : (o : Option ℕ) → LeadsOn coded o o
  self_lead None = tt
  self_lead (Some p) = at_once

  -- a loop at the end of a block
  head_sits : (view next : View) (l : Around) (condition : Option Expression) (post : Option Simple) (body : Statements) (place mid : Option ℕ) (k : List Task) → IfSome place (λ p. Does l view condition post body p mid) → Inner next view → Rest coded next l mid k
      → Sits coded view l place (Head (Repeating condition post body) ∷ (EndBlock ∷ k))
  head_sits view next l condition post body place mid k d inner r = (
    view,
    (refl, refl),
    mid,
    map_reached simulated place (λ p. Does l view condition post body p mid) (λ p. Does l view condition post body p mid × (variables view ≡ variables view)) (λ p x. (x, refl)) d,
    mid,
    self_lead mid,
    end_sits simulated next view l mid r.0 k inner r.1 r.2,
  )

  -- the loop after the first statement of a for, whose header has these variables
  clauses_loop : (view : View) (l : Around) (header : Made) (condition : Option Expression) (post : Option Simple) (body : Statements) (first second third : ℕ) (m : ℕ) (mid : Option ℕ) (checked : Scope) → let v : View = record { site = past (inside view.site) header; begins = (opened view).begins; checked = checked } in Fine coded v
      → IfSome condition (λ c. Free (TestHas globals checked first c)) → Free (StatementsHave (within coded true true) (scope_entered checked) second body)
      → IfSome post (λ s. Free (SimpleHas globals (scope_entered (after_body coded v body).checked) third s))
      → IfSome condition (OneMakes globals elements) → AllMake globals elements body → IfSome post (SimpleMakes globals elements)
      → IsOn coded l (loop (test_plan globals elements header.layout condition) (made_body coded v body).plan (post_made coded v body post).plan) m mid
      → Prints code view.site.prints (header.prints ++ ((made_body coded v body).prints ++ (post_made coded v body post).prints)) → (post_made coded v body post).layout.scope.words ≤ length f.locals
      → Does l v condition post body m mid
  clauses_loop view l header condition post body first second third m mid checked fine test good after test-makes makes post-makes on tables room =
      let v : View = record { site = past (inside view.site) header; begins = (opened view).begins; checked = checked } in
      let one = made_body coded v body in
      let turn = post_made coded v body post in
      let following-tables = prints_back code view.site.prints header.prints (one.prints ++ turn.prints) tables in
      let more = grown_post globals elements v.site.layout (after_body coded v body).site post in
      record {
        first = first;
        second = second;
        third = third;
        fine = fine;
        test = test;
        good = good;
        after_good = after;
        test_makes = test-makes;
        makes = makes;
        post_makes = post-makes;
        on = on;
        fits = record { tables = prints_front code v.site.prints one.prints turn.prints following-tables; room = omega (arith, more, room) };
        post_fits = record { tables = prints_back code v.site.prints one.prints turn.prints following-tables; room = room };
      }

  abbrev Doing' : Around → View → ForHead → Statements → ℕ → Option ℕ → Type 0
  Doing' l view head body place mid = Doing coded l view (For head body) place mid

  pub forever_goes : (ls : Words) (view next : View) (l : Around) (body : Statements) (place : ℕ) (mid : Option ℕ) (k : List Task) → H ls view → Doing' l view Forever body place mid → Together view next → variables next ≡ variables view → Rest coded next l mid k
      → Works' (statement_work globals (blocks ls view) k (For Forever body)) (place_at place ls [])
  forever_goes ls view next l body place mid k h d t same r =
      repeats_goes simulated ls view next l None body place mid k h
      (record {
        first = 0;
        second = _;
        third = 0;
        fine = d.fine;
        test = tt;
        good = λ violation x. d.good violation (inr x);
        after_good = tt;
        test_makes = tt;
        makes = d.makes.1;
        post_makes = tt;
        on = d.on;
        fits = record { tables = d.fits.tables; room = d.fits.room };
        post_fits = record { tables = λ n table e. no_prints code _ n table e; room = d.fits.room };
      }) t same r

  pub while_goes : (ls : Words) (view next : View) (l : Around) (condition : Expression) (body : Statements) (place : ℕ) (mid : Option ℕ) (k : List Task) → H ls view → Doing' l view (While condition) body place mid → Together view next → variables next ≡ variables view → Rest coded next l mid k
      → Works' (statement_work globals (blocks ls view) k (For (While condition) body)) (place_at place ls [])
  while_goes ls view next l condition body place mid k h d t same r =
      let s = view.checked in
      repeats_goes simulated ls view next l (Some condition) body place mid k h
      (record {
        first = d.first;
        second = _;
        third = 0;
        fine = d.fine;
        test = λ violation x. d.good violation (inl (test_same globals s.variables s.outer (length s.variables) s.words s.words condition d.first violation x));
        good = λ violation x. d.good violation (inr x);
        after_good = tt;
        test_makes = d.makes.0;
        makes = d.makes.1;
        post_makes = tt;
        on = d.on;
        fits = record { tables = d.fits.tables; room = d.fits.room };
        post_fits = record { tables = λ n table e. no_prints code _ n table e; room = d.fits.room };
      }) t same r

  pub clauses_first_goes : (ls : Words) (view next : View) (l : Around) (simple : Simple) (condition : Option Expression) (post : Option Simple) (body : Statements) (place : ℕ) (mid : Option ℕ) (k : List Task) → H ls view → Doing' l view (ForClauses (Some simple) condition post) body place mid
      → variables next ≡ variables view → next.begins ≡ view.begins → Rest coded next l mid k → Works' (statement_work globals (blocks ls view) k (For (ForClauses (Some simple) condition post) body)) (place_at place ls [])
  clauses_first_goes ls view next l simple condition post body place mid k h d same begins r =
      let inside' = opened view in
      let fine = fine_opened coded view d.fine in
      let header = made_simple globals elements inside'.site simple in
      let v = following coded inside' (Alone simple) in
      let u = together_after coded inside' (Alone simple) fine.placed.nested in
      let one = made_body coded v body in
      let turn = post_made coded v body post in
      let a = (grown_statements globals elements result (inside v.site) body).words in
      let b = grown_post globals elements v.site.layout (after_body coded v body).site post in
      let most = d.fits.room in
      let doing : Doing coded l inside' (Alone simple) place d.on.0 = record {
        first = d.first;
        breaks = d.breaks;
        continues = d.continues;
        fine = fine;
        good = λ violation x. d.good violation (inl (inl x));
        makes = d.makes.0.0;
        on = d.on.1;
        fits = record { tables = prints_front code view.site.prints header.prints (one.prints ++ turn.prints) d.fits.tables; room = omega (arith, a, b, most) };
      } in
      let fine' = fine_following inside' (Alone simple) d.first d.breaks d.continues fine (λ violation x. d.good violation (inl (inl x))) d.makes.0.0 in
      let looping : (m : ℕ) → IsOn coded l (loop (test_plan globals elements header.layout condition) one.plan turn.plan) m mid → Does l v condition post body m mid = λ m on.
      clauses_loop view l header condition post body _ _ _ m mid v.checked fine' (test_good v.checked condition _ (λ violation x. d.good violation (inl (inr (inl x))))) (λ violation x. d.good violation (inr x))
      (post_good v body post _ d.makes.0.3 (λ violation x. d.good violation (inl (inr (inr x))))) d.makes.0.1 d.makes.1 d.makes.0.2 on d.fits.tables most in
      let k' : List Task = Head (Repeating condition post body) ∷ (EndBlock ∷ k) in slides simulated _ _ (
      subst (λ b. Reaches' (frame b (Do (Alone simple) ∷ k')) (place_at place ls [])) (seen_opened coded ls view)
      (sits_here simulated inside' l place ls (Do (Alone simple) ∷ k') (record { holding = h.holding; full = h.full }) (
        v,
        u,
        d.on.0,
        (doing, refl),
        d.on.0,
        self_lead d.on.0,
        head_sits v next l condition post body d.on.0 mid k (map_reached simulated d.on.0 _ (λ m. Does l v condition post body m mid) looping d.on.2)
            (inner_same simulated view next v same begins (inner_opened coded view v u)) r,
      )))

  pub clauses_bare_goes : (ls : Words) (view next : View) (l : Around) (condition : Option Expression) (post : Option Simple) (body : Statements) (place : ℕ) (mid : Option ℕ) (k : List Task) → H ls view → Doing' l view (ForClauses None condition post) body place mid
      → variables next ≡ variables view → next.begins ≡ view.begins → Rest coded next l mid k → Works' (statement_work globals (blocks ls view) k (For (ForClauses None condition post) body)) (place_at place ls [])
  clauses_bare_goes ls view next l condition post body place mid k h d same begins r =
      let fine = fine_opened coded view d.fine in
      let header = nothing (inside view.site) in
      let v : View = record { site = past (inside view.site) header; begins = length (variables view) ∷ view.begins; checked = scope_entered view.checked } in
      let fine' : Fine coded v = record { placed = fine.placed; alike = fine.alike; noted = fine.noted } in
      let one = made_body coded v body in
      let turn = post_made coded v body post in
      let looping : (m : ℕ) → IsOn coded l (loop (test_plan globals elements header.layout condition) one.plan turn.plan) m mid → Does l v condition post body m mid = λ m on.
      clauses_loop view l header condition post body _ _ _ m mid v.checked fine' (test_good v.checked condition _ (λ violation x. d.good violation (inl (inr (inl x))))) (λ violation x. d.good violation (inr x))
      (post_good v body post _ d.makes.0.3 (λ violation x. d.good violation (inl (inr (inr x))))) d.makes.0.1 d.makes.1 d.makes.0.2 on d.fits.tables d.fits.room in
      let k' : List Task = Head (Repeating condition post body) ∷ (EndBlock ∷ k) in slides simulated _ _ (
      subst (λ b. Reaches' (frame b k') (place_at place ls [])) (seen_opened coded ls view)
      (lands simulated ls v l place d.on.0 k' (record { holding = h.holding; full = h.full }) d.on.1
      (head_sits v next l condition post body d.on.0 mid k (map_reached simulated d.on.0 _ (λ m. Does l v condition post body m mid) looping d.on.2)
      (inner_same simulated view next v same begins (inner_opened coded view v (refl, refl))) r)))
