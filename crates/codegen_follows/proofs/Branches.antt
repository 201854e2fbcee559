-- An if.
use Rattle.std.proofs.Common.{◌≡◌, ℕ, List, [], ◌∷◌, length, Option, Some, None, IfSome, refl, subst, arith, inl, inr}
use Rattle.syntax.specs.Tree.{Expression, Simple, Alone, If, IfHead, Bare, Semicolon, First, Statements, Conditional, Otherwise}
use Rattle.bytecode.specs.Machine.{Frames as CodeFrames}
use Rattle.type_table.specs.Containment.{Structs}
use Rattle.type_table.specs.Scopes.{entered as scope_entered, Globals}
use Rattle.meaning.specs.Variables.{Blocks, entered}
use Rattle.meaning.specs.Tasks.{Task, Do, EndBlock, Decide, frame, Course, Frame}
use Rattle.codegen_base.specs.Generated.{nothing, inside, ended, past, made_simple, made_otherwise}
use Rattle.plan.proofs.Words.{Words}
use Rattle.plan.proofs.Places.{at_once}
use Rattle.codegen_follows.proofs.Stands.{Around, View, variables, Inner, opened, IsOn, LeadsOn, Fine, made_body, following, Doing, Deciding, Sits}
use Rattle.codegen_follows.proofs.Grown.{grown_statements, grown_otherwise}
use Rattle.codegen_follows.proofs.Begun.{prints_front, prints_back, together_after, fine_opened, inner_opened, seen_opened}
use Rattle.codegen_follows.proofs.Follows.{lands, map_reached, end_sits, inner_same, sits_here}
use Rattle.codegen_base.proofs.Running.{Compiled, Coded}
use Rattle.codegen_follows.proofs.Simulated.{Simulated, Held, Rest, blocks_of, at, Works, Reaches, slides}
use Rattle.meaning.specs.Worked.{Worked}
use Rattle.meaning.specs.Source.{statement_work}

module _ {globals : Globals} {program : Compiled globals} {coded : Coded program} (simulated : Simulated coded) where
  open program use {elements, code, wide as all}
  open coded use {function as f, number as g, there, result}
  open simulated use {running, running.{context, context.{callers as ds}}, fine_following, sitting}

  abbrev structs : Structs
  structs = globals.structs

  abbrev S : View → Around → Option ℕ → List Task → Type 0
  S view l place tasks = Sits coded view l place tasks

  abbrev H : Words → View → Type 0
  H ls view = Held coded ls view

  abbrev Works' : Worked Course → CodeFrames → Type 0
  Works' work c = Works simulated work c

  abbrev Reaches' : Frame → CodeFrames → Type 0
  Reaches' top c = Reaches simulated top c

  abbrev place_at : ℕ → Words → Words → CodeFrames
  place_at place ls stack = at simulated place ls stack

  abbrev blocks : Words → View → Blocks
  blocks ls view = blocks_of coded ls view

  -- ---- an if

  pub self_lead : (o : Option ℕ) → LeadsOn coded o o
  self_lead None = tt
  self_lead (Some p) = at_once

  -- what is decided after the first statement of an if
  decide_sits : (view next : View) (l : Around) (condition : Expression) (body : Statements) (otherwise : Otherwise) (place mid : Option ℕ) (k : List Task) → IfSome place (λ p. Deciding coded l view condition body otherwise p mid) → Inner next view → Rest coded next l mid k
      → S view l place (Decide condition body otherwise ∷ (EndBlock ∷ k))
  decide_sits view next l condition body otherwise place mid k d inner r = (view, (refl, refl), mid, go place d, mid, self_lead mid, end_sits simulated next view l mid r.0 k inner r.1 r.2) where
    go : (place : Option ℕ) → IfSome place (λ p. Deciding coded l view condition body otherwise p mid) → IfSome place (λ p. Deciding coded l view condition body otherwise p mid × (variables view ≡ variables view))
    go None d = tt
    go (Some p) d = (d, refl)

  pub if_first_goes : (ls : Words) (view next : View) (l : Around) (simple : Simple) (condition : Expression) (body : Statements) (otherwise : Otherwise) (place : ℕ) (mid : Option ℕ) (k : List Task) → H ls view → Doing coded l view (If (Conditional (First simple) condition body otherwise)) place mid
      → variables next ≡ variables view → next.begins ≡ view.begins → Rest coded next l mid k → Works' (statement_work globals (blocks ls view) k (If (Conditional (First simple) condition body otherwise))) (place_at place ls [])
  if_first_goes ls view next l simple condition body otherwise place mid k h d same begins r =
      let inside' = opened view in
      let fine = fine_opened coded view d.fine in
      let first = made_simple globals elements inside'.site simple in
      let v = following coded inside' (Alone simple) in
      let u = together_after coded inside' (Alone simple) fine.placed.nested in
      let so = ended v.site.layout (made_body coded v body) in
      let other = made_otherwise globals elements result v.site condition so otherwise in
      let a = (grown_statements globals elements result (inside v.site) body).words in
      let b = grown_otherwise globals elements result v.site condition so otherwise in
      let most = d.fits.room in
      let doing : Doing coded l inside' (Alone simple) place d.on.0 = record {
        first = d.first;
        breaks = d.breaks;
        continues = d.continues;
        fine = fine;
        good = λ violation x. d.good violation (inl (inl x));
        makes = d.makes.0;
        on = d.on.1;
        fits = record { tables = prints_front code view.site.prints first.prints other.prints d.fits.tables; room = omega (arith, a, b, most) };
      } in
      let fine' = fine_following inside' (Alone simple) d.first d.breaks d.continues fine (λ violation x. d.good violation (inl (inl x))) d.makes.0 in
      let deciding : (m : ℕ) → IsOn coded l other.plan m mid → Deciding coded l v condition body otherwise m mid = λ m on. record {
        first = _;
        second = _;
        third = _;
        breaks = d.breaks;
        continues = d.continues;
        fine = fine';
        test = λ violation x. d.good violation (inl (inr x));
        good = λ violation x. d.good violation (inr (inl x));
        other = λ violation x. d.good violation (inr (inr x));
        test_makes = d.makes.1;
        makes = d.makes.2;
        other_makes = d.makes.3;
        on = on;
        fits = record { tables = prints_back code view.site.prints first.prints other.prints d.fits.tables; room = most };
      } in
      let k' : List Task = Decide condition body otherwise ∷ (EndBlock ∷ k) in slides simulated _ _ (
      subst (λ b. Reaches' (frame b (Do (Alone simple) ∷ k')) (place_at place ls [])) (seen_opened coded ls view)
      (sits_here simulated inside' l place ls (Do (Alone simple) ∷ k') (record { holding = h.holding; full = h.full }) (
        v,
        u,
        d.on.0,
        (doing, refl),
        d.on.0,
        self_lead d.on.0,
        decide_sits v next l condition body otherwise d.on.0 mid k (map_reached simulated d.on.0 (λ m. IsOn coded l other.plan m mid) (λ m. Deciding coded l v condition body otherwise m mid) deciding d.on.2)
            (inner_same simulated view next v same begins (inner_opened coded view v u)) r,
      )))

  -- an if without a first statement
  bare_lands : (ls : Words) (view next : View) (l : Around) (condition : Expression) (body : Statements) (otherwise : Otherwise) (place : ℕ) (mid : Option ℕ) (k : List Task) → H ls view → Doing coded l view (If (Conditional Bare condition body otherwise)) place mid
      → variables next ≡ variables view → next.begins ≡ view.begins → Rest coded next l mid k → Reaches' (frame (entered (blocks ls view)) (Decide condition body otherwise ∷ (EndBlock ∷ k))) (place_at place ls [])
  bare_lands ls view next l condition body otherwise place mid k h d same begins r =
      let fine = fine_opened coded view d.fine in
      let v : View = record { site = past (inside view.site) (nothing (inside view.site)); begins = length (variables view) ∷ view.begins; checked = scope_entered view.checked } in
      let fine' : Fine coded v = record { placed = fine.placed; alike = fine.alike; noted = fine.noted } in
      let so = ended v.site.layout (made_body coded v body) in
      let other = made_otherwise globals elements result v.site condition so otherwise in
      let deciding : (m : ℕ) → IsOn coded l other.plan m mid → Deciding coded l v condition body otherwise m mid = λ m on. record {
        first = _;
        second = _;
        third = _;
        breaks = d.breaks;
        continues = d.continues;
        fine = fine';
        test = λ violation x. d.good violation (inl (inr x));
        good = λ violation x. d.good violation (inr (inl x));
        other = λ violation x. d.good violation (inr (inr x));
        test_makes = d.makes.1;
        makes = d.makes.2;
        other_makes = d.makes.3;
        on = on;
        fits = record { tables = prints_back code view.site.prints [] other.prints d.fits.tables; room = d.fits.room };
      } in
      let k' : List Task = Decide condition body otherwise ∷ (EndBlock ∷ k) in
      subst (λ b. Reaches' (frame b k') (place_at place ls [])) (seen_opened coded ls view)
      (lands simulated ls v l place d.on.0 k' (record { holding = h.holding; full = h.full }) d.on.1
      (decide_sits v next l condition body otherwise d.on.0 mid k (map_reached simulated d.on.0 (λ m. IsOn coded l other.plan m mid) (λ m. Deciding coded l v condition body otherwise m mid) deciding d.on.2)
      (inner_same simulated view next v same begins (inner_opened coded view v (refl, refl))) r))

  pub if_goes : (ls : Words) (view next : View) (l : Around) (head : IfHead) (condition : Expression) (body : Statements) (otherwise : Otherwise) (place : ℕ) (mid : Option ℕ) (k : List Task) → H ls view → Doing coded l view (If (Conditional head condition body otherwise)) place mid
      → variables next ≡ variables view → next.begins ≡ view.begins → Rest coded next l mid k → Works' (statement_work globals (blocks ls view) k (If (Conditional head condition body otherwise))) (place_at place ls [])
  if_goes ls view next l (First simple) condition body otherwise place mid k h d same begins r = if_first_goes ls view next l simple condition body otherwise place mid k h d same begins r
  if_goes ls view next l Bare condition body otherwise place mid k h d same begins r = slides simulated _ _ (bare_lands ls view next l condition body otherwise place mid k h d same begins r)
  if_goes ls view next l Semicolon condition body otherwise place mid k h d same begins r = slides simulated _ _ (bare_lands ls view next l condition body otherwise place mid k h (record { first = d.first; breaks = d.breaks; continues = d.continues; fine = d.fine; good = d.good; makes = d.makes; on = d.on; fits = record { tables = d.fits.tables; room = d.fits.room } }) same begins r)
