-- The kinds on the operand stack at each pc of a typed plan, and the verifier's rules.
use Rattle.std.proofs.Common.{◌≡◌, ℕ, zero, suc, ◌+◌, ◌<◌, ◌≤◌, Bool, true, false, cond, List, [], ◌∷◌, ◌++◌, length, Some, IsTrue, refl, sym, ap, ◌∙◌, subst, arith, slice_get, length-append}
use Rattle.std.specs.Bool.{OnTrue}
use Rattle.std.proofs.lemmas.List.{append-nil}
use Rattle.std.proofs.lemmas.Option.{same_Some, slice_get_within}
use Rattle.std.proofs.lemmas.Bool.{false≢true, and_from, or_left, or_right, cond-true, OnTrue_at}
use Rattle.bytecode.specs.declared.instr.WordKind.{WordKind}
use Rattle.bytecode.specs.declared.instr.WordKind.TheVariants as kinds
use Rattle.bytecode.specs.declared.instr.Instr.{Instr}
use Rattle.bytecode.specs.declared.instr.Instr.TheVariants as instrs
use Rattle.bytecode.specs.Code.{Function, SelectTable, Code}
use Rattle.bytecode.specs.Effects.{below, top_of, Fits, afterwards, targets, targets_in}
use Rattle.bytecode.specs.Rules.{ways as ways_of, Path, Named, Inside, Directed, AreThere, Holds}
use Rattle.bytecode.proofs.Options.{get_some}
use Rattle.plan.specs.Plan.{Plan, Skip, Do, Seq, IfElse, IfThen, Cycle, Endless, Choose, Way, LastWay, Stop, Leave, Again, reaches_end, has_break, has_continue, turns, jump_after, jump_size, size, flat, starts, entries}
use Rattle.plan.proofs.Lists.{Stand, split, length_if, whole}
use Rattle.plan.proofs.Tables.{Tabled}
use Rattle.plan.proofs.Places.{jump_after_size, one_jump, flat_size}
use Rattle.plan.proofs.Steps.{below_of, top_of_is}
use Rattle.plan.proofs.Typed.{IsPlain, plain, Allowed, outside, in_loop, in_select, Typed}

-- the stacks of a part that is there on a condition
abbrev stacks_if : {P : Type 0} (b : Bool) → OnTrue b P → (P → List (List WordKind)) → List (List WordKind)
stacks_if true t ts = ts t
stacks_if false t ts = []

stacks_if_size : {P : Type 0} (b : Bool) (t : OnTrue b P) (ts : P → List (List WordKind)) (n : ℕ) → ((u : P) → length (ts u) ≡ n) → length (stacks_if b t ts) ≡ cond b n 0
stacks_if_size true t ts n e = e t
stacks_if_size false t ts n e = refl

stand_stacks : {P : Type 0} (T : List (List WordKind)) (place : ℕ) (b : Bool) (t : OnTrue b P) (ts : P → List (List WordKind)) → IsTrue b → Stand T place (stacks_if b t ts) → (u : P) × Stand T place (ts u)
stand_stacks T place true t ts e s = (t, s)
stand_stacks T place false t ts e s = absurd (false≢true e)

-- the stack at a jump that is there on a condition
stand_jump : (T : List (List WordKind)) (place : ℕ) (b : Bool) (ks : List WordKind) → Stand T place (cond b (ks ∷ []) []) → IsTrue b → slice_get T place ≡ Some ks
stand_jump T place b ks s e = (subst (λ x. Stand T place (cond x (ks ∷ []) [])) e s).0

module _ (code : Code) (f : Function) where
  abbrev IsTyped : Allowed → List WordKind → Plan → List WordKind → Type 0
  IsTyped = Typed code f

  -- the stack at each pc of a plan
  abbrev stacks : (a : Allowed) (ks : List WordKind) (p : Plan) (out : List WordKind) → IsTyped a ks p out → List (List WordKind)
  stacks a ks Skip out t = []
  stacks a ks (Do i rest) out t = ks ∷ stacks a (afterwards code f i 0 ks) rest out t.3
  stacks a ks (Seq first rest) out t = stacks a ks first t.0 t.1 ++ stacks_if (reaches_end first) t.2 (stacks a t.0 rest out)
  stacks a ks (IfElse so other) out t = ks ∷ (stacks a t.0 so out t.2 ++ (cond (reaches_end so) (out ∷ []) [] ++ stacks a t.0 other out t.3))
  stacks a ks (IfThen so) out t = ks ∷ stacks a out so out t.1
  stacks a ks (Cycle test body post exit) out t =
      let bool = t.0 ++ kinds.Bool ∷ [] in
      stacks a [] test bool t.3 ++ (bool ∷ (stacks in_loop t.0 body [] t.4 ++ (stacks_if (turns body) t.5 (λ u. stacks a [] post [] u ++ [] ∷ []) ++ stacks a t.0 exit [] t.6)))
  stacks a ks (Endless body post) out t = stacks in_loop [] body [] t.2 ++ stacks_if (turns body) t.3 (λ u. stacks a [] post [] u ++ [] ∷ [])
  stacks a ks (Choose q make ways) out t = ks ∷ stacks (in_select a) t.0 ways [] t.5
  stacks a ks (Way js body others) out t = stacks a js body out t.2 ++ (cond (reaches_end body) (out ∷ []) [] ++ stacks a t.0 others out t.3)
  stacks a ks (LastWay js body) out t = stacks a js body out t.1
  stacks a ks Stop out t = ks ∷ []
  stacks a ks Leave out t = ks ∷ []
  stacks a ks Again out t = ks ∷ []

  stacks_size : (a : Allowed) (ks : List WordKind) (p : Plan) (out : List WordKind) (t : IsTyped a ks p out) → length (stacks a ks p out t) ≡ size p
  stacks_size a ks Skip out t = refl
  stacks_size a ks (Do i rest) out t = let e = stacks_size a (afterwards code f i 0 ks) rest out t.3 in omega (arith, e)
  stacks_size a ks (Seq first rest) out t =
      let sr = stacks_if (reaches_end first) t.2 (stacks a t.0 rest out) in
      omega (arith, length-append (stacks a ks first t.0 t.1) sr, stacks_size a ks first t.0 t.1, stacks_if_size (reaches_end first) t.2 (stacks a t.0 rest out) (size rest) (stacks_size a t.0 rest out))
  stacks_size a ks (IfElse so other) out t =
      let ss = stacks a t.0 so out t.2 in
      let so' = stacks a t.0 other out t.3 in
      let j = cond (reaches_end so) (out ∷ []) [] in
      omega (arith, length-append ss (j ++ so'), length-append j so', length_if (reaches_end so) (out ∷ []) 1 refl, stacks_size a t.0 so out t.2, stacks_size a t.0 other out t.3)
  stacks_size a ks (IfThen so) out t = let e = stacks_size a out so out t.1 in omega (arith, e)
  stacks_size a ks (Cycle test body post exit) out t =
      let bool = t.0 ++ kinds.Bool ∷ [] in
      let sb = stacks in_loop t.0 body [] t.4 in
      let ts : IsTyped a [] post [] → List (List WordKind) = λ u. stacks a [] post [] u ++ [] ∷ [] in
      let sl = stacks_if (turns body) t.5 ts in
      let se = stacks a t.0 exit [] t.6 in
      let round = stacks_if_size (turns body) t.5 ts (size post + 1) (λ u. omega (arith, length-append (stacks a [] post [] u) ([] ∷ []), stacks_size a [] post [] u)) in
      omega (arith, length-append (stacks a [] test bool t.3) (bool ∷ (sb ++ (sl ++ se))), length-append sb (sl ++ se), length-append sl se, round, stacks_size a [] test bool t.3, stacks_size in_loop t.0 body [] t.4, stacks_size a t.0 exit [] t.6)
  stacks_size a ks (Endless body post) out t =
      let ts : IsTyped a [] post [] → List (List WordKind) = λ u. stacks a [] post [] u ++ [] ∷ [] in
      let round = stacks_if_size (turns body) t.3 ts (size post + 1) (λ u. omega (arith, length-append (stacks a [] post [] u) ([] ∷ []), stacks_size a [] post [] u)) in
      omega (arith, length-append (stacks in_loop [] body [] t.2) (stacks_if (turns body) t.3 ts), round, stacks_size in_loop [] body [] t.2)
  stacks_size a ks (Choose q make ways) out t = let e = stacks_size (in_select a) t.0 ways [] t.5 in omega (arith, e)
  stacks_size a ks (Way js body others) out t =
      let sb = stacks a js body out t.2 in
      let so = stacks a t.0 others out t.3 in
      let j = cond (reaches_end body) (out ∷ []) [] in
      omega (arith, length-append sb (j ++ so), length-append j so, length_if (reaches_end body) (out ∷ []) 1 refl, stacks_size a js body out t.2, stacks_size a t.0 others out t.3)
  stacks_size a ks (LastWay js body) out t = stacks_size a js body out t.1
  stacks_size a ks Stop out t = refl
  stacks_size a ks Leave out t = refl
  stacks_size a ks Again out t = refl

  module _ (T : List (List WordKind)) where
    -- the instruction at a pc fits the stack there, and each pc to which it may lead has the stack that it leaves
    record Good (place : ℕ) (i : Instr) (ks : List WordKind) : Type 0 where
      named : Named code f i
      inside : Inside f place i
      directed : Directed code place i
      fits : Fits code f i ks
      leads : (k to : ℕ) → slice_get (ways_of code i place) k ≡ Some to → slice_get T to ≡ Some (afterwards code f i k ks)

    -- these instructions, from a pc on, are good for these stacks
    abbrev Covers : ℕ → List Instr → List (List WordKind) → Type 0
    Covers place [] [] = Unit {0}
    Covers place (i ∷ is) (ks ∷ ts) = Good place i ks × Covers (place + 1) is ts
    Covers place is ts = ⊥

    covers_append : (place : ℕ) (a b : List Instr) (x y : List (List WordKind)) (mid : ℕ) → mid ≡ place + length a → Covers place a x → Covers mid b y → Covers place (a ++ b) (x ++ y)
    covers_append place [] b [] y mid e g h = let z : mid ≡ place = omega (arith, e) in subst (λ n. Covers n b y) z h
    covers_append place [] b (k ∷ x) y mid e g h = absurd g
    covers_append place (i ∷ a) b [] y mid e g h = absurd g
    covers_append place (i ∷ a) b (k ∷ x) y mid e g h = (g.0, covers_append (place + 1) a b x y mid (omega (arith, e)) g.1 h)

    covers_at : (place : ℕ) (is : List Instr) (ts : List (List WordKind)) → Covers place is ts → (n : ℕ) (i : Instr) (ks : List WordKind) → slice_get is n ≡ Some i → slice_get ts n ≡ Some ks → Good (place + n) i ks
    covers_at place [] ts c n i ks a b = absurd cc
    covers_at place (j ∷ is) [] c n i ks a b = absurd c
    covers_at place (j ∷ is) (js ∷ ts) c zero i ks a b =
        let z : place ≡ place + 0 = omega arith in subst (λ m. Good m i ks) z (subst (λ x. Good place x ks) (same_Some j i a) (subst (Good place j) (same_Some js ks b) c.0))
    covers_at place (j ∷ is) (js ∷ ts) c (suc n) i ks a b = let z : place + 1 + n ≡ place + suc n = omega arith in subst (λ m. Good m i ks) z (covers_at (place + 1) is ts c.1 n i ks a b)

    -- a part that is there on a condition
    covers_if : {P : Type 0} (b : Bool) (place : ℕ) (is : List Instr) (t : OnTrue b P) (ts : P → List (List WordKind)) → Stand T place (stacks_if b t ts) → (IsTrue b → (u : P) → Stand T place (ts u) → Covers place is (ts u)) → Covers place (cond b is []) (stacks_if b t ts)
    covers_if true place is t ts s go = go refl t s
    covers_if false place is t ts s go = tt

    -- the first stack
    entry : (a : Allowed) (ks : List WordKind) (p : Plan) (out : List WordKind) (t : IsTyped a ks p out) (place end : ℕ) → end ≡ place + size p → Stand T place (stacks a ks p out t) → (IsTrue (reaches_end p) → slice_get T end ≡ Some out) → slice_get T place ≡ Some ks
    entry a ks Skip out t place end e s exit = let z : end ≡ place = omega (arith, e) in ap (slice_get T) (sym z) ∙ exit refl ∙ ap Some (sym t)
    entry a ks (Do i rest) out t place end e s exit = s.0
    entry a ks (Seq first rest) out t place end e s exit =
        let mid = place + size first in
        let x = split T place (stacks a ks first t.0 t.1) (stacks_if (reaches_end first) t.2 (stacks a t.0 rest out)) mid (omega (arith, stacks_size a ks first t.0 t.1)) s in
        entry a ks first t.0 t.1 place mid refl x.0
        (λ r. let y = stand_stacks T mid (reaches_end first) t.2 (stacks a t.0 rest out) r x.1 in entry a t.0 rest out y.0 mid end (omega (arith, e, cond-true (reaches_end first) (size rest) 0 r)) y.1 (λ z. exit (and_from _ _ r z)))
    entry a ks (IfElse so other) out t place end e s exit = s.0
    entry a ks (IfThen so) out t place end e s exit = s.0
    entry a ks (Cycle test body post exit) out t place end e s exits =
        let bool = t.0 ++ kinds.Bool ∷ [] in
        let sl = stacks_if (turns body) t.5 (λ u. stacks a [] post [] u ++ [] ∷ []) in
        let x = split T place (stacks a [] test bool t.3) (bool ∷ (stacks in_loop t.0 body [] t.4 ++ (sl ++ stacks a t.0 exit [] t.6))) (place + size test) (omega (arith, stacks_size a [] test bool t.3)) s in
        entry a [] test bool t.3 place (place + size test) refl x.0 (λ r. x.1.0) ∙ ap Some (sym t.1)
    entry a ks (Endless body post) out t place end e s exit =
        let post_at = place + size body in
        let turn = post_at + size post in
        let ts : IsTyped a [] post [] → List (List WordKind) = λ u. stacks a [] post [] u ++ [] ∷ [] in
        let x = split T place (stacks in_loop [] body [] t.2) (stacks_if (turns body) t.3 ts) post_at (omega (arith, stacks_size in_loop [] body [] t.2)) s in
        entry in_loop [] body [] t.2 place post_at refl x.0
        (λ r.
        let y = stand_stacks T post_at (turns body) t.3 ts (or_left _ _ r) x.1 in
        let z = split T post_at (stacks a [] post [] y.0) ([] ∷ []) turn (omega (arith, stacks_size a [] post [] y.0)) y.1 in
        entry a [] post [] y.0 post_at turn refl z.0 (λ w. z.1.0))
        ∙ ap Some (sym t.0)
    entry a ks (Choose q make ways) out t place end e s exit = s.0
    entry a ks (Way js body others) out t place end e s exit =
        let j = place + size body in
        let jump = cond (reaches_end body) (out ∷ []) [] in
        let so = stacks a t.0 others out t.3 in
        let x = split T place (stacks a js body out t.2) (jump ++ so) j (omega (arith, stacks_size a js body out t.2)) s in
        let y = split T j jump so (j + jump_size body) (omega (arith, length_if (reaches_end body) (out ∷ []) 1 refl)) x.1 in
        entry a js body out t.2 place j refl x.0 (stand_jump T j (reaches_end body) out y.0) ∙ ap Some (sym t.1)
    entry a ks (LastWay js body) out t place end e s exit = entry a js body out t.1 place end e s exit ∙ ap Some (sym t.0)
    entry a ks Stop out t place end e s exit = s.0
    entry a ks Leave out t place end e s exit = s.0
    entry a ks Again out t place end e s exit = s.0

    -- the breaks and continues of a plan lead to its end or past it, with an empty stack
    record Reached (a : Allowed) (p : Plan) (leave again end : ℕ) : Type 0 where
      by_break : IsTrue a.break → IsTrue (has_break p) → (end ≤ leave) × (slice_get T leave ≡ Some [])
      by_continue : IsTrue a.continue → IsTrue (has_continue p) → (end ≤ again) × (slice_get T again ≡ Some [])

    -- those of a part
    reached_in : (a : Allowed) (p part : Plan) (leave again end n : ℕ) → (IsTrue (has_break part) → IsTrue (has_break p)) → (IsTrue (has_continue part) → IsTrue (has_continue p)) → n ≤ end → Reached a p leave again end → Reached a part leave again n
    reached_in a p part leave again end n breaks continues le r = record {
      by_break = λ l b. let h = r.by_break l (breaks b) in (omega (arith, h.0, le), h.1);
      by_continue = λ l c. let h = r.by_continue l (continues c) in (omega (arith, h.0, le), h.1);
    }

    -- an instruction that takes nothing off the stack
    below_none : (ks : List WordKind) → below 0 ks ++ [] ≡ ks
    below_none ks = append-nil (below 0 ks) ∙ ap (λ (l : List WordKind). below 0 l) (sym (append-nil ks)) ∙ below_of ks [] 0 refl

    module _ (same : length T ≡ length f.instrs) where
      within : (to : ℕ) (ks : List WordKind) → slice_get T to ≡ Some ks → to < length f.instrs
      within to ks e = let lt = slice_get_within T to ks e in omega (arith, lt, same)

      one_way : (to : ℕ) (ks : List WordKind) → slice_get T to ≡ Some ks → (k way : ℕ) → slice_get (to ∷ []) k ≡ Some way → (js : List WordKind) → js ≡ ks → slice_get T way ≡ Some js
      one_way to ks e zero way w js is = ap (slice_get T) (sym (same_Some to way w)) ∙ e ∙ ap Some (sym is)
      one_way to ks e (suc k) way w js is = absurd cc

      plain_good : (i : Instr) (place : ℕ) (ks : List WordKind) → IsPlain i → Named code f i → Fits code f i ks → slice_get T (place + 1) ≡ Some (afterwards code f i 0 ks) → Good place i ks
      plain_good i place ks p named fits e = record {
        named = named;
        inside = (plain code f i p).inside place (within (place + 1) (afterwards code f i 0 ks) e);
        directed = (plain code f i p).directed place;
        fits = fits;
        leads = λ k to w. led k to (sym (ap (λ l. slice_get l k) ((plain code f i p).ways-is place)) ∙ w);
      } where
        led : (k to : ℕ) → slice_get ((place + 1) ∷ []) k ≡ Some to → slice_get T to ≡ Some (afterwards code f i k ks)
        led zero to w = ap (slice_get T) (sym (same_Some (place + 1) to w)) ∙ e
        led (suc k) to w = absurd cc

      jump_good : (place to : ℕ) (ks : List WordKind) → place < to → slice_get T to ≡ Some ks → Good place (instrs.Jump to) ks
      jump_good place to ks lt e = record { named = tt; inside = within to ks e; directed = lt; fits = (omega arith, tt); leads = λ k way w. one_way to ks e k way w (afterwards code f (instrs.Jump to) k ks) (below_none ks) }

      -- a jump that is there on a condition
      jump_covers : (b : Bool) (place to : ℕ) (ks : List WordKind) → (IsTrue b → place < to) → (IsTrue b → slice_get T to ≡ Some ks) → Covers place (cond b (instrs.Jump to ∷ []) []) (cond b (ks ∷ []) [])
      jump_covers true place to ks lt e = (jump_good place to ks (lt refl) (e refl), tt)
      jump_covers false place to ks lt e = tt

      loop_good : (place to : ℕ) (ks : List WordKind) → to ≤ place → slice_get T to ≡ Some ks → Good place (instrs.Loop to) ks
      loop_good place to ks le e = record { named = tt; inside = within to ks e; directed = le; fits = (omega arith, tt); leads = λ k way w. one_way to ks e k way w (afterwards code f (instrs.Loop to) k ks) (below_none ks) }

      unless_good : (place to : ℕ) (ks low : List WordKind) → ks ≡ low ++ kinds.Bool ∷ [] → place < to → slice_get T (place + 1) ≡ Some low → slice_get T to ≡ Some low → Good place (instrs.Unless to) ks
      unless_good place to ks low is lt e h = record {
        named = tt;
        inside = (within to low h, within (place + 1) low e);
        directed = lt;
        fits = subst (Fits code f (instrs.Unless to)) (sym is) (omega (arith, length-append low (kinds.Bool ∷ [])), top_of_is low (kinds.Bool ∷ []) 1 refl);
        leads = λ k way w. subst (λ (l : List WordKind). slice_get T way ≡ Some (afterwards code f (instrs.Unless to) k l)) (sym is) (two k way w);
      } where
        left : below 1 (low ++ kinds.Bool ∷ []) ++ [] ≡ low
        left = append-nil (below 1 (low ++ kinds.Bool ∷ [])) ∙ below_of low (kinds.Bool ∷ []) 1 refl

        two : (k way : ℕ) → slice_get ((place + 1) ∷ (to ∷ [])) k ≡ Some way → slice_get T way ≡ Some (afterwards code f (instrs.Unless to) k (low ++ kinds.Bool ∷ []))
        two zero way w = ap (slice_get T) (sym (same_Some (place + 1) way w)) ∙ e ∙ ap Some (sym left)
        two (suc zero) way w = ap (slice_get T) (sym (same_Some to way w)) ∙ h ∙ ap Some (sym left)
        two (suc (suc k)) way w = absurd cc

      return_good : (place : ℕ) (ks : List WordKind) → ks ≡ f.results → Good place instrs.Return ks
      return_good place ks e = record {
        named = tt;
        inside = tt;
        directed = tt;
        fits = (ap length (sym e), subst (λ (l : List WordKind). top_of (length f.results) l ≡ f.results) (sym e) (top_of_is [] f.results (length f.results) refl));
        leads = λ k to w. absurd cc;
      }

      select_good : (place q : ℕ) (ks : List WordKind) (table : SelectTable) → slice_get code.selects q ≡ Some table → Fits code f (instrs.Select q) ks → (first : List WordKind) → slice_get T (place + 1) ≡ Some first
          → ((k to : ℕ) → slice_get (targets table) k ≡ Some to → (slice_get T to ≡ Some (afterwards code f (instrs.Select q) k ks)) × (place < to)) → Good place (instrs.Select q) ks
      select_good place q ks table at fits first next each =
          let in_table : (k to : ℕ) → slice_get (targets_in (slice_get code.selects q)) k ≡ Some to → slice_get (targets table) k ≡ Some to = λ k to w. sym (ap (λ o. slice_get (targets_in o) k) at) ∙ w in
          record {
            named = (slice_get_within code.selects q table at, λ k to w. within to (afterwards code f (instrs.Select q) k ks) (each k to (in_table k to w)).0);
            inside = within (place + 1) first next;
            directed = λ k to w. (each k to (in_table k to w)).1;
            fits = fits;
            leads = λ k to w. (each k to (in_table k to w)).0;
          }

      -- the ways of a select begin after it, with their kinds
      entered : (a : Allowed) (ks : List WordKind) (p : Plan) (out : List WordKind) (t : IsTyped a ks p out) (place end : ℕ) → end ≡ place + size p → Stand T place (stacks a ks p out t) → (IsTrue (reaches_end p) → slice_get T end ≡ Some out) → (k to : ℕ) → slice_get (starts place p) k ≡ Some to
          → (js : List WordKind) × (slice_get (entries p) k ≡ Some js) × (slice_get T to ≡ Some js) × (place ≤ to)
      entered a ks (Way js body others) out t place end e s exit zero to at =
          let z = same_Some place to at in (js, refl, ap (slice_get T) (sym z) ∙ entry a ks (Way js body others) out t place end e s exit ∙ ap Some t.1, omega (arith, z))
      entered a ks (Way js body others) out t place end e s exit (suc k) to at =
          let j = place + size body in
          let jump = cond (reaches_end body) (out ∷ []) [] in
          let so = stacks a t.0 others out t.3 in
          let x = split T place (stacks a js body out t.2) (jump ++ so) j (omega (arith, stacks_size a js body out t.2)) s in
          let y = split T j jump so (j + jump_size body) (omega (arith, length_if (reaches_end body) (out ∷ []) 1 refl)) x.1 in
          let h = entered a t.0 others out t.3 (j + jump_size body) end (omega (arith, e)) y.1 (λ r. exit (or_right _ _ r)) k to at in
          (h.0, h.1, h.2, omega (arith, h.3))
      entered a ks (LastWay js body) out t place end e s exit zero to at = let z = same_Some place to at in (js, refl, ap (slice_get T) (sym z) ∙ entry a js body out t.1 place end e s exit, omega (arith, z))
      entered a ks p out t place end e s exit k to at = absurd cc

      -- each pc of a plan is good if its end, breaks and continues lead to pcs that have the stack that they leave
      covers : (a : Allowed) (ks : List WordKind) (p : Plan) (out : List WordKind) (t : IsTyped a ks p out) (leave again place end : ℕ) → Tabled code.selects place p → end ≡ place + size p → Stand T place (stacks a ks p out t) → (IsTrue (reaches_end p) → slice_get T end ≡ Some out) → Reached a p leave again end
          → Covers place (flat leave again place p) (stacks a ks p out t)
      covers a ks Skip out t leave again place end tab e s exit loop = tt
      covers a ks (Do i rest) out t leave again place end tab e s exit loop =
          let js = afterwards code f i 0 ks in
          let z : end ≡ place + 1 + size rest = omega (arith, e) in
          (plain_good i place ks t.0 t.1 t.2 (entry a js rest out t.3 (place + 1) end z s.1 exit), covers a js rest out t.3 leave again (place + 1) end tab z s.1 exit (reached_in a (Do i rest) rest leave again end end (λ b. b) (λ c. c) (omega arith) loop))
      covers a ks (Seq first rest) out t leave again place end tab e s exit loop =
          let mid = place + size first in
          let sf = stacks a ks first t.0 t.1 in
          let ts = stacks a t.0 rest out in
          let x = split T place sf (stacks_if (reaches_end first) t.2 ts) mid (omega (arith, stacks_size a ks first t.0 t.1)) s in
          let z : IsTrue (reaches_end first) → end ≡ mid + size rest = λ r. omega (arith, e, cond-true (reaches_end first) (size rest) 0 r) in
          let at_mid : IsTrue (reaches_end first) → slice_get T mid ≡ Some t.0 = λ r. let y = stand_stacks T mid (reaches_end first) t.2 ts r x.1 in entry a t.0 rest out y.0 mid end (z r) y.1 (λ w. exit (and_from _ _ r w)) in
          covers_append place (flat leave again place first) (cond (reaches_end first) (flat leave again mid rest) []) sf (stacks_if (reaches_end first) t.2 ts) mid (omega (arith, flat_size leave again place first))
          (covers a ks first t.0 t.1 leave again place mid tab.0 refl x.0 at_mid (reached_in a (Seq first rest) first leave again end mid (or_left _ _) (or_left _ _) (omega (arith, e)) loop))
          (covers_if (reaches_end first) mid (flat leave again mid rest) t.2 ts x.1
          (λ r u su. covers a t.0 rest out u leave again mid end (OnTrue_at r tab.1) (z r) su (λ w. exit (and_from _ _ r w)) (reached_in a (Seq first rest) rest leave again end end (λ b. or_right _ _ (and_from _ _ r b)) (λ c. or_right _ _ (and_from _ _ r c)) (omega arith) loop)))
      covers a ks (IfElse so other) out t leave again place end tab e s exit loop =
          let j = place + 1 + size so in
          let next = j + jump_size so in
          let ss = stacks a t.0 so out t.2 in
          let st = stacks a t.0 other out t.3 in
          let sj = cond (reaches_end so) (out ∷ []) [] in
          let fo = flat leave again next other in
          let jump = jump_after so (next + size other) in
          let z : end ≡ next + size other = omega (arith, e) in
          let x = split T (place + 1) ss (sj ++ st) j (omega (arith, stacks_size a t.0 so out t.2)) s.1 in
          let y = split T j sj st next (omega (arith, length_if (reaches_end so) (out ∷ []) 1 refl)) x.1 in
          let from_so = stand_jump T j (reaches_end so) out y.0 in
          let from_other : IsTrue (reaches_end other) → slice_get T end ≡ Some out = λ r. exit (or_right _ _ r) in
          let from_jump : IsTrue (reaches_end so) → slice_get T (next + size other) ≡ Some out = λ r. ap (slice_get T) (sym z) ∙ exit (or_left _ _ r) in (
            unless_good place next ks t.0 t.1 (omega arith) (entry a t.0 so out t.2 (place + 1) j refl x.0 from_so) (entry a t.0 other out t.3 next end z y.1 from_other),
            covers_append (place + 1) (flat leave again (place + 1) so) (jump ++ fo) ss (sj ++ st) j (omega (arith, flat_size leave again (place + 1) so))
                (covers a t.0 so out t.2 leave again (place + 1) j tab.0 refl x.0 from_so (reached_in a (IfElse so other) so leave again end j (or_left _ _) (or_left _ _) (omega (arith, e)) loop))
                (covers_append j jump fo sj st next (omega (arith, jump_after_size so (next + size other))) (jump_covers (reaches_end so) j (next + size other) out (λ r. omega (arith, one_jump so r)) from_jump)
                (covers a t.0 other out t.3 leave again next end tab.1 z y.1 from_other (reached_in a (IfElse so other) other leave again end end (or_right _ _) (or_right _ _) (omega arith) loop))),
          )
      covers a ks (IfThen so) out t leave again place end tab e s exit loop =
          let z : end ≡ place + 1 + size so = omega (arith, e) in
          let at_end = exit refl in (
            unless_good place (place + 1 + size so) ks out t.0 (omega arith) (entry a out so out t.1 (place + 1) end z s.1 (λ r. at_end)) (ap (slice_get T) (sym z) ∙ at_end),
            covers a out so out t.1 leave again (place + 1) end tab z s.1 (λ r. at_end) (reached_in a (IfThen so) so leave again end end (λ b. b) (λ c. c) (omega arith) loop),
          )
      covers a ks (Cycle test body post exit) out t leave again place end tab e s exits loop =
          let low = t.0 in
          let bool = low ++ kinds.Bool ∷ [] in
          let st = stacks a [] test bool t.3 in
          let sb = stacks in_loop low body [] t.4 in
          let ts : IsTyped a [] post [] → List (List WordKind) = λ u. stacks a [] post [] u ++ [] ∷ [] in
          let sl = stacks_if (turns body) t.5 ts in
          let se = stacks a low exit [] t.6 in
          let check = place + size test in
          let body_at = check + 1 in
          let post_at = body_at + size body in
          let turn = post_at + size post in
          let exit_at = post_at + cond (turns body) (size post + 1) 0 in
          let stop = exit_at + size exit in
          let ft = flat leave again place test in
          let fb = flat stop post_at body_at body in
          let fp = flat leave again post_at post in
          let fl = cond (turns body) (fp ++ instrs.Loop place ∷ []) [] in
          let fe = flat leave again exit_at exit in
          let z : end ≡ stop = omega (arith, e) in
          let one_turn : IsTrue (turns body) → exit_at ≡ turn + 1 = λ r. omega (arith, cond-true (turns body) (size post + 1) 0 r) in
          let round = length_if (turns body) (fp ++ instrs.Loop place ∷ []) (size post + 1) (omega (arith, length-append fp (instrs.Loop place ∷ []), flat_size leave again post_at post)) in
          let round' = stacks_if_size (turns body) t.5 ts (size post + 1) (λ u. omega (arith, length-append (stacks a [] post [] u) ([] ∷ []), stacks_size a [] post [] u)) in
          let x1 = split T place st (bool ∷ (sb ++ (sl ++ se))) check (omega (arith, stacks_size a [] test bool t.3)) s in
          let x2 = split T body_at sb (sl ++ se) post_at (omega (arith, stacks_size in_loop low body [] t.4)) x1.1.1 in
          let x3 = split T post_at sl se exit_at (omega (arith, round')) x2.1 in
          let at_stop : slice_get T stop ≡ Some [] = ap (slice_get T) (sym z) ∙ exits refl ∙ ap Some t.2 in
          let at_place = entry a [] test bool t.3 place check refl x1.0 (λ r. x1.1.0) in
          let of_post = λ (u : IsTyped a [] post []) (su : Stand T post_at (ts u)). split T post_at (stacks a [] post [] u) ([] ∷ []) turn (omega (arith, stacks_size a [] post [] u)) su in
          let at_post : IsTrue (turns body) → slice_get T post_at ≡ Some [] = λ r. let y = stand_stacks T post_at (turns body) t.5 ts r x3.0 in let y' = of_post y.0 y.1 in entry a [] post [] y.0 post_at turn refl y'.0 (λ w. y'.1.0) in
          let at_body = entry in_loop low body [] t.4 body_at post_at refl x2.0 (λ r. at_post (or_left _ _ r)) in
          let at_exit = entry a low exit [] t.6 exit_at stop refl x3.1 (λ r. at_stop) in
          covers_append place ft (instrs.Unless exit_at ∷ (fb ++ (fl ++ fe))) st (bool ∷ (sb ++ (sl ++ se))) check (omega (arith, flat_size leave again place test))
          (covers a [] test bool t.3 leave again place check tab.0 refl x1.0 (λ r. x1.1.0) (reached_in a (Cycle test body post exit) test leave again end check (or_left _ _) (or_left _ _) (omega (arith, z)) loop)) (
            unless_good check exit_at bool low refl (omega arith) at_body at_exit,
            covers_append body_at fb (fl ++ fe) sb (sl ++ se) post_at (omega (arith, flat_size stop post_at body_at body))
                (covers in_loop low body [] t.4 stop post_at body_at post_at tab.1 refl x2.0 (λ r. at_post (or_left _ _ r)) (record { by_break = λ l b. (omega arith, at_stop); by_continue = λ l c. (omega arith, at_post (or_right _ _ c)) }))
                (covers_append post_at fl fe sl se exit_at (omega (arith, round))
                (covers_if (turns body) post_at (fp ++ instrs.Loop place ∷ []) t.5 ts x3.0
                (λ r u su.
                let y = of_post u su in
                covers_append post_at fp (instrs.Loop place ∷ []) (stacks a [] post [] u) ([] ∷ []) turn (omega (arith, flat_size leave again post_at post))
                (covers a [] post [] u leave again post_at turn (OnTrue_at r tab.2) refl y.0 (λ w. y.1.0)
                (reached_in a (Cycle test body post exit) post leave again end turn (λ b. or_right _ _ (or_left _ _ (and_from _ _ r b))) (λ c. or_right _ _ (or_left _ _ (and_from _ _ r c))) (omega (arith, z, one_turn r)) loop))
                (loop_good turn place [] (omega arith) at_place, tt)))
                (covers a low exit [] t.6 leave again exit_at stop tab.3 refl x3.1 (λ r. at_stop) (reached_in a (Cycle test body post exit) exit leave again end stop (λ b. or_right _ _ (or_right _ _ b)) (λ c. or_right _ _ (or_right _ _ c)) (omega (arith, z)) loop))),
          )
      covers a ks (Endless body post) out t leave again place end tab e s exit loop =
          let sb = stacks in_loop [] body [] t.2 in
          let ts : IsTyped a [] post [] → List (List WordKind) = λ u. stacks a [] post [] u ++ [] ∷ [] in
          let sl = stacks_if (turns body) t.3 ts in
          let post_at = place + size body in
          let turn = post_at + size post in
          let stop = post_at + cond (turns body) (size post + 1) 0 in
          let fb = flat stop post_at place body in
          let fp = flat leave again post_at post in
          let fl = cond (turns body) (fp ++ instrs.Loop place ∷ []) [] in
          let z : end ≡ stop = omega (arith, e) in
          let one_turn : IsTrue (turns body) → stop ≡ turn + 1 = λ r. omega (arith, cond-true (turns body) (size post + 1) 0 r) in
          let x = split T place sb sl post_at (omega (arith, stacks_size in_loop [] body [] t.2)) s in
          let of_post = λ (u : IsTyped a [] post []) (su : Stand T post_at (ts u)). split T post_at (stacks a [] post [] u) ([] ∷ []) turn (omega (arith, stacks_size a [] post [] u)) su in
          let at_post : IsTrue (turns body) → slice_get T post_at ≡ Some [] = λ r. let y = stand_stacks T post_at (turns body) t.3 ts r x.1 in let y' = of_post y.0 y.1 in entry a [] post [] y.0 post_at turn refl y'.0 (λ w. y'.1.0) in
          let at_place = entry in_loop [] body [] t.2 place post_at refl x.0 (λ r. at_post (or_left _ _ r)) in
          covers_append place fb fl sb sl post_at (omega (arith, flat_size stop post_at place body))
          (covers in_loop [] body [] t.2 stop post_at place post_at tab.0 refl x.0 (λ r. at_post (or_left _ _ r)) (record { by_break = λ l b. (omega arith, ap (slice_get T) (sym z) ∙ exit b ∙ ap Some t.1); by_continue = λ l c. (omega arith, at_post (or_right _ _ c)) }))
          (covers_if (turns body) post_at (fp ++ instrs.Loop place ∷ []) t.3 ts x.1
          (λ r u su.
          let y = of_post u su in
          covers_append post_at fp (instrs.Loop place ∷ []) (stacks a [] post [] u) ([] ∷ []) turn (omega (arith, flat_size leave again post_at post))
          (covers a [] post [] u leave again post_at turn (OnTrue_at r tab.1) refl y.0 (λ w. y.1.0) (reached_in a (Endless body post) post leave again end turn (and_from _ _ r) (and_from _ _ r) (omega (arith, z, one_turn r)) loop))
          (loop_good turn place [] (omega arith) at_place, tt)))
      covers a ks (Choose q make ways) out t leave again place end tab e s exit loop =
          let mid = place + 1 + size ways in
          let z : end ≡ mid = omega (arith, e) in
          let left : IsTrue (reaches_end (Choose q make ways)) → slice_get T mid ≡ Some [] = λ r. ap (slice_get T) (sym z) ∙ exit r ∙ ap Some t.1 in
          let by_end : IsTrue (reaches_end ways) → slice_get T mid ≡ Some [] = λ r. left (or_left _ _ r) in
          let at_ways = entry (in_select a) t.0 ways [] t.5 (place + 1) mid refl s.1 by_end in (
            select_good place q ks (make (starts (place + 1) ways)) tab.0 t.2 t.0 at_ways
                (λ k to at. let w = entered (in_select a) t.0 ways [] t.5 (place + 1) mid refl s.1 by_end k to (sym (ap (λ (l : List ℕ). slice_get l k) (t.3 (place + 1)).0) ∙ at) in (w.2 ∙ ap Some (t.4 k w.0 w.1), omega (arith, w.3))),
            covers (in_select a) t.0 ways [] t.5 mid again (place + 1) mid tab.1 refl s.1 by_end
                (record { by_break = λ l b. (omega arith, left (or_right _ _ b)); by_continue = λ l c. let h = loop.by_continue l c in (omega (arith, h.0, z), h.1) }),
          )
      covers a ks (Way js body others) out t leave again place end tab e s exit loop =
          let j = place + size body in
          let next = j + jump_size body in
          let sb = stacks a js body out t.2 in
          let so = stacks a t.0 others out t.3 in
          let sj = cond (reaches_end body) (out ∷ []) [] in
          let fo = flat leave again next others in
          let jump = jump_after body (next + size others) in
          let z : end ≡ next + size others = omega (arith, e) in
          let x = split T place sb (sj ++ so) j (omega (arith, stacks_size a js body out t.2)) s in
          let y = split T j sj so next (omega (arith, length_if (reaches_end body) (out ∷ []) 1 refl)) x.1 in
          covers_append place (flat leave again place body) (jump ++ fo) sb (sj ++ so) j (omega (arith, flat_size leave again place body))
          (covers a js body out t.2 leave again place j tab.0 refl x.0 (stand_jump T j (reaches_end body) out y.0) (reached_in a (Way js body others) body leave again end j (or_left _ _) (or_left _ _) (omega (arith, e)) loop))
          (covers_append j jump fo sj so next (omega (arith, jump_after_size body (next + size others)))
          (jump_covers (reaches_end body) j (next + size others) out (λ r. omega (arith, one_jump body r)) (λ r. ap (slice_get T) (sym z) ∙ exit (or_left _ _ r)))
          (covers a t.0 others out t.3 leave again next end tab.1 z y.1 (λ r. exit (or_right _ _ r)) (reached_in a (Way js body others) others leave again end end (or_right _ _) (or_right _ _) (omega arith) loop)))
      covers a ks (LastWay js body) out t leave again place end tab e s exit loop = covers a js body out t.1 leave again place end tab e s exit (reached_in a (LastWay js body) body leave again end end (λ b. b) (λ c. c) (omega arith) loop)
      covers a ks Stop out t leave again place end tab e s exit loop = (return_good place ks t, tt)
      covers a ks Leave out t leave again place end tab e s exit loop = let h = loop.by_break t.0 refl in (jump_good place leave ks (omega (arith, h.0, e)) (h.1 ∙ ap Some (sym t.1)), tt)
      covers a ks Again out t leave again place end tab e s exit loop = let h = loop.by_continue t.0 refl in (jump_good place again ks (omega (arith, h.0, e)) (h.1 ∙ ap Some (sym t.1)), tt)

      -- ---- paths

      module _ (first : slice_get T 0 ≡ Some []) (all : Covers 0 f.instrs T) where
        good_at : (place : ℕ) (i : Instr) (ks : List WordKind) → slice_get f.instrs place ≡ Some i → slice_get T place ≡ Some ks → Good place i ks
        good_at place i ks a b = let z : 0 + place ≡ place = omega arith in subst (λ n. Good n i ks) z (covers_at 0 f.instrs T all place i ks a b)

        on_path : (n place : ℕ) (ks : List WordKind) → Path code f n place ks → slice_get T place ≡ Some ks
        on_path zero place ks p = ap (slice_get T) p.0 ∙ first ∙ ap Some (sym p.1)
        on_path (suc n) place ks (from, js, i, k, p, here, fits, way, out) = (good_at from i js here (on_path n from js p)).leads k place way ∙ ap Some (sym out)

        stood : (place : ℕ) (i : Instr) → slice_get f.instrs place ≡ Some i → (ks : List WordKind) × Good place i ks
        stood place i at =
            let lt = slice_get_within f.instrs place i at in
            let k = get_some T place (omega (arith, lt, same)) in
            (k.0, good_at place i k.0 at k.1)

        holds : f.params ≤ length f.locals → AreThere code f.locals → AreThere code f.results → Holds code f
        holds params locals results = record {
          headed = record { filled = let lt = slice_get_within T 0 [] first in omega (arith, lt, same); params = params; locals = locals; results = results };
          named = λ place i at. let g = stood place i at in (g.1.named, g.1.inside);
          directed = λ place i at. (stood place i at).1.directed;
          fit = λ n place ks p.
              let e = on_path n place ks p in
              let lt = slice_get_within T place ks e in
              let i = get_some f.instrs place (omega (arith, lt, same)) in
              (i.0, i.1, (good_at place i.0 ks i.1 e).fits);
          same = λ n m place ks js p q. same_Some ks js (sym (on_path n place ks p) ∙ on_path m place js q);
        }

  -- a function keeps the verifier's rules whose code is that of a typed plan, which has no break and continue that lead out of it, and whose end
  -- can't be reached
  pub holds_by : (p : Plan) (out : List WordKind) → Tabled code.selects 0 p → f.instrs ≡ flat 0 0 0 p → Typed code f outside [] p out → reaches_end p ≡ false → f.params ≤ length f.locals → AreThere code f.locals → AreThere code f.results → Holds code f
  holds_by p out tab is t ends params locals results =
      let a : Allowed = outside in
      let T = stacks a [] p out t in
      let same : length T ≡ length f.instrs = stacks_size a [] p out t ∙ sym (flat_size 0 0 0 p) ∙ ap length (sym is) in
      let exit : IsTrue (reaches_end p) → slice_get T (0 + size p) ≡ Some out = λ r. absurd (false≢true (sym ends ∙ r)) in
      let none : Reached T a p 0 0 (0 + size p) = record { by_break = λ l b. absurd (false≢true l); by_continue = λ l c. absurd (false≢true l) } in
      holds T same (entry T a [] p out t 0 (0 + size p) refl (whole T) exit) (subst (λ (l : List Instr). Covers T 0 l T) (sym is) (covers T same a [] p out t 0 0 0 (0 + size p) tab refl (whole T) exit none)) params locals results
