-- What is required of what is made of statements, and what is so of it; sequences, conditions and loops by their parts.
use Rattle.std.proofs.Common.{◌≡◌, ℕ, zero, suc, ◌+◌, List, [], ◌∷◌, ◌++◌, length, Option, Some, None, IsTrue, IfSome, refl, sym, ap, ◌∙◌, subst, arith, slice_get, inl, inr}
use Rattle.std.proofs.lemmas.Bool.{OnTrue_from, OnTrue_at}
use Rattle.syntax.specs.Tree.{Expression, Simple, CallAlone, Close, Print, ReceiveAlone, Send, Increment, Decrement, Assign, Define, Update}
use Rattle.bytecode.specs.declared.instr.WordKind.{WordKind}
use Rattle.bytecode.specs.declared.instr.WordKind.TheVariants as kinds
use Rattle.bytecode.specs.Code.{Function as CodeFunction, Code, PrintTable}
use Rattle.type_table.specs.Scopes.{Globals, Scope, Yield}
use Rattle.typing_rules.specs.Expressions.{nodes_of, ConditionHas, TestHas}
use Rattle.typing_rules.specs.Statements.{IfSimpleHas, IfTestHas, after_any}
use Rattle.codegen_base.specs.declared.element.Element.{Element}
use Rattle.codegen_base.specs.Layouts.{Layout, entering, leaving, following_simple}
use Rattle.codegen_base.specs.Generated.{Site, Made, followed, ended, loop, tests, test_plan, made_any, made_post, made_if, made_else}
use Rattle.syntax.specs.Grammar.{IsStill, StillAny}
use Rattle.codegen_base.proofs.Alike.{Alike}
use Rattle.codegen_base.proofs.StatementMakes.{OneMakes, SimpleMakes}
use Rattle.codegen_base.proofs.Typing.{Free, nodes_end, worth_there}
use Rattle.plan.specs.Plan.{Plan, Skip, Seq, IfElse, IfThen, reaches_end, turns}
use Rattle.plan.proofs.Tables.{Tabled}
use Rattle.plan.proofs.Typed.{Allowed, in_loop, Typed}
use Rattle.codegen_fine.proofs.Sees.{Sees, worth_sees, known_sees}
use Rattle.codegen_fine.proofs.Operands.{Grounds}
use Rattle.codegen_fine.proofs.Branches.{typed_test}
use Rattle.codegen_fine.proofs.Places.{housed_of}
use Rattle.codegen_fine.proofs.Layouts.{Longer, Begins, begins_before, Room, room_entering, room_leaving}
use Rattle.codegen_fine.proofs.Simples.{Prints, typed_still, typed_simple}
use Rattle.codegen_fine.proofs.Conditions.{condition_fits}
use Rattle.codegen_base.proofs.Before.{before_tabled, pushes_before}

-- ---- print tables

front_there : (xs ys : List PrintTable) (n : ℕ) (x : PrintTable) → slice_get xs n ≡ Some x → slice_get (xs ++ ys) n ≡ Some x
front_there [] ys n x e = absurd cc
front_there (y ∷ xs) ys zero x e = e
front_there (y ∷ xs) ys (suc n) x e = front_there xs ys n x e

back_there : (xs ys : List PrintTable) (n : ℕ) (x : PrintTable) → slice_get ys n ≡ Some x → slice_get (xs ++ ys) (length xs + n) ≡ Some x
back_there [] ys n x e = let z : 0 + n ≡ n = omega arith in subst (λ k. slice_get ys k ≡ Some x) (sym z) e
back_there (y ∷ xs) ys n x e = let z : length (y ∷ xs) + n ≡ suc (length xs + n) = omega arith in subst (λ k. slice_get (y ∷ (xs ++ ys)) k ≡ Some x) (sym z) (back_there xs ys n x e)

pub prints_front : (code : Code) (first : ℕ) (xs ys : List PrintTable) → Prints code first (xs ++ ys) → Prints code first xs
prints_front code first xs ys h n x e = h n x (front_there xs ys n x e)

pub prints_back : (code : Code) (first : ℕ) (xs ys : List PrintTable) → Prints code first (xs ++ ys) → Prints code (first + length xs) ys
prints_back code first xs ys h n x e = let z : first + length xs + n ≡ first + (length xs + n) = omega arith in subst (λ k. slice_get code.prints k ≡ Some x) (sym z) (h (length xs + n) x (back_there xs ys n x e))

module _ (globals : Globals) (elements : List Element) (code : Code) (f : CodeFunction) (grounds : Grounds globals elements code) where
  -- what is made of statements leads from an empty stack to an empty one, if its selects find their tables
  abbrev pub Runs : Allowed → Plan → Type 0
  Runs a plan = (place : ℕ) → Tabled code.selects place plan → Typed code f a [] plan []

  pub record IsMade (a : Allowed) (made : Made) : Type 0 where
    pub runs : Runs a made.plan
    pub room : Room globals elements code f made.layout

  -- the variables after it are those that the typing rules see
  abbrev pub IsMadeAlike : Allowed → Made → Scope → Type 0
  IsMadeAlike a made after = IsMade a made × Alike after made.layout.scope

  -- its locals and its print tables are the program's
  pub record Fits (first : ℕ) (made : Made) : Type 0 where
    pub begins : Begins f made.layout
    pub prints : Prints code first made.prints

  pub fits_first : (first : ℕ) (a b : Made) → Longer a.layout b.layout → Fits first (followed a b) → Fits first a
  fits_first first a b longer h = record { begins = begins_before f a.layout b.layout longer h.begins; prints = prints_front code first a.prints b.prints h.prints }

  pub fits_rest : (first : ℕ) (a b : Made) → Fits first (followed a b) → Fits (first + length a.prints) b
  fits_rest first a b h = record { begins = h.begins; prints = prints_back code first a.prints b.prints h.prints }

  -- a layout with the same locals
  pub fits_as : (first : ℕ) (a b : Made) → b.layout.locals ≡ a.layout.locals → b.prints ≡ a.prints → Fits first a → Fits first b
  fits_as first a b same prints h =
      record { begins = record { more = h.begins.more; is = h.begins.is ∙ ap (λ (l : List WordKind). l ++ h.begins.more) (sym same) }; prints = subst (Prints code first) (sym prints) h.prints }

  -- ---- sequences

  pub runs_seq : (a : Allowed) (first rest : Plan) → Runs a first → (IsTrue (reaches_end first) → Runs a rest) → Runs a (Seq first rest)
  runs_seq a first rest x y place tabled = ([], x place tabled.0, OnTrue_from (reaches_end first) (Typed code f a [] rest []) (λ e. y e _ (OnTrue_at e tabled.1)))

  pub made_followed : (a : Allowed) (x y : Made) → IsMade a x → IsMade a y → IsMade a (followed x y)
  made_followed a x y p q = record { runs = runs_seq a x.plan y.plan p.runs (λ e. q.runs); room = q.room }

  pub made_ended : (a : Allowed) (outer : Layout) (x : Made) → Room globals elements code f outer → IsMade a x → IsMade a (ended outer x)
  made_ended a outer x room p = record { runs = p.runs; room = room_leaving globals elements code f outer x.layout room p.room }

  -- ---- conditions

  module _ (layout : Layout) (room : Room globals elements code f layout) (s : Scope) (sees : Sees s layout.scope) where
    pub typed_tests : (condition : Expression) (first : ℕ) → Free (TestHas globals s first condition) → OneMakes globals elements condition → (a : Allowed) (ks out : List WordKind) (rest : Plan) → Typed code f a (ks ++ kinds.Bool ∷ []) rest out → Typed code f a ks (tests globals elements layout condition rest) out
    typed_tests condition first free makes a ks out rest t =
        let w = worth_there globals s grounds.types_known (known_sees s layout.scope sees (housed_of globals elements f layout.scope room.housed).known) condition first (λ violation h. free violation (inl h)) in
        let fit = condition_fits w.0 (nodes_of first condition) (nodes_end first condition) (λ violation h. free violation (inr (subst (λ o. ConditionHas o (nodes_of first condition) violation) (sym w.1) h))) in
        typed_test globals elements code f grounds layout.scope (housed_of globals elements f layout.scope room.housed) s sees condition first (λ violation h. free violation (inl h)) makes w.0 (sym (worth_sees s layout.scope sees globals condition) ∙ w.1) fit a ks out rest t

    pub runs_if : (result : Yield) (condition : Expression) (first : ℕ) → Free (TestHas globals s first condition) → OneMakes globals elements condition → (a : Allowed) (so : Made) → IsMade a so → IsMade a (made_if globals elements result layout condition so)
    runs_if _ condition first free makes a so p = record {
      runs = λ place tabled.
          let t = before_tabled code.selects (IfThen so.plan) (tests globals elements layout condition (IfThen so.plan)) place (pushes_before globals elements layout.scope _ condition (IfThen so.plan)) tabled in
          typed_tests condition first free makes a [] [] (IfThen so.plan) (refl, p.runs (t.0 + 1) t.1);
      room = p.room;
    }

    pub runs_else : (result : Yield) (condition : Expression) (first : ℕ) → Free (TestHas globals s first condition) → OneMakes globals elements condition → (a : Allowed) (so other : Made) → IsMade a so → IsMade a other → IsMade a (made_else globals elements result layout condition so other)
    runs_else _ condition first free makes a so other p q = record {
      runs = λ place tabled.
          let t = before_tabled code.selects (IfElse so.plan other.plan) (tests globals elements layout condition (IfElse so.plan other.plan)) place (pushes_before globals elements layout.scope _ condition (IfElse so.plan other.plan)) tabled in
          typed_tests condition first free makes a [] [] (IfElse so.plan other.plan) ([], refl, p.runs (t.0 + 1) t.1.0, q.runs _ t.1.1);
      room = q.room;
    }

    -- ---- loops

    pub runs_loop : (condition : Option Expression) (first : ℕ) → Free (IfTestHas globals s first condition) → IfSome condition (OneMakes globals elements) → (a : Allowed) (body post : Plan) → Runs in_loop body → Runs a post → Runs a (loop (test_plan globals elements layout condition) body post)
    runs_loop None first free makes a body post x y place tabled = (refl, refl, x place tabled.0, OnTrue_from (turns body) (Typed code f a [] post []) (λ e. y _ (OnTrue_at e tabled.1)))
    runs_loop (Some condition) first free makes a body post x y place tabled =
        ([], refl, refl, typed_tests condition first free makes a [] (kinds.Bool ∷ []) Skip refl, x _ tabled.1, OnTrue_from (turns body) (Typed code f a [] post []) (λ e. y _ (OnTrue_at e tabled.2)), refl)

  -- ---- headers

  module _ (site : Site) (room : Room globals elements code f site.layout) (s : Scope) where
    pub typed_any : (simple : Option Simple) (first : ℕ) (a : Allowed) → Alike s site.layout.scope → Free (IfSimpleHas globals s first simple) → IfSome simple (SimpleMakes globals elements) → Fits site.prints (made_any globals elements site simple) → IsMadeAlike a (made_any globals elements site simple) (after_any globals s simple)
    typed_any None first a alike free makes fits = (record { runs = λ place tabled. refl; room = room }, alike)
    typed_any (Some simple) first a alike free makes fits =
        let d = typed_simple globals elements code f grounds site.layout room s alike site.prints simple first free makes fits.begins fits.prints in
        (record { runs = λ place tabled. d.leaves a [] [] refl; room = d.room }, d.alike)

module _ (globals : Globals) (elements : List Element) (code : Code) (f : CodeFunction) (grounds : Grounds globals elements code) where
  still_after : (simple : Simple) (layout : Layout) → IsStill simple → following_simple globals elements simple layout ≡ layout
  still_after (Define names right) layout still = absurd still
  still_after (CallAlone a b) layout still = refl
  still_after (Close a) layout still = refl
  still_after (Print a b c) layout still = refl
  still_after (ReceiveAlone a) layout still = refl
  still_after (Send a b) layout still = refl
  still_after (Increment a) layout still = refl
  still_after (Decrement a) layout still = refl
  still_after (Assign a b) layout still = refl
  still_after (Update a b c) layout still = refl

  pub typed_post : (header : Layout) (site : Site) → Room globals elements code f header → Room globals elements code f site.layout → (s : Scope) → Sees s site.layout.scope → (post : Option Simple) (first : ℕ) (a : Allowed) → StillAny post → Free (IfSimpleHas globals s first post) → IfSome post (SimpleMakes globals elements)
      → Prints code site.prints (made_post globals elements header site post).prints → IsMade globals elements code f grounds a (made_post globals elements header site post)
  typed_post header site outer room s sees None first a still free makes prints = record { runs = λ place tabled. refl; room = room }
  typed_post header site outer room s sees (Some simple) first a still free makes prints =
      let within = entering site.layout in
      let inner = room_entering globals elements code f site.layout room in
      record {
        runs = λ place tabled. typed_still globals elements code f grounds within inner s sees site.prints simple first still free makes prints a [] [] refl;
        room = subst (λ (x : Layout). Room globals elements code f (leaving header x)) (sym (still_after simple within still)) (room_leaving globals elements code f header within outer inner);
      }
