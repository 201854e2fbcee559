-- The statements of a block sit where their code is.
use Rattle.std.proofs.Common.{◌≡◌, ℕ, zero, suc, ◌+◌, ◌≤◌, Bool, true, false, List, [], ◌∷◌, ◌++◌, length, take, Option, Some, None, IfSome, refl, sym, ap, ◌∙◌, subst, arith, length-append, slice_get, inl, inr}
use Rattle.std.specs.Prelude.{if◌then◌else◌}
use Rattle.syntax.specs.Tree.{Statement, Statements, NoStatement, Then}
use Rattle.syntax.specs.Measures.{statement_size}
use Rattle.bytecode.specs.Code.{PrintTable, Code}
use Rattle.type_table.specs.Scopes.{Variable, Globals}
use Rattle.typing_rules.specs.Statements.{StatementHas}
use Rattle.meaning.specs.Variables.{entered}
use Rattle.meaning.specs.Tasks.{Task, Do, EndBlock, Decide, Head, Again, Turn, EndSelect, all_of}
use Rattle.codegen_base.specs.Generated.{Made, followed, past, made_all}
use Rattle.plan.specs.Plan.{Plan, reaches_end}
use Rattle.plan.proofs.Words.{Words}
use Rattle.plan.proofs.Places.{at_once}
use Rattle.codegen_base.proofs.Alike.{drop_all, alike_entered}
use Rattle.codegen_base.proofs.Seen.{seen, seen_block}
use Rattle.codegen_base.proofs.Static.{innermost_begins, Nested}
use Rattle.codegen_base.proofs.Typing.{Free}
use Rattle.codegen_follows.proofs.Stands.{Around, View, scope_of, variables, Together, Inner, opened, Prints, IsOn, LeadsOn, within, Fine, made_here, following, Fits, Makes, Doing, Live, Sits}
use Rattle.codegen_follows.proofs.Grown.{grown, grown_statements}
use Rattle.codegen_follows.proofs.Narrowed.{unreached}
use Rattle.codegen_follows.proofs.Unwound.{together_refl, together_on}
use Rattle.codegen_base.proofs.Running.{Compiled, Coded}

pub take_front : (n : ℕ) (vs more : List Variable) → n ≤ length vs → take n (vs ++ more) ≡ take n vs
take_front zero vs more le = refl
take_front (suc n) [] more le = absurd (omega (arith, le))
take_front (suc n) (v ∷ vs) more le = ap (λ (l : List Variable). v ∷ l) (take_front n vs more (omega (arith, le)))

pub take_whole : (vs : List Variable) → take (length vs) vs ≡ vs
take_whole [] = refl
take_whole (v ∷ vs) = ap (λ (l : List Variable). v ∷ l) (take_whole vs)

pub nested_up : (ns : List ℕ) (many more : ℕ) → many ≤ more → Nested ns many → Nested ns more
nested_up [] many more le h = tt
nested_up (n ∷ ns) many more le h = let a = h.0 in (omega (arith, a, le), h.1)

pub nested_least : (ns : List ℕ) (many : ℕ) → Nested ns many → innermost_begins ns ≤ many
nested_least [] many h = omega arith
nested_least (n ∷ ns) many h = h.0

-- ---- print tables

front_there : (xs ys : List PrintTable) (n : ℕ) (x : PrintTable) → slice_get xs n ≡ Some x → slice_get (xs ++ ys) n ≡ Some x
front_there [] ys n x e = absurd cc
front_there (y ∷ xs) ys zero x e = e
front_there (y ∷ xs) ys (suc n) x e = front_there xs ys n x e

back_there : (xs ys : List PrintTable) (n : ℕ) (x : PrintTable) → slice_get ys n ≡ Some x → slice_get (xs ++ ys) (length xs + n) ≡ Some x
back_there [] ys n x e = let z : 0 + n ≡ n = omega arith in subst (λ k. slice_get ys k ≡ Some x) (sym z) e
back_there (y ∷ xs) ys n x e = let z : length (y ∷ xs) + n ≡ suc (length xs + n) = omega arith in subst (λ k. slice_get (y ∷ (xs ++ ys)) k ≡ Some x) (sym z) (back_there xs ys n x e)

pub prints_front : (code : Code) (first : ℕ) (xs ys : List PrintTable) → Prints code first (xs ++ ys) → Prints code first xs
prints_front code first xs ys h n x e = h n x (front_there xs ys n x e)

pub prints_back : (code : Code) (first : ℕ) (xs ys : List PrintTable) → Prints code first (xs ++ ys) → Prints code (first + length xs) ys
prints_back code first xs ys h n x e = let z : first + length xs + n ≡ first + (length xs + n) = omega arith in subst (λ k. slice_get code.prints k ≡ Some x) (sym z) (h (length xs + n) x (back_there xs ys n x e))

module _ {globals : Globals} {program : Compiled globals} (coded : Coded program) where
  open program use {elements, code}
  open coded use {function as f, result}

  abbrev On' : Around → Plan → ℕ → Option ℕ → Type 0
  On' l plan place out = IsOn coded l plan place out

  abbrev S : View → Around → Option ℕ → List Task → Type 0
  S view l place tasks = Sits coded view l place tasks

  abbrev LeadsOn' : Option ℕ → Option ℕ → Type 0
  LeadsOn' mid to = LeadsOn coded mid to

  abbrev L : View → Around → Statements → ℕ → Option ℕ → Type 0
  L view l body place out = Live coded view l body place out

  abbrev past_one : View → Statement → View
  past_one view s = following coded view s

  abbrev one : View → Statement → Made
  one view s = made_here coded view s

  -- ---- what is never reached

  pub dead : (tasks : List Task) (view : View) (l : Around) (place : Option ℕ) → S view l place tasks → S view l None tasks
  dead [] view l place sits = (sits.0, tt)
  dead (EndBlock ∷ rest) view l place sits = (sits.0, sits.1, None, tt, dead rest sits.0 l sits.2 sits.4)
  dead (EndSelect ∷ rest) view l place (outer, inner, around, again, to, lead, here, sits) = (outer, inner, around, again, to, lead, tt, sits)
  dead (Again loop ∷ rest) view l place (outer, inner, around, next, beside, same, head, out, leave, turns, here, to, lead, sits) = (outer, inner, around, next, beside, same, head, out, leave, turns, tt, to, lead, sits)
  dead (Do s ∷ rest) view l place sits = (sits.0, sits.1, None, tt, None, tt, dead rest sits.0 l sits.4 sits.6)
  dead (Decide c b o ∷ rest) view l place sits = (sits.0, sits.1, None, tt, None, tt, dead rest sits.0 l sits.4 sits.6)
  dead (Head x ∷ rest) view l place sits = (sits.0, sits.1, None, tt, None, tt, dead rest sits.0 l sits.4 sits.6)
  dead (Turn x ∷ rest) view l place sits = (sits.0, sits.1, None, tt, None, tt, dead rest sits.0 l sits.4 sits.6)

  -- ---- after a statement

  pub together_after : (view : View) (s : Statement) → Nested view.begins (length (variables view)) → Together view (past_one view s)
  together_after view s nested =
      let g = grown globals elements result view.site s in
      (refl, ap (take (innermost_begins view.begins)) g.variables ∙ take_front (innermost_begins view.begins) (variables view) g.more (nested_least view.begins (length (variables view)) nested))

  nested_after : (view : View) (s : Statement) → Nested view.begins (length (variables view)) → Nested view.begins (length (variables (past_one view s)))
  nested_after view s nested =
      let g = grown globals elements result view.site s in
      nested_up view.begins (length (variables view)) (length (variables (past_one view s))) (let e = ap length g.variables in let h = length-append (variables view) g.more in omega (arith, e, h)) nested

  -- ---- the statements of a block

  -- the first one, and the others if they are reached
  pub record Parts (l : Around) (first : ℕ) (a b : Made) (place : ℕ) (out : Option ℕ) : Type 0 where
    pub mid : Option ℕ
    pub on : On' l a.plan place mid
    pub fits : Fits coded first a
    pub others : IfSome mid (λ m. On' l b.plan m out × Fits coded (first + length a.prints) b)

  pub parts : (l : Around) (first : ℕ) (a b : Made) (place : ℕ) (out : Option ℕ) (t : Bool) → reaches_end a.plan ≡ t → a.layout.scope.words ≤ b.layout.scope.words → On' l (if t then followed a b else a).plan place out → Fits coded first (if t then followed a b else a) → Parts l first a b place out
  parts l first a b place out true is le on h =
      let r = h.room in
      record {
        mid = on.0;
        on = on.1;
        fits = record { tables = prints_front code first a.prints b.prints h.tables; room = omega (arith, le, r) };
        others = go on.0 on.2;
      } where
        go : (mid : Option ℕ) → IfSome mid (λ m. On' l b.plan m out) → IfSome mid (λ m. On' l b.plan m out × Fits coded (first + length a.prints) b)
        go None on = tt
        go (Some m) on = (on, record { tables = prints_back code first a.prints b.prints h.tables; room = h.room })
  parts l first a b place out false is le on h = record { mid = None; on = unreached code.selects f.instrs a.plan place l.leave l.again out is on; fits = h; others = tt }

  -- after a statement in which nothing is wrong the layout has the variables that the typing rules see
  abbrev pub FineAfter : Type 0
  FineAfter = (view : View) (s : Statement) (first : ℕ) (breaks continues : Bool) → Fine coded view → Free (StatementHas (within coded breaks continues) view.checked first s) → Makes globals elements s → Fine coded (past_one view s)

  module _ (fine_following : FineAfter) where
    -- the first statement's code, and the others' if they are reached
    live_parts : (view : View) (l : Around) (s : Statement) (rest : Statements) (place : ℕ) (out : Option ℕ) → L view l (Then s rest) place out
        → (mid : Option ℕ) × Doing coded l view s place mid × IfSome mid (λ m. L (past_one view s) l rest m out)
    live_parts view l s rest place out h =
        let a = one view s in
        let b = made_all globals elements result (past view.site a) rest in
        let p = parts l view.site.prints a b place out (reaches_end a.plan) refl ((grown_statements globals elements result (past view.site a) rest).words) h.on h.fits in (
          p.mid,
          record { first = h.first; breaks = h.breaks; continues = h.continues; fine = h.fine; good = λ violation x. h.good violation (inl x); makes = h.makes.0; on = p.on; fits = p.fits },
          go p.mid p.others,
        ) where
          go : (mid : Option ℕ) → IfSome mid (λ m. On' l (made_all globals elements result (past view.site (one view s)) rest).plan m out × Fits coded (view.site.prints + length (one view s).prints) (made_all globals elements result (past view.site (one view s)) rest))
              → IfSome mid (λ m. L (past_one view s) l rest m out)
          go None x = tt
          go (Some m) x = record {
            first = h.first + statement_size s;
            breaks = h.breaks;
            continues = h.continues;
            fine = fine_following view s h.first h.breaks h.continues h.fine (λ violation y. h.good violation (inl y)) h.makes.0;
            good = λ violation y. h.good violation (inr y);
            makes = h.makes.1;
            on = x.0;
            fits = x.1;
          }

    -- what sits after jumps alone
    abbrev pub SitsSoon : View → Around → Option ℕ → List Task → Type 0
    SitsSoon view l place tasks = (to : Option ℕ) × LeadsOn' place to × S view l to tasks

    pub sits_all : (body : Statements) (view : View) (l : Around) (place out : Option ℕ) (k : List Task) → IfSome place (λ p. L view l body p out) → Nested view.begins (length (variables view))
        → ((last : View) → Together view last → S last l out k) → SitsSoon view l place (all_of body ++ k)
    sits_all NoStatement view l None out k live nested sits = (None, tt, dead k view l out (sits view (together_refl view)))
    sits_all NoStatement view l (Some p) out k live nested sits = (out, live.on, sits view (together_refl view))
    sits_all (Then s rest) view l None out k live nested sits =
        let next = past_one view s in
        let t = together_after view s nested in
        let r = sits_all rest next l None out k tt (nested_after view s nested) (λ last u. sits last (together_on view next last t u)) in
        (None, tt, (next, t, None, tt, r.0, r.1, r.2))
    sits_all (Then s rest) view l (Some p) out k live nested sits =
        let next = past_one view s in
        let t = together_after view s nested in
        let h = live_parts view l s rest p out live in
        let r = sits_all rest next l h.0 out k h.2 (nested_after view s nested) (λ last u. sits last (together_on view next last t u)) in
        (Some p, at_once, (next, t, h.0, (h.1, refl), r.0, r.1, r.2))

  -- ---- a block begins

  pub fine_opened : (view : View) → Fine coded view → Fine coded (opened view)
  fine_opened view fine =
      let p = fine.placed in
      record {
        placed = record { rising = p.rising; known = p.known; outer = refl; nested = (omega arith, p.nested) };
        alike = alike_entered view.checked (scope_of view) fine.alike;
        noted = fine.noted;
      }

  pub inner_opened : (view last : View) → Together (opened view) last → Inner view last
  inner_opened view last t = record { begin = length (variables view); begins = t.0; within = t.1 ∙ take_whole (variables view) }

  pub seen_opened : (ls : Words) (view : View) → seen globals.structs ls (variables (opened view)) (opened view).begins ≡ entered (seen globals.structs ls (variables view) view.begins)
  seen_opened ls view =
      ap (λ (l : List Variable). seen_block globals.structs ls l ∷ seen globals.structs ls (take (length (variables view)) (variables view)) view.begins) (drop_all (variables view))
      ∙ ap (λ (l : List Variable). [] ∷ seen globals.structs ls l view.begins) (take_whole (variables view))
