-- What a break or a continue leaves to be done sits at the pc to which the jump leads.
use Rattle.std.proofs.Common.{◌≡◌, ℕ, List, [], ◌∷◌, take, Option, Some, None, refl, sym, ap, ◌∙◌, subst}
use Rattle.type_table.specs.Containment.{Structs}
use Rattle.type_table.specs.Scopes.{Globals}
use Rattle.meaning.specs.Variables.{left}
use Rattle.meaning.specs.Tasks.{Task, Do, EndBlock, Decide, Head, Again, Turn, EndSelect, Frame, frame, broken, continued}
use Rattle.plan.proofs.Words.{Words}
use Rattle.plan.proofs.Places.{at_once, Leads}
use Rattle.codegen_base.proofs.Seen.{seen}
use Rattle.codegen_base.proofs.Static.{innermost_begins}
use Rattle.codegen_follows.proofs.Stands.{Around, View, variables, Together, Inner, LeadsOn, Sits}
use Rattle.codegen_base.proofs.Running.{Compiled, Coded}

abbrev HasNone : Option ℕ → Type 0
HasNone None = Unit {0}
HasNone (Some n) = ⊥

pub lost : (n : ℕ) → None ≡ Some n → ⊥
lost n e = subst HasNone e tt

-- ---- the blocks round the innermost one

pub together_refl : (view : View) → Together view view
together_refl view = (refl, refl)

pub together_on : (own view next : View) → Together own view → Together view next → Together own next
together_on own view next a b =
    (b.0 ∙ a.0, ap (λ n. take (innermost_begins n) (variables next)) (sym a.0) ∙ b.1 ∙ ap (λ n. take (innermost_begins n) (variables view)) a.0 ∙ a.1)

pub inner_own : (outer own view : View) → Together own view → Inner outer view → Inner outer own
inner_own outer own view t i =
    let b = sym t.0 ∙ i.begins in
    record {
      begin = i.begin;
      begins = b;
      within = sym (ap (λ n. take (innermost_begins n) (variables own)) b) ∙ sym t.1 ∙ ap (λ n. take (innermost_begins n) (variables view)) b ∙ i.within;
    }

pub inner_left : (structs : Structs) (ls : Words) (outer view : View) → Inner outer view → left (seen structs ls (variables view) view.begins) ≡ seen structs ls (variables outer) outer.begins
inner_left structs ls outer view i = ap (λ ns. left (seen structs ls (variables view) ns)) i.begins ∙ ap (λ vs. seen structs ls vs outer.begins) i.within

module _ {globals : Globals} {program : Compiled globals} (coded : Coded program) (ls : Words) where
  open coded use {function as f}

  abbrev S : View → Around → Option ℕ → List Task → Type 0
  S view l place tasks = Sits coded view l place tasks

  -- from pc `from` on, jumps alone lead to what is left
  abbrev pub Left : ℕ → Frame → Type 0
  Left from c = (view : View) × (l : Around) × (to : ℕ) × (c.blocks ≡ seen globals.structs ls (variables view) view.begins) × Leads f.instrs from (Some to) × S view l (Some to) c.tasks

  -- what sits at the pc to which a jump leads
  reached : (from : ℕ) (view : View) (l : Around) (out to : Option ℕ) (c : Frame) → out ≡ Some from → LeadsOn coded out to → c.blocks ≡ seen globals.structs ls (variables view) view.begins → S view l to c.tasks → Left from c
  reached from view l out to c is lead blocks sits = go to (subst (λ o. LeadsOn coded o to) is lead) sits where
    go : (to : Option ℕ) → Leads f.instrs from to → S view l to c.tasks → Left from c
    go None lead sits = absurd lead
    go (Some n) lead sits = (view, l, n, blocks, lead, sits)

  pub broken_sits : (tasks : List Task) (own view : View) (l : Around) (place : Option ℕ) (from : ℕ) → l.leave ≡ Some from → Together own view → S view l place tasks → Left from (broken (seen globals.structs ls (variables own) own.begins) tasks)
  broken_sits [] own view l place from is same sits = absurd (lost from (sym (ap (λ (a : Around). a.leave) sits.0) ∙ is))
  broken_sits (EndBlock ∷ rest) own view l place from is same sits =
      subst (λ b. Left from (broken b rest)) (sym (inner_left globals.structs ls sits.0 own (inner_own sits.0 own view same sits.1))) (broken_sits rest sits.0 sits.0 l sits.2 from is (together_refl sits.0) sits.4)
  broken_sits (Again loop ∷ rest) own view l place from is same (outer, inner, around, next, beside, same-variables, head, out, leave, turns, here, to, lead, sits) =
      reached from next around out to (frame (left (seen globals.structs ls (variables own) own.begins)) rest) (sym leave ∙ is) lead
      (inner_left globals.structs ls outer own (inner_own outer own view same inner) ∙ ap (λ vs. seen globals.structs ls vs outer.begins) (sym same-variables) ∙ ap (seen globals.structs ls (variables next)) (sym beside.0)) sits
  broken_sits (EndSelect ∷ rest) own view l place from is same (outer, inner, around, again, to, lead, here, sits) =
      reached from outer around l.leave to (frame (left (seen globals.structs ls (variables own) own.begins)) rest) is lead (inner_left globals.structs ls outer own (inner_own outer own view same inner)) sits
  broken_sits (Do s ∷ rest) own view l place from is same sits = broken_sits rest own sits.0 l sits.4 from is (together_on own view sits.0 same sits.1) sits.6
  broken_sits (Decide c b o ∷ rest) own view l place from is same sits = broken_sits rest own sits.0 l sits.4 from is (together_on own view sits.0 same sits.1) sits.6
  broken_sits (Head x ∷ rest) own view l place from is same sits = broken_sits rest own sits.0 l sits.4 from is (together_on own view sits.0 same sits.1) sits.6
  broken_sits (Turn x ∷ rest) own view l place from is same sits = broken_sits rest own sits.0 l sits.4 from is (together_on own view sits.0 same sits.1) sits.6

  pub continued_sits : (tasks : List Task) (own view : View) (l : Around) (place : Option ℕ) (from : ℕ) → l.again ≡ Some from → Together own view → S view l place tasks → Left from (continued (seen globals.structs ls (variables own) own.begins) tasks)
  continued_sits [] own view l place from is same sits = absurd (lost from (sym (ap (λ (a : Around). a.again) sits.0) ∙ is))
  continued_sits (EndBlock ∷ rest) own view l place from is same sits =
      subst (λ b. Left from (continued b rest)) (sym (inner_left globals.structs ls sits.0 own (inner_own sits.0 own view same sits.1))) (continued_sits rest sits.0 sits.0 l sits.2 from is (together_refl sits.0) sits.4)
  continued_sits (Again loop ∷ rest) own view l place from is same (outer, inner, around, next, beside, same-variables, head, out, leave, turns, here, to, lead, sits) =
      (own, l, from, refl, at_once, (outer, inner_own outer own view same inner, around, next, beside, same-variables, head, out, leave, turns, is, to, lead, sits))
  continued_sits (EndSelect ∷ rest) own view l place from is same (outer, inner, around, again, to, lead, here, sits) =
      subst (λ b. Left from (continued b rest)) (sym (inner_left globals.structs ls outer own (inner_own outer own view same inner))) (continued_sits rest outer outer around to from (sym again ∙ is) (together_refl outer) sits)
  continued_sits (Do s ∷ rest) own view l place from is same sits = continued_sits rest own sits.0 l sits.4 from is (together_on own view sits.0 same sits.1) sits.6
  continued_sits (Decide c b o ∷ rest) own view l place from is same sits = continued_sits rest own sits.0 l sits.4 from is (together_on own view sits.0 same sits.1) sits.6
  continued_sits (Head x ∷ rest) own view l place from is same sits = continued_sits rest own sits.0 l sits.4 from is (together_on own view sits.0 same sits.1) sits.6
  continued_sits (Turn x ∷ rest) own view l place from is same sits = continued_sits rest own sits.0 l sits.4 from is (together_on own view sits.0 same sits.1) sits.6
