-- The clauses of a select, of which the default's way comes last.
use Rattle.std.proofs.Common.{◌≡◌, ℕ, ◌+◌, ◌<◌, ◌≤◌, true, false, List, [], ◌∷◌, Option, Some, None, length, drop, get_or, refl, sym, ap, ◌∙◌, subst}
use Rattle.std.specs.Prelude.{map, option_map}
use Rattle.std.specs.Option.{is_none, is_some}
use Rattle.std.proofs.lemmas.List.{drop_all, drop_more}
use Rattle.syntax.specs.declared.node.ClauseNode.{ClauseNode}
use Rattle.syntax.specs.declared.node.CommNode.{CommNode}
use Rattle.syntax.specs.Tree.{Clause, Clauses, NoClause, Statements}
use Rattle.syntax.specs.View.{OneClause, body_of, clause_of, clauses, comm_of}
use Rattle.bytecode.specs.declared.instr.Instr.{Instr}
use Rattle.type_table.specs.declared.table.TypeTable.{TypeTable}
use Rattle.type_table.specs.Scopes.{Globals, Yield}
use Rattle.codegen_base.specs.declared.element.Element.{Element}
use Rattle.codegen_base.specs.Generated.{Made, Site, made_default, with_way}
use Rattle.codegen_emission.specs.Branches.{made_within}
use Rattle.codegen_header.specs.Layouts.{layout_of}
use Rattle.codegen_emission.specs.declared.emitter.Emitter.{Emitter}
use Rattle.codegen_flow.specs.declared.select.WayList.{WayList}
use Rattle.codegen_flow.specs.Closed.{closed}
use Rattle.codegen_flow.specs.Controls.{Control, control, through}
use Rattle.codegen_emission.specs.Emitted.{Emits, site_of}
use Rattle.codegen_flow.specs.Selects.{together}
use Rattle.codegen_emission.specs.Ways.{EmitsAs, Reaches, Ways, default_start, or_nothing, ways_left}
use Rattle.codegen_emission.proofs.Branching.{Beside, beside_keeps}
use Rattle.codegen_emission.proofs.Choosing.{emits_last}
use Rattle.codegen_emission.proofs.Emitting.{emits_nothing, keeps_both}

-- what is left of a list of clauses
pub next_clause : (i : ℕ) (one : ClauseNode) (all : List ClauseNode) → i < length all → one ≡ get_or all i one → clauses (map clause_of (drop i all)) ≡ Clause (clause_of one).comm (clause_of one).body (clauses (map clause_of (drop (i + 1) all)))
next_clause i one all there is = ap (λ (l : List ClauseNode). clauses (map clause_of l)) (drop_more all i one there ∙ ap (λ x. x ∷ drop (i + 1) all) (sym is))

module _ (table : TypeTable) where
  as_it_is : (e0 e1 : Emitter) (flow : Control) (made : Made) → Emits table e0 e1 flow made → EmitsAs table e0 e1.code.items e1 flow made
  as_it_is e0 e1 flow made e = record { code_is = e.code; flows = e.flows; prints = e.prints; selects = e.selects; layout = e.layout; kept = e.kept }

  -- a default's way
  pub default_way : (e0 e1 : Emitter) (f : Control) (one : Made) (made : Option Made) → made ≡ Some (with_way [] one None) → Emits table e0 e1 f one → (noted : List ℕ) → Ways table e0 e1.code.items e1 noted (default_start noted e0 (Some f)) (Some f) made
  default_way e0 e1 f one made is e noted = subst (λ m. Ways table e0 e1.code.items e1 noted (default_start noted e0 (Some f)) (Some f) m) (sym is) (record {
    emits = as_it_is e0 e1 f (with_way [] one None) (emits_last table [] e0 e1 f one e);
    begin = refl;
    there = refl;
  })

  -- none
  pub default_none : (e0 : Emitter) (made : Option Made) → made ≡ None → (noted : List ℕ) → Ways table e0 e0.code.items e0 noted (default_start noted e0 None) None made
  default_none e0 made is noted = subst (λ m. Ways table e0 e0.code.items e0 noted (default_start noted e0 None) None m) (sym is) (record {
    emits = as_it_is e0 e0 through (or_nothing (site_of table e0) None) (emits_nothing table e0 through refl);
    begin = refl;
    there = refl;
  })

  -- if more changes than what is emitted
  ways_beside : (e0 e1 e2 : Emitter) (code : List Instr) (noted places : List ℕ) (flow : Option Control) (made : Option Made) → Ways table e0 code e1 noted places flow made → Beside e1 e2 → Ways table e0 code e2 noted places flow made
  ways_beside e0 e1 e2 code noted places flow made w b = record {
    emits = record {
      code_is = w.emits.code_is;
      flows = w.emits.flows;
      prints = b.prints ∙ w.emits.prints;
      selects = b.selects ∙ w.emits.selects;
      layout = ap (layout_of table) b.layout ∙ w.emits.layout;
      kept = keeps_both table e0 e1 e2 w.emits.kept (beside_keeps e1 e2 b);
    };
    begin = w.begin;
    there = w.there;
  }

  module _ (globals : Globals) (elements : List Element) (result : Yield) where
    -- a default's way comes later
    pub reaches_past : (whole left all : Clauses) (body : Statements) (old now : Emitter) (list : WayList) → Reaches globals elements result table whole old now list (Clause None body left) all → Reaches globals elements result table whole old now list left all
    reaches_past whole left all body old now list r = record { is = r.is }

    -- all ways, with the default's
    pub all_ways : (all : Clauses) (e0 e1 e2 e3 : Emitter) (list : WayList) (default flow : Option Control) (places : List ℕ) → Reaches globals elements result table all e0 e1 list NoClause all
        → ((noted : List ℕ) → Ways table e1 e2.code.items e2 noted (default_start noted e1 default) default (made_default globals elements result (site_of table e1) all))
        → e3.code.items ≡ closed list.held.items (is_some default) e2.code.items → Beside e2 e3 → places ≡ default_start list.places.items e1 default → flow ≡ together (option_map control list.flow) default
        → Ways table e0 e3.code.items e3 [] places flow (ways_left globals elements result all (site_of table e0) all)
    all_ways all e0 e1 e2 e3 list default flow places r d c3 b3 p f =
        let w = r.is e2.code.items e3.code.items e2 default (default_start list.places.items e1 default) (d list.places.items) c3 in
        let made = ways_left globals elements result all (site_of table e0) all in
        subst (λ ps. Ways table e0 e3.code.items e3 [] ps flow made) (sym p) (subst (λ g. Ways table e0 e3.code.items e3 [] (default_start list.places.items e1 default) g made) (sym f)
        (ways_beside e0 e2 e3 e3.code.items [] (default_start list.places.items e1 default) (together (option_map control list.flow) default) made w b3))

-- ---- the first clause without a communication

module _ (globals : Globals) (elements : List Element) (result : Yield) (site : Site) where
  default_more : (comm : Option CommNode) (body : Statements) (more : Clauses) → is_none comm ≡ false → made_default globals elements result site (Clause (option_map comm_of comm) body more) ≡ made_default globals elements result site more
  default_more (Some comm) body more is = refl
  default_more None body more is = absurd cc

  default_first : (comm : Option CommNode) (body : Statements) (more : Clauses) → is_none comm ≡ true → made_default globals elements result site (Clause (option_map comm_of comm) body more) ≡ Some (with_way [] (made_within globals elements result site body) None)
  default_first None body more is = refl
  default_first (Some comm) body more is = absurd cc

  default_next : (i : ℕ) (one : ClauseNode) (all : List ClauseNode) → i < length all → one ≡ get_or all i one → clause_of one ≡ record { comm = option_map comm_of one.comm; body = body_of one.body.items }
      → made_default globals elements result site (clauses (map clause_of (drop i all))) ≡ made_default globals elements result site (Clause (option_map comm_of one.comm) (body_of one.body.items) (clauses (map clause_of (drop (i + 1) all))))
  default_next i one all there at is = let rest = clauses (map clause_of (drop (i + 1) all)) in ap (made_default globals elements result site) (next_clause i one all there at ∙ ap (λ (o : OneClause). Clause o.comm o.body rest) is)

  -- it is not this one
  pub default_later : (i : ℕ) (one : ClauseNode) (all : List ClauseNode) → i < length all → one ≡ get_or all i one → clause_of one ≡ record { comm = option_map comm_of one.comm; body = body_of one.body.items } → is_none one.comm ≡ false
      → made_default globals elements result site (clauses (map clause_of (drop i all))) ≡ made_default globals elements result site (clauses (map clause_of all))
      → made_default globals elements result site (clauses (map clause_of (drop (i + 1) all))) ≡ made_default globals elements result site (clauses (map clause_of all))
  default_later i one all there at is some left = sym (default_more one.comm (body_of one.body.items) (clauses (map clause_of (drop (i + 1) all))) some) ∙ sym (default_next i one all there at is) ∙ left

  -- it is this one
  pub default_here : (i : ℕ) (one : ClauseNode) (all : List ClauseNode) → i < length all → one ≡ get_or all i one → clause_of one ≡ record { comm = option_map comm_of one.comm; body = body_of one.body.items } → is_none one.comm ≡ true
      → made_default globals elements result site (clauses (map clause_of (drop i all))) ≡ made_default globals elements result site (clauses (map clause_of all))
      → made_default globals elements result site (clauses (map clause_of all)) ≡ Some (with_way [] (made_within globals elements result site (body_of one.body.items)) None)
  default_here i one all there at is none left = sym left ∙ default_next i one all there at is ∙ default_first one.comm (body_of one.body.items) (clauses (map clause_of (drop (i + 1) all))) none

  -- there is none
  pub default_nowhere : (i : ℕ) (all : List ClauseNode) → length all ≤ i → made_default globals elements result site (clauses (map clause_of (drop i all))) ≡ made_default globals elements result site (clauses (map clause_of all)) → made_default globals elements result site (clauses (map clause_of all)) ≡ None
  default_nowhere i all end left = sym left ∙ ap (λ (l : List ClauseNode). made_default globals elements result site (clauses (map clause_of l))) (drop_all i all end)
