-- Statements that are emitted one after the other, and blocks.
use Rattle.std.proofs.Common.{◌≡◌, ℕ, ◌+◌, Bool, true, false, ◌||◌, List, ◌∷◌, ◌++◌, length, take, drop, get_or, ◌<◌, refl, sym, ap, ◌∙◌, subst, append_assoc}
use Rattle.std.specs.Prelude.{if◌then◌else◌}
use Rattle.std.proofs.lemmas.List.{append-nil, drop_more}
use Rattle.std.proofs.Math.Seq.{take-length}
use Rattle.syntax.specs.declared.node.StatementNode.{StatementNode}
use Rattle.syntax.specs.View.{body_of, statement_of}
use Rattle.syntax.specs.Tree.{Statement, Statements, NoStatement, Then}
use Rattle.bytecode.specs.declared.instr.Instr.{Instr}
use Rattle.bytecode.specs.Code.{PrintTable, SelectTable}
use Rattle.plan.specs.Plan.{reaches_end, tables}
use Rattle.type_table.specs.declared.table.TypeTable.{TypeTable}
use Rattle.type_table.specs.Scopes.{Globals, Yield}
use Rattle.codegen_base.specs.declared.element.Element.{Element}
use Rattle.codegen_base.specs.Layouts.{entering, leaving}
use Rattle.codegen_base.specs.Generated.{Made, Site, made, made_all, followed, past, ended, inside}
use Rattle.codegen_header.specs.Layouts.{layout_of}
use Rattle.codegen_header.proofs.Leaving.{left_layout}
use Rattle.codegen_flow.specs.declared.waits.Wait.{Wait}
use Rattle.codegen_emission.specs.declared.emitter.Emitter.{Emitter}
use Rattle.codegen_flow.specs.Waits.{Makes}
use Rattle.codegen_flow.specs.Controls.{Control, joined, through}
use Rattle.codegen_emission.specs.Emitted.{Emits, site_of}
use Rattle.codegen_emission.proofs.Emitting.{emits_both, emits_nothing, site_past}

-- what is left of a list of statements
pub next_statement : (i : ℕ) (one : StatementNode) (all : List StatementNode) → i < length all → one ≡ get_or all i one → body_of (drop i all) ≡ Then (statement_of one) (body_of (drop (i + 1) all))
next_statement i one all there is = ap body_of (drop_more all i one there ∙ ap (λ x. x ∷ drop (i + 1) all) (sym is))

or_none : (b : Bool) → (b || false) ≡ b
or_none true = refl
or_none false = refl

pub or_assoc : (a b c : Bool) → ((a || b) || c) ≡ (a || (b || c))
or_assoc true b c = refl
or_assoc false b c = refl

abbrev led : List Wait → Bool → Bool → Bool → Control
led waits ends breaks continues = record { waits = waits; ends = ends; breaks = breaks; continues = continues }

joined_through : (f : Control) → f.ends ≡ true → joined f through ≡ f
joined_through f on =
    ap (λ w. led w true (f.breaks || false) (f.continues || false)) (append-nil f.waits) ∙ ap (λ b. led f.waits true b (f.continues || false)) (or_none f.breaks) ∙ ap (λ c. led f.waits true f.breaks c) (or_none f.continues)
    ∙ ap (λ e. led f.waits e f.breaks f.continues) (sym on)

joined_assoc : (f g h : Control) → joined (joined f g) h ≡ joined f (joined g h)
joined_assoc f g h =
    ap (λ w. led w h.ends ((f.breaks || g.breaks) || h.breaks) ((f.continues || g.continues) || h.continues)) (append_assoc f.waits g.waits h.waits)
    ∙ ap (λ b. led (f.waits ++ (g.waits ++ h.waits)) h.ends b ((f.continues || g.continues) || h.continues)) (or_assoc f.breaks g.breaks h.breaks)
    ∙ ap (λ c. led (f.waits ++ (g.waits ++ h.waits)) h.ends (f.breaks || (g.breaks || h.breaks)) c) (or_assoc f.continues g.continues h.continues)

module _ (table : TypeTable) (globals : Globals) (elements : List Element) (result : Yield) where
  -- what is emitted of statements: with the rest after it, it is all of them
  pub record Begins (old now : Emitter) (flow : Control) (rest all : Statements) : Type 0 where
    pub on : flow.ends ≡ true
    pub is : (new : Emitter) (g : Control) → Emits table now new g (made_all globals elements result (site_of table now) rest) → Emits table old new (joined flow g) (made_all globals elements result (site_of table old) all)

  pub begins : (now : Emitter) (flow : Control) (all : Statements) → flow ≡ through → Begins now now flow all all
  begins now flow all is = subst (λ f. Begins now now f all all) (sym is) (record { on = refl; is = λ new g e. e })

  one_more : (now next new : Emitter) (one g : Control) (first : Statement) (rest : Statements) → one.ends ≡ true → Emits table now next one (made globals elements result (site_of table now) first)
      → Emits table next new g (made_all globals elements result (site_of table next) rest) → Emits table now new (joined one g) (made_all globals elements result (site_of table now) (Then first rest))
  one_more now next new one g first rest on e m =
      let m1 = made globals elements result (site_of table now) first in
      let rests = λ (site : Site). made_all globals elements result site rest in
      let leads : reaches_end m1.plan ≡ true = sym e.flows.ends ∙ on in
      let both = emits_both table now next new one g m1 (rests (site_of table next)) on e m in
      let there = subst (λ site. Emits table now new (joined one g) (followed m1 (rests site))) (site_past table now next one m1 e) both in
      subst (λ b. Emits table now new (joined one g) (if b then followed m1 (rests (past (site_of table now) m1)) else m1)) (sym leads) there

  pub begins_more : (old now next : Emitter) (flow one both : Control) (first : Statement) (rest left all : Statements) → left ≡ Then first rest → Begins old now flow left all → one.ends ≡ true → Emits table now next one (made globals elements result (site_of table now) first)
      → both ≡ joined flow one → Begins old next both rest all
  begins_more old now next flow one both first rest left all more begun on e is = let b = subst (λ l. Begins old now flow l all) more begun in subst (λ f. Begins old next f rest all) (sym is) (record {
    on = on;
    is = λ new g m. subst (λ f. Emits table old new f (made_all globals elements result (site_of table old) all)) (sym (joined_assoc flow one g)) (b.is new (joined one g) (one_more now next new one g first rest on e m));
  })

  pub begins_all : (old now : Emitter) (flow : Control) (left all : Statements) → left ≡ NoStatement → Begins old now flow left all → Emits table old now flow (made_all globals elements result (site_of table old) all)
  begins_all old now flow left all none begun =
      let b = subst (λ l. Begins old now flow l all) none begun in
      subst (λ f. Emits table old now f (made_all globals elements result (site_of table old) all)) (joined_through flow b.on) (b.is now through (emits_nothing table now through refl))

  -- what follows can't be reached
  pub begins_cut : (old now next : Emitter) (flow one both : Control) (first : Statement) (rest left all : Statements) → left ≡ Then first rest → Begins old now flow left all → one.ends ≡ false → Emits table now next one (made globals elements result (site_of table now) first)
      → both ≡ joined flow one → Emits table old next both (made_all globals elements result (site_of table old) all)
  begins_cut old now next flow one both first rest left all more begun off e is =
      let b = subst (λ l. Begins old now flow l all) more begun in
      let m1 = made globals elements result (site_of table now) first in
      let ends : reaches_end m1.plan ≡ false = sym e.flows.ends ∙ off in
      let cut = subst (λ b. Emits table now next one (if b then followed m1 (made_all globals elements result (past (site_of table now) m1) rest) else m1)) (sym ends) e in
      subst (λ f. Emits table old next f (made_all globals elements result (site_of table old) all)) (sym is) (b.is next one cut)

-- ---- blocks

module _ (table : TypeTable) where
  pub emits_within : (make : Site → Made) (e0 e1 e2 e3 : Emitter) (count outer : ℕ) (flow : Control) → e1.code.items ≡ e0.code.items → e1.prints.items ≡ e0.prints.items → e1.selects.items ≡ e0.selects.items → layout_of table e1.layout ≡ entering (layout_of table e0.layout)
      → e1.layout.visible.entries.items ≡ e0.layout.visible.entries.items → count ≡ length e0.layout.visible.entries.items → outer ≡ e0.layout.visible.outer → Emits table e1 e2 flow (make (site_of table e1))
      → e3.code.items ≡ e2.code.items → e3.prints.items ≡ e2.prints.items → e3.selects.items ≡ e2.selects.items → e3.layout.visible.entries.items ≡ take count e2.layout.visible.entries.items → e3.layout.visible.outer ≡ outer → e3.layout.visible.words ≡ e2.layout.visible.words
      → e3.layout.locals.items ≡ e2.layout.locals.items → Emits table e0 e3 flow (ended (layout_of table e0.layout) (make (inside (site_of table e0))))
  emits_within make e0 e1 e2 e3 count outer flow c1 p1 s1 l1 v1 n o e c3 p3 s3 v3 o3 w3 k3 =
      let m1 = make (site_of table e1) in
      let pn = ap length p1 in
      let sn = ap length s1 in
      let same : site_of table e1 ≡ inside (site_of table e0) = cc (l1, pn, sn) in
      let there : take (length e0.layout.visible.entries.items) e2.layout.visible.entries.items ≡ e0.layout.visible.entries.items = ap (λ v. take (length v) e2.layout.visible.entries.items) (sym v1) ∙ e.kept.0 ∙ v1 in
      let all = v3 ∙ ap (λ k. take k e2.layout.visible.entries.items) n in
      let out = o3 ∙ o in
      let again = all ∙ there in
      let made : Emits table e0 e3 flow (ended (layout_of table e0.layout) m1) = record {
        code = subst (λ c. Makes c e3.code.items flow.waits m1.plan) c1 (subst (λ c. Makes e1.code.items c flow.waits m1.plan) (sym c3) e.code);
        flows = e.flows;
        prints = p3 ∙ e.prints ∙ ap (λ (l : List PrintTable). l ++ m1.prints) p1;
        selects = s3 ∙ e.selects ∙ ap (λ (l : List SelectTable). l ++ tables (length e1.code.items) m1.plan) s1 ∙ ap (λ (c : List Instr). e0.selects.items ++ tables (length c) m1.plan) c1;
        layout = left_layout table e0.layout e2.layout e3.layout there all out w3 k3 ∙ ap (leaving (layout_of table e0.layout)) e.layout;
        kept = (ap (take (length e0.layout.visible.entries.items)) again ∙ take-length e0.layout.visible.entries.items, out);
      } in
      subst (λ site. Emits table e0 e3 flow (ended (layout_of table e0.layout) (make site))) same made

  pub emits_block : (globals : Globals) (elements : List Element) (result : Yield) (body : Statements) (e0 e1 e2 e3 : Emitter) (count outer : ℕ) (flow : Control) → e1.code.items ≡ e0.code.items → e1.prints.items ≡ e0.prints.items → e1.selects.items ≡ e0.selects.items → layout_of table e1.layout ≡ entering (layout_of table e0.layout)
      → e1.layout.visible.entries.items ≡ e0.layout.visible.entries.items → count ≡ length e0.layout.visible.entries.items → outer ≡ e0.layout.visible.outer → Emits table e1 e2 flow (made_all globals elements result (site_of table e1) body)
      → e3.code.items ≡ e2.code.items → e3.prints.items ≡ e2.prints.items → e3.selects.items ≡ e2.selects.items → e3.layout.visible.entries.items ≡ take count e2.layout.visible.entries.items → e3.layout.visible.outer ≡ outer → e3.layout.visible.words ≡ e2.layout.visible.words
      → e3.layout.locals.items ≡ e2.layout.locals.items → Emits table e0 e3 flow (ended (layout_of table e0.layout) (made_all globals elements result (inside (site_of table e0)) body))
  emits_block globals elements result body = emits_within (λ site. made_all globals elements result site body)
