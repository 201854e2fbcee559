-- After each statement in which nothing is wrong, the layout has the variables that the typing rules see.
use Rattle.std.proofs.Common.{◌≡◌, ℕ, ◌+◌, ◌≤◌, ◌||◌, List, [], ◌∷◌, length, drop, Option, Some, None, IfSome, refl, sym, ap, ◌∙◌, subst, arith, inl, inr, sum_by}
use Rattle.std.specs.Prelude.{if◌then◌else◌}
use Rattle.std.specs.Option.{is_some}
use Rattle.std.specs.List.{list_any}
use Rattle.go_text.specs.declared.rule.Rule.TheVariants as rules
use Rattle.syntax.specs.Tree.{TypeExpression, Expression, Simple, CallAlone, Close, Print, ReceiveAlone, Send, Increment, Decrement, Assign, Define, Update, Forever, While, ForClauses, Range, Statement, Empty, Alone, VarTyped, VarUntyped, Block, If, For, Select, Go, Return, Break, Continue, Conditional, Clauses, NoClause, Clause}
use Rattle.syntax.specs.Measures.{if_any, type_size, expression_size}
use Rattle.type_table.specs.Types.{ValueType}
use Rattle.type_table.specs.Scopes.{Globals, Scope, Yield, is_blank, is_reserved, last_named, own_variable, nothing_declared, type_in}
use Rattle.typing_rules.specs.Operations.{given}
use Rattle.typing_rules.specs.Simples.{SimpleHas, TypedVariablesHave, UntypedVariablesHave, has_twice, with_defined, with_variables}
use Rattle.typing_rules.specs.Statements.{after, after_clauses}
use Rattle.typing_rules.proofs.Defaults.{untyped_names}
use Rattle.meaning.specs.Values.{known}
use Rattle.codegen_base.specs.declared.element.Element.{Element}
use Rattle.codegen_base.specs.Layouts.{Layout, declaring_all, declaring_each, given_types}
use Rattle.codegen_base.specs.Generated.{Site, Made, past, followed, inside, ended, with_way, within_select, made, made_all, made_comm, made_ways, made_default, made_select, comm_kinds}
use Rattle.codegen_base.proofs.Alike.{Alike, kind_if, alike_sym, type_alike}
use Rattle.codegen_base.proofs.Running.{Compiled, Coded}
use Rattle.codegen_base.proofs.Known.{VariablesNoted}
use Rattle.codegen_base.proofs.Noted.{Noted}
use Rattle.codegen_base.proofs.Seen.{Rising, rising_up}
use Rattle.codegen_base.proofs.Static.{AllKnown, Nested, IsPlaced, variables_known}
use Rattle.codegen_base.proofs.Typing.{Free, broken}
use Rattle.codegen_follows.proofs.Stands.{View, scope_of, variables, Fine, SimpleMakes, ValuesMake}
use Rattle.codegen_follows.proofs.Grown.{grown}
use Rattle.codegen_follows.proofs.Begun.{FineAfter}
use Rattle.codegen_follows.proofs.Defined.{given_same}
use Rattle.codegen_fine.proofs.Layouts.{own_same}
use Rattle.codegen_fine.proofs.Variables.{three_false, not_true, new_by, alike_values, all_each, variables_are}
use Rattle.codegen.proofs.Given.{AllWell, right_well}
use Rattle.codegen_fine.proofs.Makes.{written as type_there, written_noted}
use Rattle.codegen.proofs.Following.{Good, good_all}

-- ---- selects keep the variables that are visible

-- a layout with the same variables in the same blocks
record Kept (layout following : Layout) : Type 0 where
  variables : following.scope.variables ≡ layout.scope.variables
  outer : following.scope.outer ≡ layout.scope.outer

kept_on : (a b c : Layout) → Kept a b → Kept b c → Kept a c
kept_on a b c g h = record { variables = h.variables ∙ g.variables; outer = h.outer ∙ g.outer }

-- the same variables in the same blocks
alike_kept : (s t u : Scope) → u.variables ≡ t.variables → u.outer ≡ t.outer → Alike s t → Alike s u
alike_kept s t u variables outer a =
    let le = a.fit in
    record {
      named = λ name e. a.named name e ∙ sym (ap (λ vs. kind_if (last_named vs name)) variables);
      own = λ name e. a.own name e ∙ sym (ap (λ n. kind_if (last_named (drop n u.variables) name)) outer ∙ ap (λ vs. kind_if (last_named (drop t.outer vs) name)) variables);
      fits = a.fits;
      fit = omega (arith, le, outer, ap length variables);
    }

module _ (globals : Globals) (elements : List Element) (result : Yield) where
  kept_ways : (site : Site) (default : Site → Option Made) (clauses : Clauses) → ((following : Site) → IfSome (default following) (λ m. Kept following.layout m.layout)) → IfSome (made_ways globals elements result site default clauses) (λ m. Kept site.layout m.layout)
  kept_ways site default NoClause d = d site
  kept_ways site default (Clause None body more) d = kept_ways site default more d
  kept_ways site default (Clause (Some comm) body more) d =
      let first = made_comm globals elements result (inside site) comm in
      let one = ended site.layout (followed first (made_all globals elements result (past (inside site) first) body)) in
      go one (record { variables = refl; outer = refl }) (made_ways globals elements result (past site one) default more) (kept_ways (past site one) default more d) where
        go : (one : Made) → Kept site.layout one.layout → (o : Option Made) → IfSome o (λ m. Kept one.layout m.layout) → Kept site.layout (with_way (comm_kinds globals elements result site.layout comm) one o).layout
        go one g None h = g
        go one g (Some m) h = kept_on site.layout one.layout m.layout g h

  kept_default : (site : Site) (clauses : Clauses) → IfSome (made_default globals elements result site clauses) (λ m. Kept site.layout m.layout)
  kept_default site NoClause = tt
  kept_default site (Clause None body more) = record { variables = refl; outer = refl }
  kept_default site (Clause (Some comm) body more) = kept_default site more

  kept_select : (site : Site) (clauses : Clauses) → Kept site.layout (made globals elements result site (Select clauses)).layout
  kept_select site clauses =
      go (made_ways globals elements result (within_select globals elements result site) (λ following. made_default globals elements result following clauses) clauses) (kept_ways (within_select globals elements result site) (λ following. made_default globals elements result following clauses) clauses (λ following. kept_default following clauses)) where
        go : (o : Option Made) → IfSome o (λ m. Kept site.layout m.layout) → Kept site.layout (made_select globals elements result site clauses o).layout
        go None g = record { variables = refl; outer = refl }
        go (Some m) g = g

  -- and so do the typing rules
  clauses_alike : (clauses : Clauses) (s t : Scope) → Alike s t → Alike (after_clauses globals s clauses) t
  clauses_alike NoClause s t a = a
  clauses_alike (Clause comm body rest) s t a = clauses_alike rest _ t (record { named = a.named; own = a.own; fits = a.fits; fit = a.fit })

module _ {globals : Globals} {program : Compiled globals} (coded : Coded program) where
  open program use {elements, wide as all}
  open coded use {result}

  abbrev G : Globals
  G = globals

  abbrev IsFine : View → Type 0
  IsFine view = Fine coded view

  abbrev past_one : View → Statement → View
  past_one view s = record { site = past view.site (made G elements result view.site s); begins = view.begins; checked = after G view.checked s }

  -- the block of a statement has ended
  fine_left : (view next : View) → next.begins ≡ view.begins → variables next ≡ variables view → (scope_of next).outer ≡ (scope_of view).outer → (scope_of view).words ≤ (scope_of next).words → Alike next.checked (scope_of next) → IsFine view → IsFine next
  fine_left view next begins same outer le alike fine =
      let p = fine.placed in
      let structs = G.structs in
      record {
        placed = subst (λ ns. IsPlaced structs (scope_of next) ns) (sym begins) (record {
          rising = subst (λ vs. Rising structs 0 vs (scope_of next).words) (sym same) (rising_up structs 0 (variables view) (scope_of view).words (scope_of next).words le p.rising);
          known = subst AllKnown (sym same) p.known;
          outer = outer ∙ p.outer;
          nested = subst (λ vs. Nested view.begins (length vs)) (sym same) p.nested;
        });
        alike = alike;
        noted = λ name v t found has. fine.noted name v t (subst (λ vs. (if is_blank name then None else last_named vs name) ≡ Some v) same found) has;
      }

  good_of : (view : View) → IsFine view → Good elements G all view.checked (scope_of view) view.begins
  good_of view fine = record { placed = fine.placed; alike = fine.alike; noted = fine.noted }

  -- names that are given what a right side gives
  named_good : (view : View) (names : List (List ℕ)) (right : List Expression) → IsFine view → AllWell elements view.checked names (given G view.checked (length names) 0 right)
      → Good elements G all (with_defined G view.checked names (given G view.checked (length names) 0 right)) (declaring_all G elements names (given_types G elements (given G (scope_of view) (length names) 0 right)) view.site.layout).scope view.begins
  named_good view names right fine well =
      subst (λ vs. Good elements G all (with_defined G view.checked names (given G view.checked (length names) 0 right)) (declaring_all G elements names (given_types G elements vs) view.site.layout).scope view.begins) (given_same G view.checked (scope_of view) fine.alike right (length names) 0)
      (good_all elements G all names (given G view.checked (length names) 0 right) view.checked view.site.layout view.begins (good_of view fine) well)

  define_fine : (view : View) (names : List (List ℕ)) (right : List Expression) (first : ℕ) → IsFine view → Free (SimpleHas G view.checked first (Define names right)) → ValuesMake globals elements right → IsFine (past_one view (Alone (Define names right)))
  define_fine view names right first fine free makes =
      let g = named_good view names right fine
      (right_well program view.checked (scope_of view) (variables_known view.checked (scope_of view) fine.alike fine.placed.known) fine.alike fine.noted names right first (first + sum_by expression_size right + 1) (omega arith) makes (λ violation h. free violation (inl h)) (λ violation h. free violation (inr (inl h))) (λ violation h. free violation (inr (inr (inr h))))) in
      record { placed = g.placed; alike = g.alike; noted = g.noted }

  untyped_fine : (view : View) (names : List (List ℕ)) (right : List Expression) (first : ℕ) → IsFine view → Free (UntypedVariablesHave G view.checked first names right) → ValuesMake globals elements right → IsFine (past_one view (VarUntyped names right))
  untyped_fine view names right first fine free makes =
      let g = named_good view names right fine
      (right_well program view.checked (scope_of view) (variables_known view.checked (scope_of view) fine.alike fine.placed.known) fine.alike fine.noted names right first (first + sum_by expression_size right + 1) (omega arith) makes (λ violation h. free violation (inl h)) (λ violation h. free violation (inr (inl h)))
      (untyped_names view.checked names (given G view.checked (length names) first right) (first + sum_by expression_size right + 1) (omega arith) (λ violation h. free violation (inr h)))) in
      record { placed = g.placed; alike = g.alike; noted = g.noted }

  alike_well : (s : Scope) (names : List (List ℕ)) (kind : ValueType) → Noted elements kind → AllWell elements s names (alike_values names kind)
  alike_well s [] kind noted = tt
  alike_well s (name ∷ names) kind noted = (λ d. (refl, noted), alike_well s names kind noted)

  typed_fine : (view : View) (names : List (List ℕ)) (written : TypeExpression) (right : Option (List Expression)) (first : ℕ) → IsFine view → Free (TypedVariablesHave G view.checked first names written right) → Noted elements (known (type_in G.types nothing_declared written)) → IsFine (past_one view (VarTyped names written right))
  typed_fine view names written right first fine free noted =
      let s = view.checked in
      let (kind, is) = type_there G.types s written first (λ violation h. free violation (inl h)) in
      let own = written_noted G.types elements s written kind noted is in
      let end = first + type_size written + if_any (sum_by expression_size) right + 1 in
      let b = broken rules.Declared end (omega arith) in
      let parts =
      three_false (list_any is_reserved names) (has_twice names) (list_any (λ name. is_some (own_variable s name)) names)
      (not_true (list_any is_reserved names || has_twice names || list_any (λ name. is_some (own_variable s name)) names) (λ e. free b.0 (inr (inr (e, b.1))))) in
      let new = new_by s names parts.1 in
      let here-is : known (type_in G.types (scope_of view) written) ≡ kind = ap known (sym (type_alike s (scope_of view) fine.alike G.types written) ∙ is) in
      let g = good_all elements G all names (alike_values names kind) s view.site.layout view.begins (good_of view fine) (alike_well s names kind own) in
      let checked-is : with_defined G s names (alike_values names kind) ≡ with_variables G s (type_in G.types s written) names = variables_are G elements names kind s s fine.alike.fits (own_same s names) new parts.0 ∙ ap (λ o. with_variables G s o names) (sym is) in
      let layout-is : declaring_all G elements names (given_types G elements (alike_values names kind)) view.site.layout ≡ declaring_each G elements (known (type_in G.types (scope_of view) written)) names view.site.layout = all_each G elements names kind view.site.layout ∙ ap (λ k. declaring_each G elements k names view.site.layout) (sym here-is) in
      let h = subst (λ (x : Layout). Good elements G all (with_variables G s (type_in G.types s written) names) x.scope view.begins) layout-is
      (subst (λ x. Good elements G all x (declaring_all G elements names (given_types G elements (alike_values names kind)) view.site.layout).scope view.begins) checked-is g) in
      record { placed = h.placed; alike = h.alike; noted = h.noted }

  same_fine : (view next : View) → next.checked ≡ view.checked → scope_of next ≡ scope_of view → next.begins ≡ view.begins → IsFine view → IsFine next
  same_fine view next checked scope begins fine = record {
    placed = subst (λ ns. IsPlaced G.structs (scope_of next) ns) (sym begins) (subst (λ x. IsPlaced G.structs x view.begins) (sym scope) fine.placed);
    alike = subst (λ x. Alike x (scope_of next)) (sym checked) (subst (Alike view.checked) (sym scope) fine.alike);
    noted = subst (VariablesNoted elements G) (sym scope) fine.noted;
  }

  simple_fine : (view : View) (simple : Simple) (first : ℕ) → IsFine view → Free (SimpleHas G view.checked first simple) → SimpleMakes globals elements simple → IsFine (past_one view (Alone simple))
  simple_fine view (Define names right) first fine free makes = define_fine view names right first fine free makes
  simple_fine view (CallAlone a b) first fine free makes = same_fine view (past_one view (Alone (CallAlone a b))) refl refl refl fine
  simple_fine view (Close a) first fine free makes = same_fine view (past_one view (Alone (Close a))) refl refl refl fine
  simple_fine view (Print a b c) first fine free makes = same_fine view (past_one view (Alone (Print a b c))) refl refl refl fine
  simple_fine view (ReceiveAlone a) first fine free makes = same_fine view (past_one view (Alone (ReceiveAlone a))) refl refl refl fine
  simple_fine view (Send a b) first fine free makes = same_fine view (past_one view (Alone (Send a b))) refl refl refl fine
  simple_fine view (Increment a) first fine free makes = same_fine view (past_one view (Alone (Increment a))) refl refl refl fine
  simple_fine view (Decrement a) first fine free makes = same_fine view (past_one view (Alone (Decrement a))) refl refl refl fine
  simple_fine view (Assign a b) first fine free makes = same_fine view (past_one view (Alone (Assign a b))) refl refl refl fine
  simple_fine view (Update a b c) first fine free makes = same_fine view (past_one view (Alone (Update a b c))) refl refl refl fine

  -- a statement that is a block
  block_fine : (view : View) (s : Statement) → (after G view.checked s).variables ≡ view.checked.variables → (after G view.checked s).outer ≡ view.checked.outer → (made G elements result view.site s).layout.scope.variables ≡ variables view → (made G elements result view.site s).layout.scope.outer ≡ (scope_of view).outer
      → IsFine view → IsFine (past_one view s)
  block_fine view s checked checked-outer same outer fine =
      let next = past_one view s in
      let a = alike_kept view.checked (scope_of view) (scope_of next) same outer fine.alike in
      let b = alike_kept (scope_of next) view.checked next.checked checked checked-outer (alike_sym view.checked (scope_of next) a) in
      fine_left view next refl same outer ((grown G elements result view.site s).words) (alike_sym (scope_of next) next.checked b) fine

  pub fine_after : FineAfter coded
  fine_after view Empty first b c fine free makes = same_fine view (past_one view Empty) refl refl refl fine
  fine_after view (Alone simple) first b c fine free makes = simple_fine view simple first fine free makes
  fine_after view (VarTyped names kind right) first b c fine free makes = typed_fine view names kind right first fine free makes.0
  fine_after view (VarUntyped names right) first b c fine free makes = untyped_fine view names right first fine free makes
  fine_after view (Block body) first b c fine free makes = block_fine view (Block body) refl refl refl refl fine
  fine_after view (If (Conditional head condition body otherwise)) first b c fine free makes = block_fine view (If (Conditional head condition body otherwise)) refl refl refl refl fine
  fine_after view (For Forever body) first b c fine free makes = block_fine view (For Forever body) refl refl refl refl fine
  fine_after view (For (While condition) body) first b c fine free makes = block_fine view (For (While condition) body) refl refl refl refl fine
  fine_after view (For (ForClauses one condition post) body) first b c fine free makes = block_fine view (For (ForClauses one condition post) body) refl refl refl refl fine
  fine_after view (For (Range target channel) body) first b c fine free makes = block_fine view (For (Range target channel) body) refl refl refl refl fine
  fine_after view (Select clauses) first b c fine free makes =
      let next = past_one view (Select clauses) in
      let k = kept_select G elements result view.site clauses in
      let a = clauses_alike G elements result clauses view.checked (scope_of view) fine.alike in
      fine_left view next refl k.variables k.outer ((grown G elements result view.site (Select clauses)).words) (alike_kept (after G view.checked (Select clauses)) (scope_of view) (scope_of next) k.variables k.outer a) fine
  fine_after view (Go function arguments) first b c fine free makes = same_fine view (past_one view (Go function arguments)) refl refl refl fine
  fine_after view (Return returned) first b c fine free makes = same_fine view (past_one view (Return returned)) refl refl refl fine
  fine_after view Break first b c fine free makes = same_fine view (past_one view Break) refl refl refl fine
  fine_after view Continue first b c fine free makes = same_fine view (past_one view Continue) refl refl refl fine
