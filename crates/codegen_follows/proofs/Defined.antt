-- Short variable declarations, and variables without a type.
use Rattle.std.proofs.Common.{◌≡◌, ℕ, suc, ◌+◌, ◌≤◌, Bool, true, false, List, [], ◌∷◌, length, map, drop, Option, Some, None, refl, sym, ap, ◌∙◌, subst, arith, inl, inr, zero, ◌⊎◌, sum_by, ◌++◌}
use Rattle.std.specs.Prelude.{if◌then◌else◌, ◌||◌, not}
use Rattle.std.specs.Option.{is_none}
use Rattle.std.specs.List.{list_any}
use Rattle.go_text.specs.declared.rule.Rule.TheVariants as rules
use Rattle.syntax.specs.Tree.{Expression, expressions, Receive, Define}
use Rattle.syntax.specs.Measures.{expression_size}
use Rattle.bytecode.specs.Machine.{Frames as CodeFrames}
use Rattle.type_table.specs.Types.{ValueType, BoolType}
use Rattle.type_table.specs.Containment.{Structs}
use Rattle.type_table.specs.Scopes.{Variable, Globals, Scope, is_blank, last_named, own_variable}
use Rattle.typing_rules.specs.Worths.{Worth, Typed, worth, kind_of}
use Rattle.typing_rules.specs.Expressions.{nodes_of, ValueHas, DefaultHas, ExpressionsHave, NumbersHave, default_type, ExpressionHas}
use Rattle.typing_rules.specs.Operations.{Given, given, given_values, RightHas, GoesHas, also_given}
use Rattle.typing_rules.specs.Simples.{has_twice, is_declarable, DefinedHave, NamesFail, SimpleHas}
use Rattle.meaning.specs.Values.{known}
use Rattle.meaning.specs.Variables.{Blocks, scope_in}
use Rattle.meaning.specs.Destinations.{given_kinds, all_defined}
use Rattle.meaning.specs.Tasks.{Course}
use Rattle.meaning.specs.Source.{gives, simple_work}
use Rattle.codegen_base.specs.declared.element.Element.{Element}
use Rattle.codegen_base.specs.Layouts.{given_types, declaring_all, carried}
use Rattle.codegen_base.specs.Statements.{name_spots, name_type, name_types, right_types, defines, simple_plan}
use Rattle.plan.specs.Plan.{Plan}
use Rattle.plan.proofs.Words.{Words}
use Rattle.codegen_base.proofs.Alike.{kind_if, Alike, worth_alike, own_alike, kind_alike}
use Rattle.codegen_base.proofs.Called.{same_count, AllFit}
use Rattle.codegen_base.proofs.Likeness.{assignable_zeros}
use Rattle.codegen_base.proofs.Seen.{seen}
use Rattle.codegen_base.proofs.Static.{seen_alike, variables_known}
use Rattle.codegen_base.proofs.Typing.{Free, Fits, fits, broken, nodes_end, worth_there}
use Rattle.codegen_follows.proofs.Stands.{View, scope_of, variables, Fine, OneMakes, ValuesMake}
use Rattle.codegen_follows.proofs.Places.{known_named}
use Rattle.codegen_follows.proofs.Rights.{default_fits, gives_plain, gives_both}
use Rattle.codegen_base.proofs.Sides.{IsPlain, IsBoth, form, plain_given, given_long}
use Rattle.codegen_follows.proofs.Names.{own_found, NameSuits, AllNamesSuit, names_are}
use Rattle.codegen_base.proofs.Running.{Compiled, Coded}
use Rattle.codegen_follows.proofs.Simulated.{Simulated, at, Works, Position, here_blocks, On'}
use Rattle.meaning.specs.Worked.{Worked}
use Rattle.codegen_follows.proofs.Sets.{AreTyped, both_types, both_typed}

-- ---- what right sides give if the same is seen

module _ (globals : Globals) (s t : Scope) (a : Alike s t) where
  values_same : (es : List Expression) (first : ℕ) → given_values globals s first es ≡ given_values globals t first es
  values_same [] first = refl
  values_same (e ∷ es) first =
      ap (λ (l : List Given). record { worth = worth globals s e; nodes = nodes_of first e } ∷ l) (values_same es (first + expression_size e))
      ∙ ap (λ w. record { worth = w; nodes = nodes_of first e } ∷ given_values globals t (first + expression_size e) es) (worth_alike s t a globals e)

  pub given_same : (right : List Expression) (count first : ℕ) → given globals s count first right ≡ given globals t count first right
  given_same right count first = ap (λ (l : List Given). l ++ also_given count first right) (values_same right first)

types_given : (table : Globals) (elements : List Element) (gs : List Given) → map (λ (g : Given). known (default_type g.worth)) gs ≡ given_types table elements gs
types_given table elements [] = refl
types_given table elements (g ∷ gs) = ap (λ (l : List ValueType). known (default_type g.worth) ∷ l) (types_given table elements gs)

module _ {globals : Globals} {program : Compiled globals} (coded : Coded program) (ls : Words) (view : View) (fine : Fine coded view) where
  open program use {elements, wide as all}

  abbrev own : List ℕ → Option Variable
  own name = own_variable (scope_of view) name

  abbrev type_taken : ValueType → Option Variable → ValueType
  type_taken kind o = name_type globals elements kind o

  abbrev Suit : Option Variable → ValueType → ValueType → Type 0
  Suit o given taken = NameSuits coded ls view fine o given taken

  abbrev pub AllSuit : List (List ℕ) → List ValueType → List ValueType → Type 0
  AllSuit names types others = AllNamesSuit coded ls view fine names types others

  own_known : (name : List ℕ) (v : Variable) → own name ≡ Some v → v.kind ≡ Some (known v.kind)
  own_known name v e = go (is_blank name) refl e where
    go : (b : Bool) → is_blank name ≡ b → own name ≡ Some v → v.kind ≡ Some (known v.kind)
    go true blank e = absurd (subst (λ (t : Bool). (if t then None else last_named (drop (scope_of view).outer (variables view)) name) ≡ Some v → ⊥) (sym blank) (λ x. lost x) e) where
      HasNone : Option Variable → Type 0
      HasNone None = Unit {0}
      HasNone (Some v) = ⊥

      lost : None ≡ Some v → ⊥
      lost x = subst HasNone x tt
    go false blank e = known_named (variables view) name v fine.placed.known (own_found globals.structs (scope_of view) name v blank e)

  name_fits : (name : List ℕ) (v : Given) (w : Worth) → v.worth ≡ Some w → 1 ≤ v.nodes.end → Free (GoesHas (is_none (own_variable view.checked name)) v (kind_of (own_variable view.checked name)))
      → Fits w (type_taken (known (default_type (Some w))) (own name)) × Suit (own name) (known (default_type (Some w))) (type_taken (known (default_type (Some w))) (own name))
  name_fits name v w is positive goes = go (own_variable view.checked name) (own name) (own_alike view.checked (scope_of view) fine.alike name) (λ x e. own_known name x e) goes where
    go : (a b : Option Variable) → kind_if a ≡ kind_if b → ((x : Variable) → b ≡ Some x → x.kind ≡ Some (known x.kind)) → Free (GoesHas (is_none a) v (kind_of a))
        → Fits w (type_taken (known (default_type (Some w))) b) × Suit b (known (default_type (Some w))) (type_taken (known (default_type (Some w))) b)
    go None None e has goes = (default_fits w v.nodes positive (λ violation x. goes violation (subst (λ o. DefaultHas o v.nodes violation) (sym is) x)), refl)
    go None (Some y) e has goes = absurd cc
    go (Some x) None e has goes = absurd cc
    go (Some x) (Some y) e has goes = (
      fits w (known y.kind) v.nodes positive (λ violation z. goes violation (subst (λ o. ValueHas o x.kind v.nodes violation) (sym is) (subst (λ o. ValueHas (Some w) o v.nodes violation) (sym (kind_alike (Some x) (Some y) e ∙ has y refl)) z))),
      refl,
    )

  pub values_suit : (names : List (List ℕ)) (es : List Expression) (second n : ℕ) → length es ≡ length names → Free (ExpressionsHave globals view.checked second (expressions es)) → Free (NamesFail view.checked names (given_values globals view.checked second es))
      → AllFit globals view.checked (expressions es) (name_types globals elements view.site.layout names (given_types globals elements (given_values globals (scope_of view) n es)))
      × AllSuit names (given_types globals elements (given_values globals (scope_of view) n es)) (name_types globals elements view.site.layout names (given_types globals elements (given_values globals (scope_of view) n es)))
  values_suit [] [] second n many good goes = (tt, tt)
  values_suit [] (e ∷ es) second n many good goes = absurd cc
  values_suit (name ∷ names) [] second n many good goes = absurd cc
  values_suit (name ∷ names) (e ∷ es) second n many good goes =
      let w = worth_there globals view.checked program.types_known (variables_known view.checked (scope_of view) fine.alike fine.placed.known) e second (λ violation x. good violation (inl x)) in
      let one = name_fits name (record { worth = worth globals view.checked e; nodes = nodes_of second e }) w.0 w.1 (nodes_end second e) (λ violation x. goes violation (inl x)) in
      let same : Some w.0 ≡ worth globals (scope_of view) e = sym w.1 ∙ worth_alike view.checked (scope_of view) fine.alike globals e in
      let left : suc (length es) ≡ suc (length names) = many in
      let more = values_suit names es (second + expression_size e) (n + expression_size e) (omega (arith, left)) (λ violation x. good violation (inr x)) (λ violation x. goes violation (inr x)) in (
        ((w.0, w.1, subst (λ o. Fits w.0 (type_taken (known (default_type o)) (own name))) same one.0), more.0),
        (subst (λ o. Suit (own name) (known (default_type o)) (type_taken (known (default_type o)) (own name))) same one.1, more.1),
      )

  typed_one : (o : Option Variable) (kind : ValueType) → Fits (Typed kind) (type_taken kind o) → Suit o kind kind
  typed_one None kind fit = refl
  typed_one (Some v) kind fit = assignable_zeros globals.structs kind (known v.kind) fit

  pub typed_suit : (names : List (List ℕ)) (vs : List Given) (kinds : List ValueType) → AreTyped vs kinds → length vs ≡ length names → Free (NamesFail view.checked names vs) → AllSuit names kinds kinds
  typed_suit [] [] [] typed many goes = tt
  typed_suit [] [] (kind ∷ kinds) typed many goes = absurd typed
  typed_suit [] (v ∷ vs) kinds typed many goes = absurd cc
  typed_suit (name ∷ names) [] kinds typed many goes = absurd cc
  typed_suit (name ∷ names) (v ∷ vs) [] typed many goes = absurd typed
  typed_suit (name ∷ names) (v ∷ vs) (kind ∷ kinds) (is, positive, typed) many goes =
      let one = name_fits name v (Typed kind) is positive (λ violation x. goes violation (inl x)) in
      let left : suc (length vs) ≡ suc (length names) = many in
      (typed_one (own name) kind one.0, typed_suit names vs kinds typed (omega (arith, left)) (λ violation x. goes violation (inr x)))

  -- the types that the source takes from a right side are the code's
  pub kinds_are : (count : ℕ) (right : List Expression) → given_kinds globals (seen globals.structs ls (variables view) view.begins) count right ≡ right_types globals elements (scope_of view) count right
  kinds_are count right =
      let b = seen globals.structs ls (variables view) view.begins in
      types_given globals elements (given globals (scope_in b) count 0 right)
      ∙ ap (given_types globals elements) (given_same globals (scope_in b) (scope_of view) (seen_alike globals.structs ls (scope_of view) view.begins fine.placed) right count 0)

-- no name occurs twice in a declaration
pub once : (s : Scope) (names : List (List ℕ)) (end : ℕ) → 1 ≤ end → Free (DefinedHave s names end) → has_twice names ≡ false
once s names end le free = go (has_twice names) refl where
  go : (b : Bool) → has_twice names ≡ b → has_twice names ≡ false
  go true e = let x = broken rules.NewName end le in absurd (free x.0 (inr (ap (λ b. b || not (list_any (is_declarable s) names)) e, x.1)))
  go false e = e

module _ {globals : Globals} {program : Compiled globals} {coded : Coded program} {simulated : Simulated coded} (position : Position simulated) where
  open program use {elements, code, wide as all}
  open coded use {function as f, number as g, there, result}
  open simulated use {running, running.{context, context.{callers as ds}}}
  open position use {point, next, mid, tasks as k, together as t, rest as r, point.{locals as ls, around as l, view, fine, room, held as h}}

  abbrev structs : Structs
  structs = globals.structs

  abbrev Works' : Worked Course → CodeFrames → Type 0
  Works' work c = Works simulated work c

  abbrev place_at : ℕ → Words → Words → CodeFrames
  place_at place ls stack = at simulated place ls stack

  abbrev blocks : Blocks
  blocks = here_blocks point

  abbrev scope : Scope
  scope = scope_of view

  abbrev On : Plan → ℕ → Type 0
  On plan place = On' point plan place mid

  defined_long : (names : List (List ℕ)) (types : List ValueType) → length types ≡ length names → length (all_defined globals blocks names types) ≡ length names
  defined_long [] types many = refl
  defined_long (name ∷ names) [] many = absurd cc
  defined_long (name ∷ names) (kind ∷ types) many = let left : suc (length types) ≡ suc (length names) = many in ap suc (defined_long names types (omega (arith, left)))

  types_long : (vs : List Given) → length (given_types globals elements vs) ≡ length vs
  types_long [] = refl
  types_long (v ∷ vs) = ap suc (types_long vs)

  -- the variables that the code has after the names
  abbrev pub Following : List (List ℕ) → List ValueType → Type 0
  Following names types = (variables next ≡ (declaring_all globals elements names types view.site.layout).scope.variables) × ((declaring_all globals elements names types view.site.layout).scope.words ≤ length f.locals)

  -- names are given what a right side gives
  names_plain : (names : List (List ℕ)) (es : List Expression) (first end place : ℕ) → 1 ≤ end → IsPlain (length names) es → ValuesMake globals elements es → has_twice names ≡ false
      → Free (RightHas globals view.checked first es) → Free (NumbersHave (length (given_values globals view.checked first es)) (length names) end) → Free (NamesFail view.checked names (given_values globals view.checked first es))
      → On (defines globals elements view.site.layout names (right_types globals elements scope (length names) es) es) place → Following names (right_types globals elements scope (length names) es)
      → Works' (gives globals blocks k (all_defined globals blocks names (given_kinds globals blocks (length names) es)) es) (place_at place ls [])
  names_plain names es first end place le plain makes single good numbers goes on following =
      let vs = given_values globals scope 0 es in
      let types = given_types globals elements vs in
      let types-are : right_types globals elements scope (length names) es ≡ types = ap (given_types globals elements) (plain_given globals scope (length names) 0 es plain) in
      let others = name_types globals elements view.site.layout names types in
      let many = same_count (length (given_values globals view.checked first es)) (length names) end le numbers in
      let es-long = sym (given_long globals view.checked first es) ∙ many in
      let suit = values_suit coded ls view fine names es first 0 es-long good goes in
      let are = names_are coded ls view fine names types others single suit.1 in
      let b = subst (Following names) types-are following in
      subst (λ (ts : List ValueType). Works' (gives globals blocks k (all_defined globals blocks names ts) es) (place_at place ls [])) (sym (kinds_are coded ls view fine (length names) es ∙ types-are))
      (gives_plain position (all_defined globals blocks names types) others (name_spots globals elements view.site.layout names types) (length names) es first place (defined_long names types (types_long vs ∙ given_long globals scope 0 es ∙ es-long)) plain
      (record { are = are.0; fit = subst (λ (s : Scope). s.words ≤ length f.locals) (sym are.1) b.1; variables_are = b.0 ∙ ap (λ (s : Scope). s.variables) (sym are.1) }) good makes suit.0
      (subst (λ (ts : List ValueType). On (defines globals elements view.site.layout names ts es) place) types-are on))

  names_both : (names : List (List ℕ)) (e : Expression) (first end place : ℕ) → 1 ≤ end → length names ≡ suc (suc zero) → OneMakes globals elements e → has_twice names ≡ false
      → Free (ExpressionHas globals view.checked first (Receive e)) → Free (NumbersHave (length (given globals view.checked (suc (suc zero)) first (Receive e ∷ []))) (length names) end) → Free (NamesFail view.checked names (given globals view.checked (suc (suc zero)) first (Receive e ∷ [])))
      → On (defines globals elements view.site.layout names (right_types globals elements scope (length names) (Receive e ∷ [])) (Receive e ∷ [])) place → Following names (right_types globals elements scope (length names) (Receive e ∷ []))
      → Works' (gives globals blocks k (all_defined globals blocks names (given_kinds globals blocks (length names) (Receive e ∷ []))) (Receive e ∷ [])) (place_at place ls [])
  names_both names e first end place le two makes single good numbers goes on following =
      let es : List Expression = Receive e ∷ [] in
      let types : List ValueType = carried globals elements scope e ∷ BoolType ∷ [] in
      let types-are : right_types globals elements scope (length names) es ≡ types = ap (λ n. right_types globals elements scope n es) two ∙ both_types position e in
      let many = same_count (length (given globals view.checked (suc (suc zero)) first es)) (length names) end le numbers in
      let suit = typed_suit coded ls view fine names (given globals view.checked (suc (suc zero)) first es) types (both_typed position e first good makes) many goes in
      let are = names_are coded ls view fine names types types single suit in
      let b = subst (Following names) types-are following in
      subst (λ (ts : List ValueType). Works' (gives globals blocks k (all_defined globals blocks names ts) es) (place_at place ls [])) (sym (kinds_are coded ls view fine (length names) es ∙ types-are))
      (gives_both position (all_defined globals blocks names types) (name_types globals elements view.site.layout names types) types (name_spots globals elements view.site.layout names types) (length names) e first place (defined_long names types (sym two)) two refl
      (record { are = are.0; fit = subst (λ (s : Scope). s.words ≤ length f.locals) (sym are.1) b.1; variables_are = b.0 ∙ ap (λ (s : Scope). s.variables) (sym are.1) }) good makes
      (subst (λ (ts : List ValueType). On (defines globals elements view.site.layout names ts es) place) types-are on))

  pub names_go : (names : List (List ℕ)) (right : List Expression) (first end place : ℕ) → 1 ≤ end → ValuesMake globals elements right → has_twice names ≡ false
      → Free (RightHas globals view.checked first right) → Free (NumbersHave (length (given globals view.checked (length names) first right)) (length names) end) → Free (NamesFail view.checked names (given globals view.checked (length names) first right))
      → On (defines globals elements view.site.layout names (right_types globals elements scope (length names) right) right) place → Following names (right_types globals elements scope (length names) right)
      → Works' (gives globals blocks k (all_defined globals blocks names (given_kinds globals blocks (length names) right)) right) (place_at place ls [])
  names_go names right first end place le makes single good numbers goes on following = go (form (length names) right) where
    Goal : List Expression → Type 0
    Goal x = Works' (gives globals blocks k (all_defined globals blocks names (given_kinds globals blocks (length names) x)) x) (place_at place ls [])

    go : IsBoth (length names) right ⊎ IsPlain (length names) right → Goal right
    go (inr plain) =
        let same = plain_given globals view.checked (length names) first right plain in
        names_plain names right first end place le plain makes single good (λ violation x. numbers violation (subst (λ (l : List Given). NumbersHave (length l) (length names) end violation) (sym same) x)) (λ violation x. goes violation (subst (λ (l : List Given). NamesFail view.checked names l violation) (sym same) x)) on following
    go (inl (e, two, is)) =
        subst (λ (x : List Expression). ValuesMake globals elements x → Free (RightHas globals view.checked first x) → Free (NumbersHave (length (given globals view.checked (length names) first x)) (length names) end) → Free (NamesFail view.checked names (given globals view.checked (length names) first x))
        → On (defines globals elements view.site.layout names (right_types globals elements scope (length names) x) x) place → Following names (right_types globals elements scope (length names) x) → Goal x) (sym is)
        (λ m fr nu gs o b. names_both names e first end place le two m.0 single (λ violation x. fr violation (inl x)) (subst (λ n. Free (NumbersHave (length (given globals view.checked n first (Receive e ∷ []))) (length names) end)) two nu) (subst (λ n. Free (NamesFail view.checked names (given globals view.checked n first (Receive e ∷ [])))) two gs) o b) makes good numbers goes on following

  pub define_goes : (names : List (List ℕ)) (right : List Expression) (first place : ℕ) → ValuesMake globals elements right → Free (SimpleHas globals view.checked first (Define names right))
      → On (simple_plan globals elements view.site.layout view.site.prints (Define names right)) place → Following names (right_types globals elements scope (length names) right) → Works' (simple_work globals blocks k (Define names right)) (place_at place ls [])
  define_goes names right first place makes free on following =
      let end = first + sum_by expression_size right + 1 in
      names_go names right first end place (omega arith) makes (once view.checked names end (omega arith) (λ violation x. free violation (inr (inr (inl x))))) (λ violation x. free violation (inl x)) (λ violation x. free violation (inr (inl x))) (λ violation x. free violation (inr (inr (inr x)))) on following
