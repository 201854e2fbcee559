-- Variables of a type that are given values.
use Rattle.std.proofs.Common.{◌≡◌, ℕ, suc, ◌+◌, ◌≤◌, Bool, true, false, List, [], ◌∷◌, length, map, Option, Some, None, refl, sym, ap, ◌∙◌, subst, arith, inl, inr, ◌++◌, append_assoc, zero, ◌⊎◌, sum_by}
use Rattle.std.proofs.lemmas.List.{append-nil, length-map}
use Rattle.std.specs.Option.{is_some}
use Rattle.std.specs.List.{list_any}
use Rattle.go_text.specs.declared.rule.Rule.TheVariants as rules
use Rattle.syntax.specs.Tree.{TypeExpression, Expression, expressions, VarTyped, Receive}
use Rattle.syntax.specs.Measures.{type_size, expression_size, if_any}
use Rattle.bytecode.specs.Machine.{Frames as CodeFrames, code_next}
use Rattle.word.specs.Related.{Slips, here as slips_here}
use Rattle.type_table.specs.Types.{ValueType, BoolType}
use Rattle.type_table.specs.Containment.{Structs}
use Rattle.type_table.specs.Scopes.{Variable, Scope, own_variable, type_in, Globals}
use Rattle.typing_rules.specs.Expressions.{nodes_of, ValueHas, ExpressionsHave, ExpressionHas, NumbersHave}
use Rattle.typing_rules.specs.Worths.{Typed}
use Rattle.typing_rules.specs.Operations.{Given, given, given_values, TypeHas, RightHas}
use Rattle.typing_rules.specs.Simples.{AllFail, TypedVariablesHave, has_twice}
use Rattle.type_table.specs.Zeros.{zero_words}
use Rattle.meaning.specs.Values.{Value, known}
use Rattle.meaning.specs.Variables.{Blocks, Destination}
use Rattle.meaning.specs.Destinations.{new, all_new, all_defined}
use Rattle.meaning.specs.Tasks.{Course}
use Rattle.meaning.specs.Source.{gives, stores, statement_work}
use Rattle.codegen_base.specs.Generated.{same_types, variables_plan, zero_values}
use Rattle.codegen_base.specs.Elements.{kinds_of}
use Rattle.codegen_base.specs.Layouts.{Layout, declaring_new, declaring_each, declaring_all, carried}
use Rattle.codegen_base.specs.Statements.{assigns, name_spots, name_type, name_types, pushes_right, Spot}
use Rattle.plan.specs.Plan.{Plan, Skip}
use Rattle.plan.proofs.Words.{Words}
use Rattle.plan.proofs.Steps.{slips_more}
use Rattle.codegen_base.proofs.Alike.{there_alike, own_alike, type_alike}
use Rattle.codegen_base.proofs.Called.{same_count, AllFit}
use Rattle.codegen_base.proofs.Likeness.{kinds_zeros, zeros_like, assignable_zeros, AreLike, all_words_of}
use Rattle.codegen_base.proofs.Expressions.{zeros_goes}
use Rattle.codegen_base.proofs.Seen.{seen}
use Rattle.codegen_base.proofs.Typing.{Free, fits, broken, nodes_end, worth_there}
use Rattle.codegen_base.proofs.Static.{variables_known}
use Rattle.codegen_follows.proofs.Stands.{View, scope_of, variables, Fine, ValuesMake}
use Rattle.codegen_follows.proofs.Sets.{AreTyped, both_typed}
use Rattle.codegen_follows.proofs.Names.{neither, AllNamesSuit, NameSuits, names_are, AreNew, new_names}
use Rattle.codegen_follows.proofs.Untyped.{declared_there}
use Rattle.codegen_base.proofs.Running.{Compiled, Coded}
use Rattle.codegen_follows.proofs.Simulated.{Simulated, at, Works, works_after, Position, here_blocks, On', standing}
use Rattle.meaning.specs.Worked.{Worked}
use Rattle.meaning.specs.Expressions.{written_kind}
use Rattle.codegen_follows.proofs.Rights.{gives_plain, gives_both, Targets, stored_go}
use Rattle.codegen_base.proofs.Sides.{IsPlain, IsBoth, form, plain_given, given_long}
use Rattle.codegen_base.proofs.Makes.{type_anywhere}

module _ {globals : Globals} {program : Compiled globals} (coded : Coded program) (ls : Words) (view : View) (fine : Fine coded view) where
  open program use {elements, wide as all}

  abbrev seen_blocks : Blocks
  seen_blocks = seen globals.structs ls (variables view) view.begins

  abbrev same : List (List ℕ) → ValueType → List ValueType
  same names kind = same_types globals elements names kind

  new_each : (names : List (List ℕ)) (kind : ValueType) → map (λ name. new globals seen_blocks name kind) names ≡ all_new globals seen_blocks names (same names kind)
  new_each [] kind = refl
  new_each (name ∷ names) kind = ap (λ (l : List Destination). new globals seen_blocks name kind ∷ l) (new_each names kind)

  each_is : (names : List (List ℕ)) (kind : ValueType) (layout : Layout) → declaring_all globals elements names (same names kind) layout ≡ declaring_each globals elements kind names layout
  each_is [] kind layout = refl
  each_is (name ∷ names) kind layout = each_is names kind (declaring_new globals elements kind name layout)

  -- new names take values of the type
  abbrev NewOne : Option Variable → ValueType → Type 0
  NewOne o kind = NameSuits coded ls view fine o kind kind × (name_type globals elements kind o ≡ kind)

  new_one : (a b : Option Variable) (kind : ValueType) → is_some a ≡ is_some b → is_some a ≡ false → NewOne b kind
  new_one a None kind e none = (refl, refl)
  new_one a (Some v) kind e none = absurd (lost (sym none ∙ e)) where
    Holds : Bool → Type 0
    Holds true = ⊥
    Holds false = Unit {0}

    lost : false ≡ true → ⊥
    lost x = subst Holds x tt

  new_suit : (names : List (List ℕ)) (kind : ValueType) → AreNew view.checked names → AllNamesSuit coded ls view fine names (same names kind) (same names kind) × (name_types globals elements view.site.layout names (same names kind) ≡ same names kind)
  new_suit [] kind none = (tt, refl)
  new_suit (name ∷ names) kind none =
      let n = neither (is_some (own_variable view.checked name)) (list_any (λ name. is_some (own_variable view.checked name)) names) none in
      let one = new_one (own_variable view.checked name) (own_variable (scope_of view) name) kind (there_alike (own_variable view.checked name) (own_variable (scope_of view) name) (own_alike view.checked (scope_of view) fine.alike name)) n.0 in
      let more = new_suit names kind n.1 in
      ((one.0, more.0), ap (λ (j : ValueType). j ∷ name_types globals elements view.site.layout names (same names kind)) one.1 ∙ ap (λ (l : List ValueType). kind ∷ l) more.1)

  -- each value fits the type
  each_fits : (names : List (List ℕ)) (es : List Expression) (kind : ValueType) (first : ℕ) → length es ≡ length names → Free (ExpressionsHave globals view.checked first (expressions es)) → Free (AllFail (Some kind) (length names) (given_values globals view.checked first es)) → AllFit globals view.checked (expressions es) (same names kind)
  each_fits [] [] kind first many good fail = tt
  each_fits [] (e ∷ es) kind first many good fail = absurd cc
  each_fits (name ∷ names) [] kind first many good fail = absurd cc
  each_fits (name ∷ names) (e ∷ es) kind first many good fail =
      let w = worth_there globals view.checked program.types_known (variables_known view.checked (scope_of view) fine.alike fine.placed.known) e first (λ violation x. good violation (inl x)) in
      let fit = fits w.0 kind (nodes_of first e) (nodes_end first e) (λ violation x. fail violation (inl (subst (λ o. ValueHas o (Some kind) (nodes_of first e) violation) (sym w.1) x))) in
      let left : suc (length es) ≡ suc (length names) = many in
      ((w.0, w.1, fit), each_fits names es kind (first + expression_size e) (omega (arith, left)) (λ violation x. good violation (inr x)) (λ violation x. fail violation (inr x)))

  -- what an operation gives has the words of the type
  each_zeros : (names : List (List ℕ)) (vs : List Given) (kinds : List ValueType) (kind : ValueType) → AreTyped vs kinds → length vs ≡ length names → Free (AllFail (Some kind) (length names) vs) → map (zero_words globals.structs) (same names kind) ≡ map (zero_words globals.structs) kinds
  each_zeros [] [] [] kind typed many fail = refl
  each_zeros [] [] (j ∷ kinds) kind typed many fail = absurd typed
  each_zeros [] (v ∷ vs) kinds kind typed many fail = absurd cc
  each_zeros (name ∷ names) [] kinds kind typed many fail = absurd cc
  each_zeros (name ∷ names) (v ∷ vs) [] kind typed many fail = absurd typed
  each_zeros (name ∷ names) (v ∷ vs) (j ∷ kinds) kind (is, positive, typed) many fail =
      let zero = zero_words globals.structs in
      let fit = fits (Typed j) kind v.nodes positive (λ violation x. fail violation (inl (subst (λ o. ValueHas o (Some kind) v.nodes violation) (sym is) x))) in
      let left : suc (length vs) ≡ suc (length names) = many in
      ap (λ (x : Value). x ∷ map zero (same names kind)) (sym (assignable_zeros globals.structs j kind fit)) ∙ ap (λ (l : List Value). zero j ∷ l) (each_zeros names vs kinds kind typed (omega (arith, left)) (λ violation x. fail violation (inr x)))

  -- the type is written in any block alike
  pub record IsWritten (kind : TypeExpression) : Type 0 where
    pub type : ValueType
    pub checked : type_in globals.types view.checked kind ≡ Some type
    pub laid-out : type_in globals.types (scope_of view) kind ≡ Some type
    pub written : written_kind globals kind ≡ type

  written_there : (kind : TypeExpression) (first : ℕ) → Free (TypeHas (type_in globals.types view.checked kind) first) → IsWritten kind
  written_there kind first free = go (type_in globals.types view.checked kind) refl free where
    go : (o : Option ValueType) → type_in globals.types view.checked kind ≡ o → Free (TypeHas o first) → IsWritten kind
    go None is free = let b = broken rules.Visible (first + 1) (omega arith) in absurd (free b.0 b.1)
    go (Some t) is free = record { type = t; checked = is; laid-out = sym (type_alike view.checked (scope_of view) fine.alike globals.types kind) ∙ is; written = ap known (type_anywhere globals.types view.checked kind t is) }

module _ {globals : Globals} {program : Compiled globals} {coded : Coded program} {simulated : Simulated coded} (position : Position simulated) where
  open program use {elements, code, wide as all}
  open coded use {function as f, number as g, there, result}
  open simulated use {running, running.{context, context.{callers as ds}}}
  open position use {point, next, mid, tasks as k, together as t, rest as r, point.{locals as ls, around as l, view, fine, room, held as h}}

  abbrev structs : Structs
  structs = globals.structs

  abbrev Works' : Worked Course → CodeFrames → Type 0
  Works' work c = Works simulated work c

  abbrev place_at : ℕ → Words → Words → CodeFrames
  place_at place ls stack = at simulated place ls stack

  abbrev blocks : Blocks
  blocks = here_blocks point

  abbrev scope : Scope
  scope = scope_of view

  abbrev On : Plan → ℕ → Type 0
  On plan place = On' point plan place mid

  abbrev each : List (List ℕ) → ValueType → List ValueType
  each names kind = same_types globals elements names kind

  abbrev laid : TypeExpression → ValueType
  laid kind = known (type_in globals.types scope kind)

  -- the variables that the code has after the names
  abbrev pub FollowingEach : List (List ℕ) → ValueType → Type 0
  FollowingEach names kind = (variables next ≡ (declaring_each globals elements kind names view.site.layout).scope.variables) × ((declaring_each globals elements kind names view.site.layout).scope.words ≤ length f.locals)

  each_targets : (names : List (List ℕ)) (kind : ValueType) → AreNew view.checked names → has_twice names ≡ false → FollowingEach names kind → Targets position (all_defined globals blocks names (each names kind)) (each names kind) (name_spots globals elements view.site.layout names (each names kind))
  each_targets names kind are-new single b =
      let suit = new_suit coded ls view fine names kind are-new in
      let are = names_are coded ls view fine names (each names kind) (each names kind) single suit.0 in
      let following = are.1 ∙ ap (λ (x : Layout). x.scope) (each_is coded ls view fine names kind view.site.layout) in
      record { are = are.0; fit = subst (λ (s : Scope). s.words ≤ length f.locals) (sym following) b.1; variables_are = b.0 ∙ ap (λ (s : Scope). s.variables) (sym following) }

  destinations_are : (names : List (List ℕ)) (kind : ValueType) → AreNew view.checked names → map (λ name. new globals blocks name kind) names ≡ all_defined globals blocks names (each names kind)
  destinations_are names kind are-new = new_each coded ls view fine names kind ∙ new_names coded ls view fine names (each names kind) are-new

  new_long : (names : List (List ℕ)) (kind : ValueType) → AreNew view.checked names → length (all_defined globals blocks names (each names kind)) ≡ length names
  new_long names kind are-new = ap length (sym (destinations_are names kind are-new)) ∙ length-map names (λ name. new globals blocks name kind)

  pub typed_right_goes : (names : List (List ℕ)) (kind : TypeExpression) (right : List Expression) (first place : ℕ) → ValuesMake globals elements right → Free (TypedVariablesHave globals view.checked first names kind (Some right))
      → On (variables_plan globals elements view.site.layout names (laid kind) (Some right)) place → FollowingEach names (laid kind) → Works' (statement_work globals blocks k (VarTyped names kind (Some right))) (place_at place ls [])
  typed_right_goes names kind right first place makes free on following =
      let w = written_there coded ls view fine kind first (λ violation x. free violation (inl x)) in
      let K = w.type in
      let is : laid kind ≡ K = ap known w.laid-out in
      let d = declared_there view.checked names (first + type_size kind + if_any (sum_by expression_size) (Some right) + 1) (omega arith) (λ violation x. free violation (inr (inr x))) in
      let targets = each_targets names K d.are_new d.single (subst (FollowingEach names) is following) in
      let suit = new_suit coded ls view fine names K d.are_new in
      let on1 : On (pushes_right globals elements scope (length names) (each names K) right (assigns (name_spots globals elements view.site.layout names (each names K)) Skip)) place =
      subst (λ (ts : List ValueType). On (pushes_right globals elements scope (length names) ts right (assigns (name_spots globals elements view.site.layout names (each names K)) Skip)) place) suit.1
      (subst (λ j. On (variables_plan globals elements view.site.layout names j (Some right)) place) is on) in
      subst (λ (to : List Destination). Works' (gives globals blocks k to right) (place_at place ls [])) (sym (ap (λ j. map (λ name. new globals blocks name j) names) w.written ∙ destinations_are names K d.are_new))
      (given_goes K right d.are_new targets makes (λ violation x. free violation (inr (inl (inl x)))) (λ violation x. free violation (inr (inl (inr (inl x))))) (λ violation x. free violation (inr (inl (inr (inr (subst (λ o. AllFail o (length names) (given globals view.checked (length names) (first + type_size kind) right) violation) (sym w.checked) x)))))) on1) where
        second : ℕ
        second = first + type_size kind

        Goal : ValueType → List Expression → Type 0
        Goal K es = Works' (gives globals blocks k (all_defined globals blocks names (each names K)) es) (place_at place ls [])

        given_goes : (K : ValueType) (es : List Expression) → AreNew view.checked names → Targets position (all_defined globals blocks names (each names K)) (each names K) (name_spots globals elements view.site.layout names (each names K)) → ValuesMake globals elements es → Free (RightHas globals view.checked second es)
            → Free (NumbersHave (length (given globals view.checked (length names) second es)) (length names) (second + sum_by expression_size right + 1)) → Free (AllFail (Some K) (length names) (given globals view.checked (length names) second es))
            → On (pushes_right globals elements scope (length names) (each names K) es (assigns (name_spots globals elements view.site.layout names (each names K)) Skip)) place → Goal K es
        given_goes K es are-new targets makes good numbers fail on = go (form (length names) es) where
          spots : List Spot
          spots = name_spots globals elements view.site.layout names (each names K)

          many : length (given globals view.checked (length names) second es) ≡ length names
          many = same_count (length (given globals view.checked (length names) second es)) (length names) (second + sum_by expression_size right + 1) (omega arith) numbers

          both : (e : Expression) → length names ≡ suc (suc zero) → es ≡ Receive e ∷ [] → Goal K es
          both e two is =
              let vs = given globals view.checked (suc (suc zero)) second (Receive e ∷ []) in
              let same : given globals view.checked (length names) second es ≡ vs = ap (given globals view.checked (length names) second) is ∙ ap (λ n. given globals view.checked n second (Receive e ∷ [])) two in
              let good' : Free (ExpressionHas globals view.checked second (Receive e)) = λ violation x. good violation (subst (λ (l : List Expression). RightHas globals view.checked second l violation) (sym is) (inl x)) in
              let makes' : ValuesMake globals elements (Receive e ∷ []) = subst (ValuesMake globals elements) is makes in
              let zeros = each_zeros coded ls view fine names vs (carried globals elements scope e ∷ BoolType ∷ []) K (both_typed position e second good' makes'.0) (ap length (sym same) ∙ many) (λ violation x. fail violation (subst (λ (l : List Given). AllFail (Some K) (length names) l violation) (sym same) x)) in
              subst (Goal K) (sym is)
              (gives_both position (all_defined globals blocks names (each names K)) (each names K) (each names K) spots (length names) e second place (new_long names K are-new) two zeros targets good' makes'.0
              (subst (λ (l : List Expression). On (pushes_right globals elements scope (length names) (each names K) l (assigns spots Skip)) place) is on))

          go : IsBoth (length names) es ⊎ IsPlain (length names) es → Goal K es
          go (inr plain) =
              let same = plain_given globals view.checked (length names) second es plain in
              let fit = each_fits coded ls view fine names es K second (sym (given_long globals view.checked second es) ∙ ap length (sym same) ∙ many) good (λ violation x. fail violation (subst (λ (l : List Given). AllFail (Some K) (length names) l violation) (sym same) x)) in
              gives_plain position (all_defined globals blocks names (each names K)) (each names K) spots (length names) es second place (new_long names K are-new) plain targets good makes fit on
          go (inl (e, two, is)) = both e two is

  -- ---- variables without values are zero

  abbrev zeros : List (List ℕ) → ValueType → List Value
  zeros names kind = map (λ name. zero_words structs kind) names

  zeros_push : (names : List (List ℕ)) (kind : ValueType) (rest : Plan) (place : ℕ) (stack : Words) → On (zero_values globals elements 0 names kind rest) place
      → (to : ℕ) × Slips (code_next code) (place_at place ls stack) (place_at to ls (stack ++ all_words_of (zeros names kind))) × On rest to
  zeros_push [] kind rest place stack on = (place, subst (λ (s : Words). Slips (code_next code) (place_at place ls stack) (place_at place ls s)) (sym (append-nil stack)) slips_here, on)
  zeros_push (name ∷ names) kind rest place stack on =
      let z = zeros_goes (standing point) (kinds_of structs elements kind) (zero_values globals elements 0 names kind rest) mid place stack on in
      let zero = zero_words structs kind in
      let first = subst (λ (x : Words). Slips (code_next code) (place_at place ls stack) (place_at z.0 ls (stack ++ x))) (kinds_zeros structs elements kind) z.1 in
      let more = zeros_push names kind rest z.0 (stack ++ zero) z.2 in
      (more.0, slips_more (code_next code) (place_at place ls stack) (place_at z.0 ls (stack ++ zero)) _ first (subst (λ (x : Words). Slips (code_next code) (place_at z.0 ls (stack ++ zero)) (place_at more.0 ls x)) (append_assoc stack zero (all_words_of (zeros names kind))) more.1), more.2)

  zeros_alike : (names : List (List ℕ)) (kind : ValueType) → AreLike structs (each names kind) (zeros names kind)
  zeros_alike [] kind = tt
  zeros_alike (name ∷ names) kind = (zeros_like structs kind, zeros_alike names kind)

  pub typed_zeros_go : (names : List (List ℕ)) (kind : TypeExpression) (first place : ℕ) → Free (TypedVariablesHave globals view.checked first names kind None)
      → On (variables_plan globals elements view.site.layout names (laid kind) None) place → FollowingEach names (laid kind) → Works' (statement_work globals blocks k (VarTyped names kind None)) (place_at place ls [])
  typed_zeros_go names kind first place free on following =
      let w = written_there coded ls view fine kind first (λ violation x. free violation (inl x)) in
      let K = w.type in
      let is : laid kind ≡ K = ap known w.laid-out in
      let d = declared_there view.checked names (first + type_size kind + if_any (sum_by expression_size) None + 1) (omega arith) (λ violation x. free violation (inr (inr x))) in
      let targets = each_targets names K d.are_new d.single (subst (FollowingEach names) is following) in
      let destinations = all_defined globals blocks names (each names K) in
      let spots = name_spots globals elements view.site.layout names (each names K) in
      let p = zeros_push names K (assigns spots Skip) place [] (subst (λ j. On (variables_plan globals elements view.site.layout names j None) place) is on) in
      subst (λ j. Works' (stores globals blocks k (map (λ name. new globals blocks name j) names) (zeros names j)) (place_at place ls [])) (sym w.written)
      (subst (λ (to : List Destination). Works' (stores globals blocks k to (zeros names K)) (place_at place ls [])) (sym (destinations_are names K d.are_new))
      (works_after simulated (stores globals blocks k destinations (zeros names K)) (place_at place ls []) (place_at p.0 ls (all_words_of (zeros names K))) p.1
      (stored_go position destinations (each names K) spots (zeros names K) p.0 targets (zeros_alike names K) p.2)))
