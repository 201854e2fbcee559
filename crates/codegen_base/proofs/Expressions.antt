-- The code of an expression in which nothing is wrong pushes its value's words.
use Rattle.std.proofs.Common.{◌≡◌, ℕ, ◌+◌, Bool, true, false, List, [], ◌∷◌, ◌++◌, map, Option, Some, None, option_map, sym, ap, ◌∙◌, subst, arith, slice_get, bytes_eq}
use Rattle.std.specs.Prelude.{if◌then◌else◌, codes}
use Rattle.syntax.specs.Tree.{Expression}
use Rattle.bytecode.specs.declared.instr.Instr.TheVariants as instrs
use Rattle.bytecode.specs.declared.instr.WordKind.{WordKind}
use Rattle.bytecode.specs.Machine.{zero_of}
use Rattle.word.specs.declared.value.Word.{Word}
use Rattle.word.specs.declared.value.Word.TheVariants.{Bool as Truth, Chan}
use Rattle.type_table.specs.Types.{ValueType, BoolType}
use Rattle.type_table.specs.Containment.{Selected, field_of}
use Rattle.type_table.specs.Scopes.{Globals, Scope, Variable, is_blank, is_truth, is_nil, last_named, variable_named}
use Rattle.typing_rules.specs.Worths.{Typed, Nil, kind_of, named_worth, worth}
use Rattle.typing_rules.specs.Expressions.{default_type}
use Rattle.meaning.specs.Values.{Value, Slot, known, whole, slot_after, field_slot, words_in, words_at}
use Rattle.meaning.specs.Worked.{ready, and_then}
use Rattle.meaning.specs.Variables.{Blocks, scope_in, lookup, value_of}
use Rattle.meaning.specs.Expressions.{type_of as type_of_value, named as named_value, selected as selected_value, value}
use Rattle.codegen_base.specs.Layouts.{type_of}
use Rattle.codegen_base.specs.Pushes.{words_of, loads as load_instr, named, selects as selects_plan, pushes_zeros}
use Rattle.plan.specs.Plan.{Plan, Do}
use Rattle.plan.proofs.Words.{Words, part}
use Rattle.plan.proofs.Steps.{loads, picks}
use Rattle.codegen_base.proofs.Alike.{worth_alike}
use Rattle.codegen_base.proofs.Seen.{wide, Like, seen_one, seen, found_below, seen_lookup}
use Rattle.codegen_base.proofs.Static.{seen_alike, found_like}
use Rattle.codegen_base.proofs.Likeness.{like_long, kinds_long}
use Rattle.codegen_base.proofs.Fields.{field_held, held_within, held_like}
use Rattle.codegen_base.proofs.Evaluates.{range_part, Slip, Stands, Evals, bind, pushed_bool, lies}
use Rattle.codegen_base.proofs.Running.{Compiled, Coded, Running, Standing}
use Rattle.codegen_base.proofs.Typing.{typed_same, typed_variable}
use Rattle.codegen_base.proofs.Storing.{zeros_push}

unblanked : (scope : Scope) (name : List ℕ) (v : Variable) → variable_named scope name ≡ Some v → last_named scope.variables name ≡ Some v
unblanked scope name v e = go (is_blank name) e where
  go : (b : Bool) → (if b then None else last_named scope.variables name) ≡ Some v → last_named scope.variables name ≡ Some v
  go true e = absurd cc
  go false e = e

module _ {globals : Globals} {program : Compiled globals} {coded : Coded program} {running : Running coded} (standing : Standing running) where
  open program use {elements, code, wide as all}
  open coded use {number as g, function as f, there}
  open running use {context, context.{callers}}
  open standing use {locals as ls, scope, begins as ns, placed, room, holding}

  -- ---- zeros

  pub zeros_goes : (ks : List WordKind) (rest : Plan) (out : Option ℕ) (place : ℕ) (stack : List Word) → Stands standing (pushes_zeros ks rest) place out
      → (to : ℕ) × Slip standing place stack to (stack ++ map zero_of ks) × Stands standing rest to out
  zeros_goes ks rest out place stack on = zeros_push running standing.leave standing.again ks ls rest out place stack on

  abbrev pub blocks : Blocks
  blocks = seen globals.structs ls scope.variables ns

  pub same_worth : (e : Expression) → worth globals (scope_in blocks) e ≡ worth globals scope e
  same_worth e = worth_alike (scope_in blocks) scope (seen_alike globals.structs ls scope ns placed) globals e

  pub type_here : (e : Expression) (k : ValueType) → worth globals scope e ≡ Some (Typed k) → type_of globals elements scope e ≡ k
  type_here e k is = ap (λ o. known (default_type o)) is

  pub type_there : (e : Expression) (k : ValueType) → worth globals scope e ≡ Some (Typed k) → type_of_value globals blocks e ≡ k
  type_there e k is = ap (λ o. known (default_type o)) (same_worth e ∙ is)

  -- ---- names

  pub named_goes : (name : List ℕ) (k : ValueType) (rest : Plan) (out : Option ℕ) (place : ℕ) (stack : List Word) → named_worth scope name ≡ Some (Typed k) → Stands standing (Do (named globals elements scope name) rest) place out
      → Evals standing (ready (named_value globals blocks name)) k rest out place stack stack
  named_goes name k rest out place stack is on = go (is_truth name) (is_nil name) is on where
    go : (t n : Bool) → (if t then Some (Typed BoolType) else (if n then Some Nil else option_map Typed (kind_of (variable_named scope name)))) ≡ Some (Typed k)
        → Stands standing (Do (if t then instrs.Bool (bytes_eq name (codes "true")) else load_instr globals elements scope (variable_named scope name)) rest) place out
        → Evals standing (ready (if t then Truth (bytes_eq name (codes "true")) ∷ [] else (if n then Chan None ∷ [] else value_of (lookup blocks name)))) k rest out place stack stack
    go true n is on = subst (λ j. Evals standing (ready (Truth (bytes_eq name (codes "true")) ∷ [])) j rest out place stack stack) (typed_same BoolType k is) (pushed_bool standing (bytes_eq name (codes "true")) rest out place stack on)
    go false true is on = absurd cc
    go false false is on =
        let (v, found, kind) = typed_variable (variable_named scope name) k is in
        let last = unblanked scope name v found in
        let below = found_below globals.structs 0 scope.variables scope.words name v placed.rising last in
        let many : words_of globals elements scope (known v.kind) ≡ wide globals.structs v = kinds_long globals.structs elements (known v.kind) in
        let w = wide globals.structs v in
        let i : slice_get f.instrs place ≡ Some (instrs.Load v.place w) = on.0 ∙ ap (λ o. Some (load_instr globals elements scope o)) found ∙ ap (λ n. Some (instrs.Load v.place n)) many in
        let is-value : value_of (lookup blocks name) ≡ part v.place w ls = ap value_of (seen_lookup globals.structs ls scope.variables ns name ∙ ap (option_map (seen_one globals.structs ls)) last) in
        subst (λ (x : Value). Evals standing (ready x) k rest out place stack stack) (sym is-value)
        (lies standing (part v.place w ls) k rest out place stack stack (place + 1)
        (subst (λ o. Like globals.structs (known o) (part v.place w ls)) kind (found_like globals.structs ls scope.variables name v holding last))
        (subst (λ (x : Words). Slip standing place stack (place + 1) (stack ++ x)) (range_part v.place w ls) (loads code g f there callers place ls stack v.place w i (omega (arith, below.1, room))))
        on.1)

  -- ---- fields

  pub selection_goes : (e : Expression) (field : List ℕ) (kind t : ValueType) (found : Selected) (rest : Plan) (out : Option ℕ) (place : ℕ) (stack : List Word) → field_of globals.structs kind field ≡ Some found → found.kind ≡ Some t
      → Evals standing (value globals blocks e) kind (selects_plan globals elements scope kind field rest) out place stack stack
      → Evals standing (and_then (value globals blocks e) (λ words. ready (selected_value globals blocks kind field words))) t rest out place stack stack
  selection_goes e field kind t found rest out place stack is has ev =
      let held = field_held globals.structs all kind field found t is has in
      let begin : 0 + found.place ≡ found.place = omega arith in
      let slot : field_slot globals.structs (whole kind) field ≡ record { from = found.place; kind = t } = ap (slot_after 0) is ∙ ap (λ n. record { from = n; kind = known found.kind }) begin ∙ ap (λ o. record { from = found.place; kind = known o }) has in
      let w = words_in globals.structs t in
      bind standing (value globals blocks e) (λ words. ready (selected_value globals blocks kind field words)) kind t (selects_plan globals elements scope kind field rest) rest out out place stack stack ev
      (λ v like to on.
      let many : words_of globals elements scope kind ≡ words_in globals.structs kind = kinds_long globals.structs elements kind in
      let i : slice_get f.instrs to ≡ Some (instrs.Pick (words_in globals.structs kind) found.place w) =
      on.0 ∙ ap (λ (s : Slot). Some (instrs.Pick (words_of globals elements scope kind) s.from (words_of globals elements scope s.kind))) slot
      ∙ ap (λ n. Some (instrs.Pick n found.place (words_of globals elements scope t))) many ∙ ap (λ n. Some (instrs.Pick (words_in globals.structs kind) found.place n)) (kinds_long globals.structs elements t) in
      let chosen : selected_value globals blocks kind field v ≡ part found.place w v = ap (λ (s : Slot). words_at globals.structs s v) slot ∙ range_part found.place w v in
      subst (λ (x : Value). Evals standing (ready x) t rest out to (stack ++ v) stack) (sym chosen)
      (lies standing (part found.place w v) t rest out to (stack ++ v) stack (to + 1) (held_like globals.structs kind found.place t v held like)
      (subst (λ (x : Words). Slip standing to (stack ++ v) (to + 1) (stack ++ x)) (range_part found.place w v) (picks code g f there callers to ls stack v (words_in globals.structs kind) found.place w i (sym (like_long globals.structs kind v like)) (held_within globals.structs kind found.place t held)))
      on.1))
