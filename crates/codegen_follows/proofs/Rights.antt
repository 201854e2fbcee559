-- What right sides give to destinations.
use Rattle.word.specs.Values as requests
use Rattle.bytecode.specs.declared.instr.WordKind.TheVariants as kinds
use Rattle.std.proofs.Common.{◌≡◌, ℕ, ◌+◌, ◌==◌, ◌≤◌, true, false, List, [], ◌∷◌, ◌++◌, length, map, Some, refl, sym, ap, ◌∙◌, subst, arith, suc, zero, inl, inr}
use Rattle.std.proofs.lemmas.Bool.Decides.{nat_tests}
use Rattle.std.proofs.lemmas.List.{map-append}
use Rattle.go_text.specs.declared.rule.Rule.TheVariants as rules
use Rattle.syntax.specs.declared.node.Direction.TheVariants as directions
use Rattle.syntax.specs.Tree.{Expression, expressions, Receive}
use Rattle.bytecode.specs.declared.instr.Instr.TheVariants as instrs
use Rattle.bytecode.specs.Machine.{Frames as CodeFrames, zero_of}
use Rattle.word.specs.Values.{Request, Panic}
use Rattle.type_table.specs.Types.{ValueType, IntType, BoolType, StructType, ChannelType, identical, assignable}
use Rattle.type_table.specs.Containment.{Structs}
use Rattle.type_table.specs.Zeros.{zero_words}
use Rattle.type_table.specs.Scopes.{Scope, Globals}
use Rattle.typing_rules.specs.Violations.{Nodes}
use Rattle.typing_rules.specs.Worths.{Worth, Typed, Constant, Nil, is_int}
use Rattle.typing_rules.specs.Expressions.{DefaultHas, ExpressionsHave, default_type, ExpressionHas}
use Rattle.meaning.specs.Values.{Value, known, parted}
use Rattle.meaning.specs.Variables.{Blocks, Destination}
use Rattle.meaning.specs.Tasks.{Course}
use Rattle.meaning.specs.Source.{gives, stores}
use Rattle.codegen_base.specs.Pushes.{pushes_all}
use Rattle.codegen_base.specs.Statements.{Spot, assigns, pushes_right, pushes_received}
use Rattle.plan.specs.Plan.{Plan, Skip, Do}
use Rattle.plan.proofs.Words.{Words}
use Rattle.plan.proofs.Steps.{receives}
use Rattle.codegen_base.proofs.Assigned.{following_all, AreSpots}
use Rattle.codegen_base.proofs.Typing.{Free, Fits, broken, not_false}
use Rattle.codegen_base.proofs.Sides.{IsPlain}
use Rattle.codegen_follows.proofs.Stands.{scope_of, variables, OneMakes, ValuesMake}
use Rattle.codegen_follows.proofs.Calling.{all_go}
use Rattle.codegen_base.proofs.Running.{Compiled, Coded}
use Rattle.codegen_follows.proofs.Simulated.{Simulated, at, Comes, Works, Position, here_blocks, On', standing}
use Rattle.meaning.specs.Worked.{Worked, and_then}
use Rattle.codegen_base.proofs.Likeness.{AreLike, all_words_of, kinds_zeros}
use Rattle.codegen_base.proofs.Gave.{Follows, bind as follows_then}
use Rattle.meaning.specs.Expressions.{right_values, values, value, received, element_kind}
use Rattle.codegen_follows.proofs.Stored.{all_kept_goes}
use Rattle.codegen_follows.proofs.Channels.{channel_there, channel_value_goes, emitted_own}
use Rattle.codegen_follows.proofs.Taken.{parted_like}
use Rattle.codegen_base.proofs.Told.{told_goes, Lay}
use Rattle.codegen_base.proofs.Called.{AllFit}
use Rattle.codegen_base.specs.Layouts.{carried}
use Rattle.bytecode.specs.Effects.{shape_kinds, kinds_in}
use Rattle.codegen_base.specs.Elements.{shape_of, kinds_of}
use Rattle.word.specs.declared.value.Word.TheVariants.{Bool as Truth, Chan}

-- ---- types

same_number : (n : ℕ) → (n == n) ≡ true
same_number n = grind (arith, nat_tests)

identical_self : (t : ValueType) → identical t t ≡ true
identical_self IntType = refl
identical_self BoolType = refl
identical_self (StructType n) = same_number n
identical_self (ChannelType directions.Both t) = identical_self t
identical_self (ChannelType directions.Send t) = identical_self t
identical_self (ChannelType directions.Receive t) = identical_self t

pub assignable_self : (t : ValueType) → assignable t t ≡ true
assignable_self IntType = refl
assignable_self BoolType = refl
assignable_self (StructType n) = same_number n
assignable_self (ChannelType directions.Both t) = identical_self t
assignable_self (ChannelType directions.Send t) = identical_self t
assignable_self (ChannelType directions.Receive t) = identical_self t

-- a value fits a variable that takes its type
pub default_fits : (w : Worth) (nodes : Nodes) → 1 ≤ nodes.end → Free (DefaultHas (Some w) nodes) → Fits w (known (default_type (Some w)))
default_fits (Typed t) nodes le free = assignable_self t
default_fits (Constant z) nodes le free = let b = broken rules.Constant nodes.end le in (refl, not_false (is_int z) (λ e. free b.0 (e, b.1)))
default_fits Nil nodes le free = let b = broken rules.Nil (nodes.first + 1) (omega arith) in absurd (free b.0 b.1)

module _ {globals : Globals} {program : Compiled globals} {coded : Coded program} {simulated : Simulated coded} (position : Position simulated) where
  open program use {elements, code, wide as all}
  open coded use {function as f, number as g, there, result}
  open simulated use {running, running.{context, context.{callers as ds}}}
  open position use {point, next, mid, tasks as k, together as t, rest as r, point.{locals as ls, around as l, view, fine, room, held as h}}

  abbrev structs : Structs
  structs = globals.structs

  abbrev Works' : Worked Course → CodeFrames → Type 0
  Works' work c = Works simulated work c

  abbrev place_at : ℕ → Words → Words → CodeFrames
  place_at place ls stack = at simulated place ls stack

  abbrev blocks : Blocks
  blocks = here_blocks point

  abbrev scope : Scope
  scope = scope_of view

  abbrev On : Plan → ℕ → Type 0
  On plan place = On' point plan place mid

  -- the destinations of a statement, with the spots of their code, which take values of these types
  pub record Targets (destinations : List Destination) (types : List ValueType) (spots : List Spot) : Type 0 where
    pub are : AreSpots structs all scope destinations types spots
    pub fit : (following_all structs all destinations scope).words ≤ length f.locals
    pub variables_are : variables next ≡ (following_all structs all destinations scope).variables

  -- values on the stack are stored
  pub stored_go : (destinations : List Destination) (types : List ValueType) (spots : List Spot) (vs : List Value) (place : ℕ) → Targets destinations types spots → AreLike structs types vs → On (assigns spots Skip) place → Works' (stores globals blocks k destinations vs) (place_at place ls (all_words_of vs))
  stored_go destinations types spots vs place d like on =
      all_kept_goes simulated ls view next l destinations types vs place mid k h (record { spots = spots; fine = fine; spots_are = d.are; room = d.fit; on = on; variables_are = d.variables_are }) like t.0 r

  -- values are worked out and stored
  pub values_go : (destinations : List Destination) (types : List ValueType) (spots : List Spot) (es : List Expression) (first place : ℕ) → Targets destinations types spots → Free (ExpressionsHave globals view.checked first (expressions es)) → ValuesMake globals elements es → AllFit globals view.checked (expressions es) types
      → On (pushes_all globals elements scope types es (assigns spots Skip)) place → Works' (and_then (values globals blocks (expressions es)) (stores globals blocks k destinations)) (place_at place ls [])
  values_go destinations types spots es first place d free makes fit on =
      all_go position es first types (stores globals blocks k destinations) (Comes simulated) (assigns spots Skip) mid place free makes fit on (λ vs like to on1. stored_go destinations types spots vs to d like on1)

  -- an item and whether it was sent are stored
  pub both_go : (destinations : List Destination) (kept : List ValueType) (spots : List Spot) (e : Expression) (first place : ℕ) → map (zero_words structs) kept ≡ map (zero_words structs) (carried globals elements scope e ∷ BoolType ∷ []) → Targets destinations kept spots → Free (ExpressionHas globals view.checked first (Receive e)) → OneMakes globals elements e
      → On (pushes_received globals elements scope e (assigns spots Skip)) place → Works' (and_then (and_then (value globals blocks e) (received globals (element_kind globals blocks e))) (stores globals blocks k destinations)) (place_at place ls [])
  both_go destinations kept spots e first place zeros-are d free makes on =
      let good : Free (ExpressionHas globals view.checked first e) = λ violation x. free violation (inl x) in
      let c = channel_there point e first good makes (λ violation x. free violation (inr (inl x))) in
      let own = c.element in
      let kind = carried globals elements scope e in
      let shape = shape_of elements kind in
      let rest = assigns spots Skip in
      let kinds-are : shape_kinds code shape ≡ kinds_of structs elements own = ap (λ j. shape_kinds code (shape_of elements j)) c.carries ∙ ap kinds_in c.shape in
      let zero-is : map zero_of (shape_kinds code shape) ≡ zero_words structs own = ap (map zero_of) kinds-are ∙ kinds_zeros structs elements own in
      let zeros : List Value = zero_words structs own ∷ (Truth false ∷ []) ∷ [] in
      let told-are : map zero_of (shape_kinds code shape ++ kinds.Bool ∷ []) ≡ all_words_of zeros = map-append zero_of (shape_kinds code shape) (kinds.Bool ∷ []) ∙ ap (λ (z : Words). z ++ Truth false ∷ []) zero-is in
      let kept-are : zeros ≡ map (zero_words structs) kept = ap (λ j. zero_words structs j ∷ (Truth false ∷ []) ∷ []) (sym c.carries) ∙ sym zeros-are in
      let M = Lay (standing point) zeros rest mid [] in
      follows_then context (and_then (value globals blocks e) (received globals (element_kind globals blocks e))) (stores globals blocks k destinations) M (Comes simulated) (place_at place ls [])
      (channel_value_goes point e first good makes c (received globals (element_kind globals blocks e)) M (Do (instrs.Receive shape) rest) mid place [] (emitted_own point e c (Do (instrs.Receive shape) rest) mid place on)
      (λ w to on1. subst (λ j. Follows context (received globals j (Chan w ∷ [])) M (place_at to ls (Chan w ∷ []))) (sym c.runs)
      (told_goes (standing point) zeros (requests.Receive w) (instrs.Receive shape) (Chan w ∷ []) rest mid to [] on1.0 refl refl (receives code g f there ds to ls [] shape w on1.0) told-are (running.calm (requests.Receive w) (place_at to ls (Chan w ∷ [])) tt) on1.1)))
      (λ vs d' lay. subst (λ x. Works' (stores globals blocks k destinations vs) x) (sym lay.3)
      (stored_go destinations kept spots vs lay.0 d (subst (λ (x : List Value). AreLike structs kept x) (sym lay.2) (subst (λ (zs : List Value). AreLike structs kept (parted zs lay.1)) (sym kept-are) (parted_like structs kept lay.1))) lay.4))

  -- ---- whatever the right side is

  pub gives_plain : (destinations : List Destination) (types : List ValueType) (spots : List Spot) (count : ℕ) (es : List Expression) (first place : ℕ) → length destinations ≡ count → IsPlain count es → Targets destinations types spots → Free (ExpressionsHave globals view.checked first (expressions es)) → ValuesMake globals elements es → AllFit globals view.checked (expressions es) types
      → On (pushes_right globals elements scope count types es (assigns spots Skip)) place → Works' (gives globals blocks k destinations es) (place_at place ls [])
  gives_plain destinations types spots count es first place many plain d free makes fit on =
      subst (λ n. Works' (and_then (right_values globals blocks n es) (stores globals blocks k destinations)) (place_at place ls [])) (sym many)
      (subst (λ x. Works' (and_then x (stores globals blocks k destinations)) (place_at place ls [])) (sym (plain.values_are globals blocks))
      (values_go destinations types spots es first place d free makes fit (subst (λ p. On p place) (plain.plan_is globals elements scope types (assigns spots Skip)) on)))

  pub gives_both : (destinations : List Destination) (types kept : List ValueType) (spots : List Spot) (count : ℕ) (e : Expression) (first place : ℕ) → length destinations ≡ count → count ≡ suc (suc zero) → map (zero_words structs) kept ≡ map (zero_words structs) (carried globals elements scope e ∷ BoolType ∷ []) → Targets destinations kept spots
      → Free (ExpressionHas globals view.checked first (Receive e)) → OneMakes globals elements e → On (pushes_right globals elements scope count types (Receive e ∷ []) (assigns spots Skip)) place → Works' (gives globals blocks k destinations (Receive e ∷ [])) (place_at place ls [])
  gives_both destinations types kept spots count e first place many two zeros d free makes on =
      subst (λ n. Works' (and_then (right_values globals blocks n (Receive e ∷ [])) (stores globals blocks k destinations)) (place_at place ls [])) (sym (many ∙ two))
      (both_go destinations kept spots e first place zeros d free makes (subst (λ n. On (pushes_right globals elements scope n types (Receive e ∷ []) (assigns spots Skip)) place) two on))
