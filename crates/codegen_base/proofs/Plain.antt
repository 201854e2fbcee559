-- The code of simple statements, declarations and what selects wait for has no selects.
use Rattle.std.proofs.Common.{ℕ, zero, suc, List, [], ◌∷◌, length, Option, Some, None}
use Rattle.syntax.specs.Tree.{Expression, Receive, Part, Value as ValuePart, Text, Simple, CallAlone, Close, Print, ReceiveAlone, Send, Increment, Decrement, Assign, Define, Update, Comm, CommSend, CommReceive, CommDefine, CommAssign}
use Rattle.bytecode.specs.declared.instr.Instr.{Instr}
use Rattle.bytecode.specs.declared.instr.Instr.TheVariants as instrs
use Rattle.type_table.specs.Types.{ValueType, BoolType}
use Rattle.type_table.specs.Scopes.{Globals, Scope, Yield, NoResult, Yields}
use Rattle.typing_rules.specs.Worths.{Typed as TypedWorth, worth}
use Rattle.typing_rules.specs.Calls.{result_of}
use Rattle.typing_rules.specs.Operations.{selected, place_type}
use Rattle.meaning.specs.Values.{known}
use Rattle.meaning.specs.Expressions.{number_of}
use Rattle.codegen_base.specs.declared.element.Element.{Element}
use Rattle.codegen_base.specs.Elements.{kinds_of}
use Rattle.codegen_base.specs.Generated.{zero_values, same_types, variables_plan, comm_plan, unless_two, one_or_two}
use Rattle.codegen_base.specs.Layouts.{Layout, type_of, carried}
use Rattle.codegen_base.specs.Pushes.{argument_types, pushes, pushes_own, pushes_zeros, drops, emits}
use Rattle.codegen_base.specs.Statements.{Spot, Dropped, Local, stores, stores_all, singles, last_counts, assigns, pushes_parts, pushes_arguments, pushes_received, pushes_right, loads_spot, spot_of, result_words, defines, name_spots, name_types, place_spots, taken_types, right_types, simple_plan}
use Rattle.plan.specs.Plan.{Plan, Skip, Do}
use Rattle.codegen_base.proofs.Before.{Before, Here, Step, before_on, Stands, zeros_before, operates_before, emits_before, pushes_before, pushes_all_before}

-- ---- stores

pub drops_before : (n : ℕ) → Stands (drops n)
drops_before zero rest = Here rest
drops_before (suc n) rest = Step _ rest rest (Here rest)

pub stores_before : (spot : Spot) → Stands (stores spot)
stores_before (Dropped words) rest = drops_before words rest
stores_before (Local place words) rest = Step _ rest rest (Here rest)

all_before : (spots : List Spot) → Stands (stores_all spots)
all_before [] rest = Here rest
all_before (spot ∷ spots) rest = before_on (stores_all spots (stores spot rest)) (stores spot rest) rest (all_before spots (stores spot rest)) (stores_before spot rest)

ticks_before : Stands (λ rest. Do instrs.Tick rest)
ticks_before rest = Step _ rest rest (Here rest)

pub assigns_before : (spots : List Spot) → Stands (assigns spots)
assigns_before [] rest = ticks_before rest
assigns_before (spot ∷ []) rest = before_on (stores spot (Do instrs.Tick rest)) (Do instrs.Tick rest) rest (stores_before spot (Do instrs.Tick rest)) (ticks_before rest)
assigns_before (spot ∷ (other ∷ others)) rest =
    let spots = last_counts (singles (spot ∷ (other ∷ others))) in before_on (stores_all spots (Do instrs.Tick rest)) (Do instrs.Tick rest) rest (all_before spots (Do instrs.Tick rest)) (ticks_before rest)

-- ---- one after the other

pub both_stand : (first second : Plan → Plan) → Stands first → Stands second → Stands (λ rest. first (second rest))
both_stand first second x y rest = before_on (first (second rest)) (second rest) rest (x (second rest)) (y rest)

pub then_step : (first : Plan → Plan) (i : Instr) → Stands first → Stands (λ rest. first (Do i rest))
then_step first i x rest = before_on (first (Do i rest)) (Do i rest) rest (x (Do i rest)) (Step i rest rest (Here rest))

module _ (globals : Globals) (elements : List Element) (scope : Scope) where
  parts_before : (parts : List Part) → Stands (pushes_parts globals elements scope parts)
  parts_before [] rest = Here rest
  parts_before (ValuePart value ∷ others) rest = both_stand (pushes_own globals elements scope value) (pushes_parts globals elements scope others) (pushes_before globals elements scope _ value) (parts_before others) rest
  parts_before (Text bytes ∷ others) rest = parts_before others rest

  pub arguments_before : (function : ℕ) (values : List Expression) → Stands (pushes_arguments globals elements scope function values)
  arguments_before function values = pushes_all_before globals elements scope (argument_types globals elements scope function) values

  received_before : (channel : Expression) → Stands (pushes_received globals elements scope channel)
  received_before channel = then_step (emits globals elements scope channel) _ (emits_before globals elements scope channel)

  pub right_before : (count : ℕ) (types : List ValueType) (right : List Expression) → Stands (pushes_right globals elements scope count types right)
  right_before (suc (suc zero)) types (Receive channel ∷ []) rest = received_before channel rest
  right_before count types right rest = pushes_all_before globals elements scope types right rest

  loads_before : (spot : Spot) → Stands (loads_spot globals elements scope spot)
  loads_before (Dropped words) rest = Here rest
  loads_before (Local place words) rest = Step _ rest rest (Here rest)

  stored_before : (spot : Spot) → Before Skip (stores spot (Do instrs.Tick Skip))
  stored_before spot = both_stand (stores spot) (λ rest. Do instrs.Tick rest) (stores_before spot) ticks_before Skip

module _ (globals : Globals) (elements : List Element) (layout : Layout) where
  pub defines_before : (names : List (List ℕ)) (types : List ValueType) (right : List Expression) → Before Skip (defines globals elements layout names types right)
  defines_before names types right =
      both_stand (pushes_right globals elements layout.scope (length names) (name_types globals elements layout names types) right) (assigns (name_spots globals elements layout names types)) (right_before globals elements layout.scope (length names) (name_types globals elements layout names types) right)
      (assigns_before (name_spots globals elements layout names types)) Skip

  result_before : (result : Yield) → Stands (drops (result_words globals elements layout.scope result))
  result_before NoResult = drops_before 0
  result_before (Yields kind) = drops_before _

  pub simple_before : (q : ℕ) (simple : Simple) → Before Skip (simple_plan globals elements layout q simple)
  simple_before q (CallAlone function arguments) =
      let number = number_of globals function in
      both_stand (λ rest. pushes_arguments globals elements layout.scope number arguments.values (Do (instrs.Call number) rest)) (drops (result_words globals elements layout.scope (result_of globals number)))
      (then_step (pushes_arguments globals elements layout.scope number arguments.values) _ (arguments_before globals elements layout.scope number arguments.values)) (result_before (result_of globals number)) Skip
  simple_before q (Close channel) = then_step (pushes_own globals elements layout.scope channel) _ (pushes_before globals elements layout.scope _ channel) Skip
  simple_before q (Print line parts trailing) = then_step (pushes_parts globals elements layout.scope parts) _ (parts_before globals elements layout.scope parts) Skip
  simple_before q (ReceiveAlone channel) = then_step (pushes_received globals elements layout.scope channel) _ (received_before globals elements layout.scope channel) Skip
  simple_before q (Send channel value) =
      let kind = carried globals elements layout.scope channel in
      then_step (λ rest. pushes_own globals elements layout.scope channel (pushes globals elements layout.scope kind value rest)) _
      (both_stand (pushes_own globals elements layout.scope channel) (pushes globals elements layout.scope kind value) (pushes_before globals elements layout.scope _ channel) (pushes_before globals elements layout.scope kind value)) Skip
  simple_before q (Increment place) = let spot = spot_of globals elements layout.scope (selected globals layout.scope place) in before_on _ _ Skip (loads_before globals elements layout.scope spot _) (Step _ Skip _ (Step _ Skip _ (stored_before globals elements layout.scope spot)))
  simple_before q (Decrement place) = let spot = spot_of globals elements layout.scope (selected globals layout.scope place) in before_on _ _ Skip (loads_before globals elements layout.scope spot _) (Step _ Skip _ (Step _ Skip _ (stored_before globals elements layout.scope spot)))
  simple_before q (Assign places right) =
      let types = right_types globals elements layout.scope (length places) right in
      both_stand (pushes_right globals elements layout.scope (length places) (taken_types globals elements layout.scope places types) right) (assigns (place_spots globals elements layout.scope places types)) (right_before globals elements layout.scope (length places) (taken_types globals elements layout.scope places types) right)
      (assigns_before (place_spots globals elements layout.scope places types)) Skip
  simple_before q (Define names right) = defines_before names (right_types globals elements layout.scope (length names) right) right
  simple_before q (Update place operator value) =
      let spot = spot_of globals elements layout.scope (selected globals layout.scope place) in
      let own = known (place_type globals layout.scope place) in
      let rest = stores spot (Do instrs.Tick Skip) in
      before_on (simple_plan globals elements layout q (Update place operator value)) rest Skip
      (operates_before elements operator own (type_of globals elements layout.scope value) (loads_spot globals elements layout.scope spot) (emits globals elements layout.scope value) (loads_before globals elements layout.scope spot) (emits_before globals elements layout.scope value) (Some (TypedWorth own)) (worth globals layout.scope value) rest)
      (stored_before globals elements layout.scope spot)

  zero_before : (count : ℕ) (names : List (List ℕ)) (kind : ValueType) → Stands (zero_values globals elements count names kind)
  zero_before count [] kind rest = Here rest
  zero_before count (name ∷ names) kind rest = both_stand (pushes_zeros (kinds_of globals.structs elements kind)) (zero_values globals elements count names kind) (zeros_before (kinds_of globals.structs elements kind)) (zero_before count names kind) rest

  pub variables_before : (names : List (List ℕ)) (kind : ValueType) (right : Option (List Expression)) → Before Skip (variables_plan globals elements layout names kind right)
  variables_before names kind (Some right) = defines_before names (same_types globals elements names kind) right
  variables_before names kind None =
      let spots = name_spots globals elements layout names (same_types globals elements names kind) in both_stand (zero_values globals elements 0 names kind) (assigns spots) (zero_before 0 names kind) (assigns_before spots) Skip

  two_before : {A : Type 0} (yields : Yield) (ok : Option A) → Stands (unless_two globals elements yields ok)
  two_before yields None rest = Step _ rest rest (Here rest)
  two_before yields (Some other) rest = Here rest

  pub comm_plain : (yields : Yield) (comm : Comm) → Before Skip (comm_plan globals elements yields layout comm)
  comm_plain yields (CommSend channel value) = Here Skip
  comm_plain yields (CommReceive channel) = Step _ Skip Skip (Here Skip)
  comm_plain yields (CommDefine item ok channel) =
      let spots = name_spots globals elements layout (one_or_two globals elements yields item ok) (carried globals elements layout.scope channel ∷ BoolType ∷ []) in both_stand (unless_two globals elements yields ok) (assigns spots) (two_before yields ok) (assigns_before spots) Skip
  comm_plain yields (CommAssign item ok channel) =
      let spots = place_spots globals elements layout.scope (one_or_two globals elements yields item ok) (carried globals elements layout.scope channel ∷ BoolType ∷ []) in both_stand (unless_two globals elements yields ok) (assigns spots) (two_before yields ok) (assigns_before spots) Skip
