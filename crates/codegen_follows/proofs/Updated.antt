-- Assignments with an operator.
use Rattle.std.proofs.Common.{◌≡◌, ℕ, zero, suc, ◌+◌, ◌≤◌, Bool, true, false, List, [], ◌∷◌, ◌++◌, length, take, drop, Option, Some, pos, option_map, Result, Ok, Err, refl, sym, ap, ◌∙◌, subst, arith, inl, inr}
use Rattle.std.specs.Prelude.{if◌then◌else◌, ◌&&◌, ◌||◌, not}
use Rattle.std.specs.Result.{result_ok}
use Rattle.std.proofs.lemmas.List.{append-nil, drop-drop}
use Rattle.go_text.specs.declared.rule.Rule.TheVariants as rules
use Rattle.syntax.specs.declared.node.BinaryOperator.{BinaryOperator}
use Rattle.syntax.specs.declared.node.BinaryOperator.TheVariants as ops
use Rattle.syntax.specs.Tree.{Expression, Place, Increment, Decrement, Update}
use Rattle.syntax.specs.Measures.{expression_size}
use Rattle.bytecode.specs.declared.instr.Instr.TheVariants as instrs
use Rattle.bytecode.specs.Machine.{Frames as CodeFrames, code_next}
use Rattle.word.specs.declared.value.Word.TheVariants.{Int}
use Rattle.word.specs.Related.{Slips}
use Rattle.type_table.specs.Types.{ValueType, IntType, BoolType, is_int_type, is_channel_type}
use Rattle.type_table.specs.Containment.{Structs}
use Rattle.type_table.specs.Scopes.{Scope, is_blank, Globals}
use Rattle.type_table.specs.Zeros.{zero_words}
use Rattle.typing_rules.specs.declared.violation.Misuse.{Misuse}
use Rattle.typing_rules.specs.declared.violation.Misuse.TheVariants as misuses
use Rattle.typing_rules.specs.Violations.{Nodes}
use Rattle.typing_rules.specs.Worths.{Worth, Typed, Constant, Nil, is_int, is_equality, is_logical, made_type, is_wrong_right, fit_operator, binary_worth, worth, type_of_field}
use Rattle.typing_rules.specs.Expressions.{nodes_of, ValueHas, ExpressionHas, default_type}
use Rattle.typing_rules.specs.Operations.{selected, place_type, ReadPlaceHas, PlaceHas, PlacesHave}
use Rattle.typing_rules.specs.Simples.{MadeHas, UpdatedHas, SimpleHas}
use Rattle.meaning.specs.Values.{Value, Slot, slot, known, words_in, words_at, words_like}
use Rattle.meaning.specs.Variables.{Blocks, value_of, lookup}
use Rattle.meaning.specs.Expressions.{binary}
use Rattle.meaning.specs.Destinations.{placed}
use Rattle.meaning.specs.Tasks.{Course}
use Rattle.meaning.specs.Source.{value_at, stores, simple_work}
use Rattle.codegen_base.specs.Pushes.{emits, operates, between as between_plan}
use Rattle.codegen_base.specs.Statements.{Spot, Dropped, Local, assigns, spot_of, place_spot, loads_spot, width, simple_plan}
use Rattle.plan.specs.Plan.{Plan, Skip, Do}
use Rattle.plan.proofs.Words.{Words, part}
use Rattle.plan.proofs.Steps.{loads}
use Rattle.codegen_base.proofs.Alike.{worth_alike}
use Rattle.codegen_base.proofs.Evaluates.{range_part, pushed_int, Evals, Lies, lies}
use Rattle.codegen_base.proofs.Operators.{ints}
use Rattle.codegen_base.proofs.Pushed.{emits_goes}
use Rattle.codegen_base.proofs.Settled.{two_pushed, typed_goes}
use Rattle.codegen_base.proofs.Splits.{right_operand}
use Rattle.codegen_base.proofs.Static.{variables_known, found_like}
use Rattle.codegen_base.proofs.Fields.{held_within, held_like}
use Rattle.codegen_base.proofs.Likeness.{kinds_long, assignable_zeros}
use Rattle.codegen_base.proofs.Seen.{seen_one, seen_lookup, found_below}
use Rattle.codegen_base.proofs.Assigned.{AreSpots}
use Rattle.codegen_base.proofs.Typing.{Free, fits, broken, made, nodes_end, worth_there}
use Rattle.codegen_follows.proofs.Stands.{scope_of, variables, OneMakes}
use Rattle.codegen_follows.proofs.Places.{Reaches, reaches, places_are, places_stay}
use Rattle.codegen_base.proofs.Running.{Compiled, Coded}
use Rattle.codegen_follows.proofs.Simulated.{Simulated, at, Comes, Works, Position, here_blocks, On', standing}
use Rattle.meaning.specs.Worked.{Worked, ready, and_then}
use Rattle.codegen_base.proofs.Gave.{bind as follows_then}
use Rattle.codegen_follows.proofs.Stored.{kept_goes}

-- ---- a part of a part

part_taken : (n w : ℕ) (ls : Words) → n ≤ w → take n (take w ls) ≡ take n ls
part_taken zero w ls le = refl
part_taken (suc n) zero ls le = absurd (omega (arith, le))
part_taken (suc n) (suc w) [] le = refl
part_taken (suc n) (suc w) (x ∷ ls) le = ap (λ (l : Words). x ∷ l) (part_taken n w ls (omega (arith, le)))

part_after : (from n w : ℕ) (ls : Words) → from + n ≤ w → take n (drop from (take w ls)) ≡ take n (drop from ls)
part_after zero n w ls le = part_taken n w ls (omega (arith, le))
part_after (suc from) n zero ls le = absurd (omega (arith, le))
part_after (suc from) n (suc w) [] le = refl
part_after (suc from) n (suc w) (x ∷ ls) le = part_after from n w ls (omega (arith, le))

part_part : (p w from n : ℕ) (ls : Words) → from + n ≤ w → part from n (part p w ls) ≡ part (p + from) n ls
part_part p w from n ls le = part_after from n w (drop p ls) le ∙ ap (take n) (drop-drop from p ls)

-- ---- an operator to the right of a value that has a type makes one that has

same_ok : (a b : Worth) → ◌≡◌ {A = Result Worth Misuse} (Ok a) (Ok b) → a ≡ b
same_ok a b e = ap taken e where
  taken : Result Worth Misuse → Worth
  taken (Ok w) = w
  taken (Err misuse) = a

typed_result : (operator : BinaryOperator) (s : ValueType) (b w : Worth) → binary_worth operator (Typed s) b ≡ Ok w → (k : ValueType) × (w ≡ Typed k)
typed_result operator s (Constant b) w e = go (is_logical operator || not (is_int_type s)) (not (is_int b)) (is_wrong_right operator b) e where
  go : (x y z : Bool) → (if x then Err misuses.Operands else (if y then Err misuses.RightConstant else (if z then Err misuses.Right else Ok (Typed (made_type operator))))) ≡ Ok w → (k : ValueType) × (w ≡ Typed k)
  go true y z e = absurd cc
  go false true z e = absurd cc
  go false false true e = absurd cc
  go false false false e = (made_type operator, sym (same_ok (Typed (made_type operator)) w e))
typed_result operator s (Typed t) w e = go (fit_operator operator s t) e where
  go : (x : Bool) → (if x then Ok (Typed (made_type operator)) else Err misuses.Operands) ≡ Ok w → (k : ValueType) × (w ≡ Typed k)
  go true e = (made_type operator, sym (same_ok (Typed (made_type operator)) w e))
  go false e = absurd cc
typed_result operator s Nil w e = go (is_equality operator && is_channel_type s) e where
  go : (x : Bool) → (if x then Ok (Typed BoolType) else Err misuses.RightNil) ≡ Ok w → (k : ValueType) × (w ≡ Typed k)
  go true e = (BoolType, sym (same_ok (Typed BoolType) w e))
  go false e = absurd cc

module _ {globals : Globals} {program : Compiled globals} {coded : Coded program} {simulated : Simulated coded} (position : Position simulated) where
  open program use {elements, code, wide as all}
  open coded use {function as f, number as g, there, result}
  open simulated use {running, running.{context, context.{callers as ds}}}
  open position use {point, next, mid, tasks as k, together as t, rest as r, point.{locals as ls, around as l, view, fine, room, held as h}}

  abbrev structs : Structs
  structs = globals.structs

  abbrev Works' : Worked Course → CodeFrames → Type 0
  Works' work c = Works simulated work c

  abbrev place_at : ℕ → Words → Words → CodeFrames
  place_at place ls stack = at simulated place ls stack

  abbrev blocks : Blocks
  blocks = here_blocks point

  abbrev scope : Scope
  scope = scope_of view

  abbrev On : Plan → ℕ → Type 0
  On plan place = On' point plan place mid

  abbrev EV : Worked Value → ValueType → Plan → Option ℕ → ℕ → Words → Words → Type 0
  EV o kind rest out place stack base = Evals (standing point) o kind rest out place stack base

  abbrev spot : Place → Spot
  spot place = spot_of globals elements scope (selected globals scope place)

  abbrev Reached : Place → Type 0
  Reached place = Reaches coded ls view fine place

  -- the value of an lvalue is loaded
  place_value : (place : Place) (p : Reached place) (rest : Plan) (out : Option ℕ) (at' : ℕ) (stack : Words) → On' point (loads_spot globals elements scope (spot place) rest) at' out
      → EV (ready (value_at globals blocks k place)) p.kind rest out at' stack stack
  place_value place p rest out at' stack on =
      let structs = globals.structs in
      let v = p.variable in
      let n = words_in structs p.kind in
      let w = words_in structs (known v.kind) in
      let inside = held_within structs (known v.kind) p.from p.kind p.held in
      let below = found_below structs 0 (variables view) scope.words place.name v fine.placed.rising p.found in
      let spot-is : spot place ≡ Local (v.place + p.from) n = ap (spot_of globals elements scope) p.selected_is ∙ ap (Local (v.place + p.from)) (kinds_long structs elements p.kind) in
      let on' = subst (λ s. On' point (loads_spot globals elements scope s rest) at' out) spot-is on in
      let value-is : value_at globals blocks k place ≡ part (v.place + p.from) n ls =
      ap (λ (s : Slot). words_at structs s (value_of (lookup blocks place.name))) p.slot_is
      ∙ ap (λ o. words_at structs (slot p.from p.kind) (value_of o)) (seen_lookup structs ls (variables view) view.begins place.name ∙ ap (option_map (seen_one structs ls)) p.found)
      ∙ range_part p.from n (part v.place w ls) ∙ part_part v.place w p.from n ls inside in
      let like = held_like structs (known v.kind) p.from p.kind (part v.place w ls) p.held (found_like structs ls (variables view) place.name v h.holding p.found) in
      let x = part (v.place + p.from) n ls in
      subst (λ (x : Value). EV (ready x) p.kind rest out at' stack stack) (sym value-is)
      (lies (standing point) x p.kind rest out at' stack stack (at' + 1) (subst (λ (x : Value). words_like (zero_words structs p.kind) x ≡ x) (part_part v.place w p.from n ls inside) like)
      (subst (λ (x : Words). Slips (code_next code) (place_at at' ls stack) (place_at (at' + 1) ls (stack ++ x))) (range_part (v.place + p.from) n ls) (loads code g f there ds at' ls stack (v.place + p.from) n on'.0 (omega (arith, inside, below.1, room))))
      on'.1)

  -- the value that an operator makes goes to the lvalue
  made_stored : (place : Place) (first : ℕ) (kind : ValueType) (o : Worked Value) (plan : ℕ) → is_blank place.name ≡ false → Free (PlaceHas globals view.checked first place) → zero_words globals.structs kind ≡ zero_words globals.structs (known (place_type globals view.checked place))
      → variables next ≡ variables view → scope.words ≤ length f.locals → EV o kind (assigns (spot place ∷ []) Skip) mid plan [] [] → Works' (and_then o (λ v. stores globals blocks k (placed globals blocks place ∷ []) (v ∷ []))) (place_at plan ls [])
  made_stored place first kind o plan no-blank free zeros same most evals =
      let structs = globals.structs in
      let places : List Place = place ∷ [] in
      let suits : zero_words structs kind ≡ zero_words structs (if is_blank place.name then kind else known (place_type globals view.checked place)) = zeros ∙ ap (λ b. zero_words structs (if b then kind else known (place_type globals view.checked place))) (sym no-blank) in
      let one : Free (PlacesHave globals view.checked first places) = only_one first place free in
      let are = places_are coded ls view fine places first (kind ∷ []) (kind ∷ []) one (suits, tt) in
      let spot-is : place_spot globals elements scope place kind ≡ spot place = ap (λ b. if b then Dropped (width globals elements scope kind) else spot place) no-blank in
      let stay = places_stay coded ls view fine places in
      let destinations = placed globals blocks place ∷ [] in
      follows_then context o (λ v. stores globals blocks k destinations (v ∷ [])) (Lies (standing point) (zero_words structs kind) (assigns (spot place ∷ []) Skip) mid []) (Comes simulated) (place_at plan ls [])
      evals
      (λ v d m. subst (λ x. Works' (stores globals blocks k destinations (v ∷ [])) x) (sym (m.2 ∙ ap (λ (x : Words). place_at m.0 ls x) (sym (append-nil v ∙ refl))))
      (subst (λ (x : Words). Works' (stores globals blocks k destinations (v ∷ [])) (place_at m.0 ls x)) (append-nil (v ++ []))
      (kept_goes simulated ls view next l destinations (kind ∷ []) (v ∷ []) [] m.0 mid k h (record {
        spots = spot place ∷ [];
        fine = fine;
        spots_are = subst (λ s. AreSpots structs all scope destinations (kind ∷ []) (s ∷ [])) spot-is are;
        room = subst (λ (s : Scope). s.words ≤ length f.locals) (sym stay) most;
        on = m.3;
        variables_are = same ∙ ap (λ (s : Scope). s.variables) (sym stay);
      }) (m.1, tt) t.0 r))) where
        only_one : (first : ℕ) (place : Place) → Free (PlaceHas globals view.checked first place) → Free (PlacesHave globals view.checked first (place ∷ []))
        only_one first place free violation (inl x) = free violation x
        only_one first place free violation (inr x) = absurd x

  -- what is made fits the lvalue
  pub record IsUpdated (operator : BinaryOperator) (place : Place) (b : Worth) : Type 0 where
    pub no_blank : is_blank place.name ≡ false
    pub reached : Reached place
    pub kind : ValueType
    pub made_is : binary_worth operator (Typed reached.kind) b ≡ Ok (Typed kind)
    pub zeros : zero_words globals.structs kind ≡ zero_words globals.structs (known (place_type globals view.checked place))

  updated_there : (operator : BinaryOperator) (place : Place) (first : ℕ) (b : Worth) (nodes : Nodes) (end : ℕ) → 1 ≤ nodes.end → 1 ≤ end → Free (ReadPlaceHas globals view.checked first place) → Free (UpdatedHas operator (place_type globals view.checked place) (Some b) nodes end) → IsUpdated operator place b
  updated_there operator place first b nodes end le positive free update = go (is_blank place.name) refl where
    go : (t : Bool) → is_blank place.name ≡ t → IsUpdated operator place b
    go true blank = let x = broken rules.Assigned (first + 1) (omega arith) in absurd (free x.0 (inr (blank, x.1)))
    go false no-blank =
        let p = reaches coded ls view fine place first no-blank (λ violation x. free violation (inl x)) in
        let good : Free (MadeHas (binary_worth operator (Typed p.kind) b) p.kind nodes end) = λ violation x. update violation (subst (λ o. UpdatedHas operator o (Some b) nodes end violation) (sym p.checked_is) x) in
        let w = made (binary_worth operator (Typed p.kind) b) nodes nodes end le le positive (λ violation x. good violation (inl x)) in
        let k = typed_result operator p.kind b w.0 w.1 in
        let fit = fits (Typed k.0) p.kind nodes le (λ violation x. good violation (inr (subst (λ o. ValueHas o (Some p.kind) nodes violation) (sym (ap result_ok w.1 ∙ ap Some k.1)) x))) in
        record { no_blank = no-blank; reached = p; kind = k.0; made_is = w.1 ∙ ap Ok k.1; zeros = assignable_zeros globals.structs k.0 p.kind fit ∙ ap (λ o. zero_words globals.structs (known o)) (sym p.checked_is) }

  -- ---- the statements

  abbrev Pushes' : Worked Value → ValueType → (Plan → Plan) → Type 0
  Pushes' o kind push = (rest : Plan) (out : Option ℕ) (place : ℕ) (stack : Words) → On' point (push rest) place out → EV o kind rest out place stack stack

  abbrev loads_place : Place → Plan → Plan
  loads_place place rest = loads_spot globals elements scope (spot place) rest

  -- the lvalue's value, and one
  stepped : (operator : BinaryOperator) (place : Place) (u : IsUpdated operator place (Constant (pos 1))) → Pushes' (binary operator (ready (value_at globals blocks k place)) (ready (Int (pos 1) ∷ []))) u.kind (λ rest. between_plan operator IntType (loads_place place) (λ more. Do (instrs.Int (pos 1)) more) rest)
  stepped operator place u rest out at' stack on =
      let w = right_operand operator u.reached.kind (pos 1) u.kind u.made_is in
      let o = binary operator (ready (value_at globals blocks k place)) (ready (Int (pos 1) ∷ [])) in
      subst (λ j. EV o j rest out at' stack stack) w.gives
      (two_pushed (standing point) operator IntType IntType IntType (made_type operator) (ready (value_at globals blocks k place)) (ready (Int (pos 1) ∷ [])) (loads_place place) (λ more. Do (instrs.Int (pos 1)) more) w.plain (ints globals.structs operator w.plain)
      (λ rest out at' stack on. subst (λ j. EV (ready (value_at globals blocks k place)) j rest out at' stack stack) w.int (place_value place u.reached rest out at' stack on))
      (λ rest out at' stack on. pushed_int (standing point) (pos 1) rest out at' stack on) rest out at' stack on)

  pub increment_goes : (place : Place) (first at' : ℕ) → Free (SimpleHas globals view.checked first (Increment place)) → On (simple_plan globals elements view.site.layout view.site.prints (Increment place)) at' → variables next ≡ variables view → scope.words ≤ length f.locals → Works' (simple_work globals blocks k (Increment place)) (place_at at' ls [])
  increment_goes place first at' free on same most =
      let u = updated_there ops.Add place first (Constant (pos 1)) (record { first = first; end = first + 1 }) (first + 2) (omega arith) (omega arith) (λ violation x. free violation (inl x)) (λ violation x. free violation (inr x)) in
      made_stored place first u.kind _ at' u.no_blank (λ violation x. free violation (inl (inl x))) u.zeros same most (stepped ops.Add place u (assigns (spot place ∷ []) Skip) mid at' [] on)

  pub decrement_goes : (place : Place) (first at' : ℕ) → Free (SimpleHas globals view.checked first (Decrement place)) → On (simple_plan globals elements view.site.layout view.site.prints (Decrement place)) at' → variables next ≡ variables view → scope.words ≤ length f.locals → Works' (simple_work globals blocks k (Decrement place)) (place_at at' ls [])
  decrement_goes place first at' free on same most =
      let add = updated_there ops.Add place first (Constant (pos 1)) (record { first = first; end = first + 1 }) (first + 2) (omega arith) (omega arith) (λ violation x. free violation (inl x)) (λ violation x. free violation (inr x)) in
      let int = right_operand ops.Add add.reached.kind (pos 1) add.kind add.made_is in
      let u : IsUpdated ops.Subtract place (Constant (pos 1)) = record { no_blank = add.no_blank; reached = add.reached; kind = add.kind; made_is = ap (λ j. binary_worth ops.Subtract (Typed j) (Constant (pos 1))) int.int ∙ ap (λ j. Ok (Typed j)) int.gives; zeros = add.zeros } in
      made_stored place first u.kind _ at' u.no_blank (λ violation x. free violation (inl (inl x))) u.zeros same most (stepped ops.Subtract place u (assigns (spot place ∷ []) Skip) mid at' [] on)

  pub update_goes : (place : Place) (operator : BinaryOperator) (e : Expression) (first at' : ℕ) → Free (SimpleHas globals view.checked first (Update place operator e)) → OneMakes globals elements e → On (simple_plan globals elements view.site.layout view.site.prints (Update place operator e)) at' → variables next ≡ variables view → scope.words ≤ length f.locals → Works' (simple_work globals blocks k (Update place operator e)) (place_at at' ls [])
  update_goes place operator e first at' free makes on same most =
      let good : Free (ExpressionHas globals view.checked (first + 1) e) = λ violation x. free violation (inr (inl x)) in
      let w = worth_there globals view.checked program.types_known (variables_known view.checked scope fine.alike fine.placed.known) e (first + 1) good in
      let u = updated_there operator place first w.0 (nodes_of (first + 1) e) (first + 1 + expression_size e + 1) (nodes_end (first + 1) e) (omega arith) (λ violation x. free violation (inl x))
      (λ violation x. free violation (inr (inr (subst (λ o. UpdatedHas operator (place_type globals view.checked place) o (nodes_of (first + 1) e) (first + 1 + expression_size e + 1) violation) (sym w.1) x)))) in
      let here-worth : worth globals scope e ≡ Some w.0 = sym (worth_alike view.checked scope fine.alike globals e) ∙ w.1 in
      let own : place_type globals scope place ≡ Some u.reached.kind = ap type_of_field u.reached.selected_is in
      let rest = assigns (spot place ∷ []) Skip in
      made_stored place first u.kind _ at' u.no_blank (λ violation x. free violation (inl (inl x))) u.zeros same most
      (typed_goes (standing point) operator (ready (value_at globals blocks k place)) (loads_place place) u.reached.kind e w.0 u.kind here-worth u.made_is
      (λ rest out at' stack on. place_value place u.reached rest out at' stack on)
      (λ t et. emits_goes (standing point) e (first + 1) good makes t (here-worth ∙ ap Some et)) rest mid at' []
      (subst (λ o. On (operates elements operator (Some (Typed (known o))) (Some w.0) (known o) (known (default_type (Some w.0))) (loads_place place) (emits globals elements scope e) rest) at') own
      (subst (λ o. On (operates elements operator (Some (Typed (known (place_type globals scope place)))) o (known (place_type globals scope place)) (known (default_type o)) (loads_place place) (emits globals elements scope e) rest) at') here-worth on)))
