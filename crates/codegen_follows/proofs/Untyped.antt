-- Variables without a type.
use Rattle.std.proofs.Common.{◌≡◌, ℕ, ◌+◌, ◌≤◌, Bool, true, false, List, [], length, refl, sym, subst, arith, inl, inr, sum_by}
use Rattle.std.specs.Prelude.{◌||◌}
use Rattle.std.specs.Option.{is_some}
use Rattle.std.specs.List.{list_any}
use Rattle.go_text.specs.declared.rule.Rule.TheVariants as rules
use Rattle.syntax.specs.Tree.{VarUntyped, Expression}
use Rattle.syntax.specs.Measures.{expression_size}
use Rattle.bytecode.specs.Machine.{Frames as CodeFrames}
use Rattle.type_table.specs.Containment.{Structs}
use Rattle.type_table.specs.Scopes.{Scope, is_reserved, own_variable, Globals}
use Rattle.typing_rules.specs.Simples.{has_twice, VariablesHave, UntypedVariablesHave}
use Rattle.typing_rules.specs.Operations.{given}
use Rattle.typing_rules.proofs.Defaults.{untyped_names}
use Rattle.meaning.specs.Variables.{Blocks, Destination}
use Rattle.meaning.specs.Destinations.{given_kinds}
use Rattle.meaning.specs.Tasks.{Course}
use Rattle.meaning.specs.Source.{gives, statement_work}
use Rattle.codegen_base.specs.Statements.{right_types, defines}
use Rattle.plan.proofs.Words.{Words}
use Rattle.codegen_base.proofs.Typing.{Free, broken}
use Rattle.codegen_follows.proofs.Stands.{scope_of, ValuesMake}
use Rattle.codegen_follows.proofs.Names.{neither, AreNew, new_names}
use Rattle.codegen_follows.proofs.Defined.{names_go, Following}
use Rattle.codegen_base.proofs.Running.{Compiled, Coded}
use Rattle.codegen_follows.proofs.Simulated.{Simulated, at, Works, Position, here_blocks, On'}
use Rattle.meaning.specs.Worked.{Worked}
use Rattle.plan.specs.Plan.{Plan}

-- names that a declaration may have
pub record IsDeclared (s : Scope) (names : List (List ℕ)) : Type 0 where
  pub single : has_twice names ≡ false
  pub are_new : AreNew s names

pub declared_there : (s : Scope) (names : List (List ℕ)) (end : ℕ) → 1 ≤ end → Free (VariablesHave s names end) → IsDeclared s names
declared_there s names end le free = go (list_any is_reserved names || has_twice names || list_any (λ name. is_some (own_variable s name)) names) refl where
  go : (b : Bool) → (list_any is_reserved names || has_twice names || list_any (λ name. is_some (own_variable s name)) names) ≡ b → IsDeclared s names
  go true e = let x = broken rules.Declared end le in absurd (free x.0 (e, x.1))
  go false e =
      let one = neither (list_any is_reserved names || has_twice names) (list_any (λ name. is_some (own_variable s name)) names) e in
      record { single = (neither (list_any is_reserved names) (has_twice names) one.0).1; are_new = one.1 }

module _ {globals : Globals} {program : Compiled globals} {coded : Coded program} {simulated : Simulated coded} (position : Position simulated) where
  open program use {elements, code, wide as all}
  open coded use {function as f, number as g, there, result}
  open simulated use {running, running.{context, context.{callers as ds}}}
  open position use {point, next, mid, tasks as k, together as t, rest as r, point.{locals as ls, around as l, view, fine, room, held as h}}

  abbrev structs : Structs
  structs = globals.structs

  abbrev Works' : Worked Course → CodeFrames → Type 0
  Works' work c = Works simulated work c

  abbrev place_at : ℕ → Words → Words → CodeFrames
  place_at place ls stack = at simulated place ls stack

  abbrev blocks : Blocks
  blocks = here_blocks point

  abbrev scope : Scope
  scope = scope_of view

  abbrev On : Plan → ℕ → Type 0
  On plan place = On' point plan place mid

  pub untyped_goes : (names : List (List ℕ)) (right : List Expression) (first place : ℕ) → ValuesMake globals elements right → Free (UntypedVariablesHave globals view.checked first names right)
      → On (defines globals elements view.site.layout names (right_types globals elements scope (length names) right) right) place → Following position names (right_types globals elements scope (length names) right) → Works' (statement_work globals blocks k (VarUntyped names right)) (place_at place ls [])
  untyped_goes names right first place makes free on following =
      let end = first + sum_by expression_size right + 1 in
      let d = declared_there view.checked names end (omega arith) (λ violation x. free violation (inr (inr (inl x)))) in
      subst (λ (to : List Destination). Works' (gives globals blocks k to right) (place_at place ls [])) (sym (new_names coded ls view fine names (given_kinds globals blocks (length names) right) d.are_new))
      (names_go position names right first end place (omega arith) makes d.single
      (λ violation x. free violation (inl x)) (λ violation x. free violation (inr (inl x))) (untyped_names view.checked names (given globals view.checked (length names) first right) end (omega arith) (λ violation x. free violation (inr x))) on following)
