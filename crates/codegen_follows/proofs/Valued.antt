-- An expression's code leads to a pc with its value on the stack, or panics as the source does.
use Rattle.std.proofs.Common.{◌≡◌, ℕ, ◌+◌, Bool, true, false, List, [], ◌∷◌, ◌++◌, Option, Some, refl, sym, ap, ◌∙◌, subst, arith, inl, inr}
use Rattle.go_text.specs.declared.rule.Rule.TheVariants as rules
use Rattle.syntax.specs.Tree.{Expression}
use Rattle.bytecode.specs.Machine.{Frames as CodeFrames}
use Rattle.word.specs.declared.value.Word.{Word}
use Rattle.word.specs.declared.value.Word.TheVariants.{Bool as Truth}
use Rattle.type_table.specs.Types.{ValueType, BoolType, StructType, ChannelType, IntType, is_bool_type}
use Rattle.type_table.specs.Scopes.{Scope, Globals}
use Rattle.typing_rules.specs.Worths.{Worth, Typed, Constant, Nil, worth}
use Rattle.typing_rules.specs.Expressions.{nodes_of, ExpressionHas, ConditionHas, TestHas}
use Rattle.meaning.specs.Values.{Value}
use Rattle.meaning.specs.Expressions.{word_in, value}
use Rattle.meaning.specs.Tasks.{Task}
use Rattle.meaning.specs.Source.{one}
use Rattle.codegen_base.specs.Pushes.{settled, emits, pushes}
use Rattle.plan.specs.Plan.{Plan}
use Rattle.plan.proofs.Words.{Words}
use Rattle.codegen_base.proofs.Seen.{Like}
use Rattle.codegen_base.proofs.Likeness.{is_bool}
use Rattle.codegen_base.proofs.Typing.{Free, Fits, broken, nodes_end, worth_there}
use Rattle.codegen_base.proofs.Settled.{pushes_by}
use Rattle.codegen_base.proofs.Pushed.{checked, emits_goes}
use Rattle.codegen_base.proofs.Static.{variables_known}
use Rattle.codegen_follows.proofs.Stands.{scope_of, OneMakes}
use Rattle.codegen_base.proofs.Running.{Compiled, Coded}
use Rattle.codegen_follows.proofs.Simulated.{Simulated, Point, standing, here_blocks, On', at}
use Rattle.codegen_base.proofs.Gave.{Follows, stays, bind as follows_then}
use Rattle.codegen_base.proofs.Evaluates.{Lies}
use Rattle.meaning.specs.Worked.{Worked, ready, and_then}
use Rattle.meaning.specs.Variables.{Blocks}
use Rattle.type_table.specs.Zeros.{zero_words}

-- a condition with which nothing is wrong is a truth value
bool_fits : (kind : ValueType) → is_bool_type kind ≡ true → kind ≡ BoolType
bool_fits BoolType e = refl
bool_fits IntType e = absurd cc
bool_fits (StructType n) e = absurd cc
bool_fits (ChannelType d k) e = absurd cc

not_false : (b : Bool) → (b ≡ false → ⊥) → b ≡ true
not_false true never = refl
not_false false never = absurd (never refl)

condition_fits : (e : Expression) (first : ℕ) (w : Worth) → Free (ConditionHas (Some w) (nodes_of first e)) → w ≡ Typed BoolType
condition_fits e first (Typed kind) free = let b = broken rules.Condition (nodes_of first e).end (nodes_end first e) in ap Typed (bool_fits kind (not_false (is_bool_type kind) (λ n. free b.0 (n, b.1))))
condition_fits e first (Constant z) free = let b = broken rules.Condition (nodes_of first e).end (nodes_end first e) in absurd (free b.0 b.1)
condition_fits e first Nil free = let b = broken rules.Nil ((nodes_of first e).first + 1) (omega arith) in absurd (free b.0 b.1)

module _ {globals : Globals} {program : Compiled globals} {coded : Coded program} {simulated : Simulated coded} (point : Point simulated) where
  open program use {elements}
  open simulated use {running.{context}}
  open point use {locals as ls, view}

  abbrev checked_scope : Scope
  checked_scope = view.checked

  abbrev scope : Scope
  scope = scope_of view

  abbrev here : Blocks
  here = here_blocks point

  -- a value is worked out, and then
  pub value_goes : {B : Type 0} (e : Expression) (first : ℕ) (w : Worth) (kind : ValueType) (go : Value → Worked B) (L : B → CodeFrames → Type 0) (rest : Plan) (out : Option ℕ) (place : ℕ) (stack : Words) → Free (ExpressionHas globals checked_scope first e) → OneMakes globals elements e → worth globals checked_scope e ≡ Some w → Fits w kind
      → On' point (pushes globals elements scope kind e rest) place out
      → ((v : Value) → Like globals.structs kind v → (to : ℕ) → On' point rest to out → Follows context (go v) L (at simulated to ls (stack ++ v))) → Follows context (and_then (value globals here e) go) L (at simulated place ls stack)
  value_goes e first w kind go L rest out place stack free makes is fits on then' =
      let here-worth : worth globals scope e ≡ Some w = sym (checked (standing point) e) ∙ is in
      follows_then context (value globals here e) go (Lies (standing point) (zero_words globals.structs kind) rest out stack) L (at simulated place ls stack)
      (pushes_by (standing point) e w kind here-worth fits (λ t et. emits_goes (standing point) e first free makes t (here-worth ∙ ap Some et)) rest out place stack
      (subst (λ o. On' point (settled elements o kind (emits globals elements scope e rest) rest) place out) here-worth on))
      (λ v d l. subst (λ x. Follows context (go v) L x) (sym l.2) (then' v l.1 l.0 l.3))

  -- a value of a type of its own, and then
  pub own_goes : {B : Type 0} (e : Expression) (first : ℕ) (kind wanted : ValueType) (go : Value → Worked B) (L : B → CodeFrames → Type 0) (rest : Plan) (out : Option ℕ) (place : ℕ) (stack : Words) → Free (ExpressionHas globals checked_scope first e) → OneMakes globals elements e → worth globals checked_scope e ≡ Some (Typed kind)
      → On' point (pushes globals elements scope wanted e rest) place out
      → ((v : Value) → Like globals.structs kind v → (to : ℕ) → On' point rest to out → Follows context (go v) L (at simulated to ls (stack ++ v))) → Follows context (and_then (value globals here e) go) L (at simulated place ls stack)
  own_goes e first kind wanted go L rest out place stack free makes is on then' =
      let here-worth : worth globals scope e ≡ Some (Typed kind) = sym (checked (standing point) e) ∙ is in
      follows_then context (value globals here e) go (Lies (standing point) (zero_words globals.structs kind) rest out stack) L (at simulated place ls stack)
      (emits_goes (standing point) e first free makes kind here-worth rest out place stack
      (subst (λ o. On' point (settled elements o wanted (emits globals elements scope e rest) rest) place out) here-worth on))
      (λ v d l. subst (λ x. Follows context (go v) L x) (sym l.2) (then' v l.1 l.0 l.3))

  -- a condition is a truth value, and then
  pub test_goes : {B : Type 0} (e : Expression) (first : ℕ) (k : List Task) (go : Word → Worked B) (L : B → CodeFrames → Type 0) (rest : Plan) (out : Option ℕ) (place : ℕ) → Free (TestHas globals checked_scope first e) → OneMakes globals elements e → On' point (pushes globals elements scope BoolType e rest) place out
      → ((b : Bool) (to : ℕ) → On' point rest to out → Follows context (go (Truth b)) L (at simulated to ls (Truth b ∷ []))) → Follows context (and_then (one globals here k e) go) L (at simulated place ls [])
  test_goes e first k go L rest out place free makes on then' =
      let w = worth_there globals checked_scope program.types_known (variables_known checked_scope scope point.fine.alike point.fine.placed.known) e first (λ violation h. free violation (inl h)) in
      let is-bool = condition_fits e first w.0 (λ violation h. free violation (inr (subst (λ o. ConditionHas o (nodes_of first e) violation) (sym w.1) h))) in
      follows_then context (one globals here k e) go M L (at simulated place ls [])
      (value_goes e first (Typed BoolType) BoolType (λ words. ready (word_in words)) M rest out place [] (λ violation h. free violation (inl h)) makes (w.1 ∙ ap Some is-bool) refl on
      (λ v like to on1. let b = is_bool globals.structs v like in
      subst (λ (x : Value). Follows context (ready (word_in x)) M (at simulated to ls x)) (sym b.1) (stays context (Truth b.0) M (at simulated to ls (Truth b.0 ∷ [])) (b.0, to, refl, refl, on1))))
      (λ w d m. subst (λ x. Follows context (go x) L d) (sym m.2) (subst (λ x. Follows context (go (Truth m.0)) L x) (sym m.3) (then' m.0 m.1 m.4))) where
        M : Word → CodeFrames → Type 0
        M w d = (b : Bool) × (to : ℕ) × (w ≡ Truth b) × (d ≡ at simulated to ls (Truth b ∷ [])) × On' point rest to out
