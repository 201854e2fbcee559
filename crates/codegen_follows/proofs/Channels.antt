-- An operand that is a channel.
use Rattle.std.proofs.Common.{◌≡◌, ℕ, List, [], ◌∷◌, ◌++◌, length, Option, Some, refl, sym, ap, ◌∙◌, subst, slice_get, map, true, ◌+◌}
use Rattle.syntax.specs.declared.node.Direction.{Direction}
use Rattle.syntax.specs.Tree.{Expression}
use Rattle.bytecode.specs.Machine.{Frames as CodeFrames, fitted, is_told, pops, zero_of, code_next, code_answer, reply_words as machine_words}
use Rattle.word.specs.declared.value.Word.TheVariants.{Chan}
use Rattle.word.specs.Values.{Request, Reply}
use Rattle.type_table.specs.Types.{ValueType, ChannelType}
use Rattle.type_table.specs.Scopes.{Scope, Globals}
use Rattle.typing_rules.specs.Worths.{Typed, worth, element_of}
use Rattle.typing_rules.specs.Expressions.{nodes_of, ExpressionHas, ChannelHas, element_of, default_type}
use Rattle.meaning.specs.Values.{Value, known, parted, reply_words, words_like}
use Rattle.meaning.specs.Variables.{Blocks}
use Rattle.meaning.specs.Expressions.{element_kind, value}
use Rattle.meaning.specs.Tasks.{Task}
use Rattle.meaning.specs.Source.{channel}
use Rattle.codegen_base.specs.Elements.{shape_of, kinds_of}
use Rattle.codegen_base.specs.Layouts.{type_of, carried}
use Rattle.codegen_base.specs.Pushes.{pushes_own, settled, emits}
use Rattle.plan.specs.Plan.{Plan}
use Rattle.plan.proofs.Words.{Words}
use Rattle.plan.proofs.Steps.{answer, takes_told}
use Rattle.codegen_base.proofs.Known.{worth_noted}
use Rattle.codegen_base.proofs.Likeness.{is_channel, all_words_of, fitted_like}
use Rattle.codegen_base.proofs.Noted.{Noted}
use Rattle.codegen_base.proofs.Typing.{Free}
use Rattle.codegen_follows.proofs.Stands.{scope_of, OneMakes}
use Rattle.codegen_follows.proofs.Valued.{own_goes}
use Rattle.codegen_base.proofs.Running.{Compiled, Coded}
use Rattle.codegen_follows.proofs.Simulated.{Simulated, at, Point, here_blocks, On', standing}
use Rattle.meaning.specs.Worked.{Worked, and_then, needs, Asking, Given, Told}
use Rattle.codegen_base.proofs.Gave.{Follows, bind as follows_then, asks as asks_at, following as follows_after}
use Rattle.codegen_base.proofs.Pushed.{channel_at, checked, shaped}
use Rattle.codegen_base.proofs.Expressions.{same_worth}
use Rattle.codegen_base.proofs.Told.{same_reply, parted_words}
use Rattle.bytecode.specs.Effects.{gives}
use Rattle.bytecode.specs.declared.instr.Instr.{Instr}
use Rattle.plan.proofs.Places.{At}
use Rattle.word.specs.Kinds.{Asks, Suits}
use Rattle.codegen_base.proofs.Sends.{channel_goes as kernel_channel}
use Rattle.word.specs.Related.{Slips}

module _ {globals : Globals} {program : Compiled globals} {coded : Coded program} {simulated : Simulated coded} (point : Point simulated) where
  open program use {elements, code}
  open coded use {function as f, number as g, there}
  open simulated use {running, running.{context, context.{callers as ds}}}
  open point use {locals as ls, around as l, view, fine}

  abbrev here : Blocks
  here = here_blocks point

  abbrev scope : Scope
  scope = scope_of view

  -- what a channel carries: as the typing rules see it, as the layout does, and in a run
  pub record IsChannel (e : Expression) : Type 0 where
    pub direction : Direction
    pub element : ValueType
    pub is : worth globals view.checked e ≡ Some (Typed (ChannelType direction element))
    pub noted : Noted elements (ChannelType direction element)
    pub own : type_of globals elements scope e ≡ ChannelType direction element
    pub carries : carried globals elements scope e ≡ element
    pub runs : element_kind globals here e ≡ element
    pub shape : slice_get code.shapes (shape_of elements element) ≡ Some (kinds_of globals.structs elements element)

  pub channel_there : (e : Expression) (first : ℕ) → Free (ExpressionHas globals view.checked first e) → OneMakes globals elements e → Free (ChannelHas (worth globals view.checked e) (nodes_of first e)) → IsChannel e
  channel_there e first free makes channel =
      let (d, t, ch) = channel_at (standing point) e first free channel in
      record {
        direction = d;
        element = t;
        is = checked (standing point) e ∙ ch;
        noted = worth_noted elements globals program.fields_noted program.results_noted scope fine.noted e makes (ChannelType d t) ch;
        own = ap (λ o. known (default_type o)) ch;
        carries = ap (λ o. known (element_of o)) ch;
        runs = ap (λ o. known (element_of o)) (same_worth (standing point) e ∙ ch);
        shape = shaped (standing point) e makes d t ch;
      }

  -- it has a type of its own
  pub emitted_own : (e : Expression) → IsChannel e → (rest : Plan) (out : Option ℕ) (place : ℕ) → On' point (emits globals elements scope e rest) place out → On' point (pushes_own globals elements scope e rest) place out
  emitted_own e c rest out place on = subst (λ o. On' point (settled elements o (type_of globals elements scope e) (emits globals elements scope e rest) rest) place out) (sym (sym (checked (standing point) e) ∙ c.is)) on

  -- the value of a channel, and then
  pub channel_value_goes : {B : Type 0} (e : Expression) (first : ℕ) → Free (ExpressionHas globals view.checked first e) → OneMakes globals elements e → IsChannel e → (go : Value → Worked B) (L : B → CodeFrames → Type 0) (rest : Plan) (out : Option ℕ) (place : ℕ) (stack : Words) → On' point (pushes_own globals elements scope e rest) place out
      → ((c : Option ℕ) (to : ℕ) → On' point rest to out → Follows context (go (Chan c ∷ [])) L (at simulated to ls (stack ++ Chan c ∷ []))) → Follows context (and_then (value globals here e) go) L (at simulated place ls stack)
  channel_value_goes e first free makes c go L rest out place stack on then' =
      own_goes point e first (ChannelType c.direction c.element) _ go L rest out place stack free makes c.is on
      (λ v like to on1. let w = is_channel globals.structs c.direction c.element v like in
      subst (λ (x : Value). Follows context (go x) L (at simulated to ls (stack ++ x))) (sym w.1) (then' w.0 to on1))

  -- a channel is worked out, and then
  pub channel_goes : {B : Type 0} (e : Expression) (first : ℕ) → Free (ExpressionHas globals view.checked first e) → OneMakes globals elements e → IsChannel e → (k : List Task) (go : Option ℕ → Worked B) (L : B → CodeFrames → Type 0) (rest : Plan) (out : Option ℕ) (place : ℕ) (stack : Words) → On' point (pushes_own globals elements scope e rest) place out
      → ((c : Option ℕ) (to : ℕ) → On' point rest to out → Follows context (go c) L (at simulated to ls (stack ++ Chan c ∷ []))) → Follows context (and_then (channel globals here k e) go) L (at simulated place ls stack)
  channel_goes e first free makes c k go L rest out place stack on then' =
      follows_then context (channel globals here k e) go M L (at simulated place ls stack)
      (kernel_channel (standing point) e first free makes c.direction c.element (sym (checked (standing point) e) ∙ c.is) k rest out place stack on)
      (λ w d m. subst (λ x. Follows context (go w) L x) (sym m.1) (then' w m.0 m.2)) where
        M : Option ℕ → CodeFrames → Type 0
        M c d = (to : ℕ) × (d ≡ at simulated to ls (stack ++ Chan c ∷ [])) × On' point rest to out

  -- an instruction that makes a request: the reply is on the stack
  pub asks_goes : {B : Type 0} (q : Request) (i : Instr) (xs : Words) (zeros : List Value) (go : Given → Worked B) (L : B → CodeFrames → Type 0) (place : ℕ) (stack : Words) → At f.instrs place i → pops code f i ≡ length xs → is_told i ≡ true
      → code_next code (at simulated place ls (stack ++ xs)) ≡ Asks q → map zero_of (gives code f i []) ≡ all_words_of zeros → running.context.Begins (Asking q) (at simulated place ls (stack ++ xs))
      → ((reply : Reply) → Suits q reply → Follows context (go (Told reply)) L (at simulated (place + 1) ls (stack ++ all_words_of (parted zeros (reply_words reply))))) → Follows context (and_then (needs (Asking q)) go) L (at simulated place ls (stack ++ xs))
  asks_goes q i xs zeros go L place stack is many tells asks zero-is begins then' =
      follows_then context (needs (Asking q)) go M L (at simulated place ls (stack ++ xs))
      (asks_at context q M (at simulated place ls (stack ++ xs)) asks begins (λ reply suits. (reply, suits, refl, after reply)))
      (λ given d m. subst (λ x. Follows context (go x) L d) (sym m.2) (follows_after context (go (Told m.0)) L d (at simulated (place + 1) ls (stack ++ all_words_of (parted zeros (reply_words m.0)))) m.3 (then' m.0 m.1))) where
        M : Given → CodeFrames → Type 0
        M given d = (reply : Reply) × Suits q reply × (given ≡ Told reply) × Slips (code_next code) d (at simulated (place + 1) ls (stack ++ all_words_of (parted zeros (reply_words reply))))

        after : (reply : Reply) → Slips (code_next code) (code_answer code (at simulated place ls (stack ++ xs)) reply) (at simulated (place + 1) ls (stack ++ all_words_of (parted zeros (reply_words reply))))
        after reply =
            let ws = reply_words reply in
            let told-are : fitted (gives code f i []) (machine_words reply) ≡ all_words_of (parted zeros ws) =
            fitted_like (gives code f i []) (machine_words reply) ∙ ap (λ (zs : Words). words_like zs (machine_words reply)) zero-is ∙ ap (words_like (all_words_of zeros)) (same_reply reply) ∙ parted_words zeros ws in
            subst (λ (d : CodeFrames). Slips (code_next code) d (at simulated (place + 1) ls (stack ++ all_words_of (parted zeros ws)))) (sym (answer code g f there ds place ls stack xs i reply is many tells))
            (subst (λ (x : Words). Slips (code_next code) (record { function = g; place = place + 1; locals = ls; stack = stack; told = x } ∷ ds) (at simulated (place + 1) ls (stack ++ all_words_of (parted zeros ws)))) (sym told-are)
            (takes_told code g f there ds (place + 1) ls stack (all_words_of (parted zeros ws))))
