-- A whole statement: a send. So a statement with a request follows from what is so of its expressions.
use Rattle.std.proofs.Common.{◌≡◌, ℕ, suc, ◌+◌, List, [], ◌∷◌, ◌++◌, length, Option, Some, refl, sym, ap, ◌∙◌, subst, arith, inl, inr}
use Rattle.syntax.specs.Tree.{Expression, Send}
use Rattle.syntax.specs.Measures.{expression_size}
use Rattle.bytecode.specs.declared.instr.Instr.TheVariants as instrs
use Rattle.bytecode.specs.Effects.{kinds_in, shape_kinds}
use Rattle.bytecode.specs.Machine.{Frames, pops}
use Rattle.word.specs.declared.value.Word.{Word}
use Rattle.word.specs.declared.value.Word.TheVariants.{Chan}
use Rattle.word.specs.Values.{Request, Reply}
use Rattle.word.specs.Values as requests
use Rattle.syntax.specs.declared.node.Direction.{Direction}
use Rattle.type_table.specs.Types.{ValueType, ChannelType}
use Rattle.type_table.specs.Scopes.{Globals}
use Rattle.type_table.specs.Zeros.{zero_words}
use Rattle.typing_rules.specs.Worths.{Typed, element_of, worth}
use Rattle.typing_rules.specs.Expressions.{nodes_of, ValueHas, ExpressionHas}
use Rattle.typing_rules.specs.Simples.{SimpleHas}
use Rattle.meaning.specs.Values.{Value, known}
use Rattle.meaning.specs.Variables.{Blocks, as_kind}
use Rattle.meaning.specs.Worked.{Asking, ready, needs, and_then}
use Rattle.meaning.specs.Expressions.{word_in, channel_in, element_kind, value}
use Rattle.meaning.specs.Tasks.{Task, frame, Course, Goes}
use Rattle.meaning.specs.Source.{channel, simple_work, one, item_in, asks}
use Rattle.codegen_base.specs.Elements.{shape_of, kinds_of}
use Rattle.codegen_base.specs.Layouts.{Layout, type_of, carried}
use Rattle.codegen_base.specs.Pushes.{emits, pushes, pushes_own, settled}
use Rattle.codegen_base.specs.Statements.{simple_plan}
use Rattle.plan.specs.Plan.{Plan, Do, Skip}
use Rattle.plan.proofs.Steps.{answer, sends}
use Rattle.codegen_base.proofs.Likeness.{is_channel, kinds_long, like_long}
use Rattle.codegen_base.proofs.Seen.{Like}
use Rattle.codegen_base.proofs.Typing.{Free, Fits, fits, nodes_end}
use Rattle.codegen_base.proofs.Settled.{pushes_by}
use Rattle.codegen_base.proofs.Gave.{Follows, stays, bind as follows_then, asks as asks_at}
use Rattle.codegen_base.proofs.Evaluates.{at, Stands, Lies}
use Rattle.codegen_base.proofs.Pushed.{checked, channel_at, worth_here, emits_goes, shaped}
use Rattle.codegen_base.proofs.Makes.{ExpressionMakes}
use Rattle.codegen_base.proofs.Running.{Compiled, Coded, Running, Standing}
use Rattle.codegen_base.proofs.Expressions.{blocks, same_worth}

module _ {globals : Globals} {program : Compiled globals} {coded : Coded program} {running : Running coded} (standing : Standing running) where
  open program use {elements, code}
  open coded use {number as g, function as f, there}
  open running use {context, context.{callers}}
  open standing use {locals as ls, scope, checked as s}

  abbrev env : Blocks
  env = blocks standing

  abbrev ST : Plan → ℕ → Option ℕ → Type 0
  ST plan place out = Stands standing plan place out

  abbrev SP : ℕ → List Word → Frames
  SP place stack = at standing place stack

  abbrev LI : List Word → Plan → Option ℕ → List Word → Value → Frames → Type 0
  LI zeros rest out base v d = Lies standing zeros rest out base v d

  -- a channel is evaluated
  abbrev LC : Plan → Option ℕ → List Word → Option ℕ → Frames → Type 0
  LC rest out stack c d = (to : ℕ) × (d ≡ SP to (stack ++ Chan c ∷ [])) × ST rest to out

  abbrev LW : Plan → Option ℕ → List Word → Word → Frames → Type 0
  LW rest out stack w d = (c : Option ℕ) × (to : ℕ) × (w ≡ Chan c) × (d ≡ SP to (stack ++ Chan c ∷ [])) × ST rest to out

  pub channel_goes : (e : Expression) (first : ℕ) → Free (ExpressionHas globals s first e) → ExpressionMakes globals.types elements e → (d : Direction) (t : ValueType) → worth globals scope e ≡ Some (Typed (ChannelType d t)) → (k : List Task) (rest : Plan) (out : Option ℕ) (place : ℕ) (stack : List Word)
      → ST (settled elements (worth globals scope e) (type_of globals elements scope e) (emits globals elements scope e rest) rest) place out → Follows context (channel globals env k e) (LC rest out stack) (SP place stack)
  channel_goes e first free makes d t is k rest out place stack on =
      follows_then context (one globals env k e) (λ word. ready (channel_in word)) (LW rest out stack) (LC rest out stack) (SP place stack)
      (follows_then context (value globals env e) (λ words. ready (word_in words)) (LI (zero_words globals.structs (ChannelType d t)) rest out stack) (LW rest out stack) (SP place stack)
      (emits_goes standing e first free makes (ChannelType d t) is rest out place stack
      (subst (λ o. ST (settled elements o (type_of globals elements scope e) (emits globals elements scope e rest) rest) place out) is on))
      (λ v c l. let w = is_channel globals.structs d t v l.1 in
      stays context (word_in v) (LW rest out stack) c (w.0, l.0, ap word_in w.1, l.2 ∙ ap (λ (x : Value). SP l.0 (stack ++ x)) w.1, l.3)))
      (λ w c l. stays context (channel_in w) (LC rest out stack) c (subst (λ (o : Option ℕ). LC rest out stack o c) (sym (ap channel_in l.2)) (l.1, l.3, l.4)))

  -- a send leads to what follows, with nothing on the stack
  pub send_goes : (to item : Expression) (first : ℕ) → Free (SimpleHas globals s first (Send to item)) → ExpressionMakes globals.types elements to → ExpressionMakes globals.types elements item → (k : List Task) (L : Course → Frames → Type 0) (q : ℕ) (layout : Layout) → layout.scope ≡ scope → (out : Option ℕ) (place : ℕ) → ST (simple_plan globals elements layout q (Send to item)) place out
      → ((next : ℕ) → ST Skip next out → L (Goes (frame env k)) (SP next [])) → Follows context (simple_work globals env k (Send to item)) L (SP place [])
  send_goes to item first free to-makes item-makes k L q layout same-scope out place on after =
      let (d, t, ch) = channel_at standing to first (λ violation h. free violation (inl h)) (λ violation h. free violation (inr (inr (inl h)))) in
      let second = first + expression_size to in
      let whole : Free (ExpressionHas globals s second item) = λ violation h. free violation (inr (inl h)) in
      let w = worth_here standing item second whole in
      let element : element_of (worth globals s to) ≡ Some t = ap element_of (checked standing to ∙ ch) in
      let runs : element_kind globals env to ≡ t = ap (λ o. known (element_of o)) (same_worth standing to ∙ ch) in
      let laid : carried globals elements scope to ≡ t = ap (λ o. known (element_of o)) ch in
      let fit : Fits w.0 t = fits w.0 t (nodes_of second item) (nodes_end second item)
      (λ violation h. free violation (inr (inr (inr (inr (subst (λ o. ValueHas (worth globals s item) o (nodes_of second item) violation) (sym element) (subst (λ o. ValueHas o (Some t) (nodes_of second item) violation) (sym w.1) h))))))) in
      let sent : Plan = Do (instrs.Send (shape_of elements t)) Skip in
      let following : Plan = settled elements (worth globals scope item) t (emits globals elements scope item sent) sent in
      let on1 : ST (settled elements (worth globals scope to) (type_of globals elements scope to) (emits globals elements scope to following) following) place out =
      subst (λ j. ST (pushes_own globals elements scope to (pushes globals elements scope j item (Do (instrs.Send (shape_of elements j)) Skip))) place out) laid (subst (λ x. ST (simple_plan globals elements (record layout { scope = x }) q (Send to item)) place out) same-scope on) in
      follows_then context (channel globals env k to) (λ c. and_then (item_in globals env k to item) (λ words. asks globals env k (requests.Send c words))) (LC following out []) L (SP place [])
      (channel_goes to first (λ violation h. free violation (inl h)) to-makes d t ch k following out place [] on1)
      (λ c e l. subst (λ x. Follows context (and_then (item_in globals env k to item) (λ words. asks globals env k (requests.Send c words))) L x) (sym l.1)
      (follows_then context (item_in globals env k to item) (λ words. asks globals env k (requests.Send c words)) (LI (zero_words globals.structs t) sent out (Chan c ∷ [])) L (SP l.0 (Chan c ∷ []))
      (follows_then context (value globals env item) (λ words. ready (as_kind globals.structs (element_kind globals env to) words)) (LI (zero_words globals.structs t) sent out (Chan c ∷ [])) (LI (zero_words globals.structs t) sent out (Chan c ∷ [])) (SP l.0 (Chan c ∷ []))
      (pushes_by standing item w.0 t w.2 fit
      (λ u et. emits_goes standing item second whole item-makes u (w.2 ∙ ap Some et)) sent out l.0 (Chan c ∷ [])
      (subst (λ o. ST (settled elements o t (emits globals elements scope item sent) sent) l.0 out) w.2 l.2))
      (λ v e' m. let kept : as_kind globals.structs (element_kind globals env to) v ≡ v = ap (λ j. as_kind globals.structs j v) runs ∙ m.1 in
      stays context (as_kind globals.structs (element_kind globals env to) v) (LI (zero_words globals.structs t) sent out (Chan c ∷ [])) e' (subst (λ (x : Value). LI (zero_words globals.structs t) sent out (Chan c ∷ []) x e') (sym kept) m)))
      (λ v e' m. subst (λ x. Follows context (asks globals env k (requests.Send c v)) L x) (sym m.2) (asked d t to ch c v m.0 m.1 m.3)))) where
        shape_is : (d : Direction) (t : ValueType) → worth globals scope to ≡ Some (Typed (ChannelType d t)) → shape_kinds code (shape_of elements t) ≡ kinds_of globals.structs elements t
        shape_is d t ch = ap kinds_in (shaped standing to to-makes d t ch)

        asked : (d : Direction) (t : ValueType) (e : Expression) → worth globals scope to ≡ Some (Typed (ChannelType d t)) → (c : Option ℕ) (v : Value) (next : ℕ) → Like globals.structs t v → ST (Do (instrs.Send (shape_of elements t)) Skip) next out
            → Follows context (asks globals env k (requests.Send c v)) L (SP next (Chan c ∷ v))
        asked d t e ch c v next like on =
            let long = like_long globals.structs t v like in
            let kinds-long = ap length (shape_is d t ch) ∙ kinds_long globals.structs elements t in
            let narrow = program.narrow t in
            let words = kinds_long globals.structs elements t in
            let pops-are : pops code f (instrs.Send (shape_of elements t)) ≡ suc (length v) = omega (arith, long, kinds-long) in
            let q = requests.Send c v in
            follows_then context (needs (Asking q)) (λ given. ready (Goes (frame env k))) (λ given d. d ≡ SP (next + 1) []) L (SP next (Chan c ∷ v))
            (asks_at context q (λ given d. d ≡ SP (next + 1) []) (SP next (Chan c ∷ v)) (sends code g f there callers next ls [] v (shape_of elements t) c on.0 pops-are (omega (arith, long, narrow, words))) (running.calm q (SP next (Chan c ∷ v)) tt)
            (λ reply suits. answer code g f there callers next ls [] (Chan c ∷ v) (instrs.Send (shape_of elements t)) reply on.0 pops-are refl))
            (λ given d same. subst (λ (x : Frames). Follows context (ready (Goes (frame env k))) L x) (sym same)
            (stays context (Goes (frame env k)) L (SP (next + 1) []) (after (next + 1) on.1)))
