-- Requests: their operands are pushed, and the instruction asks what the source asks.
use Rattle.std.proofs.Common.{◌≡◌, ℕ, ◌+◌, true, false, List, [], ◌∷◌, ◌++◌, length, map, refl, ap, ◌∙◌, arith, inl, inr, length-append, drop}
use Rattle.std.proofs.lemmas.List.{map-append}
use Rattle.syntax.specs.Tree.{Expression, Close, Send, ReceiveAlone}
use Rattle.bytecode.specs.declared.instr.WordKind.TheVariants as kinds
use Rattle.bytecode.specs.declared.instr.Instr.TheVariants as instrs
use Rattle.bytecode.specs.Effects.{kinds_in, shape_kinds, gives}
use Rattle.bytecode.specs.Machine.{Frames as CodeFrames, zero_of, code_next, pops, is_told}
use Rattle.word.specs.declared.value.Word.TheVariants.{Bool as Truth, Chan}
use Rattle.word.specs.Values.{Request, Panic}
use Rattle.word.specs.Values as requests
use Rattle.type_table.specs.Types.{ValueType}
use Rattle.type_table.specs.Containment.{Structs}
use Rattle.type_table.specs.Scopes.{Scope, Globals}
use Rattle.type_table.specs.Zeros.{zero_words}
use Rattle.typing_rules.specs.Expressions.{ExpressionHas}
use Rattle.typing_rules.specs.Simples.{SimpleHas}
use Rattle.typing_rules.specs.Operations.{MeasuredHas, ReceiveHas}
use Rattle.meaning.specs.Values.{Value, parted, words_like, reply_words}
use Rattle.meaning.specs.Variables.{Blocks}
use Rattle.meaning.specs.Tasks.{frame, Course, Goes}
use Rattle.meaning.specs.Source.{asks, simple_work}
use Rattle.codegen_base.specs.Elements.{shape_of, kinds_of}
use Rattle.codegen_base.specs.Layouts.{carried}
use Rattle.codegen_base.specs.Pushes.{pushes_own}
use Rattle.codegen_base.specs.Statements.{simple_plan}
use Rattle.plan.specs.Plan.{Plan, Skip, Do}
use Rattle.plan.proofs.Words.{Words}
use Rattle.plan.proofs.Steps.{closes, receives, discards}
use Rattle.codegen_base.proofs.Likeness.{kinds_zeros, kinds_long, all_words_of, like_length}
use Rattle.codegen_base.proofs.Typing.{Free}
use Rattle.codegen_follows.proofs.Stands.{scope_of, variables, OneMakes}
use Rattle.codegen_follows.proofs.Channels.{channel_there, channel_goes, asks_goes, emitted_own}
use Rattle.codegen_base.proofs.Running.{Compiled, Coded}
use Rattle.codegen_follows.proofs.Simulated.{Simulated, at, Comes, Works, works_after, slides, Position, here_blocks, On', standing}
use Rattle.meaning.specs.Worked.{Worked, ready, Asking}
use Rattle.codegen_base.proofs.Sends.{send_goes as kernel_send}
use Rattle.codegen_follows.proofs.Follows.{lands_same}
use Rattle.word.specs.Kinds.{Asks}
use Rattle.bytecode.specs.declared.instr.Instr.{Instr}

module _ {globals : Globals} {program : Compiled globals} {coded : Coded program} {simulated : Simulated coded} (position : Position simulated) where
  open program use {elements, code, wide as all}
  open coded use {function as f, number as g, there, result}
  open simulated use {running, running.{context, context.{callers as ds}}}
  open position use {point, next, mid, tasks as k, together as t, rest as r, point.{locals as ls, around as l, view, fine, room, held as h}}

  abbrev structs : Structs
  structs = globals.structs

  abbrev Works' : Worked Course → CodeFrames → Type 0
  Works' work c = Works simulated work c

  abbrev place_at : ℕ → Words → Words → CodeFrames
  place_at place ls stack = at simulated place ls stack

  abbrev blocks : Blocks
  blocks = here_blocks point

  abbrev scope : Scope
  scope = scope_of view

  abbrev On : Plan → ℕ → Type 0
  On plan place = On' point plan place mid

  -- a statement has ended
  pub goes_on : variables next ≡ variables view → (place : ℕ) → On Skip place → Works' (ready (Goes (frame blocks k))) (place_at place ls [])
  goes_on same place on = slides simulated (frame blocks k) (place_at place ls []) (lands_same simulated ls view next l place mid k h same t.0 on r)

  -- an instruction that asks, after which nothing is left to be done
  pub asks_alone : (q : Request) (i : Instr) (xs : Words) (place : ℕ) → On (Do i Skip) place → pops code f i ≡ length xs → is_told i ≡ true → code_next code (place_at place ls xs) ≡ Asks q → map zero_of (gives code f i []) ≡ [] → running.context.Begins (Asking q) (place_at place ls xs) → variables next ≡ variables view
      → Works' (asks globals blocks k q) (place_at place ls xs)
  asks_alone q i xs place on many tells asks none begins same =
      asks_goes point q i xs [] (λ given. ready (Goes (frame blocks k))) (Comes simulated) place [] on.0 many tells asks none begins (λ reply suits. goes_on same (place + 1) on.1)

  pub close_goes : (e : Expression) (first : ℕ) (place : ℕ) → Free (MeasuredHas globals view.checked first e) → OneMakes globals elements e → On (pushes_own globals elements scope e (Do instrs.Close Skip)) place → variables next ≡ variables view
      → Works' (simple_work globals blocks k (Close e)) (place_at place ls [])
  close_goes e first place free makes on same =
      let good : Free (ExpressionHas globals view.checked first e) = λ violation x. free violation (inl x) in
      channel_goes point e first good makes (channel_there point e first good makes (λ violation x. free violation (inr x))) k (λ c. asks globals blocks k (requests.Close c)) (Comes simulated) (Do instrs.Close Skip) mid place [] on
      (λ w to on1. asks_alone (requests.Close w) instrs.Close (Chan w ∷ []) to on1 refl refl (closes code g f there ds to ls [] w on1.0) refl (running.calm (requests.Close w) (place_at to ls (Chan w ∷ [])) tt) same)

  pub receive_alone_goes : (e : Expression) (first place : ℕ) → Free (ReceiveHas globals view.checked first e) → OneMakes globals elements e → On (simple_plan globals elements view.site.layout view.site.prints (ReceiveAlone e)) place → variables next ≡ variables view
      → Works' (simple_work globals blocks k (ReceiveAlone e)) (place_at place ls [])
  receive_alone_goes e first place free makes on same =
      let good : Free (ExpressionHas globals view.checked first e) = λ violation x. free violation (inl x) in
      let c = channel_there point e first good makes (λ violation x. free violation (inr (inl x))) in
      let kind = carried globals elements scope e in
      let n = length (kinds_of structs elements kind) in
      let shape = shape_of elements kind in
      let own-kind = c.element in
      let kinds-are : shape_kinds code shape ≡ kinds_of structs elements own-kind = ap (λ j. shape_kinds code (shape_of elements j)) c.carries ∙ ap kinds_in c.shape in
      let zero-is : map zero_of (shape_kinds code shape) ≡ zero_words structs own-kind = ap (map zero_of) kinds-are ∙ kinds_zeros structs elements own-kind in
      let zeros : List Value = zero_words structs own-kind ∷ (Truth false ∷ []) ∷ [] in
      let told-are : map zero_of (shape_kinds code shape ++ kinds.Bool ∷ []) ≡ all_words_of zeros = map-append zero_of (shape_kinds code shape) (kinds.Bool ∷ []) ∙ ap (λ (z : Words). z ++ Truth false ∷ []) zero-is in
      channel_goes point e first good makes c k (λ w. asks globals blocks k (requests.Receive w)) (Comes simulated) (Do (instrs.Receive shape) (Do (instrs.Discard (n + 1)) Skip)) mid place [] (emitted_own point e c (Do (instrs.Receive shape) (Do (instrs.Discard (n + 1)) Skip)) mid place on)
      (λ w to on1. asks_goes point (requests.Receive w) (instrs.Receive shape) (Chan w ∷ []) zeros (λ given. ready (Goes (frame blocks k))) (Comes simulated) to [] on1.0 refl refl (receives code g f there ds to ls [] shape w on1.0) told-are (running.calm (requests.Receive w) (place_at to ls (Chan w ∷ [])) tt)
      (λ reply suits.
      let ws = all_words_of (parted zeros (reply_words reply)) in
      let long : n + 1 ≡ length ws = received_long own-kind (reply_words reply) (kinds_long structs elements kind ∙ ap (λ j. length (zero_words structs j)) c.carries) in
      works_after simulated (ready (Goes (frame blocks k))) (place_at (to + 1) ls ws) (place_at (to + 1 + 1) ls []) (discards code g f there ds (to + 1) ls [] ws (n + 1) on1.1.0 long) (goes_on same (to + 1 + 1) on1.1.1))) where
        received_long : {n : ℕ} (own : ValueType) (ws : Words) → n ≡ length (zero_words structs own) → n + 1 ≡ length (all_words_of (parted (zero_words structs own ∷ (Truth false ∷ []) ∷ []) ws))
        received_long own ws is =
            let z = zero_words structs own in
            let a = like_length z ws in
            let b = like_length (Truth false ∷ []) (drop (length z) ws) in
            omega (arith, a, b, is, length-append (words_like z ws) (words_like (Truth false ∷ []) (drop (length z) ws) ++ []), length-append (words_like (Truth false ∷ []) (drop (length z) ws)) [])

  -- ---- send

  pub send_goes : (e value : Expression) (first : ℕ) (place : ℕ) → Free (SimpleHas globals view.checked first (Send e value)) → OneMakes globals elements e → OneMakes globals elements value → On (simple_plan globals elements view.site.layout view.site.prints (Send e value)) place → variables next ≡ variables view
      → Works' (simple_work globals blocks k (Send e value)) (place_at place ls [])
  send_goes e value first place free makes value-makes on same =
      kernel_send (standing point) e value first free makes value-makes k (Comes simulated) view.site.prints view.site.layout refl mid place on (λ to lead. lands_same simulated ls view next l to mid k h same t.0 lead r)
