-- The channels and values of a select are pushed, clause by clause, and are the operands of its cases.
use Rattle.std.proofs.Common.{◌≡◌, ℕ, suc, ◌+◌, ◌≤◌, Bool, false, cond, List, [], ◌∷◌, ◌++◌, length, take, drop, Option, Some, None, refl, sym, ap, ◌∙◌, subst, arith, length-append, append_assoc, inl, inr}
use Rattle.std.specs.Prelude.{nat_lt}
use Rattle.std.proofs.lemmas.Bool.Decides.{nat_tests}
use Rattle.std.proofs.Math.Seq.{take-append_seam, drop-append_seam}
use Rattle.std.proofs.lemmas.List.{append-nil}
use Rattle.syntax.specs.Tree.{Expression, Comm, CommSend, CommReceive, CommDefine, CommAssign, Statements, Clauses, NoClause, Clause, Send}
use Rattle.syntax.specs.Measures.{expression_size, if_any, comm_size, statements_size}
use Rattle.bytecode.specs.Effects.{clause_kinds, all_clause_kinds, kinds_in, shape_kinds}
use Rattle.bytecode.specs.Machine.{Frames as CodeFrames, also, case_of, cases_of}
use Rattle.word.specs.declared.request.Case.{Case}
use Rattle.word.specs.declared.value.Word.TheVariants.{Chan}
use Rattle.type_table.specs.Containment.{Structs}
use Rattle.type_table.specs.Scopes.{Scope, entered, Globals}
use Rattle.typing_rules.specs.Worths.{worth}
use Rattle.typing_rules.specs.Expressions.{ExpressionHas, ChannelHas, ValueHas, nodes_of, element_of}
use Rattle.typing_rules.specs.Operations.{and_also}
use Rattle.typing_rules.specs.Simples.{SimpleHas, comm_simple}
use Rattle.typing_rules.specs.Statements.{after_all, after_any, ClausesHave}
use Rattle.meaning.specs.Values.{Value, words_in}
use Rattle.meaning.specs.Variables.{Blocks, as_kind}
use Rattle.meaning.specs.Expressions.{element_kind}
use Rattle.meaning.specs.Tasks.{Task}
use Rattle.meaning.specs.Source.{item_in, case_of as source_case, cases_of as source_cases, received_case}
use Rattle.codegen_base.specs.Elements.{shape_of}
use Rattle.codegen_base.specs.Layouts.{carried}
use Rattle.codegen_base.specs.Pushes.{pushes_own, pushes}
use Rattle.codegen_base.specs.Generated.{table_clause, table_clauses, pushes_comm, pushes_clauses}
use Rattle.plan.specs.Plan.{Plan}
use Rattle.plan.proofs.Words.{Words}
use Rattle.codegen_base.proofs.Likeness.{kinds_long, like_long}
use Rattle.codegen_base.proofs.Seen.{Like}
use Rattle.codegen_base.proofs.Typing.{Free, Fits, fits, nodes_end, worth_there}
use Rattle.codegen_base.proofs.Static.{variables_known}
use Rattle.codegen_follows.proofs.Outers.{has_same, worth_same}
use Rattle.codegen_follows.proofs.Stands.{scope_of, within, OneMakes, SimpleMakes, ClausesMake}
use Rattle.codegen_follows.proofs.Comms.{comm_channel}
use Rattle.codegen_base.proofs.Running.{Compiled, Coded}
use Rattle.codegen_follows.proofs.Simulated.{Simulated, at, Point, here_blocks, On'}
use Rattle.meaning.specs.Worked.{ready, and_then}
use Rattle.codegen_base.proofs.Gave.{Follows, stays, bind as follows_then}
use Rattle.codegen_follows.proofs.Channels.{IsChannel, channel_there, channel_goes}
use Rattle.codegen_follows.proofs.Valued.{value_goes}

-- how many clauses wait for something
abbrev pub comm_count : Clauses → ℕ
comm_count NoClause = 0
comm_count (Clause None body more) = comm_count more
comm_count (Clause (Some comm) body more) = suc (comm_count more)

narrow_item : (n : ℕ) (c : Case) → n ≤ 16 → cond (nat_lt 16 n) None (Some c) ≡ Some c
narrow_item n c le = let b : nat_lt 16 n ≡ false = grind (arith, nat_tests, le) in ap (λ (t : Bool). cond t None (Some c)) b

module _ {globals : Globals} {program : Compiled globals} {coded : Coded program} {simulated : Simulated coded} (point : Point simulated) (k : List Task) (mid : Option ℕ) where
  open program use {elements, code, wide as all}
  open coded use {function as f, number as g, there, result}
  open simulated use {running, running.{context, context.{callers as ds}}}
  open point use {locals as ls, around as l, view, fine, room, held as h}

  abbrev structs : Structs
  structs = globals.structs

  abbrev place_at : ℕ → Words → Words → CodeFrames
  place_at place ls stack = at simulated place ls stack

  abbrev blocks : Blocks
  blocks = here_blocks point

  abbrev scope : Scope
  scope = scope_of view

  abbrev On : Plan → ℕ → Type 0
  On plan place = On' point plan place mid

  -- the typing rules' variables, with other words of the frame
  abbrev pub wide : ℕ → Scope
  wide n = record { variables = view.checked.variables; outer = view.checked.outer; words = n }

  -- an expression of a clause is one outside of its block
  outside : (e : Expression) (first n : ℕ) → Free (ExpressionHas globals (entered (wide n)) first e) → Free (ExpressionHas globals view.checked first e)
  outside e first n free = let s = view.checked in λ violation x. free violation (has_same globals s.variables s.outer (length s.variables) s.words n e first violation x)

  worth_outside : (e : Expression) (n : ℕ) → worth globals view.checked e ≡ worth globals (entered (wide n)) e
  worth_outside e n = let s = view.checked in worth_same globals s.variables s.outer (length s.variables) s.words n e

  -- the channel of a clause, whose nodes are there
  pub record IsWaited (e : Expression) : Type 0 where
    pub first : ℕ
    pub free : Free (ExpressionHas globals view.checked first e)
    pub makes : OneMakes globals elements e
    pub channel : IsChannel point e

  waited : (e : Expression) (first n : ℕ) → Free (ExpressionHas globals (entered (wide n)) first e) → OneMakes globals elements e → Free (ChannelHas (worth globals (entered (wide n)) e) (nodes_of first e)) → IsWaited e
  waited e first n free makes channel = record {
    first = first;
    free = outside e first n free;
    makes = makes;
    channel = channel_there point e first (outside e first n free) makes (λ violation x. channel violation (subst (λ o. ChannelHas o (nodes_of first e) violation) (worth_outside e n) x));
  }

  pub comm_waited : (comm : Comm) (first n : ℕ) → Free (SimpleHas globals (entered (wide n)) first (comm_simple comm)) → SimpleMakes globals elements (comm_simple comm) → IsWaited (comm_channel comm)
  comm_waited (CommSend to item) first n free makes = waited to first n (λ violation x. free violation (inl x)) makes.0 (λ violation x. free violation (inr (inr (inl x))))
  comm_waited (CommReceive e) first n free makes = waited e first n (λ violation x. free violation (inl x)) makes (λ violation x. free violation (inr (inl x)))
  comm_waited (CommDefine item ok e) first n free makes = waited e first n (λ violation x. free violation (inl (inl (inl x)))) makes.0 (λ violation x. free violation (inl (inl (inr (inl x)))))
  comm_waited (CommAssign item ok e) first n free makes = waited e (first + length (and_also item ok)) n (λ violation x. free violation (inr (inl (inl (inl x))))) makes.0 (λ violation x. free violation (inr (inl (inl (inr (inl x))))))

  -- ---- what a clause pushes

  -- these words are the operands of the case, wherever its way begins
  abbrev pub Offered : Comm → Words → Case → Type 0
  Offered comm ws c = (to : ℕ) → (case_of (table_clause globals elements result view.site.layout comm to) ws ≡ Some c) × (length (clause_kinds code (table_clause globals elements result view.site.layout comm to)) ≡ length ws)

  abbrev waits : Option ℕ → Case
  waits c = record { chan = c; item = None }

  -- the operands of a case are on the stack
  abbrev OfferedAt : Comm → Plan → Words → Case → CodeFrames → Type 0
  OfferedAt comm rest stack c d = (ws : Words) × (to : ℕ) × Offered comm ws c × (d ≡ place_at to ls (stack ++ ws)) × On rest to

  receive_offered : (e : Expression) (w : IsWaited e) (L : Case → CodeFrames → Type 0) (rest : Plan) (place : ℕ) (stack : Words) → On (pushes_own globals elements scope e rest) place
      → ((q : Option ℕ) (to : ℕ) → On rest to → L (waits q) (place_at to ls (stack ++ Chan q ∷ []))) → Follows context (received_case globals blocks k e) L (place_at place ls stack)
  receive_offered e w L rest place stack on then' =
      channel_goes point e w.first w.free w.makes w.channel k (λ q. ready (waits q)) L rest mid place stack on (λ q to on1. stays context (waits q) L (place_at to ls (stack ++ Chan q ∷ [])) (then' q to on1))

  abbrev sends : Option ℕ → Value → Case
  sends c words = record { chan = c; item = Some words }

  send_offered : (e value : Expression) (first n : ℕ) → Free (SimpleHas globals (entered (wide n)) first (comm_simple (CommSend e value))) → SimpleMakes globals elements (Send e value) → (rest : Plan) (place : ℕ) (stack : Words)
      → On (pushes_comm globals elements result view.site.layout (CommSend e value) rest) place → Follows context (source_case globals blocks k (CommSend e value)) (OfferedAt (CommSend e value) rest stack) (place_at place ls stack)
  send_offered e value first n free makes rest place stack on =
      let kind = carried globals elements scope e in
      let second = first + expression_size e in
      let w = comm_waited (CommSend e value) first n free makes in
      let c = w.channel in
      let good = outside value second n (λ violation x. free violation (inr (inl x))) in
      let v = worth_there globals view.checked program.types_known (variables_known view.checked scope fine.alike fine.placed.known) value second good in
      let fit : Fits v.0 kind = subst (Fits v.0) (sym c.carries) (fits v.0 c.element (nodes_of second value) (nodes_end second value)
      (λ violation x. free violation (inr (inr (inr (inr (subst (λ o. ValueHas o (element_of (worth globals (entered (wide n)) e)) (nodes_of second value) violation) (sym v.1 ∙ worth_outside value n)
      (subst (λ o. ValueHas (Some v.0) (element_of o) (nodes_of second value) violation) (sym c.is ∙ worth_outside e n) x)))))))) in
      let fit-words : Value → Value = as_kind structs (element_kind globals blocks e) in
      let L = OfferedAt (CommSend e value) rest stack in
      channel_goes point e w.first w.free w.makes c k (λ q. and_then (item_in globals blocks k e value) (λ words. ready (sends q words))) L (pushes globals elements scope kind value rest) mid place stack on (λ q to on1.
      let N : Value → CodeFrames → Type 0 = λ words d. (to : ℕ) × Like structs kind words × (d ≡ place_at to ls ((stack ++ Chan q ∷ []) ++ words)) × On rest to in
      follows_then context (item_in globals blocks k e value) (λ words. ready (sends q words)) N L (place_at to ls (stack ++ Chan q ∷ []))
      (value_goes point value second v.0 kind (λ words. ready (fit-words words)) N rest mid to (stack ++ Chan q ∷ []) good makes.1 v.1 fit on1 (λ x like to2 on2.
      let same-words : fit-words x ≡ x = ap (λ j. as_kind structs j x) (c.runs ∙ sym c.carries) ∙ like in
      subst (λ (y : Value). Follows context (ready y) N (place_at to2 ls ((stack ++ Chan q ∷ []) ++ x))) (sym same-words) (stays context x N (place_at to2 ls ((stack ++ Chan q ∷ []) ++ x)) (to2, like, refl, on2))))
      (λ x d m.
      let long = like_long structs kind x m.1 in
      let carried-kinds = ap (λ j. shape_kinds code (shape_of elements j)) c.carries ∙ ap kinds_in c.shape in
      let kinds-long = ap length carried-kinds ∙ kinds_long structs elements c.element ∙ ap (words_in structs) (sym c.carries) in
      let narrow = program.narrow kind in
      stays context (sends q x) L d (Chan q ∷ x, m.0, (λ to. (narrow_item (length x) (sends q x) (omega (arith, long, narrow)), omega (arith, long, kinds-long))), m.2 ∙ ap (λ (y : Words). place_at m.0 ls y) (append_assoc stack (Chan q ∷ []) x), m.3)))

  comm_offered : (comm : Comm) (first n : ℕ) → Free (SimpleHas globals (entered (wide n)) first (comm_simple comm)) → SimpleMakes globals elements (comm_simple comm) → (rest : Plan) (place : ℕ) (stack : Words) → On (pushes_comm globals elements result view.site.layout comm rest) place
      → Follows context (source_case globals blocks k comm) (OfferedAt comm rest stack) (place_at place ls stack)
  comm_offered (CommSend e value) first n free makes rest place stack on = send_offered e value first n free makes rest place stack on
  comm_offered (CommReceive e) first n free makes rest place stack on = receive_offered e (comm_waited (CommReceive e) first n free makes) (OfferedAt (CommReceive e) rest stack) rest place stack on (λ q to on1. (Chan q ∷ [], to, (λ p. (refl, refl)), refl, on1))
  comm_offered (CommDefine item ok e) first n free makes rest place stack on = receive_offered e (comm_waited (CommDefine item ok e) first n free makes) (OfferedAt (CommDefine item ok e) rest stack) rest place stack on (λ q to on1. (Chan q ∷ [], to, (λ p. (refl, refl)), refl, on1))
  comm_offered (CommAssign item ok e) first n free makes rest place stack on = receive_offered e (comm_waited (CommAssign item ok e) first n free makes) (OfferedAt (CommAssign item ok e) rest stack) rest place stack on (λ q to on1. (Chan q ∷ [], to, (λ p. (refl, refl)), refl, on1))

  -- ---- all clauses

  -- these words are the operands of the cases, wherever their ways begin
  abbrev pub AllOffered : Clauses → Words → List Case → Type 0
  AllOffered clauses ws cases =
      (places : List ℕ) → comm_count clauses ≤ length places → (cases_of code (table_clauses globals elements result view.site.layout clauses places) ws ≡ Some cases) × (length (all_clause_kinds code (table_clauses globals elements result view.site.layout clauses places)) ≡ length ws)

  offered_more : (comm : Comm) (clauses : Clauses) (ws more : Words) (c : Case) (cases : List Case) (to : ℕ) (places : List ℕ) → Offered comm ws c → AllOffered clauses more cases → comm_count clauses ≤ length places
      → (cases_of code (table_clause globals elements result view.site.layout comm to ∷ table_clauses globals elements result view.site.layout clauses places) (ws ++ more) ≡ Some (c ∷ cases))
      × (length (all_clause_kinds code (table_clause globals elements result view.site.layout comm to ∷ table_clauses globals elements result view.site.layout clauses places)) ≡ length (ws ++ more))
  offered_more comm clauses ws more c cases to places one others le =
      let clause = table_clause globals elements result view.site.layout comm to in
      let rest = table_clauses globals elements result view.site.layout clauses places in
      let o = one to in
      let os = others places le in
      let a = o.1 in
      let b = os.1 in (
        ap (λ n. also (case_of clause (take n (ws ++ more))) (cases_of code rest (drop n (ws ++ more)))) o.1
            ∙ ap (λ (x : Words). also (case_of clause x) (cases_of code rest (drop (length ws) (ws ++ more)))) (take-append_seam ws more)
            ∙ ap (λ (x : Words). also (case_of clause ws) (cases_of code rest x)) (drop-append_seam ws more)
            ∙ ap (λ x. also x (cases_of code rest more)) o.0 ∙ ap (also (Some c)) os.0,
        omega (arith, length-append (clause_kinds code clause) (all_clause_kinds code rest), length-append ws more, a, b),
      )

  all_offered : (comm : Comm) (body : Statements) (clauses : Clauses) (ws more : Words) (c : Case) (cases : List Case) → Offered comm ws c → AllOffered clauses more cases → AllOffered (Clause (Some comm) body clauses) (ws ++ more) (c ∷ cases)
  all_offered comm body clauses ws more c cases one others [] le = absurd (omega (arith, le))
  all_offered comm body clauses ws more c cases one others (to ∷ places) le = offered_more comm clauses ws more c cases to places one others (omega (arith, le))

  -- the operands of the cases are on the stack
  abbrev pub AllAt : Clauses → Plan → Words → List Case → CodeFrames → Type 0
  AllAt clauses rest stack cases d = (ws : Words) × (to : ℕ) × AllOffered clauses ws cases × (d ≡ place_at to ls (stack ++ ws)) × On rest to

  pub clauses_go : (clauses : Clauses) (breaks continues : Bool) (n first : ℕ) → Free (ClausesHave (within coded breaks continues) (wide n) first clauses) → ClausesMake globals elements clauses → (rest : Plan) (place : ℕ) (stack : Words)
      → On (pushes_clauses globals elements result view.site.layout clauses rest) place → Follows context (source_cases globals blocks k clauses) (AllAt clauses rest stack) (place_at place ls stack)
  clauses_go NoClause breaks continues n first free makes rest place stack on =
      stays context [] (AllAt NoClause rest stack) (place_at place ls stack) ([], place, (λ places le. (refl, refl)), ap (λ (x : Words). place_at place ls x) (sym (append-nil stack)), on)
  clauses_go (Clause None body more) breaks continues n first free makes rest place stack on =
      clauses_go more breaks continues (after_all globals (entered (wide n)) body).words (first + if_any comm_size None + statements_size body + 1) (λ violation x. free violation (inr (inr x))) makes.2 rest place stack on
  clauses_go (Clause (Some comm) body more) breaks continues n first free makes rest place stack on =
      let others = source_cases globals blocks k more in
      let following = pushes_clauses globals elements result view.site.layout more rest in
      let L = AllAt (Clause (Some comm) body more) rest stack in
      follows_then context (source_case globals blocks k comm) (λ c. and_then others (λ cases. ready (c ∷ cases))) (OfferedAt comm following stack) L (place_at place ls stack)
      (comm_offered comm first n (λ violation x. free violation (inl x)) makes.0 following place stack on)
      (λ c d m. subst (λ x. Follows context (and_then others (λ cases. ready (c ∷ cases))) L x) (sym m.3)
      (follows_then context others (λ cases. ready (c ∷ cases)) (AllAt more rest (stack ++ m.0)) L (place_at m.1 ls (stack ++ m.0))
      (clauses_go more breaks continues (after_all globals (after_any globals (entered (wide n)) (Some (comm_simple comm))) body).words (first + comm_size comm + statements_size body + 1) (λ violation x. free violation (inr (inr x))) makes.2 rest m.1 (stack ++ m.0) m.4)
      (λ cases e n'. stays context (c ∷ cases) L e (m.0 ++ n'.0, n'.1, all_offered comm body more m.0 n'.0 c cases m.2 n'.2, n'.3 ∙ ap (λ (x : Words). place_at n'.1 ls x) (append_assoc stack m.0 n'.0), n'.4))))
