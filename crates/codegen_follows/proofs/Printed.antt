-- What is printed.
use Rattle.std.proofs.Common.{◌≡◌, ℕ, suc, ◌+◌, ◌≤◌, Bool, cond, List, [], ◌∷◌, ◌++◌, length, map, Option, Some, None, refl, sym, ap, ◌∙◌, subst, arith, append_assoc, slice_get, inl, inr}
use Rattle.std.proofs.lemmas.List.{append-nil}
use Rattle.go_text.specs.declared.rule.Rule.TheVariants as rules
use Rattle.syntax.specs.Tree.{Part, Value as ValuePart, Text, Print}
use Rattle.syntax.specs.Measures.{part_size}
use Rattle.bytecode.specs.declared.instr.Instr.TheVariants as instrs
use Rattle.bytecode.specs.declared.table.Part.{Part as TablePart}
use Rattle.bytecode.specs.declared.table.Part.TheVariants as table_parts
use Rattle.bytecode.specs.Effects.{part_kinds, print_kinds}
use Rattle.bytecode.specs.Machine.{Frames as CodeFrames, printed_by, printed_rest, part_text as machine_text, part_rest}
use Rattle.word.specs.declared.value.Word.{Word}
use Rattle.word.specs.Text.{text_of}
use Rattle.word.specs.Values.{Request, Panic}
use Rattle.word.specs.Values as requests
use Rattle.type_table.specs.Types.{IntType, BoolType, StructType, ChannelType}
use Rattle.type_table.specs.Containment.{Structs}
use Rattle.type_table.specs.Scopes.{Scope, Globals}
use Rattle.typing_rules.specs.Violations.{Nodes}
use Rattle.typing_rules.specs.Worths.{Worth, Typed, Constant, Nil, is_int, worth}
use Rattle.typing_rules.specs.Expressions.{nodes_of, PrintedHas, default_type}
use Rattle.typing_rules.specs.Simples.{PartsHave}
use Rattle.meaning.specs.Values.{Value, known}
use Rattle.meaning.specs.Variables.{Blocks}
use Rattle.meaning.specs.Expressions.{word_in}
use Rattle.meaning.specs.Tasks.{Course}
use Rattle.meaning.specs.Source.{one, texts, spaced, printed, part_text, asks, simple_work}
use Rattle.codegen_base.specs.Pushes.{pushes}
use Rattle.codegen_base.specs.Statements.{printed_as, printed_part, pushes_parts, simple_plan}
use Rattle.plan.specs.Plan.{Plan, Do, Skip}
use Rattle.plan.proofs.Words.{Words}
use Rattle.plan.proofs.Steps.{prints}
use Rattle.codegen_base.proofs.Alike.{worth_alike}
use Rattle.codegen_base.proofs.Likeness.{is_int as is_int_word, is_bool}
use Rattle.codegen_base.proofs.Seen.{Like}
use Rattle.codegen_base.proofs.Typing.{Free, Fits, broken, nodes_end, worth_there, not_false}
use Rattle.codegen_base.proofs.Static.{variables_known}
use Rattle.codegen_follows.proofs.Stands.{scope_of, variables, PartsMake}
use Rattle.codegen_follows.proofs.Valued.{value_goes}
use Rattle.codegen_follows.proofs.Requests.{asks_alone}
use Rattle.codegen_base.proofs.Running.{Compiled, Coded}
use Rattle.codegen_follows.proofs.Simulated.{Simulated, at, Comes, Works, Position, here_blocks, On'}
use Rattle.meaning.specs.Worked.{Worked, ready, and_then}
use Rattle.codegen_base.proofs.Gave.{Follows, stays, bind as follows_then}
use Rattle.word.specs.Kinds.{Asks}

-- a value that is printed is one word
record IsPrinted (structs : Structs) (w : Worth) : Type 0 where
  pub fit : Fits w (known (default_type (Some w)))
  pub one : (v : Value) → Like structs (known (default_type (Some w))) v → (x : Word) × (v ≡ x ∷ [])

printable : (structs : Structs) (w : Worth) (nodes : Nodes) → 1 ≤ nodes.end → Free (PrintedHas (Some w) nodes) → IsPrinted structs w
printable structs (Typed IntType) nodes le free = record { fit = refl; one = λ v like. let n = is_int_word structs v like in (_, n.1) }
printable structs (Typed BoolType) nodes le free = record { fit = refl; one = λ v like. let b = is_bool structs v like in (_, b.1) }
printable structs (Typed (StructType n)) nodes le free = let b = broken rules.Called nodes.end le in absurd (free b.0 b.1)
printable structs (Typed (ChannelType d t)) nodes le free = let b = broken rules.Called nodes.end le in absurd (free b.0 b.1)
printable structs (Constant z) nodes le free =
    let b = broken rules.Constant nodes.end le in
    record { fit = (refl, not_false (is_int z) (λ e. free b.0 (e, b.1))); one = λ v like. let n = is_int_word structs v like in (_, n.1) }
printable structs Nil nodes le free = let b = broken rules.Nil (nodes.first + 1) (omega arith) in absurd (free b.0 b.1)

-- each part but a text takes a word
one_kind : (o : Option Worth) (ps : List TablePart) → length (part_kinds (printed_as o ∷ ps)) ≡ suc (length (part_kinds ps))
one_kind None ps = refl
one_kind (Some (Constant z)) ps = refl
one_kind (Some Nil) ps = refl
one_kind (Some (Typed IntType)) ps = refl
one_kind (Some (Typed BoolType)) ps = refl
one_kind (Some (Typed (StructType n))) ps = refl
one_kind (Some (Typed (ChannelType d t))) ps = refl

one_text : (o : Option Worth) (w : Word) (ws : Words) → machine_text (printed_as o) (w ∷ ws) ≡ text_of w
one_text None w ws = refl
one_text (Some (Constant z)) w ws = refl
one_text (Some Nil) w ws = refl
one_text (Some (Typed IntType)) w ws = refl
one_text (Some (Typed BoolType)) w ws = refl
one_text (Some (Typed (StructType n))) w ws = refl
one_text (Some (Typed (ChannelType d t))) w ws = refl

one_rest : (o : Option Worth) (w : Word) (ws : Words) → part_rest (printed_as o) (w ∷ ws) ≡ ws
one_rest None w ws = refl
one_rest (Some (Constant z)) w ws = refl
one_rest (Some Nil) w ws = refl
one_rest (Some (Typed IntType)) w ws = refl
one_rest (Some (Typed BoolType)) w ws = refl
one_rest (Some (Typed (StructType n))) w ws = refl
one_rest (Some (Typed (ChannelType d t))) w ws = refl

-- what the machine prints of these words is what the source prints
pub record Says (ps : List TablePart) (texts : List (List ℕ)) (ws : Words) : Type 0 where
  pub many : length (part_kinds ps) ≡ length ws
  pub first : (line : Bool) → printed_by line ps ws ≡ printed line texts
  pub rest : (line : Bool) → printed_rest line ps ws ≡ spaced line texts

says_value : (o : Option Worth) (ps : List TablePart) (texts : List (List ℕ)) (w : Word) (ws : Words) → Says ps texts ws → Says (printed_as o ∷ ps) (text_of w ∷ texts) (w ∷ ws)
says_value o ps texts w ws s =
    let m = s.many in
    let text : (line : Bool) → machine_text (printed_as o) (w ∷ ws) ++ printed_rest line ps (part_rest (printed_as o) (w ∷ ws)) ≡ text_of w ++ spaced line texts = λ line.
    ap (λ (l : List ℕ). l ++ printed_rest line ps (part_rest (printed_as o) (w ∷ ws))) (one_text o w ws) ∙ ap (λ (x : Words). text_of w ++ printed_rest line ps x) (one_rest o w ws) ∙ ap (λ (l : List ℕ). text_of w ++ l) (s.rest line) in
    record { many = one_kind o ps ∙ ap suc m; first = text; rest = λ line. ap (λ (l : List ℕ). cond line (32 ∷ []) [] ++ l) (text line) }

says_text : (bytes : List ℕ) (ps : List TablePart) (texts : List (List ℕ)) (ws : Words) → Says ps texts ws → Says (table_parts.Text bytes ∷ ps) (bytes ∷ texts) ws
says_text bytes ps texts ws s = record { many = s.many; first = λ line. ap (λ (l : List ℕ). bytes ++ l) (s.rest line); rest = λ line. ap (λ (l : List ℕ). cond line (32 ∷ []) [] ++ (bytes ++ l)) (s.rest line) }

module _ {globals : Globals} {program : Compiled globals} {coded : Coded program} {simulated : Simulated coded} (position : Position simulated) where
  open program use {elements, code, wide as all}
  open coded use {function as f, number as g, there, result}
  open simulated use {running, running.{context, context.{callers as ds}}}
  open position use {point, next, mid, tasks as k, together as t, rest as r, point.{locals as ls, around as l, view, fine, room, held as h}}

  abbrev structs : Structs
  structs = globals.structs

  abbrev Works' : Worked Course → CodeFrames → Type 0
  Works' work c = Works simulated work c

  abbrev place_at : ℕ → Words → Words → CodeFrames
  place_at place ls stack = at simulated place ls stack

  abbrev blocks : Blocks
  blocks = here_blocks point

  abbrev scope : Scope
  scope = scope_of view

  abbrev On : Plan → ℕ → Type 0
  On plan place = On' point plan place mid

  abbrev table : List Part → List TablePart
  table parts = map (printed_part globals elements scope) parts

  -- what is printed, in words that are on the stack
  abbrev Said : List Part → Plan → Words → List (List ℕ) → CodeFrames → Type 0
  Said parts rest stack said d = (ws : Words) × (to : ℕ) × Says (table parts) said ws × (d ≡ place_at to ls (stack ++ ws)) × On rest to

  texts_there : (parts : List Part) (first : ℕ) (rest : Plan) (place : ℕ) (stack : Words) → Free (PartsHave globals view.checked first parts) → PartsMake globals elements parts → On (pushes_parts globals elements scope parts rest) place
      → Follows context (texts globals blocks k parts) (Said parts rest stack) (place_at place ls stack)
  texts_there [] first rest place stack free makes on =
      stays context [] (Said [] rest stack) (place_at place ls stack) ([], place, record { many = refl; first = λ line. refl; rest = λ line. refl }, ap (λ (s : Words). place_at place ls s) (sym (append-nil stack)), on)
  texts_there (Text bytes ∷ parts) first rest place stack free makes on =
      follows_then context (texts globals blocks k parts) (λ more. ready (bytes ∷ more)) (Said parts rest stack) (Said (Text bytes ∷ parts) rest stack) (place_at place ls stack)
      (texts_there parts (first + part_size (Text bytes)) rest place stack (λ violation x. free violation (inr x)) makes on)
      (λ said d n. stays context (bytes ∷ said) (Said (Text bytes ∷ parts) rest stack) d (n.0, n.1, says_text bytes (table parts) said n.0 n.2, n.3, n.4))
  texts_there (ValuePart e ∷ parts) first rest place stack free makes on =
      let w = worth_there globals view.checked program.types_known (variables_known view.checked scope fine.alike fine.placed.known) e first (λ violation x. free violation (inl (inl x))) in
      let p = printable structs w.0 (nodes_of first e) (nodes_end first e) (λ violation x. free violation (inl (inr (subst (λ o. PrintedHas o (nodes_of first e) violation) (sym w.1) x)))) in
      let here-is : worth globals scope e ≡ Some w.0 = sym (worth_alike view.checked scope fine.alike globals e) ∙ w.1 in
      let others = pushes_parts globals elements scope parts rest in
      let Goal = Said (ValuePart e ∷ parts) rest stack in
      let following : List ℕ → Worked (List (List ℕ)) = λ text. and_then (texts globals blocks k parts) (λ more. ready (text ∷ more)) in
      let T : List ℕ → CodeFrames → Type 0 = λ text d. (x : Word) × (to : ℕ) × (text ≡ text_of x) × (d ≡ place_at to ls (stack ++ x ∷ [])) × On others to in
      let O : Word → CodeFrames → Type 0 = λ word d. (to : ℕ) × (d ≡ place_at to ls (stack ++ word ∷ [])) × On others to in
      follows_then context (part_text globals blocks k (ValuePart e)) following T Goal (place_at place ls stack)
      (follows_then context (one globals blocks k e) (λ word. ready (text_of word)) O T (place_at place ls stack)
      (value_goes point e first w.0 (known (default_type (Some w.0))) (λ words. ready (word_in words)) O others mid place stack (λ violation x. free violation (inl (inl x))) makes.0 w.1 p.fit
      (subst (λ o. On (pushes globals elements scope (known (default_type o)) e others) place) here-is on)
      (λ v like to on1. let x = p.one v like in
      subst (λ (y : Value). Follows context (ready (word_in y)) O (place_at to ls (stack ++ y))) (sym x.1) (stays context x.0 O (place_at to ls (stack ++ x.0 ∷ [])) (to, refl, on1))))
      (λ word d m. stays context (text_of word) T d (word, m.0, refl, m.1, m.2)))
      (λ text d m. subst (λ (y : List ℕ). Follows context (following y) Goal d) (sym m.2) (subst (λ y. Follows context (following (text_of m.0)) Goal y) (sym m.3)
      (follows_then context (texts globals blocks k parts) (λ more. ready (text_of m.0 ∷ more)) (Said parts rest (stack ++ m.0 ∷ [])) Goal (place_at m.1 ls (stack ++ m.0 ∷ []))
      (texts_there parts (first + part_size (ValuePart e)) rest m.1 (stack ++ m.0 ∷ []) (λ violation y. free violation (inr y)) makes.1 m.4)
      (λ said e' n. stays context (text_of m.0 ∷ said) Goal e' (m.0 ∷ n.0, n.1, says_value (worth globals scope e) (table parts) said m.0 n.0 n.2, n.3 ∙ ap (λ (s : Words). place_at n.1 ls s) (append_assoc stack (m.0 ∷ []) n.0), n.4)))))

  pub print_goes : (line trailing : Bool) (parts : List Part) (first place : ℕ) → Free (PartsHave globals view.checked first parts) → PartsMake globals elements parts → slice_get code.prints view.site.prints ≡ Some (record { parts = table parts; line = line })
      → On (simple_plan globals elements view.site.layout view.site.prints (Print line parts trailing)) place → variables next ≡ variables view → Works' (simple_work globals blocks k (Print line parts trailing)) (place_at place ls [])
  print_goes line trailing parts first place free makes is on same =
      let i = instrs.Print view.site.prints in
      follows_then context (texts globals blocks k parts) (λ all. asks globals blocks k (requests.Print (printed line all))) (Said parts (Do i Skip) []) (Comes simulated) (place_at place ls [])
      (texts_there parts first (Do i Skip) place [] free makes on)
      (λ said d n. subst (λ x. Works' (asks globals blocks k (requests.Print (printed line said))) x) (sym n.3)
      (let ws = n.0 in
      let s = n.2 in
      let many = ap (λ o. length (print_kinds o)) is ∙ s.many in
      asks_alone position (requests.Print (printed line said)) i ws n.1 n.4 many refl (prints code g f there ds n.1 ls [] ws view.site.prints (record { parts = table parts; line = line }) n.4.0 many is ∙ ap (λ (x : List ℕ). Asks (requests.Print x)) (s.first line)) refl
      (running.calm (requests.Print (printed line said)) (place_at n.1 ls ws) tt) same))
