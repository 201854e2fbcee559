-- What a print statement's code pushes is what its table takes.
use Rattle.std.proofs.Common.{◌≡◌, ℕ, ◌+◌, ◌<◌, ◌≤◌, Bool, true, List, [], ◌∷◌, ◌++◌, length, map, Some, refl, sym, ap, ◌∙◌, subst, arith, slice_get, inl, inr}
use Rattle.std.proofs.lemmas.List.{append-nil}
use Rattle.go_text.specs.declared.rule.Rule.TheVariants as rules
use Rattle.syntax.specs.Tree.{Part, Value as ValuePart, Text, Print}
use Rattle.syntax.specs.Measures.{part_size}
use Rattle.bytecode.specs.declared.instr.WordKind.{WordKind}
use Rattle.bytecode.specs.declared.instr.Instr.TheVariants as instrs
use Rattle.bytecode.specs.declared.table.Part.{Part as TablePart}
use Rattle.bytecode.specs.Code.{Function as CodeFunction, Code, PrintTable}
use Rattle.bytecode.specs.Effects.{part_kinds, print_kinds}
use Rattle.type_table.specs.Types.{IntType, BoolType, StructType, ChannelType}
use Rattle.type_table.specs.Scopes.{Globals, Scope}
use Rattle.typing_rules.specs.Violations.{Nodes}
use Rattle.typing_rules.specs.Worths.{Worth, Typed as TypedWorth, Constant, Nil, is_int, worth}
use Rattle.typing_rules.specs.Expressions.{nodes_of, PrintedHas, default_type}
use Rattle.typing_rules.specs.Simples.{PartsHave, SimpleHas}
use Rattle.meaning.specs.Values.{known}
use Rattle.codegen_base.specs.declared.element.Element.{Element}
use Rattle.codegen_base.specs.Elements.{kinds_of}
use Rattle.codegen_base.specs.Layouts.{Layout}
use Rattle.codegen_base.specs.Pushes.{pushes}
use Rattle.codegen_base.specs.Statements.{printed_as, printed_part, pushes_parts, simple_plan}
use Rattle.codegen_fine.proofs.Sees.{Sees, worth_sees, known_sees}
use Rattle.codegen_base.proofs.Noted.{Noted}
use Rattle.codegen_base.proofs.StatementMakes.{PartsMake}
use Rattle.codegen_base.proofs.Typing.{Free, Fits, broken, nodes_end, worth_there, not_false}
use Rattle.plan.specs.Plan.{Skip, Do}
use Rattle.plan.proofs.Typed.{Allowed, Typed}
use Rattle.codegen_fine.proofs.Pushing.{Puts, puts_both}
use Rattle.codegen_fine.proofs.Operands.{Grounds, Housed}
use Rattle.codegen_fine.proofs.Emitted.{typed_pushes}
use Rattle.codegen_fine.proofs.Requests.{prints_typed}

module _ (globals : Globals) (elements : List Element) where
  -- what is printed is an int or a bool
  record Printable (w : Worth) : Type 0 where
    fit : Fits w (known (default_type (Some w)))
    noted : Noted elements (known (default_type (Some w)))
    part : (ps : List TablePart) → part_kinds (printed_as (Some w) ∷ ps) ≡ kinds_of globals.structs elements (known (default_type (Some w))) ++ part_kinds ps

  printable : (w : Worth) (nodes : Nodes) → 1 ≤ nodes.end → Free (PrintedHas (Some w) nodes) → Printable w
  printable (TypedWorth IntType) nodes le free = record { fit = refl; noted = tt; part = λ ps. refl }
  printable (TypedWorth BoolType) nodes le free = record { fit = refl; noted = tt; part = λ ps. refl }
  printable (TypedWorth (StructType n)) nodes le free = let b = broken rules.Called nodes.end le in absurd (free b.0 b.1)
  printable (TypedWorth (ChannelType d c)) nodes le free = let b = broken rules.Called nodes.end le in absurd (free b.0 b.1)
  printable (Constant z) nodes le free =
      let b = broken rules.Constant nodes.end le in
      let int : is_int z ≡ true = not_false (is_int z) (λ e. free b.0 (e, b.1)) in
      record { fit = (refl, int); noted = tt; part = λ ps. refl }
  printable Nil nodes le free = let b = broken rules.Nil (nodes.first + 1) (omega arith) in absurd (free b.0 b.1)

  module _ (code : Code) (f : CodeFunction) (grounds : Grounds globals elements code) where
    module _ (scope : Scope) (housed : Housed globals elements f scope) (s : Scope) (alike : Sees s scope) where
      -- the values of a print statement are of the kinds that its table takes
      pub typed_parts : (parts : List Part) (first : ℕ) → Free (PartsHave globals s first parts) → PartsMake globals elements parts → Puts globals.structs elements code f (part_kinds (map (printed_part globals elements scope) parts)) (pushes_parts globals elements scope parts)
      typed_parts [] first free makes a ks out rest t = subst (λ (l : List WordKind). Typed code f a l rest out) (append-nil ks) t
      typed_parts (Text bytes ∷ others) first free makes a ks out rest t = typed_parts others (first + part_size (Text bytes)) (λ violation h. free violation (inr h)) makes a ks out rest t
      typed_parts (ValuePart value ∷ others) first free makes a ks out rest t =
          let w = worth_there globals s grounds.types_known (known_sees s scope alike housed.known) value first (λ violation h. free violation (inl (inl h))) in
          let here-is : worth globals scope value ≡ Some w.0 = sym (worth_sees s scope alike globals value) ∙ w.1 in
          let p = printable w.0 (nodes_of first value) (nodes_end first value) (λ violation h. free violation (inl (inr (subst (λ o. PrintedHas o (nodes_of first value) violation) (sym w.1) h)))) in
          let kind = known (default_type (Some w.0)) in
          let more = part_kinds (map (printed_part globals elements scope) others) in
          let same : part_kinds (printed_as (worth globals scope value) ∷ map (printed_part globals elements scope) others) ≡ kinds_of globals.structs elements kind ++ more =
          ap (λ o. part_kinds (printed_as o ∷ map (printed_part globals elements scope) others)) here-is ∙ p.part (map (printed_part globals elements scope) others) in
          subst (λ o. Typed code f a ks (pushes globals elements scope (known (default_type o)) value (pushes_parts globals elements scope others rest)) out) (sym here-is)
          (puts_both globals.structs elements code f (kinds_of globals.structs elements kind) more (pushes globals elements scope kind value) (pushes_parts globals elements scope others)
          (typed_pushes globals elements code f grounds scope housed s alike value first (λ violation h. free violation (inl (inl h))) makes.0 w.0 kind here-is p.fit p.noted)
          (typed_parts others (first + part_size (ValuePart value)) (λ violation h. free violation (inr h)) makes.1) a ks out rest
          (subst (λ (l : List WordKind). Typed code f a (ks ++ l) rest out) same t))

    -- if the statement's table has its number, the statement leaves the stack as it was
    pub typed_print : (layout : Layout) (housed : Housed globals elements f layout.scope) (s : Scope) (alike : Sees s layout.scope) (q : ℕ) (line trailing : Bool) (parts : List Part) (first : ℕ) → Free (SimpleHas globals s first (Print line parts trailing)) → PartsMake globals elements parts
        → (table : PrintTable) → q < length code.prints → slice_get code.prints q ≡ Some table → table.parts ≡ map (printed_part globals elements layout.scope) parts
        → (a : Allowed) (ks out : List WordKind) → Typed code f a ks Skip out → Typed code f a ks (simple_plan globals elements layout q (Print line parts trailing)) out
    typed_print layout housed s alike q line trailing parts first free makes table there is same a ks out t =
        let js = part_kinds (map (printed_part globals elements layout.scope) parts) in
        typed_parts layout.scope housed s alike parts first free makes a ks out (Do (instrs.Print q) Skip)
        (prints_typed globals elements code f grounds q js there (ap print_kinds is ∙ ap part_kinds same) a ks out Skip t)
