-- After the instructions of an expression the code goes on.
use Rattle.std.proofs.Common.{◌≡◌, true, false, ◌||◌, ◌&&◌, List, [], ◌∷◌, Option, Some, None, refl, ap, ◌∙◌}
use Rattle.syntax.specs.declared.node.UnaryOperator.{UnaryOperator}
use Rattle.syntax.specs.declared.node.UnaryOperator.TheVariants as signs
use Rattle.syntax.specs.declared.node.BinaryOperator.{BinaryOperator}
use Rattle.syntax.specs.declared.node.BinaryOperator.TheVariants as symbols
use Rattle.syntax.specs.Tree.{Expression, Integer, Named, Parenthesized, Selection, Composite, Unary, Binary, Call, Receive, Make, MakeSized, Length, Capacity, Expressions, NoMore, Following}
use Rattle.bytecode.specs.declared.instr.WordKind.{WordKind}
use Rattle.bytecode.specs.declared.instr.Instr.TheVariants as instrs
use Rattle.type_table.specs.Types.{ValueType, IntType}
use Rattle.type_table.specs.Scopes.{Globals, Scope}
use Rattle.typing_rules.specs.Worths.{Worth, Typed, Constant, Nil, worth}
use Rattle.meaning.specs.Expressions.{number_of}
use Rattle.codegen_base.specs.declared.element.Element.{Element}
use Rattle.codegen_base.specs.Elements.{kinds_of}
use Rattle.codegen_base.specs.Layouts.{type_of}
use Rattle.codegen_base.specs.Pushes.{argument_types, between, emits, emits_all, literal_types, makes, operates, pushes_zeros, settled, signed}
use Rattle.plan.specs.Plan.{Plan, Skip, Do, Seq, IfElse, reaches_end}

abbrev pub Reaches : Plan → Type 0
Reaches plan = reaches_end plan ≡ true

abbrev pub Leads : (Plan → Plan) → Type 0
Leads part = (rest : Plan) → Reaches rest → Reaches (part rest)

leads_signed : (operator : UnaryOperator) → Leads (signed operator)
leads_signed signs.Plus rest is = is
leads_signed signs.Negate rest is = is
leads_signed signs.Not rest is = is
leads_signed signs.Complement rest is = is

leads_zeros : (kinds : List WordKind) → Leads (pushes_zeros kinds)
leads_zeros [] rest is = is
leads_zeros (kind ∷ kinds) rest is = leads_zeros kinds rest is

pub leads_settled : (elements : List Element) (w : Option Worth) (kind : ValueType) (emitted rest : Plan) → Reaches emitted → Reaches rest → Reaches (settled elements w kind emitted rest)
leads_settled elements None kind emitted rest e is = e
leads_settled elements (Some (Typed t)) kind emitted rest e is = e
leads_settled elements (Some (Constant v)) kind emitted rest e is = is
leads_settled elements (Some Nil) kind emitted rest e is = is

-- one of two ways, and what comes after
both_ways : (so other rest : Plan) → Reaches so → Reaches rest → Reaches (Seq (IfElse so other) rest)
both_ways so other rest a b = ap (λ x. (x || reaches_end other) && reaches_end rest) a ∙ b

other_way : (other rest : Plan) → Reaches rest → Reaches (Seq (IfElse (Do (instrs.Bool true) Skip) other) rest)
other_way other rest b = b

leads_between : (operator : BinaryOperator) (kind : ValueType) (l r : Plan → Plan) → Leads l → Leads r → Leads (between operator kind l r)
leads_between symbols.LogicalAnd kind l r p q rest is = p _ (both_ways (r Skip) (Do (instrs.Bool false) Skip) rest (q Skip refl) is)
leads_between symbols.LogicalOr kind l r p q rest is = p _ (other_way (r Skip) rest is)
leads_between symbols.Add kind l r p q rest is = p _ (q _ is)
leads_between symbols.Subtract kind l r p q rest is = p _ (q _ is)
leads_between symbols.Multiply kind l r p q rest is = p _ (q _ is)
leads_between symbols.Divide kind l r p q rest is = p _ (q _ is)
leads_between symbols.Remainder kind l r p q rest is = p _ (q _ is)
leads_between symbols.And kind l r p q rest is = p _ (q _ is)
leads_between symbols.Or kind l r p q rest is = p _ (q _ is)
leads_between symbols.ExclusiveOr kind l r p q rest is = p _ (q _ is)
leads_between symbols.AndNot kind l r p q rest is = p _ (q _ is)
leads_between symbols.ShiftLeft kind l r p q rest is = p _ (q _ is)
leads_between symbols.ShiftRight kind l r p q rest is = p _ (q _ is)
leads_between symbols.Equal kind l r p q rest is = p _ (q _ is)
leads_between symbols.NotEqual kind l r p q rest is = p _ (q _ is)
leads_between symbols.Less kind l r p q rest is = p _ (q _ is)
leads_between symbols.LessEqual kind l r p q rest is = p _ (q _ is)
leads_between symbols.Greater kind l r p q rest is = p _ (q _ is)
leads_between symbols.GreaterEqual kind l r p q rest is = p _ (q _ is)

module _ (elements : List Element) (operator : BinaryOperator) (s t : ValueType) (l r : Plan → Plan) (p : Leads l) (q : Leads r) where
  plainly : (a b : Option Worth) → Leads (λ rest. between operator s (λ k. settled elements a t (l k) k) (λ k. settled elements b s (r k) k) rest)
  plainly a b rest is =
      leads_between operator s (λ k. settled elements a t (l k) k) (λ k. settled elements b s (r k) k) (λ k h. leads_settled elements a t (l k) k (p k h) h) (λ k h. leads_settled elements b s (r k) k (q k h) h) rest is

  leads_operates : (a b : Option Worth) → Leads (λ rest. operates elements operator a b s t l r rest)
  leads_operates (Some (Constant x)) (Some (Constant y)) rest is = is
  leads_operates (Some (Constant x)) (Some (Typed k)) rest is = plainly (Some (Constant x)) (Some (Typed k)) rest is
  leads_operates (Some (Constant x)) (Some Nil) rest is = plainly (Some (Constant x)) (Some Nil) rest is
  leads_operates (Some (Constant x)) None rest is = plainly (Some (Constant x)) None rest is
  leads_operates (Some Nil) b rest is = q _ is
  leads_operates (Some (Typed k)) b rest is = plainly (Some (Typed k)) b rest is
  leads_operates None b rest is = plainly None b rest is

module _ (globals : Globals) (elements : List Element) (scope : Scope) where
  mutual
    pub leads : (e : Expression) → Leads (emits globals elements scope e)
    leads (Integer number) rest is = is
    leads (Named name) rest is = is
    leads (Parenthesized inner) rest is = leads inner rest is
    leads (Selection whole field) rest is = leads whole _ is
    leads (Composite name NoMore trailing) rest is = leads_zeros (kinds_of globals.structs elements (type_of globals elements scope (Composite name NoMore trailing))) rest is
    leads (Composite name (Following first others) trailing) rest is =
        leads_all (literal_types globals elements scope (type_of globals elements scope (Composite name (Following first others) trailing))) (Following first others) rest is
    leads (Unary operator operand) rest is = leads operand _ (leads_signed operator rest is)
    leads (Binary operator left right) rest is =
        leads_operates elements operator (type_of globals elements scope left) (type_of globals elements scope right) (emits globals elements scope left) (emits globals elements scope right) (leads left) (leads right)
        (worth globals scope left) (worth globals scope right) rest is
    leads (Call name values trailing) rest is = leads_all (argument_types globals elements scope (number_of globals name)) values _ is
    leads (Receive channel) rest is = leads channel _ is
    leads (Make kind) rest is = is
    leads (MakeSized kind size) rest is = leads_settled elements (worth globals scope size) IntType (emits globals elements scope size (makes globals elements scope kind rest)) (makes globals elements scope kind rest) (leads size _ is) is
    leads (Length channel) rest is = leads channel _ is
    leads (Capacity channel) rest is = leads channel _ is

    pub leads_all : (types : List ValueType) (values : Expressions) → Leads (emits_all globals elements scope types values)
    leads_all types NoMore rest is = is
    leads_all [] (Following first others) rest is = is
    leads_all (kind ∷ types) (Following first others) rest is =
        let following = emits_all globals elements scope types others rest in
        let goes = leads_all types others rest is in
        leads_settled elements (worth globals scope first) kind (emits globals elements scope first following) following (leads first following goes) goes
