-- An assignment with an operator stores what the operator leaves.
use Rattle.std.proofs.Common.{◌≡◌, ℕ, List, Some, Ok, ap, subst}
use Rattle.syntax.specs.declared.node.BinaryOperator.{BinaryOperator}
use Rattle.bytecode.specs.declared.instr.WordKind.{WordKind}
use Rattle.bytecode.specs.declared.instr.Instr.TheVariants as instrs
use Rattle.bytecode.specs.Code.{Function as CodeFunction, Code}
use Rattle.type_table.specs.Types.{ValueType}
use Rattle.type_table.specs.Scopes.{Globals, Scope}
use Rattle.typing_rules.specs.Worths.{Worth, Typed as TypedWorth, binary_worth}
use Rattle.codegen_base.specs.declared.element.Element.{Element}
use Rattle.codegen_base.specs.Elements.{kinds_of}
use Rattle.codegen_base.specs.Pushes.{operates}
use Rattle.codegen_base.specs.Statements.{Local, stores, loads_spot}
use Rattle.codegen_base.proofs.Typing.{typed_same}
use Rattle.codegen_base.proofs.Noted.{Noted}
use Rattle.plan.specs.Plan.{Plan, Skip, Do}
use Rattle.plan.proofs.Typed.{Allowed, Typed}
use Rattle.codegen_fine.proofs.Pushing.{puts_locals}
use Rattle.codegen_fine.proofs.Operands.{Grounds, P, IsEmitted, type_worth, operates_pushed}
use Rattle.codegen_fine.proofs.Spots.{SpotFits, stand_range, stores_typed, ticks_typed}

module _ (globals : Globals) (elements : List Element) (code : Code) (f : CodeFunction) (grounds : Grounds globals elements code) where
  module _ (scope : Scope) (place words : ℕ) (own : ValueType) (fit : SpotFits globals.structs elements code f (Local place words) (kinds_of globals.structs elements own)) (noted : Noted elements own) where
    -- the lvalue's value is loaded
    pub loaded : P globals elements code f grounds own (loads_spot globals elements scope (Local place words))
    loaded = puts_locals globals.structs elements code f place words (kinds_of globals.structs elements own) fit.1 (stand_range f.locals place words (kinds_of globals.structs elements own) fit.0 fit.2)

    loaded_as : IsEmitted globals elements code f grounds (loads_spot globals elements scope (Local place words)) (TypedWorth own)
    loaded_as t is = let same = typed_same own t (ap Some is) in (subst (Noted elements) same noted, subst (λ j. P globals elements code f grounds j (loads_spot globals elements scope (Local place words))) same loaded)

    pub typed_update : (operator : BinaryOperator) (w : Worth) (right : Plan → Plan) → binary_worth operator (TypedWorth own) w ≡ Ok (TypedWorth own) → IsEmitted globals elements code f grounds right w → (a : Allowed) (ks out : List WordKind) → Typed code f a ks Skip out
        → Typed code f a ks (operates elements operator (Some (TypedWorth own)) (Some w) own (type_worth globals elements code f grounds w) (loads_spot globals elements scope (Local place words)) right (stores (Local place words) (Do instrs.Tick Skip))) out
    typed_update operator w right made el a ks out t =
        operates_pushed globals elements code f grounds operator (TypedWorth own) w own (loads_spot globals elements scope (Local place words)) right made loaded_as el a ks out (stores (Local place words) (Do instrs.Tick Skip))
        (stores_typed globals.structs elements code f (Local place words) (kinds_of globals.structs elements own) fit a ks out (Do instrs.Tick Skip) (ticks_typed globals.structs elements code f a ks out Skip t))
