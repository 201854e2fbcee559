-- Each simple statement with which nothing is wrong leaves the stack as it was.
use Rattle.std.proofs.Common.{◌≡◌, ℕ, ◌+◌, List, map, Some, refl, subst, arith, slice_get}
use Rattle.std.proofs.lemmas.Option.{slice_get_within}
use Rattle.syntax.specs.Tree.{Simple, CallAlone, Close, Print, ReceiveAlone, Send, Increment, Decrement, Assign, Define, Update}
use Rattle.bytecode.specs.Code.{Function as CodeFunction, Code, PrintTable}
use Rattle.type_table.specs.Scopes.{Globals, Scope}
use Rattle.typing_rules.specs.Simples.{SimpleHas, after_simple}
use Rattle.codegen_base.specs.declared.element.Element.{Element}
use Rattle.codegen_base.specs.Layouts.{Layout, following_simple}
use Rattle.codegen_base.specs.Statements.{printed_part, simple_prints, simple_plan}
use Rattle.syntax.specs.Grammar.{IsStill}
use Rattle.codegen_base.proofs.Alike.{Alike}
use Rattle.codegen_base.proofs.StatementMakes.{SimpleMakes}
use Rattle.codegen_base.proofs.Typing.{Free}
use Rattle.codegen_fine.proofs.Sees.{Sees}
use Rattle.codegen_fine.proofs.Operands.{Grounds}
use Rattle.codegen_fine.proofs.Places.{housed_of}
use Rattle.codegen_fine.proofs.Layouts.{Begins, Room}
use Rattle.codegen_fine.proofs.Simple.{typed_call_alone, typed_close, typed_receive_alone, typed_send}
use Rattle.codegen_fine.proofs.Printed.{typed_print}
use Rattle.codegen_fine.proofs.Changes.{typed_increment, typed_decrement, typed_assign_with}
use Rattle.codegen_fine.proofs.Assigns.{Leaves, Declares, typed_sets, typed_define}

-- print tables are in the code from a number on
abbrev pub Prints : Code → ℕ → List PrintTable → Type 0
Prints code first xs = (n : ℕ) (x : PrintTable) → slice_get xs n ≡ Some x → slice_get code.prints (first + n) ≡ Some x

module _ (globals : Globals) (elements : List Element) (code : Code) (f : CodeFunction) (grounds : Grounds globals elements code) where
  pub typed_still : (layout : Layout) (room : Room globals elements code f layout) (s : Scope) (sees : Sees s layout.scope) (q : ℕ) (simple : Simple) (first : ℕ) → IsStill simple → Free (SimpleHas globals s first simple) → SimpleMakes globals elements simple → Prints code q (simple_prints globals elements layout.scope simple)
      → Leaves globals elements code f grounds (simple_plan globals elements layout q simple)
  typed_still layout room s sees q (CallAlone function arguments) first still free makes prints = typed_call_alone globals elements code f grounds layout (housed_of globals elements f layout.scope room.housed) q s sees function arguments first free makes
  typed_still layout room s sees q (Close channel) first still free makes prints = typed_close globals elements code f grounds layout (housed_of globals elements f layout.scope room.housed) q s sees channel first free makes
  typed_still layout room s sees q (ReceiveAlone channel) first still free makes prints = typed_receive_alone globals elements code f grounds layout (housed_of globals elements f layout.scope room.housed) q s sees channel first free makes
  typed_still layout room s sees q (Send channel value) first still free makes prints = typed_send globals elements code f grounds layout (housed_of globals elements f layout.scope room.housed) q s sees channel value first free makes.0 makes.1
  typed_still layout room s sees q (Print line parts trailing) first still free makes prints =
      let e : q + 0 ≡ q = omega arith in
      let table : PrintTable = record { parts = map (printed_part globals elements layout.scope) parts; line = line } in
      let is = subst (λ n. slice_get code.prints n ≡ Some table) e (prints 0 table refl) in
      typed_print globals elements code f grounds layout (housed_of globals elements f layout.scope room.housed) s sees q line trailing parts first free makes table (slice_get_within code.prints q table is) is refl
  typed_still layout room s sees q (Increment place) first still free makes prints = typed_increment globals elements code f grounds layout.scope room.housed s sees place first free
  typed_still layout room s sees q (Decrement place) first still free makes prints = typed_decrement globals elements code f grounds layout.scope room.housed s sees place first free
  typed_still layout room s sees q (Update place operator value) first still free makes prints = typed_assign_with globals elements code f grounds layout.scope room.housed s sees place operator value first free makes
  typed_still layout room s sees q (Assign places right) first still free makes prints =
      typed_sets globals elements code f grounds layout.scope room.housed s sees places right first free makes
  typed_still layout room s sees q (Define names right) first still free makes prints = absurd still

  module _ (layout : Layout) (room : Room globals elements code f layout) (s : Scope) (alike : Alike s layout.scope) where
    abbrev pub IsDone : ℕ → Simple → Type 0
    IsDone q simple = Declares globals elements code f grounds (simple_plan globals elements layout q simple) (after_simple globals s simple) (following_simple globals elements simple layout)

    pub typed_simple : (q : ℕ) (simple : Simple) (first : ℕ) → Free (SimpleHas globals s first simple) → SimpleMakes globals elements simple → Begins f (following_simple globals elements simple layout) → Prints code q (simple_prints globals elements layout.scope simple) → IsDone q simple
    typed_simple q (CallAlone a b) first free makes begins prints = record { leaves = typed_still layout room s alike.named q (CallAlone a b) first tt free makes prints; room = room; alike = alike }
    typed_simple q (Close a) first free makes begins prints = record { leaves = typed_still layout room s alike.named q (Close a) first tt free makes prints; room = room; alike = alike }
    typed_simple q (ReceiveAlone a) first free makes begins prints = record { leaves = typed_still layout room s alike.named q (ReceiveAlone a) first tt free makes prints; room = room; alike = alike }
    typed_simple q (Send a b) first free makes begins prints = record { leaves = typed_still layout room s alike.named q (Send a b) first tt free makes prints; room = room; alike = alike }
    typed_simple q (Print a b c) first free makes begins prints = record { leaves = typed_still layout room s alike.named q (Print a b c) first tt free makes prints; room = room; alike = alike }
    typed_simple q (Increment a) first free makes begins prints = record { leaves = typed_still layout room s alike.named q (Increment a) first tt free makes prints; room = room; alike = alike }
    typed_simple q (Decrement a) first free makes begins prints = record { leaves = typed_still layout room s alike.named q (Decrement a) first tt free makes prints; room = room; alike = alike }
    typed_simple q (Update a b c) first free makes begins prints = record { leaves = typed_still layout room s alike.named q (Update a b c) first tt free makes prints; room = room; alike = alike }
    typed_simple q (Assign a b) first free makes begins prints = record { leaves = typed_still layout room s alike.named q (Assign a b) first tt free makes prints; room = room; alike = alike }
    typed_simple q (Define names right) first free makes begins prints =
        typed_define globals elements code f grounds layout room s alike names right first free makes begins
