-- The indexes of elements in a list, in memory.
use Rattle.std.specs.Prelude.{ℕ, Option}
use Rattle.std.specs.HashMap.{HashMap, get}
use Rattle.codegen_base.specs.declared.element.Element.{Element}
use Rattle.codegen_base.specs.contracts.element.ElementPartialEq.TheImpl.{ghosts}

-- the index of an element
abbrev pub place_in : {S : Type 0} → HashMap Element ℕ S → Element → Option ℕ
place_in places element = get ghosts.eq places element
