-- Literals with values.
use Rattle.std.proofs.Common.{◌≡◌, false, List, [], ◌∷◌, length, nat_eq, refl}
use Rattle.syntax.specs.Tree.{Expression, expressions}
use Rattle.meaning.specs.Expressions.{literal}
use Rattle.meaning.specs.Values.{Value}
use Rattle.meaning.specs.Worked.{Worked}

-- a literal with values is what they are
pub filled : (values : List Expression) (zero : Value) (fields : Worked Value) → nat_eq (length values) 0 ≡ false → literal (expressions values) zero fields ≡ fields
filled [] zero fields some = cc
filled (first ∷ rest) zero fields some = refl
