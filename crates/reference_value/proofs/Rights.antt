-- Right sides that are not one receive that gives two values.
use Rattle.std.proofs.Common.{◌≡◌, ℕ, zero, suc, ◌==◌, false, ◌&&◌, List, [], ◌∷◌, refl}
use Rattle.syntax.specs.Tree.{Expression, Integer, Named, Parenthesized, Selection, Composite, Unary, Binary, Call, Receive, Make, MakeSized, Length, Capacity, expressions}
use Rattle.type_table.specs.Scopes.{Globals}
use Rattle.meaning.specs.Expressions.{right_values, values}
use Rattle.meaning.specs.Variables.{Blocks}
use Rattle.reference_value.specs.Rights.{is_lone_receive}

one_value : (globals : Globals) (blocks : Blocks) (only : Expression) → is_lone_receive (only ∷ []) ≡ false → right_values globals blocks 2 (only ∷ []) ≡ values globals blocks (expressions (only ∷ []))
one_value globals blocks (Integer n) other = refl
one_value globals blocks (Named name) other = refl
one_value globals blocks (Parenthesized e) other = refl
one_value globals blocks (Selection e field) other = refl
one_value globals blocks (Composite name all trailing) other = refl
one_value globals blocks (Unary operator e) other = refl
one_value globals blocks (Binary operator l r) other = refl
one_value globals blocks (Call f all trailing) other = refl
one_value globals blocks (Receive e) other = cc
one_value globals blocks (Make kind) other = refl
one_value globals blocks (MakeSized kind e) other = refl
one_value globals blocks (Length e) other = refl
one_value globals blocks (Capacity e) other = refl

pub all_values : (globals : Globals) (blocks : Blocks) (count : ℕ) (right : List Expression) → ((count == 2) && is_lone_receive right) ≡ false
    → right_values globals blocks count right ≡ values globals blocks (expressions right)
all_values globals blocks zero right other = refl
all_values globals blocks (suc zero) right other = refl
all_values globals blocks (suc (suc (suc n))) right other = refl
all_values globals blocks (suc (suc zero)) [] other = refl
all_values globals blocks (suc (suc zero)) (only ∷ []) other = one_value globals blocks only other
all_values globals blocks (suc (suc zero)) (first ∷ (second ∷ rest)) other = refl
