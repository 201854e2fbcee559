-- What follows an lvalue, and what that says of a statement.
use Rattle.std.proofs.Common.{◌≡◌, ℕ, ◌≤◌, Bool, true, false, cond, ◌||◌, None, List, [], ◌∷◌, ◌++◌, Ok, refl, ap, ◌∙◌, subst, arith, append_assoc, bytes_eq, codes}
use Rattle.scanner.specs.declared.kind.TokenKind.{TokenKind}
use Rattle.scanner.specs.declared.kind.TokenKind.TheVariants as kinds
use Rattle.syntax.specs.declared.node.BinaryOperator.{BinaryOperator}
use Rattle.syntax.specs.declared.node.BinaryOperator.TheVariants as binaries
use Rattle.syntax.specs.Tree.{Expression, Integer, Named, Parenthesized, Selection, Composite, Unary, Binary, Call, Receive, Make, MakeSized, Length, Capacity, Place}
use Rattle.parser_base.specs.Lexemes.{Lexeme, Literal, Name, Text, Mark}
use Rattle.parser_base.specs.Spelling.{makes_value, is_builtin, following, separated, joined, before, expression_words, precedence, binary_kind}
use Rattle.parser_base.specs.Reading.{is_kind, begins}
use Rattle.parser_simple.specs.declared.form.Form.{Form}
use Rattle.parser_simple.specs.declared.form.Form.TheVariants as forms
use Rattle.parser_simple.specs.Spelling.{name_words, IsPlace, place_words, update_kind}
use Rattle.parser_simple.specs.Reading.{begins_with, begins_name, form_at, form_of, place_form, defines, formed, led}

-- ---- operators

operator_form : (o : BinaryOperator) (ws : List Lexeme) → form_of false (Mark (binary_kind o) ∷ ws) ≡ forms.Other
unfolding form_of
operator_form binaries.Add ws = refl
operator_form binaries.Subtract ws = refl
operator_form binaries.Multiply ws = refl
operator_form binaries.Divide ws = refl
operator_form binaries.Remainder ws = refl
operator_form binaries.And ws = refl
operator_form binaries.Or ws = refl
operator_form binaries.ExclusiveOr ws = refl
operator_form binaries.AndNot ws = refl
operator_form binaries.ShiftLeft ws = refl
operator_form binaries.ShiftRight ws = refl
operator_form binaries.Equal ws = refl
operator_form binaries.NotEqual ws = refl
operator_form binaries.Less ws = refl
operator_form binaries.LessEqual ws = refl
operator_form binaries.Greater ws = refl
operator_form binaries.GreaterEqual ws = refl
operator_form binaries.LogicalAnd ws = refl
operator_form binaries.LogicalOr ws = refl

pub update_again : (o : BinaryOperator) (ws : List Lexeme) → 4 ≤ precedence o → form_of false (Mark (update_kind o) ∷ ws) ≡ forms.Update o
unfolding form_of
update_again binaries.Add ws strong = refl
update_again binaries.Subtract ws strong = refl
update_again binaries.Multiply ws strong = refl
update_again binaries.Divide ws strong = refl
update_again binaries.Remainder ws strong = refl
update_again binaries.And ws strong = refl
update_again binaries.Or ws strong = refl
update_again binaries.ExclusiveOr ws strong = refl
update_again binaries.AndNot ws strong = refl
update_again binaries.ShiftLeft ws strong = refl
update_again binaries.ShiftRight ws strong = refl
update_again binaries.Equal ws strong = absurd (omega arith)
update_again binaries.NotEqual ws strong = absurd (omega arith)
update_again binaries.Less ws strong = absurd (omega arith)
update_again binaries.LessEqual ws strong = absurd (omega arith)
update_again binaries.Greater ws strong = absurd (omega arith)
update_again binaries.GreaterEqual ws strong = absurd (omega arith)
update_again binaries.LogicalAnd ws strong = absurd (omega arith)
update_again binaries.LogicalOr ws strong = absurd (omega arith)

pub update_shut : (o : BinaryOperator) → is_kind (update_kind o) kinds.LeftParenthesis ≡ false
update_shut binaries.Add = refl
update_shut binaries.Subtract = refl
update_shut binaries.Multiply = refl
update_shut binaries.Divide = refl
update_shut binaries.Remainder = refl
update_shut binaries.And = refl
update_shut binaries.Or = refl
update_shut binaries.ExclusiveOr = refl
update_shut binaries.AndNot = refl
update_shut binaries.ShiftLeft = refl
update_shut binaries.ShiftRight = refl
update_shut binaries.Equal = refl
update_shut binaries.NotEqual = refl
update_shut binaries.Less = refl
update_shut binaries.LessEqual = refl
update_shut binaries.Greater = refl
update_shut binaries.GreaterEqual = refl
update_shut binaries.LogicalAnd = refl
update_shut binaries.LogicalOr = refl

pub update_no_field : (o : BinaryOperator) → is_kind (update_kind o) kinds.Period ≡ false
update_no_field binaries.Add = refl
update_no_field binaries.Subtract = refl
update_no_field binaries.Multiply = refl
update_no_field binaries.Divide = refl
update_no_field binaries.Remainder = refl
update_no_field binaries.And = refl
update_no_field binaries.Or = refl
update_no_field binaries.ExclusiveOr = refl
update_no_field binaries.AndNot = refl
update_no_field binaries.ShiftLeft = refl
update_no_field binaries.ShiftRight = refl
update_no_field binaries.Equal = refl
update_no_field binaries.NotEqual = refl
update_no_field binaries.Less = refl
update_no_field binaries.LessEqual = refl
update_no_field binaries.Greater = refl
update_no_field binaries.GreaterEqual = refl
update_no_field binaries.LogicalAnd = refl
update_no_field binaries.LogicalOr = refl

-- only the operators of arithmetic assign
abbrev updates : BinaryOperator → Form
updates o = forms.Update o

strong_as : (o p : BinaryOperator) → updates o ≡ updates p → 4 ≤ precedence o → 4 ≤ precedence p
strong_as o p e strong =
    let same : o ≡ p = cc in
    subst (λ (x : BinaryOperator). 4 ≤ precedence x) same strong

mark_strong : (k : TokenKind) (ws : List Lexeme) (o : BinaryOperator) → form_at k ws ≡ forms.Update o → 4 ≤ precedence o
mark_strong kinds.PlusAssign ws o e = strong_as binaries.Add o e (omega arith)
mark_strong kinds.MinusAssign ws o e = strong_as binaries.Subtract o e (omega arith)
mark_strong kinds.StarAssign ws o e = strong_as binaries.Multiply o e (omega arith)
mark_strong kinds.SlashAssign ws o e = strong_as binaries.Divide o e (omega arith)
mark_strong kinds.PercentAssign ws o e = strong_as binaries.Remainder o e (omega arith)
mark_strong kinds.AmpersandAssign ws o e = strong_as binaries.And o e (omega arith)
mark_strong kinds.BarAssign ws o e = strong_as binaries.Or o e (omega arith)
mark_strong kinds.CaretAssign ws o e = strong_as binaries.ExclusiveOr o e (omega arith)
mark_strong kinds.AndNotAssign ws o e = strong_as binaries.AndNot o e (omega arith)
mark_strong kinds.ShiftLeftAssign ws o e = strong_as binaries.ShiftLeft o e (omega arith)
mark_strong kinds.ShiftRightAssign ws o e = strong_as binaries.ShiftRight o e (omega arith)
mark_strong _ ws o e = absurd cc

period_strong : (k : TokenKind) (b : Bool) (ws : List Lexeme) (o : BinaryOperator) → (form_of true ws ≡ forms.Update o → 4 ≤ precedence o) → cond b (form_of true ws) (form_at k ws) ≡ forms.Update o → 4 ≤ precedence o
period_strong k true ws o deeper e = deeper e
period_strong k false ws o deeper e = mark_strong k ws o e

pub form_strong : (named : Bool) (ws : List Lexeme) (o : BinaryOperator) → form_of named ws ≡ forms.Update o → 4 ≤ precedence o
unfolding form_of
form_strong true [] o e = absurd cc
form_strong true (Literal value ∷ ws) o e = absurd cc
form_strong true (Text bytes ∷ ws) o e = absurd cc
form_strong true (Mark kind ∷ ws) o e = absurd cc
form_strong true (Name name ∷ ws) o e = form_strong false ws o e
form_strong false [] o e = absurd cc
form_strong false (Literal value ∷ ws) o e = absurd cc
form_strong false (Text bytes ∷ ws) o e = absurd cc
form_strong false (Name name ∷ ws) o e = absurd cc
form_strong false (Mark kind ∷ ws) o e = period_strong kind (is_kind kind kinds.Period) ws o (form_strong true ws o) e

-- ---- lvalues

pub fields_form : (fs : List (List ℕ)) (ws : List Lexeme) → form_of false (separated name_words (following kinds.Period) fs ws) ≡ form_of false ws
unfolding form_of
fields_form [] ws = refl
fields_form (f ∷ fs) ws = fields_form fs ws

first_false : (a b : Bool) → (a || b) ≡ false → a ≡ false
first_false true b e = absurd cc
first_false false b e = refl

pub fields_shut : (fs : List (List ℕ)) (ws : List Lexeme) → begins_with kinds.LeftParenthesis ws ≡ false → begins_with kinds.LeftParenthesis (separated name_words (following kinds.Period) fs ws) ≡ false
unfolding begins_with
fields_shut [] ws shut = shut
fields_shut (f ∷ fs) ws shut = refl

-- only the names of built-in functions make values
pub plain_makes_none : (name : List ℕ) → is_builtin name ≡ false → makes_value name ≡ false
plain_makes_none name plain =
    let close = bytes_eq name (codes "close") in
    let print = bytes_eq name (codes "print") in
    let println = bytes_eq name (codes "println") in
    first_false (makes_value name) close (first_false (makes_value name || close) print (first_false (makes_value name || close || print) println plain))

-- a statement that begins with an lvalue has the form of what follows that
pub led_formed : (literals defining : Bool) (most depth_left : ℕ) (p : Place) (ws : List Lexeme) → IsPlace p
    → led literals defining most depth_left (place_words p ws) ≡ formed literals defining most depth_left (form_of false ws) (place_words p ws)
unfolding led form_of
led_formed literals defining most depth_left p ws is =
    rw (is.0, plain_makes_none p.name is.0, fields_form p.fields ws) refl

-- ---- names and lvalues before a mark

pub defines_names : (name : List ℕ) (ns : List (List ℕ)) (ws : List Lexeme) → defines true (joined name_words (following kinds.Comma) (name ∷ ns) (Mark kinds.Define ∷ ws)) ≡ true
unfolding defines
defines_names name [] ws = refl
defines_names name (n ∷ ns) ws = defines_names n ns ws

no_defines_fields : (fs : List (List ℕ)) (ws : List Lexeme) → defines false ws ≡ false → defines false (separated name_words (following kinds.Period) fs ws) ≡ false
unfolding defines
no_defines_fields [] ws none = none
no_defines_fields (f ∷ fs) ws none = refl

pub no_defines : (p : Place) (ps : List Place) (ws : List Lexeme) → defines true (joined place_words (following kinds.Comma) (p ∷ ps) (Mark kinds.Assign ∷ ws)) ≡ false
unfolding defines
no_defines p [] ws = no_defines_fields p.fields (Mark kinds.Assign ∷ ws) refl
no_defines p (q ∷ ps) ws = no_defines_fields p.fields (Mark kinds.Comma ∷ joined place_words (following kinds.Comma) (q ∷ ps) (Mark kinds.Assign ∷ ws)) (no_defines q ps ws)

-- ---- values

-- after a value there is no form unless one follows it
pub no_form : (e : Expression) (ws : List Lexeme) → form_of false ws ≡ forms.Other → form_of true (before e ws) ≡ forms.Other
unfolding form_of
no_form (Integer value) ws none = refl
no_form (Named name) ws none = none
no_form (Parenthesized inner) ws none = refl
no_form (Selection whole field) ws none =
    ap (form_of true) (append_assoc (expression_words whole) (Mark kinds.Period ∷ Name field ∷ []) ws) ∙ no_form whole (Mark kinds.Period ∷ Name field ∷ ws) none
no_form (Composite name vs trailing) ws none = refl
no_form (Unary o inner) ws none = refl
no_form (Binary o l r) ws none =
    ap (form_of true) (append_assoc (expression_words l) (Mark (binary_kind o) ∷ expression_words r) ws) ∙ no_form l (Mark (binary_kind o) ∷ (expression_words r ++ ws)) (operator_form o (expression_words r ++ ws))
no_form (Call function vs trailing) ws none = refl
no_form (Receive channel) ws none = refl
no_form (Make channel) ws none = refl
no_form (MakeSized channel size) ws none = refl
no_form (Length channel) ws none = refl
no_form (Capacity channel) ws none = refl

named_none : (literals defining : Bool) (most depth_left : ℕ) (name : List ℕ) (b : Bool) (ws : List Lexeme) → is_builtin name ≡ b → form_of true (Name name ∷ ws) ≡ forms.Other → begins (Name name ∷ ws) ≡ true
    → led literals defining most depth_left (Name name ∷ ws) ≡ Ok (None, Name name ∷ ws)
unfolding led formed begins
named_none literals defining most depth_left name true ws is form begun =
    let makes = rw is at begun in
    rw makes refl
named_none literals defining most depth_left name false ws is form begun = rw (is, plain_makes_none name is, form) refl

-- no other simple statement begins with a value
pub led_none : (literals defining : Bool) (most depth_left : ℕ) (ws : List Lexeme) → begins ws ≡ true → form_of true ws ≡ forms.Other → led literals defining most depth_left ws ≡ Ok (None, ws)
unfolding led
led_none literals defining most depth_left [] begun form = refl
led_none literals defining most depth_left (Literal value ∷ ws) begun form = refl
led_none literals defining most depth_left (Text bytes ∷ ws) begun form = refl
led_none literals defining most depth_left (Mark kind ∷ ws) begun form = refl
led_none literals defining most depth_left (Name name ∷ ws) begun form = named_none literals defining most depth_left name (is_builtin name) ws refl form begun

-- ---- what begins with an lvalue

other_form : (b : Bool) (f : Form) → f ≡ forms.Other → cond b f forms.Other ≡ forms.Other
other_form true f is = is
other_form false f is = refl

pub no_place_form : (ws : List Lexeme) → form_of true ws ≡ forms.Other → place_form ws ≡ forms.Other
no_place_form ws none = other_form (begins_name ws) (form_of true ws) none

pub name_form : (name : List ℕ) (ws : List Lexeme) → is_builtin name ≡ false → place_form (Name name ∷ ws) ≡ form_of false ws
unfolding begins_name form_of
name_form name ws plain = rw plain refl

pub form_after : (p : Place) (ws : List Lexeme) → IsPlace p → place_form (place_words p ws) ≡ form_of false ws
form_after p ws is = name_form p.name (separated name_words (following kinds.Period) p.fields ws) is.0 ∙ fields_form p.fields ws
