-- The elements of the channel types that an expression makes are noted.
use Rattle.std.proofs.Common.{◌≡◌, ℕ, Bool, true, false, List, Option, Some, None, option_map, refl, ap, ◌∙◌}
use Rattle.std.specs.Prelude.{if◌then◌else◌}
use Rattle.std.specs.Option.{is_some}
use Rattle.syntax.specs.Tree.{TypeExpression, NamedType, ParenthesizedType, Channel, Expression, Integer, Named, Parenthesized, Selection, Composite, Unary, Binary, Call, Receive, Make, MakeSized, Length, Capacity, Expressions, NoMore, Following}
use Rattle.type_table.specs.Types.{ValueType, ChannelType}
use Rattle.type_table.specs.Scopes.{Variable, Scope, nothing_declared, is_blank, variable_named, type_in}
use Rattle.meaning.specs.Values.{known}
use Rattle.codegen_base.specs.declared.element.Element.{Element}
use Rattle.codegen_base.specs.Program.{noting, noting_expression, noting_expressions}
use Rattle.codegen_base.proofs.Noted.{Noted, Grows, grows_no, grows_on, noted_grows, type_grows, type_noted}

hidden : (a b : Bool) (x : Option ValueType) (t : ValueType) → b ≡ false → (if a then None else x) ≡ Some t → (if b then None else x) ≡ Some t
hidden true b x t none e = absurd cc
hidden false true x t none e = absurd cc
hidden false false x t none e = e

mapped_some : {A B : Type 0} (h : A → B) (o p : Option A) (b : B) → ((a : A) → o ≡ Some a → p ≡ Some a) → option_map h o ≡ Some b → option_map h p ≡ Some b
mapped_some h None p b same e = absurd cc
mapped_some h (Some a) p b same e = ap (option_map h) (same a refl) ∙ e

nothing_named : (name : List ℕ) → is_some (variable_named nothing_declared name) ≡ false
nothing_named name = go (is_blank name) None refl where
  go : (t : Bool) (o : Option Variable) → o ≡ None → is_some (if t then None else o) ≡ false
  go true o e = refl
  go false o e = ap is_some e

-- a type that a scope has is the same without any variables
pub type_anywhere : (types : List (List ℕ)) (scope : Scope) (kind : TypeExpression) (t : ValueType) → type_in types scope kind ≡ Some t → type_in types nothing_declared kind ≡ Some t
type_anywhere types scope (NamedType name) t e = hidden (is_some (variable_named scope name)) (is_some (variable_named nothing_declared name)) _ t (nothing_named name) e
type_anywhere types scope (ParenthesizedType inner) t e = type_anywhere types scope inner t e
type_anywhere types scope (Channel direction element) t e = mapped_some (ChannelType direction) (type_in types scope element) (type_in types nothing_declared element) t (λ a h. type_anywhere types scope element a h) e

module _ (types : List (List ℕ)) (elements : List Element) where
  abbrev mutual
    pub ExpressionMakes : Expression → Type 0
    ExpressionMakes (Integer value) = Unit {0}
    ExpressionMakes (Named name) = Unit {0}
    ExpressionMakes (Parenthesized inner) = ExpressionMakes inner
    ExpressionMakes (Selection whole field) = ExpressionMakes whole
    ExpressionMakes (Composite name values trailing) = ExpressionsMake values
    ExpressionMakes (Unary operator operand) = ExpressionMakes operand
    ExpressionMakes (Binary operator left right) = ExpressionMakes left × ExpressionMakes right
    ExpressionMakes (Call function values trailing) = ExpressionsMake values
    ExpressionMakes (Receive channel) = ExpressionMakes channel
    ExpressionMakes (Make kind) = Noted elements (known (type_in types nothing_declared kind))
    ExpressionMakes (MakeSized kind size) = Noted elements (known (type_in types nothing_declared kind)) × ExpressionMakes size
    ExpressionMakes (Length channel) = ExpressionMakes channel
    ExpressionMakes (Capacity channel) = ExpressionMakes channel

    pub ExpressionsMake : Expressions → Type 0
    ExpressionsMake NoMore = Unit {0}
    ExpressionsMake (Following first rest) = ExpressionMakes first × ExpressionsMake rest

module _ (types : List (List ℕ)) where
  -- ---- what was noted stays so

  mutual
    pub makes_grows : (a b : List Element) → Grows a b → (e : Expression) → ExpressionMakes types a e → ExpressionMakes types b e
    makes_grows a b g (Integer value) m = tt
    makes_grows a b g (Named name) m = tt
    makes_grows a b g (Parenthesized inner) m = makes_grows a b g inner m
    makes_grows a b g (Selection whole field) m = makes_grows a b g whole m
    makes_grows a b g (Composite name values trailing) m = make_grow a b g values m
    makes_grows a b g (Unary operator operand) m = makes_grows a b g operand m
    makes_grows a b g (Binary operator left right) m = (makes_grows a b g left m.0, makes_grows a b g right m.1)
    makes_grows a b g (Call function values trailing) m = make_grow a b g values m
    makes_grows a b g (Receive channel) m = makes_grows a b g channel m
    makes_grows a b g (Make kind) m = noted_grows a b (known (type_in types nothing_declared kind)) g m
    makes_grows a b g (MakeSized kind size) m = (noted_grows a b (known (type_in types nothing_declared kind)) g m.0, makes_grows a b g size m.1)
    makes_grows a b g (Length channel) m = makes_grows a b g channel m
    makes_grows a b g (Capacity channel) m = makes_grows a b g channel m

    pub make_grow : (a b : List Element) → Grows a b → (es : Expressions) → ExpressionsMake types a es → ExpressionsMake types b es
    make_grow a b g NoMore m = tt
    make_grow a b g (Following first rest) m = (makes_grows a b g first m.0, make_grow a b g rest m.1)

  -- ---- noting an expression notes what it makes

  mutual
    pub expression_grows : (e : Expression) (all : List Element) → Grows all (noting_expression types e all)
    expression_grows (Integer value) all = grows_no all
    expression_grows (Named name) all = grows_no all
    expression_grows (Parenthesized inner) all = expression_grows inner all
    expression_grows (Selection whole field) all = expression_grows whole all
    expression_grows (Composite name values trailing) all = expressions_grow values all
    expression_grows (Unary operator operand) all = expression_grows operand all
    expression_grows (Binary operator left right) all =
        let one = noting_expression types left all in grows_on all one (noting_expression types right one) (expression_grows left all) (expression_grows right one)
    expression_grows (Call function values trailing) all = expressions_grow values all
    expression_grows (Receive channel) all = expression_grows channel all
    expression_grows (Make kind) all = type_grows all (known (type_in types nothing_declared kind))
    expression_grows (MakeSized kind size) all =
        let one = noting types kind all in grows_on all one (noting_expression types size one) (type_grows all (known (type_in types nothing_declared kind))) (expression_grows size one)
    expression_grows (Length channel) all = expression_grows channel all
    expression_grows (Capacity channel) all = expression_grows channel all

    pub expressions_grow : (es : Expressions) (all : List Element) → Grows all (noting_expressions types es all)
    expressions_grow NoMore all = grows_no all
    expressions_grow (Following first rest) all =
        let one = noting_expression types first all in grows_on all one (noting_expressions types rest one) (expression_grows first all) (expressions_grow rest one)

  mutual
    pub expression_makes : (e : Expression) (all : List Element) → ExpressionMakes types (noting_expression types e all) e
    expression_makes (Integer value) all = tt
    expression_makes (Named name) all = tt
    expression_makes (Parenthesized inner) all = expression_makes inner all
    expression_makes (Selection whole field) all = expression_makes whole all
    expression_makes (Composite name values trailing) all = expressions_make values all
    expression_makes (Unary operator operand) all = expression_makes operand all
    expression_makes (Binary operator left right) all =
        let one = noting_expression types left all in
        (makes_grows one (noting_expression types right one) (expression_grows right one) left (expression_makes left all), expression_makes right one)
    expression_makes (Call function values trailing) all = expressions_make values all
    expression_makes (Receive channel) all = expression_makes channel all
    expression_makes (Make kind) all = type_noted all (known (type_in types nothing_declared kind))
    expression_makes (MakeSized kind size) all =
        let made = known (type_in types nothing_declared kind) in
        let one = noting types kind all in
        (noted_grows one (noting_expression types size one) made (expression_grows size one) (type_noted all made), expression_makes size one)
    expression_makes (Length channel) all = expression_makes channel all
    expression_makes (Capacity channel) all = expression_makes channel all

    pub expressions_make : (es : Expressions) (all : List Element) → ExpressionsMake types (noting_expressions types es all) es
    expressions_make NoMore all = tt
    expressions_make (Following first rest) all =
        let one = noting_expression types first all in
        (makes_grows one (noting_expressions types rest one) (expressions_grow rest one) first (expression_makes first all), expressions_make rest one)
