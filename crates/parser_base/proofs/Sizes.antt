-- An expression has no more nodes than lexemes.
use Rattle.std.proofs.Common.{◌≤◌, [], ◌∷◌, ◌++◌, length, arith, length-append}
use Rattle.scanner.specs.declared.kind.TokenKind.TheVariants as kinds
use Rattle.syntax.specs.Tree.{Expression, Integer, Named, Parenthesized, Selection, Composite, Unary, Binary, Call, Receive, Make, MakeSized, Length, Capacity, Expressions, NoMore, Following}
use Rattle.syntax.specs.Measures.{expression_size, expressions_size}
use Rattle.parser_base.specs.Lexemes.{Name, Mark}
use Rattle.parser_base.specs.Spelling.{type_words, expression_words, expressions_words, more_words, binary_kind, closing}
use Rattle.parser_base.proofs.TypeLaws.{type_size-le}

mutual
  pub expression_size-le : (t : Expression) → expression_size t ≤ length (expression_words t)
  expression_size-le (Integer value) = omega arith
  expression_size-le (Named name) = omega arith
  expression_size-le (Parenthesized inner) = omega (arith, expression_size-le inner, length-append (expression_words inner) (Mark kinds.RightParenthesis ∷ []))
  expression_size-le (Selection whole field) = omega (arith, expression_size-le whole, length-append (expression_words whole) (Mark kinds.Period ∷ Name field ∷ []))
  expression_size-le (Composite name vs trailing) = omega (arith, expressions_size-le vs, length-append (expressions_words vs) (closing kinds.Comma kinds.RightBrace trailing []))
  expression_size-le (Unary o operand) = omega (arith, expression_size-le operand)
  expression_size-le (Binary o l r) = omega (arith, expression_size-le l, expression_size-le r, length-append (expression_words l) (Mark (binary_kind o) ∷ expression_words r))
  expression_size-le (Call function vs trailing) = omega (arith, expressions_size-le vs, length-append (expressions_words vs) (closing kinds.Comma kinds.RightParenthesis trailing []))
  expression_size-le (Receive channel) = omega (arith, expression_size-le channel)
  expression_size-le (Make channel) = omega (arith, type_size-le channel, length-append (type_words channel) (Mark kinds.RightParenthesis ∷ []))
  expression_size-le (MakeSized channel size) =
      omega (
        arith,
        type_size-le channel,
        expression_size-le size,
        length-append (type_words channel) (Mark kinds.Comma ∷ expression_words size),
        length-append (type_words channel ++ (Mark kinds.Comma ∷ expression_words size)) (Mark kinds.RightParenthesis ∷ []),
      )
  expression_size-le (Length channel) = omega (arith, expression_size-le channel, length-append (expression_words channel) (Mark kinds.RightParenthesis ∷ []))
  expression_size-le (Capacity channel) = omega (arith, expression_size-le channel, length-append (expression_words channel) (Mark kinds.RightParenthesis ∷ []))

  pub expressions_size-le : (vs : Expressions) → expressions_size vs ≤ length (expressions_words vs)
  expressions_size-le NoMore = omega arith
  expressions_size-le (Following v vs) = omega (arith, expression_size-le v, more_size-le vs, length-append (expression_words v) (more_words vs))

  more_size-le : (vs : Expressions) → expressions_size vs ≤ length (more_words vs)
  more_size-le NoMore = omega arith
  more_size-le (Following v vs) = omega (arith, expression_size-le v, more_size-le vs, length-append (expression_words v) (more_words vs))
