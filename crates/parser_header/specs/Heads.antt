-- What comes after `if` or `for`.
use Rattle.syntax.specs.View.{expression_of, simple_of}
use Rattle.parser_header.specs.declared.header.HeadNode.{HeadNode}
use Rattle.parser_header.specs.declared.header.HeadNode.TheVariants as heads
use Rattle.parser_header.specs.Reading.{Head, HeadSimple, HeadCondition}

abbrev pub head_of : HeadNode → Head
head_of (heads.Simple simple) = HeadSimple (simple_of simple)
head_of (heads.Condition condition) = HeadCondition (expression_of condition)
