-- The source of a file as a kind of goroutine, in parts.
use Rattle.syntax.specs.Tree.{File}
use Rattle.word.specs.Related.{Parts}
use Rattle.meaning.specs.Source.{source_kind}
use Rattle.meaning.specs.Tasks.{Frames}

abbrev pub source_parts : File → Parts Frames
source_parts file = record {
  next = (source_kind file).next;
  answer = (source_kind file).answer;
  begin = (source_kind file).begin;
  main = (source_kind file).main;
}
