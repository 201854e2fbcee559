use Rattle.parser.proofs.FileLaws.{one_file}
use Rattle.parser.proofs.parser.one_tree.Goals as goal

pub returns : goal.returns
returns c = one_file
