use Rattle.scanner.proofs.Characters.{is_name-encodes}
use Rattle.scanner.proofs.laws.characters_of_names.Goals as goal

pub returns : goal.returns
returns c = is_name-encodes
