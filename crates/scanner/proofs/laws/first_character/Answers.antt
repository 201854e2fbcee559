use Rattle.scanner.proofs.Characters.{front_encode}
use Rattle.scanner.proofs.laws.first_character.Goals as goal

pub returns : goal.returns
returns c = front_encode
