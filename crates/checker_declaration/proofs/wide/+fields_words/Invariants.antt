use Rattle.std.proofs.Common.{length}
use Rattle.checker_declaration.proofs.wide.+fields_words.Given as goal

abbrev pub decreases-fields_words : goal.decreases-fields_words
decreases-fields_words l = length l.fields.now
