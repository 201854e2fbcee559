use Rattle.codegen_simple.proofs.assignment.+store_words.Given as goal

abbrev pub decreases-store_words : goal.decreases-store_words
decreases-store_words l = l.words
