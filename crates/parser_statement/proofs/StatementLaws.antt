-- Statements: what is spelt is read, and what is read is spelt so.
pub use Rattle.parser_statement.proofs.LeafLaws.{Ends}
pub use Rattle.parser_statement.proofs.StatementAgain.{statements, statement_again, statements_separate}
pub use Rattle.parser_statement.proofs.StatementSound.{statement_sound, statements_sound}
