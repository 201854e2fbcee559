use Rattle.std.specs.Str.Parse.{ParsesUnsigned, ExplainsUnsignedError, HasUnsignedDigitsIfOk}
use Rattle.clap.specs.Words.{found_of}
use Rattle.clap.proofs.WalkLemmas.{one_text-rows}
use Rattle.command_line.proofs.CommandLine.{number_read}
use Rattle.command_line.proofs.arguments.option_number.Goals as goal

pub returns : goal.returns
returns c =
    number_read (λ u r. ParsesUnsigned 64 10 u r × ExplainsUnsignedError 10 u r × HasUnsignedDigitsIfOk u r) _ _ (one_text-rows (found_of c.args.matches.now) c.args.name.now) c.get_one.result c.get_one.ensures.none c.get_one.ensures.value (λ t r given. given.0)
