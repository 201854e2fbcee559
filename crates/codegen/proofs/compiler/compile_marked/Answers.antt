use Rattle.syntax.specs.Spans.{tree_of}
use Rattle.checker.specs.Trees.{tree_in}
use Rattle.codegen.proofs.Compiled.{compiled_equal, compiled_verified}
use Rattle.codegen.proofs.Naming.{compiled_named}
use Rattle.codegen.proofs.compiler.compile_marked.Goals as goal

pub returns-in-Ok-clause-equal : goal.returns-in-Ok-clause-equal
returns-in-Ok-clause-equal c = compiled_equal (tree_of (tree_in c.args.typed.now)) c.in-Ok.made.0 (tree_in c.args.typed.now).grammatical c.in-Ok.ensures.typed c.in-Ok.ensures.code

pub returns-in-Ok-clause-verified : goal.returns-in-Ok-clause-verified
returns-in-Ok-clause-verified c = compiled_verified (tree_of (tree_in c.args.typed.now)) c.in-Ok.made.0 (tree_in c.args.typed.now).grammatical (tree_in c.args.typed.now).limited c.in-Ok.ensures.typed c.in-Ok.ensures.code

pub returns-in-Ok-clause-named : goal.returns-in-Ok-clause-named
returns-in-Ok-clause-named c = compiled_named (tree_of (tree_in c.args.typed.now)) c.in-Ok.made.0 c.in-Ok.ensures.code
