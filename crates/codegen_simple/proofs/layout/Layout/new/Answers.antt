use Rattle.codegen_simple.proofs.layout.Layout.new.Goals as goal

pub returns : goal.returns
returns c = λ table. cc (c.new.ensures.scope table, c.new-2.ensures.items)
