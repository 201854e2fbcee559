use Rattle.codegen_header.proofs.range.emit_kept.Goals as goal

pub returns-clause-item : goal.returns-clause-item
returns-clause-item c = c.carried-item.ensures c.args.context.now.elements.now
