use Rattle.std.proofs.Common.{rules, ◌≡◌, ◌∙◌, ap, refl, Some, None}
use Rattle.verifier.specs.Tables.{kinds_at, entry}
use Rattle.verifier.proofs.Entries.{entry_read}
use Rattle.verifier.proofs.paths.enter_kinds.Goals as goal

pub returns-clause-merged : goal.returns-clause-merged
returns-clause-merged c =
    let e : entry c.args.table.now.items c.args.to ≡ None = entry_read c.args.table.now.items c.args.to _ (search rules) c.index.ensures ∙ ap (λ o. kinds_at (Some o)) c.in_default.is in
    (e, (c.args.kinds, refl, refl))
