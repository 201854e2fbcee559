use Rattle.std.proofs.lemmas.Map.Text.{hash_map_updates_str}
use Rattle.type_table.proofs.name_index.NameIndex.set.Goals as goal

pub returns-clause-set : goal.returns-clause-set
returns-clause-set c = hash_map_updates_str c.args.name.now c.args.self.now.numbers c.insert.new.self _ c.in_ok-insert.ensures.updates
