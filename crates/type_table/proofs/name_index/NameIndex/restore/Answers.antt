use Rattle.std.proofs.Common.{rules, ◌≡◌, ◌∙◌, Some, None}
use Rattle.std.proofs.lemmas.Map.Text.{hash_map_updates_str}
use Rattle.type_table.specs.Indexes.{number_in}
use Rattle.type_table.proofs.name_index.NameIndex.restore.Goals as goal

pub returns-in-None : goal.returns-in-None
returns-in-None c = rw c.in-None.is (hash_map_updates_str c.args.name.now c.args.self.now.numbers c.remove.new.self _ c.remove.ensures.updates)

pub returns-in-Some-get_mut : goal.returns-in-Some-get_mut
returns-in-Some-get_mut c = rw c.in-Some.is (hash_map_updates_str c.args.name.now c.args.self.now.numbers (c.get_mut.follows.lender c.in-Some.number) _ ((c.get_mut.follows.holds c.in-Some.number).3 (search rules)))

pub returns-in_default : goal.returns-in_default
returns-in_default c =
    let found : None ≡ number_in c.args.self.now c.args.name.now = rw c.in_default.is at c.get_mut.ensures.value in
    let known : None ≡ Some c.requires.known.0 = found ∙ c.requires.known.1 in
    absurd cc
