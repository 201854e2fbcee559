use Rattle.std.proofs.Common.{◌≡◌, ◌∷◌, ◌++◌, [], length}
use Rattle.type_table.specs.Indexes.{number_in, entry_names}
use Rattle.type_table.proofs.Names.{finds_last, finds_less, hides_less}
use Rattle.type_table.proofs.scope.forget_last.Goals as goal

pub restore-requires : goal.restore-requires
restore-requires c =
    let old = c.args.visible.now in
    let all : old.entries.items ≡ c.pop.new.self.items ++ c.in-Some.entry ∷ [] = rw c.in-Some.is at c.pop.ensures.items in
    record { known = (length (entry_names c.pop.new.self.items), rw c.as_slice.ensures.value (finds_last c.pop.new.self.items old.entries.items c.in-Some.entry (number_in old.last) all old.found)) }

pub invariant_of-visible : goal.invariant_of-visible
invariant_of-visible c =
    let old = c.args.visible.now in
    let all : old.entries.items ≡ c.pop.new.self.items ++ c.in-Some.entry ∷ [] = rw c.in-Some.is at c.pop.ensures.items in
    record {
      found = finds_less c.pop.new.self.items old.entries.items c.in-Some.entry (number_in old.last) (number_in c.restore.new.self) all old.found old.hidden (rw c.as_slice.ensures.value at c.restore.ensures);
      hidden = hides_less c.pop.new.self.items old.entries.items c.in-Some.entry all old.hidden;
    }
