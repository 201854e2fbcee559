use Rattle.std.proofs.Common.{rules, ◌≡◌, length, ◌∙◌}
use Rattle.type_table.specs.Indexes.{number_in}
use Rattle.type_table.proofs.Names.{finds_more, hides_more}
use Rattle.type_table.proofs.scope.put.Goals as goal

pub invariant_of-visible-in-Ok : goal.invariant_of-visible-in-Ok
invariant_of-visible-in-Ok c =
    let old = c.args.visible.now in
    let count : c.len-count.result ≡ length old.entries.items = search rules in
    record {
      found = finds_more old.entries.items c.push.new.self.items _ (number_in old.last) (number_in c.set.new.self) c.in-Ok.ensures.items old.found (rw (c.as_slice-bytes.ensures.value, count) at c.in_ok-set.ensures.set);
      hidden = hides_more old.entries.items c.push.new.self.items _ c.in-Ok.ensures.items old.hidden (rw c.as_slice-bytes.ensures.value at (c.number_of-hides.ensures ∙ old.found c.as_slice-bytes.result.now));
    }
