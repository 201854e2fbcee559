use Rattle.std.proofs.Common.{rules, ◌≡◌, length, ap, sym, ◌∙◌}
use Rattle.std.specs.Option.{is_some}
use Rattle.type_table.specs.Indexes.{number_in}
use Rattle.type_table.proofs.Names.{list_again, list_new}
use Rattle.type_table.proofs.name_list.NameList.push.Goals as goal

pub invariant_of-self-inside-then-is_some : goal.invariant_of-self-inside-then-is_some
invariant_of-self-inside-then-is_some c = (
  list_again c.self.inside.names.items c.push.new.self.items c.args.name (number_in c.self.inside.first) c.in_ok-push.ensures.items c.self.inside.found
      (rw c.as_slice-bytes.ensures.value at (ap is_some (sym c.number_of.ensures) ∙ sym c.is_some.ensures ∙ c.if-is_some.true)),
  tt,
)

pub invariant_of-self-inside-in-Ok : goal.invariant_of-self-inside-in-Ok
invariant_of-self-inside-in-Ok c =
    let count : c.len-number.result ≡ length c.self.inside.names.items = search rules in (
      list_new c.self.inside.names.items c.push.new.self.items c.args.name (number_in c.self.inside.first) (number_in c.set.new.self) c.in_ok-push.ensures.items c.self.inside.found
          (rw c.as_slice-bytes.ensures.value at (ap is_some (sym c.number_of.ensures) ∙ sym c.is_some.ensures ∙ c.if-is_some.false))
          (rw (c.as_slice-bytes.ensures.value, count) at c.in-Ok.ensures.set),
      tt,
    )
