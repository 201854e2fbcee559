use Rattle.std.proofs.Common.{◌*◌, ◌++◌, codes, decimal, take}
use Rattle.std.specs.List.{flat_map}
use Rattle.tracer.specs.Room.{AppendsWithin}
use Rattle.tracer.proofs.form.push_numbers.Given as goal

abbrev pub invariant-loop-number : goal.invariant-loop-number
invariant-loop-number l =
    AppendsWithin l.initial.lines l.lines (21 * l.number-index) (flat_map (λ number. codes " " ++ decimal number) (take l.number-index l.numbers))
