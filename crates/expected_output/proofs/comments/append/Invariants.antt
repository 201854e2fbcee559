use Rattle.std.proofs.Common.{◌≡◌, ◌++◌, ◌∷◌, ℕ, List, [], take, string_bytes}
use Rattle.std.specs.List.{flat_map}
use Rattle.std.specs.Str.{trim_end}
use Rattle.expected_output.proofs.comments.append.Given as goal
use denote.Ref.{Bor}

abbrev pub invariant-loop-line : goal.invariant-loop-line
invariant-loop-line l =
    string_bytes l.group ≡ string_bytes l.initial.group ++ flat_map (λ (line : Bor (List ℕ)). trim_end line.now ++ 10 ∷ []) (take l.line-index l.line-items)
