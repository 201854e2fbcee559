-- What a select does, by the clause that is chosen.
use Rattle.std.specs.Prelude.{◌≡◌, ◌<◌, ℕ, suc, Bool, true, false, List, Option, Some, None, length}
use Rattle.std.specs.Option.{is_some}
use Rattle.word.specs.declared.request.Case.{Case}
use Rattle.word.specs.Values.{Request, Select}
use Rattle.channel_core.specs.Channels.{clause_at}
use Rattle.select_core.specs.declared.choice.Choice.{Choice}
use Rattle.select_core.specs.declared.choice.Choice.TheVariants as choices

-- there is a clause at this index, and it is not on nil
abbrev pub IsOpenAt : ℕ → List Case → Type 0
IsOpenAt i cases = (i < length cases) × (is_some (clause_at cases i).chan ≡ true)

-- the clause that is chosen, if one is, is a clause of this select, and not on nil
abbrev pub IsThere : Choice → List Case → Type 0
IsThere (choices.Case i) cases = IsOpenAt i cases
IsThere choices.Default cases = Unit {0}
IsThere choices.Sleep cases = Unit {0}

-- this is chosen if this clause is, of a select with or without a default clause
abbrev pub Chooses : Choice → List Case → Bool → Option (ℕ × Case) → Type 0
Chooses (choices.Case i) cases default found = found ≡ Some (suc i, clause_at cases i)
Chooses choices.Default cases default found = (found ≡ None) × (default ≡ true)
Chooses choices.Sleep cases default found = (found ≡ None) × (default ≡ false)

-- a select
abbrev pub IsSelect : Request → Type 0
IsSelect (Select cases default) = Unit {0}
IsSelect q = ⊥
