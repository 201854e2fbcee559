-- A select of which only some clauses can be done: the others are on the nil channel, so that each keeps its number.
use Rattle.std.specs.Prelude.{ℕ, zero, suc, ◌+◌, ◌==◌, Bool, true, false, ◌&&◌, ◌||◌, not, cond, List, [], ◌∷◌, Option, Some, None, slice_get}
use Rattle.std.specs.Option.{is_some}
use Rattle.word.specs.declared.request.Case.{Case}
use Rattle.pauses.specs.declared.select.Mask.{Mask}
use Rattle.pauses.specs.declared.select.Mask.TheVariants.{Alone, Thinned}

abbrev pub off : Case → Case
off x = record x { chan = None }

abbrev pub is_same_channel : Option ℕ → Option ℕ → Bool
is_same_channel (Some c) (Some d) = c == d
is_same_channel _ _ = false

abbrev pub is_same_direction : Bool → Bool → Bool
is_same_direction true sends = sends
is_same_direction false sends = not sends

-- the clause of this number stays; thinned, so do all that aren't on the same channel in the same direction
abbrev pub keeps : Mask → (number : ℕ) → Case → Bool
keeps (Alone clause) number x = number == clause
keeps (Thinned clause chan sends) number x = (number == clause) || not (is_same_channel x.chan chan && is_same_direction (is_some x.item) sends)

-- the clauses, of which the first has this number
abbrev pub masked_from : Mask → (number : ℕ) → List Case → List Case
masked_from m number [] = []
masked_from m number (x ∷ xs) = cond (keeps m number x) x (off x) ∷ masked_from m (number + 1) xs

-- clause number `clause`, and no other
abbrev pub alone : (clause : ℕ) → List Case → List Case
alone clause cases = masked_from (Alone clause) 1 cases

abbrev pub case_at : (clause : ℕ) → List Case → Option Case
case_at zero cases = None
case_at (suc k) cases = slice_get cases k

abbrev pub thinned_by : (clause : ℕ) → Option Case → List Case → List Case
thinned_by clause None cases = cases
thinned_by clause (Some x) cases = masked_from (Thinned clause x.chan (is_some x.item)) 1 cases

-- clause number `clause`, and all but those that are on its channel in its direction
abbrev pub thinned : (clause : ℕ) → List Case → List Case
thinned clause cases = thinned_by clause (case_at clause cases) cases
