-- What calls and requests gave, in memory, and what is known if evaluating comes to a value or stops.
use Rattle.std.specs.Prelude.{◌≡◌, List, map}
use Rattle.word.specs.Views.{request_of, reply_of}
use Rattle.meaning.specs.Worked.{Given as OneGiven, Told, Yielded, Need as OneNeed, Asking, Calling, Worked, Came, Fails, Needs}
use Rattle.reference_scope.specs.Parts.{values_of}
use Rattle.reference_value.specs.declared.fault.Stop.{Stop}
use Rattle.reference_value.specs.declared.fault.Stop.TheVariants as stops
use Rattle.reference_value.specs.declared.given.Given.{Given}
use Rattle.reference_value.specs.declared.given.Given.TheVariants as givens
use Rattle.reference_value.specs.declared.given.Need.{Need}
use Rattle.reference_value.specs.declared.given.Need.TheVariants as needs

abbrev pub given_of : Given → OneGiven
given_of (givens.Told reply) = Told (reply_of reply)
given_of (givens.Yielded words) = Yielded words.items

abbrev pub all_given : List Given → List OneGiven
all_given all = map given_of all

abbrev pub need_of : Need → OneNeed
need_of (needs.Asking request) = Asking (request_of request)
need_of (needs.Calling function arguments) = Calling function (values_of arguments.items)

-- with what was given one comes to this, and this is left
abbrev pub Comes : {A : Type 0} → Worked A → List Given → A → List Given → Type 0
Comes worked given a left = worked (all_given given) ≡ Came a (all_given left)

-- a panic is the one that is met first, and a need is the next one; out of memory says nothing
abbrev pub Stops : {A : Type 0} → Worked A → List Given → Stop → Type 0
Stops worked given stops.Memory = Unit {0}
Stops worked given (stops.Panics cause) = worked (all_given given) ≡ Fails cause
Stops worked given (stops.Needs need) = worked (all_given given) ≡ Needs (need_of need.value)

-- what meets no panic and needs nothing stops for being out of memory alone
abbrev pub IsMemory : Stop → Type 0
IsMemory stops.Memory = Unit {0}
IsMemory (stops.Panics cause) = ⊥
IsMemory (stops.Needs need) = ⊥
