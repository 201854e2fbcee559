-- Where faults lie.
use Rattle.std.specs.Prelude.{Option, Some, None}
use Rattle.go_text.specs.declared.fault.Fault.{Fault}
use Rattle.go_text.specs.declared.fault.Fault.TheVariants as fault
use Rattle.go_text.specs.declared.place.Place.{Place}

-- the location of a fault, if it has one
abbrev pub place_of : Fault → Option Place
place_of (fault.BadCharacter place) = Some place
place_of (fault.BadNumber place) = Some place
place_of (fault.OpenString place) = Some place
place_of (fault.OpenComment place) = Some place
place_of (fault.Syntax place) = Some place
place_of (fault.TooDeep place) = Some place
place_of (fault.Typing rule _ place) = Some place
place_of (fault.Limit kind _ place) = Some place
place_of (fault.Unverified _ _ _) = None
place_of fault.TooLong = None
place_of fault.NotUtf8 = None
place_of fault.NotYours = None
place_of fault.Memory = None
place_of fault.Write = None
place_of fault.BadWorkers = None
place_of fault.BadLimit = None
