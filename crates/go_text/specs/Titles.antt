use Rattle.std.specs.Prelude.{ℕ, List, codes}
use Rattle.go_text.specs.declared.fault.Fault.{Fault}
use Rattle.go_text.specs.declared.fault.Fault.TheVariants as fault

-- the number and the name of a fault
abbrev pub fault_title : Fault → List ℕ
fault_title fault.TooLong = codes "1 TooLong"
fault_title fault.NotUtf8 = codes "2 NotUtf8"
fault_title (fault.BadCharacter _) = codes "3 BadCharacter"
fault_title (fault.BadNumber _) = codes "4 BadNumber"
fault_title (fault.OpenString _) = codes "5 OpenString"
fault_title (fault.OpenComment _) = codes "6 OpenComment"
fault_title (fault.Syntax _) = codes "7 Syntax"
fault_title (fault.TooDeep _) = codes "8 TooDeep"
fault_title (fault.Typing _ _ _) = codes "9 Type rule"
fault_title (fault.Limit _ _ _) = codes "10 Limit kind"
fault_title (fault.Unverified _ _ _) = codes "11 Unverified rule"
fault_title fault.NotYours = codes "12 NotYours"
fault_title fault.Memory = codes "13 Memory"
fault_title fault.Write = codes "14 Write"
fault_title fault.BadWorkers = codes "15 BadWorkers"
fault_title fault.BadLimit = codes "16 BadLimit"
