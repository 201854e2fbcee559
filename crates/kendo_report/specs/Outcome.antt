use Rattle.std.specs.Prelude.{ℕ, List, [], ◌++◌, Option, Some, None, Result, Ok, Err, codes, decimal}
use Rattle.go_text.specs.declared.place.Position.{Position}
use Rattle.go_text.specs.declared.rule.Rule.{Rule}
use Rattle.go_text.specs.declared.rule.Rule.TheVariants.{Main, Declared, Visible, Struct, Operands, Constant, Assignable, Numbers, NewName, Assigned, Direction, Channel, Nil, Condition, Returned, Terminating, Branch, Called, Made, OneDefault}
use Rattle.go_text.specs.declared.rule.LimitKind.{LimitKind}
use Rattle.go_text.specs.declared.rule.LimitKind.TheVariants.{ConstantSize, StructWidth, SelectClauses, ListEntries, FunctionWords, Declarations}
use Rattle.go_text.specs.Titles.{fault_title}
use Rattle.go_text.specs.declared.fault.Fault.{Fault}
use Rattle.go_text.specs.declared.fault.Fault.TheVariants as fault
use Rattle.word.specs.declared.panic.Panic.{Panic}
use Rattle.word.specs.declared.panic.Panic.TheVariants as panics
use Rattle.word.specs.declared.end.End.{End}
use Rattle.word.specs.declared.end.End.TheVariants.{Finished, Panicked, Deadlock, Exhausted}

-- the number of a typing rule
abbrev pub rule_number : Rule → ℕ
rule_number Main = 1
rule_number Declared = 2
rule_number Visible = 3
rule_number Struct = 4
rule_number Operands = 5
rule_number Constant = 6
rule_number Assignable = 7
rule_number Numbers = 8
rule_number NewName = 9
rule_number Assigned = 10
rule_number Direction = 11
rule_number Channel = 12
rule_number Nil = 13
rule_number Condition = 14
rule_number Returned = 15
rule_number Terminating = 16
rule_number Branch = 17
rule_number Called = 18
rule_number Made = 19
rule_number OneDefault = 20

-- the number of a limit
abbrev pub limit_number : LimitKind → ℕ
limit_number ConstantSize = 1
limit_number StructWidth = 2
limit_number SelectClauses = 3
limit_number ListEntries = 4
limit_number FunctionWords = 5
limit_number Declarations = 6

-- ` at LINE:COLUMN`, or nothing if they are not known
abbrev pub position_text : Option Position → List ℕ
position_text None = []
position_text (Some p) = codes " at " ++ decimal p.line ++ codes ":" ++ decimal p.column

-- what follows the title of a fault: its details, and its location
abbrev pub fault_details : Fault → List ℕ
fault_details (fault.BadCharacter place) = position_text place.position
fault_details (fault.BadNumber place) = position_text place.position
fault_details (fault.OpenString place) = position_text place.position
fault_details (fault.OpenComment place) = position_text place.position
fault_details (fault.Syntax place) = position_text place.position
fault_details (fault.TooDeep place) = position_text place.position
fault_details (fault.Typing rule _ place) = codes " " ++ decimal (rule_number rule) ++ position_text place.position
fault_details (fault.Limit kind _ place) = codes " " ++ decimal (limit_number kind) ++ position_text place.position
fault_details (fault.Unverified rule function place) =
    codes " " ++ (decimal rule ++ (codes " in function " ++ (decimal function ++ (codes " at " ++ decimal place))))
fault_details _ = []

-- a fault by its number and its name, and its location
abbrev pub fault_text : Fault → List ℕ
fault_text refusal = fault_title refusal ++ fault_details refusal

-- the number of a panic
abbrev pub panic_number : Panic → ℕ
panic_number panics.DivideByZero = 1
panic_number panics.SendOnClosed = 2
panic_number panics.CloseOfClosed = 3
panic_number panics.CloseOfNil = 4
panic_number panics.NegativeShift = 5
panic_number panics.ChannelSize = 6
panic_number panics.CallDepth = 7
panic_number panics.TooManyGoroutines = 8
panic_number panics.TooManyChannels = 9

-- what a panic says
abbrev pub panic_text : Panic → List ℕ
panic_text panics.DivideByZero = codes "divide by zero"
panic_text panics.SendOnClosed = codes "send on closed channel"
panic_text panics.CloseOfClosed = codes "close of closed channel"
panic_text panics.CloseOfNil = codes "close of nil channel"
panic_text panics.NegativeShift = codes "negative shift"
panic_text panics.ChannelSize = codes "channel size"
panic_text panics.CallDepth = codes "call depth"
panic_text panics.TooManyGoroutines = codes "too many goroutines"
panic_text panics.TooManyChannels = codes "too many channels"

-- the line on standard error, with its newline: none after a run that finished
abbrev pub report_line : Result End Fault → List ℕ
report_line (Ok Finished) = []
report_line (Ok (Panicked cause)) =
    codes "kendo: panic P" ++ (decimal (panic_number cause) ++ (codes " " ++ (panic_text cause ++ codes "\n")))
report_line (Ok Deadlock) = codes "kendo: deadlock\n"
report_line (Ok Exhausted) = codes "kendo: logical time exhausted\n"
report_line (Err fault) = codes "kendo: " ++ fault_text fault ++ codes "\n"

-- the exit status of a fault
abbrev pub fault_status : Fault → ℕ
fault_status fault.Memory = 5
fault_status fault.Write = 6
fault_status fault.NotYours = 7
fault_status fault.BadWorkers = 64
fault_status fault.BadLimit = 64
fault_status _ = 1

-- the exit status
abbrev pub report_status : Result End Fault → ℕ
report_status (Ok Finished) = 0
report_status (Ok (Panicked _)) = 2
report_status (Ok Deadlock) = 3
report_status (Ok Exhausted) = 4
report_status (Err fault) = fault_status fault
