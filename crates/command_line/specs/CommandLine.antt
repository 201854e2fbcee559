-- The command line: the accepted commands, and what the words of one request.
use Rattle.std.specs.Prelude.{◌≡◌, ◌↔◌, ◌⊎◌, Bool, IsTrue, ℕ, ◌<◌, ◌-◌, ◌^◌, List, [], ◌∷◌, Option, Some, None, option_map, false, true, codes}
use Rattle.std.specs.Option.{is_some}
use Rattle.std.specs.Str.Parse.{IsNumeral, digits_value, without_leading_plus}
use Rattle.std.specs.Prelude.{map}
use Rattle.clap.specs.Lexer.{usize_max}
use Rattle.clap.specs.Words.{App, Row, Rule, Text, all_of, first_of, new_app, new_rule, one_of, rule_of, with_rule, with_subcommand}
use Rattle.clap.specs.declared.builder.action.ArgAction.TheVariants.{Append, Set, SetTrue}
use Rattle.clap.specs.declared.builder.arg.Arg.{Arg}
use Rattle.clap.specs.declared.builder.command.Command.{Command}
use Rattle.clap.specs.declared.builder.command.Command.TheViews.{out-Command}
use Rattle.clap.specs.declared.builder.value_parser.ValueParser.TheVariants.{Unsigned}
use Rattle.command_line.specs.declared.arguments.Argument.{Argument}
use Rattle.command_line.specs.declared.arguments.Argument.TheVariants as arguments
use Rattle.command_line.specs.declared.arguments.TextCommand.{TextCommand}
use Rattle.command_line.specs.declared.arguments.Subcommand.{Subcommand}
use Rattle.command_line.specs.declared.arguments.Subcommand.TheVariants as subcommands
use Rattle.command_line.specs.declared.arguments.Invocation.{Invocation}

-- ---- the commands that are taken

-- FILE, which has to be there
abbrev pub file : Rule
file = record (new_rule (codes "FILE")) { required = true; action = Some Set }

-- FILE.., of which one has to be there
abbrev pub files : Rule
files = record (new_rule (codes "FILE")) {
  required = true;
  action = Some Append;
  range = Some (record { start_inclusive = 1; end_inclusive = usize_max });
}

-- an option of this name with one number of 64 bits, and its value if it is left out
abbrev pub number : (name default : Text) → Rule
number name default = record (new_rule name) {
  long = Some name;
  value_names = 1;
  parser = Some (Unsigned 0 (2 ^ 64 - 1));
  defaults = default ∷ [];
}

-- an option of this name with one number of 64 bits, which may be left out
abbrev pub whole : (name : Text) → Rule
whole name = record (new_rule name) {
  long = Some name;
  value_names = 1;
  parser = Some (Unsigned 0 (2 ^ 64 - 1));
}

-- an option of this name without a value
abbrev pub flag : (name : Text) → Rule
flag name = record (new_rule name) { long = Some name; action = Some SetTrue }

-- whether errors and ends are explained
abbrev pub explain : Rule
explain = flag (codes "explain")

-- whether what is found is reported as JSON
abbrev pub json : Rule
json = flag (codes "json")

-- kendo check FILE.. [--json] [--explain]
abbrev pub check : App
check = with_rule (with_rule (with_rule (new_app (codes "check")) files) json) explain

-- kendo list FILE [--explain]
abbrev pub list : App
list = with_rule (with_rule (new_app (codes "list")) file) explain

-- how many workers there are, and the last logical time
abbrev pub workers : Rule
workers = number (codes "workers") (codes "4")

abbrev pub limit : Rule
limit = number (codes "limit") (codes "1099511627776")

-- which file the trace goes to
abbrev pub trace : Rule
trace = record (new_rule (codes "trace")) { long = Some (codes "trace"); value_names = 1 }

-- which file the plan of pauses is in
abbrev pub pauses : Rule
pauses = record (new_rule (codes "pauses")) { long = Some (codes "pauses"); value_names = 1 }

-- kendo reference FILE [--limit L] [--pauses PLAN]
abbrev pub plain_reference : App
plain_reference = with_rule (with_rule (with_rule (new_app (codes "reference")) file) limit) pauses

-- kendo reference FILE [--limit L] [--pauses PLAN] [--explain]
abbrev pub reference : App
reference = with_rule plain_reference explain

-- which file the values of the trace go to
abbrev pub values : Rule
values = record (new_rule (codes "values")) { long = Some (codes "values"); value_names = 1 }

-- kendo run FILE [--workers N] [--limit L] [--trace TRACE] [--values VALUES]
abbrev pub traced_run : App
traced_run = with_rule (with_rule (with_rule (with_rule (with_rule (new_app (codes "run")) file) workers) limit) trace) values

-- kendo run FILE [--workers N] [--limit L] [--trace TRACE] [--values VALUES] [--pauses PLAN]
abbrev pub plain_run : App
plain_run = with_rule traced_run pauses

-- which file the trace is in that a run is compared with
abbrev pub against : Rule
against = record (new_rule (codes "against")) { long = Some (codes "against"); value_names = 1 }

-- kendo run FILE [--workers N] [--limit L] [--trace TRACE] [--values VALUES] [--pauses PLAN] [--against TRACE] [--strict] [--explain]
abbrev pub run : App
run = with_rule (with_rule (with_rule plain_run against) (flag (codes "strict"))) explain

-- which file a picture goes to
abbrev pub out : Rule
out = record (new_rule (codes "out")) { long = Some (codes "out"); value_names = 1 }

-- the first event that a picture shows, and how many of the last ones it shows
abbrev pub from : Rule
from = whole (codes "from")

abbrev pub last : Rule
last = whole (codes "last")

-- kendo timeline FILE [--limit L] [--from EVENT] [--last N]
abbrev pub chosen_timeline : App
chosen_timeline = with_rule (with_rule (with_rule (with_rule (new_app (codes "timeline")) file) limit) from) last

-- kendo timeline FILE [--limit L] [--from EVENT] [--last N] [--pauses PLAN] [--out OUT] [--explain]
abbrev pub timeline : App
timeline = with_rule (with_rule (with_rule chosen_timeline pauses) out) explain

-- how many seconds a search takes at most
abbrev pub seconds : Rule
seconds = whole (codes "seconds")

-- kendo explore FILE [--limit L] [--tries N] [--states N] [--seconds N]
abbrev pub long_explore : App
long_explore =
    with_rule
    (with_rule (with_rule (with_rule (with_rule (new_app (codes "explore")) file) limit) (number (codes "tries") (codes "200"))) (number (codes "states") (codes "1000000")))
    seconds

-- kendo explore FILE [--limit L] [--tries N] [--states N] [--seconds N] [--ends] [--ordered] [--unordered]
abbrev pub lined_explore : App
lined_explore = with_rule (with_rule (with_rule long_explore (flag (codes "ends"))) (flag (codes "ordered"))) (flag (codes "unordered"))

-- kendo explore FILE [--limit L] [--tries N] [--states N] [--seconds N] [--ends] [--ordered] [--unordered] [--leaks] [--whole] [--out DIR] [--json] [--explain]
abbrev pub explore : App
explore = with_rule (with_rule (with_rule (with_rule (with_rule lined_explore (flag (codes "leaks"))) (flag (codes "whole"))) out) json) explain

-- kendo test FILE.. [--limit L] [--orders] [--tries N] [--states N]
abbrev pub long_test : App
long_test =
    with_rule (with_rule (with_rule (with_rule (with_rule (new_app (codes "test")) files) limit) (flag (codes "orders"))) (number (codes "tries") (codes "200")))
    (number (codes "states") (codes "1000000"))

-- kendo test FILE.. [--limit L] [--orders] [--tries N] [--states N] [--seconds N] [--leaks] [--out DIR]
abbrev pub searched_test : App
searched_test = with_rule (with_rule (with_rule long_test seconds) (flag (codes "leaks"))) out

-- kendo test FILE.. [--limit L] [--orders] [--tries N] [--states N] [--seconds N] [--leaks] [--out DIR] [--update] [--json] [--explain]
abbrev pub test : App
test = with_rule (with_rule (with_rule searched_test (flag (codes "update"))) json) explain

-- the event after which a run is shown, and the clock
abbrev pub event : Rule
event = whole (codes "event")

abbrev pub at : Rule
at = whole (codes "at")

-- kendo inspect FILE [--event N] [--at CLOCK] [--limit L]
abbrev pub chosen_inspect : App
chosen_inspect = with_rule (with_rule (with_rule (with_rule (new_app (codes "inspect")) file) event) at) limit

-- kendo inspect FILE [--event N] [--at CLOCK] [--limit L] [--pauses PLAN] [--explain]
abbrev pub inspect : App
inspect = with_rule (with_rule chosen_inspect pauses) explain

-- a command is required; kendo --version prints the version
abbrev pub named : App
named =
    let plain = new_app (codes "kendo") in
    record plain { top = record plain.top { subcommand_required = true; has_version = true } }

-- the commands that make no run of the code
abbrev pub first_commands : App
first_commands = with_subcommand (with_subcommand (with_subcommand named check.top) list.top) reference.top

-- all eight
abbrev pub kendo : App
kendo = with_subcommand (with_subcommand (with_subcommand (with_subcommand (with_subcommand first_commands timeline.top) explore.top) test.top) inspect.top) run.top

-- no argument of the command is taken by its subcommands too
abbrev pub IsLocal : Command → Type 0
IsLocal c = (out-Command c).has_globals ≡ false

-- words are read with the argument by this rule, and no subcommand of its command takes it too
abbrev pub IsRead : Arg → Rule → Type 0
IsRead argument rule = (rule_of argument ≡ rule) × (argument.global ≡ false)

-- an option of this name
abbrev pub option : (name : Text) → Rule
option name = record (new_rule name) { long = Some name }

-- the rule of each argument
abbrev pub rule_for : Argument → Rule
rule_for arguments.File = file
rule_for arguments.Files = files
rule_for arguments.Workers = workers
rule_for arguments.Limit = limit
rule_for arguments.Trace = trace
rule_for arguments.Values = values
rule_for arguments.Pauses = pauses
rule_for arguments.Against = against
rule_for arguments.Strict = flag (codes "strict")
rule_for arguments.From = from
rule_for arguments.Last = last
rule_for arguments.Event = event
rule_for arguments.At = at
rule_for arguments.Out = out
rule_for arguments.Folder = out
rule_for arguments.Tries = number (codes "tries") (codes "200")
rule_for arguments.States = number (codes "states") (codes "1000000")
rule_for arguments.Seconds = seconds
rule_for arguments.Ends = flag (codes "ends")
rule_for arguments.Unordered = flag (codes "unordered")
rule_for arguments.Ordered = flag (codes "ordered")
rule_for arguments.Leaks = flag (codes "leaks")
rule_for arguments.Whole = flag (codes "whole")
rule_for arguments.Orders = flag (codes "orders")
rule_for arguments.Update = flag (codes "update")
rule_for arguments.Json = json
rule_for arguments.Explain = explain

-- a command that takes these arguments too, one after the other
abbrev pub with_rules : App → List Argument → App
with_rules command [] = command
with_rules command (argument ∷ rest) = with_rules (with_rule command (rule_for argument)) rest

-- a command of the list
abbrev pub app_for : TextCommand → App
app_for listed = with_rules (new_app listed.name.now) listed.arguments.now

-- a command with these subcommands too, one after the other
abbrev pub with_commands : App → List TextCommand → App
with_commands command [] = command
with_commands command (listed ∷ rest) = with_commands (with_subcommand command (app_for listed).top) rest

-- ---- what the words request

-- the text is this number, below 2^64, in decimal digits after at most a plus
abbrev pub IsNumber : Option Text → ℕ → Type 0
IsNumber None n = ⊥
IsNumber (Some text) n = IsNumeral 10 (without_leading_plus text) × (digits_value 10 (without_leading_plus text) ≡ n) × (n < 2 ^ 64)

-- a plan of pauses is named
abbrev pub is_paused : List Row → Bool
is_paused rows = is_some (first_of (codes "pauses") rows)

-- the command of this name, with these values, requests this
abbrev pub Does : (name : Text) → List Row → Subcommand → Type 0
Does name rows subcommands.Check = name ≡ codes "check"
Does name rows subcommands.List = name ≡ codes "list"
Does name rows (subcommands.Reference limit) = (name ≡ codes "reference") × (is_paused rows ≡ false) × IsNumber (one_of (codes "limit") rows) limit
Does name rows (subcommands.Timeline limit) = (name ≡ codes "timeline") × IsNumber (one_of (codes "limit") rows) limit
Does name rows (subcommands.Explore limit tries states) =
    (name ≡ codes "explore") × IsNumber (one_of (codes "limit") rows) limit × IsNumber (one_of (codes "tries") rows) tries
    × IsNumber (one_of (codes "states") rows) states
Does name rows (subcommands.Test limit tries states) =
    (name ≡ codes "test") × IsNumber (one_of (codes "limit") rows) limit × IsNumber (one_of (codes "tries") rows) tries
    × IsNumber (one_of (codes "states") rows) states
Does name rows (subcommands.Inspect limit) = (name ≡ codes "inspect") × IsNumber (one_of (codes "limit") rows) limit
Does name rows (subcommands.Paused workers limit) =
    (((name ≡ codes "run") × IsNumber (one_of (codes "workers") rows) workers) ⊎ ((name ≡ codes "reference") × (workers ≡ 1)))
    × (is_paused rows ≡ true) × IsNumber (one_of (codes "limit") rows) limit
Does name rows (subcommands.Run workers limit) =
    (name ≡ codes "run") × (is_paused rows ≡ false) × IsNumber (one_of (codes "workers") rows) workers × IsNumber (one_of (codes "limit") rows) limit

-- the number that the text is, or none if it is no number
abbrev pub IsNumberThere : Option Text → Option ℕ → Type 0
IsNumberThere text (Some n) = IsNumber text n
IsNumberThere text None = (n : ℕ) → IsNumber text n → ⊥

-- whether an option without a value is there
abbrev pub IsSet : (name : Text) → List Row → Bool → Type 0
IsSet name rows set = IsTrue set ↔ (first_of name rows ≡ Some (codes "true"))

-- Like `Does`, but with the source files, the files of the trace, of its values, of the plan, of the trace that a run is compared with and of the picture, the events of the picture, the moment that is shown, the seconds of a search, what counts in an exploration, whether other orders are tested, whether comments are rewritten, whether JSON is reported, and whether errors and ends are explained
abbrev pub Asks : Text × List Row → Invocation → Type 0
Asks (name, rows) invocation =
    Does name rows invocation.subcommand × (first_of (codes "FILE") rows ≡ Some invocation.file.now)
    × (all_of (codes "FILE") rows ≡ Some (map (λ path. path.now) invocation.files.now))
    × IsNumberThere (one_of (codes "from") rows) invocation.from
    × IsNumberThere (one_of (codes "last") rows) invocation.last
    × IsNumberThere (one_of (codes "event") rows) invocation.event
    × IsNumberThere (one_of (codes "at") rows) invocation.at
    × IsNumberThere (one_of (codes "seconds") rows) invocation.seconds
    × (first_of (codes "trace") rows ≡ option_map (λ path. path.now) invocation.trace)
    × (first_of (codes "values") rows ≡ option_map (λ path. path.now) invocation.values)
    × (first_of (codes "pauses") rows ≡ option_map (λ path. path.now) invocation.pauses)
    × (first_of (codes "against") rows ≡ option_map (λ path. path.now) invocation.against)
    × IsSet (codes "strict") rows invocation.strict
    × (first_of (codes "out") rows ≡ option_map (λ path. path.now) invocation.out)
    × IsSet (codes "ends") rows invocation.ends
    × IsSet (codes "unordered") rows invocation.unordered
    × IsSet (codes "ordered") rows invocation.ordered
    × IsSet (codes "leaks") rows invocation.leaks
    × IsSet (codes "whole") rows invocation.whole
    × IsSet (codes "orders") rows invocation.orders
    × IsSet (codes "update") rows invocation.update
    × IsSet (codes "json") rows invocation.json
    × IsSet (codes "explain") rows invocation.explains
    × (invocation.asks_to_explain ≡ invocation.explains)

-- what the command does, or none if it does nothing
abbrev pub IsDone : (name : Text) → List Row → Option Subcommand → Type 0
IsDone name rows (Some subcommand) = Does name rows subcommand
IsDone name rows None = (subcommand : Subcommand) → Does name rows subcommand → ⊥

-- what the words request if they name a command, or none if they request nothing
abbrev pub IsAsked : Option (Text × List Row) → Option Invocation → Type 0
IsAsked None None = Unit {0}
IsAsked None (Some invocation) = ⊥
IsAsked (Some found) (Some invocation) = Asks found invocation
IsAsked (Some found) None = (invocation : Invocation) → Asks found invocation → ⊥
