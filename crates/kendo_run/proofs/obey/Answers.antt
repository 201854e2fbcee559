use Rattle.std.proofs.Common.{map, string_bytes}
use Rattle.std.proofs.lemmas.Result.{IfOk-weaker}
use Rattle.clap.specs.Simple.{app_of}
use Rattle.kendo_shell.proofs.Obeying.{done, nothing_done, shown}
use Rattle.kendo_run.specs.Tasks.{ReportsAll}
use Rattle.kendo_run.proofs.obey.Goals as goal

pub returns-in-Some : goal.returns-in-Some
returns-in-Some g c =
    IfOk-weaker c.perform.result _ _ (λ status tells. done {Reports = ReportsAll} (app_of c.in_ok-command.field-0) (map string_bytes c.args.words.now) c.in-Ok.matches c.in-Some.invocation status
    c.in_ok-command.ensures c.in-Ok.ensures.kinds c.in-Ok.ensures.matches c.in-Some.ensures tells) c.perform.ensures

pub returns-in-Ok : goal.returns-in-Ok
returns-in-Ok g c =
    nothing_done {Reports = ReportsAll} (app_of c.in_ok-command.field-0) (map string_bytes c.args.words.now) c.in-Ok.matches c.in_ok-command.ensures c.in-Ok.ensures.kinds c.in-Ok.ensures.matches c.in-None.ensures

pub returns : goal.returns
returns g c =
    shown ReportsAll (app_of c.in_ok-command.field-0) (map string_bytes c.args.words.now) c.in-Err.error c.show.result c.in_ok-command.ensures c.in-Err.ensures.kinds c.show.ensures.memory c.show.ensures.shown
