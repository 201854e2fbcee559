use Rattle.std.proofs.Common.{rules, ◌∙◌, ap, codes, map, refl, sym, subst, option_map}
use Rattle.clap.specs.Words.{found_of, rows_of}
use Rattle.clap.proofs.WalkLemmas.{first_value-rows, raw_values-rows}
use Rattle.command_line.specs.CommandLine.{IsAsked}
use Rattle.command_line.proofs.CommandLine.{asked, both_parts, not_asked, not_asked_files}
use Rattle.command_line.proofs.arguments.invocation_of.Goals as goal

pub returns-in_err-files : goal.returns-in_err-files
returns-in_err-files c =
    let found = both_parts _ _ _ _ _ (ap (option_map (λ p. p.0.now)) (sym (c.in-Some.is)) ∙ c.subcommand.ensures.name) (ap (option_map (λ p. rows_of (found_of p.1.now))) (sym (c.in-Some.is)) ∙ c.subcommand.ensures.rows) in
    subst (IsAsked _) (sym c.from_residual.ensures) (not_asked_files _ _ _ found (ap (option_map (λ s. map (λ v. v.now) s.now)) (sym (c.in_err-files.was)) ∙ c.get_strs.ensures ∙ raw_values-rows (found_of c.in-Some.matches.now) (codes "FILE")))

pub returns-in_err-get_str : goal.returns-in_err-get_str
returns-in_err-get_str c =
    let found = both_parts _ _ _ _ _ (ap (option_map (λ p. p.0.now)) (sym (c.in-Some.is)) ∙ c.subcommand.ensures.name) (ap (option_map (λ p. rows_of (found_of p.1.now))) (sym (c.in-Some.is)) ∙ c.subcommand.ensures.rows) in
    subst (IsAsked _) (sym c.from_residual-in_err-get_str.ensures) (not_asked _ _ _ found (ap (option_map (λ s. s.now)) (sym (c.in_err-get_str.was)) ∙ c.get_str.ensures ∙ first_value-rows (found_of c.in-Some.matches.now) (codes "FILE")))

pub returns : goal.returns
returns c =
    let found = both_parts _ _ _ _ _ (ap (option_map (λ p. p.0.now)) (sym (c.in-Some.is)) ∙ c.subcommand.ensures.name) (ap (option_map (λ p. rows_of (found_of p.1.now))) (sym (c.in-Some.is)) ∙ c.subcommand.ensures.rows) in
    asked _ _ _ _ found (search rules) (ap (option_map (λ s. s.now)) (sym (c.in_ok-get_str.was)) ∙ c.get_str.ensures ∙ first_value-rows (found_of c.in-Some.matches.now) (codes "FILE"))
    (ap (option_map (λ s. map (λ v. v.now) s.now)) (sym (c.in_ok-files.was)) ∙ c.get_strs.ensures ∙ raw_values-rows (found_of c.in-Some.matches.now) (codes "FILE"))
    c.option_number-from.ensures c.option_number-last.ensures c.option_number-event.ensures c.option_number-at.ensures c.option_number-seconds.ensures
    (c.get_str-trace.ensures ∙ first_value-rows (found_of c.in-Some.matches.now) (codes "trace"))
    (c.get_str-values.ensures ∙ first_value-rows (found_of c.in-Some.matches.now) (codes "values"))
    (c.get_str-pauses.ensures ∙ first_value-rows (found_of c.in-Some.matches.now) (codes "pauses"))
    (c.get_str-against.ensures ∙ first_value-rows (found_of c.in-Some.matches.now) (codes "against")) c.is_set-strict.ensures
    (c.get_str-out.ensures ∙ first_value-rows (found_of c.in-Some.matches.now) (codes "out"))
    c.is_set-ends.ensures c.is_set-unordered.ensures c.is_set-ordered.ensures c.is_set-leaks.ensures c.is_set-whole.ensures c.is_set-orders.ensures c.is_set-update.ensures c.is_set-json.ensures c.is_set-explains.ensures refl
