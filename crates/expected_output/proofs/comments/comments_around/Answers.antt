use Rattle.std.proofs.Common.{rules, ◌≡◌, ◌++◌, ◌∙◌, ap, map, string_bytes}
use Rattle.std.proofs.lemmas.List.{map-append}
use Rattle.expected_output.proofs.Around.{token_last, token_next}
use Rattle.expected_output.proofs.comments.comments_around.Goals as goal

pub loop-token-preserved : goal.loop-token-preserved
loop-token-preserved c =
    let grows : c.append.new.self.items ≡ c.loop-token.found.items ++ c.in_ok-groups.groups.items = search rules in
    token_next c.args.text.now c.args.tokens.now c.loop-token.token-index c.loop-token.end _ _ _ _ c.loop-token-test.true c.in_ok-groups.ensures c.loop-token.invariant
    (ap (map string_bytes) grows ∙ map-append string_bytes _ _)

pub returns : goal.returns
returns c =
    let grows : c.append-2.new.self.items ≡ c.loop-token.found.items ++ c.in_ok-groups-2.groups.items = search rules in
    token_last c.args.text.now c.args.tokens.now c.loop-token.token-index c.loop-token.end _ _ _ c.in_ok-groups-2.ensures c.loop-token.invariant (search rules)
    (ap (map string_bytes) grows ∙ map-append string_bytes _ _)
