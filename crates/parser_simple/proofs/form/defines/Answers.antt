use Rattle.std.proofs.Common.{◌≡◌, ℕ, Bool, true, false, not, List, ◌∷◌, if◌then◌else◌, length, refl, sym, ap, ◌∙◌, arith}
use Rattle.std.proofs.lemmas.Bool.{false≢true}
use Rattle.scanner.specs.declared.kind.TokenKind.{TokenKind}
use Rattle.scanner.specs.declared.kind.TokenKind.TheVariants as kinds
use Rattle.parser_base.specs.Cursor.{ahead}
use Rattle.parser_base.specs.Lexemes.{Lexeme, Name, Mark}
use Rattle.parser_base.specs.Reading.{is_kind}
use Rattle.parser_simple.specs.Reading.{defines}
use Rattle.parser_simple.proofs.form.defines.Goals as goal

-- a name and a mark
turn : (words following after : List Lexeme) (name : List ℕ) (kind : TokenKind) → words ≡ Name name ∷ following → following ≡ Mark kind ∷ after
    → defines true words ≡ (if is_kind kind kinds.Define then true else (if is_kind kind kinds.Comma then defines true after else false))
unfolding defines
turn words following after name kind first second = rw (first, second) refl

next : (define other comma rest total : Bool) → other ≡ (if define then true else (if comma then rest else false)) → false ≡ define → false ≡ not comma → other ≡ total → rest ≡ total
next false other true rest total is plain separates so_far = sym is ∙ so_far
next false other false rest total is plain separates so_far = absurd (false≢true separates)
next true other comma rest total is plain separates so_far = absurd (false≢true plain)

ended : (define other comma rest total : Bool) → other ≡ (if define then true else (if comma then rest else false)) → false ≡ define → true ≡ not comma → other ≡ total → false ≡ total
ended false other false rest total is plain ends so_far = sym is ∙ so_far
ended false other true rest total is plain ends so_far = absurd (false≢true (sym ends))
ended true other comma rest total is plain ends so_far = absurd (false≢true plain)

begun : (define other comma rest total : Bool) → other ≡ (if define then true else (if comma then rest else false)) → true ≡ define → other ≡ total → true ≡ total
begun true other comma rest total is defined so_far = sym is ∙ so_far
begun false other comma rest total is defined so_far = absurd (false≢true (sym defined))

pub loop-preserved : goal.loop-preserved
loop-preserved c =
    let kind = c.in-Some-Mark-default.kind in
    let after = ahead c.in-Some-Mark-default.after in
    let name = rw c.in-Some-Name-default.field-0-0-is at c.in-Some-Name-default.ensures in
    let mark = rw c.in-Some-Mark-default.field-0-0-is at c.in-Some-Mark-default.ensures in
    record {
      total = next (is_kind kind kinds.Define) _ (is_kind kind kinds.Comma) (defines true after) _ (turn _ _ after _ kind name mark) c.if-eq.ensures c.if-ne.ensures c.loop.invariant.total;
      left = omega (arith, ap length name, ap length mark, c.loop.invariant.left);
    }

pub returns-then-eq : goal.returns-then-eq
returns-then-eq c =
    let kind = c.in-Some-Mark-default.kind in
    let after = ahead c.in-Some-Mark-default.after in
    let name = rw c.in-Some-Name-default.field-0-0-is at c.in-Some-Name-default.ensures in
    let mark = rw c.in-Some-Mark-default.field-0-0-is at c.in-Some-Mark-default.ensures in
    begun (is_kind kind kinds.Define) _ (is_kind kind kinds.Comma) (defines true after) _ (turn _ _ after _ kind name mark) c.if-eq.ensures c.loop.invariant.total

pub returns-then-ne : goal.returns-then-ne
returns-then-ne c =
    let kind = c.in-Some-Mark-default.kind in
    let after = ahead c.in-Some-Mark-default.after in
    let name = rw c.in-Some-Name-default.field-0-0-is at c.in-Some-Name-default.ensures in
    let mark = rw c.in-Some-Mark-default.field-0-0-is at c.in-Some-Mark-default.ensures in
    ended (is_kind kind kinds.Define) _ (is_kind kind kinds.Comma) (defines true after) _ (turn _ _ after _ kind name mark) c.if-eq.ensures c.if-ne.ensures c.loop.invariant.total
