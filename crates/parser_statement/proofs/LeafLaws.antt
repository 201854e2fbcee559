-- Statements that contain no other: what is spelt is read, and what is read is spelt so.
use Rattle.std.proofs.Common.{◌≡◌, ℕ, zero, suc, ◌<◌, ◌≤◌, Bool, true, false, cond, Option, Some, None, max, List, [], ◌∷◌, ◌++◌, length, Err, inl, inr, refl, ap, ◌∙◌, subst, arith}
use Rattle.std.proofs.lemmas.Bool.{false≢true}
use Rattle.scanner.specs.declared.kind.TokenKind.{TokenKind}
use Rattle.scanner.specs.declared.kind.TokenKind.TheVariants as kinds
use Rattle.syntax.specs.declared.node.Direction.TheVariants as directions
use Rattle.syntax.specs.Tree.{Expression, TypeExpression, NamedType, ParenthesizedType, Channel, Arguments, Returned, NoValue, ReturnedValue, Statement, Empty, Alone, VarTyped, VarUntyped, Go, Return, Break, Continue}
use Rattle.syntax.specs.Measures.{Listing, if_any, highest, type_height, expression_height, expression_longest, list_longest, returned_height, returned_longest, statement_height, statement_longest}
use Rattle.parser_base.specs.Lexemes.{Lexeme, Literal, Name, Text, Mark}
use Rattle.parser_base.specs.Spelling.{is_builtin, before, AreSome, IsGrouped, type_words, IsType}
use Rattle.parser_base.specs.Reading.{Syntax, TooDeep, Reading, ◌>>=◌, as_one, expect, plain_name, begins, step_at, expression, type_at}
use Rattle.parser_base.proofs.Marks.{bind_ok, ok_is, expect_is, plain_name_is, plain_name_again}
use Rattle.parser_base.proofs.ListLaws.{AreFew, entries-le, ReadBack, Found, High, Many}
use Rattle.parser_base.proofs.ExpressionAgain.{shut, begins_again, height_positive, type_outcome}
use Rattle.parser_base.proofs.TypeLaws.{type_sound, type_height_positive}
use Rattle.parser_base.proofs.Steps.{then_again, made_again, needing_again, needing_ok, gave, Sound, made_is, either}
use Rattle.parser_simple.specs.Spelling.{IsName, AreArguments, arguments_words, right_words, IsRight}
use Rattle.parser_simple.specs.Reading.{after_mark, begins_with, names, arguments, right, simple}
use Rattle.parser_simple.proofs.PlaceLaws.{names_again, names_sound}
use Rattle.parser_simple.proofs.RightLaws.{Stops, value_again, arguments_again, right_positive, right_again, value_sound, arguments_sound, right_sound}
use Rattle.parser_simple.proofs.SimpleLaws.{simple_sound}
use Rattle.parser_header.specs.Spelling.{IsAny}
use Rattle.parser_statement.specs.Spelling.{returned_words, IsReturned, initial_words, names_words, statement_words, IsStatement}
use Rattle.parser_statement.specs.Reading.{is_end, ends_statement, returned_value, returned, started, after_next, typed, untyped, variables, variable, leaf}

-- ---- what may follow a statement

pub data Ends : List Lexeme → Type 0 where
  AtSemicolon : (rest : List Lexeme) → Ends (Mark kinds.Semicolon ∷ rest)
  AtBrace : (rest : List Lexeme) → Ends (Mark kinds.RightBrace ∷ rest)
  AtCase : (rest : List Lexeme) → Ends (Mark kinds.Case ∷ rest)
  AtDefault : (rest : List Lexeme) → Ends (Mark kinds.Default ∷ rest)

pub ends_stop : (rest : List Lexeme) → Ends rest → Stops true rest
unfolding step_at begins_with
ends_stop _ (AtSemicolon rest) = record { ends = record { none = refl; shut = shut true kinds.Semicolon rest refl refl }; comma = refl; arrow = refl }
ends_stop _ (AtBrace rest) = record { ends = record { none = refl; shut = shut true kinds.RightBrace rest refl refl }; comma = refl; arrow = refl }
ends_stop _ (AtCase rest) = record { ends = record { none = refl; shut = shut true kinds.Case rest refl refl }; comma = refl; arrow = refl }
ends_stop _ (AtDefault rest) = record { ends = record { none = refl; shut = shut true kinds.Default rest refl refl }; comma = refl; arrow = refl }

ends_end : (rest : List Lexeme) → Ends rest → ends_statement rest ≡ true
unfolding ends_statement
ends_end _ (AtSemicolon rest) = refl
ends_end _ (AtBrace rest) = refl
ends_end _ (AtCase rest) = refl
ends_end _ (AtDefault rest) = refl

ends_no_value : (rest : List Lexeme) → Ends rest → begins_with kinds.Assign rest ≡ false
unfolding begins_with
ends_no_value _ (AtSemicolon rest) = refl
ends_no_value _ (AtBrace rest) = refl
ends_no_value _ (AtCase rest) = refl
ends_no_value _ (AtDefault rest) = refl

-- the same of what is read, within more
pub widened : {A : Type 0} {read : Reading A} {x : A} {rest : List Lexeme} {part depth_left height depth_left' : ℕ} {longest longest' : Listing → ℕ} {most : ℕ}
    → ReadBack read x rest part depth_left longest most → (depth_left < part → depth_left' < height) → (part ≤ depth_left → height ≤ depth_left') → ((listing : Listing) → longest listing ≤ longest' listing) → (AreFew longest most → AreFew longest' most)
    → ReadBack read x rest height depth_left' longest' most
widened (Found low few e) up down more down' = Found (down low) (down' few) e
widened (High high e) up down more down' = High (up high) e
widened (Many listing many e) up down more down' = Many listing (omega (arith, more listing, many)) e

abbrev pub StatementOutcome : (most depth_left : ℕ) → Reading Statement → Statement → List Lexeme → Type 0
StatementOutcome most depth_left read s rest = ReadBack read s rest (statement_height s) depth_left (λ listing. statement_longest listing s) most

-- ---- what is spelt is read

started_again : (most depth_left : ℕ) (f : List ℕ) (all : Arguments) (rest : List Lexeme) → IsName f → AreArguments true all → StatementOutcome most (suc depth_left) (started most depth_left (Name f ∷ arguments_words all rest)) (Go f all) rest
unfolding started
started_again most depth_left f all rest plain are =
    rw (plain_name_again f (arguments_words all rest) plain)
    (made_again (Go f) (arguments_again true most depth_left all rest are) (λ high. omega arith) (λ low. omega arith) (λ listing. refl))

abbrev ReturnedOutcome : (most depth_left : ℕ) → Reading Returned → Returned → List Lexeme → Type 0
ReturnedOutcome most depth_left read r rest = ReadBack read r rest (returned_height r) depth_left (λ listing. returned_longest listing r) most

returned_expression : (most depth_left : ℕ) (v : Expression) (rest : List Lexeme) → IsGrouped true v → Stops true rest → ReturnedOutcome most depth_left (returned_value most depth_left (before v rest)) (ReturnedValue v) rest
unfolding returned_value
returned_expression most zero v rest is stops = rw (begins_again true v rest is) (High (height_positive v) refl)
returned_expression most (suc depth_left) v rest is stops =
    made_again ReturnedValue (value_again true most (suc depth_left) v rest is stops.ends) (λ high. high) (λ low. low) (λ listing. refl)

-- no value ends a statement
begun_no_end : (ws : List Lexeme) → begins ws ≡ true → ends_statement ws ≡ false
unfolding begins ends_statement
begun_no_end [] begun = refl
begun_no_end (Literal value ∷ ws) begun = refl
begun_no_end (Name name ∷ ws) begun = refl
begun_no_end (Text bytes ∷ ws) begun = refl
begun_no_end (Mark kinds.Semicolon ∷ ws) begun = absurd (false≢true begun)
begun_no_end (Mark kinds.RightBrace ∷ ws) begun = absurd (false≢true begun)
begun_no_end (Mark kinds.Case ∷ ws) begun = absurd (false≢true begun)
begun_no_end (Mark kinds.Default ∷ ws) begun = absurd (false≢true begun)
begun_no_end (Mark kind ∷ ws) begun = refl

returned_again : (most depth_left : ℕ) (r : Returned) (rest : List Lexeme) → IsReturned r → Ends rest → ReturnedOutcome most depth_left (returned most depth_left (returned_words r rest)) r rest
unfolding returned
returned_again most depth_left NoValue rest is ends = rw (ends_end rest ends) (Found (omega arith) (λ listing. omega arith) refl)
returned_again most depth_left (ReturnedValue v) rest is ends =
    rw (begun_no_end (before v rest) (begins_again true v rest is)) (returned_expression most depth_left v rest is (ends_stop rest ends))

initial_again : (most depth_left : ℕ) (r : Option (List Expression)) (rest : List Lexeme) → IsAny (IsRight true) r → Ends rest
    → ReadBack (after_next kinds.Assign (right true most depth_left) (initial_words r rest)) r rest (if_any (highest expression_height) r) depth_left (λ listing. if_any (list_longest expression_longest listing) r) most
unfolding begins_with expect
initial_again most depth_left None rest is ends = rw (ends_no_value rest ends) (Found (omega arith) (λ listing. omega arith) refl)
initial_again most depth_left (Some r) rest is ends =
    made_again (λ (x : List Expression). Some x) (right_again true most depth_left r rest is (ends_stop rest ends)) (λ high. high) (λ low. low) (λ listing. refl)

typed_again : (most depth_left : ℕ) (all : List (List ℕ)) (t : TypeExpression) (r : Option (List Expression)) (rest : List Lexeme) → IsType t → IsAny (IsRight true) r → Ends rest
    → ReadBack (typed all most depth_left (type_words t ++ initial_words r rest)) (VarTyped all t r) rest (max (type_height t) (if_any (highest expression_height) r)) depth_left (λ listing. if_any (list_longest expression_longest listing) r) most
unfolding typed
typed_again most depth_left all t r rest is right_is ends =
    then_again _ (type_outcome depth_left most t (initial_words r rest) is) (λ high. omega arith) (λ listing. omega arith) (λ low few.
    made_again (VarTyped all t) (initial_again most depth_left r rest right_is ends) (λ high. omega arith) (λ low'. omega arith) (λ listing. refl))

untyped_again : (most depth_left : ℕ) (all : List (List ℕ)) (r : List Expression) (rest : List Lexeme) → IsRight true r → Ends rest
    → ReadBack (untyped all most depth_left (Mark kinds.Assign ∷ right_words r rest)) (VarUntyped all r) rest (highest expression_height r) depth_left (λ listing. list_longest expression_longest listing r) most
unfolding untyped expect
untyped_again most depth_left all r rest is ends =
    made_again (VarUntyped all) (right_again true most depth_left r rest is (ends_stop rest ends)) (λ high. high) (λ low. low) (λ listing. refl)

-- no type begins as values do
type_no_value : (t : TypeExpression) (rest : List Lexeme) → (begins_with kinds.Assign (type_words t ++ rest) ≡ false) × (begins_with kinds.Comma (type_words t ++ rest) ≡ false)
unfolding begins_with
type_no_value (NamedType name) rest = (refl, refl)
type_no_value (ParenthesizedType inner) rest = (refl, refl)
type_no_value (Channel directions.Both element) rest = (refl, refl)
type_no_value (Channel directions.Send element) rest = (refl, refl)
type_no_value (Channel directions.Receive element) rest = (refl, refl)

variable_untyped : (most depth_left : ℕ) (n : List ℕ) (ns : List (List ℕ)) (r : List Expression) (rest : List Lexeme) → AreSome IsName (n ∷ ns) → IsRight true r → Ends rest
    → StatementOutcome most (suc depth_left) (variable most depth_left (names_words (n ∷ ns) (Mark kinds.Assign ∷ right_words r rest))) (VarUntyped (n ∷ ns) r) rest
unfolding variables begins_with
variable_untyped most depth_left n ns r rest are is ends =
    needing_again 1 depth_left (λ none. omega (arith, none, right_positive true r is)) (then_again _ (names_again kinds.Comma most n ns (Mark kinds.Assign ∷ right_words r rest) are refl) (λ high. omega arith) (λ listing. omega arith) (λ low few.
    widened (untyped_again most depth_left (n ∷ ns) r rest is ends) (λ high. omega arith) (λ low'. omega arith) (λ listing. omega arith) (λ few' listing. omega (arith, few listing, few' listing))))

variable_typed : (most depth_left : ℕ) (n : List ℕ) (ns : List (List ℕ)) (t : TypeExpression) (r : Option (List Expression)) (rest : List Lexeme) → AreSome IsName (n ∷ ns) → IsType t → IsAny (IsRight true) r → Ends rest
    → StatementOutcome most (suc depth_left) (variable most depth_left (names_words (n ∷ ns) (type_words t ++ initial_words r rest))) (VarTyped (n ∷ ns) t r) rest
unfolding variables
variable_typed most depth_left n ns t r rest are is right_is ends =
    let none = type_no_value t (initial_words r rest) in
    needing_again 1 depth_left (λ few'. omega (arith, few', type_height_positive t)) (then_again _ (names_again kinds.Comma most n ns (type_words t ++ initial_words r rest) are none.1) (λ high. omega arith) (λ listing. omega arith) (λ low few.
    rw none.0 (widened (typed_again most depth_left (n ∷ ns) t r rest is right_is ends) (λ high. omega arith) (λ low'. omega arith) (λ listing. omega arith) (λ few' listing. omega (arith, few listing, few' listing)))))

-- a statement that begins with a mark of its own, or with none
pub leaf_go : (most depth_left : ℕ) (f : List ℕ) (all : Arguments) (rest : List Lexeme) → IsStatement (Go f all) → StatementOutcome most (suc depth_left) (leaf most depth_left kinds.Go (Name f ∷ arguments_words all rest)) (Go f all) rest
leaf_go most depth_left f all rest is = started_again most depth_left f all rest is.0 is.1

pub leaf_return : (most depth_left : ℕ) (r : Returned) (rest : List Lexeme) → IsReturned r → Ends rest → StatementOutcome most (suc depth_left) (leaf most depth_left kinds.Return (returned_words r rest)) (Return r) rest
leaf_return most depth_left r rest is ends = made_again Return (returned_again most depth_left r rest is ends) (λ high. omega arith) (λ low. omega arith) (λ listing. refl)

pub leaf_untyped : (most depth_left : ℕ) (ns : List (List ℕ)) (r : List Expression) (rest : List Lexeme) → IsStatement (VarUntyped ns r) → Ends rest
    → StatementOutcome most (suc depth_left) (leaf most depth_left kinds.Var (names_words ns (Mark kinds.Assign ∷ right_words r rest))) (VarUntyped ns r) rest
leaf_untyped most depth_left [] r rest is ends = absurd is.0
leaf_untyped most depth_left (n ∷ ns) r rest is ends = variable_untyped most depth_left n ns r rest is.0 is.1 ends

pub leaf_typed : (most depth_left : ℕ) (ns : List (List ℕ)) (t : TypeExpression) (r : Option (List Expression)) (rest : List Lexeme) → IsStatement (VarTyped ns t r) → Ends rest
    → StatementOutcome most (suc depth_left) (leaf most depth_left kinds.Var (names_words ns (type_words t ++ initial_words r rest))) (VarTyped ns t r) rest
leaf_typed most depth_left [] t r rest is ends = absurd is.0
leaf_typed most depth_left (n ∷ ns) t r rest is ends = variable_typed most depth_left n ns t r rest is.0 is.1 is.2 ends

-- ---- what is read is spelt so

abbrev pub StatementSound : (most depth_left : ℕ) → List Lexeme → Statement → List Lexeme → Type 0
StatementSound most depth_left = Sound statement_words IsStatement statement_height depth_left statement_longest most

pub alone_sound : (most depth_left : ℕ) (ws : List Lexeme) (s : Statement) (rest : List Lexeme) → as_one Alone (simple true true most depth_left ws) ≡ gave s rest → StatementSound most (suc depth_left) ws s rest
alone_sound most depth_left ws s rest e =
    let a = made_is Alone (simple true true most depth_left ws) s rest e in
    let p = simple_sound true true most depth_left ws a.0 rest a.1 in
    subst (λ (x : Statement). StatementSound most (suc depth_left) ws x rest) a.2 (record { parts = p.parts; is = p.is; low = omega (arith, p.low); few = p.few })

started_sound : (most depth_left : ℕ) (ws : List Lexeme) (s : Statement) (rest : List Lexeme) → started most depth_left ws ≡ gave s rest → StatementSound most (suc depth_left) (Mark kinds.Go ∷ ws) s rest
unfolding started
started_sound most depth_left ws s rest e =
    let a = bind_ok (plain_name ws) (λ name. as_one (Go name.0) (arguments true most depth_left name.1)) (s, rest) e in
    let b = made_is (Go a.0.0) (arguments true most depth_left a.0.1) s rest a.2 in
    let n = plain_name_is ws a.0.0 a.0.1 a.1 in
    let p = arguments_sound true most depth_left a.0.1 b.0 rest b.1 in
    subst (λ (x : Statement). StatementSound most (suc depth_left) (Mark kinds.Go ∷ ws) x rest) b.2 (record {
      parts = ap (λ (x : List Lexeme). Mark kinds.Go ∷ x) (n.0 ∙ ap (λ (x : List Lexeme). Name a.0.0 ∷ x) p.parts);
      is = (n.1, p.is);
      low = omega (arith, p.low);
      few = p.few;
    })

abbrev ReturnedSound : (most depth_left : ℕ) → List Lexeme → Returned → List Lexeme → Type 0
ReturnedSound most depth_left = Sound returned_words IsReturned returned_height depth_left returned_longest most

no_returned : (b : Bool) (r : Returned) (rest : List Lexeme) → cond b (Err TooDeep) (Err Syntax) ≡ gave r rest → ⊥
no_returned true r rest e = cc
no_returned false r rest e = cc

returned_value_sound : (most depth_left : ℕ) (ws : List Lexeme) (r : Returned) (rest : List Lexeme) → returned_value most depth_left ws ≡ gave r rest → ReturnedSound most depth_left ws r rest
unfolding returned_value
returned_value_sound most zero ws r rest e = absurd (no_returned (begins ws) r rest e)
returned_value_sound most (suc depth_left) ws r rest e =
    let a = made_is ReturnedValue (expression true most (suc depth_left) 0 ws) r rest e in
    let p = value_sound true most (suc depth_left) ws a.0 rest a.1 in
    subst (λ (x : Returned). ReturnedSound most (suc depth_left) ws x rest) a.2 (record { parts = p.parts; is = p.is; low = p.low; few = p.few })

returned_sound : (most depth_left : ℕ) (ws : List Lexeme) (r : Returned) (rest : List Lexeme) → returned most depth_left ws ≡ gave r rest → ReturnedSound most depth_left ws r rest
unfolding returned
returned_sound most depth_left ws r rest e =
    elim (either (ends_statement ws) (gave NoValue ws) (returned_value most depth_left ws) (r, rest) e) [
      | inl none ↦ subst (λ (x : Returned × List Lexeme). ReturnedSound most depth_left ws x.0 x.1) (ok_is (NoValue, ws) (r, rest) none.1) (record { parts = refl; is = tt; low = omega arith; few = λ listing. omega arith })
      | inr some ↦ returned_value_sound most depth_left ws r rest some.1
    ]

return_sound : (most depth_left : ℕ) (ws : List Lexeme) (s : Statement) (rest : List Lexeme) → as_one Return (returned most depth_left ws) ≡ gave s rest → StatementSound most (suc depth_left) (Mark kinds.Return ∷ ws) s rest
return_sound most depth_left ws s rest e =
    let a = made_is Return (returned most depth_left ws) s rest e in
    let p = returned_sound most depth_left ws a.0 rest a.1 in
    subst (λ (x : Statement). StatementSound most (suc depth_left) (Mark kinds.Return ∷ ws) x rest) a.2 (record { parts = ap (λ (x : List Lexeme). Mark kinds.Return ∷ x) p.parts; is = p.is; low = omega (arith, p.low); few = p.few })

abbrev InitialSound : (most depth_left : ℕ) → List Lexeme → Option (List Expression) → List Lexeme → Type 0
InitialSound most depth_left = Sound initial_words (IsAny (IsRight true)) (if_any (highest expression_height)) depth_left (λ listing. if_any (list_longest expression_longest listing)) most

initial_sound : (most depth_left : ℕ) (ws : List Lexeme) (r : Option (List Expression)) (rest : List Lexeme) → after_next kinds.Assign (right true most depth_left) ws ≡ gave r rest → InitialSound most depth_left ws r rest
initial_sound most depth_left ws r rest e =
    elim (either (begins_with kinds.Assign ws) (as_one (λ (x : List Expression). Some x) (after_mark kinds.Assign (right true most depth_left) ws)) (gave None ws) (r, rest) e) [
      | inl some ↦
          let b = made_is (λ (x : List Expression). Some x) (after_mark kinds.Assign (right true most depth_left) ws) r rest some.1 in
          let a = bind_ok (expect kinds.Assign ws) (right true most depth_left) (b.0, rest) b.1 in
          let p = right_sound true most depth_left a.0 b.0 rest a.2 in
          subst (λ (x : Option (List Expression)). InitialSound most depth_left ws x rest) b.2 (record {
            parts = expect_is kinds.Assign ws a.0 a.1 ∙ ap (λ (x : List Lexeme). Mark kinds.Assign ∷ x) p.parts;
            is = p.is;
            low = p.low;
            few = p.few;
          })
      | inr none ↦ subst (λ (x : Option (List Expression) × List Lexeme). InitialSound most depth_left ws x.0 x.1) (ok_is (None, ws) (r, rest) none.1) (record { parts = refl; is = tt; low = omega arith; few = λ listing. omega arith })
    ]

-- some names were read, and these words follow them
abbrev AreVariables : (most : ℕ) → List Lexeme → List (List ℕ) → List Lexeme → Type 0
AreVariables most all ns ws = (all ≡ names_words ns ws) × AreSome IsName ns × (length ns ≤ most)

typed_sound : (most depth_left : ℕ) (all : List Lexeme) (ns : List (List ℕ)) (ws : List Lexeme) → AreVariables most all ns ws → (s : Statement) (rest : List Lexeme) → typed ns most depth_left ws ≡ gave s rest → StatementSound most (suc depth_left) (Mark kinds.Var ∷ all) s rest
unfolding typed
typed_sound most depth_left all ns ws are s rest e =
    let a = bind_ok (type_at depth_left ws) (λ kind. after_next kinds.Assign (right true most depth_left) kind.1 >>= λ value. gave (VarTyped ns kind.0 value.0) value.1) (s, rest) e in
    let b = made_is (VarTyped ns a.0.0) (after_next kinds.Assign (right true most depth_left) a.0.1) s rest a.2 in
    let t = type_sound depth_left ws a.0.0 a.0.1 a.1 in
    let p = initial_sound most depth_left a.0.1 b.0 rest b.1 in
    subst (λ (x : Statement). StatementSound most (suc depth_left) (Mark kinds.Var ∷ all) x rest) b.2 (record {
      parts = ap (λ (x : List Lexeme). Mark kinds.Var ∷ x) (are.0 ∙ ap (names_words ns) (t.parts ∙ ap (λ (x : List Lexeme). type_words a.0.0 ++ x) p.parts));
      is = (are.1, t.is, p.is);
      low = omega (arith, t.low, p.low);
      few = λ listing. omega (arith, p.few listing, are.2, entries-le listing (length ns));
    })

untyped_sound : (most depth_left : ℕ) (all : List Lexeme) (ns : List (List ℕ)) (ws : List Lexeme) → AreVariables most all ns ws → (s : Statement) (rest : List Lexeme) → untyped ns most depth_left ws ≡ gave s rest → StatementSound most (suc depth_left) (Mark kinds.Var ∷ all) s rest
unfolding untyped
untyped_sound most depth_left all ns ws are s rest e =
    let b = made_is (VarUntyped ns) (after_mark kinds.Assign (right true most depth_left) ws) s rest e in
    let a = bind_ok (expect kinds.Assign ws) (right true most depth_left) (b.0, rest) b.1 in
    let p = right_sound true most depth_left a.0 b.0 rest a.2 in
    subst (λ (x : Statement). StatementSound most (suc depth_left) (Mark kinds.Var ∷ all) x rest) b.2 (record {
      parts = ap (λ (x : List Lexeme). Mark kinds.Var ∷ x) (are.0 ∙ ap (names_words ns) (expect_is kinds.Assign ws a.0 a.1 ∙ ap (λ (x : List Lexeme). Mark kinds.Assign ∷ x) p.parts));
      is = (are.1, p.is);
      low = omega (arith, p.low);
      few = λ listing. omega (arith, p.few listing, are.2, entries-le listing (length ns));
    })

variables_sound : (most depth_left : ℕ) (ws : List Lexeme) (s : Statement) (rest : List Lexeme) → variables most depth_left ws ≡ gave s rest → StatementSound most (suc depth_left) (Mark kinds.Var ∷ ws) s rest
unfolding variables
variables_sound most depth_left ws s rest e =
    let a = bind_ok (names kinds.Comma most ws) (λ all. cond (begins_with kinds.Assign all.1) (untyped all.0.0 most depth_left all.1) (typed all.0.0 most depth_left all.1)) (s, rest) e in
    let n = names_sound kinds.Comma most ws a.0 a.1 in
    let are : AreVariables most ws a.0.0.0 a.0.1 = (n.parts, n.are, n.count) in
    elim (either (begins_with kinds.Assign a.0.1) (untyped a.0.0.0 most depth_left a.0.1) (typed a.0.0.0 most depth_left a.0.1) (s, rest) a.2) [
      | inl values ↦ untyped_sound most depth_left ws a.0.0.0 a.0.1 are s rest values.1
      | inr types ↦ typed_sound most depth_left ws a.0.0.0 a.0.1 are s rest types.1
    ]

variable_sound : (most depth_left : ℕ) (ws : List Lexeme) (s : Statement) (rest : List Lexeme) → variable most depth_left ws ≡ gave s rest → StatementSound most (suc depth_left) (Mark kinds.Var ∷ ws) s rest
variable_sound most depth_left ws s rest e = variables_sound most depth_left ws s rest (needing_ok 1 depth_left (variables most depth_left ws) (s, rest) e)

word_sound : (most depth_left : ℕ) (ws : List Lexeme) (word : Statement) (s : Statement) (after rest : List Lexeme) → ws ≡ statement_words word after → IsStatement word → statement_height word ≤ suc depth_left → AreFew (λ listing. statement_longest listing word) most
    → gave word after ≡ gave s rest → StatementSound most (suc depth_left) ws s rest
word_sound most depth_left ws word s after rest parts is low few e =
    subst (λ (x : Statement × List Lexeme). StatementSound most (suc depth_left) ws x.0 x.1) (ok_is (word, after) (s, rest) e) (record { parts = parts; is = is; low = low; few = few })

other_sound : (most depth_left : ℕ) (kind : TokenKind) (ws : List Lexeme) (s : Statement) (rest : List Lexeme) → cond (is_end kind) (gave Empty (Mark kind ∷ ws)) (as_one Alone (simple true true most depth_left (Mark kind ∷ ws))) ≡ gave s rest
    → StatementSound most (suc depth_left) (Mark kind ∷ ws) s rest
other_sound most depth_left kind ws s rest e =
    elim (either (is_end kind) (gave Empty (Mark kind ∷ ws)) (as_one Alone (simple true true most depth_left (Mark kind ∷ ws))) (s, rest) e) [
      | inl ends ↦ word_sound most depth_left (Mark kind ∷ ws) Empty s (Mark kind ∷ ws) rest refl tt (omega arith) (λ listing. omega arith) ends.1
      | inr other ↦ alone_sound most depth_left (Mark kind ∷ ws) s rest other.1
    ]

pub leaf_sound : (most depth_left : ℕ) (kind : TokenKind) (ws : List Lexeme) (s : Statement) (rest : List Lexeme) → leaf most depth_left kind ws ≡ gave s rest → StatementSound most (suc depth_left) (Mark kind ∷ ws) s rest
leaf_sound most depth_left kinds.Go ws s rest e = started_sound most depth_left ws s rest e
leaf_sound most depth_left kinds.Var ws s rest e = variable_sound most depth_left ws s rest e
leaf_sound most depth_left kinds.Return ws s rest e = return_sound most depth_left ws s rest e
leaf_sound most depth_left kinds.Break ws s rest e = word_sound most depth_left (Mark kinds.Break ∷ ws) Break s ws rest refl tt (omega arith) (λ listing. omega arith) e
leaf_sound most depth_left kinds.Continue ws s rest e = word_sound most depth_left (Mark kinds.Continue ∷ ws) Continue s ws rest refl tt (omega arith) (λ listing. omega arith) e
leaf_sound most depth_left kind ws s rest e = other_sound most depth_left kind ws s rest e
