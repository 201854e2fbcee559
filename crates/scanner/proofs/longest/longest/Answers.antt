use Rattle.std.proofs.Common.{◌≡◌, ◌≤◌, drop, length, length-drop, sym, ◌∙◌, arith}
use Rattle.std.proofs.lemmas.Bool.{eq-eqb, ne_eqb}
use Rattle.scanner.specs.Lexical.{is_digit, hexadecimal_len}
use Rattle.scanner.proofs.Reading.{rest_is}
use Rattle.scanner.proofs.Greatest.{longest_name, longest_no_letter, longest_number, longest_zero, longest_other, name_pos, run_pos}
use Rattle.std.proofs.lemmas.List.Sums.{prefix_len-le-length}
use Rattle.scanner.proofs.longest.longest.Goals as goal

pub returns-then-not-begins_letter-clause-token : goal.returns-then-not-begins_letter-clause-token
returns-then-not-begins_letter-clause-token c =
    sym (longest_no_letter c.args.text.now c.requires.some (sym c.is_letter_byte.ensures ∙ c.if-is_letter_byte.true) (sym c.begins_letter.ensures ∙ c.if-not-begins_letter.true))

pub returns-then-is_letter_byte-clause-token : goal.returns-then-is_letter_byte-clause-token
returns-then-is_letter_byte-clause-token c =
    let n = c.name_run-len.result in
    let e = longest_name c.args.text.now n c.requires.some (sym c.is_letter_byte.ensures ∙ c.if-is_letter_byte.true) (sym c.begins_letter.ensures ∙ c.if-not-begins_letter.false) c.name_run-len.ensures.within c.name_run-len.ensures.all c.name_run-len.ensures.end in
    rw c.word.ensures (sym e)

pub returns-then-first-eq48-clause-token : goal.returns-then-first-eq48-clause-token
returns-then-first-eq48-clause-token c =
    let len : c.hexadecimal_len.result ≡ hexadecimal_len (drop 1 c.args.text.now) = rw (rest_is 1 c.args.text.now) at c.hexadecimal_len.ensures.len in
    rw len (sym (longest_zero c.args.text.now c.requires.some (sym c.is_letter_byte.ensures ∙ c.if-is_letter_byte.false) (sym c.is_digit.ensures ∙ c.if-is_digit.true) (eq-eqb _ 48 c.if-first-eq48.true)))

pub returns-then-is_digit-clause-token : goal.returns-then-is_digit-clause-token
returns-then-is_digit-clause-token c =
    let e = longest_number c.args.text.now c.requires.some (sym c.is_letter_byte.ensures ∙ c.if-is_letter_byte.false) (sym c.is_digit.ensures ∙ c.if-is_digit.true) (ne_eqb _ 48 c.if-first-eq48.false) in
    rw c.digit_run.ensures (sym e)

pub returns-then-is_digit-clause-within : goal.returns-then-is_digit-clause-within
returns-then-is_digit-clause-within c =
    (omega (arith, c.digit_run.ensures, run_pos is_digit c.args.text.now c.requires.some (sym c.is_digit.ensures ∙ c.if-is_digit.true)), omega (arith, c.digit_run.ensures, prefix_len-le-length is_digit c.args.text.now))

pub returns-clause-token : goal.returns-clause-token
returns-clause-token c =
    c.longest_mark.ensures.token ∙ sym (longest_other c.args.text.now c.requires.some (sym c.is_letter_byte.ensures ∙ c.if-is_letter_byte.false) (sym c.is_digit.ensures ∙ c.if-is_digit.false))

pub returns-then-is_letter_byte-clause-within : goal.returns-then-is_letter_byte-clause-within
returns-then-is_letter_byte-clause-within c =
    (name_pos c.args.text.now c.name_run-len.result (sym c.begins_letter.ensures ∙ c.if-not-begins_letter.false) c.name_run-len.ensures.end, c.name_run-len.ensures.within)

pub hexadecimal_len-requires : goal.hexadecimal_len-requires
hexadecimal_len-requires c = rw (rest_is 1 c.args.text.now) (omega (arith, length-drop 1 c.args.text.now))

pub overflow_add-result : goal.overflow_add-result
overflow_add-result c =
    let within : c.hexadecimal_len.result ≤ length (drop 1 c.args.text.now) = rw (rest_is 1 c.args.text.now) at c.hexadecimal_len.ensures.within in
    omega (arith, length-drop 1 c.args.text.now)

pub returns-then-first-eq48-clause-within : goal.returns-then-first-eq48-clause-within
returns-then-first-eq48-clause-within c =
    let within : c.hexadecimal_len.result ≤ length (drop 1 c.args.text.now) = rw (rest_is 1 c.args.text.now) at c.hexadecimal_len.ensures.within in
    (omega arith, omega (arith, length-drop 1 c.args.text.now))

pub returns-clause-within : goal.returns-clause-within
returns-clause-within c = c.longest_mark.ensures.within
