-- What a clause of a select waits for: what is spelt is read, and what is read is spelt so.
use Rattle.std.proofs.Common.{◌≡◌, ℕ, suc, true, false, Option, Some, None, max, List, [], ◌∷◌, Ok, inl, inr, refl, ap, ◌∙◌, subst, arith}
use Rattle.scanner.specs.declared.kind.TokenKind.{TokenKind}
use Rattle.scanner.specs.declared.kind.TokenKind.TheVariants as kinds
use Rattle.syntax.specs.Tree.{Expression, Place, Comm, CommSend, CommReceive, CommDefine, CommAssign}
use Rattle.syntax.specs.Measures.{expression_height, expression_longest, comm_height, comm_longest}
use Rattle.parser_base.specs.Lexemes.{Lexeme, Name, Mark}
use Rattle.parser_base.specs.Spelling.{before}
use Rattle.parser_base.specs.Reading.{Reading, ◌>>=◌, as_one, expect, plain_name, step_at}
use Rattle.parser_base.proofs.Marks.{bind_ok, ok_is, expect_is, plain_name_is, plain_name_again}
use Rattle.parser_base.proofs.ListLaws.{ReadBack, Found}
use Rattle.parser_base.proofs.ExpressionAgain.{EndsExpression, shut}
use Rattle.parser_base.proofs.Steps.{then_again, made_again, gave, Sound, made_is, either}
use Rattle.parser_simple.specs.declared.form.Form.{Form}
use Rattle.parser_simple.specs.declared.form.Form.TheVariants as forms
use Rattle.parser_simple.specs.Spelling.{name_words, IsName, place_words, IsPlace, IsUnary}
use Rattle.parser_header.specs.Spelling.{IsAny, second_name_words, second_place_words, comm_words, IsComm, optional}
use Rattle.parser_simple.specs.Reading.{place_form, begins_with, defines, form_of, place, received, sent}
use Rattle.parser_simple.proofs.BeginLaws.{primary_not_arrow}
use Rattle.parser_header.specs.Reading.{second, received_after, comm_defined, comm_assigned, comm_formed, comm}
use Rattle.parser_simple.proofs.PlaceLaws.{place_again, place_sound}
use Rattle.parser_simple.proofs.FormLaws.{name_form, form_after, no_place_form, no_defines, no_form}
use Rattle.parser_simple.proofs.RightLaws.{EndsAt, ends_at, begins_primary_again, received_again, received_sound}
use Rattle.parser_simple.proofs.SimpleLaws.{sent_again, sent_sound}

-- the most levels below it
abbrev pub comm_below : Comm → ℕ
comm_below (CommSend c v) = max (expression_height c) (expression_height v)
comm_below (CommReceive c) = expression_height c
comm_below (CommDefine item ok c) = expression_height c
comm_below (CommAssign item ok c) = expression_height c

pub comm_below_is : (c : Comm) → comm_height c ≡ suc (comm_below c)
comm_below_is (CommSend c v) = refl
comm_below_is (CommReceive c) = refl
comm_below_is (CommDefine item ok c) = refl
comm_below_is (CommAssign item ok c) = refl

abbrev pub CommOutcome : (most depth_left : ℕ) → Reading Comm → Comm → List Lexeme → Type 0
CommOutcome most depth_left read c rest = ReadBack read c rest (comm_below c) depth_left (λ listing. comm_longest listing c) most

colon_ends : (ws : List Lexeme) → EndsExpression true (Mark kinds.Colon ∷ ws)
unfolding step_at
colon_ends ws = record { none = refl; shut = shut true kinds.Colon ws refl refl }

comm_sent : (most depth_left : ℕ) (ws : List Lexeme) → begins_with kinds.Arrow ws ≡ false → place_form ws ≡ forms.Other → comm most depth_left ws ≡ sent CommSend true most depth_left ws
unfolding comm comm_formed
comm_sent most depth_left ws none form = rw (none, form) refl

sends_again : (most depth_left : ℕ) (c v : Expression) (ws : List Lexeme) → IsComm (CommSend c v) → CommOutcome most depth_left (comm most depth_left (comm_words (CommSend c v) (Mark kinds.Colon ∷ ws))) (CommSend c v) (Mark kinds.Colon ∷ ws)
unfolding form_of
sends_again most depth_left c v ws is =
    let following' = Mark kinds.Arrow ∷ before v (Mark kinds.Colon ∷ ws) in
    rw (comm_sent most depth_left (before c following') (primary_not_arrow (before c following') (begins_primary_again true c following' is.0)) (no_place_form (before c following') (no_form c following' refl))) (sent_again CommSend true most depth_left c v (Mark kinds.Colon ∷ ws) is.0 is.1 (colon_ends ws))

-- what follows a receive in a clause
colon_at : (ws : List Lexeme) → EndsAt true 6 (Mark kinds.Colon ∷ ws)
colon_at ws = ends_at true 6 (Mark kinds.Colon ∷ ws) (colon_ends ws)

receives_again : (most depth_left : ℕ) (c : Expression) (ws : List Lexeme) → IsUnary true c → CommOutcome most depth_left (comm most depth_left (comm_words (CommReceive c) (Mark kinds.Colon ∷ ws))) (CommReceive c) (Mark kinds.Colon ∷ ws)
unfolding comm begins_with
receives_again most depth_left c ws is = made_again CommReceive (received_again true most depth_left c (Mark kinds.Colon ∷ ws) is (colon_at ws)) (λ high. high) (λ low. low) (λ listing. refl)

second_name_again : (ok : Option (List ℕ)) (ws : List Lexeme) → IsAny IsName ok → second plain_name (second_name_words ok (Mark kinds.Define ∷ ws)) ≡ Ok (ok, Mark kinds.Define ∷ ws)
unfolding second begins_with expect
second_name_again None ws is = refl
second_name_again (Some name) ws is = rw (plain_name_again name (Mark kinds.Define ∷ ws) is) refl

second_place_again : (ok : Option Place) (ws : List Lexeme) → IsAny IsPlace ok → second place (second_place_words ok (Mark kinds.Assign ∷ ws)) ≡ Ok (ok, Mark kinds.Assign ∷ ws)
unfolding second begins_with expect
second_place_again None ws is = refl
second_place_again (Some p) ws is = rw (place_again p (Mark kinds.Assign ∷ ws) is refl) refl

define_form : (most depth_left : ℕ) (item : List ℕ) (ok : Option (List ℕ)) (ws : List Lexeme) → IsName item → comm most depth_left (name_words item (second_name_words ok (Mark kinds.Define ∷ ws))) ≡ comm_defined most depth_left (name_words item (second_name_words ok (Mark kinds.Define ∷ ws)))
unfolding comm comm_formed form_of defines begins_with
define_form most depth_left item None ws plain = rw (name_form item (Mark kinds.Define ∷ ws) plain) refl
define_form most depth_left item (Some name) ws plain = rw (name_form item (Mark kinds.Comma ∷ Name name ∷ Mark kinds.Define ∷ ws) plain) refl

defines_again : (most depth_left : ℕ) (item : List ℕ) (ok : Option (List ℕ)) (c : Expression) (ws : List Lexeme) → IsComm (CommDefine item ok c) → CommOutcome most depth_left (comm_defined most depth_left (comm_words (CommDefine item ok c) (Mark kinds.Colon ∷ ws))) (CommDefine item ok c) (Mark kinds.Colon ∷ ws)
unfolding comm_defined expect
defines_again most depth_left item ok c ws is =
    let received = Mark kinds.Arrow ∷ before c (Mark kinds.Colon ∷ ws) in
    rw (plain_name_again item (second_name_words ok (Mark kinds.Define ∷ received)) is.0, second_name_again ok received is.1)
    (then_again _ (received_again true most depth_left c (Mark kinds.Colon ∷ ws) is.2 (colon_at ws)) (λ high. high) (λ listing. omega arith) (λ low few. Found low few refl))

assign_comm : (most depth_left : ℕ) (item : Place) (ok : Option Place) (ws : List Lexeme) → IsPlace item → comm most depth_left (place_words item (second_place_words ok (Mark kinds.Assign ∷ ws))) ≡ comm_assigned most depth_left (place_words item (second_place_words ok (Mark kinds.Assign ∷ ws)))
unfolding comm comm_formed form_of begins_with
assign_comm most depth_left item None ws is = rw (form_after item (Mark kinds.Assign ∷ ws) is) refl
assign_comm most depth_left item (Some p) ws is = rw (form_after item (Mark kinds.Comma ∷ place_words p (Mark kinds.Assign ∷ ws)) is, no_defines item (p ∷ []) ws) refl

second_no_field : (ok : Option Place) (ws : List Lexeme) → begins_with kinds.Period (second_place_words ok (Mark kinds.Assign ∷ ws)) ≡ false
unfolding begins_with
second_no_field None ws = refl
second_no_field (Some p) ws = refl

assigns_again : (most depth_left : ℕ) (item : Place) (ok : Option Place) (c : Expression) (ws : List Lexeme) → IsComm (CommAssign item ok c) → CommOutcome most depth_left (comm_assigned most depth_left (comm_words (CommAssign item ok c) (Mark kinds.Colon ∷ ws))) (CommAssign item ok c) (Mark kinds.Colon ∷ ws)
unfolding comm_assigned expect
assigns_again most depth_left item ok c ws is =
    let received = Mark kinds.Arrow ∷ before c (Mark kinds.Colon ∷ ws) in
    rw (place_again item (second_place_words ok (Mark kinds.Assign ∷ received)) is.0 (second_no_field ok received), second_place_again ok received is.1)
    (then_again _ (received_again true most depth_left c (Mark kinds.Colon ∷ ws) is.2 (colon_at ws)) (λ high. high) (λ listing. omega arith) (λ low few. Found low few refl))

pub comm_again : (most depth_left : ℕ) (c : Comm) (ws : List Lexeme) → IsComm c → CommOutcome most depth_left (comm most depth_left (comm_words c (Mark kinds.Colon ∷ ws))) c (Mark kinds.Colon ∷ ws)
comm_again most depth_left (CommSend c v) ws is = sends_again most depth_left c v ws is
comm_again most depth_left (CommReceive c) ws is = receives_again most depth_left c ws is
comm_again most depth_left (CommDefine item ok c) ws is = rw (define_form most depth_left item ok (Mark kinds.Arrow ∷ before c (Mark kinds.Colon ∷ ws)) is.0) (defines_again most depth_left item ok c ws is)
comm_again most depth_left (CommAssign item ok c) ws is = rw (assign_comm most depth_left item ok (Mark kinds.Arrow ∷ before c (Mark kinds.Colon ∷ ws)) is.0) (assigns_again most depth_left item ok c ws is)

abbrev pub CommSound : (most depth_left : ℕ) → List Lexeme → Comm → List Lexeme → Type 0
CommSound most depth_left = Sound comm_words IsComm comm_below depth_left comm_longest most

second_sound : {A : Type 0} (words : A → List Lexeme → List Lexeme) (Is : A → Type 0) (one : List Lexeme → Reading A) → ((ws : List Lexeme) (x : A) (rest : List Lexeme) → one ws ≡ gave x rest → (ws ≡ words x rest) × Is x)
    → (ws : List Lexeme) (x : Option A) (rest : List Lexeme) → second one ws ≡ gave x rest → (ws ≡ optional (λ y after. Mark kinds.Comma ∷ words y after) x rest) × IsAny Is x
unfolding second
second_sound words Is one sound ws x rest e =
    elim (either (begins_with kinds.Comma ws) (expect kinds.Comma ws >>= λ following'. as_one (λ (y : _). Some y) (one following')) (gave None ws) (x, rest) e) [
      | inl some ↦
          let a = bind_ok (expect kinds.Comma ws) (λ following'. as_one (λ (y : _). Some y) (one following')) (x, rest) some.1 in
          let b = made_is (λ (y : _). Some y) (one a.0) x rest a.2 in
          let s = sound a.0 b.0 rest b.1 in
          subst (λ (y : Option _). (ws ≡ optional (λ z after. Mark kinds.Comma ∷ words z after) y rest) × IsAny Is y) b.2
          (expect_is kinds.Comma ws a.0 a.1 ∙ ap (λ (z : List Lexeme). Mark kinds.Comma ∷ z) s.0, s.1)
      | inr none ↦ subst (λ (y : Option _ × List Lexeme). (ws ≡ optional (λ z after. Mark kinds.Comma ∷ words z after) y.0 y.1) × IsAny Is y.0) (ok_is (None, ws) (x, rest) none.1) (refl, tt)
    ]

second_name_is : (ok : Option (List ℕ)) (rest : List Lexeme) → optional (λ y after. Mark kinds.Comma ∷ name_words y after) ok rest ≡ second_name_words ok rest
second_name_is None rest = refl
second_name_is (Some name) rest = refl

second_place_is : (ok : Option Place) (rest : List Lexeme) → optional (λ y after. Mark kinds.Comma ∷ place_words y after) ok rest ≡ second_place_words ok rest
second_place_is None rest = refl
second_place_is (Some p) rest = refl

abbrev received_words : TokenKind → Expression → List Lexeme → List Lexeme
received_words mark channel rest = Mark mark ∷ Mark kinds.Arrow ∷ before channel rest

received_after_sound : (mark : TokenKind) (most depth_left : ℕ) (ws : List Lexeme) (c : Expression) (rest : List Lexeme) → received_after mark most depth_left ws ≡ gave c rest → Sound (received_words mark) (IsUnary true) expression_height depth_left expression_longest most ws c rest
received_after_sound mark most depth_left ws c rest e =
    let a = bind_ok (expect mark ws) (received true most depth_left) (c, rest) e in
    let r = received_sound true most depth_left a.0 c rest a.2 in
    record { parts = expect_is mark ws a.0 a.1 ∙ ap (λ (x : List Lexeme). Mark mark ∷ x) r.parts; is = r.is; low = r.low; few = r.few }

comm_defined_sound : (most depth_left : ℕ) (ws : List Lexeme) (c : Comm) (rest : List Lexeme) → comm_defined most depth_left ws ≡ gave c rest → CommSound most depth_left ws c rest
unfolding comm_defined
comm_defined_sound most depth_left ws c rest e =
    let a = bind_ok (plain_name ws) (λ item. second plain_name item.1 >>= λ ok. received_after kinds.Define most depth_left ok.1 >>= λ channel. gave (CommDefine item.0 ok.0 channel.0) channel.1) (c, rest) e in
    let b = bind_ok (second plain_name a.0.1) (λ ok. received_after kinds.Define most depth_left ok.1 >>= λ channel. gave (CommDefine a.0.0 ok.0 channel.0) channel.1) (c, rest) a.2 in
    let g = made_is (CommDefine a.0.0 b.0.0) (received_after kinds.Define most depth_left b.0.1) c rest b.2 in
    let r = received_after_sound kinds.Define most depth_left b.0.1 g.0 rest g.1 in
    let n = plain_name_is ws a.0.0 a.0.1 a.1 in
    let s = second_sound name_words IsName plain_name plain_name_is a.0.1 b.0.0 b.0.1 b.1 in
    subst (λ (x : Comm). CommSound most depth_left ws x rest) g.2 (record {
      parts = n.0 ∙ ap (λ (x : List Lexeme). Name a.0.0 ∷ x) (s.0 ∙ second_name_is b.0.0 b.0.1 ∙ ap (second_name_words b.0.0) r.parts);
      is = (n.1, s.1, r.is);
      low = r.low;
      few = r.few;
    })

comm_assigned_sound : (most depth_left : ℕ) (ws : List Lexeme) (c : Comm) (rest : List Lexeme) → comm_assigned most depth_left ws ≡ gave c rest → CommSound most depth_left ws c rest
unfolding comm_assigned
comm_assigned_sound most depth_left ws c rest e =
    let a = bind_ok (place ws) (λ item. second place item.1 >>= λ ok. received_after kinds.Assign most depth_left ok.1 >>= λ channel. gave (CommAssign item.0 ok.0 channel.0) channel.1) (c, rest) e in
    let b = bind_ok (second place a.0.1) (λ ok. received_after kinds.Assign most depth_left ok.1 >>= λ channel. gave (CommAssign a.0.0 ok.0 channel.0) channel.1) (c, rest) a.2 in
    let g = made_is (CommAssign a.0.0 b.0.0) (received_after kinds.Assign most depth_left b.0.1) c rest b.2 in
    let r = received_after_sound kinds.Assign most depth_left b.0.1 g.0 rest g.1 in
    let n = place_sound ws a.0.0 a.0.1 a.1 in
    let s = second_sound place_words IsPlace place place_sound a.0.1 b.0.0 b.0.1 b.1 in
    subst (λ (x : Comm). CommSound most depth_left ws x rest) g.2 (record {
      parts = n.0 ∙ ap (place_words a.0.0) (s.0 ∙ second_place_is b.0.0 b.0.1 ∙ ap (second_place_words b.0.0) r.parts);
      is = (n.1, s.1, r.is);
      low = r.low;
      few = r.few;
    })

comm_sent_sound : (most depth_left : ℕ) (ws : List Lexeme) (c : Comm) (rest : List Lexeme) → sent CommSend true most depth_left ws ≡ gave c rest → CommSound most depth_left ws c rest
comm_sent_sound most depth_left ws c rest e =
    let a = sent_sound CommSend true most depth_left ws c rest e in
    subst (λ (x : Comm). CommSound most depth_left ws x rest) a.made (record { parts = a.parts; is = a.is; low = a.low; few = a.few })

comm_formed_sound : (most depth_left : ℕ) (form : Form) (ws : List Lexeme) (c : Comm) (rest : List Lexeme) → comm_formed most depth_left form ws ≡ gave c rest → CommSound most depth_left ws c rest
unfolding comm_formed
comm_formed_sound most depth_left (forms.Define is) ws c rest e =
    elim (either (defines true ws) (comm_defined most depth_left ws) (comm_assigned most depth_left ws) (c, rest) e) [
      | inl d ↦ comm_defined_sound most depth_left ws c rest d.1
      | inr a ↦ comm_assigned_sound most depth_left ws c rest a.1
    ]
comm_formed_sound most depth_left (forms.Assign is) ws c rest e = comm_assigned_sound most depth_left ws c rest e
comm_formed_sound most depth_left forms.List ws c rest e =
    elim (either (defines true ws) (comm_defined most depth_left ws) (comm_assigned most depth_left ws) (c, rest) e) [
      | inl d ↦ comm_defined_sound most depth_left ws c rest d.1
      | inr a ↦ comm_assigned_sound most depth_left ws c rest a.1
    ]
comm_formed_sound most depth_left forms.Increment ws c rest e = comm_sent_sound most depth_left ws c rest e
comm_formed_sound most depth_left forms.Decrement ws c rest e = comm_sent_sound most depth_left ws c rest e
comm_formed_sound most depth_left (forms.Update o) ws c rest e = comm_sent_sound most depth_left ws c rest e
comm_formed_sound most depth_left forms.Other ws c rest e = comm_sent_sound most depth_left ws c rest e

comm_receive_sound : (most depth_left : ℕ) (ws : List Lexeme) (c : Comm) (rest : List Lexeme) → as_one CommReceive (received true most depth_left ws) ≡ gave c rest → CommSound most depth_left ws c rest
comm_receive_sound most depth_left ws c rest e =
    let a = made_is CommReceive (received true most depth_left ws) c rest e in
    let r = received_sound true most depth_left ws a.0 rest a.1 in
    subst (λ (x : Comm). CommSound most depth_left ws x rest) a.2 (record { parts = r.parts; is = r.is; low = r.low; few = r.few })

pub comm_sound : (most depth_left : ℕ) (ws : List Lexeme) (c : Comm) (rest : List Lexeme) → comm most depth_left ws ≡ gave c rest → CommSound most depth_left ws c rest
unfolding comm
comm_sound most depth_left ws c rest e =
    elim (either (begins_with kinds.Arrow ws) (as_one CommReceive (received true most depth_left ws)) (comm_formed most depth_left (place_form ws) ws) (c, rest) e) [
      | inl r ↦ comm_receive_sound most depth_left ws c rest r.1
      | inr f ↦ comm_formed_sound most depth_left (place_form ws) ws c rest f.1
    ]
