-- Small statements, by computation.
use Rattle.std.proofs.Common.{◌≡◌, ℕ, List, true, false, [], ◌∷◌, Some, None, codes, refl, inl, inr}
use Rattle.go_text.specs.declared.rule.Rule.TheVariants as rules
use Rattle.syntax.specs.declared.node.Direction.TheVariants as directions
use Rattle.syntax.specs.declared.node.BinaryOperator.TheVariants as ops
use Rattle.syntax.specs.Tree.{NamedType, Expression, Integer, Named, Parenthesized, Binary, Receive, Length, Place, Simple, Define, Assign, Bare, First, NoTarget, DefineTarget, Forever, While, ForClauses, Range, CommReceive, CommDefine, NoValue, ReturnedValue, Statement, Empty, Alone, VarTyped, Block, If, For, Select, Return, Break, Continue, Statements, NoStatement, Then, Conditional, NoElse, ElseBlock, NoClause, Clause}
use Rattle.typing_rules.specs.declared.violation.Violation.{Violation}
use Rattle.typing_rules.specs.declared.violation.Violation.TheVariants.{Broken}
use Rattle.type_table.specs.Types.{IntType, BoolType, ChannelType}
use Rattle.type_table.specs.Scopes.{nothing_declared, Globals, Scope, Variable, NoResult, Yields}
use Rattle.typing_rules.specs.Statements.{Setting, in_for, in_select, after_all, StatementHas, StatementsHave}
use Rattle.typing_rules.specs.Terminating.{terminates, last_terminates}

abbrev none : Globals
none = record { types = []; structs = []; functions = [] }

-- in the body of a function without a result, and of one with an int
abbrev plain : Setting
plain = record { globals = none; result = NoResult; breaks = false; continues = false }

abbrev counting : Setting
counting = record { globals = none; result = Yields (Some IntType); breaks = false; continues = false }

abbrev one : Expression
one = Integer (Some 1)

abbrev x : Expression
x = Named (codes "x")

abbrev c : Expression
c = Named (codes "c")

abbrev truth : Expression
truth = Named (codes "true")

abbrev at_x : Place
at_x = record { name = codes "x"; fields = [] }

abbrev set_x : Simple
set_x = Define (codes "x" ∷ []) (one ∷ [])

abbrev new_x : Statement
new_x = Alone set_x

abbrev new_y : Statement
new_y = Alone (Define (codes "y" ∷ []) (one ∷ []))

-- x = 1
abbrev to_x : Statement
to_x = Alone (Assign (at_x ∷ []) (one ∷ []))

abbrev alone : Statement → Statements
alone statement = Then statement NoStatement

-- c, a channel of ints to send and receive, to send alone, and to receive alone
abbrev both : Variable
both = record { name = codes "c"; kind = Some (ChannelType directions.Both IntType); place = 0 }

abbrev with_c : Scope
with_c = record { variables = both ∷ []; outer = 0; words = 1 }

abbrev with_sender : Scope
with_sender = record { variables = record { name = codes "c"; kind = Some (ChannelType directions.Send IntType); place = 0 } ∷ []; outer = 0; words = 1 }

-- ---- what is visible after statements, and the words that are taken

-- { x := 1; { x := 1; y := 1 } }
abbrev nested : Statements
nested = Then new_x (alone (Block (Then new_x (alone new_y))))

words-nested : (after_all none nothing_declared nested).words ≡ 3
words-nested = refl

visible-nested : (after_all none nothing_declared nested).variables ≡ record { name = codes "x"; kind = Some IntType; place = 0 } ∷ []
visible-nested = refl

-- x := 1; if x := 1; true { x := 1 } else { y := 1 }: only the first x is left, of four
abbrev branching : Statements
branching = Then new_x (alone (If (Conditional (First set_x) truth (alone new_x) (ElseBlock (alone new_y)))))

words-branching : (after_all none nothing_declared branching).words ≡ 4
words-branching = refl

visible-branching : (after_all none nothing_declared branching).variables ≡ record { name = codes "x"; kind = Some IntType; place = 0 } ∷ []
visible-branching = refl

-- for x := 1; ; { x := 1 }
words-for : after_all none nothing_declared (alone (For (ForClauses (Some set_x) None None) (alone new_x))) ≡ record { variables = []; outer = 0; words = 2 }
words-for = refl

-- for x := range c { y := 1 }
words-range : after_all none with_c (alone (For (Range (DefineTarget (codes "x")) c) (alone new_y))) ≡ record { variables = both ∷ []; outer = 0; words = 3 }
words-range = refl

-- select { case x := <-c: y := 1; default: x := 1 }
words-select : after_all none with_c (alone (Select (Clause (Some (CommDefine (codes "x") None c)) (alone new_y) (Clause None (alone new_x) NoClause)))) ≡ record { variables = both ∷ []; outer = 0; words = 4 }
words-select = refl

-- var x, _ int
words-var : after_all none nothing_declared (alone (VarTyped (codes "x" ∷ codes "_" ∷ []) (NamedType (codes "int")) None)) ≡ record { variables = record { name = codes "x"; kind = Some IntType; place = 0 } ∷ []; outer = 0; words = 1 }
words-var = refl

-- x, y := <-c: an int, and whether it was sent
abbrev pair : List (List ℕ)
pair = codes "x" ∷ codes "y" ∷ []

types-pair : after_all none with_c (alone (Alone (Define pair (Receive c ∷ []))))
    ≡ record { variables = both ∷ record { name = codes "x"; kind = Some IntType; place = 1 } ∷ record { name = codes "y"; kind = Some BoolType; place = 2 } ∷ []; outer = 0; words = 3 }
types-pair = refl

-- x := <-c + len(c)
types-inner : after_all none with_c (alone (Alone (Define (codes "x" ∷ []) (Binary ops.Add (Receive c) (Length c) ∷ []))))
    ≡ record { variables = both ∷ record { name = codes "x"; kind = Some IntType; place = 1 } ∷ []; outer = 0; words = 2 }
types-inner = refl

-- ---- terminating statements

abbrev returns : Statements
returns = alone (Return NoValue)

-- for { { break } } does not terminate, and for { for { break } } does
leaves : terminates (For Forever (alone (Block (alone Break)))) ≡ false
leaves = refl

stays : terminates (For Forever (alone (For Forever (alone Break)))) ≡ true
stays = refl

-- a break of a select leaves no `for`
stays-select : terminates (For Forever (alone (Select (Clause None (alone Break) NoClause)))) ≡ true
stays-select = refl

-- for true {}, for ; ; {} and for range c {}
tested : terminates (For (While truth) NoStatement) ≡ false
tested = refl

untested : terminates (For (ForClauses None None None) NoStatement) ≡ true
untested = refl

ranging : terminates (For (Range NoTarget c) NoStatement) ≡ false
ranging = refl

-- if true { return }, and with else { return }
half : terminates (If (Conditional Bare truth returns NoElse)) ≡ false
half = refl

both_halves : terminates (If (Conditional Bare truth returns (ElseBlock returns))) ≡ true
both_halves = refl

-- select {}, select { case <-c: return }, and select { case <-c: return; default: break }
nothing : terminates (Select NoClause) ≡ true
nothing = refl

clause : terminates (Select (Clause (Some (CommReceive c)) returns NoClause)) ≡ true
clause = refl

breaking : terminates (Select (Clause (Some (CommReceive c)) returns (Clause None (alone Break) NoClause))) ≡ false
breaking = refl

-- empty statements after a return, and others
semicolons : last_terminates false (Then (Return NoValue) (Then Empty (alone Empty))) ≡ true
semicolons = refl

more : last_terminates false (Then (Return NoValue) (alone to_x)) ≡ false
more = refl

-- ---- what is wrong

-- { x := 1 }; x = 1 violates rule 3 at the lvalue, the fifth node
hidden : StatementsHave plain nothing_declared 0 (Then (Block (alone new_x)) (alone to_x)) (Broken rules.Visible 4)
hidden = inr (inl (inl (inl (inl (refl, (refl, refl))))))

-- x := 1; x := 1 violates rule 9 at the second one, and { x := 1 } after x := 1 does not
again : StatementsHave plain nothing_declared 0 (Then new_x (alone new_x)) (Broken rules.NewName 3)
again = inr (inl (inr (inr (inl (inr (refl, (refl, refl)))))))

-- if 1 {} violates rule 14 at the condition
number : StatementHas plain nothing_declared 0 (If (Conditional Bare one NoStatement NoElse)) (Broken rules.Condition 0)
number = inl (inr (inr (refl, refl)))

-- for x := 1; x; {} does too
counted : StatementHas plain nothing_declared 0 (For (ForClauses (Some set_x) (Some x) None) NoStatement) (Broken rules.Condition 2)
counted = inl (inr (inl (inr (refl, (refl, refl)))))

-- for range 1 {} violates rule 12 at the operand
no_channel : StatementHas plain nothing_declared 0 (For (Range NoTarget one) NoStatement) (Broken rules.Channel 0)
no_channel = inl (inr (inl (inr (inl (refl, (refl, refl))))))

-- for range c {} violates rule 11 at the `for`, if c is a send-only channel
sender : StatementHas plain with_sender 0 (For (Range NoTarget c) NoStatement) (Broken rules.Direction 2)
sender = inl (inr (inl (inr (inr (refl, (refl, refl))))))

-- for _ := range c { x := 1 } violates rule 9 at the `for`, after its body
no_name : StatementHas plain with_c 0 (For (Range (DefineTarget (codes "_")) c) (alone new_x)) (Broken rules.NewName 4)
no_name = inl (inr (inr (inr (refl, (refl, refl)))))

-- break and continue outside of a `for`, and continue in a select
no_break : StatementHas plain nothing_declared 0 Break (Broken rules.Branch 0)
no_break = (refl, (refl, refl))

no_continue : StatementHas plain nothing_declared 0 (Select (Clause None (alone Continue) NoClause)) (Broken rules.Branch 0)
no_continue = inl (inr (inl (inl (refl, (refl, refl)))))

may_break : (violation : Violation) → StatementHas (in_select plain) nothing_declared 0 Break violation → ⊥
may_break violation h = let e = h.0 in cc

may_continue : (violation : Violation) → StatementHas (in_select (in_for plain)) nothing_declared 0 Continue violation → ⊥
may_continue violation h = let e = h.0 in cc

-- select { default: default: } violates rule 20 at the select
defaults : StatementHas plain nothing_declared 0 (Select (Clause None NoStatement (Clause None NoStatement NoClause))) (Broken rules.OneDefault 2)
defaults = inr (refl, (refl, refl))

-- return 1 without a result, return with one, and return true for an int
too_much : StatementHas plain nothing_declared 0 (Return (ReturnedValue one)) (Broken rules.Returned 1)
too_much = inr (refl, refl)

too_little : StatementHas counting nothing_declared 0 (Return NoValue) (Broken rules.Returned 0)
too_little = inr (refl, refl)

other_type : StatementHas counting nothing_declared 0 (Return (ReturnedValue truth)) (Broken rules.Assignable 0)
other_type = inr (refl, (refl, refl))

-- x, y := (<-c) violates rule 8 at the `:=`, after the parentheses
in_parentheses : StatementHas plain with_c 0 (Alone (Define pair (Parenthesized (Receive c) ∷ []))) (Broken rules.Numbers 3)
in_parentheses = inr (inl (refl, (refl, refl)))

-- x := <-c + 1 violates rule 11 at the receive, if c is send-only, and x := len(1) + 1 violates rule 12 at the operand
inner_sender : StatementHas plain with_sender 0 (Alone (Define (codes "x" ∷ []) (Binary ops.Add (Receive c) one ∷ []))) (Broken rules.Direction 1)
inner_sender = inl (inl (inl (inr (inr (refl, (refl, refl))))))

inner_length : StatementHas plain nothing_declared 0 (Alone (Define (codes "x" ∷ []) (Binary ops.Add (Length one) one ∷ []))) (Broken rules.Channel 0)
inner_length = inl (inl (inl (inr (refl, (refl, refl)))))

-- if <-c {} violates rule 14 at the receive, of an int
tested_item : StatementHas plain with_c 0 (If (Conditional Bare (Receive c) NoStatement NoElse)) (Broken rules.Condition 1)
tested_item = inl (inr (inr (refl, (refl, refl))))
