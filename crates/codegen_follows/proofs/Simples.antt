-- What is wrong with a simple statement that declares nothing is so in any block.
use Rattle.std.proofs.Common.{◌≡◌, ℕ, ◌+◌, List, [], ◌∷◌, length, refl, ap, ◌∙◌, subst, inl, inr, ◌++◌}
use Rattle.syntax.specs.Tree.{Expression, expressions, Arguments, Place, Part, Value, Text, Simple, CallAlone, Close, Print, ReceiveAlone, Send, Increment, Decrement, Assign, Define, Update}
use Rattle.syntax.specs.Measures.{expression_size, arguments_size, part_size, simple_size}
use Rattle.typing_rules.specs.declared.violation.Violation.{Violation}
use Rattle.type_table.specs.Scopes.{Variable, Scope, Globals}
use Rattle.typing_rules.specs.Worths.{worth, element_of}
use Rattle.typing_rules.specs.Expressions.{nodes_of, ValueHas, ChannelHas, ReceivedHas, SentHas, PrintedHas}
use Rattle.typing_rules.specs.Operations.{CallHas, ReceiveHas, MeasuredHas, Given, given_values, given, RightHas, place_type, PlacesFail, PlacesHave, also_given}
use Rattle.typing_rules.specs.Simples.{PartsHave, UpdatedHas, AssignedHave, SimpleHas}
use Rattle.codegen_follows.proofs.Stands.{DeclaresNone}
use Rattle.codegen_follows.proofs.Outers.{one, other, worth_same, has_same, have_same, callee_same}
use Rattle.typing_rules.specs.Calls.{callee}

module _ (globals : Globals) (variables : List Variable) (a b n m : ℕ) where
  abbrev s : Scope
  s = one globals variables a b n m

  abbrev t : Scope
  t = other globals variables a b n m

  worths : (e : Expression) → worth globals s e ≡ worth globals t e
  worths = worth_same globals variables a b n m

  -- ---- calls

  call_same : (first : ℕ) (function : List ℕ) (arguments : Arguments) (violation : Violation) → CallHas globals s first function arguments violation → CallHas globals t first function arguments violation
  call_same first function arguments violation (inl h) = inl (have_same globals variables a b n m (expressions arguments.values) first violation h)
  call_same first function arguments violation (inr h) = inr (callee_same globals variables a b n m (callee globals s function) first arguments.values (first + arguments_size arguments + 1) violation h)

  measured_same : (first : ℕ) (e : Expression) (violation : Violation) → MeasuredHas globals s first e violation → MeasuredHas globals t first e violation
  measured_same first e violation (inl h) = inl (has_same globals variables a b n m e first violation h)
  measured_same first e violation (inr h) = inr (subst (λ o. ChannelHas o (nodes_of first e) violation) (worths e) h)

  receive_same : (first : ℕ) (e : Expression) (violation : Violation) → ReceiveHas globals s first e violation → ReceiveHas globals t first e violation
  receive_same first e violation (inl h) = inl (has_same globals variables a b n m e first violation h)
  receive_same first e violation (inr (inl h)) = inr (inl (subst (λ o. ChannelHas o (nodes_of first e) violation) (worths e) h))
  receive_same first e violation (inr (inr h)) = inr (inr (subst (λ o. ReceivedHas o (first + expression_size e + 1) violation) (worths e) h))

  -- ---- right sides

  right_same : (right : List Expression) (first : ℕ) (violation : Violation) → RightHas globals s first right violation → RightHas globals t first right violation
  right_same values first violation h = have_same globals variables a b n m (expressions values) first violation h

  values_same : (values : List Expression) (first : ℕ) → given_values globals s first values ≡ given_values globals t first values
  values_same [] first = refl
  values_same (e ∷ es) first =
      ap (λ (l : List Given). record { worth = worth globals s e; nodes = nodes_of first e } ∷ l) (values_same es (first + expression_size e))
      ∙ ap (λ w. record { worth = w; nodes = nodes_of first e } ∷ given_values globals t (first + expression_size e) es) (worths e)

  given_same : (right : List Expression) (places first : ℕ) → given globals s places first right ≡ given globals t places first right
  given_same right places first = ap (λ (l : List Given). l ++ also_given places first right) (values_same right first)

  -- ---- lvalues

  places_same : (places : List Place) (first : ℕ) (violation : Violation) → PlacesHave globals s first places violation → PlacesHave globals t first places violation
  places_same [] first violation h = h
  places_same (place ∷ places) first violation (inl h) = inl h
  places_same (place ∷ places) first violation (inr h) = inr (places_same places (first + 1) violation h)

  fails_same : (places : List Place) (values : List Given) (violation : Violation) → PlacesFail globals s places values violation → PlacesFail globals t places values violation
  fails_same [] values violation h = h
  fails_same (place ∷ places) [] violation h = h
  fails_same (place ∷ places) (value ∷ values) violation (inl h) = inl h
  fails_same (place ∷ places) (value ∷ values) violation (inr h) = inr (fails_same places values violation h)

  assigned_same : (places : List Place) (values : List Given) (end : ℕ) (violation : Violation) → AssignedHave globals s places values end violation → AssignedHave globals t places values end violation
  assigned_same places values end violation (inl h) = inl h
  assigned_same places values end violation (inr h) = inr (fails_same places values violation h)

  parts_same : (parts : List Part) (first : ℕ) (violation : Violation) → PartsHave globals s first parts violation → PartsHave globals t first parts violation
  parts_same [] first violation h = h
  parts_same (Value e ∷ parts) first violation (inl (inl h)) = inl (inl (has_same globals variables a b n m e first violation h))
  parts_same (Value e ∷ parts) first violation (inl (inr h)) = inl (inr (subst (λ o. PrintedHas o (nodes_of first e) violation) (worths e) h))
  parts_same (Text bytes ∷ parts) first violation (inl h) = absurd h
  parts_same (part ∷ parts) first violation (inr h) = inr (parts_same parts (first + part_size part) violation h)

  -- ---- simple statements

  pub simple_same : (simple : Simple) (first : ℕ) (violation : Violation) → DeclaresNone simple → SimpleHas globals s first simple violation → SimpleHas globals t first simple violation
  simple_same (CallAlone function arguments) first violation none h = call_same first function arguments violation h
  simple_same (Close e) first violation none (inl h) = inl (measured_same first e violation h)
  simple_same (Close e) first violation none (inr h) = inr (subst (λ o. SentHas o (first + expression_size e + 1) violation) (worths e) h)
  simple_same (Print line parts trailing) first violation none h = parts_same parts first violation h
  simple_same (ReceiveAlone e) first violation none h = receive_same first e violation h
  simple_same (Send e value) first violation none (inl h) = inl (has_same globals variables a b n m e first violation h)
  simple_same (Send e value) first violation none (inr (inl h)) = inr (inl (has_same globals variables a b n m value (first + expression_size e) violation h))
  simple_same (Send e value) first violation none (inr (inr (inl h))) = inr (inr (inl (subst (λ o. ChannelHas o (nodes_of first e) violation) (worths e) h)))
  simple_same (Send e value) first violation none (inr (inr (inr (inl h)))) = inr (inr (inr (inl (subst (λ o. SentHas o (first + simple_size (Send e value)) violation) (worths e) h))))
  simple_same (Send e value) first violation none (inr (inr (inr (inr h)))) =
      inr (inr (inr (inr (subst (λ o. ValueHas o (element_of (worth globals t e)) (nodes_of (first + expression_size e) value) violation) (worths value)
      (subst (λ o. ValueHas (worth globals s value) (element_of o) (nodes_of (first + expression_size e) value) violation) (worths e) h)))))
  simple_same (Increment place) first violation none h = h
  simple_same (Decrement place) first violation none h = h
  simple_same (Assign places right) first violation none (inl h) = inl (places_same places first violation h)
  simple_same (Assign places right) first violation none (inr (inl h)) = inr (inl (right_same right (first + length places) violation h))
  simple_same (Assign places right) first violation none (inr (inr h)) =
      inr (inr (subst (λ (l : List Given). AssignedHave globals t places l (first + simple_size (Assign places right)) violation) (given_same right (length places) (first + length places))
      (assigned_same places (given globals s (length places) (first + length places) right) (first + simple_size (Assign places right)) violation h)))
  simple_same (Define names right) first violation none h = absurd none
  simple_same (Update place operator value) first violation none (inl h) = inl h
  simple_same (Update place operator value) first violation none (inr (inl h)) = inr (inl (has_same globals variables a b n m value (first + 1) violation h))
  simple_same (Update place operator value) first violation none (inr (inr h)) =
      inr (inr (subst (λ o. UpdatedHas operator (place_type globals t place) o (nodes_of (first + 1) value) (first + 1 + expression_size value + 1) violation) (worths value) h))
