-- Files of which the definitions say what is so by computation alone.
use Rattle.std.proofs.Common.{◌≡◌, ℕ, true, false, List, [], ◌∷◌, Some, None, refl, codes}
use Rattle.go_text.specs.declared.rule.Rule.TheVariants as rules
use Rattle.syntax.specs.declared.node.Direction.TheVariants as directions
use Rattle.syntax.specs.Tree.{TypeExpression, NamedType, Channel, Empty, For, Forever, Break, statements, Declared, StructTop, FunctionTop, Top}
use Rattle.type_table.specs.Types.{IntType, StructType}
use Rattle.type_table.specs.Containment.{width}
use Rattle.type_table.specs.Scopes.{Yields}
use Rattle.typing_rules.specs.declared.role.Role.TheVariants as roles
use Rattle.typing_rules.specs.Kinds.{type_names, function_names, structs, globals_of, parameters}
use Rattle.typing_rules.specs.Declarations.{broken_by, is_function_taken, struct_node}
use Rattle.typing_rules.specs.Files.{is_ended, has_main}

int : TypeExpression
int = NamedType (codes "int")

-- two names of one type
group : List ℕ → List ℕ → TypeExpression → Declared
group one other kind = record { names = one ∷ other ∷ []; type_expression = kind }

-- type P struct { a, b int }; func main() {}; type Q struct { p, q P; c, d chan int }; func f(_, p Q) bool {}
tops : List Top
unfolding int group
tops =
    StructTop (record { name = codes "P"; fields = group (codes "a") (codes "b") int ∷ []; trailing = false })
    ∷ FunctionTop (record { name = codes "main"; parameters = []; trailing = false; result = None; body = statements (Empty ∷ []) })
    ∷ StructTop (record {
      name = codes "Q";
      fields = group (codes "p") (codes "q") (NamedType (codes "P")) ∷ group (codes "c") (codes "d") (Channel directions.Both int) ∷ [];
      trailing = false;
    })
    ∷ FunctionTop (record {
      name = codes "f";
      parameters = group (codes "_") (codes "p") (NamedType (codes "Q")) ∷ [];
      trailing = false;
      result = Some (NamedType (codes "bool"));
      body = statements (Empty ∷ []);
    })
    ∷ []

types_named : type_names tops ≡ codes "P" ∷ codes "Q" ∷ []
unfolding tops int group
types_named = refl

functions_named : function_names tops ≡ codes "main" ∷ codes "f" ∷ []
unfolding tops int group
functions_named = refl

-- Q takes two times two words for its fields of type P, and one for each channel
words_of_Q : width (structs tops) (StructType 1) ≡ Some 6
unfolding tops int group
words_of_Q = refl

node_of_Q : struct_node 0 tops 1 ≡ Some 11
unfolding tops int group
node_of_Q = refl

-- two parameters of type Q, of which `_` takes words too
words_of_f : (parameters (globals_of tops) (record { name = codes "f"; parameters = group (codes "_") (codes "p") (NamedType (codes "Q")) ∷ []; trailing = false; result = None; body = statements (Empty ∷ []) })).words ≡ 12
unfolding tops int group
words_of_f = refl

main_is_there : has_main (globals_of tops).functions ≡ true
unfolding tops int group
main_is_there = refl

-- a name of a parameter occurs twice, that of a field too
repeated_parameter : broken_by roles.Parameter (codes "x" ∷ []) (codes "x") ≡ Some rules.Declared
repeated_parameter = refl

repeated_field : broken_by roles.Field (codes "x" ∷ []) (codes "x") ≡ Some rules.Struct
repeated_field = refl

blank_parameter : broken_by roles.Parameter (codes "_" ∷ []) (codes "_") ≡ None
blank_parameter = refl

blank_field : broken_by roles.Field [] (codes "_") ≡ Some rules.Declared
blank_field = refl

-- a function is called as a type is, or as one before it
called_as_a_type : is_function_taken (codes "P" ∷ []) (codes "P" ∷ []) 0 (codes "P") ≡ true
called_as_a_type = refl

called_again : is_function_taken [] (codes "f" ∷ codes "f" ∷ []) 1 (codes "f") ≡ true
called_again = refl

called_first : is_function_taken [] (codes "f" ∷ codes "f" ∷ []) 0 (codes "f") ≡ false
called_first = refl

-- a `for` with a break out of it does not end a function that has a result
endless : is_ended (Yields (Some IntType)) (statements (For Forever (statements (Empty ∷ [])) ∷ Empty ∷ [])) ≡ true
endless = refl

broken_out : is_ended (Yields (Some IntType)) (statements (For Forever (statements (Break ∷ [])) ∷ [])) ≡ false
broken_out = refl
