-- A violation's node is one of the file's.
use Rattle.std.proofs.lemmas.Option.{same_Some}
use Rattle.std.proofs.Common.{◌≡◌, ℕ, zero, suc, ◌+◌, ◌<◌, inl, inr, List, [], ◌∷◌, ◌++◌, Option, Some, None, sum_by, arith}
use Rattle.std.proofs.lemmas.List.Sums.{sum_by-cons}
use Rattle.go_text.specs.declared.rule.Rule.{Rule}
use Rattle.syntax.specs.Tree.{TypeExpression, Declared, Struct, Function, Top, StructTop, FunctionTop, File}
use Rattle.syntax.specs.Measures.{if_any, type_size, declared_size, function_size, top_size, size}
use Rattle.type_table.specs.Types.{StructType}
use Rattle.type_table.specs.Containment.{Structs, width}
use Rattle.type_table.specs.Scopes.{Globals, nothing_declared, type_in}
use Rattle.typing_rules.specs.declared.violation.Violation.{Violation}
use Rattle.typing_rules.specs.declared.role.Role.{Role}
use Rattle.typing_rules.specs.declared.role.Role.TheVariants as roles
use Rattle.typing_rules.specs.Kinds.{type_names, function_names, structs, globals_of, parameters}
use Rattle.typing_rules.specs.Declarations.{broken_by, NameHas, NamesHave, GroupHas, GroupsHave, StructHas, counting_struct, StructsHave, WidthHas, struct_node, ContentsHave, IfTypeHas, HeadHas, HeaderHas, counting_function, HeadersHave}
use Rattle.typing_rules.specs.Files.{setting_of, BodyHas, BodiesHave, FileHas}
use Rattle.typing_rules.specs.Nodes.{node_of}
use Rattle.typing_rules.proofs.ExpressionNodes.{broken, exceeded, type_positive, type_within}
use Rattle.checker.proofs.StatementNodes.{statements_within}

-- ---- fields and parameters

name_within : (o : Option Rule) (end : ℕ) (violation : Violation) → NameHas o end violation → node_of violation < end
name_within None end violation has = absurd has
name_within (Some rule) end violation has = omega (arith, broken _ end violation has)

names_within : (role : Role) (before names : List (List ℕ)) (end : ℕ) (violation : Violation) → NamesHave role before names end violation → node_of violation < end
names_within role before [] end violation has = absurd has
names_within role before (name ∷ names) end violation (inl has) = name_within (broken_by role before name) end violation has
names_within role before (name ∷ names) end violation (inr has) = names_within role (before ++ name ∷ []) names end violation has

group_within : (role : Role) (types before : List (List ℕ)) (first : ℕ) (group : Declared) (violation : Violation) → GroupHas role types before first group violation → node_of violation < first + declared_size group
group_within role types before first group violation (inl has) = names_within role before group.names (first + declared_size group) violation has
group_within role types before first group violation (inr has) = omega (arith, type_within (type_in types nothing_declared group.type_expression) first violation has)

groups_within : (role : Role) (types before : List (List ℕ)) (first : ℕ) (groups : List Declared) (violation : Violation) → GroupsHave role types before first groups violation → node_of violation < first + sum_by declared_size groups
groups_within role types before first [] violation has = absurd has
groups_within role types before first (group ∷ rest) violation (inl has) = omega (arith, group_within role types before first group violation has, sum_by-cons declared_size group rest)
groups_within role types before first (group ∷ rest) violation (inr has) = omega (arith, groups_within role types (before ++ group.names) (first + declared_size group) rest violation has, sum_by-cons declared_size group rest)

-- ---- struct types

struct_within : (types : List (List ℕ)) (number first : ℕ) (s : Struct) (violation : Violation) → StructHas types number first (first + top_size (StructTop s)) s violation → node_of violation < first + top_size (StructTop s)
struct_within types number first s violation (inl has) = omega (arith, broken _ (first + top_size (StructTop s)) violation has.1)
struct_within types number first s violation (inr (inl has)) = omega (arith, exceeded _ (first + top_size (StructTop s)) violation has.1)
struct_within types number first s violation (inr (inr (inl has))) = omega (arith, groups_within roles.Field types [] first s.fields violation has)
struct_within types number first s violation (inr (inr (inr has))) = omega (arith, broken _ (first + top_size (StructTop s)) violation has.1)

structs_within : (types : List (List ℕ)) (number first : ℕ) (tops : List Top) (violation : Violation) → StructsHave types number first tops violation → node_of violation < first + sum_by top_size tops
structs_within types number first [] violation has = absurd has
structs_within types number first (StructTop s ∷ rest) violation (inl has) = omega (arith, struct_within types number first s violation has, sum_by-cons top_size (StructTop s) rest)
structs_within types number first (FunctionTop f ∷ rest) violation (inl has) = absurd has
structs_within types number first (top ∷ rest) violation (inr has) = omega (arith, structs_within types (counting_struct number top) (first + top_size top) rest violation has, sum_by-cons top_size top rest)

node_there : (tops : List Top) (first number node : ℕ) → struct_node first tops number ≡ Some node → node < first + sum_by top_size tops
node_there [] first number node e = cc
node_there (FunctionTop f ∷ rest) first number node e = omega (arith, node_there rest (first + top_size (FunctionTop f)) number node e, sum_by-cons top_size (FunctionTop f) rest)
node_there (StructTop s ∷ rest) first zero node e =
    let same : first + sum_by declared_size s.fields ≡ node = same_Some _ _ e in omega (arith, same, sum_by-cons top_size (StructTop s) rest)
node_there (StructTop s ∷ rest) first (suc number) node e = omega (arith, node_there rest (first + top_size (StructTop s)) number node e, sum_by-cons top_size (StructTop s) rest)

width_within : (o : Option ℕ) (end : ℕ) (violation : Violation) → WidthHas o end violation → node_of violation + 1 ≡ end
width_within None end violation has = absurd has
width_within (Some words) end violation has = exceeded _ end violation has.1

contents_within : (all : Structs) (tops : List Top) (violation : Violation) → ContentsHave all tops violation → node_of violation < sum_by top_size tops
contents_within all tops violation (number, node, at, inl has) = omega (arith, broken _ (node + 1) violation has.1, node_there tops 0 number node at)
contents_within all tops violation (number, node, at, inr has) = omega (arith, width_within (width all (StructType number)) (node + 1) violation has, node_there tops 0 number node at)

-- ---- heads of functions

if_type_within : (types : List (List ℕ)) (kind : Option TypeExpression) (first : ℕ) (violation : Violation) → IfTypeHas types kind first violation → node_of violation < first + if_any type_size kind
if_type_within types None first violation has = absurd has
if_type_within types (Some kind) first violation has = omega (arith, type_within (type_in types nothing_declared kind) first violation has, type_positive kind)

head_within : (types : List (List ℕ)) (first : ℕ) (f : Function) (violation : Violation) → HeadHas types first f violation → node_of violation < first + function_size f
head_within types first f violation (inl has) = omega (arith, groups_within roles.Parameter types [] first f.parameters violation has)
head_within types first f violation (inr has) = omega (arith, if_type_within types f.result (first + sum_by declared_size f.parameters) violation has)

header_within : (types functions : List (List ℕ)) (number first : ℕ) (f : Function) (violation : Violation) → HeaderHas types functions number first (first + top_size (FunctionTop f)) f violation → node_of violation < first + top_size (FunctionTop f)
header_within types functions number first f violation (inl has) = omega (arith, broken _ (first + top_size (FunctionTop f)) violation has.1)
header_within types functions number first f violation (inr (inl has)) = omega (arith, exceeded _ (first + top_size (FunctionTop f)) violation has.1)
header_within types functions number first f violation (inr (inr has)) = head_within types first f violation has

headers_within : (types functions : List (List ℕ)) (number first : ℕ) (tops : List Top) (violation : Violation) → HeadersHave types functions number first tops violation → node_of violation < first + sum_by top_size tops
headers_within types functions number first [] violation has = absurd has
headers_within types functions number first (StructTop s ∷ rest) violation (inl has) = absurd has
headers_within types functions number first (FunctionTop f ∷ rest) violation (inl has) = omega (arith, header_within types functions number first f violation has, sum_by-cons top_size (FunctionTop f) rest)
headers_within types functions number first (top ∷ rest) violation (inr has) = omega (arith, headers_within types functions (counting_function number top) (first + top_size top) rest violation has, sum_by-cons top_size top rest)

-- ---- bodies of functions

body_within : (globals : Globals) (f : Function) (first : ℕ) (violation : Violation) → BodyHas globals first f violation → node_of violation < first + function_size f
body_within globals f first violation (inl has) = omega (arith, statements_within (setting_of globals f) (parameters globals f) f.body (first + sum_by declared_size f.parameters + if_any type_size f.result) violation has)
body_within globals f first violation (inr (inl has)) = omega (arith, exceeded _ (first + function_size f) violation has.1)
body_within globals f first violation (inr (inr has)) = omega (arith, broken _ (first + function_size f) violation has.1)

bodies_within : (globals : Globals) (tops : List Top) (first : ℕ) (violation : Violation) → BodiesHave globals first tops violation → node_of violation < first + sum_by top_size tops
bodies_within globals [] first violation has = absurd has
bodies_within globals (StructTop s ∷ rest) first violation (inl has) = absurd has
bodies_within globals (FunctionTop f ∷ rest) first violation (inl has) = omega (arith, body_within globals f first violation has, sum_by-cons top_size (FunctionTop f) rest)
bodies_within globals (top ∷ rest) first violation (inr has) = omega (arith, bodies_within globals rest (first + top_size top) violation has, sum_by-cons top_size top rest)

-- ---- the file

pub file_within : (file : File) (violation : Violation) → FileHas file violation → node_of violation < size file
file_within file violation (inl (inl (inl has))) = omega (arith, structs_within (type_names file.tops) 0 0 file.tops violation has)
file_within file violation (inl (inl (inr has))) = omega (arith, contents_within (structs file.tops) file.tops violation has)
file_within file violation (inl (inr has)) = omega (arith, headers_within (type_names file.tops) (function_names file.tops) 0 0 file.tops violation has)
file_within file violation (inr (inl has)) = omega (arith, broken _ (size file) violation has.1)
file_within file violation (inr (inr has)) = omega (arith, bodies_within (globals_of file.tops) file.tops 0 violation has)
