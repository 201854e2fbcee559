-- What the getters of a command's values read, and what the loops over the commands and their arguments keep.
use Rattle.std.proofs.Common.{Bool, false, ◌≡◌, ℕ, ◌<◌, ◌≤◌, ◌+◌, ◌^◌, List, drop, length, slice_index_or, Option, Some, None, Result, Ok, Err, refl, sym, ap, ap₂, subst, ◌∙◌}
use Rattle.std.specs.Prelude.{◌↔◌, IsTrue, map, option_map, codes}
use Rattle.std.specs.Str.Parse.{ParsesUnsigned}
use Rattle.std.proofs.lemmas.Bool.{false≢true}
use Rattle.std.proofs.lemmas.List.{at_drop_all, at_drop_more}
use Rattle.std.proofs.lemmas.Option.{none-some}
use Rattle.std.specs.Bool.{Decides}
use Rattle.std.specs.Option.{is_some}
use Rattle.clap.specs.Words.{App, ReadsOne, Row, Rule, Text, all_of, first_of, one_of, with_rule, with_subcommand}
use Rattle.command_line.specs.declared.arguments.Argument.{Argument}
use Rattle.command_line.specs.declared.arguments.Invocation.{Invocation}
use Rattle.command_line.specs.declared.arguments.TextCommand.{TextCommand}
use Rattle.command_line.specs.CommandLine.{Does, IsAsked, IsNumberThere, IsSet, app_for, rule_for, with_commands, with_rules}

-- what reads a text as an unsigned number of 64 bits reads the number that it is
pub number_read : {E : Type 0} (gives : List ℕ → Result ℕ E → Type 0) (text same : Option (List ℕ)) → text ≡ same → (result : Option ℕ) → (text ≡ None → result ≡ None)
    → ((t : List ℕ) → text ≡ Some t → ReadsOne gives t result) → ((t : List ℕ) (r : Result ℕ E) → gives t r → ParsesUnsigned 64 10 t r) → IsNumberThere same result
number_read gives None same e None none value parses = subst (λ x. IsNumberThere x None) e (λ n no. no)
number_read gives None same e (Some n) none value parses = absurd (none-some n (sym (none refl)))
number_read gives (Some t) same e (Some n) none value parses =
    let read = parses t (Ok n) (value t refl) in
    subst (λ x. IsNumberThere x (Some n)) e (read.0.0, sym read.1, subst (λ m. m < 2 ^ 64) (sym read.1) read.0.1)
number_read gives (Some t) same e None none value parses =
    let failed = value t refl in
    subst (λ x. IsNumberThere x None) e (λ n is. parses t (Err failed.0) failed.1 (is.0, subst (λ m. m < 2 ^ 64) (sym is.1) is.2))

some_same : {A : Type 0} (a b : A) → Some a ≡ Some b → a ≡ b
some_same {A = A} a b e = ap value e
  where
    value : Option A → A
    value None = a
    value (Some x) = x

-- an option that is there has both parts of what is made of it
pub both_parts : {X A B : Type 0} (f : X → A) (g : X → B) (o : Option X) (a : A) (b : B) → Some a ≡ option_map f o
    → Some b ≡ option_map (λ (p : A × B). p.1) (option_map {U = A × B} (λ x. (f x, g x)) o) → option_map {U = A × B} (λ x. (f x, g x)) o ≡ Some (a, b)
both_parts f g None a b first second = absurd (none-some a (sym first))
both_parts {A = A} {B = B} f g (Some x) a b first second =
    ap₂ (λ (p : A) (q : B). Some (p, q)) (sym (some_same a (f x) first)) (sym (some_same b (g x) second))

-- a command that does this with these files requests all of it
pub asked : (found : Option (Text × List Row)) (name : Text) (rows : List Row) (invocation : Invocation) → found ≡ Some (name, rows)
    → Does name rows invocation.subcommand → Some invocation.file.now ≡ first_of (codes "FILE") rows
    → Some (map (λ path. path.now) invocation.files.now) ≡ all_of (codes "FILE") rows
    → IsNumberThere (one_of (codes "from") rows) invocation.from → IsNumberThere (one_of (codes "last") rows) invocation.last
    → IsNumberThere (one_of (codes "event") rows) invocation.event → IsNumberThere (one_of (codes "at") rows) invocation.at
    → IsNumberThere (one_of (codes "seconds") rows) invocation.seconds
    → option_map (λ path. path.now) invocation.trace ≡ first_of (codes "trace") rows
    → option_map (λ path. path.now) invocation.values ≡ first_of (codes "values") rows
    → option_map (λ path. path.now) invocation.pauses ≡ first_of (codes "pauses") rows
    → option_map (λ path. path.now) invocation.against ≡ first_of (codes "against") rows → IsSet (codes "strict") rows invocation.strict
    → option_map (λ path. path.now) invocation.out ≡ first_of (codes "out") rows
    → IsSet (codes "ends") rows invocation.ends → IsSet (codes "unordered") rows invocation.unordered → IsSet (codes "ordered") rows invocation.ordered → IsSet (codes "leaks") rows invocation.leaks
    → IsSet (codes "whole") rows invocation.whole → IsSet (codes "orders") rows invocation.orders
    → IsSet (codes "update") rows invocation.update → IsSet (codes "json") rows invocation.json → IsSet (codes "explain") rows invocation.explains → invocation.asks_to_explain ≡ invocation.explains → IsAsked found (Some invocation)
asked found name rows invocation is does file files from last event clock seconds trace values pauses against strict out ends unordered ordered leaks whole orders update json explains typed =
    subst (λ x. IsAsked x (Some invocation)) (sym is) (does, sym file, sym files, from, last, event, clock, seconds, sym trace, sym values, sym pauses, sym against, strict, sym out, ends, unordered, ordered, leaks, whole, orders, update, json, explains, typed)

-- without a file it requests nothing
pub not_asked : (found : Option (Text × List Row)) (name : Text) (rows : List Row) → found ≡ Some (name, rows)
    → None ≡ first_of (codes "FILE") rows → IsAsked found None
not_asked found name rows is no_file = subst (λ x. IsAsked x None) (sym is) (λ invocation asks. none-some _ (no_file ∙ asks.1))

-- nor does it without a list of files
pub not_asked_files : (found : Option (Text × List Row)) (name : Text) (rows : List Row) → found ≡ Some (name, rows)
    → None ≡ all_of (codes "FILE") rows → IsAsked found None
not_asked_files found name rows is no_files = subst (λ x. IsAsked x None) (sym is) (λ invocation asks. none-some _ (no_files ∙ asks.2))

-- an option is there exactly if its value is
pub there : {A B : Type 0} (f : A → B) (o : Option A) (p : Option B) → option_map f o ≡ p → is_some o ≡ is_some p
there f None p e = ap is_some e
there f (Some a) p e = ap is_some e

-- an option that is there with a text, which is tested
pub flag_there : (set : Bool) (value wanted : List ℕ) (found : Option (List ℕ)) → Some value ≡ found → Decides set (value ≡ wanted) → IsTrue set ↔ (found ≡ Some wanted)
flag_there set value wanted found is tests = ((λ yes. sym is ∙ ap Some (tests.0 yes)), (λ same. tests.1 (some_same value wanted (is ∙ same))))

-- one that is not there
pub flag_missing : (wanted : List ℕ) (found : Option (List ℕ)) → None ≡ found → IsTrue false ↔ (found ≡ Some wanted)
flag_missing wanted found is = ((λ yes. absurd (false≢true yes)), (λ same. absurd (none-some wanted (is ∙ same))))

-- one more argument is taken, and those after it are left
pub one_taken : (before after all : App) (arguments : List Argument) (i : ℕ) (other : Argument) (rule : Rule) → i < length arguments
    → rule ≡ rule_for (slice_index_or arguments i other) → after ≡ with_rule before rule → with_rules before (drop i arguments) ≡ all
    → with_rules after (drop (i + 1) arguments) ≡ all
one_taken before after all arguments i other rule is_there same takes left =
    ap (λ a. with_rules a (drop (i + 1) arguments)) (takes ∙ ap (with_rule before) same) ∙ sym (at_drop_more (with_rules before) arguments i other is_there) ∙ left

-- all are taken
pub all_taken : (made all : App) (arguments : List Argument) (i : ℕ) → length arguments ≤ i → with_rules made (drop i arguments) ≡ all → made ≡ all
all_taken made all arguments i is_end left = sym (at_drop_all (with_rules made) arguments i is_end) ∙ left

-- one more subcommand is there, and those after it are left
pub one_there : (before after all : App) (list : List TextCommand) (i : ℕ) (other : TextCommand) → i < length list
    → after ≡ with_subcommand before (app_for (slice_index_or list i other)).top → with_commands before (drop i list) ≡ all → with_commands after (drop (i + 1) list) ≡ all
one_there before after all list i other is_there extends left =
    ap (λ a. with_commands a (drop (i + 1) list)) extends ∙ sym (at_drop_more (with_commands before) list i other is_there) ∙ left

-- all are there
pub all_there : (made all : App) (list : List TextCommand) (i : ℕ) → length list ≤ i → with_commands made (drop i list) ≡ all → made ≡ all
all_there made all list i is_end left = sym (at_drop_all (with_commands made) list i is_end) ∙ left
