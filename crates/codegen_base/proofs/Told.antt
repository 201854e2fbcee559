-- The code of a request or a call within an expression: its results lie on the stack after it.
use Rattle.std.proofs.Common.{◌≡◌, ℕ, ◌+◌, true, None, List, [], ◌∷◌, ◌++◌, length, map, drop, Option, Some, refl, sym, ap, ◌∙◌, subst, slice_get}
use Rattle.std.proofs.Math.Seq.{drop-nil}
use Rattle.bytecode.specs.declared.instr.Instr.{Instr}
use Rattle.bytecode.specs.declared.instr.Instr.TheVariants as instrs
use Rattle.bytecode.specs.Code.{Function as CodeFunction}
use Rattle.bytecode.specs.Effects.{gives}
use Rattle.bytecode.specs.Machine.{Frames, zero_of, fitted, is_told, pops, reply_words as machine_words, code_next, code_answer}
use Rattle.word.specs.declared.value.Word.{Word}
use Rattle.word.specs.Values.{Request, Reply}
use Rattle.word.specs.Values as replies
use Rattle.word.specs.Kinds.{Asks, Suits}
use Rattle.word.specs.Related.{Slips, here}
use Rattle.type_table.specs.Types.{ValueType}
use Rattle.type_table.specs.Scopes.{Globals}
use Rattle.type_table.specs.Zeros.{zero_words}
use Rattle.typing_rules.specs.Calls.{result_of}
use Rattle.meaning.specs.Values.{Value, word_like, words_like, parted, reply_words}
use Rattle.meaning.specs.Worked.{Asking, Calling, Given, Told, given_words, ready, needs}
use Rattle.meaning.specs.Expressions.{told, told_one, zero_result, called as called_value}
use Rattle.plan.specs.Plan.{Plan}
use Rattle.plan.proofs.Words.{Words}
use Rattle.plan.proofs.Places.{At}
use Rattle.plan.proofs.Steps.{spot, answer, takes_told, calls as calls_function}
use Rattle.codegen_base.proofs.Seen.{Like}
use Rattle.codegen_base.proofs.Likeness.{fitted_like, made_like, all_words_of}
use Rattle.codegen_base.proofs.Gave.{Follows, stays, following, bind as follows_then, asks as asks_at, calls as calls_at}
use Rattle.codegen_base.proofs.Evaluates.{at, Stands, Lies, Evals, lies}
use Rattle.codegen_base.proofs.Running.{Compiled, Coded, Running, Standing}

pub same_reply : (reply : Reply) → machine_words reply ≡ reply_words reply
same_reply replies.Nothing = refl
same_reply (replies.Value w) = refl
same_reply (replies.Received item ok) = refl
same_reply (replies.Clause k None) = refl
same_reply (replies.Clause k (Some got)) = refl
same_reply replies.Default = refl
same_reply replies.Closed = refl

like_rest : (ys zs ws : List Word) → words_like (ys ++ zs) ws ≡ words_like ys ws ++ words_like zs (drop (length ys) ws)
like_rest [] zs ws = refl
like_rest (y ∷ ys) zs [] = ap (λ (l : List Word). y ∷ l) (like_rest ys zs [] ∙ ap (λ (l : List Word). words_like ys [] ++ words_like zs l) (drop-nil (length ys)))
like_rest (y ∷ ys) zs (w ∷ ws) = ap (λ (l : List Word). word_like y w ∷ l) (like_rest ys zs ws)

pub parted_words : (zeros : List Value) (ws : Words) → words_like (all_words_of zeros) ws ≡ all_words_of (parted zeros ws)
parted_words [] ws = refl
parted_words (z ∷ zeros) ws = like_rest z (all_words_of zeros) ws ∙ ap (λ (l : Words). words_like z ws ++ l) (parted_words zeros (drop (length z) ws))

module _ {globals : Globals} {program : Compiled globals} {coded : Coded program} {running : Running coded} (standing : Standing running) where
  open program use {code}
  open coded use {number as g, function as f, there}
  open running use {context, context.{Begins, callers}}
  open standing use {locals as ls}

  abbrev spot_at : ℕ → Words → Frames
  spot_at place stack = at standing place stack

  abbrev S : Plan → ℕ → Option ℕ → Type 0
  S plan place out = Stands standing plan place out

  -- values made of some words, like their zeros, lie on the stack
  abbrev pub Lay : List Value → Plan → Option ℕ → Words → List Value → Frames → Type 0
  Lay zeros rest out stack vs d = (to : ℕ) × (ws : Words) × (vs ≡ parted zeros ws) × (d ≡ spot_at to (stack ++ all_words_of vs)) × S rest to out

  -- an instruction that asks, its operands on the stack
  pub told_goes : (zeros : List Value) (q : Request) (i : Instr) (xs : Words) (rest : Plan) (out : Option ℕ) (place : ℕ) (stack : Words) → At f.instrs place i → pops code f i ≡ length xs → is_told i ≡ true
      → code_next code (spot_at place (stack ++ xs)) ≡ Asks q → map zero_of (gives code f i []) ≡ all_words_of zeros → Begins (Asking q) (spot_at place (stack ++ xs)) → S rest (place + 1) out
      → Follows context (told zeros (Asking q)) (Lay zeros rest out stack) (spot_at place (stack ++ xs))
  told_goes zeros q i xs rest out place stack is many tells asks zero-is begins on =
      follows_then context (needs (Asking q)) (λ given. ready (parted zeros (given_words given))) After (Lay zeros rest out stack) (spot_at place (stack ++ xs))
      (asks_at context q After (spot_at place (stack ++ xs)) asks begins after)
      (λ given d slips. following context (ready (parted zeros (given_words given))) (Lay zeros rest out stack) d (spot_at (place + 1) (stack ++ all_words_of (parted zeros (given_words given)))) slips
      (stays context (parted zeros (given_words given)) (Lay zeros rest out stack) (spot_at (place + 1) (stack ++ all_words_of (parted zeros (given_words given)))) (place + 1, given_words given, refl, refl, on))) where
        After : Given → Frames → Type 0
        After given d = Slips (code_next code) d (spot_at (place + 1) (stack ++ all_words_of (parted zeros (given_words given))))

        after : (reply : Reply) → Suits q reply → After (Told reply) (code_answer code (spot_at place (stack ++ xs)) reply)
        after reply suits =
            let ws = reply_words reply in
            let told-are : fitted (gives code f i []) (machine_words reply) ≡ all_words_of (parted zeros ws) =
            fitted_like (gives code f i []) (machine_words reply) ∙ ap (λ (zs : Words). words_like zs (machine_words reply)) zero-is ∙ ap (words_like (all_words_of zeros)) (same_reply reply) ∙ parted_words zeros ws in
            subst (λ (d : Frames). Slips (code_next code) d (spot_at (place + 1) (stack ++ all_words_of (parted zeros ws)))) (sym (answer code g f there callers place ls stack xs i reply is many tells))
            (subst (λ (t : Words). Slips (code_next code) (record { function = g; place = place + 1; locals = ls; stack = stack; told = t } ∷ callers) (spot_at (place + 1) (stack ++ all_words_of (parted zeros ws)))) (sym told-are)
            (takes_told code g f there callers (place + 1) ls stack (all_words_of (parted zeros ws))))

  -- the words of a call's result lie on the stack
  pub called_goes : (n : ℕ) (vs : List Value) (args : Words) (callee : CodeFunction) (kind : ValueType) (rest : Plan) (out : Option ℕ) (place : ℕ) (stack : Words) → At f.instrs place (instrs.Call n) → pops code f (instrs.Call n) ≡ length args
      → slice_get code.functions n ≡ Some callee → ((v : Value) → Like globals.structs kind (words_like (zero_result globals (result_of globals n)) v)) → Begins (Calling n vs) (spot_at place (stack ++ args)) → S rest (place + 1) out
      → Evals standing (called_value globals n vs) kind rest out place (stack ++ args) stack
  called_goes n vs args callee kind rest out place stack is many has like begins on =
      follows_then context (needs (Calling n vs)) (λ given. ready (words_like zero (given_words given))) After Goal (spot_at place (stack ++ args))
      (calls_at context n vs args (spot code g f there callers (place + 1) ls stack) callee After (spot_at place (stack ++ args)) (calls_function code g f there callers place ls stack args n callee is many has) begins (λ v. refl))
      (λ given d same. subst (λ (x : Frames). Follows context (ready (words_like zero (given_words given))) Goal x) (sym same)
      (lies standing (words_like zero (given_words given)) kind rest out (place + 1) (stack ++ words_like zero (given_words given)) stack (place + 1) (like (given_words given)) here on)) where
        zero : Value
        zero = zero_result globals (result_of globals n)

        Goal : Value → Frames → Type 0
        Goal = Lies standing (zero_words globals.structs kind) rest out stack

        After : Given → Frames → Type 0
        After given d = d ≡ spot_at (place + 1) (stack ++ words_like zero (given_words given))

  -- the one value of the reply lies on the stack
  pub told_one_goes : (kind : ValueType) (q : Request) (i : Instr) (xs : Words) (rest : Plan) (out : Option ℕ) (place : ℕ) (stack : Words) → At f.instrs place i → pops code f i ≡ length xs → is_told i ≡ true
      → code_next code (spot_at place (stack ++ xs)) ≡ Asks q → map zero_of (gives code f i []) ≡ zero_words globals.structs kind → Begins (Asking q) (spot_at place (stack ++ xs)) → S rest (place + 1) out
      → Evals standing (told_one (zero_words globals.structs kind) (Asking q)) kind rest out place (stack ++ xs) stack
  told_one_goes kind q i xs rest out place stack is many tells asks zero-is begins on =
      follows_then context (needs (Asking q)) (λ given. ready (words_like zero (given_words given))) After Goal (spot_at place (stack ++ xs))
      (asks_at context q After (spot_at place (stack ++ xs)) asks begins after)
      (λ given d slips. following context (ready (words_like zero (given_words given))) Goal d (spot_at (place + 1) (stack ++ words_like zero (given_words given))) slips
      (lies standing (words_like zero (given_words given)) kind rest out (place + 1) (stack ++ words_like zero (given_words given)) stack (place + 1) (made_like globals.structs kind (given_words given)) here on)) where
        zero : Value
        zero = zero_words globals.structs kind

        Goal : Value → Frames → Type 0
        Goal = Lies standing zero rest out stack

        After : Given → Frames → Type 0
        After given d = Slips (code_next code) d (spot_at (place + 1) (stack ++ words_like zero (given_words given)))

        after : (reply : Reply) → Suits q reply → After (Told reply) (code_answer code (spot_at place (stack ++ xs)) reply)
        after reply suits =
            let ws = reply_words reply in
            let told-are : fitted (gives code f i []) (machine_words reply) ≡ words_like zero ws =
            fitted_like (gives code f i []) (machine_words reply) ∙ ap (λ (zs : Words). words_like zs (machine_words reply)) zero-is ∙ ap (words_like zero) (same_reply reply) in
            subst (λ (d : Frames). Slips (code_next code) d (spot_at (place + 1) (stack ++ words_like zero ws))) (sym (answer code g f there callers place ls stack xs i reply is many tells))
            (subst (λ (t : Words). Slips (code_next code) (record { function = g; place = place + 1; locals = ls; stack = stack; told = t } ∷ callers) (spot_at (place + 1) (stack ++ words_like zero ws))) (sym told-are)
            (takes_told code g f there callers (place + 1) ls stack (words_like zero ws)))
