-- What is read, step by step.
use Rattle.std.proofs.Common.{◌≡◌, Option, Some, None, Result, Ok, Err, refl}
use Rattle.parser_base.specs.declared.fault.ParseFault.{ParseFault}
use Rattle.parser_base.specs.Reading.{Refusal, FailsWith, Fails, named_by, ◌>>=◌}

fails_with : {A B : Type 0} (fault : ParseFault) (refusal : Option Refusal) (read : Result A Refusal) (all : Result B Refusal) → FailsWith fault refusal read → ((r : Refusal) → read ≡ Err r → all ≡ Err r) → FailsWith fault refusal all
fails_with fault None read all fails on = fails
fails_with fault (Some r) read all fails on = on r fails

-- if all of a reading fails as its step does
pub fails_on : {A B : Type 0} (fault : ParseFault) (read : Result A Refusal) (all : Result B Refusal) → Fails fault read → ((r : Refusal) → read ≡ Err r → all ≡ Err r) → Fails fault all
fails_on fault read all fails on = fails_with fault (named_by fault) read all fails on

-- if the first of two steps fails
pub step_fails : {A B : Type 0} (fault : ParseFault) (read : Result A Refusal) (next : A → Result B Refusal) → Fails fault read → Fails fault (read >>= next)
step_fails fault read next fails = fails_on fault read (read >>= next) fails (λ r e. rw e refl)

-- of three steps the first two are taken together
pub steps_joined : {A B C : Type 0} (read : Result A Refusal) (next : A → Result B Refusal) (last : B → Result C Refusal) → (read >>= λ x. next x >>= last) ≡ ((read >>= next) >>= last)
steps_joined (Ok x) next last = refl
steps_joined (Err refusal) next last = refl
