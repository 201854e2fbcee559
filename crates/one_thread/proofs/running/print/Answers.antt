use Rattle.one_thread.proofs.running.print.Goals as goal

pub returns-in-Err-clause-err : goal.returns-in-Err-clause-err
returns-in-Err-clause-err g c = λ e. (c.in-Err.field-0.taken, rw c.in-Prints.is (rw c.as_slice.ensures.value at c.in-Err.ensures.err.1))
