use Rattle.worker_calls.proofs.keys.check.Given as goal

abbrev pub ghosts-is_told : goal.ghosts-is_told
ghosts-is_told a = record { name = a.blank.name; parts = a.blank.parts }
