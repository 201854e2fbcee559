use Rattle.channel_core.proofs.rows.leave_all.Given as goal

abbrev pub ghosts-leave_counted : goal.ghosts-leave_counted
ghosts-leave_counted a = record { name = a.blank.name; parts = a.blank.parts }
