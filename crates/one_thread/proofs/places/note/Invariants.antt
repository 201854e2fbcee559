use Rattle.one_thread.proofs.places.note.Given as goal

abbrev pub ghosts-note_counted : goal.ghosts-note_counted
ghosts-note_counted a = record { name = a.blank.name; parts = a.blank.parts }
