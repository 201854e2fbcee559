use Rattle.awake_rows.proofs.orders.note.Given as goal

abbrev pub ghosts-change_late : goal.ghosts-change_late
ghosts-change_late a = record { name = a.blank.name; parts = a.blank.parts }
