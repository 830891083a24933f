use Rattle.run_tests.proofs.closes.an_early_close_ends_the_notes.Given as goal

abbrev pub ghosts-check_close : goal.ghosts-check_close
ghosts-check_close g a = record { name = a.blank.name; parts = a.blank.parts }
