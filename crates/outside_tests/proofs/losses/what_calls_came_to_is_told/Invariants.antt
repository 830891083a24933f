use Rattle.outside_tests.proofs.losses.what_calls_came_to_is_told.Given as goal

abbrev pub ghosts-check_came : goal.ghosts-check_came
ghosts-check_came g a = record { name = a.blank.name; parts = a.blank.parts }
