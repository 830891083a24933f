use Rattle.grid_tests.proofs.frames.frame_of_dots_takes_a_step_for_each_row.Given as goal

abbrev pub ghosts-count_dots : goal.ghosts-count_dots
ghosts-count_dots g a = record { name = a.blank.name; parts = a.blank.parts }
