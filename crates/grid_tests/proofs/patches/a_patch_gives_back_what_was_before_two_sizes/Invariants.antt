use Rattle.grid_tests.proofs.patches.a_patch_gives_back_what_was_before_two_sizes.Given as goal

abbrev pub ghosts-go_back : goal.ghosts-go_back
ghosts-go_back g a = record { name = a.blank.name; parts = a.blank.parts }
