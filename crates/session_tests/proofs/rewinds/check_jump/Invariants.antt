use Rattle.session_tests.proofs.rewinds.check_jump.Given as goal

abbrev pub ghosts-go_far_back : goal.ghosts-go_far_back
ghosts-go_far_back g a = record { name = a.blank.name; parts = a.blank.parts }
